use Rattle.wasm_equivalence.proofs.control.PieceLemmas.{replaced_piece}
use Rattle.wasm_equivalence.proofs.laws.replaced_code_is_in_one_piece.Goals as goal

pub returns : goal.returns
returns c = replaced_piece
