use Rattle.std.proofs.Common.{arith}
use Rattle.std.proofs.lemmas.List.Elements.{recursion_from_All}
use Rattle.wasm_module.proofs.RereadLemmas.{reread}
use Rattle.wasm_module.proofs.laws.rewritten_bytes_are_a_module.Goals as goal

pub returns : goal.returns
returns c bytes info layout n contents more new m r imports globals some =
    reread bytes info layout n contents more new (λ k lt. c.shortest_is_a_spelling.ensures.unsigned 32 k (omega arith) (omega arith) lt) m r imports globals
    (recursion_from_All _ more some)
