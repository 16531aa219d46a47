use Rattle.std.proofs.Common.{refl}
use Rattle.wasm_code.proofs.TableLemmas.{row_445}
use Rattle.wasm_code.proofs.parse.select.Goals as goal

pub of_row-requires : goal.of_row-requires
of_row-requires c = record { kind = rw row_445 refl; in_range = tt }
