use Rattle.std.proofs.Common.{◌∙◌}
use Rattle.wasm_code.proofs.TableLemmas.{found, named}
use Rattle.wasm_code.proofs.table.row_of.Goals as goal

pub returns-clause-some : goal.returns-clause-some
returns-clause-some c = named c.args.op c.number_of.result c.number_of.ensures

pub returns-clause-only : goal.returns-clause-only
returns-clause-only c r h = c.number_of.ensures ∙ found r c.args.op h
