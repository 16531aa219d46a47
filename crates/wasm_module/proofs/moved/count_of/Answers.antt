use Rattle.wasm_module.proofs.CountLemmas.{counts, number_is}
use Rattle.wasm_module.proofs.moved.count_of.Goals as goal

pub unreachable-requires : goal.unreachable-requires
unreachable-requires c = counts _ _ _ c.requires.1 c.in-Err.ensures

pub returns : goal.returns
returns c n h = number_is _ _ c.in-Ok.count n c.in-Ok.ensures h
