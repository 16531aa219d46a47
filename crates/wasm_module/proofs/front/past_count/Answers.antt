use Rattle.wasm_module.proofs.CountLemmas.{counts, rest_is}
use Rattle.wasm_module.proofs.front.past_count.Goals as goal

pub unreachable-requires : goal.unreachable-requires
unreachable-requires c = counts _ _ _ c.requires.1 c.in-Err.ensures

pub returns : goal.returns
returns c count items n e s = rest_is _ count items _ _ n c.in-Ok.ensures e s
