use Rattle.wasm_sections.specs.Names.{SpellsNaming}
use Rattle.wasm_sections.proofs.FirstLemmas.{IsBehind}
use Rattle.wasm_sections.proofs.names.name_among.Given as goal

abbrev pub invariant-loop : goal.invariant-loop
invariant-loop l = IsBehind SpellsNaming l.index l.counter l.bytes l.rest
