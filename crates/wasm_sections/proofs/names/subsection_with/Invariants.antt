use Rattle.std.proofs.Common.{ℕ, length}
use Rattle.wasm_sections.specs.Names.{SpellsSubsection}
use Rattle.wasm_sections.proofs.FirstLemmas.{IsBehind}
use Rattle.wasm_sections.proofs.names.subsection_with.Given as goal

abbrev pub invariant-loop-found : goal.invariant-loop-found
invariant-loop-found l = (number : ℕ) × IsBehind SpellsSubsection l.id number l.subsections l.rest

abbrev pub decreases-loop-found : goal.decreases-loop-found
decreases-loop-found l = length l.rest
