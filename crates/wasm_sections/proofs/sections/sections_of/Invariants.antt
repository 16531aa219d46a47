use Rattle.std.proofs.Common.{◌≤◌, length}
use Rattle.wasm_sections.proofs.ModuleLemmas.{IsReadSoFar}
use Rattle.wasm_sections.proofs.sections.sections_of.Given as goal

abbrev pub invariant-loop-rest : goal.invariant-loop-rest
invariant-loop-rest l = record {
  so_far : IsReadSoFar l.bytes l.rest l.found.items l.last;
  within : length l.rest ≤ length l.bytes;
}

abbrev pub decreases-loop-rest : goal.decreases-loop-rest
decreases-loop-rest l = length l.rest
