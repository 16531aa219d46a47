-- The units of the operators so far.
use Rattle.wasm_execution.specs.Values.{context_in}
use Rattle.body_changes.specs.Pass.{AreUnitsBefore, AreValues}
use Rattle.body_changes.proofs.units.units_of.Given as goal

abbrev pub invariant-loop-at : goal.invariant-loop-at
invariant-loop-at l = record {
  values : AreValues (context_in l.info l.locals) l.operators l.at l.values.starts.items l.values.types.items;
  found : AreUnitsBefore (context_in l.info l.locals) l.operators l.at l.units.items;
}
