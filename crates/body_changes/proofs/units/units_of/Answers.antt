-- Operator by operator.
use Rattle.wasm_execution.specs.Values.{context_in}
use Rattle.body_changes.proofs.PassLemmas.{none_before, one_unit_more}
use Rattle.body_changes.proofs.units.units_of.Goals as goal

pub loop-at-init : goal.loop-at-init
loop-at-init c =
    let context = context_in c.args.info.now c.args.locals.now in
    record {
      values = c.new-values.ensures context c.args.operators.now;
      found = none_before context c.args.operators.now c.new-units.result.items c.new-units.ensures.items;
    }

pub loop-at-preserved : goal.loop-at-preserved
loop-at-preserved c =
    let context = context_in c.args.info.now c.args.locals.now in
    record {
      values = c.in_ok-next.ensures.values;
      found =
          one_unit_more context c.args.operators.now c.loop-at.at c.loop-at.units.items c.push.new.self.items c.in_ok-next.field-0
          c.loop-at.invariant.found c.in_ok-next.ensures.found c.in_ok-push.ensures.items;
    }
