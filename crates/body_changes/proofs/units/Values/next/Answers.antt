-- The next operator: no instruction, or one without a unit, or one with a unit.
use Rattle.std.proofs.Common.{◌+◌}
use Rattle.wasm_execution.specs.Values.{context_in}
use Rattle.body_changes.proofs.KeptLemmas.{nothing_across, same_values}
use Rattle.body_changes.proofs.StandLemmas.{has_there, none_across}
use Rattle.body_changes.proofs.UnitLemmas.{has_unit, no_unit, values_behind}
use Rattle.body_changes.proofs.units.Values.next.Goals as goal

pub returns-in_default : goal.returns-in_default
returns-in_default c =
    let context = context_in c.args.info.now c.args.locals.now in
    let none = none_across context c.args.operators.now c.args.at _ c.requires.inside c.in_default.not-Instr in
    record {
      values = same_values context c.args.operators.now (c.args.at + 1) _ _ _ _ c.clear.ensures.starts c.clear.ensures.types
          (nothing_across context c.args.operators.now c.args.at none);
      found = none;
    }

pub returns-in_default-unit-clause-values : goal.returns-in_default-unit-clause-values
returns-in_default-unit-clause-values c =
    let context = context_in c.args.info.now c.args.locals.now in
    let has = has_there c.args.operators.now c.args.at _ c.in-Instr.instr c.requires.inside c.in-Instr.is in
    let next = rw c.in_default-unit.is at c.unit.ensures in
    same_values context c.args.operators.now (c.args.at + 1) _ _ _ _ c.clear-in_default-unit.ensures.starts c.clear-in_default-unit.ensures.types
    (nothing_across context c.args.operators.now c.args.at
    (no_unit context c.args.operators.now c.args.at c.args.self.now.starts.items c.args.self.now.types.items c.requires.values c.in-Instr.instr has next))

pub returns-in_default-unit-clause-found : goal.returns-in_default-unit-clause-found
returns-in_default-unit-clause-found c =
    let context = context_in c.args.info.now c.args.locals.now in
    let has = has_there c.args.operators.now c.args.at _ c.in-Instr.instr c.requires.inside c.in-Instr.is in
    let next = rw c.in_default-unit.is at c.unit.ensures in
    no_unit context c.args.operators.now c.args.at c.args.self.now.starts.items c.args.self.now.types.items c.requires.values c.in-Instr.instr has next

pub returns-clause-values : goal.returns-clause-values
returns-clause-values c =
    let context = context_in c.args.info.now c.args.locals.now in
    let has = has_there c.args.operators.now c.args.at _ c.in-Instr.instr c.requires.inside c.in-Instr.is in
    let told = rw c.in-Some.is at c.unit.ensures in
    same_values context c.args.operators.now (c.args.at + 1) _ _ _ _ c.in_ok-put.ensures.starts c.in_ok-put.ensures.types
    (values_behind context c.args.operators.now c.args.at c.args.self.now.starts.items c.args.self.now.types.items c.requires.values
    c.in-Instr.instr has c.in-Some.below c.in-Some.unit told)

pub returns-clause-found : goal.returns-clause-found
returns-clause-found c =
    let context = context_in c.args.info.now c.args.locals.now in
    let has = has_there c.args.operators.now c.args.at _ c.in-Instr.instr c.requires.inside c.in-Instr.is in
    let told = rw c.in-Some.is at c.unit.ensures in
    has_unit context c.args.operators.now c.args.at c.args.self.now.starts.items c.args.self.now.types.items c.requires.values
    c.in-Instr.instr has c.in-Some.below c.in-Some.unit told
