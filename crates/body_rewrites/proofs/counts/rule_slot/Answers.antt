-- There are few names.
use Rattle.std.proofs.Common.{arith}
use Rattle.body_rewrites.proofs.counts.rule_slot.Goals as goal

pub overflow_mul-result : goal.overflow_mul-result
overflow_mul-result c =
    let below = c.rules_are_named.ensures.below c.args.rule in
    let few = c.rows_are_few.ensures.names in
    let is = c.number.ensures in
    omega arith

pub overflow_add-result : goal.overflow_add-result
overflow_add-result c =
    let below = c.rules_are_named.ensures.below c.args.rule in
    let few = c.rows_are_few.ensures.names in
    let is = c.number.ensures in
    let small = c.growth_number.ensures.small in
    omega arith
