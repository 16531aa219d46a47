use Rattle.std.proofs.Common.{◌<◌, length, arith}
use Rattle.std.proofs.lemmas.Option.{slice_get_within}
use Rattle.rewrite_rules.specs.Names.{names}
use Rattle.rewrite_rules.proofs.NameLemmas.{few_names}
use Rattle.rewrite_rules.proofs.rule.Rule.from_name.Goals as goal

pub overflow_cast-result : goal.overflow_cast-result
overflow_cast-result c =
    let within : c.in_ok-number.number < length names = slice_get_within names c.in_ok-number.number _ c.in_ok-number.ensures.some in
    let few = few_names in
    omega arith

pub invariant_of-result : goal.invariant_of-result
invariant_of-result c = record { is_there = slice_get_within names c.in_ok-number.number _ c.in_ok-number.ensures.some }
