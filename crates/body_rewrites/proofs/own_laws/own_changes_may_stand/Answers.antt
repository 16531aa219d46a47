-- Rule by rule.
use Rattle.body_rewrites.proofs.OwnStandLemmas.{stand}
use Rattle.body_rewrites.proofs.OwnAloneLemmas.{one_change}
use Rattle.body_rewrites.proofs.own_laws.own_changes_may_stand.Goals as goal

pub returns : goal.returns
returns c = record {
  stand = λ context operators own at change is.
      stand c.besides_keep_code.ensures c.wraps_are_right.ensures c.wrapped_code_does_as_before.ensures.does c.unwrapped_code_does_as_before.ensures
      c.wrapped_code_pushes.ensures.there
      (record {
        branches = c.selects_are_conditionals.ensures;
        tests = c.tests_are_conditions.ensures;
        conditions = c.conditions_may_change.ensures;
        bounds = c.bounds_are_indices.ensures;
        indices = c.indices_may_change.ensures;
        dead = c.dead_code_may_change.ensures;
        nests = c.branches_may_nest.ensures.nest;
        unnests = c.branches_may_nest.ensures.unnest;
        dropped = c.dropped_code_pushes_nothing.ensures;
        constants = c.dropped_constants_push_nothing.ensures;
      })
      c.replaced_code_is_in_one_piece.ensures c.replaced_code_stays_valid.ensures c.pieces_do_as_before.ensures context operators at own change is;
  one = λ context operators own at change other is also. one_change context operators at own change other is also;
}
