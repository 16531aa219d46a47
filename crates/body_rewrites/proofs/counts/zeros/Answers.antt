-- Copies of zero are zeros.
use Rattle.std.proofs.Common.{◌*◌, replicate, ap, ◌∙◌, arith}
use Rattle.body_rewrites.proofs.CountingLemmas.{ok_map}
use Rattle.body_rewrites.proofs.counts.zeros.Goals as goal

pub overflow_mul-rule_count : goal.overflow_mul-rule_count
overflow_mul-rule_count c = let few = c.rows_are_few.ensures.names in let is = c.rule_count.ensures in omega arith

pub returns : goal.returns
returns c =
    ok_map c.vec.result (λ v copies. copies (λ y e. e) ∙ ap (λ n. replicate (3 * n) 0) c.rule_count.ensures) c.vec.ensures.items_if_clones_equal
