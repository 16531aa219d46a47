-- By the tree of the operator that ends it.
use Rattle.std.proofs.Common.{ℕ, ◌-◌, ap, sym, ◌∙◌, arith}
use Rattle.std.specs.Prelude.{slice_get}
use Rattle.std.specs.Option.{option_flatten}
use Rattle.body_rewrites.proofs.OperandLemmas.{none_there, some_there}
use Rattle.body_rewrites.proofs.matching.operand.Goals as goal

pub returns-then-behind-eq0 : goal.returns-then-behind-eq0
returns-then-behind-eq0 c = λ context operators parts starts end index same trees cut.
    none_there context operators index parts starts end (sym (ap (λ (q : ℕ × ℕ). q.1) same) ∙ c.if-behind-eq0.true) cut

pub returns : goal.returns
returns c = λ context operators parts starts end index same trees cut.
    let behind = ap (λ (q : ℕ × ℕ). q.1) same in
    some_there context operators c.args.trees.now index parts starts end c.tree_at.result (omega (arith, behind, c.if-behind-eq0.false))
    (c.tree_at.ensures ∙ ap (λ k. option_flatten (slice_get c.args.trees.now (k - 1))) behind) trees cut
