-- A hole that has a type of its own, or none, doesn't decide.
use Rattle.std.proofs.Common.{◌≡◌, ℕ, suc, ◌+◌, true, List, ◌∷◌, drop, Option, Some, None, sym, ap, ◌∙◌, subst, arith}
use Rattle.std.proofs.Math.Seq.{drop-cons}
use Rattle.std.specs.Prelude.{is_some, not}
use Rattle.wasm_types.specs.declared.types.PrimitiveTypeInfo.{PrimitiveTypeInfo}
use Rattle.rewrite_rules.specs.Pattern.{Kind, hole_kind_of}
use Rattle.rewrite_rules.specs.Table.{kinds_for}
use Rattle.rewrite_rules.specs.Operands.{fixed_in, type_given, select_type}
use Rattle.rewrite_rules.proofs.operands.select_type.Goals.{in-Some+else-is_none, in_default}
use Rattle.rewrite_rules.proofs.operands.select_type.Goals as goal

has_own : (kinds : List Kind) (n : ℕ) (t : PrimitiveTypeInfo) (ts : List (Option PrimitiveTypeInfo)) (o : Option PrimitiveTypeInfo) →
    o ≡ fixed_in (hole_kind_of kinds n) → is_some o ≡ true → select_type kinds n (Some t ∷ ts) ≡ select_type kinds (suc n) ts
has_own kinds n t ts (Some k) e s = ap (λ p. type_given t p (select_type kinds (suc n) ts)) (sym e)
has_own kinds n t ts None e s = absurd cc

pub loop-i-preserved : goal.loop-i-preserved
loop-i-preserved c =
    let kinds = kinds_for c.args.widths c.args.width in
    let types = c.args.types.now in
    let i = c.loop-i.i in
    let here = c.loop-i.invariant ∙ ap (select_type kinds i) (drop-cons types i None c.loop-i-test.true) in
    let next : suc i ≡ i + 1 = omega arith in
    subst (λ k. select_type kinds 0 types ≡ select_type kinds k (drop k types)) next (elim c.match-types-i.branch [
      | in-Some+else-is_none w ↦
          here
          ∙ (ap (λ o. select_type kinds i (o ∷ drop (suc i) types)) w.in-Some.is
          ∙ has_own kinds i w.in-Some.t (drop (suc i) types) w.fixed_type.result w.fixed_type.ensures (w.is_none.ensures ∙ ap not w.if-is_none.false))
      | in_default w ↦ here ∙ ap (λ o. select_type kinds i (o ∷ drop (suc i) types)) w.in_default.is
    ])
