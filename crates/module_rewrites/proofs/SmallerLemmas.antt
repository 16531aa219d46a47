-- Rewrites that make a module smaller.
use Rattle.std.proofs.Common.{◌≡◌, ◌⊎◌, ℕ, ◌<◌, Bool, true, false, inl, inr, List, [], ◌∷◌, length, subst, sym, arith}
use Rattle.std.specs.Prelude.{Contains, if◌then◌else◌}
use Rattle.std.specs.Cmp.{IsTotalOrder}
use Rattle.std.proofs.lemmas.Bool.{true≢false}
use Rattle.std.proofs.lemmas.Cmp.{nat_cmp_total, nat_list_cmp_total, on_total, then_total}
use Rattle.rand_core.specs.Stream.{Stream}
use Rattle.wasm_code.specs.declared.operator.Operator.{Operator}
use Rattle.wasm_execution.specs.Values.{Context, context_in}
use Rattle.rewrite_rules.specs.declared.rule.Rule.{Rule}
use Rattle.body_rewrites.specs.Choice.{Chooses, growths}
use Rattle.body_rewrites.specs.Listing.{HasGrowth, IsWantedBy}
use Rattle.body_rewrites.specs.ThoseLemmas.{contained_cases}
use Rattle.body_rewrites.specs.declared.growth.Growth.{Growth}
use Rattle.body_rewrites.specs.declared.growth.Growth.TheVariants.{Shrinks, Keeps}
use Rattle.body_rewrites.specs.declared.rewrite.Rewrite.{Rewrite}
use Rattle.module_rewrites.specs.Mutated.{IsMutated}
use Rattle.module_rewrites.specs.Mutates.{RewritesEach}
use Rattle.module_rewrites.specs.Scope.{Scope, wanted_of}
use Rattle.module_rewrites.specs.Size.{IsSmaller, size_order}
use Rattle.module_rewrites.specs.Smaller.{MakesSmaller}
use Rattle.module_rewrites.specs.declared.times.MadeRewrite.{MadeRewrite}

size_total : IsTotalOrder size_order
size_total = then_total (on_total length nat_cmp_total) nat_list_cmp_total

-- what is wanted leaves fewer or as many
no_more : (b : Bool) → b ≡ true → (kind : Growth) → Contains (if b then (Shrinks ∷ Keeps ∷ []) else growths) kind → (Shrinks ≡ kind) ⊎ (Keeps ≡ kind)
no_more true on kind h = elim (contained_cases Shrinks (Keeps ∷ []) kind h) [
  | inl same ↦ inl same
  | inr more ↦ elim (contained_cases Keeps [] kind more) [
    | inl same ↦ inr same
    | inr none ↦ absurd (let l : none.0 < 0 = none.1 in omega arith)
  ]
]
no_more false on kind h = absurd (true≢false (sym on))

abbrev ChosenAreWanted : Type 0
ChosenAreWanted =
    (context : Context) (stream : Stream) (rules : List Rule) (wanted : List Growth) (operators : List (Operator × ℕ)) (r : Rewrite) →
    Chooses context stream rules wanted operators r → IsWantedBy context operators rules wanted r

pub one_smaller : ChosenAreWanted → (scope : Scope) (bytes new : List ℕ) (function : ℕ) (rewrite : Rewrite) → scope.shrinking ≡ true →
    IsMutated scope bytes function rewrite new → MakesSmaller bytes function rewrite new
one_smaller law scope bytes new function rewrite on m =
    let entry = m.mutates.2 in
    let context = context_in m.info entry.locals in
    let is = law context entry.stream scope.rules (wanted_of scope) entry.operators rewrite entry.rewritten.chooses in
    record {
      info = m.info;
      layout = m.layout;
      is = m.is;
      n = m.mutates.0;
      function_is = m.mutates.1;
      locals = entry.locals;
      expression = entry.expression;
      operators = entry.operators;
      function_read = entry.function;
      no_more = elim (no_more scope.shrinking on is.growth is.listed) [
        | inl same ↦ inl (subst (λ (kind : Growth). HasGrowth context entry.operators kind rewrite) (sym same) is.has)
        | inr same ↦ inr (subst (λ (kind : Growth). HasGrowth context entry.operators kind rewrite) (sym same) is.has)
      ];
      smaller = m.fits.smaller on;
    }

-- one rewrite after another
pub each_smaller : (scope : Scope) → scope.shrinking ≡ true → (bytes : List ℕ) (made : List MadeRewrite) (new : List ℕ) → 0 < length made →
    RewritesEach scope bytes made new → IsSmaller new bytes
each_smaller scope on bytes [] new some e = absurd (omega (arith, some))
each_smaller scope on bytes (m ∷ []) new some (next, one, last) = subst (λ (b : List ℕ). IsSmaller b bytes) (sym last) (one.fits.smaller on)
each_smaller scope on bytes (m ∷ n ∷ made) new some (next, one, more) =
    size_total.trans new next bytes (each_smaller scope on next (n ∷ made) new (omega arith) more) (one.fits.smaller on)
