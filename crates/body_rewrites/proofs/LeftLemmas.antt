-- Left sides of the table.
use Rattle.std.proofs.Common.{◌≡◌, ℕ, zero, suc, Bool, true, List, [], ◌∷◌, ◌++◌, Some, refl, sym, ap, subst, ◌∙◌}
use Rattle.std.specs.Prelude.{◌&&◌, reverse, slice_get}
use Rattle.std.specs.List.{All}
use Rattle.std.proofs.lemmas.Bool.{and_parts}
use Rattle.std.proofs.lemmas.List.{reverse-append}
use Rattle.std.proofs.lemmas.List.Elements.{All-nil, All-cons, All-head, All-tail}
use Rattle.wasm_execution.specs.declared.integer.IntegerType.{IntegerType}
use Rattle.rewrite_rules.specs.declared.pattern.Part.{Part}
use Rattle.rewrite_rules.specs.declared.table.Step.{Step}
use Rattle.rewrite_rules.specs.declared.table.Step.TheVariants.{Operand, Constant, Drawn, Binary, Compare, Eqz, Select, Whole, Exact, End}
use Rattle.rewrite_rules.specs.declared.table.Row.{Row}
use Rattle.rewrite_rules.specs.Numbers.{constant_at}
use Rattle.rewrite_rules.specs.Parts.{parts_code, PartsAreTheCode}
use Rattle.rewrite_rules.specs.Table.{parts, ROWS, parts_for, line_of, SidesAreParts}
use Rattle.body_rewrites.specs.Trees.{Stands}
use Rattle.body_rewrites.specs.Matching.{is_own, IsOwn, begin_of, MatchesAreTheCode, LeftsAreInstances}

-- ---- constants

abbrev own_step : Step → Bool
own_step (Constant e) = is_own e
own_step s = true

abbrev own_steps : List Step → Bool
own_steps [] = true
own_steps (s ∷ steps) = own_step s && own_steps steps

abbrev own_rows : List Row → Bool
own_rows [] = true
own_rows (r ∷ rs) = own_steps r.left && own_rows rs

all_own : own_rows ROWS ≡ true
unfolding parts
all_own = refl

own_row : (rs : List Row) → own_rows rs ≡ true → (i : ℕ) (row : Row) → slice_get rs i ≡ Some row → own_steps row.left ≡ true
own_row [] e i row at = absurd cc
own_row (r ∷ rs) e zero row at =
    let is : r ≡ row = cc in
    subst (λ (q : Row). own_steps q.left ≡ true) is (and_parts (own_steps r.left) (own_rows rs) e).0
own_row (r ∷ rs) e (suc i) row at = own_row rs (and_parts (own_steps r.left) (own_rows rs) e).1 i row at

module _ (t : IntegerType) where
  own_parts : (steps : List Step) → own_steps steps ≡ true → All (IsOwn t) (parts_for t steps)
  own_parts [] e = All-nil (IsOwn t)
  own_parts (End ∷ steps) e = All-nil (IsOwn t)
  own_parts (Operand n ∷ steps) e = All-cons (IsOwn t) _ (parts_for t steps) tt (own_parts steps e)
  own_parts (Constant n ∷ steps) e =
      let p = and_parts (is_own n) (own_steps steps) e in
      All-cons (IsOwn t) _ (parts_for t steps) (refl, p.0) (own_parts steps p.1)
  own_parts (Drawn ∷ steps) e = All-cons (IsOwn t) _ (parts_for t steps) tt (own_parts steps e)
  own_parts (Binary f ∷ steps) e = All-cons (IsOwn t) _ (parts_for t steps) tt (own_parts steps e)
  own_parts (Compare f ∷ steps) e = All-cons (IsOwn t) _ (parts_for t steps) tt (own_parts steps e)
  own_parts (Eqz ∷ steps) e = All-cons (IsOwn t) _ (parts_for t steps) tt (own_parts steps e)
  own_parts (Select ∷ steps) e = All-cons (IsOwn t) _ (parts_for t steps) tt (own_parts steps e)
  own_parts (Whole f ∷ steps) e = All-cons (IsOwn t) _ (parts_for t steps) tt (own_parts steps e)
  own_parts (Exact m i ∷ steps) e = All-cons (IsOwn t) _ (parts_for t steps) tt (own_parts steps e)

  all_split : (xs ys : List Part) → All (IsOwn t) (xs ++ ys) → All (IsOwn t) xs × All (IsOwn t) ys
  all_split [] ys a = (All-nil (IsOwn t), a)
  all_split (x ∷ xs) ys a =
      let (l, r) = all_split xs ys (All-tail (IsOwn t) x (xs ++ ys) a) in
      (All-cons (IsOwn t) x xs (All-head (IsOwn t) x (xs ++ ys) a) l, r)

  all_reversed : (xs : List Part) → All (IsOwn t) (reverse xs) → All (IsOwn t) xs
  all_reversed [] a = All-nil (IsOwn t)
  all_reversed (x ∷ xs) a =
      let (l, r) = all_split (reverse xs) (x ∷ []) (subst (All (IsOwn t)) (reverse-append (x ∷ []) xs) a) in
      All-cons (IsOwn t) x xs (All-head (IsOwn t) x [] r) (all_reversed xs l)

-- ---- code

pub own_left : (i : ℕ) (row : Row) → slice_get ROWS i ≡ Some row → (t : IntegerType) (parts : List Part) → reverse parts ≡ parts_for t row.left →
    All (IsOwn t) parts
own_left i row at t parts is = all_reversed t parts (subst (All (IsOwn t)) (sym is) (own_parts t row.left (own_row ROWS all_own i row at)))

pub lefts_are_instances : MatchesAreTheCode → PartsAreTheCode → SidesAreParts → LeftsAreInstances
lefts_are_instances matches parts_code_is sides = record {
  own = λ i row at k t width parts is. (t, own_left i row at t parts is);
  code = λ i row at k t width parts is context operators starts end x numbers match.
      let c = constant_at numbers in
      let left = (line_of row t).left in
      let same = is ∙ sym (sides i row at k t width).0 in
      subst (Stands operators (begin_of starts end) end) (ap (parts_code x c []) same ∙ sym (parts_code_is x c [] left))
      (matches context operators parts starts end x numbers match);
}
