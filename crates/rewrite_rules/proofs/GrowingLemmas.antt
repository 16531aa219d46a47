-- What a row does to the number of instructions, by its steps.
use Rattle.std.proofs.Common.{◌≡◌, ℕ, ◌+◌, ◌<◌, List, [], ◌∷◌, ◌++◌, Some, length, take, drop, suc, refl, sym, ap, ap₂, ◌∙◌, arith}
use Rattle.std.specs.Prelude.{if◌then◌else◌, option_map, get_or}
use Rattle.std.specs.List.{remove}
use Rattle.std.proofs.Math.Seq.{drop-cons}
use Rattle.std.proofs.lemmas.Bool.{and_parts, eq-eqb}
use Rattle.wasm_execution.specs.declared.integer.IntegerType.{IntegerType}
use Rattle.rewrite_rules.specs.declared.pattern.Part.{Part}
use Rattle.rewrite_rules.specs.declared.pattern.Part.TheVariants.{Hole, Constant, Drawn, Apply}
use Rattle.rewrite_rules.specs.declared.table.Row.{Row}
use Rattle.rewrite_rules.specs.declared.table.Step.{Step}
use Rattle.rewrite_rules.specs.declared.table.Step.TheVariants as step
use Rattle.rewrite_rules.specs.Pattern.{Pattern, Patterns, hole, constant, drawn, apply, none, ◌▹◌, holes}
use Rattle.rewrite_rules.specs.Parts.{parts_of, parts_in}
use Rattle.rewrite_rules.specs.Table.{parts_for, line_of}
use Rattle.rewrite_rules.specs.Holes.{holes_for, HolesAreTold}
use Rattle.rewrite_rules.specs.Applying.{IsFormed}
use Rattle.rewrite_rules.specs.Growth.{own_size, own_sizes, without, growth_by, line_growth_of, left_over}
use Rattle.rewrite_rules.specs.Growing.{own_steps}
use Rattle.rewrite_rules.proofs.SideLemmas.{side_parts}

abbrev size_of_part : Part → ℕ
size_of_part (Hole n) = 0
size_of_part (Constant t e) = 1
size_of_part (Drawn t) = 1
size_of_part (Apply o) = 1

abbrev size_of_parts : List Part → ℕ
size_of_parts [] = 0
size_of_parts (p ∷ ps) = size_of_parts ps + size_of_part p

of_both : (ps qs : List Part) → size_of_parts (ps ++ qs) ≡ size_of_parts ps + size_of_parts qs
of_both [] qs = omega arith
of_both (p ∷ ps) qs = let e = of_both ps qs in omega arith

mutual
  by_parts : (p : Pattern) → own_size p ≡ size_of_parts (parts_of p)
  by_parts (hole n) = refl
  by_parts (constant t e) = refl
  by_parts (drawn t) = refl
  by_parts (apply o ps) = let e = all_by_parts ps in let b = of_both (parts_in ps) (Apply o ∷ []) in omega arith

  all_by_parts : (ps : Patterns) → own_sizes ps ≡ size_of_parts (parts_in ps)
  all_by_parts none = refl
  all_by_parts (p ▹ ps) =
      let e = by_parts p in
      let f = all_by_parts ps in
      let b = of_both (parts_of p) (parts_in ps) in
      omega arith

of_steps : (t : IntegerType) (steps : List Step) → size_of_parts (parts_for t steps) ≡ own_steps steps
of_steps t [] = refl
of_steps t (step.End ∷ steps) = refl
of_steps t (step.Operand n ∷ steps) = let e = of_steps t steps in omega arith
of_steps t (step.Constant n ∷ steps) = ap (λ k. k + 1) (of_steps t steps)
of_steps t (step.Drawn ∷ steps) = ap (λ k. k + 1) (of_steps t steps)
of_steps t (step.Binary f ∷ steps) = ap (λ k. k + 1) (of_steps t steps)
of_steps t (step.Compare f ∷ steps) = ap (λ k. k + 1) (of_steps t steps)
of_steps t (step.Eqz ∷ steps) = ap (λ k. k + 1) (of_steps t steps)
of_steps t (step.Select ∷ steps) = ap (λ k. k + 1) (of_steps t steps)
of_steps t (step.Whole f ∷ steps) = ap (λ k. k + 1) (of_steps t steps)
of_steps t (step.Exact n i ∷ steps) = ap (λ k. k + 1) (of_steps t steps)

-- The growth of a row's line that is well formed is told by its steps.
pub by_steps : HolesAreTold → (row : Row) (t : IntegerType) → IsFormed row t →
    line_growth_of (line_of row t) ≡ growth_by (own_steps row.left) (own_steps row.right) (left_over (holes_for row.right) (holes_for row.left))
by_steps told row t formed =
    let l = line_of row t in
    let sides = (and_parts _ _ (and_parts _ _ formed).0) in
    let same = told row t formed in
    let left : own_size l.left ≡ own_steps row.left =
    by_parts l.left ∙ (ap size_of_parts (side_parts l.kinds t row.left sides.0) ∙ of_steps t row.left) in
    let right : own_size l.right ≡ own_steps row.right =
    by_parts l.right ∙ (ap size_of_parts (side_parts l.kinds t row.right sides.1) ∙ of_steps t row.right) in
    ap₂ (λ a b. growth_by a b (left_over (holes l.right) (holes l.left))) left right
    ∙ ap₂ (λ a b. growth_by (own_steps row.left) (own_steps row.right) (left_over a b)) same.1 same.0

-- The list without its first element, where that is the one.
front : (n m : ℕ) (ms : List ℕ) → m ≡ n → without n (m ∷ ms) ≡ Some ms
front n m ms is = ap (λ b. if b then Some ms else option_map (λ ks. m ∷ ks) (without n ms)) (eq-eqb n m (sym is))

-- Where the one is found behind others that are none, the list is without it.
pub found : (n : ℕ) (l : List ℕ) (i : ℕ) → i < length l → get_or l i 0 ≡ n →
    without n l ≡ option_map (λ ks. take i l ++ ks) (without n (drop i l)) → without n l ≡ Some (remove l i)
found n l i less is others =
    others
    ∙ (ap (λ m. option_map (λ ks. take i l ++ ks) (without n m)) (drop-cons l i 0 less)
    ∙ ap (option_map (λ ks. take i l ++ ks)) (front n (get_or l i 0) (drop (suc i) l) is))
