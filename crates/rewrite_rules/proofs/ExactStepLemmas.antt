-- A side's pattern has an exact row where one of its steps is one.
use Rattle.std.proofs.Common.{◌≡◌, Bool, true, false, List, [], ◌∷◌, ◌++◌, refl, sym, ap, ap₂, ◌∙◌}
use Rattle.std.specs.Prelude.{◌||◌}
use Rattle.std.proofs.lemmas.Bool.{and_parts}
use Rattle.wasm_execution.specs.declared.integer.IntegerType.{IntegerType}
use Rattle.rewrite_rules.specs.declared.pattern.Part.{Part}
use Rattle.rewrite_rules.specs.declared.pattern.Part.TheVariants.{Hole, Constant, Drawn, Apply}
use Rattle.rewrite_rules.specs.declared.table.Row.{Row}
use Rattle.rewrite_rules.specs.declared.table.Step.{Step}
use Rattle.rewrite_rules.specs.declared.table.Step.TheVariants as step
use Rattle.rewrite_rules.specs.Pattern.{Pattern, Patterns, hole, constant, drawn, apply, none, ◌▹◌, is_exact_operator, uses_exact, some_exact}
use Rattle.rewrite_rules.specs.Line.{is_exact_line}
use Rattle.rewrite_rules.specs.Parts.{parts_of, parts_in}
use Rattle.rewrite_rules.specs.Table.{parts_for, line_of, has_exact, needs_exact}
use Rattle.rewrite_rules.specs.Applying.{IsFormed}
use Rattle.rewrite_rules.proofs.SideLemmas.{side_parts}

abbrev in_part : Part → Bool
in_part (Hole n) = false
in_part (Constant t e) = false
in_part (Drawn t) = false
in_part (Apply o) = is_exact_operator o

abbrev in_parts : List Part → Bool
in_parts [] = false
in_parts (p ∷ ps) = in_part p || in_parts ps

in_both : (ps qs : List Part) → in_parts (ps ++ qs) ≡ (in_parts ps || in_parts qs)
in_both [] qs = refl
in_both (p ∷ ps) qs = ap (λ b. in_part p || b) (in_both ps qs) ∙ grouped (in_part p)
  where
    grouped : (a : Bool) → (a || (in_parts ps || in_parts qs)) ≡ ((a || in_parts ps) || in_parts qs)
    grouped true = refl
    grouped false = refl

turned : (a b : Bool) → (a || b) ≡ (b || (a || false))
turned true true = refl
turned true false = refl
turned false true = refl
turned false false = refl

mutual
  by_parts : (p : Pattern) → uses_exact p ≡ in_parts (parts_of p)
  by_parts (hole n) = refl
  by_parts (constant t e) = refl
  by_parts (drawn t) = refl
  by_parts (apply o ps) =
      ap (λ b. is_exact_operator o || b) (all_by_parts ps) ∙ (turned (is_exact_operator o) (in_parts (parts_in ps))
      ∙ sym (in_both (parts_in ps) (Apply o ∷ [])))

  all_by_parts : (ps : Patterns) → some_exact ps ≡ in_parts (parts_in ps)
  all_by_parts none = refl
  all_by_parts (p ▹ ps) = ap₂ (λ a b. a || b) (by_parts p) (all_by_parts ps) ∙ sym (in_both (parts_of p) (parts_in ps))

in_steps : (t : IntegerType) (steps : List Step) → in_parts (parts_for t steps) ≡ has_exact steps
in_steps t [] = refl
in_steps t (step.End ∷ steps) = refl
in_steps t (step.Operand n ∷ steps) = in_steps t steps
in_steps t (step.Constant n ∷ steps) = in_steps t steps
in_steps t (step.Drawn ∷ steps) = in_steps t steps
in_steps t (step.Binary f ∷ steps) = in_steps t steps
in_steps t (step.Compare f ∷ steps) = in_steps t steps
in_steps t (step.Eqz ∷ steps) = in_steps t steps
in_steps t (step.Select ∷ steps) = in_steps t steps
in_steps t (step.Whole f ∷ steps) = in_steps t steps
in_steps t (step.Exact n i ∷ steps) = refl

pub exact_is_told : (row : Row) (t : IntegerType) → IsFormed row t → is_exact_line (line_of row t) ≡ needs_exact row
exact_is_told row t formed =
    let l = line_of row t in
    let sides = (and_parts _ _ (and_parts _ _ formed).0) in
    ap₂ (λ a b. a || b)
    (by_parts l.left ∙ (ap in_parts (side_parts l.kinds t row.left sides.0) ∙ in_steps t row.left))
    (by_parts l.right ∙ (ap in_parts (side_parts l.kinds t row.right sides.1) ∙ in_steps t row.right))
