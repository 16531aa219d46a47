-- The holes of a side's pattern are those of its steps.
use Rattle.std.proofs.Common.{◌≡◌, ℕ, List, [], ◌∷◌, ◌++◌, refl, sym, ap, ap₂, ◌∙◌, append_assoc}
use Rattle.std.proofs.lemmas.Bool.{and_parts}
use Rattle.std.proofs.lemmas.List.{append-nil}
use Rattle.wasm_execution.specs.declared.integer.IntegerType.{IntegerType}
use Rattle.rewrite_rules.specs.declared.pattern.Part.{Part}
use Rattle.rewrite_rules.specs.declared.pattern.Part.TheVariants.{Hole, Constant, Drawn, Apply}
use Rattle.rewrite_rules.specs.declared.table.Step.{Step}
use Rattle.rewrite_rules.specs.declared.table.Step.TheVariants as step
use Rattle.rewrite_rules.specs.Pattern.{Pattern, Patterns, hole, constant, drawn, apply, none, ◌▹◌, holes, holes_in}
use Rattle.rewrite_rules.specs.Parts.{parts_of, parts_in}
use Rattle.rewrite_rules.specs.Table.{parts_for, line_of}
use Rattle.rewrite_rules.specs.Holes.{holes_for, HolesAreTold}
use Rattle.rewrite_rules.proofs.SideLemmas.{side_parts}

abbrev of_part : Part → List ℕ
of_part (Hole n) = n ∷ []
of_part (Constant t e) = []
of_part (Drawn t) = []
of_part (Apply o) = []

abbrev of_parts : List Part → List ℕ
of_parts [] = []
of_parts (p ∷ ps) = of_part p ++ of_parts ps

of_both : (ps qs : List Part) → of_parts (ps ++ qs) ≡ of_parts ps ++ of_parts qs
of_both [] qs = refl
of_both (p ∷ ps) qs = ap (λ l. of_part p ++ l) (of_both ps qs) ∙ sym (append_assoc (of_part p) (of_parts ps) (of_parts qs))

mutual
  by_parts : (p : Pattern) → holes p ≡ of_parts (parts_of p)
  by_parts (hole n) = refl
  by_parts (constant t e) = refl
  by_parts (drawn t) = refl
  by_parts (apply o ps) = all_by_parts ps ∙ sym (of_both (parts_in ps) (Apply o ∷ []) ∙ append-nil (of_parts (parts_in ps)))

  all_by_parts : (ps : Patterns) → holes_in ps ≡ of_parts (parts_in ps)
  all_by_parts none = refl
  all_by_parts (p ▹ ps) = ap₂ (λ a b. a ++ b) (by_parts p) (all_by_parts ps) ∙ sym (of_both (parts_of p) (parts_in ps))

of_steps : (t : IntegerType) (steps : List Step) → of_parts (parts_for t steps) ≡ holes_for steps
of_steps t [] = refl
of_steps t (step.End ∷ steps) = refl
of_steps t (step.Operand n ∷ steps) = ap (λ l. n ∷ l) (of_steps t steps)
of_steps t (step.Constant n ∷ steps) = of_steps t steps
of_steps t (step.Drawn ∷ steps) = of_steps t steps
of_steps t (step.Binary f ∷ steps) = of_steps t steps
of_steps t (step.Compare f ∷ steps) = of_steps t steps
of_steps t (step.Eqz ∷ steps) = of_steps t steps
of_steps t (step.Select ∷ steps) = of_steps t steps
of_steps t (step.Whole f ∷ steps) = of_steps t steps
of_steps t (step.Exact n i ∷ steps) = of_steps t steps

pub holes_are_told : HolesAreTold
holes_are_told row t formed =
    let l = line_of row t in
    let sides = (and_parts _ _ (and_parts _ _ formed).0) in (
      by_parts l.left ∙ (ap of_parts (side_parts l.kinds t row.left sides.0) ∙ of_steps t row.left),
      by_parts l.right ∙ (ap of_parts (side_parts l.kinds t row.right sides.1) ∙ of_steps t row.right),
    )
