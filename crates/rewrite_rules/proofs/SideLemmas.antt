-- The pattern of a side has the parts of its steps.
use Rattle.std.proofs.Common.{◌≡◌, true, Bool, List, [], ◌∷◌, ◌++◌, Some, refl, sym, ap, ◌∙◌, subst, append_assoc}
use Rattle.std.specs.Prelude.{◌&&◌, option_map}
use Rattle.std.proofs.lemmas.Bool.{and_parts}
use Rattle.std.proofs.lemmas.List.{append-nil}
use Rattle.std.proofs.lemmas.Option.{same_Some, slice_get-map}
use Rattle.wasm_execution.specs.declared.integer.IntegerType.{IntegerType}
use Rattle.rewrite_rules.specs.declared.pattern.Operator.{Operator}
use Rattle.rewrite_rules.specs.declared.pattern.Part.{Part}
use Rattle.rewrite_rules.specs.declared.pattern.Part.TheVariants.{Apply}
use Rattle.rewrite_rules.specs.declared.table.Step.{Step}
use Rattle.rewrite_rules.specs.declared.table.Step.TheVariants.{Operand, Constant, Drawn, Binary, Compare, Eqz, Select, Whole, Exact, End}
use Rattle.rewrite_rules.specs.Pattern.{Kind, operands_of, Pattern, Patterns, none, ◌▹◌, fits, fit}
use Rattle.rewrite_rules.specs.Parts.{parts_of, parts_in}
use Rattle.rewrite_rules.specs.Line.{is_formed}
use Rattle.rewrite_rules.specs.Laws.{TableIsRight}
use Rattle.rewrite_rules.specs.Table.{applied, behind, after_step, after_steps, single, pattern_of, part_for, parts_for, widths_in, line_of, SidesAreParts}
use Rattle.rewrite_rules.proofs.ValueLemmas.{operator_parts}

-- the parts of patterns, the last one of which stands first
abbrev parts_on : List Pattern → List Part
parts_on [] = []
parts_on (p ∷ ps) = parts_on ps ++ parts_of p

module _ (kinds : List Kind) where
  -- all of them are well formed
  abbrev all_fit : List Pattern → Bool
  all_fit [] = true
  all_fit (p ∷ ps) = fits kinds p && all_fit ps

  -- so are those before the step, which adds its part
  record Adds (before behind : List Pattern) (p : Part) : Type 0 where
    fit_before : all_fit before ≡ true
    parts : parts_on behind ≡ parts_on before ++ p ∷ []

  -- operands that are taken are well formed, too
  record Applied (o : Operator) (qs : Patterns) (before behind : List Pattern) : Type 0 where
    fit_before : all_fit before ≡ true
    fit_taken : fit kinds qs ≡ true
    parts : parts_on behind ≡ parts_on before ++ (parts_in qs ++ Apply o ∷ [])

  applies : (o : Operator) (ks : List Kind) (qs : Patterns) (ps : List Pattern) → all_fit (applied o ks qs ps) ≡ true →
      Applied o qs ps (applied o ks qs ps)
  applies o [] qs ps e =
      let (root, below) = and_parts _ (all_fit ps) e in
      record { fit_before = below; fit_taken = (operator_parts kinds o qs root).rest; parts = refl }
  applies o (k ∷ ks) qs [] e = absurd cc
  applies o (k ∷ ks) qs (p ∷ ps) e =
      let a = applies o ks (p ▹ qs) ps e in
      let (first, rest) = and_parts (fits kinds p) (fit kinds qs) a.fit_taken in
      record {
        fit_before = both first a.fit_before;
        fit_taken = rest;
        parts = a.parts ∙ regroup;
      }
    where
      both : {a b : Bool} → a ≡ true → b ≡ true → (a && b) ≡ true
      both e f = cc

      regroup : parts_on ps ++ ((parts_of p ++ parts_in qs) ++ Apply o ∷ []) ≡ (parts_on ps ++ parts_of p) ++ (parts_in qs ++ Apply o ∷ [])
      regroup = ap (λ l. parts_on ps ++ l) (append_assoc (parts_of p) (parts_in qs) _) ∙ sym (append_assoc (parts_on ps) (parts_of p) _)

  adds_operator : (o : Operator) (ps : List Pattern) → all_fit (behind o ps) ≡ true → Adds ps (behind o ps) (Apply o)
  adds_operator o ps e = let a = applies o (operands_of o) none ps e in record { fit_before = a.fit_before; parts = a.parts }

  -- a step that ends no side
  adds : (t : IntegerType) (s : Step) (p : Part) (ps : List Pattern) → part_for t s ≡ Some p → all_fit (after_step t s ps) ≡ true →
      Adds ps (after_step t s ps) p
  adds t (Operand n) p ps is e = subst (λ q. Adds ps (after_step t (Operand n) ps) q) (same_Some _ _ is) (record { fit_before = e; parts = refl })
  adds t (Constant n) p ps is e = subst (λ q. Adds ps (after_step t (Constant n) ps) q) (same_Some _ _ is) (record { fit_before = e; parts = refl })
  adds t Drawn p ps is e = subst (λ q. Adds ps (after_step t Drawn ps) q) (same_Some _ _ is) (record { fit_before = e; parts = refl })
  adds t (Binary f) p ps is e = subst (λ q. Adds ps (after_step t (Binary f) ps) q) (same_Some _ _ is) (adds_operator _ ps e)
  adds t (Compare f) p ps is e = subst (λ q. Adds ps (after_step t (Compare f) ps) q) (same_Some _ _ is) (adds_operator _ ps e)
  adds t Eqz p ps is e = subst (λ q. Adds ps (after_step t Eqz ps) q) (same_Some _ _ is) (adds_operator _ ps e)
  adds t Select p ps is e = subst (λ q. Adds ps (after_step t Select ps) q) (same_Some _ _ is) (adds_operator _ ps e)
  adds t (Whole f) p ps is e = subst (λ q. Adds ps (after_step t (Whole f) ps) q) (same_Some _ _ is) (adds_operator _ ps e)
  adds t (Exact n i) p ps is e = subst (λ q. Adds ps (after_step t (Exact n i) ps) q) (same_Some _ _ is) (adds_operator _ ps e)
  adds t End p ps is e = absurd cc

  -- A step more before others.
  one_more : (t : IntegerType) (s : Step) (steps : List Step) (p : Part) (ps : List Pattern) → part_for t s ≡ Some p →
      parts_for t (s ∷ steps) ≡ p ∷ parts_for t steps → all_fit (after_steps t steps (after_step t s ps)) ≡ true →
      ((qs : List Pattern) → all_fit (after_steps t steps qs) ≡ true →
      (all_fit qs ≡ true) × (parts_on (after_steps t steps qs) ≡ parts_on qs ++ parts_for t steps)) →
      (all_fit ps ≡ true) × (parts_on (after_steps t steps (after_step t s ps)) ≡ parts_on ps ++ parts_for t (s ∷ steps))
  one_more t s steps p ps is more e others =
      let (fit_behind, rest) = others (after_step t s ps) e in
      let a = adds t s p ps is fit_behind in
      let parts = rest
      ∙ (ap (λ l. l ++ parts_for t steps) a.parts
      ∙ (append_assoc (parts_on ps) (p ∷ []) (parts_for t steps) ∙ ap (λ l. parts_on ps ++ l) (sym more))) in
      (a.fit_before, parts)

  -- Behind all steps.
  all_add : (t : IntegerType) (steps : List Step) (ps : List Pattern) → all_fit (after_steps t steps ps) ≡ true →
      (all_fit ps ≡ true) × (parts_on (after_steps t steps ps) ≡ parts_on ps ++ parts_for t steps)
  all_add t [] ps e = (e, sym (append-nil (parts_on ps)))
  all_add t (End ∷ steps) ps e = (e, sym (append-nil (parts_on ps)))
  all_add t (Operand n ∷ steps) ps e = one_more t (Operand n) steps _ ps refl refl e (all_add t steps)
  all_add t (Constant n ∷ steps) ps e = one_more t (Constant n) steps _ ps refl refl e (all_add t steps)
  all_add t (Drawn ∷ steps) ps e = one_more t Drawn steps _ ps refl refl e (all_add t steps)
  all_add t (Binary f ∷ steps) ps e = one_more t (Binary f) steps _ ps refl refl e (all_add t steps)
  all_add t (Compare f ∷ steps) ps e = one_more t (Compare f) steps _ ps refl refl e (all_add t steps)
  all_add t (Eqz ∷ steps) ps e = one_more t Eqz steps _ ps refl refl e (all_add t steps)
  all_add t (Select ∷ steps) ps e = one_more t Select steps _ ps refl refl e (all_add t steps)
  all_add t (Whole f ∷ steps) ps e = one_more t (Whole f) steps _ ps refl refl e (all_add t steps)
  all_add t (Exact n i ∷ steps) ps e = one_more t (Exact n i) steps _ ps refl refl e (all_add t steps)

-- of a pattern that is well formed, all its side's
pub side_parts : (kinds : List Kind) (t : IntegerType) (steps : List Step) → fits kinds (pattern_of t steps) ≡ true →
    parts_of (pattern_of t steps) ≡ parts_for t steps
side_parts kinds t steps e = of_single (after_steps t steps []) e (λ f. (all_add kinds t steps [] f).1)
  where
    of_single : (ps : List Pattern) → fits kinds (single ps) ≡ true → (all_fit kinds ps ≡ true → parts_on ps ≡ parts_for t steps) →
        parts_of (single ps) ≡ parts_for t steps
    of_single [] e h = absurd cc
    of_single (p ∷ []) e h = h cc
    of_single (p ∷ q ∷ ps) e h = absurd cc

pub sides_are_parts : TableIsRight → SidesAreParts
sides_are_parts table i row at k t width =
    let formed : is_formed (line_of row t) ≡ true = table.formed i row at k (line_of row t)
    (slice_get-map (line_of row) (widths_in row.widths) k ∙ ap (option_map (line_of row)) width) in
    let sides = (and_parts _ _ (and_parts _ _ formed).0) in
    (side_parts (line_of row t).kinds t row.left sides.0, side_parts (line_of row t).kinds t row.right sides.1)
