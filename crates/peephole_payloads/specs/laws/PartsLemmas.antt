-- The parts of a text between its dots (this project).
use Rattle.std.proofs.Common.{◌≡◌, ◌≢◌, ℕ, suc, ◌-◌, ◌<◌, List, [], ◌∷◌, ◌++◌, length, get_or, take, Err, refl, ap, ◌∙◌, inl, inr, length-append, arith}
use Rattle.std.specs.List.{onto_first}
use Rattle.std.proofs.lemmas.Bool.{eq-eqb, ne_eqb, cases_eq}
use Rattle.std.proofs.Math.Seq.{get_or-append_seam, take-append_seam}
use Rattle.peephole_payloads.specs.PayloadText.{dot_parts, with_no_more, read_lane_parts, read_lane_behind}
use Rattle.peephole_payloads.specs.declared.term_error.TermError.TheVariants.{TooMuchInfo}

abbrev pub HasNoDot : List ℕ → Type 0
HasNoDot text = (i : ℕ) → i < length text → get_or text i 0 ≢ 46

tail_has_none : (c : ℕ) (cs : List ℕ) → HasNoDot (c ∷ cs) → HasNoDot cs
tail_has_none c cs none i low = none (suc i) (omega arith)

pub one_part : (text : List ℕ) → HasNoDot text → dot_parts text ≡ text ∷ []
one_part [] none = refl
one_part (c ∷ cs) none = rw (ne_eqb c 46 (none 0 (omega arith))) (ap (onto_first c) (one_part cs (tail_has_none c cs none)))

pub front_part : (front back : List ℕ) → HasNoDot front → dot_parts (front ++ (46 ∷ back)) ≡ front ∷ dot_parts back
front_part [] back none = refl
front_part (c ∷ cs) back none = rw (ne_eqb c 46 (none 0 (omega arith))) (ap (onto_first c) (front_part cs back (tail_has_none c cs none)))

some_part : (text : List ℕ) → 0 < length (dot_parts text)
some_part [] = omega arith
some_part (c ∷ cs) = elim (cases_eq c 46) [ inl dot ↦ rw (eq-eqb c 46 dot) (omega arith) | inr other ↦ rw (ne_eqb c 46 other) (onto (dot_parts cs)) ]
  where
    onto : (ps : List (List ℕ)) → 0 < length (onto_first c ps)
    onto [] = omega arith
    onto (p ∷ ps) = omega arith

onto_append : (c : ℕ) (ps qs : List (List ℕ)) → 0 < length ps → onto_first c (ps ++ qs) ≡ onto_first c ps ++ qs
onto_append c [] qs some = absurd (omega arith)
onto_append c (p ∷ ps) qs some = refl

pub last_part : (front back : List ℕ) → HasNoDot back → dot_parts (front ++ (46 ∷ back)) ≡ dot_parts front ++ (back ∷ [])
last_part [] back none = ap (λ ps. [] ∷ ps) (one_part back none)
last_part (c ∷ cs) back none =
    elim (cases_eq c 46) [
      | inl dot ↦ rw (eq-eqb c 46 dot) (ap (λ ps. [] ∷ ps) (last_part cs back none))
      | inr other ↦ rw (ne_eqb c 46 other) (ap (onto_first c) (last_part cs back none) ∙ onto_append c (dot_parts cs) (back ∷ []) (some_part cs))
    ]

none_more : (ps : List (List ℕ)) → 0 < length ps → Err TooMuchInfo ≡ with_no_more {A = Unit {0}} tt ps
none_more [] some = absurd (omega arith)
none_more (p ∷ ps) some = refl

pub some_left : (text : List ℕ) → Err TooMuchInfo ≡ with_no_more {A = Unit {0}} tt (dot_parts text)
some_left text = none_more (dot_parts text) (some_part text)

-- ---- the last part

pub lanes_is : (ps : List (List ℕ)) (x : List ℕ) → read_lane_parts (ps ++ (x ∷ [])) ≡ read_lane_behind ps x
lanes_is ps x =
    let k : length (ps ++ (x ∷ [])) - 1 ≡ length ps = omega (arith, length-append ps (x ∷ [])) in
    λ i. read_lane_behind ((ap (λ n. take n (ps ++ (x ∷ []))) k ∙ take-append_seam ps (x ∷ [])) i)
    ((ap (λ n. get_or (ps ++ (x ∷ [])) n []) k ∙ get_or-append_seam ps x [] []) i)
