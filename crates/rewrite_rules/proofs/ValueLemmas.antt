-- The value of a pattern, by the values of its holes one after another.
use Rattle.std.proofs.Common.{◌≡◌, ℕ, true, List, [], ◌∷◌, ◌++◌, length, map, take, drop, refl, ap, ap₂, ◌∙◌}
use Rattle.std.specs.Prelude.{◌&&◌}
use Rattle.std.specs.List.{All}
use Rattle.std.proofs.lemmas.Bool.{and_parts}
use Rattle.std.proofs.lemmas.List.Elements.{All-nil, All-cons, All-head, All-take, All-drop}
use Rattle.rewrite_rules.specs.declared.pattern.Operator.{Operator}
use Rattle.wasm_types.specs.declared.types.PrimitiveTypeInfo.{PrimitiveTypeInfo}
use Rattle.wasm_types.specs.declared.types.PrimitiveTypeInfo.TheVariants as primitive
use Rattle.wasm_execution.specs.Values.{type_of, Value, IsValue, types, State, Outcome, Ends}
use Rattle.wasm_execution.specs.RowLemmas.{same_type_is}
use Rattle.rewrite_rules.specs.Pattern.{Kind, fixed, any, kind_at, is_operator_known, operands_of, result_of, Pattern, Patterns, hole}
use Rattle.rewrite_rules.specs.Pattern.{constant, drawn, apply, none, ◌▹◌, holes, holes_in, draws_by, hole_kind_of, kind_in, kinds_in}
use Rattle.rewrite_rules.specs.Pattern.{same_kind, same_kinds, fits, fit}
use Rattle.rewrite_rules.specs.Numbers.{first_word, value_on, number_of, low, or_zero, number_in, numbers_in, value_of}
use Rattle.rewrite_rules.proofs.OperatorLemmas.{types_at, finished, low_fits, value_fits}

-- ---- kinds

same_kind_is : (k l : Kind) → same_kind k l ≡ true → k ≡ l
same_kind_is (fixed t) (fixed u) e = ap fixed (same_type_is t u e)
same_kind_is (fixed t) any e = absurd cc
same_kind_is any (fixed u) e = absurd cc
same_kind_is any any e = refl

pub same_kinds_are : (ks ls : List Kind) → same_kinds ks ls ≡ true → ks ≡ ls
same_kinds_are [] [] e = refl
same_kinds_are [] (l ∷ ls) e = absurd cc
same_kinds_are (k ∷ ks) [] e = absurd cc
same_kinds_are (k ∷ ks) (l ∷ ls) e =
    let p = and_parts (same_kind k l) (same_kinds ks ls) e in
    ap₂ (λ x y. x ∷ y) (same_kind_is k l p.0) (same_kinds_are ks ls p.1)

pub kinds_same : (k l : Kind) → same_kind k l ≡ true → k ≡ l
kinds_same k l e = same_kind_is k l e

-- ---- lists cut in two

pub cut_map : {A : Type 0} (f : ℕ → A) (ns ms : List ℕ) →
    (take (length ns) (map f (ns ++ ms)) ≡ map f ns) × (drop (length ns) (map f (ns ++ ms)) ≡ map f ms)
cut_map f [] ms = (refl, refl)
cut_map f (n ∷ ns) ms = (ap (λ xs. f n ∷ xs) (cut_map f ns ms).0, (cut_map f ns ms).1)

pub cut_types : (τ : ℕ → PrimitiveTypeInfo) (ns ms : List ℕ) (vs : List Value) → types vs ≡ map τ (ns ++ ms) →
    (types (take (length ns) vs) ≡ map τ ns) × (types (drop (length ns) vs) ≡ map τ ms)
cut_types τ [] ms vs e = (refl, e)
cut_types τ (n ∷ ns) ms [] e = absurd cc
cut_types τ (n ∷ ns) ms (v ∷ vs) e =
    let k = cut_types τ ns ms vs (cc) in
    let h : v.type ≡ τ n = cc in
    (ap₂ (λ x y. x ∷ y) h k.0, k.1)

-- ---- an operator behind its operands

-- it is known, and has operands of its types, which are well formed
pub record HasOperands (kinds : List Kind) (o : Operator) (ps : Patterns) : Type 0 where
  pub known : is_operator_known o ≡ true
  pub kinds_are : same_kinds (kinds_in kinds ps) (operands_of o) ≡ true
  pub rest : fit kinds ps ≡ true

pub operator_parts : (kinds : List Kind) (o : Operator) (ps : Patterns) → fits kinds (apply o ps) ≡ true → HasOperands kinds o ps
operator_parts kinds o ps f =
    let k = and_parts (is_operator_known o) (same_kinds (kinds_in kinds ps) (operands_of o) && fit kinds ps) f in
    let j = and_parts (same_kinds (kinds_in kinds ps) (operands_of o)) (fit kinds ps) k.1 in
    record { known = k.0; kinds_are = j.0; rest = j.1 }

-- ---- values

abbrev first : List Value → Value
first [] = record { type = primitive.I32; number = 0 }
first (v ∷ vs) = v

module _ (u : PrimitiveTypeInfo) (kinds : List Kind) (c : ℕ → ℕ) where
  -- the type of a hole
  abbrev pub hole_type : ℕ → PrimitiveTypeInfo
  hole_type n = kind_at u (hole_kind_of kinds n)

  abbrev mutual
    pub val : (words : List ℕ) → Pattern → List Value → Value
    val words (hole n) vs = first vs
    val words (constant t e) vs = record { type = type_of t; number = low t (number_of t c e) }
    val words (drawn t) vs = record { type = type_of t; number = low t (first_word words) }
    val words (apply o ps) vs = record { type = kind_at u (result_of o); number = or_zero (value_on o (map (λ v. v.number) (vals words ps vs))) }

    pub vals : (words : List ℕ) → Patterns → List Value → List Value
    vals words none vs = []
    vals words (p ▹ ps) vs = val words p (take (length (holes p)) vs) ∷ vals (drop (draws_by p) words) ps (drop (length (holes p)) vs)

  -- how a run ends behind these
  abbrev pub ends : (words : List ℕ) → Pattern → List Value → State → Outcome
  ends words (apply o ps) vs s = finished (kind_at u (result_of o)) (value_on o (map (λ v. v.number) (vals words ps vs))) s
  ends words p vs s = Ends (val words p vs ∷ []) s

  -- ---- types

  pub val_typed : (words : List ℕ) (p : Pattern) (vs : List Value) → types vs ≡ map hole_type (holes p) →
      (val words p vs).type ≡ kind_at u (kind_in kinds p)
  val_typed words (hole n) [] e = absurd cc
  val_typed words (hole n) (v ∷ vs) e = cc
  val_typed words (constant t e) vs h = refl
  val_typed words (drawn t) vs h = refl
  val_typed words (apply o ps) vs h = refl

  pub vals_typed : (words : List ℕ) (ps : Patterns) (vs : List Value) → types vs ≡ map hole_type (holes_in ps) →
      types (vals words ps vs) ≡ types_at u (kinds_in kinds ps)
  vals_typed words none vs e = refl
  vals_typed words (p ▹ ps) vs e =
      let k = cut_types hole_type (holes p) (holes_in ps) vs e in
      ap₂ (λ x y. x ∷ y) (val_typed words p (take (length (holes p)) vs) k.0)
      (vals_typed (drop (draws_by p) words) ps (drop (length (holes p)) vs) k.1)

  -- ---- numbers of their types

  mutual
    pub val_value : (words : List ℕ) (p : Pattern) → fits kinds p ≡ true → (vs : List Value) → types vs ≡ map hole_type (holes p) → All IsValue vs →
        IsValue (val words p vs)
    val_value words (hole n) f [] e h = absurd cc
    val_value words (hole n) f (v ∷ vs) e h = All-head IsValue v vs h
    val_value words (constant t e) f vs k h = low_fits t (number_of t c e)
    val_value words (drawn t) f vs k h = low_fits t (first_word words)
    val_value words (apply o ps) f vs e h =
        let k = operator_parts kinds o ps f in
        value_fits u o k.known (vals words ps vs) (vals_typed words ps vs e ∙ ap (types_at u) (same_kinds_are (kinds_in kinds ps) (operands_of o) k.kinds_are))
        (vals_values words ps k.rest vs e h)

    pub vals_values : (words : List ℕ) (ps : Patterns) → fit kinds ps ≡ true → (vs : List Value) → types vs ≡ map hole_type (holes_in ps) → All IsValue vs →
        All IsValue (vals words ps vs)
    vals_values words none f vs e h = All-nil IsValue
    vals_values words (p ▹ ps) f vs e h =
        let k = cut_types hole_type (holes p) (holes_in ps) vs e in
        let j = and_parts (fits kinds p) (fit kinds ps) f in
        All-cons IsValue (val words p (take (length (holes p)) vs)) (vals (drop (draws_by p) words) ps (drop (length (holes p)) vs))
        (val_value words p j.0 (take (length (holes p)) vs) k.0 (All-take IsValue (length (holes p)) vs h))
        (vals_values (drop (draws_by p) words) ps j.1 (drop (length (holes p)) vs) k.1 (All-drop IsValue (length (holes p)) vs h))

  -- ---- by numbers of the holes

  module _ (h : ℕ → ℕ) where
    abbrev pub valued : ℕ → Value
    valued n = record { type = hole_type n; number = h n }

    mutual
      val_is : (words : List ℕ) (p : Pattern) → (val words p (map valued (holes p))).number ≡ number_in h c words p
      val_is words (hole n) = refl
      val_is words (constant t e) = refl
      val_is words (drawn t) = refl
      val_is words (apply o ps) = ap (λ ns. or_zero (value_on o ns)) (vals_are words ps)

      vals_are : (words : List ℕ) (ps : Patterns) → map (λ v. v.number) (vals words ps (map valued (holes_in ps))) ≡ numbers_in h c words ps
      vals_are words none = refl
      vals_are words (p ▹ ps) =
          let k = cut_map valued (holes p) (holes_in ps) in
          ap₂ (λ x y. x ∷ y) (ap (λ vs. (val words p vs).number) k.0 ∙ val_is words p)
          (ap (λ vs. map (λ v. v.number) (vals (drop (draws_by p) words) ps vs)) k.1 ∙ vals_are (drop (draws_by p) words) ps)

    pub ends_at : (words : List ℕ) (p : Pattern) (s : State) →
        ends words p (map valued (holes p)) s ≡ finished (kind_at u (kind_in kinds p)) (value_of h c words p) s
    ends_at words (hole n) s = refl
    ends_at words (constant t e) s = refl
    ends_at words (drawn t) s = refl
    ends_at words (apply o ps) s = ap (λ ns. finished (kind_at u (result_of o)) (value_on o ns) s) (vals_are words ps)
