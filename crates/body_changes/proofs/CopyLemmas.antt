-- Code that is copied: the unit that a word names, and where such code fits.
use Rattle.std.proofs.Common.{◌≡◌, ℕ, zero, suc, ◌+◌, ◌<◌, List, [], ◌∷◌, length, get_or, Option, Some, None, Result, Ok, Err, refl, sym}
use Rattle.std.proofs.Common.{ap, ◌∙◌, subst, inl, inr, arith}
use Rattle.std.specs.Prelude.{slice_get, slice_range, IfNone, IfOk, IfSome, IsTrue}
use Rattle.std.proofs.lemmas.Bool.{cases_lt}
use Rattle.std.proofs.lemmas.Option.{same_Some, slice_get-get_or}
use Rattle.wasm_code.specs.Instruction.{Instruction}
use Rattle.wasm_types.specs.declared.types.PrimitiveTypeInfo.{PrimitiveTypeInfo}
use Rattle.wasm_execution.specs.Row.{list_of}
use Rattle.wasm_execution.specs.Values.{Context}
use Rattle.body_changes.specs.declared.units.Unit.{Unit}
use Rattle.body_changes.specs.Copied.{operator_named, IsGiven, IsUnitNamed}
use Rattle.body_changes.specs.Drawing.{asks_types_alone}
use Rattle.body_changes.specs.Kinds.{IsNew, MakesCopy, Stand}
use Rattle.body_changes.specs.Replacing.{HasInstruction}
use Rattle.body_changes.specs.Typed.{told_types_after, LeavesTypes}
use Rattle.body_changes.specs.Units.{AreUnits, IsUnit, IsUnitAt}
use Rattle.body_changes.proofs.OneUnitLemmas.{one_start, same_list}
use Rattle.body_changes.proofs.OwnLemmas.{same_instructions}
use Rattle.body_changes.proofs.ReplacingLemmas.{closed_one}
use Rattle.body_changes.proofs.StandLemmas.{Operators}

-- ---- what is answered

on_some : {X E : Type 0} (r : Result (Option X) E) (P Q : X → Type 0) → ((x : X) → P x → Q x) → IfOk r (λ o. IfSome o P) → IfOk r (λ o. IfSome o Q)
on_some (Err e) P Q f h = tt
on_some (Ok None) P Q f h = tt
on_some (Ok (Some x)) P Q f h = f x h

on_none : {X E : Type 0} (r : Result (Option X) E) (P Q : Type 0) → (P → Q) → IfOk r (λ o. IfNone o P) → IfOk r (λ o. IfNone o Q)
on_none (Err e) P Q f h = tt
on_none (Ok None) P Q f h = f h
on_none (Ok (Some x)) P Q f h = tt

-- ---- the unit that a word names

none_in_nothing : (operators : Operators) (at : ℕ) (i : Instruction) → length operators ≡ 0 → HasInstruction operators at i → ⊥
none_in_nothing [] zero i e h = cc
none_in_nothing [] (suc at) i e h = cc
none_in_nothing (o ∷ os) at i e h = cc

-- where there are no operators, it is none
pub nothing_named : (context : Context) (operators : Operators) (word : ℕ) → length operators ≡ 0 → (code : List Instruction) →
    IsUnitNamed context operators word code → ⊥
nothing_named context operators word e code m = none_in_nothing operators (operator_named operators word) m.is.instruction e m.is.has

module _ (context : Context) (operators : Operators) (word : ℕ) where
  module _ (list lent : List (Option Unit)) (units : AreUnits context operators list) (lent_is : lent ≡ list) (o : Option Unit)
      (found : slice_get lent (operator_named operators word) ≡ Some o) where
    found_so : IsUnitAt context operators (operator_named operators word) o
    found_so = units.each (operator_named operators word) o (ap (λ (us : List (Option Unit)). slice_get us (operator_named operators word))
        (sym lent_is) ∙ found)

    pub there_named : (unit : Unit) → o ≡ Some unit → IsUnit context operators (operator_named operators word) unit
    there_named unit e = subst (IsUnitAt context operators (operator_named operators word)) e found_so

    pub none_named : ((u : Unit) → o ≡ Some u → ⊥) → (code : List Instruction) → IsUnitNamed context operators word code → ⊥
    none_named never code m = none o found_so never
      where
        none : (o : Option Unit) → IsUnitAt context operators (operator_named operators word) o → ((u : Unit) → o ≡ Some u → ⊥) → ⊥
        none None never k = never m.unit.start _ m.is.is.closed
        none (Some u) is k = k u refl

  module _ (unit : Unit) (is : IsUnit context operators (operator_named operators word) unit) where
    pub named_made : {X E : Type 0} (r : Result (Option X) E) (items : X → List Instruction) →
        IfOk r (λ o. IfSome o (λ x. Stand operators unit.start (operator_named operators word + 1) (items x))) →
        IfOk r (λ o. IfSome o (λ x. IsUnitNamed context operators word (items x)))
    named_made r items h =
        on_some r (λ x. Stand operators unit.start (operator_named operators word + 1) (items x)) (λ x. IsUnitNamed context operators word (items x))
        (λ x stand. record { unit = unit; is = is; stand = stand }) h

    pub named_not_made : {X E : Type 0} (r : Result (Option X) E) →
        IfOk r (λ o. IfNone o ((code : List Instruction) → Stand operators unit.start (operator_named operators word + 1) code → ⊥)) →
        IfOk r (λ o. IfNone o ((code : List Instruction) → IsUnitNamed context operators word code → ⊥))
    named_not_made r h =
        on_none r ((code : List Instruction) → Stand operators unit.start (operator_named operators word + 1) code → ⊥)
        ((code : List Instruction) → IsUnitNamed context operators word code → ⊥) (λ never code m. never code
        (subst (λ (s : ℕ). Stand operators s (operator_named operators word + 1) code)
        (one_start context operators (operator_named operators word) m.unit unit m.is is) m.stand)) h

    pub named_one : {X E : Type 0} (r : Result (Option X) E) (items : X → List Instruction) →
        IfOk r (λ o. IfSome o (λ x. Stand operators unit.start (operator_named operators word + 1) (items x))) →
        IfOk r (λ o. IfSome o (λ x. (other : List Instruction) → IsUnitNamed context operators word other → items x ≡ other))
    named_one r items h =
        on_some r (λ x. Stand operators unit.start (operator_named operators word + 1) (items x))
        (λ x. (other : List Instruction) → IsUnitNamed context operators word other → items x ≡ other) (λ x stand other m.
        same_instructions (slice_range operators unit.start (operator_named operators word + 1)) (items x) other stand
        (subst (λ (s : ℕ). Stand operators s (operator_named operators word + 1) other)
        (one_start context operators (operator_named operators word) m.unit unit m.is is) m.stand)) h

-- ---- what the code leaves

pub given_types : (context : Context) (code : List Instruction) (types : List PrimitiveTypeInfo) (gives : Option (Option PrimitiveTypeInfo)) →
    LeavesTypes context code types → IfSome gives (λ g. types ≡ list_of g) → IfNone gives ((g : Option PrimitiveTypeInfo) → types ≡ list_of g → ⊥) →
    IsGiven context code gives
given_types context code types (Some g) leaves some none = leaves ∙ ap (λ (ts : List PrimitiveTypeInfo). Some ts) some
given_types context code types None leaves some none = λ g other. none g (same_Some types (list_of g) (sym leaves ∙ other))

pub given_nothing : (context : Context) (code : List Instruction) → told_types_after context code [] ≡ None → IsGiven context code None
given_nothing context code e g leaves = differ (sym e ∙ leaves)
  where
    differ : {X : Type 0} {x : X} → None ≡ Some x → ⊥
    differ f = cc

-- ---- in the place of a unit

-- it may stand there only where it gives the same
pub copied_otherwise : (context : Context) (operators : Operators) (at : ℕ) (unit : Unit) → IsUnit context operators at unit → (copied : List Instruction)
    (gives : Option (Option PrimitiveTypeInfo)) → IsGiven context copied gives → (gives ≡ Some unit.gives → ⊥) → (code : List Instruction) →
    MakesCopy copied code → IsNew context operators unit.start at code → ⊥
copied_otherwise context operators at unit is copied gives given differs code made new = go gives given differs
  where
    leaves : LeavesTypes context copied (list_of unit.gives)
    leaves =
        subst (λ (c : List Instruction). LeavesTypes context c (list_of unit.gives)) made.code_is
        (subst (LeavesTypes context code) (closed_one context operators unit.start (at + 1) new.can.types (list_of unit.gives) new.can.closed is.is.closed)
        new.can.leaves)

    go : (gives : Option (Option PrimitiveTypeInfo)) → IsGiven context copied gives → (gives ≡ Some unit.gives → ⊥) → ⊥
    go None never differs = never unit.gives leaves
    go (Some g) known differs =
        differs (ap (λ (x : Option PrimitiveTypeInfo). Some x)
        (same_list g unit.gives (same_Some (list_of g) (list_of unit.gives) (sym known ∙ leaves))))

-- ---- what code asks

-- one instruction more of which the standard asks nothing beyond its types
pub plain_more : (code : List Instruction) (i : ℕ) (here : Instruction) → ((k : ℕ) (d : Instruction) → k < i → IsTrue (asks_types_alone (get_or code k d))) →
    here ≡ get_or code i here → i < length code → IsTrue (asks_types_alone here) → (k : ℕ) (d : Instruction) → k < i + 1 →
    IsTrue (asks_types_alone (get_or code k d))
plain_more code i here earlier is inside plain k d l = elim (cases_lt k i) [
  | inl lt ↦ earlier k d lt
  | inr le ↦
      let same : i ≡ k = omega (arith, l, le) in
      let there : Some here ≡ Some (get_or code i d) =
      ap (λ (x : Instruction). Some x) is ∙ (sym (slice_get-get_or code i here inside) ∙ slice_get-get_or code i d inside) in
      subst (λ (n : ℕ). IsTrue (asks_types_alone (get_or code n d))) same
      (subst (λ (x : Instruction). IsTrue (asks_types_alone x)) (same_Some here (get_or code i d) there) plain)
]
