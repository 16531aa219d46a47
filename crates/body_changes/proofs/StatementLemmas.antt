-- The statement right before another one.
use Rattle.std.proofs.Common.{◌≡◌, ℕ, ◌-◌, get_or, Option, Some, None, false, refl, sym, ap, ◌∙◌, subst, arith}
use Rattle.std.specs.Prelude.{is_some}
use Rattle.std.proofs.lemmas.Bool.{false≢true}
use Rattle.wasm_types.specs.declared.types.PrimitiveTypeInfo.{PrimitiveTypeInfo}
use Rattle.body_changes.specs.declared.kinds.Place.{Place}
use Rattle.body_changes.specs.declared.units.Unit.{Unit}
use Rattle.body_changes.specs.Proposals.{context_at, operators_of, IsPlace, IsStatementBefore}
use Rattle.body_changes.specs.Units.{IsUnit}
use Rattle.body_changes.proofs.EndLemmas.{no_unit_there, unit_there, unit_within}
use Rattle.body_changes.proofs.OneUnitLemmas.{one_unit}

nothing : {X : Type 0} (o : Option X) → is_some o ≡ false → o ≡ None
nothing None e = refl
nothing (Some x) e = absurd (false≢true (sym e))

-- the unit in the list right before this one is a statement before it, where neither leaves a value
pub statement_there : (place : Place) (d : Option Unit) (before : Unit) → IsPlace place → ¬ (place.unit.start ≡ 0) →
    get_or place.units.now (place.unit.start - 1) d ≡ Some before → is_some place.unit.gives ≡ false → before.gives ≡ None → IsStatementBefore place before
statement_there place d before h some is leaves gives =
    let inside = h.inside in
    let within = unit_within (context_at place) (operators_of place) place.at place.unit h.is in
    record {
      own_gives = nothing place.unit.gives leaves;
      last = place.unit.start - 1;
      right_before = omega arith;
      is = unit_there (context_at place) (operators_of place) place.units.now (place.unit.start - 1) d before h.units (omega arith) is;
      gives = gives;
    }

pub no_statement : (place : Place) (d : Option Unit) → IsPlace place → ¬ (place.unit.start ≡ 0) →
    ((u : Unit) → get_or place.units.now (place.unit.start - 1) d ≡ Some u → ⊥) → (before : Unit) → IsStatementBefore place before → ⊥
no_statement place d h some never before s =
    let inside = h.inside in
    let within = unit_within (context_at place) (operators_of place) place.at place.unit h.is in
    let right_before = s.right_before in
    let last : s.last ≡ place.unit.start - 1 = omega arith in
    no_unit_there (context_at place) (operators_of place) place.units.now (place.unit.start - 1) d h.units (omega arith) never before
    (subst (λ (n : ℕ). IsUnit (context_at place) (operators_of place) n before) last s.is)

pub no_statement_given : (place : Place) (d : Option Unit) (u : Unit) (t : PrimitiveTypeInfo) → IsPlace place → ¬ (place.unit.start ≡ 0) →
    get_or place.units.now (place.unit.start - 1) d ≡ Some u → u.gives ≡ Some t → (before : Unit) → IsStatementBefore place before → ⊥
no_statement_given place d u t h some is gives before s =
    let inside = h.inside in
    let within = unit_within (context_at place) (operators_of place) place.at place.unit h.is in
    let right_before = s.right_before in
    let last : s.last ≡ place.unit.start - 1 = omega arith in
    let there = unit_there (context_at place) (operators_of place) place.units.now (place.unit.start - 1) d u h.units (omega arith) is in
    let same = one_unit (context_at place) (operators_of place) (place.unit.start - 1) u before there
    (subst (λ (n : ℕ). IsUnit (context_at place) (operators_of place) n before) last s.is) in
    let no : Some t ≡ None = sym gives ∙ (ap (λ (x : Unit). x.gives) same ∙ s.gives) in
    absurd cc
