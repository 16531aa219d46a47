-- Code that ends with an operator: of its instructions the last one is the operator.
use Rattle.std.proofs.Common.{◌≡◌, ℕ, ◌+◌, ◌<◌, ◌≤◌, [], ◌∷◌, ◌++◌, List, length, get_or, Option, Some, None, refl, ap, ◌∙◌, subst}
use Rattle.std.proofs.Common.{arith}
use Rattle.std.proofs.lemmas.Option.{slice_get-get_or}
use Rattle.wasm_code.specs.Instruction.{Instruction}
use Rattle.wasm_execution.specs.Row.{list_of}
use Rattle.wasm_execution.specs.Values.{Context}
use Rattle.body_changes.specs.declared.units.Unit.{Unit}
use Rattle.body_changes.specs.Kinds.{IsNew, Stand}
use Rattle.body_changes.specs.Replacing.{CanReplace, HasInstruction, IsClosed}
use Rattle.body_changes.specs.Typed.{LeavesTypes}
use Rattle.body_changes.specs.Units.{AreUnits, IsUnit, IsUnitAt}
use Rattle.body_changes.proofs.PartLemmas.{ends_otherwise}
use Rattle.body_changes.proofs.StandLemmas.{Operators, Types, nothing_there, one_behind}

module _ (context : Context) (operators : Operators) (at : ℕ) (unit : Unit) (is : IsUnit context operators at unit) where
  pub unit_within : unit.start ≤ at
  unit_within = let some = is.is.closed.some in omega arith

  -- ---- in its place

  -- what leaves the same may stand there
  pub may_stand : (code : List Instruction) → LeavesTypes context code (list_of unit.gives) → CanReplace context operators unit.start (at + 1) code
  may_stand code leaves = record { types = list_of unit.gives; closed = is.is.closed; leaves = leaves }

  -- and is new where it ends with another instruction
  pub new_end : (front : List Instruction) (i own : Instruction) → HasInstruction operators at own → (i ≡ own → ⊥) →
      LeavesTypes context (front ++ i ∷ []) (list_of unit.gives) → IsNew context operators unit.start at (front ++ i ∷ [])
  new_end front i own has differs leaves = record {
    can = may_stand (front ++ i ∷ []) leaves;
    differs = ends_otherwise operators unit.start at own i front (front ++ i ∷ []) unit_within has differs refl;
  }

  -- an operator that needs no operands is the whole unit
  pub alone : (i : Instruction) (types : Types) → HasInstruction operators at i → LeavesTypes context (i ∷ []) types →
      Stand operators unit.start (at + 1) (i ∷ [])
  alone i types has leaves =
      let stands = one_behind operators at at [] i (omega arith) has (nothing_there operators at) in
      let closed : IsClosed context operators at (at + 1) types = record { some = omega arith; own = i ∷ []; stands = stands; leaves = leaves } in
      let late = is.is.shortest at types closed in
      let le = unit_within in
      let same : at ≡ unit.start = omega arith in
      subst (λ (s : ℕ). Stand operators s (at + 1) (i ∷ [])) same stands

-- ---- in the list of all units

pub unit_there : (context : Context) (operators : Operators) (list : List (Option Unit)) (at : ℕ) (d : Option Unit) (unit : Unit) →
    AreUnits context operators list → at < length operators → get_or list at d ≡ Some unit → IsUnit context operators at unit
unit_there context operators list at d unit units inside is =
    let count = units.count in
    units.each at (Some unit) (slice_get-get_or list at d (omega arith) ∙ ap (λ (x : Option Unit). Some x) is)

-- where none is in the list, the operator has none
pub no_unit_there : (context : Context) (operators : Operators) (list : List (Option Unit)) (at : ℕ) (d : Option Unit) → AreUnits context operators list →
    at < length operators → ((u : Unit) → get_or list at d ≡ Some u → ⊥) → (unit : Unit) → IsUnit context operators at unit → ⊥
no_unit_there context operators list at d units inside never unit is =
    let count = units.count in
    none (get_or list at d) (units.each at (get_or list at d) (slice_get-get_or list at d (omega arith))) never
  where
    none : (o : Option Unit) → IsUnitAt context operators at o → ((u : Unit) → o ≡ Some u → ⊥) → ⊥
    none (Some u) h never = never u refl
    none None h never = h unit.start (list_of unit.gives) is.is.closed
