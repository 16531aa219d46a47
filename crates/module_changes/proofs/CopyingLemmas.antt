-- The code that words name of a function of a module.
use Rattle.std.proofs.Common.{◌≡◌, ◌≤◌, ℕ, zero, suc, ◌<◌, List, [], ◌∷◌, length, Some, sym, subst, arith}
use Rattle.std.specs.Prelude.{get_or, slice_get, IsTrue}
use Rattle.wasm_code.specs.Instruction.{Instruction}
use Rattle.wasm_code.specs.declared.operator.Operator.{Operator}
use Rattle.wasm_types.specs.declared.types.PrimitiveTypeInfo.{PrimitiveTypeInfo}
use Rattle.wasm_execution.specs.Values.{context_in}
use Rattle.body_changes.specs.Copied.{IsUnitNamed}
use Rattle.body_changes.specs.Drawing.{AskTypesAlone}
use Rattle.module_rewrites.specs.Function.{IsFunction}
use Rattle.module_changes.specs.Donor.{most_copied, Copies, Donor}

pub got_inside : {X : Type 0} (xs : List X) (k : ℕ) (x : X) → slice_get xs k ≡ Some x → k < length xs
got_inside [] zero x e = absurd cc
got_inside [] (suc k) x e = absurd cc
got_inside (y ∷ xs) zero x e = omega arith
got_inside (y ∷ xs) (suc k) x e = let l = got_inside xs k x e in omega (arith, l)

abbrev Operators : Type 0
Operators = List (Operator × ℕ)

module _ (donor : Donor) (words : List ℕ) (n : ℕ) (locals : List PrimitiveTypeInfo) (operators : Operators)
    (only : (l : List PrimitiveTypeInfo) (x : ℕ) (o : Operators) → IsFunction donor.bytes donor.info donor.layout n l x o →
    (locals ≡ l) × (operators ≡ o)) where
  abbrev IsNamed : List Instruction → Type 0
  IsNamed code = IsUnitNamed (context_in donor.info locals) operators (get_or words 4 0) code

  -- what is copied is of the function that was read
  named_here : (code : List Instruction) → Copies donor words n code → IsNamed code
  named_here code m =
      let same = only m.locals m.expression m.operators m.function in
      subst (λ (ts : List PrimitiveTypeInfo). IsUnitNamed (context_in donor.info ts) operators (get_or words 4 0) code) (sym same.0)
      (subst (λ (os : Operators). IsUnitNamed (context_in donor.info m.locals) os (get_or words 4 0) code) (sym same.1) m.is)

  pub none_named : ((code : List Instruction) → IsNamed code → ⊥) → (code : List Instruction) → Copies donor words n code → ⊥
  none_named never code m = never code (named_here code m)

  -- it may be copied
  abbrev pub May : List Instruction → Type 0
  May code = (length code ≤ most_copied) × (IsTrue donor.plain → AskTypesAlone code)

  pub may_not : (code : List Instruction) → ((other : List Instruction) → IsNamed other → code ≡ other) → (May code → ⊥) →
      (other : List Instruction) → Copies donor words n other → ⊥
  may_not code one never other m = never (subst May (sym (one other (named_here other m))) (m.few, m.plain))

  pub copies : (x : ℕ) → IsFunction donor.bytes donor.info donor.layout n locals x operators → (code : List Instruction) → IsNamed code →
      May code → Copies donor words n code
  copies x f code named may =
      record { locals = locals; expression = x; operators = operators; function = f; is = named; few = may.0; plain = may.1 }
