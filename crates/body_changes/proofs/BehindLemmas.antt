-- Another instruction in the place of an operator, behind the same operands.
use Rattle.std.proofs.Common.{◌≡◌, ℕ, ◌+◌, ◌-◌, ◌≤◌, List, [], ◌∷◌, ◌++◌, length, take, drop, sym, ap, ◌∙◌, subst, arith}
use Rattle.std.specs.Prelude.{option_and_then}
use Rattle.std.proofs.lemmas.List.{take-append-drop}
use Rattle.wasm_code.specs.Instruction.{Instruction}
use Rattle.wasm_types.specs.declared.types.PrimitiveTypeInfo.{PrimitiveTypeInfo}
use Rattle.wasm_execution.specs.Row.{list_of, instruction_types, instruction_count}
use Rattle.wasm_execution.specs.Values.{Context}
use Rattle.body_changes.specs.declared.units.Unit.{Unit}
use Rattle.body_changes.specs.Kinds.{IsBehindOperands, IsNew, Stand}
use Rattle.body_changes.specs.Pass.{IsCodeLeaving}
use Rattle.body_changes.specs.Replacing.{HasInstruction}
use Rattle.body_changes.specs.Typed.{keep}
use Rattle.body_changes.specs.Units.{IsUnit}
use Rattle.body_changes.proofs.PartLemmas.{other_new}
use Rattle.body_changes.proofs.StandLemmas.{Operators, code_of_closed, is_behind, one_behind}

module _ (context : Context) (operators : Operators) (at : ℕ) (unit : Unit) (is : IsUnit context operators at unit) where
  begun : unit.start ≤ at
  begun = let some = is.is.closed.some in omega arith

  -- one that gives the same on all operands is new
  pub behind_new : (own i : Instruction) → HasInstruction operators at own → (i ≡ own → ⊥) →
      ((ts : List PrimitiveTypeInfo) → instruction_types context own ts ≡ instruction_types context i ts) → (code : List Instruction) →
      IsBehindOperands operators at unit i code → IsNew context operators unit.start at code
  behind_new own i has differs same code made =
      let c = is_behind context operators unit.start at own (list_of unit.gives) begun has
      (code_of_closed context operators unit.start (at + 1) (list_of unit.gives) is.is.closed) in
      let n = length c.types - instruction_count context.info own in
      other_new context operators unit.start at own i (take n c.types) (drop n c.types) c.given.gives made.operands code begun has differs c.given.typed
      (ap (option_and_then keep) (sym (same (drop n c.types))) ∙ c.given.typed)
      (subst (IsCodeLeaving context operators unit.start at) (sym (take-append-drop n c.types)) c.front) made.stand made.code_is

  -- the operator itself isn't
  pub own_behind : (i j : Instruction) → HasInstruction operators at i → i ≡ j → (code : List Instruction) → IsBehindOperands operators at unit j code →
      IsNew context operators unit.start at code → ⊥
  own_behind i j has same code made new =
      new.differs (subst (λ (xs : List Instruction). Stand operators unit.start (at + 1) xs)
      (ap (λ (k : Instruction). made.operands ++ k ∷ []) same ∙ sym made.code_is)
      (one_behind operators unit.start at made.operands i begun has made.stand))
