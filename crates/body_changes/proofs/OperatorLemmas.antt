-- Another operator behind the same operands.
use Rattle.std.proofs.Common.{◌≡◌, ℕ, List, [], Option, Some, None, refl, sym, ap, ◌∙◌, subst, arith}
use Rattle.std.specs.Prelude.{get_or, is_some, IfSome, IsTrue}
use Rattle.std.proofs.lemmas.Bool.{false≢true}
use Rattle.wasm_code.specs.Instruction.{Instruction}
use Rattle.wasm_execution.specs.Values.{Context}
use Rattle.body_changes.specs.declared.units.Unit.{Unit}
use Rattle.body_changes.specs.declared.change.Change.TheVariants as change
use Rattle.body_changes.specs.Kinds.{operand_types, IsBehindOperands, IsNew, MakesOperator, WordsNameCode}
use Rattle.body_changes.specs.Others.{IsOther}
use Rattle.body_changes.specs.Replacing.{HasInstruction}
use Rattle.body_changes.specs.Units.{IsUnit}
use Rattle.body_changes.proofs.OwnLemmas.{one_there}
use Rattle.body_changes.proofs.PartLemmas.{behind_same, last_same, other_new, taken_code}
use Rattle.body_changes.proofs.StandLemmas.{Operators, Types}

module _ (context : Context) (operators : Operators) (at : ℕ) (unit : Unit) where
  operator_new : IsUnit context operators at unit → (code : List Instruction) → MakesOperator context operators at unit code →
      IsNew context operators unit.start at code
  operator_new is code m =
      let inside = is.is.closed.some in
      other_new context operators unit.start at m.own m.other [] m.types m.is.gives m.behind.operands code (omega arith) m.has
      (λ e. m.is.differs (ap (λ (i : Instruction). i.row) e)) m.is.own m.is.same
      (taken_code context operators unit.start unit.last at _ unit.takes m.types is.taken m.takes) m.behind.stand m.behind.code_is

  -- another one behind the operands is made, and is new
  pub made_operator : IsUnit context operators at unit → (own other : Instruction) → HasInstruction operators at own →
      IsTrue (is_some (operand_types unit.takes)) → IfSome (operand_types unit.takes) (λ types. IsOther context types own other) →
      (code : List Instruction) → IsBehindOperands operators at unit other code → IsNew context operators unit.start at code
  made_operator is own other has taken found code made = go (operand_types unit.takes) refl taken found
    where
      go : (o : Option Types) → operand_types unit.takes ≡ o → IsTrue (is_some o) → IfSome o (λ types. IsOther context types own other) →
          IsNew context operators unit.start at code
      go None e taken found = absurd (false≢true taken)
      go (Some types) e taken found =
          operator_new is code (record { types = types; takes = e; own = own; has = has; other = other; is = found; behind = made })

  -- it isn't made where there is no other one
  pub no_operator : (own : Instruction) → HasInstruction operators at own →
      IfSome (operand_types unit.takes) (λ types. (other : Instruction) → IsOther context types own other → ⊥) → (code : List Instruction) →
      MakesOperator context operators at unit code → ⊥
  no_operator own has none code m =
      its_fact (operand_types unit.takes) m.takes none m.other
      (subst (λ (i : Instruction). IsOther context m.types i m.other) (one_there operators at m.own own m.has has) m.is)
    where
      its_fact : (o : Option Types) → o ≡ Some m.types → IfSome o (λ types. (other : Instruction) → IsOther context types own other → ⊥) →
          (other : Instruction) → IsOther context m.types own other → ⊥
      its_fact o e h = rw e at h

  -- the one that the word names
  pub named_operator : (own other : Instruction) (o : Option Instruction) (word : ℕ) (words : List ℕ) → HasInstruction operators at own → o ≡ Some other →
      word ≡ get_or words 0 0 → IfSome (operand_types unit.takes) (λ types. (k : Instruction) → IsOther context types own k → word ≡ k.row → o ≡ Some k) →
      (code : List Instruction) → IsBehindOperands operators at unit other code → (others : List Instruction) →
      MakesOperator context operators at unit others → WordsNameCode context change.Operator unit words others → code ≡ others
  named_operator own other o word words has found first named code made others m n =
      let (front, i, is, row) = n in
      let last : i ≡ m.other = last_same front m.behind.operands i m.other (sym is ∙ m.behind.code_is) in
      let same : Some other ≡ Some m.other = sym found ∙ its_fact (operand_types unit.takes) m.takes named m.other
      (subst (λ (j : Instruction). IsOther context m.types j m.other) (one_there operators at m.own own m.has has) m.is)
      (first ∙ (row ∙ ap (λ (j : Instruction). j.row) last)) in
      let one : other ≡ m.other = cc in
      behind_same operators at unit other m.other code others one made m.behind
    where
      its_fact : (p : Option Types) → p ≡ Some m.types →
          IfSome p (λ types. (k : Instruction) → IsOther context types own k → word ≡ k.row → o ≡ Some k) →
          (k : Instruction) → IsOther context m.types own k → word ≡ k.row → o ≡ Some k
      its_fact p e h = rw e at h
