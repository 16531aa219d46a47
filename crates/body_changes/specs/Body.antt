-- A body of which code is changed, and what is found so far. For `change_of_words` (this project).
use Rattle.std.specs.Prelude.{◌≡◌, ◌<◌, ◌≤◌, ◌%◌, ℕ, List, length, drop, get_or, Some, slice_get}
use Rattle.wasm_code.specs.Instruction.{Instruction}
use Rattle.wasm_code.specs.declared.operator.Operator.{Operator}
use Rattle.wasm_execution.specs.Values.{Context}
use Rattle.body_changes.specs.declared.change.Change.{Change}
use Rattle.body_changes.specs.declared.changing.Body.{Body}
use Rattle.body_changes.specs.declared.changing.Changed.{Changed}
use Rattle.body_changes.specs.Chosen.{Changes, IsFirstFrom, NoneWithin, NumberChanges}
use Rattle.body_changes.specs.Copied.{IsGiven}
use Rattle.body_changes.specs.Kinds.{IsChange, Material, WordsNameCode}
use Rattle.body_changes.specs.Replacing.{source_context}
use Rattle.body_changes.specs.Units.{AreUnits}

-- its operators
abbrev pub body_operators_in : Body → List (Operator × ℕ)
body_operators_in body = body.source.operators.now

-- what its code may name
abbrev pub context_in_body : Body → Context
context_in_body body = source_context body.source

-- what new code is made of
abbrev pub material_in : Body → Material
material_in body = record { most = body.most; copied = body.copied.code.now }

-- The units are those of its operators, drawn code has room for an instruction, and it is known what the code leaves that may be copied.
pub record IsBody (body : Body) : Type 0 where
  pub units : AreUnits (context_in_body body) (body_operators_in body) body.units.now
  pub some : 0 < body.most
  pub copied : IsGiven (context_in_body body) body.copied.code.now body.copied.gives

-- ---- what the change makes of an operator

-- the change makes something of the operator, by these words for the code
abbrev pub ChangesIn : Body → (words : List ℕ) → Change → (at : ℕ) → Type 0
ChangesIn body words change at = Changes (context_in_body body) (body_operators_in body) (material_in body) words change at

-- The change makes this, and where the words name the code, that.
pub record IsFound (body : Body) (words : List ℕ) (c : Changed) : Type 0 where
  pub is : IsChange (context_in_body body) (body_operators_in body) (material_in body) words c.change c.at c.start c.code.items
  pub named : (s : ℕ) (other : List Instruction) (is : IsChange (context_in_body body) (body_operators_in body) (material_in body) words c.change c.at
      s other) →
      WordsNameCode (context_in_body body) c.change is.unit words other → c.code.items ≡ other

-- ---- for private functions

-- so does the change with the number of some operator, by the words behind the first two
abbrev pub ChangesSome : Body → List Change → (words : List ℕ) → (number : ℕ) → Type 0
ChangesSome body changes words number = NumberChanges (context_in_body body) (body_operators_in body) (material_in body) (drop 2 words) changes number

-- It is of the first change from the one with the number `from` on, before `to`, that makes anything, and of the first operator from that on which the second
-- word names.
pub record IsNumbered (body : Body) (changes : List Change) (words : List ℕ) (from to : ℕ) (c : Changed) : Type 0 where
  pub number : ℕ
  pub behind : from ≤ number
  pub before : number < to
  pub is_change : slice_get changes number ≡ Some c.change
  pub first : NoneWithin (ChangesSome body changes words) from number
  pub place : IsFirstFrom (ChangesIn body (drop 2 words) c.change) (length (body_operators_in body)) (get_or words 1 0 % length (body_operators_in body)) c.at
  pub found : IsFound body (drop 2 words) c
