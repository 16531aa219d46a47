-- Code that pushes another number than instructions do, and does the same: numbers alike in a way that is given (this project).
use Rattle.std.specs.Prelude.{◌≡◌, ◌≢◌, ℕ, List, [], ◌∷◌, ◌++◌}
use Rattle.std.specs.List.{All}
use Rattle.wasm_code.specs.Instruction.{Instruction}
use Rattle.wasm_types.specs.declared.types.PrimitiveTypeInfo.TheVariants as primitive
use Rattle.wasm_execution.specs.Values.{Value, IsValue, Context, State, HasTypes, Outcome, Ends, Traps, Stuck}
use Rattle.wasm_execution.specs.Machine.{run}

-- Both stacks are the same below their last values, which are numbers of 32 bits that are alike.
pub record EndAs (Alike : ℕ → ℕ → Type 0) (vs us : List Value) : Type 0 where
  pub below : List Value
  pub one : Value
  pub other : Value
  pub first_is : vs ≡ below ++ one ∷ []
  pub second_is : us ≡ below ++ other ∷ []
  pub one_type : one.type ≡ primitive.I32
  pub other_type : other.type ≡ primitive.I32
  pub alike : Alike one.number other.number

-- Both end so, in the same state; or both trap alike.
abbrev pub AreAs : (Alike : ℕ → ℕ → Type 0) → Outcome → Outcome → Type 0
AreAs Alike (Ends vs s) (Ends us t) = EndAs Alike vs us × (t ≡ s)
AreAs Alike (Traps cause gs r) (Traps other hs q) = (other ≡ cause) × (hs ≡ gs) × (q ≡ r)
AreAs Alike o p = ⊥

-- From every state of the context's types in which the instructions aren't stuck, the code pushes a number that is alike, and does the same.
abbrev pub SameAs : (Alike : ℕ → ℕ → Type 0) → Context → (own code : List Instruction) → Type 0
SameAs Alike context own code =
    (stack : List Value) (s : State) → All IsValue stack → HasTypes context s → run own stack s ≢ Stuck → AreAs Alike (run own stack s) (run code stack s)
