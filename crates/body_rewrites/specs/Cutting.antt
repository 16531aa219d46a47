-- Where the parts of a pattern stand in a body (this project).
use Rattle.std.specs.Prelude.{◌≡◌, ℕ, suc, ◌<◌, ◌^◌, ⊤, Bool, true, false, Option, Some, None, List, [], ◌∷◌}
use mir.Val.{bits}
use Rattle.wasm_code.specs.Instruction.{Instruction}
use Rattle.wasm_code.specs.declared.operator.Operator.{Operator}
use Rattle.wasm_types.specs.declared.types.PrimitiveTypeInfo.{PrimitiveTypeInfo}
use Rattle.wasm_execution.specs.declared.integer.IntegerType.{IntegerType}
use Rattle.wasm_execution.specs.Values.{width_of, Context}
use Rattle.rewrite_rules.specs.declared.pattern.Part.{Part}
use Rattle.rewrite_rules.specs.declared.pattern.Part.TheVariants.{Hole, Constant, Drawn, Apply}
use Rattle.rewrite_rules.specs.Instance.{constant_code, operator_code}
use Rattle.body_rewrites.specs.Trees.{IsTree}
use Rattle.body_rewrites.specs.Open.{HasInstruction}

-- the instruction is the constant of the type with that number
abbrev pub IsConstant : IntegerType → Instruction → ℕ → Type 0
IsConstant t i n = (n < 2 ^ bits (width_of t)) × (i ≡ constant_code t n)

-- the operator has a tree that begins there, or none
abbrev pub IsStartAt : Context → List (Operator × ℕ) → (at : ℕ) → Option ℕ → Type 0
IsStartAt context operators at (Some start) = (t : PrimitiveTypeInfo) × IsTree context operators start at t
IsStartAt context operators at None = (start : ℕ) (t : PrimitiveTypeInfo) → ¬ (IsTree context operators start at t)

-- the operator has a tree unless it is told that it has none
abbrev pub IsTreeTold : Context → List (Operator × ℕ) → (at : ℕ) → Bool → Type 0
IsTreeTold context operators at true = Unit {0}
IsTreeTold context operators at false = (start : ℕ) (t : PrimitiveTypeInfo) → ¬ (IsTree context operators start at t)

-- The code from `start` up to the one before `end` may be the part's: a tree in a hole, a constant of the type with some number, or the operator; nothing is
-- a drawn constant's.
abbrev pub HasPart : Context → List (Operator × ℕ) → Part → (start end : ℕ) → Type 0
HasPart context operators (Hole n) start end = (at : ℕ) × (t : PrimitiveTypeInfo) × (end ≡ suc at) × IsTree context operators start at t
HasPart context operators (Constant t e) start end =
    (n : ℕ) × (i : Instruction) × (end ≡ suc start) × HasInstruction operators start i × IsConstant t i n
HasPart context operators (Drawn t) start end = ⊥
HasPart context operators (Apply o) start end = (end ≡ suc start) × HasInstruction operators start (operator_code o)

-- The code that ends before `end` may be that of these parts, the last one first, which begin at these places.
abbrev pub AreCut : Context → List (Operator × ℕ) → (parts : List Part) → (starts : List ℕ) → (end : ℕ) → Type 0
AreCut context operators [] [] end = ⊤
AreCut context operators (p ∷ ps) (k ∷ ks) end = HasPart context operators p k end × AreCut context operators ps ks k
AreCut context operators parts starts end = ⊥
