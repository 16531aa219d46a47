-- Code that words draw: of which types, and which words draw which single instruction (this project; constants and variables: WebAssembly Core Specification
-- 3.0, Structure, Instructions).
use Rattle.std.specs.Prelude.{◌≡◌, ℕ, ◌+◌, ◌*◌, ◌/◌, ◌%◌, ◌^◌, ◌<◌, ◌==◌, ◌||◌, not, Bool, true, false, if◌then◌else◌, List, [], ◌∷◌, take}
use Rattle.std.specs.Prelude.{get_or, count_by, Some}
use Rattle.std.specs.Prelude.{IsTrue}
use Rattle.std.specs.List.{All}
use Rattle.std.specs.Int.{w32, w64, w128, cast_unsigned}
use Rattle.wasm_code.specs.Instruction.{Instruction, IsInstruction}
use Rattle.wasm_code.specs.declared.immediate.Imm.{Imm}
use Rattle.wasm_code.specs.declared.immediate.Imm.TheVariants as imm
use Rattle.wasm_types.specs.Module.{Module}
use Rattle.wasm_types.specs.declared.types.PrimitiveTypeInfo.{PrimitiveTypeInfo}
use Rattle.wasm_types.specs.declared.types.PrimitiveTypeInfo.TheVariants.{FuncRef, ExternRef, Empty}
use Rattle.wasm_execution.specs.Row.{instruction_types}
use Rattle.wasm_execution.specs.Values.{Context, same_type}

-- ---- types

-- numbers and vectors; funcref and externref where the module tells references apart
abbrev pub is_drawable : Module → PrimitiveTypeInfo → Bool
is_drawable m Empty = false
is_drawable m FuncRef = not m.one_reference
is_drawable m ExternRef = not m.one_reference
is_drawable m t = true

-- a value of each of them can be drawn
abbrev pub AreDrawable : Module → List PrimitiveTypeInfo → Type 0
AreDrawable m ts = All (λ (t : PrimitiveTypeInfo). IsTrue (is_drawable m t)) ts

-- ---- single instructions

-- local.get, global.get, i32.const to f64.const, ref.null, v128.const
abbrev pub is_leaf_row : ℕ → Bool
is_leaf_row n = n == 4 || (n == 7 || (n == 36 || (n == 37 || (n == 38 || (n == 39 || (n == 168 || n == 201))))))

-- The instruction is one of these, and gives a value of the type: it is a constant of the type, or reads a local or a global of it.
pub record IsLeaf (context : Context) (t : PrimitiveTypeInfo) (i : Instruction) : Type 0 where
  pub instruction : IsInstruction i
  pub row : IsTrue (is_leaf_row i.row)
  pub types : instruction_types context i [] ≡ Some (Some t)

-- local.get, local.set, local.tee
abbrev pub is_local_row : ℕ → Bool
is_local_row n = n == 4 || (n == 5 || n == 6)

abbrev pub is_nothing : Imm → Bool
is_nothing imm.Nothing = true
is_nothing i = false

-- The standard asks nothing of it beyond its types (a variable that it names is there, which is part of these): it has no immediate, or is a constant, or
-- reads a variable, or writes a local.
abbrev pub asks_types_alone : Instruction → Bool
asks_types_alone i = is_nothing i.imm || (is_leaf_row i.row || is_local_row i.row)

-- of each instruction of the code
abbrev pub AskTypesAlone : List Instruction → Type 0
AskTypesAlone code = All (λ (i : Instruction). IsTrue (asks_types_alone i)) code

-- the bits of a constant's number; 0 of what has none
abbrev pub bits_of : Imm → ℕ
bits_of (imm.I32 z) = cast_unsigned w32 z
bits_of (imm.I64 z) = cast_unsigned w64 z
bits_of (imm.F32 bits) = bits
bits_of (imm.F64 bits) = bits
bits_of (imm.V128 z) = cast_unsigned w128 z
bits_of _ = 0

-- how many variables of the type have a smaller index
abbrev pub variable_rank : List PrimitiveTypeInfo → PrimitiveTypeInfo → ℕ → ℕ
variable_rank types t n = count_by (same_type t) (take n types)

-- the word that chooses the instruction of the row with the immediate: the variable with its number among those of the type, or a constant by its own bits
abbrev pub choice_word : Context → PrimitiveTypeInfo → (row : ℕ) → Imm → ℕ
choice_word context t row (imm.Index n) = if row == 4 then 8 * variable_rank context.locals t n + 1 else 8 * variable_rank context.info.globals t n + 2
choice_word context t row _ = 32

-- the words that draw it: the one that chooses it, and the two halves of its bits
abbrev pub drawing_words_of : Context → PrimitiveTypeInfo → Instruction → List ℕ
drawing_words_of context t i = choice_word context t i.row i.imm ∷ bits_of i.imm % 2 ^ 64 ∷ bits_of i.imm / 2 ^ 64 ∷ []

-- the first three of some words, 0 for one that isn't there: those behind them draw nothing more where these draw a single instruction
abbrev pub three_words : (words : List ℕ) → List ℕ
three_words words = get_or words 0 0 ∷ get_or words 1 0 ∷ get_or words 2 0 ∷ []

-- ---- laws

-- Each of them is a word of 64 bits.
abbrev pub LeavesHaveWords : Type 0
LeavesHaveWords = (context : Context) (t : PrimitiveTypeInfo) (i : Instruction) → IsLeaf context t i → All (λ w. w < 2 ^ 64) (drawing_words_of context t i)
