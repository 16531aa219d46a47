-- How code is drawn: its last instruction first, each for a value that is still wanted. For private functions (this project).
use Rattle.std.specs.Prelude.{◌≡◌, ◌⊎◌, ℕ, ◌+◌, ◌*◌, ◌/◌, ◌%◌, ◌^◌, ◌<◌, ◌≤◌, Bool, true, false, List, [], ◌∷◌, ◌++◌, length, map, reverse, get_or, slice_get}
use Rattle.std.specs.Prelude.{Some, bit_xor, IsTrue}
use Rattle.std.specs.List.{All}
use Rattle.std.specs.Int.{w32, w64, w128, cast_signed}
use Rattle.wasm_code.specs.Instruction.{Instruction, IsInstruction}
use Rattle.wasm_code.specs.declared.immediate.AbstractHeapType.TheVariants as heap
use Rattle.wasm_code.specs.declared.immediate.HeapType.TheVariants.{Abstract}
use Rattle.wasm_code.specs.declared.immediate.Imm.{Imm}
use Rattle.wasm_code.specs.declared.immediate.Imm.TheVariants as imm
use Rattle.wasm_types.specs.declared.types.PrimitiveTypeInfo.{PrimitiveTypeInfo}
use Rattle.wasm_types.specs.declared.types.PrimitiveTypeInfo.TheVariants as primitive
use Rattle.wasm_execution.specs.Row.{instruction_types}
use Rattle.wasm_execution.specs.Values.{Context, context_in}
use Rattle.body_changes.specs.declared.goal.Chosen.{Chosen}
use Rattle.body_changes.specs.declared.goal.Goal.{Goal}
use Rattle.body_changes.specs.declared.goal.Operands.{Operands}
use Rattle.body_changes.specs.declared.goal.Operands.TheVariants as operands
use Rattle.body_changes.specs.declared.goal.Words.{Words}
use Rattle.body_changes.specs.declared.source.Scope.{Scope}
use Rattle.body_changes.specs.Drawing.{asks_types_alone, is_drawable, AreDrawable, AskTypesAlone, IsLeaf, bits_of, choice_word, three_words, drawing_words_of}
use Rattle.body_changes.specs.Typed.{told_types_after}

-- what code may name in the scope
abbrev pub context_for : Scope → Context
context_for scope = context_in scope.info.now scope.locals.now

-- ---- words

-- the first three words; 0 for one that isn't there
abbrev pub first_words : List ℕ → Words
first_words words = record { choice = get_or words 0 0; low = get_or words 1 0; high = get_or words 2 0 }

-- These words draw the instruction.
pub record WordsDrawInstruction (context : Context) (t : PrimitiveTypeInfo) (i : Instruction) (words : Words) : Type 0 where
  pub choice : words.choice ≡ choice_word context t i.row i.imm
  pub low : words.low ≡ bits_of i.imm % 2 ^ 64
  pub high : words.high ≡ bits_of i.imm / 2 ^ 64

-- ---- single instructions

-- the row of the type's constants
abbrev pub constant_row : PrimitiveTypeInfo → ℕ
constant_row primitive.I32 = 36
constant_row primitive.I64 = 37
constant_row primitive.F32 = 38
constant_row primitive.F64 = 39
constant_row primitive.V128 = 201
constant_row t = 168

-- the immediate is one of the type's constants
abbrev pub is_constant_imm : PrimitiveTypeInfo → Imm → Bool
is_constant_imm primitive.I32 (imm.I32 z) = true
is_constant_imm primitive.I64 (imm.I64 z) = true
is_constant_imm primitive.F32 (imm.F32 bits) = true
is_constant_imm primitive.F64 (imm.F64 bits) = true
is_constant_imm primitive.V128 (imm.V128 z) = true
is_constant_imm primitive.FuncRef (imm.Heap (Abstract heap.Func)) = true
is_constant_imm primitive.ExternRef (imm.Heap (Abstract heap.Extern)) = true
is_constant_imm t i = false

-- the immediate of the constant with these bits
abbrev pub constant_imm : PrimitiveTypeInfo → (low high : ℕ) → Imm
constant_imm primitive.I32 low high = imm.I32 (cast_signed w32 (low % 2 ^ 32))
constant_imm primitive.I64 low high = imm.I64 (cast_signed w64 low)
constant_imm primitive.F32 low high = imm.F32 (low % 2 ^ 32)
constant_imm primitive.F64 low high = imm.F64 low
constant_imm primitive.V128 low high = imm.V128 (cast_signed w128 (high * 2 ^ 64 + low))
constant_imm primitive.FuncRef low high = imm.Heap (Abstract heap.Func)
constant_imm t low high = imm.Heap (Abstract heap.Extern)

-- the constant with these bits
abbrev pub constant_by : PrimitiveTypeInfo → (low high : ℕ) → Instruction
constant_by t low high = record { row = constant_row t; imm = constant_imm t low high }

-- how many bits the type's numbers have
abbrev pub width_of : PrimitiveTypeInfo → ℕ
width_of primitive.I32 = 32
width_of primitive.F32 = 32
width_of primitive.V128 = 128
width_of t = 64

-- the bits with one flipped, the one with the word's number modulo the width
abbrev pub flipped_bits : (bits width word : ℕ) → ℕ
flipped_bits bits width word = bit_xor bits (2 ^ (word % width))

-- the type's constant with one bit flipped
abbrev pub flipped : PrimitiveTypeInfo → Instruction → (word : ℕ) → Instruction
flipped t own word =
    let bits = flipped_bits (bits_of own.imm) (width_of t) word in
    constant_by t (bits % 2 ^ 64) (bits / 2 ^ 64)

-- The instruction takes nothing and gives a value of the type, and the standard asks nothing else of it.
pub record GivesFromNothing (context : Context) (t : PrimitiveTypeInfo) (i : Instruction) : Type 0 where
  pub instruction : IsInstruction i
  pub types : instruction_types context i [] ≡ Some (Some t)
  pub plain : IsTrue (asks_types_alone i)

-- In each module that has such values, the instruction takes nothing and gives one.
abbrev pub IsConstantOf : PrimitiveTypeInfo → Instruction → Type 0
IsConstantOf t i = (context : Context) → IsTrue (is_drawable context.info t) → instruction_types context i [] ≡ Some (Some t)

-- the variable is there, and of the type
abbrev pub HasVariable : List PrimitiveTypeInfo → PrimitiveTypeInfo → (n : ℕ) → Type 0
HasVariable types t n = slice_get types n ≡ Some t

-- the row's instruction with the index
abbrev pub indexed : (row n : ℕ) → Instruction
indexed row n = record { row = row; imm = imm.Index n }

-- It is the row's instruction with the index of a variable of the type.
pub record IsVariable (row : ℕ) (types : List PrimitiveTypeInfo) (t : PrimitiveTypeInfo) (i : Instruction) : Type 0 where
  pub index : ℕ
  pub is : i ≡ indexed row index
  pub small : index < 2 ^ 32
  pub there : HasVariable types t index

-- ---- goals

-- the types of operands as a list
abbrev pub operand_types_in : Operands → List PrimitiveTypeInfo
operand_types_in operands.Zero = []
operand_types_in (operands.One a) = a ∷ []
operand_types_in (operands.Two a b) = a ∷ b ∷ []
operand_types_in (operands.Three a b c) = a ∷ b ∷ c ∷ []

-- The instruction gives a value of the wanted type on operands of these types, for which the goal has room, and which can be drawn. The standard asks nothing
-- else of it.
pub record FitsGoal (context : Context) (goal : Goal) (c : Chosen) : Type 0 where
  pub instruction : IsInstruction c.instr
  pub types : instruction_types context c.instr (operand_types_in c.operands) ≡ Some (Some goal.wanted)
  pub room : length (operand_types_in c.operands) < goal.size
  pub drawable : AreDrawable context.info (operand_types_in c.operands)
  pub plain : IsTrue (asks_types_alone c.instr)

-- Where the words draw a single instruction, it is that one, without operands.
abbrev pub IsDrawnBy : Context → (wanted : PrimitiveTypeInfo) → Words → Chosen → Type 0
IsDrawnBy context wanted words c =
    (i : Instruction) → IsLeaf context wanted i → WordsDrawInstruction context wanted i words → (c.instr ≡ i) × (c.operands ≡ operands.Zero)

-- the types of the goals
abbrev pub wanted_types : List Goal → List PrimitiveTypeInfo
wanted_types goals = map (λ (g : Goal). g.wanted) goals

-- of how many instructions they may be, all together
abbrev pub whole_size : List Goal → ℕ
whole_size [] = 0
whole_size (g ∷ goals) = g.size + whole_size goals

-- A value of it can be drawn, of one instruction at least.
pub record GoalIsOpen (context : Context) (goal : Goal) : Type 0 where
  pub some : 0 < goal.size
  pub drawable : IsTrue (is_drawable context.info goal.wanted)

-- The goals have grown by one for each of these types, all together of at most so many instructions.
pub record HasPushed (context : Context) (ts : List PrimitiveTypeInfo) (room : ℕ) (old new : List Goal) : Type 0 where
  pub more : List Goal
  pub grown : new ≡ old ++ more
  pub types : wanted_types more ≡ ts
  pub size : whole_size more ≤ room
  pub some : All (GoalIsOpen context) more

-- An instruction was drawn for the goal, and goals for its operands are there in its place.
pub record HasDrawn (context : Context) (goal : Goal) (words : Words) (goals : List Goal) (code : List Instruction) (left : List Goal)
    (grown : List Instruction) : Type 0 where
  pub chosen : Chosen
  pub fits : FitsGoal context goal chosen
  pub drawn : IsDrawnBy context goal.wanted words chosen
  pub room : ℕ
  pub room_is : room + 1 ≡ goal.size
  pub pushed : HasPushed context (operand_types_in chosen.operands) room goals left
  pub added : grown ≡ code ++ chosen.instr ∷ []

-- The instructions so far are the last ones, the very last one first: on values of the goals' types they leave the wanted one. All together will be at most
-- `size`; and in each step one was drawn, unless nothing is left to be. The standard asks nothing of them beyond their types.
pub record IsDrawing (context : Context) (wanted : PrimitiveTypeInfo) (size step : ℕ) (goals : List Goal) (code : List Instruction) : Type 0 where
  pub size_is : length code + whole_size goals ≤ size
  pub goes_on : (goals ≡ []) ⊎ (length code ≡ step)
  pub some : All (GoalIsOpen context) goals
  pub whole : told_types_after context (reverse code) (wanted_types goals) ≡ Some (wanted ∷ [])
  pub plain : AskTypesAlone code

-- Nothing was drawn yet, and all words are left.
pub record IsFirst (goal : Goal) (step : ℕ) (words rest : List ℕ) (goals : List Goal) (code : List Instruction) : Type 0 where
  pub start : step ≡ 0
  pub rest_is : rest ≡ words
  pub goals_are : goals ≡ goal ∷ []
  pub code_is : code ≡ []

-- The instruction alone was drawn, and nothing is left to be.
pub record IsOnly (i : Instruction) (goals : List Goal) (code : List Instruction) : Type 0 where
  pub goals_are : goals ≡ []
  pub code_is : code ≡ i ∷ []

-- Where the words draw a single instruction, it is that one, or nothing was drawn yet.
abbrev pub DrawsOnly : Context → Goal → (step : ℕ) → (words rest : List ℕ) → List Goal → List Instruction → Type 0
DrawsOnly context goal step words rest goals code =
    (i : Instruction) → IsLeaf context goal.wanted i → three_words words ≡ drawing_words_of context goal.wanted i →
    IsFirst goal step words rest goals code ⊎ IsOnly i goals code
