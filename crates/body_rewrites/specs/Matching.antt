-- What stands in the holes of a pattern that stands in a body, and the numbers of its constants (this project).
use Rattle.std.specs.Prelude.{◌≡◌, ℕ, ◌==◌, ◌||◌, ◌≤◌, Bool, true, false, IsTrue, if◌then◌else◌, ⊤, Option, Some, List, [], ◌∷◌, length}
use Rattle.std.specs.Prelude.{map, reverse, slice_get, slice_range}
use Rattle.std.specs.List.{All}
use Rattle.std.specs.Int.{w32, w64, cast_unsigned}
use Rattle.wasm_code.specs.Instruction.{Instruction}
use Rattle.wasm_code.specs.declared.immediate.Imm.{Imm}
use Rattle.wasm_code.specs.declared.immediate.Imm.TheVariants as imm
use Rattle.wasm_code.specs.declared.operator.Operator.{Operator}
use Rattle.wasm_code.specs.declared.operator.Operator.TheVariants.{Instr}
use Rattle.wasm_execution.specs.declared.integer.IntegerType.{IntegerType}
use Rattle.wasm_execution.specs.Values.{Context}
use Rattle.rewrite_rules.specs.declared.pattern.Number.{Number}
use Rattle.rewrite_rules.specs.declared.pattern.Number.TheVariants.{Literal, Ones, Bits, Sign, Slot}
use Rattle.rewrite_rules.specs.declared.pattern.Part.{Part}
use Rattle.rewrite_rules.specs.declared.pattern.Part.TheVariants.{Hole, Constant}
use Rattle.rewrite_rules.specs.Numbers.{constant_at}
use Rattle.rewrite_rules.specs.declared.table.Row.{Row}
use Rattle.rewrite_rules.specs.Line.{Line}
use Rattle.rewrite_rules.specs.Table.{ROWS, parts_for, widths_in, line_of}
use Rattle.rewrite_rules.specs.Instance.{code_of}
use Rattle.rewrite_rules.specs.Parts.{part_code, parts_code}
use Rattle.body_rewrites.specs.declared.trees.Tree.{Tree}
use Rattle.body_rewrites.specs.Trees.{Stands, AreTrees}
use Rattle.body_rewrites.specs.Open.{HasInstruction}
use Rattle.body_rewrites.specs.Cutting.{HasPart, AreCut}

-- ---- holes

-- it is the hole with the index
abbrev pub is_hole : Part → ℕ → Bool
is_hole (Hole m) n = m == n
is_hole p n = false

-- Of the parts of a pattern, the last one first, which begin at these places: where the code in the hole with the index begins, and the one before which it
-- ends; of the last one, where several have the index, and (0, 0) where none has.
abbrev pub operand_at : List Part → (starts : List ℕ) → (end n : ℕ) → ℕ × ℕ
operand_at (p ∷ ps) (k ∷ ks) end n = if is_hole p n then (k, end) else operand_at ps ks k n
operand_at ps ks end n = (0, 0)

-- that of the part's hole; where it is no hole, (0, 0)
abbrev pub operand_of : List Part → (starts : List ℕ) → (end : ℕ) → Part → ℕ × ℕ
operand_of ps ks end (Hole n) = operand_at ps ks end n
operand_of ps ks end p = (0, 0)

-- the instructions among operators
abbrev pub instructions : List Operator → List Instruction
instructions [] = []
instructions (Instr i ∷ os) = i ∷ instructions os
instructions (o ∷ os) = instructions os

-- the operators from `start` up to the one before `end`
abbrev pub operators_in : List (Operator × ℕ) → (start end : ℕ) → List Operator
operators_in operators start end = map (λ (o : Operator × ℕ). o.0) (slice_range operators start end)

-- the code in the hole with the index
abbrev pub operand_code : List (Operator × ℕ) → List Part → (starts : List ℕ) → (end n : ℕ) → List Instruction
operand_code operators ps ks end n = instructions (operators_in operators (operand_at ps ks end n).0 (operand_at ps ks end n).1)

-- the same instruction stands at both indices
abbrev pub HaveSame : List (Operator × ℕ) → (at other : ℕ) → Type 0
HaveSame operators at other = (i : Instruction) × HasInstruction operators at i × HasInstruction operators other i

-- the same instructions stand in both ranges
abbrev pub HaveSameCode : List (Operator × ℕ) → (one other : ℕ × ℕ) → Type 0
HaveSameCode operators one other = (code : List Instruction) × Stands operators one.0 one.1 code × Stands operators other.0 other.1 code

-- ---- constants

-- it is that with the index
abbrev pub is_slot_number : Number → ℕ → Bool
is_slot_number (Slot m) n = m == n
is_slot_number e n = false

-- it is the constant with that number
abbrev pub is_slot : Part → ℕ → Bool
is_slot (Constant t e) n = is_slot_number e n
is_slot p n = false

-- a constant's number
abbrev pub number_in : Imm → ℕ
number_in (imm.I32 z) = cast_unsigned w32 z
number_in (imm.I64 z) = cast_unsigned w64 z
number_in i = 0

-- that of the operator at the index, where it is one, and else 0
abbrev pub number_of_operator : Option Operator → ℕ
number_of_operator (Some (Instr i)) = number_in i.imm
number_of_operator o = 0

abbrev pub number_at : List (Operator × ℕ) → ℕ → ℕ
number_at operators at = number_of_operator (slice_get (map (λ (o : Operator × ℕ). o.0) operators) at)

-- that of the last constant with the index, and 0 where none has it
abbrev pub slot_at : List (Operator × ℕ) → List Part → (starts : List ℕ) → (n : ℕ) → ℕ
slot_at operators (p ∷ ps) (k ∷ ks) n = if is_slot p n then number_at operators k else slot_at operators ps ks n
slot_at operators ps ks n = 0

-- those of both slots
abbrev pub slots_told : List (Operator × ℕ) → List Part → (starts : List ℕ) → List ℕ
slots_told operators parts starts = slot_at operators parts starts 0 ∷ slot_at operators parts starts 1 ∷ []

-- ---- matches

-- some code stands in the range
abbrev pub HasSomeCode : List (Operator × ℕ) → (place : ℕ × ℕ) → Type 0
HasSomeCode operators place =
    (place.0 ≤ place.1) × (place.1 ≤ length operators) × ((code : List Instruction) × Stands operators place.0 place.1 code)

-- the part may stand there
abbrev pub HasSomePart : List (Operator × ℕ) → Part → (place : ℕ × ℕ) → Type 0
HasSomePart operators part place = (context : Context) × HasPart context operators part place.0 place.1

-- the part's code stands there, with that operand in its hole
abbrev pub IsAlike : List (Operator × ℕ) → Part → (place operand : ℕ × ℕ) → (numbers : List ℕ) → Type 0
IsAlike operators part place operand numbers =
    Stands operators place.0 place.1 (part_code (λ n. instructions (operators_in operators operand.0 operand.1)) (constant_at numbers) [] part)

-- Each part's code stands where the part does, with the code `x` in the holes and constants of the numbers `c`.
abbrev pub AreAlike : List (Operator × ℕ) → (x : ℕ → List Instruction) → (c : ℕ → ℕ) → List Part → (starts : List ℕ) → (end : ℕ) → Type 0
AreAlike operators x c [] [] end = ⊤
AreAlike operators x c (p ∷ ps) (k ∷ ks) end = Stands operators k end (part_code x c [] p) × AreAlike operators x c ps ks k
AreAlike operators x c ps ks end = ⊥

-- the parts may stand there
abbrev pub HasSomeCut : List (Operator × ℕ) → List Part → (starts : List ℕ) → (end : ℕ) → Type 0
HasSomeCut operators parts starts end = (context : Context) × AreCut context operators parts starts end

-- so they do, with the code of their holes, and constants with these numbers
abbrev pub AreAllAlike : List (Operator × ℕ) → List Part → (starts : List ℕ) → (end : ℕ) → (numbers : List ℕ) → Type 0
AreAllAlike operators parts starts end numbers = AreAlike operators (operand_code operators parts starts end) (constant_at numbers) parts starts end

-- the trees are those of the operators, by some module and locals
abbrev pub HasSomeTrees : List (Operator × ℕ) → List (Option Tree) → Type 0
HasSomeTrees operators trees = (context : Context) × AreTrees context operators trees

-- The parts of a pattern, the last one first, stand before `end`, with trees in its holes, the same code where a hole stands twice, and constants of these
-- numbers.
pub record IsMatch (context : Context) (operators : List (Operator × ℕ)) (parts : List Part) (starts : List ℕ) (end : ℕ) (x : ℕ → List Instruction)
    (numbers : List ℕ) : Type 0 where
  pub cut : AreCut context operators parts starts end
  pub alike : AreAlike operators x (constant_at numbers) parts starts end

-- so they do, with the code that stands in each hole, and the numbers of both slots
abbrev pub HasMatch : Context → List (Operator × ℕ) → List Part → (starts : List ℕ) → (end : ℕ) → (numbers : List ℕ) → Type 0
HasMatch context operators parts starts end numbers =
    IsMatch context operators parts starts end (operand_code operators parts starts end) numbers × (numbers ≡ slots_told operators parts starts)

-- they do with some code and some numbers, from some operator on
abbrev pub HasSomeMatch : Context → List (Operator × ℕ) → List Part → (end : ℕ) → Type 0
HasSomeMatch context operators parts end =
    (starts numbers : List ℕ) × (x : ℕ → List Instruction) × IsMatch context operators parts starts end x numbers

-- where the first part begins; where there is none, the end
abbrev pub begin_of : (starts : List ℕ) → (end : ℕ) → ℕ
begin_of [] end = end
begin_of (k ∷ ks) end = begin_of ks k

-- What matches is the code of the pattern's parts.
abbrev pub MatchesAreTheCode : Type 0
MatchesAreTheCode =
    (context : Context) (operators : List (Operator × ℕ)) (parts : List Part) (starts : List ℕ) (end : ℕ) (x : ℕ → List Instruction) (numbers : List ℕ) →
    IsMatch context operators parts starts end x numbers →
    Stands operators (begin_of starts end) end (parts_code x (constant_at numbers) [] (reverse parts))

-- ---- patterns of left sides

-- a number that is told of the constant alone: a literal, all ones, one of the width, or one of two slots
abbrev pub is_own : Number → Bool
is_own (Literal n) = true
is_own Ones = true
is_own Bits = true
is_own Sign = true
is_own (Slot i) = i == 0 || i == 1
is_own e = false

-- of a constant of the type
abbrev pub IsOwn : IntegerType → Part → Type 0
IsOwn t (Constant u e) = (u ≡ t) × IsTrue (is_own e)
IsOwn t p = ⊤

-- The numbers of the constants are such, and all are of one type.
abbrev pub AreOwn : List Part → Type 0
AreOwn parts = (t : IntegerType) × All (IsOwn t) parts

-- ---- left sides of the table

-- it holds of each row, width and left side, whose parts stand there with the last one first
abbrev pub OfEachLeft : (Line → List Part → Type 0) → Type 0
OfEachLeft P =
    (i : ℕ) (row : Row) → slice_get ROWS i ≡ Some row → (k : ℕ) (t : IntegerType) → slice_get (widths_in row.widths) k ≡ Some t → (parts : List Part) →
    reverse parts ≡ parts_for t row.left → P (line_of row t) parts

-- The constants of left sides have numbers of their own, and what matches a left side is its code.
pub record LeftsAreInstances : Type 0 where
  pub own : OfEachLeft (λ l parts. AreOwn parts)
  pub code : OfEachLeft (λ l parts. (context : Context) (operators : List (Operator × ℕ)) (starts : List ℕ) (end : ℕ) (x : ℕ → List Instruction)
      (numbers : List ℕ) → IsMatch context operators parts starts end x numbers →
      Stands operators (begin_of starts end) end (code_of x (constant_at numbers) [] l.left))
