-- Where the left side of a line of the table stands in a body, and the line applies (this project).
use Rattle.std.specs.Prelude.{◌≡◌, ℕ, ◌≤◌, ◌<◌, Bool, true, false, Option, Some, None, List, [], ◌∷◌, length, get_or, option_map, reverse, slice_get}
use Rattle.std.specs.Option.{option_flatten}
use Rattle.wasm_code.specs.Instruction.{Instruction}
use Rattle.wasm_code.specs.declared.operator.Operator.{Operator}
use Rattle.wasm_types.specs.declared.types.PrimitiveTypeInfo.{PrimitiveTypeInfo}
use Rattle.wasm_execution.specs.Values.{Context, context_in}
use Rattle.rewrite_rules.specs.declared.order.Effects.{Effects}
use Rattle.rewrite_rules.specs.declared.pattern.Part.{Part}
use Rattle.rewrite_rules.specs.Pattern.{holes}
use Rattle.rewrite_rules.specs.Order.{is_in, effect_at}
use Rattle.rewrite_rules.specs.Numbers.{constant_at}
use Rattle.rewrite_rules.specs.Line as lines
use Rattle.rewrite_rules.specs.Instance.{code_of, Applies}
use Rattle.rewrite_rules.specs.Table.{ROWS, parts_for, line_of, widths_in}
use Rattle.rewrite_rules.specs.Applying.{effects_of}
use Rattle.rewrite_rules.specs.Code.{Leaves}
use Rattle.body_rewrites.specs.declared.places.Body.{Body}
use Rattle.body_rewrites.specs.declared.places.Line.{Line}
use Rattle.body_rewrites.specs.declared.places.Place.{Place}
use Rattle.body_rewrites.specs.declared.trees.Tree.{Tree}
use Rattle.body_rewrites.specs.Blocks.{AreBlocks}
use Rattle.body_rewrites.specs.Trees.{tree_after, Stands, AreTrees}
use Rattle.body_rewrites.specs.Cutting.{AreCut}
use Rattle.body_rewrites.specs.Matching.{instructions, operators_in, operand_at, operand_code, slots_told, begin_of}
use Rattle.body_rewrites.specs.Operands.{has_hole}

-- ---- bodies

-- what its code is checked and runs under
abbrev pub context_of : Body → Context
context_of body = context_in body.info.now body.locals.now

-- the lists of trees and of blocks are those of its operators
pub record AreListsOf (context : Context) (body : Body) : Type 0 where
  pub trees : AreTrees context body.operators.now body.trees.now
  pub blocks : AreBlocks body.operators.now body.blocks.now

-- and under its own context
abbrev pub HasItsLists : Body → Type 0
HasItsLists body = AreListsOf (context_of body) body

-- ---- lines

-- It is a row of the table, and one of its widths.
pub record IsLine (line : Line) : Type 0 where
  pub number : ℕ
  pub row_is : slice_get ROWS number ≡ Some line.row
  pub place : ℕ
  pub width_is : slice_get (widths_in line.row.widths) place ≡ Some line.width

-- what the line is
abbrev pub meant : Line → lines.Line
meant line = line_of line.row line.width

-- ---- places

-- a tree's code: each instruction leaves one value, and it needs nothing from before it
abbrev pub IsTreeCode : Context → List Instruction → Type 0
IsTreeCode context code = (t : PrimitiveTypeInfo) × (tree_after context code [] ≡ Some (t ∷ []))

-- In the body the code from `start` to before `end` is the line's left side, with constants of these numbers and the operands `x`, the code of a tree in each
-- of its holes and nothing elsewhere; and there the line applies.
pub record IsPlaceOfLine (context : Context) (operators : List (Operator × ℕ)) (l : lines.Line) (start end : ℕ) (x : ℕ → List Instruction) (numbers : List ℕ) :
    Type 0 where
  pub ordered : start ≤ end
  pub inside : end ≤ length operators
  pub stands : Stands operators start end (code_of x (constant_at numbers) [] l.left)
  pub trees : (n : ℕ) → is_in (holes l.left) n ≡ true → IsTreeCode context (x n)
  pub elsewhere : (n : ℕ) → is_in (holes l.left) n ≡ false → x n ≡ []
  pub applies : Applies context l x (constant_at numbers)

-- so is some code before `end`
abbrev pub HasSomePlace : Context → List (Operator × ℕ) → lines.Line → (end : ℕ) → Type 0
HasSomePlace context operators l end =
    (start : ℕ) × (x : ℕ → List Instruction) × (numbers : List ℕ) × IsPlaceOfLine context operators l start end x numbers

-- the operands, by the operators that stand in each hole: from the first one to the one before the second
abbrev pub hole_operands_in : List (Operator × ℕ) → List (ℕ × ℕ) → ℕ → List Instruction
hole_operands_in operators places n =
    instructions (operators_in operators (get_or places n (0, 0)).0 (get_or places n (0, 0)).1)

-- the parts of its left side, the last one first
abbrev pub left_parts : Line → List Part
left_parts line = reverse (parts_for line.width line.row.left)

-- the three holes' places
abbrev pub hole_places_told : List Part → (starts : List ℕ) → (end : ℕ) → List (ℕ × ℕ)
hole_places_told parts starts end = operand_at parts starts end 0 ∷ operand_at parts starts end 1 ∷ operand_at parts starts end 2 ∷ []

-- what is told of parts that begin at these places
abbrev pub place_told : List (Operator × ℕ) → List Part → (starts : List ℕ) → (end : ℕ) → Place
place_told operators parts starts end = record {
  start = begin_of starts end;
  operands = hole_places_told parts starts end;
  numbers = slots_told operators parts starts;
}

-- A place of the line before `end` is found: its parts begin at some places, by which its start, its operands and its numbers are.
pub record IsFoundPlaceOf (context : Context) (operators : List (Operator × ℕ)) (line : Line) (end : ℕ) (place : Place) : Type 0 where
  pub is : IsPlaceOfLine context operators (meant line) place.start end (hole_operands_in operators place.operands) place.numbers
  pub starts : List ℕ
  pub cut : AreCut context operators (left_parts line) starts end
  pub place_is : place ≡ place_told operators (left_parts line) starts end

-- ---- what is known of operands (for private functions)

-- what an operand's tree tells
abbrev pub type_told : Option Tree → Option PrimitiveTypeInfo
type_told o = option_map (λ (tree : Tree). tree.gives) o

abbrev pub effects_told : Option Tree → Effects
effects_told (Some tree) = record { writes = tree.writes; traps = tree.traps; asks = tree.asks }
effects_told None = record { writes = false; traps = false; asks = false }

-- of the hole with an index, or that there is none
abbrev pub HoleIsKnown : Context → (code : List Instruction) → (is_there : Bool) → Option PrimitiveTypeInfo → Effects → Type 0
HoleIsKnown context code is_there (Some t) effects = (is_there ≡ true) × Leaves context code t × (effects ≡ effects_of code)
HoleIsKnown context code is_there None effects = (is_there ≡ false) × (effects ≡ effects_told None)

-- of each of the three holes that a line may have
pub record AreKnown (context : Context) (operators : List (Operator × ℕ)) (parts : List Part) (starts : List ℕ) (end : ℕ)
    (types : List (Option PrimitiveTypeInfo)) (effects : List Effects) : Type 0 where
  pub types_count : length types ≡ 3
  pub effects_count : length effects ≡ 3
  pub each : (n : ℕ) → n < 3 →
      HoleIsKnown context (operand_code operators parts starts end n) (has_hole parts n) (option_flatten (slice_get types n)) (effect_at effects n)
