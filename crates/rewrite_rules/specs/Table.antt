-- The table of rules, which stands in the code: the lines of each row (this project).
use Rattle.std.specs.Prelude.{◌≡◌, ℕ, Bool, true, false, ◌||◌, ⊤, List, [], ◌∷◌, ◌++◌, map, Option, Some, None, slice_get, get_or}
use Rattle.std.specs.List.{All}
use Rattle.wasm_code.specs.Instruction.{fits_row}
use Rattle.wasm_code.specs.Table.{row_at}
use Rattle.wasm_types.specs.declared.types.PrimitiveTypeInfo.{PrimitiveTypeInfo}
use Rattle.wasm_types.specs.declared.types.PrimitiveTypeInfo.TheVariants as primitive
use Rattle.wasm_execution.specs.declared.integer.IntegerType.{IntegerType}
use Rattle.wasm_execution.specs.declared.integer.IntegerType.TheVariants as integer
use Rattle.wasm_execution.specs.declared.operation.Operation.TheVariants as operation
use Rattle.wasm_execution.specs.Values.{type_of}
use Rattle.rewrite_rules.specs.declared.pattern.Operator.{Operator}
use Rattle.rewrite_rules.specs.declared.pattern.Operator.TheVariants as operator
use Rattle.rewrite_rules.specs.declared.pattern.Part.{Part}
use Rattle.rewrite_rules.specs.declared.pattern.Part.TheVariants as part
use Rattle.rewrite_rules.specs.declared.table.Step.{Step}
use Rattle.rewrite_rules.specs.declared.table.Step.TheVariants.{Operand, Constant, Drawn, Binary, Compare, Eqz, Select, Whole, Exact, End}
use Rattle.rewrite_rules.specs.declared.table.Widths.{Widths}
use Rattle.rewrite_rules.specs.declared.table.Widths.TheVariants.{Both, Only, Any, Operands, Own}
use Rattle.rewrite_rules.specs.declared.table.Condition as asked
use Rattle.rewrite_rules.specs.declared.table.Condition.TheVariants.{BelowWidth, Power, Mask, Turns}
use Rattle.rewrite_rules.specs.declared.table.Row.{Row}
use Rattle.rewrite_rules.specs.declared.table.integers.TheConstants.{ORDERS, GROUPS, LONGER, FORMS, NEUTRAL, POWERS, TWICE}
use Rattle.rewrite_rules.specs.declared.table.integers.TheConstants.{ALONE, TESTS, OPPOSITES, PARTS, SHORTER, BACK, FRONT, AGAIN, SIGNS}
use Rattle.rewrite_rules.specs.declared.table.integers.TheConstants.{EQUALS, COUNTED, TURNED}
use Rattle.rewrite_rules.specs.declared.table.integers.TheConstants.{ABSORBED, SETTLED}
use Rattle.rewrite_rules.specs.declared.table.floats.TheConstants.{FLOATS, FLOAT_BITS, FLOAT_SIGNS, FLOAT_COPIES, FLOAT_TESTS, FLOAT_SELVES}
use Rattle.rewrite_rules.specs.declared.table.floats.TheConstants.{FLOAT_TURNS, FLOAT_ORDERS}
use Rattle.rewrite_rules.specs.declared.table.vectors.TheConstants.{VECTOR_BITS, VECTOR_FORMS, LANE_SUMS, LANE_NEGATIVES, LANE_ZEROS, LANE_MAGNITUDES}
use Rattle.rewrite_rules.specs.declared.table.lane_tests.TheConstants.{LANE_ORDERS, WIDE_ORDERS, LANE_OPPOSITES, WIDE_OPPOSITES}
use Rattle.rewrite_rules.specs.declared.table.lane_tests.TheConstants.{LANE_COMPLEMENTS, WIDE_COMPLEMENTS}
use Rattle.rewrite_rules.specs.declared.table.vectors.TheConstants.{LANE_SHIFTS, LANE_TURNS, LANE_FLOATS}
use Rattle.rewrite_rules.specs.declared.table.lane_tests.TheConstants.{LANE_BOUNDS, LANE_REPEATS, LANE_CHOICES}
use Rattle.rewrite_rules.specs.declared.table.accesses.TheConstants.{ACCESS_BITS, ACCESS_WIDTHS, LOAD_SIGNS, STORE_SIGNS, ALIGNMENTS, CONSTANTS}
use Rattle.rewrite_rules.specs.declared.table.vectors.TheConstants.{VECTOR_DECIDED}
use Rattle.rewrite_rules.specs.declared.table.lane_moves.TheConstants.{LANE_SPLATS, LANE_BITS, SPLAT_BITS, SIGNED_LANES, EXTENDED_LANES}
use Rattle.rewrite_rules.specs.declared.table.integers.TheConstants.{EXTENSIONS, EXTENSION_MASKS, EXTENSION_MOVES, SIGN_TESTS, POWER_TESTS}
use Rattle.rewrite_rules.specs.declared.table.integers.TheConstants.{ZERO_COUNTS, HALVES, UNDONE}
use Rattle.rewrite_rules.specs.declared.table.vectors.TheConstants.{SATURATED_LANES, LANE_COUNTS}
use Rattle.rewrite_rules.specs.declared.table.lane_tests.TheConstants.{FLOAT_LANE_ORDERS, FLOAT_LANE_OPPOSITES, FLOAT_LANE_CHOICES}
use Rattle.rewrite_rules.specs.declared.table.lane_moves.TheConstants.{NARROWED_LANES}
use Rattle.rewrite_rules.specs.declared.table.floats.TheConstants.{CONVERSIONS}
use Rattle.rewrite_rules.specs.declared.table.vectors.TheConstants.{SWIZZLES}
use Rattle.rewrite_rules.specs.declared.table.lane_tests.TheConstants.{FLOAT_LANE_BOUNDS}
use Rattle.rewrite_rules.specs.declared.table.lane_moves.TheConstants.{LANE_CONVERSIONS, REPLACED_BITS, MASKED_LANES, UNMASKED_LANES}
use Rattle.rewrite_rules.specs.declared.table.accesses.TheConstants.{WIDE_ACCESSES, CONSTANT_BITS}
use Rattle.rewrite_rules.specs.declared.table.control.TheConstants.{CONTROL}
use Rattle.rewrite_rules.specs.declared.table.further.TheConstants.{FURTHER}
use Rattle.rewrite_rules.specs.Pattern.{Kind, fixed, any, operands_of, Pattern, Patterns, hole, constant, drawn, apply, none, ◌▹◌}
use Rattle.rewrite_rules.specs.Instance.{row_number, immediate_of}
use Rattle.rewrite_rules.specs.Parts.{parts_of}
use Rattle.rewrite_rules.specs.Line.{Line, Condition, is_below_width, is_power, is_mask, are_turns}

-- ---- sides

-- It stands where steps are no pattern, and is never well formed.
abbrev pub no_pattern : Pattern
no_pattern = apply operator.Select none

-- an operator behind the patterns of its operands, of which the last one stands first; the list `kinds` has one for each that is still to be taken
abbrev pub applied : Operator → (kinds : List Kind) → Patterns → List Pattern → List Pattern
applied o [] qs ps = apply o qs ∷ ps
applied o (k ∷ ks) qs [] = no_pattern ∷ []
applied o (k ∷ ks) qs (p ∷ ps) = applied o ks (p ▹ qs) ps

abbrev pub behind : Operator → List Pattern → List Pattern
behind o ps = applied o (operands_of o) none ps

-- the patterns behind a step, for a width, by those before it
abbrev pub after_step : IntegerType → Step → List Pattern → List Pattern
after_step t (Operand n) ps = hole n ∷ ps
after_step t (Constant n) ps = constant t n ∷ ps
after_step t Drawn ps = drawn t ∷ ps
after_step t (Binary f) ps = behind (operator.Whole (operation.Binary t f)) ps
after_step t (Compare f) ps = behind (operator.Whole (operation.Compare t f)) ps
after_step t Eqz ps = behind (operator.Whole (operation.Eqz t)) ps
after_step t Select ps = behind operator.Select ps
after_step t (Whole f) ps = behind (operator.Whole f) ps
after_step t (Exact n i) ps = behind (operator.Exact n i) ps
after_step t End ps = ps

-- behind the steps before the end
abbrev pub after_steps : IntegerType → List Step → List Pattern → List Pattern
after_steps t [] ps = ps
after_steps t (End ∷ steps) ps = ps
after_steps t (s ∷ steps) ps = after_steps t steps (after_step t s ps)

-- the only one
abbrev pub single : List Pattern → Pattern
single (p ∷ []) = p
single ps = no_pattern

-- the pattern that a side is, for a width
abbrev pub pattern_of : IntegerType → List Step → Pattern
pattern_of t steps = single (after_steps t steps [])

-- ---- parts

-- the part that a step is, for a width, where it does not end its side
abbrev pub part_for : IntegerType → Step → Option Part
part_for t (Operand n) = Some (part.Hole n)
part_for t (Constant n) = Some (part.Constant t n)
part_for t Drawn = Some (part.Drawn t)
part_for t (Binary f) = Some (part.Apply (operator.Whole (operation.Binary t f)))
part_for t (Compare f) = Some (part.Apply (operator.Whole (operation.Compare t f)))
part_for t Eqz = Some (part.Apply (operator.Whole (operation.Eqz t)))
part_for t Select = Some (part.Apply operator.Select)
part_for t (Whole f) = Some (part.Apply (operator.Whole f))
part_for t (Exact n i) = Some (part.Apply (operator.Exact n i))
part_for t End = None

-- those up to the one before the first that is none
abbrev pub up_to_none : List (Option Part) → List Part
up_to_none [] = []
up_to_none (None ∷ os) = []
up_to_none (Some p ∷ os) = p ∷ up_to_none os

-- the parts of a side, for a width
abbrev pub parts_for : IntegerType → List Step → List Part
parts_for t steps = up_to_none (map (part_for t) steps)

-- one of the steps before the end is an exact row
abbrev pub is_exact_step : Step → Bool
is_exact_step (Exact n i) = true
is_exact_step s = false

abbrev pub has_exact : List Step → Bool
has_exact [] = false
has_exact (End ∷ steps) = false
has_exact (s ∷ steps) = is_exact_step s || has_exact steps

-- ---- rows

-- one of its sides has one
abbrev pub needs_exact : Row → Bool
needs_exact row = has_exact row.left || has_exact row.right

-- the types of the operands
abbrev pub kinds_for : Widths → IntegerType → List Kind
kinds_for Any t = any ∷ any ∷ fixed primitive.I32 ∷ []
kinds_for (Operands a b c) t = fixed a ∷ fixed b ∷ fixed c ∷ []
kinds_for w t = fixed (type_of t) ∷ fixed (type_of t) ∷ fixed (type_of t) ∷ []

-- what is asked of a constant of the width
abbrev pub condition_for : IntegerType → asked.Condition → Condition
condition_for t (BelowWidth i) = is_below_width t i
condition_for t (Power i) = is_power t i
condition_for t (Mask i) = is_mask t i
condition_for t (Turns i j) = are_turns t i j

abbrev pub conditions_for : IntegerType → Option asked.Condition → List Condition
conditions_for t None = []
conditions_for t (Some k) = condition_for t k ∷ []

-- the line that a row is, for a width
abbrev pub line_of : Row → IntegerType → Line
line_of r t = record {
  left = pattern_of t r.left;
  right = pattern_of t r.right;
  kinds = kinds_for r.widths t;
  conditions = conditions_for t r.condition;
}

-- the width of the integers with as many bits as a number of the type, or 32
abbrev pub width_by : PrimitiveTypeInfo → IntegerType
width_by primitive.I64 = integer.I64
width_by primitive.F64 = integer.I64
width_by t = integer.I32

-- the widths; a row of any operands is read for one, and so is one whose operands' types are told, and a rule that is no row for none
abbrev pub widths_in : Widths → List IntegerType
widths_in Both = integer.I32 ∷ integer.I64 ∷ []
widths_in (Only t) = t ∷ []
widths_in Any = integer.I32 ∷ []
widths_in (Operands a b c) = width_by a ∷ []
widths_in (Own o) = []

abbrev pub row_lines_of : Row → List Line
row_lines_of r = map (line_of r) (widths_in r.widths)

-- ---- the table

-- a text that the code refers to
abbrev pub Text : Type 0
Text = record { now : List ℕ }

-- a line of it: the name of the rule that begins with it, where one does, its widths, what is asked of its constants, and its sides
abbrev pub Entry : Type 0
Entry = Option Text × Widths × Option asked.Condition × List Step × List Step

-- its row
abbrev pub row_in : Entry → Row
row_in e = record { widths = e.1; condition = e.2; left = e.3; right = e.4 }

-- those of each constant
unfoldable pub parts : List (List Entry)
parts =
    ORDERS ∷ GROUPS ∷ LONGER ∷ FORMS ∷ NEUTRAL ∷ POWERS ∷ TWICE ∷ ALONE ∷ TESTS ∷ OPPOSITES ∷ PARTS ∷ SHORTER ∷ BACK ∷ FRONT ∷ AGAIN ∷
    SIGNS ∷ EQUALS ∷ COUNTED ∷ TURNED ∷ ABSORBED ∷ SETTLED ∷ FLOATS ∷ FLOAT_BITS ∷ FLOAT_SIGNS ∷ FLOAT_COPIES ∷
    FLOAT_TESTS ∷ FLOAT_SELVES ∷ FLOAT_TURNS ∷ FLOAT_ORDERS ∷
    VECTOR_BITS ∷ VECTOR_FORMS ∷ LANE_SUMS ∷ LANE_NEGATIVES ∷ LANE_ZEROS ∷ LANE_MAGNITUDES ∷
    LANE_ORDERS ∷ WIDE_ORDERS ∷ LANE_OPPOSITES ∷ WIDE_OPPOSITES ∷ LANE_COMPLEMENTS ∷ WIDE_COMPLEMENTS ∷
    LANE_BOUNDS ∷ LANE_REPEATS ∷ LANE_CHOICES ∷ LANE_SHIFTS ∷ LANE_TURNS ∷ LANE_FLOATS ∷
    LANE_SPLATS ∷ LANE_BITS ∷ SPLAT_BITS ∷ SIGNED_LANES ∷ EXTENDED_LANES ∷ VECTOR_DECIDED ∷
    ACCESS_BITS ∷ ACCESS_WIDTHS ∷ LOAD_SIGNS ∷ STORE_SIGNS ∷ ALIGNMENTS ∷ CONSTANTS ∷
    EXTENSIONS ∷ EXTENSION_MASKS ∷ EXTENSION_MOVES ∷ SIGN_TESTS ∷ POWER_TESTS ∷ ZERO_COUNTS ∷ HALVES ∷ UNDONE ∷
    FLOAT_LANE_ORDERS ∷ FLOAT_LANE_OPPOSITES ∷ FLOAT_LANE_CHOICES ∷ SATURATED_LANES ∷ LANE_COUNTS ∷ NARROWED_LANES ∷
    LANE_CONVERSIONS ∷ CONVERSIONS ∷ REPLACED_BITS ∷ MASKED_LANES ∷ UNMASKED_LANES ∷ SWIZZLES ∷ WIDE_ACCESSES ∷ FLOAT_LANE_BOUNDS ∷
    CONTROL ∷ CONSTANT_BITS ∷ FURTHER ∷ []

abbrev pub part_at : ℕ → List Entry
part_at n = get_or parts n []

-- lists one behind another
abbrev pub joined : List (List Entry) → List Entry
joined [] = []
joined (es ∷ rest) = es ++ joined rest

-- all of them
abbrev pub entries : List Entry
entries = joined parts

-- their rows
abbrev pub rows_of : List Entry → List Row
rows_of es = map row_in es

abbrev pub ROWS : List Row
ROWS = rows_of entries

-- the part's operator is an instruction of the standard, of which the row and the immediate go together
abbrev pub PartIsInstruction : Part → Type 0
PartIsInstruction (part.Apply o) = fits_row (row_at (row_number o)) (immediate_of o) ≡ true
PartIsInstruction p = ⊤

-- It holds of each line of each row of the table.
abbrev pub OfEachLine : (Line → Type 0) → Type 0
OfEachLine P = (i : ℕ) (row : Row) → slice_get ROWS i ≡ Some row → (k : ℕ) (l : Line) → slice_get (row_lines_of row) k ≡ Some l → P l

-- The patterns of each line of the table have the parts that its row's sides have for its width.
abbrev pub SidesAreParts : Type 0
SidesAreParts =
    (i : ℕ) (row : Row) → slice_get ROWS i ≡ Some row → (k : ℕ) (t : IntegerType) → slice_get (widths_in row.widths) k ≡ Some t →
    (parts_of (line_of row t).left ≡ parts_for t row.left) × (parts_of (line_of row t).right ≡ parts_for t row.right)

-- So are all operators on the right sides.
abbrev pub PartsAreInstructions : Type 0
PartsAreInstructions =
    (i : ℕ) (row : Row) → slice_get ROWS i ≡ Some row → (k : ℕ) (t : IntegerType) → slice_get (widths_in row.widths) k ≡ Some t →
    All PartIsInstruction (parts_for t row.right)
