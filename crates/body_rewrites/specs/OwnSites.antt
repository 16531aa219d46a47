-- How rules beside the table are found and written in a body: for private functions (this project).
use Rattle.std.specs.Prelude.{◌≡◌, ℕ, suc, ◌+◌, ◌^◌, ◌<◌, ◌≤◌, false, List, [], ◌∷◌, ◌++◌, length, map, ⊤, Option, Some, None, true, option_to_list, slice_get}
use Rattle.wasm_code.specs.Instruction.{Instruction, IsInstruction}
use Rattle.wasm_code.specs.declared.immediate.Imm.{Imm}
use Rattle.wasm_code.specs.declared.immediate.Imm.TheVariants as imm
use Rattle.wasm_code.specs.declared.operator.Operator.{Operator}
use Rattle.wasm_code.specs.declared.operator.Operator.TheVariants.{Instr, Br, BrIf, BrTable}
use Rattle.wasm_types.specs.declared.types.PrimitiveTypeInfo.{PrimitiveTypeInfo}
use Rattle.wasm_types.specs.declared.types.PrimitiveTypeInfo.TheVariants as primitive
use Rattle.body_splices.specs.declared.piece.Piece.{Piece}
use Rattle.body_splices.specs.OwnBytes.{without_offsets}
use Rattle.wrapped_code.specs.Opened.{opens_bare}
use Rattle.wasm_execution.specs.declared.integer.IntegerType.{IntegerType}
use Rattle.wasm_execution.specs.declared.integer.IntegerType.TheVariants as integer
use Rattle.wasm_execution.specs.declared.operation.Operation.{Operation}
use Rattle.wasm_execution.specs.Values.{Context, types}
use Rattle.wasm_execution.specs.Computed.{computed}
use Rattle.wasm_execution.specs.Operation.{operator_of}
use Rattle.rewrite_rules.specs.declared.pattern.Operator.TheVariants.{Whole}
use Rattle.rewrite_rules.specs.declared.access.AccessKind.{AccessKind}
use Rattle.rewrite_rules.specs.declared.access.AccessKind.TheVariants.{Load, Store, Constant}
use Rattle.rewrite_rules.specs.declared.access.AccessSide.{AccessSide}
use Rattle.rewrite_rules.specs.declared.growth.Growth as rows
use Rattle.rewrite_rules.specs.declared.growth.Growth.TheVariants as growths
use Rattle.rewrite_rules.specs.Access.{IsOfRow, access_growth, code_with, right_code, side_code}
use Rattle.rewrite_rules.specs.Code.{asks}
use Rattle.rewrite_rules.specs.Instance.{constant_code, operator_code}
use Rattle.rewrite_rules.specs.Beside.{left_by}
use Rattle.rewrite_rules.specs.Flow.{below_code, select_code}
use Rattle.body_rewrites.specs.declared.changes.NewCode.{NewCode}
use Rattle.body_rewrites.specs.declared.growth.Growth.{Growth}
use Rattle.body_rewrites.specs.declared.growth.Growth.TheVariants.{Shrinks, Keeps, Grows}
use Rattle.rewrite_rules.specs.declared.table.Own.{Own}
use Rattle.rewrite_rules.specs.declared.table.Own.TheVariants.{Fold}
use Rattle.body_rewrites.specs.declared.own.Made.{Made}
use Rattle.body_rewrites.specs.declared.own.Made.TheVariants as made
use Rattle.body_rewrites.specs.declared.own.Site.{Site}
use Rattle.body_rewrites.specs.Open.{HasInstruction}
use Rattle.rewrite_rules.specs.declared.wrap.Wrap.{Wrap}
use Rattle.rewrite_rules.specs.declared.wrap.WrapItem.{WrapItem}
use Rattle.rewrite_rules.specs.declared.wrap.WrapItem.TheVariants.{Zero, NonZero, Any}
use Rattle.rewrite_rules.specs.Wrap.{front_of, back_of, value_of}
use Rattle.wasm_code.specs.declared.immediate.ValType.{ValType}
use Rattle.body_rewrites.specs.declared.trees.Tree.{Tree}
use Rattle.body_rewrites.specs.Trees.{IsTree}
use Rattle.body_rewrites.specs.Own.{HasCondition, HasTable, HaveItems, IsFolded, IsReadBefore, Rewrites}

-- ---- instructions

-- the row's instruction stands there, without an immediate, or with an index
abbrev pub HasBare : List (Operator × ℕ) → (at row : ℕ) → Type 0
HasBare operators at row = HasInstruction operators at (record { row = row; imm = imm.Nothing })

abbrev pub HasIndexed : List (Operator × ℕ) → (at row n : ℕ) → Type 0
HasIndexed operators at row n = HasInstruction operators at (record { row = row; imm = imm.Index n })

-- these stand there, one behind another
abbrev pub StandFrom : List (Operator × ℕ) → (start : ℕ) → List Instruction → Type 0
StandFrom operators start [] = ⊤
StandFrom operators start (i ∷ code) = HasInstruction operators start i × StandFrom operators (start + 1) code

-- the operator on whole numbers stands there
abbrev pub HasOperation : List (Operator × ℕ) → ℕ → Operation → Type 0
HasOperation operators at f = HasInstruction operators at (operator_code (Whole f))

-- ---- what is found

-- the operator takes operands of the constants' types, and has that value on them
pub record IsValueOn (f : Operation) (constants : List (IntegerType × ℕ)) (n : ℕ) : Type 0 where
  pub typed : types (left_by constants) ≡ (operator_of f).operands
  pub value_is : computed (operator_of f) (map (λ v. v.number) (left_by constants)) ≡ Some n

-- what is made of that many constants and the operator behind them, or that nothing is
abbrev pub IsFoldOf : List (Operator × ℕ) → (count at : ℕ) → Option Site → Type 0
IsFoldOf operators count at (Some site) = (context : Context) → Rewrites context operators Fold site.start at site.made
IsFoldOf operators count at None =
    (start : ℕ) (t : IntegerType) (n : ℕ) (f : IsFolded operators start at t n) → ¬ (length f.operands ≡ count)

-- what the rule makes at the operator, or that it makes nothing
abbrev pub IsSiteOf : Context → List (Operator × ℕ) → Own → (at : ℕ) → Option Site → Type 0
IsSiteOf context operators own at (Some site) = Rewrites context operators own site.start at site.made
IsSiteOf context operators own at None = (start : ℕ) (m : Made) → ¬ (Rewrites context operators own start at m)

-- where the instruction with the immediate stands, and where the conversion begins, of so many instructions, in code that begins there
abbrev pub places : AccessKind → (start size : ℕ) → ℕ × ℕ
places Load start size = (start, start + 1)
places Constant start size = (start, start + 1)
places Store start size = (start + size, start)

-- the row's instruction with that immediate stands there
pub record IsImmediateAt (operators : List (Operator × ℕ)) (at row : ℕ) (i : Imm) : Type 0 where
  pub fits : IsInstruction (code_with row i)
  pub has : HasInstruction operators at (code_with row i)

-- it is the immediate of the side, which stands from `start` on
pub record IsImmediateOf (operators : List (Operator × ℕ)) (start : ℕ) (kind : AccessKind) (side : AccessSide) (i : Imm) : Type 0 where
  pub fits : IsInstruction (code_with side.row i)
  pub stand : StandFrom operators start (side_code kind side i)

-- the `i32` constant of the number
abbrev pub IsConstantOperator : Operator → ℕ → Type 0
IsConstantOperator o n = (n < 2 ^ 32) × (o ≡ Instr (constant_code integer.I32 n))

-- the item is a constant
abbrev pub IsConstantItem : WrapItem → Type 0
IsConstantItem Zero = ⊤
IsConstantItem NonZero = ⊤
IsConstantItem Any = ⊤
IsConstantItem i = ⊥

-- operators wrap the tree in that way from `start` on, which ends before the operator at `end`
pub record IsWrapRound (operators : List (Operator × ℕ)) (w : Wrap) (tree : Tree) (end start : ℕ) : Type 0 where
  pub value : ValType
  pub value_is : value_of tree.gives ≡ Some value
  pub ordered : tree.start ≤ end
  pub begins : start + length (front_of w) ≡ tree.start
  pub before : HaveItems operators start (front_of w) value
  pub behind : HaveItems operators end (back_of w) value

-- a tree of 32 bits stands from `start` on up to the operator at `last`, and what asks whether a number is zero at `behind`
pub record IsAskedBehind (context : Context) (operators : List (Operator × ℕ)) (start last behind : ℕ) : Type 0 where
  pub tree : IsTree context operators start last primitive.I32
  pub asks : HasCondition operators behind

-- from `start` up to the operator before `end` stands a tree of 32 bits that writes nothing and doesn't ask the world
pub record IsSettledBefore (context : Context) (operators : List (Operator × ℕ)) (start end : ℕ) : Type 0 where
  pub read : IsReadBefore context operators start end
  pub settled : asks read.tree.code ≡ false

-- it is a branch by a table of so many labels
abbrev pub IsTableOperator : Operator → ℕ → Type 0
IsTableOperator o n = (n < 2 ^ 32) × (o ≡ BrTable n)

-- The number of labels stands at `place`, then what compares with it without signs, a select, at `at`, and a branch by a table of so many.
pub record IsBoundAt (operators : List (Operator × ℕ)) (place at count : ℕ) : Type 0 where
  pub ends : place + 2 ≡ at
  pub limit : HasInstruction operators place (constant_code integer.I32 count)
  pub compares : HasInstruction operators (place + 1) below_code
  pub selects : HasInstruction operators at select_code
  pub behind : HasTable operators (at + 1) count

-- It is a `br_if` to that label, which has one byte also where it is one further out.
abbrev pub IsBranchIf : Operator → ℕ → Type 0
IsBranchIf o label = (label + 1 < 2 ^ 8) × (o ≡ BrIf label)

-- such a one stands there
abbrev pub HasBranchIf : List (Operator × ℕ) → (at label : ℕ) → Type 0
HasBranchIf operators at label = (label + 1 < 2 ^ 8) × (slice_get (without_offsets operators) at ≡ Some (BrIf label))

-- It is a branch to the label around the one with that depth, which has one byte.
abbrev pub IsOuterBranch : Operator → ℕ → Type 0
IsOuterBranch o label = (label < 2 ^ 8) × (o ≡ Br (suc label))

-- such a one stands there
abbrev pub HasOuterBranch : List (Operator × ℕ) → (at label : ℕ) → Type 0
HasOuterBranch operators at label = (label < 2 ^ 8) × (slice_get (without_offsets operators) at ≡ Some (Br (suc label)))

-- an operator stands there that opens a block to whose label a branch takes nothing
pub record HasBareOpener (operators : List (Operator × ℕ)) (at : ℕ) : Type 0 where
  pub operator : Operator
  pub has : slice_get (without_offsets operators) at ≡ Some operator
  pub is : opens_bare operator ≡ true

-- ---- what is written

-- the piece with the immediate, with those of the conversion
abbrev pub pieces_in_order : AccessKind → (first : Piece) → (conversion : List Piece) → List Piece
pieces_in_order Load first conversion = first ∷ conversion
pieces_in_order Constant first conversion = first ∷ conversion
pieces_in_order Store first conversion = conversion ++ first ∷ []

-- each is an instruction of the standard
abbrev pub AreOfRows : List Instruction → Type 0
AreOfRows [] = ⊤
AreOfRows (i ∷ code) = IsOfRow i.row i.imm × AreOfRows code

-- so is what is made
abbrev pub IsWritable : Made → Type 0
IsWritable (made.Access a m) = AreOfRows (right_code a m)
IsWritable (made.InConditional label) = label + 1 < 2 ^ 8
IsWritable m = ⊤

-- the code is these pieces in the place of code from `start` on
pub record IsNewCode (start : ℕ) (pieces : List Piece) (asks : List PrimitiveTypeInfo) (code : NewCode) : Type 0 where
  pub start_is : code.start ≡ start
  pub pieces_are : code.pieces.items ≡ pieces
  pub asks_are : option_to_list code.asks ≡ asks

-- the growth of a row, as one of bodies
abbrev pub in_bodies : rows.Growth → Growth
in_bodies growths.Shrinks = Shrinks
in_bodies growths.Keeps = Keeps
in_bodies growths.Grows = Grows

-- what is made grows so, beside what it is made of
abbrev pub growth_of : Made → Growth
growth_of made.Nothing = Shrinks
growth_of (made.Constant t n) = Shrinks
growth_of (made.Sum t n) = Grows
growth_of made.Nop = Grows
growth_of (made.Global t g) = Grows
growth_of (made.SetAndGet n) = Grows
growth_of (made.Tee n) = Shrinks
growth_of (made.Access a m) = in_bodies (access_growth a)
growth_of (made.Wrapped w t) = Grows
growth_of (made.Inner from end) = Shrinks
growth_of (made.Conditional v condition) = Grows
growth_of made.Selected = Shrinks
growth_of made.Tested = Grows
growth_of made.DoublyTested = Grows
growth_of made.Dead = Grows
growth_of (made.Bounded count) = Grows
growth_of (made.InConditional label) = Grows
growth_of (made.BranchIf label) = Shrinks
