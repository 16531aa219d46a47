-- The rules that are no rows of the table, on the operators of a body (this project).
use Rattle.std.specs.Prelude.{◌≡◌, ℕ, suc, ◌+◌, ◌-◌, ◌%◌, ◌^◌, ◌<◌, Bool, true, false, List, [], ◌∷◌, ◌++◌, length, map, take, slice_get, ⊤, Some}
use mir.Val.{bits}
use Rattle.wasm_code.specs.Instruction.{Instruction, IsInstruction}
use Rattle.wasm_code.specs.declared.immediate.Imm.{Imm}
use Rattle.wasm_code.specs.declared.immediate.ValType.{ValType}
use Rattle.wasm_code.specs.declared.operator.Operator.{Operator}
use Rattle.wasm_code.specs.declared.immediate.BlockType.TheVariants.{Empty}
use Rattle.wasm_code.specs.declared.operator.Operator.TheVariants.{If, End, Br, BrIf, BrTable}
use Rattle.wasm_types.specs.declared.types.PrimitiveTypeInfo.{PrimitiveTypeInfo}
use Rattle.wasm_types.specs.declared.types.PrimitiveTypeInfo.TheVariants as primitive
use Rattle.body_splices.specs.declared.piece.Piece.{Piece}
use Rattle.body_splices.specs.declared.piece.Piece.TheVariants.{Kept, New, Structural}
use Rattle.body_splices.specs.declared.control.Control.TheVariants as control
use Rattle.body_splices.specs.OwnBytes.{without_offsets}
use Rattle.wasm_equivalence.specs.control.Standard.{asks_beyond}
use Rattle.wrapped_code.specs.Conditions.{is_condition}
use Rattle.wrapped_code.specs.Dead.{never_goes_on}
use Rattle.wrapped_code.specs.Opened.{TakesNothing}
use Rattle.wasm_execution.specs.declared.integer.IntegerType.{IntegerType}
use Rattle.wasm_execution.specs.declared.integer.IntegerType.TheVariants as integer
use Rattle.wasm_execution.specs.declared.operation.Operation.{Operation}
use Rattle.wasm_execution.specs.Values.{Context, width_of, types}
use Rattle.wasm_execution.specs.Computed.{computed}
use Rattle.wasm_execution.specs.Operation.{operator_of}
use Rattle.rewrite_rules.specs.declared.pattern.Operator.TheVariants.{Whole}
use Rattle.rewrite_rules.specs.declared.access.Access.{Access}
use Rattle.rewrite_rules.specs.Access.{access_at, code_with, left_code, right_code, written_imm}
use Rattle.rewrite_rules.specs.Code.{writes, traps, asks}
use Rattle.rewrite_rules.specs.Instance.{constant_code, operator_code}
use Rattle.rewrite_rules.specs.Beside.{nop_code, drop_code, get_local, set_local, tee_local, get_global, set_global, constants, left_by, sum_code}
use Rattle.rewrite_rules.specs.declared.wrap.Wrap.{Wrap}
use Rattle.rewrite_rules.specs.declared.wrap.WrapItem.{WrapItem}
use Rattle.rewrite_rules.specs.declared.wrap.WrapItem.TheVariants as item
use Rattle.rewrite_rules.specs.Wrap.{front_of, back_of, value_of, IsItem}
use Rattle.rewrite_rules.specs.Flow.{is_leaf, zero_code, ne_code, eqz_code, below_code, select_code}
use Rattle.rewrite_rules.specs.declared.table.Own.{Own}
use Rattle.rewrite_rules.specs.declared.table.Own.TheVariants as own_rule
use Rattle.rewrite_rules.specs.declared.table.Own.TheVariants.{Unfold, ThroughGlobal, WithNop, Fold, Forget, TeeToSet, DropNop, SetToTee}
use Rattle.rewrite_rules.specs.declared.table.Own.TheVariants.{SelectToIf, IfToSelect, TestCondition, DropConditionTest, DoubleCondition}
use Rattle.rewrite_rules.specs.declared.table.Own.TheVariants.{DropDoubleCondition, PutDead, DropDead}
use Rattle.rewrite_rules.specs.declared.table.Own.TheVariants.{BoundIndex, DropIndexBound, BrIfToIf, IfToBrIf}
use Rattle.body_rewrites.specs.declared.own.Made.{Made}
use Rattle.body_rewrites.specs.declared.own.Made.TheVariants as made
use Rattle.body_rewrites.specs.declared.own.Site.{Site}
use Rattle.body_rewrites.specs.Trees.{Stands, IsTree}
use Rattle.body_rewrites.specs.Open.{HasInstruction}
use Rattle.body_rewrites.specs.Blocks.{HasRoomForBlock}
use Rattle.body_rewrites.specs.Changes.{Change, MayStand}

-- ---- what stands there

-- the constant of the type and that number stands there
pub record HasConstant (operators : List (Operator × ℕ)) (at : ℕ) (t : IntegerType) (n : ℕ) : Type 0 where
  pub small : n < 2 ^ bits (width_of t)
  pub has : HasInstruction operators at (constant_code t n)

-- a type of numbers that is none of vectors
abbrev pub is_number : PrimitiveTypeInfo → Bool
is_number primitive.I32 = true
is_number primitive.I64 = true
is_number primitive.F32 = true
is_number primitive.F64 = true
is_number t = false

-- From `start` on stand as many constants as an operator takes, of its operands' types, and the operator, at `at`; on these it has a value.
pub record IsFolded (operators : List (Operator × ℕ)) (start at : ℕ) (t : IntegerType) (n : ℕ) : Type 0 where
  pub operation : Operation
  pub operands : List (IntegerType × ℕ)
  pub ends : start + length operands ≡ at
  pub stands : Stands operators start (at + 1) (constants operands ++ operator_code (Whole operation) ∷ [])
  pub typed : types (left_by operands) ≡ (operator_of operation).operands
  pub type_is : (operator_of operation).result ≡ t
  pub value_is : computed (operator_of operation) (map (λ v. v.number) (left_by operands)) ≡ Some n

-- A tree of the type from `start` on, which neither writes nor traps, and a drop, at `at`.
pub record IsForgotten (context : Context) (operators : List (Operator × ℕ)) (start at : ℕ) : Type 0 where
  pub dropped : HasInstruction operators at drop_code
  pub last : ℕ
  pub ends : last + 1 ≡ at
  pub type : PrimitiveTypeInfo
  pub tree : IsTree context operators start last type
  pub reads : writes tree.code ≡ false
  pub returns : traps tree.code ≡ false

-- From `start` on, up to the operator at `at`, stands the left side of the access with the number, where what runs the module is exact; and `written` is the
-- immediate that is written.
pub record IsAccessed (context : Context) (operators : List (Operator × ℕ)) (n start at : ℕ) (access : Access) (written : Imm) : Type 0 where
  pub exact : context.info.exact ≡ true
  pub listed : access_at n ≡ Some access
  pub immediate : Imm
  pub fits : IsInstruction (code_with access.left.row immediate)
  pub ends : start + length (left_code access immediate) ≡ at + 1
  pub stands : Stands operators start (at + 1) (left_code access immediate)
  pub written_is : written_imm access immediate ≡ Some written

-- the operator there is that one of wrapped code
pub record HasItem (operators : List (Operator × ℕ)) (at : ℕ) (item : WrapItem) (t : ValType) : Type 0 where
  pub operator : Operator
  pub has : slice_get (without_offsets operators) at ≡ Some operator
  pub is : IsItem item t operator

-- these stand there, one behind another
abbrev pub HaveItems : List (Operator × ℕ) → (start : ℕ) → List WrapItem → ValType → Type 0
HaveItems operators start [] t = ⊤
HaveItems operators start (i ∷ is) t = HasItem operators start i t × HaveItems operators (start + 1) is t

-- From `start` on, up to the operator at `at`, stands a tree that the operators before it and behind it wrap in that way: the tree stands from `from` on, up to
-- the operator before that at `end`. Something stands behind all of it.
pub record IsWrapped (context : Context) (operators : List (Operator × ℕ)) (w : Wrap) (start at from end : ℕ) : Type 0 where
  pub last : ℕ
  pub last_is : last + 1 ≡ end
  pub type : PrimitiveTypeInfo
  pub value : ValType
  pub value_is : value_of type ≡ Some value
  pub tree : IsTree context operators from last type
  pub inside : at + 1 < length operators
  pub begins : start + length (front_of w) ≡ from
  pub ends : end + length (back_of w) ≡ at + 1
  pub before : HaveItems operators start (front_of w) value
  pub behind : HaveItems operators end (back_of w) value

-- ---- selects and conditionals

-- A constant or a variable stands there, which gives a value of the type.
pub record IsLeafAt (context : Context) (operators : List (Operator × ℕ)) (at : ℕ) (t : PrimitiveTypeInfo) : Type 0 where
  pub instruction : Instruction
  pub has : HasInstruction operators at instruction
  pub leaf : is_leaf instruction ≡ true
  pub tree : IsTree context operators at at t

-- Such a one stands at either operator, both of one type, which is that one of values.
pub record AreLeaves (context : Context) (operators : List (Operator × ℕ)) (first second : ℕ) (v : ValType) : Type 0 where
  pub type : PrimitiveTypeInfo
  pub value_is : value_of type ≡ Some v
  pub one : IsLeafAt context operators first type
  pub other : IsLeafAt context operators second type

-- From `start` up to the operator before `end` stands a tree of 32 bits that writes nothing.
pub record IsReadBefore (context : Context) (operators : List (Operator × ℕ)) (start end : ℕ) : Type 0 where
  pub last : ℕ
  pub last_is : last + 1 ≡ end
  pub tree : IsTree context operators start last primitive.I32
  pub reads : writes tree.code ≡ false

-- From `start` on stand two constants or variables of that type of values, then, from `condition` on, a tree that writes nothing, and at `at` the select.
pub record IsSelected (context : Context) (operators : List (Operator × ℕ)) (start at : ℕ) (v : ValType) (condition : ℕ) : Type 0 where
  pub condition_is : start + 2 ≡ condition
  pub leaves : AreLeaves context operators start (start + 1) v
  pub read : IsReadBefore context operators condition at
  pub selects : HasInstruction operators at select_code

-- A conditional of that type of values begins there, with one operator in each of its parts.
pub record IsChoice (operators : List (Operator × ℕ)) (place : ℕ) (v : ValType) : Type 0 where
  pub opens : HasItem operators place item.If v
  pub parts : HasItem operators (place + 2) item.Else v
  pub closes : HasItem operators (place + 4) item.End v

-- From `start` on stands a tree that writes nothing, and behind it, up to the end at `at`, a conditional each part of which is a constant or a variable.
-- Something stands behind it.
pub record IsConditionalChoice (context : Context) (operators : List (Operator × ℕ)) (start at : ℕ) : Type 0 where
  pub inside : at + 1 < length operators
  pub place : ℕ
  pub ends : place + 4 ≡ at
  pub value : ValType
  pub leaves : AreLeaves context operators (place + 1) (place + 3) value
  pub choice : IsChoice operators place value
  pub read : IsReadBefore context operators start place

-- ---- conditions

-- a `br_if` or an `if` stands there
pub record HasCondition (operators : List (Operator × ℕ)) (at : ℕ) : Type 0 where
  pub operator : Operator
  pub has : slice_get (without_offsets operators) at ≡ Some operator
  pub is : is_condition operator ≡ true

-- From `start` on, up to the operator at `at`, stands a tree of 32 bits, and behind it what asks whether its value is zero.
pub record IsAsked (context : Context) (operators : List (Operator × ℕ)) (start at : ℕ) : Type 0 where
  pub tree : IsTree context operators start at primitive.I32
  pub behind : HasCondition operators (at + 1)

-- From `start` up to the operator before `end` stands such a tree, then the two instructions, the last one at `at`, and behind them what asks.
pub record IsTested (context : Context) (operators : List (Operator × ℕ)) (one other : Instruction) (start at end : ℕ) : Type 0 where
  pub ends : end + 1 ≡ at
  pub last : ℕ
  pub last_is : last + 1 ≡ end
  pub tree : IsTree context operators start last primitive.I32
  pub first : HasInstruction operators end one
  pub second : HasInstruction operators at other
  pub behind : HasCondition operators (at + 1)

-- ---- indices

-- a branch by a table of so many labels stands there, its default one apart
pub record HasTable (operators : List (Operator × ℕ)) (at count : ℕ) : Type 0 where
  pub has : slice_get (without_offsets operators) at ≡ Some (BrTable count)
  pub fits : count < 2 ^ 32

-- From `start` on, up to the operator at `at`, stands a tree of 32 bits that writes nothing and doesn't ask the world, and behind it a branch by a table of so
-- many labels. It doesn't end in a select, as a bounded one does: else each rewrite would double it.
pub record IsIndex (context : Context) (operators : List (Operator × ℕ)) (start at count : ℕ) : Type 0 where
  pub tree : IsTree context operators start at primitive.I32
  pub reads : writes tree.code ≡ false
  pub settled : asks tree.code ≡ false
  pub unbounded : HasInstruction operators at select_code → ⊥
  pub behind : HasTable operators (at + 1) count

-- From `start` up to the operator before `end` stands such a tree; then, up to the operator at `at`, the number of labels, the same code, that number, and what
-- bounds it; and behind them the branch.
pub record IsBounded (context : Context) (operators : List (Operator × ℕ)) (start at end : ℕ) : Type 0 where
  pub last : ℕ
  pub last_is : last + 1 ≡ end
  pub tree : IsTree context operators start last primitive.I32
  pub reads : writes tree.code ≡ false
  pub settled : asks tree.code ≡ false
  pub count : ℕ
  pub stands : Stands operators end (at + 1) (constant_code integer.I32 count
      ∷ (tree.code ++ (constant_code integer.I32 count ∷ below_code ∷ select_code ∷ [])))
  pub behind : HasTable operators (at + 1) count

-- ---- branches in conditionals

-- A `br_if` to that label stands at `at`. A branch there takes nothing to it, and it has one byte also where it is one further out.
pub record IsBareBranch (operators : List (Operator × ℕ)) (at label : ℕ) : Type 0 where
  pub branch : slice_get (without_offsets operators) at ≡ Some (BrIf label)
  pub fits : label + 1 < 2 ^ 8
  pub bare : TakesNothing (take at (without_offsets operators)) label

-- From `start` on stand an `if` without results, a branch to the label around the one with that depth, and the end of the `if`, at `at`. Something stands
-- behind it.
pub record IsNestedBranch (operators : List (Operator × ℕ)) (start at label : ℕ) : Type 0 where
  pub ends : start + 2 ≡ at
  pub inside : at + 1 < length operators
  pub opens : slice_get (without_offsets operators) start ≡ Some (If Empty)
  pub branch : slice_get (without_offsets operators) (start + 1) ≡ Some (Br (suc label))
  pub closes : slice_get (without_offsets operators) at ≡ Some End
  pub fits : label < 2 ^ 8

-- ---- code that is never reached

-- an operator stands there behind which nothing is reached
pub record HasLeave (operators : List (Operator × ℕ)) (at : ℕ) : Type 0 where
  pub operator : Operator
  pub has : slice_get (without_offsets operators) at ≡ Some operator
  pub leaves : never_goes_on operator ≡ true

-- and it carries all that it asks: it is no branch by a table
pub record HasPlainLeave (operators : List (Operator × ℕ)) (at : ℕ) : Type 0 where
  pub leave : HasLeave operators at
  pub plain : asks_beyond leave.operator ≡ false

-- A tree from `start` on and a drop, at `at`, stand right behind such an operator.
pub record IsDead (context : Context) (operators : List (Operator × ℕ)) (start at : ℕ) : Type 0 where
  pub dropped : HasInstruction operators at drop_code
  pub last : ℕ
  pub last_is : last + 1 ≡ at
  pub type : PrimitiveTypeInfo
  pub tree : IsTree context operators start last type
  pub place : ℕ
  pub place_is : place + 1 ≡ start
  pub leave : HasLeave operators place

-- ---- what is rewritten

-- From `start` on, up to the operator at `at`, stands what the rule rewrites; and that is what is made of it. What opens a block more is made where there is
-- room for one. A further global is the first one behind the
-- module's; where it has as many as indices count, there is none.
abbrev pub Rewrites : Context → List (Operator × ℕ) → Own → (start at : ℕ) → Made → Type 0
Rewrites context operators Unfold start at (made.Sum t n) = (start ≡ at) × HasConstant operators at t n
Rewrites context operators ThroughGlobal start at (made.Global t g) =
    IsTree context operators start at t × (is_number t ≡ true) × (g ≡ length context.info.globals) × (g < 2 ^ 32)
Rewrites context operators WithNop start at made.Nop = (t : PrimitiveTypeInfo) × IsTree context operators start at t
Rewrites context operators Fold start at (made.Constant t n) = IsFolded operators start at t n
Rewrites context operators Forget start at made.Nothing = IsForgotten context operators start at
Rewrites context operators TeeToSet start at (made.SetAndGet n) = (start ≡ at) × HasInstruction operators at (tee_local n)
Rewrites context operators DropNop start at made.Nothing = (start ≡ at) × HasInstruction operators at nop_code
Rewrites context operators SetToTee start at (made.Tee n) =
    (start + 1 ≡ at) × HasInstruction operators start (set_local n) × HasInstruction operators at (get_local n)
Rewrites context operators (own_rule.Access n) start at (made.Access a m) = IsAccessed context operators n start at a m
Rewrites context operators (own_rule.Wrap w) start at (made.Wrapped v t) =
    (v ≡ w) × HasRoomForBlock operators × (u : PrimitiveTypeInfo) × (value_of u ≡ Some t) × IsTree context operators start at u
Rewrites context operators (own_rule.Unwrap w) start at (made.Inner from end) = IsWrapped context operators w start at from end
Rewrites context operators SelectToIf start at (made.Conditional v condition) = HasRoomForBlock operators × IsSelected context operators start at v condition
Rewrites context operators IfToSelect start at made.Selected = IsConditionalChoice context operators start at
Rewrites context operators TestCondition start at made.Tested = IsAsked context operators start at
Rewrites context operators DropConditionTest start at (made.Inner from end) = (from ≡ start) × IsTested context operators zero_code ne_code start at end
Rewrites context operators DoubleCondition start at made.DoublyTested = IsAsked context operators start at
Rewrites context operators DropDoubleCondition start at (made.Inner from end) = (from ≡ start) × IsTested context operators eqz_code eqz_code start at end
Rewrites context operators PutDead start at made.Dead = (start ≡ at) × HasPlainLeave operators at
Rewrites context operators DropDead start at made.Nothing = IsDead context operators start at
Rewrites context operators BoundIndex start at (made.Bounded count) = IsIndex context operators start at count
Rewrites context operators DropIndexBound start at (made.Inner from end) = (from ≡ start) × IsBounded context operators start at end
Rewrites context operators BrIfToIf start at (made.InConditional label) = (start ≡ at) × HasRoomForBlock operators × IsBareBranch operators at label
Rewrites context operators IfToBrIf start at (made.BranchIf label) = IsNestedBranch operators start at label
Rewrites context operators own start at m = ⊥

-- ---- what is written

-- new instructions
abbrev pub new : List Instruction → List Piece
new code = map (λ (i : Instruction). New i) code

-- an operator of wrapped code, whose value has that type, by the word: a constant that may be any but zero has one of the other numbers of 32 bits
abbrev pub item_piece : ValType → (word : ℕ) → WrapItem → Piece
item_piece t word item.Block = Structural (control.Block t)
item_piece t word item.Loop = Structural (control.Loop t)
item_piece t word item.If = Structural (control.If t)
item_piece t word item.Else = Structural control.Else
item_piece t word item.End = Structural control.End
item_piece t word item.Branch = Structural (control.Branch 0)
item_piece t word item.BranchIf = Structural (control.BranchIf 0)
item_piece t word item.Unreachable = Structural control.Unreachable
item_piece t word item.Zero = New (constant_code integer.I32 0)
item_piece t word item.NonZero = New (constant_code integer.I32 (suc (word % (2 ^ 32 - 1))))
item_piece t word item.Any = New (constant_code integer.I32 word)

abbrev pub item_pieces : ValType → (word : ℕ) → List WrapItem → List Piece
item_pieces t word is = map (item_piece t word) is

-- the pieces, by the word
abbrev pub made_pieces : (start at : ℕ) → Made → (word : ℕ) → List Piece
made_pieces start at made.Nothing word = []
made_pieces start at (made.Constant t n) word = new (constant_code t n ∷ [])
made_pieces start at (made.Sum t n) word = new (sum_code t n word)
made_pieces start at made.Nop word = New nop_code ∷ Kept start (at + 1) ∷ []
made_pieces start at (made.Global t g) word = Kept start (at + 1) ∷ new (set_global g ∷ get_global g ∷ [])
made_pieces start at (made.SetAndGet n) word = new (set_local n ∷ get_local n ∷ [])
made_pieces start at (made.Tee n) word = new (tee_local n ∷ [])
made_pieces start at (made.Access a m) word = new (right_code a m)
made_pieces start at (made.Wrapped w t) word = item_pieces t word (front_of w) ++ Kept start (at + 1) ∷ item_pieces t word (back_of w)
made_pieces start at (made.Inner from end) word = Kept from end ∷ []
made_pieces start at (made.Conditional v condition) word =
    Kept condition at ∷ Structural (control.If v) ∷ Kept start (condition - 1) ∷ Structural control.Else ∷ Kept (condition - 1) condition
    ∷ Structural control.End ∷ []
made_pieces start at made.Selected word = Kept (at - 3) (at - 2) ∷ Kept (at - 1) at ∷ Kept start (at - 4) ∷ new (select_code ∷ [])
made_pieces start at made.Tested word = Kept start (at + 1) ∷ new (zero_code ∷ ne_code ∷ [])
made_pieces start at made.DoublyTested word = Kept start (at + 1) ∷ new (eqz_code ∷ eqz_code ∷ [])
made_pieces start at made.Dead word = Kept start (at + 1) ∷ new (constant_code integer.I32 word ∷ drop_code ∷ [])
made_pieces start at (made.Bounded count) word =
    Kept start (at + 1) ∷ New (constant_code integer.I32 count) ∷ Kept start (at + 1)
    ∷ new (constant_code integer.I32 count ∷ below_code ∷ select_code ∷ [])
made_pieces start at (made.InConditional label) word =
    Structural control.BareIf ∷ Structural (control.Branch (label + 1)) ∷ Structural control.End ∷ []
made_pieces start at (made.BranchIf label) word = Structural (control.BranchIf label) ∷ []

-- the global that is asked for
abbrev pub made_asks : Made → List PrimitiveTypeInfo
made_asks (made.Global t g) = t ∷ []
made_asks m = []

-- what is made at a site, as a change
abbrev pub change_of : (at : ℕ) → Site → Change
change_of at site = record {
  start = site.start;
  pieces = made_pieces site.start at site.made;
  asks = made_asks site.made;
}

-- It is what the rule makes at the operator.
pub record IsOwnChange (context : Context) (operators : List (Operator × ℕ)) (own : Own) (at : ℕ) (change : Change) : Type 0 where
  pub site : Site
  pub rewrites : Rewrites context operators own site.start at site.made
  pub is : change ≡ change_of at site

-- ---- what holds of it

-- What a rule makes may stand in the place of what stood there, and it makes one thing at most.
pub record OwnChangesMayStand : Type 0 where
  pub stand : (context : Context) (operators : List (Operator × ℕ)) (own : Own) (at : ℕ) (change : Change) → IsOwnChange context operators own at change →
      MayStand context operators at change
  pub one : (context : Context) (operators : List (Operator × ℕ)) (own : Own) (at : ℕ) (change other : Change) →
      IsOwnChange context operators own at change → IsOwnChange context operators own at other → change ≡ other
