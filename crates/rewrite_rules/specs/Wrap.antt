-- Ways to wrap a value in control flow of its own: which operators stand around it, and that they make code of it that does as it does
-- (this project, after the WebAssembly Core Specification 3.0, Execution, Instructions, Control Instructions).
use Rattle.std.specs.Prelude.{◌≡◌, ℕ, suc, ◌<◌, ◌^◌, ⊤, List, [], ◌∷◌, ◌++◌, map, Option, Some, None}
use Rattle.wasm_code.specs.Instruction.{Instruction}
use Rattle.wasm_code.specs.declared.immediate.BlockType.TheVariants.{Value}
use Rattle.wasm_code.specs.declared.immediate.ValType.{ValType}
use Rattle.wasm_code.specs.declared.immediate.ValType.TheVariants as value
use Rattle.wasm_code.specs.declared.operator.Operator.{Operator}
use Rattle.wasm_code.specs.declared.operator.Operator.TheVariants as op
use Rattle.wasm_types.specs.declared.types.PrimitiveTypeInfo.{PrimitiveTypeInfo}
use Rattle.wasm_types.specs.declared.types.PrimitiveTypeInfo.TheVariants as primitive
use Rattle.wasm_execution.specs.declared.integer.IntegerType.TheVariants as integer
use Rattle.wasm_execution.specs.Values.{Context}
use Rattle.wasm_equivalence.specs.control.Wider.{wider}
use Rattle.wasm_equivalence.specs.validation.StaysValid.{Pushes}
use Rattle.wrapped_code.specs.Wrapped.{Wrapped, written, WrappedRunsAs, WrappedChecksAs}
use Rattle.wrapped_code.specs.Ways.{WrappedPushes}
use Rattle.rewrite_rules.specs.declared.wrap.Wrap.{Wrap}
use Rattle.rewrite_rules.specs.declared.wrap.Wrap.TheVariants.{InBlock, InLoop, InIf, InElse, LeaveBlock, LeaveOver, LeaveDead, MayLeave, SurelyLeave, Once}
use Rattle.rewrite_rules.specs.declared.wrap.WrapItem.{WrapItem}
use Rattle.rewrite_rules.specs.declared.wrap.WrapItem.TheVariants.{Block, Loop, If, Else, End, Branch, BranchIf, Unreachable, Zero, NonZero, Any}
use Rattle.rewrite_rules.specs.Code.{Leaves}
use Rattle.rewrite_rules.specs.Instance.{constant_code}

-- ---- operators

-- those before the value
abbrev pub front_of : Wrap → List WrapItem
front_of InBlock = Block ∷ []
front_of InLoop = Loop ∷ []
front_of InIf = NonZero ∷ If ∷ []
front_of InElse = Zero ∷ If ∷ Unreachable ∷ Else ∷ []
front_of LeaveBlock = Block ∷ []
front_of LeaveOver = Block ∷ Any ∷ []
front_of LeaveDead = Block ∷ []
front_of MayLeave = Block ∷ []
front_of SurelyLeave = Block ∷ Any ∷ []
front_of Once = Loop ∷ []

-- those behind it
abbrev pub back_of : Wrap → List WrapItem
back_of InBlock = End ∷ []
back_of InLoop = End ∷ []
back_of InIf = Else ∷ Unreachable ∷ End ∷ []
back_of InElse = End ∷ []
back_of LeaveBlock = Branch ∷ End ∷ []
back_of LeaveOver = Branch ∷ End ∷ []
back_of LeaveDead = Branch ∷ Unreachable ∷ End ∷ []
back_of MayLeave = Any ∷ BranchIf ∷ End ∷ []
back_of SurelyLeave = NonZero ∷ BranchIf ∷ Unreachable ∷ End ∷ []
back_of Once = Zero ∷ BranchIf ∷ End ∷ []

-- The operator is the item, in code that gives a value of the type.
abbrev pub IsItem : WrapItem → ValType → Operator → Type 0
IsItem Block t o = o ≡ op.Block (Value t)
IsItem Loop t o = o ≡ op.Loop (Value t)
IsItem If t o = o ≡ op.If (Value t)
IsItem Else t o = o ≡ op.Else
IsItem End t o = o ≡ op.End
IsItem Branch t o = o ≡ op.Br 0
IsItem BranchIf t o = o ≡ op.BrIf 0
IsItem Unreachable t o = o ≡ op.Unreachable
IsItem Zero t o = o ≡ op.Instr (constant_code integer.I32 0)
IsItem NonZero t o = (n : ℕ) × (suc n < 2 ^ 32) × (o ≡ op.Instr (constant_code integer.I32 (suc n)))
IsItem Any t o = (n : ℕ) × (n < 2 ^ 32) × (o ≡ op.Instr (constant_code integer.I32 n))

-- The operators are the items, one by one.
abbrev pub AreItems : List WrapItem → ValType → List Operator → Type 0
AreItems [] t [] = ⊤
AreItems [] t (o ∷ os) = ⊥
AreItems (i ∷ items) t [] = ⊥
AreItems (i ∷ items) t (o ∷ os) = IsItem i t o × AreItems items t os

-- ---- types

-- the types of values that are wrapped: numbers and vectors
abbrev pub value_of : PrimitiveTypeInfo → Option ValType
value_of primitive.I32 = Some value.I32
value_of primitive.I64 = Some value.I64
value_of primitive.F32 = Some value.F32
value_of primitive.F64 = Some value.F64
value_of primitive.V128 = Some value.V128
value_of t = None

-- ---- what they make of a value

-- The operators before and behind the code make wrapped code of it, which runs and is checked as it is.
pub record MayWrap (context : Context) (own : List Instruction) (t : PrimitiveTypeInfo) (front back : List Operator) : Type 0 where
  pub code : Wrapped
  pub written_is : (rest : List Operator) → written code rest ≡ front ++ (map (λ (i : Instruction). op.Instr i) own ++ (back ++ rest))
  pub runs : (more : List PrimitiveTypeInfo) → WrappedRunsAs context more own code
  pub checks : (input : List ℕ) (more : List PrimitiveTypeInfo) → WrappedChecksAs context (wider input more context) own code
  pub pushes : Pushes context own [] (t ∷ [])
  pub pushes_so : WrappedPushes context code [] (t ∷ [])

-- Every way to wrap is right.
abbrev pub WrapsAreRight : Type 0
WrapsAreRight =
    (context : Context) (own : List Instruction) (w : Wrap) (t : PrimitiveTypeInfo) (v : ValType) (front back : List Operator) → value_of t ≡ Some v →
    Leaves context own t → AreItems (front_of w) v front → AreItems (back_of w) v back → MayWrap context own t front back
