-- What a node is to the writer: the instruction that it adds, or one of the nodes without a row, by its place. This project's rule.
use Rattle.std.specs.Prelude.{Bool, true, false, List, [], ◌∷◌, Option, Some, None, slice_get}
use Rattle.wasm_code.specs.Instruction.{Instruction}
use Rattle.wasm_types.specs.declared.types.PrimitiveTypeInfo.{PrimitiveTypeInfo}
use Rattle.wasm_types.specs.declared.types.PrimitiveTypeInfo.TheVariants as primitive
use Rattle.peephole_lang.specs.declared.lang.Head.{Head}
use Rattle.peephole_lang.specs.Node.{instr_of_head}
-- the types of numbers, and those of whole numbers
pub use Rattle.peephole_terms.specs.declared.encoder.node_kind.NumberType.{NumberType}
pub use Rattle.wasm_execution.specs.declared.integer.IntegerType.{IntegerType}
use Rattle.peephole_terms.specs.declared.encoder.node_kind.NumberType.TheVariants as number
use Rattle.wasm_execution.specs.declared.integer.IntegerType.TheVariants as integer

-- what a node is to the writer
pub data NodeKind : Type 0 where
  -- an instruction, behind its operands
  Own : Instruction → NodeKind
  -- a constant of a drawn word
  Random : NumberType → NodeKind
  -- a constant as a sum
  Unfold : IntegerType → NodeKind
  -- a value that is put into a requested global and read from it again
  UseGlobal : NumberType → NodeKind
  -- its children, one after another, and their values
  Container : NodeKind
  -- its children, and no meaning: a missing operand, or a node that can't be written
  Nothing : NodeKind

-- the nodes without a row, by place
abbrev pub rowless : List NodeKind
rowless =
    Random number.I32  -- i32.rand
    ∷ Random number.I64  -- i64.rand
    ∷ Random number.F32  -- f32.rand
    ∷ Random number.F64  -- f64.rand
    ∷ Nothing  -- undef
    ∷ Unfold integer.I32  -- i32.unfold
    ∷ Unfold integer.I64  -- i64.unfold
    ∷ UseGlobal number.I32  -- i32.use_of_global
    ∷ UseGlobal number.I64  -- i64.use_of_global
    ∷ UseGlobal number.F32  -- f32.use_of_global
    ∷ UseGlobal number.F64  -- f64.use_of_global
    ∷ Container  -- container
    ∷ []

abbrev pub of_instruction : Option Instruction → NodeKind
of_instruction None = Nothing
of_instruction (Some i) = Own i

abbrev pub kind_found : Option NodeKind → Option Instruction → NodeKind
kind_found (Some k) i = k
kind_found None i = of_instruction i

-- what a node is; one that isn't writable is none of these, and stands for nothing here
abbrev pub node_kind : Head → NodeKind
node_kind h = kind_found (slice_get rowless h.place) (instr_of_head h)

abbrev pub is_unfold : NodeKind → Bool
is_unfold (Unfold t) = true
is_unfold _ = false

-- among the types of values
abbrev pub primitive_of : NumberType → PrimitiveTypeInfo
primitive_of number.I32 = primitive.I32
primitive_of number.I64 = primitive.I64
primitive_of number.F32 = primitive.F32
primitive_of number.F64 = primitive.F64

-- among the types of numbers
abbrev pub number_type_of : IntegerType → NumberType
number_type_of integer.I32 = number.I32
number_type_of integer.I64 = number.I64
