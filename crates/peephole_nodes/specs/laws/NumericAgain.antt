-- A numeric node given back from its place and the ids of its children: these two decide it (this project).
use Rattle.std.specs.Prelude.{◌≡◌, ℕ, ◌-◌, nat_lt, List, [], ◌∷◌, ◌++◌, map, Option, Some, None, slice_get, if◌then◌else◌, refl}
use Rattle.std.proofs.Common.{sym, ap₂, ◌∙◌}
use Rattle.std.proofs.lemmas.Option.{same_Some}
use Rattle.peephole_nodes.specs.declared.id.Id.{Id}
use Rattle.peephole_nodes.specs.declared.numeric.Numeric.{Numeric}
use Rattle.peephole_nodes.specs.declared.numeric.Numeric.TheVariants as numeric
use Rattle.peephole_nodes.specs.laws.Again.{several, no_node, made}
use Rattle.peephole_nodes.specs.Numeric.{numeric_place_of, numeric_children, numeric_ids_of}

-- by place, from 52 on; 180 to 182 are the places of other nodes
unfoldable pub numeric_makers : List (List Id → Option Numeric)
numeric_makers =
    map several (numeric.I32Eqz ∷ numeric.I32Eq ∷ numeric.I32Ne ∷ numeric.I32LtS ∷ numeric.I32LtU ∷ numeric.I32GtS ∷ numeric.I32GtU ∷ numeric.I32LeS
    ∷ numeric.I32LeU ∷ numeric.I32GeS ∷ numeric.I32GeU ∷ numeric.I64Eqz ∷ numeric.I64Eq ∷ numeric.I64Ne ∷ numeric.I64LtS ∷ numeric.I64LtU ∷ numeric.I64GtS
    ∷ numeric.I64GtU ∷ numeric.I64LeS ∷ numeric.I64LeU ∷ numeric.I64GeS ∷ numeric.I64GeU ∷ numeric.F32Eq ∷ numeric.F32Ne ∷ numeric.F32Lt ∷ numeric.F32Gt
    ∷ numeric.F32Le ∷ numeric.F32Ge ∷ numeric.F64Eq ∷ numeric.F64Ne ∷ numeric.F64Lt ∷ numeric.F64Gt ∷ numeric.F64Le ∷ numeric.F64Ge ∷ numeric.I32Clz
    ∷ numeric.I32Ctz ∷ numeric.I32Popcnt ∷ numeric.I32Add ∷ numeric.I32Sub ∷ numeric.I32Mul ∷ numeric.I32DivS ∷ numeric.I32DivU ∷ numeric.I32RemS
    ∷ numeric.I32RemU ∷ numeric.I32And ∷ numeric.I32Or ∷ numeric.I32Xor ∷ numeric.I32Shl ∷ numeric.I32ShrS ∷ numeric.I32ShrU ∷ numeric.I32RotL
    ∷ numeric.I32RotR ∷ numeric.I64Clz ∷ numeric.I64Ctz ∷ numeric.I64Popcnt ∷ numeric.I64Add ∷ numeric.I64Sub ∷ numeric.I64Mul ∷ numeric.I64DivS
    ∷ numeric.I64DivU ∷ numeric.I64RemS ∷ numeric.I64RemU ∷ numeric.I64And ∷ numeric.I64Or ∷ numeric.I64Xor ∷ numeric.I64Shl ∷ numeric.I64ShrS
    ∷ numeric.I64ShrU ∷ numeric.I64RotL ∷ numeric.I64RotR ∷ numeric.F32Abs ∷ numeric.F32Neg ∷ numeric.F32Ceil ∷ numeric.F32Floor ∷ numeric.F32Trunc
    ∷ numeric.F32Nearest ∷ numeric.F32Sqrt ∷ numeric.F32Add ∷ numeric.F32Sub ∷ numeric.F32Mul ∷ numeric.F32Div ∷ numeric.F32Min ∷ numeric.F32Max
    ∷ numeric.F32Copysign ∷ numeric.F64Abs ∷ numeric.F64Neg ∷ numeric.F64Ceil ∷ numeric.F64Floor ∷ numeric.F64Trunc ∷ numeric.F64Nearest ∷ numeric.F64Sqrt
    ∷ numeric.F64Add ∷ numeric.F64Sub ∷ numeric.F64Mul ∷ numeric.F64Div ∷ numeric.F64Min ∷ numeric.F64Max ∷ numeric.F64Copysign ∷ numeric.Wrap
    ∷ numeric.I32TruncF32S ∷ numeric.I32TruncF32U ∷ numeric.I32TruncF64S ∷ numeric.I32TruncF64U ∷ numeric.I64ExtendI32S ∷ numeric.I64ExtendI32U
    ∷ numeric.I64TruncF32S ∷ numeric.I64TruncF32U ∷ numeric.I64TruncF64S ∷ numeric.I64TruncF64U ∷ numeric.F32ConvertI32S ∷ numeric.F32ConvertI32U
    ∷ numeric.F32ConvertI64S ∷ numeric.F32ConvertI64U ∷ numeric.F32DemoteF64 ∷ numeric.F64ConvertI32S ∷ numeric.F64ConvertI32U ∷ numeric.F64ConvertI64S
    ∷ numeric.F64ConvertI64U ∷ numeric.F64PromoteF32 ∷ numeric.I32ReinterpretF32 ∷ numeric.I64ReinterpretF64 ∷ numeric.F32ReinterpretI32
    ∷ numeric.F64ReinterpretI64 ∷ numeric.I32Extend8S ∷ numeric.I32Extend16S ∷ numeric.I64Extend8S ∷ numeric.I64Extend16S ∷ numeric.I64Extend32S ∷ [])
    ++ (no_node ∷ no_node ∷ no_node ∷ [])
    ++ map several (numeric.I32TruncSatF32S ∷ numeric.I32TruncSatF32U ∷ numeric.I32TruncSatF64S ∷ numeric.I32TruncSatF64U ∷ numeric.I64TruncSatF32S
    ∷ numeric.I64TruncSatF32U ∷ numeric.I64TruncSatF64S ∷ numeric.I64TruncSatF64U ∷ [])

-- the numeric node with that place and these children
unfoldable pub numeric_again : ℕ → List Id → Option Numeric
numeric_again place w =
    if nat_lt place 52 then None else if nat_lt place 201 then made (slice_get numeric_makers (place - 52)) w else None

pub numeric_given_back : (n : Numeric) → numeric_again (numeric_place_of n) (numeric_ids_of n) ≡ Some n
unfolding numeric_place_of numeric_children several no_node made numeric_makers numeric_again
numeric_given_back (numeric.I32Eqz _) = refl
numeric_given_back _ = refl

-- the place and the ids of the children decide a numeric node
pub numeric_determined : (n m : Numeric) → numeric_place_of n ≡ numeric_place_of m → numeric_ids_of n ≡ numeric_ids_of m → n ≡ m
numeric_determined n m place ids = same_Some n m (sym (numeric_given_back n) ∙ (ap₂ numeric_again place ids ∙ numeric_given_back m))
