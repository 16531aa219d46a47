-- The nodes of numeric instructions seen as place and children (this project); they have no payload.
use Rattle.std.specs.Prelude.{ℕ, List}
use Rattle.peephole_nodes.specs.declared.id.Id.{Id}
use Rattle.peephole_nodes.specs.declared.numeric.Numeric.{Numeric}
use Rattle.peephole_nodes.specs.declared.numeric.Numeric.TheVariants as numeric
use Rattle.peephole_nodes.specs.declared.payload.Payload.TheVariants.{Nothing}
use Rattle.peephole_nodes.specs.View.{Children, View, ids_in, array}

abbrev pub numeric_view : Numeric → View Numeric
numeric_view (numeric.I32Eqz ids) = array 52 Nothing 1 numeric.I32Eqz ids
numeric_view (numeric.I32Eq ids) = array 53 Nothing 2 numeric.I32Eq ids
numeric_view (numeric.I32Ne ids) = array 54 Nothing 2 numeric.I32Ne ids
numeric_view (numeric.I32LtS ids) = array 55 Nothing 2 numeric.I32LtS ids
numeric_view (numeric.I32LtU ids) = array 56 Nothing 2 numeric.I32LtU ids
numeric_view (numeric.I32GtS ids) = array 57 Nothing 2 numeric.I32GtS ids
numeric_view (numeric.I32GtU ids) = array 58 Nothing 2 numeric.I32GtU ids
numeric_view (numeric.I32LeS ids) = array 59 Nothing 2 numeric.I32LeS ids
numeric_view (numeric.I32LeU ids) = array 60 Nothing 2 numeric.I32LeU ids
numeric_view (numeric.I32GeS ids) = array 61 Nothing 2 numeric.I32GeS ids
numeric_view (numeric.I32GeU ids) = array 62 Nothing 2 numeric.I32GeU ids
numeric_view (numeric.I64Eqz ids) = array 63 Nothing 1 numeric.I64Eqz ids
numeric_view (numeric.I64Eq ids) = array 64 Nothing 2 numeric.I64Eq ids
numeric_view (numeric.I64Ne ids) = array 65 Nothing 2 numeric.I64Ne ids
numeric_view (numeric.I64LtS ids) = array 66 Nothing 2 numeric.I64LtS ids
numeric_view (numeric.I64LtU ids) = array 67 Nothing 2 numeric.I64LtU ids
numeric_view (numeric.I64GtS ids) = array 68 Nothing 2 numeric.I64GtS ids
numeric_view (numeric.I64GtU ids) = array 69 Nothing 2 numeric.I64GtU ids
numeric_view (numeric.I64LeS ids) = array 70 Nothing 2 numeric.I64LeS ids
numeric_view (numeric.I64LeU ids) = array 71 Nothing 2 numeric.I64LeU ids
numeric_view (numeric.I64GeS ids) = array 72 Nothing 2 numeric.I64GeS ids
numeric_view (numeric.I64GeU ids) = array 73 Nothing 2 numeric.I64GeU ids
numeric_view (numeric.F32Eq ids) = array 74 Nothing 2 numeric.F32Eq ids
numeric_view (numeric.F32Ne ids) = array 75 Nothing 2 numeric.F32Ne ids
numeric_view (numeric.F32Lt ids) = array 76 Nothing 2 numeric.F32Lt ids
numeric_view (numeric.F32Gt ids) = array 77 Nothing 2 numeric.F32Gt ids
numeric_view (numeric.F32Le ids) = array 78 Nothing 2 numeric.F32Le ids
numeric_view (numeric.F32Ge ids) = array 79 Nothing 2 numeric.F32Ge ids
numeric_view (numeric.F64Eq ids) = array 80 Nothing 2 numeric.F64Eq ids
numeric_view (numeric.F64Ne ids) = array 81 Nothing 2 numeric.F64Ne ids
numeric_view (numeric.F64Lt ids) = array 82 Nothing 2 numeric.F64Lt ids
numeric_view (numeric.F64Gt ids) = array 83 Nothing 2 numeric.F64Gt ids
numeric_view (numeric.F64Le ids) = array 84 Nothing 2 numeric.F64Le ids
numeric_view (numeric.F64Ge ids) = array 85 Nothing 2 numeric.F64Ge ids
numeric_view (numeric.I32Clz ids) = array 86 Nothing 1 numeric.I32Clz ids
numeric_view (numeric.I32Ctz ids) = array 87 Nothing 1 numeric.I32Ctz ids
numeric_view (numeric.I32Popcnt ids) = array 88 Nothing 1 numeric.I32Popcnt ids
numeric_view (numeric.I32Add ids) = array 89 Nothing 2 numeric.I32Add ids
numeric_view (numeric.I32Sub ids) = array 90 Nothing 2 numeric.I32Sub ids
numeric_view (numeric.I32Mul ids) = array 91 Nothing 2 numeric.I32Mul ids
numeric_view (numeric.I32DivS ids) = array 92 Nothing 2 numeric.I32DivS ids
numeric_view (numeric.I32DivU ids) = array 93 Nothing 2 numeric.I32DivU ids
numeric_view (numeric.I32RemS ids) = array 94 Nothing 2 numeric.I32RemS ids
numeric_view (numeric.I32RemU ids) = array 95 Nothing 2 numeric.I32RemU ids
numeric_view (numeric.I32And ids) = array 96 Nothing 2 numeric.I32And ids
numeric_view (numeric.I32Or ids) = array 97 Nothing 2 numeric.I32Or ids
numeric_view (numeric.I32Xor ids) = array 98 Nothing 2 numeric.I32Xor ids
numeric_view (numeric.I32Shl ids) = array 99 Nothing 2 numeric.I32Shl ids
numeric_view (numeric.I32ShrS ids) = array 100 Nothing 2 numeric.I32ShrS ids
numeric_view (numeric.I32ShrU ids) = array 101 Nothing 2 numeric.I32ShrU ids
numeric_view (numeric.I32RotL ids) = array 102 Nothing 2 numeric.I32RotL ids
numeric_view (numeric.I32RotR ids) = array 103 Nothing 2 numeric.I32RotR ids
numeric_view (numeric.I64Clz ids) = array 104 Nothing 1 numeric.I64Clz ids
numeric_view (numeric.I64Ctz ids) = array 105 Nothing 1 numeric.I64Ctz ids
numeric_view (numeric.I64Popcnt ids) = array 106 Nothing 1 numeric.I64Popcnt ids
numeric_view (numeric.I64Add ids) = array 107 Nothing 2 numeric.I64Add ids
numeric_view (numeric.I64Sub ids) = array 108 Nothing 2 numeric.I64Sub ids
numeric_view (numeric.I64Mul ids) = array 109 Nothing 2 numeric.I64Mul ids
numeric_view (numeric.I64DivS ids) = array 110 Nothing 2 numeric.I64DivS ids
numeric_view (numeric.I64DivU ids) = array 111 Nothing 2 numeric.I64DivU ids
numeric_view (numeric.I64RemS ids) = array 112 Nothing 2 numeric.I64RemS ids
numeric_view (numeric.I64RemU ids) = array 113 Nothing 2 numeric.I64RemU ids
numeric_view (numeric.I64And ids) = array 114 Nothing 2 numeric.I64And ids
numeric_view (numeric.I64Or ids) = array 115 Nothing 2 numeric.I64Or ids
numeric_view (numeric.I64Xor ids) = array 116 Nothing 2 numeric.I64Xor ids
numeric_view (numeric.I64Shl ids) = array 117 Nothing 2 numeric.I64Shl ids
numeric_view (numeric.I64ShrS ids) = array 118 Nothing 2 numeric.I64ShrS ids
numeric_view (numeric.I64ShrU ids) = array 119 Nothing 2 numeric.I64ShrU ids
numeric_view (numeric.I64RotL ids) = array 120 Nothing 2 numeric.I64RotL ids
numeric_view (numeric.I64RotR ids) = array 121 Nothing 2 numeric.I64RotR ids
numeric_view (numeric.F32Abs ids) = array 122 Nothing 1 numeric.F32Abs ids
numeric_view (numeric.F32Neg ids) = array 123 Nothing 1 numeric.F32Neg ids
numeric_view (numeric.F32Ceil ids) = array 124 Nothing 1 numeric.F32Ceil ids
numeric_view (numeric.F32Floor ids) = array 125 Nothing 1 numeric.F32Floor ids
numeric_view (numeric.F32Trunc ids) = array 126 Nothing 1 numeric.F32Trunc ids
numeric_view (numeric.F32Nearest ids) = array 127 Nothing 1 numeric.F32Nearest ids
numeric_view (numeric.F32Sqrt ids) = array 128 Nothing 1 numeric.F32Sqrt ids
numeric_view (numeric.F32Add ids) = array 129 Nothing 2 numeric.F32Add ids
numeric_view (numeric.F32Sub ids) = array 130 Nothing 2 numeric.F32Sub ids
numeric_view (numeric.F32Mul ids) = array 131 Nothing 2 numeric.F32Mul ids
numeric_view (numeric.F32Div ids) = array 132 Nothing 2 numeric.F32Div ids
numeric_view (numeric.F32Min ids) = array 133 Nothing 2 numeric.F32Min ids
numeric_view (numeric.F32Max ids) = array 134 Nothing 2 numeric.F32Max ids
numeric_view (numeric.F32Copysign ids) = array 135 Nothing 2 numeric.F32Copysign ids
numeric_view (numeric.F64Abs ids) = array 136 Nothing 1 numeric.F64Abs ids
numeric_view (numeric.F64Neg ids) = array 137 Nothing 1 numeric.F64Neg ids
numeric_view (numeric.F64Ceil ids) = array 138 Nothing 1 numeric.F64Ceil ids
numeric_view (numeric.F64Floor ids) = array 139 Nothing 1 numeric.F64Floor ids
numeric_view (numeric.F64Trunc ids) = array 140 Nothing 1 numeric.F64Trunc ids
numeric_view (numeric.F64Nearest ids) = array 141 Nothing 1 numeric.F64Nearest ids
numeric_view (numeric.F64Sqrt ids) = array 142 Nothing 1 numeric.F64Sqrt ids
numeric_view (numeric.F64Add ids) = array 143 Nothing 2 numeric.F64Add ids
numeric_view (numeric.F64Sub ids) = array 144 Nothing 2 numeric.F64Sub ids
numeric_view (numeric.F64Mul ids) = array 145 Nothing 2 numeric.F64Mul ids
numeric_view (numeric.F64Div ids) = array 146 Nothing 2 numeric.F64Div ids
numeric_view (numeric.F64Min ids) = array 147 Nothing 2 numeric.F64Min ids
numeric_view (numeric.F64Max ids) = array 148 Nothing 2 numeric.F64Max ids
numeric_view (numeric.F64Copysign ids) = array 149 Nothing 2 numeric.F64Copysign ids
numeric_view (numeric.Wrap ids) = array 150 Nothing 1 numeric.Wrap ids
numeric_view (numeric.I32TruncF32S ids) = array 151 Nothing 1 numeric.I32TruncF32S ids
numeric_view (numeric.I32TruncF32U ids) = array 152 Nothing 1 numeric.I32TruncF32U ids
numeric_view (numeric.I32TruncF64S ids) = array 153 Nothing 1 numeric.I32TruncF64S ids
numeric_view (numeric.I32TruncF64U ids) = array 154 Nothing 1 numeric.I32TruncF64U ids
numeric_view (numeric.I64ExtendI32S ids) = array 155 Nothing 1 numeric.I64ExtendI32S ids
numeric_view (numeric.I64ExtendI32U ids) = array 156 Nothing 1 numeric.I64ExtendI32U ids
numeric_view (numeric.I64TruncF32S ids) = array 157 Nothing 1 numeric.I64TruncF32S ids
numeric_view (numeric.I64TruncF32U ids) = array 158 Nothing 1 numeric.I64TruncF32U ids
numeric_view (numeric.I64TruncF64S ids) = array 159 Nothing 1 numeric.I64TruncF64S ids
numeric_view (numeric.I64TruncF64U ids) = array 160 Nothing 1 numeric.I64TruncF64U ids
numeric_view (numeric.F32ConvertI32S ids) = array 161 Nothing 1 numeric.F32ConvertI32S ids
numeric_view (numeric.F32ConvertI32U ids) = array 162 Nothing 1 numeric.F32ConvertI32U ids
numeric_view (numeric.F32ConvertI64S ids) = array 163 Nothing 1 numeric.F32ConvertI64S ids
numeric_view (numeric.F32ConvertI64U ids) = array 164 Nothing 1 numeric.F32ConvertI64U ids
numeric_view (numeric.F32DemoteF64 ids) = array 165 Nothing 1 numeric.F32DemoteF64 ids
numeric_view (numeric.F64ConvertI32S ids) = array 166 Nothing 1 numeric.F64ConvertI32S ids
numeric_view (numeric.F64ConvertI32U ids) = array 167 Nothing 1 numeric.F64ConvertI32U ids
numeric_view (numeric.F64ConvertI64S ids) = array 168 Nothing 1 numeric.F64ConvertI64S ids
numeric_view (numeric.F64ConvertI64U ids) = array 169 Nothing 1 numeric.F64ConvertI64U ids
numeric_view (numeric.F64PromoteF32 ids) = array 170 Nothing 1 numeric.F64PromoteF32 ids
numeric_view (numeric.I32ReinterpretF32 ids) = array 171 Nothing 1 numeric.I32ReinterpretF32 ids
numeric_view (numeric.I64ReinterpretF64 ids) = array 172 Nothing 1 numeric.I64ReinterpretF64 ids
numeric_view (numeric.F32ReinterpretI32 ids) = array 173 Nothing 1 numeric.F32ReinterpretI32 ids
numeric_view (numeric.F64ReinterpretI64 ids) = array 174 Nothing 1 numeric.F64ReinterpretI64 ids
numeric_view (numeric.I32Extend8S ids) = array 175 Nothing 1 numeric.I32Extend8S ids
numeric_view (numeric.I32Extend16S ids) = array 176 Nothing 1 numeric.I32Extend16S ids
numeric_view (numeric.I64Extend8S ids) = array 177 Nothing 1 numeric.I64Extend8S ids
numeric_view (numeric.I64Extend16S ids) = array 178 Nothing 1 numeric.I64Extend16S ids
numeric_view (numeric.I64Extend32S ids) = array 179 Nothing 1 numeric.I64Extend32S ids
numeric_view (numeric.I32TruncSatF32S ids) = array 183 Nothing 1 numeric.I32TruncSatF32S ids
numeric_view (numeric.I32TruncSatF32U ids) = array 184 Nothing 1 numeric.I32TruncSatF32U ids
numeric_view (numeric.I32TruncSatF64S ids) = array 185 Nothing 1 numeric.I32TruncSatF64S ids
numeric_view (numeric.I32TruncSatF64U ids) = array 186 Nothing 1 numeric.I32TruncSatF64U ids
numeric_view (numeric.I64TruncSatF32S ids) = array 187 Nothing 1 numeric.I64TruncSatF32S ids
numeric_view (numeric.I64TruncSatF32U ids) = array 188 Nothing 1 numeric.I64TruncSatF32U ids
numeric_view (numeric.I64TruncSatF64S ids) = array 189 Nothing 1 numeric.I64TruncSatF64S ids
numeric_view (numeric.I64TruncSatF64U ids) = array 190 Nothing 1 numeric.I64TruncSatF64U ids

-- the place of its variant in the order of nodes
unfoldable pub numeric_place_of : Numeric → ℕ
numeric_place_of n = (numeric_view n).place

unfoldable pub numeric_children : Numeric → Children
numeric_children n = (numeric_view n).children

-- the ids of the children, the first operand first
abbrev pub numeric_ids_of : Numeric → List Id
numeric_ids_of n = ids_in (numeric_children n)

-- how many children the variant has
unfoldable pub numeric_count_of : Numeric → ℕ
numeric_count_of n = (numeric_view n).count

-- the node with these children in the place of its own
unfoldable pub numeric_with_ids : Numeric → List Id → Numeric
numeric_with_ids n w = (numeric_view n).remade w
