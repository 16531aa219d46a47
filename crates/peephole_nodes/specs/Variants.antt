-- The variants of nodes: place, name, kind of payload, number of children (this project; the names of instructions are
-- those of the WebAssembly Core Specification 3.0, Text Format, Instructions, but for a few that are named as the original does).
use Rattle.std.specs.Prelude.{ℕ, ◌==◌, ◌&&◌, Bool, true, false, List, [], ◌∷◌, codes, Option, Some, None, slice_get}
use Rattle.peephole_nodes.specs.declared.payload.Payload.{Payload}
use Rattle.peephole_nodes.specs.declared.payload.PayloadKind.{PayloadKind}
use Rattle.peephole_nodes.specs.declared.payload.PayloadKind.TheVariants as kind
use Rattle.peephole_nodes.specs.declared.arity.Arity.{Arity}
use Rattle.peephole_nodes.specs.declared.arity.Arity.TheVariants as arity
use Rattle.peephole_nodes.specs.Payload.{is_payload_of}

pub record Variant : Type 0 where
  pub place : ℕ
  pub name : List ℕ
  pub payload : PayloadKind
  pub children : Arity

abbrev row : ℕ → List ℕ → PayloadKind → Arity → Variant
row place name payload children = record { place = place; name = name; payload = payload; children = children }

-- an operator without payload, and its number of operands
abbrev op : ℕ → ℕ → List ℕ → Variant
op place count name = row place name kind.Nothing (arity.Several count)

-- by place
unfoldable pub variants : List Variant
variants =
    row 0 (codes "i32.rand") kind.Nothing arity.Zero ∷ row 1 (codes "i64.rand") kind.Nothing arity.Zero ∷ row 2 (codes "f32.rand") kind.Nothing arity.Zero
    ∷ row 3 (codes "f64.rand") kind.Nothing arity.Zero ∷ row 4 (codes "undef") kind.Nothing arity.Zero ∷ row 5 (codes "i32.unfold") kind.Nothing arity.One
    ∷ row 6 (codes "i64.unfold") kind.Nothing arity.One ∷ row 7 (codes "i32.use_of_global") kind.Nothing arity.One
    ∷ row 8 (codes "i64.use_of_global") kind.Nothing arity.One ∷ row 9 (codes "f32.use_of_global") kind.Nothing arity.One
    ∷ row 10 (codes "f64.use_of_global") kind.Nothing arity.One ∷ row 11 (codes "container") kind.Nothing arity.Any
    ∷ row 12 (codes "nop") kind.Nothing arity.Zero ∷ row 13 (codes "call") kind.Index arity.Any ∷ op 14 1 (codes "drop") ∷ op 15 3 (codes "select")
    ∷ row 16 (codes "local.get") kind.Index arity.Zero ∷ row 17 (codes "local.set") kind.Index arity.One ∷ row 18 (codes "local.tee") kind.Index arity.One
    ∷ row 19 (codes "global.get") kind.Index arity.Zero ∷ row 20 (codes "global.set") kind.Index arity.One ∷ row 21 (codes "table.get") kind.Index arity.One
    ∷ row 22 (codes "table.set") kind.Index (arity.Several 2) ∷ row 23 (codes "i32.load") kind.Memory arity.One
    ∷ row 24 (codes "i64.load") kind.Memory arity.One ∷ row 25 (codes "f32.load") kind.Memory arity.One ∷ row 26 (codes "f64.load") kind.Memory arity.One
    ∷ row 27 (codes "i32.load8_s") kind.Memory arity.One ∷ row 28 (codes "i32.load8_u") kind.Memory arity.One
    ∷ row 29 (codes "i32.load16_s") kind.Memory arity.One ∷ row 30 (codes "i32.load16_u") kind.Memory arity.One
    ∷ row 31 (codes "i64.load8_s") kind.Memory arity.One ∷ row 32 (codes "i64.load8_u") kind.Memory arity.One
    ∷ row 33 (codes "i64.load16_s") kind.Memory arity.One ∷ row 34 (codes "i64.load16_u") kind.Memory arity.One
    ∷ row 35 (codes "i64.load32_s") kind.Memory arity.One ∷ row 36 (codes "i64.load32_u") kind.Memory arity.One
    ∷ row 37 (codes "i32.store") kind.Memory (arity.Several 2) ∷ row 38 (codes "i64.store") kind.Memory (arity.Several 2)
    ∷ row 39 (codes "f32.store") kind.Memory (arity.Several 2) ∷ row 40 (codes "f64.store") kind.Memory (arity.Several 2)
    ∷ row 41 (codes "i32.store8") kind.Memory (arity.Several 2) ∷ row 42 (codes "i32.store16") kind.Memory (arity.Several 2)
    ∷ row 43 (codes "i64.store8") kind.Memory (arity.Several 2) ∷ row 44 (codes "i64.store16") kind.Memory (arity.Several 2)
    ∷ row 45 (codes "i64.store32") kind.Memory (arity.Several 2) ∷ row 46 (codes "memory.size") kind.Index arity.Zero
    ∷ row 47 (codes "memory.grow") kind.Index arity.One ∷ row 48 (codes "i32.const") kind.I32 arity.Zero ∷ row 49 (codes "i64.const") kind.I64 arity.Zero
    ∷ row 50 (codes "f32.const") kind.F32 arity.Zero ∷ row 51 (codes "f64.const") kind.F64 arity.Zero ∷ op 52 1 (codes "i32.eqz") ∷ op 53 2 (codes "i32.eq")
    ∷ op 54 2 (codes "i32.ne") ∷ op 55 2 (codes "i32.lt_s") ∷ op 56 2 (codes "i32.lt_u") ∷ op 57 2 (codes "i32.gt_s") ∷ op 58 2 (codes "i32.gt_u")
    ∷ op 59 2 (codes "i32.le_s") ∷ op 60 2 (codes "i32.le_u") ∷ op 61 2 (codes "i32.ge_s") ∷ op 62 2 (codes "i32.ge_u") ∷ op 63 1 (codes "i64.eqz")
    ∷ op 64 2 (codes "i64.eq") ∷ op 65 2 (codes "i64.ne") ∷ op 66 2 (codes "i64.lt_s") ∷ op 67 2 (codes "i64.lt_u") ∷ op 68 2 (codes "i64.gt_s")
    ∷ op 69 2 (codes "i64.gt_u") ∷ op 70 2 (codes "i64.le_s") ∷ op 71 2 (codes "i64.le_u") ∷ op 72 2 (codes "i64.ge_s") ∷ op 73 2 (codes "i64.ge_u")
    ∷ op 74 2 (codes "f32.eq") ∷ op 75 2 (codes "f32.ne") ∷ op 76 2 (codes "f32.lt") ∷ op 77 2 (codes "f32.gt") ∷ op 78 2 (codes "f32.le")
    ∷ op 79 2 (codes "f32.ge") ∷ op 80 2 (codes "f64.eq") ∷ op 81 2 (codes "f64.ne") ∷ op 82 2 (codes "f64.lt") ∷ op 83 2 (codes "f64.gt")
    ∷ op 84 2 (codes "f64.le") ∷ op 85 2 (codes "f64.ge") ∷ op 86 1 (codes "i32.clz") ∷ op 87 1 (codes "i32.ctz") ∷ op 88 1 (codes "i32.popcnt")
    ∷ op 89 2 (codes "i32.add") ∷ op 90 2 (codes "i32.sub") ∷ op 91 2 (codes "i32.mul") ∷ op 92 2 (codes "i32.div_s") ∷ op 93 2 (codes "i32.div_u")
    ∷ op 94 2 (codes "i32.rem_s") ∷ op 95 2 (codes "i32.rem_u") ∷ op 96 2 (codes "i32.and") ∷ op 97 2 (codes "i32.or") ∷ op 98 2 (codes "i32.xor")
    ∷ op 99 2 (codes "i32.shl") ∷ op 100 2 (codes "i32.shr_s") ∷ op 101 2 (codes "i32.shr_u") ∷ op 102 2 (codes "i32.rotl") ∷ op 103 2 (codes "i32.rotr")
    ∷ op 104 1 (codes "i64.clz") ∷ op 105 1 (codes "i64.ctz") ∷ op 106 1 (codes "i64.popcnt") ∷ op 107 2 (codes "i64.add") ∷ op 108 2 (codes "i64.sub")
    ∷ op 109 2 (codes "i64.mul") ∷ op 110 2 (codes "i64.div_s") ∷ op 111 2 (codes "i64.div_u") ∷ op 112 2 (codes "i64.rem_s") ∷ op 113 2 (codes "i64.rem_u")
    ∷ op 114 2 (codes "i64.and") ∷ op 115 2 (codes "i64.or") ∷ op 116 2 (codes "i64.xor") ∷ op 117 2 (codes "i64.shl") ∷ op 118 2 (codes "i64.shr_s")
    ∷ op 119 2 (codes "i64.shr_u") ∷ op 120 2 (codes "i64.rotl") ∷ op 121 2 (codes "i64.rotr") ∷ op 122 1 (codes "f32.abs") ∷ op 123 1 (codes "f32.neg")
    ∷ op 124 1 (codes "f32.ceil") ∷ op 125 1 (codes "f32.floor") ∷ op 126 1 (codes "f32.trunc") ∷ op 127 1 (codes "f32.nearest") ∷ op 128 1 (codes "f32.sqrt")
    ∷ op 129 2 (codes "f32.add") ∷ op 130 2 (codes "f32.sub") ∷ op 131 2 (codes "f32.mul") ∷ op 132 2 (codes "f32.div") ∷ op 133 2 (codes "f32.min")
    ∷ op 134 2 (codes "f32.max") ∷ op 135 2 (codes "f32.copysign") ∷ op 136 1 (codes "f64.abs") ∷ op 137 1 (codes "f64.neg") ∷ op 138 1 (codes "f64.ceil")
    ∷ op 139 1 (codes "f64.floor") ∷ op 140 1 (codes "f64.trunc") ∷ op 141 1 (codes "f64.nearest") ∷ op 142 1 (codes "f64.sqrt") ∷ op 143 2 (codes "f64.add")
    ∷ op 144 2 (codes "f64.sub") ∷ op 145 2 (codes "f64.mul") ∷ op 146 2 (codes "f64.div") ∷ op 147 2 (codes "f64.min") ∷ op 148 2 (codes "f64.max")
    ∷ op 149 2 (codes "f64.copysign") ∷ op 150 1 (codes "wrap") ∷ op 151 1 (codes "i32.trunc_f32_s") ∷ op 152 1 (codes "i32.trunc_f32_u")
    ∷ op 153 1 (codes "i32.trunc_f64_s") ∷ op 154 1 (codes "i32.trunc_f64_u") ∷ op 155 1 (codes "i64.extend_i32_s") ∷ op 156 1 (codes "i64.extend_i32_u")
    ∷ op 157 1 (codes "i64.trunc_f32_s") ∷ op 158 1 (codes "i64.trunc_f32_u") ∷ op 159 1 (codes "i64.trunc_f64_s") ∷ op 160 1 (codes "i64.trunc_f64_u")
    ∷ op 161 1 (codes "f32.convert_i32_s") ∷ op 162 1 (codes "f32.convert_i32_u") ∷ op 163 1 (codes "f32.convert_i64_s")
    ∷ op 164 1 (codes "f32.convert_i64_u") ∷ op 165 1 (codes "f32.demote_f64") ∷ op 166 1 (codes "f64.convert_i32_s") ∷ op 167 1 (codes "f64.convert_i32_u")
    ∷ op 168 1 (codes "f64.convert_i64_s") ∷ op 169 1 (codes "f64.convert_i64_u") ∷ op 170 1 (codes "f64.promote_f32")
    ∷ op 171 1 (codes "i32.reinterpret_f32") ∷ op 172 1 (codes "i64.reinterpret_f64") ∷ op 173 1 (codes "f32.reinterpret_i32")
    ∷ op 174 1 (codes "f64.reinterpret_i64") ∷ op 175 1 (codes "i32.extend8_s") ∷ op 176 1 (codes "i32.extend16_s") ∷ op 177 1 (codes "i64.extend8_s")
    ∷ op 178 1 (codes "i64.extend16_s") ∷ op 179 1 (codes "i64.extend32_s") ∷ row 180 (codes "ref.null") kind.Ref arity.Zero
    ∷ row 181 (codes "ref.is_null") kind.Nothing arity.One ∷ row 182 (codes "ref.func") kind.Index arity.Zero ∷ op 183 1 (codes "i32.trunc_sat_f32_s")
    ∷ op 184 1 (codes "i32.trunc_sat_f32_u") ∷ op 185 1 (codes "i32.trunc_sat_f64_s") ∷ op 186 1 (codes "i32.trunc_sat_f64_u")
    ∷ op 187 1 (codes "i64.trunc_sat_f32_s") ∷ op 188 1 (codes "i64.trunc_sat_f32_u") ∷ op 189 1 (codes "i64.trunc_sat_f64_s")
    ∷ op 190 1 (codes "i64.trunc_sat_f64_u") ∷ row 191 (codes "memory.init") kind.MemoryInit (arity.Several 3)
    ∷ row 192 (codes "data.drop") kind.Index arity.Zero ∷ row 193 (codes "memory.copy") kind.MemoryCopy (arity.Several 3)
    ∷ row 194 (codes "memory.fill") kind.Index (arity.Several 3) ∷ row 195 (codes "table.init") kind.TableInit (arity.Several 3)
    ∷ row 196 (codes "elem.drop") kind.Index arity.Zero ∷ row 197 (codes "table.copy") kind.TableCopy (arity.Several 3)
    ∷ row 198 (codes "table.grow") kind.Index (arity.Several 2) ∷ row 199 (codes "table.size") kind.Index arity.Zero
    ∷ row 200 (codes "table.fill") kind.Index (arity.Several 3) ∷ row 201 (codes "v128.load") kind.Memory arity.One
    ∷ row 202 (codes "v128.load8x8_s") kind.Memory arity.One ∷ row 203 (codes "v128.load8x8_u") kind.Memory arity.One
    ∷ row 204 (codes "v128.load16x4_s") kind.Memory arity.One ∷ row 205 (codes "v128.load16x4_u") kind.Memory arity.One
    ∷ row 206 (codes "v128.load32x2_s") kind.Memory arity.One ∷ row 207 (codes "v128.load32x2_u") kind.Memory arity.One
    ∷ row 208 (codes "v128.load8_splat") kind.Memory arity.One ∷ row 209 (codes "v128.load16_splat") kind.Memory arity.One
    ∷ row 210 (codes "v128.load32_splat") kind.Memory arity.One ∷ row 211 (codes "v128.load64_splat") kind.Memory arity.One
    ∷ row 212 (codes "v128.store") kind.Memory (arity.Several 2) ∷ row 213 (codes "v128.const") kind.V128 arity.Zero
    ∷ row 214 (codes "i8x16.shuffle") kind.Shuffle (arity.Several 2) ∷ op 215 2 (codes "i8x16.swizzle") ∷ op 216 1 (codes "i8x16.splat")
    ∷ op 217 1 (codes "i16x8.splat") ∷ op 218 1 (codes "i32x4.splat") ∷ op 219 1 (codes "i64x2.splat") ∷ op 220 1 (codes "f32x4.splat")
    ∷ op 221 1 (codes "f64x2.splat") ∷ row 222 (codes "i8x16.extract_lane_s") kind.Lane arity.One ∷ row 223 (codes "i8x16.extract_lane_u") kind.Lane arity.One
    ∷ row 224 (codes "i8x16.replace_lane") kind.Lane (arity.Several 2) ∷ row 225 (codes "i16x8.extract_lane_s") kind.Lane arity.One
    ∷ row 226 (codes "i16x8.extract_lane_u") kind.Lane arity.One ∷ row 227 (codes "i16x8.replace_lane") kind.Lane (arity.Several 2)
    ∷ row 228 (codes "i32x4.extract_lane") kind.Lane arity.One ∷ row 229 (codes "i32x4.replace_lane") kind.Lane (arity.Several 2)
    ∷ row 230 (codes "i64x2.extract_lane") kind.Lane arity.One ∷ row 231 (codes "i64x2.replace_lane") kind.Lane (arity.Several 2)
    ∷ row 232 (codes "f32x4.extract_lane") kind.Lane arity.One ∷ row 233 (codes "f32x4.replace_lane") kind.Lane (arity.Several 2)
    ∷ row 234 (codes "f64x2.extract_lane") kind.Lane arity.One ∷ row 235 (codes "f64x2.replace_lane") kind.Lane (arity.Several 2)
    ∷ op 236 2 (codes "i8x16.eq") ∷ op 237 2 (codes "i8x16.ne") ∷ op 238 2 (codes "i8x16.lt_s") ∷ op 239 2 (codes "i8x16.lt_u")
    ∷ op 240 2 (codes "i8x16.gt_s") ∷ op 241 2 (codes "i8x16.gt_u") ∷ op 242 2 (codes "i8x16.le_s") ∷ op 243 2 (codes "i8x16.le_u")
    ∷ op 244 2 (codes "i8x16.ge_s") ∷ op 245 2 (codes "i8x16.ge_u") ∷ op 246 2 (codes "i16x8.eq") ∷ op 247 2 (codes "i16x8.ne")
    ∷ op 248 2 (codes "i16x8.lt_s") ∷ op 249 2 (codes "i16x8.lt_u") ∷ op 250 2 (codes "i16x8.gt_s") ∷ op 251 2 (codes "i16x8.gt_u")
    ∷ op 252 2 (codes "i16x8.le_s") ∷ op 253 2 (codes "i16x8.le_u") ∷ op 254 2 (codes "i16x8.ge_s") ∷ op 255 2 (codes "i16x8.ge_u")
    ∷ op 256 2 (codes "i32x4.eq") ∷ op 257 2 (codes "i32x4.ne") ∷ op 258 2 (codes "i32x4.lt_s") ∷ op 259 2 (codes "i32x4.lt_u")
    ∷ op 260 2 (codes "i32x4.gt_s") ∷ op 261 2 (codes "i32x4.gt_u") ∷ op 262 2 (codes "i32x4.le_s") ∷ op 263 2 (codes "i32x4.le_u")
    ∷ op 264 2 (codes "i32x4.ge_s") ∷ op 265 2 (codes "i32x4.ge_u") ∷ op 266 2 (codes "f32x4.eq") ∷ op 267 2 (codes "f32x4.ne") ∷ op 268 2 (codes "f32x4.lt")
    ∷ op 269 2 (codes "f32x4.gt") ∷ op 270 2 (codes "f32x4.le") ∷ op 271 2 (codes "f32x4.ge") ∷ op 272 2 (codes "f64x2.eq") ∷ op 273 2 (codes "f64x2.ne")
    ∷ op 274 2 (codes "f64x2.lt") ∷ op 275 2 (codes "f64x2.gt") ∷ op 276 2 (codes "f64x2.le") ∷ op 277 2 (codes "f64x2.ge") ∷ op 278 1 (codes "v128.not")
    ∷ op 279 2 (codes "v128.and") ∷ op 280 2 (codes "v128.and_not") ∷ op 281 2 (codes "v128.or") ∷ op 282 2 (codes "v128.xor")
    ∷ op 283 3 (codes "v128.bitselect") ∷ op 284 1 (codes "v128.any_true") ∷ row 285 (codes "v128.load8_lane") kind.MemoryLane (arity.Several 2)
    ∷ row 286 (codes "v128.load16_lane") kind.MemoryLane (arity.Several 2) ∷ row 287 (codes "v128.load32_lane") kind.MemoryLane (arity.Several 2)
    ∷ row 288 (codes "v128.load64_lane") kind.MemoryLane (arity.Several 2) ∷ row 289 (codes "v128.store8_lane") kind.MemoryLane (arity.Several 2)
    ∷ row 290 (codes "v128.store16_lane") kind.MemoryLane (arity.Several 2) ∷ row 291 (codes "v128.store32_lane") kind.MemoryLane (arity.Several 2)
    ∷ row 292 (codes "v128.store64_lane") kind.MemoryLane (arity.Several 2) ∷ row 293 (codes "v128.load32_zero") kind.Memory arity.One
    ∷ row 294 (codes "v128.load64_zero") kind.Memory arity.One ∷ op 295 1 (codes "f32x4.demote_f64x2_zero") ∷ op 296 1 (codes "f64x2.promote_low_f32x4")
    ∷ op 297 1 (codes "i8x16.abs") ∷ op 298 1 (codes "i8x16.neg") ∷ op 299 1 (codes "i8x16.popcnt") ∷ op 300 1 (codes "i8x16.all_true")
    ∷ op 301 1 (codes "i8x16.bitmask") ∷ op 302 2 (codes "i8x16.narrow_i16x8_s") ∷ op 303 2 (codes "i8x16.narrow_i16x8_u") ∷ op 304 1 (codes "f32x4.ceil")
    ∷ op 305 1 (codes "f32x4.floor") ∷ op 306 1 (codes "f32x4.trunc") ∷ op 307 1 (codes "f32x4.nearest") ∷ op 308 2 (codes "i8x16.shl")
    ∷ op 309 2 (codes "i8x16.shr_s") ∷ op 310 2 (codes "i8x16.shr_u") ∷ op 311 2 (codes "i8x16.add") ∷ op 312 2 (codes "i8x16.add_sat_s")
    ∷ op 313 2 (codes "i8x16.add_sat_u") ∷ op 314 2 (codes "i8x16.sub") ∷ op 315 2 (codes "i8x16.sub_sat_s") ∷ op 316 2 (codes "i8x16.sub_sat_u")
    ∷ op 317 1 (codes "f64x2.ceil") ∷ op 318 1 (codes "f64x2.floor") ∷ op 319 2 (codes "i8x16.min_s") ∷ op 320 2 (codes "i8x16.min_u")
    ∷ op 321 2 (codes "i8x16.max_s") ∷ op 322 2 (codes "i8x16.max_u") ∷ op 323 1 (codes "f64x2.trunc") ∷ op 324 2 (codes "i8x16.avgr_u")
    ∷ op 325 1 (codes "i16x8.extadd_pairwise_i8x16_s") ∷ op 326 1 (codes "i16x8.extadd_pairwise_i8x16_u") ∷ op 327 1 (codes "i32x4.extadd_pairwise_i16x8_s")
    ∷ op 328 1 (codes "i32x4.extadd_pairwise_i16x8_u") ∷ op 329 1 (codes "i16x8.abs") ∷ op 330 1 (codes "i16x8.neg") ∷ op 331 2 (codes "i16x8.q15mulr_sat_s")
    ∷ op 332 1 (codes "i16x8.all_true") ∷ op 333 1 (codes "i16x8.bitmask") ∷ op 334 2 (codes "i16x8.narrow_i32x4_s") ∷ op 335 2 (codes "i16x8.narrow_i32x4_u")
    ∷ op 336 1 (codes "i16x8.extend_low_i8x16_s") ∷ op 337 1 (codes "i16x8.extend_high_i8x16_s") ∷ op 338 1 (codes "i16x8.extend_low_i8x16_u")
    ∷ op 339 1 (codes "i16x8.extend_high_i8x16_u") ∷ op 340 2 (codes "i16x8.shl") ∷ op 341 2 (codes "i16x8.shr_s") ∷ op 342 2 (codes "i16x8.shr_u")
    ∷ op 343 2 (codes "i16x8.add") ∷ op 344 2 (codes "i16x8.add_sat_s") ∷ op 345 2 (codes "i16x8.add_sat_u") ∷ op 346 2 (codes "i16x8.sub")
    ∷ op 347 2 (codes "i16x8.sub_sat_s") ∷ op 348 2 (codes "i16x8.sub_sat_u") ∷ op 349 1 (codes "f64x2.nearest") ∷ op 350 2 (codes "i16x8.mul")
    ∷ op 351 2 (codes "i16x8.min_s") ∷ op 352 2 (codes "i16x8.min_u") ∷ op 353 2 (codes "i16x8.max_s") ∷ op 354 2 (codes "i16x8.max_u")
    ∷ op 355 2 (codes "i16x8.avgr_u") ∷ op 356 2 (codes "i16x8.extmul_low_i8x16_s") ∷ op 357 2 (codes "i16x8.extmul_high_i8x16_s")
    ∷ op 358 2 (codes "i16x8.extmul_low_i8x16_u") ∷ op 359 2 (codes "i16x8.extmul_high_i8x16_u") ∷ op 360 1 (codes "i32x4.abs") ∷ op 361 1 (codes "i32x4.neg")
    ∷ op 362 1 (codes "i32x4.all_true") ∷ op 363 1 (codes "i32x4.bitmask") ∷ op 364 1 (codes "i32x4.extend_low_i16x8_s")
    ∷ op 365 1 (codes "i32x4.extend_high_i16x8_s") ∷ op 366 1 (codes "i32x4.extend_low_i16x8_u") ∷ op 367 1 (codes "i32x4.extend_high_i16x8_u")
    ∷ op 368 2 (codes "i32x4.shl") ∷ op 369 2 (codes "i32x4.shr_s") ∷ op 370 2 (codes "i32x4.shr_u") ∷ op 371 2 (codes "i32x4.add")
    ∷ op 372 2 (codes "i32x4.sub") ∷ op 373 2 (codes "i32x4.mul") ∷ op 374 2 (codes "i32x4.min_s") ∷ op 375 2 (codes "i32x4.min_u")
    ∷ op 376 2 (codes "i32x4.max_s") ∷ op 377 2 (codes "i32x4.max_u") ∷ op 378 2 (codes "i32x4.dot_i16x8_s") ∷ op 379 2 (codes "i32x4.extmul_low_i16x8_s")
    ∷ op 380 2 (codes "i32x4.extmul_high_i16x8_s") ∷ op 381 2 (codes "i32x4.extmul_low_i16x8_u") ∷ op 382 2 (codes "i32x4.extmul_high_i16x8_u")
    ∷ op 383 1 (codes "i64x2.abs") ∷ op 384 1 (codes "i64x2.neg") ∷ op 385 1 (codes "i64x2.all_true") ∷ op 386 1 (codes "i64x2.bitmask")
    ∷ op 387 1 (codes "i64x2.extend_low_i32x4_s") ∷ op 388 1 (codes "i64x2.extend_high_i32x4_s") ∷ op 389 1 (codes "i64x2.extend_low_i32x4_u")
    ∷ op 390 1 (codes "i64x2.extend_high_i32x4_u") ∷ op 391 2 (codes "i64x2.shl") ∷ op 392 2 (codes "i64x2.shr_s") ∷ op 393 2 (codes "i64x2.shr_u")
    ∷ op 394 2 (codes "i64x2.add") ∷ op 395 2 (codes "i64x2.sub") ∷ op 396 2 (codes "i64x2.mul") ∷ op 397 2 (codes "i64x2.eq") ∷ op 398 2 (codes "i64x2.ne")
    ∷ op 399 2 (codes "i64x2.lt_s") ∷ op 400 2 (codes "i64x2.gt_s") ∷ op 401 2 (codes "i64x2.le_s") ∷ op 402 2 (codes "i64x2.ge_s")
    ∷ op 403 2 (codes "i64x2.extmul_low_i32x4_s") ∷ op 404 2 (codes "i64x2.extmul_high_i32x4_s") ∷ op 405 2 (codes "i64x2.extmul_low_i32x4_u")
    ∷ op 406 2 (codes "i64x2.extmul_high_i32x4_u") ∷ op 407 1 (codes "f32x4.abs") ∷ op 408 1 (codes "f32x4.neg") ∷ op 409 1 (codes "f32x4.sqrt")
    ∷ op 410 2 (codes "f32x4.add") ∷ op 411 2 (codes "f32x4.sub") ∷ op 412 2 (codes "f32x4.mul") ∷ op 413 2 (codes "f32x4.div") ∷ op 414 2 (codes "f32x4.min")
    ∷ op 415 2 (codes "f32x4.max") ∷ op 416 2 (codes "f32x4.pmin") ∷ op 417 2 (codes "f32x4.pmax") ∷ op 418 1 (codes "f64x2.abs")
    ∷ op 419 1 (codes "f64x2.neg") ∷ op 420 1 (codes "f64x2.sqrt") ∷ op 421 2 (codes "f64x2.add") ∷ op 422 2 (codes "f64x2.sub")
    ∷ op 423 2 (codes "f64x2.mul") ∷ op 424 2 (codes "f64x2.div") ∷ op 425 2 (codes "f64x2.min") ∷ op 426 2 (codes "f64x2.max")
    ∷ op 427 2 (codes "f64x2.pmin") ∷ op 428 2 (codes "f64x2.pmax") ∷ op 429 1 (codes "i32x4.trunc_sat_f32x4_s") ∷ op 430 1 (codes "i32x4.trunc_sat_f32x4_u")
    ∷ op 431 1 (codes "f32x4.convert_i32x4_s") ∷ op 432 1 (codes "f32x4.convert_i32x4_u") ∷ op 433 1 (codes "i32x4.trunc_sat_f64x2_s_zero")
    ∷ op 434 1 (codes "i32x4.trunc_sat_f64x2_u_zero") ∷ op 435 1 (codes "f64x2.convert_low_i32x4_s") ∷ op 436 1 (codes "f64x2.convert_low_i32x4_u")
    ∷ op 437 2 (codes "i8x16.relaxed_swizzle") ∷ op 438 1 (codes "i32x4.relaxed_trunc_f32x4_s") ∷ op 439 1 (codes "i32x4.relaxed_trunc_f32x4_u")
    ∷ op 440 1 (codes "i32x4.relaxed_trunc_f64x2_s_zero") ∷ op 441 1 (codes "i32x4.relaxed_trunc_f64x2_u_zero") ∷ op 442 3 (codes "f32x4.relaxed_madd")
    ∷ op 443 3 (codes "f32x4.relaxed_nmadd") ∷ op 444 3 (codes "f64x2.relaxed_madd") ∷ op 445 3 (codes "f64x2.relaxed_nmadd")
    ∷ op 446 3 (codes "i8x16.relaxed_laneselect") ∷ op 447 3 (codes "i16x8.relaxed_laneselect") ∷ op 448 3 (codes "i32x4.relaxed_laneselect")
    ∷ op 449 3 (codes "i64x2.relaxed_laneselect") ∷ op 450 2 (codes "f32x4.relaxed_min") ∷ op 451 2 (codes "f32x4.relaxed_max")
    ∷ op 452 2 (codes "f64x2.relaxed_min") ∷ op 453 2 (codes "f64x2.relaxed_max") ∷ op 454 2 (codes "i16x8.relaxed_q15_mulr_s")
    ∷ op 455 2 (codes "i16x8.relaxed_dot_i8x16_i7x16_s") ∷ op 456 3 (codes "i32x4.relaxed_dot_i8x16_i7x16_add_s")
    ∷ row 457 (codes "select") kind.Value (arity.Several 3) ∷ []

abbrev pub variant_at : ℕ → Option Variant
variant_at place = slice_get variants place

-- ---- what nodes there are

-- that many children are right for the variant
abbrev pub is_right : Arity → ℕ → Bool
is_right arity.Zero count = 0 == count
is_right arity.One count = 1 == count
is_right (arity.Several n) count = n == count
is_right arity.Any count = true

abbrev pub is_node_of : Option Variant → Payload → ℕ → Bool
is_node_of None p count = false
is_node_of (Some v) p count = is_payload_of v.payload p && is_right v.children count

-- there is a variant with that place, that kind of payload and that many children
abbrev pub variant_fits : ℕ → Payload → ℕ → Bool
variant_fits place p count = is_node_of (variant_at place) p count
