-- The nodes of vector instructions seen as place, payload and children (this project).
use Rattle.std.specs.Prelude.{ℕ, List}
use Rattle.peephole_nodes.specs.declared.id.Id.{Id}
use Rattle.peephole_nodes.specs.declared.payload.Payload.{Payload}
use Rattle.peephole_nodes.specs.declared.payload.Payload.TheVariants as payload
use Rattle.peephole_nodes.specs.declared.simd.Simd.{Simd}
use Rattle.peephole_nodes.specs.declared.simd.Simd.TheVariants as vector
use Rattle.peephole_nodes.specs.View.{Children, View, ids_in, leaf, only, array}

abbrev pub simd_view : Simd → View Simd
simd_view (vector.V128Load p child) = only 201 (payload.Memory p) (vector.V128Load p) child
simd_view (vector.V128Load8x8S p child) = only 202 (payload.Memory p) (vector.V128Load8x8S p) child
simd_view (vector.V128Load8x8U p child) = only 203 (payload.Memory p) (vector.V128Load8x8U p) child
simd_view (vector.V128Load16x4S p child) = only 204 (payload.Memory p) (vector.V128Load16x4S p) child
simd_view (vector.V128Load16x4U p child) = only 205 (payload.Memory p) (vector.V128Load16x4U p) child
simd_view (vector.V128Load32x2S p child) = only 206 (payload.Memory p) (vector.V128Load32x2S p) child
simd_view (vector.V128Load32x2U p child) = only 207 (payload.Memory p) (vector.V128Load32x2U p) child
simd_view (vector.V128Load8Splat p child) = only 208 (payload.Memory p) (vector.V128Load8Splat p) child
simd_view (vector.V128Load16Splat p child) = only 209 (payload.Memory p) (vector.V128Load16Splat p) child
simd_view (vector.V128Load32Splat p child) = only 210 (payload.Memory p) (vector.V128Load32Splat p) child
simd_view (vector.V128Load64Splat p child) = only 211 (payload.Memory p) (vector.V128Load64Splat p) child
simd_view (vector.V128Store p ids) = array 212 (payload.Memory p) 2 (vector.V128Store p) ids
simd_view (vector.V128 p) = leaf 213 (payload.V128 p) (vector.V128 p)
simd_view (vector.I8x16Shuffle p ids) = array 214 (payload.Shuffle p) 2 (vector.I8x16Shuffle p) ids
simd_view (vector.I8x16Swizzle ids) = array 215 payload.Nothing 2 vector.I8x16Swizzle ids
simd_view (vector.I8x16Splat ids) = array 216 payload.Nothing 1 vector.I8x16Splat ids
simd_view (vector.I16x8Splat ids) = array 217 payload.Nothing 1 vector.I16x8Splat ids
simd_view (vector.I32x4Splat ids) = array 218 payload.Nothing 1 vector.I32x4Splat ids
simd_view (vector.I64x2Splat ids) = array 219 payload.Nothing 1 vector.I64x2Splat ids
simd_view (vector.F32x4Splat ids) = array 220 payload.Nothing 1 vector.F32x4Splat ids
simd_view (vector.F64x2Splat ids) = array 221 payload.Nothing 1 vector.F64x2Splat ids
simd_view (vector.I8x16ExtractLaneS p child) = only 222 (payload.Lane p) (vector.I8x16ExtractLaneS p) child
simd_view (vector.I8x16ExtractLaneU p child) = only 223 (payload.Lane p) (vector.I8x16ExtractLaneU p) child
simd_view (vector.I8x16ReplaceLane p ids) = array 224 (payload.Lane p) 2 (vector.I8x16ReplaceLane p) ids
simd_view (vector.I16x8ExtractLaneS p child) = only 225 (payload.Lane p) (vector.I16x8ExtractLaneS p) child
simd_view (vector.I16x8ExtractLaneU p child) = only 226 (payload.Lane p) (vector.I16x8ExtractLaneU p) child
simd_view (vector.I16x8ReplaceLane p ids) = array 227 (payload.Lane p) 2 (vector.I16x8ReplaceLane p) ids
simd_view (vector.I32x4ExtractLane p child) = only 228 (payload.Lane p) (vector.I32x4ExtractLane p) child
simd_view (vector.I32x4ReplaceLane p ids) = array 229 (payload.Lane p) 2 (vector.I32x4ReplaceLane p) ids
simd_view (vector.I64x2ExtractLane p child) = only 230 (payload.Lane p) (vector.I64x2ExtractLane p) child
simd_view (vector.I64x2ReplaceLane p ids) = array 231 (payload.Lane p) 2 (vector.I64x2ReplaceLane p) ids
simd_view (vector.F32x4ExtractLane p child) = only 232 (payload.Lane p) (vector.F32x4ExtractLane p) child
simd_view (vector.F32x4ReplaceLane p ids) = array 233 (payload.Lane p) 2 (vector.F32x4ReplaceLane p) ids
simd_view (vector.F64x2ExtractLane p child) = only 234 (payload.Lane p) (vector.F64x2ExtractLane p) child
simd_view (vector.F64x2ReplaceLane p ids) = array 235 (payload.Lane p) 2 (vector.F64x2ReplaceLane p) ids
simd_view (vector.I8x16Eq ids) = array 236 payload.Nothing 2 vector.I8x16Eq ids
simd_view (vector.I8x16Ne ids) = array 237 payload.Nothing 2 vector.I8x16Ne ids
simd_view (vector.I8x16LtS ids) = array 238 payload.Nothing 2 vector.I8x16LtS ids
simd_view (vector.I8x16LtU ids) = array 239 payload.Nothing 2 vector.I8x16LtU ids
simd_view (vector.I8x16GtS ids) = array 240 payload.Nothing 2 vector.I8x16GtS ids
simd_view (vector.I8x16GtU ids) = array 241 payload.Nothing 2 vector.I8x16GtU ids
simd_view (vector.I8x16LeS ids) = array 242 payload.Nothing 2 vector.I8x16LeS ids
simd_view (vector.I8x16LeU ids) = array 243 payload.Nothing 2 vector.I8x16LeU ids
simd_view (vector.I8x16GeS ids) = array 244 payload.Nothing 2 vector.I8x16GeS ids
simd_view (vector.I8x16GeU ids) = array 245 payload.Nothing 2 vector.I8x16GeU ids
simd_view (vector.I16x8Eq ids) = array 246 payload.Nothing 2 vector.I16x8Eq ids
simd_view (vector.I16x8Ne ids) = array 247 payload.Nothing 2 vector.I16x8Ne ids
simd_view (vector.I16x8LtS ids) = array 248 payload.Nothing 2 vector.I16x8LtS ids
simd_view (vector.I16x8LtU ids) = array 249 payload.Nothing 2 vector.I16x8LtU ids
simd_view (vector.I16x8GtS ids) = array 250 payload.Nothing 2 vector.I16x8GtS ids
simd_view (vector.I16x8GtU ids) = array 251 payload.Nothing 2 vector.I16x8GtU ids
simd_view (vector.I16x8LeS ids) = array 252 payload.Nothing 2 vector.I16x8LeS ids
simd_view (vector.I16x8LeU ids) = array 253 payload.Nothing 2 vector.I16x8LeU ids
simd_view (vector.I16x8GeS ids) = array 254 payload.Nothing 2 vector.I16x8GeS ids
simd_view (vector.I16x8GeU ids) = array 255 payload.Nothing 2 vector.I16x8GeU ids
simd_view (vector.I32x4Eq ids) = array 256 payload.Nothing 2 vector.I32x4Eq ids
simd_view (vector.I32x4Ne ids) = array 257 payload.Nothing 2 vector.I32x4Ne ids
simd_view (vector.I32x4LtS ids) = array 258 payload.Nothing 2 vector.I32x4LtS ids
simd_view (vector.I32x4LtU ids) = array 259 payload.Nothing 2 vector.I32x4LtU ids
simd_view (vector.I32x4GtS ids) = array 260 payload.Nothing 2 vector.I32x4GtS ids
simd_view (vector.I32x4GtU ids) = array 261 payload.Nothing 2 vector.I32x4GtU ids
simd_view (vector.I32x4LeS ids) = array 262 payload.Nothing 2 vector.I32x4LeS ids
simd_view (vector.I32x4LeU ids) = array 263 payload.Nothing 2 vector.I32x4LeU ids
simd_view (vector.I32x4GeS ids) = array 264 payload.Nothing 2 vector.I32x4GeS ids
simd_view (vector.I32x4GeU ids) = array 265 payload.Nothing 2 vector.I32x4GeU ids
simd_view (vector.F32x4Eq ids) = array 266 payload.Nothing 2 vector.F32x4Eq ids
simd_view (vector.F32x4Ne ids) = array 267 payload.Nothing 2 vector.F32x4Ne ids
simd_view (vector.F32x4Lt ids) = array 268 payload.Nothing 2 vector.F32x4Lt ids
simd_view (vector.F32x4Gt ids) = array 269 payload.Nothing 2 vector.F32x4Gt ids
simd_view (vector.F32x4Le ids) = array 270 payload.Nothing 2 vector.F32x4Le ids
simd_view (vector.F32x4Ge ids) = array 271 payload.Nothing 2 vector.F32x4Ge ids
simd_view (vector.F64x2Eq ids) = array 272 payload.Nothing 2 vector.F64x2Eq ids
simd_view (vector.F64x2Ne ids) = array 273 payload.Nothing 2 vector.F64x2Ne ids
simd_view (vector.F64x2Lt ids) = array 274 payload.Nothing 2 vector.F64x2Lt ids
simd_view (vector.F64x2Gt ids) = array 275 payload.Nothing 2 vector.F64x2Gt ids
simd_view (vector.F64x2Le ids) = array 276 payload.Nothing 2 vector.F64x2Le ids
simd_view (vector.F64x2Ge ids) = array 277 payload.Nothing 2 vector.F64x2Ge ids
simd_view (vector.V128Not ids) = array 278 payload.Nothing 1 vector.V128Not ids
simd_view (vector.V128And ids) = array 279 payload.Nothing 2 vector.V128And ids
simd_view (vector.V128AndNot ids) = array 280 payload.Nothing 2 vector.V128AndNot ids
simd_view (vector.V128Or ids) = array 281 payload.Nothing 2 vector.V128Or ids
simd_view (vector.V128Xor ids) = array 282 payload.Nothing 2 vector.V128Xor ids
simd_view (vector.V128Bitselect ids) = array 283 payload.Nothing 3 vector.V128Bitselect ids
simd_view (vector.V128AnyTrue ids) = array 284 payload.Nothing 1 vector.V128AnyTrue ids
simd_view (vector.V128Load8Lane lane m ids) = array 285 (payload.MemoryLane (record { memarg = m; lane = lane })) 2 (vector.V128Load8Lane lane m) ids
simd_view (vector.V128Load16Lane lane m ids) = array 286 (payload.MemoryLane (record { memarg = m; lane = lane })) 2 (vector.V128Load16Lane lane m) ids
simd_view (vector.V128Load32Lane lane m ids) = array 287 (payload.MemoryLane (record { memarg = m; lane = lane })) 2 (vector.V128Load32Lane lane m) ids
simd_view (vector.V128Load64Lane lane m ids) = array 288 (payload.MemoryLane (record { memarg = m; lane = lane })) 2 (vector.V128Load64Lane lane m) ids
simd_view (vector.V128Store8Lane lane m ids) = array 289 (payload.MemoryLane (record { memarg = m; lane = lane })) 2 (vector.V128Store8Lane lane m) ids
simd_view (vector.V128Store16Lane lane m ids) = array 290 (payload.MemoryLane (record { memarg = m; lane = lane })) 2 (vector.V128Store16Lane lane m) ids
simd_view (vector.V128Store32Lane lane m ids) = array 291 (payload.MemoryLane (record { memarg = m; lane = lane })) 2 (vector.V128Store32Lane lane m) ids
simd_view (vector.V128Store64Lane lane m ids) = array 292 (payload.MemoryLane (record { memarg = m; lane = lane })) 2 (vector.V128Store64Lane lane m) ids
simd_view (vector.V128Load32Zero p child) = only 293 (payload.Memory p) (vector.V128Load32Zero p) child
simd_view (vector.V128Load64Zero p child) = only 294 (payload.Memory p) (vector.V128Load64Zero p) child
simd_view (vector.F32x4DemoteF64x2Zero ids) = array 295 payload.Nothing 1 vector.F32x4DemoteF64x2Zero ids
simd_view (vector.F64x2PromoteLowF32x4 ids) = array 296 payload.Nothing 1 vector.F64x2PromoteLowF32x4 ids
simd_view (vector.I8x16Abs ids) = array 297 payload.Nothing 1 vector.I8x16Abs ids
simd_view (vector.I8x16Neg ids) = array 298 payload.Nothing 1 vector.I8x16Neg ids
simd_view (vector.I8x16Popcnt ids) = array 299 payload.Nothing 1 vector.I8x16Popcnt ids
simd_view (vector.I8x16AllTrue ids) = array 300 payload.Nothing 1 vector.I8x16AllTrue ids
simd_view (vector.I8x16Bitmask ids) = array 301 payload.Nothing 1 vector.I8x16Bitmask ids
simd_view (vector.I8x16NarrowI16x8S ids) = array 302 payload.Nothing 2 vector.I8x16NarrowI16x8S ids
simd_view (vector.I8x16NarrowI16x8U ids) = array 303 payload.Nothing 2 vector.I8x16NarrowI16x8U ids
simd_view (vector.F32x4Ceil ids) = array 304 payload.Nothing 1 vector.F32x4Ceil ids
simd_view (vector.F32x4Floor ids) = array 305 payload.Nothing 1 vector.F32x4Floor ids
simd_view (vector.F32x4Trunc ids) = array 306 payload.Nothing 1 vector.F32x4Trunc ids
simd_view (vector.F32x4Nearest ids) = array 307 payload.Nothing 1 vector.F32x4Nearest ids
simd_view (vector.I8x16Shl ids) = array 308 payload.Nothing 2 vector.I8x16Shl ids
simd_view (vector.I8x16ShrS ids) = array 309 payload.Nothing 2 vector.I8x16ShrS ids
simd_view (vector.I8x16ShrU ids) = array 310 payload.Nothing 2 vector.I8x16ShrU ids
simd_view (vector.I8x16Add ids) = array 311 payload.Nothing 2 vector.I8x16Add ids
simd_view (vector.I8x16AddSatS ids) = array 312 payload.Nothing 2 vector.I8x16AddSatS ids
simd_view (vector.I8x16AddSatU ids) = array 313 payload.Nothing 2 vector.I8x16AddSatU ids
simd_view (vector.I8x16Sub ids) = array 314 payload.Nothing 2 vector.I8x16Sub ids
simd_view (vector.I8x16SubSatS ids) = array 315 payload.Nothing 2 vector.I8x16SubSatS ids
simd_view (vector.I8x16SubSatU ids) = array 316 payload.Nothing 2 vector.I8x16SubSatU ids
simd_view (vector.F64x2Ceil ids) = array 317 payload.Nothing 1 vector.F64x2Ceil ids
simd_view (vector.F64x2Floor ids) = array 318 payload.Nothing 1 vector.F64x2Floor ids
simd_view (vector.I8x16MinS ids) = array 319 payload.Nothing 2 vector.I8x16MinS ids
simd_view (vector.I8x16MinU ids) = array 320 payload.Nothing 2 vector.I8x16MinU ids
simd_view (vector.I8x16MaxS ids) = array 321 payload.Nothing 2 vector.I8x16MaxS ids
simd_view (vector.I8x16MaxU ids) = array 322 payload.Nothing 2 vector.I8x16MaxU ids
simd_view (vector.F64x2Trunc ids) = array 323 payload.Nothing 1 vector.F64x2Trunc ids
simd_view (vector.I8x16AvgrU ids) = array 324 payload.Nothing 2 vector.I8x16AvgrU ids
simd_view (vector.I16x8ExtAddPairwiseI8x16S ids) = array 325 payload.Nothing 1 vector.I16x8ExtAddPairwiseI8x16S ids
simd_view (vector.I16x8ExtAddPairwiseI8x16U ids) = array 326 payload.Nothing 1 vector.I16x8ExtAddPairwiseI8x16U ids
simd_view (vector.I32x4ExtAddPairwiseI16x8S ids) = array 327 payload.Nothing 1 vector.I32x4ExtAddPairwiseI16x8S ids
simd_view (vector.I32x4ExtAddPairwiseI16x8U ids) = array 328 payload.Nothing 1 vector.I32x4ExtAddPairwiseI16x8U ids
simd_view (vector.I16x8Abs ids) = array 329 payload.Nothing 1 vector.I16x8Abs ids
simd_view (vector.I16x8Neg ids) = array 330 payload.Nothing 1 vector.I16x8Neg ids
simd_view (vector.I16x8Q15MulrSatS ids) = array 331 payload.Nothing 2 vector.I16x8Q15MulrSatS ids
simd_view (vector.I16x8AllTrue ids) = array 332 payload.Nothing 1 vector.I16x8AllTrue ids
simd_view (vector.I16x8Bitmask ids) = array 333 payload.Nothing 1 vector.I16x8Bitmask ids
simd_view (vector.I16x8NarrowI32x4S ids) = array 334 payload.Nothing 2 vector.I16x8NarrowI32x4S ids
simd_view (vector.I16x8NarrowI32x4U ids) = array 335 payload.Nothing 2 vector.I16x8NarrowI32x4U ids
simd_view (vector.I16x8ExtendLowI8x16S ids) = array 336 payload.Nothing 1 vector.I16x8ExtendLowI8x16S ids
simd_view (vector.I16x8ExtendHighI8x16S ids) = array 337 payload.Nothing 1 vector.I16x8ExtendHighI8x16S ids
simd_view (vector.I16x8ExtendLowI8x16U ids) = array 338 payload.Nothing 1 vector.I16x8ExtendLowI8x16U ids
simd_view (vector.I16x8ExtendHighI8x16U ids) = array 339 payload.Nothing 1 vector.I16x8ExtendHighI8x16U ids
simd_view (vector.I16x8Shl ids) = array 340 payload.Nothing 2 vector.I16x8Shl ids
simd_view (vector.I16x8ShrS ids) = array 341 payload.Nothing 2 vector.I16x8ShrS ids
simd_view (vector.I16x8ShrU ids) = array 342 payload.Nothing 2 vector.I16x8ShrU ids
simd_view (vector.I16x8Add ids) = array 343 payload.Nothing 2 vector.I16x8Add ids
simd_view (vector.I16x8AddSatS ids) = array 344 payload.Nothing 2 vector.I16x8AddSatS ids
simd_view (vector.I16x8AddSatU ids) = array 345 payload.Nothing 2 vector.I16x8AddSatU ids
simd_view (vector.I16x8Sub ids) = array 346 payload.Nothing 2 vector.I16x8Sub ids
simd_view (vector.I16x8SubSatS ids) = array 347 payload.Nothing 2 vector.I16x8SubSatS ids
simd_view (vector.I16x8SubSatU ids) = array 348 payload.Nothing 2 vector.I16x8SubSatU ids
simd_view (vector.F64x2Nearest ids) = array 349 payload.Nothing 1 vector.F64x2Nearest ids
simd_view (vector.I16x8Mul ids) = array 350 payload.Nothing 2 vector.I16x8Mul ids
simd_view (vector.I16x8MinS ids) = array 351 payload.Nothing 2 vector.I16x8MinS ids
simd_view (vector.I16x8MinU ids) = array 352 payload.Nothing 2 vector.I16x8MinU ids
simd_view (vector.I16x8MaxS ids) = array 353 payload.Nothing 2 vector.I16x8MaxS ids
simd_view (vector.I16x8MaxU ids) = array 354 payload.Nothing 2 vector.I16x8MaxU ids
simd_view (vector.I16x8AvgrU ids) = array 355 payload.Nothing 2 vector.I16x8AvgrU ids
simd_view (vector.I16x8ExtMulLowI8x16S ids) = array 356 payload.Nothing 2 vector.I16x8ExtMulLowI8x16S ids
simd_view (vector.I16x8ExtMulHighI8x16S ids) = array 357 payload.Nothing 2 vector.I16x8ExtMulHighI8x16S ids
simd_view (vector.I16x8ExtMulLowI8x16U ids) = array 358 payload.Nothing 2 vector.I16x8ExtMulLowI8x16U ids
simd_view (vector.I16x8ExtMulHighI8x16U ids) = array 359 payload.Nothing 2 vector.I16x8ExtMulHighI8x16U ids
simd_view (vector.I32x4Abs ids) = array 360 payload.Nothing 1 vector.I32x4Abs ids
simd_view (vector.I32x4Neg ids) = array 361 payload.Nothing 1 vector.I32x4Neg ids
simd_view (vector.I32x4AllTrue ids) = array 362 payload.Nothing 1 vector.I32x4AllTrue ids
simd_view (vector.I32x4Bitmask ids) = array 363 payload.Nothing 1 vector.I32x4Bitmask ids
simd_view (vector.I32x4ExtendLowI16x8S ids) = array 364 payload.Nothing 1 vector.I32x4ExtendLowI16x8S ids
simd_view (vector.I32x4ExtendHighI16x8S ids) = array 365 payload.Nothing 1 vector.I32x4ExtendHighI16x8S ids
simd_view (vector.I32x4ExtendLowI16x8U ids) = array 366 payload.Nothing 1 vector.I32x4ExtendLowI16x8U ids
simd_view (vector.I32x4ExtendHighI16x8U ids) = array 367 payload.Nothing 1 vector.I32x4ExtendHighI16x8U ids
simd_view (vector.I32x4Shl ids) = array 368 payload.Nothing 2 vector.I32x4Shl ids
simd_view (vector.I32x4ShrS ids) = array 369 payload.Nothing 2 vector.I32x4ShrS ids
simd_view (vector.I32x4ShrU ids) = array 370 payload.Nothing 2 vector.I32x4ShrU ids
simd_view (vector.I32x4Add ids) = array 371 payload.Nothing 2 vector.I32x4Add ids
simd_view (vector.I32x4Sub ids) = array 372 payload.Nothing 2 vector.I32x4Sub ids
simd_view (vector.I32x4Mul ids) = array 373 payload.Nothing 2 vector.I32x4Mul ids
simd_view (vector.I32x4MinS ids) = array 374 payload.Nothing 2 vector.I32x4MinS ids
simd_view (vector.I32x4MinU ids) = array 375 payload.Nothing 2 vector.I32x4MinU ids
simd_view (vector.I32x4MaxS ids) = array 376 payload.Nothing 2 vector.I32x4MaxS ids
simd_view (vector.I32x4MaxU ids) = array 377 payload.Nothing 2 vector.I32x4MaxU ids
simd_view (vector.I32x4DotI16x8S ids) = array 378 payload.Nothing 2 vector.I32x4DotI16x8S ids
simd_view (vector.I32x4ExtMulLowI16x8S ids) = array 379 payload.Nothing 2 vector.I32x4ExtMulLowI16x8S ids
simd_view (vector.I32x4ExtMulHighI16x8S ids) = array 380 payload.Nothing 2 vector.I32x4ExtMulHighI16x8S ids
simd_view (vector.I32x4ExtMulLowI16x8U ids) = array 381 payload.Nothing 2 vector.I32x4ExtMulLowI16x8U ids
simd_view (vector.I32x4ExtMulHighI16x8U ids) = array 382 payload.Nothing 2 vector.I32x4ExtMulHighI16x8U ids
simd_view (vector.I64x2Abs ids) = array 383 payload.Nothing 1 vector.I64x2Abs ids
simd_view (vector.I64x2Neg ids) = array 384 payload.Nothing 1 vector.I64x2Neg ids
simd_view (vector.I64x2AllTrue ids) = array 385 payload.Nothing 1 vector.I64x2AllTrue ids
simd_view (vector.I64x2Bitmask ids) = array 386 payload.Nothing 1 vector.I64x2Bitmask ids
simd_view (vector.I64x2ExtendLowI32x4S ids) = array 387 payload.Nothing 1 vector.I64x2ExtendLowI32x4S ids
simd_view (vector.I64x2ExtendHighI32x4S ids) = array 388 payload.Nothing 1 vector.I64x2ExtendHighI32x4S ids
simd_view (vector.I64x2ExtendLowI32x4U ids) = array 389 payload.Nothing 1 vector.I64x2ExtendLowI32x4U ids
simd_view (vector.I64x2ExtendHighI32x4U ids) = array 390 payload.Nothing 1 vector.I64x2ExtendHighI32x4U ids
simd_view (vector.I64x2Shl ids) = array 391 payload.Nothing 2 vector.I64x2Shl ids
simd_view (vector.I64x2ShrS ids) = array 392 payload.Nothing 2 vector.I64x2ShrS ids
simd_view (vector.I64x2ShrU ids) = array 393 payload.Nothing 2 vector.I64x2ShrU ids
simd_view (vector.I64x2Add ids) = array 394 payload.Nothing 2 vector.I64x2Add ids
simd_view (vector.I64x2Sub ids) = array 395 payload.Nothing 2 vector.I64x2Sub ids
simd_view (vector.I64x2Mul ids) = array 396 payload.Nothing 2 vector.I64x2Mul ids
simd_view (vector.I64x2Eq ids) = array 397 payload.Nothing 2 vector.I64x2Eq ids
simd_view (vector.I64x2Ne ids) = array 398 payload.Nothing 2 vector.I64x2Ne ids
simd_view (vector.I64x2LtS ids) = array 399 payload.Nothing 2 vector.I64x2LtS ids
simd_view (vector.I64x2GtS ids) = array 400 payload.Nothing 2 vector.I64x2GtS ids
simd_view (vector.I64x2LeS ids) = array 401 payload.Nothing 2 vector.I64x2LeS ids
simd_view (vector.I64x2GeS ids) = array 402 payload.Nothing 2 vector.I64x2GeS ids
simd_view (vector.I64x2ExtMulLowI32x4S ids) = array 403 payload.Nothing 2 vector.I64x2ExtMulLowI32x4S ids
simd_view (vector.I64x2ExtMulHighI32x4S ids) = array 404 payload.Nothing 2 vector.I64x2ExtMulHighI32x4S ids
simd_view (vector.I64x2ExtMulLowI32x4U ids) = array 405 payload.Nothing 2 vector.I64x2ExtMulLowI32x4U ids
simd_view (vector.I64x2ExtMulHighI32x4U ids) = array 406 payload.Nothing 2 vector.I64x2ExtMulHighI32x4U ids
simd_view (vector.F32x4Abs ids) = array 407 payload.Nothing 1 vector.F32x4Abs ids
simd_view (vector.F32x4Neg ids) = array 408 payload.Nothing 1 vector.F32x4Neg ids
simd_view (vector.F32x4Sqrt ids) = array 409 payload.Nothing 1 vector.F32x4Sqrt ids
simd_view (vector.F32x4Add ids) = array 410 payload.Nothing 2 vector.F32x4Add ids
simd_view (vector.F32x4Sub ids) = array 411 payload.Nothing 2 vector.F32x4Sub ids
simd_view (vector.F32x4Mul ids) = array 412 payload.Nothing 2 vector.F32x4Mul ids
simd_view (vector.F32x4Div ids) = array 413 payload.Nothing 2 vector.F32x4Div ids
simd_view (vector.F32x4Min ids) = array 414 payload.Nothing 2 vector.F32x4Min ids
simd_view (vector.F32x4Max ids) = array 415 payload.Nothing 2 vector.F32x4Max ids
simd_view (vector.F32x4PMin ids) = array 416 payload.Nothing 2 vector.F32x4PMin ids
simd_view (vector.F32x4PMax ids) = array 417 payload.Nothing 2 vector.F32x4PMax ids
simd_view (vector.F64x2Abs ids) = array 418 payload.Nothing 1 vector.F64x2Abs ids
simd_view (vector.F64x2Neg ids) = array 419 payload.Nothing 1 vector.F64x2Neg ids
simd_view (vector.F64x2Sqrt ids) = array 420 payload.Nothing 1 vector.F64x2Sqrt ids
simd_view (vector.F64x2Add ids) = array 421 payload.Nothing 2 vector.F64x2Add ids
simd_view (vector.F64x2Sub ids) = array 422 payload.Nothing 2 vector.F64x2Sub ids
simd_view (vector.F64x2Mul ids) = array 423 payload.Nothing 2 vector.F64x2Mul ids
simd_view (vector.F64x2Div ids) = array 424 payload.Nothing 2 vector.F64x2Div ids
simd_view (vector.F64x2Min ids) = array 425 payload.Nothing 2 vector.F64x2Min ids
simd_view (vector.F64x2Max ids) = array 426 payload.Nothing 2 vector.F64x2Max ids
simd_view (vector.F64x2PMin ids) = array 427 payload.Nothing 2 vector.F64x2PMin ids
simd_view (vector.F64x2PMax ids) = array 428 payload.Nothing 2 vector.F64x2PMax ids
simd_view (vector.I32x4TruncSatF32x4S ids) = array 429 payload.Nothing 1 vector.I32x4TruncSatF32x4S ids
simd_view (vector.I32x4TruncSatF32x4U ids) = array 430 payload.Nothing 1 vector.I32x4TruncSatF32x4U ids
simd_view (vector.F32x4ConvertI32x4S ids) = array 431 payload.Nothing 1 vector.F32x4ConvertI32x4S ids
simd_view (vector.F32x4ConvertI32x4U ids) = array 432 payload.Nothing 1 vector.F32x4ConvertI32x4U ids
simd_view (vector.I32x4TruncSatF64x2SZero ids) = array 433 payload.Nothing 1 vector.I32x4TruncSatF64x2SZero ids
simd_view (vector.I32x4TruncSatF64x2UZero ids) = array 434 payload.Nothing 1 vector.I32x4TruncSatF64x2UZero ids
simd_view (vector.F64x2ConvertLowI32x4S ids) = array 435 payload.Nothing 1 vector.F64x2ConvertLowI32x4S ids
simd_view (vector.F64x2ConvertLowI32x4U ids) = array 436 payload.Nothing 1 vector.F64x2ConvertLowI32x4U ids
simd_view (vector.I8x16RelaxedSwizzle ids) = array 437 payload.Nothing 2 vector.I8x16RelaxedSwizzle ids
simd_view (vector.I32x4RelaxedTruncF32x4S ids) = array 438 payload.Nothing 1 vector.I32x4RelaxedTruncF32x4S ids
simd_view (vector.I32x4RelaxedTruncF32x4U ids) = array 439 payload.Nothing 1 vector.I32x4RelaxedTruncF32x4U ids
simd_view (vector.I32x4RelaxedTruncF64x2SZero ids) = array 440 payload.Nothing 1 vector.I32x4RelaxedTruncF64x2SZero ids
simd_view (vector.I32x4RelaxedTruncF64x2UZero ids) = array 441 payload.Nothing 1 vector.I32x4RelaxedTruncF64x2UZero ids
simd_view (vector.F32x4RelaxedMadd ids) = array 442 payload.Nothing 3 vector.F32x4RelaxedMadd ids
simd_view (vector.F32x4RelaxedNmadd ids) = array 443 payload.Nothing 3 vector.F32x4RelaxedNmadd ids
simd_view (vector.F64x2RelaxedMadd ids) = array 444 payload.Nothing 3 vector.F64x2RelaxedMadd ids
simd_view (vector.F64x2RelaxedNmadd ids) = array 445 payload.Nothing 3 vector.F64x2RelaxedNmadd ids
simd_view (vector.I8x16RelaxedLaneselect ids) = array 446 payload.Nothing 3 vector.I8x16RelaxedLaneselect ids
simd_view (vector.I16x8RelaxedLaneselect ids) = array 447 payload.Nothing 3 vector.I16x8RelaxedLaneselect ids
simd_view (vector.I32x4RelaxedLaneselect ids) = array 448 payload.Nothing 3 vector.I32x4RelaxedLaneselect ids
simd_view (vector.I64x2RelaxedLaneselect ids) = array 449 payload.Nothing 3 vector.I64x2RelaxedLaneselect ids
simd_view (vector.F32x4RelaxedMin ids) = array 450 payload.Nothing 2 vector.F32x4RelaxedMin ids
simd_view (vector.F32x4RelaxedMax ids) = array 451 payload.Nothing 2 vector.F32x4RelaxedMax ids
simd_view (vector.F64x2RelaxedMin ids) = array 452 payload.Nothing 2 vector.F64x2RelaxedMin ids
simd_view (vector.F64x2RelaxedMax ids) = array 453 payload.Nothing 2 vector.F64x2RelaxedMax ids
simd_view (vector.I16x8RelaxedQ15mulrS ids) = array 454 payload.Nothing 2 vector.I16x8RelaxedQ15mulrS ids
simd_view (vector.I16x8RelaxedDotI8x16I7x16S ids) = array 455 payload.Nothing 2 vector.I16x8RelaxedDotI8x16I7x16S ids
simd_view (vector.I32x4RelaxedDotI8x16I7x16AddS ids) = array 456 payload.Nothing 3 vector.I32x4RelaxedDotI8x16I7x16AddS ids

-- the place of its variant in the order of nodes
unfoldable pub simd_place_of : Simd → ℕ
simd_place_of s = (simd_view s).place

-- what it says besides its variant and its children
unfoldable pub simd_payload_of : Simd → Payload
simd_payload_of s = (simd_view s).payload

unfoldable pub simd_children : Simd → Children
simd_children s = (simd_view s).children

-- the ids of the children, the first operand first
abbrev pub simd_ids_of : Simd → List Id
simd_ids_of s = ids_in (simd_children s)

-- how many children the variant has
unfoldable pub simd_count_of : Simd → ℕ
simd_count_of s = (simd_view s).count

-- the node with these children in the place of its own
unfoldable pub simd_with_ids : Simd → List Id → Simd
simd_with_ids s w = (simd_view s).remade w
