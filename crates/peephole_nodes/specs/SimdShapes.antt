-- Which places have a vector node with a given kind of payload and number of children (this project).
use Rattle.std.specs.Prelude.{ℕ, ◌==◌, ◌||◌, Bool, false, if◌then◌else◌}
use Rattle.peephole_nodes.specs.declared.payload.Payload.{Payload}
use Rattle.peephole_nodes.specs.declared.payload.Payload.TheVariants as payload

unfoldable pub is_simd_memory_one : ℕ → Bool
is_simd_memory_one place = place == 201 || place == 202 || place == 203 || place == 204 || place == 205 || place == 206 || place == 207
    || place == 208 || place == 209 || place == 210 || place == 211 || place == 293 || place == 294

unfoldable pub is_simd_memory_two : ℕ → Bool
is_simd_memory_two place = place == 212

unfoldable pub is_simd_v128_leaf : ℕ → Bool
is_simd_v128_leaf place = place == 213

unfoldable pub is_simd_shuffle_two : ℕ → Bool
is_simd_shuffle_two place = place == 214

unfoldable pub is_simd_plain_one_to_383 : ℕ → Bool
is_simd_plain_one_to_383 place = place == 216 || place == 217 || place == 218 || place == 219 || place == 220 || place == 221 || place == 278
    || place == 284 || place == 295 || place == 296 || place == 297 || place == 298 || place == 299 || place == 300 || place == 301 || place == 304
    || place == 305 || place == 306 || place == 307 || place == 317 || place == 318 || place == 323 || place == 325 || place == 326 || place == 327
    || place == 328 || place == 329 || place == 330 || place == 332 || place == 333 || place == 336 || place == 337 || place == 338 || place == 339
    || place == 349 || place == 360 || place == 361 || place == 362 || place == 363 || place == 364 || place == 365 || place == 366 || place == 367
    || place == 383

unfoldable pub is_simd_plain_one_from_384 : ℕ → Bool
is_simd_plain_one_from_384 place = place == 384 || place == 385 || place == 386 || place == 387 || place == 388 || place == 389 || place == 390
    || place == 407 || place == 408 || place == 409 || place == 418 || place == 419 || place == 420 || place == 429 || place == 430 || place == 431
    || place == 432 || place == 433 || place == 434 || place == 435 || place == 436 || place == 438 || place == 439 || place == 440 || place == 441

unfoldable pub is_simd_plain_two_to_279 : ℕ → Bool
is_simd_plain_two_to_279 place = place == 215 || place == 236 || place == 237 || place == 238 || place == 239 || place == 240 || place == 241
    || place == 242 || place == 243 || place == 244 || place == 245 || place == 246 || place == 247 || place == 248 || place == 249 || place == 250
    || place == 251 || place == 252 || place == 253 || place == 254 || place == 255 || place == 256 || place == 257 || place == 258 || place == 259
    || place == 260 || place == 261 || place == 262 || place == 263 || place == 264 || place == 265 || place == 266 || place == 267 || place == 268
    || place == 269 || place == 270 || place == 271 || place == 272 || place == 273 || place == 274 || place == 275 || place == 276 || place == 277
    || place == 279

unfoldable pub is_simd_plain_two_280_to_370 : ℕ → Bool
is_simd_plain_two_280_to_370 place = place == 280 || place == 281 || place == 282 || place == 302 || place == 303 || place == 308 || place == 309
    || place == 310 || place == 311 || place == 312 || place == 313 || place == 314 || place == 315 || place == 316 || place == 319 || place == 320
    || place == 321 || place == 322 || place == 324 || place == 331 || place == 334 || place == 335 || place == 340 || place == 341 || place == 342
    || place == 343 || place == 344 || place == 345 || place == 346 || place == 347 || place == 348 || place == 350 || place == 351 || place == 352
    || place == 353 || place == 354 || place == 355 || place == 356 || place == 357 || place == 358 || place == 359 || place == 368 || place == 369
    || place == 370

unfoldable pub is_simd_plain_two_371_to_428 : ℕ → Bool
is_simd_plain_two_371_to_428 place = place == 371 || place == 372 || place == 373 || place == 374 || place == 375 || place == 376 || place == 377
    || place == 378 || place == 379 || place == 380 || place == 381 || place == 382 || place == 391 || place == 392 || place == 393 || place == 394
    || place == 395 || place == 396 || place == 397 || place == 398 || place == 399 || place == 400 || place == 401 || place == 402 || place == 403
    || place == 404 || place == 405 || place == 406 || place == 410 || place == 411 || place == 412 || place == 413 || place == 414 || place == 415
    || place == 416 || place == 417 || place == 421 || place == 422 || place == 423 || place == 424 || place == 425 || place == 426 || place == 427
    || place == 428

unfoldable pub is_simd_plain_two_from_429 : ℕ → Bool
is_simd_plain_two_from_429 place = place == 437 || place == 450 || place == 451 || place == 452 || place == 453 || place == 454 || place == 455

unfoldable pub is_simd_plain_three : ℕ → Bool
is_simd_plain_three place = place == 283 || place == 442 || place == 443 || place == 444 || place == 445 || place == 446 || place == 447
    || place == 448 || place == 449 || place == 456

unfoldable pub is_simd_lane_one : ℕ → Bool
is_simd_lane_one place = place == 222 || place == 223 || place == 225 || place == 226 || place == 228 || place == 230 || place == 232 || place == 234

unfoldable pub is_simd_lane_two : ℕ → Bool
is_simd_lane_two place = place == 224 || place == 227 || place == 229 || place == 231 || place == 233 || place == 235

unfoldable pub is_simd_memory_lane_two : ℕ → Bool
is_simd_memory_lane_two place = place == 285 || place == 286 || place == 287 || place == 288 || place == 289 || place == 290 || place == 291 || place == 292

-- the place has a vector node without payload and with two children
abbrev pub is_simd_plain_two : ℕ → Bool
is_simd_plain_two place =
    is_simd_plain_two_to_279 place || is_simd_plain_two_280_to_370 place
    || is_simd_plain_two_371_to_428 place || is_simd_plain_two_from_429 place

-- the place has a vector node without payload and with that many children
abbrev pub is_simd_plain : ℕ → ℕ → Bool
is_simd_plain place count =
    if count == 3 then is_simd_plain_three place else
    if count == 2 then is_simd_plain_two place else
    if count == 1 then is_simd_plain_one_to_383 place || is_simd_plain_one_from_384 place else false

-- the place has a vector node with that kind of payload and that many children
abbrev pub is_simd : ℕ → Payload → ℕ → Bool
is_simd place payload.Nothing count = is_simd_plain place count
is_simd place (payload.Lane _) count = if count == 2 then is_simd_lane_two place else if count == 1 then is_simd_lane_one place else false
is_simd place (payload.V128 _) count = if count == 0 then is_simd_v128_leaf place else false
is_simd place (payload.Memory _) count = if count == 2 then is_simd_memory_two place else if count == 1 then is_simd_memory_one place else false
is_simd place (payload.MemoryLane _) count = if count == 2 then is_simd_memory_lane_two place else false
is_simd place (payload.Shuffle _) count = if count == 2 then is_simd_shuffle_two place else false
is_simd _ _ _ = false
