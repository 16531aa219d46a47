-- The single instructions that words draw.
use Rattle.std.proofs.Common.{◌≡◌, ℕ, ℤ, pos, negsuc, neg_ℤ, ◌≤ℤ◌, ◌<ℤ◌, ◌+◌, ◌*◌, ◌/◌, ◌%◌, ◌^◌, ◌<◌, ◌⊎◌, inl, inr, FitsSigned, Bool, true, false, [], ◌∷◌}
use Rattle.std.proofs.Common.{Option, Some, None, refl, sym, ap, ap₂, subst, ◌∙◌, arith}
use Rattle.std.specs.Int.{w32, w64, w128, cast_signed, cast_unsigned}
use Rattle.std.specs.Prelude.{◌==◌, if◌then◌else◌, IsTrue, slice_get, option_and_then}
use Rattle.std.proofs.lemmas.Bool.{false≢true, eqb-true, or_cases}
use Rattle.std.proofs.lemmas.Int.{ints, to_z-of_z}
use Rattle.std.proofs.lemmas.List.Elements.{All-cons, All-nil}
use Rattle.wasm_code.specs.Instruction.{Instruction, IsInstruction, InRange}
use Rattle.wasm_code.specs.Table.{row_at, table}
use Rattle.wasm_code.specs.declared.immediate.AbstractHeapType.TheVariants as heap
use Rattle.wasm_code.specs.declared.immediate.HeapType.TheVariants.{Abstract}
use Rattle.wasm_code.specs.declared.immediate.Imm.{Imm}
use Rattle.wasm_code.specs.declared.immediate.Imm.TheVariants as imm
use Rattle.wasm_types.specs.Module.{merged}
use Rattle.wasm_types.specs.declared.types.PrimitiveTypeInfo.{PrimitiveTypeInfo}
use Rattle.wasm_types.specs.declared.types.PrimitiveTypeInfo.TheVariants as primitive
use Rattle.wasm_execution.specs.IntegerRow.{integer_row}
use Rattle.wasm_execution.specs.OtherRow.{other_type}
use Rattle.wasm_execution.specs.Row.{at_most_one, instruction_types}
use Rattle.wasm_execution.specs.Values.{Context}
use Rattle.body_changes.specs.declared.goal.Words.{Words}
use Rattle.body_changes.specs.Drawing.{is_leaf_row, bits_of, choice_word, variable_rank, IsLeaf, LeavesHaveWords}
use Rattle.body_changes.specs.Goals.{constant_by, indexed, WordsDrawInstruction, HasVariable, IsVariable}
use Rattle.body_changes.specs.Typed.{is_told_apart}
use Rattle.body_changes.proofs.VariableLemmas.{rank_below}

-- ---- bits

bits_32 : (z : ℤ) → (neg_ℤ (pos (2 ^ 31)) ≤ℤ z) × (z <ℤ pos (2 ^ 31)) → cast_unsigned w32 z < 2 ^ 32
bits_32 (pos n) range = omega (arith, ints, range.1)
bits_32 (negsuc n) range = omega arith

bits_64 : (z : ℤ) → (neg_ℤ (pos (2 ^ 63)) ≤ℤ z) × (z <ℤ pos (2 ^ 63)) → cast_unsigned w64 z < 2 ^ 64
bits_64 (pos n) range = omega (arith, ints, range.1)
bits_64 (negsuc n) range = omega arith

bits_128 : (z : ℤ) → (neg_ℤ (pos (2 ^ 127)) ≤ℤ z) × (z <ℤ pos (2 ^ 127)) → cast_unsigned w128 z < 2 ^ 128
bits_128 (pos n) range = omega (arith, ints, range.1)
bits_128 (negsuc n) range = omega arith

fits_32 : (z : ℤ) → (neg_ℤ (pos (2 ^ 31)) ≤ℤ z) × (z <ℤ pos (2 ^ 31)) → FitsSigned w32 z
fits_32 (pos n) range = record { sfits = omega (arith, ints, range.1) }
fits_32 (negsuc n) range = record { sfits = omega (arith, ints, range.0) }

fits_64 : (z : ℤ) → (neg_ℤ (pos (2 ^ 63)) ≤ℤ z) × (z <ℤ pos (2 ^ 63)) → FitsSigned w64 z
fits_64 (pos n) range = record { sfits = omega (arith, ints, range.1) }
fits_64 (negsuc n) range = record { sfits = omega (arith, ints, range.0) }

fits_128 : (z : ℤ) → (neg_ℤ (pos (2 ^ 127)) ≤ℤ z) × (z <ℤ pos (2 ^ 127)) → FitsSigned w128 z
fits_128 (pos n) range = record { sfits = omega (arith, ints, range.1) }
fits_128 (negsuc n) range = record { sfits = omega (arith, ints, range.0) }

low_32 : (n : ℕ) → n < 2 ^ 32 → n ≡ (n % 2 ^ 64) % 2 ^ 32
low_32 n l = omega arith

low_64 : (n : ℕ) → n < 2 ^ 64 → n ≡ n % 2 ^ 64
low_64 n l = omega arith

halves : (n : ℕ) → n ≡ n / 2 ^ 64 * 2 ^ 64 + n % 2 ^ 64
halves n = omega arith

-- ---- what a leaf is

-- a constant, chosen by its own bits
pub record IsByBits (context : Context) (t : PrimitiveTypeInfo) (i : Instruction) : Type 0 where
  pub is : i ≡ constant_by t (bits_of i.imm % 2 ^ 64) (bits_of i.imm / 2 ^ 64)
  pub choice : choice_word context t i.row i.imm ≡ 32

-- a local, a global or a constant
abbrev LeafCase : Context → PrimitiveTypeInfo → Instruction → Type 0
LeafCase context t i = IsVariable 4 context.locals t i ⊎ (IsVariable 7 context.info.globals t i ⊎ IsByBits context t i)

abbrev CaseAt : Context → PrimitiveTypeInfo → Imm → (row : ℕ) → Type 0
CaseAt context t m row =
    IsInstruction (record { row = row; imm = m }) → instruction_types context (record { row = row; imm = m }) [] ≡ Some (Some t) →
    LeafCase context t (record { row = row; imm = m })

-- the type of a variable is what reading it gives
read_given : (o : Option PrimitiveTypeInfo) (t : PrimitiveTypeInfo) →
    option_and_then at_most_one (option_and_then (λ u. Some (u ∷ [])) o) ≡ Some (Some t) → o ≡ Some t
read_given None t h = absurd cc
read_given (Some u) t h = let same : u ≡ t = cc in ap (λ (x : PrimitiveTypeInfo). Some x) same

local_case : (context : Context) (t : PrimitiveTypeInfo) (m : Imm) → CaseAt context t m 4
unfolding integer_row row_at table other_type
local_case context t (imm.Index n) is e = inl (record { index = n; is = refl; small = is.in_range; there = read_given (slice_get context.locals n) t e })
local_case context t m is e = absurd (false≢true is.kind)

global_case : (context : Context) (t : PrimitiveTypeInfo) (m : Imm) → CaseAt context t m 7
unfolding integer_row row_at table other_type
global_case context t (imm.Index n) is e =
    inr (inl (record { index = n; is = refl; small = is.in_range; there = read_given (slice_get context.info.globals n) t e }))
global_case context t m is e = absurd (false≢true is.kind)

i32_case : (context : Context) (t : PrimitiveTypeInfo) (m : Imm) → CaseAt context t m 36
unfolding integer_row row_at table other_type
i32_case context t (imm.I32 z) is e =
    let g : Some (Some primitive.I32) ≡ Some (Some t) = e in
    let same : primitive.I32 ≡ t = cc in
    let small = bits_32 z is.in_range in
    let whole : z ≡ cast_signed w32 ((cast_unsigned w32 z % 2 ^ 64) % 2 ^ 32) =
    sym (to_z-of_z w32 z (fits_32 z is.in_range)) ∙ ap (cast_signed w32) (low_32 (cast_unsigned w32 z) small) in
    subst (λ (u : PrimitiveTypeInfo). LeafCase context u (record { row = 36; imm = imm.I32 z })) same
    (inr (inr (record { is = ap (λ (y : ℤ). let i : Instruction = record { row = 36; imm = imm.I32 y } in i) whole; choice = refl })))
i32_case context t m is e = absurd (false≢true is.kind)

i64_case : (context : Context) (t : PrimitiveTypeInfo) (m : Imm) → CaseAt context t m 37
unfolding integer_row row_at table other_type
i64_case context t (imm.I64 z) is e =
    let g : Some (Some primitive.I64) ≡ Some (Some t) = e in
    let same : primitive.I64 ≡ t = cc in
    let small = bits_64 z is.in_range in
    let whole : z ≡ cast_signed w64 (cast_unsigned w64 z % 2 ^ 64) =
    sym (to_z-of_z w64 z (fits_64 z is.in_range)) ∙ ap (cast_signed w64) (low_64 (cast_unsigned w64 z) small) in
    subst (λ (u : PrimitiveTypeInfo). LeafCase context u (record { row = 37; imm = imm.I64 z })) same
    (inr (inr (record { is = ap (λ (y : ℤ). let i : Instruction = record { row = 37; imm = imm.I64 y } in i) whole; choice = refl })))
i64_case context t m is e = absurd (false≢true is.kind)

f32_case : (context : Context) (t : PrimitiveTypeInfo) (m : Imm) → CaseAt context t m 38
unfolding integer_row row_at table other_type
f32_case context t (imm.F32 bits) is e =
    let g : Some (Some primitive.F32) ≡ Some (Some t) = e in
    let same : primitive.F32 ≡ t = cc in
    let small = is.in_range in
    let whole : bits ≡ (bits % 2 ^ 64) % 2 ^ 32 = low_32 bits small in
    subst (λ (u : PrimitiveTypeInfo). LeafCase context u (record { row = 38; imm = imm.F32 bits })) same
    (inr (inr (record { is = ap (λ (y : ℕ). let i : Instruction = record { row = 38; imm = imm.F32 y } in i) whole; choice = refl })))
f32_case context t m is e = absurd (false≢true is.kind)

f64_case : (context : Context) (t : PrimitiveTypeInfo) (m : Imm) → CaseAt context t m 39
unfolding integer_row row_at table other_type
f64_case context t (imm.F64 bits) is e =
    let g : Some (Some primitive.F64) ≡ Some (Some t) = e in
    let same : primitive.F64 ≡ t = cc in
    let small = is.in_range in
    let whole : bits ≡ bits % 2 ^ 64 = low_64 bits small in
    subst (λ (u : PrimitiveTypeInfo). LeafCase context u (record { row = 39; imm = imm.F64 bits })) same
    (inr (inr (record { is = ap (λ (y : ℕ). let i : Instruction = record { row = 39; imm = imm.F64 y } in i) whole; choice = refl })))
f64_case context t m is e = absurd (false≢true is.kind)

v128_case : (context : Context) (t : PrimitiveTypeInfo) (m : Imm) → CaseAt context t m 201
unfolding integer_row row_at table other_type
v128_case context t (imm.V128 z) is e =
    let g : Some (Some primitive.V128) ≡ Some (Some t) = e in
    let same : primitive.V128 ≡ t = cc in
    let small = bits_128 z is.in_range in
    let whole : z ≡ cast_signed w128 (cast_unsigned w128 z / 2 ^ 64 * 2 ^ 64 + cast_unsigned w128 z % 2 ^ 64) =
    sym (to_z-of_z w128 z (fits_128 z is.in_range)) ∙ ap (cast_signed w128) (halves (cast_unsigned w128 z)) in
    subst (λ (u : PrimitiveTypeInfo). LeafCase context u (record { row = 201; imm = imm.V128 z })) same
    (inr (inr (record { is = ap (λ (y : ℤ). let i : Instruction = record { row = 201; imm = imm.V128 y } in i) whole; choice = refl })))
v128_case context t m is e = absurd (false≢true is.kind)

-- a null reference is one of its type, where references are told apart
func_is : (b : Bool) (t : PrimitiveTypeInfo) → merged b primitive.FuncRef ≡ t → IsTrue (is_told_apart t) → t ≡ primitive.FuncRef
func_is false t e told = sym e
func_is true primitive.Empty e told = absurd (false≢true told)
func_is true t e told = absurd cc

extern_is : (b : Bool) (t : PrimitiveTypeInfo) → merged b primitive.ExternRef ≡ t → IsTrue (is_told_apart t) → t ≡ primitive.ExternRef
extern_is false t e told = sym e
extern_is true primitive.Empty e told = absurd (false≢true told)
extern_is true t e told = absurd cc

null_case : (context : Context) (t : PrimitiveTypeInfo) → IsTrue (is_told_apart t) → (m : Imm) → CaseAt context t m 168
unfolding integer_row row_at table other_type
null_case context t told (imm.Heap (Abstract heap.Func)) is e =
    let g : Some (Some (merged context.info.one_reference primitive.FuncRef)) ≡ Some (Some t) = e in
    let same : merged context.info.one_reference primitive.FuncRef ≡ t = cc in
    subst (λ (u : PrimitiveTypeInfo). LeafCase context u (record { row = 168; imm = imm.Heap (Abstract heap.Func) }))
    (sym (func_is context.info.one_reference t same told)) (inr (inr (record { is = refl; choice = refl })))
null_case context t told (imm.Heap (Abstract heap.Extern)) is e =
    let g : Some (Some (merged context.info.one_reference primitive.ExternRef)) ≡ Some (Some t) = e in
    let same : merged context.info.one_reference primitive.ExternRef ≡ t = cc in
    subst (λ (u : PrimitiveTypeInfo). LeafCase context u (record { row = 168; imm = imm.Heap (Abstract heap.Extern) }))
    (sym (extern_is context.info.one_reference t same told)) (inr (inr (record { is = refl; choice = refl })))
null_case context t told m is e = absurd (false≢true is.kind)

by_row : (context : Context) (t : PrimitiveTypeInfo) → IsTrue (is_told_apart t) → (m : Imm) (row : ℕ) → IsTrue (is_leaf_row row) → CaseAt context t m row
by_row context t told m row h =
    elim (or_cases (row == 4) _ h) [
      | inl a ↦ moved 4 a (local_case context t m)
      | inr h ↦ elim (or_cases (row == 7) _ h) [
        | inl a ↦ moved 7 a (global_case context t m)
        | inr h ↦ elim (or_cases (row == 36) _ h) [
          | inl a ↦ moved 36 a (i32_case context t m)
          | inr h ↦ elim (or_cases (row == 37) _ h) [
            | inl a ↦ moved 37 a (i64_case context t m)
            | inr h ↦ elim (or_cases (row == 38) _ h) [
              | inl a ↦ moved 38 a (f32_case context t m)
              | inr h ↦ elim (or_cases (row == 39) _ h) [
                | inl a ↦ moved 39 a (f64_case context t m)
                | inr h ↦ elim (or_cases (row == 168) _ h) [
                  | inl a ↦ moved 168 a (null_case context t told m)
                  | inr a ↦ moved 201 a (v128_case context t m)
                ]
              ]
            ]
          ]
        ]
      ]
    ]
  where
    moved : (k : ℕ) → (row == k) ≡ true → CaseAt context t m k → CaseAt context t m row
    moved k e c = subst (CaseAt context t m) (sym (eqb-true row k e)) c

pub leaf_cases : (context : Context) (t : PrimitiveTypeInfo) (i : Instruction) → IsTrue (is_told_apart t) → IsLeaf context t i → LeafCase context t i
leaf_cases context t i told h = by_row context t told i.imm i.row h.row h.instruction h.types

-- ---- what the words draw

-- the word that chooses a variable's instruction is the variable's
local_choice : (context : Context) (t : PrimitiveTypeInfo) (i : Instruction) (v : IsVariable 4 context.locals t i) →
    choice_word context t i.row i.imm ≡ 8 * variable_rank context.locals t v.index + 1
local_choice context t i v = ap (λ (j : Instruction). choice_word context t j.row j.imm) v.is

global_choice : (context : Context) (t : PrimitiveTypeInfo) (i : Instruction) (v : IsVariable 7 context.info.globals t i) →
    choice_word context t i.row i.imm ≡ 8 * variable_rank context.info.globals t v.index + 2
global_choice context t i v = ap (λ (j : Instruction). choice_word context t j.row j.imm) v.is

-- What is chosen is the instruction, or no variable is, and the instruction is the constant.
abbrev pub IsChosen : (words : Words) → (t : PrimitiveTypeInfo) → (chosen : Option Instruction) → Instruction → Type 0
IsChosen words t chosen i =
    (chosen ≡ Some i) ⊎ ((chosen ≡ None) × (words.choice / 8 ≡ 4) × (constant_by t words.low words.high ≡ i))

pub is_chosen : (context : Context) (t : PrimitiveTypeInfo) (words : Words) (chosen : Option Instruction) → IsTrue (is_told_apart t) →
    ((n : ℕ) → n < 2 ^ 32 → HasVariable context.locals t n → words.choice ≡ 8 * variable_rank context.locals t n + 1 → chosen ≡ Some (indexed 4 n)) →
    ((n : ℕ) → n < 2 ^ 32 → HasVariable context.info.globals t n → words.choice ≡ 8 * variable_rank context.info.globals t n + 2 →
    chosen ≡ Some (indexed 7 n)) →
    (words.choice ≡ 32 → chosen ≡ None) → (i : Instruction) → IsLeaf context t i → WordsDrawInstruction context t i words → IsChosen words t chosen i
is_chosen context t words chosen told local global none i h named = elim (leaf_cases context t i told h) [
  | inl v ↦ inl (local v.index v.small v.there (named.choice ∙ local_choice context t i v) ∙ ap (λ (j : Instruction). Some j) (sym v.is))
  | inr (inl v) ↦ inl (global v.index v.small v.there (named.choice ∙ global_choice context t i v) ∙ ap (λ (j : Instruction). Some j) (sym v.is))
  | inr (inr c) ↦
      let choice : words.choice ≡ 32 = named.choice ∙ c.choice in
      inr (none choice, ap (λ (n : ℕ). n / 8) choice, ap₂ (constant_by t) named.low named.high ∙ sym c.is)
]

-- ---- they are words

choice_small : (context : Context) (t : PrimitiveTypeInfo) (row : ℕ) (m : Imm) → InRange m → choice_word context t row m < 2 ^ 64
choice_small context t row (imm.Index n) small = either (row == 4)
  where
    either : (b : Bool) → (if b then 8 * variable_rank context.locals t n + 1 else 8 * variable_rank context.info.globals t n + 2) < 2 ^ 64
    either true = let k = rank_below context.locals t n in omega arith
    either false = let k = rank_below context.info.globals t n in omega arith
choice_small context t row m small = omega arith

bits_small : (m : Imm) → InRange m → bits_of m < 2 ^ 128
bits_small (imm.I32 z) range = let small = bits_32 z range in omega arith
bits_small (imm.I64 z) range = let small = bits_64 z range in omega arith
bits_small (imm.F32 bits) range = omega arith
bits_small (imm.F64 bits) range = omega arith
bits_small (imm.V128 z) range = bits_128 z range
bits_small m range = omega arith

pub words_small : LeavesHaveWords
words_small context t i h =
    let small = bits_small i.imm h.instruction.in_range in
    let is_word : ℕ → Type 0 = λ w. w < 2 ^ 64 in
    let choice = choice_word context t i.row i.imm in
    let low = bits_of i.imm % 2 ^ 64 in
    let high = bits_of i.imm / 2 ^ 64 in
    All-cons is_word choice (low ∷ high ∷ []) (choice_small context t i.row i.imm h.instruction.in_range)
    (All-cons is_word low (high ∷ []) (omega arith) (All-cons is_word high [] (omega arith) (All-nil is_word)))
