-- Immediates are read exactly.
use Rattle.std.proofs.Common.{◌≡◌, ◌≢◌, ℕ, zero, suc, ◌+◌, ◌-◌, eqb, ltb, false, Some, None, refl, arith}
use Rattle.std.specs.Int.{w32, w64, w128, from_le_bytes, cast_signed}
use Rattle.std.proofs.lemmas.Bool.{ne_eqb}
use Rattle.wasm_code.specs.declared.table.Kind.{Kind}
use Rattle.wasm_code.specs.declared.table.Kind.TheVariants as kind
use Rattle.wasm_code.specs.declared.immediate.HeapType.{HeapType}
use Rattle.wasm_code.specs.declared.immediate.HeapType.TheVariants.{Abstract}
use Rattle.wasm_code.specs.declared.immediate.AbstractHeapType.TheVariants.{Func, Extern}
use Rattle.wasm_code.specs.declared.immediate.Imm.TheVariants as imm
use Rattle.wasm_code.specs.Grammar.{FailsTimes}
use Rattle.wasm_code.specs.Number.{FailsUnsigned}
use Rattle.wasm_code.specs.Immediate.{heap_type_code, SpellsValType, FailsValType, SpellsHeapType, FailsHeapType, SpellsOffset}
use Rattle.wasm_code.specs.Immediate.{SpellsMemArg, FailsMemArg, SpellsPair, FailsPair, SpellsLabels, FailsLabels, SpellsFirst, SpellsTypes}
use Rattle.wasm_code.specs.Immediate.{FailsTypes, SpellsImm, FailsImm}
use Rattle.wasm_code.specs.Reader.{heap_type_of, heap_type_at, offset_at, memarg_at, pair_at, labels_at, first_at, types_at, imm_at}
use Rattle.wasm_code.specs.laws.GrammarLemmas.{Exact, exact_ends, exact_never, exact_of, exact_choose, exact_then, exact_code, exact_times}
use Rattle.wasm_code.specs.laws.GrammarLemmas.{exact_at, byte_exact, bytes_exact}
use Rattle.wasm_code.specs.laws.NumberExact.{unsigned_exact, signed_exact}
use Rattle.wasm_code.specs.laws.ValTypeLemmas.{listed, val_type_exact}

-- ---- types

heap_type_named : (b : ℕ) (t : HeapType) → heap_type_of b ≡ Some t → heap_type_code t ≡ b
unfolding heap_type_of
heap_type_named b t e =
    let code = heap_type_code in
    listed code _ b 112 t (Abstract Func) _ refl refl e (λ e. listed code _ b 111 t (Abstract Extern) _ refl refl e (λ e. absurd cc))

heap_type_coded : (t : HeapType) → heap_type_of (heap_type_code t) ≡ Some t
unfolding heap_type_of
heap_type_coded (Abstract Func) = refl
heap_type_coded (Abstract Extern) = refl

heap_type_exact : Exact SpellsHeapType FailsHeapType heap_type_at
unfolding heap_type_at
heap_type_exact = exact_code heap_type_code heap_type_of heap_type_named heap_type_coded

-- ---- memory arguments

offset_exact : (align memory : ℕ) → Exact (SpellsOffset align memory) (FailsUnsigned 64) (offset_at align memory)
unfolding offset_at
offset_exact align memory = exact_of (λ offset. record { offset = offset; align = align; memory = memory }) (unsigned_exact 64)

pub memarg_exact : Exact SpellsMemArg FailsMemArg memarg_at
unfolding memarg_at
memarg_exact = exact_then (unsigned_exact 32) (λ n.
    exact_choose (ltb n 64) (offset_exact n 0)
    (exact_choose (ltb n 128) (exact_then (unsigned_exact 32) (λ memory. offset_exact (n - 64) memory)) exact_never))

-- ---- lists

pub pair_exact : Exact SpellsPair FailsPair pair_at
unfolding pair_at
pair_exact = exact_then (unsigned_exact 32) (λ a. exact_of (λ b. (a, b)) (unsigned_exact 32))

pub labels_exact : Exact SpellsLabels FailsLabels labels_at
unfolding labels_at
labels_exact = exact_then (unsigned_exact 32) (λ n. exact_of (λ _. n) (exact_times (unsigned_exact 32) (n + 1)))

first_exact : (n : ℕ) → Exact (SpellsFirst n) (FailsTimes n FailsValType SpellsValType) (first_at n)
unfolding first_at
first_exact zero = exact_ends None
first_exact (suc n) =
    let some : eqb (suc n) 0 ≡ false = ne_eqb (suc n) 0 (λ e. absurd cc) in
    let less : suc n - 1 ≡ n = omega arith in
    exact_at (λ bytes. rw (some, less) refl) (exact_then val_type_exact (λ t. exact_of (λ _. Some t) (exact_times val_type_exact n)))

pub types_exact : Exact SpellsTypes FailsTypes types_at
unfolding types_at
types_exact = exact_then (unsigned_exact 32) (λ n. exact_of (λ first. (n, first)) (first_exact n))

-- ---- by kind

pub imm_exact : (k : Kind) → k ≢ kind.Val → Exact (SpellsImm k) (FailsImm k) (imm_at k)
unfolding imm_at
imm_exact kind.Nothing other = exact_ends imm.Nothing
imm_exact kind.Index other = exact_of (λ n. imm.Index n) (unsigned_exact 32)
imm_exact kind.Pair other = exact_of (λ p. imm.Pair p.0 p.1) pair_exact
imm_exact kind.Mem other = exact_of (λ m. imm.Mem m) memarg_exact
imm_exact kind.MemLane other = exact_then memarg_exact (λ m. exact_of (λ lane. imm.MemLane m lane) byte_exact)
imm_exact kind.Lane other = exact_of (λ lane. imm.Lane lane) byte_exact
imm_exact kind.I32 other = exact_of (λ z. imm.I32 z) (signed_exact 32)
imm_exact kind.I64 other = exact_of (λ z. imm.I64 z) (signed_exact 64)
imm_exact kind.F32 other = exact_of (λ bytes. imm.F32 (from_le_bytes w32 bytes)) (bytes_exact 4)
imm_exact kind.F64 other = exact_of (λ bytes. imm.F64 (from_le_bytes w64 bytes)) (bytes_exact 8)
imm_exact kind.V128 other = exact_of (λ bytes. imm.V128 (cast_signed w128 (from_le_bytes w128 bytes))) (bytes_exact 16)
imm_exact kind.Shuffle other = exact_of (λ lanes. imm.Shuffle lanes) (bytes_exact 16)
imm_exact kind.Heap other = exact_of (λ t. imm.Heap t) heap_type_exact
imm_exact kind.Val other = absurd (other refl)
