-- What holds of payloads of every kind: of their equality, of the immediates that they stand for, and of their texts
-- (this project).
use Rattle.std.specs.Prelude.{◌≡◌, ◌<◌, ℕ, List, [], ◌∷◌, All, true, Some, Result, Ok, Err, refl}
use Rattle.std.specs.Cmp.{unsigned_Decides, signed_Decides}
use Rattle.std.specs.List.{AllByRecursion}
use Rattle.std.specs.Option.{is_some}
use Rattle.std.proofs.Common.{true≢false, suc, ap, subst, sym, lit≤, arith}
use Rattle.std.proofs.lemmas.Option.{none-some}
use Rattle.wasm_code.specs.Instruction.{InRange, is_of_kind}
use Rattle.wasm_code.specs.ValTypeEquality.{same_val_type}
use Rattle.wasm_code.specs.declared.immediate.AbstractHeapType.TheVariants as ty
use Rattle.wasm_code.specs.declared.immediate.HeapType.TheVariants.{Abstract}
use Rattle.wasm_code.specs.declared.immediate.Imm.{Imm}
use Rattle.wasm_code.specs.declared.immediate.Imm.TheVariants as imm
use Rattle.peephole_payloads.specs.laws.Equality as equal
use Rattle.peephole_payloads.specs.laws.LawLemmas as law
use Rattle.peephole_payloads.specs.laws.NumberBack.{signed_in_range_back}
use Rattle.peephole_payloads.specs.laws.ReadBackLemmas.{unsigned_back}
use Rattle.peephole_payloads.specs.declared.payload.RefType.TheVariants as ref
use Rattle.peephole_payloads.specs.declared.term_error.TermError.{TermError}
use Rattle.peephole_nodes.specs.contracts.payload.PayloadPartialEq.TheImpl as payload_eq
use Rattle.peephole_nodes.specs.contracts.payload.PayloadEq.TheImpl.Laws.{laws-law as payload_equiv}
use Rattle.peephole_nodes.specs.declared.payload.Payload.{Payload}
use Rattle.peephole_nodes.specs.declared.payload.Payload.TheVariants as payload
use Rattle.peephole_nodes.specs.declared.payload.PayloadKind.{PayloadKind}
use Rattle.peephole_nodes.specs.declared.payload.PayloadKind.TheVariants as kind
use Rattle.peephole_nodes.specs.Payload.{imm_of, payload_of_imm, is_writable, is_payload_of}
use Rattle.peephole_nodes.specs.PayloadKind.{imm_kind}
use Rattle.peephole_nodes.specs.PayloadText.{inner_text, with_payload, read_payload}

-- ---- equality

-- payloads that compare equal are the same
pub same_payload : (p q : Payload) → payload_eq.ghosts.eq p q ≡ true → p ≡ q
same_payload payload.Nothing payload.Nothing e = refl
same_payload (payload.Index n) (payload.Index m) e = ap (λ k. payload.Index k) ((unsigned_Decides n m).0 e)
same_payload (payload.Lane n) (payload.Lane m) e = ap (λ k. payload.Lane k) ((unsigned_Decides n m).0 e)
same_payload (payload.I32 n) (payload.I32 m) e = ap (λ k. payload.I32 k) ((signed_Decides n m).0 e)
same_payload (payload.I64 n) (payload.I64 m) e = ap (λ k. payload.I64 k) ((signed_Decides n m).0 e)
same_payload (payload.F32 n) (payload.F32 m) e = ap (λ k. payload.F32 k) ((unsigned_Decides n m).0 e)
same_payload (payload.F64 n) (payload.F64 m) e = ap (λ k. payload.F64 k) ((unsigned_Decides n m).0 e)
same_payload (payload.V128 n) (payload.V128 m) e = ap (λ k. payload.V128 k) ((signed_Decides n m).0 e)
same_payload (payload.Memory m) (payload.Memory n) e = ap (λ k. payload.Memory k) (equal.same_mem_arg m n e)
same_payload (payload.MemoryLane m) (payload.MemoryLane n) e = ap (λ k. payload.MemoryLane k) (equal.same_mem_arg_lane m n e)
same_payload (payload.Shuffle s) (payload.Shuffle t) e = ap (λ k. payload.Shuffle k) (equal.same_shuffle s t e)
same_payload (payload.Ref t) (payload.Ref u) e = ap (λ k. payload.Ref k) (equal.same_ref_type t u e)
same_payload (payload.Value t) (payload.Value u) e = ap (λ k. payload.Value k) (same_val_type t u e)
same_payload (payload.MemoryInit x) (payload.MemoryInit y) e = ap (λ k. payload.MemoryInit k) (equal.same_memory_init x y e)
same_payload (payload.MemoryCopy x) (payload.MemoryCopy y) e = ap (λ k. payload.MemoryCopy k) (equal.same_memory_copy x y e)
same_payload (payload.TableInit x) (payload.TableInit y) e = ap (λ k. payload.TableInit k) (equal.same_table_init x y e)
same_payload (payload.TableCopy x) (payload.TableCopy y) e = ap (λ k. payload.TableCopy k) (equal.same_table_copy x y e)
same_payload _ _ e = absurd (true≢false (sym e))

-- and the same compare equal
pub payload_itself : (p q : Payload) → p ≡ q → payload_eq.ghosts.eq p q ≡ true
payload_itself p q e = rw e (payload_equiv.refl q)

-- ---- immediates

-- a payload's immediate stands for that payload, and fits an instruction where an instruction can say the payload
imm_facts : (k : PayloadKind) (p : Payload) → is_payload_of k p ≡ true
    → (payload_of_imm k (imm_of p) ≡ Some p) × (is_of_kind (imm_kind k) (imm_of p) ≡ is_writable p)
imm_facts kind.Nothing payload.Nothing of = (refl, refl)
imm_facts kind.Index (payload.Index n) of = (refl, refl)
imm_facts kind.Lane (payload.Lane n) of = (refl, refl)
imm_facts kind.I32 (payload.I32 z) of = (refl, refl)
imm_facts kind.I64 (payload.I64 z) of = (refl, refl)
imm_facts kind.F32 (payload.F32 x) of = (refl, refl)
imm_facts kind.F64 (payload.F64 x) of = (refl, refl)
imm_facts kind.V128 (payload.V128 z) of = (refl, refl)
imm_facts kind.Memory (payload.Memory m) of = (refl, refl)
imm_facts kind.MemoryLane (payload.MemoryLane m) of = (refl, refl)
imm_facts kind.Shuffle (payload.Shuffle s) of = (refl, refl)
imm_facts kind.Ref (payload.Ref ref.Func) of = (refl, refl)
imm_facts kind.Ref (payload.Ref ref.Extern) of = (refl, refl)
imm_facts kind.Value (payload.Value t) of = (refl, refl)
imm_facts kind.MemoryInit (payload.MemoryInit x) of = (refl, refl)
imm_facts kind.MemoryCopy (payload.MemoryCopy x) of = (refl, refl)
imm_facts kind.TableInit (payload.TableInit x) of = (refl, refl)
imm_facts kind.TableCopy (payload.TableCopy x) of = (refl, refl)
imm_facts _ _ of = absurd (true≢false (sym of))

pub imm_back : (k : PayloadKind) (p : Payload) → is_payload_of k p ≡ true → payload_of_imm k (imm_of p) ≡ Some p
imm_back k p of = (imm_facts k p of).0

pub imm_fits : (k : PayloadKind) (p : Payload) → is_payload_of k p ≡ true → is_of_kind (imm_kind k) (imm_of p) ≡ is_writable p
imm_fits k p of = (imm_facts k p of).1

stands : (k : PayloadKind) (i : Imm) (made p : Payload) → Some made ≡ Some p → imm_of made ≡ i → is_payload_of k made ≡ true
    → (imm_of p ≡ i) × (is_payload_of k p ≡ true)
stands k i made p e same of =
    let is : made ≡ p = cc in
    subst (λ (q : Payload). (imm_of q ≡ i) × (is_payload_of k q ≡ true)) is (same, of)

-- what an immediate stands for has that immediate, and is of the kind
pub of_imm_back : (k : PayloadKind) (i : Imm) (p : Payload) → payload_of_imm k i ≡ Some p → (imm_of p ≡ i) × (is_payload_of k p ≡ true)
of_imm_back kind.Nothing imm.Nothing p e = stands kind.Nothing _ _ p e refl refl
of_imm_back kind.Index (imm.Index n) p e = stands kind.Index _ _ p e refl refl
of_imm_back kind.Lane (imm.Lane n) p e = stands kind.Lane _ _ p e refl refl
of_imm_back kind.I32 (imm.I32 z) p e = stands kind.I32 _ _ p e refl refl
of_imm_back kind.I64 (imm.I64 z) p e = stands kind.I64 _ _ p e refl refl
of_imm_back kind.F32 (imm.F32 bits) p e = stands kind.F32 _ _ p e refl refl
of_imm_back kind.F64 (imm.F64 bits) p e = stands kind.F64 _ _ p e refl refl
of_imm_back kind.V128 (imm.V128 z) p e = stands kind.V128 _ _ p e refl refl
of_imm_back kind.Memory (imm.Mem m) p e = stands kind.Memory _ _ p e refl refl
of_imm_back kind.MemoryLane (imm.MemLane m lane) p e = stands kind.MemoryLane _ _ p e refl refl
of_imm_back kind.Shuffle (imm.Shuffle lanes) p e = stands kind.Shuffle _ _ p e refl refl
of_imm_back kind.Ref (imm.Heap (Abstract ty.Func)) p e = stands kind.Ref _ _ p e refl refl
of_imm_back kind.Ref (imm.Heap (Abstract ty.Extern)) p e = stands kind.Ref _ _ p e refl refl
of_imm_back kind.Value (imm.Val t) p e = stands kind.Value _ _ p e refl refl
of_imm_back kind.MemoryInit (imm.Pair a b) p e = stands kind.MemoryInit _ _ p e refl refl
of_imm_back kind.MemoryCopy (imm.Pair a b) p e = stands kind.MemoryCopy _ _ p e refl refl
of_imm_back kind.TableInit (imm.Pair a b) p e = stands kind.TableInit _ _ p e refl refl
of_imm_back kind.TableCopy (imm.Pair a b) p e = stands kind.TableCopy _ _ p e refl refl
of_imm_back _ _ p e = absurd (none-some p e)

-- every immediate of the kind stands for a payload
pub of_imm_some : (k : PayloadKind) (i : Imm) → is_of_kind (imm_kind k) i ≡ true → is_some (payload_of_imm k i) ≡ true
of_imm_some kind.Nothing imm.Nothing of = refl
of_imm_some kind.Index (imm.Index n) of = refl
of_imm_some kind.Lane (imm.Lane n) of = refl
of_imm_some kind.I32 (imm.I32 z) of = refl
of_imm_some kind.I64 (imm.I64 z) of = refl
of_imm_some kind.F32 (imm.F32 bits) of = refl
of_imm_some kind.F64 (imm.F64 bits) of = refl
of_imm_some kind.V128 (imm.V128 z) of = refl
of_imm_some kind.Memory (imm.Mem m) of = refl
of_imm_some kind.MemoryLane (imm.MemLane m lane) of = refl
of_imm_some kind.Shuffle (imm.Shuffle lanes) of = refl
of_imm_some kind.Ref (imm.Heap (Abstract t)) of = refl
of_imm_some kind.Value (imm.Val t) of = refl
of_imm_some kind.MemoryInit (imm.Pair a b) of = refl
of_imm_some kind.MemoryCopy (imm.Pair a b) of = refl
of_imm_some kind.TableInit (imm.Pair a b) of = refl
of_imm_some kind.TableCopy (imm.Pair a b) of = refl
of_imm_some _ _ of = absurd (true≢false (sym of))

-- ---- texts

by_recursion : (ns : List ℕ) → All (λ n. n < 256) ns → AllByRecursion (λ n. n < 256) ns
by_recursion [] all = tt
by_recursion (n ∷ ns) all = (all 0 0 (omega arith), by_recursion ns (λ k d low. all (suc k) d (omega arith)))

-- the text of a payload of that kind, its numbers of their types, reads as the payload
pub payload_back : (k : PayloadKind) (p : Payload) → is_payload_of k p ≡ true → InRange (imm_of p) → read_payload k (inner_text p) ≡ Ok p
payload_back kind.Nothing payload.Nothing of fits = refl
payload_back kind.Index (payload.Index n) of fits = rw (unsigned_back 32 n fits (omega arith)) refl
payload_back kind.Lane (payload.Lane n) of fits = rw (unsigned_back 8 n fits (omega arith)) refl
payload_back kind.I32 (payload.I32 z) of fits = rw (signed_in_range_back 32 z (lit≤ tt) fits.0 fits.1) refl
payload_back kind.I64 (payload.I64 z) of fits = rw (signed_in_range_back 64 z (lit≤ tt) fits.0 fits.1) refl
payload_back kind.F32 (payload.F32 x) of fits = ap (with_payload (λ y. payload.F32 y)) (law.f32_back x fits)
payload_back kind.F64 (payload.F64 x) of fits = ap (with_payload (λ y. payload.F64 y)) (law.f64_back x fits)
payload_back kind.V128 (payload.V128 z) of fits = rw (signed_in_range_back 128 z (lit≤ tt) fits.0 fits.1) refl
payload_back kind.Memory (payload.Memory m) of fits = ap (with_payload (λ y. payload.Memory y)) (law.mem_arg_reads_back m fits.1 fits.2 fits.0)
payload_back kind.MemoryLane (payload.MemoryLane m) of fits =
    ap (with_payload (λ y. payload.MemoryLane y)) (law.mem_lane_back m fits.0.1 fits.0.2 fits.0.0 fits.1)
payload_back kind.Shuffle (payload.Shuffle s) of fits = ap (with_payload (λ y. payload.Shuffle y)) (law.shuffle_back s fits.0 (by_recursion s.indices fits.1))
payload_back kind.Ref (payload.Ref t) of fits = ap (with_payload (λ y. payload.Ref y)) (law.ref_type_back t)
payload_back kind.Value (payload.Value t) of fits = ap (with_payload (λ y. payload.Value y)) (law.val_type_back t)
payload_back kind.MemoryInit (payload.MemoryInit x) of fits = ap (with_payload (λ y. payload.MemoryInit y)) (law.memory_init_back x fits.1 fits.0)
payload_back kind.MemoryCopy (payload.MemoryCopy x) of fits = ap (with_payload (λ y. payload.MemoryCopy y)) (law.memory_copy_back x fits.1 fits.0)
payload_back kind.TableInit (payload.TableInit x) of fits = ap (with_payload (λ y. payload.TableInit y)) (law.table_init_back x fits.1 fits.0)
payload_back kind.TableCopy (payload.TableCopy x) of fits = ap (with_payload (λ y. payload.TableCopy y)) (law.table_copy_back x fits.1 fits.0)
payload_back _ _ of fits = absurd (true≢false (sym of))

read_as : {A : Type 0} (make : A → Payload) (k : PayloadKind) (read : Result A TermError) (p : Payload) → ((x : A) → is_payload_of k (make x) ≡ true)
    → with_payload make read ≡ Ok p → is_payload_of k p ≡ true
read_as make k (Ok x) p all e =
    let is : make x ≡ p = cc in
    subst (λ (q : Payload). is_payload_of k q ≡ true) is (all x)
read_as make k (Err error) p all e = absurd cc

-- what is read as a payload of the kind is of the kind
pub read_is_of : (k : PayloadKind) (text : List ℕ) (p : Payload) → read_payload k text ≡ Ok p → is_payload_of k p ≡ true
read_is_of kind.Nothing [] p e =
    let is : payload.Nothing ≡ p = cc in
    subst (λ (q : Payload). is_payload_of kind.Nothing q ≡ true) is refl
read_is_of kind.Nothing (c ∷ text) p e = absurd cc
read_is_of kind.Index text p e = read_as (λ n. payload.Index n) kind.Index _ p (λ _. refl) e
read_is_of kind.Lane text p e = read_as (λ n. payload.Lane n) kind.Lane _ p (λ _. refl) e
read_is_of kind.I32 text p e = read_as (λ z. payload.I32 z) kind.I32 _ p (λ _. refl) e
read_is_of kind.I64 text p e = read_as (λ z. payload.I64 z) kind.I64 _ p (λ _. refl) e
read_is_of kind.F32 text p e = read_as (λ x. payload.F32 x) kind.F32 _ p (λ _. refl) e
read_is_of kind.F64 text p e = read_as (λ x. payload.F64 x) kind.F64 _ p (λ _. refl) e
read_is_of kind.V128 text p e = read_as (λ z. payload.V128 z) kind.V128 _ p (λ _. refl) e
read_is_of kind.Memory text p e = read_as (λ m. payload.Memory m) kind.Memory _ p (λ _. refl) e
read_is_of kind.MemoryLane text p e = read_as (λ m. payload.MemoryLane m) kind.MemoryLane _ p (λ _. refl) e
read_is_of kind.Shuffle text p e = read_as (λ s. payload.Shuffle s) kind.Shuffle _ p (λ _. refl) e
read_is_of kind.Ref text p e = read_as (λ t. payload.Ref t) kind.Ref _ p (λ _. refl) e
read_is_of kind.Value text p e = read_as (λ t. payload.Value t) kind.Value _ p (λ _. refl) e
read_is_of kind.MemoryInit text p e = read_as (λ x. payload.MemoryInit x) kind.MemoryInit _ p (λ _. refl) e
read_is_of kind.MemoryCopy text p e = read_as (λ x. payload.MemoryCopy x) kind.MemoryCopy _ p (λ _. refl) e
read_is_of kind.TableInit text p e = read_as (λ x. payload.TableInit x) kind.TableInit _ p (λ _. refl) e
read_is_of kind.TableCopy text p e = read_as (λ x. payload.TableCopy x) kind.TableCopy _ p (λ _. refl) e
