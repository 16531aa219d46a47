-- What exact rows do is an answer of their types, and needs no more than their class allows (this project).
use Rattle.std.proofs.Common.{◌≡◌, ℕ, ◌+◌, Bool, true, false, List, [], ◌∷◌, length, Option, Some, None, refl, sym, ap, ◌∙◌, arith}
use Rattle.std.specs.Prelude.{nat_le, ◌==◌, ◌&&◌, ◌||◌, if◌then◌else◌, option_map}
use Rattle.std.specs.List.{All}
use Rattle.std.proofs.lemmas.Bool.{eqb-true, and_parts}
use Rattle.std.proofs.lemmas.List.Elements.{All-nil, All-cons}
use Rattle.std.proofs.Math.Nat.{mod-lt, mod-eq_of_lt}
use Rattle.wasm_code.specs.declared.immediate.Imm.{Imm}
use Rattle.wasm_code.specs.declared.immediate.Imm.TheVariants as imm
use Rattle.wasm_code.specs.declared.immediate.MemArg.{MemArg}
use Rattle.wasm_code.specs.declared.table.Opcode.{Opcode}
use Rattle.wasm_code.specs.declared.table.Opcode.TheVariants.{Byte, Fc, Fd}
use Rattle.wasm_code.specs.Instruction.{Instruction}
use Rattle.wasm_code.specs.Table.{row_at, opcode_in}
use Rattle.wasm_types.specs.Module.{Module}
use Rattle.wasm_types.specs.declared.types.PrimitiveTypeInfo.{PrimitiveTypeInfo}
use Rattle.wasm_types.specs.declared.types.PrimitiveTypeInfo.TheVariants as primitive
use Rattle.wasm_execution.specs.ExactRow.{Loading, ExactRow, computes, loads, stores, find, byte_values, saturating_values, vector_values}
use Rattle.wasm_execution.specs.ExactRow.{lane_values, byte_loads, byte_stores, vector_loads, vector_stores, accessing, exact_by, exact_row}
use Rattle.wasm_execution.specs.OtherRow.{opcode_changes, opcode_fails, changes, may_trap}
use Rattle.wasm_execution.specs.Values.{Value, IsValue, IsOfType, of_bits, types, Gives, Fails, met, IsAnswer, Memories, numbered, within, exactly}

-- ---- values

pub of_bits_fits : (t : PrimitiveTypeInfo) (n : ℕ) → IsOfType t (of_bits t n)
of_bits_fits primitive.I32 n = mod-lt n (omega arith)
of_bits_fits primitive.I64 n = mod-lt n (omega arith)
of_bits_fits primitive.F32 n = mod-lt n (omega arith)
of_bits_fits primitive.F64 n = mod-lt n (omega arith)
of_bits_fits primitive.V128 n = mod-lt n (omega arith)
of_bits_fits primitive.FuncRef n = tt
of_bits_fits primitive.ExternRef n = tt
of_bits_fits primitive.Empty n = tt

-- a number of the type is what is left of it
pub of_bits_is : (t : PrimitiveTypeInfo) (n : ℕ) → IsOfType t n → of_bits t n ≡ n
of_bits_is primitive.I32 n h = mod-eq_of_lt h
of_bits_is primitive.I64 n h = mod-eq_of_lt h
of_bits_is primitive.F32 n h = mod-eq_of_lt h
of_bits_is primitive.F64 n h = mod-eq_of_lt h
of_bits_is primitive.V128 n h = mod-eq_of_lt h
of_bits_is primitive.FuncRef n h = refl
of_bits_is primitive.ExternRef n h = refl
of_bits_is primitive.Empty n h = refl

pub numbered_types : (ts : List PrimitiveTypeInfo) (n : ℕ) → types (numbered ts n) ≡ ts
numbered_types [] n = refl
numbered_types (t ∷ ts) n = ap (λ us. t ∷ us) (numbered_types ts n)

pub numbered_are : (ts : List PrimitiveTypeInfo) (n : ℕ) → All IsValue (numbered ts n)
numbered_are [] n = All-nil IsValue
numbered_are (t ∷ ts) n = All-cons IsValue (record { type = t; number = of_bits t n }) (numbered ts n) (of_bits_fits t n) (numbered_are ts n)

-- ---- classes

-- of each number of the table
abbrev pub every : {A : Type 0} → (ℕ → Bool) → List (ℕ × A) → Bool
every is [] = true
every is (x ∷ xs) = is x.0 && every is xs

-- what is found at each number of the table has the property
pub found_is : {A : Type 0} (is : ℕ → Bool) (xs : List (ℕ × A)) (n : ℕ) (x : A) → every is xs ≡ true → find xs n ≡ Some x → is n ≡ true
found_is {A} is [] n x h e = absurd cc
found_is {A} is (y ∷ ys) n x h e =
    let p = and_parts (is y.0) (every is ys) h in
    go (n == y.0) refl e (λ f. found_is is ys n x p.1 f)
  where
    go : (b : Bool) → (n == y.0) ≡ b → (if b then Some y.1 else find ys n) ≡ Some x → (find ys n ≡ Some x → is n ≡ true) → is n ≡ true
    go true k f later = ap is (eqb-true n y.0 k) ∙ (and_parts (is y.0) (every is ys) h).0
    go false k f later = later f

-- what the row is: it computes, or the class of its opcode allows what it does
abbrev pub IsAllowed : Option Opcode → ExactRow → Type 0
IsAllowed o (computes f) = Unit {0}
IsAllowed o (loads a l) = opcode_fails o ≡ true
IsAllowed o (stores a count) = opcode_changes o ≡ true

computes_allowed : (o : Option Opcode) (x : Option (List ℕ → ℕ)) (row : ExactRow) → option_map computes x ≡ Some row → IsAllowed o row
computes_allowed o (Some f) (computes g) e = tt
computes_allowed o (Some f) (loads a l) e = absurd cc
computes_allowed o (Some f) (stores a count) e = absurd cc
computes_allowed o None row e = absurd cc

computing : (o : Option Opcode) (b : Bool) (f : List ℕ → ℕ) (row : ExactRow) → (if b then Some (computes f) else None) ≡ Some row → IsAllowed o row
computing o true f (computes g) e = tt
computing o true f (loads a l) e = absurd cc
computing o true f (stores a count) e = absurd cc
computing o false f row e = absurd cc

accesses_allowed : (o : Option Opcode) (m : MemArg) (load : Option Loading) (store : Option ℕ) (row : ExactRow) →
    ((l : Loading) → load ≡ Some l → opcode_fails o ≡ true) → ((n : ℕ) → store ≡ Some n → opcode_changes o ≡ true) →
    accessing m load store ≡ Some row → IsAllowed o row
accesses_allowed o m (Some l) store (computes f) h k e = tt
accesses_allowed o m (Some l) store (loads a x) h k e = h l refl
accesses_allowed o m (Some l) store (stores a count) h k e = absurd cc
accesses_allowed o m None (Some n) (computes f) h k e = tt
accesses_allowed o m None (Some n) (loads a x) h k e = absurd cc
accesses_allowed o m None (Some n) (stores a count) h k e = k n refl
accesses_allowed o m None None row h k e = absurd cc

pub allowed_by : (o : Option Opcode) (i : Imm) (row : ExactRow) → exact_by o i ≡ Some row → IsAllowed o row
allowed_by (Some (Byte byte)) imm.Nothing row e = computes_allowed (Some (Byte byte)) (find byte_values byte) row e
allowed_by (Some (Byte byte)) (imm.F32 n) row e = computing (Some (Byte byte)) (byte == 0x43) _ row e
allowed_by (Some (Byte byte)) (imm.F64 n) row e = computing (Some (Byte byte)) (byte == 0x44) _ row e
allowed_by (Some (Byte byte)) (imm.Mem m) row e =
    accesses_allowed (Some (Byte byte)) m (find byte_loads byte) (find byte_stores byte) row
    (λ l f. found_is (λ b. opcode_fails (Some (Byte b))) byte_loads byte l refl f)
    (λ n f. found_is (λ b. opcode_changes (Some (Byte b))) byte_stores byte n refl f) e
allowed_by (Some (Fc n)) imm.Nothing row e = computes_allowed (Some (Fc n)) (find saturating_values n) row e
allowed_by (Some (Fd n)) imm.Nothing row e = computes_allowed (Some (Fd n)) (find vector_values n) row e
allowed_by (Some (Fd n)) (imm.V128 z) row e = computing (Some (Fd n)) (n == 12) _ row e
allowed_by (Some (Fd n)) (imm.Shuffle lanes) row e = computing (Some (Fd n)) (n == 13) _ row e
allowed_by (Some (Fd n)) (imm.Lane lane) row e = computes_allowed (Some (Fd n)) (find (lane_values lane) n) row e
allowed_by (Some (Fd n)) (imm.Mem m) row e =
    accesses_allowed (Some (Fd n)) m (find vector_loads n) (find vector_stores n) row
    (λ l f. found_is (λ b. opcode_fails (Some (Fd b))) vector_loads n l refl f)
    (λ k f. found_is (λ b. opcode_changes (Some (Fd b))) vector_stores n k refl f) e
allowed_by _ _ row e = absurd cc

-- the same of an instruction
abbrev pub IsAllowedTo : Instruction → ExactRow → Type 0
IsAllowedTo i (computes f) = Unit {0}
IsAllowedTo i (loads a l) = may_trap i ≡ true
IsAllowedTo i (stores a count) = (changes i ≡ true) × (may_trap i ≡ true)

or_true : (a b : Bool) → b ≡ true → (a || b) ≡ true
or_true true b e = refl
or_true false b e = e

pub allowed : (i : Instruction) (row : ExactRow) → exact_row i ≡ Some row → IsAllowedTo i row
unfolding exact_row changes may_trap
allowed i row e = go row (allowed_by (opcode_in (row_at i.row)) i.imm row e)
  where
    go : (row : ExactRow) → IsAllowed (opcode_in (row_at i.row)) row → IsAllowedTo i row
    go (computes f) h = tt
    go (loads a l) h = or_true (opcode_changes (opcode_in (row_at i.row))) (opcode_fails (opcode_in (row_at i.row))) h
    go (stores a count) h = (h, ap (λ b. b || opcode_fails (opcode_in (row_at i.row))) h)

-- ---- answers

module _ (info : Module) (i : Instruction) (m : Memories) (ts : List PrimitiveTypeInfo) (gs : List Value) (r : ℕ) (typed : types gs ≡ info.globals)
    (are : All IsValue gs) where
  gives_is : (n : ℕ) → IsAnswer info i ts gs r (Gives (numbered ts n) gs r)
  gives_is n = (numbered_types ts n, numbered_are ts n, typed, are, λ c. (refl, refl))

  fails_is : may_trap i ≡ true → IsAnswer info i ts gs r (Fails (met m.outside) gs r)
  fails_is h = (h, typed, are, λ c. (refl, refl))

  loads_is : may_trap i ≡ true → (n : ℕ) (b : Bool) → IsAnswer info i ts gs r (within b (Gives (numbered ts n) gs r) m.outside gs r)
  loads_is h n true = gives_is n
  loads_is h n false = fails_is h

pub exactly_is : (info : Module) (i : Instruction) (m : Memories) (row : ExactRow) (ts : List PrimitiveTypeInfo) (ns : List ℕ) (gs : List Value) (r : ℕ) →
    types gs ≡ info.globals → All IsValue gs → IsAllowedTo i row → IsAnswer info i ts gs r (exactly m row ts ns gs r)
exactly_is info i m (computes f) ts ns gs r e a h = gives_is info i m ts gs r e a (f ns)
exactly_is info i m (loads x l) ts [] gs r e a h = fails_is info i m ts gs r e a h
exactly_is info i m (loads x l) ts (n ∷ []) gs r e a h = loads_is info i m ts gs r e a h _ _
exactly_is info i m (loads x l) ts (n ∷ k ∷ ns) gs r e a h = fails_is info i m ts gs r e a h
exactly_is info i m (stores x count) [] [] gs r e a h = fails_is info i m [] gs r e a h.1
exactly_is info i m (stores x count) [] (n ∷ []) gs r e a h = fails_is info i m [] gs r e a h.1
exactly_is info i m (stores x count) [] (n ∷ k ∷ []) gs r e a h =
    go (nat_le (n + x.offset + count) (length (m.bytes r x.memory))) (m.with_bytes r x.memory _)
  where
    go : (b : Bool) (q : ℕ) → IsAnswer info i [] gs r (within b (Gives [] gs q) m.outside gs r)
    go true q = (refl, All-nil IsValue, e, a, λ c. let y : true ≡ false = sym h.0 ∙ c in absurd cc)
    go false q = fails_is info i m [] gs r e a h.1
exactly_is info i m (stores x count) [] (n ∷ k ∷ j ∷ ns) gs r e a h = fails_is info i m [] gs r e a h.1
exactly_is info i m (stores x count) (t ∷ ts) ns gs r e a h = fails_is info i m (t ∷ ts) gs r e a h.1
