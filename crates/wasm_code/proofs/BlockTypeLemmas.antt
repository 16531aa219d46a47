-- Block types are read exactly.
use Rattle.std.proofs.Common.{◌≡◌, ◌⊎◌, ℕ, ℤ, pos, negsuc, neg_ℤ, ◌-ℤ◌, ◌≤ℤ◌, ◌<ℤ◌, ◌%◌, ◌*◌, ◌+◌, ◌^◌, ◌<◌, ◌≤◌, Bool, true, false, cond}
use Rattle.std.proofs.Common.{eqb, leb, List, [], ◌∷◌, ◌++◌, Option, Some, None, Result, Ok, Err, refl, sym, ap, subst, ◌∙◌, arith, inl}
use Rattle.std.proofs.Common.{inr}
use Rattle.std.proofs.lemmas.Bool.{eqb-true, ne_eqb, le-leb, cases_lt}
use Rattle.std.proofs.lemmas.Int.{ints}
use Rattle.wasm_code.specs.declared.fault.Cause.{Cause}
use Rattle.wasm_code.specs.declared.fault.Cause.TheVariants.{Truncated, UnknownOpcode, BadInteger, BadImmediate}
use Rattle.wasm_code.specs.declared.immediate.ValType.{ValType}
use Rattle.wasm_code.specs.declared.immediate.ValType.TheVariants.{I32, I64, F32, F64, V128, FuncRef, ExternRef}
use Rattle.wasm_code.specs.declared.immediate.BlockType.{BlockType}
use Rattle.wasm_code.specs.declared.immediate.BlockType.TheVariants.{Empty, Value, FuncType, Reference}
use Rattle.wasm_code.specs.Number.{IsGroup, value, signed_value, SpellsSigned, FailsSigned}
use Rattle.wasm_code.specs.Immediate.{val_type_code, SpellsBlockType, IsNoBlockType, FailsBlockType}
use Rattle.wasm_code.specs.Reader.{group_at, within_at, signed_at, val_type_of, block_type_of, func_type_at, block_type_at}
use Rattle.wasm_code.specs.laws.GrammarLemmas.{Exact, bind_ok, bind_err, ok_is, err_is}
use Rattle.wasm_code.specs.laws.NumberExact.{signed_exact}
use Rattle.wasm_code.specs.laws.ValTypeLemmas.{val_type_named, val_type_coded}

-- ---- the first byte of a number

-- a byte that begins a number not below zero names no type
not_type : (b : ℕ) → (b < 64) ⊎ (128 ≤ b) → (val_type_of b ≡ None) × (eqb b 64 ≡ false)
unfolding val_type_of
not_type b (inl h) = rw (
  ne_eqb b 127 (omega arith),
  ne_eqb b 126 (omega arith),
  ne_eqb b 125 (omega arith),
  ne_eqb b 124 (omega arith),
  ne_eqb b 123 (omega arith),
  ne_eqb b 112 (omega arith),
  ne_eqb b 111 (omega arith),
  ne_eqb b 64 (omega arith),
) (refl, refl)
not_type b (inr h) = rw (
  ne_eqb b 127 (omega arith),
  ne_eqb b 126 (omega arith),
  ne_eqb b 125 (omega arith),
  ne_eqb b 124 (omega arith),
  ne_eqb b 123 (omega arith),
  ne_eqb b 112 (omega arith),
  ne_eqb b 111 (omega arith),
  ne_eqb b 64 (omega arith),
) (refl, refl)

below_zero : (v p n : ℕ) → v < p → pos v -ℤ pos p ≡ pos n → ⊥
below_zero v p n lt e = omega (arith, ints)

pub first_byte : (b : ℕ) (bytes : List ℕ) (n : ℕ) → SpellsSigned 33 (b ∷ bytes) (pos n) → (b < 64) ⊎ (128 ≤ b)
first_byte b [] n s =
    elim (cases_lt b 64) [
      | inl lt ↦ inl lt
      | inr le ↦
          let neg : leb 64 b ≡ true = le-leb _ _ le in
          let e : signed_value (b ∷ []) ≡ pos n = s.is in
          let e' = rw neg at e in
          absurd (below_zero (value (b ∷ [])) (128 ^ 1) n (omega arith) e')
    ]
first_byte b (c ∷ bytes) n s = inr s.group.0

-- a byte below 128 is a whole number
one_byte : (b : ℕ) → b < 128 → SpellsSigned 33 (b ∷ []) (signed_value (b ∷ []))
one_byte b lt = record { group = lt; short = omega arith; is = refl; low = low (leb 64 b); high = high (leb 64 b) }
  where
    low : (v : Bool) → neg_ℤ (pos (2 ^ 32)) ≤ℤ cond v (pos (b % 128 + 128 * 0) -ℤ pos (128 ^ 1)) (pos (b % 128 + 128 * 0))
    low true = omega (arith, ints)
    low false = omega (arith, ints)

    high : (v : Bool) → cond v (pos (b % 128 + 128 * 0) -ℤ pos (128 ^ 1)) (pos (b % 128 + 128 * 0)) <ℤ pos (2 ^ 32)
    high true = omega (arith, ints)
    high false = omega (arith, ints)

-- bytes that begin with no number begin with 128 or more
first_high : (b : ℕ) (bytes : List ℕ) (cause : Cause) → signed_at 33 (b ∷ bytes) ≡ Err cause → 128 ≤ b
first_high b bytes cause e =
    elim (cases_lt b 128) [
      | inl lt ↦ let is = (signed_exact 33).again (b ∷ []) bytes (signed_value (b ∷ [])) (one_byte b lt) in let e' = sym is ∙ e in absurd cc
      | inr le ↦ le
    ]

-- ---- what is spelled is read

forty : val_type_of 64 ≡ None
unfolding val_type_of
forty = refl

not_forty : (t : ValType) → eqb (val_type_code t) 64 ≡ false
not_forty t = ne_eqb (val_type_code t) 64 (λ e. let clash : Some t ≡ None = sym (val_type_coded t) ∙ ap val_type_of e ∙ forty in absurd cc)

block_again : (text rest : List ℕ) (t : BlockType) → SpellsBlockType text t → block_type_at (text ++ rest) ≡ Ok (t, rest)
unfolding block_type_at block_type_of
block_again text rest Empty s = rw s refl
block_again text rest (Value t) s = rw (s, not_forty t, val_type_coded t) refl
block_again [] rest (FuncType n) s = absurd s.group
block_again (b ∷ text) rest (FuncType n) s =
    let none = not_type b (first_byte b text n s) in
    rw (none.1, none.0, (signed_exact 33).again (b ∷ text) rest (pos n) s) refl
block_again text rest Reference s = absurd s

-- ---- what is read is spelled

func_takes : (bytes : List ℕ) (z : ℤ) (after : List ℕ) (t : BlockType) (rest : List ℕ) → signed_at 33 bytes ≡ Ok (z, after) →
    func_type_at z after ≡ Ok (t, rest) → (text : List ℕ) × (bytes ≡ text ++ rest) × SpellsBlockType text t
func_takes bytes (pos n) after t rest e f =
    let p = ok_is (FuncType n, after) (t, rest) f in
    let s = (signed_exact 33).takes bytes (pos n) after e in (
      s.0,
      s.1 ∙ ap (λ (q : BlockType × List ℕ). s.0 ++ q.1) p,
      subst (λ (u : BlockType). SpellsBlockType s.0 u)
          (ap (λ (q : BlockType × List ℕ). q.0) p) s.2,
    )
func_takes bytes (negsuc n) after t rest e f = absurd cc

value_takes : (b : ℕ) (bytes : List ℕ) (o : Option ValType) (t : BlockType) (rest : List ℕ) → val_type_of b ≡ o →
    block_type_of o (b ∷ bytes) bytes ≡ Ok (t, rest) → (text : List ℕ) × (b ∷ bytes ≡ text ++ rest) × SpellsBlockType text t
unfolding block_type_of
value_takes b bytes None t rest is e =
    let z = bind_ok (signed_at 33 (b ∷ bytes)) (λ z. func_type_at z.0 z.1) (t, rest) e in
    func_takes (b ∷ bytes) z.0.0 z.0.1 t rest z.1 z.2
value_takes b bytes (Some u) t rest is e =
    let p = ok_is (Value u, bytes) (t, rest) e in
    let s : b ∷ [] ≡ val_type_code u ∷ [] = ap (λ (c : ℕ). c ∷ []) (sym (val_type_named b u is)) in (
      b ∷ [],
      ap (λ (q : BlockType × List ℕ). b ∷ q.1) p,
      subst (λ (v : BlockType). SpellsBlockType (b ∷ []) v)
          (ap (λ (q : BlockType × List ℕ). q.0) p) s,
    )

byte_takes : (v : Bool) (b : ℕ) (bytes : List ℕ) (t : BlockType) (rest : List ℕ) → eqb b 64 ≡ v →
    cond v (Ok (Empty, bytes)) (block_type_of (val_type_of b) (b ∷ bytes) bytes) ≡ Ok (t, rest) → (text : List ℕ) × (b ∷ bytes ≡ text ++ rest)
    × SpellsBlockType text t
byte_takes true b bytes t rest is e =
    let p = ok_is (Empty, bytes) (t, rest) e in (
      b ∷ [],
      ap (λ (q : BlockType × List ℕ). b ∷ q.1) p,
      subst (λ (v : BlockType). SpellsBlockType (b ∷ []) v)
          (ap (λ (q : BlockType × List ℕ). q.0) p) (ap (λ (c : ℕ). c ∷ []) (eqb-true b 64 is)),
    )
byte_takes false b bytes t rest is e = value_takes b bytes (val_type_of b) t rest refl e

block_takes : (bytes : List ℕ) (t : BlockType) (rest : List ℕ) → block_type_at bytes ≡ Ok (t, rest) → (text : List ℕ) × (bytes ≡ text ++ rest)
    × SpellsBlockType text t
unfolding block_type_at
block_takes [] t rest e = absurd cc
block_takes (b ∷ bytes) t rest e = byte_takes (eqb b 64) b bytes t rest refl e

-- ---- where reading stops, no block type begins the bytes

number_stops : (bytes : List ℕ) (cause : Cause) → FailsSigned 33 bytes cause → FailsBlockType bytes cause
number_stops bytes Truncated s = s
number_stops bytes UnknownOpcode s = s
number_stops bytes BadInteger s = s
number_stops bytes BadImmediate s = absurd s

func_stops : (bytes : List ℕ) (z : ℤ) (after : List ℕ) (cause : Cause) → block_type_at bytes ≡ Err cause → signed_at 33 bytes ≡ Ok (z, after) →
    func_type_at z after ≡ Err cause → FailsBlockType bytes cause
func_stops bytes (pos n) after cause whole e f = absurd cc
func_stops bytes (negsuc n) after cause whole e f =
    let t = (signed_exact 33).takes bytes (negsuc n) after e in
    let none : (u : BlockType) → SpellsBlockType t.0 u → ⊥ = λ u s. let clash = sym (block_again t.0 after u s) ∙ sym (ap block_type_at t.1)
    ∙ whole in absurd cc in
    subst (FailsBlockType bytes) (err_is {A = BlockType × List ℕ} BadImmediate cause f) (record {
      n = n;
      front = t.0;
      back = after;
      parts = t.1;
      number = t.2;
      none = none;
    })

value_stops : (b : ℕ) (bytes : List ℕ) (o : Option ValType) (cause : Cause) → block_type_at (b ∷ bytes) ≡ Err cause →
    block_type_of o (b ∷ bytes) bytes ≡ Err cause → FailsBlockType (b ∷ bytes) cause
unfolding block_type_of
value_stops b bytes (Some u) cause whole e = absurd cc
value_stops b bytes None cause whole e =
    elim (bind_err (signed_at 33 (b ∷ bytes)) (λ z. func_type_at z.0 z.1) cause e) [
      | inl here ↦ number_stops (b ∷ bytes) cause ((signed_exact 33).stops (b ∷ bytes) cause here)
      | inr there ↦ func_stops (b ∷ bytes) there.0.0 there.0.1 cause whole there.1 there.2
    ]

byte_stops : (v : Bool) (b : ℕ) (bytes : List ℕ) (cause : Cause) → block_type_at (b ∷ bytes) ≡ Err cause →
    cond v (Ok (Empty, bytes)) (block_type_of (val_type_of b) (b ∷ bytes) bytes) ≡ Err cause → FailsBlockType (b ∷ bytes) cause
byte_stops true b bytes cause whole e = absurd cc
byte_stops false b bytes cause whole e = value_stops b bytes (val_type_of b) cause whole e

-- no byte is no number either
nothing_at : signed_at 33 [] ≡ Err Truncated
unfolding within_at group_at
nothing_at = refl

abbrev refused : Cause → Result (BlockType × List ℕ) Cause
refused cause = Err cause

nothing_stops : (cause : Cause) → Truncated ≡ cause → FailsBlockType [] cause
nothing_stops cause e = subst (FailsBlockType []) e ((signed_exact 33).stops [] Truncated nothing_at)

block_stops : (bytes : List ℕ) (cause : Cause) → block_type_at bytes ≡ Err cause → FailsBlockType bytes cause
unfolding block_type_at
block_stops [] cause e = nothing_stops cause (err_is {A = BlockType × List ℕ} Truncated cause e)
block_stops (b ∷ bytes) cause e = byte_stops (eqb b 64) b bytes cause e e

-- ---- where no block type begins the bytes, reading stops

number_fails : (bytes : List ℕ) (cause : Cause) → signed_at 33 bytes ≡ Err cause → block_type_at bytes ≡ Err cause
unfolding block_type_at block_type_of
number_fails [] cause e = ap refused (err_is {A = ℤ × List ℕ} Truncated cause (sym nothing_at ∙ e))
number_fails (b ∷ bytes) cause e =
    let none = not_type b (inr (first_high b bytes cause e)) in
    rw (none.1, none.0, e) refl

-- the first byte of a number that is one of these bytes is all of it
whole : (b : ℕ) (front : List ℕ) → IsGroup (b ∷ front) → b < 128 → front ≡ []
whole b [] g lt = refl
whole b (c ∷ front) g lt = absurd (omega (arith, g.0, lt))

type_below : (t : ValType) → val_type_code t < 128
type_below I32 = omega arith
type_below I64 = omega arith
type_below F32 = omega arith
type_below F64 = omega arith
type_below V128 = omega arith
type_below FuncRef = omega arith
type_below ExternRef = omega arith

none_by_byte : (b : ℕ) (front back : List ℕ) (n : ℕ) → SpellsSigned 33 (b ∷ front) (negsuc n) → ((t : BlockType) → SpellsBlockType (b ∷ front) t → ⊥)
    → (v : Bool) (o : Option ValType) → eqb b 64 ≡ v → val_type_of b ≡ o →
    cond v (Ok (Empty, front ++ back)) (block_type_of o (b ∷ (front ++ back)) (front ++ back)) ≡ Err BadImmediate
unfolding block_type_of
none_by_byte b front back n number none true o is named =
    let b-is : b ≡ 64 = eqb-true b 64 is in
    let alone : front ≡ [] = whole b front number.group (omega arith) in
    absurd (none Empty (rw (b-is, alone) refl))
none_by_byte b front back n number none false (Some t) is named =
    let b-is : val_type_code t ≡ b = val_type_named b t named in
    let alone : front ≡ [] = whole b front number.group (omega (arith, type_below t)) in
    absurd (none (Value t) (rw (← b-is, alone) refl))
none_by_byte b front back n number none false None is named = rw ((signed_exact 33).again (b ∷ front) back (negsuc n) number) refl

none_fails : (b : ℕ) (front back : List ℕ) (n : ℕ) → SpellsSigned 33 (b ∷ front) (negsuc n) → ((t : BlockType) → SpellsBlockType (b ∷ front) t → ⊥) →
    block_type_at (b ∷ (front ++ back)) ≡ Err BadImmediate
unfolding block_type_at
none_fails b front back n number none = none_by_byte b front back n number none (eqb b 64) (val_type_of b) refl refl

immediate_fails : (bytes : List ℕ) → IsNoBlockType bytes → block_type_at bytes ≡ Err BadImmediate
immediate_fails bytes s = ap block_type_at s.parts ∙ front_fails s.front s.back s.n s.number s.none
  where
    front_fails : (front back : List ℕ) (n : ℕ) → SpellsSigned 33 front (negsuc n) → ((t : BlockType) → SpellsBlockType front t → ⊥) →
        block_type_at (front ++ back) ≡ Err BadImmediate
    front_fails [] back n number none = absurd number.group
    front_fails (b ∷ front) back n number none = none_fails b front back n number none

block_fails : (bytes : List ℕ) (cause : Cause) → FailsBlockType bytes cause → block_type_at bytes ≡ Err cause
block_fails bytes Truncated s = number_fails bytes Truncated ((signed_exact 33).fails bytes Truncated s)
block_fails bytes UnknownOpcode s = absurd s
block_fails bytes BadInteger s = number_fails bytes BadInteger ((signed_exact 33).fails bytes BadInteger s)
block_fails bytes BadImmediate s = immediate_fails bytes s

pub block_type_exact : Exact SpellsBlockType FailsBlockType block_type_at
block_type_exact = record { takes = block_takes; again = block_again; stops = block_stops; fails = block_fails }
