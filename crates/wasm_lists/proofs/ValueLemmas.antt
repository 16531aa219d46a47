-- Value types, and what may be written, are read exactly.
use Rattle.std.proofs.Common.{◌≡◌, inl, inr, ℕ, pos, ◌-◌, ◌^◌, ◌<◌, ◌-ℤ◌, eqb, leb, Bool, true, false, cond, List, [], ◌∷◌, ◌++◌, length}
use Rattle.std.proofs.Common.{get_or, Some, None, Result, Ok, Err, refl, sym, ap, ◌∙◌, arith}
use Rattle.std.specs.Prelude.{slice_index}
use Rattle.std.proofs.lemmas.Bool.{eqb-true, eq-eqb}
use Rattle.std.proofs.lemmas.Int.{ints}
use Rattle.std.proofs.lemmas.List.{length-append, get_or_append_left}
use Rattle.std.proofs.Math.Nat.{pow-suc}
use Rattle.wasm_types.specs.declared.types.PrimitiveTypeInfo.TheVariants.{Empty}
use Rattle.wasm_code.specs.declared.fault.Cause.{Cause}
use Rattle.wasm_code.specs.declared.fault.Cause.TheVariants.{Truncated, UnknownOpcode, BadImmediate}
use Rattle.wasm_code.specs.Grammar.{IsCode, FailsCode}
use Rattle.wasm_code.specs.Number.{IsGroup, value, is_negative, SpellsUnsigned}
use Rattle.wasm_code.specs.Reader.{◌>>=◌, unsigned_at, below_at, group_at}
use Rattle.wasm_code.specs.laws.GrammarLemmas.{Exact, bind_ok, bind_err, err_is, exact_ends, exact_of, exact_code, exact_never, exact_at}
use Rattle.wasm_code.specs.laws.NumberExact.{unsigned_exact}
use Rattle.wasm_code.specs.laws.ValTypeLemmas.{listed}
use Rattle.wasm_lists.specs.First.{IsMark, FailsMark, OneOf}
use Rattle.wasm_lists.specs.ValueTypes.{SpellsIndexOfType, FailsIndexOfType, is_abstract, SpellsHeapTypeOrIndex, FailsHeapTypeOrIndex}
use Rattle.wasm_lists.specs.ValueTypes.{SpellsAbstract, FailsAbstract, SpellsReferenceType, FailsReferenceType, is_plain, plain_type}
use Rattle.wasm_lists.specs.ValueTypes.{SpellsPrimitive, FailsPrimitive, mutable_code}
use Rattle.wasm_lists.specs.ValueReader.{chosen_by_first_at, mark_of, mark_at, not_below_zero, index_at, heap_type_or_index_at}
use Rattle.wasm_lists.specs.ValueReader.{reference_type_at, primitive_at, mutable_of, mutable_at}
use Rattle.wasm_lists.proofs.FirstLemmas.{exact_first}

pub mark_exact : (mark : ℕ) → Exact (IsMark mark) (FailsMark mark) (mark_at mark)
unfolding mark_at
mark_exact mark = exact_code (λ (x : Unit {0}). mark) (mark_of mark) named coded
  where
    named : (b : ℕ) (x : Unit {0}) → mark_of mark b ≡ Some x → mark ≡ b
    named b x e = by_test (eqb b mark) refl e
      where
        by_test : (v : Bool) → eqb b mark ≡ v → cond v (Some tt) None ≡ Some x → mark ≡ b
        by_test true is e = sym (eqb-true b mark is)
        by_test false is e = absurd cc

    coded : (x : Unit {0}) → mark_of mark mark ≡ Some x
    coded x = rw (eq-eqb mark mark refl) refl

pub mutable_exact : Exact (IsCode mutable_code) (FailsCode mutable_code) mutable_at
unfolding mutable_at
mutable_exact = exact_code mutable_code mutable_of named coded
  where
    named : (b : ℕ) (x : Bool) → mutable_of b ≡ Some x → mutable_code x ≡ b
    named b x e = listed mutable_code (eqb b 0) b 0 x false _ refl refl e (λ e. listed mutable_code (eqb b 1) b 1 x true _ refl refl e (λ e. absurd cc))

    coded : (x : Bool) → mutable_of (mutable_code x) ≡ Some x
    coded false = refl
    coded true = refl

-- ---- the indices of types

value_below : (bytes : List ℕ) → value bytes < 128 ^ length bytes
value_below [] = omega arith
value_below (b ∷ bytes) = omega (arith, value_below bytes, pow-suc 128 (length bytes))

-- the sign and the sum of a group whose number isn't below zero
natural : (v : Bool) (text : List ℕ) (n : ℕ) → cond v (pos (value text) -ℤ pos (128 ^ length text)) (pos (value text)) ≡ pos n →
    (v ≡ false) × (value text ≡ n)
natural false text n s = (refl, cc)
natural true text n s = let below = value_below text in absurd (omega (arith, ints, s))

to_signed : (text : List ℕ) (n : ℕ) → SpellsUnsigned 32 text n → is_negative text ≡ false → SpellsIndexOfType text n
to_signed text n s low = record {
  group = s.group;
  short = s.short;
  is = rw low (ap pos s.is);
  low = omega (arith, ints);
  high = omega (arith, ints, s.fits);
}

to_unsigned : (text : List ℕ) (n : ℕ) → SpellsIndexOfType text n → (is_negative text ≡ false) × SpellsUnsigned 32 text n
to_unsigned text n s =
    let p = natural (is_negative text) text n s.is in
    (p.0, record { group = s.group; short = s.short; is = p.1; fits = omega (arith, ints, s.high) })

some_byte : (text : List ℕ) → IsGroup text → 0 < length text
some_byte [] g = absurd g
some_byte (b ∷ text) g = omega arith

-- the last byte of what stands before the rest
last_is : (text rest : List ℕ) → 0 < length text → slice_index (text ++ rest) (length (text ++ rest) - length rest - 1) ≡
    slice_index text (length text - 1)
last_is text rest some =
    let place : length (text ++ rest) - length rest - 1 ≡ length text - 1 = omega (arith, length-append text rest) in
    ap (λ (i : ℕ). get_or (text ++ rest) i 0) place ∙ get_or_append_left text rest 0 (length text - 1) (omega (arith, some))

sign_is : (bytes text rest : List ℕ) → bytes ≡ text ++ rest → IsGroup text →
    leb 64 (slice_index bytes (length bytes - length rest - 1)) ≡ is_negative text
sign_is bytes text rest parts g =
    ap (λ (l : List ℕ). leb 64 (slice_index l (length l - length rest - 1))) parts ∙ ap (leb 64) (last_is text rest (some_byte text g))

abbrev Index : Type 0
Index = ℕ × List ℕ

abbrev Kept : Type 0
Kept = Result Index Cause

kept_ok : (v : Bool) (x y : Index) → cond v (let r : Kept = Err BadImmediate in r) (Ok x) ≡ Ok y → (v ≡ false) × (x ≡ y)
kept_ok true x y e = absurd cc
kept_ok false x y e = (refl, cc)

kept_err : (v : Bool) (x : Index) (cause : Cause) → cond v (let r : Kept = Err BadImmediate in r) (Ok x) ≡ Err cause → (v ≡ true) × (cause ≡ BadImmediate)
kept_err true x cause e = (refl, sym (err_is {A = Index} BadImmediate cause e))
kept_err false x cause e = absurd cc

index_exact : Exact SpellsIndexOfType FailsIndexOfType index_at
unfolding index_at
index_exact = record {
  takes = λ bytes n rest e.
      let a = bind_ok (unsigned_at 32 bytes) (λ x. not_below_zero bytes x) (n, rest) e in
      let k = kept_ok (leb 64 (slice_index bytes (length bytes - length a.0.1 - 1))) a.0 (n, rest) a.2 in
      let read : unsigned_at 32 bytes ≡ Ok (n, rest) = a.1 ∙ ap (λ (q : Index). Ok q) k.1 in
      let t = (unsigned_exact 32).takes bytes n rest read in
      let place : leb 64 (slice_index bytes (length bytes - length rest - 1)) ≡ false =
      ap (λ (q : Index). leb 64 (slice_index bytes (length bytes - length q.1 - 1))) (sym k.1) ∙ k.0 in
      (t.0, t.1, to_signed t.0 n t.2 (sym (sign_is bytes t.0 rest t.1 t.2.group) ∙ place));
  again = λ text rest n s.
      let p = to_unsigned text n s in
      let sign = sign_is (text ++ rest) text rest refl s.group ∙ p.0 in
      rw ((unsigned_exact 32).again text rest n p.1, sign) refl;
  stops = λ bytes cause e.
      elim (bind_err (unsigned_at 32 bytes) (λ x. not_below_zero bytes x) cause e) [
        | inl here ↦ inl ((unsigned_exact 32).stops bytes cause here)
        | inr there ↦
            let k = kept_err (leb 64 (slice_index bytes (length bytes - length there.0.1 - 1))) there.0 cause there.2 in
            let t = (unsigned_exact 32).takes bytes there.0.0 there.0.1 there.1 in
            inr (
              record {
                n = there.0.0;
                front = t.0;
                back = there.0.1;
                parts = t.1;
                number = t.2;
                negative = sym (sign_is bytes t.0 there.0.1 t.1 t.2.group) ∙ k.0;
              },
              k.1,
            )
      ];
  fails = λ bytes cause f.
      elim f [
        | inl here ↦ rw ((unsigned_exact 32).fails bytes cause here) refl
        | inr there ↦
            let b = there.0 in
            let read : unsigned_at 32 bytes ≡ Ok (b.n, b.back) = ap (unsigned_at 32) b.parts ∙ (unsigned_exact 32).again b.front b.back b.n b.number in
            let sign = sign_is bytes b.front b.back b.parts b.number.group ∙ b.negative in
            rw (read, sign, there.1) refl
      ];
}

-- no byte is no number
no_number : unsigned_at 32 [] ≡ Err Truncated
unfolding below_at group_at
no_number = refl

-- a number takes a byte or more
pub number_shrinks : (bytes rest : List ℕ) (n : ℕ) → unsigned_at 32 bytes ≡ Ok (n, rest) → length rest < length bytes
number_shrinks bytes rest n e =
    let t = (unsigned_exact 32).takes bytes n rest e in omega (arith, ap length t.1, length-append t.0 rest, some_byte t.0 t.2.group)

-- ---- heap types, reference types and value types

no_index : index_at [] ≡ Err Truncated
unfolding index_at
no_index = rw no_number refl

pub heap_type_exact : Exact SpellsHeapTypeOrIndex FailsHeapTypeOrIndex heap_type_or_index_at
unfolding heap_type_or_index_at
heap_type_exact = exact_first is_abstract (λ _. exact_ends tt) (exact_of (λ _. tt) index_exact) Truncated (rw no_index refl)

-- no byte begins no heap type, and no reference type
no_heap_type : heap_type_or_index_at [] ≡ Err Truncated
unfolding heap_type_or_index_at
no_heap_type = refl

abstract_exact : Exact SpellsAbstract FailsAbstract (chosen_by_first_at is_abstract (λ _ rest. Ok (tt, rest)) (λ bytes. Err BadImmediate))
abstract_exact = exact_first is_abstract (λ _. exact_ends tt) exact_never BadImmediate refl

pub reference_type_exact : Exact SpellsReferenceType FailsReferenceType reference_type_at
unfolding reference_type_at
reference_type_exact =
    exact_at same (exact_first (λ b. eqb b 0x63) (λ _. heap_type_exact)
    (exact_first (λ b. eqb b 0x64) (λ _. heap_type_exact) abstract_exact Truncated refl) Truncated refl)
  where
    same : (bytes : List ℕ) → chosen_by_first_at (λ b. eqb b 0x63) (λ _. heap_type_or_index_at)
        (chosen_by_first_at (λ b. eqb b 0x64) (λ _. heap_type_or_index_at)
        (chosen_by_first_at is_abstract (λ _ rest. Ok (tt, rest)) (λ _. Err BadImmediate))) bytes
        ≡ reference_type_at bytes
    same [] = refl
    same (b ∷ bytes) = refl

no_reference_type : reference_type_at [] ≡ Err Truncated
unfolding reference_type_at
no_reference_type = refl

pub primitive_exact : Exact SpellsPrimitive FailsPrimitive primitive_at
unfolding primitive_at
primitive_exact = exact_first is_plain (λ b. exact_ends (plain_type b)) (exact_of (λ _. Empty) reference_type_exact) Truncated (rw no_reference_type refl)

pub no_primitive : primitive_at [] ≡ Err Truncated
unfolding primitive_at
no_primitive = refl

-- ---- no type fails for want of an operator

either : (v : Bool) {P Q : Type 0} → OneOf v P Q → (P → ⊥) → (Q → ⊥) → ⊥
either true s p q = p s
either false s p q = q s

no_index_fails : (bytes : List ℕ) → FailsIndexOfType bytes UnknownOpcode → ⊥
no_index_fails bytes (inl f) = f
no_index_fails bytes (inr f) = let e = f.1 in absurd cc

no_heap_type_fails : (bytes : List ℕ) → FailsHeapTypeOrIndex bytes UnknownOpcode → ⊥
no_heap_type_fails [] f = absurd cc
no_heap_type_fails (b ∷ bytes) f = either (is_abstract b) f (λ g. g) (λ g. no_index_fails (b ∷ bytes) g)

no_abstract_fails : (bytes : List ℕ) → FailsAbstract bytes UnknownOpcode → ⊥
no_abstract_fails [] f = absurd cc
no_abstract_fails (b ∷ bytes) f = either (is_abstract b) f (λ g. g) (λ g. absurd cc)

no_reference_type_fails : (bytes : List ℕ) → FailsReferenceType bytes UnknownOpcode → ⊥
no_reference_type_fails [] f = absurd cc
no_reference_type_fails (b ∷ bytes) f =
    either (eqb b 0x63) f (λ g. no_heap_type_fails bytes g)
    (λ g. either (eqb b 0x64) g (λ h. no_heap_type_fails bytes h) (λ h. no_abstract_fails (b ∷ bytes) h))

pub no_primitive_fails : (bytes : List ℕ) → FailsPrimitive bytes UnknownOpcode → ⊥
no_primitive_fails [] f = absurd cc
no_primitive_fails (b ∷ bytes) f = either (is_plain b) f (λ g. g) (λ g. no_reference_type_fails (b ∷ bytes) g)
