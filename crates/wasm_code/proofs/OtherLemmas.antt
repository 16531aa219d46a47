-- Other operators are read exactly, and so are any operators.
use Rattle.std.proofs.Common.{◌≡◌, ℕ, ℤ, pos, negsuc, cond, eqb, ltb, List, [], ◌∷◌, ◌++◌, Option, Some, None, Result, Ok, Err, refl, sym, ap, subst}
use Rattle.wasm_code.specs.declared.fault.Cause.{Cause}
use Rattle.wasm_code.specs.declared.fault.Cause.TheVariants.{UnknownOpcode}
use Rattle.wasm_code.specs.declared.other.Other.{Other}
use Rattle.wasm_code.specs.declared.other.Other.TheVariants.{Byte, Fb, Fe}
use Rattle.wasm_code.specs.declared.other.Shape.{Shape}
use Rattle.wasm_code.specs.declared.other.Shape.TheVariants as shape
use Rattle.wasm_code.specs.Number.{IsGroup}
use Rattle.wasm_code.specs.Other as other
use Rattle.wasm_code.specs.Reader.{◌>>=◌, byte_at, not_below_at, type_index_at, any_heap_type_at, any_val_type_at, any_block_type_at}
use Rattle.wasm_code.specs.Reader.{any_types_at, catch_at, catches_at, cast_at, zero_at, shape_at, other_opcode_at, shaped_at, other_at}
use Rattle.wasm_code.specs.laws.GrammarLemmas.{Reader, Exact, err_is, byte_exact, exact_ends, exact_never, exact_of, exact_choose}
use Rattle.wasm_code.specs.laws.GrammarLemmas.{exact_then, exact_times, exact_at}
use Rattle.wasm_code.specs.laws.NumberExact.{unsigned_exact, signed_exact}
use Rattle.wasm_code.proofs.ImmediateLemmas.{memarg_exact, pair_exact}

-- ---- a spelling by its first byte

-- what begins with that byte is read with it
behind_exact : {A : Type 0} {Spells : List ℕ → A → Type 0} {Fails : List ℕ → Cause → Type 0} {at : Reader A} (b : ℕ) →
    ((x : A) → Spells [] x → ⊥) → Exact Spells Fails at → Exact (other.Behind b Spells) (other.FailsFrom b Fails) (λ bytes. at (b ∷ bytes))
behind_exact {A} {Spells} {Fails} {at} b some one = record {
  takes = λ bytes x rest e. let t = one.takes (b ∷ bytes) x rest e in cut t.0 bytes x rest t.1 t.2;
  again = λ text rest x s. one.again (b ∷ text) rest x s;
  stops = λ bytes cause e. one.stops (b ∷ bytes) cause e;
  fails = λ bytes cause f. one.fails (b ∷ bytes) cause f;
}
  where
    cut : (text bytes : List ℕ) (x : A) (rest : List ℕ) → b ∷ bytes ≡ text ++ rest → Spells text x → (tail : List ℕ) × (bytes ≡ tail ++ rest)
        × Spells (b ∷ tail) x
    cut [] bytes x rest e s = absurd (some x s)
    cut (c ∷ tail) bytes x rest e s =
        let same : c ≡ b = cc in
        let rest_is : bytes ≡ tail ++ rest = cc in
        (tail, rest_is, subst (λ (d : ℕ). Spells (d ∷ tail) x) same s)

below_exact : (z : ℤ) → Exact (other.NotBelow z) (other.FailsBelow z) (not_below_at z)
below_exact (pos n) = exact_ends tt
below_exact (negsuc n) = exact_never

index_exact : Exact other.SpellsTypeIndex other.FailsTypeIndex type_index_at
unfolding type_index_at
index_exact = exact_then (signed_exact 33) below_exact

group_some : (text : List ℕ) → IsGroup text → [] ≡ text → ⊥
group_some [] g e = g
group_some (b ∷ text) g e = absurd cc

left_nil : (a b : List ℕ) → [] ≡ a ++ b → [] ≡ a
left_nil [] b e = refl
left_nil (x ∷ a) b e = absurd cc

index_some : (x : Unit {0}) → other.SpellsTypeIndex [] x → ⊥
index_some x s = group_some s.front s.first.group (left_nil s.front s.back s.parts)

-- ---- types

heap_exact : Exact other.SpellsAnyHeapType other.FailsAnyHeapType any_heap_type_at
unfolding any_heap_type_at
heap_exact = exact_at same (exact_then byte_exact (λ b. exact_choose (other.is_abstract b) (exact_ends tt) (behind_exact b index_some index_exact)))
  where
    same : (bytes : List ℕ) → (byte_at bytes >>= λ b. cond (other.is_abstract b.0) (Ok (tt, b.1)) (type_index_at (b.0 ∷ b.1))) ≡ any_heap_type_at bytes
    same [] = refl
    same (b ∷ bytes) = refl

val_exact : Exact other.SpellsAnyValType other.FailsAnyValType any_val_type_at
unfolding any_val_type_at
val_exact = exact_then byte_exact (λ b. exact_choose (other.is_type b) (exact_ends tt) (exact_choose (other.is_reference_type_byte b) heap_exact exact_never))

block_exact : Exact other.SpellsAnyBlockType other.FailsAnyBlockType any_block_type_at
unfolding any_block_type_at
block_exact = exact_at same (exact_then byte_exact (λ b. exact_choose (eqb b 64) (exact_ends tt)
    (exact_choose (other.is_type b) (exact_ends tt) (exact_choose (other.is_reference_type_byte b) heap_exact (behind_exact b index_some index_exact)))))
  where
    same : (bytes : List ℕ) → (byte_at bytes >>= λ b. cond (eqb b.0 64) (Ok (tt, b.1))
        (cond (other.is_type b.0) (Ok (tt, b.1)) (cond (other.is_reference_type_byte b.0) (any_heap_type_at b.1) (type_index_at (b.0 ∷ b.1)))))
        ≡ any_block_type_at bytes
    same [] = refl
    same (b ∷ bytes) = refl

-- ---- lists

types_exact : Exact other.SpellsAnyTypes other.FailsAnyTypes any_types_at
unfolding any_types_at
types_exact = exact_then (unsigned_exact 32) (λ n. exact_times val_exact n)

catch_exact : Exact other.SpellsCatch other.FailsCatch catch_at
unfolding catch_at
catch_exact = exact_then byte_exact (λ b. exact_choose (ltb b 2) (exact_of (λ _. tt) pair_exact)
    (exact_choose (ltb b 4) (exact_of (λ _. tt) (unsigned_exact 32)) exact_never))

catches_exact : Exact other.SpellsCatches other.FailsCatches catches_at
unfolding catches_at
catches_exact = exact_then block_exact (λ _. exact_then (unsigned_exact 32) (λ n. exact_times catch_exact n))

cast_exact : Exact other.SpellsCast other.FailsCast cast_at
unfolding cast_at
cast_exact = exact_then byte_exact (λ b. exact_choose (ltb b 4)
    (exact_then (unsigned_exact 32) (λ _. exact_then heap_exact (λ _. heap_exact))) exact_never)

zero_exact : Exact other.SpellsZero other.FailsZero zero_at
unfolding zero_at
zero_exact = exact_then byte_exact (λ b. exact_choose (eqb b 0) (exact_ends tt) exact_never)

-- ---- by shape

shape_exact : (s : Shape) → Exact (other.SpellsShape s) (other.FailsShape s) (shape_at s)
unfolding shape_at
shape_exact shape.Nothing = exact_ends tt
shape_exact shape.Index = exact_of (λ _. tt) (unsigned_exact 32)
shape_exact shape.Pair = exact_of (λ _. tt) pair_exact
shape_exact shape.Mem = exact_of (λ _. tt) memarg_exact
shape_exact shape.Zero = zero_exact
shape_exact shape.Heap = heap_exact
shape_exact shape.Types = types_exact
shape_exact shape.Block = block_exact
shape_exact shape.Catches = catches_exact
shape_exact shape.Cast = cast_exact

opcode_exact : Exact other.SpellsOtherOpcode other.FailsOtherOpcode other_opcode_at
unfolding other_opcode_at
opcode_exact = exact_then byte_exact (λ b.
    exact_choose (eqb b 251) (exact_of (λ n. Fb n) (unsigned_exact 32))
    (exact_choose (eqb b 254) (exact_of (λ n. Fe n) (unsigned_exact 32)) (exact_ends (Byte b))))

abbrev refused : Cause → Result (Other × List ℕ) Cause
refused c = Err c

shaped_exact : (d : Option Shape) (o : Other) → Exact (other.SpellsShaped d o) (other.FailsShaped d) (shaped_at d o)
shaped_exact None o = record {
  takes = λ bytes y rest e. absurd cc;
  again = λ text rest y s. absurd s;
  stops = λ bytes c e. sym (err_is {A = Other × List ℕ} UnknownOpcode c e);
  fails = λ bytes c f. ap refused (sym f);
}
shaped_exact (Some s) o =
    let x = exact_of (λ _. o) (shape_exact s) in
    record { takes = x.takes; again = x.again; stops = x.stops; fails = x.fails }

pub other_exact : Exact other.SpellsOther other.FailsOther other_at
unfolding other_at
other_exact = exact_then opcode_exact (λ o. shaped_exact (other.shape_of o) o)
