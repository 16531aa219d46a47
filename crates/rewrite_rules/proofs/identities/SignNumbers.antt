-- Numbers read as signed stand in the order of those with the highest bit turned.
use Rattle.std.proofs.Common.{◌≡◌, ℕ, suc, ◌+◌, ◌-◌, ◌*◌, ◌^◌, ◌<◌, ◌≤◌, Bool, true, false, refl, sym, ap, ap₂, ◌∙◌, arith}
use Rattle.std.specs.Prelude.{pos, negsuc, not, bit_xor, nat_lt, int_lt}
use Rattle.std.specs.Int.{cast_signed, w32, w64}
use Rattle.std.specs.Int.Bits.{xor_comm, xor_assoc, xor_self, xor_zero_r, xor_shifted}
use Rattle.std.proofs.lemmas.Bool.{lt-ltb, le-ltb, ltb-true, ltb-false}
use Rattle.std.proofs.Math.Nat.{mod-eq_of_lt}
use Rattle.std.proofs.lemmas.Nat.{xor_lt}
use mir.Val.{bits, sel}
use Rattle.wasm_execution.specs.declared.integer.IntegerType.{IntegerType}
use Rattle.wasm_execution.specs.declared.integer.IntegerType.TheVariants as integer
use Rattle.wasm_execution.specs.Integer.{Comparison, holds, lt_s, lt_u, gt_s, gt_u, le_s, le_u, ge_s, ge_u}
use Rattle.wasm_execution.specs.Values.{width_of}
use Rattle.rewrite_rules.specs.Numbers.{low}
use Rattle.rewrite_rules.proofs.identities.ComparisonNumbers.{le_is, int_le_is}
use Rattle.rewrite_rules.proofs.identities.ExtensionNumbers.{signed}
use Rattle.rewrite_rules.proofs.identities.WidthLemmas.{low_lt}

-- ---- the highest bit, turned

pub turned_twice : (n m : ℕ) → bit_xor (bit_xor n m) m ≡ n
turned_twice n m = xor_assoc n m m ∙ (ap (bit_xor n) (xor_self m) ∙ xor_zero_r n)

pub turned_on : (j n : ℕ) → n < 2 ^ j → bit_xor n (2 ^ j) ≡ n + 2 ^ j
turned_on j n l =
    let once : 2 ^ j ≡ 1 * 2 ^ j = omega arith in
    let same : 1 * 2 ^ j + n ≡ n + 2 ^ j = omega arith in
    xor_comm n (2 ^ j) ∙ (ap (λ m. bit_xor m n) once ∙ (xor_shifted 1 j n l ∙ same))

pub turned_off : (j n : ℕ) → 2 ^ j ≤ n → n < 2 ^ j + 2 ^ j → bit_xor n (2 ^ j) ≡ n - 2 ^ j
turned_off j n l h =
    let rest : n - 2 ^ j < 2 ^ j = omega arith in
    let whole : n ≡ n - 2 ^ j + 2 ^ j = omega arith in
    ap (λ m. bit_xor m (2 ^ j)) (whole ∙ sym (turned_on j (n - 2 ^ j) rest)) ∙ turned_twice (n - 2 ^ j) (2 ^ j)

-- ---- the order

-- two relations that hold of the same numbers
same_lt : (a b c d : ℕ) → (a < b → c < d) → (b ≤ a → d ≤ c) → nat_lt a b ≡ nat_lt c d
same_lt a b c d f g = go (nat_lt a b) refl
  where
    go : (p : Bool) → nat_lt a b ≡ p → p ≡ nat_lt c d
    go true e = sym (lt-ltb c d (f (ltb-true a b e)))
    go false e = sym (le-ltb c d (g (ltb-false a b e)))

in_order : (j n m : ℕ) → n < 2 ^ j + 2 ^ j → m < 2 ^ j + 2 ^ j →
    int_lt (signed (2 ^ j) (2 ^ j + 2 ^ j) n) (signed (2 ^ j) (2 ^ j + 2 ^ j) m) ≡ nat_lt (bit_xor n (2 ^ j)) (bit_xor m (2 ^ j))
unfolding signed
in_order j n m k l = go (nat_lt n (2 ^ j)) (nat_lt m (2 ^ j)) refl refl
  where
    go : (p q : Bool) → nat_lt n (2 ^ j) ≡ p → nat_lt m (2 ^ j) ≡ q →
        int_lt (sel p (pos n) (negsuc (2 ^ j + 2 ^ j - suc n))) (sel q (pos m) (negsuc (2 ^ j + 2 ^ j - suc m)))
        ≡ nat_lt (bit_xor n (2 ^ j)) (bit_xor m (2 ^ j))
    go true true e f =
        let a = turned_on j n (ltb-true n (2 ^ j) e) in
        let b = turned_on j m (ltb-true m (2 ^ j) f) in
        same_lt n m (n + 2 ^ j) (m + 2 ^ j) (λ h. omega arith) (λ h. omega arith) ∙ sym (ap₂ nat_lt a b)
    go true false e f =
        let a = turned_on j n (ltb-true n (2 ^ j) e) in
        let b = turned_off j m (ltb-false m (2 ^ j) f) l in
        sym (ap₂ nat_lt a b ∙ le-ltb (n + 2 ^ j) (m - 2 ^ j) (omega arith))
    go false true e f =
        let large = ltb-false n (2 ^ j) e in
        let a = turned_off j n large k in
        let b = turned_on j m (ltb-true m (2 ^ j) f) in
        sym (ap₂ nat_lt a b ∙ lt-ltb (n - 2 ^ j) (m + 2 ^ j) (omega arith))
    go false false e f =
        let large = ltb-false n (2 ^ j) e in
        let other = ltb-false m (2 ^ j) f in
        let a = turned_off j n large k in
        let b = turned_off j m other l in
        same_lt (2 ^ j + 2 ^ j - suc m) (2 ^ j + 2 ^ j - suc n) (n - 2 ^ j) (m - 2 ^ j) (λ h. omega arith) (λ h. omega arith) ∙ sym (ap₂ nat_lt a b)

order_32 : (n m : ℕ) → n < 2 ^ 32 → m < 2 ^ 32 → int_lt (cast_signed w32 n) (cast_signed w32 m) ≡ nat_lt (bit_xor n (2 ^ 31)) (bit_xor m (2 ^ 31))
unfolding signed
order_32 n m k l = in_order 31 n m k l

order_64 : (n m : ℕ) → n < 2 ^ 64 → m < 2 ^ 64 → int_lt (cast_signed w64 n) (cast_signed w64 m) ≡ nat_lt (bit_xor n (2 ^ 63)) (bit_xor m (2 ^ 63))
unfolding signed
order_64 n m k l = in_order 63 n m k l

-- ---- comparisons

-- the number with its highest bit turned
abbrev pub sign_turned : IntegerType → ℕ → ℕ
sign_turned t n = low t (bit_xor n (low t (2 ^ (bits (width_of t) - 1))))

turned_is : (t : IntegerType) (n : ℕ) → n < 2 ^ bits (width_of t) → sign_turned t n ≡ bit_xor n (2 ^ (bits (width_of t) - 1))
turned_is integer.I32 n l = mod-eq_of_lt (xor_lt 32 n (2 ^ 31) l (omega arith))
turned_is integer.I64 n l = mod-eq_of_lt (xor_lt 64 n (2 ^ 63) l (omega arith))

pub turned_back : (t : IntegerType) (n : ℕ) → n < 2 ^ bits (width_of t) → sign_turned t (sign_turned t n) ≡ n
turned_back t n l =
    let s : ℕ = 2 ^ (bits (width_of t) - 1) in
    turned_is t (sign_turned t n) (low_lt t (bit_xor n (low t s))) ∙ (ap (λ m. bit_xor m s) (turned_is t n l) ∙ turned_twice n s)

-- the second comparison holds of the turned numbers where the first one holds of these
abbrev pub AreTurned : IntegerType → Comparison → Comparison → Type 0
AreTurned t c d =
    (n m : ℕ) → n < 2 ^ bits (width_of t) → m < 2 ^ bits (width_of t) → holds (width_of t) c n m ≡ holds (width_of t) d (sign_turned t n) (sign_turned t m)

pub turned_round : (c d : Comparison) (t : IntegerType) → AreTurned t c d → AreTurned t d c
turned_round c d t h n m k l =
    sym (h (sign_turned t n) (sign_turned t m) (low_lt t (bit_xor n (low t (2 ^ (bits (width_of t) - 1)))))
    (low_lt t (bit_xor m (low t (2 ^ (bits (width_of t) - 1))))) ∙ ap₂ (holds (width_of t) d) (turned_back t n k) (turned_back t m l))

pub lt_turned : (t : IntegerType) → AreTurned t lt_s lt_u
lt_turned integer.I32 n m k l = order_32 n m k l ∙ sym (ap₂ nat_lt (turned_is integer.I32 n k) (turned_is integer.I32 m l))
lt_turned integer.I64 n m k l = order_64 n m k l ∙ sym (ap₂ nat_lt (turned_is integer.I64 n k) (turned_is integer.I64 m l))

pub gt_turned : (t : IntegerType) → AreTurned t gt_s gt_u
gt_turned t n m k l = lt_turned t m n l k

pub le_turned : (t : IntegerType) → AreTurned t le_s le_u
le_turned t n m k l =
    int_le_is (cast_signed (width_of t) n) (cast_signed (width_of t) m) ∙ (ap not (lt_turned t m n l k) ∙ sym (le_is (sign_turned t n) (sign_turned t m)))

pub ge_turned : (t : IntegerType) → AreTurned t ge_s ge_u
ge_turned t n m k l = le_turned t m n l k
