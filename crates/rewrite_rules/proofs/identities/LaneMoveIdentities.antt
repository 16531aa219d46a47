-- Numbers put into lanes and taken out of them.
use Rattle.std.proofs.Common.{◌≡◌, ℕ, zero, suc, ◌+◌, ◌-◌, ◌*◌, ◌/◌, ◌%◌, ◌^◌, ◌<◌, ◌≤◌, true, List, [], ◌∷◌, refl, sym, ap, ap₂, ◌∙◌}
use Rattle.std.proofs.Common.{subst, arith, add_comm, add_assoc, mul_comm, mul_assoc, add-mul}
use Rattle.std.specs.Prelude.{nat_lt, bit_and}
use Rattle.std.specs.Int.{w32, cast_signed, cast_unsigned}
use Rattle.std.proofs.lemmas.Bool.{ltb-true}
use Rattle.std.proofs.lemmas.Nat.{pow_pos, pow-add, and_mask, shr-shr, div-mul-add, mod-mul-add, div-add-mod'}
use Rattle.std.proofs.Math.Nat.{mod-eq_of_lt, mod-lt, mod-mod, div-one, mul-zero, mul-suc}
use mir.Val.{bits}
use Rattle.wasm_types.specs.declared.types.PrimitiveTypeInfo.{PrimitiveTypeInfo}
use Rattle.wasm_types.specs.declared.types.PrimitiveTypeInfo.TheVariants.{I32, I64, F32, F64, V128}
use Rattle.wasm_execution.specs.Lanes.{each_lane, splat, lane_at, with_lane}
use Rattle.wasm_execution.specs.Values.{IsOfType, of_bits}
use Rattle.rewrite_rules.specs.Pattern.{Kind, fixed, hole_kind_of}
use Rattle.rewrite_rules.specs.Line.{IsOfKind}
use Rattle.rewrite_rules.proofs.identities.WidthLemmas.{ok}
use Rattle.rewrite_rules.proofs.identities.LaneNumbers.{lanes_fit}
use Rattle.rewrite_rules.proofs.identities.LaneIdentities.{Whole, bound, words, doubles}

-- ---- lines of one operand

abbrev pub of_one_type : PrimitiveTypeInfo → List Kind
of_one_type t = fixed t ∷ fixed t ∷ fixed t ∷ []

-- two values of a number of the type that are the same
pub record Moves (t : PrimitiveTypeInfo) : Type 0 where
  pub left : ℕ → ℕ
  pub right : ℕ → ℕ
  pub same : (n : ℕ) → IsOfType t n → left n ≡ right n

-- the line from left to right, and the one from right to left
pub onward : (t : PrimitiveTypeInfo) (m : Moves t) (h c : ℕ → ℕ) (us vs : List ℕ) → ((n : ℕ) → IsOfKind (hole_kind_of (of_one_type t) n) (h n)) → true ≡ true →
    ok (m.left (h 0)) ≡ ok (m.right (h 0))
onward t m h c us vs a e = ap ok (m.same (h 0) (a 0))

pub homeward : (t : PrimitiveTypeInfo) (m : Moves t) (h c : ℕ → ℕ) (us vs : List ℕ) → ((n : ℕ) → IsOfKind (hole_kind_of (of_one_type t) n) (h n)) →
    true ≡ true →
    ok (m.right (h 0)) ≡ ok (m.left (h 0))
homeward t m h c us vs a e = sym (ap ok (m.same (h 0) (a 0)))

-- two vectors made of a vector and of a number that are the same
pub record Puts : Type 0 where
  pub left : ℕ → ℕ → ℕ
  pub right : ℕ → ℕ → ℕ
  pub same : (n m : ℕ) → left n m ≡ right n m

-- the line from left to right, whose operands are a vector and one of the type, and the one from right to left
abbrev pub of_vector_and : PrimitiveTypeInfo → List Kind
of_vector_and t = fixed V128 ∷ fixed t ∷ fixed t ∷ []

pub onto : (t : PrimitiveTypeInfo) (p : Puts) (h c : ℕ → ℕ) (us vs : List ℕ) → ((n : ℕ) → IsOfKind (hole_kind_of (of_vector_and t) n) (h n)) → true ≡ true →
    ok (p.left (h 0) (h 1)) ≡ ok (p.right (h 0) (h 1))
onto t p h c us vs a e = ap ok (p.same (h 0) (h 1))

pub off : (t : PrimitiveTypeInfo) (p : Puts) (h c : ℕ → ℕ) (us vs : List ℕ) → ((n : ℕ) → IsOfKind (hole_kind_of (of_vector_and t) n) (h n)) → true ≡ true →
    ok (p.right (h 0) (h 1)) ≡ ok (p.left (h 0) (h 1))
off t p h c us vs a e = sym (ap ok (p.same (h 0) (h 1)))

-- numbers of the type are those of a lane
pub record Lane (t : PrimitiveTypeInfo) : Type 0 where
  pub whole : Whole
  pub inside : (n : ℕ) → IsOfType t n → n < bound whole
  pub kept : (n : ℕ) → of_bits t n ≡ n % bound whole

abbrev pub i32 : Lane I32
i32 = record { whole = words; inside = λ n l. l; kept = λ n. refl }

abbrev pub f32 : Lane F32
f32 = record { whole = words; inside = λ n l. l; kept = λ n. refl }

abbrev pub i64 : Lane I64
i64 = record { whole = doubles; inside = λ n l. l; kept = λ n. refl }

abbrev pub f64 : Lane F64
f64 = record { whole = doubles; inside = λ n l. l; kept = λ n. refl }

-- ---- a number in each lane

one_further : (b k : ℕ) → b * suc k ≡ b + b * k
one_further b k = mul-suc b k ∙ add_comm (b * k) b

-- it is in each
lane_of_all : (b n count lane m : ℕ) → lane < count → each_lane b (λ k. n) count m / 2 ^ (b * lane) % 2 ^ b ≡ n % 2 ^ b
unfolding each_lane
lane_of_all b n zero lane m l = absurd (omega arith)
lane_of_all b n (suc count) zero m l =
    let rest = each_lane b (λ k. n) count (m / 2 ^ b) in
    ap (λ j. (rest * 2 ^ b + n % 2 ^ b) / 2 ^ j % 2 ^ b) (mul-zero b)
    ∙ (ap (λ j. j % 2 ^ b) (div-one (rest * 2 ^ b + n % 2 ^ b)) ∙ mod-mul-add rest (2 ^ b) (n % 2 ^ b) (mod-lt n (pow_pos b)))
lane_of_all b n (suc count) (suc lane) m l =
    let rest = each_lane b (λ k. n) count (m / 2 ^ b) in
    ap (λ j. (rest * 2 ^ b + n % 2 ^ b) / 2 ^ j % 2 ^ b) (one_further b lane)
    ∙ (ap (λ j. j % 2 ^ b) (sym (shr-shr (rest * 2 ^ b + n % 2 ^ b) b (b * lane)))
    ∙ (ap (λ j. j / 2 ^ (b * lane) % 2 ^ b) (div-mul-add rest (2 ^ b) (n % 2 ^ b) (mod-lt n (pow_pos b)))
    ∙ lane_of_all b n count lane (m / 2 ^ b) (omega arith)))

pub splat_kept : (w : Whole) (n : ℕ) → splat w.shape n % 2 ^ 128 ≡ splat w.shape n
splat_kept w n = mod-eq_of_lt (subst (λ k. splat w.shape n < 2 ^ k) w.fills (lanes_fit (bits w.shape.width) (λ k. n) w.shape.count 0))

pub out_of_splat : (t : PrimitiveTypeInfo) (p : Lane t) (lane : ℕ) → nat_lt lane p.whole.shape.count ≡ true → (n : ℕ) → IsOfType t n →
    n ≡ of_bits t (lane_at p.whole.shape lane (splat p.whole.shape n % 2 ^ 128))
out_of_splat t p lane e n h =
    let w = p.whole in
    let l = ltb-true lane w.shape.count e in
    sym (p.kept (lane_at w.shape lane (splat w.shape n % 2 ^ 128))
    ∙ (ap (λ m. lane_at w.shape lane m % bound w) (splat_kept w n)
    ∙ (ap (λ m. m % bound w) (lane_of_all (bits w.shape.width) n w.shape.count lane 0 l)
    ∙ (mod-mod n (bound w) ∙ mod-eq_of_lt (p.inside n h)))))

abbrev pub splat_out : (t : PrimitiveTypeInfo) (p : Lane t) (lane : ℕ) → nat_lt lane p.whole.shape.count ≡ true → Moves t
splat_out t p lane e = record {
  left = λ n. n;
  right = λ n. of_bits t (lane_at p.whole.shape lane (splat p.whole.shape n % 2 ^ 128));
  same = out_of_splat t p lane e;
}

-- as the bits of a float, or of the number that has them
abbrev pub splat_bits : (t : PrimitiveTypeInfo) (p : Lane t) → Moves t
splat_bits t p = record {
  left = λ n. splat p.whole.shape n % 2 ^ 128;
  right = λ n. splat p.whole.shape (n % bound p.whole) % 2 ^ 128;
  same = λ n l. sym (ap (λ m. splat p.whole.shape m % 2 ^ 128) (mod-eq_of_lt (p.inside n l)));
}

abbrev pub lane_bits : (w : Whole) (lane : ℕ) → Moves V128
lane_bits w lane = record {
  left = λ n. lane_at w.shape lane n % bound w;
  right = λ n. lane_at w.shape lane n % bound w % bound w;
  same = λ n l. sym (mod-mod (lane_at w.shape lane n) (bound w));
}

-- ---- a lane with its sign

pub low_kept : (w : Whole) (n : ℕ) → bound w ≤ 2 ^ 32 → n % bound w ≡ n % bound w % 2 ^ 32 % bound w
low_kept w n l =
    let h = mod-lt n (pow_pos (bits w.shape.width)) in
    let k : n % bound w < 2 ^ 32 = omega arith in
    sym (ap (λ m. m % bound w) (mod-eq_of_lt k) ∙ mod-mod n (bound w))

abbrev pub signed_lane : (w : Whole) → bound w ≤ 2 ^ 32 → (lane : ℕ) → Moves V128
signed_lane w l lane = record {
  left = λ n. cast_unsigned w32 (cast_signed w.shape.width (lane_at w.shape lane n)) % 2 ^ 32;
  right = λ n. cast_unsigned w32 (cast_signed w.shape.width (lane_at w.shape lane n % 2 ^ 32 % bound w)) % 2 ^ 32;
  same = λ n h. ap (λ m. cast_unsigned w32 (cast_signed w.shape.width m) % 2 ^ 32) (low_kept w (n / 2 ^ (bits w.shape.width * lane)) l);
}

-- ---- a lane put where it was

-- a number is what stands above a lane, in it and below it
three_parts : (n P B : ℕ) → n / P / B * (P * B) + (n / P % B * P + n % P) ≡ n
three_parts n P B =
    let a = n / P / B in
    let r = n / P % B in
    ap (λ m. m + (r * P + n % P)) (ap (λ m. a * m) (mul_comm P B) ∙ sym (mul_assoc a B P))
    ∙ (sym (add_assoc (a * B * P) (r * P) (n % P)) ∙ (ap (λ m. m + n % P) (sym (add-mul (a * B) r P))
    ∙ (ap (λ m. m * P + n % P) (div-add-mod' (n / P) B) ∙ div-add-mod' n P)))

pub put_back : (w : Whole) (lane n : ℕ) → with_lane w.shape lane n (lane_at w.shape lane n % bound w) ≡ n
put_back w lane n =
    let b = bits w.shape.width in
    let B = bound w in
    let P = 2 ^ (b * lane) in
    let q = n / P in
    let step : lane + 1 ≡ suc lane = omega arith in
    let next : b * (lane + 1) ≡ b * lane + b = ap (λ k. b * k) step ∙ mul-suc b lane in
    let above : n / 2 ^ (b * (lane + 1)) ≡ q / B = ap (λ k. n / 2 ^ k) next ∙ sym (shr-shr n (b * lane) b) in
    let place : 2 ^ (b * (lane + 1)) ≡ P * B = ap (λ k. 2 ^ k) next ∙ pow-add 2 (b * lane) b in
    let here : q % B % B % B ≡ q % B = mod-mod (q % B) B ∙ mod-mod q B in
    ap₂ (λ x y. x * y + (q % B % B % B * P + n % P)) above place
    ∙ (ap (λ m. q / B * (P * B) + (m * P + n % P)) here ∙ three_parts n P B)

abbrev pub replaced : (w : Whole) (lane : ℕ) → Moves V128
replaced w lane = record {
  left = λ n. n;
  right = λ n. with_lane w.shape lane n (lane_at w.shape lane n % bound w) % 2 ^ 128;
  same = λ n l. sym (ap (λ m. m % 2 ^ 128) (put_back w lane n) ∙ mod-eq_of_lt l);
}

-- ---- a number put into a lane

-- the vector with a lane's number in the lane
abbrev pub put : (w : Whole) (lane n k : ℕ) → ℕ
put w lane n k =
    n / 2 ^ (bits w.shape.width * (lane + 1)) * 2 ^ (bits w.shape.width * (lane + 1))
    + (k * 2 ^ (bits w.shape.width * lane) + n % 2 ^ (bits w.shape.width * lane))

-- as the bits of a float, or of the number that has them
abbrev pub put_bits : (w : Whole) (lane : ℕ) → Puts
put_bits w lane = record {
  left = λ n m. with_lane w.shape lane n m % 2 ^ 128;
  right = λ n m. with_lane w.shape lane n (m % bound w) % 2 ^ 128;
  same = λ n m. sym (ap (λ k. put w lane n k % 2 ^ 128) (mod-mod m (bound w)));
}

pub masked_low : (w : Whole) → bound w ≤ 2 ^ 32 → (m : ℕ) → m % bound w ≡ bit_and m (bound w - 1) % 2 ^ 32 % bound w
masked_low w l m = low_kept w m l ∙ ap (λ k. k % 2 ^ 32 % bound w) (sym (and_mask m (bits w.shape.width)))

-- cut to the bits of the lane
abbrev pub put_masked : (w : Whole) → bound w ≤ 2 ^ 32 → (lane : ℕ) → Puts
put_masked w l lane = record {
  left = λ n m. with_lane w.shape lane n m % 2 ^ 128;
  right = λ n m. with_lane w.shape lane n (bit_and m (bound w - 1) % 2 ^ 32) % 2 ^ 128;
  same = λ n m. ap (λ k. put w lane n k % 2 ^ 128) (masked_low w l m);
}
