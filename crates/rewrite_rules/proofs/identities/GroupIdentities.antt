-- Lines that put operands in another order or in other groups, or that say an operand twice, are right.
use Rattle.std.proofs.Common.{◌≡◌, ◌+◌, ◌-◌, ◌^◌, sym, ap, ◌∙◌, arith, add_comm}
use Rattle.std.specs.Prelude.{bit_and, bit_or, bit_xor}
use Rattle.std.specs.Int.Bits.{and_self, or_self, xor_self, xor_comm}
use Rattle.std.proofs.lemmas.Nat.{and_comm, or_comm}
use Rattle.std.proofs.Math.Nat.{mul_comm, mod-eq_of_lt, mod_self, add-mod_right, mod-add-mod}
use mir.Val.{bits}
use Rattle.wasm_execution.specs.declared.integer.IntegerType.{IntegerType}
use Rattle.wasm_execution.specs.declared.operation.Binary.TheVariants.{Add, Sub, Mul, And, Or, Xor}
use Rattle.wasm_execution.specs.Values.{width_of}
use Rattle.rewrite_rules.specs.Numbers.{low}
use Rattle.rewrite_rules.specs.Line.{IsRight}
use Rattle.rewrite_rules.proofs.identities.Words as line
use Rattle.rewrite_rules.proofs.identities.GroupLemmas.{add_grouped, mul_grouped, and_grouped, or_grouped, xor_grouped, sum_times, or_and}
use Rattle.rewrite_rules.proofs.identities.GroupLemmas.{once_in_front, once_behind}
use Rattle.rewrite_rules.proofs.identities.NumberLemmas.{twice_complement, and_complement, or_complement, rest_away}
use Rattle.rewrite_rules.proofs.identities.WidthLemmas.{small, zero_low, ones_low, ok, same}

-- ---- another order

pub add_swaps : (t : IntegerType) → IsRight (line.swap Add t)
add_swaps t h c us vs a e = ap (λ k. ok (low t k)) (add_comm (h 0) (h 1))

pub mul_swaps : (t : IntegerType) → IsRight (line.swap Mul t)
mul_swaps t h c us vs a e = ap (λ k. ok (low t k)) (mul_comm (h 0) (h 1))

pub and_swaps : (t : IntegerType) → IsRight (line.swap And t)
and_swaps t h c us vs a e = ap (λ k. ok (low t k)) (and_comm (h 0) (h 1))

pub or_swaps : (t : IntegerType) → IsRight (line.swap Or t)
or_swaps t h c us vs a e = ap (λ k. ok (low t k)) (or_comm (h 0) (h 1))

pub xor_swaps : (t : IntegerType) → IsRight (line.swap Xor t)
xor_swaps t h c us vs a e = ap (λ k. ok (low t k)) (xor_comm (h 0) (h 1))

-- ---- other groups

pub add_groups : (t : IntegerType) → IsRight (line.group_left Add t)
add_groups t h c us vs a e = ap ok (add_grouped (2 ^ bits (width_of t)) (h 0) (h 1) (h 2))

pub mul_groups : (t : IntegerType) → IsRight (line.group_left Mul t)
mul_groups t h c us vs a e = ap ok (mul_grouped (2 ^ bits (width_of t)) (h 0) (h 1) (h 2))

pub and_groups : (t : IntegerType) → IsRight (line.group_left And t)
and_groups t h c us vs a e = ap ok (and_grouped (bits (width_of t)) (h 0) (h 1) (h 2))

pub or_groups : (t : IntegerType) → IsRight (line.group_left Or t)
or_groups t h c us vs a e = ap ok (or_grouped (bits (width_of t)) (h 0) (h 1) (h 2))

pub xor_groups : (t : IntegerType) → IsRight (line.group_left Xor t)
xor_groups t h c us vs a e = ap ok (xor_grouped (bits (width_of t)) (h 0) (h 1) (h 2))

-- ---- over the parts of an operand

pub product_parts : (t : IntegerType) → IsRight (line.parted Mul Add t)
product_parts t h c us vs a e = ap ok (sum_times (2 ^ bits (width_of t)) (h 0) (h 1) (low t (c 0)))

pub mask_parts : (t : IntegerType) → IsRight (line.parted And Or t)
mask_parts t h c us vs a e = ap ok (or_and (bits (width_of t)) (h 0) (h 1) (low t (c 0)))

pub and_complements : (t : IntegerType) → IsRight (line.complement And Or t)
and_complements t h c us vs a e =
    ap (λ k. ok (low t (bit_xor (low t (bit_and (h 0) (h 1))) k))) (ones_low t)
    ∙ (ap ok (and_complement (bits (width_of t)) (h 0) (h 1) (small t (h 0) (a 0)) (small t (h 1) (a 1)))
    ∙ ap (λ k. ok (low t (bit_or (low t (bit_xor (h 0) k)) (low t (bit_xor (h 1) k))))) (sym (ones_low t)))

pub or_complements : (t : IntegerType) → IsRight (line.complement Or And t)
or_complements t h c us vs a e =
    ap (λ k. ok (low t (bit_xor (low t (bit_or (h 0) (h 1))) k))) (ones_low t)
    ∙ (ap ok (or_complement (bits (width_of t)) (h 0) (h 1) (small t (h 0) (a 0)) (small t (h 1) (a 1)))
    ∙ ap (λ k. ok (low t (bit_and (low t (bit_xor (h 0) k)) (low t (bit_xor (h 1) k))))) (sym (ones_low t)))

-- ---- twice

pub or_twice : (t : IntegerType) → IsRight (line.double Or t)
or_twice t h c us vs a e = same t _ (h 0) (small t (h 0) (a 0)) (or_self (h 0))

pub and_twice : (t : IntegerType) → IsRight (line.double And t)
and_twice t h c us vs a e = same t _ (h 0) (small t (h 0) (a 0)) (and_self (h 0))

pub complement_twice : (t : IntegerType) → IsRight (line.twice_complement t)
complement_twice t h c us vs a e =
    sym (ap (λ k. ok (low t (bit_xor (low t (bit_xor (h 0) k)) k))) (ones_low t)
    ∙ ap ok (twice_complement (bits (width_of t)) (h 0) (small t (h 0) (a 0))))

pub cancels_sub : (t : IntegerType) → IsRight (line.cancelled Sub t)
cancels_sub t h c us vs a e =
    let M = 2 ^ bits (width_of t) in
    let l = small t (h 0) (a 0) in
    let k : h 0 + (M - h 0) ≡ M = omega arith in
    ap ok (ap (low t) k ∙ (mod_self M ∙ sym (zero_low t)))

pub cancels_xor : (t : IntegerType) → IsRight (line.cancelled Xor t)
cancels_xor t h c us vs a e = ap (λ k. ok (low t k)) (xor_self (h 0))

pub complement_first : (t : IntegerType) → IsRight (line.first_in_front t)
complement_first t h c us vs a e =
    let m = low t (2 ^ bits (width_of t) - 1) in
    ap (λ k. ok (low t (bit_xor (low t k) m))) (xor_comm m (h 0)) ∙ sym (complement_twice t h c vs us a e)

pub complement_second : (t : IntegerType) → IsRight (line.second_in_front t)
complement_second t h c us vs a e =
    let m = low t (2 ^ bits (width_of t) - 1) in
    ap (λ k. ok (low t k)) (xor_comm m (low t (bit_xor (h 0) m))) ∙ sym (complement_twice t h c vs us a e)

pub complement_both : (t : IntegerType) → IsRight (line.both_in_front t)
complement_both t h c us vs a e =
    let m = low t (2 ^ bits (width_of t) - 1) in
    ap (λ k. ok (low t (bit_xor m (low t k)))) (xor_comm m (h 0)) ∙ complement_second t h c us vs a e

-- ---- once more

pub and_again : (t : IntegerType) → IsRight (line.again And t)
and_again t h c us vs a e =
    let k = bits (width_of t) in
    ap ok (once_in_front (2 ^ k) bit_and (and_grouped k) and_self (h 0) (h 1) (small t (h 0) (a 0)))

pub or_again : (t : IntegerType) → IsRight (line.again Or t)
or_again t h c us vs a e =
    let k = bits (width_of t) in
    ap ok (once_in_front (2 ^ k) bit_or (or_grouped k) or_self (h 0) (h 1) (small t (h 0) (a 0)))

pub and_again_turned : (t : IntegerType) → IsRight (line.again_turned And t)
and_again_turned t h c us vs a e = ap (λ k. ok (low t (bit_and (h 0) (low t k)))) (and_comm (h 1) (h 0)) ∙ and_again t h c us vs a e

pub or_again_turned : (t : IntegerType) → IsRight (line.again_turned Or t)
or_again_turned t h c us vs a e = ap (λ k. ok (low t (bit_or (h 0) (low t k)))) (or_comm (h 1) (h 0)) ∙ or_again t h c us vs a e

pub and_first_again : (t : IntegerType) → IsRight (line.first_again And t)
and_first_again t h c us vs a e = ap (λ k. ok (low t k)) (and_comm (low t (bit_and (h 0) (h 1))) (h 0)) ∙ and_again t h c us vs a e

pub or_first_again : (t : IntegerType) → IsRight (line.first_again Or t)
or_first_again t h c us vs a e = ap (λ k. ok (low t k)) (or_comm (low t (bit_or (h 0) (h 1))) (h 0)) ∙ or_again t h c us vs a e

pub and_last_again : (t : IntegerType) → IsRight (line.last_again And t)
and_last_again t h c us vs a e =
    let k = bits (width_of t) in
    ap ok (once_behind (2 ^ k) bit_and (and_grouped k) and_self (h 0) (h 1) (small t (h 1) (a 1)))

pub or_last_again : (t : IntegerType) → IsRight (line.last_again Or t)
or_last_again t h c us vs a e =
    let k = bits (width_of t) in
    ap ok (once_behind (2 ^ k) bit_or (or_grouped k) or_self (h 0) (h 1) (small t (h 1) (a 1)))

pub sum_goes_back : (t : IntegerType) → IsRight (line.sum_back t)
sum_goes_back t h c us vs a e =
    let M = 2 ^ bits (width_of t) in
    let l = small t (h 1) (a 1) in
    let whole : h 0 + (M - h 1) + h 1 ≡ h 0 + M = omega arith in
    ap ok (mod-add-mod (h 0 + (M - h 1)) M (h 1) ∙ (ap (low t) whole ∙ (add-mod_right (h 0) M ∙ mod-eq_of_lt (small t (h 0) (a 0)))))

pub difference_goes_back : (t : IntegerType) → IsRight (line.difference_back t)
difference_goes_back t h c us vs a e = ap ok (rest_away (2 ^ bits (width_of t)) (h 0) (h 1) (small t (h 0) (a 0)) (small t (h 1) (a 1)))
