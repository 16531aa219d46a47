-- The rows behind all others are right: for a new row, a lemma and its place in `further_right`.
use Rattle.std.proofs.Common.{◌≡◌, ℕ, ◌+◌, ◌*◌, ◌%◌, ◌^◌, sym, ap, ◌∙◌, add_comm}
use Rattle.std.specs.Prelude.{bit_and, bit_or, bit_xor}
use Rattle.std.specs.Int.Bits.{xor_comm}
use Rattle.std.proofs.lemmas.Nat.{and_comm, or_comm}
use Rattle.std.proofs.Math.Nat.{mul_comm}
use mir.Val.{bits}
use Rattle.wasm_execution.specs.declared.integer.IntegerType.{IntegerType}
use Rattle.wasm_execution.specs.declared.operation.Binary.TheVariants.{Add, Mul, And, Or, Xor}
use Rattle.wasm_execution.specs.Values.{width_of}
use Rattle.rewrite_rules.specs.declared.table.further.TheConstants.{FURTHER}
use Rattle.rewrite_rules.specs.Line.{IsRight}
use Rattle.rewrite_rules.specs.Table.{rows_of}
use Rattle.rewrite_rules.proofs.identities.Words as line
use Rattle.rewrite_rules.proofs.identities.GroupLemmas.{IsGrouped, add_grouped, mul_grouped, and_grouped, or_grouped, xor_grouped}
use Rattle.rewrite_rules.proofs.identities.RowLemmas.{AtRows, ◌▸◌}
use Rattle.rewrite_rules.proofs.identities.WidthLemmas.{ok}

-- ---- the first two of three operands exchanged

exchanged : (M : ℕ) (g : ℕ → ℕ → ℕ) → IsGrouped M g → ((a b : ℕ) → g a b ≡ g b a) → (a b c : ℕ) → g a (g b c % M) % M ≡ g b (g a c % M) % M
exchanged M g grouped turned a b c = grouped a b c ∙ (ap (λ n. g (n % M) c % M) (turned a b) ∙ sym (grouped b a c))

exchanges_add : (t : IntegerType) → IsRight (line.exchanged Add t)
exchanges_add t h c us vs a e =
    let M = 2 ^ bits (width_of t) in ap ok (exchanged M (λ a b. a + b) (add_grouped M) add_comm (h 0) (h 1) (h 2))

exchanges_mul : (t : IntegerType) → IsRight (line.exchanged Mul t)
exchanges_mul t h c us vs a e =
    let M = 2 ^ bits (width_of t) in ap ok (exchanged M (λ a b. a * b) (mul_grouped M) mul_comm (h 0) (h 1) (h 2))

exchanges_and : (t : IntegerType) → IsRight (line.exchanged And t)
exchanges_and t h c us vs a e =
    let k = bits (width_of t) in ap ok (exchanged (2 ^ k) bit_and (and_grouped k) and_comm (h 0) (h 1) (h 2))

exchanges_or : (t : IntegerType) → IsRight (line.exchanged Or t)
exchanges_or t h c us vs a e =
    let k = bits (width_of t) in ap ok (exchanged (2 ^ k) bit_or (or_grouped k) or_comm (h 0) (h 1) (h 2))

exchanges_xor : (t : IntegerType) → IsRight (line.exchanged Xor t)
exchanges_xor t h c us vs a e =
    let k = bits (width_of t) in ap ok (exchanged (2 ^ k) bit_xor (xor_grouped k) xor_comm (h 0) (h 1) (h 2))

-- ---- rows

pub further_right : AtRows IsRight (rows_of FURTHER)
further_right =
    exchanges_add
    ▸ exchanges_mul
    ▸ exchanges_and
    ▸ exchanges_or
    ▸ exchanges_xor
    ▸ tt
