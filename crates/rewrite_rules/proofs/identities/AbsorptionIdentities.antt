-- Lines with an operand that one operator takes back out of what another made of it are right.
use Rattle.std.proofs.Common.{◌≡◌, ℕ, ◌^◌, ◌<◌, [], ◌∷◌, ap, ◌∙◌}
use Rattle.std.specs.Prelude.{Ok}
use mir.Val.{bits}
use Rattle.wasm_execution.specs.declared.integer.IntegerType.{IntegerType}
use Rattle.wasm_execution.specs.declared.operation.Binary.{Binary}
use Rattle.wasm_execution.specs.declared.operation.Binary.TheVariants.{And, Or}
use Rattle.wasm_execution.specs.declared.operation.Operation.TheVariants as operation
use Rattle.wasm_execution.specs.Values.{width_of}
use Rattle.rewrite_rules.specs.declared.pattern.Operator.TheVariants.{Whole}
use Rattle.rewrite_rules.specs.Numbers.{value_on, or_zero}
use Rattle.rewrite_rules.specs.Line.{IsRight}
use Rattle.rewrite_rules.proofs.identities.Words as line
use Rattle.rewrite_rules.proofs.identities.GroupLemmas.{and_taken, or_taken}
use Rattle.rewrite_rules.proofs.identities.NeutralIdentities.{Commutes}
use Rattle.rewrite_rules.proofs.identities.WidthLemmas.{small, ok}

-- the value of an operator on two numbers of a type, as an operand
abbrev made : Binary → IntegerType → ℕ → ℕ → ℕ
made g t n m = or_zero (value_on (Whole (operation.Binary t g)) (n ∷ m ∷ []))

-- the first operator gives a number back, beside what the second one makes of it
abbrev pub Absorbs : (f g : Binary) → IntegerType → Type 0
Absorbs f g t = (n m : ℕ) → n < 2 ^ bits (width_of t) → value_on (Whole (operation.Binary t f)) (n ∷ made g t n m ∷ []) ≡ Ok n

pub and_absorbs : (t : IntegerType) → Absorbs And Or t
and_absorbs t n m l = ap ok (and_taken (bits (width_of t)) n m l)

pub or_absorbs : (t : IntegerType) → Absorbs Or And t
or_absorbs t n m l = ap ok (or_taken (bits (width_of t)) n m l)

-- so it does in each order of the operands, where those of the operators may change places
pub absorbs : (f g : Binary) → ((t : IntegerType) → Absorbs f g t) → (t : IntegerType) → IsRight (line.absorbed f g t)
absorbs f g k t h c us vs a e = k t (h 0) (h 1) (small t (h 0) (a 0))

pub absorbs_turned : (f g : Binary) → ((t : IntegerType) → Commutes g t) → ((t : IntegerType) → Absorbs f g t) → (t : IntegerType) →
    IsRight (line.absorbed_turned f g t)
absorbs_turned f g s k t h c us vs a e =
    ap (λ r. value_on (Whole (operation.Binary t f)) (h 0 ∷ or_zero r ∷ [])) (s t (h 1) (h 0)) ∙ absorbs f g k t h c us vs a e

pub absorbs_first : (f g : Binary) → ((t : IntegerType) → Commutes f t) → ((t : IntegerType) → Absorbs f g t) → (t : IntegerType) →
    IsRight (line.absorbed_first f g t)
absorbs_first f g s k t h c us vs a e = s t (made g t (h 0) (h 1)) (h 0) ∙ absorbs f g k t h c us vs a e

pub absorbs_last : (f g : Binary) → ((t : IntegerType) → Commutes f t) → ((t : IntegerType) → Commutes g t) → ((t : IntegerType) → Absorbs f g t) →
    (t : IntegerType) → IsRight (line.absorbed_last f g t)
absorbs_last f g s r k t h c us vs a e =
    s t (made g t (h 0) (h 1)) (h 1) ∙ (ap (λ v. value_on (Whole (operation.Binary t f)) (h 1 ∷ or_zero v ∷ [])) (r t (h 0) (h 1))
    ∙ k t (h 1) (h 0) (small t (h 1) (a 1)))
