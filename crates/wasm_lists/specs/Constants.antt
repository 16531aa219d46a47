-- Constant expressions, by which globals and tables start (WebAssembly Core Specification 3.0, Validation, Instructions,
-- Constant Expressions; Binary Format, Instructions, Expressions, Reference Instructions and Aggregate Instructions).
use Rattle.std.specs.Prelude.{◌≡◌, ℕ, zero, suc, ◌==◌, nat_le, ◌&&◌, ◌||◌, if◌then◌else◌, Bool, false, List}
use Rattle.wasm_code.specs.declared.fault.Cause.{Cause}
use Rattle.wasm_code.specs.declared.fault.Cause.TheVariants.{UnknownOpcode}
use Rattle.wasm_code.specs.Grammar.{NoBytes, NeverFails, Never, Of, Choose, FailsChosen, Then, FailsThen, Times, FailsTimes}
use Rattle.wasm_code.specs.Number.{SpellsUnsigned, FailsUnsigned}
use Rattle.wasm_code.specs.Body.{is_end}
use Rattle.wasm_code.specs.Operator as operator
use Rattle.wasm_lists.specs.First.{ByFirst, FailsByFirst}
use Rattle.wasm_lists.specs.ValueTypes.{SpellsHeapTypeOrIndex, FailsHeapTypeOrIndex}

-- ---- operators that make references

-- how many indices follow the number behind FB: one behind struct.new, struct.new_default, array.new and array.new_default (0, 1,
-- 6 and 7), two behind array.new_fixed (8), none behind the others
abbrev pub indices_behind : ℕ → ℕ
indices_behind n = if n == 8 then 2 else if nat_le n 7 then 1 else 0

-- whether the number behind FB is that of one of these, or of any.convert_extern, extern.convert_any or ref.i31 (1A to 1C)
abbrev pub is_making : ℕ → Bool
is_making n = nat_le n 1 || (nat_le 6 n && nat_le n 8) || (nat_le 0x1a n && nat_le n 0x1c)

-- the number behind FB, and its indices
abbrev pub SpellsMaking : List ℕ → Unit {0} → Type 0
SpellsMaking = Then (SpellsUnsigned 32) (λ n. Choose (is_making n) (Times (indices_behind n) (SpellsUnsigned 32)) Never)

-- that always fails: what stands before the bytes is no opcode that is known here
abbrev pub NamesNoOperator : List ℕ → Cause → Type 0
NamesNoOperator bytes cause = cause ≡ UnknownOpcode

-- No such operator stands behind the byte FB.
abbrev pub FailsMaking : List ℕ → Cause → Type 0
FailsMaking = FailsThen (FailsUnsigned 32) (SpellsUnsigned 32) (λ n.
    FailsChosen (is_making n) (FailsTimes (indices_behind n) (FailsUnsigned 32) (SpellsUnsigned 32)) NamesNoOperator)

-- ---- constant expressions

-- An operator, and whether it is `end`: the byte D0 and a heap type (ref.null), FB and what makes a reference, or an operator of
-- function bodies.
abbrev pub SpellsConstant : List ℕ → Bool → Type 0
SpellsConstant = ByFirst (λ b. b == 0xd0) (λ _. Of (λ _. false) SpellsHeapTypeOrIndex)
    (ByFirst (λ b. b == 0xfb) (λ _. Of (λ _. false) SpellsMaking) (Of is_end operator.Spells))

-- No operator of a constant expression begins the bytes.
abbrev pub FailsConstant : List ℕ → Cause → Type 0
FailsConstant = FailsByFirst (λ b. b == 0xd0) (λ _. FailsHeapTypeOrIndex) (FailsByFirst (λ b. b == 0xfb) (λ _. FailsMaking) operator.Fails)

-- at most so many operators, of which the last is the first `end`
abbrev pub EndsWithin : ℕ → List ℕ → Unit {0} → Type 0
EndsWithin zero = Never
EndsWithin (suc n) = Then SpellsConstant (λ ended. Choose ended (NoBytes tt) (EndsWithin n))

-- one of so many operators fails, and none before it is `end`
abbrev pub FailsWithin : ℕ → List ℕ → Cause → Type 0
FailsWithin zero = NeverFails
FailsWithin (suc n) = FailsThen FailsConstant SpellsConstant (λ ended. FailsChosen ended NeverFails (FailsWithin n))

-- Operators up to and with the first `end`. (A constant expression holds no block.)
pub record SpellsInitialiser (text : List ℕ) (x : Unit {0}) : Type 0 where
  pub most : ℕ
  pub spells : EndsWithin most text x

-- Behind some operators that are no `end` stand bytes that begin with none.
pub record FailsInitialiser (bytes : List ℕ) (cause : Cause) : Type 0 where
  pub most : ℕ
  pub fails : FailsWithin most bytes cause
