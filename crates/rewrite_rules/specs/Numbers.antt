-- What a pattern's value is, by the numbers of its holes and of its constants (this project, over the operators on whole numbers of `wasm_execution`).
use Rattle.std.specs.Prelude.{ℕ, ◌+◌, ◌-◌, ◌%◌, ◌^◌, ◌==◌, List, [], ◌∷◌, drop, get_or, Option, Some, None, Result, Ok, Err, if◌then◌else◌}
use Rattle.std.specs.Int.{trailing_zeros}
use mir.Val.{bits}
use Rattle.wasm_execution.specs.declared.integer.IntegerType.{IntegerType}
use Rattle.wasm_execution.specs.Values.{width_of, Cause, stuck}
use Rattle.wasm_execution.specs.Machine.{division_trap_cause}
use Rattle.wasm_execution.specs.Computed.{computed}
use Rattle.wasm_execution.specs.Operation.{operator_of}
use Rattle.rewrite_rules.specs.declared.pattern.Operator.{Operator}
use Rattle.rewrite_rules.specs.declared.pattern.Operator.TheVariants.{Whole, Select, Exact}
use Rattle.rewrite_rules.specs.Exact.{ExactOperator, exact_at}
use Rattle.rewrite_rules.specs.declared.pattern.Number.{Number}
use Rattle.rewrite_rules.specs.declared.pattern.Number.TheVariants.{Literal, Ones, Bits, Sign, Slot, Turned, Next, Previous, Negated, Power, Place, Sum}
use Rattle.rewrite_rules.specs.Pattern.{Pattern, Patterns, hole, constant, drawn, apply, none, ◌▹◌, draws_by}

-- ---- operators

-- the number, or why there is none
abbrev pub or_cause : Option ℕ → Cause → Result ℕ Cause
or_cause (Some n) cause = Ok n
or_cause None cause = Err cause

-- that of an exact row that is known
abbrev pub exact_value : Option ExactOperator → List ℕ → Result ℕ Cause
exact_value None ns = Err stuck
exact_value (Some o) ns = Ok (o.value ns)

-- an operator's value on the numbers of its operands, or why it traps
abbrev pub value_on : Operator → List ℕ → Result ℕ Cause
value_on (Whole f) ns = or_cause (computed (operator_of f) ns) (division_trap_cause ns)
value_on Select (n ∷ m ∷ c ∷ []) = Ok (if c == 0 then m else n)
value_on Select ns = Err stuck
value_on (Exact row lane) ns = exact_value (exact_at row lane) ns

-- ---- numbers

-- the place of a number's lowest bit that is set
abbrev pub lowest_bit : IntegerType → ℕ → ℕ
lowest_bit t n = trailing_zeros (width_of t) n % bits (width_of t)

-- its low bits
abbrev pub low : IntegerType → ℕ → ℕ
low t n = n % 2 ^ bits (width_of t)

-- by the numbers `c` of the constants, of which the low bits count
abbrev pub number_of : IntegerType → (c : ℕ → ℕ) → Number → ℕ
number_of t c (Literal n) = n
number_of t c Ones = 2 ^ bits (width_of t) - 1
number_of t c Bits = bits (width_of t)
number_of t c Sign = 2 ^ (bits (width_of t) - 1)
number_of t c (Slot i) = c i
number_of t c (Turned i) = bits (width_of t) - low t (c i) % bits (width_of t)
number_of t c (Next i) = low t (c i) + 1
number_of t c (Previous i) = low t (c i) - 1
number_of t c (Negated i) = 2 ^ bits (width_of t) - low t (c i)
number_of t c (Power i) = 2 ^ low t (c i)
number_of t c (Place i) = lowest_bit t (low t (c i))
number_of t c (Sum i j) = c i + c j

-- the number with that index, and 0 where there is none
abbrev pub constant_at : List ℕ → ℕ → ℕ
constant_at ns i = get_or ns i 0

-- ---- patterns

-- the first word, and 0 where there is none
abbrev pub first_word : List ℕ → ℕ
first_word [] = 0
first_word (w ∷ ws) = w

-- the number, and 0 where there is none
abbrev pub or_zero : Result ℕ Cause → ℕ
or_zero (Ok n) = n
or_zero (Err cause) = 0

-- the value of a pattern whose operators do not trap; `h` has the numbers of the holes, `c` those of the constants, and `words` is what is drawn
abbrev mutual
  pub number_in : (h c : ℕ → ℕ) → (words : List ℕ) → Pattern → ℕ
  number_in h c words (hole n) = h n
  number_in h c words (constant t e) = low t (number_of t c e)
  number_in h c words (drawn t) = low t (first_word words)
  number_in h c words (apply o ps) = or_zero (value_on o (numbers_in h c words ps))

  pub numbers_in : (h c : ℕ → ℕ) → (words : List ℕ) → Patterns → List ℕ
  numbers_in h c words none = []
  numbers_in h c words (p ▹ ps) = number_in h c words p ∷ numbers_in h c (drop (draws_by p) words) ps

-- the value, or why the operator at the root traps
abbrev pub value_of : (h c : ℕ → ℕ) → (words : List ℕ) → Pattern → Result ℕ Cause
value_of h c words (apply o ps) = value_on o (numbers_in h c words ps)
value_of h c words p = Ok (number_in h c words p)
