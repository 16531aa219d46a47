-- The words that lines with exact rows are written in.
use Rattle.std.specs.Prelude.{ℕ, [], ◌∷◌, Some, None}
use Rattle.wasm_types.specs.declared.types.PrimitiveTypeInfo.{PrimitiveTypeInfo}
use Rattle.rewrite_rules.specs.declared.pattern.Operator.TheVariants.{Exact}
use Rattle.rewrite_rules.specs.Pattern.{fixed, Pattern, apply, none, ◌▹◌}
use Rattle.rewrite_rules.specs.Line.{Line}

-- an exact row on one operand, on two, and on three
abbrev pub one : ℕ → Pattern → Pattern
one row p = apply (Exact row None) (p ▹ none)

abbrev pub pair : ℕ → Pattern → Pattern → Pattern
pair row p q = apply (Exact row None) (p ▹ q ▹ none)

abbrev pub three : ℕ → Pattern → Pattern → Pattern → Pattern
three row p q r = apply (Exact row None) (p ▹ q ▹ r ▹ none)

-- one with a lane, on one operand
abbrev pub at_lane : (row lane : ℕ) → Pattern → Pattern
at_lane row lane p = apply (Exact row (Some lane)) (p ▹ none)

-- a line whose operands are of these types
abbrev pub typed_line : (a b c : PrimitiveTypeInfo) → Pattern → Pattern → Line
typed_line a b c p q = record { left = p; right = q; kinds = fixed a ∷ fixed b ∷ fixed c ∷ []; conditions = [] }
