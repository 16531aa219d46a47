-- The places of numeric nodes and their numbers of children are those that are told.
use Rattle.std.proofs.Common.{◌≡◌, ℕ, true, true≢false, refl, sym, ap₂, ◌∙◌}
use Rattle.std.specs.Prelude.{Option, Some, None, is_some, IfNone}
use Rattle.peephole_nodes.specs.declared.numeric.Numeric.{Numeric}
use Rattle.peephole_nodes.specs.declared.numeric.Numeric.TheVariants as numeric
use Rattle.peephole_nodes.specs.Made.{LacksNumeric}
use Rattle.peephole_nodes.specs.Numeric.{numeric_place_of, numeric_count_of}
use Rattle.peephole_nodes.specs.NumericShapes.{is_numeric_node, is_numeric_plain_one_to_171, is_numeric_plain_one_from_172}
use Rattle.peephole_nodes.specs.NumericShapes.{is_numeric_plain_two_to_100, is_numeric_plain_two_from_101}

numeric_there : (n : Numeric) → is_numeric_node (numeric_place_of n) (numeric_count_of n) ≡ true
unfolding numeric_place_of numeric_count_of is_numeric_plain_one_to_171 is_numeric_plain_one_from_172 is_numeric_plain_two_to_100 is_numeric_plain_two_from_101
numeric_there (numeric.I32Eqz _) = refl
numeric_there _ = refl

-- where none is told, there is none
pub numeric_none : (made : Option Numeric) (place count : ℕ) → is_some made ≡ is_numeric_node place count → IfNone made (LacksNumeric place count)
numeric_none (Some n) place count e = tt
numeric_none None place count e = λ n p c. true≢false (sym (numeric_there n) ∙ (ap₂ is_numeric_node p c ∙ sym e))
