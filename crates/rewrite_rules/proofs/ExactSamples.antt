-- Lines with exact rows that are well formed and right, and some that are no operators.
use Rattle.std.proofs.Common.{◌≡◌, true, Some, None, [], ◌∷◌, refl}
use Rattle.wasm_code.specs.Table.{table, row_at}
use Rattle.wasm_types.specs.declared.types.PrimitiveTypeInfo.TheVariants as primitive
use Rattle.wasm_execution.specs.ExactRow.{exact_row}
use Rattle.wasm_execution.specs.IntegerRow.{integer_row}
use Rattle.rewrite_rules.specs.declared.pattern.Operator.TheVariants.{Exact}
use Rattle.rewrite_rules.specs.Exact.{exact_operator, exact_at}
use Rattle.rewrite_rules.specs.Pattern.{fixed, hole, apply, none, ◌▹◌, is_operator_known}
use Rattle.rewrite_rules.specs.Line.{Line, is_formed, is_exact_line}

-- f32.neg of f32.neg of an operand is the operand
abbrev neg_twice : Line
neg_twice = record {
  left = apply (Exact 111 None) (apply (Exact 111 None) (hole 0 ▹ none) ▹ none);
  right = hole 0;
  kinds = fixed primitive.F32 ∷ [];
  conditions = [];
}

is_well_formed : is_formed neg_twice ≡ true
unfolding exact_operator exact_row integer_row row_at table
is_well_formed = refl

is_of_exact_rows : is_exact_line neg_twice ≡ true
is_of_exact_rows = refl

-- f32.sqrt is no exact row, nor is i32.add, or a lane without its number
sqrt_is_none : exact_at 116 None ≡ None
unfolding exact_operator exact_row integer_row row_at table
sqrt_is_none = refl

add_is_none : exact_at 77 None ≡ None
unfolding exact_operator exact_row integer_row row_at table
add_is_none = refl

lane_is_none : exact_at 210 None ≡ None
unfolding exact_operator exact_row integer_row row_at table
lane_is_none = refl

lane_is_one : is_operator_known (Exact 210 (Some 3)) ≡ true
unfolding exact_operator exact_row integer_row row_at table
lane_is_one = refl
