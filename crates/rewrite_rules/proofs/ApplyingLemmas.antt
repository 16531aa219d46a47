-- Whether a row's line applies is told by its constants, its types and its order.
use Rattle.std.proofs.Common.{◌≡◌, ℕ, Bool, true, false, Option, List, refl, sym, ap, ap₂, ◌∙◌}
use Rattle.std.specs.Prelude.{◌&&◌, ◌||◌, not}
use Rattle.std.proofs.lemmas.Bool.{and_parts}
use Rattle.wasm_code.specs.Instruction.{Instruction}
use Rattle.wasm_types.specs.declared.types.PrimitiveTypeInfo.{PrimitiveTypeInfo}
use Rattle.wasm_execution.specs.declared.integer.IntegerType.{IntegerType}
use Rattle.rewrite_rules.specs.declared.order.Effects.{Effects}
use Rattle.rewrite_rules.specs.declared.table.Row.{Row}
use Rattle.rewrite_rules.specs.Pattern.{holes}
use Rattle.rewrite_rules.specs.Numbers.{constant_at}
use Rattle.rewrite_rules.specs.Order.{is_in, effect_at, doing_of, may_move}
use Rattle.rewrite_rules.specs.Line.{all_hold}
use Rattle.rewrite_rules.specs.Instance.{doing}
use Rattle.rewrite_rules.specs.Table.{kinds_for, conditions_for, line_of, needs_exact}
use Rattle.rewrite_rules.specs.Operands.{types_fit, HaveTypes, TypesAreTold}
use Rattle.rewrite_rules.specs.Holes.{holes_for, HolesAreTold}
use Rattle.rewrite_rules.specs.Applying.{IsFormed, effects_of, IsTold}
use Rattle.rewrite_rules.proofs.ExactStepLemmas.{exact_is_told}

all : {a b c d : Bool} → a ≡ true → b ≡ true → c ≡ true → d ≡ true → (a && (b && (c && d))) ≡ true
all e f g h = cc

-- what runs the module is exact where that is needed
if_needed : (exact needs : Bool) → (exact || not needs) ≡ true → needs ≡ true → exact ≡ true
if_needed true needs e n = refl
if_needed false true e n = e
if_needed false false e n = n

or_not : (exact needs : Bool) → (needs ≡ true → exact ≡ true) → (exact || not needs) ≡ true
or_not true needs h = refl
or_not false true h = h refl
or_not false false h = refl

-- what each operand may do is told by the list
same_doing : (x : ℕ → List Instruction) (effects : List Effects) → ((n : ℕ) → effect_at effects n ≡ effects_of (x n)) → doing_of effects ≡ doing x
same_doing x effects h = λ i. record {
  write = λ n. (h n i).writes;
  trap = λ n. (h n i).traps;
  ask = λ n. (h n i).asks;
}

module _ (types_are : TypesAreTold) (holes_are : HolesAreTold) (row : Row) (t : IntegerType) (types : List (Option PrimitiveTypeInfo)) (effects : List Effects)
    (exact : Bool) (numbers : List ℕ) (formed : IsFormed row t) (ls rs : List ℕ) (left : ls ≡ holes_for row.left) (right : rs ≡ holes_for row.right) where
  moves_are : (x : ℕ → List Instruction) → ((n : ℕ) → effect_at effects n ≡ effects_of (x n)) →
      may_move (doing_of effects) ls rs ≡ may_move (doing x) (holes (line_of row t).left) (holes (line_of row t).right)
  moves_are x h =
      let sides = holes_are row t formed in
      ap (λ d. may_move d ls rs) (same_doing x effects h) ∙ ap₂ (λ a b. may_move (doing x) a b) (left ∙ sym sides.0) (right ∙ sym sides.1)

  pub told : (answer : Bool) →
      answer ≡ ((exact || not (needs_exact row)) && (all_hold (constant_at numbers) (conditions_for t row.condition)
      && (types_fit (kinds_for row.widths t) types && may_move (doing_of effects) ls rs))) →
      IsTold row t types effects exact numbers answer
  told answer is = record {
    same = λ yes_it context x found.
        let (ready, others) = and_parts _ _ (sym is ∙ yes_it) in
        let (asked, rest) = and_parts _ _ others in
        let (fit, moves) = and_parts _ _ rest in
        let have = types_are.same context x (is_in (holes (line_of row t).left)) (kinds_for row.widths t) types found.types_are fit in
        record {
          type = have.type;
          numeric = have.numeric;
          leave = have.leave;
          as_asked = asked;
          moves = sym (moves_are x found.effects_are) ∙ moves;
          exact = λ e. sym found.exact_is ∙ if_needed exact (needs_exact row) ready (sym (exact_is_told row t formed) ∙ e);
        };
    only = λ context x found applies.
        let have : HaveTypes context x (is_in (holes (line_of row t).left)) (kinds_for row.widths t) =
        record { type = applies.type; numeric = applies.numeric; leave = applies.leave } in
        is ∙ all (or_not exact (needs_exact row) (λ n. found.exact_is ∙ applies.exact (exact_is_told row t formed ∙ n))) applies.as_asked
        (types_are.only context x (is_in (holes (line_of row t).left)) (kinds_for row.widths t) types found.types_are have)
        (moves_are x found.effects_are ∙ applies.moves);
  }
