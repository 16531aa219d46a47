-- A function in which the condition of a branch or of a conditional was replaced by one that is zero where it is does as before.
use Rattle.std.proofs.Common.{◌≡◌, ℕ, zero, suc, ◌-◌, true, List, [], ◌∷◌, ◌++◌, length, take, drop, refl, sym, ap, ap₂, ◌∙◌}
use Rattle.std.proofs.lemmas.Bool.{eqb-true}
use Rattle.wasm_code.specs.declared.operator.Operator.{Operator}
use Rattle.wasm_code.specs.declared.operator.Operator.TheVariants as op
use Rattle.wasm_types.specs.Module.{Module}
use Rattle.wasm_types.specs.declared.types.PrimitiveTypeInfo.{PrimitiveTypeInfo}
use Rattle.wasm_types.specs.declared.types.PrimitiveTypeInfo.TheVariants as primitive
use Rattle.wasm_execution.specs.Values.{Value, State}
use Rattle.wasm_equivalence.specs.control.Function.{structural, piece, Label, Reached, At}
use Rattle.wasm_equivalence.specs.control.Blocks.{other_part}
use Rattle.wasm_equivalence.specs.control.Standard.{Beyond}
use Rattle.wasm_equivalence.specs.control.Standard as std
use Rattle.wasm_equivalence.specs.control.Laws.{StandardControlIsSound}
use Rattle.wasm_equivalence.specs.validation.Sound.{ValidCodeRuns, ValidBodiesStayValid, TargetsStay, DeedsStay}
use Rattle.wasm_equivalence.specs.validation.StaysValid.{MoreGlobalsCheckAlike, ReplacedCodeStaysValid}
use Rattle.wrapped_code.specs.Conditions.{ZeroAlike, is_condition, ConditionsMayChange}
use Rattle.wrapped_code.proofs.ValueLemmas.{last_is, front_is}
use Rattle.wrapped_code.proofs.AskingLemmas.{by, Asks, numbers_change}

-- ---- what asks for a condition

structure_first : (o : Operator) → is_condition o ≡ true → (os : List Operator) → structural (o ∷ os) ≡ o ∷ structural os
structure_first (op.BrIf l) e os = refl
structure_first (op.If t) e os = refl
structure_first o e os = absurd cc

piece_ends : (o : Operator) → is_condition o ≡ true → (os : List Operator) → piece (o ∷ os) 0 ≡ []
piece_ends (op.BrIf l) e os = refl
piece_ends (op.If t) e os = refl
piece_ends o e os = absurd cc

-- numbers of 32 bits choose alike where each is zero where the other is
choose_alike : (c d : Value) (x y : Reached) → c.type ≡ primitive.I32 → d.type ≡ primitive.I32 → ZeroAlike c.number d.number →
    std.choose_by_value (c ∷ []) x y ≡ std.choose_by_value (d ∷ []) x y
choose_alike c d x y ct dt e =
    ap (λ (t : PrimitiveTypeInfo). std.chosen t c.number x y) ct ∙
    (go c.number d.number e ∙ ap (λ (t : PrimitiveTypeInfo). std.chosen t d.number x y) (sym dt))
  where
    go : (n k : ℕ) → ZeroAlike n k → std.chosen primitive.I32 n x y ≡ std.chosen primitive.I32 k x y
    go zero zero e = refl
    go zero (suc k) e = let z : suc k ≡ 0 = eqb-true (suc k) 0 (sym e) in absurd cc
    go (suc n) zero e = let z : suc n ≡ 0 = eqb-true (suc n) 0 e in absurd cc
    go (suc n) (suc k) e = refl

-- the operator does the same with either of them on top
module _ (m : Module) (results : List PrimitiveTypeInfo) (structure : List Operator) (beyond : Beyond) where
  turned_by : (taken other : List Value → Reached) (below : List Value) (c d : Value) → c.type ≡ primitive.I32 → d.type ≡ primitive.I32 →
      ZeroAlike c.number d.number →
      std.choose_by_value (std.last_of 1 (below ++ c ∷ [])) (taken (take (length (below ++ c ∷ []) - 1) (below ++ c ∷ [])))
      (other (take (length (below ++ c ∷ []) - 1) (below ++ c ∷ []))) ≡
      std.choose_by_value (std.last_of 1 (below ++ d ∷ [])) (taken (take (length (below ++ d ∷ []) - 1) (below ++ d ∷ [])))
      (other (take (length (below ++ d ∷ []) - 1) (below ++ d ∷ [])))
  turned_by taken other below c d ct dt e =
      let on : List Value → List Value → Reached = λ vs xs. std.choose_by_value vs (taken xs) (other xs) in
      ap₂ on (last_is below c) (front_is below c) ∙
      (choose_alike c d (taken below) (other below) ct dt e ∙ sym (ap₂ on (last_is below d) (front_is below d)))

  turns : (o : Operator) → is_condition o ≡ true → (k : ℕ) (labels : List Label) (below : List Value) (c d : Value) (s : State) →
      c.type ≡ primitive.I32 → d.type ≡ primitive.I32 → ZeroAlike c.number d.number →
      by m results structure beyond o k labels (below ++ c ∷ []) s ≡ by m results structure beyond o k labels (below ++ d ∷ []) s
  turns (op.BrIf l) is k labels below c d s ct dt e =
      turned_by (λ xs. std.branch m results structure beyond l labels xs s) (λ xs. At (suc k) labels xs s) below c d ct dt e
  turns (op.If t) is k labels below c d s ct dt e =
      turned_by (λ xs. std.enter m results structure k t labels xs s)
      (λ xs. std.otherwise m results structure (other_part zero (suc k) (drop (suc k) structure)) k t labels xs s) below c d ct dt e
  turns o is k labels below c d s ct dt e = absurd cc

condition_asks : (o : Operator) → is_condition o ≡ true → Asks ZeroAlike o
condition_asks o is = record {
  structure_first = structure_first o is;
  piece_ends = piece_ends o is;
  turns = λ m results structure beyond. turns m results structure beyond o is;
}

-- ---- a function

pub conditions_change : StandardControlIsSound → ValidCodeRuns → MoreGlobalsCheckAlike → ReplacedCodeStaysValid → ValidBodiesStayValid → TargetsStay →
    DeedsStay → ConditionsMayChange
conditions_change sound_law valid more_law replaced stay targets_stay deeds_stay m input old new w =
    numbers_change sound_law valid more_law replaced stay targets_stay deeds_stay ZeroAlike m input old new (record {
      params_are = w.params_are;
      locals_are = w.locals_are;
      front = w.front;
      back = w.back;
      own = w.own;
      code = w.code;
      branch = w.branch;
      asks = condition_asks w.branch w.asks;
      old_is = w.old_is;
      new_is = w.new_is;
      pushes = w.pushes;
      pushes_so = w.pushes_so;
      same = w.truth;
    })
