-- Numbers among operators that ask what they don't carry tell those operators.
use Rattle.std.proofs.Common.{◌≡◌, ℕ, zero, suc, Bool, true, false, List, [], ◌∷◌, Option, Some, None, refl, sym, ap, ap₂, ◌∙◌, arith, inl, inr}
use Rattle.std.specs.Prelude.{slice_get, option_map}
use Rattle.std.proofs.lemmas.Bool.{cases_lt}
use Rattle.wasm_code.specs.declared.operator.Operator.{Operator}
use Rattle.wasm_code.specs.declared.operator.Operator.TheVariants as op
use Rattle.wasm_types.specs.Module.{Module}
use Rattle.wasm_types.specs.declared.types.PrimitiveTypeInfo.{PrimitiveTypeInfo}
use Rattle.wasm_execution.specs.Values.{Value, State}
use Rattle.wasm_equivalence.specs.control.Function.{Label, Reached, At, Done}
use Rattle.wasm_equivalence.specs.control.Blocks.{closing, other_part}
use Rattle.wasm_equivalence.specs.control.Standard.{Caught, branches, begins, delegated, Beyond, asks_beyond, counted_where, asked_before, by_asked, standard}
use Rattle.wasm_equivalence.specs.validation.Algorithm.{Frame}
use Rattle.wasm_equivalence.specs.validation.StandardSteps.{by_step}
use Rattle.wrapped_code.specs.Tables.{suc_unless, asking_place_of, TablesLoseNothing}
use Rattle.wrapped_code.proofs.MovedLemmas.{moved, moved_piece, moved_labels, moved_reached, moved_behind, piece_before, piece_behind}
use Rattle.wrapped_code.proofs.ControlLemmas.{moved_caught, IsAsking, TellsAlike, control_moved}
use Rattle.wrapped_code.proofs.StepLemmas.{step_numbers}

found : (os : List Operator) (k : ℕ) (o : Operator) → slice_get os k ≡ Some o → asks_beyond o ≡ true → asking_place_of os (asked_before os k) ≡ k
found [] k o at t = absurd cc
found (x ∷ os) zero o at t = ap (λ (b : Bool). suc_unless b 0 (λ i. suc (asking_place_of os i))) (ap asks_beyond (let e : x ≡ o = cc in e) ∙ t)
found (x ∷ os) (suc k) o at t = go (asks_beyond x) ∙ ap suc (found os k o at t)
  where
    go : (b : Bool) → suc_unless b (counted_where b (asked_before os k)) (λ i. suc (asking_place_of os i)) ≡ suc (asking_place_of os (asked_before os k))
    go true = refl
    go false = refl

-- ---- where none are put in, numbers stay

stays : (i : ℕ) → moved 0 0 i ≡ i
stays i = moved_behind 0 0 i (omega arith) ∙ omega arith

piece_stays : (k : ℕ) → moved_piece 0 0 k ≡ k
piece_stays k = elim (cases_lt 0 k) [
  | inl l ↦ piece_behind 0 0 k l ∙ omega arith
  | inr l ↦ piece_before 0 0 k l
]

labels_stay : (labels : List Label) → moved_labels 0 0 labels ≡ labels
labels_stay [] = refl
labels_stay (l ∷ ls) =
    ap₂ (λ (i : ℕ) (rest : List Label). record { opener = i; height = l.height } ∷ rest) (stays l.opener) (labels_stay ls)

reached_stays : (p : Reached) → moved_reached 0 0 p ≡ p
reached_stays (At k labels stack s) = ap₂ (λ (i : ℕ) (ls : List Label). At i ls stack s) (piece_stays k) (labels_stay labels)
reached_stays (Done o) = refl

caught_stays : (c : Option Caught) → c ≡ option_map (moved_caught 0 0) c
caught_stays (Some (branches l vs r)) = refl
caught_stays (Some (begins j vs r)) = ap (λ i. Some (begins i vs r)) (sym (stays j))
caught_stays (Some (delegated l)) = refl
caught_stays None = refl

-- ---- the law

module _ (structure : List Operator) (beyond : Beyond) where
  abbrev given : Beyond
  given = record {
    labels = λ j. beyond.labels (asking_place_of structure j);
    default = λ j. beyond.default (asking_place_of structure j);
    target = λ j. beyond.target (asking_place_of structure j);
    takes = λ j. beyond.takes (asking_place_of structure j);
    deed = λ j. beyond.deed (asking_place_of structure j);
    leaves = λ j. beyond.leaves (asking_place_of structure j);
    label = λ j. beyond.label (asking_place_of structure j);
    catcher = λ j. beyond.catcher (asking_place_of structure j);
    clauses = λ j. beyond.clauses (asking_place_of structure j);
  }

  told_at : {A : Type 0} (f : ℕ → A) (k : ℕ) → IsAsking structure k → f (asking_place_of structure (asked_before structure (moved 0 0 k))) ≡ f k
  told_at f k (o, at, asks) = ap f (ap (λ i. asking_place_of structure (asked_before structure i)) (stays k) ∙ found structure k o at asks)

  told : TellsAlike 0 0 structure beyond (by_asked structure given)
  told = record {
    labels_are = told_at beyond.labels;
    default_is = told_at beyond.default;
    target_is = λ k a place rest. told_at (λ i. beyond.target i place rest) k a;
    takes_are = told_at beyond.takes;
    deed_is = λ k a operands rest. told_at (λ i. beyond.deed i operands rest) k a;
    leaves_are = told_at beyond.leaves;
    catchers_are = λ k mark rest o at handles.
        told_at (λ i. beyond.catcher i mark rest) k (op.Other o, at, refl) ∙ caught_stays (beyond.catcher k mark rest);
  }

  control_same : (m : Module) (results : List PrimitiveTypeInfo) (k : ℕ) (labels : List Label) (stack : List Value) (s : State) →
      standard m results structure (by_asked structure given) k labels stack s ≡ standard m results structure beyond k labels stack s
  control_same m results k labels stack s =
      ap₂ (λ (i : ℕ) (ls : List Label). standard m results structure (by_asked structure given) i ls stack s) (sym (stays k)) (sym (labels_stay labels)) ∙
      (control_moved [] [] structure 0 0 refl refl (λ d k j e. ap (λ i. closing d i structure) (let x : k ≡ j = omega arith in x))
      (λ d k j e. ap (λ i. other_part d i structure) (let x : k ≡ j = omega arith in x)) m results beyond (by_asked structure given) told k labels stack s ∙
      reached_stays (standard m results structure beyond k labels stack s))

  by_place : (m : Module) (results : List PrimitiveTypeInfo) (k : ℕ) (o : Operator) → slice_get structure k ≡ Some o → asks_beyond o ≡ true →
      (fs : List Frame) → by_step m results (by_asked structure given) (Some o) k fs ≡ by_step m results beyond (Some o) k fs
  by_place m results k o at asks fs =
      let e = found structure k o at asks in
      step_numbers m results (by_asked structure given) beyond k k (ap beyond.labels e) (ap beyond.default e) (ap beyond.takes e) (ap beyond.leaves e)
      (ap beyond.label e) (ap beyond.clauses e) (Some o) fs

  steps_same : (m : Module) (results : List PrimitiveTypeInfo) (k : ℕ) (o : Option Operator) → slice_get structure k ≡ o → (fs : List Frame) →
      by_step m results (by_asked structure given) o k fs ≡ by_step m results beyond o k fs
  steps_same m results k (Some (op.Block t)) at fs = refl
  steps_same m results k (Some (op.Loop t)) at fs = refl
  steps_same m results k (Some (op.If t)) at fs = refl
  steps_same m results k (Some op.Else) at fs = refl
  steps_same m results k (Some op.End) at fs = refl
  steps_same m results k (Some (op.Br l)) at fs = refl
  steps_same m results k (Some (op.BrIf l)) at fs = refl
  steps_same m results k (Some (op.BrTable n)) at fs = by_place m results k (op.BrTable n) at refl fs
  steps_same m results k (Some (op.CallIndirect type table)) at fs = refl
  steps_same m results k (Some op.Return) at fs = refl
  steps_same m results k (Some op.Unreachable) at fs = refl
  steps_same m results k (Some (op.Other o)) at fs = by_place m results k (op.Other o) at refl fs
  steps_same m results k None at fs = refl
  steps_same m results k (Some o) at fs = refl

pub lose_nothing : TablesLoseNothing
lose_nothing structure beyond = (
  given structure beyond,
  control_same structure beyond,
  λ m results k frames. steps_same structure beyond m results k (slice_get structure k) refl frames,
)
