-- A branch under a condition in a body that is valid, replaced by a conditional with a branch in it, or the other way round: the body stays valid.
use Rattle.std.proofs.Common.{◌≡◌, ℕ, suc, ◌-◌, ◌+◌, ◌<◌, ◌≤◌, List, [], ◌∷◌, ◌++◌, drop, Option, Some, None, refl, sym, ap, ◌∙◌, arith, append-nil}
use Rattle.std.specs.Prelude.{slice_get, option_and_then}
use Rattle.std.proofs.lemmas.Option.{same_Some}
use Rattle.wasm_code.specs.declared.immediate.BlockType.TheVariants.{Empty}
use Rattle.wasm_code.specs.declared.operator.Operator.{Operator}
use Rattle.wasm_code.specs.declared.operator.Operator.TheVariants as op
use Rattle.wasm_types.specs.declared.types.PrimitiveTypeInfo.{PrimitiveTypeInfo}
use Rattle.wasm_execution.specs.Values.{Context}
use Rattle.wasm_execution.specs.IntegerRow.{integer_row}
use Rattle.wasm_execution.specs.RowLemmas.{and_then_some}
use Rattle.wasm_equivalence.specs.control.Function.{structural}
use Rattle.wasm_equivalence.specs.control.Standard.{Beyond, by_asked}
use Rattle.wasm_equivalence.specs.control.Wider.{wider}
use Rattle.wasm_equivalence.specs.validation.Algorithm.{Frame, check_row, Structural, on_innermost, check}
use Rattle.wasm_equivalence.specs.validation.StandardSteps.{body_frame, by_step, standard_steps}
use Rattle.wasm_equivalence.specs.validation.Sound.{IsValid}
use Rattle.wasm_equivalence.specs.validation.StaysValid.{MoreGlobalsCheckAlike}
use Rattle.wrapped_code.proofs.PlaceLemmas.{count, front_behind}
use Rattle.wrapped_code.proofs.MovedLemmas.{moved, moved_before, moved_behind}
use Rattle.wrapped_code.proofs.StepLemmas.{step_wider}
use Rattle.wrapped_code.proofs.BetweenLemmas.{steps_between}
use Rattle.wrapped_code.proofs.CheckLemmas.{one_step, front_checks, back_checks}
use Rattle.wrapped_code.proofs.UncheckLemmas.{back_down}
use Rattle.wrapped_code.proofs.OpenedLemmas.{IsBare}
use Rattle.wrapped_code.proofs.NestedRunLemmas.{plain_part, nested_part, plain, nested, plain_is, nested_is, at_plain}
use Rattle.wrapped_code.proofs.NestedFrameLemmas.{Pops, plain_goes, plain_needs, nested_goes, nested_needs}

-- ---- one part after another

module _ (context : Context) (steps : Structural) where
  then_check : (f g h : List Frame → Option (List Frame)) → ((fs : List Frame) → f fs ≡ option_and_then h (g fs)) → (o : Option (List Frame)) →
      option_and_then f o ≡ option_and_then h (option_and_then g o)
  then_check f g h e (Some fs) = e fs
  then_check f g h e None = refl

  check_append : (os rest : List Operator) (k j : ℕ) (fs : List Frame) → j ≡ k + count os →
      check context steps k (os ++ rest) fs ≡ option_and_then (check context steps j rest) (check context steps k os fs)
  check_append [] rest k j fs e = ap (λ i. check context steps i rest fs) (let x : k ≡ j = omega arith in x)
  check_append (op.Instr i ∷ os) rest k j fs e =
      then_check (check context steps k (os ++ rest)) (check context steps k os) (check context steps j rest)
      (λ gs. check_append os rest k j gs e) (on_innermost (check_row context (integer_row i)) fs)
  check_append (o ∷ os) rest k j fs e =
      then_check (check context steps (suc k) (os ++ rest)) (check context steps (suc k) os) (check context steps j rest)
      (λ gs. check_append os rest (suc k) j gs (omega arith)) (steps k fs)

  -- the frames between two parts
  record Split (os rest : List Operator) (k j : ℕ) (fs left : List Frame) : Type 0 where
    mid : List Frame
    first : check context steps k os fs ≡ Some mid
    then : check context steps j rest mid ≡ Some left

  split : (os rest : List Operator) (k j : ℕ) (fs left : List Frame) → j ≡ k + count os → check context steps k (os ++ rest) fs ≡ Some left →
      Split os rest k j fs left
  split os rest k j fs left e h =
      let (mid, x, y) = and_then_some (check context steps j rest) (check context steps k os fs) left (sym (check_append os rest k j fs e) ∙ h) in
      record { mid = mid; first = x; then = y }

-- ---- a body

module _ (law : MoreGlobalsCheckAlike) (input : List ℕ) (context : Context) (results : List PrimitiveTypeInfo) (beyond : Beyond)
    (front back : List Operator) (label : ℕ) where
  abbrev after : Context
  after = wider input [] context

  abbrev n : ℕ
  n = count front

  abbrev xs : List Operator
  xs = structural front

  abbrev ys : List Operator
  ys = structural back

  abbrev plain_structure : List Operator
  plain_structure = structural (plain front back label)

  abbrev nested_structure : List Operator
  nested_structure = structural (nested front back label)

  abbrev steps_in : Context → List Operator → Structural
  steps_in c os = standard_steps c.info results os (by_asked os beyond)

  -- ---- steps by their numbers

  wider_steps : (os : List Operator) (k : ℕ) (fs : List Frame) → steps_in context os k fs ≡ steps_in after os k fs
  wider_steps os k fs = step_wider input [] context.info results (by_asked os beyond) (slice_get os k) k fs

  same_steps : (k : ℕ) (fs : List Frame) → steps_in context plain_structure (moved n 1 k) fs ≡ steps_in context nested_structure (moved n 3 k) fs
  same_steps k fs =
      ap (λ os. steps_in context os (moved n 1 k) fs) (plain_is front back label) ∙
      (steps_between xs (plain_part label) ys n 1 refl refl refl context.info results beyond k fs ∙
      (sym (steps_between xs (nested_part label) ys n 3 refl refl refl context.info results beyond k fs) ∙
      ap (λ os. steps_in context os (moved n 3 k) fs) (sym (nested_is front back label))))

  to_nested : (k : ℕ) (fs : List Frame) → steps_in context plain_structure (moved n 1 k) fs ≡ steps_in after nested_structure (moved n 3 k) fs
  to_nested k fs = same_steps k fs ∙ wider_steps nested_structure (moved n 3 k) fs

  to_plain : (k : ℕ) (fs : List Frame) → steps_in context nested_structure (moved n 3 k) fs ≡ steps_in after plain_structure (moved n 1 k) fs
  to_plain k fs = sym (same_steps k fs) ∙ wider_steps plain_structure (moved n 1 k) fs

  in_front : (a b : Structural) (i j : ℕ) → ((k : ℕ) (fs : List Frame) → a (moved n i k) fs ≡ b (moved n j k) fs) →
      (k : ℕ) (fs : List Frame) → k < n → a k fs ≡ b k fs
  in_front a b i j h k fs l = ap (λ x. a x fs) (sym (moved_before n i k l)) ∙ (h k fs ∙ ap (λ x. b x fs) (moved_before n j k l))

  behind : (a b : Structural) (i j x y : ℕ) → ((k : ℕ) (fs : List Frame) → a (moved n i k) fs ≡ b (moved n j k) fs) →
      (k : ℕ) (fs : List Frame) → n ≤ k → x ≡ k + i → y ≡ k + j → a x fs ≡ b y fs
  behind a b i j x y h k fs l e d =
      ap (λ x. a x fs) (e ∙ sym (moved_behind n i k l)) ∙ (h k fs ∙ ap (λ x. b x fs) (moved_behind n j k l ∙ sym d))

  -- ---- the place

  stands : drop n nested_structure ≡ op.If Empty ∷ op.Br (suc label) ∷ op.End ∷ ys
  stands = (front_behind front (op.If Empty ∷ op.Br (suc label) ∷ op.End ∷ back)).bones_are

  plain_here : (fs : List Frame) (w : Pops label fs) →
      check after (steps_in after plain_structure) n (op.BrIf label ∷ back) fs ≡
      check after (steps_in after plain_structure) (suc n) back (w.other ∷ w.outer)
  plain_here fs w =
      one_step after results plain_structure (by_asked plain_structure beyond) n (op.BrIf label) back fs (w.other ∷ w.outer) (at_plain front back label).at
      (plain_goes after results plain_structure (by_asked plain_structure beyond) label n fs w)

  pub plain_valid : IsValid context results (by_asked nested_structure beyond) (nested front back label) →
      IsValid after results (by_asked plain_structure beyond) (plain front back label)
  plain_valid h =
      let a = steps_in context nested_structure in
      let b = steps_in after plain_structure in
      front_checks law input [] context a b n (op.If Empty ∷ op.Br (suc label) ∷ op.End ∷ back) (op.BrIf label ∷ back) front 0
      (body_frame results ∷ []) [] (omega arith) (in_front a b 3 1 to_plain) here h
    where
      here : (fs : List Frame) →
          check context (steps_in context nested_structure) n (op.If Empty ∷ op.Br (suc label) ∷ op.End ∷ back) fs ≡ Some [] →
          check after (steps_in after plain_structure) n (op.BrIf label ∷ back) fs ≡ Some []
      here fs e =
          let given = by_asked nested_structure beyond in
          let a = steps_in context nested_structure in
          let b = steps_in after plain_structure in
          let w = nested_needs context results nested_structure given label n fs [] back ys stands e in
          plain_here fs w ∙
          back_down law input context a b 2 back (suc n) (suc (suc (suc n))) (w.other ∷ w.outer) [] (omega arith)
          (λ i fs l. behind a b 3 1 (i + 2) i to_plain (i - 1) fs (omega arith) (omega arith) (omega arith))
          (sym (nested_goes context results nested_structure given label n fs back ys w stands) ∙ e)

  pub nested_valid : ((mid : List Frame) → check context (steps_in context plain_structure) 0 front (body_frame results ∷ []) ≡ Some mid → IsBare label mid) →
      IsValid context results (by_asked plain_structure beyond) (plain front back label) →
      IsValid after results (by_asked nested_structure beyond) (nested front back label)
  nested_valid bare h =
      let given = by_asked plain_structure beyond in
      let start = body_frame results ∷ [] in
      let a = steps_in context plain_structure in
      let b = steps_in after nested_structure in
      let part = op.If Empty ∷ op.Br (suc label) ∷ op.End ∷ back in
      let cuts = split context a front (op.BrIf label ∷ back) 0 n start [] (omega arith) h in
      let (next, x, y) = and_then_some (check context a (suc n) back) (a n cuts.mid) [] cuts.then in
      let step : by_step context.info results given (Some (op.BrIf label)) n cuts.mid ≡ Some next =
      ap (λ o. by_step context.info results given o n cuts.mid) (sym (at_plain front back label).at) ∙ x in
      let w = plain_needs context results plain_structure given label n cuts.mid next step (bare cuts.mid cuts.first) in
      let all = w.other ∷ w.outer in
      let next_is : next ≡ all = same_Some next all (sym step ∙ plain_goes context results plain_structure given label n cuts.mid w) in
      let first : check after b 0 front start ≡ Some cuts.mid =
      ap (λ os. check after b 0 os start) (sym (append-nil front)) ∙
      front_checks law input [] context a b n [] [] front 0 start cuts.mid (omega arith) (in_front a b 1 3 to_nested) (λ fs e. e)
      (ap (λ os. check context a 0 os start) (append-nil front) ∙ cuts.first) in
      check_append after b front part 0 n start (omega arith) ∙
      (ap (option_and_then (check after b n part)) first ∙
      (nested_goes after results nested_structure (by_asked nested_structure beyond) label n cuts.mid back ys w stands ∙
      back_checks law input [] context a b 2 back (suc n) (suc (suc (suc n))) all [] (omega arith)
      (λ i fs l. behind a b 1 3 i (i + 2) to_nested (i - 1) fs (omega arith) (omega arith) (omega arith))
      (ap (check context a (suc n) back) (sym next_is) ∙ y)))
