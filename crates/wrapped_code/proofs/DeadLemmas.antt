-- A body in which code that is never reached was replaced runs as before, and stays valid.
use Rattle.std.proofs.Common.{◌≡◌, ℕ, suc, ◌+◌, ◌-◌, true, List, [], ◌∷◌, ◌++◌, take, Option, Some, None, refl, sym, ap, ◌∙◌, arith, append-nil, inl, inr}
use Rattle.std.specs.Prelude.{map, slice_get, option_map, option_and_then, if◌then◌else◌}
use Rattle.std.proofs.lemmas.Bool.{cases_lt}
use Rattle.wasm_code.specs.Instruction.{Instruction}
use Rattle.wasm_code.specs.declared.operator.Operator.{Operator}
use Rattle.wasm_code.specs.declared.operator.Operator.TheVariants as op
use Rattle.wasm_types.specs.Module.{Module}
use Rattle.wasm_types.specs.declared.types.PrimitiveTypeInfo.{PrimitiveTypeInfo}
use Rattle.wasm_types.specs.declared.types.PrimitiveTypeInfo.TheVariants as primitive
use Rattle.wasm_execution.specs.Values.{Context, State, Outcome, Ends, Traps, Stuck}
use Rattle.wasm_execution.specs.Machine.{run}
use Rattle.wasm_execution.specs.RowLemmas.{and_then_some, map_some}
use Rattle.wasm_equivalence.specs.control.Function.{structural, piece, Reached, At, Done, Control, go_on, pass, runs}
use Rattle.wasm_equivalence.specs.control.Standard.{Beyond, by_asked, standard}
use Rattle.wasm_equivalence.specs.control.Wider.{wider}
use Rattle.wasm_equivalence.specs.modules.Program.{function_context}
use Rattle.wasm_equivalence.specs.validation.Algorithm.{Frame, check_code, Structural, on_innermost, check}
use Rattle.wasm_equivalence.specs.validation.StandardSteps.{pop, cut_off, label_types, can_jump_all, body_frame, by_step, standard_steps}
use Rattle.wasm_equivalence.specs.validation.Sound.{IsValid, TargetsStay, DeedsStay}
use Rattle.wasm_equivalence.specs.validation.StaysValid.{Pushes, MoreGlobalsCheckAlike}
use Rattle.wrapped_code.specs.Dead.{never_goes_on, DeadCodeMayChange}
use Rattle.wrapped_code.specs.Handlers.{none_handle}
use Rattle.wrapped_code.proofs.PlaceLemmas.{coded_structure, count, front_behind, front_structure, front_piece, last_piece}
use Rattle.wrapped_code.proofs.MovedLemmas.{get_behind}
use Rattle.wrapped_code.proofs.HandlerLemmas.{NoHandler, no_handler}
use Rattle.wrapped_code.proofs.StepLemmas.{step_wider, coded_check}
use Rattle.wrapped_code.proofs.FrameLemmas.{none_on}
use Rattle.wrapped_code.proofs.CheckLemmas.{front_checks, back_checks}
use Rattle.wrapped_code.proofs.UncheckLemmas.{wider_code}
use Rattle.wrapped_code.proofs.AlikeLemmas.{coded_later, runs_same, same_does}
use Rattle.wrapped_code.proofs.DeadRunLemmas.{Misses, control_misses}

-- ---- the operator that is never passed

structure_first : (o : Operator) → never_goes_on o ≡ true → (os : List Operator) → structural (o ∷ os) ≡ o ∷ structural os
structure_first (op.Br l) e os = refl
structure_first (op.BrTable n) e os = refl
structure_first op.Return e os = refl
structure_first op.Unreachable e os = refl
structure_first o e os = absurd cc

piece_ends : (o : Operator) → never_goes_on o ≡ true → (os : List Operator) → piece (o ∷ os) 0 ≡ []
piece_ends (op.Br l) e os = refl
piece_ends (op.BrTable n) e os = refl
piece_ends op.Return e os = refl
piece_ends op.Unreachable e os = refl
piece_ends o e os = absurd cc

piece_later : (o : Operator) → never_goes_on o ≡ true → (os : List Operator) (k : ℕ) → piece (o ∷ os) (suc k) ≡ piece os k
piece_later (op.Br l) e os k = refl
piece_later (op.BrTable n) e os k = refl
piece_later op.Return e os k = refl
piece_later op.Unreachable e os k = refl
piece_later o e os k = absurd cc

check_first : (context : Context) (steps : Structural) (o : Operator) → never_goes_on o ≡ true → (k : ℕ) (os : List Operator) (fs : List Frame) →
    check context steps k (o ∷ os) fs ≡ option_and_then (check context steps (suc k) os) (steps k fs)
check_first context steps (op.Br l) e k os fs = refl
check_first context steps (op.BrTable n) e k os fs = refl
check_first context steps op.Return e k os fs = refl
check_first context steps op.Unreachable e k os fs = refl
check_first context steps o e k os fs = absurd cc

-- a frame is open
record Opened (fs : List Frame) : Type 0 where
  frame : Frame
  outer : List Frame
  are : fs ≡ frame ∷ outer

innermost_open : (step : Frame → Option Frame) (fs next : List Frame) → on_innermost step fs ≡ Some next → Opened next
innermost_open step [] next e = absurd cc
innermost_open step (f ∷ fs) next e =
    let (g, x, is) = map_some (λ (g : Frame). g ∷ fs) (step f) next e in record { frame = g; outer = fs; are = sym is }

-- one is behind such an operator
open_behind : (m : Module) (results : List PrimitiveTypeInfo) (beyond : Beyond) (o : Operator) → never_goes_on o ≡ true → (k : ℕ) (fs next : List Frame) →
    by_step m results beyond (Some o) k fs ≡ Some next → Opened next
open_behind m results beyond (op.Br l) is k fs next e =
    let step : Frame → Frame → Option Frame = λ f g. option_map cut_off (pop (label_types f) g) in
    let (f, x, y) = and_then_some (λ (f : Frame). on_innermost (step f) fs) (slice_get fs l) next e in innermost_open (step f) fs next y
open_behind m results beyond (op.BrTable n) is k fs next e =
    let step : Frame → Frame → Option Frame =
    λ f g. option_and_then (λ (d : Frame). if can_jump_all fs f d (take n (beyond.labels k)) then option_map cut_off (pop (label_types f) d) else None)
    (pop (primitive.I32 ∷ []) g) in
    let (f, x, y) = and_then_some (λ (f : Frame). on_innermost (step f) fs) (slice_get fs (beyond.default k)) next e in innermost_open (step f) fs next y
open_behind m results beyond op.Return is k fs next e = innermost_open (λ g. option_map cut_off (pop results g)) fs next e
open_behind m results beyond op.Unreachable is k fs next e = innermost_open (λ g. Some (cut_off g)) fs next e
open_behind m results beyond o is k fs next e = absurd cc

-- ---- a body

module _ (context : Context) (front back : List Operator) (own code : List Instruction) (leave : Operator) (leaves : never_goes_on leave ≡ true) where
  abbrev old_body : List Operator
  old_body = front ++ (leave ∷ (map (λ (i : Instruction). op.Instr i) own ++ back))

  abbrev new_body : List Operator
  new_body = front ++ (leave ∷ (map (λ (i : Instruction). op.Instr i) code ++ back))

  abbrev n : ℕ
  n = count front

  structure_of : (is : List Instruction) → structural (front ++ (leave ∷ (map (λ (i : Instruction). op.Instr i) is ++ back))) ≡
      structural front ++ (leave ∷ structural back)
  structure_of is =
      front_structure front (leave ∷ (map (λ (i : Instruction). op.Instr i) is ++ back)) ∙
      ap (λ os. structural front ++ os)
      (structure_first leave leaves (map (λ (i : Instruction). op.Instr i) is ++ back) ∙ ap (λ os. leave ∷ os) (coded_structure is back))

  same_structure : structural old_body ≡ structural new_body
  same_structure = structure_of own ∙ sym (structure_of code)

  stands : slice_get (structural old_body) n ≡ Some leave
  stands = ap (λ os. slice_get os n) (structure_of own) ∙ get_behind (structural front) (leave ∷ structural back) 0 n (omega arith)

  -- ---- runs

  piece_here : (is : List Instruction) → piece (front ++ (leave ∷ (map (λ (i : Instruction). op.Instr i) is ++ back))) n ≡ piece front n
  piece_here is =
      last_piece front (leave ∷ (map (λ (i : Instruction). op.Instr i) is ++ back)) ∙
      (ap (λ xs. piece front n ++ xs) (piece_ends leave leaves (map (λ (i : Instruction). op.Instr i) is ++ back)) ∙ append-nil (piece front n))

  piece_behind : (is : List Instruction) (j k : ℕ) → j ≡ n + suc k →
      piece (front ++ (leave ∷ (map (λ (i : Instruction). op.Instr i) is ++ back))) (suc j) ≡ piece back (suc k)
  piece_behind is j k e =
      (front_behind front (leave ∷ (map (λ (i : Instruction). op.Instr i) is ++ back))).pieces j (suc k) e ∙
      (piece_later leave leaves (map (λ (i : Instruction). op.Instr i) is ++ back) (suc k) ∙ coded_later is back k)

  pieces_else : (k : ℕ) → (k ≡ suc n → ⊥) → piece old_body k ≡ piece new_body k
  pieces_else k d = elim (cases_lt k n) [
    | inl l ↦
        front_piece front (leave ∷ (map (λ (i : Instruction). op.Instr i) own ++ back)) k l ∙
        sym (front_piece front (leave ∷ (map (λ (i : Instruction). op.Instr i) code ++ back)) k l)
    | inr l ↦ elim (cases_lt n k) [
      | inr g ↦
          let is : k ≡ n = omega arith in
          ap (piece old_body) is ∙ (piece_here own ∙ (sym (piece_here code) ∙ ap (piece new_body) (sym is)))
      | inl g ↦ elim (cases_lt (suc n) k) [
        | inr x ↦ absurd (d (omega arith))
        | inl x ↦
            let j = k - 1 in
            let i = k - 2 - n in
            let is : k ≡ suc j = omega arith in
            ap (piece old_body) is ∙
            (piece_behind own j i (omega arith) ∙ (sym (piece_behind code j i (omega arith)) ∙ ap (piece new_body) (sym is)))
      ]
    ]
  ]

  module _ (unhandled : NoHandler (structural old_body)) (results : List PrimitiveTypeInfo) (beyond : Beyond) where
    abbrev control : Control
    control = standard context.info results (structural old_body) beyond

    abbrev Elsewhere : Reached → Type 0
    Elsewhere = Misses context.info results (structural old_body) beyond n leave leaves stands unhandled

    pass_misses : (p : Reached) → Elsewhere p → Elsewhere (pass control old_body p)
    pass_misses (Done o) h = tt
    pass_misses (At k labels stack s) h = go (run (piece old_body k) stack s)
      where
        go : (o : Outcome) → Elsewhere (go_on (control k labels) o)
        go (Ends vs u) = control_misses context.info results (structural old_body) beyond n leave leaves stands unhandled k labels vs u
        go (Traps cause gs r) = tt
        go Stuck = tt

    pass_same : (p : Reached) → Elsewhere p → pass control old_body p ≡ pass control new_body p
    pass_same (Done o) h = refl
    pass_same (At k labels stack s) h = ap (λ (is : List Instruction). go_on (control k labels) (run is stack s)) (pieces_else k h)

    changed_runs : (fuel : ℕ) (s : State) → runs control old_body fuel (At 0 [] [] s) ≡ runs control new_body fuel (At 0 [] [] s)
    changed_runs fuel s =
        runs_same control old_body new_body Elsewhere pass_misses pass_same same_structure fuel (At 0 [] [] s) (λ e. absurd (omega arith))

  -- ---- validity

  module _ (law : MoreGlobalsCheckAlike) (input : List ℕ) (pushes : Pushes context own [] []) (pushes_so : Pushes context code [] [])
      (results : List PrimitiveTypeInfo) (beyond : Beyond) where
    abbrev after : Context
    after = wider input [] context

    abbrev old_steps : Structural
    old_steps = standard_steps context.info results (structural old_body) (by_asked (structural old_body) beyond)

    abbrev new_steps : Structural
    new_steps = standard_steps after.info results (structural new_body) (by_asked (structural new_body) beyond)

    steps_same : (k : ℕ) (fs : List Frame) → old_steps k fs ≡ new_steps k fs
    steps_same k fs =
        step_wider input [] context.info results (by_asked (structural old_body) beyond) (slice_get (structural old_body) k) k fs ∙
        ap (λ os. by_step after.info results (by_asked os beyond) (slice_get os k) k fs) same_structure

    stays_on : (is : List Instruction) → Pushes context is [] [] → (f : Frame) → check_code context is f ≡ Some f
    stays_on is p f = ap (check_code context is) (sym (none_on f)) ∙ (p f ∙ ap Some (none_on f))

    here : (left fs : List Frame) → check context old_steps n (leave ∷ (map (λ (i : Instruction). op.Instr i) own ++ back)) fs ≡ Some left →
        check after new_steps n (leave ∷ (map (λ (i : Instruction). op.Instr i) code ++ back)) fs ≡ Some left
    here left fs e =
        let old_rest = map (λ (i : Instruction). op.Instr i) own ++ back in
        let new_rest = map (λ (i : Instruction). op.Instr i) code ++ back in
        let (next, x, y) = and_then_some (check context old_steps (suc n) old_rest) (old_steps n fs) left
        (sym (check_first context old_steps leave leaves n old_rest fs) ∙ e) in
        let there = open_behind context.info results (by_asked (structural old_body) beyond) leave leaves n fs next
        (ap (λ o. by_step context.info results (by_asked (structural old_body) beyond) o n fs) (sym stands) ∙ x) in
        let f = there.frame in
        let outer = there.outer in
        let behind : check context old_steps (suc n) back (f ∷ outer) ≡ Some left =
        ap (option_and_then (λ (g : Frame). check context old_steps (suc n) back (g ∷ outer))) (sym (stays_on own pushes f)) ∙
        (sym (coded_check context old_steps own back (suc n) f outer) ∙ (ap (check context old_steps (suc n) old_rest) (sym there.are) ∙ y)) in
        check_first after new_steps leave leaves n new_rest fs ∙
        (ap (option_and_then (check after new_steps (suc n) new_rest)) (sym (steps_same n fs) ∙ (x ∙ ap Some there.are)) ∙
        (coded_check after new_steps code back (suc n) f outer ∙
        (ap (option_and_then (λ (g : Frame). check after new_steps (suc n) back (g ∷ outer)))
        (wider_code law input context code f f (stays_on code pushes_so f)) ∙
        back_checks law input [] context old_steps new_steps 0 back (suc n) (suc n) (f ∷ outer) left (omega arith)
        (λ i fs l. steps_same i fs ∙ ap (λ j. new_steps j fs) (let z : i ≡ i + 0 = omega arith in z)) behind)))

    changed_valid : IsValid context results (by_asked (structural old_body) beyond) old_body →
        IsValid after results (by_asked (structural new_body) beyond) new_body
    changed_valid h =
        front_checks law input [] context old_steps new_steps n (leave ∷ (map (λ (i : Instruction). op.Instr i) own ++ back))
        (leave ∷ (map (λ (i : Instruction). op.Instr i) code ++ back)) front 0 (body_frame results ∷ []) [] (omega arith)
        (λ i fs l. steps_same i fs) (here []) h

-- ---- a function

pub dead_changes : MoreGlobalsCheckAlike → TargetsStay → DeedsStay → DeadCodeMayChange
dead_changes more_law targets_stay deeds_stay m input old new w =
    let context = function_context m old in
    let before = old_body context w.front w.back w.own w.code w.leave w.leaves in
    same_does targets_stay deeds_stay m input old new before (new_body context w.front w.back w.own w.code w.leave w.leaves)
    w.params_are w.locals_are w.old_is w.new_is (record {
      structure = same_structure context w.front w.back w.own w.code w.leave w.leaves;
      same = λ results beyond fuel s typed.
          changed_runs context w.front w.back w.own w.code w.leave w.leaves
          (no_handler before (ap none_handle (sym w.old_is) ∙ w.unhandled)) results (by_asked (structural before) beyond) fuel s;
      valid = changed_valid context w.front w.back w.own w.code w.leave w.leaves more_law input w.pushes w.pushes_so;
    })
