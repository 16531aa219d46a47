-- A body in which the instructions before an operator that asks for a number were replaced by ones that push a number that is alike runs as before, and
-- stays valid.
use Rattle.std.proofs.Common.{◌≡◌, ℕ, suc, ◌+◌, ◌-◌, ◌<◌, List, [], ◌∷◌, ◌++◌, Option, Some, None, refl, sym, ap, ap₂, ◌∙◌, subst, arith, append-nil, inl, inr}
use Rattle.std.specs.Prelude.{map, slice_get}
use Rattle.std.specs.List.{All}
use Rattle.std.proofs.lemmas.Bool.{cases_eq, cases_lt}
use Rattle.std.proofs.lemmas.List.Elements.{All-nil}
use Rattle.wasm_code.specs.Instruction.{Instruction}
use Rattle.wasm_code.specs.declared.operator.Operator.{Operator}
use Rattle.wasm_code.specs.declared.operator.Operator.TheVariants as op
use Rattle.wasm_types.specs.Module.{Module}
use Rattle.wasm_types.specs.declared.types.PrimitiveTypeInfo.{PrimitiveTypeInfo}
use Rattle.wasm_types.specs.declared.types.PrimitiveTypeInfo.TheVariants as primitive
use Rattle.wasm_execution.specs.Values.{Value, IsValue, Cause, Context, State, HasTypes, Outcome, Ends, Traps, Stuck, then_run}
use Rattle.wasm_execution.specs.Machine.{run}
use Rattle.wasm_execution.specs.Laws.{Keeps}
use Rattle.wasm_execution.specs.OutcomeLemmas.{run_append}
use Rattle.wasm_execution.specs.TypeLemmas.{run_keeps}
use Rattle.wasm_equivalence.specs.control.Function.{structural, piece, Label, Reached, At, Done, Control, go_on, pass, runs, IsTyped}
use Rattle.wasm_equivalence.specs.control.Standard.{Beyond, by_asked, standard}
use Rattle.wasm_equivalence.specs.control.Standard as std
use Rattle.wasm_equivalence.specs.control.Laws.{StandardControlIsSound}
use Rattle.wasm_equivalence.specs.control.Wider.{wider}
use Rattle.wasm_equivalence.specs.hosts.Embedder.{DoesAs}
use Rattle.wasm_equivalence.specs.modules.Program.{Body, function_context}
use Rattle.wasm_equivalence.specs.validation.Algorithm.{OperandEntry, Frame, check_code}
use Rattle.wasm_equivalence.specs.validation.Sound.{ValidCodeRuns, ValidBodiesStayValid, TargetsStay, DeedsStay, IsValid}
use Rattle.wasm_equivalence.specs.validation.StaysValid.{Pushes, ChecksAs, StaysValid, MoreGlobalsCheckAlike, ReplacedCodeStaysValid}
use Rattle.wrapped_code.specs.Alike.{AreAs, SameAs}
use Rattle.wrapped_code.proofs.PlaceLemmas.{coded_structure, count, front_behind, front_structure, front_piece, last_piece}
use Rattle.wrapped_code.proofs.MovedLemmas.{get_behind}
use Rattle.wrapped_code.proofs.FrameLemmas.{none_on}
use Rattle.wrapped_code.proofs.OverLemmas.{empty_frame, never_stuck}
use Rattle.wrapped_code.proofs.UncheckLemmas.{wider_code}
use Rattle.wrapped_code.proofs.AlikeLemmas.{coded_first, coded_later, runs_same, same_does}

-- the operands of a frame that is there
abbrev operands_of : Option Frame → List OperandEntry
operands_of (Some f) = f.operands
operands_of None = []

-- ---- what asks for a number

-- what an operator does
abbrev pub by : Module → List PrimitiveTypeInfo → List Operator → Beyond → Operator → ℕ → List Label → List Value → State → Reached
by m results structure beyond o k labels stack s = std.by_operator m results structure beyond (Some o) k labels stack s

-- a structural operator that does the same with either of two numbers of 32 bits on top that are alike
pub record Asks (Alike : ℕ → ℕ → Type 0) (branch : Operator) : Type 0 where
  pub structure_first : (os : List Operator) → structural (branch ∷ os) ≡ branch ∷ structural os
  pub piece_ends : (os : List Operator) → piece (branch ∷ os) 0 ≡ []
  pub turns : (m : Module) (results : List PrimitiveTypeInfo) (structure : List Operator) (beyond : Beyond) (k : ℕ) (labels : List Label)
      (below : List Value) (c d : Value) (s : State) → c.type ≡ primitive.I32 → d.type ≡ primitive.I32 → Alike c.number d.number →
      by m results structure beyond branch k labels (below ++ c ∷ []) s ≡ by m results structure beyond branch k labels (below ++ d ∷ []) s

-- ---- a body

module _ (Alike : ℕ → ℕ → Type 0) (context : Context) (front back : List Operator) (own code : List Instruction) (branch : Operator)
    (asks : Asks Alike branch) where
  abbrev old_body : List Operator
  old_body = front ++ (map (λ (i : Instruction). op.Instr i) own ++ branch ∷ back)

  abbrev new_body : List Operator
  new_body = front ++ (map (λ (i : Instruction). op.Instr i) code ++ branch ∷ back)

  abbrev n : ℕ
  n = count front

  abbrev first : List Instruction
  first = piece front n

  structure_of : (is : List Instruction) → structural (front ++ (map (λ (i : Instruction). op.Instr i) is ++ branch ∷ back)) ≡
      structural front ++ (branch ∷ structural back)
  structure_of is =
      front_structure front (map (λ (i : Instruction). op.Instr i) is ++ branch ∷ back) ∙
      ap (λ os. structural front ++ os) (coded_structure is (branch ∷ back) ∙ asks.structure_first back)

  same_structure : structural old_body ≡ structural new_body
  same_structure = structure_of own ∙ sym (structure_of code)

  stands : slice_get (structural old_body) n ≡ Some branch
  stands = ap (λ os. slice_get os n) (structure_of own) ∙ get_behind (structural front) (branch ∷ structural back) 0 n (omega arith)

  piece_of : (is : List Instruction) → piece (front ++ (map (λ (i : Instruction). op.Instr i) is ++ branch ∷ back)) n ≡ first ++ is
  piece_of is =
      last_piece front (map (λ (i : Instruction). op.Instr i) is ++ branch ∷ back) ∙
      ap (λ xs. first ++ xs) (coded_first is (branch ∷ back) ∙ (ap (λ xs. is ++ xs) (asks.piece_ends back) ∙ append-nil is))

  pieces_before : (k : ℕ) → k < n → piece old_body k ≡ piece new_body k
  pieces_before k l =
      front_piece front (map (λ (i : Instruction). op.Instr i) own ++ branch ∷ back) k l ∙
      sym (front_piece front (map (λ (i : Instruction). op.Instr i) code ++ branch ∷ back) k l)

  pieces_behind : (j k : ℕ) → j ≡ n + k → piece old_body (suc j) ≡ piece new_body (suc j)
  pieces_behind j k e =
      let a = front_behind front (map (λ (i : Instruction). op.Instr i) own ++ branch ∷ back) in
      let b = front_behind front (map (λ (i : Instruction). op.Instr i) code ++ branch ∷ back) in
      a.pieces j k e ∙ (coded_later own (branch ∷ back) k ∙ (sym (coded_later code (branch ∷ back) k) ∙ sym (b.pieces j k e)))

  pieces_else : (k : ℕ) → (k ≡ n → ⊥) → piece old_body k ≡ piece new_body k
  pieces_else k d = elim (cases_lt k n) [
    | inl l ↦ pieces_before k l
    | inr l ↦ elim (cases_lt n k) [
      | inl g ↦
          let j = k - 1 in
          let is : k ≡ suc j = omega arith in
          ap (piece old_body) is ∙ (pieces_behind j (j - n) (omega arith) ∙ ap (piece new_body) (sym is))
      | inr g ↦ absurd (d (omega arith))
    ]
  ]

  module _ (sound_law : StandardControlIsSound) (valid : ValidCodeRuns) (pushes : Pushes context own [] (primitive.I32 ∷ []))
      (same : SameAs Alike context own code) (results : List PrimitiveTypeInfo) (beyond : Beyond) where
    abbrev control : Control
    control = standard context.info results (structural old_body) beyond

    same_here : (labels : List Label) (o p : Outcome) → AreAs Alike o p → go_on (control n labels) o ≡ go_on (control n labels) p
    same_here labels (Ends vs s) (Ends us t) (w, e) =
        let goes : List Value → Reached = λ xs. by context.info results (structural old_body) beyond branch n labels xs s in
        let at : (xs : List Value) → control n labels xs s ≡ goes xs =
        λ xs. ap (λ o. std.by_operator context.info results (structural old_body) beyond o n labels xs s) stands in
        at vs ∙ (ap goes w.first_is ∙
        (asks.turns context.info results (structural old_body) beyond n labels w.below w.one w.other s w.one_type w.other_type w.alike ∙
        (ap goes (sym w.second_is) ∙ (sym (at us) ∙ ap (control n labels us) (sym e)))))
    same_here labels (Ends vs s) (Traps cause gs r) h = absurd h
    same_here labels (Ends vs s) Stuck h = absurd h
    same_here labels (Traps cause gs r) (Ends us t) h = absurd h
    same_here labels (Traps cause gs r) (Traps other hs q) (a, b, c) =
        ap₂ (λ (x : Cause) (y : List Value). Done (Traps x y r)) (sym a) (sym b) ∙ ap (λ (x : ℕ). Done (Traps other hs x)) (sym c)
    same_here labels (Traps cause gs r) Stuck h = absurd h
    same_here labels Stuck p h = absurd h

    pass_here : (labels : List Label) (stack : List Value) (s : State) → All IsValue stack → HasTypes context s →
        pass control old_body (At n labels stack s) ≡ pass control new_body (At n labels stack s)
    pass_here labels stack s a t =
        let goes : List Instruction → Reached = λ is. go_on (control n labels) (run is stack s) in
        ap goes (piece_of own) ∙ (ap (go_on (control n labels)) (run_append first own stack s) ∙
        (go (run first stack s) (run_keeps context first stack s t a) ∙
        (ap (go_on (control n labels)) (sym (run_append first code stack s)) ∙ ap goes (sym (piece_of code)))))
      where
        go : (o : Outcome) → Keeps context o → go_on (control n labels) (then_run o (run own)) ≡ go_on (control n labels) (then_run o (run code))
        go (Ends vs u) k =
            same_here labels (run own vs u) (run code vs u)
            (same vs u k.0 k.1 (never_stuck valid context own (primitive.I32 ∷ []) pushes vs u k.1))
        go (Traps cause gs r) k = refl
        go Stuck k = refl

    pass_same : (p : Reached) → IsTyped context p → pass control old_body p ≡ pass control new_body p
    pass_same (Done o) h = refl
    pass_same (At k labels stack s) h = elim (cases_eq k n) [
      | inl e ↦
          ap (λ i. pass control old_body (At i labels stack s)) e ∙
          (pass_here labels stack s h.0 h.1 ∙ ap (λ i. pass control new_body (At i labels stack s)) (sym e))
      | inr d ↦ ap (λ (is : List Instruction). go_on (control k labels) (run is stack s)) (pieces_else k d)
    ]

    pass_typed : (p : Reached) → IsTyped context p → IsTyped context (pass control old_body p)
    pass_typed (Done o) h = h
    pass_typed (At k labels stack s) h = go (run (piece old_body k) stack s) (run_keeps context (piece old_body k) stack s h.1 h.0)
      where
        go : (o : Outcome) → Keeps context o → IsTyped context (go_on (control k labels) o)
        go (Ends vs u) x = (sound_law.sound context results (structural old_body) beyond).keeps k labels vs u x.0 x.1
        go (Traps cause gs r) x = x
        go Stuck x = tt

    turned_runs : (fuel : ℕ) (s : State) → HasTypes context s →
        runs control old_body fuel (At 0 [] [] s) ≡ runs control new_body fuel (At 0 [] [] s)
    turned_runs fuel s t =
        runs_same control old_body new_body (IsTyped context) pass_typed pass_same same_structure fuel (At 0 [] [] s) (All-nil IsValue, t)

  module _ (more_law : MoreGlobalsCheckAlike) (replaced : ReplacedCodeStaysValid) (stay : ValidBodiesStayValid) (input : List ℕ)
      (pushes : Pushes context own [] (primitive.I32 ∷ [])) (pushes_so : Pushes context code [] (primitive.I32 ∷ [])) where
    abbrev after : Context
    after = wider input [] context

    checks : ChecksAs context after own code
    checks f g e =
        wider_code more_law input context code f g
        (ap (check_code context code) (sym (none_on f)) ∙
        (pushes_so f ∙ (sym (pushes f) ∙ (ap (check_code context own) (none_on f) ∙ e))))

    stays : (is : List Instruction) → Pushes context is [] (primitive.I32 ∷ []) → ChecksAs context after is code →
        StaysValid context after (front ++ (map (λ (i : Instruction). op.Instr i) is ++ branch ∷ back)) new_body
    stays [] p h = let z : ◌≡◌ {A = List OperandEntry} [] (Some primitive.I32 ∷ []) = ap operands_of (p empty_frame) in absurd cc
    stays (i ∷ is) p h = replaced context input [] front (branch ∷ back) i is code h

    turned_valid : (results : List PrimitiveTypeInfo) (beyond : Beyond) → IsValid context results (by_asked (structural old_body) beyond) old_body →
        IsValid after results (by_asked (structural new_body) beyond) new_body
    turned_valid results beyond h =
        subst (λ (os : List Operator). IsValid after results (by_asked os beyond) new_body) same_structure
        (stay context input [] results (by_asked (structural old_body) beyond) old_body new_body h (stays own pushes checks))

-- ---- a function

-- The new function is the old one, but that before an operator that asks for a number instructions that push it are replaced by others, which push one that
-- is alike.
pub record Replaces (Alike : ℕ → ℕ → Type 0) (m : Module) (old new : Body) : Type 0 where
  pub params_are : old.params ≡ new.params
  pub locals_are : old.locals ≡ new.locals
  pub front : List Operator
  pub back : List Operator
  pub own : List Instruction
  pub code : List Instruction
  pub branch : Operator
  pub asks : Asks Alike branch
  pub old_is : old.operators ≡ front ++ (map (λ (i : Instruction). op.Instr i) own ++ branch ∷ back)
  pub new_is : new.operators ≡ front ++ (map (λ (i : Instruction). op.Instr i) code ++ branch ∷ back)
  pub pushes : Pushes (function_context m old) own [] (primitive.I32 ∷ [])
  pub pushes_so : Pushes (function_context m old) code [] (primitive.I32 ∷ [])
  pub same : SameAs Alike (function_context m old) own code

pub numbers_change : StandardControlIsSound → ValidCodeRuns → MoreGlobalsCheckAlike → ReplacedCodeStaysValid → ValidBodiesStayValid → TargetsStay →
    DeedsStay → (Alike : ℕ → ℕ → Type 0) (m : Module) (input : List ℕ) (old new : Body) → Replaces Alike m old new → DoesAs m input [] old new
numbers_change sound_law valid more_law replaced stay targets_stay deeds_stay Alike m input old new w =
    let context = function_context m old in
    same_does targets_stay deeds_stay m input old new (old_body Alike context w.front w.back w.own w.code w.branch w.asks)
    (new_body Alike context w.front w.back w.own w.code w.branch w.asks) w.params_are w.locals_are w.old_is w.new_is (record {
      structure = same_structure Alike context w.front w.back w.own w.code w.branch w.asks;
      same = λ results beyond.
          turned_runs Alike context w.front w.back w.own w.code w.branch w.asks sound_law valid w.pushes w.same results
          (by_asked (structural (old_body Alike context w.front w.back w.own w.code w.branch w.asks)) beyond);
      valid = turned_valid Alike context w.front w.back w.own w.code w.branch w.asks more_law replaced stay input w.pushes w.pushes_so;
    })
