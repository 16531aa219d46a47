-- Behind a branch, a return or a trap no run goes on: under the standard's control no run stands before the piece there.
use Rattle.std.proofs.Common.{◌≡◌, ℕ, zero, suc, ◌-◌, ◌+◌, ◌≤◌, Bool, true, false, List, [], ◌∷◌, ◌++◌, length, take, drop, Option, Some}
use Rattle.std.proofs.Common.{None, refl, sym, ap, ◌∙◌, subst, arith}
use Rattle.std.specs.Prelude.{is_some, slice_get, if◌then◌else◌, ⊤}
use Rattle.std.proofs.lemmas.Option.{same_Some}
use Rattle.wasm_code.specs.Instruction.{Instruction}
use Rattle.wasm_code.specs.declared.immediate.BlockType.{BlockType}
use Rattle.wasm_code.specs.declared.operator.Operator.{Operator}
use Rattle.wasm_code.specs.declared.operator.Operator.TheVariants as op
use Rattle.wasm_code.specs.declared.other.Other.{Other}
use Rattle.wasm_types.specs.Module.{Module}
use Rattle.wasm_types.specs.declared.types.PrimitiveTypeInfo.{PrimitiveTypeInfo}
use Rattle.wasm_types.specs.declared.types.PrimitiveTypeInfo.TheVariants as primitive
use Rattle.wasm_execution.specs.Values.{asked_types, types, Value, Answer, Gives, Fails, met, State, own_globals, further_globals, Stuck}
use Rattle.wasm_equivalence.specs.control.Function.{Label, Reached, Done, At}
use Rattle.wasm_equivalence.specs.control.Numbers.{are_values}
use Rattle.wasm_equivalence.specs.control.Blocks.{function_arity, Nesting, opens, parts, closes, stays, nesting, Role, handles, tries}
use Rattle.wasm_equivalence.specs.control.Blocks.{catches, delegates, does, role_of, closing, closing_at, other_part, other_part_at}
use Rattle.wasm_equivalence.specs.control.Standard.{Target, calls, fails, Deed, gives, jumps, breaks, enters, returns, Beyond}
use Rattle.wasm_equivalence.specs.control.Standard as std
use Rattle.wrapped_code.specs.Dead.{never_goes_on}
use Rattle.wrapped_code.specs.Handlers.{handles_by}
use Rattle.wrapped_code.proofs.HandlerLemmas.{NoHandler}

-- ---- where blocks end and part

get_dropped : {X : Type 0} (xs : List X) (n j i : ℕ) → i ≡ n + j → slice_get (drop n xs) j ≡ slice_get xs i
get_dropped xs zero j i e = ap (slice_get xs) (let x : j ≡ i = omega arith in x)
get_dropped [] (suc n) j i e = refl
get_dropped (x ∷ xs) (suc n) j zero e = absurd (omega arith)
get_dropped (x ∷ xs) (suc n) j (suc i) e = get_dropped xs n j i (omega arith)

closing_above : (depth k : ℕ) (os : List Operator) → k ≤ closing depth k os
closing_above depth k [] = omega arith
closing_above depth k (o ∷ os) = go (nesting o) depth (λ d. closing_above d (suc k) os)
  where
    go : (n : Nesting) (depth : ℕ) → ((d : ℕ) → suc k ≤ closing d (suc k) os) → k ≤ closing_at n depth k (λ d. closing d (suc k) os)
    go closes zero h = omega arith
    go closes (suc d) h = let x = h d in omega arith
    go opens d h = let x = h (suc d) in omega arith
    go parts d h = let x = h d in omega arith
    go stays d h = let x = h d in omega arith

-- what is shown of the operators behind the first
abbrev ClosesLater : (k : ℕ) → List Operator → Operator → Type 0
ClosesLater k os o = (d i : ℕ) → closing d (suc k) os ≡ suc k + i → slice_get os i ≡ Some o → nesting o ≡ closes

-- an operator with the number of the end of a block is one
closing_is : (depth k : ℕ) (os : List Operator) (j : ℕ) (o : Operator) → closing depth k os ≡ k + j → slice_get os j ≡ Some o → nesting o ≡ closes
closing_is depth k [] j o e at = absurd cc
closing_is depth k (x ∷ os) j o e at = go (λ d i e at. closing_is d (suc k) os i o e at) (nesting x) refl depth j e at
  where
    later : ClosesLater k os o → (d j : ℕ) → closing d (suc k) os ≡ k + j → slice_get (x ∷ os) j ≡ Some o → nesting o ≡ closes
    later h d zero e at = let l = closing_above d (suc k) os in absurd (omega arith)
    later h d (suc i) e at = h d i (omega arith) at

    first : (j : ℕ) → nesting x ≡ closes → k ≡ k + j → slice_get (x ∷ os) j ≡ Some o → nesting o ≡ closes
    first zero n e at = ap nesting (sym (same_Some x o at)) ∙ n
    first (suc j) n e at = absurd (omega arith)

    go : ClosesLater k os o → (n : Nesting) → nesting x ≡ n → (depth j : ℕ) → closing_at n depth k (λ d. closing d (suc k) os) ≡ k + j →
        slice_get (x ∷ os) j ≡ Some o → nesting o ≡ closes
    go h closes n zero j e at = first j n e at
    go h closes n (suc d) j e at = later h d j e at
    go h opens n d j e at = later h (suc d) j e at
    go h parts n d j e at = later h d j e at
    go h stays n d j e at = later h d j e at

abbrev AboveLater : (k : ℕ) → List Operator → (e : ℕ) → Type 0
AboveLater k os e = (d : ℕ) → other_part d (suc k) os ≡ Some e → suc k ≤ e

other_above : (depth k : ℕ) (os : List Operator) (e : ℕ) → other_part depth k os ≡ Some e → k ≤ e
other_above depth k [] e is = absurd cc
other_above depth k (o ∷ os) e is = go (λ d is. other_above d (suc k) os e is) (nesting o) depth is
  where
    later : AboveLater k os e → (d : ℕ) → other_part d (suc k) os ≡ Some e → k ≤ e
    later h d is = let x = h d is in omega arith

    go : AboveLater k os e → (n : Nesting) (depth : ℕ) → other_part_at n depth k (λ d. other_part d (suc k) os) ≡ Some e → k ≤ e
    go h parts zero is = let x : k ≡ e = same_Some k e is in omega arith
    go h parts (suc d) is = later h (suc d) is
    go h closes zero is = absurd cc
    go h closes (suc d) is = later h d is
    go h opens d is = later h (suc d) is
    go h stays d is = later h d is

abbrev PartsLater : (k : ℕ) → List Operator → (e : ℕ) → Operator → Type 0
PartsLater k os e o = (d i : ℕ) → other_part d (suc k) os ≡ Some e → e ≡ suc k + i → slice_get os i ≡ Some o → nesting o ≡ parts

-- an operator with the number of the other part of a conditional begins one
other_is : (depth k : ℕ) (os : List Operator) (j e : ℕ) (o : Operator) → other_part depth k os ≡ Some e → e ≡ k + j → slice_get os j ≡ Some o →
    nesting o ≡ parts
other_is depth k [] j e o is same at = absurd cc
other_is depth k (x ∷ os) j e o is same at =
    go (λ d i is same at. other_is d (suc k) os i e o is same at) (nesting x) refl depth j is same at
  where
    later : PartsLater k os e o → (d j : ℕ) → other_part d (suc k) os ≡ Some e → e ≡ k + j → slice_get (x ∷ os) j ≡ Some o → nesting o ≡ parts
    later h d zero is same at = let l = other_above d (suc k) os e is in absurd (omega arith)
    later h d (suc i) is same at = h d i is (omega arith) at

    first : (j : ℕ) → nesting x ≡ parts → k ≡ e → e ≡ k + j → slice_get (x ∷ os) j ≡ Some o → nesting o ≡ parts
    first zero n is same at = ap nesting (sym (same_Some x o at)) ∙ n
    first (suc j) n is same at = absurd (omega arith)

    go : PartsLater k os e o → (n : Nesting) → nesting x ≡ n → (depth j : ℕ) → other_part_at n depth k (λ d. other_part d (suc k) os) ≡ Some e → e ≡ k + j →
        slice_get (x ∷ os) j ≡ Some o → nesting o ≡ parts
    go h parts n zero j is same at = first j n (same_Some k e is) same at
    go h parts n (suc d) j is same at = later h (suc d) j is same at
    go h closes n zero j is same at = absurd cc
    go h closes n (suc d) j is same at = later h d j is same at
    go h opens n d j is same at = later h (suc d) j is same at
    go h stays n d j is same at = later h d j is same at

pub stays_there : (o : Operator) → never_goes_on o ≡ true → nesting o ≡ stays
stays_there (op.Br l) e = refl
stays_there (op.BrTable n) e = refl
stays_there op.Return e = refl
stays_there op.Unreachable e = refl
stays_there o e = absurd cc

-- ---- the control

module _ (m : Module) (results : List PrimitiveTypeInfo) (structure : List Operator) (beyond : Beyond) (n : ℕ) (leave : Operator)
    (leaves : never_goes_on leave ≡ true) (stands : slice_get structure n ≡ Some leave) (none : NoHandler structure) where
  -- the run doesn't stand right behind that operator
  abbrev pub Misses : Reached → Type 0
  Misses (At k labels stack s) = k ≡ suc n → ⊥
  Misses (Done o) = ⊤

  apart : (k : ℕ) (o : Operator) → slice_get structure k ≡ Some o → never_goes_on o ≡ false → suc k ≡ suc n → ⊥
  apart k o at e same =
      let x : k ≡ n = omega arith in
      let is : o ≡ leave = same_Some o leave (sym at ∙ (ap (slice_get structure) x ∙ stands)) in
      let z : false ≡ true = sym e ∙ (ap never_goes_on is ∙ leaves) in
      absurd cc

  ends_apart : (opener : ℕ) → suc (std.end_of m results structure opener) ≡ suc n → ⊥
  ends_apart opener same =
      let first = suc opener in
      let os = drop first structure in
      let is : closing zero first os ≡ n = omega arith in
      let l = closing_above zero first os in
      let here : slice_get os (n - first) ≡ Some leave = get_dropped structure first (n - first) n (omega arith) ∙ stands in
      let z : closes ≡ stays = sym (closing_is zero first os (n - first) leave (omega arith) here) ∙ stays_there leave leaves in
      absurd cc

  parts_apart : (opener e : ℕ) → other_part zero (suc opener) (drop (suc opener) structure) ≡ Some e → suc e ≡ suc n → ⊥
  parts_apart opener e is same =
      let first = suc opener in
      let os = drop first structure in
      let l = other_above zero first os e is in
      let here : slice_get os (n - first) ≡ Some leave = get_dropped structure first (n - first) n (omega arith) ∙ stands in
      let z : parts ≡ stays = sym (other_is zero first os (n - first) e leave is (omega arith) here) ∙ stays_there leave leaves in
      absurd cc

  jump_other_misses : (role : Role) (label : Label) (outer : List Label) (stack : List Value) (s : State) →
      Misses (std.jump_other m results structure beyond role label outer stack s)
  jump_other_misses handles label outer stack s = ends_apart label.opener
  jump_other_misses tries label outer stack s = ends_apart label.opener
  jump_other_misses catches label outer stack s = ends_apart label.opener
  jump_other_misses delegates label outer stack s = tt
  jump_other_misses does label outer stack s = tt

  jump_misses : (o : Option Operator) (label : Label) (outer : List Label) (stack : List Value) (s : State) → slice_get structure label.opener ≡ o →
      Misses (std.jump_to m results structure beyond o label outer stack s)
  jump_misses (Some (op.Loop t)) label outer stack s at = apart label.opener (op.Loop t) at refl
  jump_misses (Some (op.Block t)) label outer stack s at = ends_apart label.opener
  jump_misses (Some (op.If t)) label outer stack s at = ends_apart label.opener
  jump_misses (Some (op.Other o)) label outer stack s at = jump_other_misses (role_of o) label outer stack s
  jump_misses o label outer stack s at = tt

  branch_misses : (l : ℕ) (labels : List Label) (stack : List Value) (s : State) → Misses (std.branch m results structure beyond l labels stack s)
  branch_misses zero [] stack s = tt
  branch_misses (suc l) [] stack s = tt
  branch_misses zero (label ∷ outer) stack s = jump_misses (slice_get structure label.opener) label outer stack s refl
  branch_misses (suc l) (label ∷ outer) stack s = branch_misses l outer stack s

  otherwise_misses : (o : Option ℕ) (k : ℕ) (t : BlockType) (labels : List Label) (stack : List Value) (s : State) →
      other_part zero (suc k) (drop (suc k) structure) ≡ o → Misses (std.otherwise m results structure o k t labels stack s)
  otherwise_misses (Some e) k t labels stack s is = parts_apart k e is
  otherwise_misses None k t labels stack s is = ends_apart k

  close_misses : (k : ℕ) (o : Operator) (labels : List Label) (stack : List Value) (s : State) → slice_get structure k ≡ Some o →
      never_goes_on o ≡ false → Misses (std.close m results structure (suc k) labels stack s)
  close_misses k o [] stack s at e = tt
  close_misses k o (label ∷ outer) stack s at e = apart k o at e

  skip_misses : (labels : List Label) (stack : List Value) (s : State) → Misses (std.skip m results structure labels stack s)
  skip_misses [] stack s = tt
  skip_misses (label ∷ outer) stack s = ends_apart label.opener

  chosen_misses : (t : PrimitiveTypeInfo) (i : ℕ) (x y : Reached) → Misses x → Misses y → Misses (std.chosen t i x y)
  chosen_misses primitive.I32 zero x y h k = k
  chosen_misses primitive.I32 (suc i) x y h k = h
  chosen_misses t i x y h k = tt

  choose_misses : (vs : List Value) (x y : Reached) → Misses x → Misses y → Misses (std.choose_by_value vs x y)
  choose_misses [] x y h k = tt
  choose_misses (c ∷ []) x y h k = chosen_misses c.type c.number x y h k
  choose_misses (c ∷ d ∷ vs) x y h k = tt

  by_misses : (count k : ℕ) (t : PrimitiveTypeInfo) (i : ℕ) (labels : List Label) (stack : List Value) (s : State) →
      Misses (std.branch_by m results structure beyond count k t i labels stack s)
  by_misses count k primitive.I32 i labels stack s = branch_misses (std.label_at (take count (beyond.labels k)) (beyond.default k) i) labels stack s
  by_misses count k t i labels stack s = tt

  on_misses : (count k : ℕ) (vs : List Value) (labels : List Label) (stack : List Value) (s : State) →
      Misses (std.branch_on m results structure beyond count k vs labels stack s)
  on_misses count k [] labels stack s = tt
  on_misses count k (c ∷ []) labels stack s = by_misses count k c.type c.number labels stack s
  on_misses count k (c ∷ d ∷ vs) labels stack s = tt

  only_misses : (vs : List Value) (x : Reached) → Misses x → Misses (std.only_values m results structure vs x)
  only_misses vs x h = go (are_values vs)
    where
      go : (b : Bool) → Misses (if b then x else Done Stuck)
      go true = h
      go false = tt

  -- exceptions: no block catches one

  caught_none : (o : Option Operator) (k mark rest : ℕ) → slice_get structure k ≡ o → std.caught_at m results structure beyond o k mark rest ≡ None
  caught_none (Some (op.Other o)) k mark rest at = go (role_of o) refl
    where
      go : (role : Role) → role_of o ≡ role → std.caught_by m results structure beyond role k mark rest ≡ None
      go handles e = absurd (none k o at (ap handles_by e))
      go tries e = absurd (none k o at (ap handles_by e))
      go catches e = refl
      go delegates e = refl
      go does e = refl
  caught_none o k mark rest at = refl

  thrown_misses : (mark skipped : ℕ) (labels : List Label) (stack : List Value) (s : State) →
      Misses (std.thrown m results structure beyond mark skipped labels stack s)
  thrown_misses mark skipped [] stack s = tt
  thrown_misses mark (suc i) (label ∷ outer) stack s = thrown_misses mark i outer stack s
  thrown_misses mark zero (label ∷ outer) stack s =
      subst (λ c. Misses (std.or_caught m results structure beyond c label.height outer stack s
      (λ i. std.thrown m results structure beyond mark i outer stack s)))
      (sym (caught_none (slice_get structure label.opener) label.opener mark s.rest refl)) (thrown_misses mark 0 outer stack s)

  -- calls

  answered_misses : (next : List Value → State → Reached) (a : Answer) (behind : List Value) (labels : List Label) (below : List Value) (s : State) →
      ((stack : List Value) (s : State) → Misses (next stack s)) → Misses (std.answered_by m results structure beyond next a behind labels below s)
  answered_misses next (Gives us gs r) behind labels below s h = h (below ++ us) (record s { globals = gs ++ behind; rest = r })
  answered_misses next (Fails (met mark) gs r) behind labels below s h =
      thrown_misses mark 0 labels below (record s { globals = gs ++ behind; rest = r })
  answered_misses next (Fails cause gs r) behind labels below s h = tt

  called_misses : (next : List Value → State → Reached) (i : Instruction) (vs : List Value) (labels : List Label) (below : List Value) (s : State) →
      ((stack : List Value) (s : State) → Misses (next stack s)) → Misses (std.called m results structure beyond next i vs labels below s)
  called_misses next i vs labels below s h = go (is_some (asked_types m i (types vs)))
    where
      answer : Reached
      answer =
          std.answered_by m results structure beyond next (s.world.answer i vs (own_globals s) s.rest)
          (s.world.others i vs (own_globals s) s.rest (further_globals s)) labels below s

      go : (b : Bool) → Misses (if b then answer else Done Stuck)
      go true =
          answered_misses next (s.world.answer i vs (own_globals s) s.rest) (s.world.others i vs (own_globals s) s.rest (further_globals s)) labels below s h
      go false = tt

  target_misses : (x : Target) (type k : ℕ) (o : Operator) (labels : List Label) (stack : List Value) (s : State) → slice_get structure k ≡ Some o →
      never_goes_on o ≡ false → Misses (std.call_target m results structure beyond x type k labels stack s)
  target_misses (fails mark) type k o labels stack s at e = tt
  target_misses (calls i) type k o labels stack s at e =
      let count = length (function_arity (slice_get m.types type)).starts in
      called_misses (At (suc k) labels) i (std.last_of count stack) labels (take (length stack - count) stack) s (λ stack s. apart k o at e)

  call_misses : (type k : ℕ) (o : Operator) (vs : List Value) (labels : List Label) (stack : List Value) (s : State) → slice_get structure k ≡ Some o →
      never_goes_on o ≡ false → Misses (std.call_at m results structure beyond type k vs labels stack s)
  call_misses type k o [] labels stack s at e = tt
  call_misses type k o (c ∷ []) labels stack s at e = target_misses (beyond.target k c s.rest) type k o labels stack s at e
  call_misses type k o (c ∷ d ∷ vs) labels stack s at e = tt

  -- other operators

  done_misses : (x : Deed) (k : ℕ) (o : Operator) (labels : List Label) (below : List Value) (s : State) → slice_get structure k ≡ Some o →
      never_goes_on o ≡ false → Misses (std.done m results structure beyond x k labels below s)
  done_misses (gives vs r) k o labels below s at e = only_misses vs (At (suc k) labels (below ++ vs) (record s { rest = r })) (apart k o at e)
  done_misses (jumps l vs r) k o labels below s at e =
      only_misses vs (std.branch m results structure beyond l labels (below ++ vs) (record s { rest = r }))
      (branch_misses l labels (below ++ vs) (record s { rest = r }))
  done_misses (breaks mark r) k o labels below s at e = thrown_misses mark 0 labels below (record s { rest = r })
  done_misses (enters i vs) k o labels below s at e =
      only_misses vs (std.called m results structure beyond (At (suc k) labels) i vs labels below s)
      (called_misses (At (suc k) labels) i vs labels below s (λ stack s. apart k o at e))
  done_misses (returns i vs) k o labels below s at e =
      only_misses vs (std.called m results structure beyond (std.leave m results structure) i vs [] below s)
      (called_misses (std.leave m results structure) i vs [] below s (λ stack s. tt))

  other_misses : (role : Role) (o : Other) (k : ℕ) (labels : List Label) (stack : List Value) (s : State) → slice_get structure k ≡ Some (op.Other o) →
      Misses (std.other_at m results structure role beyond k labels stack s)
  other_misses handles o k labels stack s at = apart k (op.Other o) at refl
  other_misses tries o k labels stack s at = apart k (op.Other o) at refl
  other_misses catches o k labels stack s at = skip_misses labels stack s
  other_misses delegates o k labels stack s at = close_misses k (op.Other o) labels stack s at refl
  other_misses does o k labels stack s at =
      let count = length (beyond.takes k) in
      done_misses (beyond.deed k (std.last_of count stack) s.rest) k (op.Other o) labels (take (length stack - count) stack) s at refl

  operator_misses : (o : Option Operator) (k : ℕ) (labels : List Label) (stack : List Value) (s : State) → slice_get structure k ≡ o →
      Misses (std.by_operator m results structure beyond o k labels stack s)
  operator_misses (Some (op.Block t)) k labels stack s at = apart k (op.Block t) at refl
  operator_misses (Some (op.Loop t)) k labels stack s at = apart k (op.Loop t) at refl
  operator_misses (Some (op.If t)) k labels stack s at =
      let below = take (length stack - 1) stack in
      let other = other_part zero (suc k) (drop (suc k) structure) in
      choose_misses (std.last_of 1 stack) (std.enter m results structure k t labels below s) (std.otherwise m results structure other k t labels below s)
      (apart k (op.If t) at refl) (otherwise_misses other k t labels below s refl)
  operator_misses (Some op.Else) k labels stack s at = skip_misses labels stack s
  operator_misses (Some op.End) k labels stack s at = close_misses k op.End labels stack s at refl
  operator_misses (Some (op.Br l)) k labels stack s at = branch_misses l labels stack s
  operator_misses (Some (op.BrIf l)) k labels stack s at =
      let below = take (length stack - 1) stack in
      choose_misses (std.last_of 1 stack) (std.branch m results structure beyond l labels below s) (At (suc k) labels below s)
      (branch_misses l labels below s) (apart k (op.BrIf l) at refl)
  operator_misses (Some (op.BrTable i)) k labels stack s at = on_misses i k (std.last_of 1 stack) labels (take (length stack - 1) stack) s
  operator_misses (Some op.Return) k labels stack s at = tt
  operator_misses (Some op.Unreachable) k labels stack s at = tt
  operator_misses (Some (op.CallIndirect type table)) k labels stack s at =
      call_misses type k (op.CallIndirect type table) (std.last_of 1 stack) labels (take (length stack - 1) stack) s at refl
  operator_misses (Some (op.Other o)) k labels stack s at = other_misses (role_of o) o k labels stack s at
  operator_misses o k labels stack s at = tt

  pub control_misses : (k : ℕ) (labels : List Label) (stack : List Value) (s : State) → Misses (std.standard m results structure beyond k labels stack s)
  control_misses k labels stack s = operator_misses (slice_get structure k) k labels stack s refl
