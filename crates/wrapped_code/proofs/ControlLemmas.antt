-- The standard's control where structural operators were put in between: it does what it did, by other numbers.
use Rattle.std.proofs.Common.{◌≡◌, ℕ, zero, suc, ◌-◌, ◌+◌, Bool, true, false, List, [], ◌∷◌, ◌++◌, length, take, drop, Option, Some, None, refl, ap, ap₂, ◌∙◌}
use Rattle.std.specs.Prelude.{is_some, slice_get, option_map, if◌then◌else◌}
use Rattle.wasm_code.specs.Instruction.{Instruction}
use Rattle.wasm_code.specs.declared.immediate.BlockType.{BlockType}
use Rattle.wasm_code.specs.declared.operator.Operator.{Operator}
use Rattle.wasm_code.specs.declared.operator.Operator.TheVariants as op
use Rattle.wasm_code.specs.declared.other.Other.{Other}
use Rattle.wasm_types.specs.Module.{Module}
use Rattle.wasm_types.specs.declared.types.PrimitiveTypeInfo.{PrimitiveTypeInfo}
use Rattle.wasm_types.specs.declared.types.PrimitiveTypeInfo.TheVariants as primitive
use Rattle.wasm_execution.specs.Values.{asked_types, Value, types, Answer, Gives, Fails, met, State, own_globals, further_globals, Stuck}
use Rattle.wasm_equivalence.specs.control.Function.{Label, Reached, Done, At}
use Rattle.wasm_equivalence.specs.control.Numbers.{are_values}
use Rattle.wasm_equivalence.specs.control.Blocks.{Arity, function_arity, arity_of, Role, handles, tries, catches, delegates, does, role_of, closing, other_part}
use Rattle.wasm_equivalence.specs.control.Standard.{Target, calls, fails, Caught, branches, begins, delegated, Deed, gives, jumps, breaks}
use Rattle.wasm_equivalence.specs.control.Standard.{enters, returns, Beyond}
use Rattle.wasm_equivalence.specs.control.Standard as std
use Rattle.wrapped_code.specs.Handlers.{handles_by}
use Rattle.wrapped_code.proofs.MovedLemmas.{moved, moved_label, moved_labels, moved_reached, next_piece, get_moved, end_moved, part_moved}

-- ---- what operators don't carry

-- what a block makes of an exception, with the number of the part that it begins
abbrev pub moved_caught : (n m : ℕ) → Caught → Caught
moved_caught n m (branches l vs r) = branches l vs r
moved_caught n m (begins j vs r) = begins (moved n m j) vs r
moved_caught n m (delegated l) = delegated l

-- the operator with that number asks what it doesn't carry
abbrev pub IsAsking : List Operator → (k : ℕ) → Type 0
IsAsking structure k = (o : Operator) × (slice_get structure k ≡ Some o) × (std.asks_beyond o ≡ true)

-- Of each operator that asks it, by its new number, the second tells what the first does by the old one.
pub record TellsAlike (n m : ℕ) (structure : List Operator) (beyond other : Beyond) : Type 0 where
  pub labels_are : (k : ℕ) → IsAsking structure k → other.labels (moved n m k) ≡ beyond.labels k
  pub default_is : (k : ℕ) → IsAsking structure k → other.default (moved n m k) ≡ beyond.default k
  pub target_is : (k : ℕ) → IsAsking structure k → (place : Value) (rest : ℕ) → other.target (moved n m k) place rest ≡ beyond.target k place rest
  pub takes_are : (k : ℕ) → IsAsking structure k → other.takes (moved n m k) ≡ beyond.takes k
  pub deed_is : (k : ℕ) → IsAsking structure k → (operands : List Value) (rest : ℕ) →
      other.deed (moved n m k) operands rest ≡ beyond.deed k operands rest
  pub leaves_are : (k : ℕ) → IsAsking structure k → other.leaves (moved n m k) ≡ beyond.leaves k
  pub catchers_are : (k mark rest : ℕ) (o : Other) → slice_get structure k ≡ Some (op.Other o) → handles_by (role_of o) ≡ true →
      other.catcher (moved n m k) mark rest ≡ option_map (moved_caught n m) (beyond.catcher k mark rest)

module _ (xs middle ys : List Operator) (n m : ℕ) (n_is : length xs ≡ n) (m_is : length middle ≡ m)
    (closed : (d k j : ℕ) → j ≡ k + m → closing d k (middle ++ ys) ≡ closing d j ys)
    (parted : (d k j : ℕ) → j ≡ k + m → other_part d k (middle ++ ys) ≡ other_part d j ys) where
  abbrev before : List Operator
  before = xs ++ ys

  abbrev after : List Operator
  after = xs ++ (middle ++ ys)

  ends_moved : (i : ℕ) → closing zero (suc (moved n m i)) (drop (suc (moved n m i)) after) ≡ moved n m (closing zero (suc i) (drop (suc i) before))
  ends_moved = end_moved xs middle ys n m n_is m_is closed parted

  other_moves : (i : ℕ) → other_part zero (suc (moved n m i)) (drop (suc (moved n m i)) after) ≡
      option_map (moved n m) (other_part zero (suc i) (drop (suc i) before))
  other_moves = part_moved xs middle ys n m n_is m_is closed parted

  module _ (w : Module) (results : List PrimitiveTypeInfo) (beyond other : Beyond) (tells : TellsAlike n m before beyond other) where
    abbrev re : Reached → Reached
    re = moved_reached n m

    abbrev las : List Label → List Label
    las = moved_labels n m

    enter_moved : (k : ℕ) (t : BlockType) (labels : List Label) (stack : List Value) (s : State) →
        std.enter w results after (moved n m k) t (las labels) stack s ≡ re (std.enter w results before k t labels stack s)
    enter_moved k t labels stack s =
        ap (λ i. At i (record { opener = moved n m k; height = length stack - length (arity_of w t).starts } ∷ las labels) stack s) (next_piece n m k)

    out_moved : (count : ℕ) (label : Label) (outer : List Label) (stack : List Value) (s : State) →
        std.jump_out w results after count (moved_label n m label) (las outer) stack s ≡ re (std.jump_out w results before count label outer stack s)
    out_moved count label outer stack s =
        ap (λ i. At i (las outer) (std.unwound label.height count stack) s)
        (ap suc (ends_moved label.opener) ∙ next_piece n m (std.end_of w results before label.opener))

    arity_moved : (k : ℕ) → IsAsking before k → std.handler_arity other (moved n m k) ≡ std.handler_arity beyond k
    arity_moved k a =
        ap₂ (λ (ts : List PrimitiveTypeInfo) (us : Option (List PrimitiveTypeInfo)). record { starts = ts; ends = std.left_types us })
        (tells.takes_are k a) (tells.leaves_are k a)

    handled_moved : (label : Label) (outer : List Label) (stack : List Value) (s : State) → IsAsking before label.opener →
        std.jump_out w results after (length (std.handler_arity other (moved n m label.opener)).ends) (moved_label n m label) (las outer) stack s ≡
        re (std.jump_out w results before (length (std.handler_arity beyond label.opener).ends) label outer stack s)
    handled_moved label outer stack s a =
        ap (λ (x : Arity). std.jump_out w results after (length x.ends) (moved_label n m label) (las outer) stack s) (arity_moved label.opener a) ∙
        out_moved (length (std.handler_arity beyond label.opener).ends) label outer stack s

    jump_other_moved : (role : Role) (label : Label) (outer : List Label) (stack : List Value) (s : State) → IsAsking before label.opener →
        std.jump_other w results after other role (moved_label n m label) (las outer) stack s ≡
        re (std.jump_other w results before beyond role label outer stack s)
    jump_other_moved handles label outer stack s a = handled_moved label outer stack s a
    jump_other_moved tries label outer stack s a = handled_moved label outer stack s a
    jump_other_moved catches label outer stack s a = handled_moved label outer stack s a
    jump_other_moved delegates label outer stack s a = refl
    jump_other_moved does label outer stack s a = refl

    jump_moved : (o : Option Operator) (label : Label) (outer : List Label) (stack : List Value) (s : State) → slice_get before label.opener ≡ o →
        std.jump_to w results after other o (moved_label n m label) (las outer) stack s ≡ re (std.jump_to w results before beyond o label outer stack s)
    jump_moved (Some (op.Loop t)) label outer stack s at =
        ap (λ i. At i (moved_label n m label ∷ las outer) (std.unwound label.height (length (arity_of w t).starts) stack) s) (next_piece n m label.opener)
    jump_moved (Some (op.Block t)) label outer stack s at = out_moved (length (arity_of w t).ends) label outer stack s
    jump_moved (Some (op.If t)) label outer stack s at = out_moved (length (arity_of w t).ends) label outer stack s
    jump_moved (Some (op.Other o)) label outer stack s at = jump_other_moved (role_of o) label outer stack s (op.Other o, at, refl)
    jump_moved o label outer stack s at = refl

    pub branch_moved : (l : ℕ) (labels : List Label) (stack : List Value) (s : State) →
        std.branch w results after other l (las labels) stack s ≡ re (std.branch w results before beyond l labels stack s)
    branch_moved zero [] stack s = refl
    branch_moved (suc l) [] stack s = refl
    branch_moved zero (label ∷ outer) stack s =
        ap (λ o. std.jump_to w results after other o (moved_label n m label) (las outer) stack s) (get_moved xs middle ys n m n_is m_is label.opener) ∙
        jump_moved (slice_get before label.opener) label outer stack s refl
    branch_moved (suc l) (label ∷ outer) stack s = branch_moved l outer stack s

    otherwise_moved : (o : Option ℕ) (k : ℕ) (t : BlockType) (labels : List Label) (stack : List Value) (s : State) →
        std.otherwise w results after (option_map (moved n m) o) (moved n m k) t (las labels) stack s ≡ re (std.otherwise w results before o k t labels stack s)
    otherwise_moved (Some e) k t labels stack s =
        ap (λ i. At i (record { opener = moved n m k; height = length stack - length (arity_of w t).starts } ∷ las labels) stack s) (next_piece n m e)
    otherwise_moved None k t labels stack s =
        ap (λ i. At i (las labels) stack s) (ap suc (ends_moved k) ∙ next_piece n m (std.end_of w results before k))

    close_moved : (k : ℕ) (labels : List Label) (stack : List Value) (s : State) →
        std.close w results after (suc (moved n m k)) (las labels) stack s ≡ re (std.close w results before (suc k) labels stack s)
    close_moved k [] stack s = refl
    close_moved k (label ∷ outer) stack s = ap (λ i. At i (las outer) stack s) (next_piece n m k)

    skip_moved : (labels : List Label) (stack : List Value) (s : State) →
        std.skip w results after (las labels) stack s ≡ re (std.skip w results before labels stack s)
    skip_moved [] stack s = refl
    skip_moved (label ∷ outer) stack s =
        ap (λ i. At i (las outer) stack s) (ap suc (ends_moved label.opener) ∙ next_piece n m (std.end_of w results before label.opener))

    chosen_moved : (t : PrimitiveTypeInfo) (i : ℕ) (a b x y : Reached) → a ≡ re x → b ≡ re y → std.chosen t i a b ≡ re (std.chosen t i x y)
    chosen_moved primitive.I32 zero a b x y h k = k
    chosen_moved primitive.I32 (suc i) a b x y h k = h
    chosen_moved t i a b x y h k = refl

    choose_moved : (vs : List Value) (a b x y : Reached) → a ≡ re x → b ≡ re y → std.choose_by_value vs a b ≡ re (std.choose_by_value vs x y)
    choose_moved [] a b x y h k = refl
    choose_moved (c ∷ []) a b x y h k = chosen_moved c.type c.number a b x y h k
    choose_moved (c ∷ d ∷ vs) a b x y h k = refl

    by_moved : (count k : ℕ) (t : PrimitiveTypeInfo) (i : ℕ) (labels : List Label) (stack : List Value) (s : State) → IsAsking before k →
        std.branch_by w results after other count (moved n m k) t i (las labels) stack s ≡
        re (std.branch_by w results before beyond count k t i labels stack s)
    by_moved count k primitive.I32 i labels stack s a =
        ap₂ (λ (ls : List ℕ) (d : ℕ). std.branch w results after other (std.label_at (take count ls) d i) (las labels) stack s) (tells.labels_are k a)
        (tells.default_is k a) ∙
        branch_moved (std.label_at (take count (beyond.labels k)) (beyond.default k) i) labels stack s
    by_moved count k t i labels stack s a = refl

    on_moved : (count k : ℕ) (vs : List Value) (labels : List Label) (stack : List Value) (s : State) → IsAsking before k →
        std.branch_on w results after other count (moved n m k) vs (las labels) stack s ≡
        re (std.branch_on w results before beyond count k vs labels stack s)
    on_moved count k [] labels stack s a = refl
    on_moved count k (c ∷ []) labels stack s a = by_moved count k c.type c.number labels stack s a
    on_moved count k (c ∷ d ∷ vs) labels stack s a = refl

    only_moved : (vs : List Value) (a x : Reached) → a ≡ re x → std.only_values w results after vs a ≡ re (std.only_values w results before vs x)
    only_moved vs a x h = go (are_values vs)
      where
        go : (b : Bool) → (if b then a else Done Stuck) ≡ re (if b then x else Done Stuck)
        go true = h
        go false = refl

    -- exceptions

    caught_by_moved : (o : Other) (role : Role) (k mark rest : ℕ) → slice_get before k ≡ Some (op.Other o) → role_of o ≡ role →
        std.caught_by w results after other role (moved n m k) mark rest ≡
        option_map (moved_caught n m) (std.caught_by w results before beyond role k mark rest)
    caught_by_moved o handles k mark rest at is = tells.catchers_are k mark rest o at (ap handles_by is)
    caught_by_moved o tries k mark rest at is = tells.catchers_are k mark rest o at (ap handles_by is)
    caught_by_moved o catches k mark rest at is = refl
    caught_by_moved o delegates k mark rest at is = refl
    caught_by_moved o does k mark rest at is = refl

    caught_at_moved : (o : Option Operator) (k mark rest : ℕ) → slice_get before k ≡ o →
        std.caught_at w results after other o (moved n m k) mark rest ≡ option_map (moved_caught n m) (std.caught_at w results before beyond o k mark rest)
    caught_at_moved (Some (op.Other o)) k mark rest at = caught_by_moved o (role_of o) k mark rest at refl
    caught_at_moved o k mark rest at = refl

    or_caught_moved : (c : Option Caught) (height : ℕ) (outer : List Label) (stack : List Value) (s : State) (later late : ℕ → Reached) →
        ((i : ℕ) → later i ≡ re (late i)) →
        std.or_caught w results after other (option_map (moved_caught n m) c) height (las outer) stack s later ≡
        re (std.or_caught w results before beyond c height outer stack s late)
    or_caught_moved (Some (branches l vs r)) height outer stack s later late h =
        only_moved vs (std.branch w results after other l (las outer) (take height stack ++ vs) (record s { rest = r }))
        (std.branch w results before beyond l outer (take height stack ++ vs) (record s { rest = r }))
        (branch_moved l outer (take height stack ++ vs) (record s { rest = r }))
    or_caught_moved (Some (begins j vs r)) height outer stack s later late h =
        only_moved vs (At (suc (moved n m j)) (record { opener = moved n m j; height = height } ∷ las outer) (take height stack ++ vs) (record s { rest = r }))
        (At (suc j) (record { opener = j; height = height } ∷ outer) (take height stack ++ vs) (record s { rest = r }))
        (ap (λ i. At i (record { opener = moved n m j; height = height } ∷ las outer) (take height stack ++ vs) (record s { rest = r })) (next_piece n m j))
    or_caught_moved (Some (delegated l)) height outer stack s later late h = h l
    or_caught_moved None height outer stack s later late h = h 0

    thrown_moved : (mark skipped : ℕ) (labels : List Label) (stack : List Value) (s : State) →
        std.thrown w results after other mark skipped (las labels) stack s ≡ re (std.thrown w results before beyond mark skipped labels stack s)
    thrown_moved mark skipped [] stack s = refl
    thrown_moved mark (suc i) (label ∷ outer) stack s = thrown_moved mark i outer stack s
    thrown_moved mark zero (label ∷ outer) stack s =
        let later : ℕ → Reached = λ i. std.thrown w results after other mark i (las outer) stack s in
        let late : ℕ → Reached = λ i. std.thrown w results before beyond mark i outer stack s in
        ap (λ (c : Option Caught). std.or_caught w results after other c label.height (las outer) stack s later)
        (ap (λ o. std.caught_at w results after other o (moved n m label.opener) mark s.rest) (get_moved xs middle ys n m n_is m_is label.opener) ∙
        caught_at_moved (slice_get before label.opener) label.opener mark s.rest refl) ∙
        or_caught_moved (std.caught_at w results before beyond (slice_get before label.opener) label.opener mark s.rest) label.height outer stack s later late
        (λ i. thrown_moved mark i outer stack s)

    -- calls

    abbrev Next : Type 0
    Next = List Value → State → Reached

    abbrev GoesOn : (next late : Next) → Type 0
    GoesOn next late = (vs : List Value) (t : State) → next vs t ≡ re (late vs t)

    next_moved : (k : ℕ) (labels : List Label) → GoesOn (At (suc (moved n m k)) (las labels)) (At (suc k) labels)
    next_moved k labels vs t = ap (λ i. At i (las labels) vs t) (next_piece n m k)

    answered_moved : (next late : Next) → GoesOn next late → (a : Answer) (behind : List Value) (labels : List Label) (below : List Value) (s : State) →
        std.answered_by w results after other next a behind (las labels) below s ≡ re (std.answered_by w results before beyond late a behind labels below s)
    answered_moved next late h (Gives us gs r) behind labels below s = h (below ++ us) (record s { globals = gs ++ behind; rest = r })
    answered_moved next late h (Fails (met mark) gs r) behind labels below s =
        thrown_moved mark 0 labels below (record s { globals = gs ++ behind; rest = r })
    answered_moved next late h (Fails cause gs r) behind labels below s = refl

    called_moved : (next late : Next) → GoesOn next late → (i : Instruction) (vs : List Value) (labels : List Label) (below : List Value) (s : State) →
        std.called w results after other next i vs (las labels) below s ≡ re (std.called w results before beyond late i vs labels below s)
    called_moved next late h i vs labels below s = go (is_some (asked_types w i (types vs)))
      where
        answer : Answer
        answer = s.world.answer i vs (own_globals s) s.rest

        behind : List Value
        behind = s.world.others i vs (own_globals s) s.rest (further_globals s)

        go : (b : Bool) → (if b then std.answered_by w results after other next (s.world.answer i vs (own_globals s) s.rest)
            (s.world.others i vs (own_globals s) s.rest (further_globals s)) (las labels) below s else Done Stuck) ≡
            re (if b then std.answered_by w results before beyond late (s.world.answer i vs (own_globals s) s.rest)
            (s.world.others i vs (own_globals s) s.rest (further_globals s)) labels below s else Done Stuck)
        go true =
            answered_moved next late h (s.world.answer i vs (own_globals s) s.rest) (s.world.others i vs (own_globals s) s.rest (further_globals s))
            labels below s
        go false = refl

    target_moved : (t : Target) (type k : ℕ) (labels : List Label) (stack : List Value) (s : State) →
        std.call_target w results after other t type (moved n m k) (las labels) stack s ≡ re (std.call_target w results before beyond t type k labels stack s)
    target_moved (fails mark) type k labels stack s = refl
    target_moved (calls i) type k labels stack s =
        let count = length (function_arity (slice_get w.types type)).starts in
        called_moved (At (suc (moved n m k)) (las labels)) (At (suc k) labels) (next_moved k labels) i (std.last_of count stack) labels
        (take (length stack - count) stack) s

    call_moved : (type k : ℕ) (vs : List Value) (labels : List Label) (stack : List Value) (s : State) → IsAsking before k →
        std.call_at w results after other type (moved n m k) vs (las labels) stack s ≡ re (std.call_at w results before beyond type k vs labels stack s)
    call_moved type k [] labels stack s a = refl
    call_moved type k (c ∷ []) labels stack s a =
        ap (λ t. std.call_target w results after other t type (moved n m k) (las labels) stack s) (tells.target_is k a c s.rest) ∙
        target_moved (beyond.target k c s.rest) type k labels stack s
    call_moved type k (c ∷ d ∷ vs) labels stack s a = refl

    -- other operators

    done_moved : (d : Deed) (k : ℕ) (labels : List Label) (below : List Value) (s : State) →
        std.done w results after other d (moved n m k) (las labels) below s ≡ re (std.done w results before beyond d k labels below s)
    done_moved (gives vs r) k labels below s =
        only_moved vs (At (suc (moved n m k)) (las labels) (below ++ vs) (record s { rest = r })) (At (suc k) labels (below ++ vs) (record s { rest = r }))
        (next_moved k labels (below ++ vs) (record s { rest = r }))
    done_moved (jumps l vs r) k labels below s =
        only_moved vs (std.branch w results after other l (las labels) (below ++ vs) (record s { rest = r }))
        (std.branch w results before beyond l labels (below ++ vs) (record s { rest = r })) (branch_moved l labels (below ++ vs) (record s { rest = r }))
    done_moved (breaks mark r) k labels below s = thrown_moved mark 0 labels below (record s { rest = r })
    done_moved (enters i vs) k labels below s =
        only_moved vs (std.called w results after other (At (suc (moved n m k)) (las labels)) i vs (las labels) below s)
        (std.called w results before beyond (At (suc k) labels) i vs labels below s)
        (called_moved (At (suc (moved n m k)) (las labels)) (At (suc k) labels) (next_moved k labels) i vs labels below s)
    done_moved (returns i vs) k labels below s =
        only_moved vs (std.called w results after other (std.leave w results after) i vs [] below s)
        (std.called w results before beyond (std.leave w results before) i vs [] below s)
        (called_moved (std.leave w results after) (std.leave w results before) (λ vs t. refl) i vs [] below s)

    handler_moved : (k : ℕ) (labels : List Label) (stack : List Value) (s : State) → IsAsking before k →
        std.enter_handler w results after other (moved n m k) (las labels) stack s ≡ re (std.enter_handler w results before beyond k labels stack s)
    handler_moved k labels stack s a =
        ap (λ (x : Arity). At (suc (moved n m k)) (record { opener = moved n m k; height = length stack - length x.starts } ∷ las labels) stack s)
        (arity_moved k a) ∙
        ap (λ i. At i (record { opener = moved n m k; height = length stack - length (std.handler_arity beyond k).starts } ∷ las labels) stack s)
        (next_piece n m k)

    other_moved : (role : Role) (k : ℕ) (labels : List Label) (stack : List Value) (s : State) → IsAsking before k →
        std.other_at w results after role other (moved n m k) (las labels) stack s ≡ re (std.other_at w results before role beyond k labels stack s)
    other_moved handles k labels stack s a = handler_moved k labels stack s a
    other_moved tries k labels stack s a = handler_moved k labels stack s a
    other_moved catches k labels stack s a = skip_moved labels stack s
    other_moved delegates k labels stack s a = close_moved k labels stack s
    other_moved does k labels stack s a =
        let count = length (beyond.takes k) in
        ap (λ (ts : List PrimitiveTypeInfo). std.done w results after other (other.deed (moved n m k) (std.last_of (length ts) stack) s.rest) (moved n m k)
        (las labels) (take (length stack - length ts) stack) s) (tells.takes_are k a) ∙
        (ap (λ (d : Deed). std.done w results after other d (moved n m k) (las labels) (take (length stack - count) stack) s)
        (tells.deed_is k a (std.last_of count stack) s.rest) ∙
        done_moved (beyond.deed k (std.last_of count stack) s.rest) k labels (take (length stack - count) stack) s)

    operator_moved : (o : Option Operator) (k : ℕ) (labels : List Label) (stack : List Value) (s : State) → slice_get before k ≡ o →
        std.by_operator w results after other o (moved n m k) (las labels) stack s ≡ re (std.by_operator w results before beyond o k labels stack s)
    operator_moved (Some (op.Block t)) k labels stack s at = enter_moved k t labels stack s
    operator_moved (Some (op.Loop t)) k labels stack s at = enter_moved k t labels stack s
    operator_moved (Some (op.If t)) k labels stack s at =
        let below = take (length stack - 1) stack in
        choose_moved (std.last_of 1 stack) (std.enter w results after (moved n m k) t (las labels) below s)
        (std.otherwise w results after (other_part zero (suc (moved n m k)) (drop (suc (moved n m k)) after)) (moved n m k) t (las labels) below s)
        (std.enter w results before k t labels below s)
        (std.otherwise w results before (other_part zero (suc k) (drop (suc k) before)) k t labels below s) (enter_moved k t labels below s)
        (ap (λ o. std.otherwise w results after o (moved n m k) t (las labels) below s) (other_moves k) ∙
        otherwise_moved (other_part zero (suc k) (drop (suc k) before)) k t labels below s)
    operator_moved (Some op.Else) k labels stack s at = skip_moved labels stack s
    operator_moved (Some op.End) k labels stack s at = close_moved k labels stack s
    operator_moved (Some (op.Br l)) k labels stack s at = branch_moved l labels stack s
    operator_moved (Some (op.BrIf l)) k labels stack s at =
        let below = take (length stack - 1) stack in
        choose_moved (std.last_of 1 stack) (std.branch w results after other l (las labels) below s) (At (suc (moved n m k)) (las labels) below s)
        (std.branch w results before beyond l labels below s) (At (suc k) labels below s) (branch_moved l labels below s) (next_moved k labels below s)
    operator_moved (Some (op.BrTable x)) k labels stack s at =
        on_moved x k (std.last_of 1 stack) labels (take (length stack - 1) stack) s (op.BrTable x, at, refl)
    operator_moved (Some op.Return) k labels stack s at = refl
    operator_moved (Some op.Unreachable) k labels stack s at = refl
    operator_moved (Some (op.CallIndirect type table)) k labels stack s at =
        call_moved type k (std.last_of 1 stack) labels (take (length stack - 1) stack) s (op.CallIndirect type table, at, refl)
    operator_moved (Some (op.Other o)) k labels stack s at = other_moved (role_of o) k labels stack s (op.Other o, at, refl)
    operator_moved None k labels stack s at = refl
    operator_moved (Some o) k labels stack s at = refl

    pub control_moved : (k : ℕ) (labels : List Label) (stack : List Value) (s : State) →
        std.standard w results after other (moved n m k) (las labels) stack s ≡ re (std.standard w results before beyond k labels stack s)
    control_moved k labels stack s =
        ap (λ o. std.by_operator w results after other o (moved n m k) (las labels) stack s) (get_moved xs middle ys n m n_is m_is k) ∙
        operator_moved (slice_get before k) k labels stack s refl
