-- What wrapped code pushes.
use Rattle.std.proofs.Common.{◌≡◌, ℕ, zero, suc, ◌-◌, Bool, true, false, List, [], ◌∷◌, ◌++◌, length, take, drop, Option, Some, None, refl}
use Rattle.std.proofs.Common.{sym, ap, ap₂, ◌∙◌, arith, append-nil, subst}
use Rattle.std.specs.Prelude.{◌&&◌, ◌||◌, ◌==◌, nat_le, replicate, slice_get, option_map, option_and_then, if◌then◌else◌}
use Rattle.std.proofs.lemmas.Bool.{or_parts}
use Rattle.std.proofs.lemmas.List.{length-append}
use Rattle.wasm_code.specs.declared.immediate.BlockType.{BlockType}
use Rattle.wasm_code.specs.declared.operator.Operator.{Operator}
use Rattle.wasm_code.specs.declared.operator.Operator.TheVariants as op
use Rattle.wasm_types.specs.declared.types.PrimitiveTypeInfo.{PrimitiveTypeInfo}
use Rattle.wasm_types.specs.declared.types.PrimitiveTypeInfo.TheVariants as primitive
use Rattle.wasm_execution.specs.Values.{Context}
use Rattle.wasm_equivalence.specs.control.Blocks.{Arity, arity_of, has_arity}
use Rattle.wasm_equivalence.specs.validation.Algorithm.{OperandEntry, all_may_be, known, Frame, check_code, popped, with_pushed, on_innermost}
use Rattle.wasm_equivalence.specs.validation.StandardSteps.{pop, push, cut_off, opened_by, open_frame, label_types, frame_is_empty}
use Rattle.wasm_equivalence.specs.validation.StandardSteps.{can_close, leaves_alike, close_frame, other_of, other_frame, only_where}
use Rattle.wasm_equivalence.specs.validation.StaysValid.{with_types}
use Rattle.wrapped_code.specs.Wrapped.{Wrapped, has_operators, plain, both, block, loop, choice, leaving, exits, once, trap, check_wrapped}
use Rattle.wrapped_code.specs.Ways.{WrappedPushes, WrappedCodePushes, PushedCodeChecksAs, PushingCodeIsThere}
use Rattle.wrapped_code.proofs.FrameLemmas.{pop_known, none_on, one_on_other}

-- ---- types that are popped

or_true : (b : Bool) → (b || true) ≡ true
or_true true = refl
or_true false = refl

unknown_are : (ts : List PrimitiveTypeInfo) → all_may_be (replicate (length ts) None) ts ≡ true
unknown_are [] = refl
unknown_are (t ∷ ts) = unknown_are ts

-- where code is cut off any types are popped, and nothing is left
cut_closes : (f : Frame) → can_close (cut_off f) ≡ true
cut_closes f =
    let ts = f.ends in
    let n = length ts in
    let g = cut_off f in
    let none : n - 0 ≡ n = omega arith in
    let fits : all_may_be (popped n g) ts ≡ true =
    ap (λ (es : List OperandEntry). all_may_be es ts) (ap (λ (k : ℕ). replicate k None ++ drop (0 - n) []) none ∙
    (ap (λ (es : List OperandEntry). replicate n None ++ es) (drop_none (0 - n)) ∙ append-nil (replicate n None))) ∙ unknown_are ts in
    ap₂ (λ (a b : Bool). frame_is_empty (if a && b then Some (with_pushed n g []) else None)) (or_true (nat_le n 0)) fits ∙
    ap (λ (es : List OperandEntry). length (es ++ []) == 0) (take_none (0 - n))
  where
    drop_none : (k : ℕ) → ◌≡◌ {A = List OperandEntry} (drop k []) []
    drop_none zero = refl
    drop_none (suc k) = refl

    take_none : (k : ℕ) → ◌≡◌ {A = List OperandEntry} (take k []) []
    take_none zero = refl
    take_none (suc k) = refl

-- ---- frames that open and close

-- the frame that an operator opens, with nothing in it
abbrev bare : Operator → Arity → Frame
bare o a = record { opened = Some o; starts = a.starts; ends = a.ends; operands = []; unreachable = false }

opens_on : (o : Operator) (a : Arity) (f : Frame) (outer : List Frame) →
    open_frame o a (with_types a.starts f ∷ outer) ≡ Some (with_types a.starts (bare o a) ∷ (f ∷ outer))
opens_on o a f outer = ap (λ x. option_map (λ fs. opened_by o a ∷ fs) (option_map (λ g. g ∷ outer) x)) (pop_known a.starts f)

full_closes : (o : Operator) (a : Arity) → can_close (with_types a.ends (bare o a)) ≡ true
full_closes o a = ap frame_is_empty (pop_known a.ends (bare o a))

-- a frame that may close, and is no conditional's first part
closes_on : (g f : Frame) (outer : List Frame) → can_close g ≡ true → leaves_alike g.opened (record { starts = g.starts; ends = g.ends }) ≡ true →
    close_frame (g ∷ (f ∷ outer)) ≡ Some (with_types g.ends f ∷ outer)
closes_on g f outer can alike = ap₂ (λ (a b : Bool). if a && b then Some (push g.ends f ∷ outer) else None) can alike

parts_on : (g f : Frame) (outer : List Frame) (t : BlockType) → can_close g ≡ true → g.opened ≡ Some (op.If t) →
    other_frame (g ∷ (f ∷ outer)) ≡ Some (opened_by op.Else (record { starts = g.starts; ends = g.ends }) ∷ (f ∷ outer))
parts_on g f outer t can is =
    ap (λ o. other_of o g (f ∷ outer)) is ∙
    ap (λ (a : Bool). if a then Some (opened_by op.Else (record { starts = g.starts; ends = g.ends }) ∷ (f ∷ outer)) else None) can

module _ (context : Context) (t : BlockType) (has : has_arity context.info t ≡ true) where
  abbrev ar : Arity
  ar = arity_of context.info t

  opening : (o : Operator) (f : Frame) (outer : List Frame) →
      only_where (has_arity context.info t) (open_frame o ar (with_types ar.starts f ∷ outer)) ≡ Some (with_types ar.starts (bare o ar) ∷ (f ∷ outer))
  opening o f outer = ap (λ (b : Bool). only_where b (open_frame o ar (with_types ar.starts f ∷ outer))) has ∙ opens_on o ar f outer

  -- a conditional pops its condition first
  opening_if : (f : Frame) (outer : List Frame) →
      only_where (has_arity context.info t) (option_and_then (open_frame (op.If t) ar)
      (on_innermost (pop (primitive.I32 ∷ [])) (with_types (ar.starts ++ primitive.I32 ∷ []) f ∷ outer))) ≡
      Some (with_types ar.starts (bare (op.If t) ar) ∷ (f ∷ outer))
  opening_if f outer =
      ap (λ (b : Bool). only_where b (option_and_then (open_frame (op.If t) ar)
      (on_innermost (pop (primitive.I32 ∷ [])) (with_types (ar.starts ++ primitive.I32 ∷ []) f ∷ outer)))) has ∙
      (ap (λ (x : Option Frame). option_and_then (open_frame (op.If t) ar) (option_map (λ g. g ∷ outer) x))
      (ap (pop (primitive.I32 ∷ [])) (sym (one_on_other ar.starts (primitive.I32 ∷ []) f)) ∙ pop_known (primitive.I32 ∷ []) (with_types ar.starts f)) ∙
      opens_on (op.If t) ar f outer)

  push_block : (a : Wrapped) → WrappedPushes context a ar.starts ar.ends → WrappedPushes context (block t a) ar.starts ar.ends
  push_block a h f outer =
      ap (λ x. option_and_then close_frame (option_and_then (check_wrapped context a) x)) (opening (op.Block t) f outer) ∙
      (ap (option_and_then close_frame) (h (bare (op.Block t) ar) (f ∷ outer)) ∙
      closes_on (with_types ar.ends (bare (op.Block t) ar)) f outer (full_closes (op.Block t) ar) refl)

  push_loop : (a : Wrapped) → WrappedPushes context a ar.starts ar.ends → WrappedPushes context (loop t a) ar.starts ar.ends
  push_loop a h f outer =
      ap (λ x. option_and_then close_frame (option_and_then (check_wrapped context a) x)) (opening (op.Loop t) f outer) ∙
      (ap (option_and_then close_frame) (h (bare (op.Loop t) ar) (f ∷ outer)) ∙
      closes_on (with_types ar.ends (bare (op.Loop t) ar)) f outer (full_closes (op.Loop t) ar) refl)

  -- the parts of a conditional, each of which leaves a frame that may close
  record Part (o : Operator) (a : Wrapped) : Type 0 where
    final : Frame
    opened_is : final.opened ≡ Some o
    starts_are : final.starts ≡ ar.starts
    ends_are : final.ends ≡ ar.ends
    closes : can_close final ≡ true
    is : (outer : List Frame) → check_wrapped context a (with_types ar.starts (bare o ar) ∷ outer) ≡ Some (final ∷ outer)

  typed_part : (o : Operator) (a : Wrapped) → WrappedPushes context a ar.starts ar.ends → Part o a
  typed_part o a h = record {
    final = with_types ar.ends (bare o ar);
    opened_is = refl;
    starts_are = refl;
    ends_are = refl;
    closes = full_closes o ar;
    is = λ outer. h (bare o ar) outer;
  }

  trap_part : (o : Operator) → Part o trap
  trap_part o = record {
    final = cut_off (bare o ar);
    opened_is = refl;
    starts_are = refl;
    ends_are = refl;
    closes = cut_closes (bare o ar);
    is = λ outer. refl;
  }

  push_parts : (a b : Wrapped) → Part (op.If t) a → Part op.Else b →
      WrappedPushes context (choice t a b) (ar.starts ++ primitive.I32 ∷ []) ar.ends
  push_parts a b x y f outer =
      let both_are : ◌≡◌ {A = Arity} (record { starts = x.final.starts; ends = x.final.ends }) ar =
      ap₂ (λ (s e : List PrimitiveTypeInfo). record { starts = s; ends = e }) x.starts_are x.ends_are in
      ap (λ z. option_and_then close_frame (option_and_then (check_wrapped context b) (option_and_then other_frame
      (option_and_then (check_wrapped context a) z)))) (opening_if f outer) ∙
      (ap (λ z. option_and_then close_frame (option_and_then (check_wrapped context b) (option_and_then other_frame z))) (x.is (f ∷ outer)) ∙
      (ap (λ z. option_and_then close_frame (option_and_then (check_wrapped context b) z))
      (parts_on x.final f outer t x.closes x.opened_is ∙ ap (λ (z : Arity). Some (opened_by op.Else z ∷ (f ∷ outer))) both_are) ∙
      (ap (option_and_then close_frame) (y.is (f ∷ outer)) ∙
      (closes_on y.final f outer y.closes (ap (λ o. leaves_alike o (record { starts = y.final.starts; ends = y.final.ends })) y.opened_is) ∙
      ap (λ (z : List PrimitiveTypeInfo). Some (with_types z f ∷ outer)) y.ends_are))))

  -- a branch to the end of the block, with other types beneath those that it takes
  cut_on : (vs : List PrimitiveTypeInfo) (outer : List Frame) →
      option_and_then (λ f. on_innermost (λ g. option_map cut_off (pop (label_types f) g)) (with_types (vs ++ ar.ends) (bare (op.Block t) ar) ∷ outer))
      (slice_get (with_types (vs ++ ar.ends) (bare (op.Block t) ar) ∷ outer) 0) ≡ Some (cut_off (bare (op.Block t) ar) ∷ outer)
  cut_on vs outer =
      let f = bare (op.Block t) ar in
      ap (λ x. option_map (λ g. g ∷ outer) (option_map cut_off x))
      (ap (pop ar.ends) (sym (one_on_other vs ar.ends f)) ∙ pop_known ar.ends (with_types vs f))

  push_leaving : (a dead : Wrapped) (vs : List PrimitiveTypeInfo) → WrappedPushes context a ar.starts (vs ++ ar.ends) → (final : Frame) →
      can_close final ≡ true → final.opened ≡ Some (op.Block t) → final.ends ≡ ar.ends →
      ((outer : List Frame) → check_wrapped context dead (cut_off (bare (op.Block t) ar) ∷ outer) ≡ Some (final ∷ outer)) →
      WrappedPushes context (leaving t a dead) ar.starts ar.ends
  push_leaving a dead vs h final can opened ends goes f outer =
      let jump : List Frame → Option (List Frame) =
      λ fs. option_and_then (λ f. on_innermost (λ g. option_map cut_off (pop (label_types f) g)) fs) (slice_get fs 0) in
      ap (λ z. option_and_then close_frame (option_and_then (check_wrapped context dead) (option_and_then jump
      (option_and_then (check_wrapped context a) z)))) (opening (op.Block t) f outer) ∙
      (ap (λ z. option_and_then close_frame (option_and_then (check_wrapped context dead) (option_and_then jump z)))
      (h (bare (op.Block t) ar) (f ∷ outer)) ∙
      (ap (λ z. option_and_then close_frame (option_and_then (check_wrapped context dead) z)) (cut_on vs (f ∷ outer)) ∙
      (ap (option_and_then close_frame) (goes (f ∷ outer)) ∙
      (closes_on final f outer can (ap (λ o. leaves_alike o (record { starts = final.starts; ends = final.ends })) opened) ∙
      ap (λ (z : List PrimitiveTypeInfo). Some (with_types z f ∷ outer)) ends))))

  -- a conditional branch to the end of the block
  stays_on : (outer : List Frame) →
      option_and_then (λ f. on_innermost (λ g. option_and_then (λ d. option_map (push (label_types f)) (pop (label_types f) d))
      (pop (primitive.I32 ∷ []) g)) (with_types (ar.ends ++ primitive.I32 ∷ []) (bare (op.Block t) ar) ∷ outer))
      (slice_get (with_types (ar.ends ++ primitive.I32 ∷ []) (bare (op.Block t) ar) ∷ outer) 0) ≡
      Some (with_types ar.ends (bare (op.Block t) ar) ∷ outer)
  stays_on outer =
      let f = bare (op.Block t) ar in
      ap (λ (x : Option Frame). option_map (λ g. g ∷ outer) (option_and_then (λ d. option_map (push ar.ends) (pop ar.ends d)) x))
      (ap (pop (primitive.I32 ∷ [])) (sym (one_on_other ar.ends (primitive.I32 ∷ []) f)) ∙ pop_known (primitive.I32 ∷ []) (with_types ar.ends f)) ∙
      ap (λ (x : Option Frame). option_map (λ g. g ∷ outer) (option_map (push ar.ends) x)) (pop_known ar.ends f)

  push_exits : (a b : Wrapped) → WrappedPushes context a ar.starts (ar.ends ++ primitive.I32 ∷ []) → WrappedPushes context b ar.ends ar.ends →
      WrappedPushes context (exits t a b) ar.starts ar.ends
  push_exits a b h k f outer =
      let jump : List Frame → Option (List Frame) =
      λ fs. option_and_then (λ f. on_innermost (λ g. option_and_then (λ d. option_map (push (label_types f)) (pop (label_types f) d))
      (pop (primitive.I32 ∷ []) g)) fs) (slice_get fs 0) in
      ap (λ z. option_and_then close_frame (option_and_then (check_wrapped context b) (option_and_then jump
      (option_and_then (check_wrapped context a) z)))) (opening (op.Block t) f outer) ∙
      (ap (λ z. option_and_then close_frame (option_and_then (check_wrapped context b) (option_and_then jump z)))
      (h (bare (op.Block t) ar) (f ∷ outer)) ∙
      (ap (λ z. option_and_then close_frame (option_and_then (check_wrapped context b) z)) (stays_on (f ∷ outer)) ∙
      (ap (option_and_then close_frame) (k (bare (op.Block t) ar) (f ∷ outer)) ∙
      closes_on (with_types ar.ends (bare (op.Block t) ar)) f outer (full_closes (op.Block t) ar) refl)))

  -- the same with other types beneath, and a trap behind
  stays_over : (vs : List PrimitiveTypeInfo) (outer : List Frame) →
      option_and_then (λ f. on_innermost (λ g. option_and_then (λ d. option_map (push (label_types f)) (pop (label_types f) d))
      (pop (primitive.I32 ∷ []) g)) (with_types (vs ++ (ar.ends ++ primitive.I32 ∷ [])) (bare (op.Block t) ar) ∷ outer))
      (slice_get (with_types (vs ++ (ar.ends ++ primitive.I32 ∷ [])) (bare (op.Block t) ar) ∷ outer) 0) ≡
      Some (with_types ar.ends (with_types vs (bare (op.Block t) ar)) ∷ outer)
  stays_over vs outer =
      let f = with_types vs (bare (op.Block t) ar) in
      ap (λ (x : Option Frame). option_map (λ g. g ∷ outer) (option_and_then (λ d. option_map (push ar.ends) (pop ar.ends d)) x))
      (ap (pop (primitive.I32 ∷ []))
      (sym (one_on_other ar.ends (primitive.I32 ∷ []) f ∙ one_on_other vs (ar.ends ++ primitive.I32 ∷ []) (bare (op.Block t) ar))) ∙
      pop_known (primitive.I32 ∷ []) (with_types ar.ends f)) ∙
      ap (λ (x : Option Frame). option_map (λ g. g ∷ outer) (option_map (push ar.ends) x)) (pop_known ar.ends f)

  push_sure : (a : Wrapped) (vs : List PrimitiveTypeInfo) → WrappedPushes context a ar.starts (vs ++ (ar.ends ++ primitive.I32 ∷ [])) →
      WrappedPushes context (exits t a trap) ar.starts ar.ends
  push_sure a vs h f outer =
      let jump : List Frame → Option (List Frame) =
      λ fs. option_and_then (λ f. on_innermost (λ g. option_and_then (λ d. option_map (push (label_types f)) (pop (label_types f) d))
      (pop (primitive.I32 ∷ []) g)) fs) (slice_get fs 0) in
      ap (λ z. option_and_then close_frame (option_and_then (check_wrapped context trap) (option_and_then jump
      (option_and_then (check_wrapped context a) z)))) (opening (op.Block t) f outer) ∙
      (ap (λ z. option_and_then close_frame (option_and_then (check_wrapped context trap) (option_and_then jump z)))
      (h (bare (op.Block t) ar) (f ∷ outer)) ∙
      (ap (λ z. option_and_then close_frame (option_and_then (check_wrapped context trap) z)) (stays_over vs (f ∷ outer)) ∙
      closes_on (cut_off (bare (op.Block t) ar)) f outer (cut_closes (bare (op.Block t) ar)) refl))

  -- a conditional jump back, to a loop that takes nothing
  jumps_on : ar.starts ≡ [] → (outer : List Frame) →
      option_and_then (λ f. on_innermost (λ g. option_and_then (λ d. option_map (push (label_types f)) (pop (label_types f) d))
      (pop (primitive.I32 ∷ []) g)) (with_types (ar.ends ++ primitive.I32 ∷ []) (bare (op.Loop t) ar) ∷ outer))
      (slice_get (with_types (ar.ends ++ primitive.I32 ∷ []) (bare (op.Loop t) ar) ∷ outer) 0) ≡
      Some (with_types ar.ends (bare (op.Loop t) ar) ∷ outer)
  jumps_on none outer =
      let f = bare (op.Loop t) ar in
      let g = with_types ar.ends f in
      let back : option_map (push ar.starts) (pop ar.starts g) ≡ Some g =
      ap (λ (ts : List PrimitiveTypeInfo). option_map (push ts) (pop ts g)) none ∙
      (ap (option_map (push [])) (ap (pop []) (sym (none_on g)) ∙ pop_known [] g) ∙ ap Some (none_on g)) in
      ap (λ (x : Option Frame). option_map (λ g. g ∷ outer) (option_and_then (λ d. option_map (push ar.starts) (pop ar.starts d)) x))
      (ap (pop (primitive.I32 ∷ [])) (sym (one_on_other ar.ends (primitive.I32 ∷ []) f)) ∙ pop_known (primitive.I32 ∷ []) g) ∙
      ap (option_map (λ (g : Frame). g ∷ outer)) back

  push_once : (a : Wrapped) → ar.starts ≡ [] → WrappedPushes context a [] (ar.ends ++ primitive.I32 ∷ []) → WrappedPushes context (once t a) [] ar.ends
  push_once a none h f outer =
      let jump : List Frame → Option (List Frame) =
      λ fs. option_and_then (λ f. on_innermost (λ g. option_and_then (λ d. option_map (push (label_types f)) (pop (label_types f) d))
      (pop (primitive.I32 ∷ []) g)) fs) (slice_get fs 0) in
      let opens : only_where (has_arity context.info t) (open_frame (op.Loop t) ar (with_types [] f ∷ outer)) ≡
      Some (with_types [] (bare (op.Loop t) ar) ∷ (f ∷ outer)) =
      subst (λ (ts : List PrimitiveTypeInfo). only_where (has_arity context.info t) (open_frame (op.Loop t) ar (with_types ts f ∷ outer)) ≡
      Some (with_types ts (bare (op.Loop t) ar) ∷ (f ∷ outer))) none (opening (op.Loop t) f outer) in
      ap (λ z. option_and_then close_frame (option_and_then jump (option_and_then (check_wrapped context a) z))) opens ∙
      (ap (λ z. option_and_then close_frame (option_and_then jump z)) (h (bare (op.Loop t) ar) (f ∷ outer)) ∙
      (ap (option_and_then close_frame) (jumps_on none (f ∷ outer)) ∙
      closes_on (with_types ar.ends (bare (op.Loop t) ar)) f outer (full_closes (op.Loop t) ar) refl))

pub wrapped_pushes : WrappedCodePushes
wrapped_pushes = record {
  plain_code = λ context code ts us h f outer. ap (option_map (λ (g : Frame). g ∷ outer)) (h f);
  follow = λ context a b ts us vs h k f outer. ap (option_and_then (check_wrapped context b)) (h f outer) ∙ k f outer;
  above = λ context c below ts us h f outer.
      ap (λ (g : Frame). check_wrapped context c (g ∷ outer)) (sym (one_on_other below ts f)) ∙
      (h (with_types below f) outer ∙ ap (λ (g : Frame). Some (g ∷ outer)) (one_on_other below us f));
  in_block = λ context t a has h. push_block context t has a h;
  in_loop = λ context t a has h. push_loop context t has a h;
  in_parts = λ context t a b has h k.
      push_parts context t has a b (typed_part context t has (op.If t) a h) (typed_part context t has op.Else b k);
  in_first = λ context t a has h.
      push_parts context t has a trap (typed_part context t has (op.If t) a h) (trap_part context t has op.Else);
  in_second = λ context t a has h.
      push_parts context t has trap a (trap_part context t has (op.If t)) (typed_part context t has op.Else a h);
  before_dead = λ context t a dead has h k.
      let b = cut_off (bare (op.Block t) (arity_of context.info t)) in
      push_leaving context t has a dead [] h (with_types (arity_of context.info t).ends b)
      (ap frame_is_empty (pop_known (arity_of context.info t).ends b)) refl refl (λ outer. k b outer);
  before_end = λ context t a has h.
      push_leaving context t has a (plain []) [] h (cut_off (bare (op.Block t) (arity_of context.info t)))
      (cut_closes (bare (op.Block t) (arity_of context.info t))) refl refl (λ outer. refl);
  before_end_over = λ context t a vs has h.
      push_leaving context t has a (plain []) vs h (cut_off (bare (op.Block t) (arity_of context.info t)))
      (cut_closes (bare (op.Block t) (arity_of context.info t))) refl refl (λ outer. refl);
  before_trap_over = λ context t a vs has h.
      push_leaving context t has a trap vs h (cut_off (bare (op.Block t) (arity_of context.info t)))
      (cut_closes (bare (op.Block t) (arity_of context.info t))) refl refl (λ outer. refl);
  before_sure_branch = λ context t a vs has h. push_sure context t has a vs h;
  in_once = λ context t a has none h. push_once context t has a none h;
  before_exit = λ context t a b has h k. push_exits context t has a b h k;
}

pub pushed_checks : PushedCodeChecksAs
pushed_checks context after own c us h k f g outer e =
    let there : ◌≡◌ {A = Option Frame} (Some g) (Some (with_types us f)) =
    sym e ∙ (ap (check_code context own) (sym (none_on f)) ∙ h f) in
    let same : g ≡ with_types us f = some_is g (with_types us f) there in
    ap (λ (x : Frame). check_wrapped after c (x ∷ outer)) (sym (none_on f)) ∙ (k f outer ∙ ap (λ (x : Frame). Some (x ∷ outer)) (sym same))
  where
    some_is : (f g : Frame) → ◌≡◌ {A = Option Frame} (Some f) (Some g) → f ≡ g
    some_is f g e = cc

-- ---- code without operators

no_check : (context : Context) (c : Wrapped) → has_operators c ≡ false → (f : Frame) (outer : List Frame) →
    check_wrapped context c (f ∷ outer) ≡ Some (f ∷ outer)
no_check context (plain []) e f outer = refl
no_check context (plain (i ∷ code)) e f outer = absurd cc
no_check context (both a b) e f outer =
    let p = or_parts (has_operators a) (has_operators b) e in
    ap (option_and_then (check_wrapped context b)) (no_check context a p.0 f outer) ∙ no_check context b p.1 f outer
no_check context c e f outer = absurd cc

pub pushing_is_there : PushingCodeIsThere
pushing_is_there context c t us h = by (has_operators c) refl
  where
    free : Frame
    free = record { opened = None; starts = []; ends = []; operands = []; unreachable = false }

    frame_is : (f g : Frame) → ◌≡◌ {A = Option (List Frame)} (Some (f ∷ [])) (Some (g ∷ [])) → f ≡ g
    frame_is f g e = cc

    something : (es : List OperandEntry) (f : Frame) → f.operands ++ (Some t ∷ es) ≡ f.operands → ⊥
    something es f e = let n = ap length e in let a = length-append f.operands (Some t ∷ es) in absurd (omega arith)

    by : (b : Bool) → has_operators c ≡ b → has_operators c ≡ true
    by true e = e
    by false e =
        absurd (something (known us) free (ap (λ (f : Frame). f.operands)
        (sym (frame_is (with_types [] free) (with_types (t ∷ us) free) (sym (no_check context c e (with_types [] free) []) ∙ h free [])) ∙ none_on free)))
