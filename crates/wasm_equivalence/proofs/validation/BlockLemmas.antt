-- Into the blocks of a valid body, and out of them.
use Rattle.std.proofs.Common.{◌≡◌, ℕ, zero, suc, ◌-◌, ◌<◌, ◌≤◌, inr, true, List, [], ◌∷◌, ◌++◌, length, drop, Option, Some, None, refl, sym}
use Rattle.std.proofs.Common.{ap, ◌∙◌, subst, arith, append_assoc, length-append}
use Rattle.std.specs.Prelude.{slice_get}
use Rattle.std.specs.List.{All}
use Rattle.wasm_code.specs.declared.immediate.BlockType.{BlockType}
use Rattle.wasm_code.specs.declared.operator.Operator.{Operator}
use Rattle.wasm_code.specs.declared.operator.Operator.TheVariants as op
use Rattle.wasm_types.specs.Module.{Module}
use Rattle.wasm_types.specs.declared.types.PrimitiveTypeInfo.{PrimitiveTypeInfo}
use Rattle.wasm_types.specs.declared.types.PrimitiveTypeInfo.TheVariants as primitive
use Rattle.wasm_execution.specs.Values.{same_types, Value, IsValue, State, HasTypes}
use Rattle.wasm_execution.specs.OutcomeLemmas.{length_types}
use Rattle.wasm_execution.specs.RowLemmas.{and_then_some, map_some, same_types_is}
use Rattle.wasm_equivalence.specs.control.Function.{Label, At}
use Rattle.wasm_equivalence.specs.control.Blocks.{Arity, arity_of, has_arity, other_part}
use Rattle.wasm_equivalence.specs.control.Standard.{Caught, parts_of, end_of, enter, jump_to, caught_at, otherwise, close, skip}
use Rattle.wasm_equivalence.specs.validation.Algorithm.{Frame, popped, on_innermost}
use Rattle.wasm_equivalence.specs.validation.StandardSteps.{pop, push, opened_by, open_frame, can_close, leaves_alike, close_frame, other_of}
use Rattle.wasm_equivalence.proofs.validation.PoppedLemmas.{pop_values, close_values, push_values, opened_values}
use Rattle.wasm_equivalence.proofs.validation.RunChecks.{if_some}
use Rattle.wasm_equivalence.proofs.validation.FrameLemmas.{like_itself, like_then}
use Rattle.wasm_equivalence.proofs.validation.ClosingLemmas.{Closed, closes_at}
use Rattle.wasm_equivalence.proofs.validation.WalkLemmas.{Walk, all_front, close_two, open_parts, IsOpen, Catches, Fits, top_of, Stands}
use Rattle.wasm_equivalence.proofs.validation.WalkLemmas.{Next, leave_stands, ends_stand}
use Rattle.wasm_equivalence.proofs.validation.ConditionLemmas.{condition, choose_stands}

pub else_parts : (o : Option Operator) (g : Frame) (outer next : List Frame) → other_of o g outer ≡ Some next →
    (t : BlockType) × (o ≡ Some (op.If t)) × (can_close g ≡ true)
else_parts (Some (op.If t)) g outer next e = (t, refl, (if_some (can_close g) _ next e).0)
else_parts o g outer next e = absurd cc

module _ (walk : Walk) where
  open walk use {context, results, structure, pieces, start, beyond, trace}

  abbrev m : Module
  m = context.info

  abbrev ending : ℕ → ℕ
  ending opener = end_of m results structure opener

  -- ---- into a block

  abbrev pub at_label : ℕ → List Value → Arity → Label
  at_label k stack ar = record { opener = k; height = length stack - length ar.starts }

  -- the block that begins with number k
  pub closed_of : (o : Operator) (ar : Arity) (k : ℕ) (outer : List Frame) → k < length structure → trace.frames (suc k) ≡ opened_by o ar ∷ outer →
      Closed context results structure pieces start beyond trace (opened_by o ar) outer (ending k) (other_part zero (suc k) (drop (suc k) structure))
      (parts_of m results structure k)
  closed_of o ar k outer l e =
      closes_at context results structure pieces start beyond trace (drop (suc k) structure) (suc k) (omega arith) refl zero (opened_by o ar) outer
      (opened_by o ar, e, like_itself (opened_by o ar))

  pub closed_after : (o : Operator) (ar : Arity) (k : ℕ) (h : Frame) (outer : List Frame) → k < length structure →
      trace.frames (suc k) ≡ opened_by o ar ∷ (h ∷ outer) → trace.frames (suc (ending k)) ≡ push ar.ends h ∷ outer
  closed_after o ar k h outer l e =
      let c = closed_of o ar k (h ∷ outer) l e in
      (close_two c.final h outer (trace.frames (suc (ending k))) c.closed_is).0 ∙ ap (λ (ts : List PrimitiveTypeInfo). push ts h ∷ outer) c.ends

  pub enter_stands : (o : Operator) (ar : Arity) (k j : ℕ) (g h : Frame) (outer : List Frame) (labels : List Label) (stack : List Value) (s : State) →
      j ≤ length structure → trace.frames j ≡ opened_by o ar ∷ (h ∷ outer) → IsOpen walk (opened_by o ar) (at_label k stack ar) (h ∷ outer) →
      Fits walk g outer labels stack → pop ar.starts g ≡ Some h → All IsValue stack → HasTypes context s →
      Stands walk (At j (at_label k stack ar ∷ labels) stack s)
  enter_stands o ar k j g h outer labels stack s l e opened fits popped a typed =
      let top = top_of walk g outer labels stack fits in
      let p = pop_values ar.starts g h top.vs top.values popped in
      let whole : stack ≡ (top.below ++ p.rest) ++ p.top =
      top.is ∙ (ap (λ (x : List Value). top.below ++ x) p.is ∙ sym (append_assoc top.below p.rest p.top)) in
      let n : length ar.starts ≡ length p.top = sym (ap length p.typed) ∙ length_types p.top in
      let height : length stack - length ar.starts ≡ length (top.below ++ p.rest) =
      ap (λ (x : List Value). length x - length ar.starts) whole ∙ omega (arith, length-append (top.below ++ p.rest) p.top) in (
        l,
        opened_by o ar,
        h ∷ outer,
        e,
        (top.below ++ p.rest, p.top, whole, opened_values o ar p.top p.typed, height, opened, top.again h p.rest p.like p.left),
        a,
        typed,
      )

  -- what is no handler catches nothing
  pub never_catches : (f : Frame) (label : Label) (outer : List Frame) (o : Operator) → slice_get structure label.opener ≡ Some o →
      ((mark rest : ℕ) → caught_at m results structure beyond (Some o) label.opener mark rest ≡ None) → Catches walk f label outer
  never_catches f label outer o at none mark rest c e =
      let same : ◌≡◌ {A = Option Caught} None (Some c) =
      sym (none mark rest) ∙ (ap (λ x. caught_at m results structure beyond x label.opener mark rest) (sym at) ∙ e) in
      absurd cc

  -- ---- out of a block

  pub skip_stands : (g : Frame) (outer : List Frame) (labels : List Label) (stack : List Value) (s : State) (x : Operator) → Fits walk g outer labels stack →
      g.opened ≡ Some x → can_close g ≡ true → All IsValue stack → HasTypes context s → Stands walk (skip m results structure labels stack s)
  skip_stands g [] [] stack s x fits o c a typed = let none : ◌≡◌ {A = Option Operator} None (Some x) = sym fits.0 ∙ o in absurd cc
  skip_stands g [] (label ∷ labels) stack s x fits o c a typed = absurd fits
  skip_stands g (h ∷ hs) [] stack s x fits o c a typed = absurd fits
  skip_stands g (h ∷ hs) (label ∷ labels) stack s x fits o c a typed =
      let (below, vs, is, v, height, opened, outer) = fits in
      subst (λ x. Stands walk (At (suc (ending label.opener)) labels x s)) (sym is)
      (ends_stand walk g (h ∷ hs) label labels below vs s opened (close_values g vs v c ∙ opened.ends) h hs refl outer
      (subst (All IsValue) is a) typed)

  pub close_stands : (k : ℕ) (g : Frame) (outer : List Frame) (labels : List Label) (stack : List Value) (s : State) → k < length structure →
      Fits walk g outer labels stack → close_frame (g ∷ outer) ≡ Some (trace.frames (suc k)) → All IsValue stack → HasTypes context s →
      Stands walk (close m results structure (suc k) labels stack s)
  close_stands k g [] [] stack s l fits e a typed =
      leave_stands walk [] stack s (close_values g stack fits.2 (if_some (can_close g) (Some []) (trace.frames (suc k)) e).0 ∙ fits.1) a
  close_stands k g [] (label ∷ labels) stack s l fits e a typed = absurd fits
  close_stands k g (h ∷ hs) [] stack s l fits e a typed = absurd fits
  close_stands k g (h ∷ hs) (label ∷ labels) stack s l fits e a typed =
      let (below, vs, is, v, height, opened, outer) = fits in
      let (next, can, alike) = close_two g h hs (trace.frames (suc k)) e in
      let top = top_of walk h hs labels below outer in
      let whole : stack ≡ top.below ++ (top.vs ++ vs) =
      is ∙ (ap (λ (x : List Value). x ++ vs) top.is ∙ append_assoc top.below top.vs vs) in (
        omega arith,
        push g.ends h,
        hs,
        next,
        subst (Fits walk (push g.ends h) hs labels) (sym whole) (top.again (push g.ends h) (top.vs ++ vs)
            (record { opened = refl; starts = refl; ends = refl }) (push_values g.ends h top.vs vs top.values (close_values g vs v can))),
        a,
        typed,
      )

  -- behind a conditional that has no other part
  without_else : (t : BlockType) (k : ℕ) (g h : Frame) (outer : List Frame) (labels : List Label) (stack : List Value) (s : State) →
      k < length structure → trace.frames (suc k) ≡ opened_by (op.If t) (arity_of m t) ∷ (h ∷ outer) →
      other_part zero (suc k) (drop (suc k) structure) ≡ None → Fits walk g outer labels stack → pop (arity_of m t).starts g ≡ Some h → All IsValue stack →
      HasTypes context s → Stands walk (At (suc (ending k)) labels stack s)
  without_else t k g h outer labels stack s l e none fits popped a typed =
      let ar = arity_of m t in
      let c = closed_of (op.If t) ar k (h ∷ outer) l e in
      let inside = c.inside in
      let alike = (close_two c.final h outer (trace.frames (suc (ending k))) c.closed_is).2 in
      let same : same_types c.final.starts c.final.ends ≡ true =
      ap (λ (o : Option Operator). leaves_alike o (record { starts = c.final.starts; ends = c.final.ends })) (sym (c.same none).opened) ∙ alike in
      let both : ar.starts ≡ ar.ends = sym (c.same none).starts ∙ (same_types_is c.final.starts c.final.ends same ∙ c.ends) in
      let top = top_of walk g outer labels stack fits in
      let p = pop_values ar.starts g h top.vs top.values popped in
      let whole : stack ≡ top.below ++ (p.rest ++ p.top) = top.is ∙ ap (λ (x : List Value). top.below ++ x) p.is in (
        omega arith,
        push ar.ends h,
        outer,
        closed_after (op.If t) ar k h outer l e,
        subst (Fits walk (push ar.ends h) outer labels) (sym whole) (top.again (push ar.ends h) (p.rest ++ p.top)
            (like_then (record { opened = refl; starts = refl; ends = refl }) p.like) (push_values ar.ends h p.rest p.top p.left (p.typed ∙ both))),
        a,
        typed,
      )

  -- ---- conditionals

  pub if_stands : (t : BlockType) (k : ℕ) → k < length structure → slice_get structure k ≡ Some (op.If t) → Next walk k (op.If t)
  if_stands t k l at g outer labels stack s fits e a typed =
      let ar = arity_of m t in
      let one = primitive.I32 ∷ [] in
      let (mid, b, c) = and_then_some (open_frame (op.If t) ar) (on_innermost (pop one) (g ∷ outer)) (trace.frames (suc k))
      (if_some (has_arity m t) _ (trace.frames (suc k)) e).1 in
      let (d, u, v) = map_some (λ (d : Frame). d ∷ outer) (pop one g) mid b in
      let (h, w, x) = open_parts (op.If t) ar d outer (trace.frames (suc k)) (ap (open_frame (op.If t) ar) v ∙ c) in
      let cond = condition walk g d outer labels stack fits u in
      let closed = closed_of (op.If t) ar k (h ∷ outer) l x in
      let part = other_part zero (suc k) (drop (suc k) structure) in
      let base_all : All IsValue cond.base = all_front cond.base (cond.value ∷ []) (subst (All IsValue) cond.is a) in
      let inside = closed.inside in
      choose_stands walk d outer labels stack cond (λ below. enter m results structure k t labels below s)
      (λ below. otherwise m results structure part k t labels below s)
      (enter_stands (op.If t) ar k (suc k) d h outer labels cond.base s (omega arith) x (record {
        arity = ar;
        starts = refl;
        ends = refl;
        inside = inside;
        after = closed_after (op.If t) ar k h outer l x;
        kind = inr (λ ls z q. ap (λ o. jump_to m results structure beyond o (at_label k cond.base ar) ls z q) at, λ f. refl);
        catches = never_catches (opened_by (op.If t) ar) (at_label k cond.base ar) (h ∷ outer) (op.If t) at (λ mark rest. refl);
      }) cond.fits w base_all typed)
      (go part refl d h cond.base closed x w cond.fits base_all)
    where
      go : (o : Option ℕ) → other_part zero (suc k) (drop (suc k) structure) ≡ o → (d h : Frame) (base : List Value) →
          Closed context results structure pieces start beyond trace (opened_by (op.If t) (arity_of m t)) (h ∷ outer) (ending k)
          (other_part zero (suc k) (drop (suc k) structure)) (parts_of m results structure k) →
          trace.frames (suc k) ≡ opened_by (op.If t) (arity_of m t) ∷ (h ∷ outer) → pop (arity_of m t).starts d ≡ Some h →
          Fits walk d outer labels base → All IsValue base → Stands walk (otherwise m results structure o k t labels base s)
      go (Some j) part d h base closed x w fits all =
          let (inside, there) = closed.other j t part refl in
          enter_stands op.Else (arity_of m t) k (suc j) d h outer labels base s (omega arith) there (record {
            arity = arity_of m t;
            starts = refl;
            ends = refl;
            inside = closed.inside;
            after = closed_after (op.If t) (arity_of m t) k h outer l x;
            kind = inr (λ ls z q. ap (λ o. jump_to m results structure beyond o (at_label k base (arity_of m t)) ls z q) at, λ f. refl);
            catches = never_catches (opened_by op.Else (arity_of m t)) (at_label k base (arity_of m t)) (h ∷ outer) (op.If t) at (λ mark rest. refl);
          }) fits w all typed
      go None part d h base closed x w fits all = without_else t k d h outer labels base s l x part fits w all typed
