-- The other operators of a valid body, which do what a deed says, and its handlers.
use Rattle.std.proofs.Common.{◌≡◌, ℕ, zero, suc, ◌-◌, ◌<◌, inr, true, false, Bool, List, [], ◌∷◌, ◌++◌, length, take, Option, Some, None}
use Rattle.std.proofs.Common.{refl, sym, ap, ◌∙◌, subst, arith, append_assoc, append-nil}
use Rattle.std.specs.Prelude.{◌&&◌, Contains, slice_get, option_and_then, is_some, if◌then◌else◌}
use Rattle.std.specs.List.{All}
use Rattle.std.proofs.lemmas.Bool.{and_parts}
use Rattle.std.proofs.lemmas.List.Elements.{All-append}
use Rattle.wasm_code.specs.declared.operator.Operator.{Operator}
use Rattle.wasm_code.specs.declared.operator.Operator.TheVariants as op
use Rattle.wasm_code.specs.declared.other.Other.{Other}
use Rattle.wasm_types.specs.Module.{Module}
use Rattle.wasm_types.specs.declared.types.PrimitiveTypeInfo.{PrimitiveTypeInfo}
use Rattle.wasm_execution.specs.Values.{same_types, Value, IsValue, types, State, HasTypes}
use Rattle.wasm_execution.specs.OutcomeLemmas.{length_types}
use Rattle.wasm_execution.specs.RowLemmas.{and_then_some, map_some, same_types_is}
use Rattle.wasm_equivalence.specs.control.Function.{Label, At}
use Rattle.wasm_equivalence.specs.control.Blocks.{Role, handles, tries, catches, delegates, does, role_of}
use Rattle.wasm_equivalence.specs.control.Standard.{last_of, Caught, branches, begins, delegated, handler_arity, Deed, gives, jumps, breaks}
use Rattle.wasm_equivalence.specs.control.Standard.{enters, returns, leave, jump_out, jump_other, jump_to, branch, close, skip, caught_by}
use Rattle.wasm_equivalence.specs.control.Standard.{caught_at, thrown, called, done, enter_handler, other_at}
use Rattle.wasm_equivalence.specs.validation.Algorithm.{Frame, popped}
use Rattle.wasm_equivalence.specs.validation.StandardSteps.{pop, push, opened_by, open_frame, label_types, can_close, close_frame}
use Rattle.wasm_equivalence.specs.validation.StandardSteps.{can_branch, left, is_label, are_labels, is_tried_by, is_tried, is_try}
use Rattle.wasm_equivalence.specs.validation.StandardSteps.{other_step}
use Rattle.wasm_equivalence.specs.validation.Sound.{HasValues, IsDeed, IsCaught}
use Rattle.wasm_equivalence.proofs.control.FineLemmas.{with_own}
use Rattle.wasm_equivalence.proofs.validation.PoppedLemmas.{pop_values, push_values, last_is, front_is}
use Rattle.wasm_equivalence.proofs.validation.RunChecks.{if_some}
use Rattle.wasm_equivalence.proofs.validation.FrameLemmas.{Like, like_itself, like_then}
use Rattle.wasm_equivalence.proofs.validation.WalkLemmas.{Walk, all_front, all_behind, open_parts, Leads, Fits, top_of, Stands, leave_stands}
use Rattle.wasm_equivalence.proofs.validation.BranchLemmas.{found_like, taken_stands}
use Rattle.wasm_equivalence.proofs.validation.BlockLemmas.{at_label, closed_of, closed_after, enter_stands, skip_stands, close_stands}
use Rattle.wasm_equivalence.proofs.validation.ThrowLemmas.{only_stands, thrown_stands, called_stands}

found_to : (frames : List Frame) (f : Frame) (o : Option (ℕ × List PrimitiveTypeInfo)) (l : ℕ) (ts : List PrimitiveTypeInfo) → o ≡ Some (l, ts) →
    can_branch frames f o ≡ true → (to : Frame) × (h : Frame) × (slice_get frames l ≡ Some to) × (pop (label_types to) (push ts f) ≡ Some h)
found_to frames f o l ts is e = go (slice_get frames l) refl (ap (can_branch frames f) (sym is) ∙ e)
  where
    there : (x : Frame) (p : Option Frame) → slice_get frames l ≡ Some x → pop (label_types x) (push ts f) ≡ p → is_some p ≡ true →
        (to : Frame) × (h : Frame) × (slice_get frames l ≡ Some to) × (pop (label_types to) (push ts f) ≡ Some h)
    there x (Some h) a b e = (x, h, a, b)
    there x None a b e = absurd cc

    go : (x : Option Frame) → slice_get frames l ≡ x →
        is_some (option_and_then (λ (to : Frame). pop (label_types to) (push ts f)) x) ≡ true →
        (to : Frame) × (h : Frame) × (slice_get frames l ≡ Some to) × (pop (label_types to) (push ts f) ≡ Some h)
    go (Some x) a e = there x (pop (label_types x) (push ts f)) a refl e
    go None a e = absurd cc

pushed_like : (ts : List PrimitiveTypeInfo) (f : Frame) → Like (push ts f) f
pushed_like ts f = record { opened = refl; starts = refl; ends = refl }

module _ (walk : Walk) where
  open walk use {context, results, structure, beyond, trace, deeds}

  abbrev m : Module
  m = context.info

  -- what the operator with number k took, and what is behind it
  record Taken (k : ℕ) (g : Frame) (outer : List Frame) (labels : List Label) (stack : List Value) : Type 0 where
    frame : Frame
    below : List Value
    rest : List Value
    operands : List Value
    is : stack ≡ (below ++ rest) ++ operands
    typed : types operands ≡ beyond.takes k
    values : HasValues frame rest
    like : Like frame g
    again : (h : Frame) (ws : List Value) → Like h frame → HasValues h ws → Fits walk h outer labels (below ++ ws)
    jumps_there : can_branch (g ∷ outer) frame (beyond.label k) ≡ true
    next : trace.frames (suc k) ≡ left (beyond.leaves k) frame ∷ outer

  taken_of : (x : Other) (k : ℕ) (g : Frame) (outer : List Frame) (labels : List Label) (stack : List Value) → Fits walk g outer labels stack →
      other_step x does beyond k (g ∷ outer) ≡ Some (trace.frames (suc k)) → Taken k g outer labels stack
  taken_of x k g outer labels stack fits e =
      let ts = beyond.takes k in
      let step = λ (g' : Frame). option_and_then (λ (d : Frame). if can_branch (g ∷ outer) d (beyond.label k) then Some (left (beyond.leaves k) d) else None)
      (pop ts g') in
      let (h, c, d) = map_some (λ (h : Frame). h ∷ outer) (step g) (trace.frames (suc k)) e in
      let (q, u, v) = and_then_some (λ (d : Frame). if can_branch (g ∷ outer) d (beyond.label k) then Some (left (beyond.leaves k) d) else None)
      (pop ts g) h c in
      let (there, w) = if_some (can_branch (g ∷ outer) q (beyond.label k)) (Some (left (beyond.leaves k) q)) h v in
      let top = top_of walk g outer labels stack fits in
      let p = pop_values ts g q top.vs top.values u in
      let is : h ≡ left (beyond.leaves k) q = cc in
      record {
        frame = q;
        below = top.below;
        rest = p.rest;
        operands = p.top;
        is = top.is ∙ (ap (λ (x : List Value). top.below ++ x) p.is ∙ sym (append_assoc top.below p.rest p.top));
        typed = p.typed;
        values = p.left;
        like = p.like;
        again = λ h ws like values. top.again h ws (like_then like p.like) values;
        jumps_there = there;
        next = sym d ∙ ap (λ (z : Frame). z ∷ outer) is;
      }

  -- values in the place of the operands
  pushed_fits : (k : ℕ) (g : Frame) (outer : List Frame) (labels : List Label) (stack : List Value) (t : Taken k g outer labels stack) (vs : List Value) →
      Fits walk (push (types vs) t.frame) outer labels ((t.below ++ t.rest) ++ vs)
  pushed_fits k g outer labels stack t vs =
      subst (Fits walk (push (types vs) t.frame) outer labels) (sym (append_assoc t.below t.rest vs))
      (t.again (push (types vs) t.frame) (t.rest ++ vs) (pushed_like (types vs) t.frame) (push_values (types vs) t.frame t.rest vs t.values refl))

  -- an exception behind its operands
  breaks_stands : (k : ℕ) (g : Frame) (outer : List Frame) (labels : List Label) (stack : List Value) (t : Taken k g outer labels stack) →
      All IsValue (t.below ++ t.rest) → (mark : ℕ) (s : State) → HasTypes context s →
      Stands walk (thrown m results structure beyond mark 0 labels (t.below ++ t.rest) s)
  breaks_stands k g outer labels stack t a mark s typed =
      let base = t.below ++ t.rest in
      thrown_stands walk mark 0 t.frame outer labels base [] base s (t.again t.frame t.rest (like_itself t.frame) t.values) (sym (append-nil base)) a typed

  deed_stands : (k : ℕ) (g : Frame) (outer : List Frame) (labels : List Label) (stack : List Value) (s : State) (t : Taken k g outer labels stack) →
      k < length structure → All IsValue (t.below ++ t.rest) → HasTypes context s → (d : Deed) → IsDeed m results beyond k d →
      Stands walk (done m results structure beyond d k labels (t.below ++ t.rest) s)
  deed_stands k g outer labels stack s t l a typed (gives vs r) h =
      only_stands walk vs (At (suc k) labels ((t.below ++ t.rest) ++ vs) (record s { rest = r })) h.1 (
        omega arith,
        push (types vs) t.frame,
        outer,
        t.next ∙ ap (λ o. left o t.frame ∷ outer) h.0,
        pushed_fits k g outer labels stack t vs,
        All-append IsValue (t.below ++ t.rest) vs a h.1,
        with_own typed s.globals r typed.globals_are typed.global_values,
      )
  deed_stands k g outer labels stack s t l a typed (jumps n vs r) h =
      let (to, q, at, popped) = found_to (g ∷ outer) t.frame (beyond.label k) n (types vs) h.0 t.jumps_there in
      let (to', at', same) = found_like n (push (types vs) t.frame) g to outer (like_then (pushed_like (types vs) t.frame) t.like) at in
      only_stands walk vs (branch m results structure beyond n labels ((t.below ++ t.rest) ++ vs) (record s { rest = r })) h.1
      (taken_stands walk n (push (types vs) t.frame) q to' outer labels ((t.below ++ t.rest) ++ vs) (record s { rest = r })
      (pushed_fits k g outer labels stack t vs) at' (ap (λ z. pop z (push (types vs) t.frame)) same ∙ popped)
      (All-append IsValue (t.below ++ t.rest) vs a h.1) (with_own typed s.globals r typed.globals_are typed.global_values))
  deed_stands k g outer labels stack s t l a typed (breaks mark r) h =
      breaks_stands k g outer labels stack t a mark (record s { rest = r }) (with_own typed s.globals r typed.globals_are typed.global_values)
  deed_stands k g outer labels stack s t l a typed (enters i vs) h =
      let (ts, leaves, call, values) = h in
      let base = t.below ++ t.rest in
      only_stands walk vs (called m results structure beyond (At (suc k) labels) i vs labels base s) values
      (called_stands walk labels base (λ mark u w. breaks_stands k g outer labels stack t a mark u w) (At (suc k) labels) ts
      (λ us u typed_us all w. (
        omega arith,
        push ts t.frame,
        outer,
        t.next ∙ ap (λ o. left o t.frame ∷ outer) leaves,
        subst (λ (x : List PrimitiveTypeInfo). Fits walk (push x t.frame) outer labels (base ++ us)) typed_us (pushed_fits k g outer labels stack t us),
        All-append IsValue base us a all,
        w,
      )) i vs s call values typed)
  deed_stands k g outer labels stack s t l a typed (returns i vs) h =
      let (call, values) = h in
      let base = t.below ++ t.rest in
      only_stands walk vs (called m results structure beyond (leave m results structure) i vs [] base s) values
      (called_stands walk [] base (λ mark u w. tt) (leave m results structure) results
      (λ us u typed_us all w. leave_stands walk base us u typed_us all) i vs s call values typed)

  -- a handler's labels, in the frames outside its block
  label_is : (frames : List Frame) (c : ℕ × List PrimitiveTypeInfo) → is_label frames c ≡ true →
      (to : Frame) × (slice_get frames c.0 ≡ Some to) × (c.1 ≡ label_types to)
  label_is frames c e = go (slice_get frames c.0) refl e
    where
      same : (to : Frame) (b : Bool) → same_types c.1 (label_types to) ≡ b → is_some (if b then Some to else None) ≡ true → c.1 ≡ label_types to
      same to true k e = same_types_is c.1 (label_types to) k
      same to false k e = absurd cc

      go : (o : Option Frame) → slice_get frames c.0 ≡ o →
          is_some (option_and_then (λ (to : Frame). if same_types c.1 (label_types to) then Some to else None) o) ≡ true →
          (to : Frame) × (slice_get frames c.0 ≡ Some to) × (c.1 ≡ label_types to)
      go (Some to) x e = (to, x, same to (same_types c.1 (label_types to)) refl e)
      go None x e = absurd cc

  labels_are : (frames : List Frame) (cs : List (ℕ × List PrimitiveTypeInfo)) (c : ℕ × List PrimitiveTypeInfo) → are_labels frames cs ≡ true →
      Contains cs c → is_label frames c ≡ true
  labels_are frames [] c e (k, inside, is) = absurd (omega arith)
  labels_are frames (d ∷ cs) c e (zero, inside, is) =
      subst (λ (x : ℕ × List PrimitiveTypeInfo). is_label frames x ≡ true) is (and_parts (is_label frames d) (are_labels frames cs) e).0
  labels_are frames (d ∷ cs) c e (suc k, inside, is) =
      labels_are frames cs c (and_parts (is_label frames d) (are_labels frames cs) e).1 (k, omega arith, is)

  -- the block's arity, where its label leads, and where its exceptions do
  entered_stands : (x : Other) (k : ℕ) → k < length structure → slice_get structure k ≡ Some (op.Other x) → (r : Role) → role_of x ≡ r →
      ((label : Label) (ls : List Label) (z : List Value) (q : State) → jump_other m results structure beyond r label ls z q ≡
      jump_out m results structure (length (handler_arity beyond label.opener).ends) label ls z q) → (g : Frame) (outer : List Frame)
      (labels : List Label) (stack : List Value) (s : State) → Fits walk g outer labels stack →
      open_frame (op.Other x) (handler_arity beyond k) (g ∷ outer) ≡ Some (trace.frames (suc k)) →
      ((h : Frame) → Like h g → trace.frames (suc k) ≡ opened_by (op.Other x) (handler_arity beyond k) ∷ (h ∷ outer) → (mark rest : ℕ) (c : Caught) →
      beyond.catcher k mark rest ≡ Some c → Leads walk (opened_by (op.Other x) (handler_arity beyond k)) (h ∷ outer) c) →
      ((mark rest : ℕ) (c : Caught) → caught_by m results structure beyond r k mark rest ≡ Some c → beyond.catcher k mark rest ≡ Some c) →
      All IsValue stack → HasTypes context s → Stands walk (enter_handler m results structure beyond k labels stack s)
  entered_stands x k l at r role left_by g outer labels stack s fits e leads is_catcher a typed =
      let ar = handler_arity beyond k in
      let (h, p, c) = open_parts (op.Other x) ar g outer (trace.frames (suc k)) e in
      let label = at_label walk k stack ar in
      let top = top_of walk g outer labels stack fits in
      let like : Like h g = (pop_values ar.starts g h top.vs top.values p).like in
      enter_stands walk (op.Other x) ar k (suc k) g h outer labels stack s (omega arith) c (record {
        arity = ar;
        starts = refl;
        ends = refl;
        inside = (closed_of walk (op.Other x) ar k (h ∷ outer) l c).inside;
        after = closed_after walk (op.Other x) ar k h outer l c;
        kind = inr (
          λ ls z q. ap (λ o. jump_to m results structure beyond o label ls z q) at ∙
              (ap (λ (y : Role). jump_other m results structure beyond y label ls z q) role ∙ left_by label ls z q),
          λ f. refl,
        );
        catches = λ mark rest d y. leads h like c mark rest d (is_catcher mark rest d
            (sym (ap (λ (z : Role). caught_by m results structure beyond z k mark rest) role) ∙
            (sym (ap (λ o. caught_at m results structure beyond o k mark rest) at) ∙ y)));
      }) fits p a typed

  -- `try_table`
  handler_stands : (x : Other) (k : ℕ) → k < length structure → slice_get structure k ≡ Some (op.Other x) → role_of x ≡ handles → (g : Frame)
      (outer : List Frame) (labels : List Label) (stack : List Value) (s : State) → Fits walk g outer labels stack →
      other_step x handles beyond k (g ∷ outer) ≡ Some (trace.frames (suc k)) → All IsValue stack → HasTypes context s →
      Stands walk (enter_handler m results structure beyond k labels stack s)
  handler_stands x k l at role g outer labels stack s fits e a typed =
      let ar = handler_arity beyond k in
      let (there, b) = if_some (are_labels (g ∷ outer) (beyond.clauses k)) (open_frame (op.Other x) ar (g ∷ outer)) (trace.frames (suc k)) e in
      entered_stands x k l at handles role (λ label ls z q. refl) g outer labels stack s fits b
      (λ h like is mark rest c y. leads h like there c
      (subst (λ (r : Role). IsCaught structure beyond k r c) role (deeds.caught k mark rest x c at y))) (λ mark rest c y. y) a typed
    where
      leads : (h : Frame) → Like h g → are_labels (g ∷ outer) (beyond.clauses k) ≡ true → (c : Caught) → IsCaught structure beyond k handles c →
          Leads walk (opened_by (op.Other x) (handler_arity beyond k)) (h ∷ outer) c
      leads h like there (branches n vs r) kept =
          let (to, found, typed_to) = label_is (g ∷ outer) (n, types vs) (labels_are (g ∷ outer) (beyond.clauses k) (n, types vs) there kept.0) in
          let (to', found', same) = found_like n h g to outer like found in
          (to', found', typed_to ∙ sym same, kept.1)
      leads h like there (begins j vs r) kept = absurd kept
      leads h like there (delegated n) kept = absurd kept

  -- the older `try`
  try_stands : (x : Other) (k : ℕ) → k < length structure → slice_get structure k ≡ Some (op.Other x) → role_of x ≡ tries → (g : Frame)
      (outer : List Frame) (labels : List Label) (stack : List Value) (s : State) → Fits walk g outer labels stack →
      other_step x tries beyond k (g ∷ outer) ≡ Some (trace.frames (suc k)) → All IsValue stack → HasTypes context s →
      Stands walk (enter_handler m results structure beyond k labels stack s)
  try_stands x k l at role g outer labels stack s fits e a typed =
      entered_stands x k l at tries role (λ label ls z q. refl) g outer labels stack s fits e
      (λ h like is mark rest c y. leads h is c (subst (λ (r : Role). IsCaught structure beyond k r c) role (deeds.caught k mark rest x c at y)))
      (λ mark rest c y. y) a typed
    where
      leads : (h : Frame) → trace.frames (suc k) ≡ opened_by (op.Other x) (handler_arity beyond k) ∷ (h ∷ outer) → (c : Caught) →
          IsCaught structure beyond k tries c → Leads walk (opened_by (op.Other x) (handler_arity beyond k)) (h ∷ outer) c
      leads h is (branches n vs r) kept = absurd kept
      leads h is (begins j vs r) kept =
          ((closed_of walk (op.Other x) (handler_arity beyond k) k (h ∷ outer) l is).each j kept.0 (ap is_tried_by role), kept.1, kept.2)
      leads h is (delegated n) kept = tt

  -- a part ends where the next one begins
  catch_stands : (x : Other) (k : ℕ) (g : Frame) (outer : List Frame) (labels : List Label) (stack : List Value) (s : State) →
      Fits walk g outer labels stack → other_step x catches beyond k (g ∷ outer) ≡ Some (trace.frames (suc k)) → All IsValue stack → HasTypes context s →
      Stands walk (skip m results structure labels stack s)
  catch_stands x k g outer labels stack s fits e a typed =
      let ar = handler_arity beyond k in
      let rest = can_close g && same_types ar.ends g.ends in
      let (b, c) = if_some (is_tried g.opened && rest) (Some (opened_by (op.Other x) ar ∷ outer)) (trace.frames (suc k)) e in
      let both = and_parts (is_tried g.opened) rest b in
      let (y, is) = opened_is g.opened both.0 in
      skip_stands walk g outer labels stack s y fits is (and_parts (can_close g) (same_types ar.ends g.ends) both.1).0 a typed
    where
      opened_is : (o : Option Operator) → is_tried o ≡ true → (y : Operator) × (o ≡ Some y)
      opened_is (Some y) e = (y, refl)
      opened_is None e = absurd cc

  delegate_stands : (x : Other) (k : ℕ) → k < length structure → (g : Frame) (outer : List Frame) (labels : List Label) (stack : List Value) (s : State) →
      Fits walk g outer labels stack → other_step x delegates beyond k (g ∷ outer) ≡ Some (trace.frames (suc k)) → All IsValue stack → HasTypes context s →
      Stands walk (close m results structure (suc k) labels stack s)
  delegate_stands x k l g outer labels stack s fits e a typed =
      close_stands walk k g outer labels stack s l fits (if_some (is_try g.opened) (close_frame (g ∷ outer)) (trace.frames (suc k)) e).1 a typed

  pub other_stands : (x : Other) (r : Role) → role_of x ≡ r → (k : ℕ) → k < length structure → slice_get structure k ≡ Some (op.Other x) →
      (g : Frame) (outer : List Frame) (labels : List Label) (stack : List Value) (s : State) → Fits walk g outer labels stack →
      other_step x r beyond k (g ∷ outer) ≡ Some (trace.frames (suc k)) → All IsValue stack → HasTypes context s →
      Stands walk (other_at m results structure r beyond k labels stack s)
  other_stands x handles is k l at g outer labels stack s fits e a typed = handler_stands x k l at is g outer labels stack s fits e a typed
  other_stands x tries is k l at g outer labels stack s fits e a typed = try_stands x k l at is g outer labels stack s fits e a typed
  other_stands x catches is k l at g outer labels stack s fits e a typed = catch_stands x k g outer labels stack s fits e a typed
  other_stands x delegates is k l at g outer labels stack s fits e a typed = delegate_stands x k l g outer labels stack s fits e a typed
  other_stands x does is k l at g outer labels stack s fits e a typed =
      let t = taken_of x k g outer labels stack fits e in
      let base = t.below ++ t.rest in
      let n : length (beyond.takes k) ≡ length t.operands = sym (ap length t.typed) ∙ length_types t.operands in
      let whole : All IsValue (base ++ t.operands) = subst (All IsValue) t.is a in
      let it : Stands walk (done m results structure beyond (beyond.deed k t.operands s.rest) k labels base s) =
      deed_stands k g outer labels stack s t l (all_front base t.operands whole) typed (beyond.deed k t.operands s.rest)
      (deeds.deeds k x t.operands s.rest at is t.typed (all_behind base t.operands whole)) in
      subst (λ (z : List Value). Stands walk (done m results structure beyond (beyond.deed k (last_of (length (beyond.takes k)) z) s.rest) k labels
      (take (length z - length (beyond.takes k)) z) s)) (sym t.is)
      (subst (λ (z : List Value). Stands walk (done m results structure beyond (beyond.deed k z s.rest) k labels
      (take (length (base ++ t.operands) - length (beyond.takes k)) (base ++ t.operands)) s))
      (sym (last_is base t.operands (length (beyond.takes k)) n))
      (subst (λ (z : List Value). Stands walk (done m results structure beyond (beyond.deed k t.operands s.rest) k labels z s))
      (sym (front_is base t.operands (length (beyond.takes k)) n)) it))
