-- What stands before each piece of a valid body: labels, frames and the values on the stack.
use Rattle.std.proofs.Common.{◌≡◌, ℕ, suc, ◌<◌, ◌≤◌, ◌⊎◌, inl, inr, true, List, [], ◌∷◌, ◌++◌, length, Option, Some, None, refl, sym, ap}
use Rattle.std.proofs.Common.{◌∙◌, subst, arith, append_assoc}
use Rattle.std.specs.Prelude.{◌&&◌, ⊤, slice_get}
use Rattle.std.specs.List.{All}
use Rattle.std.proofs.lemmas.Bool.{and_parts}
use Rattle.std.proofs.lemmas.List.{take_at, drop_at}
use Rattle.std.proofs.lemmas.List.Elements.{All-take, All-drop}
use Rattle.wasm_code.specs.Instruction.{Instruction}
use Rattle.wasm_code.specs.declared.immediate.BlockType.{BlockType}
use Rattle.wasm_code.specs.declared.operator.Operator.{Operator}
use Rattle.wasm_code.specs.declared.operator.Operator.TheVariants as op
use Rattle.wasm_types.specs.Module.{Module}
use Rattle.wasm_types.specs.declared.types.PrimitiveTypeInfo.{PrimitiveTypeInfo}
use Rattle.wasm_execution.specs.Values.{Value, IsValue, types, Context, State, HasTypes, Ends, Traps, Stuck}
use Rattle.wasm_execution.specs.OutcomeLemmas.{length_types}
use Rattle.wasm_execution.specs.RowLemmas.{map_some}
use Rattle.wasm_equivalence.specs.control.Function.{Label, Reached, At, Done}
use Rattle.wasm_equivalence.specs.control.Blocks.{Arity, arity_of}
use Rattle.wasm_equivalence.specs.control.Standard.{Caught, branches, begins, delegated, Beyond, end_of, leave, jump_out, jump_to, caught_at, by_operator}
use Rattle.wasm_equivalence.specs.validation.Algorithm.{Frame, on_innermost}
use Rattle.wasm_equivalence.specs.validation.StandardSteps.{pop, push, opened_by, open_frame, types_by, label_types, can_close}
use Rattle.wasm_equivalence.specs.validation.StandardSteps.{leaves_alike, close_frame, by_step, standard_steps}
use Rattle.wasm_equivalence.specs.validation.Sound.{HasValues, HasTargets, HasDeeds}
use Rattle.wasm_equivalence.proofs.validation.PoppedLemmas.{push_values, last_is}
use Rattle.wasm_equivalence.proofs.validation.RunChecks.{if_some}
use Rattle.wasm_equivalence.proofs.validation.TraceLemmas.{Trace}
use Rattle.wasm_equivalence.proofs.validation.FrameLemmas.{Like}
use Rattle.wasm_equivalence.proofs.validation.ClosingLemmas.{CaughtPart}

-- the outer frames with a block's results
abbrev pub pushed : List PrimitiveTypeInfo → List Frame → List Frame
pushed ts [] = []
pushed ts (g ∷ gs) = push ts g ∷ gs

-- the operator takes its label's values at its end
abbrev pub Forwards : Option Operator → Type 0
Forwards o = (f : Frame) → types_by o f ≡ f.ends

pub all_front : (xs ys : List Value) → All IsValue (xs ++ ys) → All IsValue xs
all_front xs ys a = subst (All IsValue) (take_at xs ys (length xs) refl) (All-take IsValue (length xs) (xs ++ ys) a)

pub all_behind : (xs ys : List Value) → All IsValue (xs ++ ys) → All IsValue ys
all_behind xs ys a = subst (All IsValue) (drop_at xs ys (length xs) refl) (All-drop IsValue (length xs) (xs ++ ys) a)

pub close_two : (f g : Frame) (gs next : List Frame) → close_frame (f ∷ (g ∷ gs)) ≡ Some next →
    (next ≡ push f.ends g ∷ gs) × (can_close f ≡ true) × (leaves_alike f.opened (record { starts = f.starts; ends = f.ends }) ≡ true)
close_two f g gs next e =
    let alike = leaves_alike f.opened (record { starts = f.starts; ends = f.ends }) in
    let (a, b) = if_some (can_close f && alike) (Some (push f.ends g ∷ gs)) next e in
    let both = and_parts (can_close f) alike a in
    let is : next ≡ push f.ends g ∷ gs = cc in (is, both.0, both.1)

pub open_parts : (o : Operator) (ar : Arity) (g : Frame) (outer next : List Frame) → open_frame o ar (g ∷ outer) ≡ Some next →
    (h : Frame) × (pop ar.starts g ≡ Some h) × (next ≡ opened_by o ar ∷ (h ∷ outer))
open_parts o ar g outer next e =
    let (fs, a, b) = map_some (λ (fs : List Frame). opened_by o ar ∷ fs) (on_innermost (pop ar.starts) (g ∷ outer)) next e in
    let (h, c, d) = map_some (λ (h : Frame). h ∷ outer) (pop ar.starts g) fs a in
    (h, c, sym b ∙ ap (λ (fs : List Frame). opened_by o ar ∷ fs) (sym d))

-- a body, the frames before its pieces, and that what its operators don't carry is of their types
pub record Walk : Type 0 where
  pub context : Context
  pub results : List PrimitiveTypeInfo
  pub structure : List Operator
  pub pieces : ℕ → List Instruction
  pub start : List Frame
  pub beyond : Beyond
  pub trace : Trace context (standard_steps context.info results structure beyond) pieces (length structure) start []
  pub targets : HasTargets context.info structure beyond
  pub deeds : HasDeeds context.info results structure beyond

module _ (walk : Walk) where
  open walk use {context, results, structure, pieces, start, beyond, trace}

  abbrev m : Module
  m = context.info

  abbrev ending : ℕ → ℕ
  ending opener = end_of m results structure opener

  -- ---- labels

  abbrev pub IsLoop : Arity → Frame → Label → (outer : List Frame) → Type 0
  IsLoop ar f label outer =
      (t : BlockType) × (slice_get structure label.opener ≡ Some (op.Loop t)) × (ar ≡ arity_of m t) × (f.opened ≡ Some (op.Loop t))
      × (trace.frames (suc label.opener) ≡ opened_by (op.Loop t) ar ∷ outer)

  -- a branch to it leads behind its end
  abbrev pub IsForward : Arity → Frame → Label → Type 0
  IsForward ar f label =
      ((labels : List Label) (stack : List Value) (s : State) → jump_to m results structure beyond (slice_get structure label.opener) label labels stack s ≡
      jump_out m results structure (length ar.ends) label labels stack s) × Forwards f.opened

  -- a label outside the block takes the values; or the part begins with them
  abbrev pub Leads : (f : Frame) → (outer : List Frame) → Caught → Type 0
  Leads f outer (branches l vs r) = (to : Frame) × (slice_get outer l ≡ Some to) × (types vs ≡ label_types to) × All IsValue vs
  Leads f outer (begins j vs r) =
      CaughtPart context results structure pieces start beyond trace f outer j × (types vs ≡ beyond.takes j) × All IsValue vs
  Leads f outer (delegated l) = ⊤

  -- where an exception leads that the block of a label catches
  abbrev pub Catches : Frame → Label → (outer : List Frame) → Type 0
  Catches f label outer =
      (mark rest : ℕ) (c : Caught) → caught_at m results structure beyond (slice_get structure label.opener) label.opener mark rest ≡ Some c → Leads f outer c

  -- what opened a frame, the frames where its label leads, and what it makes of exceptions
  pub record IsOpen (f : Frame) (label : Label) (outer : List Frame) : Type 0 where
    pub arity : Arity
    pub starts : f.starts ≡ arity.starts
    pub ends : f.ends ≡ arity.ends
    pub inside : ending label.opener < length structure
    pub after : trace.frames (suc (ending label.opener)) ≡ pushed arity.ends outer
    pub kind : IsLoop arity f label outer ⊎ IsForward arity f label
    pub catches : Catches f label outer

  pub leads_by : (f g : Frame) (outer : List Frame) → f.ends ≡ g.ends → (c : Caught) → Leads f outer c → Leads g outer c
  leads_by f g outer e (branches l vs r) h = h
  leads_by f g outer e (begins j vs r) h =
      let it = h.0 in (record { inside = it.inside; operator = it.operator; at = it.at; role = it.role; next = it.next; ends = it.ends ∙ e }, h.1, h.2)
  leads_by f g outer e (delegated l) h = tt

  pub open_like : {f g : Frame} {label : Label} {outer : List Frame} → Like g f → IsOpen f label outer → IsOpen g label outer
  open_like {f} {g} {label} {outer} like h = record {
    arity = h.arity;
    starts = like.starts ∙ h.starts;
    ends = like.ends ∙ h.ends;
    inside = h.inside;
    after = h.after;
    kind = elim h.kind [
      | inl loop ↦ inl (loop.0, loop.1, loop.2, like.opened ∙ loop.3, loop.4)
      | inr forward ↦ inr (forward.0, subst Forwards (sym like.opened) forward.1)
    ];
    catches = λ mark rest c e. leads_by f g outer (sym like.ends) c (h.catches mark rest c e);
  }

  -- ---- frames and stacks

  -- The stack has the values of the frames, the labels' heights are those below theirs, and each label leads where its frame ends or begins.
  abbrev pub Fits : Frame → (outer : List Frame) → List Label → List Value → Type 0
  Fits f [] [] stack = (f.opened ≡ None) × (f.ends ≡ results) × HasValues f stack
  Fits f [] (label ∷ labels) stack = ⊥
  Fits f (g ∷ gs) [] stack = ⊥
  Fits f (g ∷ gs) (label ∷ labels) stack =
      (below : List Value) × (vs : List Value) × (stack ≡ below ++ vs) × HasValues f vs × (label.height ≡ length below)
      × IsOpen f label (g ∷ gs) × Fits g gs labels below

  -- the innermost frame's values, and others in their place
  pub record Top (f : Frame) (outer : List Frame) (labels : List Label) (stack : List Value) : Type 0 where
    pub below : List Value
    pub vs : List Value
    pub is : stack ≡ below ++ vs
    pub values : HasValues f vs
    pub again : (g : Frame) (ws : List Value) → Like g f → HasValues g ws → Fits g outer labels (below ++ ws)

  pub top_of : (f : Frame) (outer : List Frame) (labels : List Label) (stack : List Value) → Fits f outer labels stack → Top f outer labels stack
  top_of f [] [] stack h = record {
    below = [];
    vs = stack;
    is = refl;
    values = h.2;
    again = λ g ws like v. (like.opened ∙ h.0, like.ends ∙ h.1, v);
  }
  top_of f [] (label ∷ labels) stack h = absurd h
  top_of f (g ∷ gs) [] stack h = absurd h
  top_of f (g ∷ gs) (label ∷ labels) stack h =
      let (below, vs, is, v, height, opened, outer) = h in
      record {
        below = below;
        vs = vs;
        is = is;
        values = v;
        again = λ d ws like w. (below, ws, refl, w, height, open_like like opened, outer);
      }

  abbrev pub Stands : Reached → Type 0
  Stands (At k labels stack s) =
      (k ≤ length structure) × (f : Frame) × (outer : List Frame) × (trace.frames k ≡ f ∷ outer) × Fits f outer labels stack
      × All IsValue stack × HasTypes context s
  Stands (Done (Ends vs s)) = (types vs ≡ results) × All IsValue vs
  Stands (Done (Traps cause gs r)) = ⊤
  Stands (Done Stuck) = ⊥

  abbrev pub Next : ℕ → Operator → Type 0
  Next k o = (g : Frame) (outer : List Frame) (labels : List Label) (stack : List Value) (s : State) → Fits g outer labels stack →
      by_step m results beyond (Some o) k (g ∷ outer) ≡ Some (trace.frames (suc k)) → All IsValue stack → HasTypes context s →
      Stands (by_operator m results structure beyond (Some o) k labels stack s)

  -- ---- the end of the function, and of a block

  -- out of the function, with its results on top
  pub leave_stands : (below ws : List Value) (s : State) → types ws ≡ results → All IsValue ws → Stands (leave m results structure (below ++ ws) s)
  leave_stands below ws s w a =
      let n : length results ≡ length ws = sym (ap length w) ∙ length_types ws in
      subst (λ (vs : List Value). (types vs ≡ results) × All IsValue vs) (sym (last_is below ws (length results) n)) (w, a)

  -- behind the end of a block with its results on top
  pub ends_stand : (f : Frame) (outer : List Frame) (label : Label) (labels : List Label) (below ws : List Value) (s : State) →
      (opened : IsOpen f label outer) → types ws ≡ opened.arity.ends → (g : Frame) (gs : List Frame) → outer ≡ g ∷ gs →
      Fits g gs labels below → All IsValue (below ++ ws) → HasTypes context s → Stands (At (suc (ending label.opener)) labels (below ++ ws) s)
  ends_stand f outer label labels below ws s h w g gs is fits a typed =
      let top = top_of g gs labels below fits in
      let ts = h.arity.ends in
      let same : below ++ ws ≡ top.below ++ (top.vs ++ ws) = ap (λ (x : List Value). x ++ ws) top.is ∙ append_assoc top.below top.vs ws in
      let l = h.inside in (
        omega arith,
        push ts g,
        gs,
        h.after ∙ ap (pushed ts) is,
        subst (Fits (push ts g) gs labels) (sym same) (top.again (push ts g) (top.vs ++ ws) (record { opened = refl; starts = refl; ends = refl })
            (push_values ts g top.vs ws top.values w)),
        a,
        typed,
      )
