-- A valid body is never stuck under the standard's control.
use Rattle.std.proofs.Common.{◌≡◌, ℕ, suc, ◌+◌, ◌<◌, ◌⊎◌, inl, inr, List, [], ◌∷◌, ◌++◌, length, drop, Some, refl, sym, ap, ap₂, ◌∙◌, subst}
use Rattle.std.proofs.Common.{append_assoc, arith}
use Rattle.std.specs.Prelude.{slice_get, option_map}
use Rattle.std.specs.List.{All}
use Rattle.std.proofs.lemmas.List.Elements.{All-nil}
use Rattle.wasm_code.specs.Instruction.{Instruction}
use Rattle.wasm_code.specs.declared.operator.Operator.{Operator}
use Rattle.wasm_code.specs.declared.operator.Operator.TheVariants as op
use Rattle.wasm_types.specs.Module.{Module}
use Rattle.wasm_types.specs.declared.types.PrimitiveTypeInfo.{PrimitiveTypeInfo}
use Rattle.wasm_execution.specs.Values.{Value, IsValue, Context, State, HasTypes, Outcome, Ends, Traps, Stuck}
use Rattle.wasm_execution.specs.Machine.{run}
use Rattle.wasm_execution.specs.RowLemmas.{and_then_some, map_some}
use Rattle.wasm_equivalence.specs.control.Function.{structural, piece, Label, Reached, At, Done, Control, go_on, pass, runs}
use Rattle.wasm_equivalence.specs.control.Blocks.{arity_of, has_arity, role_of}
use Rattle.wasm_equivalence.specs.control.Standard.{Beyond, leave, jump_to, by_operator, standard}
use Rattle.wasm_equivalence.specs.validation.Algorithm.{Frame, Structural, on_innermost}
use Rattle.wasm_equivalence.specs.validation.StandardSteps.{pop, cut_off, opened_by, body_frame, label_types, by_step, standard_steps}
use Rattle.wasm_equivalence.specs.validation.Sound.{HasValues, EndsIn, EndsWith, HasTargets, HasDeeds, IsValid, ValidBodiesRun, LapsArePasses}
use Rattle.wasm_equivalence.proofs.control.LapLemmas.{runs_keep}
use Rattle.wasm_equivalence.proofs.control.PassLemmas.{Within, run_passes, ends_alike}
use Rattle.wasm_equivalence.proofs.validation.PoppedLemmas.{pop_values}
use Rattle.wasm_equivalence.proofs.validation.RunChecks.{if_some, valid_code}
use Rattle.wasm_equivalence.proofs.validation.TraceLemmas.{check_instructions, Trace, trace_of}
use Rattle.wasm_equivalence.proofs.validation.FrameLemmas.{code_like, instructions_on, instructions_none}
use Rattle.wasm_equivalence.proofs.validation.ClosingLemmas.{dropped, none_left}
use Rattle.wasm_equivalence.proofs.validation.WalkLemmas.{Walk, all_behind, open_parts, Fits, top_of, Stands, Next, leave_stands}
use Rattle.wasm_equivalence.proofs.validation.BranchLemmas.{taken_stands, br_if_stands, br_table_stands}
use Rattle.wasm_equivalence.proofs.validation.BlockLemmas.{else_parts, closed_of, closed_after, at_label, never_catches, enter_stands}
use Rattle.wasm_equivalence.proofs.validation.BlockLemmas.{skip_stands, close_stands, if_stands}
use Rattle.wasm_equivalence.proofs.validation.CallLemmas.{call_stands}
use Rattle.wasm_equivalence.proofs.validation.OtherLemmas.{other_stands}

module _ (walk : Walk) where
  open walk use {context, results, structure, pieces, beyond, trace}

  abbrev m : Module
  m = context.info

  operator_stands : (o : Operator) (k : ℕ) → k < length structure → slice_get structure k ≡ Some o → Next walk k o
  operator_stands (op.Block t) k l at g outer labels stack s fits e a typed =
      let ar = arity_of m t in
      let (h, b, c) = open_parts (op.Block t) ar g outer (trace.frames (suc k)) (if_some (has_arity m t) _ (trace.frames (suc k)) e).1 in
      enter_stands walk (op.Block t) ar k (suc k) g h outer labels stack s (omega arith) c (record {
        arity = ar;
        starts = refl;
        ends = refl;
        inside = (closed_of walk (op.Block t) ar k (h ∷ outer) l c).inside;
        after = closed_after walk (op.Block t) ar k h outer l c;
        kind = inr (λ ls z q. ap (λ o. jump_to m results structure beyond o (at_label walk k stack ar) ls z q) at, λ f. refl);
        catches = never_catches walk (opened_by (op.Block t) ar) (at_label walk k stack ar) (h ∷ outer) (op.Block t) at (λ mark rest. refl);
      }) fits b a typed
  operator_stands (op.Loop t) k l at g outer labels stack s fits e a typed =
      let ar = arity_of m t in
      let (h, b, c) = open_parts (op.Loop t) ar g outer (trace.frames (suc k)) (if_some (has_arity m t) _ (trace.frames (suc k)) e).1 in
      enter_stands walk (op.Loop t) ar k (suc k) g h outer labels stack s (omega arith) c (record {
        arity = ar;
        starts = refl;
        ends = refl;
        inside = (closed_of walk (op.Loop t) ar k (h ∷ outer) l c).inside;
        after = closed_after walk (op.Loop t) ar k h outer l c;
        kind = inl (t, at, refl, refl, c);
        catches = never_catches walk (opened_by (op.Loop t) ar) (at_label walk k stack ar) (h ∷ outer) (op.Loop t) at (λ mark rest. refl);
      }) fits b a typed
  operator_stands (op.If t) k l at g outer labels stack s fits e a typed = if_stands walk t k l at g outer labels stack s fits e a typed
  operator_stands op.Else k l at g outer labels stack s fits e a typed =
      let (t, b, c) = else_parts g.opened g outer (trace.frames (suc k)) e in skip_stands walk g outer labels stack s (op.If t) fits b c a typed
  operator_stands op.End k l at g outer labels stack s fits e a typed = close_stands walk k g outer labels stack s l fits e a typed
  operator_stands (op.Br n) k l at g outer labels stack s fits e a typed =
      let next = trace.frames (suc k) in
      let (to, there, b) = and_then_some (λ f. on_innermost (λ g. option_map cut_off (pop (label_types f) g)) (g ∷ outer)) (slice_get (g ∷ outer) n) next e in
      let (h, c, d) = map_some (λ (h : Frame). h ∷ outer) (option_map cut_off (pop (label_types to) g)) next b in
      let (q, u, v) = map_some cut_off (pop (label_types to) g) h c in
      taken_stands walk n g q to outer labels stack s fits there u a typed
  operator_stands (op.BrIf n) k l at g outer labels stack s fits e a typed = br_if_stands walk n k l g outer labels stack s fits e a typed
  operator_stands (op.BrTable n) k l at g outer labels stack s fits e a typed = br_table_stands walk n k l g outer labels stack s fits e a typed
  operator_stands (op.CallIndirect type table) k l at g outer labels stack s fits e a typed =
      call_stands walk type table k l at g outer labels stack s fits e a typed
  operator_stands op.Return k l at g outer labels stack s fits e a typed =
      let (h, c, d) = map_some (λ (h : Frame). h ∷ outer) (option_map cut_off (pop results g)) (trace.frames (suc k)) e in
      let (q, u, v) = map_some cut_off (pop results g) h c in
      let top = top_of walk g outer labels stack fits in
      let p = pop_values results g q top.vs top.values u in
      let whole : stack ≡ (top.below ++ p.rest) ++ p.top =
      top.is ∙ (ap (λ (x : List Value). top.below ++ x) p.is ∙ sym (append_assoc top.below p.rest p.top)) in
      subst (λ (z : List Value). Stands walk (leave m results structure z s)) (sym whole)
      (leave_stands walk (top.below ++ p.rest) p.top s p.typed (all_behind (top.below ++ p.rest) p.top (subst (All IsValue) whole a)))
  operator_stands op.Unreachable k l at g outer labels stack s fits e a typed = tt
  operator_stands (op.Other x) k l at g outer labels stack s fits e a typed =
      other_stands walk x (role_of x) refl k l at g outer labels stack s fits e a typed
  operator_stands o k l at g outer labels stack s fits e a typed = absurd cc

  -- ---- runs

  abbrev control : Control
  control = standard m results structure beyond

  after_stands : (k : ℕ) (o : Operator) (g : Frame) (outer : List Frame) (labels : List Label) (below : List Value) (r : Outcome) →
      k < length structure → slice_get structure k ≡ Some o → ((ws : List Value) → HasValues g ws → Fits walk g outer labels (below ++ ws)) →
      by_step m results beyond (Some o) k (g ∷ outer) ≡ Some (trace.frames (suc k)) → EndsIn context below g r →
      Stands walk (go_on (control k labels) r)
  after_stands k o g outer labels below (Ends us t) l at again e ends =
      let (ws, is, values, a, typed) = ends in
      subst (λ x. Stands walk (by_operator m results structure beyond x k labels us t)) (sym at)
      (operator_stands o k l at g outer labels us t (subst (Fits walk g outer labels) (sym is) (again ws values)) e a typed)
  after_stands k o g outer labels below (Traps cause gs q) l at again e ends = tt
  after_stands k o g outer labels below Stuck l at again e ends = ends

  piece_stands : (k : ℕ) (labels : List Label) (stack : List Value) (s : State) → Stands walk (At k labels stack s) →
      Stands walk (go_on (control k labels) (run (pieces k) stack s))
  piece_stands k labels stack s (l, f, outer, e, fits, a, typed) = go (drop k structure) refl
    where
      go : (os : List Operator) → drop k structure ≡ os → Stands walk (go_on (control k labels) (run (pieces k) stack s))
      go [] d =
          let is = none_left structure k l d in
          let none : trace.frames k ≡ [] =
          ap trace.frames is ∙ instructions_none context (pieces (length structure)) (trace.frames (length structure)) trace.last in
          let both : f ∷ outer ≡ [] = sym e ∙ none in absurd cc
      go (o ∷ os) d =
          let (at, later, inside) = dropped structure k o os d in
          let (mid, b, c) = trace.goes k inside in
          let (g, is, code) = instructions_on context (pieces k) f outer mid (ap (check_instructions context (pieces k)) (sym e) ∙ b) in
          let top = top_of walk f outer labels stack fits in
          let step : by_step m results beyond (Some o) k (g ∷ outer) ≡ Some (trace.frames (suc k)) =
          ap₂ (λ x y. by_step m results beyond x k y) (sym at) (sym is) ∙ c in
          after_stands k o g outer labels top.below (run (pieces k) stack s) inside at
          (λ ws values. top.again g ws (code_like context (pieces k) f g code) values) step
          (subst (λ x. EndsIn context top.below g (run (pieces k) x s)) (sym top.is)
          (valid_code context (pieces k) f g top.below top.vs s code top.values (subst (All IsValue) top.is a) typed))

-- ---- the law

from_first : {context : Context} {steps : Structural} {pieces : ℕ → List Instruction} {count : ℕ} {start out : List Frame} →
    Trace context (λ j. steps (0 + j)) pieces count start out → Trace context steps pieces count start out
from_first {steps = steps} t = record {
  frames = t.frames;
  first = t.first;
  goes = λ k l. let (mid, a, b) = t.goes k l in let same : k ≡ 0 + k = omega arith in (mid, a, ap (λ i. steps i mid) same ∙ b);
  last = t.last;
}

module _ (context : Context) (results : List PrimitiveTypeInfo) (body : List Operator) (beyond : Beyond) (valid : IsValid context results beyond body)
    (sound : HasTargets context.info (structural body) beyond) (deeds : HasDeeds context.info results (structural body) beyond) where
  abbrev beginning : List Frame
  beginning = body_frame results ∷ []

  trace_is : Trace context (standard_steps context.info results (structural body) beyond) (piece body) (length (structural body))
      beginning []
  trace_is = from_first (trace_of context (standard_steps context.info results (structural body) beyond) body 0 beginning [] valid)

  abbrev walk_is : Walk
  walk_is = record {
    context = context;
    results = results;
    structure = structural body;
    pieces = piece body;
    start = beginning;
    beyond = beyond;
    trace = trace_is;
    targets = sound;
    deeds = deeds;
  }

  abbrev Good : Reached → Type 0
  Good p = Stands walk_is p

  pass_good : (p : Reached) → Good p → Good (pass (standard context.info results (structural body) beyond) body p)
  pass_good (At k labels stack s) h = piece_stands walk_is k labels stack s h
  pass_good (Done o) h = h

  runs_good : (fuel : ℕ) (p : Reached) → Good p → Good (runs (standard context.info results (structural body) beyond) body fuel p)
  runs_good = runs_keep (standard context.info results (structural body) beyond) body Good pass_good

  good_ends : (p : Reached) → Good p → EndsWith results p
  good_ends (At k labels stack s) h = tt
  good_ends (Done (Ends vs s)) h = h
  good_ends (Done (Traps cause gs r)) h = tt
  good_ends (Done Stuck) h = h

  begins : (s : State) → HasTypes context s → Good (At 0 [] [] s)
  begins s h =
      (omega arith, body_frame results, [], trace_is.first, (refl, refl, record { operands_are = refl; reached = refl }), All-nil IsValue, h)

pub valid_bodies : ValidBodiesRun
valid_bodies context results body beyond valid sound deeds fuel s h =
    good_ends context results body beyond valid sound deeds (runs (standard context.info results (structural body) beyond) body fuel (At 0 [] [] s))
    (runs_good context results body beyond valid sound deeds fuel (At 0 [] [] s) (begins context results body beyond valid sound deeds s h))

pub laps_pass : LapsArePasses
laps_pass = record {
  some_passes = run_passes;
  enough = λ context results body beyond valid sound deeds count s o typed e.
      ends_alike (standard context.info results (structural body) beyond) body (Good context results body beyond valid sound deeds)
      (pass_good context results body beyond valid sound deeds) (λ p h. stands context results body beyond valid sound deeds p h) count (At 0 [] [] s) o
      (begins context results body beyond valid sound deeds s typed) e;
}
  where
    stands : (context : Context) (results : List PrimitiveTypeInfo) (body : List Operator) (beyond : Beyond) (valid : IsValid context results beyond body)
        (sound : HasTargets context.info (structural body) beyond) (deeds : HasDeeds context.info results (structural body) beyond) (p : Reached) →
        Good context results body beyond valid sound deeds p →
        (Within (standard context.info results (structural body) beyond) body (length (structural body)) p) ⊎ ((o : Outcome) × (p ≡ Done o))
    stands context results body beyond valid sound deeds (At k labels stack s) h = inl h.0
    stands context results body beyond valid sound deeds (Done o) h = inr (o, refl)
