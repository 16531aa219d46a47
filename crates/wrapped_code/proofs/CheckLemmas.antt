-- Wrapped code in a body that is valid: the body stays valid.
use Rattle.std.proofs.Common.{◌≡◌, ℕ, suc, ◌+◌, ◌<◌, ◌≤◌, List, [], ◌∷◌, ◌++◌, drop, Option, Some, refl, sym, ap, ◌∙◌, arith}
use Rattle.std.specs.Prelude.{map, slice_get, option_map, option_and_then}
use Rattle.wasm_code.specs.Instruction.{Instruction}
use Rattle.wasm_code.specs.declared.operator.Operator.{Operator}
use Rattle.wasm_code.specs.declared.operator.Operator.TheVariants as op
use Rattle.wasm_types.specs.declared.types.PrimitiveTypeInfo.{PrimitiveTypeInfo}
use Rattle.wasm_types.specs.declared.types.PrimitiveTypeInfo.TheVariants as primitive
use Rattle.wasm_execution.specs.Values.{Context}
use Rattle.wasm_execution.specs.IntegerRow.{integer_row}
use Rattle.wasm_execution.specs.RowLemmas.{and_then_some, map_some}
use Rattle.wasm_equivalence.specs.control.Function.{structural}
use Rattle.wasm_equivalence.specs.control.Blocks.{arity_of, has_arity}
use Rattle.wasm_equivalence.specs.control.Standard.{Beyond, by_asked}
use Rattle.wasm_equivalence.specs.control.Wider.{wider}
use Rattle.wasm_equivalence.specs.validation.Algorithm.{Frame, check_row, check_code, Structural, on_innermost, check}
use Rattle.wasm_equivalence.specs.validation.StandardSteps.{pop, push, cut_off, label_types, body_frame, open_frame, close_frame}
use Rattle.wasm_equivalence.specs.validation.StandardSteps.{other_frame, only_where, by_step, standard_steps}
use Rattle.wasm_equivalence.specs.validation.Sound.{IsValid}
use Rattle.wasm_equivalence.specs.validation.StaysValid.{MoreGlobalsCheckAlike}
use Rattle.wrapped_code.specs.Wrapped.{Wrapped, plain, both, block, loop, choice, leaving, exits, once, trap, written, check_wrapped, WrappedChecksAs}
use Rattle.wrapped_code.proofs.PlaceLemmas.{bones, past, coded_structure, written_structure, bones_append, past_adds, past_counts, dropped}
use Rattle.wrapped_code.proofs.PlaceLemmas.{count, front_structure}
use Rattle.wrapped_code.proofs.MovedLemmas.{moved, moved_before, moved_behind, drop_behind}
use Rattle.wrapped_code.proofs.StepLemmas.{step_wider, innermost_wider, coded_check}
use Rattle.wrapped_code.proofs.TableLemmas.{no_tables}
use Rattle.wrapped_code.proofs.BetweenLemmas.{steps_between}

-- ---- the code itself

module _ (context : Context) (results : List PrimitiveTypeInfo) (structure : List Operator) (beyond : Beyond) where
  abbrev steps : Structural
  steps = standard_steps context.info results structure beyond

  drop_past : (c : Wrapped) (n : ℕ) (os : List Operator) → drop n structure ≡ bones c os → drop (past c n) structure ≡ os
  drop_past (plain code) n os e = e
  drop_past (both a b) n os e = drop_past b (past a n) os (drop_past a n (bones b os) e)
  drop_past (block t a) n os e =
      (dropped structure (past a (suc n)) op.End os
      (drop_past a (suc n) (op.End ∷ os) (dropped structure n (op.Block t) (bones a (op.End ∷ os)) e).1)).1
  drop_past (loop t a) n os e =
      (dropped structure (past a (suc n)) op.End os
      (drop_past a (suc n) (op.End ∷ os) (dropped structure n (op.Loop t) (bones a (op.End ∷ os)) e).1)).1
  drop_past (choice t a b) n os e =
      let x = dropped structure n (op.If t) (bones a (op.Else ∷ bones b (op.End ∷ os))) e in
      let y = dropped structure (past a (suc n)) op.Else (bones b (op.End ∷ os)) (drop_past a (suc n) (op.Else ∷ bones b (op.End ∷ os)) x.1) in
      let j = suc (past a (suc n)) in
      (dropped structure (past b j) op.End os (drop_past b j (op.End ∷ os) y.1)).1
  drop_past (leaving t a b) n os e =
      let x = dropped structure n (op.Block t) (bones a (op.Br 0 ∷ bones b (op.End ∷ os))) e in
      let y = dropped structure (past a (suc n)) (op.Br 0) (bones b (op.End ∷ os)) (drop_past a (suc n) (op.Br 0 ∷ bones b (op.End ∷ os)) x.1) in
      let j = suc (past a (suc n)) in
      (dropped structure (past b j) op.End os (drop_past b j (op.End ∷ os) y.1)).1
  drop_past (exits t a b) n os e =
      let x = dropped structure n (op.Block t) (bones a (op.BrIf 0 ∷ bones b (op.End ∷ os))) e in
      let y = dropped structure (past a (suc n)) (op.BrIf 0) (bones b (op.End ∷ os)) (drop_past a (suc n) (op.BrIf 0 ∷ bones b (op.End ∷ os)) x.1) in
      let j = suc (past a (suc n)) in
      (dropped structure (past b j) op.End os (drop_past b j (op.End ∷ os) y.1)).1
  drop_past (once t a) n os e =
      let x = dropped structure n (op.Loop t) (bones a (op.BrIf 0 ∷ op.End ∷ os)) e in
      let y = dropped structure (past a (suc n)) (op.BrIf 0) (op.End ∷ os) (drop_past a (suc n) (op.BrIf 0 ∷ op.End ∷ os) x.1) in
      (dropped structure (suc (past a (suc n))) op.End os y.1).1
  drop_past trap n os e = (dropped structure n op.Unreachable os e).1

  -- one structural operator
  pub one_step : (n : ℕ) (o : Operator) (os : List Operator) (frames next : List Frame) → slice_get structure n ≡ Some o →
      by_step context.info results beyond (Some o) n frames ≡ Some next →
      option_and_then (check context steps (suc n) os) (steps n frames) ≡ check context steps (suc n) os next
  one_step n o os frames next at e =
      ap (option_and_then (check context steps (suc n) os)) (ap (λ x. by_step context.info results beyond x n frames) at ∙ e)

  pub wrapped_checks : (c : Wrapped) (n : ℕ) (back : List Operator) (frames next : List Frame) → drop n structure ≡ bones c (structural back) →
      check_wrapped context c frames ≡ Some next → check context steps n (written c back) frames ≡ check context steps (past c n) back next
  wrapped_checks (plain code) n back [] next d e = absurd cc
  wrapped_checks (plain code) n back (f ∷ fs) next d e =
      let (g, a, b) = map_some (λ (g : Frame). g ∷ fs) (check_code context code f) next e in
      coded_check context steps code back n f fs ∙
      (ap (option_and_then (λ (g : Frame). check context steps n back (g ∷ fs))) a ∙ ap (check context steps n back) b)
  wrapped_checks (both a b) n back frames next d e =
      let (f, x, y) = and_then_some (check_wrapped context b) (check_wrapped context a frames) next e in
      let da : drop n structure ≡ bones a (structural (written b back)) = d ∙ ap (bones a) (sym (written_structure b back)) in
      wrapped_checks a n (written b back) frames f da x ∙
      wrapped_checks b (past a n) back f next (drop_past a n (bones b (structural back)) d) y
  wrapped_checks (block t a) n back frames next d e =
      let opening = only_where (has_arity context.info t) (open_frame (op.Block t) (arity_of context.info t) frames) in
      let (f, x, y) = and_then_some close_frame (option_and_then (check_wrapped context a) opening) next e in
      let (g, u, v) = and_then_some (check_wrapped context a) opening f x in
      let h = dropped structure n (op.Block t) (bones a (op.End ∷ structural back)) d in
      let k = dropped structure (past a (suc n)) op.End (structural back) (drop_past a (suc n) (op.End ∷ structural back) h.1) in
      one_step n (op.Block t) (written a (op.End ∷ back)) frames g h.0 u ∙
      (wrapped_checks a (suc n) (op.End ∷ back) g f h.1 v ∙ one_step (past a (suc n)) op.End back f next k.0 y)
  wrapped_checks (loop t a) n back frames next d e =
      let opening = only_where (has_arity context.info t) (open_frame (op.Loop t) (arity_of context.info t) frames) in
      let (f, x, y) = and_then_some close_frame (option_and_then (check_wrapped context a) opening) next e in
      let (g, u, v) = and_then_some (check_wrapped context a) opening f x in
      let h = dropped structure n (op.Loop t) (bones a (op.End ∷ structural back)) d in
      let k = dropped structure (past a (suc n)) op.End (structural back) (drop_past a (suc n) (op.End ∷ structural back) h.1) in
      one_step n (op.Loop t) (written a (op.End ∷ back)) frames g h.0 u ∙
      (wrapped_checks a (suc n) (op.End ∷ back) g f h.1 v ∙ one_step (past a (suc n)) op.End back f next k.0 y)
  wrapped_checks (choice t a b) n back frames next d e =
      let opening =
      only_where (has_arity context.info t)
      (option_and_then (open_frame (op.If t) (arity_of context.info t)) (on_innermost (pop (primitive.I32 ∷ [])) frames)) in
      let j = suc (past a (suc n)) in
      let (f, x, y) = and_then_some close_frame (option_and_then (check_wrapped context b) (option_and_then other_frame
      (option_and_then (check_wrapped context a) opening))) next e in
      let (g, u, v) = and_then_some (check_wrapped context b) (option_and_then other_frame (option_and_then (check_wrapped context a) opening)) f x in
      let (i, p, q) = and_then_some other_frame (option_and_then (check_wrapped context a) opening) g u in
      let (l, r, w) = and_then_some (check_wrapped context a) opening i p in
      let h = dropped structure n (op.If t) (bones a (op.Else ∷ bones b (op.End ∷ structural back))) d in
      let k = dropped structure (past a (suc n)) op.Else (bones b (op.End ∷ structural back))
      (drop_past a (suc n) (op.Else ∷ bones b (op.End ∷ structural back)) h.1) in
      let z = dropped structure (past b j) op.End (structural back) (drop_past b j (op.End ∷ structural back) k.1) in
      let da : drop (suc n) structure ≡ bones a (op.Else ∷ structural (written b (op.End ∷ back))) =
      h.1 ∙ ap (λ os. bones a (op.Else ∷ os)) (sym (written_structure b (op.End ∷ back))) in
      one_step n (op.If t) (written a (op.Else ∷ written b (op.End ∷ back))) frames l h.0 r ∙
      (wrapped_checks a (suc n) (op.Else ∷ written b (op.End ∷ back)) l i da w ∙
      (one_step (past a (suc n)) op.Else (written b (op.End ∷ back)) i g k.0 q ∙
      (wrapped_checks b j (op.End ∷ back) g f k.1 v ∙ one_step (past b j) op.End back f next z.0 y)))
  wrapped_checks (leaving t a b) n back frames next d e =
      let opening = only_where (has_arity context.info t) (open_frame (op.Block t) (arity_of context.info t) frames) in
      let jump : List Frame → Option (List Frame) =
      λ fs. option_and_then (λ f. on_innermost (λ g. option_map cut_off (pop (label_types f) g)) fs) (slice_get fs 0) in
      let j = suc (past a (suc n)) in
      let (f, x, y) = and_then_some close_frame (option_and_then (check_wrapped context b) (option_and_then jump
      (option_and_then (check_wrapped context a) opening))) next e in
      let (g, u, v) = and_then_some (check_wrapped context b) (option_and_then jump (option_and_then (check_wrapped context a) opening)) f x in
      let (i, p, q) = and_then_some jump (option_and_then (check_wrapped context a) opening) g u in
      let (l, r, w) = and_then_some (check_wrapped context a) opening i p in
      let h = dropped structure n (op.Block t) (bones a (op.Br 0 ∷ bones b (op.End ∷ structural back))) d in
      let k = dropped structure (past a (suc n)) (op.Br 0) (bones b (op.End ∷ structural back))
      (drop_past a (suc n) (op.Br 0 ∷ bones b (op.End ∷ structural back)) h.1) in
      let z = dropped structure (past b j) op.End (structural back) (drop_past b j (op.End ∷ structural back) k.1) in
      let da : drop (suc n) structure ≡ bones a (op.Br 0 ∷ structural (written b (op.End ∷ back))) =
      h.1 ∙ ap (λ os. bones a (op.Br 0 ∷ os)) (sym (written_structure b (op.End ∷ back))) in
      one_step n (op.Block t) (written a (op.Br 0 ∷ written b (op.End ∷ back))) frames l h.0 r ∙
      (wrapped_checks a (suc n) (op.Br 0 ∷ written b (op.End ∷ back)) l i da w ∙
      (one_step (past a (suc n)) (op.Br 0) (written b (op.End ∷ back)) i g k.0 q ∙
      (wrapped_checks b j (op.End ∷ back) g f k.1 v ∙ one_step (past b j) op.End back f next z.0 y)))
  wrapped_checks (exits t a b) n back frames next d e =
      let opening = only_where (has_arity context.info t) (open_frame (op.Block t) (arity_of context.info t) frames) in
      let jump : List Frame → Option (List Frame) =
      λ fs. option_and_then (λ f. on_innermost (λ g. option_and_then (λ d. option_map (push (label_types f)) (pop (label_types f) d))
      (pop (primitive.I32 ∷ []) g)) fs) (slice_get fs 0) in
      let j = suc (past a (suc n)) in
      let (f, x, y) = and_then_some close_frame (option_and_then (check_wrapped context b) (option_and_then jump
      (option_and_then (check_wrapped context a) opening))) next e in
      let (g, u, v) = and_then_some (check_wrapped context b) (option_and_then jump (option_and_then (check_wrapped context a) opening)) f x in
      let (i, p, q) = and_then_some jump (option_and_then (check_wrapped context a) opening) g u in
      let (l, r, w) = and_then_some (check_wrapped context a) opening i p in
      let h = dropped structure n (op.Block t) (bones a (op.BrIf 0 ∷ bones b (op.End ∷ structural back))) d in
      let k = dropped structure (past a (suc n)) (op.BrIf 0) (bones b (op.End ∷ structural back))
      (drop_past a (suc n) (op.BrIf 0 ∷ bones b (op.End ∷ structural back)) h.1) in
      let z = dropped structure (past b j) op.End (structural back) (drop_past b j (op.End ∷ structural back) k.1) in
      let da : drop (suc n) structure ≡ bones a (op.BrIf 0 ∷ structural (written b (op.End ∷ back))) =
      h.1 ∙ ap (λ os. bones a (op.BrIf 0 ∷ os)) (sym (written_structure b (op.End ∷ back))) in
      one_step n (op.Block t) (written a (op.BrIf 0 ∷ written b (op.End ∷ back))) frames l h.0 r ∙
      (wrapped_checks a (suc n) (op.BrIf 0 ∷ written b (op.End ∷ back)) l i da w ∙
      (one_step (past a (suc n)) (op.BrIf 0) (written b (op.End ∷ back)) i g k.0 q ∙
      (wrapped_checks b j (op.End ∷ back) g f k.1 v ∙ one_step (past b j) op.End back f next z.0 y)))
  wrapped_checks (once t a) n back frames next d e =
      let opening = only_where (has_arity context.info t) (open_frame (op.Loop t) (arity_of context.info t) frames) in
      let jump : List Frame → Option (List Frame) =
      λ fs. option_and_then (λ f. on_innermost (λ g. option_and_then (λ d. option_map (push (label_types f)) (pop (label_types f) d))
      (pop (primitive.I32 ∷ []) g)) fs) (slice_get fs 0) in
      let (f, x, y) = and_then_some close_frame (option_and_then jump (option_and_then (check_wrapped context a) opening)) next e in
      let (i, p, q) = and_then_some jump (option_and_then (check_wrapped context a) opening) f x in
      let (l, r, w) = and_then_some (check_wrapped context a) opening i p in
      let h = dropped structure n (op.Loop t) (bones a (op.BrIf 0 ∷ op.End ∷ structural back)) d in
      let k = dropped structure (past a (suc n)) (op.BrIf 0) (op.End ∷ structural back)
      (drop_past a (suc n) (op.BrIf 0 ∷ op.End ∷ structural back) h.1) in
      let z = dropped structure (suc (past a (suc n))) op.End (structural back) k.1 in
      one_step n (op.Loop t) (written a (op.BrIf 0 ∷ op.End ∷ back)) frames l h.0 r ∙
      (wrapped_checks a (suc n) (op.BrIf 0 ∷ op.End ∷ back) l i h.1 w ∙
      (one_step (past a (suc n)) (op.BrIf 0) (op.End ∷ back) i f k.0 q ∙ one_step (suc (past a (suc n))) op.End back f next z.0 y))
  wrapped_checks trap n back frames next d e =
      one_step n op.Unreachable back frames next (dropped structure n op.Unreachable (structural back) d).0 e

-- ---- the body around it

module _ (law : MoreGlobalsCheckAlike) (input : List ℕ) (more : List PrimitiveTypeInfo) (context : Context) (a b : Structural) where
  abbrev all : Context
  all = wider input more context

  -- the operators of the back, whose numbers moved
  pub back_checks : (m : ℕ) (os : List Operator) (k j : ℕ) (frames left : List Frame) → j ≡ k + m →
      ((i : ℕ) (fs : List Frame) → k ≤ i → a i fs ≡ b (i + m) fs) → check context a k os frames ≡ Some left → check all b j os frames ≡ Some left
  back_checks m [] k j frames left e same h = h
  back_checks m (op.Instr i ∷ os) k j frames left e same h =
      let (next, x, y) = and_then_some (check context a k os) (on_innermost (check_row context (integer_row i)) frames) left h in
      ap (option_and_then (check all b j os)) (innermost_wider input more law context i frames next x) ∙ back_checks m os k j next left e same y
  back_checks m (o ∷ os) k j frames left e same h =
      let (next, x, y) = and_then_some (check context a (suc k) os) (a k frames) left h in
      ap (option_and_then (check all b (suc j) os)) (ap (λ i. b i frames) e ∙ (sym (same k frames (omega arith)) ∙ x)) ∙
      back_checks m os (suc k) (suc j) next left (omega arith) (λ i fs l. same i fs (omega arith)) y

  -- the operators of the front, whose numbers stay
  pub front_checks : (n : ℕ) (rest new : List Operator) → (front : List Operator) (k : ℕ) (frames left : List Frame) → k + count front ≡ n →
      ((i : ℕ) (fs : List Frame) → i < n → a i fs ≡ b i fs) →
      ((fs : List Frame) → check context a n rest fs ≡ Some left → check all b n new fs ≡ Some left) →
      check context a k (front ++ rest) frames ≡ Some left → check all b k (front ++ new) frames ≡ Some left
  front_checks n rest new [] k frames left e same there h =
      let x : k ≡ n = omega arith in
      ap (λ i. check all b i new frames) x ∙ there frames (ap (λ i. check context a i rest frames) (sym x) ∙ h)
  front_checks n rest new (op.Instr i ∷ front) k frames left e same there h =
      let (next, x, y) = and_then_some (check context a k (front ++ rest)) (on_innermost (check_row context (integer_row i)) frames) left h in
      ap (option_and_then (check all b k (front ++ new))) (innermost_wider input more law context i frames next x) ∙
      front_checks n rest new front k next left e same there y
  front_checks n rest new (o ∷ front) k frames left e same there h =
      let (next, x, y) = and_then_some (check context a (suc k) (front ++ rest)) (a k frames) left h in
      ap (option_and_then (check all b (suc k) (front ++ new))) (sym (same k frames (omega arith)) ∙ x) ∙
      front_checks n rest new front (suc k) next left (omega arith) same there y

module _ (law : MoreGlobalsCheckAlike) (input : List ℕ) (more : List PrimitiveTypeInfo) (context : Context) (results : List PrimitiveTypeInfo)
    (beyond : Beyond) (front back : List Operator) (head : Instruction) (own : List Instruction) (c : Wrapped)
    (checks_as : WrappedChecksAs context (wider input more context) (head ∷ own) c) where
  abbrev pub old : List Operator
  old = front ++ (map (λ (i : Instruction). op.Instr i) (head ∷ own) ++ back)

  abbrev pub new : List Operator
  new = front ++ written c back

  abbrev n : ℕ
  n = count front

  abbrev m : ℕ
  m = past c 0

  abbrev xs : List Operator
  xs = structural front

  abbrev middle : List Operator
  middle = bones c []

  abbrev ys : List Operator
  ys = structural back

  abbrev after : Context
  after = wider input more context

  abbrev old_steps : Structural
  old_steps = standard_steps context.info results (structural old) (by_asked (structural old) beyond)

  abbrev new_steps : Structural
  new_steps = standard_steps after.info results (structural new) (by_asked (structural new) beyond)

  old_is : structural old ≡ xs ++ ys
  old_is = front_structure front (map (λ (i : Instruction). op.Instr i) (head ∷ own) ++ back) ∙ ap (λ os. xs ++ os) (coded_structure (head ∷ own) back)

  written_is : structural new ≡ xs ++ structural (written c back)
  written_is = front_structure front (written c back)

  new_is : structural new ≡ xs ++ (middle ++ ys)
  new_is = written_is ∙ ap (λ os. xs ++ os) (written_structure c back ∙ bones_append c [] ys)

  steps_moved : (k : ℕ) (fs : List Frame) → old_steps k fs ≡ new_steps (moved n m k) fs
  steps_moved k fs =
      ap (λ os. by_step context.info results (by_asked os beyond) (slice_get os k) k fs) old_is ∙
      (step_wider input more context.info results (by_asked (xs ++ ys) beyond) (slice_get (xs ++ ys) k) k fs ∙
      (sym (steps_between xs middle ys n m refl (past_counts c []) (no_tables c []) after.info results beyond k fs) ∙
      ap (λ os. by_step after.info results (by_asked os beyond) (slice_get os (moved n m k)) (moved n m k) fs) (sym new_is)))

  here : (left : List Frame) (fs : List Frame) →
      check context old_steps n (map (λ (i : Instruction). op.Instr i) (head ∷ own) ++ back) fs ≡ Some left →
      check after new_steps n (written c back) fs ≡ Some left
  here left [] e = absurd cc
  here left (f ∷ fs) e =
      let (g, x, y) = and_then_some (λ (g : Frame). check context old_steps n back (g ∷ fs)) (check_code context (head ∷ own) f) left
      (sym (coded_check context old_steps (head ∷ own) back n f fs) ∙ e) in
      let p = past_adds c n in
      wrapped_checks after results (structural new) (by_asked (structural new) beyond) c n back (f ∷ fs) (g ∷ fs)
      (ap (drop n) (written_is ∙ ap (λ os. xs ++ os) (written_structure c back)) ∙ drop_behind xs (bones c ys) 0 n (omega arith))
      (checks_as f g fs x) ∙
      back_checks law input more context old_steps new_steps m back n (past c n) (g ∷ fs) left (omega arith)
      (λ i fs l. steps_moved i fs ∙ ap (λ j. new_steps j fs) (moved_behind n m i l)) y

  pub wrapped_valid : IsValid context results (by_asked (structural old) beyond) old → IsValid after results (by_asked (structural new) beyond) new
  wrapped_valid h =
      front_checks law input more context old_steps new_steps n (map (λ (i : Instruction). op.Instr i) (head ∷ own) ++ back) (written c back) front 0
      (body_frame results ∷ []) [] (omega arith) (λ i fs l. steps_moved i fs ∙ ap (λ j. new_steps j fs) (moved_before n m i l)) (here []) h
