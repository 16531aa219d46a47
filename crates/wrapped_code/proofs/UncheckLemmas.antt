-- Wrapped code in a body that is valid, replaced by instructions that push what it pushes: the body stays valid.
use Rattle.std.proofs.Common.{◌≡◌, ℕ, suc, ◌+◌, ◌≤◌, Bool, true, false, List, [], ◌∷◌, ◌++◌, drop, Option, Some, None, refl, sym, ap, ◌∙◌, arith}
use Rattle.std.specs.Prelude.{◌||◌, map, slice_get, option_map, option_and_then}
use Rattle.std.proofs.lemmas.Bool.{or_parts}
use Rattle.wasm_code.specs.Instruction.{Instruction}
use Rattle.wasm_code.specs.declared.operator.Operator.{Operator}
use Rattle.wasm_code.specs.declared.operator.Operator.TheVariants as op
use Rattle.wasm_types.specs.declared.types.PrimitiveTypeInfo.{PrimitiveTypeInfo}
use Rattle.wasm_execution.specs.Values.{Context}
use Rattle.wasm_execution.specs.IntegerRow.{integer_row}
use Rattle.wasm_execution.specs.RowLemmas.{and_then_some, map_some}
use Rattle.wasm_equivalence.specs.control.Function.{structural}
use Rattle.wasm_equivalence.specs.control.Blocks.{has_arity}
use Rattle.wasm_equivalence.specs.control.Standard.{Beyond, by_asked}
use Rattle.wasm_equivalence.specs.control.Wider.{wider}
use Rattle.wasm_equivalence.specs.validation.Algorithm.{Frame, check_row, check_code, Structural, on_innermost, check}
use Rattle.wasm_equivalence.specs.validation.StandardSteps.{body_frame, only_where, by_step, standard_steps}
use Rattle.wasm_equivalence.specs.validation.Sound.{IsValid}
use Rattle.wasm_equivalence.specs.validation.StaysValid.{with_types, Pushes, MoreGlobalsCheckAlike}
use Rattle.wrapped_code.specs.Wrapped.{Wrapped, plain, both, block, loop, choice, leaving, exits, once, trap, written, has_operators, check_wrapped}
use Rattle.wrapped_code.specs.Ways.{WrappedPushes}
use Rattle.wrapped_code.proofs.PlaceLemmas.{bones, past, coded_structure, written_structure, bones_append, past_adds, past_counts, dropped}
use Rattle.wrapped_code.proofs.PlaceLemmas.{count, front_structure}
use Rattle.wrapped_code.proofs.MovedLemmas.{moved, moved_before, moved_behind, drop_behind}
use Rattle.wrapped_code.proofs.StepLemmas.{step_wider, innermost_wider, coded_check}
use Rattle.wrapped_code.proofs.TableLemmas.{no_tables}
use Rattle.wrapped_code.proofs.BetweenLemmas.{steps_between}
use Rattle.wrapped_code.proofs.FrameLemmas.{none_on}
use Rattle.wrapped_code.proofs.CheckLemmas.{wrapped_checks, front_checks}

-- ---- where no frame is open

nothing_written : (c : Wrapped) (rest : List Operator) → has_operators c ≡ false → written c rest ≡ rest
nothing_written (plain []) rest e = refl
nothing_written (plain (i ∷ code)) rest e = absurd cc
nothing_written (both a b) rest e =
    let p = or_parts (has_operators a) (has_operators b) e in nothing_written a (written b rest) p.0 ∙ nothing_written b rest p.1
nothing_written c rest e = absurd cc

module _ (context : Context) (results : List PrimitiveTypeInfo) (structure : List Operator) (beyond : Beyond) where
  abbrev steps : Structural
  steps = standard_steps context.info results structure beyond

  only_none : (b : Bool) → ◌≡◌ {A = Option (List Frame)} (only_where b None) None
  only_none true = refl
  only_none false = refl

  -- a structural operator that needs a frame
  stops : (n : ℕ) (o : Operator) (os : List Operator) → slice_get structure n ≡ Some o →
      by_step context.info results beyond (Some o) n [] ≡ None → option_and_then (check context steps (suc n) os) (steps n []) ≡ None
  stops n o os at e = ap (option_and_then (check context steps (suc n) os)) (ap (λ x. by_step context.info results beyond x n []) at ∙ e)

  -- of two codes the first has an operator, or the second one does, and stands where the first stood
  there_or : (a b : Wrapped) (n : ℕ) (back : List Operator) → (has_operators a ≡ true → check context steps n (written a (written b back)) [] ≡ None) →
      (drop n structure ≡ bones b (structural back) → has_operators b ≡ true → check context steps n (written b back) [] ≡ None) →
      drop n structure ≡ bones a (bones b (structural back)) → (x : Bool) → has_operators a ≡ x → x || has_operators b ≡ true →
      check context steps n (written a (written b back)) [] ≡ None
  there_or a b n back first second d true p e = first p
  there_or a b n back first second d false p e =
      let same = nothing_written a (written b back) p in
      let there : bones a (bones b (structural back)) ≡ bones b (structural back) =
      sym (written_structure a (written b back) ∙ ap (bones a) (written_structure b back)) ∙ (ap structural same ∙ written_structure b back) in
      ap (λ os. check context steps n os []) same ∙ second (d ∙ there) e

  -- an operator at least: there the code isn't valid
  pub frames_needed : (c : Wrapped) (n : ℕ) (back : List Operator) → drop n structure ≡ bones c (structural back) → has_operators c ≡ true →
      check context steps n (written c back) [] ≡ None
  frames_needed (plain []) n back d e = absurd cc
  frames_needed (plain (i ∷ code)) n back d e = refl
  frames_needed (both a b) n back d e =
      there_or a b n back (frames_needed a n (written b back) (d ∙ ap (bones a) (sym (written_structure b back)))) (frames_needed b n back) d
      (has_operators a) refl e
  frames_needed (block t a) n back d e =
      stops n (op.Block t) (written a (op.End ∷ back)) (dropped structure n (op.Block t) (bones a (op.End ∷ structural back)) d).0
      (only_none (has_arity context.info t))
  frames_needed (loop t a) n back d e =
      stops n (op.Loop t) (written a (op.End ∷ back)) (dropped structure n (op.Loop t) (bones a (op.End ∷ structural back)) d).0
      (only_none (has_arity context.info t))
  frames_needed (choice t a b) n back d e =
      stops n (op.If t) (written a (op.Else ∷ written b (op.End ∷ back)))
      (dropped structure n (op.If t) (bones a (op.Else ∷ bones b (op.End ∷ structural back))) d).0 (only_none (has_arity context.info t))
  frames_needed (leaving t a b) n back d e =
      stops n (op.Block t) (written a (op.Br 0 ∷ written b (op.End ∷ back)))
      (dropped structure n (op.Block t) (bones a (op.Br 0 ∷ bones b (op.End ∷ structural back))) d).0 (only_none (has_arity context.info t))
  frames_needed (exits t a b) n back d e =
      stops n (op.Block t) (written a (op.BrIf 0 ∷ written b (op.End ∷ back)))
      (dropped structure n (op.Block t) (bones a (op.BrIf 0 ∷ bones b (op.End ∷ structural back))) d).0 (only_none (has_arity context.info t))
  frames_needed (once t a) n back d e =
      stops n (op.Loop t) (written a (op.BrIf 0 ∷ op.End ∷ back))
      (dropped structure n (op.Loop t) (bones a (op.BrIf 0 ∷ op.End ∷ structural back)) d).0 (only_none (has_arity context.info t))
  frames_needed trap n back d e = stops n op.Unreachable back (dropped structure n op.Unreachable (structural back) d).0 refl

-- ---- the body around it

module _ (law : MoreGlobalsCheckAlike) (input : List ℕ) (context : Context) where
  abbrev all : Context
  all = wider input [] context

  pub wider_code : (code : List Instruction) (f g : Frame) → check_code context code f ≡ Some g → check_code all code f ≡ Some g
  wider_code [] f g h = h
  wider_code (i ∷ code) f g h =
      let (d, b, k) = and_then_some (check_code context code) (check_row context (integer_row i) f) g h in
      let (x, is, e) = map_some (λ (g : Frame). g ∷ []) (check_row all (integer_row i) f) (d ∷ [])
      (innermost_wider input [] law context i (f ∷ []) (d ∷ []) (ap (option_map (λ (g : Frame). g ∷ [])) b)) in
      ap (option_and_then (check_code all code)) (is ∙ ap Some (first_is x d e)) ∙ wider_code code d g k
    where
      first_is : (f g : Frame) → ◌≡◌ {A = List Frame} (f ∷ []) (g ∷ []) → f ≡ g
      first_is f g e = cc

  -- the operators of the back, whose numbers were larger
  pub back_down : (a b : Structural) (m : ℕ) (os : List Operator) (k j : ℕ) (frames left : List Frame) → j ≡ k + m →
      ((i : ℕ) (fs : List Frame) → k ≤ i → a (i + m) fs ≡ b i fs) → check context a j os frames ≡ Some left → check all b k os frames ≡ Some left
  back_down a b m [] k j frames left e same h = h
  back_down a b m (op.Instr i ∷ os) k j frames left e same h =
      let (next, x, y) = and_then_some (check context a j os) (on_innermost (check_row context (integer_row i)) frames) left h in
      ap (option_and_then (check all b k os)) (innermost_wider input [] law context i frames next x) ∙ back_down a b m os k j next left e same y
  back_down a b m (o ∷ os) k j frames left e same h =
      let (next, x, y) = and_then_some (check context a (suc j) os) (a j frames) left h in
      ap (option_and_then (check all b (suc k) os)) (sym (same k frames (omega arith)) ∙ (ap (λ i. a i frames) (sym e) ∙ x)) ∙
      back_down a b m os (suc k) (suc j) next left (omega arith) (λ i fs l. same i fs (omega arith)) y

module _ (law : MoreGlobalsCheckAlike) (input : List ℕ) (context : Context) (results : List PrimitiveTypeInfo) (beyond : Beyond)
    (front back : List Operator) (head : Instruction) (own : List Instruction) (c : Wrapped) (there : has_operators c ≡ true)
    (us : List PrimitiveTypeInfo) (pushes : Pushes context (head ∷ own) [] us) (pushes_so : WrappedPushes context c [] us) where
  abbrev plain_body : List Operator
  plain_body = front ++ (map (λ (i : Instruction). op.Instr i) (head ∷ own) ++ back)

  abbrev wrapped_body : List Operator
  wrapped_body = front ++ written c back

  abbrev n : ℕ
  n = count front

  abbrev m : ℕ
  m = past c 0

  abbrev xs : List Operator
  xs = structural front

  abbrev middle : List Operator
  middle = bones c []

  abbrev ys : List Operator
  ys = structural back

  abbrev after : Context
  after = wider input [] context

  abbrev wrapped_steps : Structural
  wrapped_steps = standard_steps context.info results (structural wrapped_body) (by_asked (structural wrapped_body) beyond)

  abbrev plain_steps : Structural
  plain_steps = standard_steps after.info results (structural plain_body) (by_asked (structural plain_body) beyond)

  plain_is : structural plain_body ≡ xs ++ ys
  plain_is =
      front_structure front (map (λ (i : Instruction). op.Instr i) (head ∷ own) ++ back) ∙ ap (λ os. xs ++ os) (coded_structure (head ∷ own) back)

  written_is : structural wrapped_body ≡ xs ++ structural (written c back)
  written_is = front_structure front (written c back)

  wrapped_is : structural wrapped_body ≡ xs ++ (middle ++ ys)
  wrapped_is = written_is ∙ ap (λ os. xs ++ os) (written_structure c back ∙ bones_append c [] ys)

  steps_back : (k : ℕ) (fs : List Frame) → wrapped_steps (moved n m k) fs ≡ plain_steps k fs
  steps_back k fs =
      ap (λ os. by_step context.info results (by_asked os beyond) (slice_get os (moved n m k)) (moved n m k) fs) wrapped_is ∙
      (steps_between xs middle ys n m refl (past_counts c []) (no_tables c []) context.info results beyond k fs ∙
      (step_wider input [] context.info results (by_asked (xs ++ ys) beyond) (slice_get (xs ++ ys) k) k fs ∙
      ap (λ os. by_step after.info results (by_asked os beyond) (slice_get os k) k fs) (sym plain_is)))

  stands : drop n (structural wrapped_body) ≡ bones c ys
  stands = ap (drop n) (written_is ∙ ap (λ os. xs ++ os) (written_structure c back)) ∙ drop_behind xs (bones c ys) 0 n (omega arith)

  here : (left : List Frame) (fs : List Frame) → check context wrapped_steps n (written c back) fs ≡ Some left →
      check after plain_steps n (map (λ (i : Instruction). op.Instr i) (head ∷ own) ++ back) fs ≡ Some left
  here left [] e =
      let none = frames_needed context results (structural wrapped_body) (by_asked (structural wrapped_body) beyond) c n back stands there in
      let z : ◌≡◌ {A = Option (List Frame)} None (Some left) = sym none ∙ e in absurd cc
  here left (f ∷ fs) e =
      let g = with_types us f in
      let p = past_adds c n in
      let goes : check_wrapped context c (f ∷ fs) ≡ Some (g ∷ fs) =
      ap (λ (x : Frame). check_wrapped context c (x ∷ fs)) (sym (none_on f)) ∙ pushes_so f fs in
      let own_goes : check_code after (head ∷ own) f ≡ Some g =
      wider_code law input context (head ∷ own) f g (ap (check_code context (head ∷ own)) (sym (none_on f)) ∙ pushes f) in
      let behind : check context wrapped_steps (past c n) back (g ∷ fs) ≡ Some left =
      sym (wrapped_checks context results (structural wrapped_body) (by_asked (structural wrapped_body) beyond) c n back (f ∷ fs) (g ∷ fs) stands goes) ∙ e in
      coded_check after plain_steps (head ∷ own) back n f fs ∙
      (ap (option_and_then (λ (g : Frame). check after plain_steps n back (g ∷ fs))) own_goes ∙
      back_down law input context wrapped_steps plain_steps m back n (past c n) (g ∷ fs) left (omega arith)
      (λ i fs l. ap (λ j. wrapped_steps j fs) (sym (moved_behind n m i l)) ∙ steps_back i fs) behind)

  pub unwrapped_valid : IsValid context results (by_asked (structural wrapped_body) beyond) wrapped_body →
      IsValid after results (by_asked (structural plain_body) beyond) plain_body
  unwrapped_valid h =
      front_checks law input [] context wrapped_steps plain_steps n (written c back) (map (λ (i : Instruction). op.Instr i) (head ∷ own) ++ back) front 0
      (body_frame results ∷ []) [] (omega arith) (λ i fs l. ap (λ j. wrapped_steps j fs) (sym (moved_before n m i l)) ∙ steps_back i fs) (here []) h
