-- A local that is set and read, and one that keeps its value on the stack: they do the same on every stack, and are valid alike on every frame.
use Rattle.std.proofs.Common.{◌≡◌, ℕ, zero, suc, ◌-◌, Bool, true, false, List, [], ◌∷◌, ◌++◌, length, take, drop, Option, Some, None, refl, sym, ap, ◌∙◌}
use Rattle.std.specs.Prelude.{set as slice_set, slice_get, option_map, option_and_then, if◌then◌else◌, is_some}
use Rattle.std.proofs.lemmas.List.{append-nil}
use Rattle.std.proofs.lemmas.Option.{slice_get-map}
use Rattle.wasm_types.specs.declared.types.PrimitiveTypeInfo.{PrimitiveTypeInfo}
use Rattle.wasm_execution.specs.Values.{same_type, Value, types, Context, State, Ends, local, write, then_run, above}
use Rattle.wasm_execution.specs.IntegerRow as row
use Rattle.wasm_execution.specs.IntegerRow.{if_typed, row_types}
use Rattle.wasm_execution.specs.Machine.{read_of, only_if, act, step, run}
use Rattle.wasm_execution.specs.RowLemmas.{act_is}
use Rattle.wasm_execution.specs.OutcomeLemmas.{run_one}
use Rattle.wasm_equivalence.specs.control.Wider.{wider}
use Rattle.wasm_equivalence.specs.validation.Algorithm.{OperandEntry, may_be, known, row_entries, Frame, can_pop, popped, with_pushed, check_row, check_code}
use Rattle.wasm_equivalence.specs.validation.StaysValid.{with_types, MoreGlobalsCheckAlike, TypedCodePushes, PushesOnFrames}
use Rattle.rewrite_rules.specs.Beside.{get_local, set_local, tee_local, StandsWith}
use Rattle.rewrite_rules.proofs.beside.StandLemmas.{get_local_row, set_local_row, tee_local_row, step_bare, runs_alike, code_wider}

-- ---- runs

get_set : (vs : List Value) (n : ℕ) (t : PrimitiveTypeInfo) (v : Value) → slice_get (types vs) n ≡ Some t → slice_get (slice_set vs n v) n ≡ Some v
get_set [] n t v e = absurd cc
get_set (u ∷ vs) zero t v e = refl
get_set (u ∷ vs) (suc n) t v e = get_set vs n t v e

module _ (n : ℕ) where
  -- what is set is read
  get_runs : (stack : List Value) (v : Value) (s : State) (t : PrimitiveTypeInfo) → slice_get (types s.locals) n ≡ Some t →
      run (get_local n ∷ []) stack (write (local n) v s) ≡ Ends (stack ++ v ∷ []) (write (local n) v s)
  get_runs stack v s t e =
      let m = write (local n) v s in
      let is = get_set s.locals n t v e in
      let there : slice_get (types m.locals) n ≡ Some v.type = slice_get-map (λ v. v.type) m.locals n ∙ ap (option_map (λ v. v.type)) is in
      run_one (get_local n) (row.get (local n)) stack m (get_local_row n)
      ∙ step_bare (row.get (local n)) stack (v ∷ []) m m refl
      (act_is (row.get (local n)) [] (v.type ∷ []) m (ap (option_and_then (λ u. Some (u ∷ []))) there) ∙ ap (λ o. read_of o m) is)

  -- behind a set, and behind a tee
  set_or_tee : (front operands : List Value) (s : State) →
      then_run (above front (act (row.set (local n)) operands s)) (run (get_local n ∷ [])) ≡ above front (act (row.tee (local n)) operands s)
  set_or_tee front [] s = refl
  set_or_tee front (v ∷ w ∷ vs) s = refl
  set_or_tee front (v ∷ []) s = go (slice_get (types s.locals) n) refl
    where
      typed : (t : PrimitiveTypeInfo) → slice_get (types s.locals) n ≡ Some t → (b : Bool) →
          then_run (above front (only_if (is_some (if_typed {A = List PrimitiveTypeInfo} b [])) (Ends [] (write (local n) v s)))) (run (get_local n ∷ []))
          ≡ above front (only_if (is_some (if_typed b (v.type ∷ []))) (Ends (v ∷ []) (write (local n) v s)))
      typed t e true = get_runs (front ++ []) v s t e ∙ ap (λ l. Ends (l ++ v ∷ []) (write (local n) v s)) (append-nil front)
      typed t e false = refl

      go : (o : Option PrimitiveTypeInfo) → slice_get (types s.locals) n ≡ o →
          then_run (above front (act (row.set (local n)) (v ∷ []) s)) (run (get_local n ∷ [])) ≡ above front (act (row.tee (local n)) (v ∷ []) s)
      go None e = rw e refl
      go (Some t) e = rw e (typed t e (same_type v.type t))

  same_runs : (stack : List Value) (s : State) → run (set_local n ∷ get_local n ∷ []) stack s ≡ run (tee_local n ∷ []) stack s
  same_runs stack s =
      ap (λ r. then_run (step r stack s) (run (get_local n ∷ []))) (set_local_row n)
      ∙ (set_or_tee (take (length stack - 1) stack) (drop (length stack - 1) stack) s
      ∙ sym (run_one (tee_local n) (row.tee (local n)) stack s (tee_local_row n)))

-- ---- frames

module _ (push : TypedCodePushes) (frames : PushesOnFrames) (context : Context) (n : ℕ) (f : Frame) where
  abbrev t : Option PrimitiveTypeInfo
  t = slice_get context.locals n

  -- a get pushes the local's type
  get_checks : (u : PrimitiveTypeInfo) → t ≡ Some u → (g : Frame) → check_code context (get_local n ∷ []) g ≡ Some (with_types (u ∷ []) g)
  get_checks u e g =
      frames context (get_local n ∷ []) (u ∷ [])
      (push.row context (get_local n) [] (u ∷ [])
      (ap (λ r. row_types context r []) (get_local_row n) ∙ ap (option_and_then (λ u. Some (u ∷ []))) e)) g

  abbrev after_set : List OperandEntry → Option Frame
  after_set es = option_and_then (check_code context (get_local n ∷ [])) (option_map (with_pushed 1 f) (row_entries context (row.set (local n)) es))

  abbrev after_tee : List OperandEntry → Option Frame
  after_tee es = option_and_then (λ g. Some g) (option_map (with_pushed 1 f) (row_entries context (row.tee (local n)) es))

  on_entries : (es : List OperandEntry) → after_set es ≡ after_tee es
  on_entries [] = refl
  on_entries (e ∷ d ∷ es) = refl
  on_entries (e ∷ []) = go t refl
    where
      behind : (u : PrimitiveTypeInfo) → t ≡ Some u → (b : Bool) →
          option_and_then (check_code context (get_local n ∷ [])) (option_map (with_pushed 1 f) (if_typed b []))
          ≡ option_and_then (λ g. Some g) (option_map (with_pushed 1 f) (if_typed b (known (u ∷ []))))
      behind u k true =
          get_checks u k (with_pushed 1 f [])
          ∙ ap (λ (es : List OperandEntry). Some (record f { operands = es ++ known (u ∷ []) })) (append-nil (take (length f.operands - 1) f.operands))
      behind u k false = refl

      go : (o : Option PrimitiveTypeInfo) → t ≡ o → after_set (e ∷ []) ≡ after_tee (e ∷ [])
      go None k = rw k refl
      go (Some u) k = rw k (behind u k (may_be e u))

  same_checks : check_code context (set_local n ∷ get_local n ∷ []) f ≡ check_code context (tee_local n ∷ []) f
  same_checks =
      ap (λ r. option_and_then (check_code context (get_local n ∷ [])) (check_row context r f)) (set_local_row n)
      ∙ (go (can_pop 1 f)
      ∙ sym (ap (λ r. option_and_then (λ g. Some g) (check_row context r f)) (tee_local_row n)))
    where
      go : (b : Bool) →
          option_and_then (check_code context (get_local n ∷ []))
          (if b then option_map (with_pushed 1 f) (row_entries context (row.set (local n)) (popped 1 f)) else None)
          ≡ option_and_then (λ g. Some g) (if b then option_map (with_pushed 1 f) (row_entries context (row.tee (local n)) (popped 1 f)) else None)
      go true = on_entries (popped 1 f)
      go false = refl

-- ---- the rules

module _ (push : TypedCodePushes) (frames : PushesOnFrames) (wide : MoreGlobalsCheckAlike) (context : Context) (n : ℕ) where
  pub tee_to_set : StandsWith context [] (tee_local n ∷ []) (set_local n ∷ get_local n ∷ [])
  tee_to_set = record {
    runs = runs_alike context (tee_local n ∷ []) (set_local n ∷ get_local n ∷ []) (λ stack s hs h k. sym (same_runs n stack s));
    checks = λ input more f g e.
        same_checks push frames (wider input more context) n f ∙ code_wider wide input more context (tee_local n ∷ []) f g e;
  }

  pub set_to_tee : StandsWith context [] (set_local n ∷ get_local n ∷ []) (tee_local n ∷ [])
  set_to_tee = record {
    runs = runs_alike context (set_local n ∷ get_local n ∷ []) (tee_local n ∷ []) (λ stack s hs h k. same_runs n stack s);
    checks = λ input more f g e.
        sym (same_checks push frames (wider input more context) n f)
        ∙ code_wider wide input more context (set_local n ∷ get_local n ∷ []) f g e;
  }
