-- A value through a further global of its type.
use Rattle.std.proofs.Common.{◌≡◌, ℕ, List, [], ◌∷◌, ◌++◌, length, Some, refl, sym, ap, ◌∙◌}
use Rattle.std.specs.Prelude.{set as slice_set, slice_get, option_and_then}
use Rattle.std.proofs.lemmas.List.{append-nil}
use Rattle.std.proofs.Math.Seq.{set-append_seam}
use Rattle.wasm_code.specs.Instruction.{Instruction}
use Rattle.wasm_types.specs.declared.types.PrimitiveTypeInfo.{PrimitiveTypeInfo}
use Rattle.wasm_execution.specs.Values.{same_type, Value, types, Context, State, HasTypes, Outcome, Ends, Traps, Stuck, global, then_run, above}
use Rattle.wasm_execution.specs.IntegerRow as row
use Rattle.wasm_execution.specs.IntegerRow.{if_typed, row_types}
use Rattle.wasm_execution.specs.Machine.{read_of, state_context, act, run}
use Rattle.wasm_execution.specs.Agreement.{with_globals, EndsTyped}
use Rattle.wasm_execution.specs.RowLemmas.{if_typed_is, same_type_self, step_at, act_is}
use Rattle.wasm_execution.specs.OutcomeLemmas.{length_types, run_append, run_one, run_cons}
use Rattle.wasm_execution.specs.StateLemmas.{context_more, with_more, Follows}
use Rattle.wasm_execution.specs.SameLemmas.{run_follows}
use Rattle.wasm_equivalence.specs.control.Wider.{wider}
use Rattle.wasm_equivalence.specs.validation.StaysValid.{MoreGlobalsCheckAlike, TypedCodePushes, PushesOnFrames, RowTypesStay}
use Rattle.rewrite_rules.specs.Code.{Leaves}
use Rattle.rewrite_rules.specs.Beside.{get_global, set_global, through_code, StandsWith}
use Rattle.rewrite_rules.proofs.CodeLemmas.{leaves_typed, leaves_above}
use Rattle.rewrite_rules.proofs.beside.StandLemmas.{get_global_row, set_global_row, step_bare, pushes_there, code_wider}

-- ---- behind a list

get_seam : {X : Type 0} (xs : List X) (y : X) (ys : List X) → slice_get (xs ++ y ∷ ys) (length xs) ≡ Some y
get_seam [] y ys = refl
get_seam (x ∷ xs) y ys = get_seam xs y ys

-- ---- types

set_types : (context : Context) (g : ℕ) (t : PrimitiveTypeInfo) → slice_get context.info.globals g ≡ Some t →
    row_types context (row.set (global g)) (t ∷ []) ≡ Some []
set_types context g t e = ap (option_and_then (λ u. if_typed (same_type t u) [])) e ∙ if_typed_is (same_type t t) [] (same_type_self t)

get_types : (context : Context) (g : ℕ) (t : PrimitiveTypeInfo) → slice_get context.info.globals g ≡ Some t →
    row_types context (row.get (global g)) [] ≡ Some (t ∷ [])
get_types context g t e = ap (option_and_then (λ u. Some (u ∷ []))) e

-- ---- the run

module _ (context : Context) (v : Value) (s : State) (h : HasTypes context s) where
  abbrev g : ℕ
  g = length context.info.globals

  count : length s.globals ≡ g
  count = sym (length_types s.globals) ∙ ap length h.globals_are

  -- the type of the global, and its value
  there : (u : Value) (others : List Value) → slice_get (state_context (with_globals (u ∷ others) s)).info.globals g ≡ Some u.type
  there u others =
      ap (λ (c : Context). slice_get c.info.globals g) (context_more h (u ∷ others)) ∙ get_seam context.info.globals u.type (types others)

  held : (u : Value) (others : List Value) → slice_get (s.globals ++ u ∷ others) g ≡ Some u
  held u others = ap (slice_get (s.globals ++ u ∷ others)) (sym count) ∙ get_seam s.globals u others

  written : (u : Value) (others : List Value) → slice_set (s.globals ++ u ∷ others) g v ≡ s.globals ++ v ∷ others
  written u others = ap (λ n. slice_set (s.globals ++ u ∷ others) n v) (sym count) ∙ set-append_seam s.globals u others v

  -- set, and then read
  pub through_runs : (u : Value) (others stack : List Value) → u.type ≡ v.type →
      run (through_code context) (stack ++ v ∷ []) (with_globals (u ∷ others) s) ≡ Ends (stack ++ v ∷ []) (with_globals (v ∷ others) s)
  through_runs u others stack same =
      let before = with_globals (u ∷ others) s in
      let behind = with_globals (v ∷ others) s in
      let sets : act (row.set (global g)) (v ∷ []) before ≡ Ends [] behind =
      act_is (row.set (global g)) (v ∷ []) [] before (set_types (state_context before) g v.type (there u others ∙ ap (λ (t : PrimitiveTypeInfo). Some t) same))
      ∙ ap (λ (gs : List Value). Ends [] (record s { globals = gs })) (written u others) in
      let gets : act (row.get (global g)) [] behind ≡ Ends (v ∷ []) behind =
      act_is (row.get (global g)) [] (v.type ∷ []) behind (get_types (state_context behind) g v.type (there v others))
      ∙ ap (λ o. read_of o behind) (held v others) in
      run_cons (set_global g) (get_global g ∷ []) (row.set (global g)) (stack ++ v ∷ []) stack before behind (set_global_row g)
      (step_at (row.set (global g)) stack (v ∷ []) before refl ∙ (ap (above stack) sets ∙ ap (λ l. Ends l behind) (append-nil stack)))
      ∙ (run_one (get_global g) (row.get (global g)) stack behind (get_global_row g)
      ∙ step_bare (row.get (global g)) stack (v ∷ []) behind behind refl gets)

-- behind code that leaves one value
through_follows : (context : Context) (t : PrimitiveTypeInfo) (more : List PrimitiveTypeInfo) (stack requested after : List Value) (o : Outcome) →
    EndsTyped context (t ∷ []) o → types requested ≡ t ∷ more → types after ≡ types requested →
    Follows requested (above stack o) (then_run (with_more after (above stack o)) (run (through_code context)))
through_follows context t more stack requested [] o typed e k = absurd (let none : [] ≡ t ∷ more = k ∙ e in cc)
through_follows context t more stack requested (u ∷ others) (Ends [] s) typed e k = absurd cc
through_follows context t more stack requested (u ∷ others) (Ends (v ∷ []) s) typed e k =
    let is : v.type ≡ t = cc in
    let same : u.type ≡ v.type = cc in
    (v ∷ others, ap (λ (y : PrimitiveTypeInfo). y ∷ types others) (sym same) ∙ k, through_runs context v s typed.2 u others stack same)
through_follows context t more stack requested (u ∷ others) (Ends (v ∷ w ∷ vs) s) typed e k = absurd cc
through_follows context t more stack requested (u ∷ others) (Traps c gs r) typed e k = (u ∷ others, k, refl)
through_follows context t more stack requested (u ∷ others) Stuck typed e k = absurd typed

-- ---- the rule

module _ (push : TypedCodePushes) (frames : PushesOnFrames) (stay : RowTypesStay) (wide : MoreGlobalsCheckAlike) (context : Context)
    (t : PrimitiveTypeInfo) (x : List Instruction) (leaves : Leaves context x t) where
  pub through_global : StandsWith context (t ∷ []) x (x ++ through_code context)
  through_global = record {
    runs = λ more stack requested s hs h e n.
        let f = run_follows context x requested stack s h hs n in
        let is = leaves_above context x t stack s leaves h in
        let ran : run (x ++ through_code context) stack (with_globals requested s) ≡
        then_run (with_more f.0 (above stack (run x [] s))) (run (through_code context)) =
        run_append x (through_code context) stack (with_globals requested s)
        ∙ ap (λ o. then_run o (run (through_code context))) (f.2 ∙ ap (with_more f.0) is) in
        let same = through_follows context t more stack requested f.0 (run x [] s) (leaves_typed context x t s leaves h) e f.1 in
        (same.0, same.1, ran ∙ (same.2 ∙ ap (with_more same.0) (sym is)));
    checks = λ input more f g e.
        let all = wider input (t ∷ more) context in
        let n = length context.info.globals in
        let there : slice_get all.info.globals n ≡ Some t = get_seam context.info.globals t more in
        let own = pushes_there push stay context input (t ∷ more) x [] (t ∷ []) leaves in
        let sets = push.row all (set_global n) (t ∷ []) []
        (ap (λ r. row_types all r (t ∷ [])) (set_global_row n) ∙ set_types all n t there) in
        let gets = push.row all (get_global n) [] (t ∷ []) (ap (λ r. row_types all r []) (get_global_row n) ∙ get_types all n t there) in
        let through = push.follow all (set_global n ∷ []) (get_global n ∷ []) (t ∷ []) [] (t ∷ []) sets gets in
        frames all (x ++ through_code context) (t ∷ [])
        (push.follow all x (through_code context) [] (t ∷ []) (t ∷ []) own through) f
        ∙ (sym (frames all x (t ∷ []) own f) ∙ code_wider wide input (t ∷ more) context x f g e);
  }
