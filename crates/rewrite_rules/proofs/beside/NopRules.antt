-- A nop before any code, a nop alone, and a drop of what neither writes nor traps.
use Rattle.std.proofs.Common.{◌≡◌, false, List, [], ◌∷◌, ◌++◌, Option, Some, None, refl, sym, ap, ◌∙◌}
use Rattle.std.specs.Prelude.{option_and_then}
use Rattle.std.proofs.lemmas.List.{append-nil}
use Rattle.wasm_code.specs.Instruction.{Instruction}
use Rattle.wasm_types.specs.declared.types.PrimitiveTypeInfo.{PrimitiveTypeInfo}
use Rattle.wasm_execution.specs.Values.{Value, Context, State, HasTypes, Outcome, Ends, Traps, Stuck, then_run, above}
use Rattle.wasm_execution.specs.IntegerRow as row
use Rattle.wasm_execution.specs.IntegerRow.{row_types, integer_row}
use Rattle.wasm_execution.specs.Machine.{run}
use Rattle.wasm_execution.specs.Agreement.{EndsTyped}
use Rattle.wasm_execution.specs.RowLemmas.{step_at}
use Rattle.wasm_execution.specs.OutcomeLemmas.{run_append, run_one, run_cons}
use Rattle.wasm_equivalence.specs.control.Wider.{wider}
use Rattle.wasm_equivalence.specs.validation.Algorithm.{Frame, check_row, check_code}
use Rattle.wasm_equivalence.specs.validation.StaysValid.{Pushes, MoreGlobalsCheckAlike, TypedCodePushes, PushesOnFrames, RowTypesStay}
use Rattle.rewrite_rules.specs.Code.{Leaves, writes, traps}
use Rattle.rewrite_rules.specs.Beside.{nop_code, drop_code, StandsWith}
use Rattle.rewrite_rules.proofs.CodeLemmas.{leaves_typed, leaves_above}
use Rattle.rewrite_rules.proofs.EffectLemmas.{IsStill, still_code, HasEnded, code_ends}
use Rattle.rewrite_rules.proofs.beside.StandLemmas.{nop_row, drop_row, step_bare, runs_alike, pushes_there, code_wider}

-- ---- a nop

nop_runs : (x : List Instruction) (stack : List Value) (s : State) → run (nop_code ∷ x) stack s ≡ run x stack s
nop_runs x stack s =
    run_cons nop_code x row.nop stack stack s s nop_row (step_bare row.nop stack [] s s refl refl ∙ ap (λ l. Ends l s) (append-nil stack))

-- no code behind
none_behind : (context : Context) (o : Option Frame) → option_and_then (check_code context []) o ≡ o
none_behind context (Some f) = refl
none_behind context None = refl

module _ (push : TypedCodePushes) (frames : PushesOnFrames) (wide : MoreGlobalsCheckAlike) (context : Context) where
  nop_checks : (all : Context) (f : Frame) → check_code all (nop_code ∷ []) f ≡ Some f
  nop_checks all f =
      frames all (nop_code ∷ []) [] (push.row all nop_code [] [] (ap (λ r. row_types all r []) nop_row)) f
      ∙ sym (frames all [] [] (push.nothing all []) f)

  pub with_nop : (x : List Instruction) → StandsWith context [] x (nop_code ∷ x)
  with_nop x = record {
    runs = runs_alike context x (nop_code ∷ x) (λ stack s hs h n. sym (nop_runs x stack s));
    checks = λ input more f g e.
        let all = wider input more context in
        ap (option_and_then (check_code all x)) (sym (none_behind all (check_row all (integer_row nop_code) f)) ∙ nop_checks all f)
        ∙ code_wider wide input more context x f g e;
  }

  pub drop_nop : StandsWith context [] (nop_code ∷ []) []
  drop_nop = record {
    runs = runs_alike context (nop_code ∷ []) [] (λ stack s hs h n. nop_runs [] stack s);
    checks = λ input more f g e. sym (nop_checks context f) ∙ e;
  }

-- ---- a drop

drop_runs : (stack : List Value) (v : Value) (s : State) → run (drop_code ∷ []) (stack ++ v ∷ []) s ≡ Ends stack s
drop_runs stack v s =
    run_one drop_code row.discard (stack ++ v ∷ []) s drop_row
    ∙ (step_at row.discard stack (v ∷ []) s refl ∙ ap (λ l. Ends l s) (append-nil stack))

-- what ends with one value in the same state, and a drop
dropped : (context : Context) (t : PrimitiveTypeInfo) (stack : List Value) (s : State) (o : Outcome) → EndsTyped context (t ∷ []) o → IsStill s o → HasEnded o →
    then_run (above stack o) (run (drop_code ∷ [])) ≡ Ends stack s
dropped context t stack s (Ends [] m) typed still ended = absurd cc
dropped context t stack s (Ends (v ∷ []) m) typed still ended = drop_runs stack v m ∙ ap (Ends stack) still
dropped context t stack s (Ends (v ∷ w ∷ vs) m) typed still ended = absurd cc
dropped context t stack s (Traps c gs r) typed still ended = absurd ended
dropped context t stack s Stuck typed still ended = absurd ended

module _ (push : TypedCodePushes) (frames : PushesOnFrames) (stay : RowTypesStay) (wide : MoreGlobalsCheckAlike) (context : Context)
    (t : PrimitiveTypeInfo) (x : List Instruction) (leaves : Leaves context x t) (still : writes x ≡ false) (ends : traps x ≡ false) where
  forgotten_runs : (stack : List Value) (s : State) → HasTypes context s → run (x ++ drop_code ∷ []) stack s ≡ Ends stack s
  forgotten_runs stack s h =
      run_append x (drop_code ∷ []) stack s
      ∙ (ap (λ o. then_run o (run (drop_code ∷ []))) (leaves_above context x t stack s leaves h)
      ∙ dropped context t stack s (run x [] s) (leaves_typed context x t s leaves h) (still_code context x t leaves still s h)
      (code_ends context x t leaves ends s h))

  pub forget : StandsWith context [] (x ++ drop_code ∷ []) []
  forget = record {
    runs = runs_alike context (x ++ drop_code ∷ []) [] (λ stack s hs h n. forgotten_runs stack s h);
    checks = λ input more f g e.
        let all = wider input more context in
        let none : Pushes all (x ++ drop_code ∷ []) [] [] =
        push.follow all x (drop_code ∷ []) [] (t ∷ []) [] (pushes_there push stay context input more x [] (t ∷ []) leaves)
        (push.row all drop_code (t ∷ []) [] (ap (λ r. row_types all r (t ∷ [])) drop_row)) in
        frames all [] [] (push.nothing all []) f
        ∙ (sym (frames all (x ++ drop_code ∷ []) [] none f) ∙ code_wider wide input more context (x ++ drop_code ∷ []) f g e);
  }
