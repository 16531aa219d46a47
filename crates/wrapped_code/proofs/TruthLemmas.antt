-- Conditions that are zero alike.
use Rattle.std.proofs.Common.{◌≡◌, ◌==◌, Bool, true, false, List, [], ◌∷◌, ◌++◌, refl, sym, ap, ◌∙◌, subst, append-nil, append_assoc}
use Rattle.std.specs.Prelude.{not, if◌then◌else◌}
use Rattle.wasm_code.specs.Instruction.{Instruction}
use Rattle.wasm_types.specs.declared.types.PrimitiveTypeInfo.{PrimitiveTypeInfo}
use Rattle.wasm_types.specs.declared.types.PrimitiveTypeInfo.TheVariants as primitive
use Rattle.wasm_execution.specs.declared.integer.IntegerType.TheVariants as integer
use Rattle.wasm_execution.specs.Integer.{compare, eqz, ne}
use Rattle.wasm_execution.specs.IntegerRow.{constant, operation, row_types, integer_row}
use Rattle.wasm_execution.specs.Machine.{run}
use Rattle.wasm_execution.specs.OutcomeLemmas.{run_append}
use Rattle.wasm_execution.specs.StateLemmas.{none_of, with_more}
use Rattle.wasm_execution.specs.Values.{Value, whole, Context, State, HasTypes, Outcome, Ends, then_run}
use Rattle.wasm_equivalence.specs.control.Function.{RunsAs}
use Rattle.wasm_equivalence.specs.validation.Sound.{ValidCodeRuns}
use Rattle.wasm_equivalence.specs.validation.StaysValid.{Pushes}
use Rattle.wrapped_code.specs.Alike.{AreAs}
use Rattle.wrapped_code.specs.Conditions.{ZeroAlike, SameTruth, ConditionsAsTrue}
use Rattle.wrapped_code.proofs.AloneLemmas.{code_is_alone}
use Rattle.wrapped_code.proofs.PureLemmas.{row_gives}
use Rattle.wrapped_code.proofs.SameLemmas.{same_turned, same_follows, Turns, behind}
use Rattle.wrapped_code.proofs.UnwrapLemmas.{no_globals, none_more}
use Rattle.wrapped_code.proofs.ValueLemmas.{run_constant}

module _ (valid : ValidCodeRuns) (context : Context) where
  -- the code makes of a number of 32 bits on top another one that is zero where that is
  abbrev KeepsTruth : List Instruction → Type 0
  KeepsTruth code = (stack : List Value) (v : Value) (s : State) → v.type ≡ primitive.I32 → HasTypes context s → Turns ZeroAlike code stack v s

  truth_behind : (own code : List Instruction) → KeepsTruth code → Pushes context own [] (primitive.I32 ∷ []) → SameTruth context own (own ++ code)
  truth_behind own code turns pushes =
      behind ZeroAlike context own code ((code_is_alone valid).alone context primitive.I32 own pushes)
      (λ stack v s u a t does type_is value typed. turns stack v u type_is typed)

  nothing : KeepsTruth []
  nothing stack v s h t = record { other = v; typed = h; alike = refl; gives = refl }

  as_runs : (own code : List Instruction) → Pushes context own [] (primitive.I32 ∷ []) → RunsAs context [] own code → SameTruth context own code
  as_runs own code pushes runs_as stack s a t free =
      let (after, d, at) = runs_as stack [] s a t refl free in
      let same : run code stack s ≡ run own stack s =
      ap (run code stack) (sym (no_globals s)) ∙
      (at ∙ (ap (λ (more : List Value). with_more more (run own stack s)) (none_of after d) ∙ none_more (run own stack s))) in
      subst (AreAs ZeroAlike (run own stack s)) (ap (λ (is : List Instruction). run is stack s) (append-nil own) ∙ sym same)
      (truth_behind own [] nothing pushes stack s a t free)

  -- ---- not zero

  abbrev differs_from : Value → Value
  differs_from v = whole integer.I32 (if not (v.number == 0) then 1 else 0)

  not_zero : (zero differs : Instruction) → integer_row zero ≡ constant integer.I32 0 → integer_row differs ≡ operation (compare integer.I32 ne) →
      KeepsTruth (zero ∷ differs ∷ [])
  not_zero zero differs e d stack v s h t =
      let none = whole integer.I32 0 in record {
        other = differs_from v;
        typed = refl;
        alike = go (v.number == 0);
        gives =
            run_append (zero ∷ []) (differs ∷ []) (stack ++ v ∷ []) s ∙
            (ap (λ (o : Outcome). then_run o (run (differs ∷ []))) (run_constant zero 0 (stack ++ v ∷ []) s e) ∙
            (ap (λ (zs : List Value). run (differs ∷ []) zs s) (append_assoc stack (v ∷ []) (none ∷ [])) ∙
            row_gives context differs (operation (compare integer.I32 ne)) (v ∷ none ∷ []) (differs_from v) (primitive.I32 ∷ []) stack s d t
            (ap (λ (u : PrimitiveTypeInfo). row_types context (operation (compare integer.I32 ne)) (u ∷ primitive.I32 ∷ [])) h) refl refl));
      }
    where
      go : (b : Bool) → b ≡ ((whole integer.I32 (if not b then 1 else 0)).number == 0)
      go true = refl
      go false = refl

  -- ---- zero twice

  abbrev zero_of : Value → Value
  zero_of v = whole integer.I32 (if v.number == 0 then 1 else 0)

  is_zero_gives : (i : Instruction) → integer_row i ≡ operation (eqz integer.I32) → (stack : List Value) (v : Value) (s : State) →
      v.type ≡ primitive.I32 → HasTypes context s → run (i ∷ []) (stack ++ v ∷ []) s ≡ Ends (stack ++ zero_of v ∷ []) s
  is_zero_gives i e stack v s h t =
      row_gives context i (operation (eqz integer.I32)) (v ∷ []) (zero_of v) (primitive.I32 ∷ []) stack s e t
      (ap (λ (u : PrimitiveTypeInfo). row_types context (operation (eqz integer.I32)) (u ∷ [])) h) refl refl

  twice_zero : (i : Instruction) → integer_row i ≡ operation (eqz integer.I32) → KeepsTruth (i ∷ i ∷ [])
  twice_zero i e stack v s h t = record {
    other = zero_of (zero_of v);
    typed = refl;
    alike = go (v.number == 0);
    gives =
        run_append (i ∷ []) (i ∷ []) (stack ++ v ∷ []) s ∙
        (ap (λ (o : Outcome). then_run o (run (i ∷ []))) (is_zero_gives i e stack v s h t) ∙ is_zero_gives i e stack (zero_of v) s refl t);
  }
    where
      go : (b : Bool) → b ≡ ((whole integer.I32 (if (whole integer.I32 (if b then 1 else 0)).number == 0 then 1 else 0)).number == 0)
      go true = refl
      go false = refl

pub conditions_as_true : ValidCodeRuns → ConditionsAsTrue
conditions_as_true valid = record {
  as_runs = as_runs valid;
  not_zero = λ context own zero differs e d pushes.
      truth_behind valid context own (zero ∷ differs ∷ []) (not_zero valid context zero differs e d) pushes;
  twice_zero = λ context own i e pushes. truth_behind valid context own (i ∷ i ∷ []) (twice_zero valid context i e) pushes;
  turned = λ context own code pushes truth. same_turned ZeroAlike (λ n k e. sym e) valid context own code pushes truth;
  follow = λ context x y z first second. same_follows ZeroAlike (λ n k i d e. d ∙ e) context x y z first second;
}
