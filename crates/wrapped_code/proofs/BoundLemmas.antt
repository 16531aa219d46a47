-- An index may be bounded by the number of labels.
use Rattle.std.proofs.Common.{◌≡◌, ℕ, zero, suc, ◌<◌, ◌≤◌, ◌==◌, Bool, true, false, List, [], ◌∷◌, ◌++◌, take, refl, sym, ap, ◌∙◌, arith, append_assoc}
use Rattle.std.specs.Prelude.{◌^◌, nat_lt, if◌then◌else◌}
use Rattle.std.specs.List.{All}
use Rattle.std.proofs.Math.Nat.{mod-eq_of_lt}
use Rattle.std.proofs.lemmas.Bool.{ltb-false}
use Rattle.std.proofs.lemmas.List.Elements.{All-nil, All-cons, All-append}
use Rattle.wasm_code.specs.Instruction.{Instruction}
use Rattle.wasm_types.specs.declared.types.PrimitiveTypeInfo.{PrimitiveTypeInfo}
use Rattle.wasm_types.specs.declared.types.PrimitiveTypeInfo.TheVariants as primitive
use Rattle.wasm_execution.specs.declared.integer.IntegerType.TheVariants as integer
use Rattle.wasm_execution.specs.Integer.{compare, lt_u}
use Rattle.wasm_execution.specs.IntegerRow.{constant, operation, select, row_types, integer_row}
use Rattle.wasm_execution.specs.Machine.{run}
use Rattle.wasm_execution.specs.OutcomeLemmas.{run_append}
use Rattle.wasm_execution.specs.TypeLemmas.{whole_is}
use Rattle.wasm_execution.specs.Values.{Value, IsValue, whole, Context, State, HasTypes, Outcome, Ends, then_run, above}
use Rattle.wasm_equivalence.specs.control.Standard.{label_at}
use Rattle.wasm_equivalence.specs.validation.Sound.{ValidCodeRuns}
use Rattle.wasm_equivalence.specs.validation.StaysValid.{Pushes, TypedCodePushes}
use Rattle.wrapped_code.specs.Alike.{SameAs}
use Rattle.wrapped_code.specs.Indices.{LabelAlike, IndicesAreBounded}
use Rattle.wrapped_code.specs.Ways.{IsAlone, code_changes}
use Rattle.wrapped_code.proofs.AloneLemmas.{run_same, code_is_alone}
use Rattle.wrapped_code.proofs.PureLemmas.{row_gives}
use Rattle.wrapped_code.proofs.SameLemmas.{same_turned, behind}
use Rattle.wrapped_code.proofs.ValueLemmas.{run_constant}
use Rattle.wrapped_code.proofs.WayLemmas.{run_select}

-- ---- labels

-- behind the last of so many labels stands the default one
label_past : (count : ℕ) (labels : List ℕ) (default i : ℕ) → count ≤ i → label_at (take count labels) default i ≡ default
label_past zero labels default i l = refl
label_past (suc n) [] default i l = refl
label_past (suc n) (k ∷ labels) default zero l = absurd (omega arith)
label_past (suc n) (k ∷ labels) default (suc i) l = label_past n labels default i (omega arith)

both_past : (count i j : ℕ) → count ≤ i → count ≤ j → LabelAlike count i j
both_past count i j l k labels default = label_past count labels default i l ∙ sym (label_past count labels default j k)

-- ---- the code

module _ (context : Context) (own : List Instruction) (count : ℕ) (limit below pick : Instruction) (small : count < 2 ^ 32)
    (limit_is : integer_row limit ≡ constant integer.I32 count) (below_is : integer_row below ≡ operation (compare integer.I32 lt_u))
    (pick_is : integer_row pick ≡ select) where
  abbrev bound : Value
  bound = whole integer.I32 count

  abbrev is_below : Value → Value
  is_below v = whole integer.I32 (if nat_lt v.number bound.number then 1 else 0)

  abbrev lesser : Value → Value
  lesser v = if (is_below v).number == 0 then bound else v

  abbrev choice : List Instruction
  choice = limit ∷ below ∷ pick ∷ []

  -- ---- the number

  lesser_typed : (v : Value) → v.type ≡ primitive.I32 → (lesser v).type ≡ primitive.I32
  lesser_typed v e = go ((is_below v).number == 0)
    where
      go : (b : Bool) → (if b then bound else v).type ≡ primitive.I32
      go true = refl
      go false = e

  lesser_alike : (v : Value) → LabelAlike count v.number (lesser v).number
  lesser_alike v = go (nat_lt v.number bound.number) refl
    where
      go : (b : Bool) → nat_lt v.number bound.number ≡ b →
          LabelAlike count v.number (if (whole integer.I32 (if b then 1 else 0)).number == 0 then bound else v).number
      go true e = λ labels default. refl
      go false e =
          let is : bound.number ≡ count = mod-eq_of_lt small in
          let past = ltb-false v.number bound.number e in
          both_past count v.number bound.number (omega arith) (omega arith)

  -- ---- runs

  chooses : (stack : List Value) (v : Value) (s : State) → v.type ≡ primitive.I32 → HasTypes context s →
      run choice (((stack ++ v ∷ []) ++ bound ∷ []) ++ v ∷ []) s ≡ Ends (stack ++ lesser v ∷ []) s
  chooses stack v s type_is h =
      let on = (stack ++ v ∷ []) ++ bound ∷ [] in
      let test = operation (compare integer.I32 lt_u) in
      run_append (limit ∷ []) (below ∷ pick ∷ []) (on ++ v ∷ []) s ∙
      (ap (λ (o : Outcome). then_run o (run (below ∷ pick ∷ []))) (run_constant limit count (on ++ v ∷ []) s limit_is) ∙
      (run_append (below ∷ []) (pick ∷ []) ((on ++ v ∷ []) ++ bound ∷ []) s ∙
      (ap (λ (o : Outcome). then_run o (run (pick ∷ [])))
      (ap (λ (zs : List Value). run (below ∷ []) zs s) (append_assoc on (v ∷ []) (bound ∷ [])) ∙
      row_gives context below test (v ∷ bound ∷ []) (is_below v) (primitive.I32 ∷ []) on s below_is h
      (ap (λ (u : PrimitiveTypeInfo). row_types context test (u ∷ primitive.I32 ∷ [])) type_is) refl refl) ∙
      run_select context pick primitive.I32 stack v bound (is_below v) s pick_is refl type_is refl refl)))

  bounds : IsAlone context primitive.I32 own → code_changes own ≡ false → SameAs (LabelAlike count) context own (own ++ (limit ∷ (own ++ choice)))
  bounds alone free =
      behind (LabelAlike count) context own (limit ∷ (own ++ choice)) alone
      (λ stack v s u a h does type_is value typed.
      let on = (stack ++ v ∷ []) ++ bound ∷ [] in
      let values : All IsValue on =
      with_value (stack ++ v ∷ []) bound (with_value stack v a value) (whole_is integer.I32 count) in
      let same : u ≡ s =
      run_same context own [] (v ∷ []) s u h (All-nil IsValue) free (alone.gives [] s (All-nil IsValue) h ∙ ap (above []) does) in
      record {
        other = lesser v;
        typed = lesser_typed v type_is;
        alike = lesser_alike v;
        gives =
            run_append (limit ∷ []) (own ++ choice) (stack ++ v ∷ []) u ∙
            (ap (λ (o : Outcome). then_run o (run (own ++ choice))) (run_constant limit count (stack ++ v ∷ []) u limit_is) ∙
            (run_append own choice on u ∙
            (ap (λ (o : Outcome). then_run o (run choice)) (alone.gives on u values typed ∙ ap (above on) (ap alone.does same ∙ does)) ∙
            chooses stack v u type_is typed)));
      })
    where
      with_value : (stack : List Value) (v : Value) → All IsValue stack → IsValue v → All IsValue (stack ++ v ∷ [])
      with_value stack v a i = All-append IsValue stack (v ∷ []) a (All-cons IsValue v [] i (All-nil IsValue))

  -- ---- types

  pushes_bounded : TypedCodePushes → Pushes context own [] (primitive.I32 ∷ []) →
      Pushes context (own ++ (limit ∷ (own ++ choice))) [] (primitive.I32 ∷ [])
  pushes_bounded push own_pushes =
      let one = primitive.I32 ∷ [] in
      let two = primitive.I32 ∷ one in
      let three = primitive.I32 ∷ two in
      let four = primitive.I32 ∷ three in
      let limit_pushes : Pushes context (limit ∷ []) [] one =
      push.row context limit [] one (ap (λ row. row_types context row []) limit_is) in
      let tests : Pushes context (below ∷ []) two one =
      push.row context below two one (ap (λ row. row_types context row two) below_is) in
      let picks : Pushes context (pick ∷ []) three one =
      push.row context pick three one (ap (λ row. row_types context row three) pick_is) in
      push.follow context own (limit ∷ (own ++ choice)) [] one one own_pushes
      (push.follow context (limit ∷ []) (own ++ choice) one two one (push.above context (limit ∷ []) one [] one limit_pushes)
      (push.follow context own choice two three one (push.above context own two [] one own_pushes)
      (push.follow context (limit ∷ []) (below ∷ pick ∷ []) three four one (push.above context (limit ∷ []) three [] one limit_pushes)
      (push.follow context (below ∷ []) (pick ∷ []) four three one (push.above context (below ∷ []) two two one tests) picks))))

pub indices_are_bounded : TypedCodePushes → ValidCodeRuns → IndicesAreBounded
indices_are_bounded push valid = record {
  bounded = λ context own count limit below pick small limit_is below_is pick_is free pushes.
      bounds context own count limit below pick small limit_is below_is pick_is ((code_is_alone valid).alone context primitive.I32 own pushes) free;
  pushes = λ context own count limit below pick small limit_is below_is pick_is pushes.
      pushes_bounded context own count limit below pick small limit_is below_is pick_is push pushes;
  turned = λ context own code count pushes same.
      same_turned (LabelAlike count) (λ n k h labels default. sym (h labels default)) valid context own code pushes same;
}
