-- Code that pushes a value, and changes nothing.
use Rattle.std.proofs.Common.{◌≡◌, ℕ, Bool, true, List, [], ◌∷◌, ◌++◌, length, Option, Some, None, refl, sym, ap, ap₂, ◌∙◌, subst, append-nil, append_assoc}
use Rattle.std.specs.Prelude.{is_some}
use Rattle.std.specs.List.{All}
use Rattle.std.proofs.lemmas.List.Elements.{All-nil, All-cons, All-append, All-head}
use Rattle.wasm_code.specs.Instruction.{Instruction}
use Rattle.wasm_types.specs.declared.types.PrimitiveTypeInfo.{PrimitiveTypeInfo}
use Rattle.wasm_execution.specs.declared.integer.IntegerType.{IntegerType}
use Rattle.wasm_execution.specs.declared.integer.IntegerType.TheVariants as integer
use Rattle.wasm_execution.specs.Integer.{IntegerOperator}
use Rattle.wasm_execution.specs.Values.{type_of, same_types, whole, Value, IsValue, types, Context, State, Variable, local, global, read}
use Rattle.wasm_execution.specs.Values.{HasTypes, Outcome, Ends, then_run, above}
use Rattle.wasm_execution.specs.IntegerRow.{IntegerRow, constant, operation, get, operand_count, if_typed, variable_type, row_types, integer_row}
use Rattle.wasm_execution.specs.Machine.{division_trap_cause, number_or_trap, read_of, effect, run}
use Rattle.wasm_execution.specs.Laws.{Keeps}
use Rattle.wasm_execution.specs.OutcomeLemmas.{run_append, run_one}
use Rattle.wasm_execution.specs.RowLemmas.{step_at, act_is}
use Rattle.wasm_execution.specs.StateLemmas.{context_is}
use Rattle.wasm_execution.specs.TypeLemmas.{find_local, find_global, run_keeps}
use Rattle.wrapped_code.specs.Ways.{IsPure, PureCode}
use Rattle.wrapped_code.proofs.FrameLemmas.{same_types_self}

module _ (context : Context) where
  abbrev Gives : List Instruction → (State → Value) → Type 0
  Gives code value = (stack : List Value) (s : State) → All IsValue stack → HasTypes context s → run code stack s ≡ Ends (stack ++ value s ∷ []) s

  made : (t : PrimitiveTypeInfo) (code : List Instruction) (value : State → Value) → ((s : State) → HasTypes context s → (value s).type ≡ t) →
      Gives code value → IsPure context t code
  made t code value typed gives = record {
    value = value;
    typed = typed;
    is_value = λ s h. All-head IsValue (value s) []
        (subst (Keeps context) (gives [] s (All-nil IsValue) h) (run_keeps context code [] s h (All-nil IsValue))).0;
    gives = gives;
  }

  -- a row on its operands
  pub row_gives : (i : Instruction) (row : IntegerRow) (vs : List Value) (v : Value) (rs : List PrimitiveTypeInfo) (stack : List Value) (s : State) →
      integer_row i ≡ row → HasTypes context s → row_types context row (types vs) ≡ Some rs → operand_count s.world.info row ≡ length vs →
      effect row vs s ≡ Ends (v ∷ []) s → run (i ∷ []) (stack ++ vs) s ≡ Ends (stack ++ v ∷ []) s
  row_gives i row vs v rs stack s is h typed counted gives =
      run_one i row (stack ++ vs) s is ∙
      (step_at row stack vs s counted ∙
      ap (above stack) (act_is row vs rs s (ap (λ c. row_types c row (types vs)) (context_is h) ∙ typed) ∙ gives))

  -- ---- constants and variables

  of_constant : (i : Instruction) (t : IntegerType) (n : ℕ) → integer_row i ≡ constant t n → IsPure context (type_of t) (i ∷ [])
  of_constant i t n is =
      made (type_of t) (i ∷ []) (λ s. whole t n) (λ s h. refl)
      (λ stack s a h. ap (λ (x : List Value). run (i ∷ []) x s) (sym (append-nil stack)) ∙
      row_gives i (constant t n) [] (whole t n) (type_of t ∷ []) stack s is h refl refl refl)

  abbrev value_or : Option Value → Value
  value_or (Some v) = v
  value_or None = whole integer.I32 0

  record Reads (x : Variable) (t : PrimitiveTypeInfo) (s : State) : Type 0 where
    value : Value
    reads : read x s ≡ Some value
    typed : value.type ≡ t

  reads_of : (x : Variable) (t : PrimitiveTypeInfo) (s : State) → HasTypes context s → variable_type context x ≡ Some t → Reads x t s
  reads_of (local i) t s h e = let f = find_local h i t e in record { value = f.value; reads = f.reads; typed = f.typed }
  reads_of (global i) t s h e = let f = find_global h i t e in record { value = f.value; reads = f.reads; typed = f.typed }

  of_variable : (i : Instruction) (x : Variable) (t : PrimitiveTypeInfo) → integer_row i ≡ get x → variable_type context x ≡ Some t →
      IsPure context t (i ∷ [])
  of_variable i x t is e =
      made t (i ∷ []) (λ s. value_or (read x s))
      (λ s h. let f = reads_of x t s h e in ap (λ o. (value_or o).type) f.reads ∙ f.typed)
      (λ stack s a h. let f = reads_of x t s h e in
      ap (λ (z : List Value). run (i ∷ []) z s) (sym (append-nil stack)) ∙
      row_gives i (get x) [] (value_or (read x s)) (t ∷ []) stack s is h (typed_get e) refl
      (ap (λ o. read_of o s) f.reads ∙ ap (λ o. Ends (value_or o ∷ []) s) (sym f.reads)))
    where
      typed_get : variable_type context x ≡ Some t → row_types context (get x) [] ≡ Some (t ∷ [])
      typed_get e = ap (λ (o : Option PrimitiveTypeInfo). some_one o) e
        where
          some_one : Option PrimitiveTypeInfo → Option (List PrimitiveTypeInfo)
          some_one (Some u) = Some (u ∷ [])
          some_one None = None

  -- ---- operators

  abbrev number_or : Option ℕ → ℕ
  number_or (Some n) = n
  number_or None = 0

  applied_is : (f : IntegerOperator) (ns : List ℕ) (s : State) → is_some (f.value ns) ≡ true →
      number_or_trap f.result (f.value ns) (division_trap_cause ns) s ≡ Ends (whole f.result (number_or (f.value ns)) ∷ []) s
  applied_is f ns s e = go (f.value ns) e
    where
      go : (o : Option ℕ) → is_some o ≡ true → number_or_trap f.result o (division_trap_cause ns) s ≡ Ends (whole f.result (number_or o) ∷ []) s
      go (Some n) e = refl
      go None e = absurd cc

  typed_operands : (f : IntegerOperator) (ts : List PrimitiveTypeInfo) → f.operands ≡ ts → row_types context (operation f) ts ≡ Some (type_of f.result ∷ [])
  typed_operands f ts e =
      ap (λ (us : List PrimitiveTypeInfo). if_typed (same_types ts us) (type_of f.result ∷ [])) e ∙
      ap (λ (b : Bool). if_typed b (type_of f.result ∷ [])) (same_types_self ts)

  of_one : (i : Instruction) (f : IntegerOperator) (t : PrimitiveTypeInfo) (x : List Instruction) → integer_row i ≡ operation f →
      f.operands ≡ t ∷ [] → ((n : ℕ) → is_some (f.value (n ∷ [])) ≡ true) → IsPure context t x → IsPure context (type_of f.result) (x ++ i ∷ [])
  of_one i f t x is operands total p =
      made (type_of f.result) (x ++ i ∷ []) (λ s. whole f.result (number_or (f.value ((p.value s).number ∷ [])))) (λ s h. refl)
      (λ stack s a h.
      let v = p.value s in
      run_append x (i ∷ []) stack s ∙
      (ap (λ (o : Outcome). then_run o (run (i ∷ []))) (p.gives stack s a h) ∙
      row_gives i (operation f) (v ∷ []) (whole f.result (number_or (f.value (v.number ∷ [])))) (type_of f.result ∷ []) stack s is h
      (ap (λ (u : PrimitiveTypeInfo). row_types context (operation f) (u ∷ [])) (p.typed s h) ∙ typed_operands f (t ∷ []) operands)
      (ap length operands) (applied_is f (v.number ∷ []) s (total v.number))))

  of_two : (i : Instruction) (f : IntegerOperator) (t u : PrimitiveTypeInfo) (x y : List Instruction) → integer_row i ≡ operation f →
      f.operands ≡ t ∷ u ∷ [] → ((n k : ℕ) → is_some (f.value (n ∷ k ∷ [])) ≡ true) → IsPure context t x → IsPure context u y →
      IsPure context (type_of f.result) (x ++ (y ++ i ∷ []))
  of_two i f t u x y is operands total p q =
      made (type_of f.result) (x ++ (y ++ i ∷ []))
      (λ s. whole f.result (number_or (f.value ((p.value s).number ∷ (q.value s).number ∷ [])))) (λ s h. refl)
      (λ stack s a h.
      let v = p.value s in
      let w = q.value s in
      let all = All-append IsValue stack (v ∷ []) a (All-cons IsValue v [] (p.is_value s h) (All-nil IsValue)) in
      run_append x (y ++ i ∷ []) stack s ∙
      (ap (λ (o : Outcome). then_run o (run (y ++ i ∷ []))) (p.gives stack s a h) ∙
      (run_append y (i ∷ []) (stack ++ v ∷ []) s ∙
      (ap (λ (o : Outcome). then_run o (run (i ∷ []))) (q.gives (stack ++ v ∷ []) s all h) ∙
      (ap (λ (z : List Value). run (i ∷ []) z s) (append_assoc stack (v ∷ []) (w ∷ [])) ∙
      row_gives i (operation f) (v ∷ w ∷ []) (whole f.result (number_or (f.value (v.number ∷ w.number ∷ [])))) (type_of f.result ∷ []) stack s is h
      (ap₂ (λ (k l : PrimitiveTypeInfo). row_types context (operation f) (k ∷ l ∷ [])) (p.typed s h) (q.typed s h) ∙
      typed_operands f (t ∷ u ∷ []) operands)
      (ap length operands) (applied_is f (v.number ∷ w.number ∷ []) s (total v.number w.number)))))))

pub pure_code : PureCode
pure_code = record { of_constant = of_constant; of_variable = of_variable; of_one = of_one; of_two = of_two }
