-- What an instance of a pattern does: its operands run one after another, and then its value is left, or its root traps; and its types.
use Rattle.std.proofs.Common.{◌≡◌, ℕ, ◌%◌, ◌^◌, true, List, [], ◌∷◌, ◌++◌, length, map, drop, Some, refl, sym, ap, ap₂, ◌∙◌, append_assoc}
use Rattle.std.specs.Prelude.{◌||◌, Result, option_and_then}
use Rattle.std.specs.Int.{Width, cast_signed, cast_unsigned}
use Rattle.std.specs.List.{All}
use Rattle.std.proofs.lemmas.Bool.{and_parts, or_right}
use Rattle.std.proofs.lemmas.Int.{of_z-to_z}
use Rattle.std.proofs.lemmas.List.{append-nil, length-map, take_at, drop_at}
use Rattle.std.proofs.lemmas.Nat.{pow_pos}
use Rattle.std.proofs.Math.Nat.{mod-lt, mod-mod}
use mir.Val.{bits}
use Rattle.wasm_code.specs.Instruction.{Instruction}
use Rattle.wasm_code.specs.Table.{table, row_at}
use Rattle.wasm_types.specs.Module.{Module}
use Rattle.wasm_types.specs.declared.types.PrimitiveTypeInfo.{PrimitiveTypeInfo}
use Rattle.wasm_execution.specs.declared.integer.IntegerType.{IntegerType}
use Rattle.wasm_execution.specs.declared.integer.IntegerType.TheVariants as integer
use Rattle.wasm_execution.specs.Values.{type_of, width_of, Value, IsValue, types, Context, State, HasTypes, Outcome, Ends, then_run, above}
use Rattle.wasm_execution.specs.IntegerRow as row
use Rattle.wasm_execution.specs.IntegerRow.{is_numeric, operand_count, row_types, integer_row}
use Rattle.wasm_execution.specs.Machine.{step, run}
use Rattle.wasm_execution.specs.Agreement.{EndsTyped}
use Rattle.wasm_execution.specs.OutcomeLemmas.{run_append, run_one}
use Rattle.wasm_execution.specs.RowLemmas.{row_types_count, step_at}
use Rattle.rewrite_rules.specs.declared.pattern.Operator.{Operator}
use Rattle.rewrite_rules.specs.Code.{types_after, Leaves}
use Rattle.rewrite_rules.specs.Pattern.{is_total, is_operator_known, is_exact_operator, uses_exact, some_exact, Kind, kind_at, operands_of}
use Rattle.rewrite_rules.specs.Pattern.{result_of, Pattern, Patterns, hole, constant, drawn, apply, none, ◌▹◌, holes, holes_in, draws_by}
use Rattle.rewrite_rules.specs.Pattern.{kind_in, kinds_in, fits, fit, never_traps, none_traps, traps_at_root}
use Rattle.rewrite_rules.specs.Numbers.{value_on, number_of, low, or_zero, first_word}
use Rattle.rewrite_rules.specs.Instance.{constant_code, operator_code, code_of, codes_of, doing}
use Rattle.rewrite_rules.proofs.CodeLemmas.{leaves_typed, leaves_above}
use Rattle.rewrite_rules.proofs.EffectLemmas.{still_code, code_ends}
use Rattle.rewrite_rules.proofs.RunLemmas.{Each, each_front, each_behind, then_then, then_same, Behaves, IsGood, run_all, run_first, run_all_typed}
use Rattle.rewrite_rules.proofs.RunLemmas as operands
use Rattle.rewrite_rules.proofs.OperatorLemmas.{row_for, row_is, types_at, types_on, finished, IsReady, act_on, HasNumber, total_on}
use Rattle.rewrite_rules.proofs.ValueLemmas.{same_kinds_are, operator_parts, hole_type, val, vals, ends, vals_typed, vals_values}
use Rattle.rewrite_rules.proofs.TypesLemmas.{behind_is, after_append, after_above}

-- ---- constants

cast_back : (w : Width) (n : ℕ) → cast_unsigned w (cast_signed w (n % 2 ^ bits w)) % 2 ^ bits w ≡ n % 2 ^ bits w
cast_back w n = ap (λ x. x % 2 ^ bits w) (of_z-to_z w (n % 2 ^ bits w) (mod-lt n (pow_pos (bits w)))) ∙ mod-mod n (2 ^ bits w)

pub constant_row : (t : IntegerType) (n : ℕ) → integer_row (constant_code t n)
    ≡ row.constant t (cast_unsigned (width_of t) (cast_signed (width_of t) (low t n)))
unfolding integer_row table row_at
constant_row integer.I32 n = refl
constant_row integer.I64 n = refl

pub constant_types : (context : Context) (t : IntegerType) (n : ℕ) → row_types context (integer_row (constant_code t n)) [] ≡ Some (type_of t ∷ [])
constant_types context t n = ap (λ r. row_types context r []) (constant_row t n)

pub constant_runs : (t : IntegerType) (n : ℕ) (stack : List Value) (s : State) →
    run (constant_code t n ∷ []) stack s ≡ Ends (stack ++ record { type = type_of t; number = low t n } ∷ []) s
constant_runs t n stack s =
    let z = cast_unsigned (width_of t) (cast_signed (width_of t) (low t n)) in
    run_one (constant_code t n) (row.constant t z) stack s (constant_row t n)
    ∙ (ap (λ l. step (row.constant t z) l s) (sym (append-nil stack))
    ∙ (step_at (row.constant t z) stack [] s refl
    ∙ ap (λ (m : ℕ). Ends (stack ++ record { type = type_of t; number = m } ∷ []) s) (cast_back (width_of t) n)))

-- ---- operands

module _ (context : Context) (u : PrimitiveTypeInfo) (numeric : is_numeric u ≡ true) (kinds : List Kind) (x : ℕ → List Instruction) (c : ℕ → ℕ) where
  -- the type of a hole
  abbrev pub hole_at : ℕ → PrimitiveTypeInfo
  hole_at n = hole_type u kinds c n

  -- each of these operands leaves one value of its hole's type
  abbrev pub AreLeft : List ℕ → Type 0
  AreLeft ns = Each (λ n. Leaves context (x n) (hole_at n)) ns

  -- what an operand does by itself
  abbrev pub does : ℕ → State → Outcome
  does n s = run (x n) [] s

  pub behaves : (n : ℕ) → Leaves context (x n) (hole_at n) → IsGood context does (doing x) hole_at n
  behaves n l = record {
    typed = λ s h. leaves_typed context (x n) (hole_at n) s l h;
    still = λ w s h. still_code context (x n) (hole_at n) l w s h;
    ends = λ w s h. code_ends context (x n) (hole_at n) l w s h;
  }

  pub all_good : (ns : List ℕ) → AreLeft ns → Each (IsGood context does (doing x) hole_at) ns
  all_good [] a = tt
  all_good (n ∷ ns) a = (behaves n a.0, all_good ns a.1)

  all_typed : (ns : List ℕ) (s : State) → AreLeft ns → HasTypes context s → EndsTyped context (map hole_at ns) (run_all does ns s)
  all_typed ns s a h = run_all_typed context does (doing x) hole_at ns s (all_good ns a) h

  -- ---- types

  -- one instruction, whose operands stand on top
  one_typed : (i : Instruction) (ts operands : List PrimitiveTypeInfo) (t : PrimitiveTypeInfo) → row_types context (integer_row i) operands ≡ Some (t ∷ []) →
      types_after context (i ∷ []) (ts ++ operands) ≡ Some (ts ++ t ∷ [])
  one_typed i ts operands t e = ap (option_and_then (types_after context [])) (behind_is context i ts operands (t ∷ []) e)

  -- one without operands
  leaf_typed : (i : Instruction) (ts : List PrimitiveTypeInfo) (t : PrimitiveTypeInfo) → row_types context (integer_row i) [] ≡ Some (t ∷ []) →
      types_after context (i ∷ []) ts ≡ Some (ts ++ t ∷ [])
  leaf_typed i ts t e = ap (types_after context (i ∷ [])) (sym (append-nil ts)) ∙ one_typed i ts [] t e

  mutual
    pub code_typed : (p : Pattern) (words : List ℕ) → fits kinds p ≡ true → AreLeft (holes p) → (ts : List PrimitiveTypeInfo) →
        types_after context (code_of x c words p) ts ≡ Some (ts ++ kind_at u (kind_in kinds p) ∷ [])
    code_typed (hole n) words f g ts =
        ap (types_after context (x n)) (sym (append-nil ts)) ∙ after_above context (x n) ts [] (hole_at n ∷ []) g.0
    code_typed (constant t e) words f g ts = leaf_typed (constant_code t (number_of t c e)) ts (type_of t) (constant_types context t (number_of t c e))
    code_typed (drawn t) words f g ts = leaf_typed (constant_code t (first_word words)) ts (type_of t) (constant_types context t (first_word words))
    code_typed (apply o ps) words f g ts =
        let p = operator_parts kinds o ps f in
        after_append context (codes_of x c words ps) (operator_code o ∷ []) ts _ _ (codes_typed ps words p.rest g ts)
        (ap (types_after context (operator_code o ∷ []))
        (ap (λ l. ts ++ types_at u l) (same_kinds_are (kinds_in kinds ps) (operands_of o) p.kinds_are))
        ∙ one_typed (operator_code o) ts (types_at u (operands_of o)) (kind_at u (result_of o))
        (ap (λ r. row_types context r (types_at u (operands_of o))) (row_is o p.known) ∙ types_on u numeric context o p.known))

    pub codes_typed : (ps : Patterns) (words : List ℕ) → fit kinds ps ≡ true → AreLeft (holes_in ps) → (ts : List PrimitiveTypeInfo) →
        types_after context (codes_of x c words ps) ts ≡ Some (ts ++ types_at u (kinds_in kinds ps))
    codes_typed none words f g ts = ap (λ l. Some l) (sym (append-nil ts))
    codes_typed (p ▹ ps) words f g ts =
        let k = and_parts (fits kinds p) (fit kinds ps) f in
        let left : (n : ℕ) → Type 0 = λ n. Leaves context (x n) (hole_at n) in
        after_append context (code_of x c words p) (codes_of x c (drop (draws_by p) words) ps) ts _ _
        (code_typed p words k.0 (each_front left (holes p) (holes_in ps) g) ts)
        (codes_typed ps (drop (draws_by p) words) k.1 (each_behind left (holes p) (holes_in ps) g) (ts ++ kind_at u (kind_in kinds p) ∷ [])
        ∙ ap (λ l. Some l) (append_assoc ts (kind_at u (kind_in kinds p) ∷ []) (types_at u (kinds_in kinds ps))))

  -- ---- exact rows

  -- what runs the module is exact, where one of the operators is an exact row
  abbrev pub AllReady : Pattern → Type 0
  AllReady p = uses_exact p ≡ true → context.info.exact ≡ true

  abbrev pub EachReady : Patterns → Type 0
  EachReady ps = some_exact ps ≡ true → context.info.exact ≡ true

  root_ready : (o : Operator) (ps : Patterns) → AllReady (apply o ps) → IsReady context o
  root_ready o ps y e = y (ap (λ b. b || some_exact ps) e)

  rest_ready : (o : Operator) (ps : Patterns) → AllReady (apply o ps) → EachReady ps
  rest_ready o ps y e = y (or_right (is_exact_operator o) (some_exact ps) e)

  first_ready : (p : Pattern) (ps : Patterns) → EachReady (p ▹ ps) → AllReady p
  first_ready p ps y e = y (ap (λ b. b || some_exact ps) e)

  others_ready : (p : Pattern) (ps : Patterns) → EachReady (p ▹ ps) → EachReady ps
  others_ready p ps y e = y (or_right (uses_exact p) (some_exact ps) e)

  -- ---- runs

  -- an operator on values of its operands' types
  operator_runs : (o : Operator) → is_operator_known o ≡ true → IsReady context o → (stack vs : List Value) (s : State) → HasTypes context s →
      types vs ≡ types_at u (operands_of o) → All IsValue vs →
      run (operator_code o ∷ []) (stack ++ vs) s ≡ above stack (finished (kind_at u (result_of o)) (value_on o (map (λ v. v.number) vs)) s)
  operator_runs o k r stack vs s h t hv =
      let typed = ap (row_types context (row_for o)) t ∙ types_on u numeric context o k in
      let count : operand_count s.world.info (row_for o) ≡ length vs =
      ap (λ (m : Module). operand_count m (row_for o)) h.info_is
      ∙ (row_types_count context (row_for o) (types vs) (kind_at u (result_of o) ∷ []) typed ∙ length-map vs (λ v. v.type)) in
      run_one (operator_code o) (row_for o) (stack ++ vs) s (row_is o k)
      ∙ (step_at (row_for o) stack vs s count ∙ ap (above stack) (act_on context u numeric o k r vs s h t hv))

  length_types : (vs : List Value) (ns : List ℕ) → types vs ≡ map hole_at ns → length vs ≡ length ns
  length_types vs ns e = sym (length-map vs (λ v. v.type)) ∙ (ap length e ∙ length-map ns hole_at)

  -- behind the operands of an operator
  behind_operands : (o : Operator) (ps : Patterns) → IsReady context o → fits kinds (apply o ps) ≡ true → AreLeft (holes_in ps) →
      (words : List ℕ) (stack : List Value)
      (s : State) → HasTypes context s →
      run (codes_of x c words ps) stack s ≡ then_run (run_all does (holes_in ps) s) (λ vs m. Ends (stack ++ vals u kinds c words ps vs) m) →
      run (code_of x c words (apply o ps)) stack s ≡ then_run (run_all does (holes_in ps) s) (λ vs m. above stack (ends u kinds c words (apply o ps) vs m))
  behind_operands o ps r f g words stack s hs e =
      let p = operator_parts kinds o ps f in
      let ran = run_all does (holes_in ps) s in
      run_append (codes_of x c words ps) (operator_code o ∷ []) stack s
      ∙ (ap (λ r. then_run r (run (operator_code o ∷ []))) e
      ∙ (then_then ran (λ vs m. Ends (stack ++ vals u kinds c words ps vs) m) (run (operator_code o ∷ []))
      ∙ then_same context (map hole_at (holes_in ps)) ran (λ vs m. run (operator_code o ∷ []) (stack ++ vals u kinds c words ps vs) m)
      (λ vs m. above stack (ends u kinds c words (apply o ps) vs m)) (all_typed (holes_in ps) s g hs)
      (λ vs m typed hv hm. operator_runs o p.known r stack (vals u kinds c words ps vs) m hm
      (vals_typed u kinds c words ps vs typed ∙ ap (types_at u) (same_kinds_are (kinds_in kinds ps) (operands_of o) p.kinds_are))
      (vals_values u kinds c words ps p.rest vs typed hv))))

  mutual
    pub code_runs : (p : Pattern) → AllReady p → never_traps p ≡ true → fits kinds p ≡ true → AreLeft (holes p) →
        (words : List ℕ) (stack : List Value) (s : State) →
        HasTypes context s →
        run (code_of x c words p) stack s ≡ then_run (run_all does (holes p) s) (λ vs m. Ends (stack ++ val u kinds c words p vs ∷ []) m)
    code_runs (hole n) y q f g words stack s hs =
        leaves_above context (x n) (hole_at n) stack s g.0 hs
        ∙ (then_same context (hole_at n ∷ []) (does n s) (λ vs m. Ends (stack ++ vs) m) (λ vs m. Ends (stack ++ val u kinds c words (hole n) (vs ++ []) ∷ []) m)
        (leaves_typed context (x n) (hole_at n) s g.0 hs) alone
        ∙ sym (run_first does n [] s (λ vs m. Ends (stack ++ val u kinds c words (hole n) vs ∷ []) m)))
      where
        alone : (vs : List Value) (m : State) → types vs ≡ hole_at n ∷ [] → All IsValue vs → HasTypes context m →
            Ends (stack ++ vs) m ≡ Ends (stack ++ val u kinds c words (hole n) (vs ++ []) ∷ []) m
        alone [] m e a b = absurd cc
        alone (v ∷ []) m e a b = refl
        alone (v ∷ w ∷ vs) m e a b = absurd cc
    code_runs (constant t e) y q f g words stack s hs = constant_runs t (number_of t c e) stack s
    code_runs (drawn t) y q f g words stack s hs = constant_runs t (first_word words) stack s
    code_runs (apply o ps) y q f g words stack s hs =
        let p = operator_parts kinds o ps f in
        let r = and_parts (is_total o) (none_traps ps) q in
        behind_operands o ps (root_ready o ps y) f g words stack s hs (codes_run ps (rest_ready o ps y) r.1 p.rest g words stack s hs)
        ∙ then_same context (map hole_at (holes_in ps)) (run_all does (holes_in ps) s) (λ vs m. above stack (ends u kinds c words (apply o ps) vs m))
        (λ vs m. Ends (stack ++ val u kinds c words (apply o ps) vs ∷ []) m) (all_typed (holes_in ps) s g hs)
        (λ vs m typed hv hm. left (vals u kinds c words ps vs) m p.known r.0
        (length-map (vals u kinds c words ps vs) (λ v. v.number)
        ∙ (sym (length-map (vals u kinds c words ps vs) (λ v. v.type)) ∙ (ap length (vals_typed u kinds c words ps vs typed
        ∙ ap (types_at u) (same_kinds_are (kinds_in kinds ps) (operands_of o) p.kinds_are)) ∙ length-map (operands_of o) (kind_at u)))))
      where
        number : (m : State) (r : Result ℕ _) → HasNumber r →
            above stack (finished (kind_at u (result_of o)) r m) ≡ Ends (stack ++ record { type = kind_at u (result_of o); number = or_zero r } ∷ []) m
        number m r (n, e) = rw e refl

        left : (vs : List Value) (m : State) → is_operator_known o ≡ true → is_total o ≡ true → length (map (λ v. v.number) vs) ≡ length (operands_of o) →
            above stack (finished (kind_at u (result_of o)) (value_on o (map (λ v. v.number) vs)) m)
            ≡ Ends (stack ++ record { type = kind_at u (result_of o); number = or_zero (value_on o (map (λ v. v.number) vs)) } ∷ []) m
        left vs m j k l = number m (value_on o (map (λ v. v.number) vs)) (total_on o j (map (λ v. v.number) vs) k l)

    pub codes_run : (ps : Patterns) → EachReady ps → none_traps ps ≡ true → fit kinds ps ≡ true → AreLeft (holes_in ps) →
        (words : List ℕ) (stack : List Value) (s : State) →
        HasTypes context s →
        run (codes_of x c words ps) stack s ≡ then_run (run_all does (holes_in ps) s) (λ vs m. Ends (stack ++ vals u kinds c words ps vs) m)
    codes_run none y q f g words stack s hs = ap (λ l. Ends l s) (sym (append-nil stack))
    codes_run (p ▹ ps) y q f g words stack s hs =
        let k = and_parts (never_traps p) (none_traps ps) q in
        let j = and_parts (fits kinds p) (fit kinds ps) f in
        let left : (n : ℕ) → Type 0 = λ n. Leaves context (x n) (hole_at n) in
        let gp = each_front left (holes p) (holes_in ps) g in
        let gs = each_behind left (holes p) (holes_in ps) g in
        let ran = run_all does (holes p) s in
        let fewer = drop (draws_by p) words in
        run_append (code_of x c words p) (codes_of x c fewer ps) stack s
        ∙ (ap (λ o. then_run o (run (codes_of x c fewer ps))) (code_runs p (first_ready p ps y) k.0 j.0 gp words stack s hs)
        ∙ (then_then ran (λ vs m. Ends (stack ++ val u kinds c words p vs ∷ []) m) (run (codes_of x c fewer ps))
        ∙ (then_same context (map hole_at (holes p)) ran (λ vs m. run (codes_of x c fewer ps) (stack ++ val u kinds c words p vs ∷ []) m)
        (λ vs m. then_run (run_all does (holes_in ps) m) (λ us l. Ends (stack ++ vals u kinds c words (p ▹ ps) (vs ++ us)) l))
        (all_typed (holes p) s gp hs)
        (λ vs m typed hv hm.
        codes_run ps (others_ready p ps y) k.1 j.1 gs fewer (stack ++ val u kinds c words p vs ∷ []) m hm
        ∙ then_same context (map hole_at (holes_in ps)) (run_all does (holes_in ps) m)
        (λ us l. Ends ((stack ++ val u kinds c words p vs ∷ []) ++ vals u kinds c fewer ps us) l)
        (λ us l. Ends (stack ++ vals u kinds c words (p ▹ ps) (vs ++ us)) l) (all_typed (holes_in ps) m gs hm)
        (λ us l ty hu hl. ap (λ y. Ends y l) (append_assoc stack (val u kinds c words p vs ∷ []) (vals u kinds c fewer ps us)
        ∙ ap₂ (λ a b. stack ++ val u kinds c words p a ∷ vals u kinds c fewer ps b) (sym (take_at vs us (length (holes p)) (length_types vs (holes p) typed)))
        (sym (drop_at vs us (length (holes p)) (length_types vs (holes p) typed))))))
        ∙ sym (operands.run_append does (holes p) (holes_in ps) s (λ vs l. Ends (stack ++ vals u kinds c words (p ▹ ps) vs) l)))))

  -- ---- the whole

  pub pattern_runs : (p : Pattern) → AllReady p → traps_at_root p ≡ true → fits kinds p ≡ true → AreLeft (holes p) →
      (words : List ℕ) (stack : List Value) (s : State) →
      HasTypes context s → run (code_of x c words p) stack s ≡ then_run (run_all does (holes p) s) (λ vs m. above stack (ends u kinds c words p vs m))
  pattern_runs (hole n) y q f g words stack s hs = code_runs (hole n) y refl f g words stack s hs
  pattern_runs (constant t e) y q f g words stack s hs = code_runs (constant t e) y refl f g words stack s hs
  pattern_runs (drawn t) y q f g words stack s hs = code_runs (drawn t) y refl f g words stack s hs
  pattern_runs (apply o ps) y q f g words stack s hs =
      let p = operator_parts kinds o ps f in
      behind_operands o ps (root_ready o ps y) f g words stack s hs (codes_run ps (rest_ready o ps y) q p.rest g words stack s hs)
