-- Stores of as many bytes, with what is done with their values before: which do the same on every stack, and are valid alike on every frame.
use Rattle.std.proofs.Common.{◌≡◌, ℕ, ◌+◌, ◌-◌, Bool, true, false, List, [], ◌∷◌, ◌++◌, length, take, drop, Some, None}
use Rattle.std.proofs.Common.{refl, sym, ap, ◌∙◌, subst, append_assoc, true≢false, inl, inr}
use Rattle.std.specs.Prelude.{◌⊎◌, ◌&&◌, nat_le, if◌then◌else◌, option_and_then}
use Rattle.std.specs.List.{All}
use Rattle.std.proofs.lemmas.Bool.{and_parts}
use Rattle.std.proofs.lemmas.List.Elements.{All-nil, All-cons, All-head}
use Rattle.wasm_code.specs.Instruction.{Instruction}
use Rattle.wasm_code.specs.declared.immediate.Imm.TheVariants as imm
use Rattle.wasm_code.specs.declared.immediate.MemArg.{MemArg}
use Rattle.wasm_types.specs.Module.{Module}
use Rattle.wasm_types.specs.declared.types.PrimitiveTypeInfo.{PrimitiveTypeInfo}
use Rattle.wasm_execution.specs.ExactRow.{stores}
use Rattle.wasm_execution.specs.OtherRow.{typed}
use Rattle.wasm_execution.specs.Values.{same_type, accepts, accept, results_on, other_types, Value, IsValue, IsOfType, types}
use Rattle.wasm_execution.specs.Values.{Context, State, HasTypes, Outcome, Ends, Stuck, Gives}
use Rattle.wasm_execution.specs.Values.{Memories, bytes_of_number, put_at, within, stored, then_run, above}
use Rattle.wasm_execution.specs.IntegerRow.{operand_count, typed_operand_count, integer_row}
use Rattle.wasm_execution.specs.Machine.{answered, act, step, run}
use Rattle.wasm_execution.specs.OutcomeLemmas.{run_append, run_one}
use Rattle.wasm_execution.specs.RowLemmas.{same_type_self, same_type_is, step_at}
use Rattle.wasm_equivalence.specs.control.Wider.{wider}
use Rattle.wasm_equivalence.specs.validation.StaysValid.{MoreGlobalsCheckAlike}
use Rattle.rewrite_rules.specs.declared.access.AccessSide.{AccessSide}
use Rattle.rewrite_rules.specs.declared.access.AccessKind.TheVariants.{Store}
use Rattle.rewrite_rules.specs.declared.access.Conversion.{Conversion}
use Rattle.rewrite_rules.specs.declared.access.Conversion.TheVariants.{Nothing}
use Rattle.rewrite_rules.specs.Access.{code_with, conversion_code, side_code}
use Rattle.rewrite_rules.specs.Beside.{StandsWith}
use Rattle.rewrite_rules.proofs.beside.ConversionLemmas.{Converts}
use Rattle.rewrite_rules.proofs.beside.FrameLemmas.{cut_last, same_turned, Takes, other_takes, taken_through}
use Rattle.rewrite_rules.proofs.beside.StandLemmas.{runs_alike, code_wider}
use Rattle.rewrite_rules.proofs.CodeLemmas.{both_all}
use Rattle.rewrite_rules.proofs.beside.AccessLemmas.{address, IsStoreRow, exact_world, exactly_acts, stuck_on}

module _ (context : Context) (exact : context.info.exact ≡ true) where
  -- what becomes of the memory, or a trap
  abbrev pub stored_by : Memories → MemArg → (count : ℕ) → (below : List Value) → (address number : ℕ) → State → Outcome
  stored_by w m count below a n s = above below (answered (stored w m.memory (a + m.offset) count n s.globals s.rest) [] s)

  -- What is known of a store, and of what stands before it: of a value of the first type it stores so many bytes of the number that the function gives; where
  -- that isn't on top, or no address below it, it is stuck.
  pub record Stores (side : AccessSide) (count : ℕ) (t : PrimitiveTypeInfo) (f : ℕ → ℕ) : Type 0 where
    pub takes_both : (m : MemArg) (all : Context) → Takes all (side_code Store side (imm.Mem m)) (address all.info m ∷ typed (Some t) ∷ []) []
    pub on_none : (m : MemArg) (s : State) → HasTypes context s → run (side_code Store side (imm.Mem m)) [] s ≡ Stuck
    pub on_one : (m : MemArg) (v : Value) (s : State) → HasTypes context s → IsValue v → run (side_code Store side (imm.Mem m)) (v ∷ []) s ≡ Stuck
    pub on_others : (m : MemArg) (below : List Value) (a v : Value) (s : State) → HasTypes context s → IsValue v →
        accept (address context.info m ∷ typed (Some t) ∷ []) (a.type ∷ v.type ∷ []) ≡ false →
        run (side_code Store side (imm.Mem m)) ((below ++ a ∷ []) ++ v ∷ []) s ≡ Stuck
    pub runs : (m : MemArg) (below : List Value) (a v : Value) (s : State) (h : HasTypes context s) → IsValue a → IsValue v →
        accept (address context.info m ∷ typed (Some t) ∷ []) (a.type ∷ v.type ∷ []) ≡ true →
        run (side_code Store side (imm.Mem m)) ((below ++ a ∷ []) ++ v ∷ []) s
        ≡ stored_by (exact_world context exact s h).memories m count below a.number (f v.number) s

  module _ (row count : ℕ) (u : PrimitiveTypeInfo) (is : IsStoreRow row count u) where
    abbrev bare : AccessSide
    bare = record { row = row; conversion = Nothing }

    abbrev store : MemArg → Instruction
    store m = code_with row (imm.Mem m)

    store_takes : (m : MemArg) (all : Context) → Takes all (store m ∷ []) (address all.info m ∷ typed (Some u) ∷ []) []
    store_takes m all = other_takes all (store m) (record { operands = address all.info m ∷ typed (Some u) ∷ []; results = [] }) (is.is_other m)
        (is.has_type all.info m)

    store_count : (m : MemArg) (info : Module) → operand_count info (integer_row (store m)) ≡ 2
    store_count m info = ap (operand_count info) (is.is_other m) ∙ ap typed_operand_count (is.has_type info m)

    store_types : (m : MemArg) (ts : List PrimitiveTypeInfo) →
        other_types context.info (store m) ts ≡ (if accept (address context.info m ∷ typed (Some u) ∷ []) ts then Some [] else None)
    store_types m ts = ap (option_and_then (results_on ts)) (is.has_type context.info m)

    -- too few operands
    store_few : (m : MemArg) (vs : List Value) (s : State) → HasTypes context s → length vs - 2 ≡ 0 →
        accept (address context.info m ∷ typed (Some u) ∷ []) (types vs) ≡ false → run (store m ∷ []) vs s ≡ Stuck
    store_few m vs s h few e =
        run_one (store m) (integer_row (store m)) vs s refl
        ∙ (ap (λ (k : ℕ). above (take (length vs - k) vs) (act (integer_row (store m)) (drop (length vs - k) vs) s)) (store_count m s.world.info)
        ∙ (ap (λ (k : ℕ). above (take k vs) (act (integer_row (store m)) (drop k vs) s)) few
        ∙ ap (above []) (stuck_on context exact (store m) vs s h (is.is_other m) (store_types m (types vs) ∙ ap (λ b. if b then Some [] else None) e))))

    store_steps : (m : MemArg) (below : List Value) (a v : Value) (s : State) →
        run (store m ∷ []) ((below ++ a ∷ []) ++ v ∷ []) s ≡ above below (act (integer_row (store m)) (a ∷ v ∷ []) s)
    store_steps m below a v s =
        run_one (store m) (integer_row (store m)) ((below ++ a ∷ []) ++ v ∷ []) s refl
        ∙ (ap (λ l. step (integer_row (store m)) l s) (append_assoc below (a ∷ []) (v ∷ []))
        ∙ step_at (integer_row (store m)) below (a ∷ v ∷ []) s (store_count m s.world.info))

    one_short : (o : Bool) → (o && false) ≡ false
    one_short true = refl
    one_short false = refl

    store_none : (m : MemArg) (s : State) → HasTypes context s → run (store m ∷ []) [] s ≡ Stuck
    store_none m s h = store_few m [] s h refl refl

    store_one : (m : MemArg) (v : Value) (s : State) → HasTypes context s → run (store m ∷ []) (v ∷ []) s ≡ Stuck
    store_one m v s h = store_few m (v ∷ []) s h refl (one_short (accepts (address context.info m) v.type))

    store_others : (m : MemArg) (below : List Value) (a v : Value) (s : State) → HasTypes context s →
        accept (address context.info m ∷ typed (Some u) ∷ []) (a.type ∷ v.type ∷ []) ≡ false →
        run (store m ∷ []) ((below ++ a ∷ []) ++ v ∷ []) s ≡ Stuck
    store_others m below a v s h e =
        store_steps m below a v s
        ∙ ap (above below) (stuck_on context exact (store m) (a ∷ v ∷ []) s h (is.is_other m)
        (store_types m (a.type ∷ v.type ∷ []) ∙ ap (λ b. if b then Some [] else None) e))

    store_runs : (m : MemArg) (below : List Value) (a v : Value) (s : State) (h : HasTypes context s) → IsValue a → IsValue v →
        accept (address context.info m ∷ typed (Some u) ∷ []) (a.type ∷ v.type ∷ []) ≡ true →
        run (store m ∷ []) ((below ++ a ∷ []) ++ v ∷ []) s ≡ stored_by (exact_world context exact s h).memories m count below a.number v.number s
    store_runs m below a v s h i j e =
        store_steps m below a v s
        ∙ ap (above below) (exactly_acts context exact (store m) (stores m count) (a ∷ v ∷ []) [] s h (is.is_other m) (is.stores_so m)
        (store_types m (a.type ∷ v.type ∷ []) ∙ ap (λ b. if b then Some [] else None) e)
        (All-cons IsValue a (v ∷ []) i (All-cons IsValue v [] j (All-nil IsValue))))

    pub bare_stores : Stores bare count u (λ n. n)
    bare_stores = record {
      takes_both = store_takes;
      on_none = store_none;
      on_one = λ m v s h i. store_one m v s h;
      on_others = λ m below a v s h i e. store_others m below a v s h e;
      runs = store_runs;
    }

    -- with a conversion before it
    module _ (c : Conversion) (t : PrimitiveTypeInfo) (f : ℕ → ℕ) (to : Converts context c t u f) where
      abbrev code : List Instruction
      code = conversion_code c

      abbrev made : Value → Value
      made v = record { type = u; number = f v.number }

      after : (m : MemArg) (stack : List Value) (s : State) (o : Outcome) → run code stack s ≡ o →
          run (code ++ store m ∷ []) stack s ≡ then_run o (run (store m ∷ []))
      after m stack s o e = run_append code (store m ∷ []) stack s ∙ ap (λ o. then_run o (run (store m ∷ []))) e

      -- the value is made first, where it has the type
      on_value : (m : MemArg) (below : List Value) (v : Value) (s : State) → HasTypes context s → IsValue v → same_type t v.type ≡ true →
          run (code ++ store m ∷ []) (below ++ v ∷ []) s ≡ run (store m ∷ []) (below ++ made v ∷ []) s
      on_value m below v s h i e = after m (below ++ v ∷ []) s (Ends (below ++ made v ∷ []) s) (to.runs below v s h i (sym (same_type_is t v.type e)))

      not_value : (m : MemArg) (below : List Value) (v : Value) (s : State) → same_type t v.type ≡ false →
          run (code ++ store m ∷ []) (below ++ v ∷ []) s ≡ Stuck
      not_value m below v s e = after m (below ++ v ∷ []) s Stuck (to.on_other below v s (same_turned v.type t ∙ e))

      fits_now : (v : Value) → IsValue v → same_type t v.type ≡ true → IsValue (made v)
      fits_now v i e = to.fits v.number (subst (λ (w : PrimitiveTypeInfo). IsOfType w v.number) (sym (same_type_is t v.type e)) i)

      pub conversion_stores : Stores (record { row = row; conversion = c }) count t f
      conversion_stores = record {
        takes_both = λ m all. taken_through all (store m ∷ []) (address all.info m ∷ []) u [] (store_takes m all) code t (to.takes_one all);
        on_none = λ m s h. after m [] s Stuck (to.on_none s);
        on_one = λ m v s h i. one m v s h i (same_type t v.type) refl;
        on_others = λ m below a v s h i e. others m below a v s h i (same_type t v.type) refl e;
        runs = λ m below a v s h i j e. both m below a v s h i j (same_type t v.type) refl e;
      }
        where
          one : (m : MemArg) (v : Value) (s : State) → HasTypes context s → IsValue v → (b : Bool) → same_type t v.type ≡ b →
              run (code ++ store m ∷ []) (v ∷ []) s ≡ Stuck
          one m v s h i true e = on_value m [] v s h i e ∙ store_one m (made v) s h
          one m v s h i false e = not_value m [] v s e

          others : (m : MemArg) (below : List Value) (a v : Value) (s : State) → HasTypes context s → IsValue v → (b : Bool) → same_type t v.type ≡ b →
              accept (address context.info m ∷ typed (Some t) ∷ []) (a.type ∷ v.type ∷ []) ≡ false →
              run (code ++ store m ∷ []) ((below ++ a ∷ []) ++ v ∷ []) s ≡ Stuck
          others m below a v s h i true k e =
              on_value m (below ++ a ∷ []) v s h i k
              ∙ store_others m below a (made v) s h
              (ap (λ b. accepts (address context.info m) a.type && (b && true)) (same_type_self u ∙ sym k) ∙ e)
          others m below a v s h i false k e = not_value m (below ++ a ∷ []) v s k

          both : (m : MemArg) (below : List Value) (a v : Value) (s : State) (h : HasTypes context s) → IsValue a → IsValue v → (b : Bool) →
              same_type t v.type ≡ b →
              accept (address context.info m ∷ typed (Some t) ∷ []) (a.type ∷ v.type ∷ []) ≡ true →
              run (code ++ store m ∷ []) ((below ++ a ∷ []) ++ v ∷ []) s
              ≡ stored_by (exact_world context exact s h).memories m count below a.number (f v.number) s
          both m below a v s h i j true k e =
              on_value m (below ++ a ∷ []) v s h j k
              ∙ store_runs m below a (made v) s h i (fits_now v j k)
              (ap (λ b. accepts (address context.info m) a.type && (b && true)) (same_type_self u ∙ sym k) ∙ e)
          both m below a v s h i j false k e =
              absurd (true≢false (sym e ∙ (ap (λ b. accepts (address context.info m) a.type && (b && true)) k
              ∙ one_short (accepts (address context.info m) a.type))))

  -- two stores of the same bytes
  module _ (wide : MoreGlobalsCheckAlike) (left right : AccessSide) (count : ℕ) (t : PrimitiveTypeInfo) (f g : ℕ → ℕ)
      (is : Stores left count t f) (its : Stores right count t g)
      (same : (n : ℕ) → IsOfType t n → bytes_of_number count (f n) ≡ bytes_of_number count (g n)) (m : MemArg) (align : ℕ) where
    abbrev written : MemArg
    written = record m { align = align }

    stored_same : (w : Memories) (below : List Value) (a n : ℕ) (s : State) → IsOfType t n →
        stored_by w m count below a (f n) s ≡ stored_by w written count below a (g n) s
    stored_same w below a n s h =
        ap (λ (bs : List ℕ). above below (answered (within (nat_le (a + m.offset + count) (length (w.bytes s.rest m.memory)))
        (Gives [] s.globals (w.with_bytes s.rest m.memory (put_at (a + m.offset) bs (w.bytes s.rest m.memory)))) w.outside s.globals s.rest) [] s)) (same n h)

    stores_alike : (stack : List Value) (s : State) → All IsValue stack → HasTypes context s →
        run (side_code Store left (imm.Mem m)) stack s ≡ run (side_code Store right (imm.Mem written)) stack s
    stores_alike stack s hs h = go (cut_last stack)
      where
        by_types : (below : List Value) (a v : Value) → IsValue a → IsValue v → (b : Bool) →
            accept (address context.info m ∷ typed (Some t) ∷ []) (a.type ∷ v.type ∷ []) ≡ b →
            run (side_code Store left (imm.Mem m)) ((below ++ a ∷ []) ++ v ∷ []) s ≡ run (side_code Store right (imm.Mem written)) ((below ++ a ∷ [])
            ++ v ∷ []) s
        by_types below a v i j true e =
            let fits : IsOfType t v.number = subst (λ (w : PrimitiveTypeInfo). IsOfType w v.number) (sym (of_type e)) j in
            is.runs m below a v s h i j e
            ∙ (stored_same (exact_world context exact s h).memories below a.number v.number s fits ∙ sym (its.runs written below a v s h i j e))
          where
            of_type : accept (address context.info m ∷ typed (Some t) ∷ []) (a.type ∷ v.type ∷ []) ≡ true → t ≡ v.type
            of_type e = same_type_is t v.type (and_parts (same_type t v.type) true
                (and_parts (accepts (address context.info m) a.type) (same_type t v.type && true) e).1).0
        by_types below a v i j false e = is.on_others m below a v s h j e ∙ sym (its.on_others written below a v s h j e)

        next : (ys : List Value) (v : Value) → IsValue v → All IsValue ys → (ys ≡ []) ⊎ ((below : List Value) × (a : Value) × (ys ≡ below ++ a ∷ [])) →
            run (side_code Store left (imm.Mem m)) (ys ++ v ∷ []) s ≡ run (side_code Store right (imm.Mem written)) (ys ++ v ∷ []) s
        next ys v j hy (inl e) = rw e (is.on_one m v s h j ∙ sym (its.on_one written v s h j))
        next ys v j hy (inr (below, a, e)) =
            let i : IsValue a = All-head IsValue a [] (both_all IsValue below (a ∷ []) (subst (All IsValue) e hy)).1 in
            rw e (by_types below a v i j (accept (address context.info m ∷ typed (Some t) ∷ []) (a.type ∷ v.type ∷ [])) refl)

        go : (stack ≡ []) ⊎ ((ys : List Value) × (v : Value) × (stack ≡ ys ++ v ∷ [])) →
            run (side_code Store left (imm.Mem m)) stack s ≡ run (side_code Store right (imm.Mem written)) stack s
        go (inl e) = rw e (is.on_none m s h ∙ sym (its.on_none written s h))
        go (inr (ys, v, e)) =
            let parts = both_all IsValue ys (v ∷ []) (subst (All IsValue) e hs) in
            rw e (next ys v (All-head IsValue v [] parts.1) parts.0 (cut_last ys))

    pub stores_stand : StandsWith context [] (side_code Store left (imm.Mem m)) (side_code Store right (imm.Mem written))
    stores_stand = record {
      runs = λ more. runs_alike context (side_code Store left (imm.Mem m)) (side_code Store right (imm.Mem written))
          (λ stack s hs h q. stores_alike stack s hs h) more;
      checks = λ input more fr gr e.
          let all = wider input more context in
          its.takes_both written all fr ∙ (sym (is.takes_both m all fr) ∙ code_wider wide input more context (side_code Store left (imm.Mem m)) fr gr e);
    }
