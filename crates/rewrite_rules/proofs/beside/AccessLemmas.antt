-- What the world answers accesses where it is exact, and loads of as many bytes, with what is done with their values: which do the same
-- on every stack, and are valid alike on every frame.
use Rattle.std.proofs.Common.{◌≡◌, ℕ, ◌+◌, ◌-◌, ◌^◌, ◌<◌, ◌≤◌, Bool, true, false, List, [], ◌∷◌, ◌++◌, length, take, drop, map, Some, None}
use Rattle.std.proofs.Common.{refl, sym, ap, ap₂, ◌∙◌, subst, length-take, length-drop, arith, inl, inr}
use Rattle.std.specs.Prelude.{◌⊎◌, nat_le, is_some, if◌then◌else◌, option_and_then}
use Rattle.std.specs.List.{All}
use Rattle.std.proofs.Math.Nat.{pow-suc}
use Rattle.std.proofs.lemmas.Bool.{leb-true}
use Rattle.std.proofs.lemmas.List.{append-nil}
use Rattle.std.proofs.lemmas.List.Elements.{All-nil, All-cons, All-head, All-tail, All-take, All-drop}
use Rattle.wasm_code.specs.Instruction.{Instruction}
use Rattle.wasm_code.specs.declared.immediate.Imm.TheVariants as imm
use Rattle.wasm_code.specs.declared.immediate.MemArg.{MemArg}
use Rattle.wasm_types.specs.Module.{Module}
use Rattle.wasm_types.specs.declared.types.PrimitiveTypeInfo.{PrimitiveTypeInfo}
use Rattle.wasm_execution.specs.ExactRow.{Loading, ExactRow, loads, stores, exact_row}
use Rattle.wasm_execution.specs.OtherRow.{Operand, typed, names_in, other_type}
use Rattle.wasm_execution.specs.Values.{of_bits, accept, results_on, other_types, Value, IsValue, types}
use Rattle.wasm_execution.specs.Values.{Context, State, own_globals, HasTypes, Outcome, Ends, Traps, Stuck, met, Answer, Gives, IsExact}
use Rattle.wasm_execution.specs.Values.{Memories, little, within, exactly, then_run, above}
use Rattle.wasm_execution.specs.IntegerRow.{other, operand_count, typed_operand_count, row_types, integer_row}
use Rattle.wasm_execution.specs.Machine.{answered, only_if, effect, act, run}
use Rattle.wasm_execution.specs.ExactLemmas.{of_bits_fits}
use Rattle.wasm_execution.specs.RowLemmas.{step_at}
use Rattle.wasm_execution.specs.StateLemmas.{own_types_are, own_is, others_none, context_is}
use Rattle.wasm_execution.specs.TypeLemmas.{act_at}
use Rattle.wasm_equivalence.specs.control.Wider.{wider}
use Rattle.wasm_equivalence.specs.validation.Algorithm.{Frame, check_code}
use Rattle.wasm_equivalence.specs.validation.StaysValid.{with_types, MoreGlobalsCheckAlike}
use Rattle.rewrite_rules.specs.declared.access.AccessSide.{AccessSide}
use Rattle.rewrite_rules.specs.declared.access.AccessKind.TheVariants.{Load}
use Rattle.rewrite_rules.specs.declared.access.Conversion.{Conversion}
use Rattle.rewrite_rules.specs.declared.access.Conversion.TheVariants.{Nothing}
use Rattle.rewrite_rules.specs.Access.{code_with, conversion_code, side_code}
use Rattle.rewrite_rules.specs.Beside.{StandsWith}
use Rattle.rewrite_rules.proofs.beside.ConversionLemmas.{Converts}
use Rattle.rewrite_rules.proofs.beside.FrameLemmas.{cut_last, Takes, other_takes, taken_pushed, pushed_by}
use Rattle.rewrite_rules.proofs.beside.StandLemmas.{runs_alike, code_wider}
use Rattle.rewrite_rules.proofs.CodeLemmas.{both_all}

-- ---- bytes

little_fits : (bs : List ℕ) → All (λ b. b < 256) bs → little bs < 256 ^ length bs
little_fits [] h = omega arith
little_fits (b ∷ bs) h =
    let small = All-head (λ (b : ℕ). b < 256) b bs h in
    let later = little_fits bs (All-tail (λ (b : ℕ). b < 256) b bs h) in
    rw (pow-suc 256 (length bs)) (omega arith)

-- what is loaded of bytes that are there is below that many bytes
loaded_fits : (bs : List ℕ) (place count : ℕ) → All (λ b. b < 256) bs → nat_le (place + count) (length bs) ≡ true →
    little (take count (drop place bs)) < 256 ^ count
loaded_fits bs place count h e =
    let l : place + count ≤ length bs = leb-true (place + count) (length bs) e in
    let n : length (take count (drop place bs)) ≡ count = simp (length-take, length-drop) (omega arith) in
    subst (λ k. little (take count (drop place bs)) < 256 ^ k) n
    (little_fits (take count (drop place bs)) (All-take (λ (b : ℕ). b < 256) count (drop place bs) (All-drop (λ (b : ℕ). b < 256) place bs h)))

-- ---- rows

-- an address of the memory
abbrev pub address : Module → MemArg → Operand
address info m = typed (names_in info (imm.Mem m)).address

-- What is known of a load: it reads these bytes, and leaves a value of the type.
pub record IsLoadRow (row : ℕ) (l : Loading) (t : PrimitiveTypeInfo) : Type 0 where
  pub is_other : (m : MemArg) → integer_row (code_with row (imm.Mem m)) ≡ other (code_with row (imm.Mem m))
  pub has_type : (info : Module) (m : MemArg) →
      other_type (names_in info (imm.Mem m)) (code_with row (imm.Mem m)) ≡ Some (record { operands = address info m ∷ []; results = t ∷ [] })
  pub loads_so : (m : MemArg) → exact_row (code_with row (imm.Mem m)) ≡ Some (loads m l)

-- What is known of a store: it writes so many bytes of a value of the type.
pub record IsStoreRow (row count : ℕ) (t : PrimitiveTypeInfo) : Type 0 where
  pub is_other : (m : MemArg) → integer_row (code_with row (imm.Mem m)) ≡ other (code_with row (imm.Mem m))
  pub has_type : (info : Module) (m : MemArg) →
      other_type (names_in info (imm.Mem m)) (code_with row (imm.Mem m)) ≡ Some (record { operands = address info m ∷ typed (Some t) ∷ []; results = [] })
  pub stores_so : (m : MemArg) → exact_row (code_with row (imm.Mem m)) ≡ Some (stores m count)

module _ (context : Context) (exact : context.info.exact ≡ true) where
  -- ---- what the world answers

  pub exact_world : (s : State) → HasTypes context s → IsExact s.world
  exact_world s h = h.sound.exact (ap (λ (m : Module). m.exact) h.info_is ∙ exact)

  pub exactly_acts : (i : Instruction) (row : ExactRow) (vs : List Value) (results : List PrimitiveTypeInfo) (s : State) (h : HasTypes context s) →
      integer_row i ≡ other i → exact_row i ≡ Some row → other_types context.info i (types vs) ≡ Some results → All IsValue vs →
      act (integer_row i) vs s
      ≡ answered (exactly (exact_world s h).memories row results (map (λ v. v.number) vs) s.globals s.rest) [] s
  exactly_acts i row vs results s h own is answers hv =
      let world = exact_world s h in
      ap (λ r. act r vs s) own
      ∙ (act_at h (other i) vs results answers
      ∙ ap₂ (λ (a : Answer) (more : List Value). answered a more s)
      (ap (λ (gs : List Value). s.world.answer i vs gs s.rest) (own_is h)
      ∙ world.follows i row results vs s.globals s.rest is
      (ap (λ (m : Module). other_types m i (types vs)) h.info_is ∙ answers) hv (own_types_are h) h.global_values)
      (others_none h i vs (own_globals s)))

  pub stuck_on : (i : Instruction) (vs : List Value) (s : State) → HasTypes context s → integer_row i ≡ other i →
      other_types context.info i (types vs) ≡ None → act (integer_row i) vs s ≡ Stuck
  stuck_on i vs s h own e =
      ap (λ r. act r vs s) own
      ∙ ap (λ r. only_if (is_some r) (effect (other i) vs s)) (ap (λ (c : Context). row_types c (other i) (types vs)) (context_is h) ∙ e)

  pub same_globals : (vs : List Value) (s : State) → Ends vs (record s { globals = s.globals ++ [] }) ≡ Ends vs s
  same_globals vs s = ap (λ (gs : List Value). Ends vs (record s { globals = gs })) (append-nil s.globals)

  -- ---- loads

  -- what a value does that was loaded: nothing, or a conversion
  pub record Follows (c : Conversion) (t u : PrimitiveTypeInfo) (f : ℕ → ℕ) : Type 0 where
    pub pushes : (all : Context) (g : Frame) → check_code all (conversion_code c) (with_types (t ∷ []) g) ≡ Some (with_types (u ∷ []) g)
    pub runs : (below : List Value) (v : Value) (s : State) → HasTypes context s → IsValue v → v.type ≡ t →
        run (conversion_code c) (below ++ v ∷ []) s ≡ Ends (below ++ record { type = u; number = f v.number } ∷ []) s

  pub nothing_follows : (t : PrimitiveTypeInfo) → Follows Nothing t t (λ n. n)
  nothing_follows t = record {
    pushes = λ all g. refl;
    runs = λ below v s h i e. ap (λ (w : PrimitiveTypeInfo). Ends (below ++ record { type = w; number = v.number } ∷ []) s) e;
  }

  pub conversion_follows : (c : Conversion) (t u : PrimitiveTypeInfo) (f : ℕ → ℕ) → Converts context c t u f → Follows c t u f
  conversion_follows c t u f is = record {
    pushes = λ all g. pushed_by all (conversion_code c) t (u ∷ []) (is.takes_one all) g;
    runs = is.runs;
  }

  -- where its address is in the memory's type, the value that is made of the bytes there, or a trap
  abbrev pub loaded_by : Memories → MemArg → (count : ℕ) → PrimitiveTypeInfo → (ℕ → ℕ) → (below : List Value) → (address : ℕ) → State → Outcome
  loaded_by w m count u f below n s =
      let bytes = w.bytes s.rest m.memory in
      if nat_le (n + m.offset + count) (length bytes)
      then Ends (below ++ record { type = u; number = f (little (take count (drop (n + m.offset) bytes))) } ∷ []) s
      else Traps (met w.outside) s.globals s.rest

  module _ (side : AccessSide) (l : Loading) (t u : PrimitiveTypeInfo) (f : ℕ → ℕ) (is : IsLoadRow side.row l t) (next : Follows side.conversion t u f)
      (m : MemArg) where
    abbrev load : Instruction
    load = code_with side.row (imm.Mem m)

    pub load_takes : (all : Context) → Takes all (side_code Load side (imm.Mem m)) (address all.info m ∷ []) (u ∷ [])
    load_takes all =
        taken_pushed all (load ∷ []) (conversion_code side.conversion) (address all.info m ∷ []) (t ∷ []) (u ∷ [])
        (other_takes all load (record { operands = address all.info m ∷ []; results = t ∷ [] }) (is.is_other m) (is.has_type all.info m)) (next.pushes all)

    load_count : (info : Module) → operand_count info (integer_row load) ≡ 1
    load_count info = ap (operand_count info) (is.is_other m) ∙ ap typed_operand_count (is.has_type info m)

    load_types : (ts : List PrimitiveTypeInfo) → other_types context.info load ts ≡ (if accept (address context.info m ∷ []) ts then Some (t ∷ []) else None)
    load_types ts = ap (option_and_then (results_on ts)) (is.has_type context.info m)

    pub load_none : (s : State) → HasTypes context s → run (side_code Load side (imm.Mem m)) [] s ≡ Stuck
    load_none s h =
        ap (λ o. then_run o (run (conversion_code side.conversion)))
        (ap (λ (k : ℕ). above (take (0 - k) []) (act (integer_row load) (drop (0 - k) []) s)) (load_count s.world.info)
        ∙ ap (above []) (stuck_on load [] s h (is.is_other m) (load_types [])))

    -- on one value above others
    load_steps : (below : List Value) (v : Value) (s : State) →
        run (side_code Load side (imm.Mem m)) (below ++ v ∷ []) s
        ≡ then_run (above below (act (integer_row load) (v ∷ []) s)) (run (conversion_code side.conversion))
    load_steps below v s = ap (λ o. then_run o (run (conversion_code side.conversion))) (step_at (integer_row load) below (v ∷ []) s (load_count s.world.info))

    pub load_other : (below : List Value) (v : Value) (s : State) → HasTypes context s → accept (address context.info m ∷ []) (v.type ∷ []) ≡ false →
        run (side_code Load side (imm.Mem m)) (below ++ v ∷ []) s ≡ Stuck
    load_other below v s h e =
        load_steps below v s
        ∙ ap (λ o. then_run (above below o) (run (conversion_code side.conversion)))
        (stuck_on load (v ∷ []) s h (is.is_other m) (load_types (v.type ∷ []) ∙ ap (λ b. if b then Some (t ∷ []) else None) e))

    pub load_runs : (below : List Value) (v : Value) (s : State) (h : HasTypes context s) → IsValue v →
        accept (address context.info m ∷ []) (v.type ∷ []) ≡ true →
        run (side_code Load side (imm.Mem m)) (below ++ v ∷ []) s
        ≡ loaded_by (exact_world s h).memories m l.count u (λ n. f (of_bits t (l.extended n))) below v.number s
    load_runs below v s h i e =
        let w = (exact_world s h).memories in
        let C = run (conversion_code side.conversion) in
        load_steps below v s
        ∙ (ap (λ o. then_run (above below o) C)
        (exactly_acts load (loads m l) (v ∷ []) (t ∷ []) s h (is.is_other m) (is.loads_so m)
        (load_types (v.type ∷ []) ∙ ap (λ b. if b then Some (t ∷ []) else None) e) (All-cons IsValue v [] i (All-nil IsValue)))
        ∙ go (nat_le (v.number + m.offset + l.count) (length (w.bytes s.rest m.memory)))
        (little (take l.count (drop (v.number + m.offset) (w.bytes s.rest m.memory)))) w.outside)
      where
        go : (b : Bool) (n outside : ℕ) →
            then_run (above below (answered (within b (Gives (record { type = t; number = of_bits t (l.extended n) } ∷ []) s.globals s.rest) outside
            s.globals s.rest) [] s))
            (run (conversion_code side.conversion))
            ≡ (if b then Ends (below ++ record { type = u; number = f (of_bits t (l.extended n)) } ∷ []) s else Traps (met outside) s.globals s.rest)
        go true n outside =
            let v : Value = record { type = t; number = of_bits t (l.extended n) } in
            ap (λ o. then_run (above below o) (run (conversion_code side.conversion))) (same_globals (v ∷ []) s)
            ∙ next.runs below v s h (of_bits_fits t (l.extended n)) refl
        go false n outside = refl

  -- two loads of as many bytes, with values that are the same of every number of so many bytes
  module _ (wide : MoreGlobalsCheckAlike) (left right : AccessSide) (k l : Loading) (t r u : PrimitiveTypeInfo) (f g : ℕ → ℕ)
      (is : IsLoadRow left.row k t) (next : Follows left.conversion t u f) (its : IsLoadRow right.row l r) (behind : Follows right.conversion r u g)
      (counts : l.count ≡ k.count) (same : (n : ℕ) → n < 256 ^ k.count → f (of_bits t (k.extended n)) ≡ g (of_bits r (l.extended n)))
      (m : MemArg) (align : ℕ) where
    abbrev n : MemArg
    n = record m { align = align }

    got_same : (w : Memories) (below : List Value) (a : ℕ) (s : State) →
        loaded_by w m k.count u (λ x. f (of_bits t (k.extended x))) below a s ≡ loaded_by w n l.count u (λ x. g (of_bits r (l.extended x))) below a s
    got_same w below a s =
        let bytes = w.bytes s.rest m.memory in
        by_bound (nat_le (a + m.offset + k.count) (length bytes)) refl
        ∙ ap (λ (c : ℕ). loaded_by w n c u (λ x. g (of_bits r (l.extended x))) below a s) (sym counts)
      where
        by_bound : (b : Bool) → nat_le (a + m.offset + k.count) (length (w.bytes s.rest m.memory)) ≡ b →
            (if b then Ends (below ++ record {
              type = u;
              number =
                  f (of_bits t (k.extended (little (take k.count (drop (a + m.offset) (w.bytes s.rest m.memory))))));
            } ∷ []) s
            else Traps (met w.outside) s.globals s.rest)
            ≡ (if b then Ends (below ++ record {
              type = u;
              number =
                  g (of_bits r (l.extended (little (take k.count (drop (a + m.offset) (w.bytes s.rest m.memory))))));
            } ∷ []) s
            else Traps (met w.outside) s.globals s.rest)
        by_bound true e =
            ap (λ (x : ℕ). Ends (below ++ record { type = u; number = x } ∷ []) s)
            (same (little (take k.count (drop (a + m.offset) (w.bytes s.rest m.memory))))
            (loaded_fits (w.bytes s.rest m.memory) (a + m.offset) k.count (w.are_bytes s.rest m.memory) e))
        by_bound false e = refl

    loads_alike : (stack : List Value) (s : State) → All IsValue stack → HasTypes context s →
        run (side_code Load left (imm.Mem m)) stack s ≡ run (side_code Load right (imm.Mem n)) stack s
    loads_alike stack s hs h = go (cut_last stack)
      where
        go : (stack ≡ []) ⊎ ((below : List Value) × (v : Value) × (stack ≡ below ++ v ∷ [])) →
            run (side_code Load left (imm.Mem m)) stack s ≡ run (side_code Load right (imm.Mem n)) stack s
        go (inl e) = rw e (load_none left k t u f is next m s h ∙ sym (load_none right l r u g its behind n s h))
        go (inr (below, v, e)) = rw e (by_type (accept (address context.info m ∷ []) (v.type ∷ [])) refl)
          where
            by_type : (b : Bool) → accept (address context.info m ∷ []) (v.type ∷ []) ≡ b →
                run (side_code Load left (imm.Mem m)) (below ++ v ∷ []) s ≡ run (side_code Load right (imm.Mem n)) (below ++ v ∷ []) s
            by_type true a =
                let i : IsValue v = All-head IsValue v [] (both_all IsValue below (v ∷ []) (subst (All IsValue) e hs)).1 in
                load_runs left k t u f is next m below v s h i a
                ∙ (got_same (exact_world s h).memories below v.number s ∙ sym (load_runs right l r u g its behind n below v s h i a))
            by_type false a = load_other left k t u f is next m below v s h a ∙ sym (load_other right l r u g its behind n below v s h a)

    pub loads_stand : StandsWith context [] (side_code Load left (imm.Mem m)) (side_code Load right (imm.Mem n))
    loads_stand = record {
      runs = λ more. runs_alike context (side_code Load left (imm.Mem m)) (side_code Load right (imm.Mem n)) (λ stack s hs h q. loads_alike stack s hs h) more;
      checks = λ input more fr gr e.
          let all = wider input more context in
          load_takes right l r u g its behind n all fr
          ∙ (sym (load_takes left k t u f is next m all fr) ∙ code_wider wide input more context (side_code Load left (imm.Mem m)) fr gr e);
    }
