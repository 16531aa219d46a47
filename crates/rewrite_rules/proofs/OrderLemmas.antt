-- Operands in another order: where they may move, the two runs end alike.
use Rattle.std.proofs.Common.{◌≡◌, ℕ, Bool, true, false, List, [], ◌∷◌, ◌++◌, map, inl, inr, refl, sym, ap, ap₂, ◌∙◌, subst, arith}
use Rattle.std.specs.Prelude.{◌==◌, ◌&&◌, ◌||◌, ◌⊎◌, not, if◌then◌else◌}
use Rattle.std.specs.List.{All}
use Rattle.std.proofs.lemmas.Bool.{eqb-true, eq-eqb, and_parts, or_parts, false≢true}
use Rattle.std.proofs.lemmas.List.Elements.{All-head}
use Rattle.wasm_types.specs.declared.types.PrimitiveTypeInfo.{PrimitiveTypeInfo}
use Rattle.wasm_types.specs.declared.types.PrimitiveTypeInfo.TheVariants as primitive
use Rattle.wasm_execution.specs.Values.{Value, IsValue, IsOfType, types, Context, Cause, State, HasTypes, own_globals, Outcome, Ends, Traps}
use Rattle.wasm_execution.specs.Values.{Stuck, then_run, above}
use Rattle.rewrite_rules.specs.Order.{is_in, Doing, every, at_most_one_passes, is_twice, are_free, in_neither, back, before_end, may_move}
use Rattle.wasm_execution.specs.Agreement.{EndsTyped}
use Rattle.rewrite_rules.proofs.EffectLemmas.{IsStill, HasEnded}
use Rattle.rewrite_rules.proofs.RunLemmas.{Each, each_in, then_same, run_all, run_append, run_first, IsGood, run_all_typed}
use Rattle.rewrite_rules.proofs.IndexLemmas.{every_in, one_of, each_from, in_back, back_back, each_back}

-- ---- one operand that writes nothing

-- it traps for a cause, with the state's globals and rest
abbrev Stops : (State → Outcome) → State → Type 0
Stops x s = (cause : Cause) × (x s ≡ Traps cause (own_globals s) s.rest)

-- it leaves one value, and the state as it is
record LeavesValue (t : PrimitiveTypeInfo) (x : State → Outcome) (s : State) : Type 0 where
  value : Value
  typed : value.type ≡ t
  is_value : IsValue value
  means : x s ≡ Ends (value ∷ []) s

operand : (context : Context) (t : PrimitiveTypeInfo) (x : State → Outcome) (s : State) → EndsTyped context (t ∷ []) (x s) → IsStill s (x s) →
    LeavesValue t x s ⊎ Stops x s
operand context t x s = go (x s) refl
  where
    go : (o : Outcome) → x s ≡ o → EndsTyped context (t ∷ []) o → IsStill s o → LeavesValue t x s ⊎ Stops x s
    go (Ends [] m) k a p = absurd cc
    go (Ends (v ∷ []) m) k a p =
        inl (record { value = v; typed = cc; is_value = All-head IsValue v [] a.1; means = k ∙ ap (λ y. Ends (v ∷ []) y) p })
    go (Ends (v ∷ u ∷ us) m) k a p = absurd cc
    go (Traps c gs r) k a p = inr (c, k ∙ ap₂ (λ g q. Traps c g q) p.0 p.1)
    go Stuck k a p = absurd a

-- ---- numbers by index

-- another number at one index
abbrev with_number : (ℕ → ℕ) → ℕ → ℕ → ℕ → ℕ
with_number h n v k = if n == k then v else h k

zero_of : (t : PrimitiveTypeInfo) → IsOfType t 0
zero_of primitive.I32 = omega arith
zero_of primitive.I64 = omega arith
zero_of primitive.F32 = omega arith
zero_of primitive.F64 = omega arith
zero_of primitive.V128 = omega arith
zero_of primitive.FuncRef = tt
zero_of primitive.ExternRef = tt
zero_of primitive.Empty = tt

-- the number of one value that is left
abbrev number_left : Outcome → ℕ
number_left (Ends (v ∷ vs) s) = v.number
number_left (Ends [] s) = 0
number_left (Traps c gs r) = 0
number_left Stuck = 0

module _ (context : Context) (x : ℕ → State → Outcome) (may : Doing) (τ : ℕ → PrimitiveTypeInfo) where
  abbrev at : (ℕ → ℕ) → ℕ → Value
  at h n = record { type = τ n; number = h n }

  -- for all numbers of the operands' types, the ends are the same
  abbrev pub EndSame : List ℕ → List ℕ → (F G : List Value → State → Outcome) → Type 0
  EndSame ns ms F G = (h : ℕ → ℕ) → ((n : ℕ) → IsOfType (τ n) (h n)) → (s : State) → HasTypes context s →
      F (map (λ n. at h n) ns) s ≡ G (map (λ n. at h n) ms) s

  abbrev AreWithin : List ℕ → List ℕ → Type 0
  AreWithin ns ms = (n : ℕ) → is_in ms n ≡ true → is_in ns n ≡ true

  -- ---- operands that write nothing, of which at most one may trap

  record IsFree (ns ms : List ℕ) : Type 0 where
    still : (n : ℕ) → is_in ns n ≡ true → may.write n ≡ false
    alone : (n k : ℕ) → is_in ns n ≡ true → is_in ns k ≡ true → may.trap n ≡ true → may.trap k ≡ true → n ≡ k
    kept : (n : ℕ) → is_in ns n ≡ true → may.trap n ≡ true → is_in ms n ≡ true
    within : AreWithin ns ms

  free_of : (ns ms : List ℕ) → are_free may ns ms ≡ true → AreWithin ns ms → IsFree ns ms
  free_of ns ms e w =
      let last = every (λ n. not (may.ask n) || (not (is_twice ns n) && not (is_twice ms n))) ns in
      let left = every (λ n. is_in ms n || not (may.trap n)) ns in
      let one = at_most_one_passes may.trap ns in
      let a = and_parts (every (λ n. not (may.write n)) ns) (one && (left && last)) e in
      let b = and_parts one (left && last) a.1 in
      let d = and_parts left last b.1 in
      record {
        still = λ n i. is_not (may.write n) (every_in (λ n. not (may.write n)) ns n a.0 i);
        alone = λ n k i j p q. one_of may.trap ns n k b.0 i j p q;
        kept = λ n i p. or_not (is_in ms n) (may.trap n) p (every_in (λ n. is_in ms n || not (may.trap n)) ns n d.0 i);
        within = w;
      }
    where
      is_not : (b : Bool) → not b ≡ true → b ≡ false
      is_not true e = absurd (false≢true e)
      is_not false e = refl

      or_not : (a b : Bool) → b ≡ true → (a || not b) ≡ true → a ≡ true
      or_not true b p k = refl
      or_not false true p k = absurd cc
      or_not false false p k = absurd (false≢true p)

  within_back : (ns ms : List ℕ) → AreWithin ns ms → AreWithin (back ns) (back ms)
  within_back ns ms w n i = in_back ns n ∙ w n (sym (in_back ms n) ∙ i)

  module _ (s : State) (hs : HasTypes context s) where
    abbrev Leaves : (ℕ → ℕ) → ℕ → Type 0
    Leaves h n = x n s ≡ Ends (at h n ∷ []) s

    all_leave : (h : ℕ → ℕ) (ns : List ℕ) → Each (Leaves h) ns → run_all x ns s ≡ Ends (map (λ n. at h n) ns) s
    all_leave h [] a = refl
    all_leave h (n ∷ ns) a =
        ap (λ o. then_run o (λ vs m. above vs (run_all x ns m))) a.0 ∙ ap (above (at h n ∷ [])) (all_leave h ns a.1)

    stops_at : (h : ℕ → ℕ) (k : ℕ) (ns : List ℕ) (p : Stops (x k) s) → is_in ns k ≡ true →
        ((n : ℕ) → is_in ns n ≡ true → (n ≡ k) ⊎ Leaves h n) → run_all x ns s ≡ Traps p.0 (own_globals s) s.rest
    stops_at h k [] p i d = absurd cc
    stops_at h k (n ∷ ns) p i d =
        go (k == n) refl i (d n (ap (λ b. b || is_in ns n) (eq-eqb n n refl))) (λ j. stops_at h k ns p j (λ m l. d m (or_second (m == n) (is_in ns m) l)))
      where
        or_second : (a b : Bool) → b ≡ true → (a || b) ≡ true
        or_second true b e = refl
        or_second false b e = e

        traps : n ≡ k → run_all x (n ∷ ns) s ≡ Traps p.0 (own_globals s) s.rest
        traps e = ap (λ o. then_run o (λ vs m. above vs (run_all x ns m))) (ap (λ j. x j s) e ∙ p.1)

        go : (b : Bool) → (k == n) ≡ b → (b || is_in ns k) ≡ true → (n ≡ k) ⊎ Leaves h n →
            (is_in ns k ≡ true → run_all x ns s ≡ Traps p.0 (own_globals s) s.rest) → run_all x (n ∷ ns) s ≡ Traps p.0 (own_globals s) s.rest
        go true e i w rest = traps (sym (eqb-true k n e))
        go false e i (inl w) rest = traps w
        go false e i (inr w) rest = ap (λ o. then_run o (λ vs m. above vs (run_all x ns m))) w ∙ ap (above (at h n ∷ [])) (rest i)

    -- the number of each operand that leaves one
    numbers : List ℕ → ℕ → ℕ
    numbers ns n = if is_in ns n then number_left (x n s) else 0

    -- what is known of an operand
    record Known (ns : List ℕ) (n : ℕ) : Type 0 where
      fits : IsOfType (τ n) (numbers ns n)
      outcome : Leaves (numbers ns) n ⊎ Stops (x n) s

    known : (ns : List ℕ) (n : ℕ) → is_in ns n ≡ true → IsGood context x may τ n → may.write n ≡ false → Known ns n
    unfolding numbers
    known ns n i typed still = go (operand context (τ n) (x n) s (typed.typed s hs) (typed.still still s hs))
      where
        number_is : numbers ns n ≡ number_left (x n s)
        number_is = ap (λ b. if b then number_left (x n s) else 0) i

        go : LeavesValue (τ n) (x n) s ⊎ Stops (x n) s → Known ns n
        go (inl l) =
            let same : numbers ns n ≡ l.value.number = number_is ∙ ap number_left (l.means) in
            record {
              fits = subst (IsOfType (τ n)) (sym same) (subst (λ (t : PrimitiveTypeInfo). IsOfType t l.value.number) l.typed l.is_value);
              outcome = inl (l.means ∙ ap₂ (λ (t : PrimitiveTypeInfo) (m : ℕ). Ends (record { type = t; number = m } ∷ []) s) l.typed (sym same));
            }
        go (inr p) = record {
          fits = subst (IsOfType (τ n)) (sym (number_is ∙ ap number_left (p.1))) (zero_of (τ n));
          outcome = inr p;
        }

    fitting : (ns : List ℕ) → Each (Known ns) ns → (n : ℕ) → IsOfType (τ n) (numbers ns n)
    unfolding numbers
    fitting ns a n = go (is_in ns n) refl
      where
        go : (b : Bool) → is_in ns n ≡ b → IsOfType (τ n) (numbers ns n)
        go true e = (each_in (Known ns) ns n a e).fits
        go false e = subst (λ b. IsOfType (τ n) (if b then number_left (x n s) else 0)) (sym e) (zero_of (τ n))

    -- all leave a value, or one stops
    all_or_one : (h : ℕ → ℕ) (ns : List ℕ) → Each (λ n. Leaves h n ⊎ Stops (x n) s) ns →
        Each (Leaves h) ns ⊎ ((k : ℕ) × (is_in ns k ≡ true) × Stops (x k) s)
    all_or_one h [] a = inl tt
    all_or_one h (n ∷ ns) a = go a.0 (all_or_one h ns a.1)
      where
        or_second : (a b : Bool) → b ≡ true → (a || b) ≡ true
        or_second true b e = refl
        or_second false b e = e

        go : Leaves h n ⊎ Stops (x n) s → Each (Leaves h) ns ⊎ ((k : ℕ) × (is_in ns k ≡ true) × Stops (x k) s) →
            Each (Leaves h) (n ∷ ns) ⊎ ((k : ℕ) × (is_in (n ∷ ns) k ≡ true) × Stops (x k) s)
        go (inr p) r = inr (n, ap (λ b. b || is_in ns n) (eq-eqb n n refl), p)
        go (inl l) (inl r) = inl (l, r)
        go (inl l) (inr (k, i, p)) = inr (k, or_second (k == n) (is_in ns k) i, p)

    may_stop : (n : ℕ) → IsGood context x may τ n → Stops (x n) s → may.trap n ≡ true
    may_stop n typed p = go (may.trap n) refl
      where
        go : (b : Bool) → may.trap n ≡ b → b ≡ true
        go true e = refl
        go false e = absurd (subst HasEnded p.1 (typed.ends e s hs))

    free_same : (ns ms : List ℕ) → IsFree ns ms → Each (IsGood context x may τ) ns → (F G : List Value → State → Outcome) → EndSame ns ms F G →
        then_run (run_all x ns s) F ≡ then_run (run_all x ms s) G
    free_same ns ms f good F G same = go (all_or_one (numbers ns) ns (each_from (λ n. Leaves (numbers ns) n ⊎ Stops (x n) s) ns
        (λ n i. (each_in (Known ns) ns n all i).outcome)))
      where
        typed : (n : ℕ) → is_in ns n ≡ true → IsGood context x may τ n
        typed n i = each_in (IsGood context x may τ) ns n good i

        all : Each (Known ns) ns
        all = each_from (Known ns) ns (λ n i. known ns n i (typed n i) (f.still n i))

        go : Each (Leaves (numbers ns)) ns ⊎ ((k : ℕ) × (is_in ns k ≡ true) × Stops (x k) s) →
            then_run (run_all x ns s) F ≡ then_run (run_all x ms s) G
        go (inl a) =
            ap (λ o. then_run o F) (all_leave (numbers ns) ns a)
            ∙ (same (numbers ns) (fitting ns all) s hs
            ∙ sym (ap (λ o. then_run o G) (all_leave (numbers ns) ms
            (each_from (Leaves (numbers ns)) ms (λ n i. each_in (Leaves (numbers ns)) ns n a (f.within n i))))))
        go (inr (k, i, p)) =
            let traps = may_stop k (typed k i) p in
            ap (λ o. then_run o F) (stops_at (numbers ns) k ns p i (λ n j. other n j traps))
            ∙ sym (ap (λ o. then_run o G) (stops_at (numbers ns) k ms p (f.kept k i traps) (λ n j. other n (f.within n j) traps)))
          where
            other : (n : ℕ) → is_in ns n ≡ true → may.trap k ≡ true → (n ≡ k) ⊎ Leaves (numbers ns) n
            other n j t = at_n (each_in (Known ns) ns n all j).outcome
              where
                at_n : Leaves (numbers ns) n ⊎ Stops (x n) s → (n ≡ k) ⊎ Leaves (numbers ns) n
                at_n (inl l) = inr l
                at_n (inr q) = inl (f.alone n k j i (may_stop n (typed n j) q) t)

  -- ---- those that stand in the same place on both sides

  -- another number at an index that does not stand there changes nothing
  with_other : (h : ℕ → ℕ) (n v : ℕ) (ns : List ℕ) → is_in ns n ≡ false → map (λ k. at (with_number h n v) k) ns ≡ map (λ k. at h k) ns
  with_other h n v [] e = refl
  with_other h n v (k ∷ ns) e =
      let p = or_parts (n == k) (is_in ns n) e in
      ap₂ (λ y ys. y ∷ ys) (ap (λ b. at (λ j. if b then v else h k) k) p.0) (with_other h n v ns p.1)

  with_this : (h : ℕ → ℕ) (n v : ℕ) → at (with_number h n v) n ≡ record { type = τ n; number = v }
  with_this h n v = ap (λ b. at (λ j. if b then v else h n) n) (eq-eqb n n refl)

  with_fits : (h : ℕ → ℕ) (n v : ℕ) → ((k : ℕ) → IsOfType (τ k) (h k)) → IsOfType (τ n) v → (k : ℕ) → IsOfType (τ k) (with_number h n v k)
  with_fits h n v f g k = go (n == k) refl
    where
      go : (b : Bool) → (n == k) ≡ b → IsOfType (τ k) (if b then v else h k)
      go true e = subst (λ j. IsOfType (τ j) v) (eqb-true n k e) g
      go false e = f k

  -- a value of an operand's type is that of a number
  value_is : (n : ℕ) (v : Value) → v.type ≡ τ n → record { type = τ n; number = v.number } ≡ v
  value_is n v e = ap (λ (t : PrimitiveTypeInfo). record { type = t; number = v.number }) (sym e)

  map_append : (h : ℕ → ℕ) (ns ms : List ℕ) → map (λ n. at h n) (ns ++ ms) ≡ map (λ n. at h n) ns ++ map (λ n. at h n) ms
  map_append h [] ms = refl
  map_append h (n ∷ ns) ms = ap (λ xs. at h n ∷ xs) (map_append h ns ms)

  neither : (ns ms : List ℕ) (n : ℕ) → in_neither ns ms n ≡ true → (is_in ns n ≡ false) × (is_in ms n ≡ false)
  neither ns ms n e =
      let p = and_parts (not (is_in ns n)) (not (is_in ms n)) e in
      (is_not (is_in ns n) p.0, is_not (is_in ms n) p.1)
    where
      is_not : (b : Bool) → not b ≡ true → b ≡ false
      is_not true e = absurd (false≢true e)
      is_not false e = refl

  within_rest : (n : ℕ) (ns ms : List ℕ) → is_in ms n ≡ false → AreWithin (n ∷ ns) (n ∷ ms) → AreWithin ns ms
  within_rest n ns ms e w k i = go (k == n) refl (w k (or_second (k == n) (is_in ms k) i))
    where
      or_second : (a b : Bool) → b ≡ true → (a || b) ≡ true
      or_second true b e = refl
      or_second false b e = e

      go : (b : Bool) → (k == n) ≡ b → (b || is_in ns k) ≡ true → is_in ns k ≡ true
      go true q j = absurd (false≢true (sym e ∙ (ap (is_in ms) (sym (eqb-true k n q)) ∙ i)))
      go false q j = j

  -- one operand more behind both
  same_behind : (n : ℕ) (ns ms : List ℕ) (F G : List Value → State → Outcome) → Each (IsGood context x may τ) (n ∷ []) →
      is_in ns n ≡ false → is_in ms n ≡ false →
      EndSame (ns ++ n ∷ []) (ms ++ n ∷ []) F G →
      EndSame ns ms (λ us m. then_run (run_all x (n ∷ []) m) (λ ws k. F (us ++ ws) k)) (λ us m. then_run (run_all x (n ∷ []) m) (λ ws k. G (us ++ ws) k))
  same_behind n ns ms F G good a b same h f s hs =
      then_same context (τ n ∷ []) (run_all x (n ∷ []) s) (λ ws k. F (map (λ j. at h j) ns ++ ws) k) (λ ws k. G (map (λ j. at h j) ms ++ ws) k)
      (run_all_typed context x may τ (n ∷ []) s good hs) go
    where
      list : (v : Value) (ls : List ℕ) → v.type ≡ τ n → is_in ls n ≡ false →
          map (λ j. at (with_number h n v.number) j) (ls ++ n ∷ []) ≡ map (λ j. at h j) ls ++ (v ∷ [])
      list v ls e i =
          map_append (with_number h n v.number) ls (n ∷ [])
          ∙ ap₂ (λ p q. p ++ (q ∷ [])) (with_other h n v.number ls i) (with_this h n v.number ∙ value_is n v e)

      go : (ws : List Value) (k : State) → types ws ≡ τ n ∷ [] → All IsValue ws → HasTypes context k →
          F (map (λ j. at h j) ns ++ ws) k ≡ G (map (λ j. at h j) ms ++ ws) k
      go [] k e hv hk = absurd cc
      go (v ∷ w ∷ ws) k e hv hk = absurd cc
      go (v ∷ []) k e hv hk =
          let t : v.type ≡ τ n = cc in
          ap (λ l. F l k) (sym (list v ns t a))
          ∙ (same (with_number h n v.number)
          (with_fits h n v.number f (subst (λ (y : PrimitiveTypeInfo). IsOfType y v.number) t (All-head IsValue v [] hv))) k hk
          ∙ ap (λ l. G l k) (list v ms t b))

  -- lists with the last one first
  ended : (ns ms : List ℕ) → before_end may ns ms ≡ true → AreWithin ns ms → Each (IsGood context x may τ) ns → (F G : List Value → State → Outcome) →
      EndSame (back ns) (back ms) F G → (s : State) → HasTypes context s → then_run (run_all x (back ns) s) F ≡ then_run (run_all x (back ms) s) G
  ended [] ms e w good F G same s hs =
      free_same s hs [] (back ms) (free_of [] (back ms) e (within_back [] ms w)) tt F G same
  ended (n ∷ ns) [] e w good F G same s hs =
      free_same s hs (back (n ∷ ns)) [] (free_of (back (n ∷ ns)) [] e (within_back (n ∷ ns) [] w)) (each_back (IsGood context x may τ) (n ∷ ns) good) F G same
  ended (n ∷ ns) (m ∷ ms) e w good F G same s hs =
      go (n == m && in_neither ns ms n) refl e (λ a b d F G same s hs. ended ns ms a b d F G same s hs)
    where
      go : (b : Bool) → (n == m && in_neither ns ms n) ≡ b → (if b then before_end may ns ms else are_free may (back (n ∷ ns)) (back (m ∷ ms))) ≡ true →
          (before_end may ns ms ≡ true → AreWithin ns ms → Each (IsGood context x may τ) ns → (F G : List Value → State → Outcome) →
          EndSame (back ns) (back ms) F G → (s : State) → HasTypes context s → then_run (run_all x (back ns) s) F ≡ then_run (run_all x (back ms) s) G) →
          then_run (run_all x (back (n ∷ ns)) s) F ≡ then_run (run_all x (back (m ∷ ms)) s) G
      go false k e rest =
          free_same s hs (back (n ∷ ns)) (back (m ∷ ms)) (free_of (back (n ∷ ns)) (back (m ∷ ms)) e (within_back (n ∷ ns) (m ∷ ms) w))
          (each_back (IsGood context x may τ) (n ∷ ns) good) F G same
      go true k e rest =
          let p = and_parts (n == m) (in_neither ns ms n) k in
          let is : n ≡ m = eqb-true n m p.0 in
          let q = neither ns ms n p.1 in
          let within : AreWithin (n ∷ ns) (n ∷ ms) = subst (λ j. AreWithin (n ∷ ns) (j ∷ ms)) (sym is) w in
          let ends : EndSame (back ns ++ n ∷ []) (back ms ++ n ∷ []) F G =
          subst (λ j. EndSame (back ns ++ n ∷ []) (back ms ++ j ∷ []) F G) (sym is) same in
          subst (λ j. then_run (run_all x (back ns ++ n ∷ []) s) F ≡ then_run (run_all x (back ms ++ j ∷ []) s) G) is
          (run_append x (back ns) (n ∷ []) s F
          ∙ (rest e (within_rest n ns ms q.1 within) good.1 (λ us m. then_run (run_all x (n ∷ []) m) (λ ws k. F (us ++ ws) k))
          (λ us m. then_run (run_all x (n ∷ []) m) (λ ws k. G (us ++ ws) k))
          (same_behind n (back ns) (back ms) F G (good.0, tt) (in_back ns n ∙ q.0) (in_back ms n ∙ q.1) ends) s hs
          ∙ sym (run_append x (back ms) (n ∷ []) s G)))

  -- one operand more before both
  same_before : (n : ℕ) (v : Value) (ns ms : List ℕ) (F G : List Value → State → Outcome) → v.type ≡ τ n → IsValue v → is_in ns n ≡ false → is_in ms n ≡ false →
      EndSame (n ∷ ns) (n ∷ ms) F G → EndSame ns ms (λ us m. F (v ∷ us) m) (λ us m. G (v ∷ us) m)
  same_before n v ns ms F G t hv a b same h f s hs =
      ap (λ l. F l s) (sym (list ns a))
      ∙ (same (with_number h n v.number) (with_fits h n v.number f (subst (λ (y : PrimitiveTypeInfo). IsOfType y v.number) t hv)) s hs
      ∙ ap (λ l. G l s) (list ms b))
    where
      list : (ls : List ℕ) → is_in ls n ≡ false → map (λ j. at (with_number h n v.number) j) (n ∷ ls) ≡ v ∷ map (λ j. at h j) ls
      list ls i = ap₂ (λ p q. p ∷ q) (with_this h n v.number ∙ value_is n v t) (with_other h n v.number ls i)

  turned_back : (ns ms : List ℕ) → before_end may (back ns) (back ms) ≡ true → AreWithin ns ms → Each (IsGood context x may τ) ns →
      (F G : List Value → State → Outcome) → EndSame ns ms F G → (s : State) → HasTypes context s →
      then_run (run_all x ns s) F ≡ then_run (run_all x ms s) G
  turned_back ns ms e w good F G same s hs =
      subst (λ l. then_run (run_all x l s) F ≡ then_run (run_all x ms s) G) (back_back ns)
      (subst (λ l. then_run (run_all x (back (back ns)) s) F ≡ then_run (run_all x l s) G) (back_back ms)
      (ended (back ns) (back ms) e (λ n i. in_back ns n ∙ w n (sym (in_back ms n) ∙ i)) (each_back (IsGood context x may τ) ns good) F G
      (subst (λ l. EndSame l (back (back ms)) F G) (sym (back_back ns)) (subst (λ l. EndSame ns l F G) (sym (back_back ms)) same)) s hs))

  pub moved : (ns ms : List ℕ) → may_move may ns ms ≡ true → AreWithin ns ms → Each (IsGood context x may τ) ns → (F G : List Value → State → Outcome) →
      EndSame ns ms F G → (s : State) → HasTypes context s → then_run (run_all x ns s) F ≡ then_run (run_all x ms s) G
  moved [] ms e w good F G same s hs = turned_back [] ms e w good F G same s hs
  moved (n ∷ ns) [] e w good F G same s hs = turned_back (n ∷ ns) [] e w good F G same s hs
  moved (n ∷ ns) (m ∷ ms) e w good F G same s hs =
      go (n == m && in_neither ns ms n) refl e (λ a b d F G same s hs. moved ns ms a b d F G same s hs)
    where
      go : (b : Bool) → (n == m && in_neither ns ms n) ≡ b → (if b then may_move may ns ms else before_end may (back (n ∷ ns)) (back (m ∷ ms))) ≡ true →
          (may_move may ns ms ≡ true → AreWithin ns ms → Each (IsGood context x may τ) ns → (F G : List Value → State → Outcome) →
          EndSame ns ms F G → (s : State) → HasTypes context s → then_run (run_all x ns s) F ≡ then_run (run_all x ms s) G) →
          then_run (run_all x (n ∷ ns) s) F ≡ then_run (run_all x (m ∷ ms) s) G
      go false k e rest = turned_back (n ∷ ns) (m ∷ ms) e w good F G same s hs
      go true k e rest =
          let p = and_parts (n == m) (in_neither ns ms n) k in
          let is : n ≡ m = eqb-true n m p.0 in
          let q = neither ns ms n p.1 in
          let within : AreWithin (n ∷ ns) (n ∷ ms) = subst (λ j. AreWithin (n ∷ ns) (j ∷ ms)) (sym is) w in
          let ends : EndSame (n ∷ ns) (n ∷ ms) F G = subst (λ j. EndSame (n ∷ ns) (j ∷ ms) F G) (sym is) same in
          subst (λ j. then_run (run_all x (n ∷ ns) s) F ≡ then_run (run_all x (j ∷ ms) s) G) is
          (run_first x n ns s F
          ∙ (then_same context (τ n ∷ []) (x n s) (λ vs m. then_run (run_all x ns m) (λ us k. F (vs ++ us) k))
          (λ vs m. then_run (run_all x ms m) (λ us k. G (vs ++ us) k)) (good.0.typed s hs)
          (λ vs m t hv hm. each_value vs m t hv hm (within_rest n ns ms q.1 within) q ends)
          ∙ sym (run_first x n ms s G)))
        where
          each_value : (vs : List Value) (m : State) → types vs ≡ τ n ∷ [] → All IsValue vs → HasTypes context m → AreWithin ns ms →
              (is_in ns n ≡ false) × (is_in ms n ≡ false) → EndSame (n ∷ ns) (n ∷ ms) F G →
              then_run (run_all x ns m) (λ us k. F (vs ++ us) k) ≡ then_run (run_all x ms m) (λ us k. G (vs ++ us) k)
          each_value [] m t hv hm wi q ends = absurd cc
          each_value (v ∷ y ∷ vs) m t hv hm wi q ends = absurd cc
          each_value (v ∷ []) m t hv hm wi q ends =
              rest e wi good.1 (λ us k. F (v ∷ us) k) (λ us k. G (v ∷ us) k)
              (same_before n v ns ms F G (cc) (All-head IsValue v [] hv) q.0 q.1 ends) m hm
