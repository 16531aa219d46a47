-- Code that pushes a number that is alike, in a way that is given: the other way round, one after another, and with more behind.
use Rattle.std.proofs.Common.{◌≡◌, ℕ, ◌-◌, List, [], ◌∷◌, ◌++◌, length, take, refl, sym, ap, ap₂, ◌∙◌, subst}
use Rattle.std.specs.Prelude.{◌≢◌}
use Rattle.std.specs.List.{All}
use Rattle.std.proofs.lemmas.List.Elements.{All-head}
use Rattle.wasm_code.specs.Instruction.{Instruction}
use Rattle.wasm_types.specs.declared.types.PrimitiveTypeInfo.{PrimitiveTypeInfo}
use Rattle.wasm_types.specs.declared.types.PrimitiveTypeInfo.TheVariants as primitive
use Rattle.wasm_execution.specs.Agreement.{EndsTyped}
use Rattle.wasm_execution.specs.Machine.{run}
use Rattle.wasm_execution.specs.OutcomeLemmas.{run_append}
use Rattle.wasm_execution.specs.Values.{Value, IsValue, types, Context, State, HasTypes, Outcome, Ends, Traps, Stuck, then_run, above}
use Rattle.wasm_equivalence.specs.control.Standard.{last_of}
use Rattle.wasm_equivalence.specs.validation.Sound.{ValidCodeRuns}
use Rattle.wasm_equivalence.specs.validation.StaysValid.{Pushes}
use Rattle.wrapped_code.specs.Alike.{AreAs, SameAs}
use Rattle.wrapped_code.specs.Ways.{IsAlone}
use Rattle.wrapped_code.proofs.OverLemmas.{never_stuck}
use Rattle.wrapped_code.proofs.ValueLemmas.{last_is, front_is}

-- the values below the last one, and that one
same_ends : (xs ys : List Value) (v w : Value) → xs ++ v ∷ [] ≡ ys ++ w ∷ [] → (xs ≡ ys) × (v ≡ w)
same_ends xs ys v w e = (
  sym (front_is xs v) ∙ (ap (λ (zs : List Value). take (length zs - 1) zs) e ∙ front_is ys w),
  one_is v w (sym (last_is xs v) ∙ (ap (last_of 1) e ∙ last_is ys w)),
)
  where
    one_is : (v w : Value) → ◌≡◌ {A = List Value} (v ∷ []) (w ∷ []) → v ≡ w
    one_is v w e = cc

module _ (Alike : ℕ → ℕ → Type 0) where
  -- ---- the other way round

  flip : ((n k : ℕ) → Alike n k → Alike k n) → (o p : Outcome) → AreAs Alike o p → AreAs Alike p o
  flip turn (Ends vs s) (Ends us t) (w, e) = (
    record {
      below = w.below;
      one = w.other;
      other = w.one;
      first_is = w.second_is;
      second_is = w.first_is;
      one_type = w.other_type;
      other_type = w.one_type;
      alike = turn w.one.number w.other.number w.alike;
    },
    sym e,
  )
  flip turn (Ends vs s) (Traps cause gs r) h = absurd h
  flip turn (Ends vs s) Stuck h = absurd h
  flip turn (Traps cause gs r) (Ends us t) h = absurd h
  flip turn (Traps cause gs r) (Traps other hs q) (a, b, c) = (sym a, sym b, sym c)
  flip turn (Traps cause gs r) Stuck h = absurd h
  flip turn Stuck p h = absurd h

  pub same_turned : ((n k : ℕ) → Alike n k → Alike k n) → ValidCodeRuns → (context : Context) (own code : List Instruction) →
      Pushes context own [] (primitive.I32 ∷ []) → SameAs Alike context own code → SameAs Alike context code own
  same_turned turn valid context own code pushes same stack s a t free =
      flip turn (run own stack s) (run code stack s) (same stack s a t (never_stuck valid context own (primitive.I32 ∷ []) pushes stack s t))

  -- ---- one after another

  never_so : (o p : Outcome) → AreAs Alike o p → p ≢ Stuck
  never_so o p h e = none o (subst (AreAs Alike o) e h)
    where
      none : (o : Outcome) → AreAs Alike o Stuck → ⊥
      none (Ends vs s) h = h
      none (Traps cause gs r) h = h
      none Stuck h = h

  join : ((n k i : ℕ) → Alike n k → Alike k i → Alike n i) → (o p q : Outcome) → AreAs Alike o p → AreAs Alike p q → AreAs Alike o q
  join after (Ends vs s) (Ends us t) (Ends ws u) (x, d) (y, e) =
      let same = same_ends x.below y.below x.other y.one (sym x.second_is ∙ y.first_is) in (
        record {
          below = x.below;
          one = x.one;
          other = y.other;
          first_is = x.first_is;
          second_is = y.second_is ∙ ap (λ (zs : List Value). zs ++ y.other ∷ []) (sym same.0);
          one_type = x.one_type;
          other_type = y.other_type;
          alike = after x.one.number x.other.number y.other.number x.alike
              (subst (λ (v : Value). Alike v.number y.other.number) (sym same.1) y.alike);
        },
        e ∙ d,
      )
  join after (Ends vs s) (Ends us t) (Traps cause gs r) x y = absurd y
  join after (Ends vs s) (Ends us t) Stuck x y = absurd y
  join after (Ends vs s) (Traps cause gs r) q x y = absurd x
  join after (Ends vs s) Stuck q x y = absurd x
  join after (Traps cause gs r) (Ends us t) q x y = absurd x
  join after (Traps cause gs r) (Traps other hs k) (Ends ws u) x y = absurd y
  join after (Traps cause gs r) (Traps other hs k) (Traps third is l) (a, b, c) (d, e, f) = (d ∙ a, e ∙ b, f ∙ c)
  join after (Traps cause gs r) (Traps other hs k) Stuck x y = absurd y
  join after (Traps cause gs r) Stuck q x y = absurd x
  join after Stuck p q x y = absurd x

  pub same_follows : ((n k i : ℕ) → Alike n k → Alike k i → Alike n i) → (context : Context) (x y z : List Instruction) →
      SameAs Alike context x y → SameAs Alike context y z → SameAs Alike context x z
  same_follows after context x y z first second stack s a t free =
      let h = first stack s a t free in
      join after (run x stack s) (run y stack s) (run z stack s) h (second stack s a t (never_so (run x stack s) (run y stack s) h))

  -- ---- more behind

  -- above that stack the code makes of the value a number of 32 bits that is alike, and changes nothing else
  pub record Turns (code : List Instruction) (stack : List Value) (v : Value) (s : State) : Type 0 where
    pub other : Value
    pub typed : other.type ≡ primitive.I32
    pub alike : Alike v.number other.number
    pub gives : run code (stack ++ v ∷ []) s ≡ Ends (stack ++ other ∷ []) s

  -- what the instructions push is turned so by the code behind them
  pub behind : (context : Context) (own code : List Instruction) (alone : IsAlone context primitive.I32 own) →
      ((stack : List Value) (v : Value) (s u : State) → All IsValue stack → HasTypes context s → alone.does s ≡ Ends (v ∷ []) u → v.type ≡ primitive.I32 →
      IsValue v → HasTypes context u → Turns code stack v u) → SameAs Alike context own (own ++ code)
  behind context own code alone turns stack s a t free =
      let is : run own stack s ≡ above stack (alone.does s) = alone.gives stack s a t in
      subst (λ (x : Outcome × Outcome). AreAs Alike x.0 x.1)
      (ap₂ (λ (x y : Outcome). (x, y)) (sym is) (sym (run_append own code stack s ∙ ap (λ (o : Outcome). then_run o (run code)) is)))
      (go (alone.does s) refl (alone.typed s t))
    where
      go : (o : Outcome) → alone.does s ≡ o → EndsTyped context (primitive.I32 ∷ []) o → AreAs Alike (above stack o) (then_run (above stack o) (run code))
      go (Ends [] u) e h = let z : ◌≡◌ {A = List PrimitiveTypeInfo} [] (primitive.I32 ∷ []) = h.0 in absurd cc
      go (Ends (v ∷ []) u) e h =
          let z : ◌≡◌ {A = List PrimitiveTypeInfo} (v.type ∷ []) (primitive.I32 ∷ []) = h.0 in
          let type_is : v.type ≡ primitive.I32 = cc in
          let turn = turns stack v s u a t e type_is (All-head IsValue v [] h.1) h.2 in
          subst (AreAs Alike (Ends (stack ++ v ∷ []) u)) (sym turn.gives) (
            record {
              below = stack;
              one = v;
              other = turn.other;
              first_is = refl;
              second_is = refl;
              one_type = type_is;
              other_type = turn.typed;
              alike = turn.alike;
            },
            refl,
          )
      go (Ends (v ∷ w ∷ vs) u) e h =
          let z : ◌≡◌ {A = List PrimitiveTypeInfo} (v.type ∷ w.type ∷ types vs) (primitive.I32 ∷ []) = h.0 in absurd cc
      go (Traps cause gs r) e h = (refl, refl, refl)
      go Stuck e h = absurd h
