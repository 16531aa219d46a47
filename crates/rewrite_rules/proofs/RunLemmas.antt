-- Operands in holes, one after another: what each does, and what is known of it.
use Rattle.std.proofs.Common.{◌≡◌, ℕ, Bool, true, false, List, [], ◌∷◌, ◌++◌, map, refl, sym, ap, ◌∙◌, subst, append_assoc}
use Rattle.std.specs.Prelude.{◌==◌, ◌||◌, ⊤}
use Rattle.std.specs.List.{All}
use Rattle.std.proofs.lemmas.Bool.{eqb-true}
use Rattle.std.proofs.lemmas.List.Elements.{All-nil}
use Rattle.wasm_types.specs.declared.types.PrimitiveTypeInfo.{PrimitiveTypeInfo}
use Rattle.wasm_execution.specs.Values.{Value, IsValue, types, Context, State, HasTypes, Outcome, Ends, Traps, Stuck, then_run, above}
use Rattle.wasm_execution.specs.Agreement.{EndsTyped}
use Rattle.wasm_execution.specs.TypeLemmas.{then_above_typed}
use Rattle.rewrite_rules.specs.Order.{is_in, Doing}
use Rattle.rewrite_rules.proofs.EffectLemmas.{IsStill, HasEnded}

-- ---- what holds of each of a list

abbrev pub Each : (ℕ → Type 0) → List ℕ → Type 0
Each P [] = ⊤
Each P (n ∷ ns) = P n × Each P ns

pub each_in : (P : ℕ → Type 0) (ns : List ℕ) (n : ℕ) → Each P ns → is_in ns n ≡ true → P n
each_in P [] n a e = absurd cc
each_in P (m ∷ ms) n a e = go (n == m) refl e (each_in P ms n a.1)
  where
    go : (b : Bool) → (n == m) ≡ b → (b || is_in ms n) ≡ true → (is_in ms n ≡ true → P n) → P n
    go true k f rest = subst P (sym (eqb-true n m k)) a.0
    go false k f rest = rest f

pub each_append : (P : ℕ → Type 0) (ns ms : List ℕ) → Each P ns → Each P ms → Each P (ns ++ ms)
each_append P [] ms a b = b
each_append P (n ∷ ns) ms a b = (a.0, each_append P ns ms a.1 b)

pub each_front : (P : ℕ → Type 0) (ns ms : List ℕ) → Each P (ns ++ ms) → Each P ns
each_front P [] ms a = tt
each_front P (n ∷ ns) ms a = (a.0, each_front P ns ms a.1)

pub each_behind : (P : ℕ → Type 0) (ns ms : List ℕ) → Each P (ns ++ ms) → Each P ms
each_behind P [] ms a = a
each_behind P (n ∷ ns) ms a = each_behind P ns ms a.1

-- ---- runs

-- the operands with these indices, one after another
abbrev pub run_all : (ℕ → State → Outcome) → List ℕ → State → Outcome
run_all x [] s = Ends [] s
run_all x (n ∷ ns) s = then_run (x n s) (λ vs m. above vs (run_all x ns m))

pub then_then : (o : Outcome) (f g : List Value → State → Outcome) → then_run (then_run o f) g ≡ then_run o (λ vs s. then_run (f vs s) g)
then_then (Ends vs s) f g = refl
then_then (Traps c gs r) f g = refl
then_then Stuck f g = refl

pub then_is : (o : Outcome) (f g : List Value → State → Outcome) → ((vs : List Value) (s : State) → f vs s ≡ g vs s) → then_run o f ≡ then_run o g
then_is (Ends vs s) f g k = k vs s
then_is (Traps c gs r) f g k = refl
then_is Stuck f g k = refl

-- behind a run of given types
pub then_same : (context : Context) (ts : List PrimitiveTypeInfo) (o : Outcome) (f g : List Value → State → Outcome) → EndsTyped context ts o →
    ((vs : List Value) (s : State) → types vs ≡ ts → All IsValue vs → HasTypes context s → f vs s ≡ g vs s) → then_run o f ≡ then_run o g
then_same context ts (Ends vs s) f g h k = k vs s h.0 h.1 h.2
then_same context ts (Traps c gs r) f g h k = refl
then_same context ts Stuck f g h k = refl

pub then_above : (vs : List Value) (o : Outcome) (f : List Value → State → Outcome) → then_run (above vs o) f ≡ then_run o (λ us m. f (vs ++ us) m)
then_above vs (Ends us s) f = refl
then_above vs (Traps c gs r) f = refl
then_above vs Stuck f = refl

-- behind a front
pub run_append : (x : ℕ → State → Outcome) (ns ms : List ℕ) (s : State) (f : List Value → State → Outcome) →
    then_run (run_all x (ns ++ ms) s) f ≡ then_run (run_all x ns s) (λ us m. then_run (run_all x ms m) (λ ws k. f (us ++ ws) k))
run_append x [] ms s f = refl
run_append x (n ∷ ns) ms s f =
    then_then (x n s) (λ vs m. above vs (run_all x (ns ++ ms) m)) f
    ∙ (then_is (x n s) (λ vs m. then_run (above vs (run_all x (ns ++ ms) m)) f)
    (λ vs m. then_run (above vs (run_all x ns m)) (λ us k. then_run (run_all x ms k) (λ ws j. f (us ++ ws) j)))
    (λ vs m. then_above vs (run_all x (ns ++ ms) m) f
    ∙ (run_append x ns ms m (λ us k. f (vs ++ us) k)
    ∙ (then_is (run_all x ns m) (λ us k. then_run (run_all x ms k) (λ ws j. f (vs ++ (us ++ ws)) j))
    (λ us k. then_run (run_all x ms k) (λ ws j. f ((vs ++ us) ++ ws) j))
    (λ us k. then_is (run_all x ms k) (λ ws j. f (vs ++ (us ++ ws)) j) (λ ws j. f ((vs ++ us) ++ ws) j)
    (λ ws j. ap (λ y. f y j) (sym (append_assoc vs us ws))))
    ∙ sym (then_above vs (run_all x ns m) (λ us k. then_run (run_all x ms k) (λ ws j. f (us ++ ws) j))))))
    ∙ sym (then_then (x n s) (λ vs m. above vs (run_all x ns m)) (λ us m. then_run (run_all x ms m) (λ ws k. f (us ++ ws) k))))

-- one, and the rest behind it
pub run_first : (x : ℕ → State → Outcome) (n : ℕ) (ns : List ℕ) (s : State) (f : List Value → State → Outcome) →
    then_run (run_all x (n ∷ ns) s) f ≡ then_run (x n s) (λ vs m. then_run (run_all x ns m) (λ us k. f (vs ++ us) k))
run_first x n ns s f =
    then_then (x n s) (λ vs m. above vs (run_all x ns m)) f
    ∙ then_is (x n s) (λ vs m. then_run (above vs (run_all x ns m)) f)
    (λ vs m. then_run (run_all x ns m) (λ us k. f (vs ++ us) k)) (λ vs m. then_above vs (run_all x ns m) f)

-- ---- what is known of operands

-- An operand of a type: it leaves one value of it; where it writes nothing, the state stays; and where it doesn't trap, it ends.
pub record Behaves (context : Context) (t : PrimitiveTypeInfo) (x : State → Outcome) (write trap : Bool) : Type 0 where
  pub typed : (s : State) → HasTypes context s → EndsTyped context (t ∷ []) (x s)
  pub still : write ≡ false → (s : State) → HasTypes context s → IsStill s (x s)
  pub ends : trap ≡ false → (s : State) → HasTypes context s → HasEnded (x s)

module _ (context : Context) (x : ℕ → State → Outcome) (may : Doing) (τ : ℕ → PrimitiveTypeInfo) where
  abbrev pub IsGood : ℕ → Type 0
  IsGood n = Behaves context (τ n) (x n) (may.write n) (may.trap n)

  pub run_all_typed : (ns : List ℕ) (s : State) → Each IsGood ns → HasTypes context s → EndsTyped context (map τ ns) (run_all x ns s)
  run_all_typed [] s a h = (refl, All-nil IsValue, h)
  run_all_typed (n ∷ ns) s a h =
      then_above_typed context (τ n ∷ []) (map τ ns) (x n s) (λ m. run_all x ns m) (a.0.typed s h) (λ m k. run_all_typed ns m a.1 k)
