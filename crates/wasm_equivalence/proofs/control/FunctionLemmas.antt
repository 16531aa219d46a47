-- A function whose pieces run as before does what it did.
use Rattle.std.proofs.Common.{◌≡◌, ℕ, Bool, true, false, List, [], refl, sym, ap, ◌∙◌, subst}
use Rattle.std.specs.Prelude.{◌≢◌, if◌then◌else◌}
use Rattle.std.proofs.lemmas.List.Elements.{All-nil}
use Rattle.wasm_code.specs.declared.operator.Operator.{Operator}
use Rattle.wasm_types.specs.declared.types.PrimitiveTypeInfo.{PrimitiveTypeInfo}
use Rattle.wasm_execution.specs.Values.{Value, IsValue, types, Context, Outcome, Ends, Traps, Stuck}
use Rattle.wasm_execution.specs.Machine.{run}
use Rattle.wasm_execution.specs.Agreement.{with_globals}
use Rattle.wasm_execution.specs.Laws.{Keeps}
use Rattle.wasm_execution.specs.StateLemmas.{with_more}
use Rattle.wasm_execution.specs.TypeLemmas.{run_keeps}
use Rattle.wasm_equivalence.specs.control.Function.{structural, piece, Label, Reached, At, Done, Control, go_on, pass, stands_at, visit}
use Rattle.wasm_equivalence.specs.control.Function.{runs, reached_with, FollowsReached, FollowsEnd, IsTyped, IsSoundControl, RunsAs}
use Rattle.wasm_equivalence.specs.control.Function.{RunsPieceByPiece, EndsAlike}
use Rattle.wasm_equivalence.proofs.control.LapLemmas.{runs_keep, runs_relate}

module _ (context : Context) (control : Control) (sound : IsSoundControl context control) (old : List Operator) where
  -- ---- types

  go_typed : (k : ℕ) (labels : List Label) (o : Outcome) → Keeps context o → IsTyped context (go_on (control k labels) o)
  go_typed k labels (Ends vs s) t = sound.keeps k labels vs s t.0 t.1
  go_typed k labels (Traps cause gs r) t = t
  go_typed k labels Stuck t = tt

  pub pass_typed : (p : Reached) → IsTyped context p → IsTyped context (pass control old p)
  pass_typed (At k labels stack s) t = go_typed k labels (run (piece old k) stack s) (run_keeps context (piece old k) stack s t.1 t.0)
  pass_typed (Done o) t = t

  pub runs_typed : (fuel : ℕ) (p : Reached) → IsTyped context p → IsTyped context (runs control old fuel p)
  runs_typed = runs_keep control old (IsTyped context) pass_typed

  module _ (requests : List PrimitiveTypeInfo) (new : List Operator) (h : (k : ℕ) → RunsAs context requests (piece old k) (piece new k)) where
    -- ---- one piece

    go_follows : (k : ℕ) (labels : List Label) (o : Outcome) (more : List Value) → Keeps context o → go_on (control k labels) o ≢ Done Stuck →
        FollowsReached more (go_on (control k labels) o) (go_on (control k labels) (with_more more o))
    go_follows k labels (Ends vs s) more t n = sound.follows k labels vs more s t.0 t.1 n
    go_follows k labels (Traps cause gs r) more t n = (more, refl, refl)
    go_follows k labels Stuck more t n = absurd (n refl)

    pass_follows : (p : Reached) (more : List Value) → types more ≡ requests → IsTyped context p → pass control old p ≢ Done Stuck →
        FollowsReached more (pass control old p) (pass control new (reached_with more p))
    pass_follows (At k labels stack s) more e t n =
        let o = run (piece old k) stack s in
        let f = h k stack more s t.0 t.1 e (λ x. n (ap (go_on (control k labels)) x)) in
        let g = go_follows k labels o f.0 (run_keeps context (piece old k) stack s t.1 t.0) n in
        (g.0, g.1 ∙ f.1, ap (go_on (control k labels)) f.2 ∙ g.2)
    pass_follows (Done o) more e t n = (more, refl, refl)

    -- ---- all pieces

    -- unless the first is stuck, it is typed, and the second follows it
    abbrev Along : Reached → Reached → Type 0
    Along p q = p ≢ Done Stuck → IsTyped context p × (more : List Value) × (types more ≡ requests) × (q ≡ reached_with more p)

    stands_same : (k : ℕ) (p : Reached) (more : List Value) → stands_at (reached_with more p) k ≡ stands_at p k
    stands_same k (At j labels stack s) more = refl
    stands_same k (Done o) more = refl

    pub each : (k : ℕ) (p q : Reached) → Along p q → Along (visit control old k p) (visit control new k q)
    each k p q h n =
        let (t, more, e, is) = h (λ x. n (ap (visit control old k) x)) in
        subst (λ (x : Reached). IsTyped context (visit control old k p) × (after : List Value) × (types after ≡ requests) ×
        (visit control new k x ≡ reached_with after (visit control old k p))) (sym is)
        (subst (λ (b : Bool). IsTyped context (visit control old k p) × (after : List Value) × (types after ≡ requests) ×
        ((if b then pass control new (reached_with more p) else reached_with more p) ≡ reached_with after (visit control old k p)))
        (sym (stands_same k p more)) (go t more e (stands_at p k) n))
      where
        go : IsTyped context p → (more : List Value) → types more ≡ requests → (b : Bool) → (if b then pass control old p else p) ≢ Done Stuck →
            IsTyped context (if b then pass control old p else p) × (after : List Value) × (types after ≡ requests) ×
            ((if b then pass control new (reached_with more p) else reached_with more p) ≡ reached_with after (if b then pass control old p else p))
        go t more e true n = let f = pass_follows p more e t n in (pass_typed p t, f.0, f.1 ∙ e, f.2)
        go t more e false n = (t, more, e, refl)

    pub runs_follow : structural old ≡ structural new → (fuel : ℕ) (p : Reached) (more : List Value) → types more ≡ requests → IsTyped context p →
        runs control old fuel p ≢ Done Stuck → FollowsReached more (runs control old fuel p) (runs control new fuel (reached_with more p))
    runs_follow structure fuel p more e t n =
        let (u, after, f, is) = runs_relate control control old new Along each structure fuel p (reached_with more p) (λ x. (t, more, e, refl)) n in
        (after, f ∙ sym e, is)

-- the same end
pub end_of_reached : (more : List Value) (p q : Reached) → FollowsReached more p q → FollowsEnd more p q
end_of_reached more p q (after, e, is) = subst (FollowsEnd more p) (sym is) (go p)
  where
    go : (p : Reached) → FollowsEnd more p (reached_with after p)
    go (At k labels stack s) = (after, e, refl)
    go (Done o) = (after, e, refl)

-- bodies that run piece by piece as before come to the same end
pub pieces_alike : (context : Context) (requests : List PrimitiveTypeInfo) (control : List Operator → Control) (old new : List Operator) →
    IsSoundControl context (control (structural old)) → RunsPieceByPiece context requests old new →
    EndsAlike context requests (control (structural old)) (control (structural new)) old new
pieces_alike context requests control old new sound h fuel requested s typed e n =
    subst (λ (os : List Operator). FollowsEnd requested (runs (control (structural old)) old fuel (At 0 [] [] s))
    (runs (control os) new fuel (At 0 [] [] (with_globals requested s)))) h.structure
    (end_of_reached requested (runs (control (structural old)) old fuel (At 0 [] [] s))
    (runs (control (structural old)) new fuel (At 0 [] [] (with_globals requested s)))
    (runs_follow context (control (structural old)) sound old requests new h.pieces h.structure fuel (At 0 [] [] s) requested e (All-nil IsValue, typed) n))
