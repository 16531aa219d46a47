-- What every pass keeps, laps keep: a property of where a run stands, and a relation of where two runs stand.
use Rattle.std.proofs.Common.{◌≡◌, ℕ, zero, suc, Bool, true, false, List, length, ap, subst, refl, ◌∙◌}
use Rattle.std.specs.Prelude.{if◌then◌else◌}
use Rattle.wasm_code.specs.declared.operator.Operator.{Operator}
use Rattle.wasm_execution.specs.Values.{Outcome}
use Rattle.wasm_equivalence.specs.control.Function.{structural, Reached, Done, Control, pass, stands_at, visit, visits, lap, runs}

-- ---- a property

module _ (control : Control) (body : List Operator) where
  module _ (P : Reached → Type 0) (passes : (p : Reached) → P p → P (pass control body p)) where
    visit_keeps : (k : ℕ) (p : Reached) → P p → P (visit control body k p)
    visit_keeps k p h = go (stands_at p k)
      where
        go : (b : Bool) → P (if b then pass control body p else p)
        go true = passes p h
        go false = h

    visits_keep : (k : ℕ) (p : Reached) → P p → P (visits control body k p)
    visits_keep zero p h = visit_keeps 0 p h
    visits_keep (suc k) p h = visit_keeps (suc k) (visits control body k p) (visits_keep k p h)

    pub runs_keep : (fuel : ℕ) (p : Reached) → P p → P (runs control body fuel p)
    runs_keep zero p h = h
    runs_keep (suc fuel) p h = runs_keep fuel (lap control body p) (visits_keep (length (structural body)) p h)

  -- what is done stays
  pub visits_done : (k : ℕ) (o : Outcome) → visits control body k (Done o) ≡ Done o
  visits_done zero o = refl
  visits_done (suc k) o = ap (visit control body (suc k)) (visits_done k o)

  pub runs_done : (fuel : ℕ) (o : Outcome) → runs control body fuel (Done o) ≡ Done o
  runs_done zero o = refl
  runs_done (suc fuel) o = ap (runs control body fuel) (visits_done (length (structural body)) o) ∙ runs_done fuel o

-- ---- a relation

module _ (control other : Control) (body new : List Operator) (R : Reached → Reached → Type 0) where
  -- where both stand at that number or neither does
  pub visits_if : (k : ℕ) (p q : Reached) → stands_at p k ≡ stands_at q k → R p q → R (pass control body p) (pass other new q) →
      R (visit control body k p) (visit other new k q)
  visits_if k p q e h passes =
      subst (λ (b : Bool). R (if stands_at p k then pass control body p else p) (if b then pass other new q else q)) e (go (stands_at p k))
    where
      go : (b : Bool) → R (if b then pass control body p else p) (if b then pass other new q else q)
      go true = passes
      go false = h

  module _ (each : (k : ℕ) (p q : Reached) → R p q → R (visit control body k p) (visit other new k q)) where
    visits_relate : (k : ℕ) (p q : Reached) → R p q → R (visits control body k p) (visits other new k q)
    visits_relate zero p q h = each 0 p q h
    visits_relate (suc k) p q h = each (suc k) (visits control body k p) (visits other new k q) (visits_relate k p q h)

    pub runs_relate : structural body ≡ structural new → (fuel : ℕ) (p q : Reached) → R p q → R (runs control body fuel p) (runs other new fuel q)
    runs_relate e zero p q h = h
    runs_relate e (suc fuel) p q h =
        runs_relate e fuel (lap control body p) (lap other new q)
        (subst (λ (os : List Operator). R (lap control body p) (visits other new (length os) q)) e (visits_relate (length (structural body)) p q h))
