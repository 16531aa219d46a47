-- Laps are passes, and lose none.
use Rattle.std.proofs.Common.{◌≡◌, ℕ, zero, suc, ◌+◌, ◌-◌, ◌<◌, ◌≤◌, Bool, true, false, List, length, refl, sym, ap, ◌∙◌, subst, arith, inl, inr}
use Rattle.std.specs.Prelude.{◌⊎◌, if◌then◌else◌}
use Rattle.std.proofs.lemmas.Bool.{eq-eqb, cases_lt, true≢false}
use Rattle.wasm_code.specs.declared.operator.Operator.{Operator}
use Rattle.wasm_execution.specs.Values.{Outcome}
use Rattle.wasm_equivalence.specs.control.Function.{structural, Reached, At, Done, Control, pass, stands_at, visit, visits, lap, runs, passes}

module _ (control : Control) (body : List Operator) where
  passes_done : (n : ℕ) (o : Outcome) → passes control body n (Done o) ≡ Done o
  passes_done zero o = refl
  passes_done (suc n) o = passes_done n o

  passes_more : (n : ℕ) (p : Reached) → pass control body (passes control body n p) ≡ passes control body (suc n) p
  passes_more zero p = refl
  passes_more (suc n) p = passes_more n (pass control body p)

  passes_add : (n m k : ℕ) (p : Reached) → k ≡ n + m → passes control body m (passes control body n p) ≡ passes control body k p
  passes_add zero m k p e = ap (λ i. passes control body i p) (let x : m ≡ k = omega arith in x)
  passes_add (suc n) m zero p e = absurd (omega arith)
  passes_add (suc n) m (suc k) p e = passes_add n m k (pass control body p) (omega arith)

  -- not behind that piece
  abbrev pub Within : ℕ → Reached → Type 0
  Within k (At i labels stack s) = i ≤ k
  Within k (Done o) = ⊥

  record Visited (k : ℕ) (p : Reached) : Type 0 where
    number : ℕ
    is : visits control body k p ≡ passes control body number p
    some : Within k p → 0 < number

  visit_passes : (k : ℕ) (p : Reached) (n : ℕ) (b : Bool) → stands_at (passes control body n p) k ≡ b →
      visit control body k (passes control body n p) ≡ (if b then passes control body (suc n) p else passes control body n p)
  visit_passes k p n b e =
      ap (λ (b : Bool). if b then pass control body (passes control body n p) else passes control body n p) e ∙
      ap (λ (q : Reached). if b then q else passes control body n p) (passes_more n p)

  stands_there : (k : ℕ) (p : Reached) → Within k p → (Within k p → (i : ℕ) → i < k → Within i p → ⊥) → stands_at p k ≡ true
  stands_there k (Done o) w h = absurd w
  stands_there k (At i labels stack s) w h = elim (cases_lt i k) [
    | inl l ↦ absurd (h w i l (omega arith))
    | inr l ↦ eq-eqb i k (omega arith)
  ]

  below_or_at : (k : ℕ) (p : Reached) → Within (suc k) p → (Within k p) ⊎ (stands_at p (suc k) ≡ true)
  below_or_at k (Done o) w = absurd w
  below_or_at k (At i labels stack s) w = elim (cases_lt k i) [
    | inl l ↦ inr (eq-eqb i (suc k) (omega arith))
    | inr l ↦ inl l
  ]

  at_zero : (p : Reached) → Within 0 p → stands_at p 0 ≡ true
  at_zero (At i labels stack s) w = eq-eqb i 0 (omega arith)
  at_zero (Done o) w = absurd w

  visited : (k : ℕ) (p : Reached) → Visited k p
  visited zero p = go (stands_at p 0) refl
    where
      go : (b : Bool) → stands_at p 0 ≡ b → Visited 0 p
      go true e = record { number = 1; is = visit_passes 0 p 0 true e; some = λ w. omega arith }
      go false e = record { number = 0; is = visit_passes 0 p 0 false e; some = λ w. absurd (true≢false (sym (at_zero p w) ∙ e)) }
  visited (suc k) p = more (visited k p)
    where
      more : Visited k p → Visited (suc k) p
      more v = go (stands_at (passes control body v.number p) (suc k)) refl
        where
          counted : (n : ℕ) → (Within k p → 0 < n) → stands_at (passes control body n p) (suc k) ≡ false → Within (suc k) p → 0 < n
          counted zero some e w = elim (below_or_at k p w) [
            | inl l ↦ some l
            | inr t ↦ absurd (true≢false (sym t ∙ e))
          ]
          counted (suc n) some e w = omega arith

          go : (b : Bool) → stands_at (passes control body v.number p) (suc k) ≡ b → Visited (suc k) p
          go true e = record {
            number = suc v.number;
            is = ap (visit control body (suc k)) v.is ∙ visit_passes (suc k) p v.number true e;
            some = λ w. omega arith;
          }
          go false e = record {
            number = v.number;
            is = ap (visit control body (suc k)) v.is ∙ visit_passes (suc k) p v.number false e;
            some = counted v.number v.some e;
          }

  pub run_passes : (fuel : ℕ) (p : Reached) → (count : ℕ) × (runs control body fuel p ≡ passes control body count p)
  run_passes zero p = (0, refl)
  run_passes (suc fuel) p =
      let v = visited (length (structural body)) p in
      let (m, e) = run_passes fuel (lap control body p) in
      (v.number + m, e ∙ (ap (passes control body m) v.is ∙ passes_add v.number m (v.number + m) p refl))

  -- ---- where no run leaves the body

  module _ (P : Reached → Type 0) (goes : (p : Reached) → P p → P (pass control body p)) (inside : (p : Reached) → P p →
      (Within (length (structural body)) p) ⊎ ((o : Outcome) × (p ≡ Done o))) where
    passes_keep : (n : ℕ) (p : Reached) → P p → P (passes control body n p)
    passes_keep zero p h = h
    passes_keep (suc n) p h = passes_keep n (pass control body p) (goes p h)

    -- so many laps are as many passes at least, or the run has ended
    record Enough (n : ℕ) (p : Reached) : Type 0 where
      number : ℕ
      is : runs control body n p ≡ passes control body number p
      enough : (n ≤ number) ⊎ ((o : Outcome) × (passes control body number p ≡ Done o))

    laps_enough : (n : ℕ) (p : Reached) → P p → Enough n p
    laps_enough zero p h = record { number = 0; is = refl; enough = inl (omega arith) }
    laps_enough (suc n) p h = go (visited (length (structural body)) p) (inside p h) (laps_enough n)
      where
        go : Visited (length (structural body)) p → ((Within (length (structural body)) p) ⊎ ((o : Outcome) × (p ≡ Done o))) →
            ((q : Reached) → P q → Enough n q) → Enough (suc n) p
        go v (inr x) again = record {
          number = 0;
          is = ap (runs control body (suc n)) x.1 ∙ (done_runs (suc n) x.0 ∙ sym x.1);
          enough = inr (x.0, x.1);
        }
          where
            done_visits : (k : ℕ) (o : Outcome) → visits control body k (Done o) ≡ Done o
            done_visits zero o = refl
            done_visits (suc k) o = ap (visit control body (suc k)) (done_visits k o)

            done_runs : (n : ℕ) (o : Outcome) → runs control body n (Done o) ≡ Done o
            done_runs zero o = refl
            done_runs (suc n) o = ap (runs control body n) (done_visits (length (structural body)) o) ∙ done_runs n o
        go v (inl w) again = next (again (lap control body p) (subst P (sym v.is) (passes_keep v.number p h)))
          where
            next : Enough n (lap control body p) → Enough (suc n) p
            next m =
                let add = passes_add v.number m.number (v.number + m.number) p refl in
                let there : passes control body m.number (lap control body p) ≡ passes control body (v.number + m.number) p =
                ap (passes control body m.number) v.is ∙ add in
                let l = v.some w in
                record {
                  number = v.number + m.number;
                  is = m.is ∙ there;
                  enough = elim m.enough [ inl x ↦ inl (omega arith) | inr x ↦ inr (x.0, sym there ∙ x.1) ];
                }

    pub ends_alike : (n : ℕ) (p : Reached) (o : Outcome) → P p → passes control body n p ≡ Done o → runs control body n p ≡ Done o
    ends_alike n p o h e = go (laps_enough n p h)
      where
        go : Enough n p → runs control body n p ≡ Done o
        go m = m.is ∙ elim (cases_lt m.number n) [
          | inl l ↦ elim m.enough [
            | inl x ↦ absurd (omega arith)
            | inr x ↦
                let later : passes control body n p ≡ Done x.0 =
                sym (passes_add m.number (n - m.number) n p (omega arith)) ∙ (ap (passes control body (n - m.number)) x.1 ∙ passes_done (n - m.number) x.0) in
                x.1 ∙ (sym later ∙ e)
          ]
          | inr l ↦ sym (passes_add n (m.number - n) m.number p (omega arith)) ∙
              (ap (passes control body (m.number - n)) e ∙ passes_done (m.number - n) o)
        ]
