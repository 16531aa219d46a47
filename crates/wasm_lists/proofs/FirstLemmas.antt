-- What the first byte tells apart is read exactly.
use Rattle.std.proofs.Common.{◌≡◌, ℕ, Bool, true, false, cond, List, [], ◌∷◌, ◌++◌, Ok, Err, refl, sym, ap, ◌∙◌}
use Rattle.wasm_code.specs.declared.fault.Cause.{Cause}
use Rattle.wasm_code.specs.declared.fault.Cause.TheVariants.{Truncated}
use Rattle.wasm_code.specs.laws.GrammarLemmas.{Reader, Exact, err_is}
use Rattle.wasm_lists.specs.First.{OneOf, ByFirst, FailsByFirst}
use Rattle.wasm_lists.specs.ValueReader.{chosen_by_first_at}

heads : (b c : ℕ) (bytes text : List ℕ) → b ∷ bytes ≡ c ∷ text → b ≡ c
heads b c bytes text e = cc

module _ {A : Type 0} {Behind : ℕ → List ℕ → A → Type 0} {Other : List ℕ → A → Type 0} {FailsBehind : ℕ → List ℕ → Cause → Type 0}
    {FailsOther : List ℕ → Cause → Type 0} {behind_at : ℕ → Reader A} {other_at : Reader A} (test : ℕ → Bool)
    (one : (b : ℕ) → Exact (Behind b) (FailsBehind b) (behind_at b)) (other : Exact Other FailsOther other_at) (none : Cause)
    (nothing : other_at [] ≡ Err none) where
  -- no other spelling is of no bytes
  not_empty : (x : A) → Other [] x → ⊥
  not_empty x s = let e = sym nothing ∙ other.again [] [] x s in absurd cc

  other_is : (b : ℕ) (bytes text rest : List ℕ) (x : A) → b ∷ bytes ≡ text ++ rest → test b ≡ false → Other text x → ByFirst test Behind Other text x
  other_is b bytes [] rest x parts other_byte s = absurd (not_empty x s)
  other_is b bytes (c ∷ text) rest x parts other_byte s =
      let same : test c ≡ false = ap test (sym (heads b c bytes (text ++ rest) parts)) ∙ other_byte in
      rw same s

  takes_by : (b : ℕ) (bytes : List ℕ) (x : A) (rest : List ℕ) (v : Bool) → test b ≡ v →
      cond v (behind_at b bytes) (other_at (b ∷ bytes)) ≡ Ok (x, rest) → (text : List ℕ) × (b ∷ bytes ≡ text ++ rest) × ByFirst test Behind Other text x
  takes_by b bytes x rest true this_byte e =
      let t = (one b).takes bytes x rest e in (b ∷ t.0, ap (λ (l : List ℕ). b ∷ l) t.1, rw this_byte t.2)
  takes_by b bytes x rest false other_byte e =
      let t = other.takes (b ∷ bytes) x rest e in (t.0, t.1, other_is b bytes t.0 rest x t.1 other_byte t.2)

  takes : (bytes : List ℕ) (x : A) (rest : List ℕ) → chosen_by_first_at test behind_at other_at bytes ≡ Ok (x, rest) → (text : List ℕ)
      × (bytes ≡ text ++ rest) × ByFirst test Behind Other text x
  takes [] x rest e = absurd cc
  takes (b ∷ bytes) x rest e = takes_by b bytes x rest (test b) refl e

  again_by : (b : ℕ) (text rest : List ℕ) (x : A) (v : Bool) → OneOf v (Behind b text x) (Other (b ∷ text) x) →
      cond v (behind_at b (text ++ rest)) (other_at (b ∷ (text ++ rest))) ≡ Ok (x, rest)
  again_by b text rest x true s = (one b).again text rest x s
  again_by b text rest x false s = other.again (b ∷ text) rest x s

  again : (text rest : List ℕ) (x : A) → ByFirst test Behind Other text x → chosen_by_first_at test behind_at other_at (text ++ rest) ≡ Ok (x, rest)
  again [] rest x s = absurd s
  again (b ∷ text) rest x s = again_by b text rest x (test b) s

  stops_by : (b : ℕ) (bytes : List ℕ) (cause : Cause) (v : Bool) → cond v (behind_at b bytes) (other_at (b ∷ bytes)) ≡ Err cause →
      OneOf v (FailsBehind b bytes cause) (FailsOther (b ∷ bytes) cause)
  stops_by b bytes cause true e = (one b).stops bytes cause e
  stops_by b bytes cause false e = other.stops (b ∷ bytes) cause e

  stops : (bytes : List ℕ) (cause : Cause) → chosen_by_first_at test behind_at other_at bytes ≡ Err cause → FailsByFirst test FailsBehind FailsOther bytes cause
  stops [] cause e = sym (err_is {A = A × List ℕ} Truncated cause e)
  stops (b ∷ bytes) cause e = stops_by b bytes cause (test b) e

  fails_by : (b : ℕ) (bytes : List ℕ) (cause : Cause) (v : Bool) → OneOf v (FailsBehind b bytes cause) (FailsOther (b ∷ bytes) cause) →
      cond v (behind_at b bytes) (other_at (b ∷ bytes)) ≡ Err cause
  fails_by b bytes cause true f = (one b).fails bytes cause f
  fails_by b bytes cause false f = other.fails (b ∷ bytes) cause f

  fails : (bytes : List ℕ) (cause : Cause) → FailsByFirst test FailsBehind FailsOther bytes cause → chosen_by_first_at test behind_at other_at bytes ≡ Err cause
  fails [] cause f = rw f refl
  fails (b ∷ bytes) cause f = fails_by b bytes cause (test b) f

  pub exact_first : Exact (ByFirst test Behind Other) (FailsByFirst test FailsBehind FailsOther) (chosen_by_first_at test behind_at other_at)
  exact_first = record { takes = takes; again = again; stops = stops; fails = fails }
