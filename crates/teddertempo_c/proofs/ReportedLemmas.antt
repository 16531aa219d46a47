-- What a call that reports leaves in the buffer, and what it reports.
use Rattle.std.proofs.Common.{◌≡◌, ◌↔◌, ℕ, ◌≤◌, inl, inr, false, true, List, length, take, Result, Ok, Err, refl, sym, ap, subst, ◌∙◌, arith}
use Rattle.std.specs.Prelude.{IfErr, IfOk, IsTrue, MatchResult}
use Rattle.std.proofs.lemmas.Bool.{cases_lt}
use Rattle.std.proofs.lemmas.List.{length-take-le}
use Rattle.teddertempo_c.specs.Options.{are_zero}
use Rattle.teddertempo_c.specs.Outcome.{outcome_number}
use Rattle.teddertempo_c.specs.Reported.{IsBadCall, IsLeft, IsMade, IsNone, IsWhyNone, IsWritten, Reported, Tells, report_of}
use Rattle.teddertempo_c.specs.declared.outcome.Outcome.{Outcome}
use Rattle.teddertempo_c.specs.declared.outcome.Outcome.TheVariants.{Done, NotAModule, LinkableObject, Unreadable, NothingApplies, NoFunction}
use Rattle.teddertempo_c.specs.declared.outcome.Outcome.TheVariants.{TooLarge, NoMemory, BadOptions}
use Rattle.teddertempo_c.specs.declared.outcome.Refusal.{Refusal}
use Rattle.teddertempo_c.specs.declared.report.Made.{Made}
use Rattle.teddertempo_c.specs.declared.report.Report.{Report}
use Rattle.teddertempo_c.proofs.WritesLemmas.{front_is, writes_front, writes_nothing}

-- ---- why nothing is made

module _ (IsOutcome : (offset : ℕ) → Outcome → Type 0) (Bad : Type 0) where
  why_of : ((offset : ℕ) → IsOutcome offset BadOptions → ⊥) → (offset : ℕ) (outcome : Outcome) → IsOutcome offset outcome →
      IsWhyNone Bad IsOutcome offset outcome
  why_of never offset Done h = h
  why_of never offset NotAModule h = h
  why_of never offset LinkableObject h = h
  why_of never offset Unreadable h = h
  why_of never offset NothingApplies h = h
  why_of never offset NoFunction h = h
  why_of never offset TooLarge h = h
  why_of never offset NoMemory h = h
  why_of never offset BadOptions h = absurd (never offset h)

  -- for that reason
  pub none_for : ((offset : ℕ) → IsOutcome offset Done → ⊥) → ((offset : ℕ) → IsOutcome offset BadOptions → ⊥) → (refusal own : Refusal) → refusal ≡ own →
      ¬ Bad → IsOutcome own.offset own.outcome → IsNone IsOutcome Bad refusal
  none_for never_done never_bad refusal own same good is = subst (IsNone IsOutcome Bad) (sym same) (record {
    why = why_of never_bad own.offset own.outcome is;
    bad = λ bad. absurd (good bad);
    undone = λ done. never_done own.offset (subst (IsOutcome own.offset) done is);
  })

  -- since it was bad
  pub none_bad : (refusal : Refusal) → refusal ≡ record { outcome = BadOptions; offset = 0 } → Bad → IsNone IsOutcome Bad refusal
  none_bad refusal same bad = subst (IsNone IsOutcome Bad) (sym same) (record {
    why = (refl, bad);
    bad = λ again. refl;
    undone = λ done. absurd cc;
  })

-- ---- what is reported

module _ (IsDone IsNothing : Type 0) (IsOutcome : (offset : ℕ) → Outcome → Type 0) (Bad : Type 0) (report : Report) where
  pub tells_done : IsDone → ¬ Bad → report.outcome ≡ outcome_number Done → IsTrue (are_zero report.reserved) →
      Tells IsDone IsNothing IsOutcome Bad report
  tells_done done good number reserved = record {
    outcome = Done;
    number = number;
    done = λ same. done;
    nothing = λ other. absurd (other refl);
    none = λ other. absurd (other refl);
    why = λ other. absurd (other refl);
    bad = λ bad. absurd (good bad);
    reserved = reserved;
  }

  pub tells_none : IsNothing → (refusal : Refusal) → IsNone IsOutcome Bad refusal → report ≡ report_of refusal.outcome 0 0 0 refusal.offset →
      Tells IsDone IsNothing IsOutcome Bad report
  tells_none nothing refusal is same = record {
    outcome = refusal.outcome;
    number = ap (λ (r : Report). r.outcome) same;
    done = λ done. absurd (is.undone done);
    nothing = λ other. nothing;
    none = λ other. record {
      made = ap (λ (r : Report). r.made) same;
      function = ap (λ (r : Report). r.function) same;
      kind = ap (λ (r : Report). r.kind) same;
    };
    why = λ other. subst (λ (offset : ℕ). IsWhyNone Bad IsOutcome offset refusal.outcome) (sym (ap (λ (r : Report). r.offset) same)) is.why;
    bad = is.bad;
    reserved = subst (λ (r : Report). IsTrue (are_zero r.reserved)) (sym same) refl;
  }

-- ---- the call

-- neither of the tests says that it is bad
pub good_call : (Bad : Type 0) (size : ℕ) (old : List ℕ) → size ≤ length old → IsTrue false ↔ Bad → ¬ (IsBadCall Bad size old)
good_call Bad size old inside is (inl outside) = omega (arith, inside, outside)
good_call Bad size old inside is (inr bad) = let e : false ≡ true = is.1 bad in absurd cc

module _ (Bad : Type 0) (size : ℕ) (old : List ℕ) (good : ¬ (IsBadCall Bad size old)) where
  inside_of : size ≤ length old
  inside_of = elim (cases_lt (length old) size) [ inl outside ↦ absurd (good (inl outside)) | inr inside ↦ inside ]

  pub sized : length (take size old) ≡ size
  sized = length-take-le size old inside_of

module _ (IsDone : (new : List ℕ) → Report → Type 0) (IsOutcome : (offset : ℕ) → Outcome → Type 0) (Bad : Type 0) (size : ℕ) (old : List ℕ) where
  left_is : (refusal : Refusal) → IsNone IsOutcome (IsBadCall Bad size old) refusal → (report : Report) →
      report ≡ report_of refusal.outcome 0 0 0 refusal.offset → Reported IsDone IsOutcome Bad size old 0 old report
  unfolding tells_none
  left_is refusal is report same = record {
    writes = writes_nothing old;
    tells = tells_none (IsDone (take 0 old) report) (0 ≡ 0) IsOutcome (IsBadCall Bad size old) report refl refusal is same;
    some = ((λ some. absurd (some refl)), (λ done. absurd (is.undone done)));
  }

  pub reported : (made : Result Made Refusal) (result : ℕ) (new : List ℕ) (report : Report) →
      IfOk made (IsMade IsDone (IsBadCall Bad size old) (length old)) → IfErr made (IsNone IsOutcome (IsBadCall Bad size old)) →
      MatchResult made (λ m. IsWritten m old result new report) (λ e. IsLeft e old result new report) →
      Reported IsDone IsOutcome Bad size old result new report
  unfolding tells_done
  reported (Ok m) result new report is none written =
      let done = subst (IsDone m.bytes.items) (sym written.report_is) is.done in
      record {
        writes = writes_front m.bytes.items old result new written.put is.fits is.some;
        tells = tells_done (IsDone (take result new) report) (result ≡ 0) IsOutcome (IsBadCall Bad size old) report
            (subst (λ (bytes : List ℕ). IsDone bytes report) (sym (front_is m.bytes.items old result new written.put)) done) is.good
            (ap (λ (r : Report). r.outcome) written.report_is ∙ is.outcome)
            (subst (λ (r : Report). IsTrue (are_zero r.reserved)) (sym written.report_is) is.reserved);
        some = ((λ some. refl), (λ same none. absurd (let size_is = written.put.size in let some = is.some in omega (arith, size_is, some, none))));
      }
  reported (Err e) result new report made is left =
      subst (λ (n : ℕ). Reported IsDone IsOutcome Bad size old n new report) (sym left.size)
      (subst (λ (bytes : List ℕ). Reported IsDone IsOutcome Bad size old 0 bytes report) (sym left.unchanged) (left_is e is report left.report_is))
