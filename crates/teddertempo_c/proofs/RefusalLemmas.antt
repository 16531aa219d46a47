-- What an attempt to rewrite by options comes to.
use Rattle.std.proofs.Common.{◌≡◌, ℕ, List, length, take, refl, subst}
use Rattle.std.specs.Prelude.{IsTrue}
use Rattle.module_rewrites.specs.declared.attempt.Reason.{Reason}
use Rattle.module_rewrites.specs.declared.times.MadeRewrite.{MadeRewrite}
use Rattle.teddertempo_c.specs.Options.{AreBad, are_zero}
use Rattle.teddertempo_c.specs.Outcome.{offset_by, outcome_by, outcome_number}
use Rattle.teddertempo_c.specs.Reported.{IsBadCall, IsMade, IsNone}
use Rattle.teddertempo_c.specs.Reports.{IsOutcomeFor, IsRewrittenSo, TellsRewrites, asked_of_options}
use Rattle.teddertempo_c.specs.Writes.{Fits, IsRefusedFor, IsRewrittenBy}
use Rattle.teddertempo_c.specs.declared.options.Options.{Options}
use Rattle.teddertempo_c.specs.declared.outcome.Outcome.TheVariants.{Done, NoMemory}
use Rattle.teddertempo_c.specs.declared.outcome.Refusal.{Refusal}
use Rattle.teddertempo_c.specs.declared.report.Made.{Made}
use Rattle.teddertempo_c.proofs.OutcomeLemmas.{by_reason}
use Rattle.teddertempo_c.proofs.ReportedLemmas.{none_for, sized}

module _ (options : Options) (size : ℕ) (buffer : List ℕ) (good : ¬ (IsBadCall (AreBad options) size buffer)) where
  pub made_so : (made : List MadeRewrite) (m : Made) →
      IsRewrittenBy (asked_of_options options (length (take size buffer)) (length buffer)) (take size buffer) made m.bytes.items →
      Fits (length buffer) made m.bytes.items → m.report.outcome ≡ outcome_number Done → TellsRewrites made m.report → IsTrue (are_zero m.report.reserved) →
      IsMade (IsRewrittenSo options size buffer) (IsBadCall (AreBad options) size buffer) (length buffer) m
  made_so made m is fits number tells reserved = record {
    good = good;
    done = record {
      made = made;
      is = subst (λ (n : ℕ). IsRewrittenBy (asked_of_options options n (length buffer)) (take size buffer) made m.bytes.items)
          (sized (AreBad options) size buffer good) is;
      tells = tells;
    };
    outcome = number;
    reserved = reserved;
    some = fits.some;
    fits = fits.fits;
  }

  pub none_so : (refusal : Refusal) (reason : Reason) → refusal ≡ record { outcome = outcome_by reason; offset = offset_by reason } →
      IsRefusedFor (asked_of_options options (length (take size buffer)) (length buffer)) (take size buffer) reason →
      IsNone (IsOutcomeFor options size buffer) (IsBadCall (AreBad options) size buffer) refusal
  none_so refusal reason same is =
      none_for (IsOutcomeFor options size buffer) (IsBadCall (AreBad options) size buffer) (λ n h. h) (λ n h. h) refusal
      (record { outcome = outcome_by reason; offset = offset_by reason }) same good
      (by_reason (asked_of_options options size (length buffer)) (take size buffer) reason
      (subst (λ (n : ℕ). IsRefusedFor (asked_of_options options n (length buffer)) (take size buffer) reason) (sized (AreBad options) size buffer good) is))

  pub none_memory : (refusal : Refusal) → refusal ≡ record { outcome = NoMemory; offset = 0 } →
      IsNone (IsOutcomeFor options size buffer) (IsBadCall (AreBad options) size buffer) refusal
  none_memory refusal same =
      none_for (IsOutcomeFor options size buffer) (IsBadCall (AreBad options) size buffer) (λ n h. h) (λ n h. h) refusal
      (record { outcome = NoMemory; offset = 0 }) same good refl
