-- What is written of a module, rewritten or as it is.
use Rattle.std.proofs.Common.{◌≡◌, ℕ, List, [], Bool, true, false, Option, inl, inr, refl, sym, subst}
use Rattle.module_rewrites.specs.Attempt.{IsForSize, IsReason}
use Rattle.module_rewrites.specs.Chosen.{GivesUp}
use Rattle.module_rewrites.specs.ChosenTimes.{ChoosesTimes}
use Rattle.module_rewrites.specs.DoesAsBefore.{DoesAsBefore}
use Rattle.module_rewrites.specs.Dose.{IsDoseOf, IsOfReading}
use Rattle.module_rewrites.specs.Mutates.{Mutates}
use Rattle.module_rewrites.specs.Scope.{Scope}
use Rattle.module_rewrites.specs.Seeded.{seeded}
use Rattle.module_rewrites.specs.declared.attempt.Reason.{Reason}
use Rattle.module_rewrites.specs.declared.attempt.Reason.TheVariants.{NoRule, NoOwnFunction, Unreadable, NoFunction, UnknownImport, Refused}
use Rattle.module_rewrites.specs.declared.mutation.MutationError.{MutationError}
use Rattle.module_rewrites.specs.declared.mutation.MutationError.TheVariants as mutations
use Rattle.module_rewrites.specs.declared.times.MadeRewrite.{MadeRewrite}
use Rattle.module_commands.specs.Failures.{IsReasonFor, leaves_by}
use Rattle.module_options.specs.Scope.{scope_of}
use Rattle.module_commands.specs.Shown.{IsShown}
use Rattle.module_commands.specs.Writes.{IsCommandOutcome, IsWrittenAs, stopped_by}
use Rattle.module_options.specs.declared.options.Options.{Options}

-- of a module that was rewritten
pub rewritten_outcome : (options : Options) (scope : Scope) (count : ℕ) (bytes module_bytes written : List ℕ) (made given : List MadeRewrite)
    (stopped told : Option MutationError) → scope ≡ scope_of options → IsDoseOf options.dose scope.function bytes count →
    Mutates scope count bytes made module_bytes stopped →
    ChoosesTimes scope bytes (seeded options.seed) made module_bytes stopped → DoesAsBefore scope.exact bytes module_bytes → given ≡ made → told ≡ stopped →
    IsWrittenAs options.strip_debug module_bytes written →
    ((exact : Bool) (start : List ℕ) → DoesAsBefore exact start module_bytes → DoesAsBefore exact start written) →
    IsCommandOutcome options count bytes given told written
rewritten_outcome options scope count bytes module_bytes written made given stopped told is counted mutates chosen does made_is stopped_is as_written after =
    subst (λ (s : Option MutationError). IsCommandOutcome options count bytes given s written) (sym stopped_is)
    (subst (λ (ms : List MadeRewrite). IsCommandOutcome options count bytes ms stopped written) (sym made_is) (record {
      count_is = subst (λ (s : Scope). IsDoseOf options.dose s.function bytes count) is counted;
      module_bytes = module_bytes;
      is_made = inl (record {
        mutates = subst (λ (s : Scope). Mutates s count bytes made module_bytes stopped) is mutates;
        chosen = subst (λ (s : Scope). ChoosesTimes s bytes (seeded options.seed) made module_bytes stopped) is chosen;
      });
      is_written = as_written;
      does = after options.exact bytes (subst (λ (s : Scope). DoesAsBefore s.exact bytes module_bytes) is does);
    }))

-- of one that is left as it is
pub left_outcome : (options : Options) (count : ℕ) (bytes module_bytes written : List ℕ) (reason : Reason) (made given : List MadeRewrite)
    (stopped told : Option MutationError) → IsDoseOf options.dose options.function bytes count → IsReason (scope_of options) bytes reason →
    (IsForSize reason → GivesUp (scope_of options) bytes (seeded options.seed)) → leaves_by options bytes reason ≡ true → module_bytes ≡ bytes →
    made ≡ [] → stopped ≡ stopped_by reason → given ≡ made → told ≡ stopped → IsWrittenAs options.strip_debug module_bytes written →
    ((exact : Bool) (start : List ℕ) → DoesAsBefore exact start module_bytes → DoesAsBefore exact start written) →
    ((exact : Bool) → DoesAsBefore exact bytes module_bytes) → IsCommandOutcome options count bytes given told written
left_outcome options count bytes module_bytes written reason made given stopped told counted is gives_up left same none stopped_for made_is stopped_is
    as_written after does =
    subst (λ (s : Option MutationError). IsCommandOutcome options count bytes given s written) (sym stopped_is)
    (subst (λ (ms : List MadeRewrite). IsCommandOutcome options count bytes ms stopped written) (sym made_is) (record {
      count_is = counted;
      module_bytes = module_bytes;
      is_made =
          inr (record { reason = reason; is = is; leaves = left; gives_up = gives_up; none = none; stopped_is = stopped_for; same = same });
      is_written = as_written;
      does = after options.exact bytes (does options.exact);
    }))

-- nothing is shown where nothing is made
pub none_shown : (show : Bool) (given made : List MadeRewrite) (text : List ℕ) → given ≡ made → made ≡ [] → text ≡ [] → IsShown show given text
none_shown show given made text made_is none empty =
    subst (λ (ms : List MadeRewrite). IsShown show ms text) (sym made_is) (subst (λ (ms : List MadeRewrite). IsShown show ms text) (sym none) (by show))
  where
    by : (b : Bool) → IsShown b [] text
    by false = empty
    by true = empty

-- why nothing is made, under the scope of the options
pub reason_in : (options : Options) (scope : Scope) (bytes : List ℕ) (reason : Reason) → scope ≡ scope_of options → IsReason scope bytes reason →
    IsReason (scope_of options) bytes reason
reason_in options scope bytes reason is h = subst (λ (s : Scope). IsReason s bytes reason) is h

pub gives_up_in : (options : Options) (scope : Scope) (bytes : List ℕ) (reason : Reason) → scope ≡ scope_of options →
    (IsForSize reason → GivesUp scope bytes (seeded options.seed)) → IsForSize reason → GivesUp (scope_of options) bytes (seeded options.seed)
gives_up_in options scope bytes reason is h size = subst (λ (s : Scope). GivesUp s bytes (seeded options.seed)) is (h size)

-- how many rewrites are wanted isn't known
pub counting_fails : (options : Options) (scope : Scope) (bytes : List ℕ) (reason : Reason) → scope ≡ scope_of options → IsReason scope bytes reason →
    IsOfReading reason → IsReasonFor options bytes reason
counting_fails options scope bytes reason is h reading = record {
  is = reason_in options scope bytes reason is h;
  left = kept reason reading;
  gives_up = λ size. absurd (other reason reading size);
}
  where
    kept : (r : Reason) → IsOfReading r → leaves_by options bytes r ≡ false
    kept NoRule w = absurd w
    kept NoOwnFunction w = absurd w
    kept (Unreadable e) w = refl
    kept (NoFunction f) w = refl
    kept (UnknownImport e) w = refl
    kept (Refused (mutations.Read e)) w = refl
    kept (Refused mutations.Memory) w = refl
    kept (Refused (mutations.Write e)) w = refl
    kept (Refused mutations.TooLong) w = refl
    kept (Refused mutations.NotSmaller) w = absurd (w tt)

    other : (r : Reason) → IsOfReading r → IsForSize r → ⊥
    other NoRule w size = size
    other NoOwnFunction w size = size
    other (Unreadable e) w size = size
    other (NoFunction f) w size = size
    other (UnknownImport e) w size = size
    other (Refused e) w size = w size
