-- A module rewritten as is asked for, and what options ask for.
use Rattle.std.proofs.Common.{◌≡◌, ℕ, Bool, List, false, Option, None, Result, Ok, Err, ap, arith}
use Rattle.std.specs.Prelude.{IfOk, IfErr}
use Rattle.rewrite_rules.specs.declared.rule.Rule.{Rule}
use Rattle.module_rewrites.specs.Attempt.{IsForSize, IsReason}
use Rattle.module_rewrites.specs.Chosen.{GivesUp}
use Rattle.module_rewrites.specs.ChosenTimes.{ChoosesTimes}
use Rattle.module_rewrites.specs.DoesAsBefore.{DoesAsBefore}
use Rattle.module_rewrites.specs.Dose.{IsDoseOf, IsOfReading}
use Rattle.module_rewrites.specs.Mutates.{Mutates}
use Rattle.module_rewrites.specs.Seeded.{seeded}
use Rattle.module_rewrites.specs.declared.attempt.Reason.{Reason}
use Rattle.module_rewrites.specs.declared.attempt.Reason.TheVariants.{NoRule, NoOwnFunction, Unreadable, NoFunction, UnknownImport, Refused}
use Rattle.module_rewrites.specs.declared.dose.Dose.{Dose}
use Rattle.module_rewrites.specs.declared.dose.Dose.TheVariants.{Times}
use Rattle.module_rewrites.specs.declared.times.RewrittenModule.{RewrittenModule}
use Rattle.teddertempo_c.specs.Options.{rules_of, function_of, dose_of, has_flag, most_of}
use Rattle.teddertempo_c.specs.Reports.{asked_of_options}
use Rattle.teddertempo_c.specs.Rules.{every_rule}
use Rattle.teddertempo_c.specs.Writes.{Asked, Fits, IsRefusedFor, IsRewrittenBy, once}
use Rattle.teddertempo_c.specs.declared.options.Options.{Options}
use Rattle.teddertempo_c.specs.declared.options.TheConstants.{EXACT, SHRINK}
use Rattle.teddertempo_c.proofs.FitsLemmas.{fits_mutated}
use Rattle.teddertempo_c.proofs.OptionsLemmas.{most_le}

module _ (asked : Asked) (count : ℕ) (bytes : List ℕ) (result : Result RewrittenModule Reason)
    (mutates : IfOk result (λ m. Mutates asked.scope count bytes m.made.items m.bytes.items m.stopped)) where
  pub rewritten_so : IsDoseOf asked.dose asked.scope.function bytes count → IfOk result (λ m. DoesAsBefore asked.scope.exact bytes m.bytes.items) →
      IfOk result (λ m. ChoosesTimes asked.scope bytes (seeded asked.seed) m.made.items m.bytes.items m.stopped) →
      IfOk result (λ m. IsRewrittenBy asked bytes m.made.items m.bytes.items)
  rewritten_so counted does chosen = each result mutates does chosen
    where
      each : (r : Result RewrittenModule Reason) → IfOk r (λ m. Mutates asked.scope count bytes m.made.items m.bytes.items m.stopped) →
          IfOk r (λ m. DoesAsBefore asked.scope.exact bytes m.bytes.items) →
          IfOk r (λ m. ChoosesTimes asked.scope bytes (seeded asked.seed) m.made.items m.bytes.items m.stopped) →
          IfOk r (λ m. IsRewrittenBy asked bytes m.made.items m.bytes.items)
      each (Ok m) a b c = record { count = count; count_is = counted; stopped = m.stopped; mutates = a; chosen = c; does_as_before = b }
      each (Err e) a b c = tt

  pub fits_so : IfOk result (λ m. Fits asked.scope.most m.made.items m.bytes.items)
  fits_so = each result mutates
    where
      each : (r : Result RewrittenModule Reason) → IfOk r (λ m. Mutates asked.scope count bytes m.made.items m.bytes.items m.stopped) →
          IfOk r (λ m. Fits asked.scope.most m.made.items m.bytes.items)
      each (Ok m) a = fits_mutated asked.scope count bytes m.made.items m.bytes.items m.stopped a
      each (Err e) a = tt

pub refused_so : (asked : Asked) (bytes : List ℕ) (r : Result RewrittenModule Reason) → IfErr r (IsReason asked.scope bytes) →
    IfErr r (λ e. IsForSize e → GivesUp asked.scope bytes (seeded asked.seed)) → IfErr r (IsRefusedFor asked bytes)
refused_so asked bytes (Ok m) a b = tt
refused_so asked bytes (Err e) a b = record { is = a; gives_up = b }

-- how many rewrites are asked for isn't known
pub uncounted : (asked : Asked) (bytes : List ℕ) (reason : Reason) → IsReason asked.scope bytes reason → IsOfReading reason →
    IsRefusedFor asked bytes reason
uncounted asked bytes reason is reading = record { is = is; gives_up = λ size. absurd (other reason reading size) }
  where
    other : (r : Reason) → IsOfReading r → IsForSize r → ⊥
    other NoRule w size = size
    other NoOwnFunction w size = size
    other (Unreadable e) w size = size
    other (NoFunction f) w size = size
    other (UnknownImport e) w size = size
    other (Refused e) w size = w size

-- ---- once

abbrev pub once_with : (seed : ℕ) → List Rule → (room : ℕ) → Asked
once_with seed rules room = record {
  seed = seed;
  scope = record { rules = rules; function = None; most = room; shrinking = false; exact = false };
  dose = Times 1;
}

pub once_same : (seed : ℕ) (rules : List Rule) (room : ℕ) → rules ≡ every_rule → once_with seed rules room ≡ once seed room
once_same seed rules room e = ap (λ r. once_with seed r room) e

-- ---- by options

abbrev pub asked_with : Options → List Rule → Option ℕ → (most : ℕ) → Dose → (shrinking exact : Bool) → Asked
asked_with options rules function most dose shrinking exact = record {
  seed = options.seed;
  scope = record { rules = rules; function = function; most = most; shrinking = shrinking; exact = exact };
  dose = dose;
}

pub asked_same : (options : Options) (size room : ℕ) (rules : List Rule) (function : Option ℕ) (most : ℕ) (dose : Dose)
    (shrinking exact : Bool) → rules ≡ rules_of options → function ≡ function_of options.only →
    most ≡ most_of options.growth options.flags size room → dose ≡ dose_of options → shrinking ≡ has_flag options.flags SHRINK →
    exact ≡ has_flag options.flags EXACT → asked_with options rules function most dose shrinking exact ≡ asked_of_options options size room
asked_same options size room rules function most dose shrinking exact a b c d e f = cc

pub fits_room : (options : Options) (size room : ℕ) (r : Result RewrittenModule Reason) →
    IfOk r (λ m. Fits (most_of options.growth options.flags size room) m.made.items m.bytes.items) → IfOk r (λ m. Fits room m.made.items m.bytes.items)
fits_room options size room (Ok m) f =
    let below = most_le options.growth options.flags size room in record { one = f.one; named = f.named; some = f.some; fits = omega (arith, f.fits, below) }
fits_room options size room (Err e) f = tt
