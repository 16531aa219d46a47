-- A writer that goes on where it stands.
use Rattle.std.proofs.Common.{◌≡◌, ◌∙◌, ℕ, List, [], ◌∷◌, length, Result, Ok, Err, refl, sym, subst, arith}
use Rattle.std.proofs.lemmas.List.{take_all}
use Rattle.std.proofs.lemmas.List.Elements.{All-nil, All-cons}
use Rattle.mutate_base.specs.declared.error.Error.{Error}
use Rattle.peephole_terms.specs.declared.encoder.writer.Writer.{Writer}
use Rattle.peephole_terms.specs.EncoderSteps.{Step, nothing, Writing, IsInRange, Does}
use Rattle.peephole_terms.specs.Writer.{IsSame}

pub same_more : {R : Type 0} {a b c : Writer R} → IsSame a b → IsSame b c → IsSame a c
same_more before after = record {
  globals = after.globals ∙ before.globals;
  sink = after.sink ∙ before.sink;
  requests = after.requests ∙ before.requests;
  rng = after.rng ∙ before.rng;
}

-- what is done then is done over the number of globals at the beginning
pub goes_on : {now count : ℕ} {taken : List Step} {w v : Writing} {out : Result (Unit {0}) Error} → now ≡ count → Does now taken w v out →
    Does count taken w v out
goes_on {now} {count} {taken} {w} {v} {out} e does = subst (λ (n : ℕ). Does n taken w v out) e does

-- a refusal that is passed on
pub passed : {count : ℕ} {taken : List Step} {w v : Writing} {out : Result (Unit {0}) Error} {d : Error} → out ≡ Err d → Does count taken w v (Err d) →
    Does count taken w v out
passed {count} {taken} {w} {v} e does = subst (λ (r : Result (Unit {0}) Error). Does count taken w v r) (sym e) does

-- a step that does nothing
pub nothing_done : (count : ℕ) (w : Writing) → Does count (nothing ∷ []) w w (Ok tt)
nothing_done count w = record {
  ok = refl;
  err = tt;
  in_range = All-cons IsInRange nothing [] tt (All-nil IsInRange);
  kept = take_all (length w.bytes) w.bytes (omega arith);
}
