-- By the rules that the options name.
use Rattle.std.proofs.Common.{ℕ, length, subst}
use Rattle.std.specs.Prelude.{IfOk, IfErr}
use Rattle.teddertempo_c.specs.Writes.{Asked, Fits, IsRefusedFor, IsRewrittenBy}
use Rattle.teddertempo_c.proofs.AttemptLemmas.{asked_same, fits_room}
use Rattle.teddertempo_c.proofs.attempt.rewritten_by.Goals as goal

pub returns : goal.returns
returns c =
    let bytes = c.args.bytes.now in
    let same = asked_same c.args.options.now (length bytes) c.args.room c.args.rules.now c.function_of.result c.most_of.result c.dose_of.result
    c.has_flag.result c.has_flag-2.result c.requires.rules c.function_of.ensures c.most_of.ensures c.dose_of.ensures.is c.has_flag.ensures
    c.has_flag-2.ensures in
    record {
      rewritten = subst (λ (a : Asked). IfOk c.rewritten.result (λ m. IsRewrittenBy a bytes m.made.items m.bytes.items)) same c.rewritten.ensures.rewritten;
      fits = fits_room c.args.options.now (length bytes) c.args.room c.rewritten.result
          (subst (λ (n : ℕ). IfOk c.rewritten.result (λ m. Fits n m.made.items m.bytes.items)) c.most_of.ensures c.rewritten.ensures.fits);
      refused = subst (λ (a : Asked). IfErr c.rewritten.result (IsRefusedFor a bytes)) same c.rewritten.ensures.refused;
    }
