-- By all rules, once.
use Rattle.std.proofs.Common.{subst}
use Rattle.std.specs.Prelude.{IfOk, IfErr}
use Rattle.teddertempo_c.specs.Writes.{Asked, IsRefusedFor, IsRewrittenBy}
use Rattle.teddertempo_c.proofs.AttemptLemmas.{once_same}
use Rattle.teddertempo_c.proofs.attempt.rewritten_once.Goals as goal

pub returns : goal.returns
returns c =
    let bytes = c.args.bytes.now in
    let same = once_same c.args.seed c.args.rules.now c.args.room c.requires.rules in
    record {
      rewritten = subst (λ (a : Asked). IfOk c.rewritten.result (λ m. IsRewrittenBy a bytes m.made.items m.bytes.items)) same c.rewritten.ensures.rewritten;
      fits = c.rewritten.ensures.fits;
      refused = subst (λ (a : Asked). IfErr c.rewritten.result (IsRefusedFor a bytes)) same c.rewritten.ensures.refused;
    }
