-- A module rewritten as is asked for.
use Rattle.std.proofs.Common.{ap, subst}
use Rattle.std.specs.Prelude.{IfErr, IfOk}
use Rattle.rand.specs.contracts.rngs.StdRngRng.TheImpl as generator
use Rattle.rand_core.specs.Stream.{Stream}
use Rattle.module_rewrites.specs.Attempt.{IsForSize}
use Rattle.module_rewrites.specs.Chosen.{GivesUp}
use Rattle.module_rewrites.specs.ChosenTimes.{ChoosesTimes}
use Rattle.teddertempo_c.specs.Writes.{Asked}
use Rattle.teddertempo_c.proofs.AttemptLemmas.{rewritten_so, fits_so, refused_so, uncounted}
use Rattle.teddertempo_c.proofs.attempt.rewritten.Goals as goal

pub returns-in-Err-clause-refused : goal.returns-in-Err-clause-refused
returns-in-Err-clause-refused c =
    let asked : Asked = record { seed = c.args.seed; scope = c.args.scope.now; dose = c.args.dose } in
    uncounted asked c.args.bytes.now c.in-Err.reason c.in-Err.ensures.fails c.in-Err.ensures.reading

pub returns : goal.returns
returns c =
    let scope = c.args.scope.now in
    let bytes = c.args.bytes.now in
    let result = c.rewrite_module.result in
    let asked : Asked = record { seed = c.args.seed; scope = scope; dose = c.args.dose } in
    let done = c.rewrite_module.ensures in
    let same = ap generator.ghosts.stream c.seed_from_u64-generator.ensures in
    record {
      rewritten = rewritten_so asked c.in-Ok.count bytes result done.mutated c.in-Ok.ensures.count done.does_as_before
          (subst (λ (s : Stream). IfOk result (λ m. ChoosesTimes scope bytes s m.made.items m.bytes.items m.stopped)) same done.chosen);
      fits = fits_so asked c.in-Ok.count bytes result done.mutated;
      refused = refused_so asked bytes result done.fails
          (subst (λ (s : Stream). IfErr result (λ e. IsForSize e → GivesUp scope bytes s)) same done.gives_up);
    }
