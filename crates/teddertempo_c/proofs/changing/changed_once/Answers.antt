-- By the generator of the seed.
use Rattle.std.proofs.Common.{ap, subst}
use Rattle.std.specs.Prelude.{IfErr}
use Rattle.rand.specs.contracts.rngs.StdRngRng.TheImpl as generator
use Rattle.rand_core.specs.Stream.{Stream}
use Rattle.module_changes.specs.Times.{IsRefusal}
use Rattle.teddertempo_c.specs.Changes.{any_change}
use Rattle.teddertempo_c.proofs.ChangesLemmas.{size_so}
use Rattle.teddertempo_c.proofs.changing.changed_once.Goals as goal

pub returns-clause-fits : goal.returns-clause-fits
returns-clause-fits c =
    size_so (any_change c.args.room) c.args.bytes.now (generator.ghosts.stream c.seed_from_u64-generator.result) c.change_module.result
    c.change_module.ensures.changed

pub returns-clause-refused : goal.returns-clause-refused
returns-clause-refused c =
    subst (λ (s : Stream). IfErr c.change_module.result (IsRefusal (any_change c.args.room) c.args.bytes.now s))
    (ap generator.ghosts.stream c.seed_from_u64-generator.ensures) c.change_module.ensures.fails
