-- By the generator of the seed.
use Rattle.std.proofs.Common.{ap, subst}
use Rattle.std.specs.Prelude.{IfErr}
use Rattle.rand.specs.contracts.rngs.StdRngRng.TheImpl as generator
use Rattle.rand_core.specs.Stream.{Stream}
use Rattle.module_changes.specs.Spliced.{IsSpliceRefusal}
use Rattle.teddertempo_c.specs.Splices.{copies_alone}
use Rattle.teddertempo_c.proofs.SplicesLemmas.{size_so, spliced_so}
use Rattle.teddertempo_c.proofs.splicing.spliced_once.Goals as goal

pub returns-clause-spliced : goal.returns-clause-spliced
returns-clause-spliced c =
    spliced_so c.args.seed c.args.room c.args.bytes.now c.args.other.now (generator.ghosts.stream c.seed_from_u64-generator.result)
    (generator.ghosts.stream c.splice_module.new.generator) c.splice_module.result
    (ap generator.ghosts.stream c.seed_from_u64-generator.ensures) c.splice_module.ensures.spliced c.splice_module.ensures.valid

pub returns-clause-fits : goal.returns-clause-fits
returns-clause-fits c =
    size_so (copies_alone c.args.room) c.args.bytes.now c.args.other.now (generator.ghosts.stream c.seed_from_u64-generator.result)
    (generator.ghosts.stream c.splice_module.new.generator) c.splice_module.result c.splice_module.ensures.spliced

pub returns-clause-refused : goal.returns-clause-refused
returns-clause-refused c =
    subst (λ (s : Stream). IfErr c.splice_module.result (IsSpliceRefusal (copies_alone c.args.room) c.args.bytes.now c.args.other.now s))
    (ap generator.ghosts.stream c.seed_from_u64-generator.ensures) c.splice_module.ensures.fails
