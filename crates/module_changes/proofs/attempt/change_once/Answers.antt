-- What was read of the module.
use Rattle.std.proofs.lemmas.Result.{IfErr-weaker, IfOk-weaker}
use Rattle.module_changes.specs.Chosen.{ChoosesLater, ChoosesOne}
use Rattle.module_changes.specs.Donor.{itself}
use Rattle.module_changes.specs.Entry.{RefusesFrom}
use Rattle.module_changes.specs.Times.{IsRefusal}
use Rattle.module_changes.specs.declared.attempt.Step.{Step}
use Rattle.module_changes.proofs.TimesLemmas.{refuses}
use Rattle.module_changes.proofs.attempt.change_once.Goals as goal

pub returns-clause-chosen : goal.returns-clause-chosen
returns-clause-chosen g c =
    IfOk-weaker c.change_chosen.result
    (λ (m : Step). ChoosesLater (itself c.args.bytes.now c.in-Ok.module.info c.in-Ok.module.layout) c.args.scope.now c.args.bytes.now
    c.in-Ok.module.info c.in-Ok.module.layout (g.R.Rng.stream c.args.generator.now) m.made
    m.bytes.items (g.R.Rng.stream c.change_chosen.new.generator))
    (λ (m : Step). ChoosesOne c.args.scope.now c.args.bytes.now (g.R.Rng.stream c.args.generator.now) m.made m.bytes.items
    (g.R.Rng.stream c.change_chosen.new.generator))
    (λ m chosen. record {
      info = c.in-Ok.module.info;
      layout = c.in-Ok.module.layout;
      is = c.in-Ok.ensures.read;
      exact = c.in-Ok.ensures.unmarked;
      chooses = chosen;
    })
    c.change_chosen.ensures.chosen

pub returns-clause-fails : goal.returns-clause-fails
returns-clause-fails g c =
    IfErr-weaker c.change_chosen.result
    (RefusesFrom (itself c.args.bytes.now c.in-Ok.module.info c.in-Ok.module.layout) c.args.scope.now c.args.bytes.now c.in-Ok.module.info
    c.in-Ok.module.layout (g.R.Rng.stream c.args.generator.now))
    (IsRefusal c.args.scope.now c.args.bytes.now (g.R.Rng.stream c.args.generator.now))
    (refuses c.args.scope.now c.args.bytes.now c.in-Ok.module.info c.in-Ok.module.layout (g.R.Rng.stream c.args.generator.now) c.in-Ok.ensures.read
    c.in-Ok.ensures.unmarked)
    c.change_chosen.ensures.none
