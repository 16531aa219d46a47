-- What was read of both modules.
use Rattle.module_changes.specs.Spliced.{AreModules, SplicesOne}
use Rattle.module_changes.proofs.TimesLemmas.{splice_refuses}
use Rattle.module_changes.proofs.splicing.splice_module.Goals as goal

pub returns-in-Ok-change_chosen-clause-spliced : goal.returns-in-Ok-change_chosen-clause-spliced
returns-in-Ok-change_chosen-clause-spliced g c =
    let are : AreModules c.args.bytes.now c.args.other.now = record {
      info = c.in-Ok.module.info;
      layout = c.in-Ok.module.layout;
      is = c.in-Ok.ensures.read;
      exact = c.in-Ok.ensures.unmarked;
      others = c.in-Ok-read_module.others.info;
      others_layout = c.in-Ok-read_module.others.layout;
      other_is = c.in-Ok-read_module.ensures.read;
    } in
    record { are = are; chooses = c.in-Ok-change_chosen.ensures.chosen }

pub returns-in-Ok-change_chosen-clause-valid : goal.returns-in-Ok-change_chosen-clause-valid
returns-in-Ok-change_chosen-clause-valid g c =
    let are : AreModules c.args.bytes.now c.args.other.now = record {
      info = c.in-Ok.module.info;
      layout = c.in-Ok.module.layout;
      is = c.in-Ok.ensures.read;
      exact = c.in-Ok.ensures.unmarked;
      others = c.in-Ok-read_module.others.info;
      others_layout = c.in-Ok-read_module.others.layout;
      other_is = c.in-Ok-read_module.ensures.read;
    } in
    let splices : SplicesOne c.args.scope.now c.args.bytes.now c.args.other.now (g.R.Rng.stream c.args.generator.now) c.in-Ok-change_chosen.step.made
    c.in-Ok-change_chosen.step.bytes.items (g.R.Rng.stream c.change_chosen.new.generator) =
    record { are = are; chooses = c.in-Ok-change_chosen.ensures.chosen } in
    c.changed_modules_stay_valid.ensures.spliced c.args.scope.now c.args.bytes.now c.args.other.now c.in-Ok-change_chosen.step.bytes.items
    (g.R.Rng.stream c.args.generator.now) (g.R.Rng.stream c.change_chosen.new.generator) c.in-Ok-change_chosen.step.made splices

pub returns-clause-fails : goal.returns-clause-fails
returns-clause-fails g c =
    splice_refuses c.args.scope.now c.args.bytes.now c.args.other.now (g.R.Rng.stream c.args.generator.now) (record {
      info = c.in-Ok.module.info;
      layout = c.in-Ok.module.layout;
      is = c.in-Ok.ensures.read;
      exact = c.in-Ok.ensures.unmarked;
      others = c.in-Ok-read_module.others.info;
      others_layout = c.in-Ok-read_module.others.layout;
      other_is = c.in-Ok-read_module.ensures.read;
    }) c.in-Err-change_chosen.refusal c.in-Err-change_chosen.ensures.none
