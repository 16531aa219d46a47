-- What is shown is of the changes that were made.
use Rattle.std.proofs.Common.{ℕ, List, ap, sym, subst}
use Rattle.rand.specs.contracts.rngs.StdRngRng.TheImpl as generator
use Rattle.module_changes.specs.declared.entry.MadeChange.{MadeChange}
use Rattle.module_commands.specs.Changing.{AreShown}
use Rattle.module_commands.proofs.ChangeShownLemmas.{are_shown}
use Rattle.module_commands.proofs.changing.drawn.Goals as goal

pub returns-in_ok-module-in-Ok-change_module-clause-shown : goal.returns-in_ok-module-in-Ok-change_module-clause-shown
returns-in_ok-module-in-Ok-change_module-clause-shown g c =
    let show = c.args.options.now.show in
    let made = c.in-Ok-change_module.new.made.items in
    let shown = c.in_ok-shown-in-Ok-change_module.shown.items in
    let all : AreShown show made c.change_module.new.watch.text.items =
    are_shown c.change_scope-scope.result
    (record { bytes = c.args.bytes.now; stream = generator.ghosts.stream c.seed_from_u64-generator.result; watcher = c.new-shower.result }) made
    (record { bytes = c.in-Ok-change_module.new.bytes.items; stream = c.in-Ok-change_module.ensures.seen.left; watcher = c.change_module.new.watch }) show
    c.in-Ok-change_module.ensures.seen.each c.in_ok-shown-in-Ok-change_module.ensures.text.1 c.new-shower.ensures.wanted c.new-shower.ensures.text in
    subst (λ (ms : List MadeChange). AreShown show ms shown) (sym c.in_ok-module-in-Ok-change_module.ensures.made)
    (subst (λ (text : List ℕ). AreShown show made text) (sym (ap (λ v. v.items) c.in_ok-shown-in-Ok-change_module.ensures.text.0)) all)
