-- What is shown is of the rewrites that were made.
use Rattle.std.proofs.Common.{ℕ, List, ap, sym, subst}
use Rattle.rand.specs.contracts.rngs.StdRngRng.TheImpl as generator
use Rattle.module_rewrites.specs.declared.times.MadeRewrite.{MadeRewrite}
use Rattle.module_commands.specs.Shown.{IsShown}
use Rattle.module_commands.proofs.ShownLemmas.{is_shown}
use Rattle.module_commands.proofs.mutating.rewritten.Goals as goal

pub returns-in_ok-module-in-Ok-rewrite_module-clause-shown : goal.returns-in_ok-module-in-Ok-rewrite_module-clause-shown
returns-in_ok-module-in-Ok-rewrite_module-clause-shown g c =
    let show = c.args.options.now.show in
    let made = c.in-Ok-rewrite_module.new.made.items in
    let shown = c.in_ok-shown-in-Ok-rewrite_module.shown.items in
    let all : IsShown show made c.rewrite_module.new.watch.text.items =
    is_shown c.scope-scope.result (record {
      bytes = c.args.bytes.now;
      stream = generator.ghosts.stream c.seed_from_u64-generator.result;
      watcher =
          c.new-shower.result;
    }) made
    (record { bytes = c.in-Ok-rewrite_module.new.bytes.items; stream = c.in-Ok-rewrite_module.ensures.seen.left; watcher = c.rewrite_module.new.watch }) show
    c.in-Ok-rewrite_module.ensures.seen.each c.in_ok-shown-in-Ok-rewrite_module.ensures.text.1 c.new-shower.ensures.wanted c.new-shower.ensures.text in
    subst (λ (ms : List MadeRewrite). IsShown show ms shown) (sym c.in_ok-module-in-Ok-rewrite_module.ensures.made)
    (subst (λ (text : List ℕ). IsShown show made text) (sym (ap (λ v. v.items) c.in_ok-shown-in-Ok-rewrite_module.ensures.text.0)) all)
