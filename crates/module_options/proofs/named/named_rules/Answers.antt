-- One name after another.
use Rattle.std.proofs.Common.{inr, refl}
use Rattle.module_options.proofs.OptionsLemmas.{named_more, names_none}
use Rattle.module_options.proofs.named.named_rules.Goals as goal

pub returns-in_default-clause-unknown : goal.returns-in_default-clause-unknown
returns-in_default-clause-unknown c = inr (refl, names_none c.args.names.now c.loop-name.name-index _ c.loop-name-test.true c.in_default.ensures.none)

pub loop-name-preserved : goal.loop-name-preserved
loop-name-preserved c =
    named_more c.args.names.now c.loop-name.name-index _ c.loop-name.rules.items c.push.new.self.items c.in-Some.rule c.loop-name-test.true
    c.loop-name.invariant c.in-Some.ensures.some c.in_ok-push.ensures.items
