-- One of the names is the rule's.
use Rattle.std.proofs.Common.{sym}
use Rattle.module_options.proofs.OptionsLemmas.{named_here}
use Rattle.module_options.proofs.named.is_named.Goals as goal

pub returns-then-eq : goal.returns-then-eq
returns-then-eq c =
    sym (named_here c.args.names.now c.loop-name.name-index _ c.args.rule c.name-own.result.now c.eq.result c.loop-name-test.true c.name-own.ensures
    c.eq.ensures c.if-eq.true)
