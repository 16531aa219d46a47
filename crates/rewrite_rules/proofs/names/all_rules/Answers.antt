-- Number by number.
use Rattle.std.proofs.Common.{arith}
use Rattle.rewrite_rules.proofs.NameLemmas.{few_names, numbered_more}
use Rattle.rewrite_rules.proofs.names.all_rules.Goals as goal

pub overflow_cast-number : goal.overflow_cast-number
overflow_cast-number c = let few = few_names in let count = c.rule_count-number-end.ensures in omega arith

pub loop-number-preserved : goal.loop-number-preserved
loop-number-preserved c =
    let more = numbered_more c.loop-number.rules.items c.push.new.self.items c.loop-number.number c.numbered.result c.in_ok-push.ensures.items
    c.loop-number.invariant.count c.numbered.ensures c.loop-number.invariant.each in
    record { count = more.0; each = more.1 }
