use Rattle.std.proofs.Common.{◌≡◌, ◌+◌, ◌≤◌, ◌<◌, length, take, sym, ◌∙◌, arith}
use Rattle.rewrite_rules.specs.Table.{ROWS}
use Rattle.rewrite_rules.specs.Names.{begins, given}
use Rattle.rewrite_rules.proofs.NameLemmas.{one_more, no_more, rule_here, one_longer, rules_more, rules_are, few_rows}
use Rattle.rewrite_rules.proofs.names.rules_of_rows.Goals as goal
use Rattle.rewrite_rules.proofs.names.rules_of_rows.Goals.{in-Some, in_default}

pub overflow_add-count : goal.overflow_add-count
overflow_add-count c = let few = few_rows in omega arith

pub loop-index-preserved : goal.loop-index-preserved
loop-index-preserved c =
    let i = c.loop-index.index in
    let count = c.loop-index.count in
    let h = c.loop-index.invariant in
    let within : i < length ROWS = omega arith in
    let counted : c.match-name_at.count ≡ length (given (take (i + 1) begins)) = elim c.match-name_at.branch [
      | in-Some w ↦ w.count-is ∙ one_more begins i count _ h.counted (sym w.in-Some.ensures)
      | in_default w ↦ w.count-is ∙ no_more begins i count h.counted (sym w.in_default.ensures)
    ] in
    let few : c.match-name_at.count ≤ i + 1 = elim c.match-name_at.branch [
      | in-Some w ↦ omega arith
      | in_default w ↦ omega arith
    ] in
    let rule = c.saturating_sub.result in
    let rules = c.loop-index.rules.items in
    let more = c.in_ok-push.ensures.items in
    record {
      counted = counted;
      few = few;
      long = one_longer rules c.push.new.self.items i rule more h.long;
      are = rules_more rules c.push.new.self.items i rule more h.long (rule_here i c.match-name_at.count rule within counted c.saturating_sub.ensures) h.are;
    }

pub returns : goal.returns
returns c =
    let l : length ROWS ≤ c.loop-index.index = omega arith in
    rules_are c.loop-index.rules.items c.loop-index.index c.loop-index.invariant.long l c.loop-index.invariant.are
