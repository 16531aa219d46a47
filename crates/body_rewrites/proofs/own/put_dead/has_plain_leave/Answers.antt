-- By the operator.
use Rattle.std.proofs.Common.{sym, ◌∙◌}
use Rattle.body_rewrites.proofs.own.put_dead.has_plain_leave.Goals as goal

pub returns-clause-same : goal.returns-clause-same
returns-clause-same c = λ e. record {
  leave = record { operator = c.in-Some.operator; has = c.in-Some.ensures.some; leaves = sym c.never_goes_on.ensures ∙ e };
  plain = sym c.asks_beyond.ensures ∙ c.if-asks_beyond.false;
}
