-- The unit in the list that ends right before this one.
use Rattle.std.proofs.Common.{None, sym, ◌∙◌}
use Rattle.body_changes.proofs.StatementLemmas.{no_statement, no_statement_given, statement_there}
use Rattle.body_changes.proofs.kinds.statements.statement_before.Goals as goal

pub returns-in_err-before-clause-none : goal.returns-in_err-before-clause-none
returns-in_err-before-clause-none c =
    rw c.from_residual.ensures (no_statement c.args.place.now None c.requires c.if-place-eq0.false (λ u is. cc (c.in_err-before.was, is)))

pub returns-in-Some-clause-none : goal.returns-in-Some-clause-none
returns-in-Some-clause-none c =
    no_statement_given c.args.place.now None c.in_ok-before.before c.in-Some.field-0 c.requires c.if-place-eq0.false c.in_ok-before.was c.in-Some.is

pub returns-in-None-clause-some : goal.returns-in-None-clause-some
returns-in-None-clause-some c =
    statement_there c.args.place.now None c.in_ok-before.before c.requires c.if-place-eq0.false c.in_ok-before.was
    (sym c.is_some.ensures ∙ c.if-is_some.false) c.in-None.is
