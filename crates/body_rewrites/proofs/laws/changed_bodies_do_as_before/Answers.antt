use Rattle.body_rewrites.proofs.ChangedLemmas.{changed_bodies_do_as_before}
use Rattle.body_rewrites.proofs.laws.changed_bodies_do_as_before.Goals as goal

pub returns : goal.returns
returns c =
    changed_bodies_do_as_before c.spliced_operators_are.ensures c.splices_keep_operators.ensures.operators c.splices_keep_operators.ensures.structure
    c.read_code_has_no_handlers.ensures
