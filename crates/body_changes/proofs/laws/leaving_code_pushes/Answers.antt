-- Each instruction pushes what its row gives.
use Rattle.body_changes.proofs.TypedLemmas.{leaving_pushes}
use Rattle.body_changes.proofs.laws.leaving_code_pushes.Goals as goal

pub returns : goal.returns
returns c =
    leaving_pushes (record { push = c.typed_rows_check.ensures.push; on = c.typed_rows_check.ensures.on; stay = c.typed_rows_check.ensures.stay })
