use Rattle.rewrite_rules.proofs.beside.BesideLemmas.{besides_keep_code}
use Rattle.rewrite_rules.proofs.laws.besides_keep_code.Goals as goal

pub returns : goal.returns
returns c =
    besides_keep_code c.typed_rows_check.ensures.push c.typed_rows_check.ensures.on c.typed_rows_check.ensures.stay
    c.validity_goes_by_types.ensures.more c.lines_keep_code.ensures
