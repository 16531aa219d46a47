use Rattle.body_rewrites.proofs.LineStandLemmas.{line_changes_may_stand}
use Rattle.body_rewrites.proofs.laws.line_changes_may_stand.Goals as goal

pub returns : goal.returns
returns c = line_changes_may_stand c.replaced_code_is_in_one_piece.ensures c.replaced_code_stays_valid.ensures c.pieces_do_as_before.ensures
    c.table_is_right.ensures c.holes_are_told.ensures c.sides_are_parts.ensures c.parts_are_the_code.ensures c.besides_keep_code.ensures
