-- It stands in the table.
use Rattle.std.proofs.Common.{sym, ◌∙◌}
use Rattle.std.proofs.lemmas.Bool.{false≢true}
use Rattle.body_rewrites.proofs.OperatorLemmas.{i64_fits}
use Rattle.body_rewrites.proofs.writing.i64_constant.Goals as goal

pub unreachable-requires : goal.unreachable-requires
unreachable-requires c = absurd (false≢true (sym c.in-None.ensures.none ∙ i64_fits _))
