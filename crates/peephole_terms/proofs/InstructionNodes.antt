-- A node with an instruction is what its row is.
use Rattle.std.proofs.Common.{refl}
use Rattle.std.proofs.lemmas.List.{append-nil}
use Rattle.peephole_terms.specs.Expansion.{draws}
use Rattle.peephole_terms.specs.Laws.{MeanByTheirRows}
use Rattle.peephole_terms.proofs.TermOfLemmas.{row_kind}

pub mean_by_their_rows : MeanByTheirRows
mean_by_their_rows = record {
  types = λ context h kids i e. rw (row_kind h i e) refl;
  means = λ words h kids i s e. rw (row_kind h i e) refl;
  draws = λ h kids i e. rw (row_kind h i e) (append-nil (draws kids));
}
