use Rattle.peephole_terms.proofs.SameAnswersLemmas.{same_terms, same_bodies}
use Rattle.peephole_terms.proofs.laws.equal_calls_answer_the_same.Goals as goal

pub returns-clause-terms : goal.returns-clause-terms
returns-clause-terms c = same_terms

pub returns-clause-bodies : goal.returns-clause-bodies
returns-clause-bodies c = same_bodies
