use Rattle.peephole_lang.proofs.laws.matching_have_as_many.Goals as goal

pub returns : goal.returns
returns g c = λ l m e. ((g.met.L.Language.matches_exactly l m).0 e).1
