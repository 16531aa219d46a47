use Rattle.peephole_lang.proofs.laws.matching_are_equal.Goals as goal

pub returns : goal.returns
returns g c = λ l m e same. g.met.L.Language.determined l m ((g.met.L.Language.matches_exactly l m).0 e).0 same
