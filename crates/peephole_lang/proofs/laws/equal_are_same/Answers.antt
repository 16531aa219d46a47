use Rattle.std.proofs.Common.{sym}
use Rattle.peephole_lang.proofs.laws.equal_are_same.Goals as goal

pub returns : goal.returns
returns g c = λ l m. (g.met.L.Language.equal_says l m, λ same. g.met.L.Language.determined l m (sym same.0) (sym same.1))
