use Rattle.std.proofs.Common.{rules}
use Rattle.peephole_lang.specs.laws.TextLemmas.{text_is}
use Rattle.peephole_lang.proofs.text.LangDisplay.fmt.Goals as goal

pub returns-clause-writes : goal.returns-clause-writes
returns-clause-writes g c = rw (text_is c.args.self.now) (search rules)
