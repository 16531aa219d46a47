-- What is no text is no name.
use Rattle.teddertempo_c.proofs.NamingLemmas.{no_text}
use Rattle.teddertempo_c.proofs.rule_by_name.Goals as goal

pub returns-in-Err-clause-none : goal.returns-in-Err-clause-none
returns-in-Err-clause-none c = no_text c.args.name.now c.in-Err.ensures.cases.0
