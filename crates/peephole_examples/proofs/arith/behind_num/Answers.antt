use Rattle.std.proofs.Common.{sym, ◌∙◌, ◌++◌, ap}
use Rattle.std.specs.Prelude.{codes}
use Rattle.peephole_examples.proofs.ArithLemmas.{after_is, after_none}
use Rattle.peephole_examples.proofs.arith.behind_num.Goals as goal

pub returns-in-Some : goal.returns-in-Some
returns-in-Some c =
    let h = c.in-Some.ensures.cases in
    sym (after_is (codes "num.") c.args.text.now c.in-Some.digits.now (h.1.1 ∙ ap (λ x. codes "num." ++ x) (sym h.2)))

pub returns-in-None : goal.returns-in-None
returns-in-None c = sym (after_none (codes "num.") c.args.text.now c.in-None.ensures.cases)
