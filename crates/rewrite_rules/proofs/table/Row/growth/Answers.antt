use Rattle.rewrite_rules.proofs.GrowingLemmas.{by_steps}
use Rattle.rewrite_rules.proofs.table.Row.growth.Goals as goal

pub returns : goal.returns
returns c = record {
  of_lines = λ k t at formed. let told = by_steps c.holes_are_told.ensures c.args.self.now t formed in cc;
  of_own = λ own is. absurd (c.in_default.not-Own own is);
}
