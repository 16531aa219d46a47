-- The number of the rule.
use Rattle.teddertempo_c.proofs.NamingLemmas.{is_number, number_names}
use Rattle.teddertempo_c.proofs.teddertempo_rule_number.Goals as goal

pub returns-in-Some : goal.returns-in-Some
returns-in-Some c = record {
  known = λ some. number_names c.in-Some.rule c.number.result c.number.ensures c.args.name.now c.in-Some.ensures.some;
  unknown = λ most. absurd (is_number c.in-Some.rule c.number.result c.number.ensures c.rows_are_few.ensures most);
}
