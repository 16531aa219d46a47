use Rattle.body_rewrites.proofs.ToldGrowthLemmas.{any_word, growths_are_told}
use Rattle.body_rewrites.proofs.laws.growths_are_told.Goals as goal

pub returns : goal.returns
returns c = record {
  told = growths_are_told c.table_is_right.ensures c.holes_are_told.ensures c.sides_are_parts.ensures c.parts_are_the_code.ensures
      c.besides_keep_code.ensures;
  any_word = any_word;
}
