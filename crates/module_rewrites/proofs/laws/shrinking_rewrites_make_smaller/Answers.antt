use Rattle.module_rewrites.proofs.SmallerLemmas.{each_smaller, one_smaller}
use Rattle.module_rewrites.proofs.laws.shrinking_rewrites_make_smaller.Goals as goal

pub returns : goal.returns
returns c = record {
  one = one_smaller c.chosen_rewrites_are_wanted.ensures;
  each = λ scope count bytes new made stopped on m. each_smaller scope on bytes made new m.some m.each;
}
