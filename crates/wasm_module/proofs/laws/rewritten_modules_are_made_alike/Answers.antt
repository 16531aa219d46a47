use Rattle.std.proofs.Common.{arith}
use Rattle.wasm_module.proofs.InstanceLemmas.{rewritten_is_made, stripped_is_made, making_of}
use Rattle.wasm_module.proofs.laws.rewritten_modules_are_made_alike.Goals as goal

pub returns : goal.returns
returns c = record {
  rewritten = λ bytes info layout n contents more new sections making m r spells made.
      rewritten_is_made bytes info layout n contents more new sections making
      (λ k lt. c.shortest_is_a_spelling.ensures.unsigned 32 k (omega arith) (omega arith) lt)
      (λ ss is. c.one_module.ensures new ss sections is spells) m r made;
  stripped = λ bytes new sections left making w spells made. stripped_is_made bytes new sections left making (record {
    none = λ id lack. c.other_sections_stay.ensures.none bytes new sections left id w spells lack;
    first = λ id contents other h. c.other_sections_stay.ensures.first bytes new contents sections left id w spells other h;
  }) made;
  made = λ bytes info layout m. making_of bytes info layout m;
}
