use Rattle.std.proofs.Common.{length, arith}
use Rattle.wasm_sections.specs.lemmas.ChangeLemmas.{replaced}
use Rattle.wasm_sections.proofs.laws.replaced_section.Goals as goal

pub returns : goal.returns
returns c bytes contents before behind s m other lt = replaced bytes contents before behind s m other
    (c.shortest_is_a_spelling.ensures.unsigned 32 (length contents) (omega arith) (omega arith) lt)
