use Rattle.std.proofs.Common.{length, arith}
use Rattle.wasm_sections.specs.lemmas.ChangeLemmas.{added}
use Rattle.wasm_sections.proofs.laws.added_section.Goals as goal

pub returns : goal.returns
returns c bytes contents ss id place m p other lt = added bytes contents ss id place m p other
    (c.shortest_is_a_spelling.ensures.unsigned 32 (length contents) (omega arith) (omega arith) lt)
