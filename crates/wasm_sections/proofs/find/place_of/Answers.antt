use Rattle.std.proofs.Common.{sym, ◌∙◌}
use Rattle.std.proofs.lemmas.List.{at_drop_all}
use Rattle.wasm_sections.specs.Reader.{place_from}
use Rattle.wasm_sections.proofs.FindLemmas.{place_is}
use Rattle.wasm_sections.proofs.find.place_of.Goals as goal

pub returns : goal.returns
returns c bytes m lack other =
    let all = at_drop_all (place_from c.loop-section.place c.args.id) c.args.sections.now c.loop-section.section-index c.loop-section-test.false in
    place_is bytes _ _ _ (sym all ∙ c.loop-section.invariant) m lack other
