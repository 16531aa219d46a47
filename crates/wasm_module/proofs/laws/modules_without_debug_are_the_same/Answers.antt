use Rattle.wasm_module.proofs.SameModuleLemmas.{same_module}
use Rattle.wasm_module.proofs.laws.modules_without_debug_are_the_same.Goals as goal

pub returns : goal.returns
returns c bytes info layout new m w =
    same_module bytes info layout new (λ b ss id s spells is. c.sections_fill_the_module.ensures.found b ss id s spells is) m w (record {
      none = λ id lack. c.other_sections_stay.ensures.none bytes new layout.sections w.spells.sections id w w.spells.spells lack;
      first = λ id contents other h.
          c.other_sections_stay.ensures.first bytes new contents layout.sections w.spells.sections id w w.spells.spells other h;
    })
