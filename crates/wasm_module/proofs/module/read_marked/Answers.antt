use Rattle.std.proofs.Common.{◌≡◌, rules, sym, ◌∙◌}
use Rattle.wasm_module.specs.Fault.IsModuleFault.{of_sections, of_a_list, of_memory}
use Rattle.wasm_module.proofs.ListedLemmas.{listing, listed}
use Rattle.wasm_module.proofs.module.read_marked.Goals as goal

pub returns-in_err-sections-clause-fault : goal.returns-in_err-sections-clause-fault
returns-in_err-sections-clause-fault c = search (rules, of_sections)

pub returns-in_err-listed-clause-fault : goal.returns-in_err-listed-clause-fault
returns-in_err-listed-clause-fault c = search (rules, of_a_list)

pub returns-in-Err-clause-fault : goal.returns-in-Err-clause-fault
returns-in-Err-clause-fault c = of_memory

pub returns-in_err-sections-clause-only : goal.returns-in_err-sections-clause-only
returns-in_err-sections-clause-only c info layout m mark =
    let memory = c.in_err-sections.ensures.only layout.sections m.spells in search rules

pub returns-in_err-listed-clause-only : goal.returns-in_err-listed-clause-only
returns-in_err-listed-clause-only c info layout m mark =
    let same : layout.sections ≡ c.deref.result.now = sym (c.deref.ensures.value ∙ c.in_ok-sections.ensures.only layout.sections m.spells) in
    let memory = c.in_err-listed.ensures.only (listing c.args.bytes.now info layout m) (listed c.args.bytes.now c.deref.result.now info layout m same) in
    search rules

pub returns-in_err-check_count-clause-only : goal.returns-in_err-check_count-clause-only
returns-in_err-check_count-clause-only c info layout m mark =
    let same : layout.sections ≡ c.deref-2.result.now = sym (c.deref-2.ensures.value ∙ c.in_ok-sections.ensures.only layout.sections m.spells) in
    let ok = c.in_err-check_count.ensures.only info layout m same in
    absurd cc

pub returns-in-Ok-clause-only : goal.returns-in-Ok-clause-only
returns-in-Ok-clause-only c info layout m mark =
    c.one_reading.ensures c.args.bytes.now _ _ _ _ c.in-Ok.ensures.is m (c.in-Ok.ensures.marked ∙ sym mark)
