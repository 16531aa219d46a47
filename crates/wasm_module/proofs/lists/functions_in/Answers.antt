use Rattle.std.proofs.Common.{[]}
use Rattle.wasm_sections.specs.declared.id.SectionId.TheVariants as ids
use Rattle.wasm_lists.specs.List.{SpellsList}
use Rattle.wasm_code.specs.Number.{SpellsUnsigned}
use Rattle.wasm_module.proofs.ListedLemmas.{only_memory}
use Rattle.wasm_module.proofs.lists.functions_in.Goals as goal

pub returns-in-Some-clause-only : goal.returns-in-Some-clause-only
returns-in-Some-clause-only c xs l =
    only_memory [] (λ _. SpellsList (SpellsUnsigned 32)) (λ v. v.items) _ _ ids.Function _ _ xs _ c.in-Some.ensures.found l c.read_list.ensures.only
