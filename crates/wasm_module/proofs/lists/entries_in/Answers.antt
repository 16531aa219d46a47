use Rattle.std.proofs.Common.{[]}
use Rattle.wasm_sections.specs.declared.id.SectionId.TheVariants as ids
use Rattle.wasm_lists.specs.Entries.{SpellsEntries}
use Rattle.wasm_module.proofs.ListedLemmas.{only_memory}
use Rattle.wasm_module.proofs.lists.entries_in.Goals as goal

pub returns-in-Some-clause-only : goal.returns-in-Some-clause-only
returns-in-Some-clause-only c xs l = only_memory [] SpellsEntries (λ v. v.items) _ _ ids.Code _ _ xs _ c.in-Some.ensures.found l c.read_entries.ensures.only
