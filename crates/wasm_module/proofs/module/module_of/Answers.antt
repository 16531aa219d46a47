use Rattle.std.proofs.Common.{ap, ◌∙◌}
use Rattle.wasm_lists.specs.Types.{types_in}
use Rattle.wasm_module.specs.Lists.{Listed}
use Rattle.wasm_module.proofs.ModuleLemmas.{module_is}
use Rattle.wasm_module.proofs.module.module_of.Goals as goal

pub returns-clause-is : goal.returns-clause-is
returns-clause-is c =
    module_is c.args.exact c.args.bytes.now c.args.sections.items c.args.listed _ _ _ _ _ _ _ _ _ c.requires.spells c.requires.listed c.requires.count
    (c.in_ok-types_map.ensures ∙ ap types_in (c.into_items.ensures ∙ ap (λ (l : Listed). l.types.items) c.listed.view_is))
    c.in_ok-function_map.ensures.all c.in_ok-table_types.ensures
    c.in_ok-memory_types.ensures c.in_ok-global_types.ensures c.in_ok-function_map.ensures.imported c.global_count-own_globals.ensures
    (ap (λ (l : Listed). l.entries) c.listed.view_is) c.unknown_of-unknown.ensures
