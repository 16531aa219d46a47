use Rattle.wasm_code.specs.laws.NumberExact.{unsigned_exact}
use Rattle.wasm_lists.proofs.ItemLemmas.{type_group_exact, import_exact, memory_type_exact, group_exact}
use Rattle.wasm_lists.proofs.GlobalLemmas.{table_exact, global_exact}
use Rattle.wasm_lists.proofs.EntryLemmas.{sized_exact}
use Rattle.wasm_lists.proofs.ListLemmas.{list_exact}
use Rattle.wasm_lists.proofs.laws.lists_are_read.Goals as goal

pub returns-clause-types : goal.returns-clause-types
returns-clause-types c = list_exact type_group_exact

pub returns-clause-imports : goal.returns-clause-imports
returns-clause-imports c = list_exact import_exact

pub returns-clause-functions : goal.returns-clause-functions
returns-clause-functions c = list_exact (unsigned_exact 32)

pub returns-clause-tables : goal.returns-clause-tables
returns-clause-tables c = list_exact (table_exact c.parts_are_read.ensures.operators)

pub returns-clause-memories : goal.returns-clause-memories
returns-clause-memories c = list_exact memory_type_exact

pub returns-clause-globals : goal.returns-clause-globals
returns-clause-globals c = list_exact (global_exact c.parts_are_read.ensures.operators)

pub returns-clause-entries : goal.returns-clause-entries
returns-clause-entries c = list_exact sized_exact

pub returns-clause-groups : goal.returns-clause-groups
returns-clause-groups c = list_exact group_exact
