use Rattle.wasm_code.specs.laws.NumberExact.{unsigned_exact}
use Rattle.wasm_lists.proofs.ItemLemmas.{type_group_exact, import_exact, memory_type_exact}
use Rattle.wasm_lists.proofs.GlobalLemmas.{table_exact, global_exact}
use Rattle.wasm_lists.proofs.ListLemmas.{one_list}
use Rattle.wasm_lists.proofs.KnownLemmas.{one_known}
use Rattle.wasm_lists.proofs.EntryLemmas.{one_list_of_entries}
use Rattle.wasm_lists.proofs.LocalLemmas.{same_locals}
use Rattle.wasm_lists.proofs.laws.one_list.Goals as goal

pub returns-clause-types : goal.returns-clause-types
returns-clause-types c start text known other s t = one_known type_group_exact start text known other s t

pub returns-clause-imports : goal.returns-clause-imports
returns-clause-imports c start text known other s t = one_known import_exact start text known other s t

pub returns-clause-functions : goal.returns-clause-functions
returns-clause-functions c text xs ys s t = one_list (unsigned_exact 32) text xs ys s t

pub returns-clause-tables : goal.returns-clause-tables
returns-clause-tables c start text known other s t = one_known (table_exact c.parts_are_read.ensures.operators) start text known other s t

pub returns-clause-memories : goal.returns-clause-memories
returns-clause-memories c start text known other s t = one_known memory_type_exact start text known other s t

pub returns-clause-globals : goal.returns-clause-globals
returns-clause-globals c start text known other s t = one_known (global_exact c.parts_are_read.ensures.operators) start text known other s t

pub returns-clause-entries : goal.returns-clause-entries
returns-clause-entries c start text xs ys s t = one_list_of_entries start text xs ys s t

pub returns-clause-locals : goal.returns-clause-locals
returns-clause-locals c params start text types others expression place s t = same_locals params start text types others expression place s t
