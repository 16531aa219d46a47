use Rattle.wasm_code.specs.laws.NumberExact.{unsigned_exact}
use Rattle.wasm_lists.proofs.ItemLemmas.{type_group_exact, import_exact, memory_type_exact}
use Rattle.wasm_lists.proofs.GlobalLemmas.{table_exact, global_exact}
use Rattle.wasm_lists.proofs.EntryLemmas.{sized_exact}
use Rattle.wasm_lists.proofs.ListLemmas.{no_list_fault}
use Rattle.wasm_lists.proofs.KnownLemmas.{no_known_fault}
use Rattle.wasm_lists.proofs.laws.lists_have_no_fault.Goals as goal

pub returns-clause-types : goal.returns-clause-types
returns-clause-types c start text known s fault offset f = no_known_fault type_group_exact start text known s fault offset f

pub returns-clause-imports : goal.returns-clause-imports
returns-clause-imports c start text known s fault offset f = no_known_fault import_exact start text known s fault offset f

pub returns-clause-functions : goal.returns-clause-functions
returns-clause-functions c start text xs s fault offset f = no_list_fault (unsigned_exact 32) start text xs s fault offset f

pub returns-clause-tables : goal.returns-clause-tables
returns-clause-tables c start text known s fault offset f = no_known_fault (table_exact c.parts_are_read.ensures.operators) start text known s fault offset f

pub returns-clause-memories : goal.returns-clause-memories
returns-clause-memories c start text known s fault offset f = no_known_fault memory_type_exact start text known s fault offset f

pub returns-clause-globals : goal.returns-clause-globals
returns-clause-globals c start text known s fault offset f =
    no_known_fault (global_exact c.parts_are_read.ensures.operators) start text known s fault offset f

pub returns-clause-entries : goal.returns-clause-entries
returns-clause-entries c start text entries s fault offset f = no_list_fault sized_exact start text s.sizes s.list fault offset f
