use Rattle.wasm_lists.proofs.EntryLemmas.{entries_found, entries_only, entries_fault}
use Rattle.wasm_lists.proofs.entries.read_entries.Goals as goal

pub returns-clause-found : goal.returns-clause-found
returns-clause-found c = entries_found c.args.start c.args.contents.now c.listed_entries.result c.listed_entries.ensures.found

pub returns-clause-only : goal.returns-clause-only
returns-clause-only c xs s =
    entries_only c.args.start c.args.contents.now c.listed_entries.result xs c.listed_entries.ensures.found c.listed_entries.ensures.fault s

pub returns-clause-fault : goal.returns-clause-fault
returns-clause-fault c = entries_fault c.args.start c.args.contents.now c.listed_entries.result c.listed_entries.ensures.fault
