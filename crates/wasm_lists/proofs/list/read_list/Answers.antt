use Rattle.wasm_lists.proofs.ListLemmas.{found, fault, only}
use Rattle.wasm_lists.proofs.list.read_list.Goals as goal

pub returns-clause-found : goal.returns-clause-found
returns-clause-found g c = found c.items_are_read.ensures c.args.contents.now c.items_of.result c.items_of.ensures.found

pub returns-clause-only : goal.returns-clause-only
returns-clause-only g c xs s =
    only c.items_are_read.ensures c.args.start c.args.contents.now c.items_of.result xs c.items_of.ensures.found c.items_of.ensures.fault s

pub returns-clause-fault : goal.returns-clause-fault
returns-clause-fault g c = fault c.items_are_read.ensures c.args.start c.args.contents.now c.items_of.result c.items_of.ensures.fault
