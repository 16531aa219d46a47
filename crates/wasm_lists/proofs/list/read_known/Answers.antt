use Rattle.wasm_lists.proofs.KnownLemmas.{known_found, known_fault, known_only}
use Rattle.wasm_lists.proofs.list.read_known.Goals as goal

pub returns-clause-found : goal.returns-clause-found
returns-clause-found g c = known_found c.items_are_read.ensures c.args.start c.args.contents.now c.known_of.result c.known_of.ensures.found

pub returns-clause-only : goal.returns-clause-only
returns-clause-only g c known s =
    known_only c.items_are_read.ensures c.args.start c.args.contents.now c.known_of.result known c.known_of.ensures.found c.known_of.ensures.fault s

pub returns-clause-fault : goal.returns-clause-fault
returns-clause-fault g c = known_fault c.items_are_read.ensures c.args.start c.args.contents.now c.known_of.result c.known_of.ensures.fault
