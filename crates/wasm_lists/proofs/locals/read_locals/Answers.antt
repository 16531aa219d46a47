use Rattle.wasm_lists.proofs.LocalLemmas.{locals_only}
use Rattle.wasm_lists.proofs.locals.read_locals.Goals as goal

pub returns-clause-only : goal.returns-clause-only
returns-clause-only c types expression s =
    locals_only c.args.params.now c.args.start c.args.contents.now c.locals_of.result types expression c.locals_of.ensures.found c.locals_of.ensures.fault s
