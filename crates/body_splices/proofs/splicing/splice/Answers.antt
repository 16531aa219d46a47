-- What is written is read again.
use Rattle.std.proofs.Common.{arith}
use Rattle.body_splices.proofs.AgainLemmas.{appends_spliced}
use Rattle.body_splices.proofs.splicing.splice.Goals as goal

pub returns-in-Ok-clause-spliced : goal.returns-in-Ok-clause-spliced
returns-in-Ok-clause-spliced c =
    appends_spliced c.code_spells.ensures (λ label fits. c.shortest_is_a_spelling.ensures.unsigned 32 label (omega arith) (omega arith) (omega (arith, fits)))
    c.args.input_wasm.now c.args.operators.now c.args.range.start c.args.range.end c.args.pieces.now c.args.newfunc.now c.put_spliced.new.sink
    c.requires.body c.requires.range c.in-Ok.ensures.ok
