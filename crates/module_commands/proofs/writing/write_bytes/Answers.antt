-- What was written stays when the device is flushed.
use Rattle.module_commands.proofs.WritesLemmas.{appends_keeps}
use Rattle.module_commands.proofs.writing.write_bytes.Goals as goal

pub returns-clause-written : goal.returns-clause-written
returns-clause-written g c =
    appends_keeps (g.W.Write.contents c.args.output.now) (g.W.Write.contents c.write_all.new.self) (g.W.Write.contents c.flush.new.self)
    c.args.bytes.now c.in_ok-write_all.ensures.bytes c.in_ok-flush.ensures.bytes
