-- What was written stays when the device is flushed.
use Rattle.module_commands.proofs.WritesLemmas.{appends_keeps}
use Rattle.rule_listing.specs.Listing.{listing}
use Rattle.module_commands.proofs.rules.list_rules.Goals as goal

pub returns-in_ok-flush-in-Ok-clause-written : goal.returns-in_ok-flush-in-Ok-clause-written
returns-in_ok-flush-in-Ok-clause-written g c =
    let h = c.in-Ok.ensures.written in
    record {
      told = h.0;
      are = h.1;
      written = appends_keeps (g.W.Write.contents c.args.output.now) (g.W.Write.contents c.write_rules.new.output)
          (g.W.Write.contents c.flush.new.self) (listing c.args.form h.0) h.2 c.in_ok-flush-in-Ok.ensures.bytes;
    }
