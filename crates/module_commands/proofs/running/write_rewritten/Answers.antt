-- What is shown is of the module that was written.
use Rattle.std.proofs.Common.{ℕ, List, subst, ap}
use Rattle.std.specs.Io.KnownBytes.{Appends}
use Rattle.module_commands.proofs.ShownLemmas.{shown_text}
use Rattle.module_commands.proofs.running.write_rewritten.Goals as goal

pub returns-clause-shown : goal.returns-clause-shown
returns-clause-shown g c =
    let new = c.in_ok-new.new in
    let before = g.E.Write.contents c.args.notes.now in
    let behind = g.E.Write.contents c.show.new.notes in
    record {
      writes = record {
        made = new.module.made.items;
        stopped = new.module.stopped;
        written_bytes = new.module.bytes.items;
        count = new.count;
        outcome = c.in_ok-new.ensures.outcome;
        written = subst (λ (text : List ℕ). Appends (g.W.Write.contents c.args.output.now) (g.W.Write.contents c.write_bytes.new.output) text)
            c.deref.ensures.value c.in_ok-write_bytes.ensures.written;
        ending_is = c.ending_of.ensures;
      };
      text = new.shown.items;
      is_shown = c.in_ok-new.ensures.shown;
      written = shown_text c.args.options.now.show new.module.made.items new.shown.items before behind c.in_ok-new.ensures.shown
          (λ wanted. subst (λ (text : List ℕ). Appends before behind text) c.deref-2.ensures.value (c.in_ok-show.ensures.shown wanted))
          (λ wanted. ap g.E.Write.contents (c.in_ok-show.ensures.quiet wanted));
    }
