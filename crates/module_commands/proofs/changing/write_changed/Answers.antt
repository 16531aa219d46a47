-- What is told is of the module that was written.
use Rattle.std.proofs.Common.{◌∙◌, ℕ, List, ap, subst}
use Rattle.std.specs.Io.KnownBytes.{Appends}
use Rattle.module_options.specs.Form.{output_form_of}
use Rattle.module_commands.proofs.ChangeShownLemmas.{told_text}
use Rattle.module_commands.proofs.changing.write_changed.Goals as goal

pub returns-clause-told : goal.returns-clause-told
returns-clause-told g c =
    let options = c.args.options.now in
    let new = c.in_ok-new.new in
    let between = g.E.Write.contents c.report_asked_module.new.notes in
    let behind = g.E.Write.contents c.show.new.notes in
    record {
      writes = record {
        made = new.module.made.items;
        stopped = new.module.stopped;
        written_bytes = new.module.bytes.items;
        count = new.count;
        outcome = c.in_ok-new.ensures.outcome;
        written = subst (λ (text : List ℕ). Appends (g.W.Write.contents c.args.output.now) (g.W.Write.contents c.write_bytes.new.output) text)
            c.deref.ensures.value c.in_ok-write_bytes.ensures.written;
        ending_is = c.change_ending.ensures;
      };
      between = between;
      before = c.in_ok-report_asked_module.ensures.tells;
      shown = new.shown.items;
      shown_are = c.in_ok-new.ensures.shown;
      changes = told_text options.stats options.show options.place (output_form_of options) c.args.bytes.now new.module.made.items new.module.stopped
          new.module.bytes.items
          new.shown.items c.deref-2.result.now between behind c.in_ok-new.ensures.shown (c.deref-2.ensures.value ∙ c.in_ok-told.ensures.told)
          (λ wanted. c.in_ok-show.ensures.shown (c.is_told.ensures ∙ wanted))
          (λ wanted. ap g.E.Write.contents (c.in_ok-show.ensures.quiet (c.is_told.ensures ∙ wanted)));
    }
