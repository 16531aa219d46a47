-- What was reported is of the module that was written.
use Rattle.std.proofs.Common.{◌∙◌, ℕ, List, ap, subst}
use Rattle.std.specs.Io.KnownBytes.{Appends}
use Rattle.module_commands.specs.Reports.{rewrites_report}
use Rattle.module_options.specs.Form.{output_form_of}
use Rattle.module_options.specs.declared.form.Form.{Form}
use Rattle.module_commands.proofs.TurnLemmas.{appends_more}
use Rattle.module_commands.proofs.running.write_reported.Goals as goal

pub returns-clause-reported : goal.returns-clause-reported
returns-clause-reported g c =
    let new = c.in_ok-new.new in
    let between = g.E.Write.contents c.report_module.new.notes in
    let middle = g.E.Write.contents c.write_all.new.self in
    let behind = g.E.Write.contents c.write_all-2.new.self in
    let count = new.count in
    let report = rewrites_report (output_form_of c.args.options.now) count c.args.bytes.now new.module.made.items new.module.stopped new.module.bytes.items in
    record {
      writes = record {
        made = new.module.made.items;
        stopped = new.module.stopped;
        written_bytes = new.module.bytes.items;
        count = count;
        outcome = c.in_ok-new.ensures.outcome;
        written = subst (λ (text : List ℕ). Appends (g.W.Write.contents c.args.output.now) (g.W.Write.contents c.write_bytes.new.output) text)
            c.deref.ensures.value c.in_ok-write_bytes.ensures.written;
        ending_is = c.ending_of.ensures;
      };
      between = between;
      before = c.in_ok-report_module.ensures.reports;
      shown = new.shown.items;
      is_shown = c.in_ok-new.ensures.shown;
      rewrites = appends_more between middle behind new.shown.items report
          (subst (λ (text : List ℕ). Appends between middle text) c.deref-2.ensures.value c.in_ok-write_all.ensures.bytes)
          (subst (λ (text : List ℕ). Appends middle behind text) (c.deref-3.ensures.value ∙ (c.in_ok-report.ensures.report
          ∙ ap (λ (form : Form). rewrites_report form count c.args.bytes.now new.module.made.items new.module.stopped new.module.bytes.items) c.form.ensures))
          c.in_ok-write_all-2.ensures.bytes);
    }
