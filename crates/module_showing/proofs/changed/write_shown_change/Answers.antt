-- The first line, and the others behind it.
use Rattle.module_showing.specs.Changed.{shown_change_line}
use Rattle.module_showing.proofs.ShownLemmas.{appends_more, ok_map}
use Rattle.module_showing.proofs.changed.write_shown_change.Goals as goal

pub returns-clause-shown : goal.returns-clause-shown
returns-clause-shown g c =
    let more = c.as_str.result.now in
    ok_map c.write_text.result (λ h. (
      more,
      appends_more (g.W.Write.contents c.args.output.now) (g.W.Write.contents c.write_first.new.output)
          (g.W.Write.contents c.write_text.new.output) (shown_change_line c.args.made.now) more c.in_ok-write_first.ensures.line h,
    )) c.write_text.ensures.text
