-- One line more.
use Rattle.std.proofs.Common.{string_bytes, ap, ◌∙◌, ◌++◌}
use Rattle.rule_listing.specs.Listing.{text_line}
use Rattle.rule_listing.proofs.ListingLemmas.{lines_next}
use Rattle.rule_listing.proofs.text.add_lines.Goals as goal

pub loop-index-preserved : goal.loop-index-preserved
loop-index-preserved c =
    lines_next (λ line. string_bytes line) c.args.lines.now c.loop-index.index c.index-lines-index.result (string_bytes c.args.text.now)
    (string_bytes c.loop-index.text) (string_bytes c.add_line.new.text) c.loop-index-test.true c.index-lines-index.is c.loop-index.invariant
    (c.in_ok-add_line.ensures ∙ ap (λ z. string_bytes c.loop-index.text ++ text_line z) c.deref.ensures)
