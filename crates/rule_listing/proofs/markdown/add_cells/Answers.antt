-- One text more.
use Rattle.std.proofs.Common.{string_bytes, ap, ◌∙◌, ◌++◌}
use Rattle.rule_listing.specs.Listing.{table_cell_text}
use Rattle.rule_listing.proofs.ListingLemmas.{texts_next}
use Rattle.rule_listing.proofs.markdown.add_cells.Goals as goal

pub loop-index-preserved : goal.loop-index-preserved
loop-index-preserved c =
    texts_next (λ line. string_bytes line) c.args.lines.now c.loop-index.index c.index-lines-index.result (string_bytes c.args.text.now)
    (string_bytes c.loop-index.text) (string_bytes c.add_cell.new.text) c.loop-index-test.true c.index-lines-index.is c.loop-index.invariant
    (c.in_ok-add_cell.ensures ∙ ap (λ z. string_bytes c.loop-index.text ++ table_cell_text c.loop-index.index z) c.deref.ensures)
