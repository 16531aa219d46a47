use Rattle.std.proofs.Common.{ap, ◌∙◌}
use Rattle.std.specs.Prelude.{slice_get}
use Rattle.std.proofs.lemmas.Option.{slice_get-map}
use Rattle.peephole_nodes.specs.Variants.{variants}
use Rattle.peephole_lang.specs.VariantRows.{variant_row}
use Rattle.peephole_lang.specs.laws.TableLemmas.{same_rows}
use Rattle.peephole_lang.proofs.names.variant_row_at.Goals as goal

pub returns : goal.returns
returns c = c.variant_row_in.ensures ∙ ap (λ rows. slice_get rows c.args.place) same_rows ∙ slice_get-map variant_row variants c.args.place
