use Rattle.std.proofs.Common.{sym, ap, ◌∙◌}
use Rattle.peephole_lang.specs.VariantRows.{variant_row_given}
use Rattle.peephole_lang.proofs.SearchLemmas.{no_place, at_place, has_variant_row, has_front, variant_and_text}
use Rattle.peephole_lang.proofs.names.find.Goals as goal

pub returns-in_err-place : goal.returns-in_err-place
returns-in_err-place c = ap variant_row_given c.from_residual.ensures ∙ no_place c.args.text.now (sym c.in_err-place.was ∙ c.place_of.ensures)

pub unwrap-variant-requires : goal.unwrap-variant-requires
unwrap-variant-requires c =
    let f = at_place c.in_ok-place.place c.args.text.now (sym c.in_ok-place.was ∙ c.place_of.ensures) in
    has_variant_row _ _ _ f c.variant_row_at.ensures

pub unwrap-payload_text-requires : goal.unwrap-payload_text-requires
unwrap-payload_text-requires c =
    let f = at_place c.in_ok-place.place c.args.text.now (sym c.in_ok-place.was ∙ c.place_of.ensures) in
    has_front _ _ _ _ f c.front_at.ensures c.strip_prefix.ensures.cases

pub returns : goal.returns
returns c =
    let f = at_place c.in_ok-place.place c.args.text.now (sym c.in_ok-place.was ∙ c.place_of.ensures) in
    let is_variant = sym c.unwrap-variant.ensures ∙ c.variant_row_at.ensures in
    variant_and_text _ _ c.front_at.result.now _ c.strip_prefix.result _ f is_variant c.front_at.ensures c.strip_prefix.ensures.cases
    c.unwrap-payload_text.ensures
