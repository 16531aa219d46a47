use Rattle.std.proofs.Common.{◌≡◌, ◌∙◌, ap, refl, length, arith}
use Rattle.peephole_lang.specs.Making.{is_made}
use Rattle.peephole_lang.specs.Names.{find_in}
use Rattle.peephole_nodes.specs.Variants.{variants}
use Rattle.peephole_lang.proofs.TextLemmas.{is_a_node}
use Rattle.peephole_lang.proofs.lang.Lang.from_op_str.Goals as goal

pub unwrap-requires : goal.unwrap-requires
unwrap-requires c =
    let whole = c.args.children.ok.0 in
    let len = c.len.ensures in
    let counted : length c.args.children.items ≡ c.len.result = omega (arith, whole, len) in
    c.make.ensures.complete
    ∙ (ap (is_made c.in-Some.variant.place c.in_ok-payload-in-Some.payload) counted
    ∙ is_a_node (find_in variants c.args.text.now) c.args.text.now c.in-Some.variant c.in-Some.payload_text.now c.in_ok-payload-in-Some.payload
    c.len.result refl c.in-Some.ensures
    c.in_ok-payload-in-Some.ensures)
