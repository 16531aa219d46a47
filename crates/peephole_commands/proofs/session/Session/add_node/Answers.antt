use Rattle.std.proofs.Common.{arith, ◌≡◌, true}
use Rattle.std.proofs.lemmas.Grind.{common_steps}
use Rattle.peephole_nodes.specs.Payload.{is_writable}
use Rattle.peephole_lang.specs.Lang.{payload_of}
use Rattle.peephole_commands.proofs.session.Session.add_node.Goals as goal

pub invariant_of-self : goal.invariant_of-self
invariant_of-self c =
    let writable : true ≡ is_writable (payload_of c.in-Ok.node) = c.if-not-is_writable.ensures in
    grind (arith, common_steps)

pub returns : goal.returns
returns c =
    let writable : true ≡ is_writable (payload_of c.in-Ok.node) = c.if-not-is_writable.ensures in
    grind (arith, common_steps)
