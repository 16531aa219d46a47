use Rattle.std.proofs.Common.{◌≡◌, ◌∙◌, ◌<◌, sym, length, arith, Some}
use Rattle.peephole_script.specs.Text.{texts, number_of}
use Rattle.peephole_commands.proofs.Steps.{only_is, point_is}
use Rattle.peephole_commands.proofs.session.Session.at.Goals as goal
use Rattle.peephole_commands.proofs.session.Session.at.Goals.{then-is_some, else-is_some}

pub returns : goal.returns
returns c =
    let body : c.args.self.now.body ≡ Some c.in-Some-body.body = rw (← c.self.view_is) c.in-Some-body.is in
    let same : c.in-Some-body.body ≡ c.if-is_some.body =
    elim c.if-is_some.branch [ then-is_some w ↦ cc (w.body-is, w.keep_starts.ensures) | else-is_some w ↦ cc w.body-is ] in
    let below : c.in-Some.number < length c.in-Some-body.body.operators = omega arith in
    rw (
      only_is number_of (texts c.args.arguments.now) _ c.in_ok-only.ensures ∙ sym c.in-Some.ensures,
      point_is c.args.self.now c.in-Some.number c.in-Some-body.body body below,
    )
    (rw (← c.self.view_is, c.new.ensures, c.in_ok-line.ensures, c.range_at.ensures, c.in-Some-body.is, same))
