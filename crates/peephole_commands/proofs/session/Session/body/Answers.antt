use Rattle.peephole_commands.proofs.Steps.{body_is}
use Rattle.peephole_script.specs.Text.{texts}
use Rattle.peephole_commands.proofs.session.Session.body.Goals as goal

pub returns-in-Ok : goal.returns-in-Ok
returns-in-Ok c =
    rw (body_is c.args.self.now (texts c.args.arguments.now) _ c.in-Ok.body c.in_ok-bytes.ensures c.in-Ok.ensures)
    (rw (← c.self.view_is, c.new.ensures, c.new-in-Ok.ensures.items))
