use Rattle.std.proofs.Common.{◌∙◌, sym}
use Rattle.peephole_script.specs.Arguments.{is_yes}
use Rattle.peephole_script.specs.Text.{texts}
use Rattle.peephole_commands.proofs.Steps.{only_is}
use Rattle.peephole_commands.proofs.session.Session.preserve.Goals as goal

pub returns : goal.returns
returns c =
    rw (only_is is_yes (texts c.args.arguments.now) _ c.in_ok-only.ensures ∙ sym c.in-Some.ensures)
    (rw (← c.self.view_is, c.new.ensures.items))
