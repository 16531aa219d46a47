use Rattle.std.proofs.Common.{◌∙◌, sym}
use Rattle.peephole_script.specs.Text.{texts, number_of}
use Rattle.peephole_commands.proofs.Steps.{only_is}
use Rattle.peephole_commands.proofs.session.Session.word.Goals as goal

pub returns : goal.returns
returns c =
    rw (only_is number_of (texts c.args.arguments.now) _ c.in_ok-only.ensures ∙ sym c.in-Some.ensures)
    (rw (← c.self.view_is, c.in_ok-push.ensures.items, c.new.ensures.items))
