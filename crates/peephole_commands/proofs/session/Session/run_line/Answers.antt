use Rattle.std.proofs.Common.{sym}
use Rattle.peephole_script.proofs.Lines.{text_is_utf8}
use Rattle.peephole_commands.proofs.session.Session.run_line.Goals as goal

pub returns-in_default : goal.returns-in_default
returns-in_default c = absurd (c.in_default.ensures.cases.0 (text_is_utf8 c.args.line.now (sym c.if-not-is_text.ensures)))
