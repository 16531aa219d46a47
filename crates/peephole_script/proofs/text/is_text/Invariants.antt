use Rattle.std.proofs.Common.{◌≡◌, take}
use Rattle.peephole_script.specs.Text.{is_text}
use Rattle.peephole_script.proofs.text.is_text.Given as goal

-- whether the bytes so far are text
abbrev pub invariant-loop-b : goal.invariant-loop-b
invariant-loop-b l = l.text ≡ is_text (take l.b-index l.line)
