use Rattle.std.proofs.Common.{◌≡◌, ◌++◌, drop}
use Rattle.std.specs.List.{concat}
use Rattle.peephole_script.specs.Text.{texts}
use Rattle.peephole_script.proofs.arguments.join.Given as goal

-- the text so far and the words that are left are all words
abbrev pub invariant-loop-word : goal.invariant-loop-word
invariant-loop-word l = l.text.items ++ concat (texts (drop l.word-index l.words)) ≡ concat (texts l.words)
