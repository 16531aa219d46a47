use Rattle.std.proofs.Common.{◌≡◌, map, length}
use Rattle.std.specs.Prelude.{filter, not, ◌==◌}
use Rattle.peephole_script.proofs.text.words_of.Given as goal

-- the words so far are the parts so far that aren't empty
abbrev pub invariant-loop-word : goal.invariant-loop-word
invariant-loop-word l = map (λ word. word.now) l.words.items ≡ filter (λ word. not (length word == 0)) (map (λ word. word.now) l.yielded)
