use Rattle.std.proofs.Common.{◌≡◌, drop}
use Rattle.peephole_script.specs.Arguments.{all_of, type_of}
use Rattle.peephole_script.specs.Text.{texts}
use Rattle.peephole_script.proofs.Values.{after_front}
use Rattle.peephole_script.proofs.arguments.types_of.Given as goal

-- the types so far and those of the words that are left are those of all words
abbrev pub invariant-loop-word : goal.invariant-loop-word
invariant-loop-word l = after_front l.types.items (all_of type_of (texts (drop l.word-index l.words))) ≡ all_of type_of (texts l.words)
