-- The words so far as clap reads them.
use Rattle.std.proofs.Common.{◌≡◌, map, take}
use Rattle.clap.specs.Walk.{texts}
use Rattle.module_options.specs.Options.{spelled}
use Rattle.module_options.proofs.words.spelled_words.Given as goal

abbrev pub invariant-loop-word : goal.invariant-loop-word
invariant-loop-word g l = texts l.list.items ≡ map spelled (map g.S.AsStr.text (take l.word-index l.words))
