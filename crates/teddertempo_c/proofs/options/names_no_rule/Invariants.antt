-- None of the bits so far is set.
use Rattle.std.proofs.Common.{◌≡◌, ℕ, ◌<◌, ◌≤◌, false, length}
use Rattle.rewrite_rules.specs.Names.{names}
use Rattle.teddertempo_c.specs.Options.{has_bit, word_of}
use Rattle.teddertempo_c.proofs.options.names_no_rule.Given as goal

abbrev pub invariant-loop-number : goal.invariant-loop-number
invariant-loop-number l = (k : ℕ) → length names ≤ k → k < l.number → has_bit (word_of l.words k) k ≡ false
