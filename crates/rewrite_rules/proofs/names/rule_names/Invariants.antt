-- Those of the lines so far.
use Rattle.std.proofs.Common.{◌≡◌, List, take, ℕ}
use Rattle.std.specs.Prelude.{map}
use Rattle.std.specs.Borrow.{Bor}
use Rattle.rewrite_rules.specs.Names.{begins, given}
use Rattle.rewrite_rules.proofs.names.rule_names.Given as goal

abbrev pub invariant-loop-index : goal.invariant-loop-index
invariant-loop-index l = map (λ (name : Bor (List ℕ)). name.now) l.list.items ≡ given (take l.index begins)
