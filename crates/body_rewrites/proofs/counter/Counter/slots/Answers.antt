-- By the type of the tree.
use Rattle.std.proofs.Common.{sym, ◌∙◌}
use Rattle.body_rewrites.specs.Asking.{all_asked}
use Rattle.body_rewrites.proofs.CounterLemmas.{sample_slots, other_slots}
use Rattle.body_rewrites.proofs.counter.Counter.slots.Goals as goal

pub returns-in-I32-clause-some : goal.returns-in-I32-clause-some
returns-in-I32-clause-some c =
    c.i32_slots.ensures ∙ sample_slots c.args.tree _ c.is_busy.result c.in-I32.is (sym c.is_busy.ensures) all_asked

pub returns-in-I64-clause-some : goal.returns-in-I64-clause-some
returns-in-I64-clause-some c =
    c.i64_slots.ensures ∙ sample_slots c.args.tree _ c.is_busy-in-I64.result c.in-I64.is (sym c.is_busy-in-I64.ensures) all_asked

pub returns-in_default : goal.returns-in_default
returns-in_default c = record { some = tt; none = other_slots c.args.tree c.in_default.not-I32 c.in_default.not-I64 all_asked }
