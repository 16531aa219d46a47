-- One function more.
use Rattle.std.proofs.Common.{◌≡◌, ◌≤◌, ℕ, length, refl, subst, arith}
use Rattle.std.proofs.lemmas.Grind.{common_steps}
use Rattle.module_commands.specs.Reach.{AreOfEntries, ToldReach}
use Rattle.module_commands.proofs.ReachLemmas.{told_more, told_nothing}
use Rattle.module_commands.proofs.reach.reach_of.Goals as goal

pub loop-n-init : goal.loop-n-init
loop-n-init c =
    told_nothing (AreOfEntries c.args.scope.now c.args.bytes.now c.args.info.now c.args.layout.now 0) c.nothing-reach.result refl c.nothing-reach.ensures

pub loop-n-preserved : goal.loop-n-preserved
loop-n-preserved c =
    told_more c.args.scope.now c.args.bytes.now c.args.info.now c.args.layout.now c.loop-n.n c.loop-n.reach c.in_ok-own.own c.plus-reach.result
    c.loop-n.invariant c.in_ok-own.ensures.reach c.plus-reach.ensures

pub returns-clause-reach : goal.returns-clause-reach
returns-clause-reach c =
    let entries = c.args.layout.now.entries in
    let past : length entries ≤ c.loop-n.n = grind (arith, common_steps) in
    let within : c.loop-n.n ≤ length entries = grind (arith, common_steps) in
    let end : c.loop-n.n ≡ length entries = omega (arith, past, within) in
    subst (λ (n : ℕ). ToldReach (AreOfEntries c.args.scope.now c.args.bytes.now c.args.info.now c.args.layout.now n) c.loop-n.reach) end c.loop-n.invariant
