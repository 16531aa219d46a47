-- The operators of one function more.
use Rattle.std.proofs.Common.{◌≡◌, ◌<◌, ◌^◌, length, arith}
use Rattle.std.proofs.lemmas.Grind.{common_steps}
use Rattle.module_rewrites.proofs.DoseLemmas.{operators_next, operators_whole, sum_fits}
use Rattle.module_rewrites.proofs.dose.operators_of.Goals as goal

pub loop-n-preserved : goal.loop-n-preserved
loop-n-preserved c =
    let n = c.loop-n.n in
    let few : n < 2 ^ 64 = grind (arith, common_steps) in
    let fits : c.in-Ok.own < 2 ^ 64 = grind (arith, common_steps) in
    let sum = sum_fits c.loop-n.all c.in-Ok.own n c.saturating_add-all.result c.loop-n.invariant.1 few fits c.saturating_add-all.ensures in (
      λ only are.
          operators_next only c.args.bytes.now c.args.info.now c.args.layout.now n c.loop-n.all c.in-Ok.own c.saturating_add-all.result
          (c.loop-n.invariant.0 only are) (c.in-Ok.ensures.own only are) sum,
      omega (arith, sum, fits, c.loop-n.invariant.1),
    )

pub returns-clause-all : goal.returns-clause-all
returns-clause-all c only are =
    let whole : c.loop-n.n ≡ length c.args.layout.now.entries = grind (arith, common_steps) in
    operators_whole only c.args.bytes.now c.args.info.now c.args.layout.now c.loop-n.n c.loop-n.all whole (c.loop-n.invariant.0 only are)
