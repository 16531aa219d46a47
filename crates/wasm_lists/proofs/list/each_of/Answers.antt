use Rattle.std.proofs.Common.{◌≡◌, ◌++◌, ◌∷◌, [], ◌≤◌, length, arith}
use Rattle.std.proofs.lemmas.Grind.{common_steps}
use Rattle.wasm_lists.proofs.ListLemmas.{begins, goes_on, shorter}
use Rattle.wasm_lists.proofs.list.each_of.Goals as goal

pub loop-init : goal.loop-init
loop-init g c = record { reads = rw c.new-items.ensures.items (begins g.T.Item.at c.args.bytes.now); within = omega arith }

pub loop-preserved : goal.loop-preserved
loop-preserved g c =
    let items : c.push.new.self.items ≡ c.loop.items.items ++ c.in-Ok.item ∷ [] = grind (arith, common_steps) in
    let shorter : length c.in-Ok.behind.now ≤ length c.loop.rest.now =
    shorter c.items_are_read.ensures c.loop.rest.now c.in-Ok.item c.in-Ok.behind.now c.in-Ok.ensures in
    record {
      reads = rw items (goes_on g.T.Item.at c.loop.counter c.args.bytes.now c.loop.items.items c.loop.rest.now c.in-Ok.item c.in-Ok.behind.now
          c.loop.invariant.reads c.in-Ok.ensures);
      within = omega (arith, shorter, c.loop.invariant.within);
    }
