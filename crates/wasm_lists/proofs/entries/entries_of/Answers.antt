use Rattle.std.proofs.Common.{◌≡◌, ◌++◌, ◌∷◌, [], ◌≤◌, length, refl, arith}
use Rattle.std.proofs.lemmas.Grind.{common_steps}
use Rattle.wasm_lists.specs.Reader.{entry_at}
use Rattle.wasm_lists.proofs.ListLemmas.{begins, goes_on}
use Rattle.wasm_lists.proofs.entries.entries_of.Goals as goal

pub loop-init : goal.loop-init
loop-init c = record { reads = rw c.new-entries.ensures.items (begins (entry_at c.args.to) c.args.bytes.now); within = omega arith }

pub loop-preserved : goal.loop-preserved
loop-preserved c =
    let items : c.push.new.self.items ≡ c.loop.entries.items ++ c.in-Ok.entry ∷ [] = grind (arith, common_steps) in
    let shorter : length c.in-Ok.behind.now ≤ length c.loop.rest.now = c.in-Ok.ensures.within in
    record {
      reads = rw items (goes_on (entry_at c.args.to) c.loop.counter c.args.bytes.now c.loop.entries.items c.loop.rest.now c.in-Ok.entry
          c.in-Ok.behind.now c.loop.invariant.reads c.in-Ok.ensures.gives);
      within = omega (arith, shorter, c.loop.invariant.within);
    }

pub returns-then-is_err-clause-left : goal.returns-then-is_err-clause-left
returns-then-is_err-clause-left c = c.loop.invariant.within

pub returns-in-Err-clause-stops : goal.returns-in-Err-clause-stops
returns-in-Err-clause-stops c = record {
  items = c.loop.entries.items;
  rest = c.loop.rest.now;
  behind = record { before = c.loop.counter; fewer = c.loop-test.true; reads = c.loop.invariant.reads; fails = c.in-Err.ensures.gives };
  is_left = refl;
}
