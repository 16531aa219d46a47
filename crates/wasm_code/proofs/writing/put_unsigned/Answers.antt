use Rattle.std.proofs.Common.{◌<◌, ◌^◌, arith}
use Rattle.wasm_code.proofs.ShortestLemmas.{kept_more, shift, finish, shortest_more, shortest_last}
use Rattle.wasm_code.proofs.writing.put_unsigned.Goals as goal

pub loop-rest-preserved : goal.loop-rest-preserved
loop-rest-preserved c = record {
  kept = kept_more _ _ _ _ c.in_ok-push.ensures.items c.loop-rest.invariant.kept;
  written = let fits : c.loop-rest.rest < 2 ^ 64 = omega arith in
      shift _ _ _ _ _ _ c.in_ok-push.ensures.items (shortest_more c.loop-rest.rest c.loop-rest-test.true fits) c.loop-rest.invariant.written;
}

pub returns-clause-ok : goal.returns-clause-ok
returns-clause-ok c = finish _ _ _ _ _ c.in_ok-push-2.ensures.items
    (shortest_last c.loop-rest.rest c.loop-rest-test.false) c.loop-rest.invariant.written
