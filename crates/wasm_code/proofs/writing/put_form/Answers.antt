use Rattle.std.proofs.Common.{◌<◌, ◌^◌, arith}
use Rattle.wasm_code.proofs.ShortestLemmas.{kept_more, shift, finish, form_step, form_last}
use Rattle.wasm_code.proofs.writing.put_form.Goals as goal

pub loop-rest-preserved : goal.loop-rest-preserved
loop-rest-preserved c = record {
  kept = kept_more _ _ _ _ c.in_ok-push.ensures.items c.loop-rest.invariant.kept;
  written =
      let fits : c.loop-rest.rest < 2 ^ 64 = omega arith in
      shift _ _ _ _ _ _ c.in_ok-push.ensures.items
      (rw c.low.ensures.value (form_step c.args.negative c.loop-rest.rest c.loop-rest-test.true fits)) c.loop-rest.invariant.written;
}

pub returns-clause-ok : goal.returns-clause-ok
returns-clause-ok c = finish _ _ _ _ _ c.in_ok-push-2.ensures.items
    (rw c.low-2.ensures.value (form_last c.args.negative c.loop-rest.rest c.loop-rest-test.false)) c.loop-rest.invariant.written
