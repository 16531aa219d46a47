use Rattle.std.proofs.Common.{◌≤◌, length, arith}
use Rattle.wasm_code.specs.laws.NumberExact.{unsigned_exact}
use Rattle.wasm_lists.proofs.ListLemmas.{shorter}
use Rattle.wasm_lists.proofs.LocalLemmas.{locals_found, count_stops, locals_fault}
use Rattle.wasm_lists.proofs.locals.locals_of.Goals as goal

pub returns-in-Err-clause-fault : goal.returns-in-Err-clause-fault
returns-in-Err-clause-fault c =
    rw c.fault.ensures (count_stops c.args.params.now c.args.start c.args.contents.now c.in-Err.cause
    (omega (arith, c.if-params-gt-MOST_LOCALS.false)) c.in-Err.ensures)

pub overflow_sub-result : goal.overflow_sub-result
overflow_sub-result c =
    let counted = shorter (unsigned_exact 32) c.args.contents.now c.in-Ok.counted.0 c.in-Ok.counted.1.now c.in-Ok.ensures in
    let within : length c.in-Ok-with_groups.behind.now ≤ length c.in-Ok.counted.1.now = c.in-Ok-with_groups.ensures.within in
    omega arith

pub group_error-requires-clause-left : goal.group_error-requires-clause-left
group_error-requires-clause-left c =
    let counted = shorter (unsigned_exact 32) c.args.contents.now c.in-Ok.counted.0 c.in-Ok.counted.1.now c.in-Ok.ensures in
    let left = c.in-Err-with_groups.ensures.left in
    omega (arith, left)

pub returns-in-Ok-with_groups-clause-found : goal.returns-in-Ok-with_groups-clause-found
returns-in-Ok-with_groups-clause-found c =
    let read = rw c.in-Ok-from_slice.ensures.items at c.in-Ok-with_groups.ensures.found in
    locals_found c.args.params.now c.args.start c.args.contents.now c.in-Ok.counted.1.now c.in-Ok.counted.0 c.in-Ok-with_groups.types.items
    c.in-Ok-with_groups.behind.now c.in-Ok.ensures read

pub returns-in-Err-with_groups-clause-fault : goal.returns-in-Err-with_groups-clause-fault
returns-in-Err-with_groups-clause-fault c =
    let stops = rw c.in-Ok-from_slice.ensures.items at c.in-Err-with_groups.ensures.stops in
    rw c.group_error.ensures (locals_fault c.args.params.now c.args.start c.args.contents.now c.in-Ok.counted.1.now c.in-Ok.counted.0
    c.in-Err-with_groups.stop c.in-Ok.ensures stops)
