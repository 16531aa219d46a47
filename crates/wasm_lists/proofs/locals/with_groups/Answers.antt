use Rattle.std.proofs.Common.{◌≡◌, ◌≤◌, ◌-◌, true, ap, ◌∙◌, length, vec_len, arith}
use Rattle.std.specs.Prelude.{is_ok, not}
use Rattle.wasm_lists.proofs.ListLemmas.{shorter}
use Rattle.wasm_lists.proofs.ItemLemmas.{group_exact}
use Rattle.wasm_lists.proofs.LocalLemmas.{few_types, none_yet, one_more, resized, group_fails, too_many}
use Rattle.wasm_lists.proofs.locals.with_groups.Goals as goal

pub loop-init : goal.loop-init
loop-init c = record { reads = none_yet c.args.types.items c.args.bytes.now (omega (arith, c.requires, c.args.types.ok.0)); within = omega arith }

pub loop-preserved : goal.loop-preserved
loop-preserved c =
    let types = c.loop.types.items in
    let ok : is_ok c.resize.result ≡ true = c.is_err.ensures.negation ∙ ap not c.if-is_err.false in
    let made = rw ok at c.resize.ensures.items in
    let behind = shorter group_exact c.loop.rest.now (c.in-Ok.number, c.in-Ok.ty) c.in-Ok.behind.now c.in-Ok.ensures in
    let long : c.len-in-Ok.result ≡ length types = c.len-in-Ok.ensures ∙ c.loop.types.ok.0 in
    let fits : c.in-Ok.number ≤ 50000 - length types = omega (
      arith,
      c.if-number-room.false,
      c.room_behind-room.ensures,
      c.len.ensures,
      c.loop.types.ok.0,
    ) in
    record {
      reads = rw (made, resized types c.len-in-Ok.result (vec_len c.loop.types) c.in-Ok.number c.in-Ok.ty long c.loop.types.ok.0)
          (one_more c.args.types.items c.loop.counter c.args.bytes.now types c.loop.rest.now (c.in-Ok.number, c.in-Ok.ty) c.in-Ok.behind.now
          c.loop.invariant.reads c.in-Ok.ensures fits);
      within = omega (arith, behind, c.loop.invariant.within);
    }

pub room_behind-room-requires : goal.room_behind-room-requires
room_behind-room-requires c =
    let few = few_types c.args.types.items c.loop.counter c.args.bytes.now c.loop.types.items c.loop.rest.now c.loop.invariant.reads in
    omega (arith, c.len.ensures, c.loop.types.ok.0)

pub returns-then-number-room-clause-stops : goal.returns-then-number-room-clause-stops
returns-then-number-room-clause-stops c =
    too_many c.args.types.items c.args.count c.loop.counter c.args.bytes.now c.loop.types.items c.loop.rest.now (c.in-Ok.number, c.in-Ok.ty)
    c.in-Ok.behind.now c.loop-test.true c.loop.invariant.reads c.in-Ok.ensures
    (omega (arith, c.if-number-room.true, c.room_behind-room.ensures, c.len.ensures, c.loop.types.ok.0))

pub returns-in-Err-clause-stops : goal.returns-in-Err-clause-stops
returns-in-Err-clause-stops c =
    group_fails c.args.types.items c.args.count c.loop.counter c.args.bytes.now c.loop.types.items c.loop.rest.now c.in-Err.cause c.loop-test.true
    c.loop.invariant.reads c.in-Err.ensures
