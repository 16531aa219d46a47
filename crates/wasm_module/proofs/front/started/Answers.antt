use Rattle.std.proofs.Common.{◌≡◌, ◌<◌, ◌^◌, length, ap, arith}
use Rattle.wasm_module.specs.Module.{Layout}
use Rattle.wasm_module.proofs.RoomLemmas.{place_at, new_is, adds}
use Rattle.wasm_module.proofs.front.started.Goals as goal

pub around-requires-clause-before : goal.around-requires-clause-before
around-requires-clause-before c =
    let same : c.deref.result.now ≡ c.args.layout.now.sections = cc (ap (λ (l : Layout). l.sections) c.layout.view_is) in
    c.requires.room.place _ (place_at _ _ c.args.bytes.now _ same c.place_of-place.ensures c.requires.room.spells c.requires.none)

pub returns-clause-written : goal.returns-clause-written
returns-clause-written c =
    let same : c.deref.result.now ≡ c.args.layout.now.sections = cc (ap (λ (l : Layout). l.sections) c.layout.view_is) in
    let place = place_at _ _ c.args.bytes.now _ same c.place_of-place.ensures c.requires.room.spells c.requires.none in
    let few : length c.args.globals.now < 2 ^ 32 = omega (arith, c.in_ok-count.ensures.small) in
    adds (λ v. v.items) _ _ _ _ _ _ _ _ _ c.requires.none place (new_is _ _ c.in_ok-count.ensures.ok) few c.around.ensures.before c.around.ensures.after
    c.spliced.ensures.sized c.spliced.ensures.written
