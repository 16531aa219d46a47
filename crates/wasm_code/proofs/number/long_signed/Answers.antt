use Rattle.std.proofs.Common.{◌≡◌, ◌-◌, ◌<◌, ◌^◌, length, ap, refl, ◌∙◌, Ok}
use Rattle.wasm_code.specs.Number.{value}
use Rattle.wasm_code.proofs.NumberLemmas.{negative_at, negative_is}
use Rattle.wasm_code.proofs.number.long_signed.Goals as goal

pub returns-then-below-half-clause-gives : goal.returns-then-below-half-clause-gives
returns-then-below-half-clause-gives c =
    let g = c.in_ok-group.group.now in
    let below : c.value_of-value.result.1 - 1 - c.value_of-value.result.0 ≡ 128 ^ length g - 1 - value g = rw (
      c.value_of-value.ensures.value,
      c.value_of-value.ensures.scale,
    ) refl in
    let lt : 128 ^ length g - 1 - value g < c.args.half = rw below at c.if-below-half.true in
    let e = negative_at c.args.half c.args.most c.args.bytes.now g c.in_ok-group.rest.now c.in_ok-group.ensures.gives c.if-group-lt-NEGATIVE.false lt in
    e ∙ ap (λ z. Ok (z, c.in_ok-group.rest.now)) (negative_is _ _ _ below lt c.requires.half)
