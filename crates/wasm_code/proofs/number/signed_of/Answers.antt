use Rattle.std.proofs.Common.{◌∙◌, ap, Ok, take, drop, length, ◌-◌, get_or, to_z, w64, pos, ◌≡◌, arith}
use Rattle.std.proofs.lemmas.Int.{ints}
use Rattle.wasm_code.proofs.NumberLemmas.{one_positive, one_negative, byte_less}
use Rattle.wasm_code.proofs.number.signed_of.Goals as goal

pub returns-in-len1-up-clause-gives : goal.returns-in-len1-up-clause-gives
returns-in-len1-up-clause-gives c =
    let bytes = c.args.bytes.now in
    let same : pos (get_or bytes 0 0) ≡ to_z w64 (get_or bytes 0 0) = omega (arith, ints, c.if-b-lt-NEGATIVE.true) in
    one_positive c.args.half c.args.most bytes c.requires.some c.in-len1-up.len_at_least c.if-b-lt-NEGATIVE.true c.requires.one_byte
    ∙ ap (λ z. Ok (z, take (length bytes - 1) (drop 1 bytes))) same

pub returns-in-len1-up-2-clause-gives : goal.returns-in-len1-up-2-clause-gives
returns-in-len1-up-2-clause-gives c =
    let bytes = c.args.bytes.now in
    one_negative c.args.half c.args.most bytes c.requires.some c.in-len1-up.len_at_least c.if-b-lt-NEGATIVE.false c.if-b-lt-GOES_ON.true c.requires.one_byte
    ∙ ap (λ z. Ok (z, take (length bytes - 1) (drop 1 bytes))) (byte_less (get_or bytes 0 0) c.if-b-lt-NEGATIVE.false c.if-b-lt-GOES_ON.true)
