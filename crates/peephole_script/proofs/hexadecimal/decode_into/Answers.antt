use Rattle.std.proofs.Common.{◌+◌, ◌*◌, arith, ◌∙◌, slice_index}
use Rattle.hex.proofs.Pairs.{decode_start, decode_step, decode_done}
use Rattle.hex.proofs.HexLemmas.{decode_of-even}
use Rattle.peephole_script.proofs.Digits.{digit_at, pair_value-of}
use Rattle.peephole_script.proofs.hexadecimal.decode_into.Goals as goal

pub value_of-requires : goal.value_of-requires
value_of-requires c = digit_at _ _ c.requires.digits (omega (arith, c.requires.length))

pub value_of-requires-in-bytes : goal.value_of-requires-in-bytes
value_of-requires-in-bytes c = digit_at _ _ c.requires.digits (omega (arith, c.requires.length))

pub bytes-init : goal.bytes-init
bytes-init c = decode_start c.args.digits.now c.args.bytes.now

pub bytes-preserved : goal.bytes-preserved
bytes-preserved c =
    decode_step _ _ c.bytes.i _ (omega arith) (omega arith)
    (pair_value-of (slice_index c.args.digits.now (2 * c.bytes.i)) (slice_index c.args.digits.now (2 * c.bytes.i + 1))
    (2 * c.bytes.i) _ _ c.value_of.ensures.value c.value_of-in-bytes.ensures.value) c.bytes.invariant

pub returns : goal.returns
returns c =
    decode_of-even _ (omega (arith, c.requires.length)) ∙ decode_done _ _ c.bytes.i (omega arith) (omega arith) c.bytes.invariant
