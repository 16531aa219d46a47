use Rattle.std.proofs.Common.{arith, ℕ, ◌++◌, take, length-append, length-take}
use Rattle.peephole_script.proofs.Devices.{consumes_append}
use Rattle.peephole_script.proofs.input.read_input.Goals as goal

pub returns-then-n-len-clause-too_long : goal.returns-then-n-len-clause-too_long
returns-then-n-len-clause-too_long g c =
    λ _. (
      c.reads.text.items ++ take c.in-Ok.n c.read.new.buf,
      consumes_append _ _ _ _ _ c.reads.invariant.bytes c.in-Ok.ensures.bytes.0,
      omega (arith, c.len.ensures, c.if-n-len.true, c.reads.text.ok.0, length-append {A = ℕ}, length-take {A = ℕ}, c.in-Ok.ensures.bound.0),
    )
