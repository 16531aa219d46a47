-- More was read than the limit.
use Rattle.std.proofs.Common.{arith, ℕ, take, length-take}
use Rattle.module_commands.proofs.InputLemmas.{too_long}
use Rattle.module_commands.proofs.input.read_input.Goals as goal

pub returns-then-n-len-clause-fails : goal.returns-then-n-len-clause-fails
returns-then-n-len-clause-fails g c =
    too_long (g.R.Read.remaining c.args.input.now.device) (g.R.Read.remaining c.reads.input.device) (g.R.Read.remaining c.read.new.self.device)
    c.reads.text.items
    (take c.in-Ok.n c.read.new.buf) c.reads.invariant.bytes c.in-Ok.ensures.bytes.0
    (omega (arith, c.len.ensures, c.if-n-len.true, c.reads.text.ok.0, length-take {A = ℕ}, c.in-Ok.ensures.bound.0))
