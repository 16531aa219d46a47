-- The text is what was consumed so far, and within the limit.
use Rattle.std.proofs.Common.{◌≡◌, ◌≤◌, ◌-◌, vec_len}
use Rattle.std.specs.Io.KnownBytes.{Consumes}
use Rattle.module_commands.proofs.input.read_input.Given as goal

abbrev pub invariant-reads : goal.invariant-reads
invariant-reads g l =
    let remaining = g.R.Read.remaining in
    record {
      bytes : Consumes (remaining l.fn.input.device) (remaining l.input.device) l.text.items;
      sound : l.input.failed ≡ l.fn.input.failed;
      short : vec_len l.text ≤ 1073741824;
    }

abbrev pub decreases-reads : goal.decreases-reads
decreases-reads g l = 1073741824 - vec_len l.text
