use Rattle.std.proofs.Common.{◌≡◌, false, ◌≤◌, ◌-◌, vec_len}
use Rattle.std.specs.Io.KnownBytes.{Consumes}
use Rattle.peephole_script.proofs.input.read_input.Given as goal

-- the text is what was consumed so far, within the limit, and no read failed
abbrev pub invariant-reads : goal.invariant-reads
invariant-reads g l =
    let remaining = g.R.Read.remaining in
    record {
      bytes : Consumes (remaining l.fn.input.device) (remaining l.input.device) l.text.items;
      short : vec_len l.text ≤ 16777216;
      sound : l.input.failed ≡ false;
    }

abbrev pub decreases-reads : goal.decreases-reads
decreases-reads g l = 16777216 - vec_len l.text
