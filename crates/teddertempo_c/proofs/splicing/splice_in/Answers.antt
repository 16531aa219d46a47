-- The module with code of the other one, over the buffer's front.
use Rattle.std.proofs.Common.{◌≤◌, length, take, rules}
use Rattle.teddertempo_c.specs.Changes.{HasSize}
use Rattle.teddertempo_c.specs.Splices.{IsSplicedBy}
use Rattle.teddertempo_c.specs.Writes.{IsPutInBuffer}
use Rattle.teddertempo_c.proofs.SplicesLemmas.{splice_made}
use Rattle.teddertempo_c.proofs.splicing.splice_in.Goals as goal

pub returns-in-Ok : goal.returns-in-Ok
returns-in-Ok c =
    let old = c.args.buffer.now in
    let bytes = c.in-Ok.module.bytes.items in
    let inside : c.args.size ≤ length old = search rules in
    let is : IsSplicedBy c.args.seed (length old) (take c.args.size old) c.args.other.now bytes = search rules in
    let fits : HasSize (length old) bytes = search rules in
    let put : IsPutInBuffer bytes old c.put.result c.put.new.buffer = search rules in
    splice_made c.args.seed c.args.size c.args.other.now old bytes c.put.result c.put.new.buffer inside is fits put
