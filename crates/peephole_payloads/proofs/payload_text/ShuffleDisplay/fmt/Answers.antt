use Rattle.std.proofs.Common.{rules, subst}
use Rattle.std.specs.Fmt.{HasWritten}
use Rattle.peephole_payloads.proofs.ShuffleLemmas.{dotted_is}
use Rattle.peephole_payloads.proofs.payload_text.ShuffleDisplay.fmt.Goals as goal

pub returns-clause-writes : goal.returns-clause-writes
returns-clause-writes g c = λ plain ok.
    subst (λ t. HasWritten g.W.Write.write_str_gives c.args.f.now t c.write.new.self) (dotted_is c.args.self.now.indices (search rules))
    (c.write.ensures.writes plain ok)
