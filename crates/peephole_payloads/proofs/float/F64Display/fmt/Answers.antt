use Rattle.std.proofs.Common.{rules, subst}
use Rattle.std.specs.Fmt.{HasWritten}
use Rattle.peephole_payloads.specs.laws.HexLemmas.{padded_16}
use Rattle.peephole_payloads.proofs.float.F64Display.fmt.Goals as goal

pub returns-clause-writes : goal.returns-clause-writes
returns-clause-writes g c = λ plain ok.
    subst (λ t. HasWritten g.W.Write.write_str_gives c.args.f.now t c.write.new.self) (padded_16 c.args.self.now) (search rules)
