-- A side has seven steps.
use Rattle.std.proofs.Common.{arith}
use Rattle.body_rewrites.proofs.PartsLemmas.{few_parts}
use Rattle.body_rewrites.proofs.parts.Parts.len.Goals as goal

pub returns-clause-few : goal.returns-clause-few
returns-clause-few c =
    let few = few_parts c.self.inside.width c.self.inside.side.now in
    omega (arith, few, c.self.invariant.0, c.self.invariant.1)
