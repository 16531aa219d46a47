-- The body's bytes are those of its operators.
use Rattle.std.proofs.Common.{arith, ap₂, ◌∙◌}
use Rattle.std.specs.Prelude.{slice_range}
use Rattle.body_splices.proofs.BodyLemmas.{between_ordered, between_inside, between}
use Rattle.body_splices.proofs.bytes.bytes_between.Goals as goal

pub part-requires-clause-ordered : goal.part-requires-clause-ordered
part-requires-clause-ordered c =
    omega (arith, c.offset_at-from.ensures, c.offset_at-to.ensures, between_ordered c.requires.body c.requires.range)

pub part-requires-clause-inside : goal.part-requires-clause-inside
part-requires-clause-inside c = omega (arith, c.offset_at-to.ensures, between_inside c.requires.body c.requires.range)

pub returns : goal.returns
returns c =
    c.part.ensures ∙ (ap₂ (slice_range c.args.input.now) c.offset_at-from.ensures c.offset_at-to.ensures ∙ between c.requires.body c.requires.range)
