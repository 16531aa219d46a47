-- The body's bytes are those of its operators.
use Rattle.std.proofs.Common.{◌≤◌, ◌+◌, length, rules, arith, ap, ap₂, ◌∙◌}
use Rattle.std.specs.Prelude.{slice_range}
use Rattle.body_splices.proofs.BodyLemmas.{from_ordered, from_inside, all_from}
use Rattle.body_splices.proofs.bytes.bytes_from.Goals as goal

pub overflow_add-last : goal.overflow_add-last
overflow_add-last c =
    let there : c.offset_at-last.result + 1 ≤ length c.args.input.now =
    omega (arith, c.offset_at-last.ensures, from_inside c.requires.body c.requires.inside) in
    search rules

pub part-requires-clause-ordered : goal.part-requires-clause-ordered
part-requires-clause-ordered c =
    omega (arith, c.offset_at-from.ensures, c.offset_at-last.ensures, from_ordered c.requires.body c.requires.inside)

pub part-requires-clause-inside : goal.part-requires-clause-inside
part-requires-clause-inside c = omega (arith, c.offset_at-last.ensures, from_inside c.requires.body c.requires.inside)

pub returns : goal.returns
returns c =
    c.part.ensures ∙ (ap₂ (slice_range c.args.input.now) c.offset_at-from.ensures (ap (λ n. n + 1) c.offset_at-last.ensures)
    ∙ all_from c.requires.body c.requires.inside)
