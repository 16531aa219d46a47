-- Where the instructions that stand there aren't typed.
use Rattle.body_changes.specs.Replacing.{source_context}
use Rattle.body_changes.proofs.ReplacingLemmas.{none_in_place}
use Rattle.body_changes.proofs.replacing.types_in_place.Goals as goal

pub returns-clause-none : goal.returns-clause-none
returns-clause-none c =
    none_in_place (source_context c.args.source.now) c.args.source.now.operators.now c.args.range.start c.args.range.end c.in-Some.own.items
    c.deref.result.now c.types_of_code.result c.deref.ensures.value (rw c.in-Some.is at c.in_ok-own.ensures.some) c.types_of_code.ensures.none
