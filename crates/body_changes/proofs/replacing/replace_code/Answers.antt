-- The code in their place.
use Rattle.std.proofs.Common.{List, ◌∙◌, subst}
use Rattle.body_splices.specs.Splice.{AppendsSpliced}
use Rattle.body_splices.specs.declared.piece.Piece.{Piece}
use Rattle.body_changes.specs.Replacing.{source_context}
use Rattle.body_changes.proofs.ReplacingLemmas.{replaced}
use Rattle.body_changes.proofs.replacing.replace_code.Goals as goal

pub returns-clause-replaced : goal.returns-clause-replaced
returns-clause-replaced c = λ yes.
    let pieces = c.deref.ensures.value ∙ c.in_ok-pieces.ensures.are in
    replaced (record { push = c.typed_rows_check.ensures.push; on = c.typed_rows_check.ensures.on; stay = c.typed_rows_check.ensures.stay })
    c.replaced_code_stays_valid.ensures c.spliced_operators_are.ensures (source_context c.args.source.now) c.args.source.now.input.now
    c.args.source.now.operators.now c.args.range.start c.args.range.end c.args.code.now c.args.newfunc.now c.splice.new.newfunc c.requires.inside
    (c.in_ok-can_replace.ensures.can c.if-not-branch.false)
    (subst (λ (ps : List Piece). AppendsSpliced c.args.source.now.input.now c.args.source.now.operators.now c.args.range.start c.args.range.end ps
    c.args.newfunc.now c.splice.new.newfunc) pieces c.in_ok-splice.ensures.spliced)
