-- What the line writes in its place.
use Rattle.std.proofs.Common.{sym, subst, ◌∙◌}
use Rattle.std.specs.List.{All}
use Rattle.body_splices.specs.Laws.{AreInstructions}
use Rattle.body_rewrites.specs.Places.{context_of}
use Rattle.body_rewrites.specs.Differing.{IsKept}
use Rattle.body_rewrites.proofs.LineMakingLemmas.{instructions_there, line_pieces_kept}
use Rattle.body_rewrites.proofs.line_making.changes.Goals as goal

pub differ-requires-clause-code : goal.differ-requires-clause-code
differ-requires-clause-code c =
    let body = c.args.body.now in
    subst (λ s. AreInstructions body.operators.now s c.args.end) (sym c.line_code-code.ensures.start_is)
    (instructions_there (context_of body) body.operators.now c.args.line.now c.args.end c.args.place.now c.requires.place)

pub differ-requires-clause-pieces : goal.differ-requires-clause-pieces
differ-requires-clause-pieces c =
    let body = c.args.body.now in
    subst (All (IsKept body.operators.now body.trees.now)) (sym (c.deref.ensures.0 ∙ c.line_code-code.ensures.pieces_are))
    (line_pieces_kept (context_of body) body.operators.now body.trees.now c.args.line.now c.args.end c.args.place.now 0 c.requires.lists.trees c.requires.place)
