-- The right side's operators are instructions.
use Rattle.std.proofs.Common.{sym, subst}
use Rattle.std.specs.List.{All}
use Rattle.rewrite_rules.specs.Table.{parts_for, PartIsInstruction}
use Rattle.body_rewrites.proofs.writing.line_code.Goals as goal

pub pieces_of-requires : goal.pieces_of-requires
pieces_of-requires c =
    let line = c.requires in
    subst (λ side. All PartIsInstruction (parts_for c.args.line.now.width side)) (sym c.right.ensures)
    (c.parts_are_instructions.ensures line.number c.args.line.now.row line.row_is line.place c.args.line.now.width line.width_is)
