-- By the numbers of the rows.
use Rattle.std.proofs.Common.{sym, ◌∙◌}
use Rattle.body_rewrites.proofs.OwnFoldLemmas.{operation_some, operation_none, row_to}
use Rattle.body_rewrites.proofs.own.fold.operation_in.Goals as goal

pub returns-in-Nothing-clause-some : goal.returns-in-Nothing-clause-some
returns-in-Nothing-clause-some c =
    operation_some c.args.instr.now c.row-row.result c.from_byte.result c.row-row.ensures.row (sym c.imm.ensures ∙ c.in-Nothing.is) c.from_byte.ensures.opcode

pub returns-in-Nothing-clause-none : goal.returns-in-Nothing-clause-none
returns-in-Nothing-clause-none c =
    operation_none c.args.instr.now c.row-row.result c.from_byte.result c.row-row.ensures.row c.from_byte.ensures.opcode

pub returns-then-row-gt226-clause-none : goal.returns-then-row-gt226-clause-none
returns-then-row-gt226-clause-none c = row_to c.args.instr.now c.row-row.result c.row-row.ensures.row c.if-row-gt226.true
