-- A function that can be read, or the line of one that can't.
use Rattle.std.proofs.Common.{[], inl, inr, refl}
use Rattle.module_commands.proofs.TurnLemmas.{appends_nothing}
use Rattle.module_commands.proofs.stats.report_function.Goals as goal

pub returns-in-Ok-clause-told : goal.returns-in-Ok-clause-told
returns-in-Ok-clause-told g c = (
  [],
  appends_nothing (g.W.Write.contents c.args.notes.now),
  inl (
    record {
      locals = c.in-Ok.field-0.locals.items;
      expression = c.in-Ok.field-0.expression;
      operators = c.in-Ok.field-0.operators.items;
      is = c.in-Ok.ensures.read;
    },
    refl,
    refl,
  ),
)

pub returns-clause-told : goal.returns-clause-told
returns-clause-told g c =
    let told = c.in_ok-write_fault.ensures.line in (
      told.0,
      told.1,
      inr (
        λ can.
            let memory = c.is_memory.ensures.1 (c.in-Err.ensures.only can.locals can.expression can.operators can.is) in
            let other = c.if-is_memory.false in
            absurd cc,
        refl,
        (
          c.in-Err.e,
          record {
            fault = c.in-Err.ensures.fault;
            known = λ m.
                let memory = c.is_memory.ensures.1 m in
                let other = c.if-is_memory.false in
                absurd cc;
          },
          told.2,
        ),
      ),
    )
