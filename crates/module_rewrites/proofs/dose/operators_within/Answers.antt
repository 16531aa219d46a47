-- The function is one of those, and is read or can't be.
use Rattle.std.proofs.Common.{◌≡◌, ◌∙◌, ◌≤◌, ◌<◌, length, ap, refl, arith}
use Rattle.std.proofs.lemmas.Grind.{common_steps}
use Rattle.module_rewrites.specs.Attempt.{CanRead}
use Rattle.module_rewrites.proofs.dose.operators_within.Goals as goal

pub returns-in-Ok-clause-own : goal.returns-in-Ok-clause-own
returns-in-Ok-clause-own c only are =
    let sized : c.len.result ≡ length c.in-Ok.function.operators.items = grind (arith, common_steps) in
    let low : c.args.entries.now.start ≤ c.args.n = omega (arith, c.if-n-entries.false) in
    let high : c.args.n < c.args.entries.now.end = omega (arith, c.if-n-entries-2.false) in
    let can : CanRead c.args.bytes.now c.args.info.now c.args.layout.now c.args.n = record {
      locals = c.in-Ok.function.locals.items;
      expression = c.in-Ok.function.expression;
      operators = c.in-Ok.function.operators.items;
      is = c.in-Ok.ensures.read;
    } in
    record {
      read = λ chosen locals expression operators is. sized ∙ ap length (c.in-Ok.ensures.only locals expression operators is).1;
      other = λ not. absurd (not ((are.chosen c.args.n).0 (low, high)).1);
      unread = λ not. absurd (not can);
    }

pub returns-else-is_memory-clause-own : goal.returns-else-is_memory-clause-own
returns-else-is_memory-clause-own c only are =
    let cannot : ¬ (CanRead c.args.bytes.now c.args.info.now c.args.layout.now c.args.n) = λ can.
    let memory = c.is_memory.ensures.1 (c.in-Err.ensures.only can.locals can.expression can.operators can.is) in
    let other = c.if-is_memory.false in
    absurd cc in
    record {
      read = λ chosen locals expression operators is.
          absurd (cannot (record { locals = locals; expression = expression; operators = operators; is = is }));
      other = λ not. refl;
      unread = λ not. refl;
    }
