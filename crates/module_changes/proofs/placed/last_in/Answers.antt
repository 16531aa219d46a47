-- By the units of the function that was read.
use Rattle.module_changes.proofs.PlacedLemmas.{made_so, none_so}
use Rattle.module_changes.proofs.placed.last_in.Goals as goal

pub returns-in-Some-clause-some : goal.returns-in-Some-clause-some
returns-in-Some-clause-some c =
    let found = rw c.in-Some.is at c.in_ok-changed.ensures.made in
    let info = c.args.reading.now.info.now in
    let function = c.args.function.now in (
      found.0,
      found.1,
      made_so info c.deref.result.now function.locals.items c.deref-2.result.now function.operators.items c.in_ok-copied.copied.code.now
          c.deref.ensures.value c.deref-2.ensures.value c.in_ok-copied.ensures.code c.in-Some.changed.change c.args.change c.in-Some.changed.at
          c.in-Some.changed.start c.in-Some.changed.code.items found.2 found.3.is,
      none_so info c.deref.result.now function.locals.items c.deref-2.result.now function.operators.items c.in_ok-copied.copied.code.now
          c.deref.ensures.value c.deref-2.ensures.value c.in_ok-copied.ensures.code c.args.change _ _
          (rw c.in-Some.is at c.in_ok-changed.ensures.last),
    )

pub returns-clause-none : goal.returns-clause-none
returns-clause-none c =
    let function = c.args.function.now in
    none_so c.args.reading.now.info.now c.deref.result.now function.locals.items c.deref-2.result.now function.operators.items
    c.in_ok-copied.copied.code.now c.deref.ensures.value c.deref-2.ensures.value c.in_ok-copied.ensures.code c.args.change c.args.range.start
    c.args.range.end (rw c.in-None.is at c.in_ok-changed.ensures.none)
