-- By the line of the rewrite, and what it makes.
use Rattle.std.proofs.Common.{subst, ◌∙◌, arith}
use Rattle.body_rewrites.specs.Places.{context_of}
use Rattle.body_rewrites.specs.Rewrites.{Makes}
use Rattle.body_rewrites.proofs.MadeLemmas.{same_line}
use Rattle.body_rewrites.proofs.rewriting.rewrite_body.Goals as goal

pub returns-in_default-clause-none : goal.returns-in_default-clause-none
returns-in_default-clause-none c = λ (change, made).
    let none = rw c.in_default.is at c.line_of.ensures.none in
    none made.line (made.asked, made.width_is)

pub returns-then-rewrite-body-clause-none : goal.returns-then-rewrite-body-clause-none
returns-then-rewrite-body-clause-none c = λ (change, made).
    let inside = c.changes_may_stand.ensures.inside (context_of c.args.body.now) c.args.body.now.operators.now made.line c.args.rewrite.operator
    change made.makes in
    absurd (omega (arith, inside, c.if-rewrite-body.true))

pub returns-in_default-made-clause-none : goal.returns-in_default-made-clause-none
returns-in_default-made-clause-none c = λ (change, made).
    let is = rw c.in-Some.is at c.line_of.ensures.some in
    let none = rw c.in_default-made.is at c.made.ensures.none in
    none change
    (subst (λ line. Makes (context_of c.args.body.now) c.args.body.now.operators.now line c.args.rewrite.operator change)
    (same_line c.args.rewrite made.line c.in-Some.line (made.asked, made.width_is) is) made.makes)

pub put-requires-clause-change : goal.put-requires-clause-change
put-requires-clause-change c =
    let is = rw c.in-Some.is at c.line_of.ensures.some in
    let code = rw c.in-Some-made.is at c.made.ensures.some in
    record {
      change = code.change;
      word = c.args.word;
      written = code.written;
      may = c.changes_may_stand.ensures.stand (context_of c.args.body.now) c.args.body.now.operators.now c.args.rewrite.row c.in-Some.line
          c.args.rewrite.operator code.change is.0 code.makes;
      inside = omega (arith, c.if-rewrite-body.false);
    }

pub returns-clause-rewritten : goal.returns-clause-rewritten
returns-clause-rewritten c =
    let is = rw c.in-Some.is at c.line_of.ensures.some in
    let code = rw c.in-Some-made.is at c.made.ensures.some in
    let may = c.changes_may_stand.ensures.stand (context_of c.args.body.now) c.args.body.now.operators.now c.args.rewrite.row c.in-Some.line
    c.args.rewrite.operator code.change is.0 code.makes in
    record {
      change = code.change;
      made = record { line = c.in-Some.line; asked = is.0; width_is = is.1; makes = code.makes };
      asks_are = c.in_ok-asks.ensures ∙ code.written.asks_are;
      written = c.in_ok-put.ensures.put code.change c.args.word code.written may;
    }
