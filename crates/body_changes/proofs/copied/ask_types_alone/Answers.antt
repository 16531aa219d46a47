-- One instruction more, and all of them.
use Rattle.std.proofs.Common.{refl, sym, ◌∙◌, ◌≤◌, length, arith}
use Rattle.std.proofs.lemmas.Grind.{common_steps}
use Rattle.body_changes.proofs.CopyLemmas.{plain_more}
use Rattle.body_changes.proofs.copied.ask_types_alone.Goals as goal

pub loop-i-preserved : goal.loop-i-preserved
loop-i-preserved c =
    plain_more c.args.code.now c.loop-i.i c.index-code-i.result c.loop-i.invariant c.index-code-i.is c.loop-i-test.true
    (sym c.asks_types_alone.ensures ∙ c.if-not-asks_types_alone.false)

pub returns : goal.returns
returns c =
    let past : length c.args.code.now ≤ c.loop-i.i = grind (arith, common_steps) in
    (λ yes k d l. c.loop-i.invariant k d (omega (arith, past, l)), λ all. refl)
