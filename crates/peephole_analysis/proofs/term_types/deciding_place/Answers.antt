use Rattle.std.proofs.Common.{◌≡◌, ◌∙◌, None, sym, arith}
use Rattle.peephole_analysis.specs.Analysis.{Analysis}
use Rattle.peephole_analysis.specs.Deciding.{deciding_operand}
use Rattle.peephole_analysis.proofs.DecidingLemmas.{decides, decides_below, read_at}
use Rattle.peephole_analysis.proofs.term_types.deciding_place.Goals as goal

pub loop-operand-smaller : goal.loop-operand-smaller
loop-operand-smaller c =
    decides_below c.args.nodes.now c.loop-operand.place c.index-nodes-place.result c.in-Some.operand c.requires.below
    c.loop-operand.invariant.0 c.index-nodes-place.is (sym c.deciding_operand.ensures ∙ c.in-Some.is)

pub loop-operand-preserved : goal.loop-operand-preserved
loop-operand-preserved c =
    let decided = sym c.deciding_operand.ensures ∙ c.in-Some.is in
    let there = c.loop-operand.invariant.0 in
    let below = decides_below c.args.nodes.now c.loop-operand.place c.index-nodes-place.result c.in-Some.operand c.requires.below
    there c.index-nodes-place.is decided in (
      omega arith,
      λ (a : Analysis). decides a c.args.nodes.now c.loop-operand.place c.index-nodes-place.result c.in-Some.operand c.requires.below
          there c.index-nodes-place.is decided ∙ c.loop-operand.invariant.1 a,
    )

pub returns-clause-alone : goal.returns-clause-alone
returns-clause-alone c =
    read_at (λ l. deciding_operand l ≡ None) c.args.nodes.now c.loop-operand.place c.index-nodes-place.result c.loop-operand.invariant.0
    c.index-nodes-place.is (sym c.deciding_operand.ensures ∙ c.in_default.is)
