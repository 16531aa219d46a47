-- By what the operator is.
use Rattle.std.proofs.Common.{sym, ◌∙◌, arith, rules}
use Rattle.body_rewrites.proofs.BlockLemmas.{depth_within, behind_begin, behind_end, behind_rest}
use Rattle.body_rewrites.proofs.blocks.Nest.next.Goals as goal

pub overflow_add-result : goal.overflow_add-result
overflow_add-result c = omega (arith, depth_within c.args.operators.now c.args.at c.args.self.now c.requires.nest)

pub returns-then-opens_block : goal.returns-then-opens_block
returns-then-opens_block c =
    behind_begin c.args.operators.now c.args.at c.index-operators-at.result c.requires.inside c.args.self.now c.requires.nest
    (sym c.opens_block.ensures ∙ c.if-opens_block.true)

pub returns-in-End : goal.returns-in-End
returns-in-End c =
    behind_end c.args.operators.now c.args.at c.index-operators-at.result c.requires.inside c.args.self.now c.requires.nest c.args.innermost.now
    c.requires.known c.in-End.is c.and_then.result (search rules) c.saturating_sub.result c.saturating_sub.ensures

pub returns-in_default : goal.returns-in_default
returns-in_default c =
    behind_rest c.args.operators.now c.args.at c.index-operators-at.result c.requires.inside c.args.self.now c.requires.nest
    (sym c.opens_block.ensures ∙ c.if-opens_block.false) c.in_default.not-End
