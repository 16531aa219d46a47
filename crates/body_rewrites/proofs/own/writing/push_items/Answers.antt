-- One after another.
use Rattle.std.proofs.Common.{◌++◌, ap, sym, ◌∙◌, append-nil, arith}
use Rattle.std.proofs.lemmas.List.{take_all}
use Rattle.rewrite_rules.specs.declared.wrap.WrapItem.TheVariants.{Block}
use Rattle.body_rewrites.specs.Own.{item_pieces}
use Rattle.body_rewrites.proofs.WrapFindLemmas.{one_more_piece}
use Rattle.body_rewrites.proofs.own.writing.push_items.Goals as goal

pub push-requires : goal.push-requires
push-requires c = (omega arith, omega (arith, c.loop-i.invariant.1, c.loop-i-test.true, c.requires))

pub loop-i-init : goal.loop-i-init
loop-i-init c = (sym (append-nil c.args.pieces.now.items), omega arith)

pub loop-i-preserved : goal.loop-i-preserved
loop-i-preserved c = (
  one_more_piece c.args.items.now c.args.t c.args.word c.loop-i.i Block c.item_piece.result c.args.pieces.now.items c.loop-i.pieces.items
      c.push.new.self.items c.loop-i-test.true c.item_piece.ensures c.loop-i.invariant.0 c.push.ensures.items,
  omega (arith, c.push.ensures.len, c.loop-i.invariant.1),
)

pub returns : goal.returns
returns c =
    c.loop-i.invariant.0
    ∙ ap (λ is. c.args.pieces.now.items ++ item_pieces c.args.t c.args.word is) (take_all c.loop-i.i c.args.items.now c.loop-i-test.false)
