use Rattle.std.proofs.Common.{◌∷◌, [], ap, length, length-append, arith}
use Rattle.std.proofs.lemmas.List.{length-map}
use Rattle.peephole_graphs.specs.Layout.{node_by}
use Rattle.peephole_graphs.proofs.terms.RebuildLayout.{asked_begins, asked_enough, asked_goes_on, asked_laid, one_longer}
use Rattle.peephole_graphs.proofs.rebuild.lay_asked.Goals as goal

pub loop-node-init : goal.loop-node-init
loop-node-init g c = (
  λ t w a. asked_begins g.L.Language.head g.L.Language.children c.args.asked.items c.new-expr.result c.new-finished.result.items t
      c.new-expr.ensures c.new-finished.ensures.items w a,
  let none = ap (λ xs. length xs) c.new-expr.ensures in omega arith,
)

pub add_own-requires-clause-enough : goal.add_own-requires-clause-enough
add_own-requires-clause-enough g c =
    let t = c.requires.tree.0 in
    asked_enough g.L.Language.head g.L.Language.children c.loop-node.asked.items c.pop.new.self.items c.in-Some.node
    (g.L.Language.ids c.in-Some.node.now) t c.loop-node.expr c.loop-node.finished.items c.in-Some.ensures.items
    (g.met.L.Language.numbers c.in-Some.node.now) (c.loop-node.invariant.0 t c.requires.tree.1 c.requires.tree.2)

pub add_own-requires-clause-below : goal.add_own-requires-clause-below
add_own-requires-clause-below g c =
    rw (length-map c.loop-node.expr (node_by g.L.Language.head g.L.Language.children)) at
    (c.loop-node.invariant.0 c.requires.tree.0 c.requires.tree.1 c.requires.tree.2).below

pub loop-node-preserved : goal.loop-node-preserved
loop-node-preserved g c = (
  λ t w a. asked_goes_on g.L.Language.head g.L.Language.children c.loop-node.asked.items c.pop.new.self.items c.in-Some.node
      (g.L.Language.ids c.in-Some.node.now) t c.loop-node.expr c.loop-node.finished.items c.in-Some.ensures.items
      (g.met.L.Language.numbers c.in-Some.node.now) (c.loop-node.invariant.0 t w a) c.add_own.new.expr c.add_own.new.finished.items
      c.in_ok-add_own.ensures.added c.in_ok-add_own.ensures.finished,
  let more =
      one_longer (node_by g.L.Language.head g.L.Language.children) c.loop-node.expr c.add_own.new.expr _ c.in_ok-add_own.ensures.added in
      let fewer = ap (λ xs. length xs) c.in-Some.ensures.items in
      let same = c.loop-node.invariant.1 in
      omega (arith, length-append c.pop.new.self.items (c.in-Some.node ∷ [])),
)

pub returns-clause-laid : goal.returns-clause-laid
returns-clause-laid g c = λ t w a. asked_laid g.L.Language.head g.L.Language.children c.loop-node.asked.items _ t c.loop-node.expr c.loop-node.finished.items
    c.loop-node.asked.ok.0 c.in_default.ensures.cases.0 w (c.loop-node.invariant.0 t w a)
