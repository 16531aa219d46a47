-- The closure reads the expression, whose nodes have their children before them.
use Rattle.std.proofs.Common.{ap, map, refl, length, arith}
use Rattle.peephole_graphs.specs.Layout.{node_by}
use Rattle.peephole_examples.proofs.Trees.{reached_inside, told, tree_laid, tree_term}
use Rattle.peephole_examples.proofs.tree.tree_of.Goals as goal

pub build_expr-requires : goal.build_expr-requires
build_expr-requires g c κs =
    let many = ap (λ xs. length xs) c.as_ref-nodes.ensures.nodes in (
      (refl, tt),
      λ id r.
          let l = reached_inside g.L.Language.head g.L.Language.children c.as_ref-nodes.result.now c.args.expr.now c.args.root.0
          c.as_ref-nodes.ensures.nodes c.as_ref-nodes.ensures.below c.requires id.0 r in
          omega arith,
    )

pub returns-clause-laid : goal.returns-clause-laid
returns-clause-laid g c =
    tree_laid g.L.Language.head g.L.Language.children c.as_ref-nodes.result.now c.args.expr.now c.args.root.0 c.as_ref-nodes.ensures.nodes
    c.as_ref-nodes.ensures.below c.requires c.build_expr.result c.build_expr.ensures.told

pub returns-clause-term : goal.returns-clause-term
returns-clause-term g c =
    tree_term g.L.Language.head g.L.Language.children c.as_ref-nodes.result.now c.args.expr.now c.args.root.0 c.as_ref-nodes.ensures.nodes
    c.as_ref-nodes.ensures.below c.requires c.build_expr.result c.build_expr.ensures.told

pub returns-clause-refused : goal.returns-clause-refused
returns-clause-refused g c =
    c.build_expr.ensures.too_large (map (node_by g.L.Language.head g.L.Language.children) c.args.expr.now)
    (told g.L.Language.head g.L.Language.children c.as_ref-nodes.result.now c.args.expr.now c.args.root.0 c.as_ref-nodes.ensures.nodes
    c.as_ref-nodes.ensures.below c.requires)
