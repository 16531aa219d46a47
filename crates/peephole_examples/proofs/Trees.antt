-- The tree of a node, where a closure answers the nodes of an expression.
use denote.Ref.{Bor}
use Rattle.std.proofs.Common.{◌≡◌, ℕ, ◌<◌, List, length, get_or, map, ap, sym, subst, ◌∙◌, arith, Result, Ok, Err, IfOk}
use Rattle.std.specs.List.{All}
use Rattle.std.proofs.lemmas.List.{get_or-map, length-map}
use Rattle.std.proofs.lemmas.List.Elements.{All-contains}
use Rattle.peephole_nodes.specs.declared.id.Id.{Id}
use Rattle.peephole_lang.specs.Term.{Node, AreBelow, nodes_of, tree_at, term_of}
use Rattle.peephole_graphs.specs.Rebuild.{CanAnswer, told_tree, IsLaidOut, NodeIsReached, IsToldBy}
use Rattle.peephole_graphs.specs.Rebuild.NodeIsReached.{the_root, a_child}
use Rattle.peephole_graphs.specs.Layout.{node_by, layout_from}
use Rattle.peephole_lang.specs.laws.PlaceLemmas.{at_place, children_in}

-- a closure that answers what stands at the id
abbrev pub Reads : {L : Type 0} → List L → Id → Bor L → Type 0
Reads {L} items id node = Id × ((d : L) → node.now ≡ get_or items id.0 d)

module _ {L H : Type 0} (head : L → H) (children : L → List ℕ) (items expr : List L) (root : ℕ) (same : items ≡ expr)
    (below : AreBelow (nodes_of head children expr)) (inside : root < length expr) where
  abbrev Answers : ℕ → Node H → Type 0
  Answers = CanAnswer head children (Reads items)

  -- children stand before their parents
  children_below : (id : ℕ) (n : Node H) → id < length expr → Answers id n → All (λ child. child < id) n.children
  children_below id n l a =
      let own : a.0.now ≡ get_or expr id a.0.now = a.1.1 a.0.now ∙ ap (λ (xs : List L). get_or xs id a.0.now) same in
      subst (λ (x : Node H). All (λ child. child < id) x.children) a.2 (children_in (at_place head children expr id a.0.now l own) below)

  pub reached_inside : (id : ℕ) → NodeIsReached Answers root id → id < length expr
  reached_inside id the_root = inside
  reached_inside id (a_child parent child n r a is) =
      let there = reached_inside parent r in
      let low : id < parent = All-contains (λ c. c < parent) n.children id (children_below parent n there a) is in
      omega arith

  -- the expression's nodes tell what is answered
  pub told : IsToldBy Answers root (map (node_by head children) expr)
  told = record {
    there = (let many = length-map expr (node_by head children) in omega arith);
    same = λ id n r a.
        get_or-map (node_by head children) expr id a.0.now n (reached_inside id r)
        ∙ (ap (node_by head children) (sym (a.1.1 a.0.now ∙ ap (λ (xs : List L). get_or xs id a.0.now) same)) ∙ a.2);
    below = λ id n r a. children_below id n (reached_inside id r) a;
  }

  -- what was laid out is the tree of the expression's node
  pub tree_laid : {E : Type 0} (r : Result (List L) E) →
      ((nodes : List (Node H)) → IsToldBy Answers root nodes → IfOk r (λ tree. IsLaidOut head children (told_tree nodes root) tree)) →
      IfOk r (λ tree. map (node_by head children) tree ≡ layout_from 0 (tree_at (nodes_of head children expr) root))
  tree_laid (Ok tree) h = (h (map (node_by head children) expr) told).nodes_are
  tree_laid (Err e) h = tt

  pub tree_term : {E : Type 0} (r : Result (List L) E) →
      ((nodes : List (Node H)) → IsToldBy Answers root nodes → IfOk r (λ tree. IsLaidOut head children (told_tree nodes root) tree)) →
      IfOk r (λ tree. term_of head children tree ≡ tree_at (nodes_of head children expr) root)
  tree_term (Ok tree) h = (h (map (node_by head children) expr) told).term_is
  tree_term (Err e) h = tt
