-- The term of an expression (this project): the tree of its last node, a shared node at each of its uses.
-- Terms are over any heads. Lists `ns` of nodes have the last one first.
use Rattle.std.specs.Prelude.{ℕ, ◌-◌, ◌<◌, ◌==◌, List, [], ◌∷◌, length, reverse, map, if◌then◌else◌, ⊤, All}
use Rattle.peephole_nodes.specs.declared.id.Id.{Id}

infixr 50 ◌▸◌
mutual
  pub data Term (H : Type 0) : Type 0 where
    absent : Term H
    node : H → Terms H → Term H

  pub data Terms (H : Type 0) : Type 0 where
    no_terms : Terms H
    ◌▸◌ : Term H → Terms H → Terms H

-- what a node is, and the places of its children
pub record Node (H : Type 0) : Type 0 where
  pub head : H
  pub children : List ℕ

-- the places that ids name
abbrev pub numbers_of : List Id → List ℕ
numbers_of ids = map (λ id. id.0) ids

-- the nodes of an expression, the last one first
abbrev pub nodes_of : {L H : Type 0} → (L → H) → (L → List ℕ) → List L → List (Node H)
nodes_of head children expr = reverse (map (λ l. record { head = head l; children = children l }) expr)

-- each node's children stand before it
abbrev pub AreBelow : {H : Type 0} → List (Node H) → Type 0
AreBelow [] = ⊤
AreBelow (n ∷ earlier) = All (λ child. child < length earlier) n.children × AreBelow earlier

-- the terms at some places
abbrev pub pick : {H : Type 0} → (ℕ → Term H) → List ℕ → Terms H
pick at [] = no_terms
pick at (i ∷ is) = at i ▸ pick at is

-- the term of a place: its node's head over its children's terms, each as often as it is named
abbrev pub tree_at : {H : Type 0} → List (Node H) → ℕ → Term H
tree_at [] i = absent
tree_at (n ∷ earlier) i = if length earlier == i then node n.head (pick (tree_at earlier) n.children) else tree_at earlier i

-- the term of the last node
abbrev pub term_of : {L H : Type 0} → (L → H) → (L → List ℕ) → List L → Term H
term_of head children expr = tree_at (nodes_of head children expr) (length expr - 1)
