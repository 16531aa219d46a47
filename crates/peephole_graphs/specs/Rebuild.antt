-- The tree of what a closure answers: a node that can be answered for an id, over the trees of the node's children.
-- `Answers id n` says that the node `n` can be answered for `id`. This project's rule.
use denote.Ref.{Bor}
use Rattle.std.specs.Prelude.{ℕ, suc, ◌≡◌, ◌≢◌, ◌<◌, ◌^◌, List, [], ◌∷◌, ◌++◌, length, map, reverse, slice_index_or, ⊤}
use Rattle.std.specs.List.{All, AllPairs, Contains}
use Rattle.peephole_nodes.specs.declared.id.Id.{Id}
use Rattle.peephole_lang.specs.Term.{Term, Terms, absent, node, no_terms, ◌▸◌, Node, tree_at, term_of}
use Rattle.peephole_graphs.specs.Layout.{node_by, layout_from, node_count_of, IsWhole}

-- what a closure can answer for an id, told by its head and its children
abbrev pub CanAnswer : {L H : Type 0} → (L → H) → (L → List ℕ) → (Id → Bor L → Type 0) → ℕ → Node H → Type 0
CanAnswer {L} head children post id n = (given : Bor L) × post (record { 0 = id }) given × (node_by head children given.now ≡ n)

-- The root is reached, and so is each child of a node that can be answered for a reached id.
pub data NodeIsReached {H : Type 0} (Answers : ℕ → Node H → Type 0) (root : ℕ) : ℕ → Type 0 where
  the_root : NodeIsReached Answers root root
  a_child : (parent child : ℕ) (n : Node H) → NodeIsReached Answers root parent → Answers parent n → Contains n.children child →
      NodeIsReached Answers root child

-- The term is the upper part of a tree of the id: each node of it can be answered for its id.
abbrev mutual
  pub IsPart : {H : Type 0} → (ℕ → Node H → Type 0) → ℕ → Term H → Type 0
  IsPart Answers id absent = ⊤
  IsPart Answers id (node h kids) = (children : List ℕ) × Answers id (record { head = h; children = children }) × AreParts Answers children kids

  pub AreParts : {H : Type 0} → (ℕ → Node H → Type 0) → List ℕ → Terms H → Type 0
  AreParts Answers [] no_terms = ⊤
  AreParts Answers [] (t ▸ ts) = ⊥
  AreParts Answers (id ∷ ids) no_terms = ⊥
  AreParts Answers (id ∷ ids) (t ▸ ts) = IsPart Answers id t × AreParts Answers ids ts

-- and it is the tree down to its leaves
abbrev pub IsRebuiltTree : {H : Type 0} → (ℕ → Node H → Type 0) → ℕ → Term H → Type 0
IsRebuiltTree Answers id t = IsPart Answers id t × IsWhole t

-- The expression is the tree laid out, and its term is that tree.
pub record IsLaidOut {L H : Type 0} (head : L → H) (children : L → List ℕ) (t : Term H) (expr : List L) : Type 0 where
  pub nodes_are : map (node_by head children) expr ≡ layout_from 0 t
  pub term_is : term_of head children expr ≡ t

-- a part of the tree has more nodes already than an expression holds
abbrev pub TreeIsTooLong : {H : Type 0} → (ℕ → Node H → Type 0) → ℕ → Type 0
TreeIsTooLong {H} Answers root = (t : Term H) × IsPart Answers root t × (2 ^ 32 < node_count_of t)

-- No reached id is reached twice: children are below their parent, and no two of a node are the same, nor of two reached ids.
pub record IsReachedOnce {H : Type 0} (Answers : ℕ → Node H → Type 0) (root : ℕ) : Type 0 where
  pub below : (id : ℕ) (n : Node H) → NodeIsReached Answers root id → Answers id n → All (λ child. child < id) n.children
  pub different : (id : ℕ) (n : Node H) → NodeIsReached Answers root id → Answers id n → AllPairs (λ a b. a ≢ b) n.children
  pub one_parent : (a b child : ℕ) (n m : Node H) → NodeIsReached Answers root a → NodeIsReached Answers root b → Answers a n → Answers b m →
      Contains n.children child → Contains m.children child → a ≡ b

-- The nodes, ascending, are what is answered for the reached ids, and children are below their parent.
pub record IsToldBy {H : Type 0} (Answers : ℕ → Node H → Type 0) (root : ℕ) (nodes : List (Node H)) : Type 0 where
  pub there : root < length nodes
  pub same : (id : ℕ) (n : Node H) → NodeIsReached Answers root id → Answers id n → slice_index_or nodes id n ≡ n
  pub below : (id : ℕ) (n : Node H) → NodeIsReached Answers root id → Answers id n → All (λ child. child < id) n.children

-- the tree of an index among nodes, ascending
abbrev pub told_tree : {H : Type 0} → List (Node H) → ℕ → Term H
told_tree nodes root = tree_at (reverse nodes) root

-- ---- the order in which nodes are asked for

-- a node without its children's indexes: how many they are
pub record Piece (H : Type 0) : Type 0 where
  pub head : H
  pub count : ℕ

-- of a node, by the parts of its language
abbrev pub piece_by : {L H : Type 0} → (L → H) → (L → List ℕ) → L → Piece H
piece_by head children l = record { head = head l; count = length (children l) }

-- how many terms there are
abbrev pub child_count : {H : Type 0} → Terms H → ℕ
child_count no_terms = 0
child_count (t ▸ ts) = suc (child_count ts)

-- the nodes in postfix
abbrev mutual
  pub in_postfix : {H : Type 0} → Term H → List (Piece H)
  in_postfix absent = []
  in_postfix (node h kids) = all_in_postfix kids ++ record { head = h; count = child_count kids } ∷ []

  pub all_in_postfix : {H : Type 0} → Terms H → List (Piece H)
  all_in_postfix no_terms = []
  all_in_postfix (t ▸ ts) = in_postfix t ++ all_in_postfix ts

-- The nodes are the tree's, in postfix, the last one first.
abbrev pub AreNodesOfTree : {L H : Type 0} → (L → H) → (L → List ℕ) → List (Bor L) → Term H → Type 0
AreNodesOfTree {L} head children nodes t = reverse (map (λ (n : Bor L). piece_by head children n.now) nodes) ≡ in_postfix t
