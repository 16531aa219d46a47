-- A term laid out in postfix: the layouts of its children one after another, and then its own node.
-- A node names each child by the index of that child's own node. This project.
use Rattle.std.specs.Prelude.{ℕ, suc, ◌+◌, ◌-◌, ◌≡◌, List, [], ◌∷◌, ◌++◌, ◌<◌, ◌≤◌, ◌^◌, length, map, reverse, slice_index_or, Option, Some, ⊤, IsTrue}
use Rattle.std.specs.Coded.{Coded-set}
use Rattle.std.specs.List.{All}
use Rattle.peephole_lang.specs.declared.lang.Head.{Head}
use Rattle.peephole_lang.specs.declared.lang.Lang.{Lang}
use Rattle.peephole_lang.specs.contracts.lang.Lang.{the_row}
use Rattle.peephole_nodes.specs.Payload.{is_writable}
use Rattle.peephole_lang.specs.Lang.{payload_of}
use Rattle.peephole_lang.specs.Node.{node_of, children_of}
use Rattle.peephole_lang.specs.Term.{Term, Terms, absent, node, no_terms, ◌▸◌, Node, tree_at}
use Rattle.peephole_graphs.specs.declared.dfg.StackEntry.{StackEntry}

-- what a node is, and the indexes of its children, by the parts of its language
abbrev pub node_by : {L H : Type 0} → (L → H) → (L → List ℕ) → L → Node H
node_by head children l = record { head = head l; children = children l }

-- the nodes that items hold, the last one first
abbrev pub held_nodes : {A H : Type 0} → (A → Node H) → List A → List (Node H)
held_nodes held items = reverse (map held items)

-- how many nodes there are, a shared one counted as often as it is named
abbrev mutual
  pub node_count_of : {H : Type 0} → Term H → ℕ
  node_count_of absent = 0
  node_count_of (node h kids) = suc (node_count kids)

  pub node_count : {H : Type 0} → Terms H → ℕ
  node_count no_terms = 0
  node_count (t ▸ ts) = node_count_of t + node_count ts

-- where the terms' own nodes stand when the terms are laid out from `first` on: each is the last one of its term
abbrev pub root_indexes : {H : Type 0} → ℕ → Terms H → List ℕ
root_indexes first no_terms = []
root_indexes first (t ▸ ts) = (first + node_count_of t - 1)
    ∷ root_indexes (first + node_count_of t) ts

-- the nodes from the index `first` on
abbrev mutual
  pub layout_from : {H : Type 0} → ℕ → Term H → List (Node H)
  layout_from first absent = []
  layout_from first (node h kids) = layouts_from first kids
      ++ record { head = h; children = root_indexes first kids } ∷ []

  pub layouts_from : {H : Type 0} → ℕ → Terms H → List (Node H)
  layouts_from first no_terms = []
  layouts_from first (t ▸ ts) = layout_from first t ++ layouts_from (first + node_count_of t) ts

-- every node is there
abbrev mutual
  pub IsWhole : {H : Type 0} → Term H → Type 0
  IsWhole absent = ⊥
  IsWhole (node h kids) = AreWhole kids

  pub AreWhole : {H : Type 0} → Terms H → Type 0
  AreWhole no_terms = ⊤
  AreWhole (t ▸ ts) = IsWhole t × AreWhole ts

-- The term of what is laid out is the term.
abbrev pub KeepsTheTerm : Type 0
KeepsTheTerm = (t : Term Head) → IsWhole t →
    tree_at (reverse (layout_from 0 t)) (length (layout_from 0 t) - 1) ≡ t

-- the nodes of a graph's entries, the last one first
abbrev pub entry_nodes : List StackEntry → List (Node Head)
entry_nodes entries = held_nodes (λ (e : StackEntry). node_of e.operator) entries

-- each of the nodes can be written: an instruction says its payload
abbrev pub AreWritable : List Lang → Type 0
AreWritable nodes = All (λ l. IsTrue (is_writable (payload_of l))) nodes

-- What holds of the entries of every graph: each child stands below its parent, `own_entry` finds entries, each entry's tree has
-- at most 2^32 nodes, and each entry's node can be written.
pub record HasTrees (entries : List StackEntry) (own_entry : ℕ → Option ℕ) : Type 0 where
  pub below : (i : ℕ) (d : StackEntry) → i < length entries → All (λ c. c < i) (children_of (slice_index_or entries i d).operator)
  pub found : (k i : ℕ) → own_entry k ≡ Some i → i < length entries
  pub small : (i : ℕ) → i < length entries → node_count_of (tree_at (entry_nodes entries) i) ≤ 2 ^ 32
  pub writable : AreWritable (map (λ (e : StackEntry). e.operator) entries)

-- an equation of nodes has one proof at most
pub Lang-set : IsSet Lang
Lang-set = Coded-set the_row.coded
