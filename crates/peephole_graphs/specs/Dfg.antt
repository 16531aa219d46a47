-- What a graph shows, and its copies. This project.
use Rattle.std.specs.Prelude.{◌≡◌, ℕ}
use Rattle.std.specs.List.{AllZip}
use Rattle.peephole_lang.specs.Node.{SameNode}
use Rattle.peephole_graphs.specs.declared.dfg.StackEntry.{StackEntry}
use Rattle.peephole_graphs.specs.declared.dfg.MiniDFG.{MiniDFG}
use Rattle.peephole_graphs.specs.GraphOf.{IsGraphOf}
use Rattle.peephole_graphs.specs.Source.{Source}
use Rattle.peephole_graphs.specs.OwnEntries.{own_entry_in}
pub use Rattle.peephole_graphs.specs.Entries.{Graph}

-- the entries, their parents, and the own entry of each operator, as a contract sees them
abbrev pub graph_of : MiniDFG → Graph
graph_of g = record { entries = g.entries.items; parents = g.parents.items; own_entry = own_entry_in g.map }

-- the same node, with the same colour, of the same operator
abbrev pub IsSameEntry : StackEntry → StackEntry → Type 0
IsSameEntry e f = SameNode e.operator f.operator × (f.color ≡ e.color) × (f.operator_idx ≡ e.operator_idx)

-- the same entries, one by one, the same parents, and the same own entries of operators
pub record IsSameGraph (g h : MiniDFG) : Type 0 where
  pub entries : AllZip IsSameEntry (graph_of g).entries (graph_of h).entries
  pub parents : (graph_of h).parents ≡ (graph_of g).parents
  pub map : (k : ℕ) → (graph_of h).own_entry k ≡ (graph_of g).own_entry k

-- a copy of a block's graph is a graph of that block
abbrev pub KeepsItsBlock : Type 0
KeepsItsBlock = (s : Source) (g h : MiniDFG) → IsSameGraph g h → IsGraphOf s (graph_of g) → IsGraphOf s (graph_of h)
