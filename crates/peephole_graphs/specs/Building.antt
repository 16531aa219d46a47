-- What the builder answers before its lists become a graph. This project's rule, for the builder alone.
use Rattle.std.specs.Prelude.{◌↔◌, IsTrue}
use Rattle.peephole_graphs.specs.declared.growing.Growing.{Growing}
use Rattle.peephole_graphs.specs.Source.{Source}
use Rattle.peephole_graphs.specs.Entries.{Graph, kins_of}
use Rattle.peephole_graphs.specs.Measures.{SubtreesAreMeasured, forwards}
use Rattle.peephole_graphs.specs.Order.{TreesAreInOrder}
use Rattle.peephole_graphs.specs.Contiguous.{HasContiguousTrees}
use Rattle.peephole_graphs.specs.GraphOf.{IsGraphOf}
use Rattle.peephole_graphs.specs.OwnEntries.{own_entry_in}

-- the graph that its lists are
abbrev pub graph_in : Growing → Graph
graph_in g = record { entries = g.entries.items; parents = g.parents.items; own_entry = own_entry_in g.map }

pub record HasGrown (s : Source) (g : Growing) : Type 0 where
  pub graph : IsGraphOf s (graph_in g)
  pub measured : SubtreesAreMeasured g.entries.items g.subtrees.items
  pub contiguous : IsTrue s.preserving → HasContiguousTrees g.entries.items
  pub lies : IsTrue (forwards (kins_of g.entries.items)) ↔ TreesAreInOrder g.entries.items g.parents.items
