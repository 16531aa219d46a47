-- What the graph of a block is in the theory's lists.
use Rattle.std.specs.Prelude.{ℕ, suc, ◌+◌, ◌-◌, ◌<◌, ◌≤◌, ◌≡◌, ◌↔◌, true, length, map, reverse, None, Some, is_some, slice_get}
use Rattle.std.specs.List.{All}
use Rattle.peephole_lang.specs.Node.{instr_of}
use Rattle.peephole_lang.specs.declared.lang.Lang.TheVariants.{Undef}
use Rattle.peephole_graphs.specs.declared.dfg.StackEntry.{StackEntry}
use Rattle.peephole_graphs.specs.Shape.{AreFit}
use Rattle.peephole_graphs.specs.Entries.{Graph, EntryView, entry_view, graph_entries}
use Rattle.peephole_graphs.specs.GraphOf.{IsSmall, IsOwnEntry}
use Rattle.peephole_graphs.specs.Source.{Source, shapes_in}
use Rattle.peephole_graphs.proofs.graph.BlockGraph.{IsBlockGraph}

-- an entry without an instruction is a missing operand, and its node `Undef`
abbrev pub IsOwnOrUndef : StackEntry → Type 0
IsOwnOrUndef e = instr_of e.operator ≡ None → e.operator ≡ Undef

pub record Represents (source : Source) (given : Graph) : Type 0 where
  pub fit : AreFit source.info source.operators
  pub small : IsSmall source.preserving (shapes_in source)
  pub block_graph : IsBlockGraph source.preserving (shapes_in source) (graph_entries source.info source.first given.entries)
      (reverse given.parents)
  pub missing : All IsOwnOrUndef given.entries
  pub later : All (λ (x : EntryView). source.first ≤ x.operator) (map entry_view given.entries)
  pub finds : (k i : ℕ) → (given.own_entry k ≡ Some i) ↔ IsOwnEntry given.entries k i
  pub keys : (n : ℕ) → n < length source.operators → is_some (given.own_entry (source.first + n)) ≡ true
  pub last : (n : ℕ) → length source.operators ≡ suc n → (given.own_entry (source.first + n) ≡ Some (length given.entries - 1)) ×
      (slice_get given.parents (length given.entries - 1) ≡ Some None)
