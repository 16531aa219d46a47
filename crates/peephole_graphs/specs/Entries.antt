-- The entries of a graph, as what they stand for. The code's lists ascend; those of the theory have the last entry first. This project's rule.
use Rattle.std.specs.Prelude.{ℕ, ◌-◌, ◌<◌, ◌≡◌, true, false, List, [], length, map, reverse, slice_get, slice_index_or, Option, Some, option_map}
use Rattle.std.specs.Bool.{nat_eq}
use Rattle.std.specs.List.{IsDistinct}
use Rattle.wasm_code.specs.Instruction.{Instruction}
use Rattle.wasm_types.specs.Module.{Module}
use Rattle.peephole_lang.specs.Node.{instr_of, children_of}
use Rattle.peephole_graphs.specs.declared.dfg.StackEntry.{StackEntry}
use Rattle.peephole_graphs.specs.Shape.{Shape, Judged, Fits, judge_instruction}
use Rattle.peephole_graphs.specs.Source.{Source}
use Rattle.peephole_graphs.specs.Tree.{Tree, Trees}
use Rattle.peephole_graphs.specs.Forest.{has}
use Rattle.peephole_graphs.specs.Graph.{GraphEntry, trees_at, tree_at_entry, roots}
use Rattle.peephole_graphs.specs.Downwards.{Kin}

-- A graph: its entries, the parent of each, and where the own entry of an operator is found by the operator's index in the body.
pub record Graph : Type 0 where
  pub entries : List StackEntry
  pub parents : List (Option ℕ)
  pub own_entry : ℕ → Option ℕ

-- An entry's instruction, or none for a missing operand; its children; the body's index of the operator that it is or that took it; its colour.
pub record EntryView : Type 0 where
  pub instr : Option Instruction
  pub children : List ℕ
  pub operator : ℕ
  pub color : ℕ

-- the same of an entry of the code, whose node tells the instruction and the children
abbrev pub entry_view : StackEntry → EntryView
entry_view e = record { instr = instr_of e.operator; children = children_of e.operator; operator = e.operator_idx; color = e.color }

-- an entry's children and colour
abbrev pub kin : StackEntry → Kin
kin e = record { children = children_of e.operator; color = e.color }

-- those of all entries, the last one first
abbrev pub kins_of : List StackEntry → List Kin
kins_of entries = reverse (map kin entries)

-- an instruction's shape, where a graph can hold it
abbrev pub shape_of_judged : Instruction → Judged → Shape
shape_of_judged i (Fits s) = s
shape_of_judged i _ = record { instr = i; operands = 0; has_result = false; change = 0 }

-- the shape of an instruction under a module's information
abbrev pub instruction_shape_of : Module → Instruction → Shape
instruction_shape_of info i = shape_of_judged i (judge_instruction info i)

-- the operators are numbered from the block's first one on, whose index in the body is `first`
abbrev pub graph_entry : Module → ℕ → EntryView → GraphEntry
graph_entry info first e = record {
  shape = option_map (instruction_shape_of info) e.instr;
  children = e.children;
  number =
      e.operator - first;
  color = e.color;
}

-- all of them, the last one first
abbrev pub graph_entries : Module → ℕ → List StackEntry → List GraphEntry
graph_entries info first entries = reverse (map (graph_entry info first) (map entry_view entries))

-- the indexes, ascending, of the entries without a parent
abbrev pub roots_of : List (Option ℕ) → List ℕ
roots_of parents = reverse (roots (reverse parents))

-- the tree of the entry with an index
abbrev pub entry_tree : Source → Graph → ℕ → Tree
entry_tree s g i = tree_at_entry (graph_entries s.info s.first g.entries) i

-- the trees of the entries without a parent, ascending
abbrev pub forest_of : Source → Graph → Trees
forest_of s g = trees_at (entry_tree s g) (roots_of g.parents)

-- the children of the entry with an index, and none past the last one
abbrev pub children_at : List StackEntry → ℕ → List ℕ
children_at entries p = slice_index_or (map (λ (e : StackEntry). children_of e.operator) entries) p []

-- The entries are a forest: an entry is the child of its parent and of no other entry, stands among its parent's children
-- once, and stands before it.
pub record IsForest (entries : List StackEntry) (parents : List (Option ℕ)) : Type 0 where
  pub paired : length parents ≡ length entries
  pub parent : (p i : ℕ) → has i (children_at entries p) ≡ true → (slice_get parents i ≡ Some (Some p)) × (i < p)
  pub child : (p i : ℕ) → slice_get parents i ≡ Some (Some p) → has i (children_at entries p) ≡ true
  pub once : (p : ℕ) → IsDistinct nat_eq (children_at entries p)
