-- The trees of a graph's entries, entry by entry, and which of them is the last tree of the block's forest. This project's laws.
use Rattle.std.specs.Prelude.{ℕ, suc, ◌-◌, ◌<◌, ◌≡◌, length, Some, slice_get}
use Rattle.std.specs.List.{All}
use Rattle.wasm_code.specs.Instruction.{Instruction}
use Rattle.peephole_lang.specs.Node.{instr_of, children_of}
use Rattle.peephole_lang.specs.declared.lang.Lang.TheVariants.{Undef}
use Rattle.peephole_graphs.specs.declared.dfg.StackEntry.{StackEntry}
use Rattle.peephole_graphs.specs.Tree.{entry, node}
use Rattle.peephole_graphs.specs.Forest.{forest}
use Rattle.peephole_graphs.specs.Graph.{trees_at}
use Rattle.peephole_graphs.specs.Source.{Source, shapes_in}
use Rattle.peephole_graphs.specs.Entries.{Graph, instruction_shape_of, entry_tree, IsForest}
use Rattle.peephole_graphs.specs.GraphOf.{IsGraphOf}
use Rattle.peephole_graphs.specs.Shown.{last_tree_of}

-- the last tree of the forest of a block with operators is that of the last entry
abbrev pub EndsWithTheLastTree : Type 0
EndsWithTheLastTree = (s : Source) (g : Graph) → IsGraphOf s g → (n : ℕ) → length s.operators ≡ suc n →
    last_tree_of (entry 0) (forest (shapes_in s)) ≡ entry_tree s g (length g.entries - 1)

-- the tree of an entry with an instruction is its operator over the trees of its children, in their order
abbrev pub HasOwnTree : Type 0
HasOwnTree = (s : Source) (g : Graph) → IsForest g.entries g.parents → (i : ℕ) (e : StackEntry) (instr : Instruction) →
    slice_get g.entries i ≡ Some e → instr_of e.operator ≡ Some instr →
    entry_tree s g i ≡ node (e.operator_idx - s.first) (instruction_shape_of s.info instr) (trees_at (entry_tree s g) (children_of e.operator))

-- the tree of a missing operand is an entry operand
abbrev pub IsEntryOperand : Type 0
IsEntryOperand = (s : Source) (g : Graph) (i : ℕ) (e : StackEntry) → slice_get g.entries i ≡ Some e → e.operator ≡ Undef →
    (m : ℕ) × (entry_tree s g i ≡ entry m)

-- the children of an entry are entries that stand before it
abbrev pub HasChildrenBefore : Type 0
HasChildrenBefore = (g : Graph) → IsForest g.entries g.parents → (i : ℕ) (e : StackEntry) → slice_get g.entries i ≡ Some e →
    (i < length g.entries) × All (λ c. c < i) (children_of e.operator)
