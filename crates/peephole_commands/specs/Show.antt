-- What the command `show` tells of a block (this project's rules).
use Rattle.std.specs.Prelude.{◌≡◌, ℕ, Bool, true, false, List, ◌++◌, codes, Result, Ok}
use Rattle.wasm_types.specs.Module.{Module}
use Rattle.peephole_graphs.specs.declared.dfg.MiniDFG.{MiniDFG}
use Rattle.peephole_graphs.specs.declared.shape.Shape.{Shape}
use Rattle.peephole_graphs.specs.Color.{color_at}
use Rattle.peephole_graphs.specs.Forest.{forest, is_in_order}
use Rattle.peephole_graphs.specs.Shown.{has_one_color, last_tree_of}
use Rattle.peephole_graphs.specs.Tree.{entry}
use Rattle.peephole_graphs.specs.TreeText.{forest_block_text}
use Rattle.peephole_commands.specs.declared.graphs.Refusal.{Refusal}
use Rattle.peephole_commands.specs.declared.place.Place.{Place}
use Rattle.peephole_terms.specs.Written.{Site}
use Rattle.peephole_commands.specs.Graphs.{shapes_or_refusal, of_graph, site_of, IsPlaceInBlock, IsGraphIn}

abbrev pub yes_or_no : Bool → List ℕ
yes_or_no true = codes "yes"
yes_or_no false = codes "no"

-- whether the tree of the point, which is the block's last operator, has one colour: it is the forest's last tree
abbrev pub is_consistent : Bool → List Shape → Bool
is_consistent preserving block = has_one_color (color_at preserving block) (last_tree_of (entry 0) (forest block))

-- the two verdicts behind the forest
abbrev pub verdicts : (in_order consistent : Bool) → List ℕ
verdicts in_order consistent = codes "in order " ++ (yes_or_no in_order ++ (codes "\nconsistent " ++ (yes_or_no consistent ++ codes "\n")))

-- the forest's text, whether the block is in order, and whether the point's tree has one colour
abbrev pub block_with_verdicts : Bool → (first : ℕ) → List Shape → List ℕ
block_with_verdicts preserving first block = forest_block_text preserving first block ++ verdicts (is_in_order block) (is_consistent preserving block)

-- the same of a block of a body, in a module and a mode
abbrev pub show_output : Module → Bool → Site → Result (List ℕ) Refusal
show_output info preserving site =
    of_graph (shapes_or_refusal info preserving site) (λ block. Ok (block_with_verdicts preserving site.block.start block))

-- the text is what is told of each place whose block has the graph
abbrev pub ShowsGraph : MiniDFG → List ℕ → Type 0
ShowsGraph graph text =
    (info : Module) (preserving : Bool) (p : Place) → IsPlaceInBlock p → IsGraphIn info preserving p graph → show_output info preserving (site_of p) ≡ Ok text
