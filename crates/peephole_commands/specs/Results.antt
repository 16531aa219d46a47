-- What the command `result` tells of an operator (this project's rules).
use Rattle.std.specs.Prelude.{Bool, Option, None, Result, Ok}
use Rattle.std.specs.Result.{result_ok, result_map_both}
use Rattle.mutate_base.specs.declared.error.Error.{Error}
use Rattle.wasm_types.specs.declared.types.PrimitiveTypeInfo.{PrimitiveTypeInfo}
use Rattle.wasm_types.specs.declared.types.PrimitiveTypeInfo.TheVariants.{Empty}
use Rattle.peephole_analysis.specs.Analysis.{Analysis, instruction_type}
use Rattle.peephole_graphs.specs.declared.dfg.MiniDFG.{MiniDFG}
use Rattle.peephole_graphs.specs.Forest.{forest}
use Rattle.peephole_graphs.specs.Shown.{last_tree_of}
use Rattle.peephole_graphs.specs.Tree.{Tree, Trees, entry, node, no_trees, ◌▸◌}
use Rattle.peephole_commands.specs.declared.graphs.Refusal.{Refusal}
use Rattle.peephole_commands.specs.declared.graphs.Refusal.TheVariants as refusal
use Rattle.peephole_commands.specs.declared.place.Place.{Place}
use Rattle.peephole_terms.specs.Written.{Site}
use Rattle.peephole_commands.specs.Graphs.{shapes_or_refusal, of_graph, site_of, IsGraphIn, AnswersAs}

-- The type of an operator's result, by that of its first operand, which isn't known where it is refused. A missing
-- operand's is `empty`.
abbrev mutual
  pub tree_type : Analysis → Tree → Result PrimitiveTypeInfo Error
  tree_type a (entry m) = Ok Empty
  tree_type a (node i s kids) = instruction_type a (first_tree_type a kids) s.instr

  pub first_tree_type : Analysis → Trees → Option PrimitiveTypeInfo
  first_tree_type a no_trees = None
  first_tree_type a (t ▸ ts) = result_ok (tree_type a t)

-- of the point, which is the block's last operator: its tree is the forest's last one
abbrev pub result_output : Analysis → (preserving : Bool) → Site → Result PrimitiveTypeInfo Refusal
result_output a preserving site = of_graph (shapes_or_refusal a.info preserving site) (λ block.
    result_map_both (λ t. t) refusal.Refused (tree_type a (last_tree_of (entry 0) (forest block))))

-- a call told the point's type by the graph of its block, whatever the mode
abbrev pub TellsPointType : Analysis → MiniDFG → Place → Result PrimitiveTypeInfo Refusal → Type 0
TellsPointType a graph p result =
    (preserving : Bool) → IsGraphIn a.info preserving p graph → AnswersAs (λ t. t) (result_output a preserving (site_of p)) result
