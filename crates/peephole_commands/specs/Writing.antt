-- What the command `write` makes of a body (this project's rules).
use Rattle.std.specs.Prelude.{ℕ, ◌-◌, Bool, ◌&&◌, not, List, [], ◌∷◌, length, reverse, Result, Ok, Err, if◌then◌else◌}
use Rattle.std.specs.Result.{result_map_both}
use Rattle.wasm_code.specs.Instruction.{Instruction}
use Rattle.mutate_base.specs.declared.error.Error.TheVariants.{NoMutationsApplicable}
use Rattle.peephole_lang.specs.Term.{Term, Node, tree_at}
use Rattle.peephole_lang.specs.declared.lang.Head.{Head}
use Rattle.peephole_terms.specs.declared.encoder.request.ResourceRequest.{ResourceRequest}
use Rattle.peephole_graphs.specs.declared.shape.Shape.{Shape}
use Rattle.peephole_terms.specs.Expansion.{Setting}
use Rattle.peephole_graphs.specs.Forest.{forest, is_in_order}
use Rattle.peephole_graphs.specs.Tree.{instructions}
use Rattle.peephole_terms.specs.Written.{Site, block_shapes, term_code, term_requests, written_block, written_body}
use Rattle.peephole_commands.specs.declared.graphs.Refusal.{Refusal}
use Rattle.peephole_commands.specs.declared.graphs.Refusal.TheVariants as refusal
use Rattle.peephole_commands.specs.Graphs.{shapes_or_refusal, of_graph}

-- while preserving, a block out of order is refused
abbrev pub in_order_alone : {A : Type 0} → Bool → List Shape → Result A Refusal → Result A Refusal
in_order_alone preserving block answer = if preserving && not (is_in_order block) then Err (refusal.Refused NoMutationsApplicable) else answer

-- a body that is written, and the globals that it asks for
pub record Output : Type 0 where
  pub bytes : List ℕ
  pub requests : List ResourceRequest

abbrev pub output : List ℕ → List ResourceRequest → Output
output bytes requests = record { bytes = bytes; requests = requests }

-- the body with the block written as these instructions
abbrev pub with_code : Site → List ResourceRequest → List Instruction → Output
with_code site requests code = output (written_body site code) requests

-- the body with the term in the place of the tree of the operator at the point, or the refusal of the term's expansion
abbrev pub with_term : Setting → Site → Term Head → Result Output Refusal
with_term s site t =
    result_map_both (λ code. with_code site (term_requests s.info site t) (written_block s.info site code)) refusal.Refused (term_code s site t)

-- so it is where the block may be written in the mode
abbrev pub term_output : Setting → Bool → Site → Term Head → Result Output Refusal
term_output s preserving site t = in_order_alone preserving (block_shapes s.info site) (with_term s site t)

-- the body with the term of the last node; without nodes with the block's own trees, which ask for nothing
abbrev pub with_nodes : Setting → Site → List (Node Head) → Result Output Refusal
with_nodes s site [] = Ok (with_code site [] (instructions (forest (block_shapes s.info site))))
with_nodes s site (node ∷ nodes) = with_term s site (tree_at (reverse (node ∷ nodes)) (length (node ∷ nodes) - 1))

-- the body with the nodes' term in the place of that tree, under a module and what is drawn, and in a mode
abbrev pub written_output : Setting → Bool → Site → List (Node Head) → Result Output Refusal
written_output s preserving site nodes =
    of_graph (shapes_or_refusal s.info preserving site) (λ block. in_order_alone preserving block (with_nodes s site nodes))
