-- What `show` answers, by what its calls answer.
use Rattle.std.proofs.Common.{◌≡◌, ℕ, suc, ◌+◌, ◌-◌, ◌<◌, Bool, List, ◌++◌, length, sym, ap, ap₂, ◌∙◌, ◌≤◌, arith, Ok, Err}
use Rattle.std.proofs.lemmas.Grind.{common_steps}
use Rattle.std.specs.Prelude.{◌↔◌, IsTrue, Result, MatchResult, slice_range}
use Rattle.std.specs.Bool.{one_answer}
use Rattle.std.proofs.lemmas.Option.{slice_get_within}
use Rattle.wasm_code.specs.declared.operator.Operator.{Operator}
use Rattle.wasm_types.specs.Module.{Module}
use Rattle.mutate_base.specs.declared.error.Error.{Error}
use Rattle.mutate_base.specs.declared.error.Error.TheVariants.{Memory}
use Rattle.peephole_graphs.specs.declared.dfg.MiniDFG.{MiniDFG}
use Rattle.peephole_graphs.specs.declared.shape.Shape.{Shape}
use Rattle.peephole_graphs.specs.Dfg.{graph_of}
use Rattle.peephole_graphs.specs.Downwards.{HasOneColor}
use Rattle.peephole_graphs.specs.Entries.{kins_of}
use Rattle.peephole_graphs.specs.Faults.{HasNoFault}
use Rattle.peephole_graphs.specs.Forest.{IsInOrder, is_in_order, DecidesTheOrder}
use Rattle.peephole_graphs.specs.ForestText.{default_text}
use Rattle.peephole_graphs.specs.Order.{TreesAreInOrder}
use Rattle.peephole_terms.specs.Written.{source_at, block_operators, block_shapes}
use Rattle.peephole_graphs.specs.Shown.{ShowsTheForest, ShowsTheOrder, ShowsTheColor}
use Rattle.peephole_graphs.specs.TreeText.{forest_block_text}
use Rattle.peephole_commands.specs.declared.graphs.Refusal.{Refusal}
use Rattle.peephole_commands.specs.declared.place.Place.{Place}
use Rattle.peephole_commands.specs.Graphs.{of_graph, site_of, IsPlaceInBlock, IsGraphIn}
use Rattle.peephole_commands.specs.Show.{verdicts, is_consistent, block_with_verdicts, show_output, ShowsGraph}
use Rattle.peephole_commands.proofs.Refusals.{shapes_found}

length_range : (os : List (Operator × ℕ)) (start end : ℕ) → start ≤ end → end ≤ length os → length (slice_range os start end) ≡ end - start
length_range os start end l m = grind (arith, common_steps)

-- the operators of a place's block, of which the point is the last one
pub place_length : (p : Place) → IsPlaceInBlock p → length (block_operators (site_of p)) ≡ suc (p.point - p.block.now.start)
place_length p h =
    let last = h.block.last in
    let some = h.block.some in
    let within = h.within in
    length_range p.body.now.operators p.block.now.start p.block.now.end (omega arith) (omega arith) ∙ omega arith

-- its graph has entries
pub some_entries : (info : Module) (preserving : Bool) (p : Place) (graph : MiniDFG) → IsPlaceInBlock p → IsGraphIn info preserving p graph →
    0 < length (graph_of graph).entries
some_entries info preserving p graph place g =
    let n = p.point - p.block.now.start in
    let entries = (graph_of graph).entries in
    let own = (g.finds (p.block.now.start + n) (length entries - 1)).0 (g.last n (place_length p place)).0 in
    let there = slice_get_within entries (length entries - 1) own.0 own.1 in
    omega arith

pub shown_is : HasNoFault → DecidesTheOrder → ShowsTheForest → ShowsTheOrder → ShowsTheColor →
    (info : Module) (preserving : Bool) (p : Place) (graph : MiniDFG) (in_order consistent : Bool) → IsPlaceInBlock p → IsGraphIn info preserving p graph →
    IsTrue in_order ↔ TreesAreInOrder (graph_of graph).entries (graph_of graph).parents →
    IsTrue consistent ↔ HasOneColor (kins_of (graph_of graph).entries) (length (graph_of graph).entries - 1) →
    show_output info preserving (site_of p) ≡ Ok (default_text (graph_of graph).entries (graph_of graph).parents ++ verdicts in_order consistent)
shown_is fits decides text ordered color info preserving p graph in_order consistent place g o c =
    let s = source_at info preserving (site_of p) in
    let first = p.block.now.start in
    let entries = (graph_of graph).entries in
    let block = block_shapes info (site_of p) in
    let lies = ordered s (graph_of graph) g in
    let order : in_order ≡ is_in_order block =
    one_answer {P = IsInOrder block} in_order (is_in_order block) (λ t. lies.0 (o.0 t), λ t. o.1 (lies.1 t)) (decides block) in
    let same : consistent ≡ is_consistent preserving block =
    one_answer {P = HasOneColor (kins_of entries) (length entries - 1)} consistent (is_consistent preserving block) c
    (color s (graph_of graph) g (p.point - first) (place_length p place)) in
    ap (λ (r : Result (List Shape) Refusal). of_graph r (λ block. Ok (block_with_verdicts preserving first block)))
    (shapes_found fits info preserving p graph g)
    ∙ ap (λ (t : List ℕ). let r : Result (List ℕ) Refusal = Ok t in r)
    (sym (ap₂ (λ t b. t ++ verdicts b consistent) (text s (graph_of graph) g) order
    ∙ ap (λ b. forest_block_text preserving first block ++ verdicts (is_in_order block) b) same))

-- a call that made this text, or lacked memory, shows the graph
pub shown_by : {T : Type 0} (graph : MiniDFG) (bytes : T → List ℕ) (line : List ℕ) → ShowsGraph graph line → (result : Result T Error) →
    MatchResult result (λ text. bytes text ≡ line) (λ e. e ≡ Memory) → MatchResult result (λ text. ShowsGraph graph (bytes text)) (λ e. e ≡ Memory)
shown_by graph bytes line shows (Ok text) h = rw h shows
shown_by graph bytes line shows (Err e) h = h
