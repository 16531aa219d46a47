-- What has grown is the graph of the block.
use Rattle.std.proofs.Common.{Bool, ◌≡◌, ℕ, suc, ◌+◌, ◌-◌, ◌≤◌, List, length, get_or, Option, None, Some, sym, ap, ◌∙◌, subst, arith, ⊎_elim, refl}
use Rattle.std.specs.Prelude.{◌↔◌, IsTrue, nat_le, is_some, option_map, reverse, slice_get, if◌then◌else◌}
use Rattle.std.proofs.lemmas.Bool.{cond-true, cond-false, le-leb, lt-leb, cases_lt}
use Rattle.std.proofs.lemmas.List.{take_all}
use Rattle.std.proofs.lemmas.Option.{slice_get-get_or, slice_get_within}
use Rattle.wasm_code.specs.Instruction.{Instruction}
use Rattle.wasm_types.specs.Module.{Module}
use Rattle.peephole_lang.specs.Node.{instr_of}
use Rattle.peephole_graphs.specs.declared.dfg.StackEntry.{StackEntry}
use Rattle.peephole_graphs.specs.declared.growing.Growing.{Growing}
use Rattle.peephole_graphs.specs.Forest.{IsInOrder}
use Rattle.peephole_graphs.specs.Graph.{GraphEntry}
use Rattle.peephole_graphs.specs.Step.{GraphGrowth}
use Rattle.peephole_graphs.specs.Downwards.{Kin}
use Rattle.peephole_graphs.specs.Measures.{forwards}
use Rattle.peephole_graphs.specs.Source.{Source, shapes_in}
use Rattle.peephole_graphs.specs.Entries.{kins_of, instruction_shape_of}
use Rattle.peephole_graphs.specs.Growing.{undef_entry}
use Rattle.peephole_graphs.specs.GraphOf.{IsSmall, IsGraphOf, IsOwnEntry}
use Rattle.peephole_graphs.specs.Building.{HasGrown, graph_in}
use Rattle.peephole_graphs.specs.OwnEntries.{own_entry_in}
use Rattle.peephole_graphs.proofs.Lists.{all_slice_get}
use Rattle.peephole_graphs.proofs.graph.BlockGraph.{parent_at, is_operator, IsBlockGraph}
use Rattle.peephole_graphs.proofs.graph.StackGraph.{graph}
use Rattle.peephole_graphs.proofs.graph.BlockGraphLemmas.{own, Facts, block_graph, facts}
use Rattle.peephole_graphs.proofs.graph.Totals.{kins}
use Rattle.peephole_graphs.proofs.DfgLemmas.{nodes_length, kins_same, get_item, later_entries}
use Rattle.peephole_graphs.proofs.graph.ForwardOrder.{order_forwards}
use Rattle.peephole_graphs.proofs.forest.ColorRise.{block_raises}
use Rattle.peephole_graphs.proofs.graph.ContiguousLemmas.{contiguous}
use Rattle.peephole_graphs.proofs.graph.OrderLemmas.{in_order}
use Rattle.peephole_graphs.proofs.graph.GraphOfLemmas.{is_graph_of, entry_here}
use Rattle.peephole_graphs.proofs.BuilderLemmas.{Kept, nodes_in, state_of, over, front, block_length, kept_parents}

none_index : {P : Type 0} (i : ℕ) → ◌≡◌ {A = Option ℕ} None (Some i) → P
none_index i e = cc

operator_some : (info : Module) (o : Option Instruction) → is_operator (option_map (instruction_shape_of info) o) ≡ is_some o
operator_some info None = refl
operator_some info (Some i) = refl

-- the index of the own entry of the operator with the body's index `k`, if the block has one
abbrev named : ℕ → List GraphEntry → ℕ → Option ℕ
named first nodes k = if nat_le first k then own nodes (k - first) else None

named_key : (first n : ℕ) (nodes : List GraphEntry) → named first nodes (first + n) ≡ own nodes n
named_key first n nodes =
    let e : (first + n) - first ≡ n = omega arith in cond-true _ _ _ (le-leb first (first + n) (omega arith)) ∙ ap (own nodes) e

module _ (source : Source) (g : Growing) (h : Kept source g) where
  state_is : graph source.preserving (shapes_in source) ≡ state_of source g
  state_is = sym h.state

  facts_are : Facts source.preserving (shapes_in source) (nodes_in source g) (reverse g.parents.items)
  facts_are = subst (λ (x : GraphGrowth). Facts source.preserving (shapes_in source) x.nodes x.parents) state_is (facts source.preserving (shapes_in source))

  count : length (nodes_in source g) ≡ length g.entries.items
  count = nodes_length source.info source.first g.entries.items

  low : (i : ℕ) (x : StackEntry) → slice_get g.entries.items i ≡ Some x → source.first ≤ x.operator_idx
  low i x s = all_slice_get (λ (e : StackEntry). source.first ≤ e.operator_idx) g.entries.items i x s (later_entries source.first g.entries.items h.later)

  names : (k : ℕ) → own_entry_in g.map k ≡ named source.first (nodes_in source g) k
  names k = ap (λ first. if nat_le first k then slice_get g.map.entries.items (k - first) else None) h.first ∙
      ap (λ (x : Option ℕ). if nat_le source.first k then x else None) (h.names (k - source.first))

  -- the map finds the own entry of each operator, and nothing else
  found_is_own : (k i : ℕ) → own_entry_in g.map k ≡ Some i → IsOwnEntry g.entries.items k i
  found_is_own k i e = ⊎_elim
      (λ u. none_index i (sym (cond-false _ _ _ (lt-leb source.first k u)) ∙ (sym (names k) ∙ e)))
      (λ u.
      let o = facts_are.owned (k - source.first) i (sym (cond-true _ _ _ (le-leb source.first k u)) ∙ (sym (names k) ∙ e)) in
      let x = get_or g.entries.items i (undef_entry 0) in
      let n = count in
      let inside = o.0 in
      let s = slice_get-get_or g.entries.items i (undef_entry 0) (omega arith) in
      let q = entry_here source.info source.first g.entries.items i x s in
      let a = low i x s in
      let m = sym (ap (λ (e : GraphEntry). e.number) q) ∙ o.2 in
      (x, s, omega arith, sym (operator_some source.info (instr_of x.operator)) ∙ (sym (ap (λ (e : GraphEntry). is_operator e.shape) q) ∙ o.1)))
      (cases_lt k source.first)

  own_is_found : (k i : ℕ) → IsOwnEntry g.entries.items k i → own_entry_in g.map k ≡ Some i
  own_is_found k i w =
      let n = count in
      let l = slice_get_within g.entries.items i w.0 w.1 in
      let q = entry_here source.info source.first g.entries.items i w.0 w.1 in
      let a = low i w.0 w.1 in
      let c = w.2 in
      let o = facts_are.owner i (omega arith)
      (ap (λ (e : GraphEntry). is_operator e.shape) q ∙ (operator_some source.info (instr_of (w.0).operator) ∙ w.3)) in
      let m = ap (λ (e : GraphEntry). e.number) q ∙ ap (λ x. x - source.first) c in
      names k ∙ (cond-true _ _ _ (le-leb source.first k (omega arith)) ∙ (ap (own (nodes_in source g)) (sym m) ∙ o))

  last_is_found : (n : ℕ) → length source.operators ≡ suc n → (own_entry_in g.map (source.first + n) ≡ Some (length g.entries.items - 1))
      × (slice_get g.parents.items (length g.entries.items - 1) ≡ Some None)
  last_is_found n e =
      let ps = g.parents.items in
      let m = count in
      let c = facts_are.count in
      let p = kept_parents source g h in
      let b = block_length source.info source.operators h.fit in
      let f = facts_are.last n (omega arith) in (
        names (source.first + n) ∙ (named_key source.first n (nodes_in source g) ∙ (f.0 ∙ ap (λ k. Some (k - 1)) m)),
        slice_get-get_or ps (length g.entries.items - 1) None (omega arith) ∙ ap Some (get_item None ps (length g.entries.items - 1) ∙
            (ap (λ k. parent_at (reverse ps) (k - 1)) (sym m) ∙ f.1)),
      )

  is_graph : IsGraphOf source (graph_in g)
  is_graph = is_graph_of source (graph_in g) (record {
    fit = h.fit;
    small = h.small;
    block_graph = subst (λ (x : GraphGrowth). IsBlockGraph source.preserving (shapes_in source) x.nodes x.parents) state_is
        (block_graph source.preserving (shapes_in source));
    finds = λ k i. (found_is_own k i, own_is_found k i);
    keys = λ m l. let b = block_length source.info source.operators h.fit in let w = facts_are.owns m (omega arith) in
        ap is_some (names (source.first + m) ∙ (named_key source.first m (nodes_in source g) ∙ w.2));
    last = last_is_found;
    later = h.later;
    missing = h.missing;
  })

  has_grown : HasGrown source g
  has_grown =
      let block = shapes_in source in
      let es = g.entries.items in
      let forward : IsTrue (forwards (kins_of es)) ↔ IsInOrder block = subst (λ (x : List Kin). IsTrue (forwards x) ↔ IsInOrder block)
      (ap (λ (x : GraphGrowth). kins x.nodes) state_is ∙ kins_same source.info source.first es) (order_forwards source.preserving block h.small) in
      let order = in_order source (graph_in g) is_graph in
      record {
        graph = is_graph;
        contiguous = λ on. contiguous source.info source.first block es (ap (λ (k : Bool). (graph k block).nodes) (sym on) ∙
            ap (λ (x : GraphGrowth). x.nodes) state_is) h.later (block_raises source.info source.operators) (subst (λ k. IsSmall k block) on h.small);
        measured = h.measured;
        lies = (λ t. order.1 (forward.0 t), λ a. forward.1 (order.0 a));
      }

pub kept_all : (source : Source) (i : ℕ) (g : Growing) → length source.operators ≤ i → Kept (front source i) g → HasGrown source g
kept_all source i g l h = has_grown source g (subst (λ x. Kept (over source x) g) (take_all i source.operators l) h)
