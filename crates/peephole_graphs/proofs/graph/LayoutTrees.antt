-- The entries of a block's graph have trees that can be laid out.
use Rattle.std.proofs.Common.{◌≡◌, ℕ, zero, suc, ◌+◌, ◌<◌, ◌≤◌, ◌⊎◌, inl, inr, true, List, [], ◌∷◌, length, get_or, map, refl, sym, ap, ◌∙◌, arith, Option}
use Rattle.std.proofs.Common.{Some, None}
use Rattle.std.specs.Prelude.{reverse, ◌==◌}
use Rattle.std.specs.List.{All}
use Rattle.std.proofs.lemmas.Bool.{cond-true, cond-false, eq-eqb, ne_eqb, or_left, or_right, or_cases, eqb-true, false≢true}
use Rattle.std.proofs.lemmas.Option.{slice_get_within, slice_get-get_or}
use Rattle.wasm_types.specs.Module.{Module}
use Rattle.peephole_lang.specs.declared.lang.Head.{Head}
use Rattle.peephole_lang.specs.declared.lang.Lang.TheVariants.{Undef}
use Rattle.peephole_lang.specs.Node.{head_of, node_of, children_of}
use Rattle.peephole_lang.specs.Term.{Term, Node, AreBelow, pick}
use Rattle.peephole_lang.specs.laws.PlaceLemmas as place
use Rattle.peephole_graphs.specs.declared.dfg.StackEntry.{StackEntry}
use Rattle.peephole_graphs.specs.Tree.{full_size}
use Rattle.peephole_graphs.specs.Forest.{has, forest}
use Rattle.peephole_graphs.specs.Graph.{GraphEntry, roots}
use Rattle.peephole_graphs.specs.Growing.{undef_entry}
use Rattle.peephole_graphs.specs.Source.{Source, shapes_in}
use Rattle.peephole_graphs.specs.Entries.{Graph, entry_view, graph_entry, roots_of, entry_tree}
use Rattle.peephole_graphs.specs.GraphOf.{IsGraphOf}
use Rattle.peephole_graphs.specs.Layout.{node_count_of, node_count, entry_nodes, HasTrees}
use Rattle.peephole_graphs.proofs.graph.BlockGraph.{parent_at}
use Rattle.peephole_graphs.proofs.graph.BlockGraphLemmas.{has_reversed}
use Rattle.peephole_graphs.proofs.DfgLemmas.{map_reverse, nodes_length}
use Rattle.peephole_graphs.proofs.graph.GraphOfLemmas.{represents, children_seen, children_here}
use Rattle.peephole_graphs.proofs.graph.GraphLemmas.{children_below}
use Rattle.peephole_graphs.proofs.graph.WritableLemmas.{entries_writable}
use Rattle.peephole_graphs.proofs.graph.NodeCount.{one_of, block_small}
use Rattle.peephole_graphs.proofs.graph.EntryTreeLemmas.{nodes_below}
use Rattle.peephole_graphs.proofs.graph.TermOfLemmas.{at, term_of_entry, terms_of_trees, same_size}

-- ---- the nodes of entries

abbrev pub node_of_entry : StackEntry → Node Head
node_of_entry e = node_of e.operator

-- what stands in the place of a head past the last entry
abbrev pub missing : Head
missing = head_of Undef

pub entries_below : (entries : List StackEntry) → ((i : ℕ) (d : StackEntry) → i < length entries →
    All (λ c. c < i) (children_of (get_or entries i d).operator)) → AreBelow (entry_nodes entries)
entries_below entries h = nodes_below (λ (e : StackEntry). head_of e.operator) entries h

-- an entry of the graph, as a block's theory has it
abbrev pub view : Module → ℕ → StackEntry → GraphEntry
view info first e = graph_entry info first (entry_view e)

pub last_or_before : (n i : ℕ) → i < suc n → (n ≡ i) ⊎ (i < n)
last_or_before n i l = place.last_or_before n i l

-- ---- a tree is no larger than all entries

root_has : (j : ℕ) (ps : List (Option ℕ)) → parent_at ps j ≡ None → j < length ps → has j (roots ps) ≡ true
root_has j [] e l = absurd (omega arith)
root_has j (None ∷ ps) e l = elim (last_or_before (length ps) j l) [
  | inl h ↦ or_left (length ps == j) (has j (roots ps)) (eq-eqb (length ps) j h)
  | inr h ↦ or_right (length ps == j) (has j (roots ps)) (root_has j ps (sym (cond-false _ _ _ (ne_eqb (length ps) j (omega arith))) ∙ e) h)
]
root_has j (Some p ∷ ps) e l = elim (last_or_before (length ps) j l) [
  | inl h ↦ let never = sym (cond-true _ _ _ (eq-eqb (length ps) j h)) ∙ e in absurd cc
  | inr h ↦ root_has j ps (sym (cond-false _ _ _ (ne_eqb (length ps) j (omega arith))) ∙ e) h
]

one_child : (f : ℕ → Term Head) (i : ℕ) (is : List ℕ) → has i is ≡ true → node_count_of (f i) ≤ node_count (pick f is)
one_child f i [] h = absurd (false≢true h)
one_child f i (j ∷ is) h = elim (or_cases (j == i) (has i is) h) [
  | inl e ↦ let same = ap (λ k. node_count_of (f k)) (eqb-true j i e) in omega arith
  | inr e ↦ let rest = one_child f i is e in omega arith
]

cases_None : (o : Option ℕ) → (o ≡ None) ⊎ ((p : ℕ) × (o ≡ Some p))
cases_None None = inl refl
cases_None (Some p) = inr (p, refl)

climb : (source : Source) (given : Graph) (h : IsGraphOf source given) (fuel i : ℕ) → length given.entries ≤ i + fuel → i < length given.entries →
    node_count_of (at source given h i) ≤ full_size (forest (shapes_in source))
climb source given h zero i f l = absurd (omega arith)
climb source given h (suc fuel) i f l =
    let st = (represents source given h).block_graph in
    let n = nodes_length source.info source.first given.entries in
    let tree = entry_tree source given in
    let term = at source given h in
    let ps = reverse given.parents in
    elim (cases_None (parent_at ps i)) [
      | inl e ↦
          let same = same_size (term i) (tree i) (terms_of_trees source given h i l) in
          let is = has_reversed i (roots ps) (root_has i ps e (let m = st.same_length in omega arith)) in
          let within = one_of tree i (roots_of given.parents) is in
          let all = ap full_size st.trees in
          omega arith
      | inr (p, some) ↦
          let c = st.child p i some in
          let inside = c.0 in
          let lower = (st.parent p i c.1).1 in
          let upper = climb source given h fuel p (omega arith) (omega arith) in
          let e = get_or given.entries p (undef_entry 0) in
          let s = slice_get-get_or given.entries p (undef_entry 0) (omega arith) in
          let kids = children_seen source.info source.first given.entries p ∙ children_here given.entries p e s in
          let child = one_child term i (children_of e.operator) (sym (ap (has i) kids) ∙ c.1) in
          let own = ap node_count_of (term_of_entry source given h p e s) in
          omega arith
    ]

-- ---- lists the other way round

pub map_turned : {A B : Type 0} (f : A → B) (xs : List A) → reverse (map f xs) ≡ map f (reverse xs)
map_turned f xs = sym (map_reverse f xs)

-- ---- the entries of a block's graph

pub has_trees : (source : Source) (given : Graph) → IsGraphOf source given → HasTrees given.entries given.own_entry
has_trees source given h = record {
  below = children_below source given h;
  found = λ k i e. let own = (h.finds k i).0 e in slice_get_within given.entries i own.0 own.1;
  small = λ i l.
      let most = climb source given h (length given.entries) i (omega arith) l in
      let bound = block_small source.preserving (shapes_in source) h.small in
      omega arith;
  writable = entries_writable given.entries (represents source given h).missing;
}
