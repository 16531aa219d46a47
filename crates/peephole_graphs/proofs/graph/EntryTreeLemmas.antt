-- The trees of a graph's entries, entry by entry, and the last tree of its block's forest.
use Rattle.std.proofs.Common.{◌≡◌, ℕ, zero, suc, ◌+◌, ◌-◌, ◌<◌, inl, inr, List, [], ◌∷◌, ◌++◌, length, get_or, map, take, refl, sym, ap, ap₂, ◌∙◌, arith}
use Rattle.std.proofs.Common.{Option, Some, None, append_assoc}
use Rattle.std.specs.Prelude.{slice_get, option_map, reverse}
use Rattle.std.specs.List.{All, flat_map}
use Rattle.std.proofs.lemmas.Bool.{cond-true, cond-false, eq-eqb, ne_eqb}
use Rattle.std.proofs.lemmas.List.{length-reverse, get_or-map, append-nil, reverse-append, take_all, take_more, length-take-le}
use Rattle.std.proofs.lemmas.List.Elements.{All-nil, All-head, All-tail, All-weaker}
use Rattle.std.proofs.lemmas.Option.{slice_get_within, slice_get-get_or, get_or_from_slice_get}
use Rattle.wasm_types.specs.Module.{Module}
use Rattle.peephole_lang.specs.Node.{instr_of, children_of}
use Rattle.peephole_lang.specs.Term.{Node, node, AreBelow, pick, tree_at, nodes_of}
use Rattle.peephole_lang.specs.laws.PlaceLemmas.{last_or_before, at_place, tree_is}
use Rattle.peephole_graphs.specs.declared.dfg.StackEntry.{StackEntry}
use Rattle.peephole_graphs.specs.Shape.{Shape}
use Rattle.peephole_graphs.specs.Tree as tree
use Rattle.peephole_graphs.specs.Tree.{Tree, ◌▸◌}
use Rattle.peephole_graphs.specs.Forest.{has}
use Rattle.peephole_graphs.specs.Graph.{GraphEntry, roots, undefs, trees_at, tree_of_entry, tree_at_entry}
use Rattle.peephole_graphs.specs.Growing.{undef_entry}
use Rattle.peephole_graphs.specs.Entries.{Graph, IsForest, kin, kins_of, entry_view, instruction_shape_of, graph_entry, graph_entries, roots_of, entry_tree}
use Rattle.peephole_graphs.specs.Downwards.{Kin, downwards, kin_at}
use Rattle.peephole_graphs.specs.Shown.{last_tree_of}
use Rattle.peephole_graphs.specs.EntryTrees.{EndsWithTheLastTree, HasOwnTree, IsEntryOperand, HasChildrenBefore}
use Rattle.peephole_graphs.proofs.graph.BlockGraph.{entry_at}
use Rattle.peephole_graphs.proofs.DfgLemmas.{nodes_length, kins_length, get_item}
use Rattle.peephole_graphs.proofs.graph.Sizes.{kin_older}
use Rattle.peephole_graphs.proofs.graph.BlockGraphLemmas.{has_root, has_back}
use Rattle.peephole_graphs.proofs.graph.GraphOfLemmas.{children_here, entry_here, undef_instr, undef_children}
use Rattle.peephole_graphs.proofs.graph.GraphLemmas.{roots_root}
use Rattle.peephole_graphs.proofs.Lists.{all_has}

-- ---- the tree of an entry, over the trees of all entries

-- a later entry leaves the trees of those before it
trees_before : (e : GraphEntry) (earlier : List GraphEntry) (is : List ℕ) → All (λ c. c < length earlier) is →
    trees_at (tree_at_entry earlier) is ≡ trees_at (tree_at_entry (e ∷ earlier)) is
trees_before e earlier [] h = refl
trees_before e earlier (i ∷ is) h =
    let l = All-head (λ c. c < length earlier) i is h in
    ap₂ (λ t ts. t ▸ ts) (sym (cond-false _ _ _ (ne_eqb (length earlier) i (omega arith))))
    (trees_before e earlier is (All-tail (λ c. c < length earlier) i is h))

entry_tree_over : (x : Option Shape) (children : List ℕ) (number missing : ℕ) (f g : ℕ → Tree) → trees_at f children ≡ trees_at g children →
    tree_of_entry x children number missing f ≡ tree_of_entry x children number missing g
entry_tree_over None children number missing f g e = refl
entry_tree_over (Some s) children number missing f g e = ap (tree.node number s) e

-- the entry's tree, some number standing for that of the entry operands before it
abbrev HasTree : List GraphEntry → ℕ → GraphEntry → Type 0
HasTree nodes i e = (missing : ℕ) × (tree_at_entry nodes i ≡ tree_of_entry e.shape e.children e.number missing (tree_at_entry nodes))

tree_step : (nodes : List GraphEntry) (i : ℕ) (x : GraphEntry) → i < length nodes → entry_at nodes i ≡ x → All (λ c. c < i) x.children → HasTree nodes i x
tree_step [] i x l at h = absurd (omega arith)
tree_step (e ∷ earlier) i x l at h = elim (last_or_before (length earlier) i l) [
  | inl w ↦
      let here = eq-eqb (length earlier) i w in
      let same : e ≡ x = sym (cond-true _ _ _ here) ∙ at in
      let within : All (λ c. c < length earlier) x.children = λ k d m. let b = h k d m in omega arith in (
        undefs earlier,
        cond-true _ _ _ here ∙ (ap (λ (y : GraphEntry). tree_of_entry y.shape y.children y.number (undefs earlier) (tree_at_entry earlier)) same
            ∙ entry_tree_over x.shape x.children x.number (undefs earlier) (tree_at_entry earlier) (tree_at_entry (e ∷ earlier))
            (trees_before e earlier x.children within)),
      )
  | inr w ↦
      let other = ne_eqb (length earlier) i (omega arith) in
      let own = tree_step earlier i x w (sym (cond-false _ _ _ other) ∙ at) h in
      let within : All (λ c. c < length earlier) x.children = λ k d m. let b = h k d m in omega arith in (
        own.0,
        cond-false _ _ _ other ∙ (own.1 ∙ entry_tree_over x.shape x.children x.number own.0 (tree_at_entry earlier) (tree_at_entry (e ∷ earlier))
            (trees_before e earlier x.children within)),
      )
]

-- ---- the laws of entries

pub children_before : HasChildrenBefore
children_before given h i e s = (
  slice_get_within given.entries i e s,
  all_has (λ c. c < i) (children_of e.operator) (λ c w. (h.parent i c (ap (λ x. has c x) (children_here given.entries i e s) ∙ w)).1),
)

seen_tree : (info : Module) (first : ℕ) (entries : List StackEntry) (i : ℕ) (e : StackEntry) → slice_get entries i ≡ Some e →
    All (λ c. c < i) (children_of e.operator) → HasTree (graph_entries info first entries) i (graph_entry info first (entry_view e))
seen_tree info first entries i e s below =
    let l = slice_get_within entries i e s in
    let n = nodes_length info first entries in
    tree_step (graph_entries info first entries) i (graph_entry info first (entry_view e)) (omega arith) (entry_here info first entries i e s) below

pub own_tree : HasOwnTree
own_tree source given h i e instr s is =
    let own = seen_tree source.info source.first given.entries i e s (children_before given h i e s).1 in rw is at own.1

pub entry_operand : IsEntryOperand
entry_operand source given i e s u =
    let no_children : children_of e.operator ≡ [] = ap children_of u ∙ undef_children in
    let none : instr_of e.operator ≡ None = ap instr_of u ∙ undef_instr in
    let own = seen_tree source.info source.first given.entries i e s (rw no_children (All-nil (λ c. c < i))) in (
      own.0,
      own.1 ∙ ap (λ x. tree_of_entry (option_map (instruction_shape_of source.info) x) (children_of e.operator)
          (e.operator_idx - source.first) own.0 (entry_tree source given)) none,
    )

-- what holds of an entry wherever it holds of its children holds of every entry
pub by_children : (given : Graph) → IsForest given.entries given.parents → (P : ℕ → Type 0) → ((i : ℕ) (e : StackEntry) →
    slice_get given.entries i ≡ Some e → All P (children_of e.operator) → P i) → (i : ℕ) → i < length given.entries → P i
by_children given h P step i l = go (suc i) i (omega arith) l
  where
    go : (fuel i : ℕ) → i < fuel → i < length given.entries → P i
    go zero i f l = absurd (omega arith)
    go (suc fuel) i f l =
        let e = get_or given.entries i (undef_entry 0) in
        let s = slice_get-get_or given.entries i (undef_entry 0) l in
        step i e s (All-weaker (λ c. c < i) P (λ c b. go fuel c (omega arith) (omega arith)) (children_of e.operator) (children_before given h i e s).1)

-- ---- the entries from one downwards

gathered_before : (x : Kin) (earlier : List Kin) (is : List ℕ) → All (λ k. k < length earlier) is →
    flat_map (downwards earlier) is ≡ flat_map (downwards (x ∷ earlier)) is
gathered_before x earlier [] h = refl
gathered_before x earlier (i ∷ is) h =
    let l = All-head (λ k. k < length earlier) i is h in
    ap₂ (λ a b. a ++ b) (sym (cond-false _ _ _ (ne_eqb (length earlier) i (omega arith))))
    (gathered_before x earlier is (All-tail (λ k. k < length earlier) i is h))

down_at : (xs : List Kin) (i : ℕ) (x : Kin) → i < length xs → kin_at xs i ≡ x → All (λ c. c < i) x.children →
    downwards xs i ≡ flat_map (downwards xs) x.children ++ i ∷ []
down_at [] i x l e h = absurd (omega arith)
down_at (y ∷ earlier) i x l e h = elim (last_or_before (length earlier) i l) [
  | inl w ↦
      let same : y ≡ x = sym (cond-true _ _ _ (eq-eqb (length earlier) i w)) ∙ e in
      cond-true _ _ _ (eq-eqb (length earlier) i w) ∙ ap₂ (λ (a : List ℕ) k. a ++ k ∷ []) (ap (λ (z : Kin). flat_map (downwards earlier) z.children) same
      ∙ gathered_before y earlier x.children (All-weaker (λ c. c < i) (λ c. c < length earlier) (λ c m. omega arith) x.children h)) w
  | inr w ↦
      cond-false _ _ _ (ne_eqb (length earlier) i (omega arith)) ∙ (down_at earlier i x w (sym (kin_older y earlier i w) ∙ e) h ∙ ap (λ a. a ++ i ∷ [])
      (gathered_before y earlier x.children (All-weaker (λ c. c < i) (λ c. c < length earlier) (λ c m. omega arith) x.children h)))
]

pub kin_is : (entries : List StackEntry) (i : ℕ) (e : StackEntry) → slice_get entries i ≡ Some e → kin_at (kins_of entries) i ≡ kin e
kin_is entries i e s =
    let none : Kin = record { children = []; color = 0 } in
    sym (get_item none (map kin entries) i)
    ∙ (get_or-map kin entries i e none (slice_get_within entries i e s) ∙ ap kin (get_or_from_slice_get entries i e e s))

-- those from an entry downwards are those from its children downwards, and then its own
pub down_is : (given : Graph) → IsForest given.entries given.parents → (i : ℕ) (e : StackEntry) → slice_get given.entries i ≡ Some e →
    downwards (kins_of given.entries) i ≡ flat_map (downwards (kins_of given.entries)) (children_of e.operator) ++ i ∷ []
down_is given h i e s =
    let before = children_before given h i e s in
    let inside = before.0 in
    let n = kins_length given.entries in
    down_at (kins_of given.entries) i (kin e) (omega arith) (kin_is given.entries i e s) before.1

pub roots_below : (ps : List (Option ℕ)) → All (λ i. i < length ps) (roots_of ps)
roots_below ps = all_has (λ i. i < length ps) (roots_of ps) (λ i w.
    let l = (has_root i (reverse ps) (has_back i (roots (reverse ps)) w)).1 in let n = length-reverse ps in omega arith)

-- ---- the terms of entries, seen as nodes with any head

module _ {H : Type 0} (head : StackEntry → H) where
  abbrev nodes : List StackEntry → List (Node H)
  nodes entries = nodes_of head (λ (e : StackEntry). children_of e.operator) entries

  below_others : (es : List StackEntry) (before : List (Node H)) → ((i : ℕ) (d : StackEntry) → i < length es →
      All (λ c. c < length before + i) (children_of (get_or es i d).operator)) → AreBelow before → AreBelow (nodes es ++ before)
  below_others [] before h b = b
  below_others (e ∷ es) before h b =
      let own : Node H = record { head = head e; children = children_of e.operator } in
      let seen : List (Node H) = map (λ (x : StackEntry). record { head = head x; children = children_of x.operator }) es in
      rw (reverse-append (own ∷ []) seen, append_assoc (reverse seen) (own ∷ []) before)
      (below_others es (own ∷ before) (λ i d l. All-weaker (λ c. c < length before + suc i) (λ c. c < suc (length before) + i) (λ c m. omega arith)
      (children_of (get_or es i d).operator) (h (suc i) d (omega arith)))
      (All-weaker (λ c. c < length before + 0) (λ c. c < length before) (λ c m. omega arith) (children_of e.operator) (h 0 e (omega arith)), b))

  pub nodes_below : (entries : List StackEntry) → ((i : ℕ) (d : StackEntry) → i < length entries →
      All (λ c. c < i) (children_of (get_or entries i d).operator)) → AreBelow (nodes entries)
  nodes_below entries h = rw (append-nil (nodes entries)) at (below_others entries [] (λ i d l. All-weaker (λ c. c < i) (λ c. c < 0 + i)
      (λ c m. omega arith) (children_of (get_or entries i d).operator) (h i d l)) tt)

  -- the term of an entry is its head over the terms of its children
  pub term_at : (entries : List StackEntry) → AreBelow (nodes entries) → (i : ℕ) (e : StackEntry) → slice_get entries i ≡ Some e →
      tree_at (nodes entries) i ≡ node (head e) (pick (tree_at (nodes entries)) (children_of e.operator))
  term_at entries b i e s = tree_is (at_place head (λ (x : StackEntry). children_of x.operator) entries i e (slice_get_within entries i e s)
      (sym (get_or_from_slice_get entries i e e s))) b

-- ---- the last tree

root_last : (parents : List (Option ℕ)) (m : ℕ) → length parents ≡ suc m → slice_get parents m ≡ Some None →
    roots_of parents ≡ roots_of (take m parents) ++ m ∷ []
root_last parents m n s =
    let front = take m parents in
    let all = sym (take_all (m + 1) parents (omega arith)) ∙ (take_more parents m None (omega arith)
    ∙ ap (λ (q : Option ℕ). front ++ q ∷ []) (get_or_from_slice_get parents m None None s)) in
    ap roots_of all ∙ (roots_root front ∙ ap (λ k. roots_of front ++ k ∷ []) (length-take-le m parents (omega arith)))

last_pick : (g : ℕ → Tree) (t : Tree) (is : List ℕ) (i : ℕ) → last_tree_of t (trees_at g (is ++ i ∷ [])) ≡ g i
last_pick g t [] i = refl
last_pick g t (j ∷ is) i = last_pick g (g j) is i

pub last_tree : EndsWithTheLastTree
last_tree source given h n e =
    let m = length given.entries - 1 in
    let own = (h.finds (source.first + n) m).0 (h.last n e).0 in
    let there : m < length given.entries = slice_get_within given.entries m own.0 own.1 in
    let paired = h.forest_is.paired in
    let roots_are = root_last given.parents m (omega arith) (h.last n e).1 in
    ap (last_tree_of (tree.entry 0)) (sym h.trees ∙ ap (trees_at (entry_tree source given)) roots_are)
    ∙ last_pick (entry_tree source given) (tree.entry 0) (roots_of (take m given.parents)) m
