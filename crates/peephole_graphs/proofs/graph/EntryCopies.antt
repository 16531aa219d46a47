-- A copy of a graph's entries is measured and laid out as they are.
use Rattle.std.proofs.Common.{◌≡◌, ℕ, ◌<◌, Bool, List, [], ◌∷◌, length, map, Option, refl, sym, ap, ap₂, ◌∙◌, subst, arith}
use Rattle.std.specs.Prelude.{◌↔◌, IsTrue, false, filter, is_some, reverse, slice_get, slice_index, slice_index_or}
use Rattle.std.specs.Bool.{nat_eq}
use Rattle.std.specs.List.{All, AllZip, IsDistinct, flat_map}
use Rattle.std.specs.List.Sorted.{IsStrictlyIncreasing}
use Rattle.std.proofs.lemmas.List.Elements.{AllZip-get_or, length_all_zip}
use Rattle.peephole_nodes.specs.declared.id.Id.{Id}
use Rattle.peephole_lang.specs.declared.lang.Head.{Head}
use Rattle.peephole_lang.specs.Node.{node_of, head_of, children_of, instr_of, instr_of_head}
use Rattle.peephole_lang.specs.Term.{Node, numbers_of, tree_at}
use Rattle.peephole_graphs.specs.declared.dfg.StackEntry.{StackEntry}
use Rattle.peephole_graphs.specs.Dfg.{IsSameEntry}
use Rattle.peephole_graphs.specs.Forest.{has}
use Rattle.peephole_graphs.specs.Downwards.{Kin, downwards}
use Rattle.peephole_graphs.specs.Contiguous.{entry_operators_of}
use Rattle.peephole_graphs.specs.Order.{is_operator_at, forest_operators, TreesAreInOrder}
use Rattle.peephole_graphs.specs.Entries.{kin, kins_of, roots_of, children_at, IsForest}
use Rattle.peephole_graphs.specs.Measures.{sizes_kept, flags_kept, sizes_of, color_flags_of, SubtreesAreMeasured, forwards}
use Rattle.peephole_graphs.specs.declared.subtree.Subtree.{Subtree}
use Rattle.peephole_graphs.specs.Layout.{entry_nodes, node_count_of, HasTrees}
use Rattle.peephole_graphs.proofs.graph.WritableLemmas.{CanBeWritten, heads_writable, from_heads}

kin_same : (e f : StackEntry) → IsSameEntry e f → kin f ≡ kin e
kin_same e f h =
    let kin_by : List Id → ℕ → Kin = λ ids color. record { children = numbers_of ids; color = color } in
    ap₂ kin_by h.0.1 h.1

node_same : (e f : StackEntry) → IsSameEntry e f → node_of f.operator ≡ node_of e.operator
node_same e f h =
    let node_by : Head → List Id → Node Head = λ head ids. record { head = head; children = numbers_of ids } in
    ap₂ node_by h.0.0 h.0.1

pub map_same : {A : Type 0} (f : StackEntry → A) → ((e g : StackEntry) → IsSameEntry e g → f g ≡ f e) → (es gs : List StackEntry) →
    AllZip IsSameEntry es gs → map f gs ≡ map f es
map_same f same [] [] h = refl
map_same f same [] (g ∷ gs) h = absurd h
map_same f same (e ∷ es) [] h = absurd h
map_same f same (e ∷ es) (g ∷ gs) h = ap₂ (λ x y. x ∷ y) (same e g h.0) (map_same f same es gs h.1)

child_same : (e f : StackEntry) → IsSameEntry e f → children_of f.operator ≡ children_of e.operator
child_same e f h = ap numbers_of h.0.1

own_same : (e f : StackEntry) → IsSameEntry e f → is_some (instr_of f.operator) ≡ is_some (instr_of e.operator)
own_same e f h = ap (λ (x : Head). is_some (instr_of_head x)) h.0.0

-- the entries `fs` are those of `es`
module _ (es fs : List StackEntry) (h : AllZip IsSameEntry es fs) where
  kins_same : kins_of fs ≡ kins_of es
  kins_same = ap reverse (map_same kin kin_same es fs h)

  nodes_same : entry_nodes fs ≡ entry_nodes es
  nodes_same = ap reverse (map_same (λ (e : StackEntry). node_of e.operator) node_same es fs h)

  kids_same : (p : ℕ) → children_at fs p ≡ children_at es p
  kids_same p = ap (λ (xs : List (List ℕ)). slice_index_or xs p []) (map_same (λ (e : StackEntry). children_of e.operator) child_same es fs h)

  heads_same : map (λ (e : StackEntry). head_of e.operator) fs ≡ map (λ (e : StackEntry). head_of e.operator) es
  heads_same = map_same (λ (e : StackEntry). head_of e.operator) (λ e f s. s.0.0) es fs h

  pub copied_measured : (subtrees subtrees' : List Subtree) → subtrees' ≡ subtrees → SubtreesAreMeasured es subtrees → SubtreesAreMeasured fs subtrees'
  copied_measured subtrees subtrees' e m = record {
    sizes_are = ap (λ x. reverse (sizes_kept x)) e ∙ (m.sizes_are ∙ ap sizes_of (sym kins_same));
    flags_are = ap (λ x. reverse (flags_kept x)) e ∙ (m.flags_are ∙ ap color_flags_of (sym kins_same));
  }

  pub copied_trees : (own_entry own_entry' : ℕ → Option ℕ) → ((k : ℕ) → own_entry' k ≡ own_entry k) → HasTrees es own_entry → HasTrees fs own_entry'
  copied_trees own_entry own_entry' same t =
      let n = length_all_zip IsSameEntry es fs h in
      record {
        below = λ i d l.
            let inside : i < length es = omega arith in
            subst (λ (ids : List Id). All (λ c. c < i) (numbers_of ids)) (sym (AllZip-get_or IsSameEntry es fs i d d h inside).0.1) (t.below i d inside);
        found = λ k i e. let inside = t.found k i (sym (same k) ∙ e) in omega arith;
        small = λ i l.
            let most = t.small i (omega arith) in
            let size = ap (λ (ns : List (Node Head)). node_count_of (tree_at ns i)) nodes_same in
            omega arith;
        writable = from_heads fs (subst (All CanBeWritten) (sym heads_same) (heads_writable es t.writable));
      }

  pub copied_forest : (parents parents' : List (Option ℕ)) → parents' ≡ parents → IsForest es parents → IsForest fs parents'
  copied_forest parents parents' e f =
      let n = length_all_zip IsSameEntry es fs h in
      let m = ap length e in
      record {
        paired = let l = f.paired in omega arith;
        parent = λ p i w. let q = f.parent p i (sym (ap (has i) (kids_same p)) ∙ w) in
            (ap (λ (x : List (Option ℕ)). slice_get x i) e ∙ q.0, q.1);
        once = λ p. subst (IsDistinct nat_eq) (sym (kids_same p)) (f.once p);
        child = λ p i w. ap (has i) (kids_same p) ∙ f.child p i (sym (ap (λ (x : List (Option ℕ)). slice_get x i) e) ∙ w);
      }

  -- the operators of the forest are the same
  operators_same : (parents : List (Option ℕ)) → forest_operators fs parents ≡ forest_operators es parents
  operators_same parents =
      let test : List Bool → ℕ → Bool = λ xs i. slice_index_or xs i false in
      let tests : is_operator_at fs ≡ is_operator_at es = ap test (map_same (λ (e : StackEntry). is_some (instr_of e.operator)) own_same es fs h) in
      let numbers : entry_operators_of fs ≡ entry_operators_of es = map_same (λ (e : StackEntry). e.operator_idx) (λ e f s. s.2) es fs h in
      λ j. map (λ i. slice_index (numbers j) i) (filter (tests j) (flat_map (downwards (kins_same j)) (roots_of parents)))

  pub copied_order : (parents parents' : List (Option ℕ)) → parents' ≡ parents →
      IsTrue (forwards (kins_of es)) ↔ TreesAreInOrder es parents → IsTrue (forwards (kins_of fs)) ↔ TreesAreInOrder fs parents'
  copied_order parents parents' e lies =
      let kins = ap forwards kins_same in
      let order = ap (forest_operators fs) e ∙ operators_same parents in (
        λ t. subst IsStrictlyIncreasing (sym order) (lies.0 (sym kins ∙ t)),
        λ a. kins ∙ lies.1 (subst IsStrictlyIncreasing order a),
      )
