-- A tree whose entries stand one behind another is laid out as these entries are, with lowered children.
use Rattle.std.proofs.Common.{◌≡◌, ℕ, zero, suc, ◌+◌, ◌-◌, ◌<◌, ◌≤◌, ◌^◌, true, List, [], ◌∷◌, ◌++◌, length, get_or, take, drop, map, refl, sym, ap}
use Rattle.std.proofs.Common.{ap₂, subst, ◌∙◌, arith, slice_range}
use Rattle.std.specs.Prelude.{◌==◌, reverse, slice_index}
use Rattle.std.specs.List.{All, flat_map, sum_by}
use Rattle.std.proofs.Math.Seq.{take-add, take-suc}
use Rattle.std.proofs.lemmas.Bool.Decides.{nat_tests}
use Rattle.std.proofs.lemmas.Bool.{eqb-true, and_parts}
use Rattle.std.proofs.lemmas.List.{map-append, map_more, length-append, length-map, length-drop, length-take, drop-drop, drop-map, take-map, get_or-take}
use Rattle.std.proofs.lemmas.List.{get_or-map, get_or-drop, get_or_default}
use Rattle.std.proofs.lemmas.List.Sums.{sum_by-cons}
use Rattle.std.proofs.lemmas.List.Elements.{All-head, All-tail, All-nil, All-cons, All-map, All-weaker}
use Rattle.peephole_lang.specs.declared.lang.Head.{Head}
use Rattle.peephole_lang.specs.declared.lang.Lang.{Lang}
use Rattle.peephole_lang.specs.declared.lang.Lang.TheVariants.{Undef}
use Rattle.peephole_lang.specs.Node.{head_of, node_of, children_of}
use Rattle.peephole_lang.specs.Term.{Term, node, Node, pick, tree_at}
use Rattle.peephole_graphs.specs.declared.dfg.StackEntry.{StackEntry}
use Rattle.peephole_graphs.specs.Downwards.{Kin, downwards}
use Rattle.peephole_graphs.specs.Measures.{sizes_of}
use Rattle.peephole_graphs.specs.Entries.{kin, kins_of, children_at}
use Rattle.peephole_graphs.specs.Layout.{node_count_of, node_count, root_indexes, layout_from, layouts_from, entry_nodes, IsWhole}
use Rattle.peephole_graphs.specs.Span.{lie_behind, IsSpan, HoldsItsChildren, node_from}
use Rattle.peephole_graphs.proofs.DfgLemmas.{map_reverse, size_read}
use Rattle.peephole_graphs.proofs.terms.LayoutWalk as walk
use Rattle.peephole_graphs.proofs.LayoutLemmas.{some_nodes}
use Rattle.peephole_graphs.proofs.graph.LayoutTrees.{node_of_entry, map_turned, entries_below}

-- ---- a tree has as many nodes as there are entries downwards

size_gathered : {H : Type 0} (f : ℕ → Term H) (g : ℕ → List ℕ) → ((i : ℕ) → node_count_of (f i) ≡ length (g i)) → (is : List ℕ) →
    node_count (pick f is) ≡ length (flat_map g is)
size_gathered f g h [] = refl
size_gathered f g h (i ∷ is) = ap₂ (λ x y. x + y) (h i) (size_gathered f g h is) ∙ sym (length-append (g i) (flat_map g is))

-- the entries last first
size_down : (rs : List StackEntry) (i : ℕ) → node_count_of (tree_at (map node_of_entry rs) i) ≡ length (downwards (map kin rs) i)
size_down [] i = refl
size_down (e ∷ rs) i =
    let ns = map node_of_entry rs in
    let ks = map kin rs in
    let n = length-map rs node_of_entry in
    let k = length-map rs kin in
    let ih = size_down rs i in
    let kids = size_gathered (tree_at ns) (downwards ks) (size_down rs) (children_of e.operator) in
    let own = length-append (flat_map (downwards ks) (children_of e.operator)) (length ks ∷ []) in
    grind (arith, nat_tests)

tree_size : (entries : List StackEntry) (sizes : List ℕ) → reverse sizes ≡ sizes_of (kins_of entries) → (i : ℕ) → i < length entries →
    node_count_of (tree_at (entry_nodes entries) i) ≡ slice_index sizes i
tree_size entries sizes h i l = ap (λ (x : List (Node Head)). node_count_of (tree_at x i)) (map_turned node_of_entry entries) ∙ (size_down (reverse entries) i
    ∙ (ap (λ (x : List Kin). length (downwards x i)) (map_reverse kin entries) ∙ sym (size_read entries sizes h i l 0)))

-- ---- the layout of a tree whose entries stand one behind another

-- The trees of indexes up to `root`, of nodes whose trees have `size` nodes; `copy` is the nodes with lowered children.
record Spanning {H : Type 0} (own : ℕ → Node H) (tree : ℕ → Term H) (size_at : ℕ → ℕ) (start root : ℕ) (copy : List (Node H)) : Type 0 where
  is : (i : ℕ) → i ≤ root → tree i ≡ node (own i).head (pick tree (own i).children)
  below : (i : ℕ) → i ≤ root → All (λ c. c < i) (own i).children
  count : (i : ℕ) → i ≤ root → node_count_of (tree i) ≡ size_at i
  behind : (i : ℕ) → start ≤ i → i ≤ root → lie_behind size_at (i + 1 - size_at i) (own i).children ≡ true
  long : root < length copy
  copied : (i : ℕ) → i ≤ root → (d : Node H) → get_or copy i d ≡ node_from start (own i)

-- what is laid out of the tree of an index is the copy of the nodes from `at` on
abbrev IsCopied : {H : Type 0} → (ℕ → Term H) → (ℕ → ℕ) → ℕ → List (Node H) → ℕ → Type 0
IsCopied tree size_at start copy c = layout_from ((c + 1 - size_at c) - start) (tree c) ≡ take (size_at c) (drop (c + 1 - size_at c) copy)

module _ {H : Type 0} (tree : ℕ → Term H) (size_at : ℕ → ℕ) (n : ℕ) (count : (i : ℕ) → i < n → node_count_of (tree i) ≡ size_at i) where
  total_size : (is : List ℕ) → All (λ i. i < n) is → node_count (pick tree is) ≡ sum_by size_at is
  total_size [] a = refl
  total_size (i ∷ is) a =
      ap₂ (λ x y. x + y) (count i (All-head (λ i. i < n) i is a)) (total_size is (All-tail (λ i. i < n) i is a)) ∙ sym (sum_by-cons size_at i is)

  copied_all : (start : ℕ) (copy : List (Node H)) → ((c : ℕ) → c < n → start + size_at c ≤ c + 1 → IsCopied tree size_at start copy c) →
      (cs : List ℕ) (at : ℕ) → start ≤ at → All (λ c. c < n) cs → lie_behind size_at at cs ≡ true →
      (layouts_from (at - start) (pick tree cs) ≡ take (sum_by size_at cs) (drop at copy))
      × (root_indexes (at - start) (pick tree cs) ≡ map (λ c. c - start) cs)
  copied_all start copy older [] at l b h = (refl, refl)
  copied_all start copy older (c ∷ cs) at l b h =
      let p = and_parts (suc c == at + size_at c) (lie_behind size_at (suc c) cs) h in
      let e = eqb-true (suc c) (at + size_at c) p.0 in
      let m = All-head (λ c. c < n) c cs b in
      let size = size_at c in
      let others = sum_by size_at cs in
      let node_count = count c m in
      let first : c + 1 - size ≡ at = omega arith in
      let next : (at - start) + node_count_of (tree c) ≡ suc c - start = omega arith in
      let own : (at - start) + node_count_of (tree c) - 1 ≡ c - start = omega arith in
      let one = subst (λ a. layout_from (a - start) (tree c) ≡ take size (drop a copy)) first (older c m (omega arith)) in
      let rest = copied_all start copy older cs (suc c) (omega arith) (All-tail (λ c. c < n) c cs b) p.1 in (
        ap₂ (λ x y. x ++ y) one (ap (λ f. layouts_from f (pick tree cs)) next ∙ (rest.0 ∙ ap (λ a. take others (drop a copy)) e))
            ∙ (ap (λ x. take size (drop at copy) ++ take others x) (sym (drop-drop size at copy)) ∙
            (sym (take-add size others (drop at copy)) ∙ ap (λ k. take k (drop at copy)) (sym (sum_by-cons size_at c cs)))),
        ap₂ (λ x y. x ∷ y) own (ap (λ f. root_indexes f (pick tree cs)) next ∙ rest.1),
      )

module _ {H : Type 0} (own : ℕ → Node H) (tree : ℕ → Term H) (size_at : ℕ → ℕ) (start root : ℕ) (copy : List (Node H))
    (s : Spanning own tree size_at start root copy) where
  copied_at : (fuel j : ℕ) → j < fuel → j ≤ root → start + size_at j ≤ j + 1 → IsCopied tree size_at start copy j
  copied_at zero j f r l = absurd (omega arith)
  copied_at (suc fuel) j f r l =
      let kids = (own j).children in
      let k = sum_by size_at kids in
      let at = j + 1 - size_at j in
      let below = s.below j r in
      let count : (c : ℕ) → c < j → node_count_of (tree c) ≡ size_at c = λ c m. s.count c (omega arith) in
      let some : size_at j ≡ suc k = sym (s.count j r) ∙ (ap node_count_of (s.is j r) ∙ ap suc (total_size tree size_at j count kids below)) in
      let all = copied_all tree size_at j count start copy (λ c m w. copied_at fuel c (omega arith) (omega arith) w)
      kids at (omega arith) below (s.behind j (omega arith) r) in
      let made : List ℕ → Node H = λ x. record { head = (own j).head; children = x } in
      let last : at + k ≡ j = omega arith in
      let long = s.long in
      let there : k < length (drop at copy) = omega (arith, length-drop at copy) in
      let own_is = get_or-drop at copy k (own j) ∙ (ap (λ x. get_or copy x (own j)) last ∙ s.copied j r (own j)) in
      ap (layout_from (at - start)) (s.is j r) ∙ (ap₂ (λ x y. x ++ made y ∷ []) all.0 all.1 ∙ (ap (λ x. take k (drop at copy) ++ x ∷ []) (sym own_is)
      ∙ (sym (take-suc (drop at copy) k (own j) there) ∙ ap (λ x. take x (drop at copy)) (sym some))))

-- ---- the entries of a graph

some_entry : StackEntry
some_entry = record { operator = Undef; color = 0; operator_idx = 0 }

abbrev own_node : List StackEntry → ℕ → Node Head
own_node entries i = node_of_entry (get_or entries i some_entry)

abbrev copied_entry : ℕ → StackEntry → Node Head
copied_entry start e = node_from start (node_of_entry e)

abbrev copy_of : ℕ → List StackEntry → List (Node Head)
copy_of start entries = map (copied_entry start) entries

children_are : (entries : List StackEntry) (i : ℕ) → i < length entries → children_at entries i ≡ (own_node entries i).children
children_are entries i l = get_or-map (λ (e : StackEntry). children_of e.operator) entries i some_entry [] l

abbrev pub Below : List StackEntry → Type 0
Below entries = (i : ℕ) (d : StackEntry) → i < length entries → All (λ c. c < i) (children_of (get_or entries i d).operator)

-- What the code knows where it copies: `first` is what is written for the index of the tree's first entry.
pub record IsCopying (entries : List StackEntry) (sizes : List ℕ) (start root : ℕ) : Type 0 where
  pub sizes_are : reverse sizes ≡ sizes_of (kins_of entries)
  pub below : Below entries
  pub inside : root < length entries
  pub first : start ≡ root + 1 - slice_index sizes root
  pub span : IsSpan entries sizes start (root + 1)

behind_inside : (size_at : ℕ → ℕ) (start n : ℕ) → ((c : ℕ) → c < n → 0 < size_at c) → (cs : List ℕ) (at : ℕ) → start ≤ at → All (λ c. c < n) cs →
    lie_behind size_at at cs ≡ true → All (λ c. (start ≤ c) × (c < n)) cs
behind_inside size_at start n some [] at l b h = All-nil (λ c. (start ≤ c) × (c < n))
behind_inside size_at start n some (c ∷ cs) at l b h =
    let p = and_parts (suc c == at + size_at c) (lie_behind size_at (suc c) cs) h in
    let e = eqb-true (suc c) (at + size_at c) p.0 in
    let m = All-head (λ c. c < n) c cs b in
    let one = some c m in
    All-cons (λ c. (start ≤ c) × (c < n)) c cs (omega arith, m)
    (behind_inside size_at start n some cs (suc c) (omega arith) (All-tail (λ c. c < n) c cs b) p.1)

pub entry_whole : (entries : List StackEntry) (i : ℕ) → Below entries → i < length entries → IsWhole (tree_at (entry_nodes entries) i)
entry_whole entries i below l = walk.end_whole (head_of Undef) node_of_entry entries i (entries_below entries below) l

module _ (entries : List StackEntry) (sizes : List ℕ) (start root : ℕ) (c : IsCopying entries sizes start root) where
  own_behind : (i : ℕ) → start ≤ i → i ≤ root → lie_behind (slice_index sizes) (i + 1 - slice_index sizes i) (own_node entries i).children ≡ true
  own_behind i f r =
      let l = c.inside in
      ap (lie_behind (slice_index sizes) (i + 1 - slice_index sizes i)) (sym (children_are entries i (omega arith))) ∙ c.span.behind i f (omega arith)

  spanning : Spanning (own_node entries) (tree_at (entry_nodes entries)) (slice_index sizes) start root (copy_of start entries)
  spanning =
      let ns = entry_nodes entries in
      let n = walk.length-held node_of_entry entries in
      let l = c.inside in
      let at : (i : ℕ) → i ≤ root → walk.node_at (head_of Undef) ns i ≡ own_node entries i = λ i r.
      let k : i < length entries = omega arith in
      let e = get_or entries i some_entry in
      walk.node_at_is (head_of Undef) node_of_entry entries i e k (get_or_default entries i some_entry e k) in
      record {
        is = λ i r. walk.tree_is (head_of Undef) ns i (entries_below entries c.below) (omega arith)
            ∙ ap (λ (x : Node Head). node x.head (pick (tree_at ns) x.children)) (at i r);
        below = λ i r. c.below i some_entry (omega arith);
        count = λ i r. tree_size entries sizes c.sizes_are i (omega arith);
        behind = own_behind;
        long = omega (arith, length-map entries (copied_entry start));
        copied = λ i r d. get_or-map (copied_entry start) entries i some_entry d (omega arith);
      }

  some_size : (i : ℕ) → i < length entries → 0 < slice_index sizes i
  some_size i l =
      let node_count = tree_size entries sizes c.sizes_are i l in
      let some = some_nodes (tree_at (entry_nodes entries) i) (entry_whole entries i c.below l) in
      omega arith

  -- the whole tree lies from the first entry to the root
  whole_tree : (start ≤ root) × (start + slice_index sizes root ≡ root + 1)
  whole_tree =
      let first = c.first in
      let some = some_size root c.inside in
      let l : start ≤ root = omega arith in
      let w = c.span.within root l (omega arith) in
      (l, omega arith)

  pub span_laid : {L : Type 0} (node_of : L → Node Head) (expr : List L) →
      map node_of expr ≡ map (copied_entry start) (slice_range entries start (root + 1)) → map node_of expr ≡ layout_from 0 (tree_at (entry_nodes entries) root)
  span_laid node_of expr e =
      let f = copied_entry start in
      let k = root + 1 - start in
      let all = whole_tree.1 in
      let size = slice_index sizes root in
      let copied = copied_at _ _ _ start root (copy_of start entries) spanning (suc root) root (omega arith) (omega arith) (omega arith) in
      let at : start ≡ root + 1 - size = omega arith in
      let long : k ≡ size = omega arith in
      let none : (root + 1 - size) - start ≡ 0 = omega arith in
      e ∙ (sym (take-map f k (drop start entries)) ∙ (ap (take k) (sym (drop-map f start entries))
      ∙ (ap₂ (λ n a. take n (drop a (copy_of start entries))) long at ∙ (sym copied ∙ ap (λ a. layout_from a (tree_at (entry_nodes entries) root)) none))))

  pub span_holds : HoldsItsChildren start (slice_range entries start (root + 1))
  span_holds k l =
      let part = slice_range entries start (root + 1) in
      let all = root + 1 - start in
      let inside = c.inside in
      let n = length-take all (drop start entries) in
      let m = length-drop start entries in
      let i = start + k in
      let own = get_or-take all (drop start entries) k some_entry (omega arith) ∙ get_or-drop start entries k some_entry in
      let kids = children_are part k l ∙ ap (λ (e : StackEntry). children_of e.operator) own in
      let w = c.span.within i (omega arith) (omega arith) in
      subst (All (λ j. (start ≤ j) × (j < i))) (sym kids)
      (behind_inside (slice_index sizes) start i (λ j b. some_size j (omega arith)) (own_node entries i).children
      (i + 1 - slice_index sizes i) (omega arith) (c.below i some_entry (omega arith)) (own_behind i (omega arith) (omega arith)))

  pub span_small : node_count_of (tree_at (entry_nodes entries) root) ≤ 2 ^ 32 → length (slice_range entries start (root + 1)) ≤ 2 ^ 32
  span_small small =
      let all = whole_tree.1 in
      let inside = c.inside in
      let node_count = tree_size entries sizes c.sizes_are root c.inside in
      let n = length-take (root + 1 - start) (drop start entries) in
      omega arith

-- ---- the copy, entry by entry

pub held_inside : (start : ℕ) (entries : List StackEntry) (k : ℕ) (e : StackEntry) → HoldsItsChildren start entries → k < length entries →
    e ≡ get_or entries k e → All (λ c. (start ≤ c) × (c < start + k)) (children_of e.operator)
held_inside start entries k e h l is = subst (All (λ c. (start ≤ c) × (c < start + k)))
    (get_or-map (λ (x : StackEntry). children_of x.operator) entries k e [] l ∙ ap (λ (x : StackEntry). children_of x.operator) (sym is)) (h k l)

pub none_before : (start n : ℕ) (cs : List ℕ) → All (λ c. (start ≤ c) × (c < n)) cs → All (λ c. start ≤ c) cs
none_before start n cs h = All-weaker (λ c. (start ≤ c) × (c < n)) (λ c. start ≤ c) (λ c w. w.0) cs h

lowered_inside : (start k : ℕ) (cs : List ℕ) → All (λ c. (start ≤ c) × (c < start + k)) cs → All (λ c. c < k) (map (λ c. c - start) cs)
lowered_inside start k cs h = All-map (λ c. c < k) (λ c. c - start) cs
    (All-weaker (λ c. (start ≤ c) × (c < start + k)) (λ c. c - start < k) (λ c w. let low = w.0 in let high = w.1 in omega arith) cs h)

pub copy_inside : (start k n : ℕ) (cs ds : List ℕ) → All (λ c. (start ≤ c) × (c < start + k)) cs → ds ≡ map (λ c. c - start) cs → n ≡ k → All (λ c. c < n) ds
copy_inside start k n cs ds h e m = rw (e, m) (lowered_inside start k cs h)

pub copy_count : (start k : ℕ) (entries : List StackEntry) (expr : List Lang) → k ≤ length entries →
    map node_of expr ≡ map (copied_entry start) (take k entries) → length expr ≡ k
copy_count start k entries expr l e = sym (length-map expr node_of) ∙ (ap (λ (x : List (Node Head)). length x) e ∙
    (length-map (take k entries) (copied_entry start) ∙ omega (arith, length-take k entries)))

pub copy_more : (start k : ℕ) (entries : List StackEntry) (e : StackEntry) (l : Lang) (expr expr' : List Lang) → k < length entries →
    e ≡ get_or entries k e → expr' ≡ expr ++ l ∷ [] → head_of l ≡ head_of e.operator →
    children_of l ≡ map (λ c. c - start) (children_of e.operator) → map node_of expr ≡ map (copied_entry start) (take k entries) →
    map node_of expr' ≡ map (copied_entry start) (take (k + 1) entries)
copy_more start k entries e l expr expr' b is added head kids before =
    let made : Head → List ℕ → Node Head = λ h c. record { head = h; children = c } in
    ap (map node_of) added ∙ (map-append node_of expr (l ∷ []) ∙ (ap₂ (λ x y. x ++ y ∷ []) before (ap₂ made head kids ∙ ap (copied_entry start) is) ∙
    sym (map_more (copied_entry start) entries k e b)))
