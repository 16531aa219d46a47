-- While preserving, the operators of a tree of one colour are consecutive.
use Rattle.std.proofs.Common.{◌≡◌, ℕ, zero, suc, ◌+◌, ◌<◌, ◌≤◌, true, false, List, [], ◌∷◌, ◌++◌, length, take, drop, map, refl, sym, ap, ap₂, ◌∙◌}
use Rattle.std.proofs.Common.{subst, arith, inl, inr, append_assoc}
use Rattle.std.specs.Prelude.{reverse, replicate, slice_index}
use Rattle.std.specs.List.{All, flat_map}
use Rattle.std.proofs.Math.Seq.{take-add}
use Rattle.std.proofs.lemmas.Bool.{cond-true, cond-false, ne_eqb, cases_lt, cases_Bool}
use Rattle.std.proofs.lemmas.Grind.{flat_map-append}
use Rattle.std.proofs.lemmas.Simd.{map-map}
use Rattle.std.proofs.lemmas.List.{length-map, map-append, reverse-append, append-nil, take_all, get_or-map}
use Rattle.std.proofs.lemmas.List.Elements.{All-head, All-tail, All-take, All-drop, All-get_or}
use Rattle.wasm_types.specs.Module.{Module}
use Rattle.peephole_graphs.specs.declared.dfg.StackEntry.{StackEntry}
use Rattle.peephole_graphs.specs.Shape.{Shape}
use Rattle.peephole_graphs.specs.Tree.{range_from}
use Rattle.peephole_graphs.specs.Forest.{has}
use Rattle.peephole_graphs.specs.Color.{total_change, color_at}
use Rattle.peephole_graphs.specs.Graph.{GraphEntry, undef}
use Rattle.peephole_graphs.specs.GraphOf.{IsSmall}
use Rattle.peephole_graphs.proofs.graph.BlockGraph.{entry_at}
use Rattle.peephole_graphs.specs.Step.{down, GraphGrowth, grown}
use Rattle.peephole_graphs.specs.Downwards.{Kin, downwards, kin_at, HasOneColor}
use Rattle.peephole_graphs.specs.Entries.{EntryView, entry_view, graph_entries}
use Rattle.peephole_graphs.specs.Contiguous.{entry_operators_of, AreConsecutive, HasContiguousTrees}
use Rattle.peephole_graphs.specs.Growing.{undef_entry}
use Rattle.peephole_graphs.proofs.forest.DepthLemmas.{range_more}
use Rattle.peephole_graphs.proofs.Lists.{all_left, all_right, all_reverse, all_flat_map, all_has, all_within, map_same, flat_map_same}
use Rattle.peephole_graphs.proofs.graph.StackGraph.{graph, is_graph, behind, more_of, place_of, taken_of, taken_below}
use Rattle.peephole_graphs.proofs.graph.BlockGraphLemmas.{old_entry, more_entry, own_entry, taken_root, facts}
use Rattle.peephole_graphs.proofs.graph.Sizes.{down_old, down_more, down_own, down_below, down_last}
use Rattle.peephole_graphs.proofs.graph.Totals.{kin_of, kins, new_kin, kins_step}
use Rattle.peephole_graphs.proofs.graph.ForwardOrder.{kin_entry, operator_color}
use Rattle.peephole_graphs.proofs.DfgLemmas.{nodes_length, entry_seen, later_entries, kins_same}
use Rattle.peephole_graphs.proofs.forest.ColorRise.{Raises}

-- ---- the numbers and colours of entries

abbrev below : GraphGrowth → ℕ → List ℕ
below g i = downwards (kins g.nodes) i

abbrev numbers : List GraphEntry → List ℕ → List ℕ
numbers nodes is = map (λ j. (entry_at nodes j).number) is

abbrev AreColored : List GraphEntry → ℕ → List ℕ → Type 0
AreColored nodes c is = All (λ j. (entry_at nodes j).color ≡ c) is

-- the same entries below `n`
module _ (xs ys : List GraphEntry) (is : List ℕ) (n : ℕ) (h : All (λ i. i < n) is) (e : (i : ℕ) → i < n → entry_at xs i ≡ entry_at ys i) where
  numbers_same : numbers xs is ≡ numbers ys is
  numbers_same = map_same (λ i. (entry_at xs i).number) (λ i. (entry_at ys i).number) is n h (λ i l. ap (λ (x : GraphEntry). x.number) (e i l))

  colored_same : (c : ℕ) → AreColored xs c is → AreColored ys c is
  colored_same c a = all_within n (λ j. (entry_at xs j).color ≡ c) (λ j. (entry_at ys j).color ≡ c) is
      (λ i l q. sym (ap (λ (x : GraphEntry). x.color) (e i l)) ∙ q) h a

-- numbers that follow one another up to `end`
abbrev EndAt : List ℕ → ℕ → Type 0
EndAt ns end = (a z : ℕ) × (a + z ≡ end) × (ns ≡ range_from a z)

end_more : (ns : List ℕ) (n : ℕ) → EndAt ns n → EndAt (ns ++ n ∷ []) (suc n)
end_more ns n (a, z, e, h) = (a, suc z, omega arith, ap (λ x. x ++ n ∷ []) h ∙ (ap (λ x. range_from a z ++ x ∷ []) (sym e) ∙ range_more a z))

-- ---- a step of the graph

abbrev operands_of : Shape → GraphGrowth → List ℕ
operands_of s g = reverse (taken_of s g)

-- the entries below some are below the graph's end
inside_below : (nodes : List GraphEntry) (i : ℕ) → All (λ j. j < length nodes) (downwards (kins nodes) i)
inside_below nodes i = subst (λ m. All (λ j. j < m) (downwards (kins nodes) i)) (length-map nodes kin_of) (down_below (kins nodes) i)

below_inside : (g : GraphGrowth) (is : List ℕ) → All (λ i. i < length g.nodes) (flat_map (below g) is)
below_inside g is = all_flat_map (below g) (length g.nodes) is (inside_below g.nodes)

module _ (s : Shape) (g : GraphGrowth) (n c : ℕ) where
  abbrev new : List GraphEntry
  new = (grown g s n c).nodes

  abbrev new_below : ℕ → List ℕ
  new_below i = below (grown g s n c) i

  abbrev with_missing : ℕ → List Kin
  with_missing more = replicate more (kin_of (undef n)) ++ kins g.nodes

  -- how many there are before the operator's own
  before : place_of s g ≡ length (with_missing (more_of s g))
  before =
      let m = length-map g.nodes kin_of in
      let b = behind (kin_of (undef n)) (more_of s g) (kins g.nodes) in
      omega arith

  below_before : (i : ℕ) → i < place_of s g → new_below i ≡ downwards (with_missing (more_of s g)) i
  below_before i l =
      let b = before in
      ap (λ x. downwards x i) (kins_step s g n c) ∙ cond-false _ _ _ (ne_eqb (length (with_missing (more_of s g))) i (λ w. omega arith))

  below_old : (i : ℕ) → i < length g.nodes → new_below i ≡ below g i
  below_old i l =
      let m = length-map g.nodes kin_of in
      below_before i (omega arith) ∙ down_old (kin_of (undef n)) (more_of s g) (kins g.nodes) i (omega arith)

  below_more : (i : ℕ) → length g.nodes ≤ i → i < place_of s g → new_below i ≡ i ∷ []
  below_more i a l =
      let m = length-map g.nodes kin_of in
      below_before i l ∙ down_more (kin_of (undef n)) (more_of s g) (kins g.nodes) i refl (omega arith) (omega arith)

  below_own : new_below (place_of s g)
      ≡ flat_map (downwards (with_missing (more_of s g))) (down (length g.nodes) (more_of s g) ++ operands_of s g) ++ place_of s g ∷ []
  below_own =
      let ys = with_missing (more_of s g) in
      let kids = flat_map (downwards ys) (down (length g.nodes) (more_of s g) ++ operands_of s g) in
      ap₂ (λ x j. downwards x j) (kins_step s g n c) before ∙ (down_own (new_kin s g c) ys ∙ ap (λ j. kids ++ j ∷ []) (sym before))

  module _ (p : ℕ) (low : p < 4294967295) (h : AreColored new p (new_below (place_of s g))) where
    -- an operator of which the tree has one colour misses no operand
    none_missing : (m : ℕ) → more_of s g ≡ m → m ≡ 0
    none_missing zero e = refl
    none_missing (suc m) e =
        let P : ℕ → Type 0 = λ j. (entry_at new j).color ≡ p in
        let at = length g.nodes + m in
        let ys = with_missing (more_of s g) in
        let missing = down (length g.nodes) (more_of s g) in
        let count = length-map g.nodes kin_of in
        let kids = all_left P (flat_map (downwards ys) (missing ++ operands_of s g)) (place_of s g ∷ []) (subst (All P) below_own h) in
        let first = all_left P (flat_map (downwards ys) missing) (flat_map (downwards ys) (operands_of s g))
        (subst (All P) (flat_map-append (downwards ys) missing (operands_of s g)) kids) in
        let some = subst (λ x. All P (flat_map (downwards ys) (down (length g.nodes) x))) e first in
        let one = subst (All P) (down_more (kin_of (undef n)) (more_of s g) (kins g.nodes) at refl (omega arith) (omega arith))
        (all_left P (downwards ys at) (flat_map (downwards ys) (down (length g.nodes) m)) some) in
        let same = All-head P at [] one in
        let none = ap (λ (x : GraphEntry). x.color) (more_entry s g n c at (omega arith) (omega arith)) in
        absurd (omega arith)

    own_tree : new_below (place_of s g) ≡ flat_map (below g) (operands_of s g) ++ place_of s g ∷ []
    own_tree = below_own ∙ ap (λ m. flat_map (downwards (with_missing m)) (down (length g.nodes) m ++ operands_of s g) ++ place_of s g ∷ [])
        (none_missing (more_of s g) refl)

  -- an operator behind the entries of its operands
  own_end : (p : ℕ) (is : List ℕ) → All (λ i. i < length g.nodes) is → (AreColored g.nodes p is → EndAt (numbers g.nodes is) n) →
      AreColored new p (is ++ place_of s g ∷ []) → EndAt (numbers new (is ++ place_of s g ∷ [])) (suc n)
  own_end p is inside ih h =
      let P : ℕ → Type 0 = λ j. (entry_at new j).color ≡ p in
      let before = ih (colored_same new g.nodes is (length g.nodes) inside (old_entry s g n c) p (all_left P is (place_of s g ∷ []) h)) in
      let e = map-append (λ j. (entry_at new j).number) is (place_of s g ∷ [])
      ∙ ap₂ (λ x (y : GraphEntry). x ++ y.number ∷ []) (numbers_same new g.nodes is (length g.nodes) inside (old_entry s g n c)) (own_entry s g n c) in
      subst (λ ns. EndAt ns (suc n)) (sym e) (end_more (numbers g.nodes is) n before)

  -- an entry of another colour than its tree's
  none_colored : (p low : ℕ) (is : List ℕ) → All (λ i. (i < length g.nodes) × ((entry_at g.nodes i).color ≤ low)) is → low < p →
      AreColored new p (flat_map new_below is) → is ≡ []
  none_colored p low [] h l a = refl
  none_colored p low (i ∷ is) h l a =
      let P : ℕ → Type 0 = λ j. (entry_at new j).color ≡ p in
      let here = All-head (λ i. (i < length g.nodes) × ((entry_at g.nodes i).color ≤ low)) i is h in
      let inside = here.0 in
      let at_most = here.1 in
      let one = subst (All P) (below_old i inside) (all_left P (new_below i) (flat_map new_below is) a) in
      let m = length-map g.nodes kin_of in
      let own = down_last (kins g.nodes) i (omega arith) in
      let same = All-head P i [] (all_right P own.0 (i ∷ []) (subst (All P) own.1 one)) in
      let old = ap (λ (x : GraphEntry). x.color) (old_entry s g n c i inside) in
      absurd (omega arith)

-- ---- the entries whose results no operator has taken

-- no colour is above the block's
color_low : (block : List Shape) (n : ℕ) → color_at true block n ≤ total_change block
color_low [] n = omega arith
color_low (s ∷ earlier) n = grind (arith, color_low earlier n)

stack_low : (earlier : List Shape) → All (λ i. (i < length (graph true earlier).nodes)
    × ((entry_at (graph true earlier).nodes i).color ≤ total_change earlier)) (graph true earlier).stack
stack_low earlier =
    let g = graph true earlier in
    all_has (λ i. (i < length g.nodes) × ((entry_at g.nodes i).color ≤ total_change earlier)) g.stack (λ i h.
    let whole = ap (has i) (take_all (length g.stack) g.stack (omega arith)) in
    let t = taken_root earlier g (is_graph true earlier) (length g.stack) i (whole ∙ h) in
    let e = entry_at g.nodes i in
    let c = operator_color true earlier e e.shape ((facts true earlier).entries i t.1).1 t.2 in
    let l = color_low earlier e.number in
    (t.1, omega arith))

abbrev open_entries : GraphGrowth → ℕ → List ℕ
open_entries g j = flat_map (below g) (reverse (take j g.stack))

-- the operators of the last open trees, where they have the last colour, end at the block's end
abbrev OpenEnd : List Shape → ℕ → Type 0
OpenEnd block j = AreColored (graph true block).nodes (total_change block) (open_entries (graph true block) j) →
    EndAt (numbers (graph true block).nodes (open_entries (graph true block) j)) (length block)

open_result : (s : Shape) (earlier : List Shape) (j : ℕ) → s.has_result ≡ true → total_change (s ∷ earlier) < 4294967295 →
    (total_change earlier < 4294967295 → OpenEnd earlier (s.operands + j)) → OpenEnd (s ∷ earlier) (suc j)
open_result s earlier j e low ih h =
    let g = graph true earlier in
    let n = length earlier in
    let c = total_change earlier in
    let p = total_change (s ∷ earlier) in
    let after = graph true (s ∷ earlier) in
    let own = place_of s g in
    let taken = operands_of s g in
    let rest = take j (drop s.operands g.stack) in
    let older = reverse rest in
    let P : ℕ → Type 0 = λ i. (entry_at after.nodes i).color ≡ p in
    let Q : ℕ → Type 0 = λ i. i < length g.nodes in
    let ids = ap (λ x. reverse (take (suc j) x)) (cond-true _ _ _ e) ∙ reverse-append (own ∷ []) rest in
    let parts = ap (flat_map (below after)) ids ∙ flat_map-append (below after) older (own ∷ []) in
    let right = all_left P (below after own) [] (all_right P (flat_map (below after) older) (below after own ++ []) (subst (All P) parts h)) in
    let tree = own_tree s g n c p low right in
    let last = All-head P own [] (all_right P (flat_map (below g) taken) (own ∷ []) (subst (All P) tree right)) in
    let same : p ≡ c = sym last ∙ ap (λ (x : GraphEntry). x.color) (own_entry s g n c) in
    let all = subst (All Q) (take_all (length g.stack) g.stack (omega arith)) (taken_below earlier g (is_graph true earlier) (length g.stack)) in
    let inside = all_reverse Q rest (All-take Q j (drop s.operands g.stack) (All-drop Q s.operands g.stack all)) in
    let joined = ap reverse (take-add s.operands j g.stack) ∙ reverse-append (take s.operands g.stack) rest in
    let before : flat_map (below g) older ++ flat_map (below g) taken ≡ open_entries g (s.operands + j) =
    sym (ap (flat_map (below g)) joined ∙ flat_map-append (below g) older taken) in
    let whole : open_entries after (suc j) ≡ open_entries g (s.operands + j) ++ own ∷ [] =
    parts ∙ (ap₂ (λ x y. x ++ y) (flat_map_same (below after) (below g) older (length g.nodes) inside (below_old s g n c))
    (append-nil (below after own) ∙ tree) ∙ (sym (append_assoc (flat_map (below g) older) (flat_map (below g) taken) (own ∷ []))
    ∙ ap (λ x. x ++ own ∷ []) before)) in
    let end = own_end s g n c p (open_entries g (s.operands + j)) (below_inside g (reverse (take (s.operands + j) g.stack)))
    (λ a. ih (omega arith) (subst (λ q. AreColored g.nodes q (open_entries g (s.operands + j))) same a)) (subst (All P) whole h) in
    subst (λ is. EndAt (numbers after.nodes is) (suc n)) (sym whole) end

open_none : (s : Shape) (earlier : List Shape) (j : ℕ) → s.has_result ≡ false → Raises s → OpenEnd (s ∷ earlier) (suc j)
open_none s earlier j e up h =
    let g = graph true earlier in
    let after = graph true (s ∷ earlier) in
    let p = total_change (s ∷ earlier) in
    let P : ℕ → Type 0 = λ i. (i < length g.nodes) × ((entry_at g.nodes i).color ≤ total_change earlier) in
    let older = take (suc j) (drop s.operands g.stack) in
    let ids = ap (λ x. reverse (take (suc j) x)) (cond-false _ _ _ e) in
    let more = up e in
    let low = all_reverse P older (All-take P (suc j) (drop s.operands g.stack) (All-drop P s.operands g.stack (stack_low earlier))) in
    let none = none_colored s g (length earlier) (total_change earlier) p (total_change earlier) (reverse older) low (omega arith)
    (subst (λ is. AreColored after.nodes p (flat_map (below after) is)) ids h) in
    (suc (length earlier), 0, omega arith, ap (λ is. numbers after.nodes (flat_map (below after) is)) (ids ∙ none))

open_end : (block : List Shape) (j : ℕ) → All Raises block → total_change block < 4294967295 → OpenEnd block j
open_end block zero ps low h = (length block, 0, omega arith, refl)
open_end [] (suc j) ps low h = (0, 0, refl, refl)
open_end (s ∷ earlier) (suc j) ps low h = elim (cases_Bool s.has_result) [
  | inl e ↦ open_result s earlier j e low (open_end earlier (s.operands + j) (All-tail Raises s earlier ps)) h
  | inr e ↦ open_none s earlier j e (All-head Raises s earlier ps) h
]

-- ---- every tree of one colour

abbrev IsTogether : GraphGrowth → ℕ → Type 0
IsTogether g i = AreColored g.nodes (entry_at g.nodes i).color (below g i) → AreConsecutive (numbers g.nodes (below g i))

own_together : (s : Shape) (earlier : List Shape) → All Raises earlier → total_change earlier < 4294967295 →
    IsTogether (graph true (s ∷ earlier)) (place_of s (graph true earlier))
own_together s earlier ps low h =
    let g = graph true earlier in
    let n = length earlier in
    let c = total_change earlier in
    let nodes = (graph true (s ∷ earlier)).nodes in
    let painted = subst (λ q. AreColored nodes q (new_below s g n c (place_of s g))) (ap (λ (x : GraphEntry). x.color) (own_entry s g n c)) h in
    let tree = own_tree s g n c c low painted in
    let end = own_end s g n c c (open_entries g s.operands) (below_inside g (operands_of s g)) (open_end earlier s.operands ps low)
    (subst (AreColored nodes c) tree painted) in
    (end.0, end.1, ap (numbers nodes) tree ∙ end.3)

together : (block : List Shape) → All Raises block → IsSmall true block → (i : ℕ) → i < length (graph true block).nodes → IsTogether (graph true block) i
together [] ps small i l h = absurd (omega arith)
together (s ∷ earlier) ps small i l h =
    let g = graph true earlier in
    let n = length earlier in
    let c = total_change earlier in
    let after = graph true (s ∷ earlier) in
    let b = behind (undef n) (more_of s g) g.nodes in
    elim (cases_lt i (length g.nodes)) [
      | inl w ↦
          let tree = below_old s g n c i w in
          let inside = inside_below g.nodes i in
          let color = ap (λ (x : GraphEntry). x.color) (old_entry s g n c i w) in
          let painted = colored_same after.nodes g.nodes (below g i) (length g.nodes) inside (old_entry s g n c) (entry_at g.nodes i).color
          (subst (λ q. AreColored after.nodes q (below g i)) color (subst (AreColored after.nodes (entry_at after.nodes i).color) tree h)) in
          let older = together earlier (All-tail Raises s earlier ps) small.0 i w painted in (
            older.0,
            older.1,
            ap (numbers after.nodes) tree ∙ (numbers_same after.nodes g.nodes (below g i) (length g.nodes) inside (old_entry s g n c) ∙ older.2),
          )
      | inr w ↦ elim (cases_lt i (place_of s g)) [
        | inl v ↦ ((entry_at after.nodes i).number, 1, ap (numbers after.nodes) (below_more s g n c i w v))
        | inr v ↦
            let e : place_of s g ≡ i = omega arith in
            subst (IsTogether after) e (own_together s earlier (All-tail Raises s earlier ps) small.2) h
      ]
    ]

-- ---- of the code's entries

range_shift : (first a z : ℕ) → map (λ x. first + x) (range_from a z) ≡ range_from (first + a) z
range_shift first a zero = refl
range_shift first a (suc z) =
    let e : first + suc a ≡ suc (first + a) = omega arith in
    ap (λ x. (first + a) ∷ x) (range_shift first (suc a) z ∙ ap (λ x. range_from x z) e)

pub number_seen : (info : Module) (first : ℕ) (es : List StackEntry) → All (λ (x : EntryView). first ≤ x.operator) (map entry_view es) →
    (j : ℕ) → j < length es → slice_index (entry_operators_of es) j ≡ first + (entry_at (graph_entries info first es) j).number
number_seen info first es later j l =
    let d = undef_entry 0 in
    let low = All-get_or (λ (e : StackEntry). first ≤ e.operator_idx) es j d l (later_entries first es later) in
    let number = ap (λ (e : GraphEntry). e.number) (entry_seen info first es j d l) in
    get_or-map (λ (e : StackEntry). e.operator_idx) es j d 0 l ∙ omega arith

pub contiguous : (info : Module) (first : ℕ) (block : List Shape) (es : List StackEntry) → (graph true block).nodes ≡ graph_entries info first es →
    All (λ (x : EntryView). first ≤ x.operator) (map entry_view es) → All Raises block → IsSmall true block → HasContiguousTrees es
contiguous info first block es same later ps small i l one =
    let nodes = graph_entries info first es in
    let down = downwards (kins nodes) i in
    let color = (entry_at nodes i).color in
    let count = nodes_length info first es in
    let own : i < length nodes = omega arith in
    let inside = inside_below nodes i in
    let seen = subst (λ c. All (λ j. (kin_at (kins nodes) j).color ≡ c) down) (ap (λ (k : Kin). k.color) (kin_entry nodes i own))
    (subst (λ x. HasOneColor x i) (sym (kins_same info first es)) one) in
    let painted = all_within (length nodes) (λ j. (kin_at (kins nodes) j).color ≡ color) (λ j. (entry_at nodes j).color ≡ color) down
    (λ j w q. sym (ap (λ (k : Kin). k.color) (kin_entry nodes j w)) ∙ q) inside seen in
    let stretch = subst (λ x. (i : ℕ) → i < length x → AreColored x (entry_at x i).color (downwards (kins x) i) →
    AreConsecutive (numbers x (downwards (kins x) i))) same (together block ps small) i own painted in (
      first + stretch.0,
      stretch.1,
      ap (λ x. map (λ j. slice_index (entry_operators_of es) j) (downwards x i)) (sym (kins_same info first es))
          ∙ (map_same (λ j. slice_index (entry_operators_of es) j) (λ j. first + (entry_at nodes j).number) down (length nodes) inside
          (λ j w. number_seen info first es later j (omega arith)) ∙ (sym (map-map (λ x. first + x) (λ j. (entry_at nodes j).number) down)
          ∙ (ap (map (λ x. first + x)) stretch.2 ∙ range_shift first stretch.0 stretch.1))),
    )
