-- The trees of a graph lie in order exactly where its block does.
use Rattle.std.proofs.Common.{◌≡◌, ℕ, zero, suc, ◌+◌, ◌-◌, ◌<◌, ◌≤◌, Bool, true, false, cond, List, [], ◌∷◌, ◌++◌, length, map, get_or, Some, refl, sym, ap}
use Rattle.std.proofs.Common.{ap₂, ◌∙◌, subst, subst₂, arith, inl, inr, append_assoc}
use Rattle.std.specs.Prelude.{◌↔◌, is_some, slice_get, slice_index, filter}
use Rattle.std.specs.List.{All, flat_map}
use Rattle.std.specs.List.Sorted.{IsStrictlyIncreasing, IsPermutation}
use Rattle.std.proofs.lemmas.Bool.{cases_Bool}
use Rattle.std.proofs.lemmas.List.{append-nil, length-map, map-append, get_or-map, get_or_default, same_lists}
use Rattle.std.proofs.lemmas.List.Elements.{filter-append, All-head, All-tail, All-get_or, All-weaker}
use Rattle.std.proofs.lemmas.List.Sorted.{IsPermutation-refl, IsPermutation-append_left, IsPermutation-append_right, IsPermutation-append_comm}
use Rattle.std.proofs.lemmas.List.Sorted.{IsPermutation-trans, length_permutation, All-permutation}
use Rattle.std.proofs.lemmas.Option.{slice_get_within, get_or_from_slice_get}
use Rattle.peephole_lang.specs.Node.{instr_of, children_of}
use Rattle.peephole_lang.specs.declared.lang.Lang.{Lang}
use Rattle.peephole_graphs.specs.declared.dfg.StackEntry.{StackEntry}
use Rattle.peephole_graphs.specs.Shape.{Shape}
use Rattle.peephole_graphs.specs.Tree.{Tree, Trees, no_trees, ◌▸◌, postfix_of, postfix, range_from}
use Rattle.peephole_graphs.specs.Forest.{forest, IsInOrder}
use Rattle.peephole_graphs.specs.Graph.{trees_at}
use Rattle.peephole_graphs.specs.Downwards.{downwards}
use Rattle.peephole_graphs.specs.Source.{Source, shapes_in}
use Rattle.peephole_graphs.specs.Entries.{Graph, kins_of, roots_of, entry_tree}
use Rattle.peephole_graphs.specs.Contiguous.{entry_operators_of}
use Rattle.peephole_graphs.specs.Order.{is_operator_at, operators_among, forest_operators}
use Rattle.peephole_graphs.specs.GraphOf.{IsGraphOf}
use Rattle.peephole_graphs.specs.Shown.{ShowsTheOrder}
use Rattle.peephole_graphs.proofs.forest.TreeStack.{is_open, without_open, last_open, tree_stack}
use Rattle.peephole_graphs.proofs.forest.ForestLemmas.{forest_is}
use Rattle.peephole_graphs.proofs.forest.ConsecutiveOperators.{numbers, numbers_rev, forest_numbers, length-range, range_last}
use Rattle.peephole_graphs.proofs.graph.GraphOfLemmas.{undef_instr, undef_children}
use Rattle.peephole_graphs.proofs.graph.EntryTreeLemmas.{own_tree, entry_operand, by_children, down_is, roots_below}

-- ---- the operators of an entry's tree are those of the entries from it downwards

module _ (source : Source) (given : Graph) (h : IsGraphOf source given) where
  abbrev among : List ℕ → List ℕ
  among is = operators_among given.entries is

  abbrev below : ℕ → List ℕ
  below i = downwards (kins_of given.entries) i

  -- the body's indexes of operators
  abbrev in_body : List ℕ → List ℕ
  in_body is = map (λ n. source.first + n) is

  among_append : (is js : List ℕ) → among (is ++ js) ≡ among is ++ among js
  among_append is js =
      let index = λ (i : ℕ). slice_index (entry_operators_of given.entries) i in
      let test = is_operator_at given.entries in
      ap (map index) (filter-append test is js) ∙ map-append index (filter test is) (filter test js)

  abbrev IsAmong : ℕ → Type 0
  IsAmong i = among (below i) ≡ in_body (postfix_of (entry_tree source given i))

  all_among : (is : List ℕ) → All IsAmong is → among (flat_map below is) ≡ in_body (postfix (trees_at (entry_tree source given) is))
  all_among [] a = refl
  all_among (i ∷ is) a =
      among_append (below i) (flat_map below is) ∙ (ap₂ (λ x y. x ++ y) (All-head IsAmong i is a) (all_among is (All-tail IsAmong i is a))
      ∙ sym (map-append (λ n. source.first + n) (postfix_of (entry_tree source given i)) (postfix (trees_at (entry_tree source given) is))))

  -- an entry's own operator, if it is no missing operand
  own_among : (i : ℕ) (e : StackEntry) (b : Bool) → slice_get given.entries i ≡ Some e → is_some (instr_of e.operator) ≡ b →
      among (i ∷ []) ≡ cond b (e.operator_idx ∷ []) []
  own_among i e b s w =
      let l = slice_get_within given.entries i e s in
      let here = get_or_from_slice_get given.entries i e e s in
      let is_operator = λ (x : StackEntry). is_some (instr_of x.operator) in
      let test : is_operator_at given.entries i ≡ b = get_or-map is_operator given.entries i e false l ∙ (ap is_operator here ∙ w) in
      let number = get_or-map (λ (x : StackEntry). x.operator_idx) given.entries i e 0 l ∙ ap (λ (x : StackEntry). x.operator_idx) here in
      ap (λ t. map (λ i. slice_index (entry_operators_of given.entries) i) (cond t (i ∷ []) [])) test
      ∙ (elim b as (λ t. map (λ i. slice_index (entry_operators_of given.entries) i) (cond t (i ∷ []) []) ≡ cond t (e.operator_idx ∷ []) []) [
        | true ↦ ap (λ n. n ∷ []) number
        | false ↦ refl
      ])

  among_at : (i : ℕ) → i < length given.entries → IsAmong i
  among_at = by_children given h.forest_is IsAmong (λ i e s kids.
      let cs = children_of e.operator in
      let known = h.entry i e s in
      let number = known.2 in
      let seen : Tree → List ℕ = λ t. in_body (postfix_of t) in
      ap among (down_is given h.forest_is i e s) ∙ (among_append (flat_map below cs) (i ∷ []) ∙ elim known.3 [
        | inl (instr, offset, there, is, painted) ↦
            let n = e.operator_idx - source.first in
            let at : e.operator_idx ≡ source.first + n = omega arith in
            ap₂ (λ x y. x ++ y) (all_among cs kids) (own_among i e true s (ap is_some is) ∙ ap (λ k. k ∷ []) at)
            ∙ (sym (map-append (λ k. source.first + k) (postfix (trees_at (entry_tree source given) cs)) (n ∷ []))
            ∙ sym (ap seen (own_tree source given h.forest_is i e instr s is)))
        | inr m ↦
            let none = ap (λ (o : Lang). is_some (instr_of o)) m.0 ∙ ap is_some undef_instr in
            ap₂ (λ x y. among (flat_map below x) ++ y) (ap children_of m.0 ∙ undef_children) (own_among i e false s none)
            ∙ sym (ap seen (entry_operand source given i e s m.0).1)
      ]))

-- ---- a block's operators, each once

-- the trees that an operator leaves and those that it takes are the trees before it
parts : (ts : Trees) (k : ℕ) → IsPermutation (numbers ts) (numbers (without_open ts k) ++ numbers (last_open ts k))
parts no_trees k = IsPermutation-refl []
parts (t ▸ ts) zero = rw (append-nil (numbers (t ▸ ts))) (IsPermutation-refl (numbers (t ▸ ts)))
parts (t ▸ ts) (suc k) =
    let own = postfix_of t in
    elim (cases_Bool (is_open t)) [
      | inl e ↦
          let K = numbers (without_open ts k) in
          let P = numbers (last_open ts k) in
          let left : K ++ numbers (t ▸ last_open ts k) ≡ (K ++ P) ++ own = ap (λ x. K ++ x) (numbers_rev t (last_open ts k))
          ∙ sym (append_assoc K P own) in
          rw (e, left, numbers_rev t ts) (IsPermutation-append_left own (numbers ts) (K ++ P) (parts ts k))
      | inr e ↦
          let K = numbers (without_open ts (suc k)) in
          let P = numbers (last_open ts (suc k)) in
          let turned : IsPermutation ((K ++ P) ++ own) ((K ++ own) ++ P) =
          rw (append_assoc K P own, append_assoc K own P) (IsPermutation-append_right K (P ++ own) (own ++ P) (IsPermutation-append_comm P own)) in
          rw (e, numbers_rev t ts, numbers_rev t (without_open ts (suc k))) (IsPermutation-trans (numbers ts ++ own) ((K ++ P) ++ own) ((K ++ own) ++ P)
          (IsPermutation-append_left own (numbers ts) (K ++ P) (parts ts (suc k))) turned)
    ]

-- the numbers of a block's operators, each once
all_numbers : (block : List Shape) → IsPermutation (range_from 0 (length block)) (numbers (tree_stack block))
all_numbers [] = IsPermutation-refl []
all_numbers (s ∷ earlier) =
    let n = length earlier in
    let K = numbers (without_open (tree_stack earlier) s.operands) in
    let P = numbers (last_open (tree_stack earlier) s.operands) in
    let older = IsPermutation-trans (range_from 0 n) (numbers (tree_stack earlier)) (K ++ P) (all_numbers earlier) (parts (tree_stack earlier) s.operands) in
    subst₂ IsPermutation (sym (range_last n)) (sym (forest_numbers s earlier)) (IsPermutation-append_left (n ∷ []) (range_from 0 n) (K ++ P) older)

pub count_all : (block : List Shape) → length (numbers (tree_stack block)) ≡ length block
count_all block = length_permutation (range_from 0 (length block)) (numbers (tree_stack block)) (all_numbers block) ∙ length-range 0 (length block)

-- ---- ascending numbers

-- numbers from `a` on that ascend are no fewer than they need room
abbrev Above : ℕ → List ℕ → Type 0
Above a xs = (k : ℕ) → k < length xs → a + k ≤ slice_index xs k

rises : (xs : List ℕ) → IsStrictlyIncreasing xs → Above 0 xs
rises xs h zero l = omega arith
rises xs h (suc k) l =
    let before = rises xs h k (omega arith) in
    let step = h k (omega arith) in
    let f : slice_index xs (k + 1) ≡ slice_index xs (suc k) = ap (slice_index xs) (omega arith) in
    omega arith

-- where they are all below their number they are no more than that
falls : (xs : List ℕ) → IsStrictlyIncreasing xs → All (λ i. i < length xs) xs → (d k : ℕ) → k + suc d ≡ length xs → slice_index xs k ≤ k
falls xs h b zero k e = let l = All-get_or (λ i. i < length xs) xs k 0 (omega arith) b in omega arith
falls xs h b (suc d) k e = let after = falls xs h b d (k + 1) (omega arith) in let step = h k (omega arith) in omega arith

range_index : (a n k d : ℕ) → k < n → get_or (range_from a n) k d ≡ a + k
range_index a zero k d l = absurd (omega arith)
range_index a (suc n) zero d l = omega arith
range_index a (suc n) (suc k) d l = range_index (suc a) n k d (omega arith) ∙ omega arith

ascending_range : (xs : List ℕ) → IsStrictlyIncreasing xs → All (λ i. i < length xs) xs → xs ≡ range_from 0 (length xs)
ascending_range xs h b = same_lists xs (range_from 0 (length xs)) (sym (length-range 0 (length xs))) (λ k d l.
    let up = rises xs h k l in
    let down = falls xs h b (length xs - suc k) k (omega arith) in
    let at = range_index 0 (length xs) k d l in
    let own = get_or_default xs k d 0 l in
    omega arith)

range_ascending : (n : ℕ) → IsStrictlyIncreasing (range_from 0 n)
range_ascending n k l =
    let m = length-range 0 n in
    let p = range_index 0 n k 0 (omega arith) in
    let q = range_index 0 n (k + 1) 0 (omega arith) in
    omega arith

shifted : (first : ℕ) (xs : List ℕ) → IsStrictlyIncreasing xs ↔ IsStrictlyIncreasing (map (λ n. first + n) xs)
shifted first xs =
    let n = length-map xs (λ n. first + n) in
    let at = λ (k : ℕ) (l : k < length xs). get_or-map (λ n. first + n) xs k 0 0 l in (
      λ h k l. let step = h k (omega arith) in let p = at k (omega arith) in let q = at (k + 1) (omega arith) in omega arith,
      λ h k l. let step = h k (omega arith) in let p = at k (omega arith) in let q = at (k + 1) (omega arith) in omega arith,
    )

-- ---- the order of a graph and of its block

in_order-ascends : (block : List Shape) → IsStrictlyIncreasing (postfix (forest block)) ↔ IsInOrder block
in_order-ascends block =
    let all = postfix (forest block) in
    let is : all ≡ numbers (tree_stack block) = ap postfix (forest_is block) in
    let count : length all ≡ length block = ap length is ∙ count_all block in
    let in_range : All (λ i. i < length block) (range_from 0 (length block)) =
    λ k d l. let n = length-range 0 (length block) in let at = range_index 0 (length block) k d (omega arith) in omega arith in
    let below = subst (All (λ i. i < length block)) (sym is)
    (All-permutation (λ i. i < length block) (range_from 0 (length block)) (numbers (tree_stack block)) (all_numbers block) in_range) in (
      λ up. ascending_range all up (subst (λ n. All (λ i. i < n) all) (sym count) below) ∙ ap (range_from 0) count,
      λ o. subst IsStrictlyIncreasing (sym o) (range_ascending (length block)),
    )

-- the trees of the roots lie in order exactly where the block's do
pub in_order : ShowsTheOrder
in_order source given h =
    let all = postfix (forest (shapes_in source)) in
    let paired = h.forest_is.paired in
    let roots = All-weaker (λ i. i < length given.parents) (IsAmong source given h) (λ i l. among_at source given h i (omega arith))
    (roots_of given.parents) (roots_below given.parents) in
    let same : forest_operators given.entries given.parents ≡ map (λ n. source.first + n) all =
    all_among source given h (roots_of given.parents) roots ∙ ap (λ ts. map (λ n. source.first + n) (postfix ts)) h.trees in
    let whole = in_order-ascends (shapes_in source) in
    let up_and_down = shifted source.first all in (
      λ up. whole.0 (up_and_down.1 (subst IsStrictlyIncreasing same up)),
      λ o. subst IsStrictlyIncreasing (sym same) (up_and_down.0 (whole.1 o)),
    )
