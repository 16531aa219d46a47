-- The trees are in order exactly if the operators of each tree have consecutive numbers.
use Rattle.std.proofs.Common.{◌≡◌, ℕ, zero, suc, ◌+◌, ◌-◌, ◌<◌, ◌≤◌, true, false, List, [], ◌∷◌, ◌++◌, length, refl, sym, ap, ap₂, ◌∙◌, arith, ⊎_elim, inl}
use Rattle.std.proofs.Common.{inr, append_assoc}
use Rattle.std.specs.Prelude.{◌⊎◌, ◌||◌, ◌==◌}
use Rattle.std.proofs.lemmas.Bool.Decides.{nat_tests}
use Rattle.std.proofs.lemmas.Bool.{eq-eqb, eqb-true, or_cases, or_left, or_right, cases_Bool, cases_lt, false≢true}
use Rattle.std.proofs.lemmas.List.{append-nil, same_from_push, length-append}
use Rattle.peephole_graphs.specs.Shape.{Shape}
use Rattle.peephole_graphs.specs.Tree.{Tree, entry, node, Trees, no_trees, ◌▸◌, join, postfix_of, postfix, range_from}
use Rattle.peephole_graphs.specs.Forest.{operator_tree, is_root, has, IsInOrder, AreTogether}
use Rattle.peephole_graphs.proofs.forest.Depth.{top}
use Rattle.peephole_graphs.proofs.forest.DepthLemmas.{numbers-join, range_more}
use Rattle.peephole_graphs.proofs.forest.TreeStack.{is_open, opens, forest_value, without_open, last_open, tree_stack, missing}
use Rattle.peephole_graphs.proofs.forest.TreeStack.{without_open_top, without_open_behind, last_open_behind, operator}
use Rattle.peephole_graphs.proofs.forest.ForestLemmas.{rev, join_nil, forest_is, Falling, Falling-tree_stack, tree_in_stack, root_below}
use Rattle.peephole_graphs.proofs.forest.EntryOperands.{join_assoc, entries, top_last_open, AllOpen, all_last_open}

has_append : (j : ℕ) (is js : List ℕ) → has j (is ++ js) ≡ (has j is || has j js)
has_append j [] js = refl
has_append j (i ∷ is) js = grind (arith, has_append j is js)

has_range : (j a n : ℕ) → a ≤ j → j < a + n → has j (range_from a n) ≡ true
has_range j a zero l h = absurd (omega arith)
has_range j a (suc n) l h = grind (arith, nat_tests, has_range j (suc a) n)

range_has : (j a n : ℕ) → has j (range_from a n) ≡ true → (a ≤ j) × (j < a + n)
range_has j a zero h = absurd (false≢true h)
range_has j a (suc n) h = elim (or_cases (a == j) (has j (range_from (suc a) n)) h) [
  | inl e ↦ let w = eqb-true a j e in (omega arith, omega arith)
  | inr e ↦ let (u, v) = range_has j (suc a) n e in (omega arith, omega arith)
]

-- the operators of trees of which the last is first
abbrev pub numbers : Trees → List ℕ
numbers ts = postfix (rev ts)

pub numbers_rev : (t : Tree) (ts : Trees) → numbers (t ▸ ts) ≡ numbers ts ++ postfix_of t
numbers_rev t ts = numbers-join (rev ts) (t ▸ no_trees) ∙ ap (λ x. numbers ts ++ x) (append-nil (postfix_of t))

pub length-range : (a n : ℕ) → length (range_from a n) ≡ n
length-range a zero = refl
length-range a (suc n) = ap suc (length-range (suc a) n)

-- a range in two parts
pub range_parts : (a n : ℕ) (is js : List ℕ) → is ++ js ≡ range_from a n →
    (is ≡ range_from a (length is)) × (js ≡ range_from (a + length is) (length js)) × (length is + length js ≡ n)
range_parts a n [] js e =
    let l : length js ≡ n = ap length e ∙ length-range a n in
    let f : a ≡ a + 0 = omega arith in
    (refl, e ∙ ap₂ range_from f (sym l), omega arith)
range_parts a zero (i ∷ is) js e = absurd cc
range_parts a (suc n) (i ∷ is) js e =
    let head : i ≡ a = cc in
    let tail : is ++ js ≡ range_from (suc a) n = cc in
    let (u, v, w) = range_parts (suc a) n is js tail in
    let f : suc a + length is ≡ a + suc (length is) = omega arith in
    (ap₂ (λ x y. x ∷ y) head u, v ∙ ap (λ x. range_from x (length js)) f, omega arith)

-- numbers of two parts, the first below the second
pub parts_apart : (a n : ℕ) (is js : List ℕ) (i j : ℕ) → is ++ js ≡ range_from a n → has i is ≡ true → has j js ≡ true → i < j
parts_apart a n is js i j e h k =
    let (u, v, w) = range_parts a n is js e in
    let (p, q) = range_has i a (length is) (sym (ap (has i) u) ∙ h) in
    let (r, s) = range_has j (a + length is) (length js) (sym (ap (has j) v) ∙ k) in
    omega arith

numbers_entries : (m j : ℕ) → postfix (entries m j) ≡ []
numbers_entries m zero = refl
numbers_entries m (suc j) = numbers_entries m j

kids_numbers : (s : Shape) (earlier : List Shape) →
    postfix (top (forest_value (tree_stack earlier) (missing earlier)) s.operands) ≡ numbers (last_open (tree_stack earlier) s.operands)
kids_numbers s earlier =
    let taken = last_open (tree_stack earlier) s.operands in
    let more = s.operands - opens (tree_stack earlier) in
    rw (
      top_last_open (tree_stack earlier) (missing earlier) s.operands,
      numbers-join (entries (missing earlier) more) (rev taken),
      numbers_entries (missing earlier) more,
    )

-- the numbers of the forest as it grows
pub forest_numbers : (s : Shape) (earlier : List Shape) → numbers (tree_stack (s ∷ earlier))
    ≡ (numbers (without_open (tree_stack earlier) s.operands) ++ numbers (last_open (tree_stack earlier) s.operands)) ++ length earlier ∷ []
forest_numbers s earlier =
    let rest = without_open (tree_stack earlier) s.operands in
    rw (numbers_rev (operator s earlier) rest, kids_numbers s earlier, append_assoc (numbers rest))

tree_numbers : (s : Shape) (earlier : List Shape) →
    postfix_of (operator_tree s earlier) ≡ numbers (last_open (tree_stack earlier) s.operands) ++ length earlier ∷ []
tree_numbers s earlier = ap postfix_of (tree_in_stack s earlier) ∙ ap (λ x. x ++ length earlier ∷ []) (kids_numbers s earlier)

in_left : (j : ℕ) (is js : List ℕ) → has j is ≡ true → has j (is ++ js) ≡ true
in_left j is js h = has_append j is js ∙ or_left _ _ h

pub in_right : (j : ℕ) (is js : List ℕ) → has j js ≡ true → has j (is ++ js) ≡ true
in_right j is js h = has_append j is js ∙ or_right _ _ h

in_either : (j : ℕ) (is js : List ℕ) → has j (is ++ js) ≡ true → (has j is ≡ true) ⊎ (has j js ≡ true)
in_either j is js h = or_cases (has j is) (has j js) (sym (has_append j is js) ∙ h)

in_one : (j n : ℕ) → has j (n ∷ []) ≡ true → n ≡ j
in_one j n h = ⊎_elim (λ e. eqb-true n j e) (λ e. absurd (false≢true e)) (or_cases (n == j) false h)

pub one_in : (n : ℕ) → has n (n ∷ []) ≡ true
one_in n = or_left _ _ (eq-eqb n n refl)

own_in : (i : ℕ) (s : Shape) (kids : Trees) (is : List ℕ) → has i (is ++ postfix_of (node i s kids)) ≡ true
own_in i s kids is = in_right i is (postfix kids ++ i ∷ []) (in_right i (postfix kids) (i ∷ []) (one_in i))

-- open trees are none, or one of them has a root
pub some_root : (ts : Trees) → AllOpen ts → (ts ≡ no_trees) ⊎ ((j : ℕ) × (is_root j ts ≡ true) × (has j (numbers ts) ≡ true))
some_root no_trees h = inl refl
some_root (entry m ▸ ts) h = absurd (false≢true h.0)
some_root (node i s kids ▸ ts) h = inr (i, or_left _ _ (eq-eqb i i refl), ap (has i) (numbers_rev (node i s kids) ts) ∙ own_in i s kids (numbers ts))

pub without_open_if_none : (ts : Trees) (k : ℕ) → last_open ts (suc k) ≡ no_trees → without_open ts (suc k) ≡ ts
without_open_if_none no_trees k e = refl
without_open_if_none (t ▸ ts) k e = let more = without_open_if_none ts k in grind arith

has_last_open : (j : ℕ) (ts : Trees) (k : ℕ) → has j (numbers (last_open ts k)) ≡ true → has j (numbers ts) ≡ true
has_last_open j no_trees k h = h
has_last_open j (t ▸ ts) zero h = absurd (false≢true h)
has_last_open j (t ▸ ts) (suc k) h = grind (arith, h, within ts, within (last_open ts k), has_last_open j ts k, has_last_open j ts (suc k))
  where
    within : (us : Trees) → has j (numbers (t ▸ us)) ≡ (has j (numbers us) || has j (postfix_of t))
    within us = ap (has j) (numbers_rev t us) ∙ has_append j (numbers us) (postfix_of t)

climb : (is : List ℕ) (b j d : ℕ) → ((j : ℕ) → suc j < b → has j is ≡ true → has (suc j) is ≡ true) → j + d < b → has j is ≡ true → has (j + d) is ≡ true
climb is b j zero h l k = let e : j + 0 ≡ j = omega arith in ap (λ x. has x is) e ∙ k
climb is b j (suc d) h l k =
    let e : j + suc d ≡ suc (j + d) = omega arith in ap (λ x. has x is) e ∙ h (j + d) (omega arith) (climb is b j d h (omega arith) k)

length-own : (t : Tree) (ts : Trees) (a z : ℕ) → numbers (t ▸ ts) ≡ range_from a z → (numbers ts ≡ range_from a (length (numbers ts)))
    × (postfix_of t ≡ range_from (a + length (numbers ts)) (length (postfix_of t))) × (length (numbers ts) + length (postfix_of t) ≡ z)
length-own t ts a z e = range_parts a z (numbers ts) (postfix_of t) (sym (numbers_rev t ts) ∙ e)

-- from a range of all, with the last open ones at its end
IsUpward : List ℕ → ℕ → Type 0
IsUpward is end = (j : ℕ) → suc j < end → has j is ≡ true → has (suc j) is ≡ true

-- the last open trees stand on top of the others
abbrev pub AreOnTop : Trees → ℕ → Type 0
AreOnTop ts k = join (last_open ts k) (without_open ts k) ≡ ts

pub rev_join : (ts us : Trees) → rev (join ts us) ≡ join (rev us) (rev ts)
rev_join no_trees us = sym (join_nil (rev us))
rev_join (t ▸ ts) us = ap (λ x. join x (t ▸ no_trees)) (rev_join ts us) ∙ join_assoc (rev us) (rev ts) (t ▸ no_trees)

on_top-numbers : (ts : Trees) (k : ℕ) → AreOnTop ts k → numbers (without_open ts k) ++ numbers (last_open ts k) ≡ numbers ts
on_top-numbers ts k e = sym (numbers-join (rev (without_open ts k)) (rev (last_open ts k))) ∙
    ap postfix (sym (rev_join (last_open ts k) (without_open ts k)) ∙ ap rev e)

open_on_top : (t : Tree) (ts : Trees) (k : ℕ) → is_open t ≡ true → AreOnTop ts k → AreOnTop (t ▸ ts) (suc k)
open_on_top t ts k w e = rw w (ap (λ x. t ▸ x) e)

done_on_top : (t : Tree) (ts : Trees) (k : ℕ) → is_open t ≡ false → last_open ts (suc k) ≡ no_trees → AreOnTop (t ▸ ts) (suc k)
done_on_top t ts k w x = rw (w, x) (ap (λ y. t ▸ y) (without_open_if_none ts k x))

last_open_on_top : (t : Tree) (ts : Trees) (k : ℕ) → is_open t ≡ true →
    numbers (last_open (t ▸ ts) (suc k)) ≡ numbers (last_open ts k) ++ postfix_of t
last_open_on_top t ts k w = rw w (numbers_rev t (last_open ts k))

gather_open : (t : Tree) (ts : Trees) (a z k : ℕ) → is_open t ≡ true → numbers (t ▸ ts) ≡ range_from a z →
    IsUpward (numbers (last_open (t ▸ ts) (suc k))) (a + z) →
    ((y : ℕ) → numbers ts ≡ range_from a y → IsUpward (numbers (last_open ts k)) (a + y) → AreOnTop ts k) → AreOnTop (t ▸ ts) (suc k)
unfolding IsUpward
gather_open t ts a z k w e h ih =
    let Y = numbers (last_open ts k) in
    let own = postfix_of t in
    let n = length (numbers ts) in
    let (u, v, l) = length-own t ts a z e in
    let p = last_open_on_top t ts k w in
    let up : (j : ℕ) → suc j < a + n → has j Y ≡ true → has (suc j) Y ≡ true = λ j m x.
    elim (in_either (suc j) Y own (sym (ap (has (suc j)) p) ∙ h j (omega arith) (ap (has j) p ∙ in_left j Y own x))) [
      | inl y ↦ y
      | inr y ↦ let (q, r) = range_has (suc j) (a + n) (length own) (sym (ap (has (suc j)) v) ∙ y) in absurd (omega arith)
    ] in
    open_on_top t ts k w (ih n u up)

gather_done : (t : Tree) (ts : Trees) (a z k : ℕ) → is_open t ≡ false → 0 < length (postfix_of t) → numbers (t ▸ ts) ≡ range_from a z →
    IsUpward (numbers (last_open (t ▸ ts) (suc k))) (a + z) → AreOnTop (t ▸ ts) (suc k)
unfolding IsUpward
gather_done t ts a z k w some e h =
    let Y = numbers (last_open ts (suc k)) in
    let end = a + length (numbers ts) in
    let (u, v, l) = length-own t ts a z e in
    let p = ap numbers (last_open_behind t ts (suc k) w) in
    elim (some_root (last_open ts (suc k)) (all_last_open ts (suc k))) [
      | inl x ↦ done_on_top t ts k w x
      | inr x ↦
          let inside : (j : ℕ) → has j Y ≡ true → j < end =
          λ j y. (range_has j a (length (numbers ts)) (sym (ap (has j) u) ∙ has_last_open j ts (suc k) y)).1 in
          let up : (j : ℕ) → suc j < a + z → has j Y ≡ true → has (suc j) Y ≡ true =
          λ j m y. sym (ap (has (suc j)) p) ∙ h j m (ap (has j) p ∙ y) in
          let low = inside x.0 x.2 in
          let high = inside (x.0 + (end - x.0)) (climb Y (a + z) x.0 (end - x.0) up (omega arith) x.2) in
          absurd (omega arith)
    ]

gather : (ts : Trees) (a z n k : ℕ) → Falling ts n → numbers ts ≡ range_from a z → IsUpward (numbers (last_open ts k)) (a + z) → AreOnTop ts k
gather no_trees a z n k f e h = refl
gather (entry m ▸ ts) a z n k f e h = absurd f
gather (node i s kids ▸ ts) a z n zero f e h = refl
gather (node i s kids ▸ ts) a z n (suc k) f e h = elim (cases_Bool s.has_result) [
  | inl w ↦ gather_open (node i s kids) ts a z k w e h (λ y. gather ts a y i k f.1)
  | inr w ↦ gather_done (node i s kids) ts a z k w (omega (arith, length-append (postfix kids) (i ∷ []))) e h
]

-- and back
on_top : (ts : Trees) (a z n k : ℕ) → Falling ts n → numbers (without_open ts k) ++ numbers (last_open ts k) ≡ range_from a z → AreOnTop ts k
on_top no_trees a z n k f e = refl
on_top (entry m ▸ ts) a z n k f e = absurd f
on_top (node i s kids ▸ ts) a z n zero f e = refl
on_top (node i s kids ▸ ts) a z n (suc k) f e =
    let t = node i s kids in
    let own = postfix_of t in
    elim (cases_Bool s.has_result) [
      | inl w ↦
          let X = numbers (without_open ts k) in
          let Y = numbers (last_open ts k) in
          let whole = append_assoc X Y own ∙ (sym (ap₂ (λ x y. numbers x ++ y) (without_open_top t ts k w) (last_open_on_top t ts k w)) ∙ e) in
          open_on_top t ts k w (on_top ts a (length (X ++ Y)) i k f.1 (range_parts a z (X ++ Y) own whole).0)
      | inr w ↦ elim (some_root (last_open ts (suc k)) (all_last_open ts (suc k))) [
        | inl x ↦ done_on_top t ts k w x
        | inr x ↦
            let X = numbers (without_open ts (suc k)) in
            let Y = numbers (last_open ts (suc k)) in
            let below = root_below ts i (suc k) x.0 f.1 x.1 in
            let whole = ap (λ x. x ++ Y) (sym (numbers_rev t (without_open ts (suc k))))
            ∙ (sym (ap₂ (λ x y. numbers x ++ numbers y) (without_open_behind t ts (suc k) w) (last_open_behind t ts (suc k) w)) ∙ e) in
            let above = parts_apart a z (X ++ own) Y i x.0 whole (own_in i s kids X) x.2 in
            absurd (omega arith)
      ]
    ]

pub spread : (ts : Trees) (a z n k : ℕ) → Falling ts n → numbers (without_open ts k) ++ numbers (last_open ts k) ≡ range_from a z →
    numbers ts ≡ range_from a z
spread ts a z n k f e = sym (on_top-numbers ts k (on_top ts a z n k f e)) ∙ e

pub order_tree_stack : (block : List Shape) → IsInOrder block → numbers (tree_stack block) ≡ range_from 0 (length block)
order_tree_stack block o = sym (ap postfix (forest_is block)) ∙ o

pub range_last : (n : ℕ) → range_from 0 (suc n) ≡ range_from 0 n ++ n ∷ []
range_last n = sym (range_more 0 n) ∙ ap (λ x. range_from 0 n ++ x ∷ []) (omega arith)

-- where a block is in order, so it is without its last operator, and that operator's operands stand on top
pub order_before : (s : Shape) (earlier : List Shape) → IsInOrder (s ∷ earlier) → IsInOrder earlier × AreOnTop (tree_stack earlier) s.operands
order_before s earlier o =
    let n = length earlier in
    let ts = tree_stack earlier in
    let whole = sym (forest_numbers s earlier) ∙ (order_tree_stack (s ∷ earlier) o ∙ range_last n) in
    let front = (same_from_push _ _ _ _ whole).0 in
    let top = on_top ts 0 n n s.operands (Falling-tree_stack earlier) front in
    (ap postfix (forest_is earlier) ∙ (sym (on_top-numbers ts s.operands top) ∙ front), top)

pub together_from_order : (block : List Shape) → IsInOrder block → AreTogether block
together_from_order [] o = tt
together_from_order (s ∷ earlier) o =
    let n = length earlier in
    let X = numbers (without_open (tree_stack earlier) s.operands) in
    let Y = numbers (last_open (tree_stack earlier) s.operands) in
    let own = tree_numbers s earlier in
    let (older, top) = order_before s earlier o in
    let front = on_top-numbers (tree_stack earlier) s.operands top ∙ order_tree_stack earlier older in
    let (u, v, w) = range_parts 0 n X Y front in (
      together_from_order earlier older,
      λ j l h. ap (has (suc j)) own ∙ (elim (in_either j Y (n ∷ []) (sym (ap (has j) own) ∙ h)) [
        | inl x ↦
            let (p, q) = range_has j (0 + length X) (length Y) (sym (ap (has j) v) ∙ x) in
            elim (cases_lt (suc j) n) [
              | inl y ↦ in_left (suc j) Y (n ∷ []) (ap (has (suc j)) v ∙ has_range (suc j) (0 + length X) (length Y) (omega arith) (omega arith))
              | inr y ↦ in_right (suc j) Y (n ∷ []) (or_left _ _ (eq-eqb n (suc j) (omega arith)))
            ]
        | inr x ↦ let e = in_one j n x in absurd (omega arith)
      ]),
    )

pub order_from_together : (block : List Shape) → AreTogether block → IsInOrder block
unfolding IsUpward
order_from_together [] o = refl
order_from_together (s ∷ earlier) o =
    let n = length earlier in
    let forest = tree_stack earlier in
    let Y = numbers (last_open forest s.operands) in
    let own = tree_numbers s earlier in
    let before = order_tree_stack earlier (order_from_together earlier o.0) in
    let next : (j : ℕ) → suc j < 0 + n → has j Y ≡ true → has (suc j) Y ≡ true = λ j l h.
    elim (in_either (suc j) Y (n ∷ []) (sym (ap (has (suc j)) own) ∙ o.1 j (omega arith) (ap (has j) own ∙ in_left j Y (n ∷ []) h))) [
      | inl x ↦ x
      | inr x ↦ let e = in_one (suc j) n x in absurd (omega arith)
    ] in
    let all = on_top-numbers forest s.operands (gather forest 0 n n s.operands (Falling-tree_stack earlier) before next) ∙ before in
    ap postfix (forest_is (s ∷ earlier)) ∙ (forest_numbers s earlier ∙ (ap (λ x. x ++ n ∷ []) all ∙ sym (range_last n)))
