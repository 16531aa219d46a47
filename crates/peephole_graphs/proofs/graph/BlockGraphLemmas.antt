-- The graph that is built stands for its block.
use Rattle.std.proofs.Common.{◌≡◌, ℕ, zero, suc, ◌+◌, ◌-◌, ◌<◌, ◌≤◌, Bool, true, false, List, [], ◌∷◌, ◌++◌, length, take, Option, None, Some, refl}
use Rattle.std.proofs.Common.{sym, ap, ◌∙◌, subst, arith, ⊎_elim, inl, inr}
use Rattle.std.specs.Prelude.{◌⊎◌, ◌==◌, reverse, replicate, if◌then◌else◌}
use Rattle.std.specs.List.{filter}
use Rattle.std.proofs.lemmas.Bool.Decides.{nat_tests}
use Rattle.std.proofs.lemmas.Bool.{cond-true, cond-false, eq-eqb, ne_eqb, or_left, or_right, cases_lt, cases_eq, cases_Bool, false≢true}
use Rattle.std.proofs.lemmas.Bool.{false_from_ne_true}
use Rattle.std.proofs.lemmas.List.Elements.{All-take, All-filter, filter_passes}
use Rattle.peephole_graphs.specs.Shape.{Shape}
use Rattle.peephole_graphs.specs.Tree.{Trees, no_trees, ◌▸◌}
use Rattle.peephole_graphs.specs.Forest.{forest, has}
use Rattle.peephole_graphs.specs.Color.{color_after}
use Rattle.peephole_graphs.specs.Graph.{undef, GraphEntry, undefs, tree_at_entry, tree_of_entry, roots, item}
use Rattle.peephole_graphs.proofs.graph.BlockGraph.{entry_at, parent_at, result_count, missing_count, IsOperatorOrMissing, IsBlockEntry}
use Rattle.peephole_graphs.proofs.graph.BlockGraph.{is_operator, IsBlockGraph}
use Rattle.peephole_graphs.specs.Step.{down, mark, GraphGrowth, grown}
use Rattle.peephole_graphs.proofs.Lists.{has_append, has_reverse, has_either, has_itself, has_each}
use Rattle.peephole_graphs.proofs.forest.TreeStack.{is_open, opens, without_open, tree_stack}
use Rattle.peephole_graphs.proofs.graph.DistinctChildren.{children_once}
use Rattle.peephole_graphs.proofs.graph.StackGraph.{graph, IsGraph, is_graph, graph_forest, open_at, stack_length, length-mark, behind}
use Rattle.peephole_graphs.proofs.graph.StackGraph.{more_of, place_of, taken_of}
use Rattle.peephole_graphs.proofs.graph.StackGraph.{new_entry}

-- the own entry of an operator
abbrev pub own : List GraphEntry → ℕ → Option ℕ
own [] n = None
own (e ∷ earlier) n = if is_operator e.shape then (if e.number == n then Some (length earlier) else own earlier n) else own earlier n

-- ---- items: `more` of `u`, and then `new`, behind `xs`

item_past : {A : Type 0} (d : A) (xs : List A) (i : ℕ) → length xs ≤ i → item d xs i ≡ d
item_past d [] i l = refl
item_past d (x ∷ xs) i l = cond-false _ _ _ (ne_eqb (length xs) i (λ w. omega arith)) ∙ item_past d xs i (omega arith)

pub item_last : {A : Type 0} (d x : A) (xs : List A) (i : ℕ) → length xs ≡ i → item d (x ∷ xs) i ≡ x
item_last d x xs i e = cond-true _ _ _ (eq-eqb (length xs) i e)

pub item_before : {A : Type 0} (d x : A) (xs : List A) (i : ℕ) → i < length xs → item d (x ∷ xs) i ≡ item d xs i
item_before d x xs i l = cond-false _ _ _ (ne_eqb (length xs) i (λ w. omega arith))

item_old : {A : Type 0} (d u : A) (k : ℕ) (xs : List A) (i : ℕ) → i < length xs → item d (replicate k u ++ xs) i ≡ item d xs i
item_old d u zero xs i l = refl
item_old d u (suc k) xs i l =
    let b = behind u k xs in item_before d u (replicate k u ++ xs) i (omega arith) ∙ item_old d u k xs i l

item_more : {A : Type 0} (d u : A) (k : ℕ) (xs : List A) (i : ℕ) → length xs ≤ i → i < length xs + k → item d (replicate k u ++ xs) i ≡ u
item_more d u zero xs i m l = absurd (omega arith)
item_more d u (suc k) xs i m l = let b = behind u k xs in let ih = item_more d u k xs i m in grind (arith, nat_tests)

pub at_old : {A : Type 0} (d new u : A) (more : ℕ) (xs : List A) (i : ℕ) → i < length xs → item d (new ∷ (replicate more u ++ xs)) i ≡ item d xs i
at_old d new u more xs i l =
    let b = behind u more xs in item_before d new (replicate more u ++ xs) i (omega arith) ∙ item_old d u more xs i l

pub at_more : {A : Type 0} (d new u : A) (more : ℕ) (xs : List A) (i : ℕ) → length xs ≤ i → i < length xs + more →
    item d (new ∷ (replicate more u ++ xs)) i ≡ u
at_more d new u more xs i m l =
    let b = behind u more xs in item_before d new (replicate more u ++ xs) i (omega arith) ∙ item_more d u more xs i m l

pub at_own : {A : Type 0} (d new u : A) (more : ℕ) (xs : List A) → item d (new ∷ (replicate more u ++ xs)) (length xs + more) ≡ new
at_own d new u more xs = item_last d new (replicate more u ++ xs) (length xs + more) (behind u more xs)

-- an old item, a missing operand's, the operator's own, or none
cases_item : {A : Type 0} (d new u : A) (more : ℕ) (xs : List A) (P : ℕ → A → Type 0) →
    ((i : ℕ) → i < length xs → P i (item d xs i)) → ((i : ℕ) → length xs ≤ i → i < length xs + more → P i u) →
    P (length xs + more) new → ((i : ℕ) → length xs + more < i → P i d) → (i : ℕ) → P i (item d (new ∷ (replicate more u ++ xs)) i)
cases_item d new u more xs P a b c e i = ⊎_elim
    (λ l. subst (P i) (sym (at_old d new u more xs i l)) (a i l))
    (λ l. ⊎_elim
    (λ m. subst (P i) (sym (at_more d new u more xs i l m)) (b i l m))
    (λ m. ⊎_elim
    (λ w. subst (λ j. P j (item d (new ∷ (replicate more u ++ xs)) j)) w (subst (P (length xs + more)) (sym (at_own d new u more xs)) c))
    (λ w. subst (P i) (sym (item_past d (new ∷ (replicate more u ++ xs)) i (let f = behind u more xs in omega arith))) (e i (omega arith)))
    (cases_eq (length xs + more) i))
    (cases_lt i (length xs + more)))
    (cases_lt i (length xs))

pub own_replicate : (k n q : ℕ) (es : List GraphEntry) → own (replicate k (undef n) ++ es) q ≡ own es q
own_replicate zero n q es = refl
own_replicate (suc k) n q es = own_replicate k n q es

-- ---- which indexes a list has

pub has_back : (j : ℕ) (is : List ℕ) → has j (reverse is) ≡ true → has j is ≡ true
has_back j is h = sym (has_reverse j is) ∙ h

pub has_reversed : (j : ℕ) (is : List ℕ) → has j is ≡ true → has j (reverse is) ≡ true
has_reversed j is h = has_reverse j is ∙ h

has_down : (j b k : ℕ) → has j (down b k) ≡ true → (b ≤ j) × (j < b + k)
has_down j b zero h = absurd (false≢true h)
has_down j b (suc k) h = let ih = has_down j b k in (grind (arith, nat_tests), grind (arith, nat_tests))

down_has : (j b k : ℕ) → b ≤ j → j < b + k → has j (down b k) ≡ true
down_has j b zero m l = absurd (omega arith)
down_has j b (suc k) m l = let ih = down_has j b k m in grind (arith, nat_tests)

has_take : (j k : ℕ) (is : List ℕ) → has j (take k is) ≡ true → has j is ≡ true
has_take j k is h = has_each (λ i. has i is ≡ true) (take k is) (All-take (λ i. has i is ≡ true) k is (has_itself is)) j h

has_filter : (test : ℕ → Bool) (j : ℕ) (is : List ℕ) → has j (filter test is) ≡ true → (has j is ≡ true) × (test j ≡ true)
has_filter test j is h = (
  has_each (λ i. has i is ≡ true) (filter test is) (All-filter test (λ i. has i is ≡ true) is (has_itself is)) j h,
  has_each (λ i. test i ≡ true) (filter test is) (filter_passes test is) j h,
)

pub has_root : (j : ℕ) (ps : List (Option ℕ)) → has j (roots ps) ≡ true → (parent_at ps j ≡ None) × (j < length ps)
has_root j [] h = absurd (false≢true h)
has_root j (None ∷ ps) h = let ih = has_root j ps in (grind (arith, nat_tests), grind (arith, nat_tests))
has_root j (Some p ∷ ps) h = let ih = has_root j ps h in (grind (arith, nat_tests), omega arith)

-- an open tree's entry is an operator
open_operator : (es : List GraphEntry) (i : ℕ) → open_at (tree_at_entry es) i ≡ true → is_operator (entry_at es i).shape ≡ true
open_operator [] i h = h
open_operator (e ∷ es) i h =
    let ih = open_operator es i in
    let own = one e.shape in
    grind (arith, nat_tests)
  where
    one : (o : Option Shape) → is_open (tree_of_entry o e.children e.number (undefs es) (tree_at_entry es)) ≡ true → is_operator o ≡ true
    one None w = w
    one (Some s) w = refl

marked : (p : ℕ) (is : List ℕ) (ps : List (Option ℕ)) (i : ℕ) → i < length ps →
    parent_at (mark p is ps) i ≡ (if has i is then Some p else parent_at ps i)
marked p is [] i l = absurd (omega arith)
marked p is (q ∷ ps) i l = let ih = marked p is ps i in grind (arith, nat_tests, length-mark p is ps)

opens_without_open : (forest : Trees) (k : ℕ) → opens (without_open forest k) ≡ opens forest - k
opens_without_open no_trees k = omega arith
opens_without_open (t ▸ forest) zero = omega arith
opens_without_open (t ▸ forest) (suc k) = grind (arith, opens_without_open forest k, opens_without_open forest (suc k))

pub result_count_is : (block : List Shape) → result_count block ≡ opens (tree_stack block)
result_count_is [] = refl
result_count_is (s ∷ earlier) = grind (arith, result_count_is earlier, opens_without_open (tree_stack earlier) s.operands)

pub stack_height : (block : List Shape) (g : GraphGrowth) → IsGraph block g → length g.stack ≡ result_count block
stack_height block g h = ap length h.stack_is ∙ (stack_length (tree_at_entry g.nodes) (roots g.parents) ∙
    (ap opens h.tree_stack_is ∙ sym (result_count_is block)))

-- all but the trees
pub record Facts (preserving : Bool) (block : List Shape) (nodes : List GraphEntry) (parents : List (Option ℕ)) : Type 0 where
  pub count : length nodes ≡ length block + missing_count block
  pub entries : (i : ℕ) → i < length nodes → IsBlockEntry preserving block (entry_at nodes i)
  pub owns : (n : ℕ) → n < length block → (i : ℕ) × (i < length nodes) × (own nodes n ≡ Some i)
  pub owned : (n i : ℕ) → own nodes n ≡ Some i → (i < length nodes) × (is_operator (entry_at nodes i).shape ≡ true) × ((entry_at nodes i).number ≡ n)
  pub owner : (i : ℕ) → i < length nodes → is_operator (entry_at nodes i).shape ≡ true → own nodes (entry_at nodes i).number ≡ Some i
  pub parent : (p i : ℕ) → has i (entry_at nodes p).children ≡ true → (parent_at parents i ≡ Some p) × (i < p)
  pub child : (p i : ℕ) → parent_at parents i ≡ Some p → (p < length nodes) × (has i (entry_at nodes p).children ≡ true)
  pub taker : (p i : ℕ) → has i (entry_at nodes p).children ≡ true → (entry_at nodes i).shape ≡ None → (entry_at nodes i).number ≡ (entry_at nodes p).number
  pub order : (i j : ℕ) → i ≤ j → j < length nodes → (entry_at nodes i).number ≤ (entry_at nodes j).number
  -- the last entry is the last operator's, and has no parent
  pub last : (n : ℕ) → length block ≡ suc n → (own nodes n ≡ Some (length nodes - 1)) × (parent_at parents (length nodes - 1) ≡ None)

none_some : {P : Type 0} (p : ℕ) → ◌≡◌ {A = Option ℕ} None (Some p) → P
none_some p e = cc

some_same : (p q : ℕ) → ◌≡◌ {A = Option ℕ} (Some p) (Some q) → p ≡ q
some_same p q e = cc

entry_weaker : (preserving : Bool) (s : Shape) (earlier : List Shape) (e : GraphEntry) → IsBlockEntry preserving earlier e →
    IsBlockEntry preserving (s ∷ earlier) e
entry_weaker preserving s earlier e h = (let l = h.0 in omega arith, go e.shape h.1)
  where
    go : (o : Option Shape) → IsOperatorOrMissing preserving earlier o e → IsOperatorOrMissing preserving (s ∷ earlier) o e
    go None u = u
    go (Some t) u = let l = h.0 in (grind (arith, nat_tests), grind (arith, nat_tests))

-- what was taken was an operator's entry without a parent
pub taken_root : (earlier : List Shape) (g : GraphGrowth) → IsGraph earlier g → (k i : ℕ) → has i (take k g.stack) ≡ true →
    (parent_at g.parents i ≡ None) × (i < length g.nodes) × (is_operator (entry_at g.nodes i).shape ≡ true)
taken_root earlier g ig k i h =
    let e = has_filter (open_at (tree_at_entry g.nodes)) i (roots g.parents) (sym (ap (has i) ig.stack_is) ∙ has_take i k g.stack h) in
    let f = has_root i g.parents e.0 in
    (f.0, subst (λ x. i < x) ig.same_length f.1, open_operator g.nodes i e.1)

-- ---- a step: the operator `s` behind the block `earlier`, whose graph is `g`

module _ (s : Shape) (g : GraphGrowth) (n c : ℕ) where
  pub old_entry : (i : ℕ) → i < length g.nodes → entry_at (grown g s n c).nodes i ≡ entry_at g.nodes i
  old_entry i l = at_old (undef 0) (new_entry s g n c) (undef n) (more_of s g) g.nodes i l

  pub more_entry : (i : ℕ) → length g.nodes ≤ i → i < place_of s g → entry_at (grown g s n c).nodes i ≡ undef n
  more_entry i a l = at_more (undef 0) (new_entry s g n c) (undef n) (more_of s g) g.nodes i a l

  pub own_entry : entry_at (grown g s n c).nodes (place_of s g) ≡ new_entry s g n c
  own_entry = at_own (undef 0) (new_entry s g n c) (undef n) (more_of s g) g.nodes

module _ (preserving : Bool) (s : Shape) (earlier : List Shape) (g : GraphGrowth) where
  abbrev after : GraphGrowth
  after = grown g s (length earlier) (color_after preserving earlier)

  abbrev before : List (Option ℕ)
  before = mark (place_of s g) (taken_of s g) g.parents

  abbrev own_new : GraphEntry
  own_new = new_entry s g (length earlier) (color_after preserving earlier)

  abbrev new : ℕ → GraphEntry
  new i = entry_at after.nodes i

  old_is : (i : ℕ) → i < length g.nodes → new i ≡ entry_at g.nodes i
  old_is = old_entry s g (length earlier) (color_after preserving earlier)

  own_is : new (place_of s g) ≡ own_new
  own_is = own_entry s g (length earlier) (color_after preserving earlier)

  -- an old entry, a missing operand's, the operator's own, or none
  each : (P : ℕ → GraphEntry → Type 0) → ((i : ℕ) → i < length g.nodes → P i (entry_at g.nodes i)) →
      ((i : ℕ) → length g.nodes ≤ i → i < place_of s g → P i (undef (length earlier))) → P (place_of s g) own_new →
      ((i : ℕ) → place_of s g < i → P i (undef 0)) → (i : ℕ) → P i (new i)
  each P = cases_item (undef 0) own_new (undef (length earlier)) (more_of s g) g.nodes P

  module _ (ig : IsGraph earlier g) (ih : Facts preserving earlier g.nodes g.parents) where
    length_before : length before ≡ length g.nodes
    length_before = length-mark (place_of s g) (taken_of s g) g.parents ∙ ig.same_length

    length_after : length after.nodes ≡ suc (place_of s g)
    length_after = ap suc (behind (undef (length earlier)) (more_of s g) g.nodes)

    old_parent : (i : ℕ) → i < length g.nodes → parent_at after.parents i ≡ (if has i (taken_of s g) then Some (place_of s g) else parent_at g.parents i)
    old_parent i l =
        let f = length_before in
        at_old None None (Some (place_of s g)) (more_of s g) before i (omega arith) ∙ marked (place_of s g) (taken_of s g) g.parents i (omega arith)

    more_parent : (i : ℕ) → length g.nodes ≤ i → i < place_of s g → parent_at after.parents i ≡ Some (place_of s g)
    more_parent i m l =
        let f = length_before in at_more None None (Some (place_of s g)) (more_of s g) before i (omega arith) (omega arith)

    count_step : length after.nodes ≡ length (s ∷ earlier) + missing_count (s ∷ earlier)
    count_step =
        let e = length_after in let p = ap (λ x. s.operands - x) (stack_height earlier g ig) in omega arith

    entries_step : (i : ℕ) → i < length after.nodes → IsBlockEntry preserving (s ∷ earlier) (new i)
    entries_step i l =
        let e = length_after in
        each
        (λ j x. j < suc (place_of s g) → IsBlockEntry preserving (s ∷ earlier) x)
        (λ j m w. entry_weaker preserving s earlier (entry_at g.nodes j) (ih.entries j m))
        (λ j a b w. (omega arith, (refl, refl)))
        (λ w. (omega arith, (grind (arith, nat_tests), grind (arith, nat_tests))))
        (λ j a w. absurd (omega arith)) i (omega arith)

    owns_step : (n : ℕ) → n < length (s ∷ earlier) → (i : ℕ) × (i < length after.nodes) × (own after.nodes n ≡ Some i)
    owns_step n l =
        let e = length_after in
        let rest = own_replicate (more_of s g) (length earlier) n g.nodes in
        ⊎_elim
        (λ w. (place_of s g, omega arith, grind (arith, nat_tests)))
        (λ w. let o = ih.owns n (omega arith) in let b = o.1 in let f = o.2 in (o.0, omega arith, grind (arith, nat_tests)))
        (cases_eq (length earlier) n)

    owned_step : (n i : ℕ) → own after.nodes n ≡ Some i → (i < length after.nodes) × (is_operator (new i).shape ≡ true) × ((new i).number ≡ n)
    owned_step n i h =
        let e = length_after in
        let rest = own_replicate (more_of s g) (length earlier) n g.nodes in
        ⊎_elim
        (λ w.
        let at : i ≡ place_of s g = grind (arith, nat_tests) in
        let x = ap new at ∙ own_is in
        (omega arith, ap (λ (y : GraphEntry). is_operator y.shape) x, ap (λ (y : GraphEntry). y.number) x ∙ w))
        (λ w.
        let found : own g.nodes n ≡ Some i = grind (arith, nat_tests) in
        let o = ih.owned n i found in
        let b = o.0 in
        let x = old_is i b in
        (omega arith, ap (λ (y : GraphEntry). is_operator y.shape) x ∙ o.1, ap (λ (y : GraphEntry). y.number) x ∙ o.2))
        (cases_eq (length earlier) n)

    owner_step : (i : ℕ) → i < length after.nodes → is_operator (new i).shape ≡ true → own after.nodes (new i).number ≡ Some i
    owner_step i l h =
        let e = length_after in
        each
        (λ j x. j < suc (place_of s g) → is_operator x.shape ≡ true → own after.nodes x.number ≡ Some j)
        (λ j m w o.
        let b = (ih.entries j m).0 in
        let older = ih.owner j m o in
        let rest = own_replicate (more_of s g) (length earlier) (entry_at g.nodes j).number g.nodes in
        grind (arith, nat_tests))
        (λ j a b w o. absurd (false≢true o))
        (λ w o. grind (arith, nat_tests))
        (λ j a w. absurd (omega arith)) i (omega arith) h

    -- a child of the operator is a missing operand or was taken
    own_child : (i : ℕ) → has i own_new.children ≡ true → ((length g.nodes ≤ i) × (i < place_of s g)) ⊎ (has i (taken_of s g) ≡ true)
    own_child i w = ⊎_elim
        (λ y. inl (has_down i (length g.nodes) (more_of s g) y))
        (λ y. inr (has_back i (taken_of s g) y)) (has_either i (down (length g.nodes) (more_of s g)) (reverse (taken_of s g)) w)

    parent_step : (p i : ℕ) → has i (new p).children ≡ true → (parent_at after.parents i ≡ Some p) × (i < p)
    parent_step p i h = each
        (λ q x. has i x.children ≡ true → (parent_at after.parents i ≡ Some q) × (i < q))
        (λ q m w.
        let o = ih.parent q i w in
        let b = o.1 in
        let none : has i (taken_of s g) ≡ false = false_from_ne_true _ (λ y. none_some q (sym (taken_root earlier g ig s.operands i y).0 ∙ o.0)) in
        (old_parent i (omega arith) ∙ (cond-false _ _ _ none ∙ o.0), b))
        (λ q a b w. absurd (false≢true w))
        (λ w. ⊎_elim
        (λ d. (more_parent i d.0 d.1, d.1))
        (λ t. let b = (taken_root earlier g ig s.operands i t).1 in (old_parent i b ∙ cond-true _ _ _ t, omega arith)) (own_child i w))
        (λ q a w. absurd (false≢true w)) p h

    child_step : (p i : ℕ) → parent_at after.parents i ≡ Some p → (p < length after.nodes) × (has i (new p).children ≡ true)
    child_step p i h =
        let e = length_after in
        let f = length_before in
        let missing = down (length g.nodes) (more_of s g) in
        let P : ℕ → Type 0 = λ j. (p < length after.nodes) × (has j (new p).children ≡ true) in
        let at_own_place : (j : ℕ) → has j (missing ++ reverse (taken_of s g)) ≡ true → p ≡ place_of s g → P j = λ j w y.
        (omega arith, ap (λ q. has j (new q).children) y ∙ (ap (λ (z : GraphEntry). has j z.children) own_is ∙ w)) in
        cases_item None None (Some (place_of s g)) (more_of s g) before (λ j q. q ≡ Some p → P j)
        (λ j m w.
        let was = sym (marked (place_of s g) (taken_of s g) g.parents j (omega arith)) ∙ w in
        ⊎_elim
        (λ t. at_own_place j (has_append j missing (reverse (taken_of s g)) ∙ or_right (has j missing) _ (has_reversed j (taken_of s g) t))
        (some_same p (place_of s g) (sym was ∙ cond-true _ _ _ t)))
        (λ t.
        let o = ih.child p j (sym (cond-false _ _ _ t) ∙ was) in
        let b = o.0 in
        (omega arith, ap (λ (z : GraphEntry). has j z.children) (old_is p b) ∙ o.1))
        (cases_Bool (has j (taken_of s g))))
        (λ j a b w. at_own_place j (has_append j missing (reverse (taken_of s g)) ∙
        or_left (has j missing) _ (down_has j (length g.nodes) (more_of s g) (omega arith) (omega arith))) (some_same p (place_of s g) (sym w)))
        (λ w. none_some p w)
        (λ j a w. none_some p w) i h

    taker_step : (p i : ℕ) → has i (new p).children ≡ true → (new i).shape ≡ None → (new i).number ≡ (new p).number
    taker_step p i h o =
        let number : GraphEntry → ℕ = λ z. z.number in
        let same = old_is i in
        each
        (λ q x. has i x.children ≡ true → (new i).number ≡ x.number)
        (λ q m w.
        let b = (ih.parent q i w).1 in
        let l : i < length g.nodes = omega arith in
        ap number (same l) ∙ ih.taker q i w (sym (ap (λ (z : GraphEntry). z.shape) (same l)) ∙ o))
        (λ q a b w. absurd (false≢true w))
        (λ w. ⊎_elim
        (λ d. ap number (more_entry s g (length earlier) (color_after preserving earlier) i d.0 d.1))
        (λ t.
        let r = taken_root earlier g ig s.operands i t in
        absurd (false≢true (sym (ap is_operator (sym (ap (λ (z : GraphEntry). z.shape) (same r.1)) ∙ o)) ∙ r.2))) (own_child i w))
        (λ q a w. absurd (false≢true w)) p h

    order_step : (i j : ℕ) → i ≤ j → j < length after.nodes → (new i).number ≤ (new j).number
    order_step i j h l =
        let e = length_after in
        let low : (new i).number ≤ length earlier = each (λ q x. q < suc (place_of s g) → x.number ≤ length earlier)
        (λ q m w. let b = (ih.entries q m).0 in omega arith) (λ q a b w. omega arith) (λ w. omega arith)
        (λ q a w. absurd (omega arith)) i (omega arith) in
        each
        (λ q x. i ≤ q → q < suc (place_of s g) → (new i).number ≤ x.number)
        (λ q m w y. subst (λ (z : GraphEntry). z.number ≤ (entry_at g.nodes q).number) (sym (old_is i (omega arith))) (ih.order i q w m))
        (λ q a b w y. low) (λ w y. low) (λ q a w y. absurd (omega arith)) j h (omega arith)

    last_step : (n : ℕ) → length (s ∷ earlier) ≡ suc n →
        (own after.nodes n ≡ Some (length after.nodes - 1)) × (parent_at after.parents (length after.nodes - 1) ≡ None)
    last_step n m =
        let e = length_after in
        let f = length_before in (
          cond-true _ _ _ (eq-eqb (length earlier) n (omega arith)) ∙ ap Some (omega arith),
          ap (parent_at after.parents) (omega arith) ∙ at_own None None (Some (place_of s g)) (more_of s g) before,
        )

    facts_step : Facts preserving (s ∷ earlier) after.nodes after.parents
    facts_step = record {
      count = count_step;
      entries = entries_step;
      owns = owns_step;
      owned = owned_step;
      owner = owner_step;
      parent = parent_step;
      child = child_step;
      taker = taker_step;
      order = order_step;
      last = last_step;
    }

pub facts : (preserving : Bool) (block : List Shape) → Facts preserving block (graph preserving block).nodes (graph preserving block).parents
facts preserving [] = record {
  count = refl;
  entries = λ i l. absurd (omega arith);
  owns = λ n l. absurd (omega arith);
  owned = λ n i h. none_some i h;
  owner = λ i l. absurd (omega arith);
  parent = λ p i h. absurd (false≢true h);
  child = λ p i h. none_some p h;
  taker = λ p i h. absurd (false≢true h);
  order = λ i j h l. absurd (omega arith);
  last = λ n e. absurd (omega arith);
}
facts preserving (s ∷ earlier) =
    facts_step preserving s earlier (graph preserving earlier) (is_graph preserving earlier) (facts preserving earlier)

pub block_graph : (preserving : Bool) (block : List Shape) → IsBlockGraph preserving block (graph preserving block).nodes (graph preserving block).parents
block_graph preserving block =
    let ig = is_graph preserving block in
    let f = facts preserving block in
    record {
      same_length = ig.same_length;
      trees = graph_forest block (graph preserving block) ig;
      entries = f.entries;
      parent = f.parent;
      child = f.child;
      once = children_once preserving block;
      taker = f.taker;
      order = f.order;
    }
