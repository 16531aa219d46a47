-- The graph that is built from a block by a symbolic stack, and that it stands for the forest.
use Rattle.std.proofs.Common.{◌≡◌, ℕ, zero, suc, ◌+◌, ◌-◌, ◌<◌, ◌≤◌, Bool, true, false, cond, List, [], ◌∷◌, ◌++◌, length, take, drop, Option, None, Some}
use Rattle.std.proofs.Common.{refl, sym, ap, ap₂, ◌∙◌, subst, arith, inl, inr}
use Rattle.std.specs.Prelude.{⊤, reverse, replicate, if◌then◌else◌}
use Rattle.std.specs.List.{All, filter}
use Rattle.std.proofs.lemmas.Bool.Decides.{nat_tests}
use Rattle.std.proofs.lemmas.Bool.{cases_Bool, cond-true, cond_both, eq-eqb, false_from_ne_true}
use Rattle.std.proofs.lemmas.List.{length-append, length-replicate, reverse-append}
use Rattle.std.proofs.lemmas.List.Elements.{All-nil, All-cons, All-head, All-tail, All-weaker}
use Rattle.peephole_graphs.specs.Shape.{Shape}
use Rattle.peephole_graphs.specs.Tree.{Tree, entry, node, no_trees, ◌▸◌, join}
use Rattle.peephole_graphs.specs.Forest.{forest, has}
use Rattle.peephole_graphs.specs.Color.{color_after}
use Rattle.peephole_graphs.specs.Graph.{undef, GraphEntry, trees_at, undefs, tree_at_entry, roots}
use Rattle.peephole_graphs.specs.Step.{down, mark, GraphGrowth, grown}
use Rattle.peephole_graphs.proofs.forest.Depth.{top}
use Rattle.peephole_graphs.proofs.forest.TreeStack.{is_open, opens, forest_value, without_open, last_open, tree_stack, missing, operator}
use Rattle.peephole_graphs.proofs.forest.ForestLemmas.{rev, forest_is}
use Rattle.peephole_graphs.proofs.forest.EntryOperands.{entries, top_last_open}
use Rattle.peephole_graphs.proofs.Lists.{has_each}

abbrev pub graph : Bool → List Shape → GraphGrowth
graph preserving [] = record { nodes = []; parents = []; stack = [] }
graph preserving (s ∷ earlier) = grown (graph preserving earlier) s (length earlier) (color_after preserving earlier)

pub behind : {A : Type 0} (u : A) (more : ℕ) (xs : List A) → length (replicate more u ++ xs) ≡ length xs + more
behind u more xs = omega (arith, length-append (replicate more u) xs, length-replicate more u)

-- on indexes, what `without_open` is on trees
abbrev pub without_open_ids : (ℕ → Bool) → List ℕ → ℕ → List ℕ
without_open_ids test [] k = []
without_open_ids test (i ∷ is) zero = i ∷ is
without_open_ids test (i ∷ is) (suc k) = cond (test i) (without_open_ids test is k) (i ∷ without_open_ids test is (suc k))

abbrev pub open_at : (ℕ → Tree) → ℕ → Bool
open_at at i = is_open (at i)

pub pick_append : (at : ℕ → Tree) (is js : List ℕ) → trees_at at (is ++ js) ≡ join (trees_at at is) (trees_at at js)
pick_append at [] js = refl
pick_append at (i ∷ is) js = ap (λ x. at i ▸ x) (pick_append at is js)

pick_reverse : (at : ℕ → Tree) (is : List ℕ) → trees_at at (reverse is) ≡ rev (trees_at at is)
pick_reverse at [] = refl
pick_reverse at (i ∷ is) = ap (trees_at at) (reverse-append (i ∷ []) is) ∙ (pick_append at (reverse is) (i ∷ []) ∙
    ap (λ x. join x (at i ▸ no_trees)) (pick_reverse at is))

-- all below `n`, falling
abbrev pub FallingIds : List ℕ → ℕ → Type 0
FallingIds [] n = ⊤
FallingIds (i ∷ is) n = (i < n) × FallingIds is i

pub FallingIds-weaker : (is : List ℕ) (m n : ℕ) → m ≤ n → FallingIds is m → FallingIds is n
FallingIds-weaker [] m n l h = tt
FallingIds-weaker (i ∷ is) m n l h = (omega arith, h.1)

-- the trees of indexes below `n` are the same where those below `n` are
pick_same : (f g : ℕ → Tree) (is : List ℕ) (n : ℕ) → All (λ i. i < n) is → ((i : ℕ) → i < n → f i ≡ g i) → trees_at f is ≡ trees_at g is
pick_same f g [] n h e = refl
pick_same f g (i ∷ is) n h e = ap₂ (λ x y. x ▸ y) (e i (All-head (λ i. i < n) i is h)) (pick_same f g is n (All-tail (λ i. i < n) i is h) e)

pub FallingIds-roots : (ps : List (Option ℕ)) → FallingIds (roots ps) (length ps)
FallingIds-roots [] = tt
FallingIds-roots (None ∷ ps) = (omega arith, FallingIds-roots ps)
FallingIds-roots (Some p ∷ ps) = FallingIds-weaker (roots ps) (length ps) (suc (length ps)) (omega arith) (FallingIds-roots ps)

pub falls_below : (is : List ℕ) (n : ℕ) → FallingIds is n → All (λ i. i < n) is
falls_below [] n h = All-nil (λ i. i < n)
falls_below (i ∷ is) n h = All-cons (λ i. i < n) i is h.0 (All-weaker (λ j. j < i) (λ j. j < n) (λ j l. let m = h.0 in omega arith) is (falls_below is i h.1))

-- the tests that pick the stack out of the roots
pub stack_trees : (at : ℕ → Tree) (is : List ℕ) (k : ℕ) → trees_at at (take k (filter (open_at at) is)) ≡ last_open (trees_at at is) k
stack_trees at [] zero = refl
stack_trees at [] (suc k) = refl
stack_trees at (i ∷ is) zero = refl
stack_trees at (i ∷ is) (suc k) = grind (arith, stack_trees at is k, stack_trees at is (suc k))

pub stack_length : (at : ℕ → Tree) (is : List ℕ) → length (filter (open_at at) is) ≡ opens (trees_at at is)
stack_length at [] = refl
stack_length at (i ∷ is) = grind (arith, stack_length at is)

without_open_trees : (at : ℕ → Tree) (is : List ℕ) (k : ℕ) → trees_at at (without_open_ids (open_at at) is k) ≡ without_open (trees_at at is) k
without_open_trees at [] k = refl
without_open_trees at (i ∷ is) zero = refl
without_open_trees at (i ∷ is) (suc k) = grind (arith, without_open_trees at is k, without_open_trees at is (suc k))

without_open_stack : (test : ℕ → Bool) (is : List ℕ) (k : ℕ) → filter test (without_open_ids test is k) ≡ drop k (filter test is)
without_open_stack test [] zero = refl
without_open_stack test [] (suc k) = refl
without_open_stack test (i ∷ is) zero = refl
without_open_stack test (i ∷ is) (suc k) = grind (arith, without_open_stack test is k, without_open_stack test is (suc k))

-- the roots after the stack's last ones got a parent
pub length-mark : (p : ℕ) (is : List ℕ) (ps : List (Option ℕ)) → length (mark p is ps) ≡ length ps
length-mark p is [] = refl
length-mark p is (q ∷ ps) = ap suc (length-mark p is ps)

roots_mark : (p : ℕ) (is : List ℕ) (ps : List (Option ℕ)) → roots (mark p is ps) ≡ filter (λ j. if has j is then false else true) (roots ps)
roots_mark p is [] = refl
roots_mark p is (None ∷ ps) = grind (arith, length-mark p is ps, roots_mark p is ps)
roots_mark p is (Some q ∷ ps) = grind (arith, roots_mark p is ps)

filter_all : (is : List ℕ) → filter (λ j. true) is ≡ is
filter_all [] = refl
filter_all (i ∷ is) = ap (λ x. i ∷ x) (filter_all is)

filter_same : (p q : ℕ → Bool) (is : List ℕ) (n : ℕ) → All (λ i. i < n) is → ((j : ℕ) → j < n → p j ≡ q j) → filter p is ≡ filter q is
filter_same p q [] n h e = refl
filter_same p q (i ∷ is) n h e = ap₂ (λ b x. cond b (i ∷ x) x) (e i (All-head (λ i. i < n) i is h)) (filter_same p q is n (All-tail (λ i. i < n) i is h) e)

pub FallingIds-without_open : (test : ℕ → Bool) (is : List ℕ) (n k : ℕ) → FallingIds is n → FallingIds (without_open_ids test is k) n
FallingIds-without_open test [] n k f = tt
FallingIds-without_open test (i ∷ is) n zero f = f
FallingIds-without_open test (i ∷ is) n (suc k) f = cond_both (test i) (without_open_ids test is k) (i ∷ without_open_ids test is (suc k))
    (λ x. FallingIds x n)
    (λ e. FallingIds-weaker (without_open_ids test is k) i n (let l = f.0 in omega arith) (FallingIds-without_open test is i k f.1))
    (λ e. (f.0, FallingIds-without_open test is i (suc k) f.1))

pub FallingIds-filter : (test : ℕ → Bool) (is : List ℕ) (n : ℕ) → FallingIds is n → FallingIds (filter test is) n
FallingIds-filter test [] n f = tt
FallingIds-filter test (i ∷ is) n f = cond_both (test i) (i ∷ filter test is) (filter test is) (λ x. FallingIds x n)
    (λ e. (f.0, FallingIds-filter test is i f.1))
    (λ e. FallingIds-weaker (filter test is) i n (let l = f.0 in omega arith) (FallingIds-filter test is i f.1))

pub FallingIds-take : (k : ℕ) (is : List ℕ) (n : ℕ) → FallingIds is n → FallingIds (take k is) n
FallingIds-take zero is n f = tt
FallingIds-take (suc k) [] n f = tt
FallingIds-take (suc k) (i ∷ is) n f = (f.0, FallingIds-take k is i f.1)

roots_without_open : (test : ℕ → Bool) (is : List ℕ) (n k : ℕ) → FallingIds is n →
    filter (λ j. if has j (take k (filter test is)) then false else true) is ≡ without_open_ids test is k
roots_without_open test [] n k f = refl
roots_without_open test (i ∷ is) n zero f = filter_all (i ∷ is)
roots_without_open test (i ∷ is) n (suc k) f =
    let one = roots_without_open test is i k f.1 in
    let all = roots_without_open test is i (suc k) f.1 in
    elim (cases_Bool (test i)) [
      | inl e ↦
          let q = λ (j : ℕ). if has j (i ∷ take k (filter test is)) then false else true in
          let older = filter_same q (λ j. if has j (take k (filter test is)) then false else true) is i (falls_below is i f.1)
          (λ j l. grind (arith, nat_tests)) in
          grind (arith, nat_tests)
      | inr e ↦
          let below = falls_below (take (suc k) (filter test is)) i (FallingIds-take (suc k) (filter test is) i (FallingIds-filter test is i f.1)) in
          let none = false_from_ne_true (has i (take (suc k) (filter test is))) (λ w. let l = has_each (λ j. j < i) _ below i w in omega arith) in
          grind arith
    ]

roots_replicate : (k p : ℕ) (ps : List (Option ℕ)) → roots (replicate k (Some p) ++ ps) ≡ roots ps
roots_replicate zero p ps = refl
roots_replicate (suc k) p ps = roots_replicate k p ps

undefs_replicate : (k n : ℕ) (es : List GraphEntry) → undefs (replicate k (undef n) ++ es) ≡ k + undefs es
undefs_replicate zero n es = omega arith
undefs_replicate (suc k) n es = let e = undefs_replicate k n es in omega arith

-- new entries leave the trees of the old ones
tree_before : (es old : List GraphEntry) (i : ℕ) → i < length old → tree_at_entry (es ++ old) i ≡ tree_at_entry old i
tree_before [] old i l = refl
tree_before (e ∷ es) old i l = let ih = tree_before es old i l in grind (arith, nat_tests, length-append es old)

-- the missing operands' entries
tree_undef : (k n d : ℕ) (es : List GraphEntry) → d < k → tree_at_entry (replicate k (undef n) ++ es) (length es + d) ≡ entry (undefs es + d)
tree_undef zero n d es l = absurd (omega arith)
tree_undef (suc k) n d es l =
    let count = behind (undef n) k es in
    let u = undefs_replicate k n es in
    let ih = tree_undef k n d es in
    grind (arith, nat_tests)

pick_down : (at : ℕ → Tree) (base m k : ℕ) → ((d : ℕ) → d < k → at (base + d) ≡ entry (m + d)) → trees_at at (down base k) ≡ entries m k
pick_down at base m zero h = refl
pick_down at base m (suc k) h = ap₂ (λ x y. x ▸ y) (h k (omega arith)) (pick_down at base m k (λ d l. h d (omega arith)))

pub record IsGraph (block : List Shape) (g : GraphGrowth) : Type 0 where
  pub same_length : length g.parents ≡ length g.nodes
  pub undefs_are : undefs g.nodes ≡ missing block
  pub tree_stack_is : trees_at (tree_at_entry g.nodes) (roots g.parents) ≡ tree_stack block
  pub stack_is : g.stack ≡ filter (open_at (tree_at_entry g.nodes)) (roots g.parents)

-- ---- what a step takes and adds

abbrev pub more_of : Shape → GraphGrowth → ℕ
more_of s g = s.operands - length g.stack

abbrev pub place_of : Shape → GraphGrowth → ℕ
place_of s g = length g.nodes + more_of s g

abbrev pub taken_of : Shape → GraphGrowth → List ℕ
taken_of s g = take s.operands g.stack

abbrev pub new_entry : Shape → GraphGrowth → ℕ → ℕ → GraphEntry
new_entry s g n c = record { shape = Some s; children = down (length g.nodes) (more_of s g) ++ reverse (taken_of s g); number = n; color = c }

module _ (block : List Shape) (g : GraphGrowth) (ig : IsGraph block g) where
  pub roots_fall : FallingIds (roots g.parents) (length g.nodes)
  roots_fall = subst (FallingIds (roots g.parents)) ig.same_length (FallingIds-roots g.parents)

  pub taken_falls : (k : ℕ) → FallingIds (take k g.stack) (length g.nodes)
  taken_falls k = FallingIds-take k g.stack (length g.nodes) (subst (λ is. FallingIds is (length g.nodes)) (sym ig.stack_is)
      (FallingIds-filter (open_at (tree_at_entry g.nodes)) (roots g.parents) (length g.nodes) roots_fall))

  pub taken_below : (k : ℕ) → All (λ i. i < length g.nodes) (take k g.stack)
  taken_below k = falls_below (take k g.stack) (length g.nodes) (taken_falls k)

  module _ (s : Shape) where
    parents_before : length (replicate (more_of s g) (Some (place_of s g)) ++ mark (place_of s g) (taken_of s g) g.parents) ≡ place_of s g
    parents_before =
        let before = mark (place_of s g) (taken_of s g) g.parents in
        omega (arith, behind (Some (place_of s g)) (more_of s g) before, length-mark (place_of s g) (taken_of s g) g.parents)

    -- the roots behind a step
    pub new_roots : (n c : ℕ) → roots (grown g s n c).parents ≡
        place_of s g ∷ without_open_ids (open_at (tree_at_entry g.nodes)) (roots g.parents) s.operands
    new_roots n c =
        let own = place_of s g in
        let rs = roots g.parents in
        ap₂ (λ x y. x ∷ y) parents_before (roots_replicate (more_of s g) own (mark own (taken_of s g) g.parents) ∙ (roots_mark own (taken_of s g) g.parents
        ∙ (ap (λ x. filter (λ j. if has j (take s.operands x) then false else true) rs) ig.stack_is
        ∙ roots_without_open (open_at (tree_at_entry g.nodes)) rs (length g.nodes) s.operands roots_fall)))

pub is_graph_step : (s : Shape) (earlier : List Shape) (g : GraphGrowth) (c : ℕ) → IsGraph earlier g → IsGraph (s ∷ earlier) (grown g s (length earlier) c)
is_graph_step s earlier g c ih =
    let n = length earlier in
    let k = s.operands in
    let at = tree_at_entry g.nodes in
    let base = length g.nodes in
    let more = more_of s g in
    let own = place_of s g in
    let taken = taken_of s g in
    let others = without_open_ids (open_at at) (roots g.parents) k in
    let fresh = replicate more (undef n) ++ g.nodes in
    let at1 = tree_at_entry fresh in
    let at2 = tree_at_entry (new_entry s g n c ∷ fresh) in
    let more_is : more ≡ k - opens (tree_stack earlier) =
    ap (λ x. k - x) (ap length ih.stack_is ∙ (stack_length at (roots g.parents) ∙ ap opens ih.tree_stack_is)) in
    let fresh_length = behind (undef n) more g.nodes in
    let old : (i : ℕ) → i < base → at1 i ≡ at i = λ i l. tree_before (replicate more (undef n)) g.nodes i l in
    let later : (i : ℕ) → i < base → at2 i ≡ at i = λ i l. tree_before (new_entry s g n c ∷ replicate more (undef n)) g.nodes i l in
    let missing_ones = pick_down at1 base (missing earlier) more (λ d l. tree_undef more n d g.nodes l ∙ ap (λ x. entry (x + d)) ih.undefs_are) in
    let operand_trees = pick_reverse at1 taken ∙ ap rev (pick_same at1 at taken base (taken_below earlier g ih k) old ∙
    (ap (λ x. trees_at at (take k x)) ih.stack_is ∙ (stack_trees at (roots g.parents) k ∙ ap (λ x. last_open x k) ih.tree_stack_is))) in
    let kids : trees_at at1 (down base more ++ reverse taken) ≡ top (forest_value (tree_stack earlier) (missing earlier)) k =
    pick_append at1 (down base more) (reverse taken) ∙ (ap₂ join (missing_ones ∙ ap (entries (missing earlier)) more_is) operand_trees ∙
    sym (top_last_open (tree_stack earlier) (missing earlier) k)) in
    let own_tree : at2 own ≡ operator s earlier = cond-true _ _ _ (eq-eqb (length fresh) own fresh_length) ∙ ap (node n s) kids in
    let roots_are = new_roots earlier g ih s n c in
    let inside = falls_below others base (FallingIds-without_open (open_at at) (roots g.parents) base k (roots_fall earlier g ih)) in
    let stack_rest : filter (open_at at2) others ≡ drop k g.stack =
    filter_same (open_at at2) (open_at at) others base inside (λ j l. ap is_open (later j l)) ∙
    (without_open_stack (open_at at) (roots g.parents) k ∙ ap (drop k) (sym ih.stack_is)) in
    record {
      same_length = ap suc (parents_before earlier g ih s ∙ sym fresh_length);
      undefs_are = let u = undefs_replicate more n g.nodes in let m = ih.undefs_are in omega arith;
      tree_stack_is = ap (trees_at at2) roots_are ∙ ap₂ (λ x y. x ▸ y) own_tree (pick_same at2 at others base inside later ∙
          (without_open_trees at (roots g.parents) k ∙ ap (λ x. without_open x k) ih.tree_stack_is));
      stack_is = sym (ap (filter (open_at at2)) roots_are ∙ ap₂ (λ b x. cond b (own ∷ x) x) (ap is_open own_tree) stack_rest);
    }

pub is_graph : (preserving : Bool) (block : List Shape) → IsGraph block (graph preserving block)
is_graph preserving [] = record { same_length = refl; undefs_are = refl; tree_stack_is = refl; stack_is = refl }
is_graph preserving (s ∷ earlier) = is_graph_step s earlier (graph preserving earlier) (color_after preserving earlier) (is_graph preserving earlier)

-- The trees of the entries without a parent, ascending, are the forest.
pub graph_forest : (block : List Shape) (g : GraphGrowth) → IsGraph block g → trees_at (tree_at_entry g.nodes) (reverse (roots g.parents)) ≡ forest block
graph_forest block g h = pick_reverse (tree_at_entry g.nodes) (roots g.parents) ∙ (ap rev h.tree_stack_is ∙ sym (forest_is block))
