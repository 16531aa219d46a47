-- The forest of a block is what the growing forest says.
use Rattle.std.proofs.Common.{◌≡◌, ℕ, zero, suc, ◌<◌, ◌≤◌, Bool, true, false, cond, List, [], ◌∷◌, length, refl, sym, ap, ap₂, ◌∙◌, arith, inl, inr}
use Rattle.std.specs.Prelude.{⊤, ◌||◌, ◌==◌}
use Rattle.std.proofs.Math.Bool.{or_comm}
use Rattle.std.proofs.lemmas.Bool.{cases_Bool, cond-true, cond-false, eq-eqb, ne_eqb, or_left, eqb-true, false_from_ne_true, false≢true}
use Rattle.peephole_graphs.specs.Shape.{Shape}
use Rattle.peephole_graphs.specs.Tree.{Tree, entry, node, Trees, no_trees, ◌▸◌, join}
use Rattle.peephole_graphs.specs.Forest.{operator_tree, trees, is_root, is_operand, trees_without, forest}
use Rattle.peephole_graphs.proofs.forest.Depth.{top, value, tree_of_is}
use Rattle.peephole_graphs.proofs.forest.DepthLemmas.{top_same, top_first}
use Rattle.peephole_graphs.proofs.forest.TreeStack.{is_open, forest_value, without_open, last_open, tree_stack, missing, forest_value_top}
use Rattle.peephole_graphs.proofs.forest.TreeStack.{forest_value_under, forest_value_done}
use Rattle.peephole_graphs.proofs.forest.TreeStack.{without_open_top, without_open_behind, last_open_top, last_open_behind, value_tree_stack, operator}

abbrev pub rev : Trees → Trees
rev no_trees = no_trees
rev (t ▸ ts) = join (rev ts) (t ▸ no_trees)

pub join_nil : (ts : Trees) → join ts no_trees ≡ ts
join_nil no_trees = refl
join_nil (t ▸ ts) = ap (λ x. t ▸ x) (join_nil ts)

or_nil : (a : Bool) → (a || false) ≡ a
or_nil a = grind arith

is_root_join : (j : ℕ) (ts us : Trees) → is_root j (join ts us) ≡ (is_root j ts || is_root j us)
is_root_join j no_trees us = refl
is_root_join j (entry m ▸ ts) us = is_root_join j ts us
is_root_join j (node i s kids ▸ ts) us = grind (arith, is_root_join j ts us)

is_operand_join : (j : ℕ) (ts us : Trees) → is_operand j (join ts us) ≡ (is_operand j ts || is_operand j us)
is_operand_join j no_trees us = refl
is_operand_join j (entry m ▸ ts) us = is_operand_join j ts us
is_operand_join j (node i s kids ▸ ts) us = grind (arith, is_operand_join j ts us)

without_join : (test : ℕ → Bool) (ts us : Trees) → trees_without test (join ts us) ≡ join (trees_without test ts) (trees_without test us)
without_join test no_trees us = refl
without_join test (entry m ▸ ts) us = ap (λ x. entry m ▸ x) (without_join test ts us)
without_join test (node i s kids ▸ ts) us = grind (arith, without_join test ts us)

without_rev : (test : ℕ → Bool) (ts : Trees) → trees_without test (rev ts) ≡ rev (trees_without test ts)
without_rev test no_trees = refl
without_rev test (entry m ▸ ts) = without_join test (rev ts) (entry m ▸ no_trees) ∙ ap (λ x. join x (entry m ▸ no_trees)) (without_rev test ts)
without_rev test (node i s kids ▸ ts) =
    grind (arith, without_join test (rev ts) (node i s kids ▸ no_trees), without_rev test ts, join_nil (rev (trees_without test ts)))

-- two tests, one after the other
without_both : (p q : ℕ → Bool) (ts : Trees) → trees_without (λ j. p j || q j) ts ≡ trees_without q (trees_without p ts)
without_both p q no_trees = refl
without_both p q (entry m ▸ ts) = ap (λ x. entry m ▸ x) (without_both p q ts)
without_both p q (node i s kids ▸ ts) = grind (arith, without_both p q ts)

without_same : (p q : ℕ → Bool) → ((j : ℕ) → p j ≡ q j) → (ts : Trees) → trees_without p ts ≡ trees_without q ts
without_same p q h ts = ap (λ (test : ℕ → Bool). trees_without test ts) (λ i j. h j i)

-- all are operators' trees, the numbers fall, from below `n` on
abbrev pub Falling : Trees → ℕ → Type 0
Falling no_trees n = ⊤
Falling (entry m ▸ ts) n = ⊥
Falling (node i s kids ▸ ts) n = (i < n) × Falling ts i

pub Falling-weaker : (ts : Trees) (m n : ℕ) → m ≤ n → Falling ts m → Falling ts n
Falling-weaker no_trees m n h f = tt
Falling-weaker (entry k ▸ ts) m n h f = f
Falling-weaker (node i s kids ▸ ts) m n h f = (omega arith, f.1)

pub Falling-without_open : (ts : Trees) (n k : ℕ) → Falling ts n → Falling (without_open ts k) n
Falling-without_open no_trees n k f = tt
Falling-without_open (entry m ▸ ts) n k f = absurd f
Falling-without_open (node i s kids ▸ ts) n zero f = f
Falling-without_open (node i s kids ▸ ts) n (suc k) f =
    elim s.has_result as (λ b. Falling (cond b (without_open ts k) (node i s kids ▸ without_open ts (suc k))) n) [
      | true ↦ Falling-weaker (without_open ts k) i n (let l = f.0 in omega arith) (Falling-without_open ts i k f.1)
      | false ↦ (f.0, Falling-without_open ts i (suc k) f.1)
    ]

pub Falling-tree_stack : (block : List Shape) → Falling (tree_stack block) (length block)
Falling-tree_stack [] = tt
Falling-tree_stack (s ∷ earlier) = (omega arith, Falling-without_open (tree_stack earlier) (length earlier) s.operands (Falling-tree_stack earlier))

pub root_below : (ts : Trees) (n k j : ℕ) → Falling ts n → is_root j (last_open ts k) ≡ true → j < n
root_below no_trees n k j f h = absurd (false≢true h)
root_below (entry m ▸ ts) n k j f h = absurd f
root_below (node i s kids ▸ ts) n zero j f h = absurd (false≢true h)
root_below (node i s kids ▸ ts) n (suc k) j f h =
    let own = f.0 in grind (arith, root_below ts i k j f.1, root_below ts i (suc k) j f.1, eqb-true i j)

without_below : (p q : ℕ → Bool) (ts : Trees) (n : ℕ) → Falling ts n → ((j : ℕ) → j < n → p j ≡ q j) → trees_without p ts ≡ trees_without q ts
without_below p q no_trees n f h = refl
without_below p q (entry m ▸ ts) n f h = absurd f
without_below p q (node i s kids ▸ ts) n f h = ap₂ (λ b x. cond b x (node i s kids ▸ x)) (h i f.0) (without_below p q ts i f.1 (λ j l. h j (omega arith)))

without_none : (ts : Trees) → trees_without (λ j. false) ts ≡ ts
without_none no_trees = refl
without_none (entry m ▸ ts) = ap (λ x. entry m ▸ x) (without_none ts)
without_none (node i s kids ▸ ts) = ap (λ x. node i s kids ▸ x) (without_none ts)

without_last_open : (ts : Trees) (n k : ℕ) → Falling ts n → trees_without (λ j. is_root j (last_open ts k)) ts ≡ without_open ts k
without_last_open no_trees n k f = refl
without_last_open (entry m ▸ ts) n k f = absurd f
without_last_open (node i s kids ▸ ts) n zero f = without_none (node i s kids ▸ ts)
without_last_open (node i s kids ▸ ts) n (suc k) f =
    let t = node i s kids in
    let now = λ (j : ℕ). is_root j (last_open (t ▸ ts) (suc k)) in
    elim (cases_Bool s.has_result) [
      | inl e ↦
          let is : (j : ℕ) → now j ≡ ((i == j) || is_root j (last_open ts k)) = λ j. ap (is_root j) (last_open_top t ts k e) in
          let same : (j : ℕ) → j < i → now j ≡ is_root j (last_open ts k) =
          λ j l. is j ∙ ap (λ b. b || is_root j (last_open ts k)) (ne_eqb i j (λ w. omega arith)) in
          cond-true _ _ _ (is i ∙ or_left _ _ (eq-eqb i i refl))
          ∙ (without_below now (λ j. is_root j (last_open ts k)) ts i f.1 same ∙ (without_last_open ts i k f.1 ∙ sym (without_open_top t ts k e)))
      | inr e ↦
          let is : (j : ℕ) → now j ≡ is_root j (last_open ts (suc k)) = λ j. ap (is_root j) (last_open_behind t ts (suc k) e) in
          let no = is i ∙ false_from_ne_true _ (λ w. let l = root_below ts i (suc k) i f.1 w in omega arith) in
          cond-false _ _ _ no ∙ (ap (λ x. t ▸ x) (without_same now (λ j. is_root j (last_open ts (suc k))) is ts ∙ without_last_open ts i (suc k) f.1)
          ∙ sym (without_open_behind t ts (suc k) e))
    ]

-- the operands are the last open trees, but for entry operands
is_root_entries : (j m k : ℕ) → is_root j (top (forest_value no_trees m) k) ≡ false
is_root_entries j m zero = refl
is_root_entries j m (suc k) = is_root_entries j m k

is_root_under : (j : ℕ) (t : Tree) (ts : Trees) (m k : ℕ) → is_open t ≡ false →
    is_root j (top (forest_value ts m) k) ≡ is_root j (last_open ts k) →
    is_root j (top (forest_value (t ▸ ts) m) k) ≡ is_root j (last_open (t ▸ ts) k)
is_root_under j t ts m k e h =
    ap (is_root j) (top_same (forest_value (t ▸ ts) m) (forest_value ts m) (λ d. forest_value_done t ts m d e) k) ∙
    (h ∙ ap (is_root j) (sym (last_open_behind t ts k e)))

is_root_top : (j : ℕ) (ts : Trees) (m k : ℕ) → is_root j (top (forest_value ts m) k) ≡ is_root j (last_open ts k)
is_root_top j no_trees m k = is_root_entries j m k
is_root_top j (entry e ▸ ts) m k = is_root_under j (entry e) ts m k refl (is_root_top j ts m k)
is_root_top j (node i s kids ▸ ts) m zero = refl
is_root_top j (node i s kids ▸ ts) m (suc k) =
    let t = node i s kids in
    let f = forest_value (t ▸ ts) m in
    let g = forest_value ts m in
    elim (cases_Bool s.has_result) [
      | inl e ↦
          ap (is_root j) (top_first f k)
          ∙ (ap₂ (λ x y. is_root j (join x (y ▸ no_trees))) (top_same (λ d. f (suc d)) g (λ d. forest_value_under t ts m d e) k) (forest_value_top t ts m e)
          ∙ (is_root_join j (top g k) (t ▸ no_trees) ∙ (ap₂ (λ x y. x || y) (is_root_top j ts m k) (or_nil (i == j))
          ∙ (or_comm (is_root j (last_open ts k)) (i == j) ∙ ap (is_root j) (sym (last_open_top t ts k e))))))
      | inr e ↦ is_root_under j t ts m (suc k) e (is_root_top j ts m (suc k))
    ]

pub tree_in_stack : (s : Shape) (earlier : List Shape) → operator_tree s earlier ≡ operator s earlier
tree_in_stack s earlier =
    tree_of_is s earlier ∙ ap (node (length earlier) s)
    (top_same (value earlier) (forest_value (tree_stack earlier) (missing earlier)) (value_tree_stack earlier) s.operands)

-- which operators an operator takes
taken_by : (s : Shape) (earlier : List Shape) (j : ℕ) →
    is_operand j (operator_tree s earlier ▸ no_trees) ≡ is_root j (last_open (tree_stack earlier) s.operands)
taken_by s earlier j = ap (λ t. is_operand j (t ▸ no_trees)) (tree_in_stack s earlier) ∙
    (or_nil _ ∙ is_root_top j (tree_stack earlier) (missing earlier) s.operands)

-- no operator is taken before it stands
pub not_taken : (block : List Shape) (j : ℕ) → length block ≤ suc j → is_operand j (trees block) ≡ false
not_taken [] j h = refl
not_taken (s ∷ earlier) j h =
    is_operand_join j (trees earlier) (operator_tree s earlier ▸ no_trees) ∙
    (ap₂ (λ x y. x || y) (not_taken earlier j (omega arith)) (taken_by s earlier j ∙ false_from_ne_true _ (λ w. let l =
    root_below (tree_stack earlier) (length earlier) s.operands j (Falling-tree_stack earlier) w in omega arith)))

pub forest_is : (block : List Shape) → forest block ≡ rev (tree_stack block)
forest_is [] = refl
forest_is (s ∷ earlier) =
    let ts = trees earlier in
    let own = operator_tree s earlier ▸ no_trees in
    let here = λ (j : ℕ). is_operand j (trees (s ∷ earlier)) in
    let before = λ (j : ℕ). is_operand j ts in
    let now = λ (j : ℕ). is_root j (last_open (tree_stack earlier) s.operands) in
    let split : (j : ℕ) → here j ≡ (before j || now j) = λ j. is_operand_join j ts own ∙ ap (λ x. before j || x) (taken_by s earlier j) in
    let left = without_last_open (tree_stack earlier) (length earlier) s.operands (Falling-tree_stack earlier) in
    let old = without_same here (λ j. before j || now j) split ts ∙ (without_both before now ts
    ∙ (ap (trees_without now) (forest_is earlier) ∙ (without_rev now (tree_stack earlier) ∙ ap rev left))) in
    let alone = not_taken (s ∷ earlier) (length earlier) (omega arith) in
    without_join here ts own ∙ ap₂ join old (cond-false _ _ _ alone ∙ ap (λ x. x ▸ no_trees) (tree_in_stack s earlier))
