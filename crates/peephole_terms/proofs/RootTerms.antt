-- The terms of a graph's roots are the trees of the block's forest; a term that is written stands for one of them.
use Rattle.std.proofs.Common.{◌≡◌, ℕ, suc, ◌+◌, ◌-◌, ◌<◌, ◌≤◌, ◌⊎◌, inl, inr, List, [], ◌∷◌, ◌++◌, length, drop, get_or, Bool, true, false, cond, refl, sym}
use Rattle.std.proofs.Common.{ap, ap₂, subst, ◌∙◌, arith, append_assoc, append-nil, Option, Some, None, Result, Ok, Err}
use Rattle.std.specs.Prelude.{reverse, ◌||◌, ◌==◌, slice_get, is_some}
use Rattle.std.specs.List.{All}
use Rattle.std.proofs.Math.Nat.{add-zero}
use Rattle.std.proofs.lemmas.Bool.{cond-true, cond-false, ne_eqb}
use Rattle.std.proofs.lemmas.Bool.Decides.{eqb_tells}
use Rattle.std.proofs.lemmas.List.{take_at, drop_at, get_or-map, get_or-reverse, length-reverse}
use Rattle.std.proofs.lemmas.List.Elements.{All-nil, All-cons, All-head, All-tail, All-take, All-drop, All-weaker}
use Rattle.std.proofs.lemmas.Option.{slice_get-get_or, slice_get_within}
use Rattle.wasm_code.specs.Instruction.{Instruction}
use Rattle.mutate_base.specs.declared.error.Error.{Error}
use Rattle.peephole_lang.specs.declared.lang.Head.{Head}
use Rattle.peephole_lang.specs.declared.lang.Lang.TheVariants.{Undef}
use Rattle.peephole_lang.specs.Node.{children_of}
use Rattle.peephole_lang.specs.Term as term
use Rattle.peephole_lang.specs.Term.{Term, Terms, absent, ◌▸◌}
use Rattle.peephole_graphs.specs.declared.dfg.StackEntry.{StackEntry}
use Rattle.peephole_graphs.specs.declared.shape.Shape.{Shape}
use Rattle.peephole_graphs.specs.Entries.{Graph, instruction_shape_of, entry_tree, roots_of}
use Rattle.peephole_graphs.specs.Forest.{forest}
use Rattle.peephole_graphs.specs.Graph.{trees_at, roots}
use Rattle.peephole_graphs.specs.GraphOf.{IsGraphOf, IsStackEntryOf}
use Rattle.peephole_graphs.specs.Layout.{entry_nodes}
use Rattle.peephole_graphs.specs.Source.{Source, shapes_in}
use Rattle.peephole_graphs.specs.Tree as tree
use Rattle.peephole_graphs.specs.Tree.{Tree, Trees, entry, node, no_trees, join, instructions_of, instructions}
use Rattle.peephole_graphs.proofs.graph.EntryTreeLemmas.{own_tree, entry_operand}
use Rattle.peephole_graphs.proofs.forest.ForestLemmas.{rev, forest_is, Falling, Falling-tree_stack}
use Rattle.peephole_graphs.proofs.forest.TreeStack.{tree_stack}
use Rattle.peephole_terms.specs.EncoderSteps.{operator_of_entry, root_term, root_terms}
use Rattle.peephole_terms.specs.Expansion.{then_code, joined_code, expansion_of, expansion, requests_of, requests, draws_of, draws}
use Rattle.peephole_terms.specs.NodeKind.{NumberType}
use Rattle.peephole_terms.specs.Written.{with_tree_replaced, has_root}
use Rattle.peephole_terms.proofs.TermOfLemmas.{IsItself, AreThemselves, none_themselves, more_themselves, entry_itself}

pub All-reverse : {A : Type 0} (P : A → Type 0) (xs : List A) → All P xs → All P (reverse xs)
All-reverse P xs all = λ k d l.
    let n = length-reverse xs in
    let m : k < length xs = omega arith in
    subst P (sym (get_or-reverse xs k d m)) (all (length xs - 1 - k) d (omega arith))

pub All-front : {A : Type 0} (P : A → Type 0) (xs ys : List A) → All P (xs ++ ys) → All P xs
All-front P xs ys all = rw (take_at xs ys (length xs) refl) at (All-take P (length xs) (xs ++ ys) all)

pub All-back : {A : Type 0} (P : A → Type 0) (xs ys : List A) → All P (xs ++ ys) → All P ys
All-back P xs ys all = rw (drop_at xs ys (length xs) refl) at (All-drop P (length xs) (xs ++ ys) all)

abbrev ok : List Instruction → Result (List Instruction) Error
ok code = Ok code

-- ---- a forest's roots are operators, ascending

-- the trees are operators' from `low` on, ascending, below `high`
abbrev AreRising : ℕ → ℕ → Trees → Type 0
AreRising low high no_trees = low ≤ high
AreRising low high (tree.◌▸◌ (entry m) ts) = ⊥
AreRising low high (tree.◌▸◌ (node i s kids) ts) = (low ≤ i) × AreRising (suc i) high ts

rising_joined : (ts : Trees) (low i high : ℕ) (s : Shape) (kids : Trees) → AreRising low i ts → i < high →
    AreRising low high (join ts (tree.◌▸◌ (node i s kids) no_trees))
rising_joined no_trees low i high s kids h l = (h, omega arith)
rising_joined (tree.◌▸◌ (entry m) ts) low i high s kids h l = absurd h
rising_joined (tree.◌▸◌ (node j r below) ts) low i high s kids h l = (h.0, rising_joined ts (suc j) i high s kids h.1 l)

rising_rev : (ts : Trees) (n : ℕ) → Falling ts n → AreRising 0 n (rev ts)
rising_rev no_trees n f = omega arith
rising_rev (tree.◌▸◌ (entry m) ts) n f = absurd f
rising_rev (tree.◌▸◌ (node i s kids) ts) n f = rising_joined (rev ts) 0 i n s kids (rising_rev ts i f.1) f.0

rising_forest : (block : List Shape) → AreRising 0 (length block) (forest block)
rising_forest block = rw (forest_is block) (rising_rev (tree_stack block) (length block) (Falling-tree_stack block))

-- no root has a smaller number
no_root : (first at : ℕ) (ts : Trees) (low high : ℕ) → AreRising low high ts → at < first + low → has_root first at ts ≡ false
no_root first at no_trees low high h l = refl
no_root first at (tree.◌▸◌ (entry m) ts) low high h l = absurd h
no_root first at (tree.◌▸◌ (node i s kids) ts) low high h l =
    let more = h.0 in ap₂ (λ x y. x || y) (ne_eqb (first + i) at (omega arith)) (no_root first at ts (suc i) high h.1 (omega arith))

-- then no tree is replaced
pub not_replaced : (first at : ℕ) (code : List Instruction) (ts : Trees) → has_root first at ts ≡ false →
    with_tree_replaced first at code ts ≡ instructions ts
not_replaced first at code no_trees h = refl
not_replaced first at code (tree.◌▸◌ (entry m) ts) h = not_replaced first at code ts h
not_replaced first at code (tree.◌▸◌ (node i s kids) ts) h = go (first + i == at) h (not_replaced first at code ts)
  where
    go : (b : Bool) → (b || has_root first at ts) ≡ false → (has_root first at ts ≡ false → with_tree_replaced first at code ts ≡ instructions ts) →
        cond b code (instructions_of (node i s kids)) ++ with_tree_replaced first at code ts ≡ instructions_of (node i s kids) ++ instructions ts
    go true e more = absurd cc
    go false e more = ap (λ x. instructions_of (node i s kids) ++ x) (more e)

-- ---- a root's entry

-- An entry whose tree is an operator's is the own entry of that operator.
record IsOwnOf (s : Source) (g : Graph) (r i : ℕ) : Type 0 where
  number : s.first + i ≡ operator_of_entry g.entries r
  own : g.own_entry (s.first + i) ≡ Some r

own_of : (s : Source) (g : Graph) (r i : ℕ) (shape : Shape) (kids : Trees) (e : StackEntry) → IsGraphOf s g → slice_get g.entries r ≡ Some e →
    operator_of_entry g.entries r ≡ e.operator_idx → entry_tree s g r ≡ node i shape kids → IsStackEntryOf s e → IsOwnOf s g r i
own_of s g r i shape kids e h there index is (n, inside, at, inl (instr, place, found, named, color)) =
    let same : node (e.operator_idx - s.first) (instruction_shape_of s.info instr) (trees_at (entry_tree s g) (children_of e.operator)) ≡ node i shape kids =
    sym (own_tree s g h.forest_is r e instr there named) ∙ is in
    let number : e.operator_idx - s.first ≡ i = cc in
    let whole : s.first + i ≡ e.operator_idx = omega arith in
    record { number = whole ∙ sym index; own = (h.finds (s.first + i) r).1 (e, there, sym whole, ap is_some named) }
own_of s g r i shape kids e h there index is (n, inside, at, inr (undef, color)) = let (m, never) = entry_operand s g r e there undef in absurd cc

root_own : (s : Source) (g : Graph) (r i : ℕ) (shape : Shape) (kids : Trees) → IsGraphOf s g → r < length g.entries →
    entry_tree s g r ≡ node i shape kids → IsOwnOf s g r i
root_own s g r i shape kids h l is =
    let none : StackEntry = record { operator = Undef; color = 0; operator_idx = 0 } in
    let e = get_or g.entries r none in
    let there = slice_get-get_or g.entries r none l in
    own_of s g r i shape kids e h there (get_or-map (λ (e : StackEntry). e.operator_idx) g.entries r none 0 l) is (h.entry r e there)

roots_below : (ps : List (Option ℕ)) → All (λ r. r < length ps) (roots ps)
roots_below [] = All-nil (λ r. r < 0)
roots_below (p ∷ ps) = go p (All-weaker (λ r. r < length ps) (λ r. r < suc (length ps)) (λ r l. omega arith) (roots ps) (roots_below ps))
  where
    go : (p : Option ℕ) → All (λ r. r < suc (length ps)) (roots ps) → All (λ r. r < suc (length ps)) (roots (p ∷ ps))
    go None all = All-cons (λ r. r < suc (length ps)) (length ps) (roots ps) (omega arith) all
    go (Some p) all = all

roots_inside : (s : Source) (g : Graph) → IsGraphOf s g → All (λ r. r < length g.entries) (roots_of g.parents)
roots_inside s g h =
    let n : length (reverse g.parents) ≡ length g.entries = length-reverse g.parents ∙ h.forest_is.paired in
    All-reverse (λ r. r < length g.entries) (roots (reverse g.parents)) (rw n at (roots_below (reverse g.parents)))

-- ---- the roots' terms are the forest, in which one term may stand for a tree

-- One of the terms is written between what the others are written as.
pub record AreRound (t : Term Head) (ts : Terms Head) (front back : List Instruction) : Type 0 where
  pub expands : (n : ℕ) (words : List ℕ) → expansion n words ts ≡ then_code (expansion_of n words t) (λ code. Ok ((front ++ code) ++ back))
  pub asks : requests ts ≡ requests_of t
  pub takes : draws ts ≡ draws_of t

round_first : {t : Term Head} {ts : Terms Head} {back : List Instruction} → AreThemselves ts back → AreRound t (t ▸ ts) [] back
round_first {t} k = record {
  expands = λ n words. ap (joined_code (expansion_of n words t)) (k.expands (n + length (requests_of t)) (drop (length (draws_of t)) words));
  asks = rw k.asks (append-nil (requests_of t));
  takes = rw k.takes (append-nil (draws_of t));
}

regroup : (p q r s : List Instruction) → p ++ ((q ++ r) ++ s) ≡ ((p ++ q) ++ r) ++ s
regroup p q r s = simp append_assoc

round_later : {t u : Term Head} {ts : Terms Head} {own front back : List Instruction} → IsItself u own → AreRound t ts front back →
    AreRound t (u ▸ ts) (own ++ front) back
round_later {t} {u} {ts} {own} {front} {back} h k = record {
  expands = λ n words.
      let next : n + length (requests_of u) ≡ n = ap (λ (x : List NumberType). n + length x) h.asks ∙ add-zero n in
      let left : drop (length (draws_of u)) words ≡ words = ap (λ (x : List NumberType). drop (length x) words) h.takes in
      ap₂ joined_code (h.expands n words) (ap₂ (λ m ws. expansion m ws ts) next left ∙ k.expands n words) ∙ behind (expansion_of n words t);
  asks = ap₂ (λ (x y : List NumberType). x ++ y) h.asks k.asks;
  takes = ap₂ (λ (x y : List NumberType). x ++ y) h.takes k.takes;
}
  where
    behind : (x : Result (List Instruction) Error) → joined_code (Ok own) (then_code x (λ code. Ok ((front ++ code) ++ back)))
        ≡ then_code x (λ code. Ok (((own ++ front) ++ code) ++ back))
    behind (Err e) = refl
    behind (Ok code) = ap ok (regroup own front code back)

-- A root is the insertion point: what stands before and behind its tree, in the forest and in what the terms are written as.
pub record IsSplit (s : Source) (g : Graph) (at : ℕ) (t : Term Head) (ts : Trees) (us : Terms Head) : Type 0 where
  pub has : has_root s.first at ts ≡ true
  pub index : ℕ
  pub own : g.own_entry at ≡ Some index
  pub front : List Instruction
  pub back : List Instruction
  pub round : (code : List Instruction) → with_tree_replaced s.first at code ts ≡ (front ++ code) ++ back
  pub whole : instructions ts ≡ (front ++ instructions_of (entry_tree s g index)) ++ back
  pub terms : AreRound t us front back

-- a root is, or none is
abbrev pub IsPart : (s : Source) (g : Graph) (at : ℕ) (t : Term Head) → Trees → Terms Head → Type 0
IsPart s g at t ts us = ((has_root s.first at ts ≡ false) × AreThemselves us (instructions ts)) ⊎ IsSplit s g at t ts us

root_first : (s : Source) (g : Graph) (at : ℕ) (t : Term Head) (r i high : ℕ) (shape : Shape) (kids ts : Trees) (us : Terms Head) → IsGraphOf s g →
    r < length g.entries → entry_tree s g r ≡ node i shape kids → AreRising (suc i) high ts → IsPart s g at t ts us →
    IsPart s g at t (tree.◌▸◌ (node i shape kids) ts) (root_term at t g.entries r ▸ us)
root_first s g at t r i high shape kids ts us h l is rising part =
    let x = node i shape kids in
    let own = term.tree_at (entry_nodes g.entries) r in
    let mine = root_own s g r i shape kids h l is in
    let chosen : (b : Bool) → (s.first + i == at) ≡ b → root_term at t g.entries r ≡ cond b t own =
    λ b e. ap (λ (c : Bool). cond c t own) (ap (λ k. k == at) (sym mine.number) ∙ e) in
    let itself : IsItself own (instructions_of x) = rw is at (entry_itself s g h r l) in
    elim (eqb_tells (s.first + i) at) [
      | inl here ↦ elim part [
        | inl others ↦ inr (record {
          has = ap (λ b. b || has_root s.first at ts) here.0;
          index = r;
          own = rw here.1 at mine.own;
          front = [];
          back = instructions ts;
          round = λ code. ap₂ (λ (a b : List Instruction). a ++ b) (cond-true _ _ _ here.0) (not_replaced s.first at code ts others.0);
          whole = rw is refl;
          terms = rw (chosen true here.0) (round_first others.1);
        })
        | inr split ↦ let never = no_root s.first at ts (suc i) high rising (let e = here.1 in omega arith) in let yes = split.has in absurd cc
      ]
      | inr other ↦ elim part [
        | inl others ↦ inl (
          ap₂ (λ a b. a || b) other.0 others.0,
          rw (chosen false other.0) (more_themselves itself others.1),
        )
        | inr split ↦ inr (record {
          has = ap₂ (λ a b. a || b) other.0 split.has;
          index = split.index;
          own = split.own;
          front = instructions_of x ++ split.front;
          back = split.back;
          round = λ code. ap₂ (λ (a b : List Instruction). a ++ b) (cond-false _ _ _ other.0) (split.round code)
              ∙ regroup (instructions_of x) split.front code split.back;
          whole = ap (λ a. instructions_of x ++ a) split.whole ∙ regroup (instructions_of x) split.front _ split.back;
          terms = rw (chosen false other.0) (round_later itself split.terms);
        })
      ]
    ]

roots_part : (s : Source) (g : Graph) (at : ℕ) (t : Term Head) (is : List ℕ) (low high : ℕ) → IsGraphOf s g → All (λ r. r < length g.entries) is →
    AreRising low high (trees_at (entry_tree s g) is) → IsPart s g at t (trees_at (entry_tree s g) is) (root_terms at t g.entries is)
roots_part s g at t [] low high h all rising = inl (refl, none_themselves)
roots_part s g at t (r ∷ is) low high h all rising =
    go (entry_tree s g r) refl rising (λ next more. roots_part s g at t is next high h (All-tail (λ r. r < length g.entries) r is all) more)
  where
    go : (x : Tree) → entry_tree s g r ≡ x → AreRising low high (tree.◌▸◌ x (trees_at (entry_tree s g) is)) →
        ((next : ℕ) → AreRising next high (trees_at (entry_tree s g) is) →
        IsPart s g at t (trees_at (entry_tree s g) is) (root_terms at t g.entries is)) →
        IsPart s g at t (tree.◌▸◌ x (trees_at (entry_tree s g) is)) (root_terms at t g.entries (r ∷ is))
    go (entry m) e rising later = absurd rising
    go (node i shape kids) e rising later =
        root_first s g at t r i high shape kids (trees_at (entry_tree s g) is) (root_terms at t g.entries is) h
        (All-head (λ r. r < length g.entries) r is all) e rising.1 (later (suc i) rising.1)

pub block_part : (s : Source) (g : Graph) (at : ℕ) (t : Term Head) → IsGraphOf s g →
    IsPart s g at t (forest (shapes_in s)) (root_terms at t g.entries (roots_of g.parents))
block_part s g at t h =
    let rising : AreRising 0 (length (shapes_in s)) (trees_at (entry_tree s g) (roots_of g.parents)) = rw h.trees (rising_forest (shapes_in s)) in
    rw h.trees at (roots_part s g at t (roots_of g.parents) 0 (length (shapes_in s)) h (roots_inside s g h) rising)

-- where an operator's own tree stands for itself, the block's trees are unchanged
pub own_replaced : (s : Source) (g : Graph) (at i : ℕ) → IsGraphOf s g → g.own_entry at ≡ Some i →
    with_tree_replaced s.first at (instructions_of (entry_tree s g i)) (forest (shapes_in s)) ≡ instructions (forest (shapes_in s))
own_replaced s g at i h own = elim (block_part s g at absent h) [
  | inl none ↦ not_replaced s.first at (instructions_of (entry_tree s g i)) (forest (shapes_in s)) none.0
  | inr split ↦
      let both : ◌≡◌ {A = Option ℕ} (Some i) (Some split.index) = sym own ∙ split.own in
      let same : i ≡ split.index = cc in
      split.round (instructions_of (entry_tree s g i)) ∙ (ap (λ k. (split.front ++ instructions_of (entry_tree s g k)) ++ split.back) same ∙ sym split.whole)
]

-- whose term is written as it is
pub own_itself : (s : Source) (g : Graph) (at i : ℕ) → IsGraphOf s g → g.own_entry at ≡ Some i →
    IsItself (term.tree_at (entry_nodes g.entries) i) (instructions_of (entry_tree s g i))
own_itself s g at i h own = let e = (h.finds at i).0 own in entry_itself s g h i (slice_get_within g.entries i e.0 e.1)

-- ---- the term that is written

-- What the roots' terms are written as: the forest, in which a term's code stands for the insertion point's tree.
pub record IsWrittenAs (first at : ℕ) (t : Term Head) (ts : Trees) (us : Terms Head) : Type 0 where
  pub code : (n : ℕ) (words : List ℕ) → expansion n words us ≡ then_code (expansion_of n words t) (λ code. Ok (with_tree_replaced first at code ts))
  pub asks : requests us ≡ requests_of t
  pub takes : draws us ≡ draws_of t

-- the term, or none where no root is the insertion point
abbrev pub term_where : Bool → Term Head → Term Head
term_where b t = cond b t absent

pub block_written_as : (s : Source) (g : Graph) (at : ℕ) (t : Term Head) → IsGraphOf s g →
    IsWrittenAs s.first at (term_where (has_root s.first at (forest (shapes_in s))) t) (forest (shapes_in s)) (root_terms at t g.entries (roots_of g.parents))
block_written_as s g at t h =
    let ts = forest (shapes_in s) in
    let us = root_terms at t g.entries (roots_of g.parents) in
    elim (block_part s g at t h) [
      | inl none ↦ subst (λ b. IsWrittenAs s.first at (term_where b t) ts us) (sym none.0) (record {
        code = λ n words. none.1.expands n words ∙ ap ok (sym (not_replaced s.first at [] ts none.0));
        asks = none.1.asks;
        takes = none.1.takes;
      })
      | inr split ↦ subst (λ b. IsWrittenAs s.first at (term_where b t) ts us) (sym split.has) (record {
        code = λ n words. split.terms.expands n words ∙ same (expansion_of n words t) split.front split.back ts split.round;
        asks = split.terms.asks;
        takes = split.terms.takes;
      })
    ]
  where
    same : (x : Result (List Instruction) Error) (front back : List Instruction) (ts : Trees) →
        ((code : List Instruction) → with_tree_replaced s.first at code ts ≡ (front ++ code) ++ back) →
        then_code x (λ code. Ok ((front ++ code) ++ back)) ≡ then_code x (λ code. Ok (with_tree_replaced s.first at code ts))
    same (Ok code) front back ts round = ap ok (sym (round code))
    same (Err e) front back ts round = refl
