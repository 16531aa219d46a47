-- How entry operands stand in a forest: one is taken only while no open tree stands, and they are numbered as they are taken.
use Rattle.std.proofs.Common.{◌≡◌, ℕ, zero, suc, ◌+◌, ◌-◌, ◌<◌, true, List, [], ◌∷◌, length, refl, sym, ap, ap₂, ◌∙◌, subst, subst₂, arith, inl, inr}
use Rattle.std.specs.Prelude.{⊤}
use Rattle.std.proofs.lemmas.Bool.{cases_Bool, cases_lt}
use Rattle.peephole_graphs.specs.Shape.{Shape}
use Rattle.peephole_graphs.specs.Tree.{entry, node, Trees, no_trees, ◌▸◌, join}
use Rattle.peephole_graphs.proofs.forest.Depth.{top}
use Rattle.peephole_graphs.proofs.forest.DepthLemmas.{top_same, top_first}
use Rattle.peephole_graphs.proofs.forest.TreeStack.{is_open, opens, forest_value, without_open, last_open, tree_stack, missing}
use Rattle.peephole_graphs.proofs.forest.TreeStack.{forest_value_top, forest_value_under}
use Rattle.peephole_graphs.proofs.forest.TreeStack.{forest_value_done, without_open_top, without_open_behind, last_open_top, last_open_behind, opens_done}
use Rattle.peephole_graphs.proofs.forest.ForestLemmas.{rev, join_nil}

-- how many trees
abbrev pub count : Trees → ℕ
count no_trees = 0
count (t ▸ ts) = suc (count ts)

abbrev pub AllOpen : Trees → Type 0
AllOpen no_trees = ⊤
AllOpen (t ▸ ts) = (is_open t ≡ true) × AllOpen ts

-- `number` entry operands, the first taken last
abbrev pub entries : ℕ → ℕ → Trees
entries missing number = top (λ d. entry (missing + d)) number

-- An operator's operands, taken where `stand` trees stand open and `m` entry operands were taken: `more` of these, then open trees.
pub record Operands (stand : ℕ) (s : Shape) (kids operands : Trees) (m more m' : ℕ) : Type 0 where
  pub all_open : AllOpen operands
  pub are : kids ≡ join (entries m more) (rev operands)
  pub many : s.operands ≡ more + count operands
  pub alone : 0 < more → stand ≡ 0
  pub taken : m' ≡ m + more

-- Trees, the last first, that are read where `stand` trees stand open and `m` entry operands were taken; then `m'` were.
pub data Reads : ℕ → ℕ → Trees → ℕ → Type 0 where
  nothing : {stand m : ℕ} → Reads stand m no_trees m
  one_more : {stand m m0 m1 m2 : ℕ} {ts : Trees} (i : ℕ) (s : Shape) (kids operands : Trees) (more : ℕ) →
      Reads stand m ts m0 → Reads (stand + opens ts) m0 operands m1 → Operands (stand + opens ts) s kids operands m1 more m2 →
      Reads stand m (node i s kids ▸ ts) m2

pub all_last_open : (forest : Trees) (k : ℕ) → AllOpen (last_open forest k)
all_last_open no_trees k = tt
all_last_open (t ▸ forest) zero = tt
all_last_open (t ▸ forest) (suc k) = elim (cases_Bool (is_open t)) [
  | inl e ↦ rw e (e, all_last_open forest k)
  | inr e ↦ rw e (all_last_open forest (suc k))
]

pub count_last_open : (forest : Trees) (k : ℕ) → (k - opens forest) + count (last_open forest k) ≡ k
count_last_open no_trees k = omega arith
count_last_open (t ▸ forest) zero = omega arith
count_last_open (t ▸ forest) (suc k) = grind (arith, count_last_open forest k, count_last_open forest (suc k))

pub opens_without_open : (forest : Trees) (k : ℕ) → opens (without_open forest k) ≡ opens forest - k
opens_without_open no_trees k = omega arith
opens_without_open (t ▸ forest) zero = omega arith
opens_without_open (t ▸ forest) (suc k) = grind (arith, opens_without_open forest k, opens_without_open forest (suc k))

pub opens_split : (forest : Trees) (k : ℕ) → opens (without_open forest k) + opens (last_open forest k) ≡ opens forest
opens_split no_trees k = omega arith
opens_split (t ▸ forest) zero = omega arith
opens_split (t ▸ forest) (suc k) = grind (arith, opens_split forest k, opens_split forest (suc k))

pub join_assoc : (ts us vs : Trees) → join (join ts us) vs ≡ join ts (join us vs)
join_assoc no_trees us vs = refl
join_assoc (t ▸ ts) us vs = ap (λ x. t ▸ x) (join_assoc ts us vs)

pub top_last_open : (forest : Trees) (m k : ℕ) → top (forest_value forest m) k ≡ join (entries m (k - opens forest)) (rev (last_open forest k))
top_last_open no_trees m k = let e : k - 0 ≡ k = omega arith in sym (join_nil (entries m (k - 0)) ∙ ap (entries m) e)
top_last_open (t ▸ forest) m zero =
    let e : 0 - opens (t ▸ forest) ≡ 0 = omega arith in sym (join_nil (entries m (0 - opens (t ▸ forest))) ∙ ap (entries m) e)
top_last_open (t ▸ forest) m (suc k) =
    let f = forest_value (t ▸ forest) m in
    let g = forest_value forest m in
    elim (cases_Bool (is_open t)) [
      | inl e ↦
          let n : suc k - suc (opens forest) ≡ k - opens forest = omega arith in
          rw (e, n) (top_first f k ∙ (ap₂ (λ x y. join x (y ▸ no_trees)) (top_same (λ d. f (suc d)) g (λ d. forest_value_under t forest m d e) k
          ∙ top_last_open forest m k) (forest_value_top t forest m e) ∙ join_assoc (entries m (k - opens forest))
          (rev (last_open forest k)) (t ▸ no_trees)))
      | inr e ↦ rw e (top_same f g (λ d. forest_value_done t forest m d e) (suc k) ∙ top_last_open forest m (suc k))
    ]

no_more : (more n : ℕ) → 0 < n → (0 < more → n ≡ 0) → more ≡ 0
no_more more n l z = grind arith

-- a tree that is read where an open one stands has no entry operand, and can be read anywhere
moved : {n m1 m2 more : ℕ} {s : Shape} {kids operands : Trees} (i m0 : ℕ) → Operands n s kids operands m1 more m2 → 0 < n →
    (m0 ≡ m1) × ((a b : ℕ) → Reads a b operands b) → (m0 ≡ m2) × ((a b c : ℕ) (ts : Trees) → Reads a b ts c → Reads a b (node i s kids ▸ ts) c)
moved {n = n} {m1 = m1} {more = more} {s = s} {kids = kids} {operands = operands} i m0 o l q =
    let none = no_more more n l o.alone in
    let same = q.0 in
    let taken = o.taken in
    let many = o.many in (
      omega arith,
      λ a b c ts r. one_more i s kids operands 0 r (q.1 (a + opens ts) c) (record {
        all_open = o.all_open;
        are = o.are ∙ ap (λ x. join (entries m1 x) (rev operands)) none;
        many = omega arith;
        alone = λ w. absurd (omega arith);
        taken = omega arith;
      }),
    )

closed : {stand m m' : ℕ} {ts : Trees} → Reads stand m ts m' → 0 < stand → (m ≡ m') × ((a b : ℕ) → Reads a b ts b)
closed nothing l = (refl, λ a b. nothing)
closed (one_more {m0 = m0} {ts = ts} i s kids operands more r q o) l =
    let (u, ru) = closed r l in
    let (v, rv) = moved i m0 o (omega arith) (closed q (omega arith)) in
    (u ∙ v, λ a b. rv a b b ts (ru a b))

read_none : {stand m m' : ℕ} {ts : Trees} → Reads stand m ts m' → ts ≡ no_trees → m ≡ m'
read_none nothing e = refl
read_none (one_more i s kids operands more r q o) w = absurd (cc)

-- trees are read, and then others
abbrev AreRead : ℕ → ℕ → Trees → Trees → ℕ → Type 0
AreRead stand m first last m' = (a : ℕ) × Reads stand m first a × Reads (stand + opens first) a last m'

pub last_open_none : (forest : Trees) (k : ℕ) → opens forest ≡ 0 → last_open forest k ≡ no_trees
last_open_none no_trees k e = refl
last_open_none (t ▸ forest) zero e = refl
last_open_none (t ▸ forest) (suc k) e = let more = last_open_none forest (suc k) in grind arith

split_done : (stand m m0 k i : ℕ) {m1 m2 more : ℕ} {s : Shape} {kids operands : Trees} (ts : Trees) →
    Operands (stand + opens ts) s kids operands m1 more m2 → Reads (stand + opens ts) m0 operands m1 →
    AreRead stand m (without_open ts (suc k)) (last_open ts (suc k)) m0 →
    (b : ℕ) × Reads stand m (node i s kids ▸ without_open ts (suc k)) b × Reads (stand + opens (without_open ts (suc k))) b (last_open ts (suc k)) m2
split_done stand m m0 k i {m1} {m2} {more} {s} {kids} {operands} ts o q (a, A, B) = elim (cases_lt 0 (stand + opens ts)) [
  | inl l ↦
      let (v, rv) = moved i m0 o l (closed q l) in
      (a, rv stand m a (without_open ts (suc k)) A, rw v at B)
  | inr l ↦
      let none = last_open_none ts (suc k) (omega arith) in
      let left = opens_without_open ts (suc k) in
      let n : stand + opens ts ≡ stand + opens (without_open ts (suc k)) = omega arith in
      let front = rw (read_none B none) at A in
      (m2, one_more i s kids operands more front (rw n at q) (rw n at o), rw none nothing)
]

split : {stand m m' : ℕ} {ts : Trees} (k : ℕ) → Reads stand m ts m' → AreRead stand m (without_open ts k) (last_open ts k) m'
split {m = m} k nothing = (m, nothing, nothing)
split {m' = m'} zero (one_more i s kids operands more r q o) = (m', one_more i s kids operands more r q o, nothing)
split {stand} {m} {m'} (suc k) (one_more {m0 = m0} {m1 = m1} {ts = ts} i s kids operands more r q o) = elim (cases_Bool s.has_result) [
  | inl h ↦
      let (a, A, B) = split k r in
      let both = opens_split ts k in
      let n : stand + opens ts ≡ (stand + opens (without_open ts k)) + opens (last_open ts k) = omega arith in
      let one = one_more {m2 = m'} i s kids operands more B (rw n at q) (rw n at o) in
      subst₂ (λ x y. AreRead stand m x y m') (sym (without_open_top (node i s kids) ts k h)) (sym (last_open_top (node i s kids) ts k h)) (a, A, one)
  | inr h ↦
      let (b, C, D) = split_done stand m m0 k i ts o q (split (suc k) r) in
      let later = subst (λ x. Reads (stand + x) b (last_open ts (suc k)) m') (sym (opens_done (node i s kids) (without_open ts (suc k)) h)) D in
      subst₂ (λ x y. AreRead stand m x y m') (sym (without_open_behind (node i s kids) ts (suc k) h))
      (sym (last_open_behind (node i s kids) ts (suc k) h)) (b, C, later)
]

pub reads_tree_stack : (block : List Shape) → Reads 0 0 (tree_stack block) (missing block)
reads_tree_stack [] = nothing
reads_tree_stack (s ∷ earlier) =
    let forest = tree_stack earlier in
    let k = s.operands in
    let (a, A, B) = split k (reads_tree_stack earlier) in
    let none = opens_without_open forest k in
    one_more (length earlier) s (top (forest_value forest (missing earlier)) k) (last_open forest k) (k - opens forest) A B (record {
      all_open = all_last_open forest k;
      are = top_last_open forest (missing earlier) k;
      many = sym (count_last_open forest k);
      alone = λ w. omega arith;
      taken = refl;
    })
