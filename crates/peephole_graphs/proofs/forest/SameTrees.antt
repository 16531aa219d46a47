-- A block that is written with its own trees has the same trees.
use Rattle.std.proofs.Common.{◌≡◌, ℕ, zero, suc, ◌+◌, ◌-◌, ◌<◌, cond, List, [], ◌∷◌, ◌++◌, length, refl, sym, ap, ap₂, ◌∙◌, arith, append_assoc}
use Rattle.std.specs.Prelude.{reverse}
use Rattle.std.proofs.lemmas.List.{append-nil, reverse-append, length-append, length-reverse}
use Rattle.peephole_graphs.specs.Shape.{Shape}
use Rattle.peephole_graphs.specs.Tree.{Tree, entry, node, Trees, no_trees, ◌▸◌, join, shapes_of, shapes, size_of, size, renumber_tree, renumber}
use Rattle.peephole_graphs.specs.Forest.{forest}
use Rattle.peephole_graphs.proofs.forest.Depth.{top}
use Rattle.peephole_graphs.proofs.forest.DepthLemmas.{top_same, top_first}
use Rattle.peephole_graphs.proofs.forest.TreeStack.{is_open, opens, forest_value, without_open, tree_stack, missing, without_open_zero}
use Rattle.peephole_graphs.proofs.forest.TreeStack.{forest_value_top, forest_value_under}
use Rattle.peephole_graphs.proofs.forest.ForestLemmas.{rev, join_nil, forest_is}
use Rattle.peephole_graphs.proofs.forest.EntryOperands.{join_assoc, count, AllOpen, entries, Operands, Reads, nothing, one_more, reads_tree_stack}

-- the instructions, the last first
abbrev mutual
  pub back_of : Tree → List Shape
  back_of (entry m) = []
  back_of (node i s kids) = s ∷ back kids

  pub back : Trees → List Shape
  back no_trees = []
  back (t ▸ ts) = back ts ++ back_of t

mutual
  back_of_is : (t : Tree) → back_of t ≡ reverse (shapes_of t)
  back_of_is (entry m) = refl
  back_of_is (node i s kids) = ap (λ x. s ∷ x) (back_is kids) ∙ sym (reverse-append (shapes kids) (s ∷ []))

  pub back_is : (ts : Trees) → back ts ≡ reverse (shapes ts)
  back_is no_trees = refl
  back_is (t ▸ ts) = ap₂ (λ x y. x ++ y) (back_is ts) (back_of_is t) ∙ sym (reverse-append (shapes_of t) (shapes ts))

pub back_join : (ts us : Trees) → back (join ts us) ≡ back us ++ back ts
back_join no_trees us = sym (append-nil (back us))
back_join (t ▸ ts) us = ap (λ x. x ++ back_of t) (back_join ts us) ∙ append_assoc (back us) (back ts) (back_of t)

mutual
  length-shapes_of : (t : Tree) → length (shapes_of t) ≡ size_of t
  length-shapes_of (entry m) = refl
  length-shapes_of (node i s kids) = let e = length-shapes kids in omega (arith, length-append (shapes kids) (s ∷ []))

  pub length-shapes : (ts : Trees) → length (shapes ts) ≡ size ts
  length-shapes no_trees = refl
  length-shapes (t ▸ ts) = let e = length-shapes_of t in let f = length-shapes ts in omega (arith, length-append (shapes_of t) (shapes ts))

length-back : (ts : Trees) → length (back ts) ≡ size ts
length-back ts = ap length (back_is ts) ∙ (length-reverse (shapes ts) ∙ length-shapes ts)

size_join : (ts us : Trees) → size (join ts us) ≡ size ts + size us
size_join no_trees us = omega arith
size_join (t ▸ ts) us = let e = size_join ts us in omega arith

size_rev : (ts : Trees) → size (rev ts) ≡ size ts
size_rev no_trees = refl
size_rev (t ▸ ts) = let e = size_rev ts in let f = size_join (rev ts) (t ▸ no_trees) in omega arith

renumber_join : (n : ℕ) (ts us : Trees) → renumber n (join ts us) ≡ join (renumber n ts) (renumber (n + size ts) us)
renumber_join n no_trees us = let e : n ≡ n + 0 = omega arith in ap (λ x. renumber x us) e
renumber_join n (t ▸ ts) us =
    let e : (n + size_of t) + size ts ≡ n + (size_of t + size ts) = omega arith in rw (renumber_join (n + size_of t) ts us, e)

-- the same for trees of which the last is first
abbrev pub renumber_back : ℕ → Trees → Trees
renumber_back n no_trees = no_trees
renumber_back n (t ▸ ts) = renumber_tree (n + size ts) t ▸ renumber_back n ts

renumber_rev : (n : ℕ) (ts : Trees) → renumber n (rev ts) ≡ rev (renumber_back n ts)
renumber_rev n no_trees = refl
renumber_rev n (t ▸ ts) = rw (renumber_join n (rev ts) (t ▸ no_trees), renumber_rev n ts, size_rev ts)

is_open_renumber : (n : ℕ) (t : Tree) → is_open (renumber_tree n t) ≡ is_open t
is_open_renumber n (entry m) = refl
is_open_renumber n (node i s kids) = refl

opens_renumber : (n : ℕ) (ts : Trees) → opens (renumber_back n ts) ≡ opens ts
opens_renumber n no_trees = refl
opens_renumber n (t ▸ ts) = ap₂ (λ b x. cond b (suc x) x) (is_open_renumber (n + size ts) t) (opens_renumber n ts)

count_renumber : (n : ℕ) (ts : Trees) → count (renumber_back n ts) ≡ count ts
count_renumber n no_trees = refl
count_renumber n (t ▸ ts) = ap suc (count_renumber n ts)

open_renumber : (n : ℕ) (ts : Trees) → AllOpen ts → AllOpen (renumber_back n ts)
open_renumber n no_trees h = tt
open_renumber n (t ▸ ts) h = (is_open_renumber (n + size ts) t ∙ h.0, open_renumber n ts h.1)

opens_join : (ts us : Trees) → opens (join ts us) ≡ opens ts + opens us
opens_join no_trees us = omega arith
opens_join (t ▸ ts) us = grind (arith, opens_join ts us)

opens_all : (ts : Trees) → AllOpen ts → opens ts ≡ count ts
opens_all no_trees h = refl
opens_all (t ▸ ts) h = rw h.0 (ap suc (opens_all ts h.1))

without_open_all : (ts forest : Trees) (j : ℕ) → AllOpen ts → without_open (join ts forest) (j + count ts) ≡ without_open forest j
without_open_all no_trees forest j h = let e : j + 0 ≡ j = omega arith in ap (without_open forest) e
without_open_all (t ▸ ts) forest j h = let e : j + suc (count ts) ≡ suc (j + count ts) = omega arith in rw (e, h.0) (without_open_all ts forest j h.1)

top_all : (ts forest : Trees) (m j : ℕ) → AllOpen ts → top (forest_value (join ts forest) m) (j + count ts) ≡ join (top (forest_value forest m) j) (rev ts)
top_all no_trees forest m j h =
    let e : j + 0 ≡ j = omega arith in ap (top (forest_value forest m)) e ∙ sym (join_nil (top (forest_value forest m) j))
top_all (t ▸ ts) forest m j h =
    let e : j + suc (count ts) ≡ suc (j + count ts) = omega arith in
    let f = forest_value (t ▸ join ts forest) m in
    ap (top f) e ∙ (top_first f (j + count ts) ∙ (ap₂ (λ x y. join x (y ▸ no_trees))
    (top_same (λ d. f (suc d)) (forest_value (join ts forest) m) (λ d. forest_value_under t (join ts forest) m d h.0) (j + count ts) ∙
    top_all ts forest m j h.1) (forest_value_top t (join ts forest) m h.0) ∙ join_assoc (top (forest_value forest m) j) (rev ts) (t ▸ no_trees)))

without_open_closed : (forest : Trees) (j : ℕ) → opens forest ≡ 0 → without_open forest j ≡ forest
without_open_closed no_trees j h = refl
without_open_closed (t ▸ forest) zero h = refl
without_open_closed (t ▸ forest) (suc j) h = let more = without_open_closed forest (suc j) in grind arith

forest_value_closed : (forest : Trees) (m d : ℕ) → opens forest ≡ 0 → forest_value forest m d ≡ entry (m + d)
forest_value_closed no_trees m d h = refl
forest_value_closed (t ▸ forest) m zero h = let more = forest_value_closed forest m zero in grind arith
forest_value_closed (t ▸ forest) m (suc d) h = let more = forest_value_closed forest m (suc d) in grind arith

rest_same : (forest : Trees) (m more : ℕ) → (0 < more → opens forest ≡ 0) →
    (without_open forest more ≡ forest) × (top (forest_value forest m) more ≡ entries m more)
rest_same forest m zero z = (without_open_zero forest, refl)
rest_same forest m (suc more) z =
    let n = z (omega arith) in (
      without_open_closed forest (suc more) n,
      top_same (forest_value forest m) (λ d. entry (m + d)) (λ d. forest_value_closed forest m d n) (suc more),
    )

left_over : (k more number others : ℕ) → k ≡ more + number → (0 < more → others ≡ 0) → k - (number + others) ≡ more
left_over k more number others c z = grind arith

-- an operator behind its own operands
reread_node : {s : Shape} {kids operands : Trees} {m more m' : ℕ} (block : List Shape) (forest : Trees) → tree_stack block ≡ join operands forest →
    missing block ≡ m → Operands (opens forest) s kids operands m more m' →
    (tree_stack (s ∷ block) ≡ node (length block) s kids ▸ forest) × (missing (s ∷ block) ≡ m')
reread_node {s} {kids} {operands} {m} {more} {m'} block forest e w o =
    let (u, v) = rest_same forest m more o.alone in
    let joined = join operands forest in
    let number = ap opens e ∙ (opens_join operands forest ∙ ap (λ x. x + opens forest) (opens_all operands o.all_open)) in
    let taken = ap₂ (λ x y. top (forest_value x y) s.operands) e w ∙ (ap (top (forest_value joined m)) o.many
    ∙ (top_all operands forest m more o.all_open ∙ (ap (λ x. join x (rev operands)) v ∙ sym o.are))) in
    let others = ap (λ x. without_open x s.operands) e ∙ (ap (without_open joined) o.many ∙ (without_open_all operands forest more o.all_open ∙ u)) in
    let more_is = ap (λ x. s.operands - x) number ∙ left_over s.operands more (count operands) (opens forest) o.many o.alone in
    (ap₂ (λ x y. node (length block) s x ▸ y) taken others, ap₂ (λ x y. x + y) w more_is ∙ sym o.taken)

renumber_entries : (n m j : ℕ) → renumber n (entries m j) ≡ entries m j
renumber_entries n m zero = refl
renumber_entries n m (suc j) =
    let e : n + 0 ≡ n = omega arith in ap (λ x. entry (m + j) ▸ x) (ap (λ x. renumber x (entries m j)) e ∙ renumber_entries n m j)

size_entries : (m j : ℕ) → size (entries m j) ≡ 0
size_entries m zero = refl
size_entries m (suc j) = let e = size_entries m j in omega arith

back_entries : (m j : ℕ) → back (entries m j) ≡ []
back_entries m zero = refl
back_entries m (suc j) = append-nil (back (entries m j)) ∙ back_entries m j

renumber_kids : (n m j : ℕ) (ts : Trees) → renumber n (join (entries m j) (rev ts)) ≡ join (entries m j) (rev (renumber_back n ts))
renumber_kids n m j ts =
    let e : n + size (entries m j) ≡ n = let f = size_entries m j in omega arith in
    rw (renumber_join n (entries m j) (rev ts), renumber_entries n m j, e, renumber_rev n ts)

pub back_kids : (m j : ℕ) (ts : Trees) → back (join (entries m j) (rev ts)) ≡ back (rev ts)
back_kids m j ts = back_join (entries m j) (rev ts) ∙ (ap (λ x. back (rev ts) ++ x) (back_entries m j) ∙ append-nil (back (rev ts)))

reread : {stand m m' : ℕ} {ts : Trees} → Reads stand m ts m' → (before : List Shape) → opens (tree_stack before) ≡ stand → missing before ≡ m →
    (tree_stack (back (rev ts) ++ before) ≡ join (renumber_back (length before) ts) (tree_stack before)) × (missing (back (rev ts) ++ before) ≡ m')
reread nothing before o e = (refl, e)
reread {stand} {m} {m'} (one_more {m1 = m1} {ts = ts} i s kids operands more r q o) before at w =
    let middle = back (rev ts) ++ before in
    let n = length middle in
    let k = length before + size ts in
    let new = renumber_back n operands in
    let (a, b) = reread r before at w in
    let block_graph : opens (tree_stack middle) ≡ stand + opens ts = ap opens a ∙ (opens_join (renumber_back (length before) ts) (tree_stack before)
    ∙ (ap₂ (λ x y. x + y) (opens_renumber (length before) ts) at ∙ omega arith)) in
    let (a2, b2) = reread q middle block_graph b in
    let code = ap (λ x. x ++ middle) (ap back o.are ∙ back_kids m1 more operands) in
    let block = back kids ++ middle in
    let first : n ≡ k = omega (arith, length-append (back (rev ts)) before, length-back (rev ts), size_rev ts) in
    let last : length block ≡ k + size kids = omega (arith, length-append (back kids) middle, length-back kids, first) in
    let (a3, b3) = reread_node {kids = renumber k kids} block (tree_stack middle) (ap tree_stack code ∙ a2) (ap missing code ∙ b2) (record {
      all_open = open_renumber n operands o.all_open;
      are = sym (sym (renumber_kids n m1 more operands) ∙ ap₂ renumber first (sym o.are));
      many = o.many ∙ ap (λ x. more + x) (sym (count_renumber n operands));
      alone = λ l. block_graph ∙ o.alone l;
      taken = o.taken;
    }) in
    let whole : back (rev (node i s kids ▸ ts)) ++ before ≡ s ∷ block =
    ap (λ x. x ++ before) (back_join (rev ts) (node i s kids ▸ no_trees)) ∙
    ap (λ x. s ∷ x) (append_assoc (back kids) (back (rev ts)) before) in
    (ap tree_stack whole ∙ (a3 ∙ ap₂ (λ x y. node x s (renumber k kids) ▸ y) last a), ap missing whole ∙ b3)

-- A block that is written with its own trees and read again has the same forest, but for the operators' numbers, which are those of the new places.
pub same_trees : (block : List Shape) → forest (reverse (shapes (forest block))) ≡ renumber 0 (forest block)
same_trees block =
    let ts = tree_stack block in
    let code = append-nil (back (rev ts)) ∙ (back_is (rev ts) ∙ ap (λ x. reverse (shapes x)) (sym (forest_is block))) in
    let again = (reread (reads_tree_stack block) [] refl refl).0 ∙ join_nil (renumber_back 0 ts) in
    forest_is (reverse (shapes (forest block))) ∙ (ap (λ x. rev (tree_stack x)) (sym code)
    ∙ (ap rev again ∙ (sym (renumber_rev 0 ts) ∙ ap (renumber 0) (sym (forest_is block)))))
