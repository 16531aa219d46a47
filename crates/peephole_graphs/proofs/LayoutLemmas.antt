-- What is laid out: how many nodes, and that its term is the one that was laid out.
use Rattle.std.proofs.Common.{◌≡◌, ℕ, suc, ◌+◌, ◌-◌, ◌<◌, List, [], ◌∷◌, ◌++◌, length, refl, sym, ap, ap₂, ◌∙◌, arith, append_assoc, length-append, map}
use Rattle.std.specs.Prelude.{reverse}
use Rattle.std.proofs.lemmas.Bool.{cond-true, cond-false, eq-eqb, ne_eqb}
use Rattle.std.proofs.lemmas.List.{append-nil, reverse-append, length-reverse, length-map}
use Rattle.peephole_lang.specs.Term.{Term, Terms, absent, node, no_terms, ◌▸◌, Node, pick, tree_at, term_of}
use Rattle.peephole_graphs.specs.Layout.{node_by, node_count_of, node_count, root_indexes, layout_from, layouts_from, IsWhole, AreWhole, KeepsTheTerm}

-- ---- how many nodes

mutual
  pub length_laid : {H : Type 0} (first : ℕ) (t : Term H) → length (layout_from first t) ≡ node_count_of t
  length_laid first absent = refl
  length_laid first (node h kids) =
      let e = length_all first kids in
      omega (arith, e, length-append (layouts_from first kids) (record { head = h; children = root_indexes first kids } ∷ []))

  pub length_all : {H : Type 0} (first : ℕ) (ts : Terms H) → length (layouts_from first ts) ≡ node_count ts
  length_all first no_terms = refl
  length_all first (t ▸ ts) =
      let e = length_laid first t in
      let f = length_all (first + node_count_of t) ts in
      omega (arith, e, f, length-append (layout_from first t) (layouts_from (first + node_count_of t) ts))

pub some_nodes : {H : Type 0} (t : Term H) → IsWhole t → 0 < node_count_of t
some_nodes absent w = absurd w
some_nodes (node h kids) w = omega arith

-- ---- the term of what is laid out

tree_front : {H : Type 0} (xs ys : List (Node H)) (i : ℕ) → i < length ys → tree_at (xs ++ ys) i ≡ tree_at ys i
tree_front [] ys i l = refl
tree_front (x ∷ xs) ys i l =
    cond-false _ _ _ (ne_eqb (length (xs ++ ys)) i (omega (arith, length-append xs ys))) ∙ tree_front xs ys i l

tree_top : {H : Type 0} (e : Node H) (earlier : List (Node H)) (k : ℕ) → length earlier ≡ k →
    tree_at (e ∷ earlier) k ≡ node e.head (pick (tree_at earlier) e.children)
tree_top e earlier k l = cond-true _ _ _ (eq-eqb (length earlier) k l)

front_of : {A : Type 0} (xs ys before : List A) → reverse (xs ++ ys) ++ before ≡ reverse ys ++ (reverse xs ++ before)
front_of xs ys before = ap (λ z. z ++ before) (reverse-append xs ys) ∙ append_assoc (reverse ys) (reverse xs) before

mutual
  -- behind any other nodes
  term_behind : {H : Type 0} (before : List (Node H)) (first : ℕ) (t : Term H) → length before ≡ first → IsWhole t →
      tree_at (reverse (layout_from first t) ++ before) (first + node_count_of t - 1) ≡ t
  term_behind before first absent l w = absurd w
  term_behind before first (node h kids) l w =
      let own : Node _ = record { head = h; children = root_indexes first kids } in
      let earlier = reverse (layouts_from first kids) ++ before in
      let n : length earlier ≡ first + suc (node_count kids) - 1 =
      omega (arith, length_all first kids, length-reverse (layouts_from first kids), length-append (reverse (layouts_from first kids)) before)
      in
      ap (λ z. tree_at z (first + suc (node_count kids) - 1)) (front_of (layouts_from first kids) (own ∷ []) before)
      ∙ (tree_top own earlier (first + suc (node_count kids) - 1) n ∙ ap (λ z. node h z) (terms_behind before first kids l w))

  terms_behind : {H : Type 0} (before : List (Node H)) (first : ℕ) (ts : Terms H) → length before ≡ first → AreWhole ts →
      pick (tree_at (reverse (layouts_from first ts) ++ before)) (root_indexes first ts) ≡ ts
  terms_behind before first no_terms l w = refl
  terms_behind before first (t ▸ ts) l w =
      let here = reverse (layout_from first t) ++ before in
      let later = layouts_from (first + node_count_of t) ts in
      let n : length here ≡ first + node_count_of t =
      omega (arith, length_laid first t, length-reverse (layout_from first t), length-append (reverse (layout_from first t)) before) in
      let some = some_nodes t w.0 in
      ap (λ z. pick (tree_at z) (root_indexes first (t ▸ ts))) (front_of (layout_from first t) later before) ∙ ap₂ (λ x y. x ▸ y)
      (tree_front (reverse later) here (first + node_count_of t - 1) (omega arith) ∙ term_behind before first t l w.0)
      (terms_behind here (first + node_count_of t) ts n w.1)

laid_back : {H : Type 0} (t : Term H) → IsWhole t → tree_at (reverse (layout_from 0 t)) (length (layout_from 0 t) - 1) ≡ t
laid_back t w =
    let n = length_laid 0 t in
    let m : length (layout_from 0 t) - 1 ≡ 0 + node_count_of t - 1 = omega arith in
    ap (λ z. tree_at (reverse (layout_from 0 t)) z) m
    ∙ (ap (λ z. tree_at z (0 + node_count_of t - 1)) (sym (append-nil (reverse (layout_from 0 t)))) ∙ term_behind [] 0 t refl w)

pub laid_term : KeepsTheTerm
laid_term t w = laid_back t w

expr_length : {L H : Type 0} (head : L → H) (children : L → List ℕ) (expr : List L) (t : Term H) →
    map (node_by head children) expr ≡ layout_from 0 t → length expr ≡ length (layout_from 0 t)
expr_length {L} {H} head children expr t e = sym (length-map expr (node_by head children)) ∙ ap (λ (x : List (Node H)). length x) e

-- the term of an expression whose nodes are those of a term laid out
pub term_is : {L H : Type 0} (head : L → H) (children : L → List ℕ) (expr : List L) (t : Term H) → IsWhole t →
    map (node_by head children) expr ≡ layout_from 0 t → term_of head children expr ≡ t
term_is {L} {H} head children expr t w e =
    ap₂ (λ (x : List (Node H)) (y : ℕ). tree_at (reverse x) (y - 1)) e (expr_length head children expr t e) ∙ laid_back t w

pub some_expr : {L H : Type 0} (head : L → H) (children : L → List ℕ) (expr : List L) (t : Term H) → IsWhole t →
    map (node_by head children) expr ≡ layout_from 0 t → 0 < length expr
some_expr head children expr t w e = omega (arith, expr_length head children expr t e, length_laid 0 t, some_nodes t w)
