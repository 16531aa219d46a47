-- The term of a place is its node's head over its children's terms.
use Rattle.std.proofs.Common.{◌≡◌, ℕ, suc, ◌<◌, ◌⊎◌, inl, inr, List, [], ◌∷◌, ◌++◌, length, get_or, refl, sym, ap, ap₂, subst, ◌∙◌, arith, map}
use Rattle.std.specs.Prelude.{reverse, All}
use Rattle.std.proofs.lemmas.Bool.{cond-true, cond-false, eq-eqb, ne_eqb}
use Rattle.std.proofs.lemmas.Bool.Decides.{eqb_tells}
use Rattle.std.proofs.lemmas.Grind.{common_steps}
use Rattle.std.proofs.lemmas.List.{reverse-append, length-reverse, length-map, get_or-map}
use Rattle.std.proofs.lemmas.List.Elements.{All-head, All-tail, All-weaker}
use Rattle.peephole_lang.specs.Term.{Term, node, ◌▸◌, Node, nodes_of, AreBelow, pick, tree_at}

pick_same : {H : Type 0} (f g : ℕ → Term H) (is : List ℕ) (n : ℕ) → All (λ k. k < n) is → ((k : ℕ) → k < n → f k ≡ g k) → pick f is ≡ pick g is
pick_same f g [] n all same = refl
pick_same f g (i ∷ is) n all same = ap₂ (λ x y. x ▸ y) (same i (All-head (λ k. k < n) i is all)) (pick_same f g is n (All-tail (λ k. k < n) i is all) same)

pub last_or_before : (n i : ℕ) → i < suc n → (n ≡ i) ⊎ (i < n)
last_or_before n i l = elim (eqb_tells n i) [ inl h ↦ inl h.1 | inr h ↦ let e = h.1 in inr (omega arith) ]

tree_before : {H : Type 0} (e : Node H) (earlier : List (Node H)) (k : ℕ) → k < length earlier → tree_at (e ∷ earlier) k ≡ tree_at earlier k
tree_before e earlier k l = cond-false _ _ _ (ne_eqb (length earlier) k (omega arith))

tree_last : {H : Type 0} (e : Node H) (earlier : List (Node H)) (k : ℕ) → length earlier ≡ k →
    tree_at (e ∷ earlier) k ≡ node e.head (pick (tree_at earlier) e.children)
tree_last e earlier k l = cond-true _ _ _ (eq-eqb (length earlier) k l)

-- what stands at a place of the list the other way round
pub data IsAt {H : Type 0} (n : Node H) : List (Node H) → ℕ → Type 0 where
  last : {earlier : List (Node H)} {k : ℕ} → length earlier ≡ k → IsAt n (n ∷ earlier) k
  before : {e : Node H} {earlier : List (Node H)} {k : ℕ} → k < length earlier → IsAt n earlier k → IsAt n (e ∷ earlier) k

pub children_in : {H : Type 0} {n : Node H} {ns : List (Node H)} {i : ℕ} → IsAt n ns i → AreBelow ns → All (λ k. k < i) n.children
children_in {H} {n} (last l) b = let P : ℕ → Type 0 = λ i. All (λ k. k < i) n.children in subst P l b.0
children_in (before l h) b = children_in h b.1

pub tree_is : {H : Type 0} {n : Node H} {ns : List (Node H)} {i : ℕ} → IsAt n ns i → AreBelow ns → tree_at ns i ≡ node n.head (pick (tree_at ns) n.children)
tree_is {H} {n} (last {earlier} {k} l) b =
    tree_last n earlier k l ∙ ap (λ x. node n.head x) (sym (pick_same (tree_at (n ∷ earlier)) (tree_at earlier) n.children (length earlier) b.0
    (tree_before n earlier)))
tree_is {H} {n} (before {e} {earlier} {k} l h) b =
    let wider : (j : ℕ) → j < k → j < length earlier = λ j g. omega arith in
    tree_before e earlier k l ∙ (tree_is h b.1
    ∙ ap (λ x. node n.head x) (sym (pick_same (tree_at (e ∷ earlier)) (tree_at earlier) n.children (length earlier)
    (All-weaker (λ j. j < k) (λ j. j < length earlier) wider n.children (children_in h b.1)) (tree_before e earlier))))

is_at : {H : Type 0} (ns : List (Node H)) (i : ℕ) (n : Node H) → i < length ns → n ≡ get_or (reverse ns) i n → IsAt n ns i
is_at [] i n l e = absurd (omega arith)
is_at {H} (x ∷ earlier) i n l e =
    let front = reverse earlier in
    let m : length front ≡ length earlier = length-reverse earlier in
    let e' : n ≡ get_or (front ++ x ∷ []) i n = e ∙ ap (λ y. get_or y i n) (reverse-append (x ∷ []) earlier) in
    elim (last_or_before (length earlier) i l) [
      | inl h ↦ let same : n ≡ x = e' ∙ at_end front x i n (omega arith) in subst (λ (y : Node H). IsAt n (y ∷ earlier) i) same (last h)
      | inr h ↦ before h (is_at earlier i n h (e' ∙ at_front front x i n (omega arith)))
    ]
  where
    at_end : (xs : List (Node H)) (x : Node H) (i : ℕ) (n : Node H) → length xs ≡ i → get_or (xs ++ x ∷ []) i n ≡ x
    at_end xs x i n h = grind (arith, common_steps)

    at_front : (xs : List (Node H)) (x : Node H) (i : ℕ) (n : Node H) → i < length xs → get_or (xs ++ x ∷ []) i n ≡ get_or xs i n
    at_front xs x i n h = grind (arith, common_steps)

abbrev pub view : {L H : Type 0} → (L → H) → (L → List ℕ) → L → Node H
view head children l = record { head = head l; children = children l }

pub at_place : {L H : Type 0} (head : L → H) (children : L → List ℕ) (expr : List L) (i : ℕ) (l : L) → i < length expr → l ≡ get_or expr i l →
    IsAt (view head children l) (nodes_of head children expr) i
at_place {L} {H} head children expr i l h e =
    let n = length-reverse (map (view head children) expr) in
    let m = length-map expr (view head children) in
    is_at (nodes_of head children expr) i (view head children l) (omega arith)
    (ap (view head children) e ∙ (sym (get_or-map (view head children) expr i l (view head children l) h)
    ∙ ap (λ (x : List (Node H)). get_or x i (view head children l)) (sym (twice (map (view head children) expr)))))
  where
    twice : (xs : List (Node H)) → reverse (reverse xs) ≡ xs
    twice xs = grind (arith, common_steps)
