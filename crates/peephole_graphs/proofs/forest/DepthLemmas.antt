-- Trees by their depth below the top, operator by operator.
use Rattle.std.proofs.Common.{◌≡◌, ℕ, zero, suc, ◌+◌, [], ◌∷◌, ◌++◌, refl, sym, ap, ◌∙◌, arith, append_assoc}
use Rattle.peephole_graphs.specs.Tree.{Tree, Trees, no_trees, ◌▸◌, join, postfix_of, postfix, range_from}
use Rattle.peephole_graphs.proofs.forest.Depth.{top}

pub numbers-join : (ts us : Trees) → postfix (join ts us) ≡ postfix ts ++ postfix us
numbers-join no_trees us = refl
numbers-join (t ▸ ts) us = ap (λ x. postfix_of t ++ x) (numbers-join ts us) ∙ sym (append_assoc (postfix_of t) (postfix ts) (postfix us))

pub top_first : (f : ℕ → Tree) (j : ℕ) → top f (suc j) ≡ join (top (λ d. f (suc d)) j) (f zero ▸ no_trees)
top_first f zero = refl
top_first f (suc j) = ap (λ x. f (suc j) ▸ x) (top_first f j)

pub top_same : (f g : ℕ → Tree) → ((d : ℕ) → f d ≡ g d) → (k : ℕ) → top f k ≡ top g k
top_same f g h zero = refl
top_same f g h (suc k) = let e = h k in let es = top_same f g h k in cc

pub range_more : (a n : ℕ) → range_from a n ++ (a + n) ∷ [] ≡ range_from a (suc n)
range_more a zero = let e : a + 0 ≡ a = omega arith in rw e
range_more a (suc n) = let e : a + suc n ≡ suc a + n = omega arith in rw e (ap (λ x. a ∷ x) (range_more (suc a) n))
