-- The trees of a block by depth below the top, with natural numbers alone, and that they are those by heights.
use Rattle.std.proofs.Common.{◌≡◌, ℕ, zero, suc, ◌+◌, Bool, true, false, cond, List, [], ◌∷◌, length, refl, sym, ap, ◌∙◌, arith, inl, inr}
use Rattle.std.specs.Prelude.{ℤ}
use Rattle.std.proofs.lemmas.Int.{ints}
use Rattle.std.proofs.lemmas.Bool.{cond-true, cond-false, cases_Bool}
use Rattle.std.proofs.lemmas.Bool.Decides.{Decides-int_eq}
use lib.IntN.{pos, negsuc, ◌+ℤ◌, ◌-ℤ◌}
use Rattle.peephole_graphs.specs.Shape.{Shape}
use Rattle.peephole_graphs.specs.Tree.{Tree, entry, node, Trees, no_trees, ◌▸◌}
use Rattle.peephole_graphs.specs.Forest.{height, first_operand_height, from_height, entry_number, at_height, operator_tree}

-- the trees at depths count - 1 down to 0
abbrev pub top : (ℕ → Tree) → ℕ → Trees
top f zero = no_trees
top f (suc count) = f count ▸ top f count

-- the tree `depth` places below the top
abbrev pub value : List Shape → ℕ → Tree
value [] d = entry d
value (s ∷ earlier) zero = cond s.has_result (node (length earlier) s (top (value earlier) s.operands)) (value earlier s.operands)
value (s ∷ earlier) (suc d) = cond s.has_result (value earlier (d + s.operands)) (value earlier (suc d + s.operands))

-- the place at a depth
abbrev at_depth : List Shape → ℕ → ℤ
at_depth earlier d = height earlier -ℤ pos (suc d)

from_place_top : (at : ℤ → Tree) (f : ℕ → Tree) (h : ℤ) → ((d : ℕ) → at (h -ℤ pos (suc d)) ≡ f d) → (k : ℕ) → from_height at (h -ℤ pos k) k ≡ top f k
from_place_top at f h e zero = refl
from_place_top at f h e (suc k) =
    let next : (h -ℤ pos (suc k)) +ℤ pos 1 ≡ h -ℤ pos k = omega (arith, ints) in
    let here = e k in
    let rest = from_place_top at f h e k in
    rw next cc

value_zero : (p : ℕ) → entry_number (pos 0 -ℤ pos (suc p)) ≡ p
value_zero p = let e : pos 0 -ℤ pos (suc p) ≡ negsuc p = omega (arith, ints) in rw e

-- the tree at a place, by the three cases
at_result : (s : Shape) (earlier : List Shape) (p : ℤ) → s.has_result ≡ true → p ≡ first_operand_height s earlier →
    at_height (s ∷ earlier) p ≡ operator_tree s earlier
at_result s earlier p h e = let d = Decides-int_eq p (first_operand_height s earlier) in grind arith

at_other : (s : Shape) (earlier : List Shape) (p : ℤ) → (p ≡ first_operand_height s earlier → ⊥) → at_height (s ∷ earlier) p ≡ at_height earlier p
at_other s earlier p h = let d = Decides-int_eq p (first_operand_height s earlier) in grind arith

at_none : (s : Shape) (earlier : List Shape) (p : ℤ) → s.has_result ≡ false → at_height (s ∷ earlier) p ≡ at_height earlier p
at_none s earlier p h = grind arith

tree_of_top : (s : Shape) (earlier : List Shape) → ((d : ℕ) → at_height earlier (at_depth earlier d) ≡ value earlier d) →
    operator_tree s earlier ≡ node (length earlier) s (top (value earlier) s.operands)
tree_of_top s earlier ih = ap (node (length earlier) s) (from_place_top (at_height earlier) (value earlier) (height earlier) ih s.operands)

height_is : (s : Shape) (earlier : List Shape) (b : Bool) → s.has_result ≡ b →
    height (s ∷ earlier) ≡ height earlier +ℤ (cond b (pos 1) (pos 0) -ℤ pos s.operands)
height_is s earlier b h = rw h refl

pub value_is : (earlier : List Shape) (d : ℕ) → at_height earlier (at_depth earlier d) ≡ value earlier d
value_is [] d = ap entry (value_zero d)
value_is (s ∷ earlier) zero = elim (cases_Bool s.has_result) [
  | inl h ↦
      let e = height_is s earlier true h in
      let p : at_depth (s ∷ earlier) zero ≡ first_operand_height s earlier = omega (arith, ints) in
      at_result s earlier _ h p ∙ (tree_of_top s earlier (value_is earlier) ∙ sym (cond-true _ _ _ h))
  | inr h ↦
      let e = height_is s earlier false h in
      let p : at_depth (s ∷ earlier) zero ≡ at_depth earlier s.operands = omega (arith, ints) in
      at_none s earlier _ h ∙ (ap (at_height earlier) p ∙ (value_is earlier s.operands ∙ sym (cond-false _ _ _ h)))
]
value_is (s ∷ earlier) (suc d) = elim (cases_Bool s.has_result) [
  | inl h ↦
      let e = height_is s earlier true h in
      let p : at_depth (s ∷ earlier) (suc d) ≡ at_depth earlier (d + s.operands) = omega (arith, ints) in
      at_other s earlier _ (λ w. omega (arith, ints)) ∙ (ap (at_height earlier) p ∙ (value_is earlier (d + s.operands) ∙ sym (cond-true _ _ _ h)))
  | inr h ↦
      let e = height_is s earlier false h in
      let p : at_depth (s ∷ earlier) (suc d) ≡ at_depth earlier (suc d + s.operands) = omega (arith, ints) in
      at_none s earlier _ h ∙ (ap (at_height earlier) p ∙ (value_is earlier (suc d + s.operands) ∙ sym (cond-false _ _ _ h)))
]

pub tree_of_is : (s : Shape) (earlier : List Shape) → operator_tree s earlier ≡ node (length earlier) s (top (value earlier) s.operands)
tree_of_is s earlier = tree_of_top s earlier (value_is earlier)
