-- What is computed once of the table's left sides: at most three holes, nothing drawn, and conditions on constants that they have.
use Rattle.std.proofs.Common.{◌≡◌, ℕ, zero, suc, ◌<◌, Bool, true, false, List, [], ◌∷◌, ◌++◌, Option, Some, None, inl, inr, refl, sym, ap}
use Rattle.std.proofs.Common.{ap₂, subst, ◌∙◌, arith}
use Rattle.std.specs.Prelude.{◌==◌, ◌&&◌, ◌||◌, nat_lt, reverse, slice_get}
use Rattle.std.proofs.lemmas.Bool.{and_parts, eqb-true, eq-eqb, ltb-true, false≢true}
use Rattle.std.proofs.lemmas.List.{reverse-append}
use Rattle.wasm_execution.specs.declared.integer.IntegerType.{IntegerType}
use Rattle.wasm_execution.specs.declared.integer.IntegerType.TheVariants as integer
use Rattle.rewrite_rules.specs.declared.pattern.Number.{Number}
use Rattle.rewrite_rules.specs.declared.pattern.Number.TheVariants as number
use Rattle.rewrite_rules.specs.declared.pattern.Number.TheVariants.{Literal, Ones, Bits, Sign, Slot, Turned, Next, Previous, Negated, Place, Sum}
use Rattle.rewrite_rules.specs.declared.pattern.Part.{Part}
use Rattle.rewrite_rules.specs.declared.pattern.Part.TheVariants as part
use Rattle.rewrite_rules.specs.declared.table.Step.{Step}
use Rattle.rewrite_rules.specs.declared.table.Step.TheVariants.{Operand, Constant, Drawn, Binary, Compare, Eqz, Select, Whole, Exact, End}
use Rattle.rewrite_rules.specs.declared.table.Condition as asked
use Rattle.rewrite_rules.specs.declared.table.Condition.TheVariants.{BelowWidth, Power, Mask, Turns}
use Rattle.rewrite_rules.specs.declared.table.Row.{Row}
use Rattle.rewrite_rules.specs.Order.{is_in}
use Rattle.rewrite_rules.specs.Holes.{holes_for}
use Rattle.rewrite_rules.specs.Table as table
use Rattle.rewrite_rules.specs.Table.{ROWS, parts_for}
use Rattle.std.specs.List.{All}
use Rattle.body_rewrites.specs.Matching.{is_hole, is_slot, is_own, IsOwn}
use Rattle.body_rewrites.specs.Operands.{has_hole}
use Rattle.body_rewrites.proofs.FoundLemmas.{some_is, either}
use Rattle.body_rewrites.proofs.LeftLemmas.{own_left}
use Rattle.body_rewrites.proofs.SplitLemmas.{is_drawn}

-- ---- rows

abbrev plain_step : Step → Bool
plain_step (Operand n) = nat_lt n 3
plain_step Drawn = false
plain_step s = true

abbrev plain_steps : List Step → Bool
plain_steps [] = true
plain_steps (s ∷ steps) = plain_step s && plain_steps steps

abbrev pub slot_step : ℕ → Step → Bool
slot_step i (Constant (Slot j)) = j == i
slot_step i s = false

-- one before the end is the constant with that index
abbrev pub slot_in : ℕ → List Step → Bool
slot_in i [] = false
slot_in i (End ∷ steps) = false
slot_in i (s ∷ steps) = slot_step i s || slot_in i steps

-- what is asked is of one of the first two constants, or of both
abbrev pub asks_slot : Option asked.Condition → List Step → Bool
asks_slot None steps = true
asks_slot (Some (BelowWidth i)) steps = is_own (Slot i) && slot_in i steps
asks_slot (Some (Power i)) steps = is_own (Slot i) && slot_in i steps
asks_slot (Some (Mask i)) steps = is_own (Slot i) && slot_in i steps
asks_slot (Some (Turns i j)) steps = (is_own (Slot i) && slot_in i steps) && (is_own (Slot j) && slot_in j steps)

abbrev plain_row : Row → Bool
plain_row row = plain_steps row.left && asks_slot row.condition row.left

abbrev plain_rows : List Row → Bool
plain_rows [] = true
plain_rows (r ∷ rs) = plain_row r && plain_rows rs

all_rows : plain_rows ROWS ≡ true
unfolding table.parts
all_rows = refl

at_row : (rs : List Row) → plain_rows rs ≡ true → (i : ℕ) (row : Row) → slice_get rs i ≡ Some row → plain_row row ≡ true
at_row [] e i row at = absurd cc
at_row (r ∷ rs) e zero row at =
    let is : r ≡ row = cc in
    subst (λ (q : Row). plain_row q ≡ true) is (and_parts (plain_row r) (plain_rows rs) e).0
at_row (r ∷ rs) e (suc i) row at = at_row rs (and_parts (plain_row r) (plain_rows rs) e).1 i row at

-- ---- parts

turned : (n m : ℕ) → (n == m) ≡ (m == n)
turned n m = go (n == m) (m == n) refl refl
  where
    go : (a b : Bool) → (n == m) ≡ a → (m == n) ≡ b → (n == m) ≡ (m == n)
    go true true e f = e ∙ sym f
    go false false e f = e ∙ sym f
    go true false e f = absurd (false≢true (sym f ∙ eq-eqb m n (sym (eqb-true n m e))))
    go false true e f = absurd (false≢true (sym e ∙ eq-eqb n m (sym (eqb-true m n f))))

slot_part : (n : ℕ) (e : Number) → slot_step n (Constant e) ≡ is_slot (part.Constant integer.I32 e) n
slot_part n (Literal m) = refl
slot_part n Ones = refl
slot_part n Bits = refl
slot_part n Sign = refl
slot_part n (Slot i) = refl
slot_part n (Turned i) = refl
slot_part n (Next i) = refl
slot_part n (Previous i) = refl
slot_part n (Negated i) = refl
slot_part n (number.Power i) = refl
slot_part n (Place i) = refl
slot_part n (Sum i j) = refl

module _ (t : IntegerType) where
  pub hole_in_parts : (n : ℕ) (steps : List Step) → is_in (holes_for steps) n ≡ has_hole (parts_for t steps) n
  hole_in_parts n [] = refl
  hole_in_parts n (End ∷ steps) = refl
  hole_in_parts n (Operand m ∷ steps) = ap₂ (λ a b. a || b) (turned n m) (hole_in_parts n steps)
  hole_in_parts n (Constant e ∷ steps) = hole_in_parts n steps
  hole_in_parts n (Drawn ∷ steps) = hole_in_parts n steps
  hole_in_parts n (Binary f ∷ steps) = hole_in_parts n steps
  hole_in_parts n (Compare f ∷ steps) = hole_in_parts n steps
  hole_in_parts n (Eqz ∷ steps) = hole_in_parts n steps
  hole_in_parts n (Select ∷ steps) = hole_in_parts n steps
  hole_in_parts n (Whole f ∷ steps) = hole_in_parts n steps
  hole_in_parts n (Exact m i ∷ steps) = hole_in_parts n steps

  slot_in_parts : (n : ℕ) (steps : List Step) → slot_in n steps ≡ some_is (λ p. is_slot p n) (parts_for t steps)
  slot_in_parts n [] = refl
  slot_in_parts n (End ∷ steps) = refl
  slot_in_parts n (Operand m ∷ steps) = slot_in_parts n steps
  slot_in_parts n (Constant e ∷ steps) = ap₂ (λ a b. a || b) (slot_part n e) (slot_in_parts n steps)
  slot_in_parts n (Drawn ∷ steps) = slot_in_parts n steps
  slot_in_parts n (Binary f ∷ steps) = slot_in_parts n steps
  slot_in_parts n (Compare f ∷ steps) = slot_in_parts n steps
  slot_in_parts n (Eqz ∷ steps) = slot_in_parts n steps
  slot_in_parts n (Select ∷ steps) = slot_in_parts n steps
  slot_in_parts n (Whole f ∷ steps) = slot_in_parts n steps
  slot_in_parts n (Exact m i ∷ steps) = slot_in_parts n steps

  drawn_in_parts : (steps : List Step) → plain_steps steps ≡ true → some_is is_drawn (parts_for t steps) ≡ false
  drawn_in_parts [] e = refl
  drawn_in_parts (End ∷ steps) e = refl
  drawn_in_parts (Operand m ∷ steps) e = drawn_in_parts steps (and_parts (nat_lt m 3) (plain_steps steps) e).1
  drawn_in_parts (Constant f ∷ steps) e = drawn_in_parts steps e
  drawn_in_parts (Drawn ∷ steps) e = absurd (false≢true e)
  drawn_in_parts (Binary f ∷ steps) e = drawn_in_parts steps e
  drawn_in_parts (Compare f ∷ steps) e = drawn_in_parts steps e
  drawn_in_parts (Eqz ∷ steps) e = drawn_in_parts steps e
  drawn_in_parts (Select ∷ steps) e = drawn_in_parts steps e
  drawn_in_parts (Whole f ∷ steps) e = drawn_in_parts steps e
  drawn_in_parts (Exact m i ∷ steps) e = drawn_in_parts steps e

few_holes : (n : ℕ) (steps : List Step) → plain_steps steps ≡ true → is_in (holes_for steps) n ≡ true → n < 3
few_holes n [] e i = absurd (false≢true i)
few_holes n (End ∷ steps) e i = absurd (false≢true i)
few_holes n (Operand m ∷ steps) e i =
    let (few, others) = and_parts (nat_lt m 3) (plain_steps steps) e in
    elim (either (n == m) (is_in (holes_for steps) n) i) [
      | inl k ↦ (let same = eqb-true n m k in let l = ltb-true m 3 few in omega (arith, same, l))
      | inr k ↦ few_holes n steps others k
    ]
few_holes n (Constant f ∷ steps) e i = few_holes n steps e i
few_holes n (Drawn ∷ steps) e i = absurd (false≢true e)
few_holes n (Binary f ∷ steps) e i = few_holes n steps e i
few_holes n (Compare f ∷ steps) e i = few_holes n steps e i
few_holes n (Eqz ∷ steps) e i = few_holes n steps e i
few_holes n (Select ∷ steps) e i = few_holes n steps e i
few_holes n (Whole f ∷ steps) e i = few_holes n steps e i
few_holes n (Exact m j ∷ steps) e i = few_holes n steps e i

-- ---- the last one first

or_turn : (a b : Bool) → (a || b) ≡ (b || a)
or_turn true true = refl
or_turn true false = refl
or_turn false true = refl
or_turn false false = refl

or_group : (a b c : Bool) → (a || (b || c)) ≡ ((a || b) || c)
or_group true b c = refl
or_group false b c = refl

some_append : (f : Part → Bool) (xs ys : List Part) → some_is f (xs ++ ys) ≡ (some_is f xs || some_is f ys)
some_append f [] ys = refl
some_append f (x ∷ xs) ys = ap (λ b. f x || b) (some_append f xs ys) ∙ or_group (f x) (some_is f xs) (some_is f ys)

some_reversed : (f : Part → Bool) (xs : List Part) → some_is f (reverse xs) ≡ some_is f xs
some_reversed f [] = refl
some_reversed f (x ∷ xs) =
    ap (some_is f) (reverse-append (x ∷ []) xs)
    ∙ (some_append f (reverse xs) (x ∷ [])
    ∙ (ap₂ (λ a b. a || b) (some_reversed f xs) (or_turn (f x) false) ∙ or_turn (some_is f xs) (f x)))

pub hole_some : (n : ℕ) (ps : List Part) → has_hole ps n ≡ some_is (λ p. is_hole p n) ps
hole_some n [] = refl
hole_some n (p ∷ ps) = ap (λ b. is_hole p n || b) (hole_some n ps)

-- ---- what is told of a row of the table, for its parts with the last one first

pub record IsPlainLeft (row : Row) (t : IntegerType) (parts : List Part) : Type 0 where
  pub holes_are : (n : ℕ) → is_in (holes_for row.left) n ≡ has_hole parts n
  pub few : (n : ℕ) → is_in (holes_for row.left) n ≡ true → n < 3
  pub none_drawn : some_is is_drawn parts ≡ false
  pub own : All (IsOwn t) parts
  pub asks : asks_slot row.condition row.left ≡ true
  pub slots : (n : ℕ) → slot_in n row.left ≡ true → some_is (λ p. is_slot p n) parts ≡ true

pub plain_left : (i : ℕ) (row : Row) → slice_get ROWS i ≡ Some row → (t : IntegerType) (parts : List Part) → reverse parts ≡ parts_for t row.left →
    IsPlainLeft row t parts
plain_left i row at t parts is =
    let (plain, asks) = and_parts (plain_steps row.left) (asks_slot row.condition row.left) (at_row ROWS all_rows i row at) in
    record {
      holes_are = λ n.
          hole_in_parts t n row.left
          ∙ (hole_some n (parts_for t row.left)
          ∙ (ap (some_is (λ p. is_hole p n)) (sym is) ∙ (some_reversed (λ p. is_hole p n) parts ∙ sym (hole_some n parts))));
      few = λ n e. few_holes n row.left plain e;
      none_drawn = sym (some_reversed is_drawn parts) ∙ (ap (some_is is_drawn) is ∙ drawn_in_parts t row.left plain);
      own = own_left i row at t parts is;
      asks = asks;
      slots = λ n e.
          sym (some_reversed (λ p. is_slot p n) parts)
          ∙ (ap (some_is (λ p. is_slot p n)) is ∙ (sym (slot_in_parts t n row.left) ∙ e));
    }
