-- Lines of rules: two patterns, and what is asked of the constants; when one is well formed, and when it is right (this project).
use Rattle.std.specs.Prelude.{◌≡◌, ℕ, ◌+◌, ◌-◌, ◌%◌, ◌^◌, ◌==◌, ◌&&◌, ◌||◌, nat_lt, Bool, true, List, [], ◌∷◌, ⊤}
use mir.Val.{bits}
use Rattle.wasm_execution.specs.declared.integer.IntegerType.{IntegerType}
use Rattle.wasm_execution.specs.Values.{width_of, IsOfType}
use Rattle.rewrite_rules.specs.Pattern.{Kind, fixed, any, Pattern, holes, draws_by, hole_kind_of, kind_in, same_kind, fits, uses_exact, traps_at_root}
use Rattle.rewrite_rules.specs.Numbers.{lowest_bit, low, value_of}
use Rattle.rewrite_rules.specs.Order.{is_in, every}

-- ---- constants

-- what is asked of constants, by their indices
pub data Condition : Type 0 where
  -- it is below the width; a power of two; a power of two less one, and not all ones
  is_below_width is_power is_mask : IntegerType → ℕ → Condition
  -- two whose sum is a multiple of the width
  are_turns : IntegerType → ℕ → ℕ → Condition

abbrev pub holds : (c : ℕ → ℕ) → Condition → Bool
holds c (is_below_width t i) = nat_lt (low t (c i)) (bits (width_of t))
holds c (is_power t i) = 2 ^ lowest_bit t (low t (c i)) == low t (c i)
holds c (is_mask t i) = nat_lt (low t (c i)) (2 ^ bits (width_of t) - 1) && (2 ^ lowest_bit t (low t (c i) + 1) == low t (c i) + 1)
holds c (are_turns t i j) = (low t (c i) % bits (width_of t) + low t (c j) % bits (width_of t)) % bits (width_of t) == 0

abbrev pub all_hold : (c : ℕ → ℕ) → List Condition → Bool
all_hold c [] = true
all_hold c (k ∷ ks) = holds c k && all_hold c ks

-- ---- lines

-- the left side, the right side, the types of the holes, and what is asked of the constants
pub record Line : Type 0 where
  pub left : Pattern
  pub right : Pattern
  pub kinds : List Kind
  pub conditions : List Condition

-- one of its sides has an exact row
abbrev pub is_exact_line : Line → Bool
is_exact_line l = uses_exact l.left || uses_exact l.right

-- It is well formed: the sides have the same type and operands of their operators' types, operators below the root do not trap, the left side draws nothing,
-- and the right side has no other holes.
abbrev pub is_formed : Line → Bool
is_formed l =
    (fits l.kinds l.left && fits l.kinds l.right)
    && ((traps_at_root l.left && traps_at_root l.right)
    && (same_kind (kind_in l.kinds l.left) (kind_in l.kinds l.right) && (draws_by l.left == 0 && every (is_in (holes l.left)) (holes l.right))))

-- a number of the type; of the one that a select is of, any
abbrev pub IsOfKind : Kind → ℕ → Type 0
IsOfKind (fixed t) n = IsOfType t n
IsOfKind any n = ⊤

-- It is right: for all numbers in the holes, of their types, all constants as it asks, and all drawn words both sides have the same value, or trap for the
-- same cause.
abbrev pub IsRight : Line → Type 0
IsRight l =
    (h c : ℕ → ℕ) (us vs : List ℕ) → ((n : ℕ) → IsOfKind (hole_kind_of l.kinds n) (h n)) → all_hold c l.conditions ≡ true →
    value_of h c us l.left ≡ value_of h c vs l.right
