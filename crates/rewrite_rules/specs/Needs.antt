-- What a line asks of the operands in its holes, computed once from its two sides (this project).
use Rattle.std.specs.Prelude.{◌≡◌, ℕ, ◌==◌, ◌&&◌, ◌||◌, not, Bool, List, [], ◌∷◌, if◌then◌else◌}
use Rattle.rewrite_rules.specs.Order.{is_in}
use Rattle.rewrite_rules.specs.Pattern.{holes}
use Rattle.rewrite_rules.specs.Order.{Doing, every, at_most_one_passes, is_twice, in_neither, back, may_move}
use Rattle.rewrite_rules.specs.Line.{Line}

-- the holes of the left and of the right side that do not stand in the same place on both
pub record Middle : Type 0 where
  pub left : List ℕ
  pub right : List ℕ

abbrev pub before_end : (left right : List ℕ) → Middle
before_end (n ∷ ns) (m ∷ ms) = if n == m && in_neither ns ms n then before_end ns ms else record { left = back (n ∷ ns); right = back (m ∷ ms) }
before_end ns ms = record { left = back ns; right = back ms }

abbrev pub middle_of : (left right : List ℕ) → Middle
middle_of (n ∷ ns) (m ∷ ms) = if n == m && in_neither ns ms n then middle_of ns ms else before_end (back (n ∷ ns)) (back (m ∷ ms))
middle_of ns ms = before_end (back ns) (back ms)

abbrev pub those : (ℕ → Bool) → List ℕ → List ℕ
those f [] = []
those f (n ∷ ns) = if f n then n ∷ those f ns else those f ns

-- the holes whose operands may write nothing, and of which at most one may trap; those that may not trap; and those that may not ask the world
pub record Needs : Type 0 where
  pub still : List ℕ
  pub left_out : List ℕ
  pub repeated : List ℕ

abbrev pub needs_in : Middle → Needs
needs_in m = record {
  still = m.left;
  left_out = those (λ n. not (is_in m.right n)) m.left;
  repeated = those (λ n. is_twice m.left n || is_twice m.right n) m.left;
}

abbrev pub needs_of : Line → Needs
needs_of r = needs_in (middle_of (holes r.left) (holes r.right))

abbrev pub meets : Doing → Needs → Bool
meets may k =
    every (λ n. not (may.write n)) k.still
    && (at_most_one_passes may.trap k.still && (every (λ n. not (may.trap n)) k.left_out && every (λ n. not (may.ask n)) k.repeated))

-- The operands may move where they meet what the line asks, and nowhere else.
abbrev pub NeedsAreEnough : Type 0
NeedsAreEnough = (may : Doing) (r : Line) → may_move may (holes r.left) (holes r.right) ≡ meets may (needs_of r)
