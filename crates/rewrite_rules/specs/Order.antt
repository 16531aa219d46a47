-- What the operands in a line's holes may do, computed from the order in which the two sides run them (this project).
use Rattle.std.specs.Prelude.{ℕ, ◌==◌, ◌&&◌, ◌||◌, not, Bool, true, false, List, [], ◌∷◌, ◌++◌, get_or, if◌then◌else◌}
use Rattle.rewrite_rules.specs.declared.order.Effects.{Effects}

-- one of these
abbrev pub is_in : List ℕ → ℕ → Bool
is_in [] n = false
is_in (m ∷ ms) n = n == m || is_in ms n

-- what the operands may do, by their indices
pub record Doing : Type 0 where
  pub write : ℕ → Bool
  pub trap : ℕ → Bool
  pub ask : ℕ → Bool

abbrev pub every : (ℕ → Bool) → List ℕ → Bool
every f [] = true
every f (n ∷ ns) = f n && every f ns

-- at most one of them, which may stand there several times
abbrev pub at_most_one_passes : (ℕ → Bool) → List ℕ → Bool
at_most_one_passes f [] = true
at_most_one_passes f (n ∷ ns) = if f n then every (λ m. m == n || not (f m)) ns else at_most_one_passes f ns

-- it stands there twice
abbrev pub is_twice : List ℕ → ℕ → Bool
is_twice [] n = false
is_twice (m ∷ ms) n = if m == n then is_in ms n else is_twice ms n

-- An operand of the left side that does not write, nor trap where it is left out on the right, nor ask the world where it stands on one side twice.
abbrev pub is_free : Doing → (left right : List ℕ) → ℕ → Bool
is_free may left right n =
    not (may.write n) && ((is_in right n || not (may.trap n)) && (not (may.ask n) || (not (is_twice left n) && not (is_twice right n))))

-- None writes, at most one may trap, none that is left out on the right may trap, and none that stands on one side twice asks the world.
abbrev pub are_free : Doing → (left right : List ℕ) → Bool
are_free may left right =
    every (λ n. not (may.write n)) left
    && (at_most_one_passes may.trap left
    && (every (λ n. is_in right n || not (may.trap n)) left
    && every (λ n. not (may.ask n) || (not (is_twice left n) && not (is_twice right n))) left))

-- the index stands in neither
abbrev pub in_neither : (left right : List ℕ) → ℕ → Bool
in_neither left right n = not (is_in left n) && not (is_in right n)

-- ---- in the same place on both sides

abbrev pub back : List ℕ → List ℕ
back [] = []
back (n ∷ ns) = back ns ++ n ∷ []

-- of lists with the last one first: those that run last on both sides, and nowhere else, may do anything
abbrev pub before_end : Doing → (left right : List ℕ) → Bool
before_end may (n ∷ ns) (m ∷ ms) =
    if n == m && in_neither ns ms n then before_end may ns ms else are_free may (back (n ∷ ns)) (back (m ∷ ms))
before_end may ns ms = are_free may (back ns) (back ms)

-- and so those that run first; of what is left between these, as above
abbrev pub may_move : Doing → (left right : List ℕ) → Bool
may_move may (n ∷ ns) (m ∷ ms) =
    if n == m && in_neither ns ms n then may_move may ns ms else before_end may (back (n ∷ ns)) (back (m ∷ ms))
may_move may ns ms = before_end may (back ns) (back ms)

-- ---- by a list

-- what the operand with the index may do; nothing where there is none
abbrev pub effect_at : List Effects → ℕ → Effects
effect_at es n = get_or es n (record { writes = false; traps = false; asks = false })

abbrev pub doing_of : List Effects → Doing
doing_of es = record { write = λ n. (effect_at es n).writes; trap = λ n. (effect_at es n).traps; ask = λ n. (effect_at es n).asks }
