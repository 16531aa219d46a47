-- How large patterns are, and what a line does to the number of instructions, computed from its two sides (this project).
use Rattle.std.specs.Prelude.{ℕ, ◌+◌, ◌==◌, ◌&&◌, nat_lt, Bool, true, false, List, [], ◌∷◌, length, Option, Some, None}
use Rattle.std.specs.Prelude.{option_map, option_and_then, if◌then◌else◌}
use Rattle.rewrite_rules.specs.Pattern.{Pattern, Patterns, hole, constant, drawn, apply, none, ◌▹◌, holes}
use Rattle.rewrite_rules.specs.Line.{Line}

-- how many instructions a pattern has besides what stands in its holes
abbrev mutual
  pub own_size : Pattern → ℕ
  own_size (hole n) = 0
  own_size (constant t e) = 1
  own_size (drawn t) = 1
  own_size (apply o ps) = own_sizes ps + 1

  pub own_sizes : Patterns → ℕ
  own_sizes none = 0
  own_sizes (p ▹ ps) = own_size p + own_sizes ps

-- the list without one that is equal, where there is one
abbrev pub without : ℕ → List ℕ → Option (List ℕ)
without n [] = None
without n (m ∷ ms) = if n == m then Some ms else option_map (λ ks. m ∷ ks) (without n ms)

-- what is left of the second where the first is taken away, one by one
abbrev pub left_over : List ℕ → List ℕ → Option (List ℕ)
left_over [] ms = Some ms
left_over (n ∷ ns) ms = option_and_then (left_over ns) (without n ms)

abbrev pub is_empty : List ℕ → Bool
is_empty [] = true
is_empty (n ∷ ns) = false

-- Behind a rewrite there are always fewer instructions, or always as many, or neither can be said: there may be more.
pub data Growth : Type 0 where
  shrinks keeps grows : Growth

-- By the sides' own sizes, and the holes of the left side that the right side leaves out: what stands in one has at least one instruction.
abbrev pub growth_by : (left right : ℕ) → Option (List ℕ) → Growth
growth_by left right (Some rest) = if nat_lt right (left + length rest) then shrinks else (if right == left && is_empty rest then keeps else grows)
growth_by left right None = grows

abbrev pub line_growth_of : Line → Growth
line_growth_of l = growth_by (own_size l.left) (own_size l.right) (left_over (holes l.right) (holes l.left))
