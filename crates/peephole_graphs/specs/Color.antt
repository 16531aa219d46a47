-- Colours: while preserving an operator's colour is the sum of the changes before it, and without it is 0. Lists of operators have the last
-- one first. This project's rule.
use Rattle.std.specs.Prelude.{ℕ, ◌+◌, ◌==◌, Bool, List, [], ◌∷◌, length, if◌then◌else◌}
use Rattle.peephole_graphs.specs.Shape.{Shape}

-- the sum of the changes
abbrev pub total_change : List Shape → ℕ
total_change [] = 0
total_change (s ∷ earlier) = total_change earlier + s.change

-- the colour behind a block
abbrev pub color_after : Bool → List Shape → ℕ
color_after preserving block = if preserving then total_change block else 0

-- an operator's colour: that behind the operators before it
abbrev pub color_at : Bool → List Shape → ℕ → ℕ
color_at preserving [] n = 0
color_at preserving (s ∷ earlier) n = if length earlier == n then color_after preserving earlier else color_at preserving earlier n
