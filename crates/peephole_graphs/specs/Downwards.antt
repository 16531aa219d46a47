-- The entries from one downwards, and whether they have one colour. Lists have the last entry first. This project's rule.
use Rattle.std.specs.Prelude.{ℕ, ◌≡◌, ◌==◌, List, [], ◌∷◌, ◌++◌, length, if◌then◌else◌}
use Rattle.std.specs.List.{All, flat_map}
use Rattle.peephole_graphs.specs.Graph.{item}

-- an entry's children and colour
pub record Kin : Type 0 where
  pub children : List ℕ
  pub color : ℕ

-- the indexes from an entry downwards, in postfix: those of its children in order, and its own
abbrev pub downwards : List Kin → ℕ → List ℕ
downwards [] i = []
downwards (e ∷ earlier) i = if length earlier == i then flat_map (downwards earlier) e.children ++ length earlier ∷ [] else downwards earlier i

-- the entry with an index; past the last one, an entry without children
abbrev pub kin_at : List Kin → ℕ → Kin
kin_at kins i = item (record { children = []; color = 0 }) kins i

-- all entries from one downwards have its colour
abbrev pub HasOneColor : List Kin → ℕ → Type 0
HasOneColor kins i = All (λ j. (kin_at kins j).color ≡ (kin_at kins i).color) (downwards kins i)
