-- What the code keeps and reads of a graph's entries to answer how many there are from one downwards, whether they have one colour, and
-- whether they lie forward: the way that it goes, for private functions. Lists of kins have the last entry first. This project's rule.
use Rattle.std.specs.Prelude.{ℕ, suc, ◌+◌, ◌-◌, ◌≡◌, Bool, true, false, ◌&&◌, ◌==◌, List, [], ◌∷◌, length, map, reverse, slice_index}
use Rattle.std.specs.Prelude.{slice_index_or, if◌then◌else◌}
use Rattle.peephole_graphs.specs.declared.dfg.StackEntry.{StackEntry}
use Rattle.peephole_graphs.specs.declared.subtree.Subtree.{Subtree}
use Rattle.peephole_graphs.specs.Graph.{item}
use Rattle.peephole_graphs.specs.Downwards.{Kin, downwards, kin_at}
use Rattle.peephole_graphs.specs.Entries.{kins_of}

-- the colours of entries
abbrev pub colors : List StackEntry → List ℕ
colors entries = map (λ (e : StackEntry). e.color) entries

-- what is kept of the entries from each one downwards: how many they are
abbrev pub sizes_kept : List Subtree → List ℕ
sizes_kept subtrees = map (λ (t : Subtree). t.len) subtrees

-- and whether they have one colour
abbrev pub flags_kept : List Subtree → List Bool
flags_kept subtrees = map (λ (t : Subtree). t.one_color) subtrees

-- how many they are from the entry with an index downwards
abbrev pub size_kept : List Subtree → ℕ → ℕ
size_kept subtrees i = slice_index (sizes_kept subtrees) i

-- whether these have one colour; false past the last entry
abbrev pub flag_kept : List Subtree → ℕ → Bool
flag_kept subtrees i = slice_index_or (flags_kept subtrees) i false

-- the entries have the colour
abbrev pub are_colored : List Kin → ℕ → List ℕ → Bool
are_colored kins c [] = true
are_colored kins c (i ∷ is) = ((kin_at kins i).color == c) && are_colored kins c is

-- how many entries there are from each downwards
abbrev pub sizes_of : List Kin → List ℕ
sizes_of [] = []
sizes_of (e ∷ earlier) = length (downwards (e ∷ earlier) (length earlier)) ∷ sizes_of earlier

-- whether they have one colour
abbrev pub color_flags_of : List Kin → List Bool
color_flags_of [] = []
color_flags_of (e ∷ earlier) = are_colored (e ∷ earlier) e.color (downwards (e ∷ earlier) (length earlier)) ∷ color_flags_of earlier

-- every entry from there downwards has the flag and the colour
abbrev pub are_alike : (ℕ → Bool) → (ℕ → ℕ) → ℕ → List ℕ → Bool
are_alike flag color c [] = true
are_alike flag color c (i ∷ is) = (flag i && (color i == c)) && are_alike flag color c is

-- what is kept is right
pub record SubtreesAreMeasured (entries : List StackEntry) (subtrees : List Subtree) : Type 0 where
  pub sizes_are : reverse (sizes_kept subtrees) ≡ sizes_of (kins_of entries)
  pub flags_are : reverse (flags_kept subtrees) ≡ color_flags_of (kins_of entries)

-- the children that are no missing operands lie, by their sizes, one behind another from `at` on
abbrev pub forward : (ℕ → ℕ) → (ℕ → ℕ) → ℕ → List ℕ → Bool
forward size color at [] = true
forward size color at (c ∷ cs) = if color c == 4294967295 then forward size color at cs else (suc c == at + size c) && forward size color (at + size c) cs

-- so do those of every entry, and end right before it
abbrev pub forwards : List Kin → Bool
forwards [] = true
forwards (e ∷ earlier) = forwards earlier && forward (λ i. item 0 (sizes_of earlier) i) (λ i. (kin_at earlier i).color)
    (suc (length earlier) - length (downwards (e ∷ earlier) (length earlier))) e.children
