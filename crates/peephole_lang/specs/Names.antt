-- Which variant a text is of, and the text of its payload (this project).
use Rattle.std.specs.Prelude.{ℕ, ◌==◌, List, [], ◌∷◌, Option, Some, None, codes, if◌then◌else◌}
use Rattle.peephole_nodes.specs.declared.payload.PayloadKind.{PayloadKind}
use Rattle.peephole_nodes.specs.declared.payload.PayloadKind.TheVariants as kind
use Rattle.peephole_nodes.specs.Variants.{Variant}

-- what stands behind `front` in the text, if the text begins with it
abbrev pub rest_after : List ℕ → List ℕ → Option (List ℕ)
rest_after [] text = Some text
rest_after (c ∷ front) [] = None
rest_after (c ∷ front) (d ∷ text) = if c == d then rest_after front text else None

-- nothing may stand behind a name without payload, and a dot behind one with a payload
abbrev pub behind_name : PayloadKind → Option (List ℕ) → Option (List ℕ)
behind_name _ None = None
behind_name kind.Nothing (Some []) = Some []
behind_name kind.Nothing (Some (c ∷ rest)) = None
behind_name _ (Some rest) = rest_after (codes ".") rest

abbrev pub found_or : Variant → Option (List ℕ) → Option (Variant × List ℕ) → Option (Variant × List ℕ)
found_or v (Some rest) other = Some (v, rest)
found_or v None other = other

-- the variant of the list that the text is of, and the text of its payload (of two the first; in the table there is at most one)
abbrev pub find_in : List Variant → List ℕ → Option (Variant × List ℕ)
find_in [] text = None
find_in (v ∷ vs) text = found_or v (behind_name v.payload (rest_after v.name text)) (find_in vs text)
