-- What is left of a text whose parts are read from the left (this project).
use Rattle.std.specs.Prelude.{◌≡◌, ℕ, List, [], ◌∷◌, Option, Some, None}
use denote.Ref.{Bor}
use Rattle.peephole_payloads.specs.PayloadText.{dot_parts}

-- the parts of what is left
abbrev pub remaining_parts : Option (Bor (List ℕ)) → List (List ℕ)
remaining_parts None = []
remaining_parts (Some text) = dot_parts text.now

-- it is the first of the parts, with the others behind it, or None where there is no part
abbrev pub IsFirstPart : List (List ℕ) → Option (Bor (List ℕ)) → List (List ℕ) → Type 0
IsFirstPart parts None more = parts ≡ []
IsFirstPart parts (Some part) more = parts ≡ part.now ∷ more
