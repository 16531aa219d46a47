-- Sections by their id, and where one would stand (this project).
use Rattle.std.specs.Prelude.{◌≡◌, ◌≢◌, ℕ, ◌<◌, List, [], ◌∷◌, ◌++◌}
use Rattle.wasm_sections.specs.declared.id.SectionId.{SectionId}
use Rattle.wasm_sections.specs.declared.section.Section.{Section}
use Rattle.wasm_sections.specs.Id.{rank_of}

-- none of the sections has the id
abbrev pub LackId : List Section → SectionId → Type 0
LackId [] id = Unit {0}
LackId (s ∷ ss) id = (s.id ≢ id) × LackId ss id

-- The section is the first of these that has the id.
pub record IsFirstWith (sections : List Section) (id : SectionId) (s : Section) : Type 0 where
  pub before : List Section
  pub behind : List Section
  pub parts : sections ≡ before ++ s ∷ behind
  pub has : s.id ≡ id
  pub none : LackId before id

-- the end of the last section, or `start` where there is none
abbrev pub end_of : ℕ → List Section → ℕ
end_of start [] = start
end_of start (s ∷ ss) = end_of s.end ss

-- all ranks are smaller than this one
abbrev pub AreBefore : ℕ → List Section → Type 0
AreBefore rank [] = Unit {0}
AreBefore rank (s ∷ ss) = (rank_of s.id < rank) × AreBefore rank ss

-- all ranks are greater than this one, but those of custom sections
abbrev pub AreBehind : ℕ → List Section → Type 0
AreBehind rank [] = Unit {0}
AreBehind rank (s ∷ ss) = (0 < rank_of s.id → rank < rank_of s.id) × AreBehind rank ss

-- the last of them is no custom section, or there is none
abbrev pub EndsRanked : List Section → Type 0
EndsRanked [] = Unit {0}
EndsRanked (s ∷ []) = 0 < rank_of s.id
EndsRanked (s ∷ t ∷ ss) = EndsRanked (t ∷ ss)

-- A section of the id has this place: behind the preamble and some sections of smaller ranks, of which the last one is no custom section, and before all
-- others, whose ranks are greater. So it has one (a law).
pub record IsPlaceOf (sections : List Section) (id : SectionId) (place : ℕ) : Type 0 where
  pub before : List Section
  pub behind : List Section
  pub parts : sections ≡ before ++ behind
  pub at : place ≡ end_of 8 before
  pub smaller : AreBefore (rank_of id) before
  pub greater : AreBehind (rank_of id) behind
  pub last : EndsRanked before
