-- Where the entries of a module's code stand once one of them has other contents (this project).
use Rattle.std.specs.Prelude.{◌≡◌, ℕ, ◌+◌, ◌-◌, ◌≤◌, ◌<◌, ◌^◌, List, ◌∷◌, ◌++◌, All, length, map, slice_range}
use Rattle.wasm_code.specs.Code.{shortest}
use Rattle.wasm_sections.specs.declared.section.Section.{Section}
use Rattle.wasm_lists.specs.declared.entries.Entry.{Entry}

-- the entry, moved as what stands at the offset `from` is moved to the offset `to`
abbrev pub moved : (from to : ℕ) → Entry → Entry
moved from to e = record { start = to + (e.start - from); contents = to + (e.contents - from); end = to + (e.end - from) }

-- The entries stand there again where the n-th has other contents and `place` is what the section `code` was: those before it are as far from the section's
-- first byte as they were, and those behind it as far from its own end, which is as far from that of the section. Its size is written in as few bytes as will
-- do.
pub record AreMoved (entries : List Entry) (n : ℕ) (contents : List ℕ) (code place : Section) (new : List ℕ) (again : List Entry) : Type 0 where
  pub before : List Entry
  pub old : Entry
  pub behind : List Entry
  pub here : Entry
  pub entries_are : entries ≡ before ++ old ∷ behind
  pub at : n ≡ length before
  pub again_are : again ≡ map (moved code.contents place.contents) before ++ here ∷ map (moved old.end here.end) behind
  pub starts : here.start ≡ place.contents + (old.start - code.contents)
  pub ends : here.end + (code.end - old.end) ≡ place.end
  pub contents_at : here.contents ≡ here.start + length (shortest (length contents))
  pub spelled : slice_range new here.start here.end ≡ shortest (length contents) ++ contents

-- ---- for private functions

-- the entry can be moved so: it stands at the offset or behind it, and ends where a number of 64 bits says
pub record CanMove (from to : ℕ) (e : Entry) : Type 0 where
  pub first : from ≤ e.start
  pub sized : e.start ≤ e.contents
  pub ordered : e.contents ≤ e.end
  pub fits : to + (e.end - from) < 2 ^ 64

-- those before the n-th entry can be moved so, and those behind it as its end is
pub record CanMoveAround (entries : List Entry) (n from to end : ℕ) : Type 0 where
  pub before : List Entry
  pub old : Entry
  pub behind : List Entry
  pub entries_are : entries ≡ before ++ old ∷ behind
  pub at : n ≡ length before
  pub before_can : All (CanMove from to) before
  pub behind_can : All (CanMove old.end end) behind
