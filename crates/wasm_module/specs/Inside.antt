-- Where a code entry of a module stands in its bytes (this project).
use Rattle.std.specs.Prelude.{ℕ, ◌<◌, ◌≤◌, List, length}
use Rattle.wasm_lists.specs.declared.entries.Entry.{Entry}

-- The entry has a size of one byte or more, contents behind it, and ends inside the bytes.
pub record IsInside (bytes : List ℕ) (entry : Entry) : Type 0 where
  pub sized : entry.start < entry.contents
  pub ordered : entry.contents ≤ entry.end
  pub ends : entry.end ≤ length bytes
