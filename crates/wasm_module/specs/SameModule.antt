-- Other bytes that are the same module (this project).
use Rattle.std.specs.Prelude.{◌≡◌, ◌↔◌, ℕ, List, length, Some, None, slice_get, slice_range}
use Rattle.wasm_types.specs.Module.{Module}
use Rattle.wasm_lists.specs.declared.entries.Entry.{Entry}
use Rattle.wasm_module.specs.Module.{Layout, IsModule}
use Rattle.wasm_module.specs.Reread.{HasContents}

-- The new bytes are a module of which the same is known: its index spaces are those of the old one, indices are known where they were, and each code entry
-- contains what it contained.
pub record IsSameModule (bytes : List ℕ) (info : Module) (layout : Layout) (new : List ℕ) : Type 0 where
  pub again : Layout
  pub is : IsModule new (record info { input = new }) again
  pub imported : again.imported_functions ≡ layout.imported_functions
  pub imports : layout.unknown.imports ≡ None ↔ again.unknown.imports ≡ None
  pub globals : layout.unknown.globals ≡ None ↔ again.unknown.globals ≡ None
  pub count : length again.entries ≡ length layout.entries
  pub entries : (k : ℕ) (old : Entry) → slice_get layout.entries k ≡ Some old → HasContents new again.entries k (slice_range bytes old.contents old.end)
