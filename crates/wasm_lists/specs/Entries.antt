-- The entries of the code section: where they stand in a module (WebAssembly Core Specification 3.0, Binary Format, Modules,
-- Code Section).
use Rattle.std.specs.Prelude.{◌≡◌, ℕ, ◌+◌, List, [], ◌∷◌, length}
use Rattle.wasm_code.specs.declared.fault.Cause.{Cause}
use Rattle.wasm_code.specs.Grammar.{AreBytes, LacksBytes, Of, Then, FailsThen}
use Rattle.wasm_code.specs.Number.{SpellsUnsigned, FailsUnsigned}
use Rattle.wasm_lists.specs.declared.entries.Entry.{Entry}
use Rattle.wasm_lists.specs.List.{SpellsList}

-- the text spells the value (first), and has so many bytes (second)
pub record Measured {A : Type 0} (Spells : List ℕ → A → Type 0) (text : List ℕ) (x : A × ℕ) : Type 0 where
  pub spells : Spells text x.0
  pub bytes : length text ≡ x.1

-- A size, and that many bytes; kept are the size (first) and how many bytes spell it (second).
abbrev pub SpellsMeasuredSize : List ℕ → ℕ × ℕ → Type 0
SpellsMeasuredSize = Then (Measured (SpellsUnsigned 32)) (λ size. Of (λ _. size) (AreBytes size.0))

-- No size begins the bytes, or fewer bytes follow it.
abbrev pub FailsSized : List ℕ → Cause → Type 0
FailsSized = FailsThen (FailsUnsigned 32) (Measured (SpellsUnsigned 32)) (λ size. LacksBytes size.0)

-- the entries of such sizes, one after another, the first of which starts at the offset
abbrev pub entries_from : ℕ → List (ℕ × ℕ) → List Entry
entries_from start [] = []
entries_from start (size ∷ sizes) =
    record { start = start; contents = start + size.1; end = start + size.1 + size.0 } ∷ entries_from (start + size.1 + size.0) sizes

-- The text is a list of sizes with their bytes, and these are its entries; the text's first byte has the offset `start`
-- (`list.front` spells the number of the entries).
pub record SpellsEntries (start : ℕ) (text : List ℕ) (entries : List Entry) : Type 0 where
  pub sizes : List (ℕ × ℕ)
  pub list : SpellsList SpellsMeasuredSize text sizes
  pub placed : entries ≡ entries_from (start + length list.front) sizes
