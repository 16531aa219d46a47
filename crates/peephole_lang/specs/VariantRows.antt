-- What the code's table says of a variant (this project).
use Rattle.std.specs.Prelude.{ℕ, List, Option, Some, None}
use denote.Ref.{Bor}
use Rattle.peephole_nodes.specs.Variants.{Variant}
use Rattle.peephole_lang.specs.declared.variants.VariantRow.{VariantRow}

-- the variant without its name
abbrev pub variant_row : Variant → VariantRow
variant_row v = record { place = v.place; payload = v.payload; children = v.children }

-- a row and a text that a function gives
abbrev pub variant_row_given : Option (VariantRow × Bor (List ℕ)) → Option (VariantRow × List ℕ)
variant_row_given None = None
variant_row_given (Some x) = Some (x.0, x.1.now)

-- the row of the variant that was found, and the text of the payload
abbrev pub found : Option (Variant × List ℕ) → Option (VariantRow × List ℕ)
found None = None
found (Some x) = Some (variant_row x.0, x.1)

-- the place of the variant that was found
abbrev pub place_found : Option (Variant × List ℕ) → Option ℕ
place_found None = None
place_found (Some x) = Some x.0.place
