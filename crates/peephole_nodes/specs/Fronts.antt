-- What begins the texts of a variant (this project).
use Rattle.std.specs.Prelude.{ℕ, List, [], ◌++◌, codes}
use Rattle.std.specs.Option.{option_map, unwrap_or}
use Rattle.peephole_nodes.specs.declared.payload.PayloadKind.{PayloadKind}
use Rattle.peephole_nodes.specs.declared.payload.PayloadKind.TheVariants as kind
use Rattle.peephole_nodes.specs.Variants.{Variant, variant_at}

abbrev pub dot_of : PayloadKind → List ℕ
dot_of kind.Nothing = []
dot_of _ = codes "."

-- the variant's name, and a dot where a payload follows
abbrev pub variant_front_of : Variant → List ℕ
variant_front_of v = v.name ++ dot_of v.payload

-- what begins the texts of the variant with that place
abbrev pub front_at : ℕ → List ℕ
front_at place = unwrap_or (option_map variant_front_of (variant_at place)) []
