-- When two nodes are equal (this project): but for how much memory a list of children keeps for more.
use Rattle.std.specs.Prelude.{◌≡◌, ℕ, List}
use Rattle.peephole_nodes.specs.declared.id.Id.{Id}
use Rattle.peephole_lang.specs.declared.lang.Lang.{Lang}
use Rattle.peephole_lang.specs.declared.lang.Lang.TheVariants.{Container, Call}

-- the node is a `Container` of these children
abbrev pub IsContainer : List Id → Lang → Type 0
IsContainer ids (Container children) = ids ≡ children.items
IsContainer ids _ = ⊥

-- the node is a `Call` of that function with these children
abbrev pub IsCall : ℕ → List Id → Lang → Type 0
IsCall function ids (Call p children) = (function ≡ p) × (ids ≡ children.items)
IsCall function ids _ = ⊥

unfoldable pub IsEqual : Lang → Lang → Type 0
IsEqual (Container children) m = IsContainer children.items m
IsEqual (Call p children) m = IsCall p children.items m
IsEqual l m = l ≡ m
