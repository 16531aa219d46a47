-- What of a module may be rewritten, how large a new one may be, whether it is made smaller, and whether what runs it is exact (this project).
use Rattle.std.specs.Prelude.{◌≡◌, ℕ, Bool, if◌then◌else◌, min, max, List, [], ◌∷◌, length, Option}
use Rattle.wasm_types.specs.Module.{Module}
use Rattle.rewrite_rules.specs.declared.rule.Rule.{Rule}
use Rattle.body_rewrites.specs.declared.growth.Growth.{Growth}
use Rattle.body_rewrites.specs.declared.growth.Growth.TheVariants.{Shrinks, Keeps}
use Rattle.body_rewrites.specs.Choice.{growths}

-- by which rules, in which function alone where one is named, by its index among all functions, how many bytes a new module may have at most, and whether each
-- rewrite is to make the module smaller: it leaves no more operators, and the module comes before the old one in the order of size; and whether what runs the
-- module is exact
pub record Scope : Type 0 where
  pub rules : List Rule
  pub function : Option ℕ
  pub most : ℕ
  pub shrinking : Bool
  pub exact : Bool

-- what is known of the module says as the scope whether what runs it is exact
abbrev pub IsMarked : Scope → Module → Type 0
IsMarked scope info = info.exact ≡ scope.exact

-- what a rewrite may do to the number of operators: leave fewer or as many, where it is to make the module smaller, or else anything
abbrev pub wanted_of : Scope → List Growth
wanted_of scope = if scope.shrinking then Shrinks ∷ Keeps ∷ [] else growths

-- how many attempts are made at most at entries that words name, or at the function that is named: 16; where rewrites are to make the module smaller, as many
-- as it has bytes, but no fewer than 16 and no more than 4096
abbrev pub draws_of : Scope → (bytes : List ℕ) → ℕ
draws_of scope bytes = if scope.shrinking then max 16 (min 4096 (length bytes)) else 16
