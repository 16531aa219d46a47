-- What is told of a row of the table, of its size, and what its rewrites do (this project).
use Rattle.std.specs.Prelude.{◌≡◌}
use Rattle.rewrite_rules.specs.declared.growth.Growth as told
use Rattle.rewrite_rules.specs.declared.growth.Growth.TheVariants as rows
use Rattle.body_rewrites.specs.declared.growth.Growth.{Growth}
use Rattle.body_rewrites.specs.declared.growth.Growth.TheVariants.{Shrinks, Keeps}

-- By a row that is told to shrink there are fewer operators, by one that is told to keep as many; of others nothing is told.
abbrev pub IsAsTold : told.Growth → Growth → Type 0
IsAsTold rows.Shrinks kind = kind ≡ Shrinks
IsAsTold rows.Keeps kind = kind ≡ Keeps
IsAsTold rows.Grows kind = Unit {0}
