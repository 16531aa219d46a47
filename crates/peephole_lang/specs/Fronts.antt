-- How the code finds a variant by what begins its texts (this project): for private functions alone.
use Rattle.std.specs.Prelude.{ℕ, List, codes, ◌==◌, ◌&&◌, if◌then◌else◌}
use Rattle.std.specs.List.{starts_with, ends_with}
use Rattle.std.specs.Cmp.Lexicographic.{slice_cmp}
use Rattle.std.specs.Ordering.{nat_cmp}
use Rattle.std.specs.declared.cmp.Ordering.{Ordering}
use Rattle.std.specs.declared.cmp.Ordering.TheVariants.{Equal}

-- where a front stands against a text: `Equal` where the text is the front, or begins with it and the front ends in a dot; else as the two are ordered as
-- texts
abbrev pub front_order : List ℕ → List ℕ → Ordering
front_order front text =
    if ends_with (λ c d. c == d) front (codes ".") && starts_with (λ c d. c == d) text front then Equal else slice_cmp nat_cmp front text
