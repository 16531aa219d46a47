-- What the front of bytes is (this project).
use Rattle.std.specs.Prelude.{ℕ, Bool, List, nat_eq}
use Rattle.std.specs.List.{starts_with}

-- the bytes begin with these
abbrev pub begins_with : (bytes front : List ℕ) → Bool
begins_with bytes front = starts_with nat_eq bytes front
