-- Reading a value from each of some words.
use Rattle.std.proofs.Common.{List, ◌++◌, Some, None}
use Rattle.std.specs.Prelude.{Option}

-- the values of the words so far, before those of the words that are left
abbrev pub after_front : {A : Type 0} → List A → Option (List A) → Option (List A)
after_front front None = None
after_front front (Some values) = Some (front ++ values)
