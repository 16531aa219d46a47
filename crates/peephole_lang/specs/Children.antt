-- The children of a node as a value of its own: one id, several, or any number of them (this project).
use Rattle.std.specs.Prelude.{◌≡◌, ℕ, List, [], ◌∷◌, length, slice_index_or, Option, Some, None, Result, Ok, Err}
use Rattle.peephole_payloads.specs.declared.term_error.TermError.{TermError}
use Rattle.peephole_nodes.specs.declared.id.Id.{Id}
use Rattle.peephole_nodes.specs.View.{lone_child}
use Rattle.peephole_nodes.specs.Written.{ids_written}

-- the value of these ids, or what is wrong with their number
abbrev pub IsMadeOfIds : {C : Type 0} → (C → List Id) → (ℕ → Option TermError) → List Id → Result C TermError → Type 0
IsMadeOfIds ids wrong given (Ok c) = (wrong (length given) ≡ None) × (ids c ≡ given)
IsMadeOfIds ids wrong given (Err e) = wrong (length given) ≡ Some e

abbrev pub only : Id → List Id
only id = id ∷ []

abbrev pub with_only : Id → List Id → Id
with_only id w = slice_index_or w 0 id

pub only_one : (c d : Id) → only c ≡ only d → c ≡ d
only_one c d e = cc

pub only_same : (c d : Id) → c ≡ d → only c ≡ only d
only_same c d e = λ i. only (e i)

pub only_written : (c : Id) (w : List Id) → length w ≡ length (only c) → only (with_only c w) ≡ w
only_written c w e = ids_written (lone_child c) w e
