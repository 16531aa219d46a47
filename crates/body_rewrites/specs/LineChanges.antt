-- That a line of the table writes what may stand in its place (this project).
use Rattle.std.specs.Prelude.{ℕ, ◌+◌, List}
use Rattle.wasm_code.specs.declared.operator.Operator.{Operator}
use Rattle.wasm_execution.specs.Values.{Context}
use Rattle.body_rewrites.specs.declared.places.Line.{Line}
use Rattle.body_rewrites.specs.declared.places.Place.{Place}
use Rattle.body_rewrites.specs.Places.{IsLine, IsFoundPlaceOf}
use Rattle.body_rewrites.specs.Changes.{MayStand}
use Rattle.body_rewrites.specs.Writing.{by_line}

-- What a line of the table writes in its place may stand there.
abbrev pub LineChangesMayStand : Type 0
LineChangesMayStand =
    (context : Context) (operators : List (Operator × ℕ)) (line : Line) (at : ℕ) (place : Place) → IsLine line →
    IsFoundPlaceOf context operators line (at + 1) place → MayStand context operators at (by_line line place)
