-- Why operators have no graph, as a function: the first operator at fault decides. This project's rule.
use Rattle.std.specs.Prelude.{ℕ, ◌≡◌, ◌↔◌, nat_le, nat_lt, Bool, ◌&&◌, List, [], ◌∷◌, reverse, Option, Some, None, Result, Ok, Err, if◌then◌else◌}
use Rattle.std.specs.Option.{option_or}
use Rattle.wasm_code.specs.declared.operator.Operator.{Operator}
use Rattle.wasm_types.specs.Module.{Module}
use Rattle.peephole_graphs.specs.Shape.{Shape, Judged, Fits, Unfit, Unknown, judge, AreFit, shapes_of_block}
use Rattle.peephole_graphs.specs.Tree.{full_size}
use Rattle.peephole_graphs.specs.Forest.{forest}
use Rattle.peephole_graphs.specs.Color.{color_after}
use Rattle.peephole_graphs.specs.Source.{Source}
use Rattle.peephole_graphs.specs.GraphOf.{IsSmall, HasNoGraph, CallsUnknown, OperatorIsTooLarge}

-- no graph holds the operator, or it calls the function with that index, which isn't known, or its index or its colour does not fit
pub data Fault : Type 0 where
  held_by_none : Fault
  calls_unknown : ℕ → Fault
  too_large : Fault

-- The operator's index in the graph, behind those of its missing operands, has 32 bits, and its colour is below that of a missing operand.
abbrev pub has_room : Bool → List Shape → Shape → Bool
has_room preserving block s = nat_le (full_size (forest (s ∷ block))) 4294967296 && nat_lt (color_after preserving block) 4294967295

-- the fault of the operator behind a block
abbrev pub fault_behind : Bool → List Shape → Judged → Option Fault
fault_behind preserving block Unfit = Some held_by_none
fault_behind preserving block (Unknown function) = Some (calls_unknown function)
fault_behind preserving block (Fits s) = if has_room preserving block s then None else Some too_large

-- the first fault among operators, of which the last one stands first
abbrev pub fault_among : Module → Bool → List (Operator × ℕ) → Option Fault
fault_among info preserving [] = None
fault_among info preserving (o ∷ earlier) = option_or (fault_among info preserving earlier)
    (fault_behind preserving (shapes_of_block info (reverse earlier)) (judge info o.0))

-- the first fault among a block's operators
abbrev pub block_fault_of : Module → Bool → List (Operator × ℕ) → Option Fault
block_fault_of info preserving operators = fault_among info preserving (reverse operators)

-- a value, or the fault where there is one
abbrev pub unless : {A : Type 0} → Option Fault → A → Result A Fault
unless None x = Ok x
unless (Some fault) x = Err fault

-- the block of operators that have a graph, as the theory has it, or their first fault
abbrev pub shapes_or_fault : Module → Bool → List (Operator × ℕ) → Result (List Shape) Fault
shapes_or_fault info preserving operators = unless (block_fault_of info preserving operators) (shapes_of_block info operators)

-- ---- the function says what the relations say

-- there is no fault exactly where the operators fit and are small
abbrev pub HasNoFault : Type 0
HasNoFault = (info : Module) (preserving : Bool) (operators : List (Operator × ℕ)) →
    (block_fault_of info preserving operators ≡ None) ↔ (AreFit info operators × IsSmall preserving (shapes_of_block info operators))

-- it answers `held_by_none` exactly where the first operator at fault is one that no graph holds
abbrev pub FindsNoGraph : Type 0
FindsNoGraph = (s : Source) → (block_fault_of s.info s.preserving s.operators ≡ Some held_by_none) ↔ HasNoGraph s

-- `calls_unknown` exactly where it calls the function, and that one isn't known
abbrev pub FindsUnknown : Type 0
FindsUnknown = (s : Source) (function : ℕ) → (block_fault_of s.info s.preserving s.operators ≡ Some (calls_unknown function)) ↔ CallsUnknown s function

-- and `too_large` exactly where its index or its colour does not fit
abbrev pub FindsTooLarge : Type 0
FindsTooLarge = (s : Source) → (block_fault_of s.info s.preserving s.operators ≡ Some too_large) ↔ OperatorIsTooLarge s
