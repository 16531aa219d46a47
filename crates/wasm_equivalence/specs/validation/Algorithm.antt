-- Validation of bodies, as the standard's algorithm does it: each operator changes the control frames, of which the innermost has the stack of operand
-- types (WebAssembly Core Specification 3.0, Appendix, Validation Algorithm). What structural operators do there may be any function.
use Rattle.std.specs.Prelude.{ℕ, suc, ◌-◌, nat_le, Bool, true, false, ◌&&◌, ◌||◌, if◌then◌else◌, List, [], ◌∷◌, ◌++◌, length, map, take}
use Rattle.std.specs.Prelude.{drop, replicate, Option, Some, None, option_map, option_and_then}
use Rattle.wasm_code.specs.Instruction.{Instruction}
use Rattle.wasm_code.specs.declared.operator.Operator.{Operator}
use Rattle.wasm_code.specs.declared.operator.Operator.TheVariants.{Instr}
use Rattle.wasm_types.specs.declared.types.PrimitiveTypeInfo.{PrimitiveTypeInfo}
use Rattle.wasm_types.specs.declared.types.PrimitiveTypeInfo.TheVariants as primitive
use Rattle.wasm_execution.specs.OtherRow.{Operand, typed, reference, OtherType, names_in, other_type}
use Rattle.wasm_execution.specs.Values.{type_of, same_type, accepts, Context}
use Rattle.wasm_execution.specs.IntegerRow.{IntegerRow, constant, operation, get, set, tee, discard, select, nop, other, operand_count}
use Rattle.wasm_execution.specs.IntegerRow.{if_typed, variable_type, is_numeric, integer_row}

-- ---- operand types, of which some are unknown

-- a type; none where it is unknown, since the code isn't reached
abbrev pub OperandEntry : Type 0
OperandEntry = Option PrimitiveTypeInfo

-- it is the type, or unknown
abbrev pub may_be : OperandEntry → PrimitiveTypeInfo → Bool
may_be (Some t) u = same_type t u
may_be None u = true

-- as many operands as types, each its type or unknown
abbrev pub all_may_be : List OperandEntry → List PrimitiveTypeInfo → Bool
all_may_be [] [] = true
all_may_be (e ∷ es) (u ∷ us) = may_be e u && all_may_be es us
all_may_be es us = false

-- a number, a vector, or unknown
abbrev pub may_be_numeric : OperandEntry → Bool
may_be_numeric (Some t) = is_numeric t
may_be_numeric None = true

-- the known one of two
abbrev pub either_of : OperandEntry → OperandEntry → OperandEntry
either_of (Some t) e = Some t
either_of None e = e

-- both may be of one type
abbrev pub may_agree : OperandEntry → OperandEntry → Bool
may_agree e (Some t) = may_be e t
may_agree e None = true

-- an operand takes an unknown type where it takes any at all
abbrev pub operand_takes : Operand → OperandEntry → Bool
operand_takes o (Some t) = accepts o t
operand_takes (typed (Some t)) None = true
operand_takes (typed None) None = false
operand_takes reference None = true

-- as many operands as types, each taken
abbrev pub take_all : List Operand → List OperandEntry → Bool
take_all [] [] = true
take_all (o ∷ os) (e ∷ es) = operand_takes o e && take_all os es
take_all os es = false

-- types that are all known
abbrev pub known : List PrimitiveTypeInfo → List OperandEntry
known ts = map (λ (t : PrimitiveTypeInfo). Some t) ts

-- ---- instructions

-- what an instruction of that type gives; none where it takes other operands
abbrev pub other_entries : List OperandEntry → OtherType → Option (List OperandEntry)
other_entries es t = if_typed (take_all t.operands es) (known t.results)

-- What a row gives on these operands; none where it takes others. A drop takes any, and a select without a type any two that agree, of which it
-- gives the known one.
abbrev pub row_entries : Context → IntegerRow → List OperandEntry → Option (List OperandEntry)
row_entries context (constant t n) [] = Some (known (type_of t ∷ []))
row_entries context (operation f) es = if_typed (all_may_be es f.operands) (known (type_of f.result ∷ []))
row_entries context (get x) [] = option_and_then (λ u. Some (known (u ∷ []))) (variable_type context x)
row_entries context (set x) (e ∷ []) = option_and_then (λ u. if_typed (may_be e u) []) (variable_type context x)
row_entries context (tee x) (e ∷ []) = option_and_then (λ u. if_typed (may_be e u) (known (u ∷ []))) (variable_type context x)
row_entries context discard (e ∷ []) = Some []
row_entries context select (e ∷ d ∷ c ∷ []) =
    if_typed (may_be_numeric e && (may_be_numeric d && (may_agree d e && may_be c primitive.I32))) (either_of e d ∷ [])
row_entries context nop [] = Some []
row_entries context (other i) es = option_and_then (other_entries es) (other_type (names_in context.info i.imm) i)
row_entries context row es = None

-- ---- frames

-- what a block, a loop, a conditional or the body has open: its operator, where it has one, the types at its start and at its end, the operands above
-- those of the frames outside, the last on top, and whether the code is never reached
pub record Frame : Type 0 where
  pub opened : Option Operator
  pub starts : List PrimitiveTypeInfo
  pub ends : List PrimitiveTypeInfo
  pub operands : List OperandEntry
  pub unreachable : Bool

-- there are as many operands, or code that is never reached finds any
abbrev pub can_pop : ℕ → Frame → Bool
can_pop n f = nat_le n (length f.operands) || f.unreachable

-- the last of them; unknown ones below the frame's own
abbrev pub popped : ℕ → Frame → List OperandEntry
popped n f = replicate (n - length f.operands) None ++ drop (length f.operands - n) f.operands

-- others in their place
abbrev pub with_pushed : ℕ → Frame → List OperandEntry → Frame
with_pushed n f es = record f { operands = take (length f.operands - n) f.operands ++ es }

-- a row takes its operands from the innermost frame and pushes what it gives
abbrev pub check_row : Context → IntegerRow → Frame → Option Frame
check_row context row f =
    let n = operand_count context.info row in
    if can_pop n f then option_map (with_pushed n f) (row_entries context row (popped n f)) else None

-- the frame behind instructions that stand together; none where one of them takes other operands
abbrev pub check_code : Context → List Instruction → Frame → Option Frame
check_code context [] f = Some f
check_code context (i ∷ code) f = option_and_then (check_code context code) (check_row context (integer_row i) f)

-- ---- bodies

-- What a body's structural operators do, the k-th of them with the frames that it finds, the innermost first; none where it isn't valid there.
abbrev pub Structural : Type 0
Structural = (k : ℕ) → List Frame → Option (List Frame)

-- the step on the innermost frame, with those around it kept; none where no frame is open
abbrev pub on_innermost : (Frame → Option Frame) → List Frame → Option (List Frame)
on_innermost step [] = None
on_innermost step (f ∷ fs) = option_map (λ g. g ∷ fs) (step f)

-- the frames behind the operators, the first structural operator being the k-th; a body is valid where its last operator closes its own frame
abbrev pub check : Context → Structural → (k : ℕ) → List Operator → List Frame → Option (List Frame)
check context structural k [] frames = Some frames
check context structural k (Instr i ∷ os) frames =
    option_and_then (check context structural k os) (on_innermost (check_row context (integer_row i)) frames)
check context structural k (o ∷ os) frames = option_and_then (check context structural (suc k) os) (structural k frames)
