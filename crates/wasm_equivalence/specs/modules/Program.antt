-- A module as its functions: worlds in which a call of an own function is a run of its body, by the depth of calls (this project).
use Rattle.std.specs.Prelude.{◌≡◌, ◌≢◌, ℕ, zero, suc, ◌==◌, Bool, ◌&&◌, if◌then◌else◌, List, [], ◌∷◌, ◌++◌, Option, Some, None, option_map, ⊤}
use Rattle.wasm_code.specs.declared.table.Opcode.{Opcode}
use Rattle.wasm_code.specs.declared.table.Opcode.TheVariants.{Byte}
use Rattle.wasm_code.specs.declared.immediate.Imm.{Imm}
use Rattle.wasm_code.specs.declared.immediate.Imm.TheVariants as imm
use Rattle.wasm_code.specs.declared.operator.Operator.{Operator}
use Rattle.wasm_code.specs.Instruction.{Instruction}
use Rattle.wasm_code.specs.Table.{row_at, opcode_in}
use Rattle.wasm_types.specs.Module.{Module}
use Rattle.wasm_types.specs.declared.types.PrimitiveTypeInfo.{PrimitiveTypeInfo}
use Rattle.wasm_execution.specs.Values.{same_types, asked_types, Value, types, Context, context_in, Answer, Gives, Fails, unfinished, stuck}
use Rattle.wasm_execution.specs.Values.{World, State, IsSound, own_globals, HasTypes, Ends, Traps, Stuck}
use Rattle.wasm_equivalence.specs.control.Numbers.{are_values}
use Rattle.wasm_equivalence.specs.control.Function.{structural, Reached, At, Done, Control, runs, IsSoundControl, EndsAlike}

-- ---- calls

-- the index that the opcode of `call` has behind it; none of any other instruction
abbrev pub opcode_callee : Option Opcode → Imm → Option ℕ
opcode_callee (Some (Byte byte)) (imm.Index f) = if byte == 0x10 then Some f else None
opcode_callee o i = None

-- the index of the function that the instruction calls, where it is a call
unfoldable pub callee : Instruction → Option ℕ
callee i = opcode_callee (opcode_in (row_at i.row)) i.imm

-- ---- programs

-- a function of the module: the types of its parameters and of its further locals, and its operators
pub record Body : Type 0 where
  pub params : List PrimitiveTypeInfo
  pub locals : List PrimitiveTypeInfo
  pub operators : List Operator

-- the functions that a module has bodies of, by their indices
abbrev pub Program : Type 0
Program = ℕ → Option Body

-- what the structural operators of a function do, by its index and these operators
abbrev pub Controls : Type 0
Controls = (f : ℕ) (structure : List Operator) → Control

-- a function of the module that has a body: its index, and the body
pub record Callee : Type 0 where
  pub index : ℕ
  pub body : Body

-- the own function that an instruction calls
abbrev pub own_callee : Program → Option ℕ → Option Callee
own_callee p None = None
own_callee p (Some f) = option_map (λ b. record { index = f; body = b }) (p f)

-- ---- values

-- the default values that locals begin with; null is the mark 0
abbrev pub default_local_values : List PrimitiveTypeInfo → List Value
default_local_values [] = []
default_local_values (t ∷ ts) = record { type = t; number = 0 } ∷ default_local_values ts

-- values of these types
abbrev pub are_of : List PrimitiveTypeInfo → List Value → Bool
are_of ts vs = same_types (types vs) ts && are_values vs

-- ---- how a call ends

-- values of the results' types; a body that ends with others is stuck
abbrev pub ended : (results : List PrimitiveTypeInfo) → List Value → State → Answer
ended results us s =
    if same_types (types us) results then Gives us (own_globals s) s.rest else Fails stuck (own_globals s) s.rest

-- what a run of a body says to its caller: its values, its trap, that it hasn't ended, or that it was stuck
abbrev pub answer_of : (results : List PrimitiveTypeInfo) → Reached → Answer
answer_of results (Done (Ends us s)) = ended results us s
answer_of results (Done (Traps cause gs r)) = Fails cause gs r
answer_of results (Done Stuck) = Fails stuck [] 0
answer_of results (At k labels stack s) = Fails unfinished (own_globals s) s.rest

-- the types, or where they aren't known those of no results
abbrev pub results_or_none : Option (List PrimitiveTypeInfo) → List PrimitiveTypeInfo
results_or_none (Some ts) = ts
results_or_none None = []

-- ---- hosts

-- what instructions answer, by their operands, the module's globals and the rest
abbrev pub Answering : Type 0
Answering = Instruction → (operands globals : List Value) → (rest : ℕ) → Answer

-- the world of a module in which they answer that; nothing stands behind the module's globals
abbrev pub world_with : Module → Answering → World
world_with info a = record { info = info; answer = a; others = λ i vs gs r more. more }

-- Whatever is no call of an own function: where no call of one ends, and over what such calls answer, since an import may call exports.
pub record Host : Type 0 where
  pub info : Module
  pub base : Answering
  pub over : Answering → Answering

-- a host that calls no export
abbrev pub plain : World → Host
plain w = record { info = w.info; base = w.answer; over = λ a. w.answer }

-- Sound where no call ends, and over calls of which that holds.
pub record IsSoundHost (host : Host) : Type 0 where
  pub base_sound : IsSound (world_with host.info host.base)
  pub over_sound : (a : Answering) → IsSound (world_with host.info a) → IsSound (world_with host.info (host.over a))

-- ---- worlds

module _ (host : Host) (controls : Controls) (fuel : ℕ) where
  -- the run of a function's body in a world, with these operands, globals and rest, of as many laps as the fuel says
  abbrev pub call : Callee → World → (operands globals : List Value) → (rest : ℕ) → Reached
  call c w vs gs r =
      runs (controls c.index (structural c.body.operators)) c.body.operators fuel
      (At 0 [] [] (record { locals = vs ++ default_local_values c.body.locals; globals = gs; rest = r; world = w }))

  -- operands of the parameters' types, and globals of the module's
  abbrev pub can_call : Callee → (operands globals : List Value) → Bool
  can_call c vs gs = are_of c.body.params vs && are_of host.info.globals gs

  -- At depth zero no call of an own function ends.
  abbrev pub answer_at_once : Option Callee → Answer → (globals : List Value) → (rest : ℕ) → Answer
  answer_at_once None a gs r = a
  answer_at_once (Some c) a gs r = Fails unfinished gs r

  -- An own function's body runs in the world of calls one less deep; the host does the rest.
  abbrev pub answer_in : Answering → Option Callee → Instruction → (operands globals : List Value) → (rest : ℕ) → Answer
  answer_in a None i vs gs r = host.over a i vs gs r
  answer_in a (Some c) i vs gs r =
      if can_call c vs gs then answer_of (results_or_none (asked_types host.info i (types vs))) (call c (world_with host.info a) vs gs r)
      else Fails stuck gs r

  -- what calls up to a depth answer
  abbrev pub answers : Program → (depth : ℕ) → Answering
  answers p zero i vs gs r = answer_at_once (own_callee p (callee i)) (host.base i vs gs r) gs r
  answers p (suc depth) i vs gs r = answer_in (answers p depth) (own_callee p (callee i)) i vs gs r

  -- the world of these
  abbrev pub world : Program → (depth : ℕ) → World
  world p depth = world_with host.info (answers p depth)

-- ---- programs alike

-- a function's parameters and locals, in the module
abbrev pub function_context : Module → Body → Context
function_context info b = context_in info (b.params ++ b.locals)

-- The function's control is sound, and the function is never stuck, as validation makes sure.
pub record IsSoundBody (info : Module) (control : List Operator → Control) (b : Body) : Type 0 where
  pub sound : IsSoundControl (function_context info b) (control (structural b.operators))
  pub free : (fuel : ℕ) (s : State) → HasTypes (function_context info b) s →
      runs (control (structural b.operators)) b.operators fuel (At 0 [] [] s) ≢ Done Stuck

-- so is each function that has a body
abbrev pub AreSound : Module → Controls → Program → Type 0
AreSound info controls p = (f : ℕ) (b : Body) → p f ≡ Some b → IsSoundBody info (controls f) b

-- The rewritten function has the old one's parameters and locals, and ends as it does, whatever stands behind the module's globals; the old one is sound.
pub record FunctionIsRewritten (info : Module) (requests : List PrimitiveTypeInfo) (control : List Operator → Control) (old new : Body) : Type 0 where
  pub params_are : old.params ≡ new.params
  pub locals_are : old.locals ≡ new.locals
  pub alike : EndsAlike (function_context info old) requests (control (structural old.operators)) (control (structural new.operators)) old.operators
      new.operators
  pub runs : IsSoundBody info control old

-- both modules have a body, the new one rewritten from the old one, or neither has one
abbrev pub BothRewritten : Module → (requests : List PrimitiveTypeInfo) → (List Operator → Control) → Option Body → Option Body → Type 0
BothRewritten info requests control (Some old) (Some new) = FunctionIsRewritten info requests control old new
BothRewritten info requests control None None = ⊤
BothRewritten info requests control old new = ⊥

-- Both modules have bodies of the same functions, and each new one is the old one rewritten.
abbrev pub AreRewritten : Module → (requests : List PrimitiveTypeInfo) → Controls → (old new : Program) → Type 0
AreRewritten info requests controls old new = (f : ℕ) → BothRewritten info requests (controls f) (old f) (new f)
