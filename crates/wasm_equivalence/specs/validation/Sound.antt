-- Valid code and valid bodies are never stuck (this project, after the WebAssembly Core Specification 3.0, Appendix, Type Soundness).
use Rattle.std.specs.Prelude.{◌≡◌, Contains, ℕ, suc, false, List, [], ◌∷◌, ◌++◌, drop, slice_get, Some, ⊤}
use Rattle.std.specs.List.{All}
use Rattle.wasm_code.specs.Instruction.{Instruction}
use Rattle.wasm_code.specs.declared.operator.Operator.{Operator}
use Rattle.wasm_code.specs.declared.other.Other.{Other}
use Rattle.wasm_code.specs.declared.operator.Operator.TheVariants as op
use Rattle.wasm_types.specs.Module.{Module}
use Rattle.wasm_types.specs.declared.types.PrimitiveTypeInfo.{PrimitiveTypeInfo}
use Rattle.wasm_execution.specs.Values.{asked_types, Value, IsValue, types, Context, State, HasTypes, Outcome, Ends, Traps, Stuck}
use Rattle.wasm_execution.specs.Machine.{run}
use Rattle.wasm_equivalence.specs.control.Function.{structural, Reached, At, Done, Control, runs, passes}
use Rattle.wasm_equivalence.specs.control.Blocks.{function_arity, Role, handles, tries, does, role_of, parts_from}
use Rattle.wasm_equivalence.specs.control.Standard.{Caught, branches, begins, delegated, Deed, gives, jumps, breaks, enters, returns, Beyond, calls, standard}
use Rattle.wasm_equivalence.specs.validation.Algorithm.{known, Frame, check_code, check}
use Rattle.wasm_equivalence.specs.validation.StandardSteps.{body_frame, standard_steps}
use Rattle.wasm_equivalence.specs.validation.StaysValid.{StaysValid}
use Rattle.wasm_equivalence.specs.control.Wider.{wider_module, wider}

-- the frame's operands are those values' types, and its code is reached
pub record HasValues (f : Frame) (vs : List Value) : Type 0 where
  pub operands_are : f.operands ≡ known (types vs)
  pub reached : f.unreachable ≡ false

-- It ends with the frame's values above those below, or traps; it is never stuck.
abbrev pub EndsIn : Context → (below : List Value) → Frame → Outcome → Type 0
EndsIn context below f (Ends us s) = (vs : List Value) × (us ≡ below ++ vs) × HasValues f vs × All IsValue us × HasTypes context s
EndsIn context below f (Traps c gs r) = ⊤
EndsIn context below f Stuck = ⊥

-- Code that is valid on a frame runs from every stack with the frame's values on top.
abbrev pub ValidCodeRuns : Type 0
ValidCodeRuns =
    (context : Context) (code : List Instruction) (f g : Frame) (below vs : List Value) (s : State) → check_code context code f ≡ Some g →
    HasValues f vs → All IsValue (below ++ vs) → HasTypes context s → EndsIn context below g (run code (below ++ vs) s)

-- The standard's algorithm accepts the body of a function with these results, as far as types go, and where its other operators have the types that `beyond`
-- tells.
abbrev pub IsValid : Context → (results : List PrimitiveTypeInfo) → Beyond → (body : List Operator) → Type 0
IsValid context results beyond body =
    check context (standard_steps context.info results (structural body) beyond) 0 body (body_frame results ∷ []) ≡ Some []

-- the call takes and gives what that function type says
abbrev pub IsCallOf : Module → (type : ℕ) → Instruction → Type 0
IsCallOf m type i = asked_types m i (function_arity (slice_get m.types type)).starts ≡ Some (function_arity (slice_get m.types type)).ends

-- What a call through a table comes to is the call of a function of its type, or a trap.
abbrev pub HasTargets : Module → (structure : List Operator) → Beyond → Type 0
HasTargets m structure beyond =
    (k type table rest : ℕ) (place : Value) (i : Instruction) → slice_get structure k ≡ Some (op.CallIndirect type table) →
    beyond.target k place rest ≡ calls i → IsCallOf m type i

-- What another operator comes to is of its types; a call is one that a world is asked for, of a function of the module or of a foreign one, and gives the
-- function's results where it then returns.
abbrev pub IsDeed : Module → (results : List PrimitiveTypeInfo) → Beyond → (k : ℕ) → Deed → Type 0
IsDeed m results beyond k (gives vs r) = (beyond.leaves k ≡ Some (types vs)) × All IsValue vs
IsDeed m results beyond k (jumps l vs r) = (beyond.label k ≡ Some (l, types vs)) × All IsValue vs
IsDeed m results beyond k (breaks mark r) = ⊤
IsDeed m results beyond k (enters i vs) =
    (ts : List PrimitiveTypeInfo) × (beyond.leaves k ≡ Some ts) × (asked_types m i (types vs) ≡ Some ts) × All IsValue vs
IsDeed m results beyond k (returns i vs) = (asked_types m i (types vs) ≡ Some results) × All IsValue vs

-- What a block makes of an exception is of its types: a `try_table` branches to one of its labels; a `try` begins one of its parts, or delegates.
abbrev pub IsCaught : List Operator → Beyond → (k : ℕ) → Role → Caught → Type 0
IsCaught structure beyond k handles (branches l vs r) = Contains (beyond.clauses k) (l, types vs) × All IsValue vs
IsCaught structure beyond k handles c = ⊥
IsCaught structure beyond k tries (begins j vs r) = Contains (parts_from 0 (suc k) (drop (suc k) structure)) j × (types vs ≡ beyond.takes j) × All IsValue vs
IsCaught structure beyond k tries (delegated l) = ⊤
IsCaught structure beyond k tries (branches l vs r) = ⊥
IsCaught structure beyond k role c = ⊤

-- On operands of its types every other operator of a function with these results comes to what is of its types, and so do exceptions in blocks that catch
-- them.
pub record HasDeeds (m : Module) (results : List PrimitiveTypeInfo) (structure : List Operator) (beyond : Beyond) : Type 0 where
  pub deeds : (k : ℕ) (o : Other) (operands : List Value) (rest : ℕ) → slice_get structure k ≡ Some (op.Other o) → role_of o ≡ does →
      types operands ≡ beyond.takes k → All IsValue operands → IsDeed m results beyond k (beyond.deed k operands rest)
  pub caught : (k mark rest : ℕ) (o : Other) (c : Caught) → slice_get structure k ≡ Some (op.Other o) → beyond.catcher k mark rest ≡ Some c →
      IsCaught structure beyond k (role_of o) c

-- Where it is done, the function has ended with values of these types, or has trapped; it is never stuck.
abbrev pub EndsWith : (results : List PrimitiveTypeInfo) → Reached → Type 0
EndsWith results (At k labels stack s) = ⊤
EndsWith results (Done (Ends vs s)) = (types vs ≡ results) × All IsValue vs
EndsWith results (Done (Traps c gs r)) = ⊤
EndsWith results (Done Stuck) = ⊥

-- A valid body ends with its results or traps under the standard's control, and is never stuck, from every state of its types.
abbrev pub ValidBodiesRun : Type 0
ValidBodiesRun =
    (context : Context) (results : List PrimitiveTypeInfo) (body : List Operator) (beyond : Beyond) → IsValid context results beyond body →
    HasTargets context.info (structural body) beyond → HasDeeds context.info results (structural body) beyond → (fuel : ℕ) (s : State) →
    HasTypes context s → EndsWith results (runs (standard context.info results (structural body) beyond) body fuel (At 0 [] [] s))

-- Fuel loses nothing: a run of so many laps is one of some number of pieces; and where a valid body's run ends within so many pieces, it ends so within as
-- many laps.
pub record LapsArePasses : Type 0 where
  pub some_passes : (control : Control) (body : List Operator) (fuel : ℕ) (p : Reached) →
      (count : ℕ) × (runs control body fuel p ≡ passes control body count p)
  pub enough : (context : Context) (results : List PrimitiveTypeInfo) (body : List Operator) (beyond : Beyond) → IsValid context results beyond body →
      HasTargets context.info (structural body) beyond → HasDeeds context.info results (structural body) beyond →
      (count : ℕ) (s : State) (o : Outcome) → HasTypes context s →
      passes (standard context.info results (structural body) beyond) body count (At 0 [] [] s) ≡ Done o →
      runs (standard context.info results (structural body) beyond) body count (At 0 [] [] s) ≡ Done o

-- And the body that stays valid is accepted by the standard's algorithm in the module with further globals.
abbrev pub ValidBodiesStayValid : Type 0
ValidBodiesStayValid =
    (context : Context) (input : List ℕ) (requests results : List PrimitiveTypeInfo) (beyond : Beyond) (old new : List Operator) →
    IsValid context results beyond old → StaysValid context (wider input requests context) old new →
    IsValid (wider input requests context) results beyond new

-- Its calls through tables come to functions of their types there too.
abbrev pub TargetsStay : Type 0
TargetsStay =
    (m : Module) (input : List ℕ) (more : List PrimitiveTypeInfo) (structure : List Operator) (beyond : Beyond) → HasTargets m structure beyond →
    HasTargets (wider_module input more m) structure beyond

-- So do its other operators.
abbrev pub DeedsStay : Type 0
DeedsStay =
    (m : Module) (input : List ℕ) (more results : List PrimitiveTypeInfo) (structure : List Operator) (beyond : Beyond) →
    HasDeeds m results structure beyond → HasDeeds (wider_module input more m) results structure beyond
