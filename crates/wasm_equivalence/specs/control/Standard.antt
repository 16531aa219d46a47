-- The standard's control: blocks, loops, conditionals, branches, returns and ends
-- (WebAssembly Core Specification 3.0, Execution, Instructions, Control Instructions).
use Rattle.std.specs.Prelude.{ℕ, zero, suc, ◌-◌, is_some, Bool, true, false, if◌then◌else◌, List, [], ◌∷◌, ◌++◌, length, take, drop}
use Rattle.std.specs.Prelude.{slice_get, Option, Some, None}
use Rattle.wasm_code.specs.declared.immediate.BlockType.{BlockType}
use Rattle.wasm_code.specs.declared.operator.Operator.{Operator}
use Rattle.wasm_code.specs.declared.operator.Operator.TheVariants as op
use Rattle.wasm_types.specs.Module.{Module}
use Rattle.wasm_types.specs.declared.types.PrimitiveTypeInfo.{PrimitiveTypeInfo}
use Rattle.wasm_types.specs.declared.types.PrimitiveTypeInfo.TheVariants as primitive
use Rattle.wasm_execution.specs.Values.{asked_types, types, Value, Answer, Gives, Fails, State, own_globals, further_globals, unreachable}
use Rattle.wasm_execution.specs.Values.{met, Ends, Traps, Stuck}
use Rattle.wasm_code.specs.Instruction.{Instruction}
use Rattle.wasm_equivalence.specs.control.Function.{Label, Reached, At, Done, Control}
use Rattle.wasm_equivalence.specs.control.Numbers.{are_values}
use Rattle.wasm_equivalence.specs.control.Blocks.{Arity, Role, arity_of, catches, closing, delegates, does, function_arity, handles}
use Rattle.wasm_equivalence.specs.control.Blocks.{other_part, parts_from, role_of, tries}

-- ---- stacks

-- the last n values
abbrev pub last_of : ℕ → List Value → List Value
last_of n stack = drop (length stack - n) stack

-- the stack down to a height, and on it the last n values
abbrev pub unwound : (height n : ℕ) → List Value → List Value
unwound height n stack = take height stack ++ last_of n stack

-- a condition that was popped chooses; no other value can
abbrev pub chosen : PrimitiveTypeInfo → ℕ → (taken other : Reached) → Reached
chosen primitive.I32 zero taken other = other
chosen primitive.I32 (suc n) taken other = taken
chosen t n taken other = Done Stuck

-- the one value that was popped chooses; of no value the run is stuck
abbrev pub choose_by_value : (popped : List Value) → (taken other : Reached) → Reached
choose_by_value (c ∷ []) taken other = chosen c.type c.number taken other
choose_by_value vs taken other = Done Stuck

-- ---- the control

-- what a call through a table comes to: the call of a function of the module, or of a foreign one, or a trap, with a mark of its cause
pub data Target : Type 0 where
  calls : Instruction → Target
  fails : (mark : ℕ) → Target

-- what a block makes of an exception inside: it branches to a label outside with these values; begins the part of its own with that number, with them on
-- the stack; the rest is then that; or it leaves the exception to the blocks from that label on
pub data Caught : Type 0 where
  branches : (label : ℕ) → (values : List Value) → (rest : ℕ) → Caught
  begins : (part : ℕ) → (values : List Value) → (rest : ℕ) → Caught
  delegated : (label : ℕ) → Caught

-- what another operator comes to: it goes on with these values in the place of its operands, or branches to a label with them; traps, or throws, with a
-- mark of the cause; is the call of a function with these operands; or is such a call and returns. The rest, where memories, tables and objects are, is
-- then that.
pub data Deed : Type 0 where
  gives : (values : List Value) → (rest : ℕ) → Deed
  jumps : (label : ℕ) → (values : List Value) → (rest : ℕ) → Deed
  breaks : (mark : ℕ) → (rest : ℕ) → Deed
  enters : Instruction → (operands : List Value) → Deed
  returns : Instruction → (operands : List Value) → Deed

-- What an operator here doesn't carry, by its number: the labels of a branch by a table, its default one, and what a call through a table comes to, by its
-- last operand and the rest, where the tables are. Of another operator the types of its operands, what it comes to, by these and the rest; the types of
-- what it leaves, none where it never goes on; and the label that it may branch to, with the types of what it then leaves, where there is one. Of a block that
-- catches exceptions, and of a part that begins with one, what it takes and leaves; what the block makes of an exception with a mark, where it catches it; and
-- the labels that a `try_table` may then branch to, with the types of the values.
pub record Beyond : Type 0 where
  pub labels : (k : ℕ) → List ℕ
  pub default : (k : ℕ) → ℕ
  pub target : (k : ℕ) → (place : Value) → (rest : ℕ) → Target
  pub takes : (k : ℕ) → List PrimitiveTypeInfo
  pub deed : (k : ℕ) → (operands : List Value) → (rest : ℕ) → Deed
  pub leaves : (k : ℕ) → Option (List PrimitiveTypeInfo)
  pub label : (k : ℕ) → Option (ℕ × List PrimitiveTypeInfo)
  pub catcher : (k mark rest : ℕ) → Option Caught
  pub clauses : (k : ℕ) → List (ℕ × List PrimitiveTypeInfo)

-- the operators that ask it: a branch by a table, a call through one, and every other operator
abbrev pub asks_beyond : Operator → Bool
asks_beyond (op.BrTable n) = true
asks_beyond (op.CallIndirect type table) = true
asks_beyond (op.Other o) = true
asks_beyond o = false

-- one more where that is so
abbrev pub counted_where : Bool → ℕ → ℕ
counted_where true n = suc n
counted_where false n = n

-- how many of these stand before the k-th structural operator
abbrev pub asked_before : List Operator → (k : ℕ) → ℕ
asked_before os zero = 0
asked_before [] (suc k) = 0
asked_before (o ∷ os) (suc k) = counted_where (asks_beyond o) (asked_before os k)

-- The same by the numbers of the operators among all structural ones, where it is given by their numbers among those that ask it.
abbrev pub by_asked : List Operator → Beyond → Beyond
by_asked structure b =
    record {
      labels = λ k. b.labels (asked_before structure k);
      default = λ k. b.default (asked_before structure k);
      target = λ k. b.target (asked_before structure k);
      takes = λ k. b.takes (asked_before structure k);
      deed = λ k. b.deed (asked_before structure k);
      leaves = λ k. b.leaves (asked_before structure k);
      label = λ k. b.label (asked_before structure k);
      catcher = λ k. b.catcher (asked_before structure k);
      clauses = λ k. b.clauses (asked_before structure k);
    }

-- those types, where there are any
abbrev pub left_types : Option (List PrimitiveTypeInfo) → List PrimitiveTypeInfo
left_types (Some ts) = ts
left_types None = []

-- what a block that catches exceptions, or a part of one, takes and leaves
abbrev pub handler_arity : Beyond → (k : ℕ) → Arity
handler_arity beyond k = record { starts = beyond.takes k; ends = left_types (beyond.leaves k) }

-- the label with that place, or the default one
abbrev pub label_at : List ℕ → (default : ℕ) → ℕ → ℕ
label_at [] default i = default
label_at (l ∷ ls) default zero = l
label_at (l ∷ ls) default (suc i) = label_at ls default i

module _ (m : Module) (results : List PrimitiveTypeInfo) (structure : List Operator) where
  -- the number of the end that belongs to that opener
  abbrev pub end_of : ℕ → ℕ
  end_of opener = closing zero (suc opener) (drop (suc opener) structure)

  -- the numbers of the operators that begin a further part of that block
  abbrev pub parts_of : ℕ → List ℕ
  parts_of opener = parts_from zero (suc opener) (drop (suc opener) structure)

  -- out of the function, with its results
  abbrev pub leave : List Value → State → Reached
  leave stack s = Done (Ends (last_of (length results) stack) s)

  -- into the block, with its label; its parameters stand above the label's height
  abbrev pub enter : (k : ℕ) → BlockType → List Label → List Value → State → Reached
  enter k t labels stack s = At (suc k) (record { opener = k; height = length stack - length (arity_of m t).starts } ∷ labels) stack s

  -- behind the end of a block, which leaves so many values
  abbrev pub jump_out : (count : ℕ) → Label → (outer : List Label) → List Value → State → Reached
  jump_out count label outer stack s = At (suc (end_of label.opener)) outer (unwound label.height count stack) s

  -- a block that catches exceptions is left, in any of its parts; no other operator here has a label
  abbrev pub jump_other : Beyond → Role → Label → (outer : List Label) → List Value → State → Reached
  jump_other beyond handles label outer stack s = jump_out (length (handler_arity beyond label.opener).ends) label outer stack s
  jump_other beyond tries label outer stack s = jump_out (length (handler_arity beyond label.opener).ends) label outer stack s
  jump_other beyond catches label outer stack s = jump_out (length (handler_arity beyond label.opener).ends) label outer stack s
  jump_other beyond delegates label outer stack s = Done Stuck
  jump_other beyond does label outer stack s = Done Stuck

  -- to a label: a loop begins again, a block ends
  abbrev pub jump_to : Beyond → Option Operator → Label → (outer : List Label) → List Value → State → Reached
  jump_to beyond (Some (op.Loop t)) label outer stack s =
      At (suc label.opener) (label ∷ outer) (unwound label.height (length (arity_of m t).starts) stack) s
  jump_to beyond (Some (op.Block t)) label outer stack s = jump_out (length (arity_of m t).ends) label outer stack s
  jump_to beyond (Some (op.If t)) label outer stack s = jump_out (length (arity_of m t).ends) label outer stack s
  jump_to beyond (Some (op.Other o)) label outer stack s = jump_other beyond (role_of o) label outer stack s
  jump_to beyond o label outer stack s = Done Stuck

  -- the outermost label is the function's own
  abbrev pub branch : Beyond → ℕ → List Label → List Value → State → Reached
  branch beyond zero [] stack s = leave stack s
  branch beyond (suc l) [] stack s = Done Stuck
  branch beyond zero (label ∷ outer) stack s = jump_to beyond (slice_get structure label.opener) label outer stack s
  branch beyond (suc l) (label ∷ outer) stack s = branch beyond l outer stack s

  -- the other part of a conditional, or what stands behind it
  abbrev pub otherwise : Option ℕ → (k : ℕ) → BlockType → List Label → List Value → State → Reached
  otherwise (Some e) k t labels stack s =
      At (suc e) (record { opener = k; height = length stack - length (arity_of m t).starts } ∷ labels) stack s
  otherwise None k t labels stack s = At (suc (end_of k)) labels stack s

  -- an end leaves its block for what stands behind it; the body's own end leaves the function
  abbrev pub close : (next : ℕ) → List Label → List Value → State → Reached
  close next [] stack s = leave stack s
  close next (label ∷ outer) stack s = At next outer stack s

  -- behind the first part of a conditional comes what stands behind its end
  abbrev pub skip : List Label → List Value → State → Reached
  skip [] stack s = Done Stuck
  skip (label ∷ outer) stack s = At (suc (end_of label.opener)) outer stack s

  -- an index that was popped chooses one of so many labels
  abbrev pub branch_by : (beyond : Beyond) → (count k : ℕ) → PrimitiveTypeInfo → ℕ → List Label → List Value → State → Reached
  branch_by beyond count k primitive.I32 i labels stack s =
      branch beyond (label_at (take count (beyond.labels k)) (beyond.default k) i) labels stack s
  branch_by beyond count k t i labels stack s = Done Stuck

  -- the one value that was popped is that index; of no value the run is stuck
  abbrev pub branch_on : (beyond : Beyond) → (count k : ℕ) → (popped : List Value) → List Label → List Value → State → Reached
  branch_on beyond count k (c ∷ []) labels stack s = branch_by beyond count k c.type c.number labels stack s
  branch_on beyond count k vs labels stack s = Done Stuck

  -- where these are values; with others the run is stuck
  abbrev pub only_values : List Value → Reached → Reached
  only_values vs next = if are_values vs then next else Done Stuck

  -- ---- exceptions

  -- what the block of a label makes of an exception, where it catches it; a part that begins with one catches none
  abbrev pub caught_by : Beyond → Role → (opener mark rest : ℕ) → Option Caught
  caught_by beyond handles opener mark rest = beyond.catcher opener mark rest
  caught_by beyond tries opener mark rest = beyond.catcher opener mark rest
  caught_by beyond catches opener mark rest = None
  caught_by beyond delegates opener mark rest = None
  caught_by beyond does opener mark rest = None

  abbrev pub caught_at : Beyond → Option Operator → (opener mark rest : ℕ) → Option Caught
  caught_at beyond (Some (op.Other o)) opener mark rest = caught_by beyond (role_of o) opener mark rest
  caught_at beyond o opener mark rest = None

  -- to the label, or into the part, from below the block; or on, to the blocks around
  abbrev pub or_caught : Beyond → Option Caught → (height : ℕ) → (outer : List Label) → List Value → State → (later : ℕ → Reached) → Reached
  or_caught beyond (Some (branches l vs r)) height outer stack s later =
      only_values vs (branch beyond l outer (take height stack ++ vs) (record s { rest = r }))
  or_caught beyond (Some (begins j vs r)) height outer stack s later =
      only_values vs (At (suc j) (record { opener = j; height = height } ∷ outer) (take height stack ++ vs) (record s { rest = r }))
  or_caught beyond (Some (delegated l)) height outer stack s later = later l
  or_caught beyond None height outer stack s later = later 0

  -- An exception goes to the innermost block that catches it, behind so many labels; where there is none, it leaves the function, as a trap does.
  abbrev pub thrown : Beyond → (mark skipped : ℕ) → List Label → List Value → State → Reached
  thrown beyond mark skipped [] stack s = Done (Traps (met mark) (own_globals s) s.rest)
  thrown beyond mark (suc n) (label ∷ outer) stack s = thrown beyond mark n outer stack s
  thrown beyond mark zero (label ∷ outer) stack s =
      or_caught beyond (caught_at beyond (slice_get structure label.opener) label.opener mark s.rest) label.height outer stack s
      (λ n. thrown beyond mark n outer stack s)

  -- ---- calls

  -- what a call answers: its values go on above those below its operands, what it met may be an exception; these globals stand behind the module's then
  abbrev pub answered_by : Beyond → (next : List Value → State → Reached) → Answer → (behind : List Value) → List Label → (below : List Value) → State →
      Reached
  answered_by beyond next (Gives us gs r) behind labels below s = next (below ++ us) (record s { globals = gs ++ behind; rest = r })
  answered_by beyond next (Fails (met mark) gs r) behind labels below s = thrown beyond mark 0 labels below (record s { globals = gs ++ behind; rest = r })
  answered_by beyond next (Fails cause gs r) behind labels below s = Done (Traps cause gs r)

  -- A call, of a function of the module or of a foreign one, is what the world does on operands of the types that it is asked with; stuck on others.
  abbrev pub called : Beyond → (next : List Value → State → Reached) → Instruction → (operands : List Value) → List Label → (below : List Value) → State →
      Reached
  called beyond next i vs labels below s =
      if is_some (asked_types m i (types vs)) then
      answered_by beyond next (s.world.answer i vs (own_globals s) s.rest) (s.world.others i vs (own_globals s) s.rest (further_globals s)) labels below s
      else Done Stuck

  -- a call through a table takes the operands of its type
  abbrev pub call_target : Beyond → Target → (type k : ℕ) → List Label → List Value → State → Reached
  call_target beyond (fails mark) type k labels stack s = Done (Traps (met mark) (own_globals s) s.rest)
  call_target beyond (calls i) type k labels stack s =
      let count = length (function_arity (slice_get m.types type)).starts in
      called beyond (At (suc k) labels) i (last_of count stack) labels (take (length stack - count) stack) s

  -- the one value that was popped is the index into the table; of no value the run is stuck
  abbrev pub call_at : (beyond : Beyond) → (type k : ℕ) → (popped : List Value) → List Label → List Value → State → Reached
  call_at beyond type k (c ∷ []) labels stack s = call_target beyond (beyond.target k c s.rest) type k labels stack s
  call_at beyond type k vs labels stack s = Done Stuck

  -- ---- other operators

  -- what a deed does behind the values below its operands
  abbrev pub done : Beyond → Deed → (k : ℕ) → List Label → (below : List Value) → State → Reached
  done beyond (gives vs r) k labels below s = only_values vs (At (suc k) labels (below ++ vs) (record s { rest = r }))
  done beyond (jumps l vs r) k labels below s = only_values vs (branch beyond l labels (below ++ vs) (record s { rest = r }))
  done beyond (breaks mark r) k labels below s = thrown beyond mark 0 labels below (record s { rest = r })
  done beyond (enters i vs) k labels below s = only_values vs (called beyond (At (suc k) labels) i vs labels below s)
  done beyond (returns i vs) k labels below s = only_values vs (called beyond leave i vs [] below s)

  -- into the block, with its label
  abbrev pub enter_handler : Beyond → (k : ℕ) → List Label → List Value → State → Reached
  enter_handler beyond k labels stack s =
      At (suc k) (record { opener = k; height = length stack - length (handler_arity beyond k).starts } ∷ labels) stack s

  -- a block that catches exceptions is entered; before a part of it ends the one before; `delegate` is an end; another operator does its deed
  abbrev pub other_at : Role → Beyond → (k : ℕ) → List Label → List Value → State → Reached
  other_at handles beyond k labels stack s = enter_handler beyond k labels stack s
  other_at tries beyond k labels stack s = enter_handler beyond k labels stack s
  other_at catches beyond k labels stack s = skip labels stack s
  other_at delegates beyond k labels stack s = close (suc k) labels stack s
  other_at does beyond k labels stack s =
      let n = length (beyond.takes k) in
      done beyond (beyond.deed k (last_of n stack) s.rest) k labels (take (length stack - n) stack) s

  -- what the operator with number k does; a select of several types is not valid
  abbrev pub by_operator : Beyond → Option Operator → Control
  by_operator beyond (Some (op.Block t)) k labels stack s = enter k t labels stack s
  by_operator beyond (Some (op.Loop t)) k labels stack s = enter k t labels stack s
  by_operator beyond (Some (op.If t)) k labels stack s =
      let below = take (length stack - 1) stack in
      choose_by_value (last_of 1 stack) (enter k t labels below s) (otherwise (other_part zero (suc k) (drop (suc k) structure)) k t labels below s)
  by_operator beyond (Some op.Else) k labels stack s = skip labels stack s
  by_operator beyond (Some op.End) k labels stack s = close (suc k) labels stack s
  by_operator beyond (Some (op.Br l)) k labels stack s = branch beyond l labels stack s
  by_operator beyond (Some (op.BrIf l)) k labels stack s =
      let below = take (length stack - 1) stack in
      choose_by_value (last_of 1 stack) (branch beyond l labels below s) (At (suc k) labels below s)
  by_operator beyond (Some (op.BrTable n)) k labels stack s =
      branch_on beyond n k (last_of 1 stack) labels (take (length stack - 1) stack) s
  by_operator beyond (Some op.Return) k labels stack s = leave stack s
  by_operator beyond (Some op.Unreachable) k labels stack s = Done (Traps unreachable (own_globals s) s.rest)
  by_operator beyond (Some (op.CallIndirect type table)) k labels stack s =
      call_at beyond type k (last_of 1 stack) labels (take (length stack - 1) stack) s
  by_operator beyond (Some (op.Other o)) k labels stack s = other_at (role_of o) beyond k labels stack s
  by_operator beyond o k labels stack s = Done Stuck

  -- the control of a body: the operator with the number acts; there is none behind the last one
  abbrev pub standard : Beyond → Control
  standard beyond k labels stack s = by_operator beyond (slice_get structure k) k labels stack s
