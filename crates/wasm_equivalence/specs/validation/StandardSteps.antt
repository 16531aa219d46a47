-- What the standard's algorithm does to the control frames at blocks, loops, conditionals, branches, returns and ends
-- (WebAssembly Core Specification 3.0, Appendix, Validation Algorithm).
use Rattle.std.specs.Prelude.{ℕ, ◌==◌, ◌&&◌, if◌then◌else◌, Bool, true, false, List, [], ◌∷◌, ◌++◌, length, take, slice_get, Option, Some}
use Rattle.std.specs.Prelude.{None, is_some, option_map, option_and_then}
use Rattle.wasm_code.specs.declared.operator.Operator.{Operator}
use Rattle.wasm_code.specs.declared.operator.Operator.TheVariants as op
use Rattle.wasm_code.specs.declared.other.Other.{Other}
use Rattle.wasm_types.specs.Module.{Module}
use Rattle.wasm_types.specs.declared.types.PrimitiveTypeInfo.{PrimitiveTypeInfo}
use Rattle.wasm_types.specs.declared.types.PrimitiveTypeInfo.TheVariants as primitive
use Rattle.wasm_types.specs.declared.types.ElementType.{ElementType}
use Rattle.wasm_types.specs.declared.types.ElementType.TheVariants as element
use Rattle.wasm_types.specs.declared.types.TableType.{TableType}
use Rattle.wasm_execution.specs.Values.{same_types}
use Rattle.wasm_equivalence.specs.control.Blocks.{Arity, arity_of, is_arity, has_arity, call_arity, Role, handles, tries, catches, delegates, does, role_of}
use Rattle.wasm_equivalence.specs.control.Standard.{Beyond, handler_arity}
use Rattle.wasm_equivalence.specs.validation.Algorithm.{all_may_be, known, Frame, can_pop, popped, with_pushed, Structural, on_innermost}

-- the frame without operands of these types
abbrev pub pop : List PrimitiveTypeInfo → Frame → Option Frame
pop ts f =
    let n = length ts in
    if can_pop n f && all_may_be (popped n f) ts then Some (with_pushed n f []) else None

-- the frame with values of known types on top of its operands
abbrev pub push : List PrimitiveTypeInfo → Frame → Frame
push ts f = record f { operands = f.operands ++ known ts }

-- the code behind is never reached
abbrev pub cut_off : Frame → Frame
cut_off f = record f { operands = []; unreachable = true }

-- the frame that an operator opens, with what it takes as operands
abbrev pub opened_by : Operator → Arity → Frame
opened_by o a = record { opened = Some o; starts = a.starts; ends = a.ends; operands = known a.starts; unreachable = false }

-- the body's own frame
abbrev pub body_frame : (results : List PrimitiveTypeInfo) → Frame
body_frame results = record { opened = None; starts = []; ends = results; operands = []; unreachable = false }

-- the operator takes its operands from the innermost frame, and opens one of its own
abbrev pub open_frame : Operator → Arity → List Frame → Option (List Frame)
open_frame o a frames = option_map (λ fs. opened_by o a ∷ fs) (on_innermost (pop a.starts) frames)

-- a loop is entered again by its label, any other block is left
abbrev pub types_by : Option Operator → Frame → List PrimitiveTypeInfo
types_by (Some (op.Loop t)) f = f.starts
types_by o f = f.ends

-- the types that a label takes: a loop's at its start
abbrev pub label_types : Frame → List PrimitiveTypeInfo
label_types f = types_by f.opened f

-- a frame is there, and has no operands
abbrev pub frame_is_empty : Option Frame → Bool
frame_is_empty (Some f) = length f.operands == 0
frame_is_empty None = false

-- the frame may end: the types of its end are all that is left of its operands
abbrev pub can_close : Frame → Bool
can_close f = frame_is_empty (pop f.ends f)

-- a conditional without another part leaves what it takes
abbrev pub leaves_alike : Option Operator → Arity → Bool
leaves_alike (Some (op.If t)) a = same_types a.starts a.ends
leaves_alike o a = true

-- the frame ends; the outermost leaves none
abbrev pub close_frame : List Frame → Option (List Frame)
close_frame [] = None
close_frame (f ∷ []) = if can_close f then Some [] else None
close_frame (f ∷ g ∷ fs) =
    if can_close f && leaves_alike f.opened (record { starts = f.starts; ends = f.ends }) then Some (push f.ends g ∷ fs) else None

-- the first part of a conditional ends, and the other begins
abbrev pub other_of : Option Operator → Frame → List Frame → Option (List Frame)
other_of (Some (op.If t)) f fs =
    if can_close f then Some (opened_by op.Else (record { starts = f.starts; ends = f.ends }) ∷ fs) else None
other_of o f fs = None

-- an `else`; not valid but in the first part of a conditional
abbrev pub other_frame : List Frame → Option (List Frame)
other_frame [] = None
other_frame (f ∷ fs) = other_of f.opened f fs

-- the label is there, takes as many values as the default one, and the frame has values of its types
abbrev pub can_jump : List Frame → (default f : Frame) → ℕ → Bool
can_jump frames default f l =
    is_some (option_and_then (λ (to : Frame). if length (label_types to) == length (label_types default) then pop (label_types to) f else None)
    (slice_get frames l))

-- the same of each label of a `br_table`
abbrev pub can_jump_all : List Frame → (default f : Frame) → List ℕ → Bool
can_jump_all frames default f [] = true
can_jump_all frames default f (l ∷ ls) = can_jump frames default f l && can_jump_all frames default f ls

-- the elements may be functions
abbrev pub may_be_function : ElementType → Bool
may_be_function element.Func = true
may_be_function element.Extern = false
may_be_function element.Other = true

-- there is a table, whose elements may be functions
abbrev pub has_functions : Option TableType → Bool
has_functions (Some t) = may_be_function t.element_type
has_functions None = false

-- the function's type and a table of functions are there
abbrev pub can_call_indirect : Module → (type table : ℕ) → Bool
can_call_indirect m type table = is_arity (slice_get m.types type) && has_functions (slice_get m.tables table)

-- the label that another operator may branch to is there, and the frame with what is then left has values of its types
abbrev pub can_branch : List Frame → (f : Frame) → Option (ℕ × List PrimitiveTypeInfo) → Bool
can_branch frames f None = true
can_branch frames f (Some x) = is_some (option_and_then (λ (to : Frame). pop (label_types to) (push x.1 f)) (slice_get frames x.0))

-- the frame with what another operator leaves; it never goes on where there is no such list
abbrev pub left : Option (List PrimitiveTypeInfo) → Frame → Frame
left (Some ts) f = push ts f
left None f = cut_off f

-- the frames, where what else validation asks for holds
abbrev pub only_where : Bool → Option (List Frame) → Option (List Frame)
only_where b o = if b then o else None

-- the label is there, and takes values of these types
abbrev pub is_label : List Frame → ℕ × List PrimitiveTypeInfo → Bool
is_label frames c = is_some (option_and_then (λ (to : Frame). if same_types c.1 (label_types to) then Some to else None) (slice_get frames c.0))

-- each of these is
abbrev pub are_labels : List Frame → List (ℕ × List PrimitiveTypeInfo) → Bool
are_labels frames [] = true
are_labels frames (c ∷ cs) = is_label frames c && are_labels frames cs

-- a `try`, and one of its further parts too
abbrev pub is_tried_by : Role → Bool
is_tried_by tries = true
is_tried_by catches = true
is_tried_by r = false

abbrev pub is_tried : Option Operator → Bool
is_tried (Some (op.Other o)) = is_tried_by (role_of o)
is_tried o = false

-- a `try` alone
abbrev pub is_try_by : Role → Bool
is_try_by tries = true
is_try_by r = false

abbrev pub is_try : Option Operator → Bool
is_try (Some (op.Other o)) = is_try_by (role_of o)
is_try o = false

-- a part of a `try` ends, and one begins that takes an exception's values and leaves the same
abbrev pub catch_frame : Operator → Arity → List Frame → Option (List Frame)
catch_frame o a [] = None
catch_frame o a (f ∷ fs) = only_where (is_tried f.opened && (can_close f && same_types a.ends f.ends)) (Some (opened_by o a ∷ fs))

-- a `try` ends without any
abbrev pub delegate_frame : List Frame → Option (List Frame)
delegate_frame [] = None
delegate_frame (f ∷ fs) = only_where (is_try f.opened) (close_frame (f ∷ fs))

-- A block that catches exceptions opens a frame; a `try_table` branches to labels outside it. Another operator takes its operands and leaves others.
abbrev pub other_step : Other → Role → Beyond → (k : ℕ) → List Frame → Option (List Frame)
other_step o handles beyond k frames = only_where (are_labels frames (beyond.clauses k)) (open_frame (op.Other o) (handler_arity beyond k) frames)
other_step o tries beyond k frames = open_frame (op.Other o) (handler_arity beyond k) frames
other_step o catches beyond k frames = catch_frame (op.Other o) (handler_arity beyond k) frames
other_step o delegates beyond k frames = delegate_frame frames
other_step o does beyond k frames =
    on_innermost (λ (g : Frame). option_and_then (λ (d : Frame). if can_branch frames d (beyond.label k) then Some (left (beyond.leaves k) d) else None)
    (pop (beyond.takes k) g)) frames

module _ (m : Module) (results : List PrimitiveTypeInfo) where
  -- the operator with number k on the frames, the innermost first; a select of several types is never valid
  abbrev pub by_step : Beyond → Option Operator → Structural
  by_step beyond (Some (op.Block t)) k frames = only_where (has_arity m t) (open_frame (op.Block t) (arity_of m t) frames)
  by_step beyond (Some (op.Loop t)) k frames = only_where (has_arity m t) (open_frame (op.Loop t) (arity_of m t) frames)
  by_step beyond (Some (op.If t)) k frames =
      only_where (has_arity m t) (option_and_then (open_frame (op.If t) (arity_of m t)) (on_innermost (pop (primitive.I32 ∷ [])) frames))
  by_step beyond (Some op.Else) k frames = other_frame frames
  by_step beyond (Some op.End) k frames = close_frame frames
  by_step beyond (Some (op.Br l)) k frames =
      option_and_then (λ f. on_innermost (λ g. option_map cut_off (pop (label_types f) g)) frames) (slice_get frames l)
  by_step beyond (Some (op.BrIf l)) k frames =
      option_and_then (λ f. on_innermost (λ g. option_and_then (λ d. option_map (push (label_types f)) (pop (label_types f) d))
      (pop (primitive.I32 ∷ []) g)) frames) (slice_get frames l)
  by_step beyond (Some (op.BrTable n)) k frames =
      option_and_then (λ f. on_innermost (λ g. option_and_then (λ d. if can_jump_all frames f d (take n (beyond.labels k)) then
      option_map cut_off (pop (label_types f) d) else None) (pop (primitive.I32 ∷ []) g)) frames) (slice_get frames (beyond.default k))
  by_step beyond (Some op.Return) k frames = on_innermost (λ g. option_map cut_off (pop results g)) frames
  by_step beyond (Some op.Unreachable) k frames = on_innermost (λ g. Some (cut_off g)) frames
  by_step beyond (Some (op.CallIndirect type table)) k frames =
      let a = call_arity m type table in
      only_where (can_call_indirect m type table) (on_innermost (λ g. option_map (push a.ends) (pop a.starts g)) frames)
  by_step beyond (Some (op.Other o)) k frames = other_step o (role_of o) beyond k frames
  by_step beyond o k frames = None

  -- the steps of a body by its structural operators; none where there is no k-th one
  abbrev pub standard_steps : List Operator → Beyond → Structural
  standard_steps structure beyond k frames = by_step beyond (slice_get structure k) k frames
