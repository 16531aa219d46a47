-- The blocks that are open behind code of a body that is valid: where an opener says so, a branch to the label takes nothing.
use Rattle.std.proofs.Common.{◌≡◌, ℕ, zero, suc, Bool, true, false, List, [], ◌∷◌, ◌++◌, length, take, drop, Option, Some, None, refl, sym, ap, ◌∙◌, subst}
use Rattle.std.specs.Prelude.{◌&&◌, map, slice_get, option_map, option_and_then, if◌then◌else◌}
use Rattle.std.proofs.lemmas.Option.{same_Some}
use Rattle.wasm_code.specs.declared.immediate.BlockType.{BlockType}
use Rattle.wasm_code.specs.declared.immediate.BlockType.TheVariants as type
use Rattle.wasm_code.specs.declared.operator.Operator.{Operator}
use Rattle.wasm_code.specs.declared.operator.Operator.TheVariants as op
use Rattle.wasm_code.specs.declared.other.Other.{Other}
use Rattle.wasm_types.specs.Module.{Module}
use Rattle.wasm_types.specs.declared.types.PrimitiveTypeInfo.{PrimitiveTypeInfo}
use Rattle.wasm_types.specs.declared.types.PrimitiveTypeInfo.TheVariants as primitive
use Rattle.wasm_execution.specs.Values.{Context, same_types}
use Rattle.wasm_execution.specs.IntegerRow.{IntegerRow, operand_count, integer_row}
use Rattle.wasm_execution.specs.RowLemmas.{and_then_some, map_some}
use Rattle.wasm_equivalence.specs.control.Blocks.{Arity, arity_of, has_arity, call_arity, Role, handles, tries, catches, delegates, does, role_of}
use Rattle.wasm_equivalence.specs.control.Function.{structural}
use Rattle.wasm_equivalence.specs.control.Standard.{Beyond, handler_arity}
use Rattle.wasm_equivalence.specs.validation.Algorithm.{all_may_be, Frame, can_pop, popped, with_pushed, row_entries, check_row, on_innermost, check}
use Rattle.wasm_equivalence.specs.validation.StandardSteps.{pop, push, cut_off, opened_by, body_frame, open_frame, types_by, label_types}
use Rattle.wasm_equivalence.specs.validation.StandardSteps.{can_close, leaves_alike, close_frame, other_of, other_frame, can_jump_all}
use Rattle.wasm_equivalence.specs.validation.StandardSteps.{can_call_indirect, can_branch, left, only_where, is_tried_by, is_tried, is_try_by}
use Rattle.wasm_equivalence.specs.validation.StandardSteps.{is_try, catch_frame, delegate_frame, other_step, by_step, standard_steps}
use Rattle.wrapped_code.specs.Handlers.{handles_by}
use Rattle.wrapped_code.specs.Opened.{opens_bare, open_after, open_behind, TakesNothing}
use Rattle.wrapped_code.proofs.PlaceLemmas.{dropped}
use Rattle.wrapped_code.proofs.HandlerLemmas.{NoHandler}

-- ---- labels that take nothing

-- the frame of that label is there, and its label takes nothing
pub record IsBare (l : ℕ) (fs : List Frame) : Type 0 where
  pub frame : Frame
  pub at : slice_get fs l ≡ Some frame
  pub bare : label_types frame ≡ []

pub bare_instead : (l : ℕ) (f g : Frame) (fs : List Frame) → label_types g ≡ label_types f → IsBare l (f ∷ fs) → IsBare l (g ∷ fs)
bare_instead zero f g fs e h = record { frame = g; at = refl; bare = e ∙ (ap label_types (same_Some f h.frame h.at) ∙ h.bare) }
bare_instead (suc l) f g fs e h = record { frame = h.frame; at = h.at; bare = h.bare }

-- ---- steps that change operands alone

-- the frame without operands, as where its code is reached
abbrev shape : Frame → Frame
shape f = record f { operands = []; unreachable = false }

types_shape : (o : Option Operator) (f : Frame) → types_by o f ≡ types_by o (shape f)
types_shape (Some (op.Loop t)) f = refl
types_shape o f = refl

pub label_same : (f g : Frame) → shape f ≡ shape g → label_types f ≡ label_types g
label_same f g e = types_shape f.opened f ∙ (ap label_types e ∙ sym (types_shape g.opened g))

bare_shape : (l : ℕ) (fs : List Frame) → IsBare l (map shape fs) → IsBare l fs
bare_shape l [] h = let e = h.at in absurd cc
bare_shape zero (f ∷ fs) h =
    record { frame = f; at = refl; bare = types_shape f.opened f ∙ (ap label_types (same_Some (shape f) h.frame h.at) ∙ h.bare) }
bare_shape (suc l) (f ∷ fs) h =
    let b = bare_shape l fs (record { frame = h.frame; at = h.at; bare = h.bare }) in record { frame = b.frame; at = b.at; bare = b.bare }

abbrev Keeps : (Frame → Option Frame) → Type 0
Keeps step = (f g : Frame) → step f ≡ Some g → shape f ≡ shape g

if_keeps : (test : Frame → Bool) (step : Frame → Option Frame) → Keeps step → Keeps (λ f. if test f then step f else None)
if_keeps test step keeps f g e = go (test f) e
  where
    go : (b : Bool) → (if b then step f else None) ≡ Some g → shape f ≡ shape g
    go true e = keeps f g e
    go false e = absurd cc

map_keeps : (change : Frame → Frame) (step : Frame → Option Frame) → ((f : Frame) → shape f ≡ shape (change f)) → Keeps step →
    Keeps (λ f. option_map change (step f))
map_keeps change step same keeps f g e = let (d, x, is) = map_some change (step f) g e in keeps f d x ∙ (same d ∙ ap shape is)

then_keeps : (step next : Frame → Option Frame) → Keeps step → Keeps next → Keeps (λ f. option_and_then next (step f))
then_keeps step next one other f g e = let (d, x, y) = and_then_some next (step f) g e in one f d x ∙ other d g y

some_keeps : (change : Frame → Frame) → ((f : Frame) → shape f ≡ shape (change f)) → Keeps (λ f. Some (change f))
some_keeps change same f g e = same f ∙ ap shape (same_Some (change f) g e)

pub pop_keeps : (ts : List PrimitiveTypeInfo) → Keeps (pop ts)
pop_keeps ts =
    let n = length ts in
    if_keeps (λ f. can_pop n f && all_may_be (popped n f) ts) (λ f. Some (with_pushed n f [])) (some_keeps (λ f. with_pushed n f []) (λ f. refl))

row_keeps : (context : Context) (row : IntegerRow) → Keeps (check_row context row)
row_keeps context row =
    let n = operand_count context.info row in
    if_keeps (can_pop n) (λ f. option_map (with_pushed n f) (row_entries context row (popped n f)))
    (λ f g e. let (es, x, is) = map_some (with_pushed n f) (row_entries context row (popped n f)) g e in ap shape is)

left_same : (o : Option (List PrimitiveTypeInfo)) (f : Frame) → shape f ≡ shape (left o f)
left_same (Some ts) f = refl
left_same None f = refl

innermost_keeps : (step : Frame → Option Frame) → Keeps step → (fs next : List Frame) → on_innermost step fs ≡ Some next → map shape fs ≡ map shape next
innermost_keeps step keeps [] next e = absurd cc
innermost_keeps step keeps (f ∷ fs) next e =
    let (g, x, is) = map_some (λ (g : Frame). g ∷ fs) (step f) next e in ap (λ (s : Frame). s ∷ map shape fs) (keeps f g x) ∙ ap (map shape) is

-- ---- frames and openers

-- none of the frames is one of a `try`
abbrev Untried : List Frame → Type 0
Untried ss = (l : ℕ) (s : Frame) → slice_get ss l ≡ Some s → is_tried s.opened ≡ false

-- what these openers say of their labels holds of the frames
record Follows (opened : List Operator) (ss : List Frame) : Type 0 where
  bare : (l : ℕ) (o : Operator) → slice_get opened l ≡ Some o → opens_bare o ≡ true → IsBare l ss
  untried : Untried ss

untried_more : (s : Frame) (ss : List Frame) → is_tried s.opened ≡ false → Untried ss → Untried (s ∷ ss)
untried_more s ss one all zero f at = ap (λ (g : Frame). is_tried g.opened) (sym (same_Some s f at)) ∙ one
untried_more s ss one all (suc l) f at = all l f at

follows_more : (o : Operator) (opened : List Operator) (s : Frame) (ss : List Frame) → (opens_bare o ≡ true → label_types s ≡ []) →
    is_tried s.opened ≡ false → Follows opened ss → Follows (o ∷ opened) (s ∷ ss)
follows_more o opened s ss bare one w = record { bare = go; untried = untried_more s ss one w.untried }
  where
    go : (l : ℕ) (x : Operator) → slice_get (o ∷ opened) l ≡ Some x → opens_bare x ≡ true → IsBare l (s ∷ ss)
    go zero x at b = record { frame = s; at = refl; bare = bare (ap opens_bare (same_Some o x at) ∙ b) }
    go (suc l) x at b = let h = w.bare l x at b in record { frame = h.frame; at = h.at; bare = h.bare }

follows_less : (opened : List Operator) (s : Frame) (ss : List Frame) → Follows opened (s ∷ ss) → Follows (drop 1 opened) ss
follows_less opened s ss w = record {
  bare = λ l x at b. let h = w.bare (suc l) x (later opened l x at) b in record { frame = h.frame; at = h.at; bare = h.bare };
  untried = λ l f at. w.untried (suc l) f at;
}
  where
    later : (opened : List Operator) (l : ℕ) (x : Operator) → slice_get (drop 1 opened) l ≡ Some x → slice_get opened (suc l) ≡ Some x
    later [] l x at = absurd cc
    later (o ∷ opened) l x at = at

follows_other : (opened : List Operator) (s z : Frame) (ss : List Frame) → label_types z ≡ label_types s → is_tried z.opened ≡ false →
    Follows opened (s ∷ ss) → Follows opened (z ∷ ss)
follows_other opened s z ss same one w = record {
  bare = λ l x at b. bare_instead l s z ss same (w.bare l x at b);
  untried = untried_more z ss one (λ l f at. w.untried (suc l) f at);
}

-- ---- openers, other parts and ends

only_some : (b : Bool) (o : Option (List Frame)) (next : List Frame) → only_where b o ≡ Some next → o ≡ Some next
only_some true o next e = e
only_some false o next e = absurd cc

block_bare : (info : Module) (t : BlockType) → opens_bare (op.Block t) ≡ true → (arity_of info t).ends ≡ []
block_bare info type.Empty e = refl
block_bare info t e = absurd cc

if_bare : (info : Module) (t : BlockType) → opens_bare (op.If t) ≡ true → (arity_of info t).ends ≡ []
if_bare info type.Empty e = refl
if_bare info t e = absurd cc

loop_bare : (info : Module) (t : BlockType) → opens_bare (op.Loop t) ≡ true → (arity_of info t).starts ≡ []
loop_bare info type.Empty e = refl
loop_bare info (type.Value t) e = refl
loop_bare info t e = absurd cc

opening_follows : (o : Operator) (a : Arity) (opened : List Operator) (fs next : List Frame) →
    (opens_bare o ≡ true → label_types (shape (opened_by o a)) ≡ []) → is_tried (Some o) ≡ false → Follows opened (map shape fs) →
    open_frame o a fs ≡ Some next → Follows (o ∷ opened) (map shape next)
opening_follows o a opened fs next bare one w e =
    let (gs, x, is) = map_some (λ (gs : List Frame). opened_by o a ∷ gs) (on_innermost (pop a.starts) fs) next e in
    subst (λ (hs : List Frame). Follows (o ∷ opened) (map shape hs)) is (follows_more o opened (shape (opened_by o a)) (map shape gs) bare one
    (subst (Follows opened) (innermost_keeps (pop a.starts) (pop_keeps a.starts) fs gs x) w))

closing_follows : (opened : List Operator) (fs next : List Frame) → Follows opened (map shape fs) → close_frame fs ≡ Some next →
    Follows (drop 1 opened) (map shape next)
closing_follows opened [] next w e = absurd cc
closing_follows opened (f ∷ []) next w e =
    subst (λ (gs : List Frame). Follows (drop 1 opened) (map shape gs)) (same_Some [] next (only_some (can_close f) (Some []) next e))
    (follows_less opened (shape f) [] w)
closing_follows opened (f ∷ g ∷ fs) next w e =
    let all = push f.ends g ∷ fs in
    let alike = leaves_alike f.opened (record { starts = f.starts; ends = f.ends }) in
    subst (λ (gs : List Frame). Follows (drop 1 opened) (map shape gs)) (same_Some all next (only_some (can_close f && alike) (Some all) next e))
    (follows_less opened (shape f) (map shape (g ∷ fs)) w)

parting_follows : (opened : List Operator) (fs next : List Frame) → Follows opened (map shape fs) → other_frame fs ≡ Some next →
    Follows opened (map shape next)
parting_follows opened [] next w e = absurd cc
parting_follows opened (f ∷ fs) next w e = go f.opened refl e
  where
    go : (o : Option Operator) → f.opened ≡ o → other_of o f fs ≡ Some next → Follows opened (map shape next)
    go (Some (op.If t)) is e =
        let part = opened_by op.Else (record { starts = f.starts; ends = f.ends }) in
        subst (λ (gs : List Frame). Follows opened (map shape gs)) (same_Some (part ∷ fs) next (only_some (can_close f) (Some (part ∷ fs)) next e))
        (follows_other opened (shape f) (shape part) (map shape fs) (ap (λ (o : Option Operator). types_by o (shape f)) (sym is)) refl w)
    go o is e = absurd cc

-- ---- further parts of a `try`, and its ends

catch_none : (o : Operator) (a : Arity) (fs next : List Frame) → Untried (map shape fs) → catch_frame o a fs ≡ Some next → ⊥
catch_none o a [] next u e = absurd cc
catch_none o a (f ∷ fs) next u e =
    let none = ap (λ (b : Bool). only_where (b && (can_close f && same_types a.ends f.ends)) (Some (opened_by o a ∷ fs))) (u 0 (shape f) refl) in
    absurd cc

untried_try : (o : Option Operator) → is_tried o ≡ false → is_try o ≡ false
untried_try (Some (op.Other o)) e = go (role_of o) e
  where
    go : (r : Role) → is_tried_by r ≡ false → is_try_by r ≡ false
    go tries e = absurd cc
    go r e = refl
untried_try o e = refl

delegate_none : (fs next : List Frame) → Untried (map shape fs) → delegate_frame fs ≡ Some next → ⊥
delegate_none [] next u e = absurd cc
delegate_none (f ∷ fs) next u e =
    let none = ap (λ (b : Bool). only_where b (close_frame (f ∷ fs))) (untried_try f.opened (u 0 (shape f) refl)) in absurd cc

-- ---- the steps

module _ (info : Module) (results : List PrimitiveTypeInfo) (beyond : Beyond) (k : ℕ) (opened : List Operator) (fs next : List Frame)
    (w : Follows opened (map shape fs)) where
  kept : (step : Frame → Option Frame) → Keeps step → on_innermost step fs ≡ Some next → Follows opened (map shape next)
  kept step keeps e = subst (Follows opened) (innermost_keeps step keeps fs next e) w

  abbrev condition : Frame → Option Frame
  condition = pop (primitive.I32 ∷ [])

  -- a branch to a label that takes these
  abbrev gone : List PrimitiveTypeInfo → Frame → Option Frame
  gone ts g = option_map cut_off (pop ts g)

  gone_keeps : (ts : List PrimitiveTypeInfo) → Keeps (gone ts)
  gone_keeps ts = map_keeps cut_off (pop ts) (λ f. refl) (pop_keeps ts)

  -- types instead of others
  abbrev given : (ts us : List PrimitiveTypeInfo) → Frame → Option Frame
  given ts us g = option_map (push us) (pop ts g)

  given_keeps : (ts us : List PrimitiveTypeInfo) → Keeps (given ts us)
  given_keeps ts us = map_keeps (push us) (pop ts) (λ f. refl) (pop_keeps ts)

  other_follows : (x : Other) (r : Role) → (handles_by r ≡ true → ⊥) → other_step x r beyond k fs ≡ Some next → Follows opened (map shape next)
  other_follows x handles free e = absurd (free refl)
  other_follows x tries free e = absurd (free refl)
  other_follows x catches free e = absurd (catch_none (op.Other x) (handler_arity beyond k) fs next w.untried e)
  other_follows x delegates free e = absurd (delegate_none fs next w.untried e)
  other_follows x does free e =
      let leave : Frame → Frame = left (beyond.leaves k) in
      let stays : Frame → Option Frame = λ d. if can_branch fs d (beyond.label k) then Some (leave d) else None in
      kept (λ g. option_and_then stays (pop (beyond.takes k) g)) (then_keeps (pop (beyond.takes k)) stays (pop_keeps (beyond.takes k))
      (if_keeps (λ d. can_branch fs d (beyond.label k)) (λ d. Some (leave d)) (some_keeps leave (left_same (beyond.leaves k))))) e

  step_follows : (o : Operator) → ((x : Other) → o ≡ op.Other x → handles_by (role_of x) ≡ true → ⊥) →
      by_step info results beyond (Some o) k fs ≡ Some next → Follows (open_after o opened) (map shape next)
  step_follows (op.Block t) free e =
      let a = arity_of info t in
      opening_follows (op.Block t) a opened fs next (block_bare info t) refl w (only_some (has_arity info t) (open_frame (op.Block t) a fs) next e)
  step_follows (op.Loop t) free e =
      let a = arity_of info t in
      opening_follows (op.Loop t) a opened fs next (loop_bare info t) refl w (only_some (has_arity info t) (open_frame (op.Loop t) a fs) next e)
  step_follows (op.If t) free e =
      let opens = open_frame (op.If t) (arity_of info t) in
      let (gs, x, y) = and_then_some opens (on_innermost condition fs) next
      (only_some (has_arity info t) (option_and_then opens (on_innermost condition fs)) next e) in
      opening_follows (op.If t) (arity_of info t) opened gs next (if_bare info t) refl
      (subst (Follows opened) (innermost_keeps condition (pop_keeps (primitive.I32 ∷ [])) fs gs x) w) y
  step_follows op.Else free e = parting_follows opened fs next w e
  step_follows op.End free e = closing_follows opened fs next w e
  step_follows (op.Br l) free e =
      let (f, x, y) = and_then_some (λ (f : Frame). on_innermost (gone (label_types f)) fs) (slice_get fs l) next e in
      kept (gone (label_types f)) (gone_keeps (label_types f)) y
  step_follows (op.BrIf l) free e =
      let step : Frame → Frame → Option Frame = λ f g. option_and_then (given (label_types f) (label_types f)) (condition g) in
      let (f, x, y) = and_then_some (λ (f : Frame). on_innermost (step f) fs) (slice_get fs l) next e in
      kept (step f) (then_keeps condition (given (label_types f) (label_types f)) (pop_keeps (primitive.I32 ∷ []))
      (given_keeps (label_types f) (label_types f))) y
  step_follows (op.BrTable n) free e =
      let fits : Frame → Frame → Bool = λ f d. can_jump_all fs f d (take n (beyond.labels k)) in
      let jump : Frame → Frame → Option Frame = λ f d. if fits f d then gone (label_types f) d else None in
      let step : Frame → Frame → Option Frame = λ f g. option_and_then (jump f) (condition g) in
      let (f, x, y) = and_then_some (λ (f : Frame). on_innermost (step f) fs) (slice_get fs (beyond.default k)) next e in
      kept (step f) (then_keeps condition (jump f) (pop_keeps (primitive.I32 ∷ []))
      (if_keeps (fits f) (gone (label_types f)) (gone_keeps (label_types f)))) y
  step_follows op.Return free e = kept (gone results) (gone_keeps results) e
  step_follows op.Unreachable free e = kept (λ g. Some (cut_off g)) (some_keeps cut_off (λ f. refl)) e
  step_follows (op.CallIndirect type table) free e =
      let a = call_arity info type table in
      kept (given a.starts a.ends) (given_keeps a.starts a.ends)
      (only_some (can_call_indirect info type table) (on_innermost (given a.starts a.ends) fs) next e)
  step_follows (op.Other x) free e = other_follows x (role_of x) (free x refl) e
  step_follows o free e = absurd cc

-- ---- code at the front of a body

module _ (context : Context) (results : List PrimitiveTypeInfo) (structure : List Operator) (beyond : Beyond) (unhandled : NoHandler structure) where
  code_follows : (os rest : List Operator) (k : ℕ) (opened : List Operator) (fs mid : List Frame) → drop k structure ≡ structural os ++ rest →
      check context (standard_steps context.info results structure beyond) k os fs ≡ Some mid → Follows opened (map shape fs) →
      Follows (open_behind os opened) (map shape mid)
  code_follows [] rest k opened fs mid d h w = subst (λ (gs : List Frame). Follows opened (map shape gs)) (same_Some fs mid h) w
  code_follows (op.Instr i ∷ os) rest k opened fs mid d h w =
      let steps = standard_steps context.info results structure beyond in
      let row = check_row context (integer_row i) in
      let (next, x, y) = and_then_some (check context steps k os) (on_innermost row fs) mid h in
      code_follows os rest k opened next mid d y
      (subst (Follows opened) (innermost_keeps row (row_keeps context (integer_row i)) fs next x) w)
  code_follows (o ∷ os) rest k opened fs mid d h w =
      let steps = standard_steps context.info results structure beyond in
      let (next, x, y) = and_then_some (check context steps (suc k) os) (steps k fs) mid h in
      let at = dropped structure k o (structural os ++ rest) d in
      code_follows os rest (suc k) (open_after o opened) next mid at.1 y
      (step_follows context.info results beyond k opened fs next w o (λ z is. unhandled k z (at.0 ∙ ap Some is))
      (ap (λ (p : Option Operator). by_step context.info results beyond p k fs) (sym at.0) ∙ x))

  -- the label behind it takes nothing
  pub front_bare : (front rest : List Operator) (label : ℕ) → structure ≡ structural front ++ rest → TakesNothing front label → (mid : List Frame) →
      check context (standard_steps context.info results structure beyond) 0 front (body_frame results ∷ []) ≡ Some mid → IsBare label mid
  front_bare front rest label e b mid h =
      let start = body_frame results ∷ [] in
      let w = code_follows front rest 0 [] start mid e h (record {
        bare = λ l o at b. absurd cc;
        untried = untried_more (shape (body_frame results)) [] refl (λ l s at. absurd cc);
      }) in
      bare_shape label mid (w.bare label b.opener b.is_open b.bare)
