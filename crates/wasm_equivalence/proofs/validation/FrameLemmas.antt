-- What stays of a frame, and what a structural operator does to the frames.
use Rattle.std.proofs.Common.{◌≡◌, ℕ, ◌⊎◌, inl, inr, List, [], ◌∷◌, length, take, Option, Some, None, refl, sym, ap, ◌∙◌, subst, true}
use Rattle.std.specs.Prelude.{◌&&◌, slice_get, option_map, option_and_then, if◌then◌else◌}
use Rattle.std.proofs.lemmas.Bool.{and_parts}
use Rattle.wasm_code.specs.Instruction.{Instruction}
use Rattle.wasm_code.specs.declared.immediate.BlockType.{BlockType}
use Rattle.wasm_code.specs.declared.other.Other.{Other}
use Rattle.wasm_code.specs.declared.operator.Operator.{Operator}
use Rattle.wasm_code.specs.declared.operator.Operator.TheVariants as op
use Rattle.wasm_types.specs.Module.{Module}
use Rattle.wasm_types.specs.declared.types.PrimitiveTypeInfo.{PrimitiveTypeInfo}
use Rattle.wasm_types.specs.declared.types.PrimitiveTypeInfo.TheVariants as primitive
use Rattle.wasm_execution.specs.Values.{same_types, Context}
use Rattle.wasm_execution.specs.IntegerRow.{IntegerRow, operand_count, integer_row}
use Rattle.wasm_execution.specs.RowLemmas.{and_then_some, map_some, same_types_is}
use Rattle.wasm_equivalence.specs.control.Blocks.{Arity, arity_of, has_arity, call_arity, Role, handles, tries, catches, delegates, does}
use Rattle.wasm_equivalence.specs.control.Blocks.{role_of, other_nesting, Nesting, opens, parts, closes, stays, nesting}
use Rattle.wasm_equivalence.specs.control.Standard.{Beyond, handler_arity}
use Rattle.wasm_equivalence.specs.validation.Algorithm.{all_may_be, row_entries, Frame, can_pop, popped, with_pushed, check_row, check_code, on_innermost}
use Rattle.wasm_equivalence.specs.validation.StandardSteps.{pop, push, cut_off, opened_by, open_frame, label_types, can_close, close_frame}
use Rattle.wasm_equivalence.specs.validation.StandardSteps.{other_of, other_frame, can_jump_all, can_branch, left, are_labels, is_tried}
use Rattle.wasm_equivalence.specs.validation.StandardSteps.{is_try, catch_frame, delegate_frame, other_step, can_call_indirect, by_step}
use Rattle.wasm_equivalence.proofs.validation.RunChecks.{if_some}
use Rattle.wasm_equivalence.proofs.validation.TraceLemmas.{check_instructions}

-- ---- what stays of a frame

pub record Like (f g : Frame) : Type 0 where
  pub opened : f.opened ≡ g.opened
  pub starts : f.starts ≡ g.starts
  pub ends : f.ends ≡ g.ends

pub like_itself : (f : Frame) → Like f f
like_itself f = record { opened = refl; starts = refl; ends = refl }

pub like_then : {f g h : Frame} → Like f g → Like g h → Like f h
like_then a b = record { opened = a.opened ∙ b.opened; starts = a.starts ∙ b.starts; ends = a.ends ∙ b.ends }

pub like_is : {f g h : Frame} → f ≡ g → Like g h → Like f h
like_is {h = h} e a = subst (λ x. Like x h) (sym e) a

row_like : (context : Context) (row : IntegerRow) (f g : Frame) → check_row context row f ≡ Some g → Like g f
row_like context row f g e =
    let n = operand_count context.info row in
    let (a, b) = if_some (can_pop n f) (option_map (with_pushed n f) (row_entries context row (popped n f))) g e in
    let (es, c, d) = map_some (with_pushed n f) (row_entries context row (popped n f)) g b in
    like_is (sym d) (record { opened = refl; starts = refl; ends = refl })

pub code_like : (context : Context) (code : List Instruction) (f g : Frame) → check_code context code f ≡ Some g → Like g f
code_like context [] f g e = let is : g ≡ f = cc in like_is is (like_itself f)
code_like context (i ∷ code) f g e =
    let (h, a, b) = and_then_some (check_code context code) (check_row context (integer_row i) f) g e in
    like_then (code_like context code h g b) (row_like context (integer_row i) f h a)

-- the innermost frame alone changes
pub record Flat (fs next : List Frame) : Type 0 where
  pub head : Frame
  pub tail : List Frame
  pub changed : Frame
  pub is : fs ≡ head ∷ tail
  pub next_is : next ≡ changed ∷ tail
  pub like : Like changed head

flat : (step : Frame → Option Frame) → ((f g : Frame) → step f ≡ Some g → Like g f) → (fs next : List Frame) →
    on_innermost step fs ≡ Some next → Flat fs next
flat step like [] next e = absurd cc
flat step like (f ∷ fs) next e =
    let (g, a, b) = map_some (λ (g : Frame). g ∷ fs) (step f) next e in
    record { head = f; tail = fs; changed = g; is = refl; next_is = sym b; like = like f g a }

pub instructions_on : (context : Context) (code : List Instruction) (f : Frame) (fs mid : List Frame) →
    check_instructions context code (f ∷ fs) ≡ Some mid → (g : Frame) × (mid ≡ g ∷ fs) × (check_code context code f ≡ Some g)
instructions_on context [] f fs mid e = (f, (let k : mid ≡ f ∷ fs = cc in k), refl)
instructions_on context (i ∷ code) f fs mid e = go (check_row context (integer_row i) f) e (λ g. instructions_on context code g fs mid)
  where
    go : (o : Option Frame) → option_and_then (check_instructions context code) (option_map (λ g. g ∷ fs) o) ≡ Some mid →
        ((g : Frame) → check_instructions context code (g ∷ fs) ≡ Some mid → (h : Frame) × (mid ≡ h ∷ fs) × (check_code context code g ≡ Some h)) →
        (h : Frame) × (mid ≡ h ∷ fs) × (option_and_then (check_code context code) o ≡ Some h)
    go (Some g) e next = next g e
    go None e next = absurd cc

pub instructions_none : (context : Context) (code : List Instruction) (fs : List Frame) → check_instructions context code fs ≡ Some [] → fs ≡ []
instructions_none context code [] e = refl
instructions_none context code (f ∷ fs) e = let (g, a, b) = instructions_on context code f fs [] e in absurd cc

-- ---- what a structural operator does to the frames

pop_like : (ts : List PrimitiveTypeInfo) (f g : Frame) → pop ts f ≡ Some g → Like g f
pop_like ts f g e =
    let n = length ts in
    let (a, b) = if_some (can_pop n f && all_may_be (popped n f) ts) (Some (with_pushed n f [])) g e in
    let is : g ≡ with_pushed n f [] = cc in like_is is (record { opened = refl; starts = refl; ends = refl })

cut_like : (o : Option Frame) (f g : Frame) → ((h : Frame) → o ≡ Some h → Like h f) → option_map cut_off o ≡ Some g → Like g f
cut_like o f g like e =
    let (h, a, b) = map_some cut_off o g e in
    like_is (sym b) (like_then (record { opened = refl; starts = refl; ends = refl }) (like h a))

push_like : (ts : List PrimitiveTypeInfo) (o : Option Frame) (f g : Frame) → ((h : Frame) → o ≡ Some h → Like h f) → option_map (push ts) o ≡ Some g → Like g f
push_like ts o f g like e =
    let (h, a, b) = map_some (push ts) o g e in
    like_is (sym b) (like_then (record { opened = refl; starts = refl; ends = refl }) (like h a))

-- a new frame, and the innermost one changed
pub record Opens (fs next : List Frame) : Type 0 where
  pub head : Frame
  pub tail : List Frame
  pub changed : Frame
  pub new : Frame
  pub is : fs ≡ head ∷ tail
  pub next_is : next ≡ new ∷ (changed ∷ tail)
  pub like : Like changed head

-- what begins another part of a block: `else`, in a conditional, with what that takes; or a catch of a `try`
abbrev pub IsElse : (head new : Frame) → Type 0
IsElse head new = (t : BlockType) × (head.opened ≡ Some (op.If t)) × (new ≡ opened_by op.Else (record { starts = head.starts; ends = head.ends }))

abbrev pub IsCatch : Beyond → Operator → (k : ℕ) → (head new : Frame) → Type 0
IsCatch beyond o k head new =
    (x : Other) × (o ≡ op.Other x) × (role_of x ≡ catches) × (is_tried head.opened ≡ true) × (new ≡ opened_by (op.Other x) (handler_arity beyond k))

-- the other part in the place of the one before
pub record Parts (beyond : Beyond) (o : Operator) (k : ℕ) (fs next : List Frame) : Type 0 where
  pub head : Frame
  pub tail : List Frame
  pub new : Frame
  pub is : fs ≡ head ∷ tail
  pub next_is : next ≡ new ∷ tail
  pub ends : new.ends ≡ head.ends
  pub kind : IsElse head new ⊎ IsCatch beyond o k head new

abbrev pub Effect : Beyond → Operator → (k : ℕ) → Nesting → (fs next : List Frame) → Type 0
Effect beyond o k opens fs next = Opens fs next
Effect beyond o k parts fs next = Parts beyond o k fs next
Effect beyond o k closes fs next = close_frame fs ≡ Some next
Effect beyond o k stays fs next = Flat fs next

open_effect : (o : Operator) (a : Arity) (fs next : List Frame) → open_frame o a fs ≡ Some next → Opens fs next
open_effect o a fs next e =
    let (gs, b, c) = map_some (λ (gs : List Frame). opened_by o a ∷ gs) (on_innermost (pop a.starts) fs) next e in
    let h = flat (pop a.starts) (pop_like a.starts) fs gs b in
    record {
      head = h.head;
      tail = h.tail;
      changed = h.changed;
      new = opened_by o a;
      is = h.is;
      next_is = sym c ∙ ap (λ (gs : List Frame). opened_by o a ∷ gs) h.next_is;
      like = h.like;
    }

then_opens : (fs mid next : List Frame) → Flat fs mid → Opens mid next → Opens fs next
then_opens fs mid next a b =
    let both : a.changed ∷ a.tail ≡ b.head ∷ b.tail = sym a.next_is ∙ b.is in
    let heads : a.changed ≡ b.head = cc in
    let tails : a.tail ≡ b.tail = cc in
    record {
      head = a.head;
      tail = a.tail;
      changed = b.changed;
      new = b.new;
      is = a.is;
      next_is = b.next_is ∙ ap (λ (ts : List Frame). b.new ∷ (b.changed ∷ ts)) (sym tails);
      like = like_then b.like (subst (λ x. Like x a.head) heads a.like);
    }

other_effect : (beyond : Beyond) (o : Operator) (k : ℕ) (fs next : List Frame) → other_frame fs ≡ Some next → Parts beyond o k fs next
other_effect beyond o k [] next e = absurd cc
other_effect beyond o k (f ∷ fs) next e = go f.opened refl e
  where
    go : (x : Option Operator) → f.opened ≡ x → other_of x f fs ≡ Some next → Parts beyond o k (f ∷ fs) next
    go (Some (op.If t)) at e =
        let new = opened_by op.Else (record { starts = f.starts; ends = f.ends }) in
        let (a, b) = if_some (can_close f) (Some (new ∷ fs)) next e in
        let is : next ≡ new ∷ fs = cc in
        record { head = f; tail = fs; new = new; is = refl; next_is = is; ends = refl; kind = inl (t, at, refl) }
    go x at e = absurd cc

catch_effect : (beyond : Beyond) (x : Other) (k : ℕ) (fs next : List Frame) → role_of x ≡ catches →
    catch_frame (op.Other x) (handler_arity beyond k) fs ≡ Some next → Parts beyond (op.Other x) k fs next
catch_effect beyond x k [] next role e = absurd cc
catch_effect beyond x k (f ∷ fs) next role e =
    let ar = handler_arity beyond k in
    let new = opened_by (op.Other x) ar in
    let (a, b) = if_some (is_tried f.opened && (can_close f && same_types ar.ends f.ends)) (Some (new ∷ fs)) next e in
    let both = and_parts (is_tried f.opened) (can_close f && same_types ar.ends f.ends) a in
    let is : next ≡ new ∷ fs = cc in
    record {
      head = f;
      tail = fs;
      new = new;
      is = refl;
      next_is = is;
      ends = same_types_is ar.ends f.ends (and_parts (can_close f) (same_types ar.ends f.ends) both.1).1;
      kind = inr (x, refl, role, both.0, refl);
    }

delegate_effect : (fs next : List Frame) → delegate_frame fs ≡ Some next → close_frame fs ≡ Some next
delegate_effect [] next e = absurd cc
delegate_effect (f ∷ fs) next e = (if_some (is_try f.opened) (close_frame (f ∷ fs)) next e).1

module _ (m : Module) (results : List PrimitiveTypeInfo) where
  pub effect : (beyond : Beyond) (o : Operator) (k : ℕ) (fs next : List Frame) → by_step m results beyond (Some o) k fs ≡ Some next →
      Effect beyond o k (nesting o) fs next
  effect beyond (op.Block t) k fs next e = open_effect (op.Block t) (arity_of m t) fs next (if_some (has_arity m t) _ next e).1
  effect beyond (op.Loop t) k fs next e = open_effect (op.Loop t) (arity_of m t) fs next (if_some (has_arity m t) _ next e).1
  effect beyond (op.If t) k fs next e =
      let one = primitive.I32 ∷ [] in
      let (mid, a, b) = and_then_some (open_frame (op.If t) (arity_of m t)) (on_innermost (pop one) fs) next
      (if_some (has_arity m t) _ next e).1 in
      then_opens fs mid next (flat (pop one) (pop_like one) fs mid a) (open_effect (op.If t) (arity_of m t) mid next b)
  effect beyond op.Else k fs next e = other_effect beyond op.Else k fs next e
  effect beyond op.End k fs next e = e
  effect beyond (op.Br l) k fs next e =
      let (f, a, b) = and_then_some (λ f. on_innermost (λ g. option_map cut_off (pop (label_types f) g)) fs) (slice_get fs l) next e in
      flat (λ g. option_map cut_off (pop (label_types f) g)) (λ g h. cut_like (pop (label_types f) g) g h (pop_like (label_types f) g)) fs next b
  effect beyond (op.BrIf l) k fs next e =
      let one = primitive.I32 ∷ [] in
      let (f, a, b) = and_then_some (λ f. on_innermost (λ g. option_and_then (λ d. option_map (push (label_types f)) (pop (label_types f) d))
      (pop one g)) fs) (slice_get fs l) next e in
      flat (λ g. option_and_then (λ d. option_map (push (label_types f)) (pop (label_types f) d)) (pop one g))
      (λ g h x. let (d, u, v) = and_then_some (λ d. option_map (push (label_types f)) (pop (label_types f) d)) (pop one g) h x in
      like_then (push_like (label_types f) (pop (label_types f) d) d h (pop_like (label_types f) d) v) (pop_like one g d u)) fs next b
  effect beyond op.Return k fs next e =
      flat (λ g. option_map cut_off (pop results g)) (λ g h. cut_like (pop results g) g h (pop_like results g)) fs next e
  effect beyond op.Unreachable k fs next e =
      flat (λ g. Some (cut_off g)) (λ g h x. let is : h ≡ cut_off g = cc in like_is is (record { opened = refl; starts = refl; ends = refl })) fs next e
  effect beyond (op.BrTable n) k fs next e =
      let one = primitive.I32 ∷ [] in
      let step = λ (f g : Frame). option_and_then (λ (d : Frame). if can_jump_all fs f d (take n (beyond.labels k)) then
      option_map cut_off (pop (label_types f) d) else None) (pop one g) in
      let (f, a, b) = and_then_some (λ (f : Frame). on_innermost (step f) fs) (slice_get fs (beyond.default k)) next e in
      flat (step f)
      (λ g h x. let (d, u, v) = and_then_some (λ (d : Frame). if can_jump_all fs f d (take n (beyond.labels k)) then
      option_map cut_off (pop (label_types f) d) else None) (pop one g) h x in
      let (c, w) = if_some (can_jump_all fs f d (take n (beyond.labels k))) (option_map cut_off (pop (label_types f) d)) h v in
      like_then (cut_like (pop (label_types f) d) d h (pop_like (label_types f) d) w) (pop_like one g d u)) fs next b
  effect beyond (op.CallIndirect type table) k fs next e =
      let ar = call_arity m type table in
      let (a, b) = if_some (can_call_indirect m type table) (on_innermost (λ g. option_map (push ar.ends) (pop ar.starts g)) fs) next e in
      flat (λ g. option_map (push ar.ends) (pop ar.starts g)) (λ g h. push_like ar.ends (pop ar.starts g) g h (pop_like ar.starts g)) fs next b
  effect beyond (op.Other o) k fs next e = other_effect_of (role_of o) refl e
    where
      left_like : (o : Option (List PrimitiveTypeInfo)) (d : Frame) → Like (left o d) d
      left_like (Some ts) d = record { opened = refl; starts = refl; ends = refl }
      left_like None d = record { opened = refl; starts = refl; ends = refl }

      other_effect_of : (r : Role) → role_of o ≡ r → other_step o r beyond k fs ≡ Some next → Effect beyond (op.Other o) k (other_nesting r) fs next
      other_effect_of handles r e =
          let ar = handler_arity beyond k in
          open_effect (op.Other o) ar fs next (if_some (are_labels fs (beyond.clauses k)) (open_frame (op.Other o) ar fs) next e).1
      other_effect_of tries r e = open_effect (op.Other o) (handler_arity beyond k) fs next e
      other_effect_of catches r e = catch_effect beyond o k fs next r e
      other_effect_of delegates r e = delegate_effect fs next e
      other_effect_of does r e =
          let step = λ (g : Frame). option_and_then (λ (d : Frame). if can_branch fs d (beyond.label k) then Some (left (beyond.leaves k) d) else None)
          (pop (beyond.takes k) g) in
          flat step (λ g h x.
          let (d, u, v) = and_then_some (λ (d : Frame). if can_branch fs d (beyond.label k) then Some (left (beyond.leaves k) d) else None)
          (pop (beyond.takes k) g) h x in
          let (c, w) = if_some (can_branch fs d (beyond.label k)) (Some (left (beyond.leaves k) d)) h v in
          let is : h ≡ left (beyond.leaves k) d = cc in
          like_is is (like_then (left_like (beyond.leaves k) d) (pop_like (beyond.takes k) g d u))) fs next e
  effect beyond o k fs next e = absurd cc
