-- Where the blocks of a valid body end.
use Rattle.std.proofs.Common.{◌≡◌, ℕ, zero, suc, ◌<◌, ◌≤◌, inl, inr, true, List, [], ◌∷◌, length, drop, Option, Some, None, refl, sym, ap}
use Rattle.std.proofs.Common.{ap₂, ◌∙◌, subst, arith}
use Rattle.std.specs.Prelude.{◌&&◌, Contains, slice_get}
use Rattle.wasm_code.specs.Instruction.{Instruction}
use Rattle.wasm_code.specs.declared.immediate.BlockType.{BlockType}
use Rattle.wasm_code.specs.declared.other.Other.{Other}
use Rattle.wasm_code.specs.declared.operator.Operator.{Operator}
use Rattle.wasm_code.specs.declared.operator.Operator.TheVariants as op
use Rattle.wasm_types.specs.declared.types.PrimitiveTypeInfo.{PrimitiveTypeInfo}
use Rattle.wasm_execution.specs.Values.{Context}
use Rattle.wasm_equivalence.specs.control.Blocks.{catches, role_of, Nesting, opens, parts, closes, stays, nesting, closing_at, closing}
use Rattle.wasm_equivalence.specs.control.Blocks.{other_part_at, other_part, parts_at, parts_from}
use Rattle.wasm_equivalence.specs.control.Standard.{Beyond, handler_arity}
use Rattle.wasm_equivalence.specs.validation.Algorithm.{Frame}
use Rattle.wasm_equivalence.specs.validation.StandardSteps.{push, opened_by, can_close, leaves_alike, close_frame, is_tried_by, is_tried}
use Rattle.wasm_equivalence.specs.validation.StandardSteps.{by_step, standard_steps}
use Rattle.wasm_equivalence.proofs.validation.RunChecks.{if_some}
use Rattle.wasm_equivalence.proofs.validation.TraceLemmas.{check_instructions, Trace}
use Rattle.wasm_equivalence.proofs.validation.FrameLemmas.{Like, like_itself, like_then, like_is, code_like, Flat, Parts, IsCatch}
use Rattle.wasm_equivalence.proofs.validation.FrameLemmas.{instructions_on, instructions_none, Effect, effect}

-- the frame, or one like it, stands under so many others, above the outer ones
abbrev pub Nested : ℕ → Frame → (outer : List Frame) → List Frame → Type 0
Nested zero f outer fs = (g : Frame) × (fs ≡ g ∷ outer) × Like g f
Nested (suc d) f outer fs = (g : Frame) × (gs : List Frame) × (fs ≡ g ∷ gs) × Nested d f outer gs

-- it stays so where the innermost frame changes
nested_flat : (d : ℕ) (f : Frame) (outer : List Frame) (h g : Frame) (gs : List Frame) → Like g h → Nested d f outer (h ∷ gs) → Nested d f outer (g ∷ gs)
nested_flat zero f outer h g gs like n =
    let tails : gs ≡ outer = (let (x, e, l) = n in cc) in
    let heads : h ≡ n.0 = (let (x, e, l) = n in cc) in
    (g, ap (λ (ts : List Frame). g ∷ ts) tails, like_then like (like_is heads n.2))
nested_flat (suc d) f outer h g gs like n =
    let (x, xs, e, l) = n in
    let tails : xs ≡ gs = cc in (g, gs, refl, subst (Nested d f outer) tails l)

nested_some : (d : ℕ) (f : Frame) (outer : List Frame) → Nested d f outer [] → ⊥
nested_some zero f outer n = let (x, e, l) = n in absurd cc
nested_some (suc d) f outer n = let (x, xs, e, l) = n in absurd cc

nested_effect : (d : ℕ) (f : Frame) (outer fs next : List Frame) → Flat fs next → Nested d f outer fs → Nested d f outer next
nested_effect d f outer fs next h n =
    subst (Nested d f outer) (sym h.next_is) (nested_flat d f outer h.head h.changed h.tail h.like (subst (Nested d f outer) h.is n))

nested_instructions : (context : Context) (code : List Instruction) (d : ℕ) (f : Frame) (outer fs mid : List Frame) →
    check_instructions context code fs ≡ Some mid → Nested d f outer fs → Nested d f outer mid
nested_instructions context code d f outer [] mid e n = absurd (nested_some d f outer n)
nested_instructions context code d f outer (g ∷ gs) mid e n =
    let (h, a, b) = instructions_on context code g gs mid e in
    subst (Nested d f outer) (sym a) (nested_flat d f outer g h gs (code_like context code g h b) n)

-- a frame above closes
nested_close : (d : ℕ) (f : Frame) (outer : List Frame) (h : Frame) (gs next : List Frame) → close_frame (h ∷ gs) ≡ Some next →
    Nested d f outer gs → Nested d f outer next
nested_close d f outer h [] next e n = absurd (nested_some d f outer n)
nested_close d f outer h (g ∷ gs) next e n =
    let (a, b) = if_some (can_close h && leaves_alike h.opened (record { starts = h.starts; ends = h.ends })) (Some (push h.ends g ∷ gs)) next e in
    let is : next ≡ push h.ends g ∷ gs = cc in
    subst (Nested d f outer) (sym is) (nested_flat d f outer g (push h.ends g) gs (record { opened = refl; starts = refl; ends = refl }) n)

pub dropped : {X : Type 0} (xs : List X) (p : ℕ) (x : X) (ys : List X) → drop p xs ≡ x ∷ ys →
    (slice_get xs p ≡ Some x) × (drop (suc p) xs ≡ ys) × (p < length xs)
dropped [] zero x ys e = absurd cc
dropped [] (suc p) x ys e = absurd cc
dropped (z ∷ xs) zero x ys e = (cc, cc, omega arith)
dropped (z ∷ xs) (suc p) x ys e = let h = dropped xs p x ys e in let l = h.2 in (h.0, h.1, omega arith)

pub none_left : {X : Type 0} (xs : List X) (p : ℕ) → p ≤ length xs → drop p xs ≡ [] → p ≡ length xs
none_left [] zero l e = refl
none_left [] (suc p) l e = absurd (omega arith)
none_left (z ∷ xs) zero l e = absurd cc
none_left (z ∷ xs) (suc p) l e = let h = none_left xs p (omega arith) e in omega arith

module _ (context : Context) (results : List PrimitiveTypeInfo) (structure : List Operator) (pieces : ℕ → List Instruction) (start : List Frame)
    (beyond : Beyond) (trace : Trace context (standard_steps context.info results structure beyond) pieces (length structure) start []) where
  -- a part of a `try` that begins with an exception
  pub record CaughtPart (f : Frame) (outer : List Frame) (j : ℕ) : Type 0 where
    pub inside : j < length structure
    pub operator : Other
    pub at : slice_get structure j ≡ Some (op.Other operator)
    pub role : role_of operator ≡ catches
    pub next : trace.frames (suc j) ≡ opened_by (op.Other operator) (handler_arity beyond j) ∷ outer
    pub ends : (handler_arity beyond j).ends ≡ f.ends

  -- where a frame closes, and where its other parts begin
  pub record Closed (f : Frame) (outer : List Frame) (e : ℕ) (part : Option ℕ) (all : List ℕ) : Type 0 where
    pub inside : e < length structure
    pub final : Frame
    pub ends : final.ends ≡ f.ends
    pub closed_is : close_frame (final ∷ outer) ≡ Some (trace.frames (suc e))
    pub same : part ≡ None → Like final f
    pub other : (j : ℕ) (t : BlockType) → part ≡ Some j → f.opened ≡ Some (op.If t) →
        (j < length structure) × (trace.frames (suc j) ≡ opened_by op.Else (record { starts = f.starts; ends = f.ends }) ∷ outer)
    pub each : (j : ℕ) → Contains all j → is_tried f.opened ≡ true → CaughtPart f outer j

  abbrev Closes : List Operator → ℕ → Type 0
  Closes os p =
      (d : ℕ) (f : Frame) (outer : List Frame) → Nested d f outer (trace.frames p) → Closed f outer (closing d p os) (other_part d p os) (parts_from d p os)

  -- the first part ends where the next one begins
  by_part : (o : Operator) (os : List Operator) (p : ℕ) → p < length structure → slice_get structure p ≡ Some o → Closes os (suc p) → (mid : List Frame) →
      Parts beyond o p mid (trace.frames (suc p)) → (f : Frame) (outer : List Frame) → Nested zero f outer mid →
      Closed f outer (closing zero (suc p) os) (Some p) (p ∷ parts_from zero (suc p) os)
  by_part o os p l at next mid h f outer n =
      let (g, e, like) = n in
      let heads : h.head ≡ g = (let x = h.is in cc) in
      let tails : h.tail ≡ outer = (let x = h.is in cc) in
      let like' = like_is heads like in
      let is : trace.frames (suc p) ≡ h.new ∷ outer = h.next_is ∙ ap (λ (ts : List Frame). h.new ∷ ts) tails in
      let c = next zero h.new outer (h.new, is, like_itself h.new) in
      record {
        inside = c.inside;
        final = c.final;
        ends = c.ends ∙ (h.ends ∙ like'.ends);
        closed_is = c.closed_is;
        same = λ x. absurd cc;
        other = λ j t x y. elim h.kind [
          | inl part ↦
              let new = opened_by op.Else (record { starts = f.starts; ends = f.ends }) in
              let same : h.new ≡ new =
              part.2 ∙ ap₂ (λ (a b : List PrimitiveTypeInfo). opened_by op.Else (record { starts = a; ends = b })) like'.starts like'.ends in
              let k : p ≡ j = cc in
              subst (λ i. (i < length structure) × (trace.frames (suc i) ≡ new ∷ outer)) k (l, is ∙ ap (λ (z : Frame). z ∷ outer) same)
          | inr catch ↦ absurd (not_tried t (like'.opened ∙ y) catch.3)
        ];
        each = λ j x tried. elim h.kind [
          | inl part ↦ absurd (not_tried part.0 part.1 (ap is_tried like'.opened ∙ tried))
          | inr catch ↦ caught_part c j x catch is (h.ends ∙ like'.ends)
        ];
      }
    where
      not_tried : {g : Option Operator} (t : BlockType) → g ≡ Some (op.If t) → is_tried g ≡ true → ⊥
      not_tried t y tried = let k : is_tried (Some (op.If t)) ≡ true = ap is_tried (sym y) ∙ tried in absurd cc

      caught_part : {e : ℕ} {part : Option ℕ} (c : Closed h.new outer e part (parts_from zero (suc p) os)) (j : ℕ) →
          Contains (p ∷ parts_from zero (suc p) os) j → IsCatch beyond o p h.head h.new → trace.frames (suc p) ≡ h.new ∷ outer → h.new.ends ≡ f.ends →
          CaughtPart f outer j
      caught_part c j (zero, inside, same) (x, is_x, role, tried, new) is ends =
          subst (CaughtPart f outer) same (record {
            inside = l;
            operator = x;
            at = at ∙ ap (λ (z : Operator). Some z) is_x;
            role = role;
            next = is ∙ ap (λ (z : Frame). z ∷ outer) new;
            ends = sym (ap (λ (z : Frame). z.ends) new) ∙ ends;
          })
      caught_part c j (suc i, inside, same) (x, is_x, role, tried, new) is ends =
          let again : is_tried h.new.opened ≡ true = ap (λ (z : Frame). is_tried z.opened) new ∙ ap is_tried_by role in
          let it = c.each j (i, omega arith, same) again in
          record { inside = it.inside; operator = it.operator; at = it.at; role = it.role; next = it.next; ends = it.ends ∙ ends }

  by_nesting : (o : Operator) (os : List Operator) (p : ℕ) → p < length structure → slice_get structure p ≡ Some o → Closes os (suc p) → (n : Nesting)
      (mid : List Frame) → Effect beyond o p n mid (trace.frames (suc p)) → (d : ℕ) (f : Frame) (outer : List Frame) → Nested d f outer mid →
      Closed f outer (closing_at n d p (λ d. closing d (suc p) os)) (other_part_at n d p (λ d. other_part d (suc p) os))
      (parts_at n d p (λ d. parts_from d (suc p) os))
  by_nesting o os p l at next opens mid h d f outer n =
      next (suc d) f outer (
        h.new,
        h.changed ∷ h.tail,
        h.next_is,
        nested_flat d f outer h.head h.changed h.tail h.like (subst (Nested d f outer) h.is n),
      )
  by_nesting o os p l at next stays mid h d f outer n = next d f outer (nested_effect d f outer mid (trace.frames (suc p)) h n)
  by_nesting o os p l at next parts mid h zero f outer n = by_part o os p l at next mid h f outer n
  by_nesting o os p l at next parts mid h (suc d) f outer n =
      let (g, gs, e, below) = n in
      let tails : gs ≡ h.tail = (let x = h.is in cc) in
      next (suc d) f outer (h.new, h.tail, h.next_is, subst (Nested d f outer) tails below)
  by_nesting o os p l at next closes mid h zero f outer n =
      let (g, e, like) = n in
      record {
        inside = l;
        final = g;
        ends = like.ends;
        closed_is = ap close_frame (sym e) ∙ h;
        same = λ x. like;
        other = λ j t x y. absurd cc;
        each = λ j x y. (let (i, inside, same) = x in absurd (omega arith));
      }
  by_nesting o os p l at next closes mid h (suc d) f outer n =
      let (g, gs, e, below) = n in
      next d f outer (nested_close d f outer g gs (trace.frames (suc p)) (ap close_frame (sym e) ∙ h) below)

  pub closes_at : (os : List Operator) (p : ℕ) → p ≤ length structure → drop p structure ≡ os → Closes os p
  closes_at [] p l e d f outer n =
      let is = none_left structure p l e in
      let none : trace.frames p ≡ [] =
      ap trace.frames is ∙ instructions_none context (pieces (length structure)) (trace.frames (length structure)) trace.last in
      absurd (nested_some d f outer (subst (Nested d f outer) none n))
  closes_at (o ∷ os) p l e d f outer n =
      let h = dropped structure p o os e in
      let (mid, a, b) = trace.goes p h.2 in
      let step : by_step context.info results beyond (Some o) p mid ≡ Some (trace.frames (suc p)) =
      ap (λ x. by_step context.info results beyond x p mid) (sym h.0) ∙ b in
      by_nesting o os p h.2 h.0 (closes_at os (suc p) (let q = h.2 in omega arith) h.1) (nesting o) mid
      (effect context.info results beyond o p mid (trace.frames (suc p)) step) d f outer
      (nested_instructions context (pieces p) d f outer (trace.frames p) mid a n)
