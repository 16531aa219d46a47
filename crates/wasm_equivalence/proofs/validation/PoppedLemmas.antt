-- What a frame with values has once some are popped or pushed, and the last of a stack's values.
use Rattle.std.proofs.Common.{◌≡◌, ℕ, ◌-◌, true, List, [], ◌∷◌, ◌++◌, length, take, drop, Option, Some, None, refl, sym, ap, ap₂, ◌∙◌}
use Rattle.std.proofs.Common.{arith, append-nil, length-append}
use Rattle.std.specs.Prelude.{◌&&◌}
use Rattle.std.proofs.lemmas.Bool.{and_parts, eqb-true}
use Rattle.std.proofs.lemmas.List.{take_at, drop_at, take-append-drop}
use Rattle.wasm_code.specs.declared.operator.Operator.{Operator}
use Rattle.wasm_types.specs.declared.types.PrimitiveTypeInfo.{PrimitiveTypeInfo}
use Rattle.wasm_execution.specs.Values.{same_types, Value, types}
use Rattle.wasm_execution.specs.OutcomeLemmas.{types_append}
use Rattle.wasm_execution.specs.RowLemmas.{same_types_is}
use Rattle.wasm_equivalence.specs.control.Blocks.{Arity}
use Rattle.wasm_equivalence.specs.control.Standard.{last_of}
use Rattle.wasm_equivalence.specs.validation.Algorithm.{OperandEntry, all_may_be, known, Frame, can_pop, popped, with_pushed}
use Rattle.wasm_equivalence.specs.validation.StandardSteps.{pop, push, opened_by, frame_is_empty, can_close}
use Rattle.wasm_equivalence.specs.validation.Sound.{HasValues}
use Rattle.wasm_equivalence.proofs.validation.RowChecks.{all_known}
use Rattle.wasm_equivalence.proofs.validation.RunChecks.{if_some, known_append, pops}
use Rattle.wasm_equivalence.proofs.validation.FrameLemmas.{Like, like_is}

-- ---- popped values

-- a frame with values, of which the last have been popped
pub record Popped (ts : List PrimitiveTypeInfo) (f h : Frame) (vs : List Value) : Type 0 where
  pub rest : List Value
  pub top : List Value
  pub is : vs ≡ rest ++ top
  pub typed : types top ≡ ts
  pub left : HasValues h rest
  pub like : Like h f

pub pop_values : (ts : List PrimitiveTypeInfo) (f h : Frame) (vs : List Value) → HasValues f vs → pop ts f ≡ Some h → Popped ts f h vs
pop_values ts f h vs v e =
    let n = length ts in
    let (a, b) = if_some (can_pop n f && all_may_be (popped n f) ts) (Some (with_pushed n f [])) h e in
    let both = and_parts (can_pop n f) (all_may_be (popped n f) ts) a in
    let p = pops f vs n v both.0 in
    let k = length vs - n in
    let same : same_types (types (drop k vs)) ts ≡ true =
    sym (all_known (types (drop k vs)) ts) ∙ (ap (λ (es : List OperandEntry). all_may_be es ts) (sym p.popped_are) ∙ both.1) in
    let is : h ≡ with_pushed n f [] = cc in
    let now : h ≡ record f { operands = known (types (take k vs)) } =
    is ∙ (p.left [] ∙ ap (λ (es : List OperandEntry). record f { operands = es }) (append-nil (known (types (take k vs))))) in
    record {
      rest = take k vs;
      top = drop k vs;
      is = sym (take-append-drop k vs);
      typed = same_types_is (types (drop k vs)) ts same;
      left = record {
        operands_are = ap (λ (x : Frame). x.operands) now;
        reached = ap (λ (x : Frame). x.unreachable) now ∙ v.reached;
      };
      like = like_is now (record { opened = refl; starts = refl; ends = refl });
    }

no_values : (vs : List Value) → length (known (types vs)) ≡ 0 → vs ≡ []
no_values [] e = refl
no_values (v ∷ vs) e = absurd (omega arith)

-- a frame that can close has the values of its end
pub close_values : (f : Frame) (vs : List Value) → HasValues f vs → can_close f ≡ true → types vs ≡ f.ends
close_values f vs v e = go (pop f.ends f) refl e
  where
    go : (o : Option Frame) → pop f.ends f ≡ o → frame_is_empty o ≡ true → types vs ≡ f.ends
    go None a b = absurd cc
    go (Some h) a b =
        let p = pop_values f.ends f h vs v a in
        let none : p.rest ≡ [] = no_values p.rest (ap length (sym p.left.operands_are) ∙ eqb-true (length h.operands) 0 b) in
        ap types (p.is ∙ ap (λ (x : List Value). x ++ p.top) none) ∙ p.typed

pub push_values : (ts : List PrimitiveTypeInfo) (f : Frame) (vs ws : List Value) → HasValues f vs → types ws ≡ ts → HasValues (push ts f) (vs ++ ws)
push_values ts f vs ws v e = record {
  operands_are = ap₂ (λ (es : List OperandEntry) (us : List PrimitiveTypeInfo). es ++ known us) v.operands_are (sym e) ∙
      (sym (known_append (types vs) (types ws)) ∙ ap known (sym (types_append vs ws)));
  reached = v.reached;
}

pub opened_values : (o : Operator) (a : Arity) (vs : List Value) → types vs ≡ a.starts → HasValues (opened_by o a) vs
opened_values o a vs e = record { operands_are = ap known (sym e); reached = refl }

-- ---- stacks

pub last_is : (xs ys : List Value) (n : ℕ) → n ≡ length ys → last_of n (xs ++ ys) ≡ ys
last_is xs ys n e = drop_at xs ys (length (xs ++ ys) - n) (omega (arith, length-append xs ys))

pub front_is : (xs ys : List Value) (n : ℕ) → n ≡ length ys → take (length (xs ++ ys) - n) (xs ++ ys) ≡ xs
front_is xs ys n e = take_at xs ys (length (xs ++ ys) - n) (omega (arith, length-append xs ys))

pub one_value : (vs : List Value) (t : PrimitiveTypeInfo) → types vs ≡ t ∷ [] → (v : Value) × (vs ≡ v ∷ []) × (v.type ≡ t)
one_value [] t e = absurd cc
one_value (v ∷ []) t e = (v, refl, cc)
one_value (v ∷ w ∷ vs) t e = absurd cc

-- the last of values of these types, and those before it
pub last_value : (vs : List Value) (ts : List PrimitiveTypeInfo) (t : PrimitiveTypeInfo) → types vs ≡ ts ++ t ∷ [] →
    (ws : List Value) × (v : Value) × (vs ≡ ws ++ v ∷ []) × (types ws ≡ ts)
last_value [] [] t e = absurd cc
last_value [] (u ∷ ts) t e = absurd cc
last_value (v ∷ []) [] t e = ([], v, refl, refl)
last_value (v ∷ w ∷ vs) [] t e = absurd cc
last_value (v ∷ vs) (u ∷ ts) t e =
    let later : types vs ≡ ts ++ t ∷ [] = cc in
    let (ws, w, is, typed) = last_value vs ts t later in
    (v ∷ ws, w, ap (λ (x : List Value). v ∷ x) is, ap₂ (λ (x : PrimitiveTypeInfo) (xs : List PrimitiveTypeInfo). x ∷ xs) (let k : v.type ≡ u = cc in k) typed)
