-- Typed instructions, one after another.
use Rattle.std.proofs.Common.{◌≡◌, ℕ, ◌-◌, ◌≤◌, Bool, true, false, List, [], ◌∷◌, ◌++◌, length, take, drop, Option, Some, None, refl, sym, ap, ap₂, ◌∙◌}
use Rattle.std.proofs.Common.{subst, length-append, arith}
use Rattle.std.specs.Prelude.{IsTrue, nat_le, if◌then◌else◌, option_map, option_and_then}
use Rattle.std.proofs.lemmas.Bool.{cond-true}
use Rattle.std.proofs.lemmas.List.{take_at, drop_at, take-append-drop}
use Rattle.wasm_code.specs.Instruction.{Instruction}
use Rattle.wasm_types.specs.declared.types.PrimitiveTypeInfo.{PrimitiveTypeInfo}
use Rattle.wasm_execution.specs.CountLemmas.{counts_are}
use Rattle.wasm_execution.specs.IntegerRow.{IntegerRow, row_types, integer_row}
use Rattle.wasm_execution.specs.Row.{list_of, at_most_one, instruction_types, instruction_count}
use Rattle.wasm_execution.specs.RowLemmas.{and_then_some, map_some}
use Rattle.wasm_execution.specs.Values.{Context}
use Rattle.wasm_equivalence.specs.validation.StaysValid.{Pushes, ChecksAs, TypedCodePushes, PushesOnFrames, RowTypesStay}
use Rattle.wasm_equivalence.specs.control.Wider.{wider}
use Rattle.body_changes.specs.Typed.{is_told_apart, keep, told_types, told_types_behind, told_types_after, LeavesTypes, LeavingCodePushes}

-- ---- an instruction

le_true : (n m : ℕ) → n ≤ m → nat_le n m ≡ true
le_true n m l = grind arith

kept : (o gives : Option PrimitiveTypeInfo) → keep o ≡ Some gives → o ≡ gives
kept None gives e = cc
kept (Some t) gives e = go (is_told_apart t) e
  where
    go : (b : Bool) → (if b then Some (Some t) else None) ≡ Some gives → Some t ≡ gives
    go true h = cc
    go false h = absurd cc

told_given : (context : Context) (i : Instruction) (ts : List PrimitiveTypeInfo) (gives : Option PrimitiveTypeInfo) →
    told_types context i ts ≡ Some gives → instruction_types context i ts ≡ Some gives
told_given context i ts gives e =
    let (o, is, k) = and_then_some keep (instruction_types context i ts) gives e in
    is ∙ ap (λ (x : Option PrimitiveTypeInfo). Some x) (kept o gives k)

pub told_known : (context : Context) (i : Instruction) (ts : List PrimitiveTypeInfo) (t : PrimitiveTypeInfo) → IsTrue (is_told_apart t) →
    instruction_types context i ts ≡ Some (Some t) → told_types context i ts ≡ Some (Some t)
told_known context i ts t d e = ap (option_and_then keep) e ∙ cond-true _ _ _ d

-- with its operands on top of others
pub behind_others : (context : Context) (i : Instruction) (front ts : List PrimitiveTypeInfo) (gives : Option PrimitiveTypeInfo) →
    told_types context i ts ≡ Some gives → told_types_behind context i (front ++ ts) ≡ Some (front ++ list_of gives)
behind_others context i front ts gives e =
    let n = counts_are context i ts gives (told_given context i ts gives e) in
    let sum = length-append front ts in
    let below : length (front ++ ts) - instruction_count context.info i ≡ length front = omega arith in
    cond-true _ _ _ (le_true (instruction_count context.info i) (length (front ++ ts)) (omega arith))
    ∙ (ap (λ k. option_map (λ o. take k (front ++ ts) ++ list_of o) (told_types context i (drop k (front ++ ts)))) below
    ∙ (ap₂ (λ xs ys. option_map (λ (o : Option PrimitiveTypeInfo). xs ++ list_of o) (told_types context i ys)) (take_at front ts (length front) refl)
    (drop_at front ts (length front) refl) ∙ ap (option_map (λ (o : Option PrimitiveTypeInfo). front ++ list_of o)) e))

-- ---- code

pub after_one : (context : Context) (i : Instruction) (code : List Instruction) (ts us : List PrimitiveTypeInfo) → told_types_behind context i ts ≡ Some us →
    told_types_after context (i ∷ code) ts ≡ told_types_after context code us
after_one context i code ts us e = ap (option_and_then (told_types_after context code)) e

-- ---- it is valid

few_is : (o : Option (List PrimitiveTypeInfo)) (gives : Option PrimitiveTypeInfo) → option_and_then at_most_one o ≡ Some gives → o ≡ Some (list_of gives)
few_is None gives e = absurd cc
few_is (Some []) gives e = let same : None ≡ gives = cc in ap (λ (g : Option PrimitiveTypeInfo). Some (list_of g)) same
few_is (Some (t ∷ [])) gives e = let same : Some t ≡ gives = cc in ap (λ (g : Option PrimitiveTypeInfo). Some (list_of g)) same
few_is (Some (t ∷ u ∷ us)) gives e = absurd cc

-- what is known of valid code
pub record OfRows : Type 0 where
  pub push : TypedCodePushes
  pub on : PushesOnFrames
  pub stay : RowTypesStay

-- an instruction that finds its operands
pub record Found (context : Context) (i : Instruction) (ts us : List PrimitiveTypeInfo) : Type 0 where
  pub below : ℕ
  pub gives : Option PrimitiveTypeInfo
  pub typed : told_types context i (drop below ts) ≡ Some gives
  pub left : us ≡ take below ts ++ list_of gives

pub found : (context : Context) (i : Instruction) (ts us : List PrimitiveTypeInfo) → told_types_behind context i ts ≡ Some us → Found context i ts us
found context i ts us e = go (nat_le (instruction_count context.info i) (length ts)) e
  where
    below : ℕ
    below = length ts - instruction_count context.info i

    go : (b : Bool) → (if b then option_map (λ o. take (length ts - instruction_count context.info i) ts ++ list_of o)
        (told_types context i (drop (length ts - instruction_count context.info i) ts)) else None) ≡ Some us → Found context i ts us
    go false h = absurd cc
    go true h =
        let m = length ts - instruction_count context.info i in
        let (gives, typed, same) = map_some (λ (o : Option PrimitiveTypeInfo). take m ts ++ list_of o) (told_types context i (drop m ts)) us h in
        record { below = m; gives = gives; typed = typed; left = sym same }

module _ (law : OfRows) (context all : Context)
    (weaker : (row : IntegerRow) (ts us : List PrimitiveTypeInfo) → row_types context row ts ≡ Some us → row_types all row ts ≡ Some us) where
  pushes_one : (i : Instruction) (ts us : List PrimitiveTypeInfo) → told_types_behind context i ts ≡ Some us → Pushes all (i ∷ []) ts us
  pushes_one i ts us e =
      let f = found context i ts us e in
      let row = weaker (integer_row i) (drop f.below ts) (list_of f.gives)
      (few_is (row_types context (integer_row i) (drop f.below ts)) f.gives (told_given context i (drop f.below ts) f.gives f.typed)) in
      subst (λ xs. Pushes all (i ∷ []) xs us) (take-append-drop f.below ts)
      (subst (λ xs. Pushes all (i ∷ []) (take f.below ts ++ drop f.below ts) xs) (sym f.left)
      (law.push.above all (i ∷ []) (take f.below ts) (drop f.below ts) (list_of f.gives)
      (law.push.row all i (drop f.below ts) (list_of f.gives) row)))

  pushes : (code : List Instruction) (ts us : List PrimitiveTypeInfo) → told_types_after context code ts ≡ Some us → Pushes all code ts us
  pushes [] ts us e = let same : ts ≡ us = cc in subst (Pushes all [] ts) same (law.push.nothing all ts)
  pushes (i ∷ code) ts us e =
      let (vs, first, more) = and_then_some (told_types_after context code) (told_types_behind context i ts) us e in
      law.push.follow all (i ∷ []) code ts vs us (pushes_one i ts vs first) (pushes code vs us more)

pub leaving_pushes : OfRows → LeavingCodePushes
leaving_pushes law context code ts e = pushes law context context (λ row xs ys h. h) code [] ts e

-- Code that leaves the same is valid wherever the other is.
pub checks : OfRows → (context : Context) (own code : List Instruction) (ts : List PrimitiveTypeInfo) → LeavesTypes context own ts →
    LeavesTypes context code ts →
    (bytes : List ℕ) (more : List PrimitiveTypeInfo) → ChecksAs context (wider bytes more context) own code
checks law context own code ts a b bytes more f g e =
    let all = wider bytes more context in
    law.on all code ts (pushes law context all (law.stay context bytes more) code [] ts b) f
    ∙ (sym (law.on context own ts (pushes law context context (λ row xs ys h. h) own [] ts a) f) ∙ e)
