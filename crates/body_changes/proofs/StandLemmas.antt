-- Code that stands in a body, its parts, and code with one operator more.
use Rattle.std.proofs.Common.{◌≡◌, ℕ, zero, suc, ◌+◌, ◌-◌, ◌<◌, ◌≤◌, ◌⊎◌, inl, inr, List, [], ◌∷◌, ◌++◌, length, map, get_or, take, drop}
use Rattle.std.proofs.Common.{Option, Some, None, refl, sym, ap, ◌∙◌, subst, append_assoc, arith}
use Rattle.std.specs.Prelude.{min, option_and_then, option_map, slice_get, slice_range}
use Rattle.std.proofs.lemmas.Bool.{cases_lt}
use Rattle.std.proofs.lemmas.List.{append-nil, append_cancel_right, drop-drop, drop-map, drop-take, drop_min, length-drop, take-append-drop}
use Rattle.std.proofs.lemmas.List.{take-map, take-take, take_min}
use Rattle.std.proofs.lemmas.Option.{slice_get-get_or, slice_get-map}
use Rattle.wasm_code.specs.Instruction.{Instruction}
use Rattle.wasm_code.specs.declared.operator.Operator.{Operator}
use Rattle.wasm_code.specs.declared.operator.Operator.TheVariants.{Instr}
use Rattle.wasm_types.specs.declared.types.PrimitiveTypeInfo.{PrimitiveTypeInfo}
use Rattle.wasm_execution.specs.CountLemmas.{counts_are}
use Rattle.wasm_execution.specs.Row.{list_of, instruction_types, instruction_count}
use Rattle.wasm_execution.specs.RowLemmas.{and_then_some}
use Rattle.wasm_execution.specs.Values.{Context}
use Rattle.body_splices.specs.OwnBytes.{without_offsets}
use Rattle.body_changes.specs.Pass.{IsCodeLeaving}
use Rattle.body_changes.specs.Replacing.{AreTheseInstructions, HasInstruction, IsClosed}
use Rattle.body_changes.specs.Typed.{keep, told_types, told_types_behind, told_types_after, LeavesTypes}
use Rattle.body_changes.proofs.OwnLemmas.{one_more, same_instructions}
use Rattle.body_changes.proofs.TypedLemmas.{after_one, behind_others, found}

abbrev pub Operators : Type 0
Operators = List (Operator × ℕ)

abbrev pub Types : Type 0
Types = List PrimitiveTypeInfo

-- ---- places

pub get_behind : {X : Type 0} (xs : List X) (n i : ℕ) → slice_get (drop n xs) i ≡ slice_get xs (n + i)
get_behind xs zero i = ap (slice_get xs) (let e : i ≡ 0 + i = omega arith in e)
get_behind [] (suc n) i = refl
get_behind (x ∷ xs) (suc n) i = get_behind xs n i ∙ ap (slice_get (x ∷ xs)) (let e : suc (n + i) ≡ suc n + i = omega arith in e)

pub nothing_there : (operators : Operators) (s : ℕ) → AreTheseInstructions (slice_range operators s s) []
nothing_there operators s = record { are = ap (λ n. without_offsets (take n (drop s operators))) (let e : s - s ≡ 0 = omega arith in e) }

only_nothing : (operators : Operators) (s : ℕ) (code : List Instruction) → AreTheseInstructions (slice_range operators s s) code → code ≡ []
only_nothing operators s code h = same_instructions (slice_range operators s s) code [] h (nothing_there operators s)

pub one_behind : (operators : Operators) (s at : ℕ) (code : List Instruction) (i : Instruction) → s ≤ at → HasInstruction operators at i →
    AreTheseInstructions (slice_range operators s at) code → AreTheseInstructions (slice_range operators s (at + 1)) (code ++ i ∷ [])
one_behind operators s at code i le has h =
    let more : at - s + 1 ≡ at + 1 - s = omega arith in
    let whole : s + (at - s) ≡ at = omega arith in
    let there : HasInstruction (drop s operators) (at - s) i =
    ap (λ os. slice_get os (at - s)) (sym (drop-map (λ (o : Operator × ℕ). o.0) s operators))
    ∙ (get_behind (without_offsets operators) s (at - s) ∙ (ap (slice_get (without_offsets operators)) whole ∙ has)) in
    subst (λ n. AreTheseInstructions (take n (drop s operators)) (code ++ i ∷ [])) more
    (one_more (drop s operators) (at - s) i code (code ++ i ∷ []) there h refl)

-- the first part of the code, and the rest
pub first_part : (operators : Operators) (s m e : ℕ) (code : List Instruction) → s ≤ m → m ≤ e → AreTheseInstructions (slice_range operators s e) code →
    AreTheseInstructions (slice_range operators s m) (take (m - s) code)
first_part operators s m e code a b h = record {
  are = ap without_offsets (sym (take-take (m - s) (e - s) (drop s operators) (omega arith)))
      ∙ (sym (take-map (λ (o : Operator × ℕ). o.0) (m - s) (slice_range operators s e))
      ∙ (ap (take (m - s)) h.are ∙ take-map (λ (i : Instruction). Instr i) (m - s) code));
}

pub second_part : (operators : Operators) (s m e : ℕ) (code : List Instruction) → s ≤ m → m ≤ e → AreTheseInstructions (slice_range operators s e) code →
    AreTheseInstructions (slice_range operators m e) (drop (m - s) code)
second_part operators s m e code a b h =
    let split : e - s ≡ m - s + (e - m) = omega arith in
    let whole : s + (m - s) ≡ m = omega arith in
    let same : drop (m - s) (slice_range operators s e) ≡ slice_range operators m e =
    ap (λ n. drop (m - s) (take n (drop s operators))) split
    ∙ (drop-take (m - s) (e - m) (drop s operators)
    ∙ ap (take (e - m)) (drop-drop (m - s) s operators ∙ ap (λ n. drop n operators) whole)) in
    record {
      are = ap without_offsets (sym same)
          ∙ (sym (drop-map (λ (o : Operator × ℕ). o.0) (m - s) (slice_range operators s e))
          ∙ (ap (drop (m - s)) h.are ∙ drop-map (λ (i : Instruction). Instr i) (m - s) code));
    }

-- ---- the operator at an index

operator_there : (operators : Operators) (at : ℕ) (d : Operator × ℕ) → at < length operators →
    slice_get (without_offsets operators) at ≡ Some (get_or operators at d).0
operator_there operators at d l =
    slice_get-map (λ (o : Operator × ℕ). o.0) operators at ∙ ap (option_map (λ (o : Operator × ℕ). o.0)) (slice_get-get_or operators at d l)

pub has_there : (operators : Operators) (at : ℕ) (d : Operator × ℕ) (i : Instruction) → at < length operators → (get_or operators at d).0 ≡ Instr i →
    HasInstruction operators at i
has_there operators at d i l e = operator_there operators at d l ∙ ap (λ (o : Operator). Some o) e

-- no code goes across an operator that is no instruction
pub none_across : (context : Context) (operators : Operators) (at : ℕ) (d : Operator × ℕ) → at < length operators →
    ((i : Instruction) → (get_or operators at d).0 ≡ Instr i → ⊥) → (s : ℕ) (ts : Types) → IsClosed context operators s (at + 1) ts → ⊥
none_across context operators at d inside never s ts c =
    let some = c.some in
    let back = second_part operators s at (at + 1) c.own (omega arith) (omega arith) c.stands in
    let one : at + 1 - at ≡ 1 = omega arith in
    let first : without_offsets (slice_range operators at (at + 1)) ≡ take 1 (drop at (without_offsets operators)) =
    ap (λ n. without_offsets (take n (drop at operators))) one
    ∙ (sym (take-map (λ (o : Operator × ℕ). o.0) 1 (drop at operators)) ∙ ap (take 1) (sym (drop-map (λ (o : Operator × ℕ). o.0) at operators))) in
    let there : slice_get (drop at (without_offsets operators)) 0 ≡ Some (get_or operators at d).0 =
    get_behind (without_offsets operators) at 0
    ∙ (ap (slice_get (without_offsets operators)) (let e : at + 0 ≡ at = omega arith in e) ∙ operator_there operators at d inside) in
    no_operator (drop at (without_offsets operators)) (drop (at - s) c.own) there (sym first ∙ back.are)
  where
    no_operator : (os : List Operator) (code : List Instruction) → slice_get os 0 ≡ Some (get_or operators at d).0 →
        take 1 os ≡ map (λ (i : Instruction). Instr i) code → ⊥
    no_operator [] code e h = cc
    no_operator (o ∷ os) [] e h = cc
    no_operator (o ∷ os) (i ∷ code) e h =
        let same : (get_or operators at d).0 ≡ o = cc in
        let is : o ≡ Instr i = cc in
        never i (same ∙ is)

-- ---- types

-- The instruction finds as many operands as it takes.
pub record IsGiven (context : Context) (i : Instruction) (ts us : Types) : Type 0 where
  pub enough : instruction_count context.info i ≤ length ts
  pub gives : Option PrimitiveTypeInfo
  pub typed : told_types context i (drop (length ts - instruction_count context.info i) ts) ≡ Some gives
  pub left : us ≡ take (length ts - instruction_count context.info i) ts ++ list_of gives

is_given : (context : Context) (i : Instruction) (ts us : Types) → told_types_behind context i ts ≡ Some us → IsGiven context i ts us
is_given context i ts us e =
    let f = found context i ts us e in
    let (o, given, k) = and_then_some keep (instruction_types context i (drop f.below ts)) f.gives f.typed in
    let count = counts_are context i (drop f.below ts) o given in
    let long = length-drop f.below ts in
    let place : min f.below (length ts) ≡ length ts - instruction_count context.info i = omega arith in
    record {
      enough = omega arith;
      gives = f.gives;
      typed = ap (told_types context i) (sym (ap (λ n. drop n ts) place) ∙ drop_min f.below ts) ∙ f.typed;
      left = f.left ∙ ap (λ xs. xs ++ list_of f.gives) (sym (take_min f.below ts) ∙ ap (λ n. take n ts) place);
    }

-- with other values below
types_above : (context : Context) (i : Instruction) (front ts us : Types) → told_types_behind context i ts ≡ Some us →
    told_types_behind context i (front ++ ts) ≡ Some (front ++ us)
types_above context i front ts us e =
    let f = found context i ts us e in
    ap (λ xs. told_types_behind context i (front ++ xs)) (sym (take-append-drop f.below ts))
    ∙ (ap (told_types_behind context i) (sym (append_assoc front (take f.below ts) (drop f.below ts)))
    ∙ (behind_others context i (front ++ take f.below ts) (drop f.below ts) f.gives f.typed
    ∙ ap (λ (xs : Types). Some xs) (append_assoc front (take f.below ts) (list_of f.gives) ∙ ap (λ xs. front ++ xs) (sym f.left))))

pub code_above : (context : Context) (code : List Instruction) (front ts us : Types) → told_types_after context code ts ≡ Some us →
    told_types_after context code (front ++ ts) ≡ Some (front ++ us)
code_above context [] front ts us e = let same : ts ≡ us = cc in ap (λ (xs : Types). Some (front ++ xs)) same
code_above context (i ∷ code) front ts us e =
    let (vs, first, more) = and_then_some (told_types_after context code) (told_types_behind context i ts) us e in
    after_one context i code (front ++ ts) (front ++ vs) (types_above context i front ts vs first) ∙ code_above context code front vs us more

pub after_both : (context : Context) (code back : List Instruction) (ts : Types) →
    told_types_after context (code ++ back) ts ≡ option_and_then (told_types_after context back) (told_types_after context code ts)
after_both context [] back ts = refl
after_both context (i ∷ code) back ts = go (told_types_behind context i ts) (after_both context code back)
  where
    go : (o : Option Types) →
        ((us : Types) → told_types_after context (code ++ back) us ≡ option_and_then (told_types_after context back) (told_types_after context code us)) →
        option_and_then (told_types_after context (code ++ back)) o
        ≡ option_and_then (told_types_after context back) (option_and_then (told_types_after context code) o)
    go (Some us) next = next us
    go None next = refl

-- the types behind the first part of code
parted : (context : Context) (code front back : List Instruction) (us : Types) → front ++ back ≡ code → LeavesTypes context code us →
    (ts : Types) × LeavesTypes context front ts × (told_types_after context back ts ≡ Some us)
parted context code front back us e h =
    and_then_some (told_types_after context back) (told_types_after context front []) us
    (sym (after_both context front back []) ∙ (ap (λ code. told_types_after context code []) e ∙ h))

-- ---- code that stands there

pub no_code : (context : Context) (operators : Operators) (s : ℕ) → IsCodeLeaving context operators s s []
no_code context operators s = record { own = []; stands = nothing_there operators s; leaves = refl }

pub code_of_closed : (context : Context) (operators : Operators) (s e : ℕ) (ts : Types) → IsClosed context operators s e ts →
    IsCodeLeaving context operators s e ts
code_of_closed context operators s e ts c = record { own = c.own; stands = c.stands; leaves = c.leaves }

-- nothing leaves no value
pub none_left : (context : Context) (operators : Operators) (s : ℕ) (ts : Types) → IsCodeLeaving context operators s s ts → [] ≡ ts
none_left context operators s ts c =
    let e : LeavesTypes context [] ts = subst (λ code. LeavesTypes context code ts) (only_nothing operators s c.own c.stands) c.leaves in
    same_list e
  where
    same_list : ◌≡◌ {A = Option Types} (Some []) (Some ts) → [] ≡ ts
    same_list e = cc

-- what leaves a value is some code
pub closed_code : (context : Context) (operators : Operators) (s e : ℕ) (t : PrimitiveTypeInfo) (ts : Types) → s ≤ e →
    IsCodeLeaving context operators s e (t ∷ ts) →
    IsClosed context operators s e (t ∷ ts)
closed_code context operators s e t ts le c = go (cases_lt s e)
  where
    go : (s < e) ⊎ (e ≤ s) → IsClosed context operators s e (t ∷ ts)
    go (inl l) = record { some = l; own = c.own; stands = c.stands; leaves = c.leaves }
    go (inr l) =
        let same : e ≡ s = omega arith in
        let no : [] ≡ t ∷ ts = none_left context operators s (t ∷ ts) (subst (λ n. IsCodeLeaving context operators s n (t ∷ ts)) same c) in
        absurd cc

-- with an instruction behind it that finds its operands there
pub code_behind : (context : Context) (operators : Operators) (s at : ℕ) (i : Instruction) (front ts : Types) (gives : Option PrimitiveTypeInfo) →
    s ≤ at → HasInstruction operators at i → told_types context i ts ≡ Some gives → IsCodeLeaving context operators s at (front ++ ts) →
    IsClosed context operators s (at + 1) (front ++ list_of gives)
code_behind context operators s at i front ts gives le has typed c = record {
  some = omega arith;
  own = c.own ++ i ∷ [];
  stands = one_behind operators s at c.own i le has c.stands;
  leaves = after_both context c.own (i ∷ []) []
      ∙ (ap (option_and_then (told_types_after context (i ∷ []))) c.leaves
      ∙ after_one context i [] (front ++ ts) (front ++ list_of gives) (behind_others context i front ts gives typed));
}

-- The code before its last instruction, which finds its operands there.
pub record IsBehind (context : Context) (operators : Operators) (s at : ℕ) (i : Instruction) (us : Types) : Type 0 where
  pub types : Types
  pub front : IsCodeLeaving context operators s at types
  pub given : IsGiven context i types us

pub is_behind : (context : Context) (operators : Operators) (s at : ℕ) (i : Instruction) (us : Types) → s ≤ at → HasInstruction operators at i →
    IsCodeLeaving context operators s (at + 1) us → IsBehind context operators s at i us
is_behind context operators s at i us le has c =
    let one = same_instructions (slice_range operators at (at + 1)) (drop (at - s) c.own) (i ∷ [])
    (second_part operators s at (at + 1) c.own le (omega arith) c.stands)
    (one_behind operators at at [] i (omega arith) has (nothing_there operators at)) in
    let parts : take (at - s) c.own ++ i ∷ [] ≡ c.own = ap (λ code. take (at - s) c.own ++ code) (sym one) ∙ take-append-drop (at - s) c.own in
    let (ts, front, last) = parted context c.own (take (at - s) c.own) (i ∷ []) us parts c.leaves in
    let (vs, found, same) = and_then_some (told_types_after context []) (told_types_behind context i ts) us last in
    record {
      types = ts;
      front = record { own = take (at - s) c.own; stands = first_part operators s at (at + 1) c.own le (omega arith) c.stands; leaves = front };
      given = is_given context i ts us (found ∙ same);
    }

-- the first part of the code leaves what the rest doesn't
pub code_before : (context : Context) (operators : Operators) (s m e : ℕ) (ts us : Types) → s ≤ m → m ≤ e → IsCodeLeaving context operators s e (ts ++ us) →
    IsCodeLeaving context operators m e us → IsCodeLeaving context operators s m ts
code_before context operators s m e ts us a b whole back =
    let rest = same_instructions (slice_range operators m e) (drop (m - s) whole.own) back.own
    (second_part operators s m e whole.own a b whole.stands) back.stands in
    let parts : take (m - s) whole.own ++ back.own ≡ whole.own =
    ap (λ code. take (m - s) whole.own ++ code) (sym rest) ∙ take-append-drop (m - s) whole.own in
    let (vs, x, y) = parted context whole.own (take (m - s) whole.own) back.own (ts ++ us) parts whole.leaves in
    let same = append_cancel_right vs ts us (some_same (sym (above vs back.own us back.leaves) ∙ y)) in
    record {
      own = take (m - s) whole.own;
      stands = first_part operators s m e whole.own a b whole.stands;
      leaves = x ∙ ap (λ (xs : Types). Some xs) same;
    }
  where
    some_same : {xs ys : Types} → ◌≡◌ {A = Option Types} (Some xs) (Some ys) → xs ≡ ys
    some_same e = cc

    above : (vs : Types) (code : List Instruction) (us : Types) → told_types_after context code [] ≡ Some us →
        told_types_after context code vs ≡ Some (vs ++ us)
    above vs code us e = ap (told_types_after context code) (sym (append-nil vs)) ∙ code_above context code vs [] us e
