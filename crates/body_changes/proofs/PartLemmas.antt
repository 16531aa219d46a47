-- Parts of a unit: its operands, one behind the other, and the operator behind them; and code that doesn't stand there.
use Rattle.std.proofs.Common.{◌≡◌, ℕ, ◌+◌, ◌-◌, ◌≤◌, List, [], ◌∷◌, ◌++◌, take, drop, Option, Some, None, Result, Ok, Err, sym, ap, ap₂, ◌∙◌, subst, arith}
use Rattle.std.specs.Prelude.{option_and_then, reverse, slice_range, IfOk, IfSome}
use Rattle.std.proofs.lemmas.List.{append-nil, drop-drop, drop-take, map-append, reverse-append, take-append-drop, take-take}
use Rattle.wasm_code.specs.Instruction.{Instruction}
use Rattle.wasm_code.specs.declared.operator.Operator.{Operator}
use Rattle.wasm_code.specs.declared.operator.Operator.TheVariants.{Instr}
use Rattle.wasm_types.specs.declared.types.PrimitiveTypeInfo.{PrimitiveTypeInfo}
use Rattle.wasm_execution.specs.Row.{list_of}
use Rattle.wasm_execution.specs.Values.{Context}
use Rattle.body_splices.specs.OwnBytes.{without_offsets}
use Rattle.body_changes.specs.declared.units.Takes.{Takes}
use Rattle.body_changes.specs.declared.units.Takes.TheVariants as takes
use Rattle.body_changes.specs.declared.units.Unit.{Unit}
use Rattle.body_changes.specs.Kinds.{operand_types, IsBehindOperands, IsNew, Stand}
use Rattle.body_changes.specs.Pass.{IsCodeLeaving}
use Rattle.body_changes.specs.Replacing.{HasInstruction, IsClosed}
use Rattle.body_changes.specs.Typed.{told_types, told_types_after, LeavesTypes}
use Rattle.body_changes.specs.Units.{AreTaken}
use Rattle.body_changes.proofs.OwnLemmas.{same_instructions}
use Rattle.body_changes.proofs.StandLemmas.{Operators, Types, after_both, code_above, code_behind, code_of_closed, first_part, one_behind}
use Rattle.body_changes.proofs.TypedLemmas.{after_one, behind_others}

-- ---- two parts, one behind the other

ranges_joined : (operators : Operators) (s m e : ℕ) → s ≤ m → m ≤ e → slice_range operators s m ++ slice_range operators m e ≡ slice_range operators s e
ranges_joined operators s m e a b =
    let split : e - s ≡ m - s + (e - m) = omega arith in
    let whole : s + (m - s) ≡ m = omega arith in
    let front : take (m - s) (slice_range operators s e) ≡ slice_range operators s m = take-take (m - s) (e - s) (drop s operators) (omega arith) in
    let back : drop (m - s) (slice_range operators s e) ≡ slice_range operators m e =
    ap (λ n. drop (m - s) (take n (drop s operators))) split
    ∙ (drop-take (m - s) (e - m) (drop s operators)
    ∙ ap (take (e - m)) (drop-drop (m - s) s operators ∙ ap (λ n. drop n operators) whole)) in
    ap₂ (λ (xs ys : Operators). xs ++ ys) (sym front) (sym back) ∙ take-append-drop (m - s) (slice_range operators s e)

pub both_stand : (operators : Operators) (s m e : ℕ) (one other : List Instruction) → s ≤ m → m ≤ e → Stand operators s m one →
    Stand operators m e other → Stand operators s e (one ++ other)
both_stand operators s m e one other a b g h = record {
  are = ap without_offsets (sym (ranges_joined operators s m e a b))
      ∙ (map-append (λ (o : Operator × ℕ). o.0) (slice_range operators s m) (slice_range operators m e)
      ∙ (ap₂ (λ (xs ys : List Operator). xs ++ ys) g.are h.are ∙ sym (map-append (λ (i : Instruction). Instr i) one other)));
}

-- what both leave
pub both_leave : (context : Context) (one other : List Instruction) (ts us : Types) → LeavesTypes context one ts → LeavesTypes context other us →
    LeavesTypes context (one ++ other) (ts ++ us)
both_leave context one other ts us g h =
    after_both context one other []
    ∙ (ap (option_and_then (told_types_after context other)) g
    ∙ (ap (told_types_after context other) (sym (append-nil ts)) ∙ code_above context other ts [] us h))

pub both_code : (context : Context) (operators : Operators) (s m e : ℕ) (ts us : Types) → s ≤ m → m ≤ e → IsCodeLeaving context operators s m ts →
    IsCodeLeaving context operators m e us → IsCodeLeaving context operators s e (ts ++ us)
both_code context operators s m e ts us a b g h = record {
  own = g.own ++ h.own;
  stands = both_stand operators s m e g.own h.own a b g.stands h.stands;
  leaves = both_leave context g.own h.own ts us g.leaves h.leaves;
}

-- with an instruction behind it that finds its operands there
pub leaves_behind : (context : Context) (code : List Instruction) (i : Instruction) (front ts : Types) (gives : Option PrimitiveTypeInfo) →
    LeavesTypes context code (front ++ ts) → told_types context i ts ≡ Some gives → LeavesTypes context (code ++ i ∷ []) (front ++ list_of gives)
leaves_behind context code i front ts gives g typed =
    after_both context code (i ∷ []) []
    ∙ (ap (option_and_then (told_types_after context (i ∷ []))) g
    ∙ after_one context i [] (front ++ ts) (front ++ list_of gives) (behind_others context i front ts gives typed))

-- ---- operands

-- one or two of them
pub taken_code : (context : Context) (operators : Operators) (s last at count : ℕ) (t : Takes) (types : Types) →
    AreTaken context operators s last at count t → operand_types t ≡ Some types → IsCodeLeaving context operators s at types
taken_code context operators s last at count (takes.One t) types h e =
    let same : t ∷ [] ≡ types = cc in
    subst (IsCodeLeaving context operators s at) same (code_of_closed context operators s at (t ∷ []) h.2)
taken_code context operators s last at count (takes.Two t u) types h e =
    let same : t ∷ u ∷ [] ≡ types = cc in
    let a = h.1.first.some in
    let b = h.1.last.some in
    subst (IsCodeLeaving context operators s at) same
    (both_code context operators s last at (t ∷ []) (u ∷ []) (omega arith) (omega arith) (code_of_closed context operators s last (t ∷ []) h.1.first)
    (code_of_closed context operators last at (u ∷ []) h.1.last))
taken_code context operators s last at count takes.Other types h e = absurd cc

-- ---- the operator

pub last_same : (front back : List Instruction) (i j : Instruction) → front ++ i ∷ [] ≡ back ++ j ∷ [] → i ≡ j
last_same front back i j e =
    let turned : i ∷ reverse front ≡ j ∷ reverse back = sym (reverse-append front (i ∷ [])) ∙ (ap reverse e ∙ reverse-append back (j ∷ [])) in cc

-- instructions stand before the operator of a unit
pub front_stands : (context : Context) (operators : Operators) (s at : ℕ) (ts : Types) → IsClosed context operators s (at + 1) ts →
    (front : List Instruction) × Stand operators s at front
front_stands context operators s at ts c =
    let some = c.some in (take (at - s) c.own, first_part operators s at (at + 1) c.own (omega arith) (omega arith) c.stands)

-- what stands up to the operator is what stands before it, and its instruction
pub last_stands : (operators : Operators) (s at : ℕ) (i : Instruction) (code : List Instruction) → s ≤ at → HasInstruction operators at i →
    Stand operators s (at + 1) code → code ≡ take (at - s) code ++ i ∷ []
last_stands operators s at i code le has h =
    same_instructions (slice_range operators s (at + 1)) code (take (at - s) code ++ i ∷ []) h
    (one_behind operators s at (take (at - s) code) i le has (first_part operators s at (at + 1) code le (omega arith) h))

-- code that ends with another instruction doesn't stand there
pub ends_otherwise : (operators : Operators) (s at : ℕ) (i j : Instruction) (front code : List Instruction) → s ≤ at → HasInstruction operators at i →
    (j ≡ i → ⊥) → code ≡ front ++ j ∷ [] → Stand operators s (at + 1) code → ⊥
ends_otherwise operators s at i j front code le has differ is h =
    differ (last_same front (take (at - s) code) j i (sym is ∙ last_stands operators s at i code le has h))

-- another instruction behind what stands before the operator, which gives the same on what it finds there
pub other_new : (context : Context) (operators : Operators) (s at : ℕ) (i j : Instruction) (front ts : Types) (gives : Option PrimitiveTypeInfo)
    (before code : List Instruction) → s ≤ at → HasInstruction operators at i → (j ≡ i → ⊥) → told_types context i ts ≡ Some gives →
    told_types context j ts ≡ Some gives → IsCodeLeaving context operators s at (front ++ ts) → Stand operators s at before → code ≡ before ++ j ∷ [] →
    IsNew context operators s at code
other_new context operators s at i j front ts gives before code le has differ typed same c stand is = record {
  can = record {
    types = front ++ list_of gives;
    closed = code_behind context operators s at i front ts gives le has typed c;
    leaves = subst (λ (xs : List Instruction). LeavesTypes context xs (front ++ list_of gives))
        (ap (λ (xs : List Instruction). xs ++ j ∷ []) (same_instructions (slice_range operators s at) c.own before c.stands stand) ∙ sym is)
        (leaves_behind context c.own j front ts gives c.leaves same);
  };
  differs = ends_otherwise operators s at i j before code le has differ is;
}

-- the same instruction behind them is the same code
pub behind_same : (operators : Operators) (at : ℕ) (unit : Unit) (i j : Instruction) (code others : List Instruction) → i ≡ j →
    IsBehindOperands operators at unit i code → IsBehindOperands operators at unit j others → code ≡ others
behind_same operators at unit i j code others e g h =
    g.code_is
    ∙ (ap (λ (xs : List Instruction). xs ++ i ∷ []) (same_instructions (slice_range operators unit.start at) g.operands h.operands g.stand h.stand)
    ∙ (ap (λ (k : Instruction). h.operands ++ k ∷ []) e ∙ sym h.code_is))

-- ---- results

-- what follows from what is said of the answer
pub ok_some_then : {X E : Type 0} (r : Result (Option X) E) (P Q : X → Type 0) → IfOk r (λ o. IfSome o P) → ((x : X) → P x → Q x) →
    IfOk r (λ o. IfSome o Q)
ok_some_then (Err e) P Q h f = tt
ok_some_then (Ok None) P Q h f = tt
ok_some_then (Ok (Some x)) P Q h f = f x h
