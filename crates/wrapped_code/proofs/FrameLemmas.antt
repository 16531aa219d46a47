-- Frames with known types on top: what is popped there.
use Rattle.std.proofs.Common.{◌≡◌, ℕ, ◌-◌, ◌+◌, Bool, true, List, [], ◌∷◌, ◌++◌, length, drop, Some, None, refl, sym, ap, ap₂, ◌∙◌, arith}
use Rattle.std.proofs.Common.{append-nil, append_assoc}
use Rattle.std.specs.Prelude.{◌&&◌, ◌||◌, replicate, if◌then◌else◌}
use Rattle.std.proofs.lemmas.Bool.{le-leb}
use Rattle.std.proofs.lemmas.List.{take_at, drop_at, length-append, length-map, map-append}
use Rattle.wasm_types.specs.declared.types.PrimitiveTypeInfo.{PrimitiveTypeInfo}
use Rattle.wasm_execution.specs.Values.{same_type, same_types}
use Rattle.wasm_execution.specs.RowLemmas.{same_type_self}
use Rattle.wasm_equivalence.specs.validation.Algorithm.{OperandEntry, all_may_be, known, Frame, can_pop, popped, with_pushed}
use Rattle.wasm_equivalence.specs.validation.StandardSteps.{pop}
use Rattle.wasm_equivalence.specs.validation.StaysValid.{with_types}

pub same_types_self : (ts : List PrimitiveTypeInfo) → same_types ts ts ≡ true
same_types_self [] = refl
same_types_self (t ∷ ts) = ap₂ (λ (a b : Bool). a && b) (same_type_self t) (same_types_self ts)

known_fit : (ts us : List PrimitiveTypeInfo) → all_may_be (known ts) us ≡ same_types ts us
known_fit [] [] = refl
known_fit [] (u ∷ us) = refl
known_fit (t ∷ ts) [] = refl
known_fit (t ∷ ts) (u ∷ us) = ap (λ b. same_type t u && b) (known_fit ts us)

pub pop_known : (ts : List PrimitiveTypeInfo) (f : Frame) → pop ts (with_types ts f) ≡ Some f
pop_known ts f =
    let n = length ts in
    let count = length (f.operands ++ known ts) in
    let whole : count ≡ length f.operands + n =
    omega (arith, length-append f.operands (known ts), length-map ts (λ (t : PrimitiveTypeInfo). Some t)) in
    let below : length f.operands ≡ count - n = omega arith in
    let missing : n - count ≡ 0 = omega arith in
    let can : can_pop n (with_types ts f) ≡ true = ap (λ b. b || f.unreachable) (le-leb n count (omega arith)) in
    let are : popped n (with_types ts f) ≡ known ts =
    ap (λ (k : ℕ). replicate k None ++ drop (count - n) (f.operands ++ known ts)) missing ∙ drop_at f.operands (known ts) (count - n) below in
    let fits : all_may_be (popped n (with_types ts f)) ts ≡ true = ap (λ es. all_may_be es ts) are ∙ (known_fit ts ts ∙ same_types_self ts) in
    ap₂ (λ (a b : Bool). if a && b then Some (with_pushed n (with_types ts f) []) else None) can fits ∙
    ap (λ (x : List OperandEntry). Some (record f { operands = x }))
    (ap (λ (x : List OperandEntry). x ++ []) (take_at f.operands (known ts) (count - n) below) ∙ append-nil f.operands)

pub none_on : (f : Frame) → with_types [] f ≡ f
none_on f = ap (λ (es : List OperandEntry). record f { operands = es }) (append-nil f.operands)

pub one_on_other : (ts us : List PrimitiveTypeInfo) (f : Frame) → with_types us (with_types ts f) ≡ with_types (ts ++ us) f
one_on_other ts us f =
    ap (λ (es : List OperandEntry). record f { operands = es }) (append_assoc f.operands (known ts) (known us) ∙
    ap (λ (es : List OperandEntry). f.operands ++ es) (sym (map-append (λ (t : PrimitiveTypeInfo). Some t) ts us)))
