-- The operator that has an opcode, where operators have consecutive opcodes.
use Rattle.std.proofs.Common.{◌≡◌, ℕ, zero, suc, ◌+◌, ◌-◌, ◌<◌, Bool, true, false, List, [], ◌∷◌, ◌++◌, map, Option, Some, None, refl, sym, ap, ap₂, ◌∙◌, arith}
use Rattle.std.specs.Prelude.{◌==◌, ◌&&◌, nat_lt, slice_get, if◌then◌else◌, option_map}
use Rattle.std.specs.Option.{option_or}
use Rattle.std.proofs.lemmas.Bool.{and_parts, eqb-true, eq-eqb, ne_eqb, ltb-true, ltb-false}
use Rattle.wasm_execution.specs.declared.operation.Operation.{Operation}
use Rattle.wasm_execution.specs.declared.operation.Operation.TheVariants.{WrapI64}
use Rattle.wasm_execution.specs.declared.operation.TheConstants.{TESTS, ARITHMETIC, CONVERSIONS, EXTENSIONS}
use Rattle.wasm_execution.specs.Integer.{IntegerOperator}
use Rattle.wasm_execution.specs.IntegerRow.{from_byte, or_else, bare_operator}
use Rattle.wasm_execution.specs.Operation.{operator_of}
use Rattle.wasm_execution.specs.Opcode.{opcode, with_opcode, operation_of, at_opcode}

-- the operators have consecutive opcodes, from this one on
abbrev are_numbered : ℕ → List Operation → Bool
are_numbered first [] = true
are_numbered first (f ∷ fs) = opcode f == first && are_numbered (suc first) fs

none_below : (fs : List Operation) (first byte : ℕ) → are_numbered first fs ≡ true → byte < first → with_opcode fs byte ≡ None
none_below [] first byte e l = refl
none_below (f ∷ fs) first byte e l =
    let (h, t) = and_parts (opcode f == first) (are_numbered (suc first) fs) e in
    let is = eqb-true (opcode f) first h in
    rw (ne_eqb (opcode f) byte (λ k. absurd (omega arith))) (none_below fs (suc first) byte t (omega arith))

at_place : (fs : List Operation) (first k : ℕ) → are_numbered first fs ≡ true → slice_get fs k ≡ with_opcode fs (first + k)
at_place [] first k e = refl
at_place (f ∷ fs) first zero e =
    let (h, t) = and_parts (opcode f == first) (are_numbered (suc first) fs) e in
    let is : opcode f ≡ first + 0 = omega (arith, eqb-true (opcode f) first h) in
    rw (eq-eqb (opcode f) (first + 0) is) refl
at_place (f ∷ fs) first (suc k) e =
    let (h, t) = and_parts (opcode f == first) (are_numbered (suc first) fs) e in
    let is = eqb-true (opcode f) first h in
    let next : suc first + k ≡ first + suc k = omega arith in
    rw (ne_eqb (opcode f) (first + suc k) (λ e. absurd (omega arith))) (at_place fs (suc first) k t ∙ ap (with_opcode fs) next)

pub at_opcode_is : (first : ℕ) (fs : List Operation) (byte : ℕ) → are_numbered first fs ≡ true → at_opcode first fs byte ≡ with_opcode fs byte
at_opcode_is first fs byte e = go (nat_lt byte first) refl
  where
    go : (b : Bool) → nat_lt byte first ≡ b → (if b then None else slice_get fs (byte - first)) ≡ with_opcode fs byte
    go true h = sym (none_below fs first byte e (ltb-true byte first h))
    go false h =
        let l = ltb-false byte first h in
        let k : first + (byte - first) ≡ byte = omega arith in
        at_place fs first (byte - first) e ∙ ap (with_opcode fs) k

pub of_both : (fs gs : List Operation) (byte : ℕ) → option_or (with_opcode fs byte) (with_opcode gs byte) ≡ with_opcode (fs ++ gs) byte
of_both [] gs byte = refl
of_both (f ∷ fs) gs byte = go (opcode f == byte) (of_both fs gs byte)
  where
    go : (b : Bool) → option_or (with_opcode fs byte) (with_opcode gs byte) ≡ with_opcode (fs ++ gs) byte →
        option_or (if b then Some f else with_opcode fs byte) (with_opcode gs byte) ≡ (if b then Some f else with_opcode (fs ++ gs) byte)
    go true e = refl
    go false e = e

-- ---- the operators that they stand for

from_byte_is : (first : ℕ) (fs : List Operation) (byte : ℕ) → are_numbered first fs ≡ true →
    from_byte first (map operator_of fs) byte ≡ option_map operator_of (with_opcode fs byte)
from_byte_is first fs byte e = go (nat_lt byte first) ∙ ap (option_map operator_of) (at_opcode_is first fs byte e)
  where
    got : (fs : List Operation) (k : ℕ) → slice_get (map operator_of fs) k ≡ option_map operator_of (slice_get fs k)
    got [] k = refl
    got (f ∷ fs) zero = refl
    got (f ∷ fs) (suc k) = got fs k

    go : (b : Bool) → (if b then None else slice_get (map operator_of fs) (byte - first))
        ≡ option_map operator_of (if b then None else slice_get fs (byte - first))
    go true = refl
    go false = got fs (byte - first)

or_else_is : (o p : Option Operation) → or_else (option_map operator_of o) (option_map operator_of p) ≡ option_map operator_of (option_or o p)
or_else_is (Some f) p = refl
or_else_is None p = refl

both : (fs gs : List Operation) (x y : Option IntegerOperator) (byte : ℕ) → x ≡ option_map operator_of (with_opcode fs byte) →
    y ≡ option_map operator_of (with_opcode gs byte) → or_else x y ≡ option_map operator_of (with_opcode (fs ++ gs) byte)
both fs gs x y byte p q =
    ap₂ or_else p q ∙ (or_else_is (with_opcode fs byte) (with_opcode gs byte) ∙ ap (option_map operator_of) (of_both fs gs byte))

-- what an opcode means is what its operator stands for
pub bare_operator_is : (byte : ℕ) → bare_operator byte ≡ option_map operator_of (operation_of byte)
bare_operator_is byte =
    both TESTS (ARITHMETIC ++ ((WrapI64 ∷ []) ++ (CONVERSIONS ++ EXTENSIONS))) _ _ byte (from_byte_is 0x45 TESTS byte refl)
    (both ARITHMETIC ((WrapI64 ∷ []) ++ (CONVERSIONS ++ EXTENSIONS)) _ _ byte (from_byte_is 0x67 ARITHMETIC byte refl)
    (both (WrapI64 ∷ []) (CONVERSIONS ++ EXTENSIONS) _ _ byte (from_byte_is 0xa7 (WrapI64 ∷ []) byte refl)
    (both CONVERSIONS EXTENSIONS _ _ byte (from_byte_is 0xac CONVERSIONS byte refl) (from_byte_is 0xc0 EXTENSIONS byte refl))))
