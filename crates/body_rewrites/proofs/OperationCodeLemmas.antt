-- An operator on whole numbers is told by its row.
use Rattle.std.proofs.Common.{◌≡◌, ℕ, ◌-◌, ◌≤◌, Bool, ◌⊎◌, inl, inr, true, false, List, [], ◌∷◌, length, Option, Some, refl, sym, ap, ◌∙◌, arith}
use Rattle.std.specs.Prelude.{◌==◌, ◌&&◌, ◌||◌, nat_le, if◌then◌else◌}
use Rattle.std.proofs.lemmas.Bool.{and_parts, eqb-true, leb-true}
use Rattle.wasm_code.specs.Instruction.{Instruction}
use Rattle.wasm_execution.specs.declared.integer.IntegerType.TheVariants as integer
use Rattle.wasm_execution.specs.declared.operation.Unary.TheVariants.{Clz}
use Rattle.wasm_execution.specs.declared.operation.Binary.TheVariants.{Add}
use Rattle.wasm_execution.specs.declared.operation.Comparison.TheVariants.{Eq}
use Rattle.wasm_execution.specs.declared.operation.Operation.{Operation}
use Rattle.wasm_execution.specs.declared.operation.Operation.TheVariants.{Eqz, Compare, Unary, Binary, Extend8S, Extend16S}
use Rattle.wasm_execution.specs.Opcode.{opcode, operations, with_opcode, operation_of}
use Rattle.wasm_execution.specs.Operation.{operator_of}
use Rattle.rewrite_rules.specs.declared.pattern.Operator.TheVariants.{Whole}
use Rattle.rewrite_rules.specs.Instance.{row_number, operator_code}
use Rattle.body_rewrites.specs.Roots.{class_of}

-- the operator that is found has the opcode
pub opcode_found : (fs : List Operation) (byte : ℕ) (f : Operation) → with_opcode fs byte ≡ Some f → byte ≡ opcode f
opcode_found [] byte f e = absurd cc
opcode_found (g ∷ fs) byte f e = go (opcode g == byte) refl (opcode_found fs byte f) e
  where
    go : (b : Bool) → (opcode g == byte) ≡ b → (with_opcode fs byte ≡ Some f → byte ≡ opcode f) →
        (if b then Some g else with_opcode fs byte) ≡ Some f → byte ≡ opcode f
    go true h rest e = let same : g ≡ f = cc in sym (eqb-true (opcode g) byte h) ∙ ap opcode same
    go false h rest e = rest e

-- each operator is found by its opcode
pub found : (f : Operation) → operation_of (opcode f) ≡ Some f
found (Eqz integer.I32) = refl
found (Compare integer.I32 Eq) = refl
found (Compare integer.I64 Eq) = refl
found (Unary integer.I32 Clz) = refl
found (Unary integer.I64 Clz) = refl
found (Binary integer.I32 Add) = refl
found (Binary integer.I64 Add) = refl
found (Extend8S integer.I32) = refl
found (Extend16S integer.I32) = refl
found _ = refl

abbrev all_pass : (Operation → Bool) → List Operation → Bool
all_pass test [] = true
all_pass test (f ∷ fs) = test f && all_pass test fs

-- so what holds of all that are found holds of each
passes : (test : Operation → Bool) (fs : List Operation) (byte : ℕ) (f : Operation) → all_pass test fs ≡ true → with_opcode fs byte ≡ Some f → test f ≡ true
passes test [] byte f all e = absurd cc
passes test (g ∷ fs) byte f all e =
    let (h, t) = and_parts (test g) (all_pass test fs) all in
    go (opcode g == byte) h (passes test fs byte f t) e
  where
    go : (b : Bool) → test g ≡ true → (with_opcode fs byte ≡ Some f → test f ≡ true) → (if b then Some g else with_opcode fs byte) ≡ Some f → test f ≡ true
    go true h rest e = let same : g ≡ f = cc in sym (ap test same) ∙ h
    go false h rest e = rest e

every : (test : Operation → Bool) → all_pass test operations ≡ true → (f : Operation) → test f ≡ true
every test all f = passes test operations (opcode f) f all (found f)

pub opcode_from : (f : Operation) → 29 ≤ opcode f
opcode_from f = leb-true 29 (opcode f) (every (λ f. nat_le 29 (opcode f)) refl f)

pub opcode_to : (f : Operation) → opcode f ≤ 255
opcode_to f = leb-true (opcode f) 255 (every (λ f. nat_le (opcode f) 255) refl f)

-- and its row is among the last ones that lines name
pub operation_class : (f : Operation) → 40 ≤ class_of (row_number (Whole f))
operation_class f = leb-true 40 (class_of (row_number (Whole f))) (every (λ f. nat_le 40 (class_of (row_number (Whole f)))) refl f)

-- an operator takes one operand or two
pub takes : (f : Operation) → (length (operator_of f).operands ≡ 1) ⊎ (length (operator_of f).operands ≡ 2)
takes f = either (length (operator_of f).operands) (every (λ f. length (operator_of f).operands == 1 || length (operator_of f).operands == 2) refl f)
  where
    either : (n : ℕ) → (n == 1 || n == 2) ≡ true → (n ≡ 1) ⊎ (n ≡ 2)
    either n e = go (n == 1) refl e
      where
        go : (b : Bool) → (n == 1) ≡ b → (b || n == 2) ≡ true → (n ≡ 1) ⊎ (n ≡ 2)
        go true h e = inl (eqb-true n 1 h)
        go false h e = inr (eqb-true n 2 e)

pub one_operation : (f g : Operation) → operator_code (Whole f) ≡ operator_code (Whole g) → f ≡ g
one_operation f g e =
    let rows : opcode f - 29 ≡ opcode g - 29 = ap (λ (i : Instruction). i.row) e in
    let one = opcode_from f in
    let two = opcode_from g in
    let same : opcode f ≡ opcode g = omega (arith, rows, one, two) in
    some_is (sym (found f) ∙ (ap operation_of same ∙ found g))
  where
    some_is : ◌≡◌ {A = Option Operation} (Some f) (Some g) → f ≡ g
    some_is e = cc
