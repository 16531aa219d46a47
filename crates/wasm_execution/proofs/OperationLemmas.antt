-- The operator of an opcode: the first of five lists that has one.
use Rattle.std.proofs.Common.{◌≡◌, ℕ, [], ◌∷◌, ◌++◌, Option, Some, None, refl, sym, ap, ◌∙◌, subst}
use Rattle.std.specs.Prelude.{option_map}
use Rattle.std.specs.Option.{option_or}
use Rattle.wasm_execution.specs.declared.operation.Operation.{Operation}
use Rattle.wasm_execution.specs.declared.operation.Operation.TheVariants.{WrapI64}
use Rattle.wasm_execution.specs.declared.operation.TheConstants.{TESTS, ARITHMETIC, CONVERSIONS, EXTENSIONS}
use Rattle.wasm_execution.specs.Integer.{IntegerOperator}
use Rattle.wasm_execution.specs.IntegerRow.{or_else}
use Rattle.wasm_execution.specs.Operation.{operator_of}
use Rattle.wasm_execution.specs.Opcode.{operation_of, at_opcode}
use Rattle.wasm_execution.specs.OperationLemmas.{at_opcode_is, of_both}

or-map : (o p r : Option Operation) (x y : Option IntegerOperator) → r ≡ option_or o p → option_map operator_of o ≡ x →
    option_map operator_of p ≡ y → option_map operator_of r ≡ or_else x y
or-map (Some f) p r x y e h k = ap (option_map operator_of) e ∙ ap (λ v. or_else v y) h
or-map None p r x y e h k = ap (option_map operator_of) e ∙ (k ∙ ap (λ v. or_else v y) h)

-- of five, the first that there is
or_else_five : (v w x y z : Option IntegerOperator) → or_else (or_else (or_else (or_else v w) x) y) z ≡ or_else v (or_else w (or_else x (or_else y z)))
or_else_five (Some f) w x y z = refl
or_else_five None (Some f) x y z = refl
or_else_five None None (Some f) y z = refl
or_else_five None None None y z = refl

pub first_of_five : (o p q r s a b d e : Option Operation) (v w x y z : Option IntegerOperator) →
    a ≡ option_or o p → b ≡ option_or a q → d ≡ option_or b r → e ≡ option_or d s →
    option_map operator_of o ≡ v → option_map operator_of p ≡ w → option_map operator_of q ≡ x → option_map operator_of r ≡ y →
    option_map operator_of s ≡ z → option_map operator_of e ≡ or_else v (or_else w (or_else x (or_else y z)))
first_of_five o p q r s a b d e v w x y z ha hb hd he hv hw hx hy hz =
    or-map d s e (or_else (or_else (or_else v w) x) y) z he
    (or-map b r d (or_else (or_else v w) x) y hd (or-map a q b (or_else v w) x hb (or-map o p a v w ha hv hw) hx) hy) hz ∙
    or_else_five v w x y z

-- ---- the operator that has an opcode

or_grouped : (o p r : Option Operation) → option_or (option_or o p) r ≡ option_or o (option_or p r)
or_grouped (Some f) p r = refl
or_grouped None p r = refl

-- of five lists of consecutive opcodes, one behind another
pub first_of_all : (byte : ℕ) (o p q r s a b d e : Option Operation) →
    a ≡ option_or o p → b ≡ option_or a q → d ≡ option_or b r → e ≡ option_or d s →
    o ≡ at_opcode 0x45 TESTS byte → p ≡ at_opcode 0x67 ARITHMETIC byte → q ≡ at_opcode 0xa7 (WrapI64 ∷ []) byte →
    r ≡ at_opcode 0xac CONVERSIONS byte → s ≡ at_opcode 0xc0 EXTENSIONS byte → e ≡ operation_of byte
first_of_all byte o p q r s a b d e ha hb hd he ho hp hq hr hs = subst (λ x. x ≡ operation_of byte) (sym chain) joined
  where
    chain : e ≡ option_or o (option_or p (option_or q (option_or r s)))
    chain = he ∙ (ap (λ x. option_or x s) (hd ∙ ap (λ x. option_or x r) (hb ∙ ap (λ x. option_or x q) ha)) ∙
        (or_grouped (option_or (option_or o p) q) r s ∙ (or_grouped (option_or o p) q (option_or r s) ∙ or_grouped o p (option_or q (option_or r s)))))

    joined : option_or o (option_or p (option_or q (option_or r s))) ≡ operation_of byte
    joined = rw (
      ho ∙ at_opcode_is 0x45 TESTS byte refl,
      hp ∙ at_opcode_is 0x67 ARITHMETIC byte refl,
      hq ∙ at_opcode_is 0xa7 (WrapI64 ∷ []) byte refl,
      hr ∙ at_opcode_is 0xac CONVERSIONS byte refl,
      hs ∙ at_opcode_is 0xc0 EXTENSIONS byte refl,
      of_both CONVERSIONS EXTENSIONS byte,
      of_both (WrapI64 ∷ []) (CONVERSIONS ++ EXTENSIONS) byte,
      of_both ARITHMETIC ((WrapI64 ∷ []) ++ (CONVERSIONS ++ EXTENSIONS)) byte,
      of_both TESTS (ARITHMETIC ++ ((WrapI64 ∷ []) ++ (CONVERSIONS ++ EXTENSIONS))) byte,
    ) refl
