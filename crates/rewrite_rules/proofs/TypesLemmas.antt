-- The types of code: behind other code, and above other types.
use Rattle.std.proofs.Common.{◌≡◌, ◌-◌, ◌≤◌, List, [], ◌∷◌, ◌++◌, length, take, drop, Some, None, sym, ap, ap₂, ◌∙◌, append_assoc, length-append, arith}
use Rattle.std.specs.Prelude.{if◌then◌else◌, option_map, option_and_then}
use Rattle.std.proofs.lemmas.Bool.{le-leb}
use Rattle.std.proofs.lemmas.List.{take_at, drop_at}
use Rattle.wasm_code.specs.Instruction.{Instruction}
use Rattle.wasm_types.specs.declared.types.PrimitiveTypeInfo.{PrimitiveTypeInfo}
use Rattle.wasm_execution.specs.Values.{Context}
use Rattle.wasm_execution.specs.IntegerRow.{operand_count, row_types, integer_row}
use Rattle.wasm_execution.specs.RowLemmas.{and_then_some, row_types_count}
use Rattle.rewrite_rules.specs.Code.{types_behind, types_after}
use Rattle.rewrite_rules.proofs.CodeLemmas.{behind}

module _ (context : Context) where
  -- an instruction whose operands stand on top
  pub behind_is : (i : Instruction) (ts operands results : List PrimitiveTypeInfo) → row_types context (integer_row i) operands ≡ Some results →
      types_behind context i (ts ++ operands) ≡ Some (ts ++ results)
  behind_is i ts operands results e =
      let n = operand_count context.info (integer_row i) in
      let count : n ≡ length operands = row_types_count context (integer_row i) operands results e in
      let below : length ts ≡ length (ts ++ operands) - n = omega (arith, length-append ts operands) in
      let enough : n ≤ length (ts ++ operands) = omega (arith, length-append ts operands) in
      ap (λ b. if b then option_map (λ us. take (length (ts ++ operands) - n) (ts ++ operands) ++ us)
      (row_types context (integer_row i) (drop (length (ts ++ operands) - n) (ts ++ operands))) else None) (le-leb n (length (ts ++ operands)) enough)
      ∙ (ap₂ (λ a b. option_map (λ us. a ++ us) (row_types context (integer_row i) b)) (take_at ts operands _ below) (drop_at ts operands _ below)
      ∙ ap (option_map (λ us. ts ++ us)) e)

  -- code behind code
  pub after_append : (a b : List Instruction) (ts us vs : List PrimitiveTypeInfo) → types_after context a ts ≡ Some us → types_after context b us ≡ Some vs →
      types_after context (a ++ b) ts ≡ Some vs
  after_append [] b ts us vs e f =
      let same : ts ≡ us = cc in
      ap (types_after context b) same ∙ f
  after_append (i ∷ a) b ts us vs e f =
      let (ms, k, l) = and_then_some (types_after context a) (types_behind context i ts) us e in
      ap (option_and_then (types_after context (a ++ b))) k ∙ after_append a b ms us vs l f

  -- code above other types
  pub after_above : (code : List Instruction) (below ts us : List PrimitiveTypeInfo) → types_after context code ts ≡ Some us →
      types_after context code (below ++ ts) ≡ Some (below ++ us)
  after_above [] below ts us e = ap (option_map (λ l. below ++ l)) e
  after_above (i ∷ code) below ts us e =
      let (ms, k, l) = and_then_some (types_after context code) (types_behind context i ts) us e in
      let b = behind context i ts ms k in
      let first : types_behind context i (below ++ ts) ≡ Some (below ++ ms) =
      ap (types_behind context i) (ap (λ x. below ++ x) b.parts ∙ sym (append_assoc below b.below b.operands))
      ∙ (behind_is i (below ++ b.below) b.operands b.results b.typed
      ∙ ap (λ x. Some x) (append_assoc below b.below b.results ∙ ap (λ x. below ++ x) (sym b.gives))) in
      ap (option_and_then (types_after context code)) first ∙ after_above code below ms us l
