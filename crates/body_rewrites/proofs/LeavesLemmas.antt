-- A tree's code leaves its value, and needs nothing from before it.
use Rattle.std.proofs.Common.{◌≡◌, ℕ, ◌-◌, ◌≤◌, List, [], ◌∷◌, ◌++◌, length, take, drop, Option, Some, None, refl, sym, ap, ◌∙◌}
use Rattle.std.specs.Prelude.{nat_le, if◌then◌else◌, option_map, option_and_then}
use Rattle.std.proofs.lemmas.Bool.{le-leb}
use Rattle.wasm_code.specs.Instruction.{Instruction}
use Rattle.wasm_types.specs.declared.types.PrimitiveTypeInfo.{PrimitiveTypeInfo}
use Rattle.wasm_execution.specs.Values.{Context}
use Rattle.wasm_execution.specs.IntegerRow.{integer_row, operand_count, row_types}
use Rattle.wasm_execution.specs.Row.{at_most_one, instruction_types, instruction_count}
use Rattle.wasm_execution.specs.RowLemmas.{and_then_some, row_types_count}
use Rattle.wasm_execution.specs.CountLemmas.{row_count_is}
use Rattle.rewrite_rules.specs.Code.{types_behind, types_after}
use Rattle.body_rewrites.specs.Trees.{one_type, tree_behind, tree_after, TreesLeave}
use Rattle.body_rewrites.proofs.StandsLemmas.{Types, given}

module _ (context : Context) where
  one_row : (i : Instruction) (ts : Types) (t : PrimitiveTypeInfo) → one_type (instruction_types context i ts) ≡ Some t →
      row_types context (integer_row i) ts ≡ Some (t ∷ [])
  one_row i ts t e = go (row_types context (integer_row i) ts) refl e
    where
      go : (o : Option Types) → row_types context (integer_row i) ts ≡ o → one_type (option_and_then at_most_one o) ≡ Some t →
          row_types context (integer_row i) ts ≡ Some (t ∷ [])
      go None k e = absurd cc
      go (Some []) k e = absurd cc
      go (Some (u ∷ [])) k e = k ∙ ap (λ v. Some (v ∷ [])) (let same : u ≡ t = cc in same)
      go (Some (u ∷ v ∷ us)) k e = absurd cc

  behind_is : (i : Instruction) (ts : Types) (t : PrimitiveTypeInfo) (count : ℕ) → operand_count context.info (integer_row i) ≡ count → count ≤ length ts →
      row_types context (integer_row i) (drop (length ts - count) ts) ≡ Some (t ∷ []) →
      types_behind context i ts ≡ Some (take (length ts - count) ts ++ t ∷ [])
  behind_is i ts t count is enough row =
      ap
      (λ n. if nat_le n (length ts) then option_map (λ us. take (length ts - n) ts
      ++ us) (row_types context (integer_row i) (drop (length ts - n) ts)) else None)
      is
      ∙ (ap (λ b. if b then option_map (λ us. take (length ts - count) ts ++ us) (row_types context (integer_row i) (drop (length ts - count) ts)) else None)
      (le-leb count (length ts) enough)
      ∙ ap (option_map (λ us. take (length ts - count) ts ++ us)) row)

  leaves_behind : (i : Instruction) (ts us : Types) → tree_behind context i ts ≡ Some us → types_behind context i ts ≡ Some us
  leaves_behind i ts us e =
      let g = given context i ts us e in
      let count = instruction_count context.info i in
      let row = one_row i (drop (length ts - count) ts) g.gives g.typed in
      let same : operand_count context.info (integer_row i) ≡ count =
      row_types_count context (integer_row i) (drop (length ts - count) ts) (g.gives ∷ []) row
      ∙ row_count_is context (integer_row i) (drop (length ts - count) ts) (g.gives ∷ []) row in
      behind_is i ts g.gives count same g.enough row ∙ ap (λ l. Some l) (sym g.left)

  code_leaves : (code : List Instruction) (ts us : Types) → tree_after context code ts ≡ Some us → types_after context code ts ≡ Some us
  code_leaves [] ts us e = e
  code_leaves (i ∷ code) ts us e =
      let (vs, first, rest) = and_then_some (tree_after context code) (tree_behind context i ts) us e in
      ap (option_and_then (types_after context code)) (leaves_behind i ts vs first) ∙ code_leaves code vs us rest

pub trees_leave : TreesLeave
trees_leave context operators start at t tree = code_leaves context tree.code [] (t ∷ []) tree.typed
