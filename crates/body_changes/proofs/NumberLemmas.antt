-- Constants in the place of a number.
use Rattle.std.proofs.Common.{◌≡◌, ℕ, ◌/◌, ◌≤◌, inl, inr, [], ◌∷◌, List, Some, refl, sym, ap, ap₂, ◌∙◌, subst, arith}
use Rattle.std.specs.Prelude.{IsTrue}
use Rattle.std.proofs.lemmas.Bool.{false≢true}
use Rattle.wasm_code.specs.Instruction.{Instruction, IsInstruction, fits_row}
use Rattle.wasm_code.specs.Table.{row_at, table}
use Rattle.wasm_code.specs.declared.immediate.Imm.{Imm}
use Rattle.wasm_code.specs.declared.immediate.Imm.TheVariants as imm
use Rattle.wasm_types.specs.Module.{Module}
use Rattle.wasm_types.specs.declared.types.PrimitiveTypeInfo.{PrimitiveTypeInfo}
use Rattle.wasm_types.specs.declared.types.PrimitiveTypeInfo.TheVariants as primitive
use Rattle.wasm_execution.specs.Row.{list_of, instruction_types}
use Rattle.wasm_execution.specs.Values.{Context}
use Rattle.body_changes.specs.declared.change.Change.TheVariants.{Constant}
use Rattle.body_changes.specs.declared.goal.Words.{Words}
use Rattle.body_changes.specs.declared.units.Unit.{Unit}
use Rattle.body_changes.specs.Drawing.{is_drawable, drawing_words_of, IsLeaf}
use Rattle.body_changes.specs.Goals.{constant_by, constant_row, first_words, is_constant_imm, WordsDrawInstruction, IsConstantOf}
use Rattle.body_changes.specs.Kinds.{is_number_or_vector, IsNew, MakesConstant, WordsNameCode}
use Rattle.body_changes.specs.Replacing.{HasInstruction}
use Rattle.body_changes.specs.Typed.{is_told_apart, LeavesTypes}
use Rattle.body_changes.specs.Units.{IsUnit}
use Rattle.body_changes.proofs.DrawingLemmas.{words_are_for}
use Rattle.body_changes.proofs.ConstantLemmas.{constant_typed}
use Rattle.body_changes.proofs.EndLemmas.{alone, new_end}
use Rattle.body_changes.proofs.LeafLemmas.{leaf_cases}
use Rattle.body_changes.proofs.StandLemmas.{Operators}
use Rattle.body_changes.proofs.TypedLemmas.{after_one, behind_others, told_known}

-- ---- numbers

number_drawable : (m : Module) (t : PrimitiveTypeInfo) → IsTrue (is_number_or_vector t) → IsTrue (is_drawable m t)
number_drawable m primitive.FuncRef h = absurd (false≢true h)
number_drawable m primitive.ExternRef h = absurd (false≢true h)
number_drawable m primitive.Empty h = absurd (false≢true h)
number_drawable m t h = refl

number_told : (t : PrimitiveTypeInfo) → IsTrue (is_number_or_vector t) → IsTrue (is_told_apart t)
number_told primitive.Empty h = absurd (false≢true h)
number_told t h = refl

-- no row of constants is that of local.get or global.get
constants_behind : (t : PrimitiveTypeInfo) → 36 ≤ constant_row t
constants_behind primitive.I32 = omega arith
constants_behind primitive.I64 = omega arith
constants_behind primitive.F32 = omega arith
constants_behind primitive.F64 = omega arith
constants_behind t = omega arith

-- ---- constants

-- an instruction of the row of a number's constants is one of them
row_typed : (t : PrimitiveTypeInfo) (m : Imm) → IsTrue (is_number_or_vector t) → IsTrue (fits_row (row_at (constant_row t)) m) → IsTrue (is_constant_imm t m)
unfolding row_at table
row_typed primitive.I32 (imm.I32 z) h f = refl
row_typed primitive.I64 (imm.I64 z) h f = refl
row_typed primitive.F32 (imm.F32 bits) h f = refl
row_typed primitive.F64 (imm.F64 bits) h f = refl
row_typed primitive.V128 (imm.V128 z) h f = refl
row_typed primitive.FuncRef m h f = absurd (false≢true h)
row_typed primitive.ExternRef m h f = absurd (false≢true h)
row_typed primitive.Empty m h f = absurd (false≢true h)
row_typed t m h f = absurd (false≢true f)

pub constant_of_row : (t : PrimitiveTypeInfo) (i : Instruction) → IsTrue (is_number_or_vector t) → IsInstruction i → i.row ≡ constant_row t → IsConstantOf t i
constant_of_row t i number is row =
    let fits = subst (λ (n : ℕ). IsTrue (fits_row (row_at n) i.imm)) row is.kind in
    let typed = constant_typed t i.imm (row_typed t i.imm number fits) in
    subst (λ (n : ℕ). IsConstantOf t (record { row = n; imm = i.imm })) (sym row) typed

one_leaves : (context : Context) (t : PrimitiveTypeInfo) (i : Instruction) → IsTrue (is_number_or_vector t) → instruction_types context i [] ≡ Some (Some t) →
    LeavesTypes context (i ∷ []) (t ∷ [])
one_leaves context t i number types =
    after_one context i [] [] (t ∷ []) (behind_others context i [] [] (Some t) (told_known context i [] t (number_told t number) types))

module _ (context : Context) (operators : Operators) (at : ℕ) (unit : Unit) (t : PrimitiveTypeInfo) (is : IsUnit context operators at unit)
    (gives : unit.gives ≡ Some t) (number : IsTrue (is_number_or_vector t)) (own : Instruction) (has : HasInstruction operators at own) where
  -- a constant of its type in its place
  pub new_constant : (i : Instruction) (code : List Instruction) → IsConstantOf t i → (i ≡ own → ⊥) → code ≡ i ∷ [] → IsNew context operators unit.start at code
  new_constant i code constant differs e =
      subst (IsNew context operators unit.start at) (sym e)
      (new_end context operators at unit is [] i own has differs
      (subst (λ o. LeavesTypes context (i ∷ []) (list_of o)) (sym gives)
      (one_leaves context t i number (constant context (number_drawable context.info t number)))))

  -- a single instruction that gives the value, and is new, is another one
  other_instruction : (i : Instruction) → instruction_types context i [] ≡ Some (Some t) → IsNew context operators unit.start at (i ∷ []) → i ≡ own → ⊥
  other_instruction i types new e =
      new.differs (alone context operators at unit is i (t ∷ []) (subst (HasInstruction operators at) (sym e) has) (one_leaves context t i number types))

  -- where words name a new constant, it is the one that is made
  pub named_constant : (ws : Words) (drawn other : Instruction) (words : List ℕ) (code c : List Instruction) → ws ≡ first_words words →
      (ws.choice / 8 ≡ 4 → drawn ≡ constant_by t ws.low ws.high) → ((drawn ≡ own → ⊥) → other ≡ drawn) → code ≡ other ∷ [] →
      MakesConstant operators at unit c → IsNew context operators unit.start at c → WordsNameCode context Constant unit words c → code ≡ c
  named_constant ws drawn other words code c first by_bits stays e makes new (u, i, gives_u, leaf, named, c_is) =
      let type : t ≡ u = one_type (sym gives ∙ gives_u) in
      let type_made : makes.type ≡ t = one_type (sym makes.gives ∙ gives) in
      let leaf_t = subst (λ x. IsLeaf context x i) (sym type) leaf in
      let i_made : i ≡ makes.other = one_there (sym c_is ∙ makes.code_is) in
      let row : i.row ≡ constant_row t = ap (λ (j : Instruction). j.row) i_made ∙ (makes.other_row ∙ ap constant_row type_made) in
      let words_are : WordsDrawInstruction context t i ws =
      subst (λ (w : Words). WordsDrawInstruction context t i w) (sym first)
      (words_are_for context t i words (named ∙ ap (λ x. drawing_words_of context x i) (sym type))) in
      let is_drawn : drawn ≡ i = by_words i ws row leaf_t words_are by_bits in
      let differs : drawn ≡ own → ⊥ =
      λ same. other_instruction i leaf_t.types (subst (IsNew context operators unit.start at) c_is new) (sym is_drawn ∙ same) in
      e ∙ (ap (λ (j : Instruction). j ∷ []) (stays differs ∙ is_drawn) ∙ sym c_is)
    where
      one_type : {x y : PrimitiveTypeInfo} → Some x ≡ Some y → x ≡ y
      one_type e = cc

      one_there : {x y : Instruction} → x ∷ [] ≡ y ∷ [] → x ≡ y
      one_there e = cc

      by_words : (i : Instruction) (ws : Words) → i.row ≡ constant_row t → IsLeaf context t i → WordsDrawInstruction context t i ws →
          (ws.choice / 8 ≡ 4 → drawn ≡ constant_by t ws.low ws.high) → drawn ≡ i
      by_words i ws row leaf named by_bits = elim (leaf_cases context t i (number_told t number) leaf) [
        | inl v ↦ absurd (let far = constants_behind t in let n = ap (λ (j : Instruction). j.row) v.is in omega arith)
        | inr (inl v) ↦ absurd (let far = constants_behind t in let n = ap (λ (j : Instruction). j.row) v.is in omega arith)
        | inr (inr b) ↦
            by_bits (ap (λ (n : ℕ). n / 8) (named.choice ∙ b.choice)) ∙ (ap₂ (constant_by t) named.low named.high ∙ sym b.is)
      ]
