-- Other operators of the same types, row by row.
use Rattle.std.proofs.Common.{◌≡◌, ℕ, zero, suc, ◌+◌, ◌<◌, inl, inr, true, false, length, Option, Some, None, refl, sym, ap, subst, ◌∙◌, arith}
use Rattle.std.specs.List.{All}
use Rattle.std.specs.Prelude.{◌==◌, not, if◌then◌else◌, IsTrue}
use Rattle.std.proofs.lemmas.Bool.{false≢true, and_parts, and_from, ne_eqb, eq-eqb, cases_Bool, cases_eq}
use Rattle.std.proofs.lemmas.Option.{slice_get_within}
use Rattle.wasm_code.specs.Instruction.{Instruction, IsInstruction, fits_row}
use Rattle.wasm_code.specs.Table.{row_at, table}
use Rattle.wasm_code.specs.declared.immediate.Imm.TheVariants.{Nothing}
use Rattle.wasm_code.specs.declared.table.Row.{Row}
use Rattle.wasm_types.specs.declared.types.PrimitiveTypeInfo.{PrimitiveTypeInfo}
use Rattle.wasm_execution.specs.RowLemmas.{same_type_is, same_type_self}
use Rattle.body_changes.specs.declared.others.Asked.{Asked}
use Rattle.body_changes.specs.Goals.{context_for}
use Rattle.body_changes.specs.Others.{bare, is_row_asked_for, others_below, same_results, IsOther}
use Rattle.body_changes.specs.Typed.{is_told_apart, told_types}

-- ---- results

results_are : (o : Option (Option PrimitiveTypeInfo)) (u : Option PrimitiveTypeInfo) → same_results o u ≡ true → o ≡ Some u
results_are (Some (Some t)) (Some u) e = ap (λ (x : PrimitiveTypeInfo). Some (Some x)) (same_type_is t u e)
results_are (Some None) None e = refl
results_are o u e = absurd (false≢true e)

same_self : (u : Option PrimitiveTypeInfo) → same_results (Some u) u ≡ true
same_self (Some t) = same_type_self t
same_self None = refl

-- ---- a row

row_there : (o : Option Row) → IsTrue (fits_row o Nothing) → (row : Row) × (o ≡ Some row)
row_there None h = absurd (false≢true h)
row_there (Some row) h = (row, refl)

table_length : length table ≡ 446
unfolding table
table_length = refl

row_bound : (n : ℕ) (row : Row) → row_at n ≡ Some row → n < 446
unfolding row_at
row_bound n row e = subst (λ (l : ℕ). n < l) table_length (slice_get_within table n row e)

pub other_is : (asked : Asked) (i other : Instruction) → i.row ≡ asked.own → other ≡ bare other.row → IsInstruction other →
    IsTrue (is_row_asked_for asked other.row) → All (λ (t : PrimitiveTypeInfo). IsTrue (is_told_apart t)) asked.operands.now →
    told_types (context_for asked.scope) i asked.operands.now ≡ Some asked.gives →
    IsOther (context_for asked.scope) asked.operands.now i other
other_is asked i other own is instruction h told gives =
    let (differs, rest) = and_parts (not (other.row == asked.own)) _ h in
    let (fits, same) = and_parts (fits_row (row_at other.row) Nothing) _ rest in
    record {
      instruction = instruction;
      is_bare = is;
      differs = λ e. false≢true (sym (ap not (eq-eqb other.row asked.own (e ∙ own))) ∙ differs);
      told = told;
      gives = asked.gives;
      own = gives;
      same = subst (λ (j : Instruction). told_types (context_for asked.scope) j asked.operands.now ≡ Some asked.gives) (sym is)
          (results_are (told_types (context_for asked.scope) (bare other.row) asked.operands.now) asked.gives same);
    }

-- what is another one is one of the rows
pub other_there : (asked : Asked) (i other : Instruction) → i.row ≡ asked.own →
    told_types (context_for asked.scope) i asked.operands.now ≡ Some asked.gives →
    IsOther (context_for asked.scope) asked.operands.now i other → (other.row < 446) × IsTrue (is_row_asked_for asked other.row)
other_there asked i other own gives h =
    let fits = subst (λ (j : Instruction). IsTrue (fits_row (row_at j.row) j.imm)) h.is_bare h.instruction.kind in
    let (row, there) = row_there (row_at other.row) fits in
    let differs : (other.row == asked.own) ≡ false = ne_eqb other.row asked.own (λ e. h.differs (e ∙ sym own)) in
    let result : h.gives ≡ asked.gives = one_result h.gives asked.gives (sym h.own ∙ gives) in
    let same : told_types (context_for asked.scope) (bare other.row) asked.operands.now ≡ Some asked.gives =
    ap (λ (j : Instruction). told_types (context_for asked.scope) j asked.operands.now) (sym h.is_bare)
    ∙ (h.same ∙ ap (λ (o : Option PrimitiveTypeInfo). Some o) result) in (
      row_bound other.row row there,
      and_from (not (other.row == asked.own)) _ (ap not differs) (and_from (fits_row (row_at other.row) Nothing) _ fits
          (ap (λ o. same_results o asked.gives) same ∙ same_self asked.gives)),
    )
  where
    one_result : (a b : Option PrimitiveTypeInfo) → Some a ≡ Some b → a ≡ b
    one_result a b e = cc

-- the one that the word names
pub other_named : (asked : Asked) (i : Instruction) (o : Option Instruction) (word : ℕ) → i.row ≡ asked.own →
    told_types (context_for asked.scope) i asked.operands.now ≡ Some asked.gives →
    ((row : ℕ) → row < 446 → word ≡ row → IsTrue (is_row_asked_for asked row) → o ≡ Some (bare row)) →
    (other : Instruction) → IsOther (context_for asked.scope) asked.operands.now i other → word ≡ other.row → o ≡ Some other
other_named asked i o word own gives named other h e =
    let (small, is) = other_there asked i other own gives h in
    named other.row small e is ∙ ap (λ (j : Instruction). Some j) (sym h.is_bare)

-- ---- how many there are

-- where there are none, no row is one
pub none_is_other : (asked : Asked) (end row : ℕ) → others_below asked end ≡ 0 → row < end → is_row_asked_for asked row ≡ true → ⊥
unfolding others_below
none_is_other asked zero row e l h = omega arith
none_is_other asked (suc end) row e l h = elim (cases_Bool (is_row_asked_for asked end)) [
  | inl last ↦
      absurd (let n = sym (ap (λ b. if b then others_below asked end + 1 else others_below asked end) last) ∙ e in omega arith)
  | inr never ↦
      let n : others_below asked end ≡ 0 = sym (ap (λ b. if b then others_below asked end + 1 else others_below asked end) never) ∙ e in
      elim (cases_eq row end) [
        | inl is ↦ false≢true (sym never ∙ (ap (is_row_asked_for asked) (sym is) ∙ h))
        | inr isnt ↦ none_is_other asked end row n (omega arith) h
      ]
]

pub no_other : (asked : Asked) (i : Instruction) → i.row ≡ asked.own → told_types (context_for asked.scope) i asked.operands.now ≡ Some asked.gives →
    others_below asked 446 ≡ 0 → (other : Instruction) → IsOther (context_for asked.scope) asked.operands.now i other → ⊥
no_other asked i own gives none other h =
    let (small, is) = other_there asked i other own gives h in none_is_other asked 446 other.row none small is
