-- Another local, global or function of the same type.
use Rattle.std.proofs.Common.{◌≡◌, ◌≢◌, ℕ, ◌^◌, ◌<◌, inl, inr, List, [], ◌∷◌}
use Rattle.std.proofs.Common.{Option, Some, None, refl, sym, ap, ◌∙◌, subst, arith}
use Rattle.std.specs.Prelude.{◌==◌, min, slice_get, option_and_then, IsTrue}
use Rattle.std.proofs.lemmas.Bool.{eqb-true, false≢true, or_cases}
use Rattle.std.proofs.lemmas.Option.{slice_get_within}
use Rattle.wasm_code.specs.Instruction.{Instruction, fits_row, is_of_kind}
use Rattle.wasm_code.specs.Table.{row_at, table}
use Rattle.wasm_code.specs.declared.immediate.Imm.TheVariants.{Index}
use Rattle.wasm_code.specs.declared.table.Kind.{Kind}
use Rattle.wasm_code.specs.declared.table.Kind.TheVariants as kinds
use Rattle.wasm_code.specs.declared.table.Row.{Row}
use Rattle.wasm_types.specs.Module.{Module, function_type, type_at}
use Rattle.wasm_types.specs.declared.types.PrimitiveTypeInfo.{PrimitiveTypeInfo}
use Rattle.wasm_types.specs.declared.types.TypeInfo.{TypeInfo}
use Rattle.wasm_execution.specs.IntegerRow.{if_typed, integer_row}
use Rattle.wasm_execution.specs.OtherRow.{both_of, other_type, parameters, returned}
use Rattle.wasm_execution.specs.Row.{at_most_one, instruction_types}
use Rattle.wasm_execution.specs.Values.{Context, results_on, same_type}
use Rattle.body_changes.specs.declared.kinds.accesses.Indexed.{Indexed}
use Rattle.body_changes.specs.declared.kinds.accesses.Indexed.TheVariants as kind
use Rattle.body_changes.specs.declared.units.Unit.{Unit}
use Rattle.body_changes.specs.Drawing.{is_local_row}
use Rattle.body_changes.specs.Goals.{indexed}
use Rattle.body_changes.specs.Kinds.{IsBehindOperands, IsNew, MakesIndexed}
use Rattle.body_changes.specs.Proposals.{indexed_count_in, is_row_of, IndexedAreOfOneType, IsAnother}
use Rattle.body_changes.specs.Replacing.{HasInstruction}
use Rattle.body_changes.specs.Units.{IsUnit}
use Rattle.body_changes.proofs.BehindLemmas.{behind_new, own_behind}
use Rattle.body_changes.proofs.OwnLemmas.{one_there}
use Rattle.body_changes.proofs.PartLemmas.{behind_same}
use Rattle.body_changes.proofs.StandLemmas.{Operators}

-- ---- which one

function_there : (o : Option ℕ) (m : Module) (t : TypeInfo) → type_at m o ≡ Some t → (place : ℕ) × (o ≡ Some place)
function_there None m t e = absurd cc
function_there (Some place) m t e = (place, refl)

-- both are among those that there are
pub alike_inside : (context : Context) (kind : Indexed) (own other : ℕ) → IndexedAreOfOneType context kind own other → other < indexed_count_in context kind
alike_inside context kind.Local own other (t, a, b) = slice_get_within context.locals other t b
alike_inside context kind.Global own other (t, a, b) = slice_get_within context.info.globals other t b
alike_inside context kind.Function own other (t, a, b) =
    let (place, there) = function_there (slice_get context.info.functions other) context.info t b in
    slice_get_within context.info.functions other place there

-- where there are none, none is another one
pub none_alike : (context : Context) (k : Indexed) (own other count : ℕ) → count ≡ min (indexed_count_in context k) (2 ^ 32) → count ≡ 0 →
    IndexedAreOfOneType context k own other → ⊥
none_alike context k own other count count_is none alike = let inside = alike_inside context k own other alike in let is = count_is in omega arith

pub same_index : (row r n k : ℕ) → indexed row n ≡ indexed r k → (row ≡ r) × (n ≡ k)
same_index row r n k e = let imms : Index n ≡ Index k = ap (λ (i : Instruction). i.imm) e in (ap (λ (i : Instruction). i.row) e, cc)

-- the row takes any index, where it takes one
pub index_fits : (o : Option Row) (n k : ℕ) → IsTrue (fits_row o (Index n)) → IsTrue (fits_row o (Index k))
index_fits None n k h = h
index_fits (Some row) n k h = by_kind row.kind h
  where
    by_kind : (kind : Kind) → IsTrue (is_of_kind kind (Index n)) → IsTrue (is_of_kind kind (Index k))
    by_kind kinds.Index h = refl
    by_kind kind h = absurd (false≢true h)

-- ---- what an access gives

-- it goes by the type of the local alone
get_same : (context : Context) (own other : ℕ) (ts : List PrimitiveTypeInfo) → slice_get context.locals own ≡ slice_get context.locals other →
    instruction_types context (indexed 4 own) ts ≡ instruction_types context (indexed 4 other) ts
unfolding integer_row row_at table
get_same context own other [] e =
    ap (λ (o : Option PrimitiveTypeInfo). option_and_then at_most_one (option_and_then (λ u. Some (u ∷ [])) o)) e
get_same context own other (t ∷ ts) e = refl

set_same : (context : Context) (own other : ℕ) (ts : List PrimitiveTypeInfo) → slice_get context.locals own ≡ slice_get context.locals other →
    instruction_types context (indexed 5 own) ts ≡ instruction_types context (indexed 5 other) ts
unfolding integer_row row_at table
set_same context own other [] e = refl
set_same context own other (t ∷ []) e =
    ap (λ (o : Option PrimitiveTypeInfo). option_and_then at_most_one (option_and_then (λ u. if_typed (same_type t u) []) o)) e
set_same context own other (t ∷ u ∷ ts) e = refl

tee_same : (context : Context) (own other : ℕ) (ts : List PrimitiveTypeInfo) → slice_get context.locals own ≡ slice_get context.locals other →
    instruction_types context (indexed 6 own) ts ≡ instruction_types context (indexed 6 other) ts
unfolding integer_row row_at table
tee_same context own other [] e = refl
tee_same context own other (t ∷ []) e =
    ap (λ (o : Option PrimitiveTypeInfo). option_and_then at_most_one (option_and_then (λ u. if_typed (same_type t u) (t ∷ [])) o)) e
tee_same context own other (t ∷ u ∷ ts) e = refl

access_same : (context : Context) (row own other : ℕ) (ts : List PrimitiveTypeInfo) → IsTrue (is_local_row row) →
    slice_get context.locals own ≡ slice_get context.locals other →
    instruction_types context (indexed row own) ts ≡ instruction_types context (indexed row other) ts
access_same context row own other ts h e = elim (or_cases (row == 4) _ h) [
  | inl is ↦ at 4 (eqb-true row 4 is) (get_same context own other ts e)
  | inr rest ↦ elim (or_cases (row == 5) _ rest) [
    | inl is ↦ at 5 (eqb-true row 5 is) (set_same context own other ts e)
    | inr is ↦ at 6 (eqb-true row 6 is) (tee_same context own other ts e)
  ]
]
  where
    at : (k : ℕ) → row ≡ k → instruction_types context (indexed k own) ts ≡ instruction_types context (indexed k other) ts →
        instruction_types context (indexed row own) ts ≡ instruction_types context (indexed row other) ts
    at k is same = subst (λ (r : ℕ). instruction_types context (indexed r own) ts ≡ instruction_types context (indexed r other) ts) (sym is) same

-- so does the reading of a global
global_same : (context : Context) (own other : ℕ) (ts : List PrimitiveTypeInfo) →
    slice_get context.info.globals own ≡ slice_get context.info.globals other →
    instruction_types context (indexed 7 own) ts ≡ instruction_types context (indexed 7 other) ts
unfolding integer_row row_at table
global_same context own other [] e =
    ap (λ (o : Option PrimitiveTypeInfo). option_and_then at_most_one (option_and_then (λ u. Some (u ∷ [])) o)) e
global_same context own other (t ∷ ts) e = refl

-- and a call, by the type of the function
named_function : (m : Module) (o : Option ℕ) → option_and_then (slice_get m.types) o ≡ type_at m o
named_function m None = refl
named_function m (Some place) = refl

call_same : (context : Context) (own other : ℕ) (ts : List PrimitiveTypeInfo) →
    function_type context.info own ≡ function_type context.info other →
    instruction_types context (indexed 1 own) ts ≡ instruction_types context (indexed 1 other) ts
unfolding integer_row row_at table other_type
call_same context own other ts e =
    ap (λ (o : Option TypeInfo). option_and_then at_most_one (option_and_then (results_on ts) (both_of (parameters o) (returned o))))
    (named_function context.info (slice_get context.info.functions own)
    ∙ (e ∙ sym (named_function context.info (slice_get context.info.functions other))))

-- it goes by what is alike
alike_same : (context : Context) (k : Indexed) (row own other : ℕ) (ts : List PrimitiveTypeInfo) → IsTrue (is_row_of k row) →
    IndexedAreOfOneType context k own other → instruction_types context (indexed row own) ts ≡ instruction_types context (indexed row other) ts
alike_same context kind.Local row own other ts h (t, a, b) = access_same context row own other ts h (a ∙ sym b)
alike_same context kind.Global row own other ts h (t, a, b) =
    subst (λ (r : ℕ). instruction_types context (indexed r own) ts ≡ instruction_types context (indexed r other) ts) (sym (eqb-true row 7 h))
    (global_same context own other ts (a ∙ sym b))
alike_same context kind.Function row own other ts h (t, a, b) =
    subst (λ (r : ℕ). instruction_types context (indexed r own) ts ≡ instruction_types context (indexed r other) ts) (sym (eqb-true row 1 h))
    (call_same context own other ts (a ∙ sym b))

-- ---- the code

module _ (context : Context) (k : Indexed) (operators : Operators) (at : ℕ) (unit : Unit) (own : Instruction) (has : HasInstruction operators at own) where
  -- it isn't made of another instruction
  pub no_access : ((row n : ℕ) → IsTrue (is_row_of k row) → own ≢ indexed row n) → (other : ℕ) (code : List Instruction) →
      MakesIndexed (is_row_of k) (IndexedAreOfOneType context k) operators at unit other code → IsNew context operators unit.start at code → ⊥
  no_access none other code m new = none m.row m.own m.is_row (one_there operators at own (indexed m.row m.own) has m.has)

  module _ (is : IsUnit context operators at unit) (index : ℕ) (own_is : own ≡ indexed own.row index) where
    -- with another index
    pub new_access : IsTrue (is_row_of k own.row) → (other : ℕ) → IsAnother context k index other → (i : Instruction) →
        i ≡ indexed own.row other → (code : List Instruction) → IsBehindOperands operators at unit i code → IsNew context operators unit.start at code
    new_access row other found i i_is code made =
        behind_new context operators at unit is own i has (λ e. found.0 (same_index own.row own.row other index (sym i_is ∙ (e ∙ own_is))).1)
        (λ ts. ap (λ (j : Instruction). instruction_types context j ts) own_is
        ∙ (alike_same context k own.row index other ts row found.1 ∙ ap (λ (j : Instruction). instruction_types context j ts) (sym i_is))) code made

    module _ (other : ℕ) (code : List Instruction) (m : MakesIndexed (is_row_of k) (IndexedAreOfOneType context k) operators at unit other code) where
      -- what the operator is, as what is made says it
      same_access : (m.row ≡ own.row) × (m.own ≡ index)
      same_access = same_index m.row own.row m.own index (one_there operators at (indexed m.row m.own) own m.has has ∙ own_is)

      -- with the same index it is the code that stands there
      other_differs : IsNew context operators unit.start at code → other ≡ index → ⊥
      other_differs new e =
          let (row, there) = same_access in
          own_behind context operators at unit is (indexed m.row m.own) (indexed m.row other) m.has (ap (indexed m.row) (there ∙ sym e)) code
          m.behind new

      pub no_other_access : (IsAnother context k index other → ⊥) → IsNew context operators unit.start at code → ⊥
      no_other_access none new = none (other_differs new, subst (λ (n : ℕ). IndexedAreOfOneType context k n other) same_access.1 m.alike)

      -- it is the only one
      pub only_access : (i : Instruction) → i ≡ indexed own.row other → (given : List Instruction) → IsBehindOperands operators at unit i given → given ≡ code
      only_access i i_is given made =
          behind_same operators at unit i (indexed m.row other) given code
          (i_is ∙ ap (λ (r : ℕ). indexed r other) (sym same_access.0)) made m.behind
