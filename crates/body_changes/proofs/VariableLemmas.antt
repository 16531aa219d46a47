-- Variables of a type, by their numbers among those of it.
use Rattle.std.proofs.Common.{◌≡◌, ℕ, ◌+◌, ◌^◌, ◌<◌, ◌≤◌, ◌⊎◌, cond, true, List, [], ◌∷◌, length, take, get_or, Option, Some, None, inl, inr, refl, sym, ap}
use Rattle.std.proofs.Common.{subst, ◌∙◌, arith}
use Rattle.std.specs.Prelude.{count_by, slice_get, option_and_then, IfNone, IfSome, IsTrue}
use Rattle.std.proofs.lemmas.Bool.{cases_order}
use Rattle.std.proofs.lemmas.List.{take-take, take_all, length-take}
use Rattle.std.proofs.lemmas.List.Sums.{count_by_more_yes, sum_by-take-le, count_by-le-length}
use Rattle.std.proofs.lemmas.Option.{get_or_from_slice_get, slice_get-get_or, slice_get_within}
use Rattle.wasm_code.specs.Instruction.{Instruction, IsInstruction, fits_row}
use Rattle.wasm_code.specs.Table.{row_at, table}
use Rattle.wasm_code.specs.declared.immediate.Imm.TheVariants.{Index}
use Rattle.wasm_types.specs.declared.types.PrimitiveTypeInfo.{PrimitiveTypeInfo}
use Rattle.wasm_types.specs.declared.types.PrimitiveTypeInfo.TheVariants.{I32}
use Rattle.wasm_execution.specs.IntegerRow.{integer_row}
use Rattle.wasm_execution.specs.Row.{at_most_one, instruction_types}
use Rattle.wasm_execution.specs.RowLemmas.{same_type_is, same_type_self}
use Rattle.wasm_execution.specs.Values.{Context, same_type}
use Rattle.body_changes.specs.Drawing.{asks_types_alone, variable_rank}
use Rattle.body_changes.specs.Goals.{indexed, GivesFromNothing, HasVariable}

pub there_is : (types : List PrimitiveTypeInfo) (t d : PrimitiveTypeInfo) (n : ℕ) → n < length types → same_type t (get_or types n d) ≡ true →
    HasVariable types t n
there_is types t d n l e = slice_get-get_or types n d l ∙ ap (λ (u : PrimitiveTypeInfo). Some u) (sym (same_type_is t (get_or types n d) e))

rank_next : (types : List PrimitiveTypeInfo) (t : PrimitiveTypeInfo) (n : ℕ) → HasVariable types t n →
    variable_rank types t (n + 1) ≡ variable_rank types t n + 1
rank_next types t n h =
    count_by_more_yes (same_type t) types n I32 (slice_get_within types n t h)
    (ap (same_type t) (get_or_from_slice_get types n t I32 h) ∙ same_type_self t)

rank_grows : (types : List PrimitiveTypeInfo) (t : PrimitiveTypeInfo) (n m : ℕ) → n ≤ m → variable_rank types t n ≤ variable_rank types t m
rank_grows types t n m l =
    subst (λ (us : List PrimitiveTypeInfo). count_by (same_type t) us ≤ variable_rank types t m) (take-take n m types l)
    (sum_by-take-le (λ u. cond (same_type t u) 1 0) (take m types) n)

pub rank_small : (types : List PrimitiveTypeInfo) (t : PrimitiveTypeInfo) (n : ℕ) → HasVariable types t n →
    variable_rank types t n < count_by (same_type t) types
rank_small types t n h =
    let next = rank_next types t n h in
    let le : variable_rank types t (n + 1) ≤ count_by (same_type t) types = sum_by-take-le (λ u. cond (same_type t u) 1 0) types (n + 1) in omega arith

pub rank_below : (types : List PrimitiveTypeInfo) (t : PrimitiveTypeInfo) (n : ℕ) → variable_rank types t n ≤ n
rank_below types t n =
    let le : variable_rank types t n ≤ length (take n types) = count_by-le-length (same_type t) (take n types) in
    let small = length-take n types in omega arith

-- each has a number of its own
pub one_by_rank : (types : List PrimitiveTypeInfo) (t : PrimitiveTypeInfo) (n m : ℕ) → HasVariable types t n → HasVariable types t m →
    variable_rank types t n ≡ variable_rank types t m → n ≡ m
one_by_rank types t n m h k same =
    let a = rank_next types t n h in
    let b = rank_next types t m k in
    elim (cases_order n m) [
      | inl is ↦ is
      | inr (inl less) ↦ absurd (let l = rank_grows types t (n + 1) m (omega arith) in omega arith)
      | inr (inr more) ↦ absurd (let l = rank_grows types t (m + 1) n (omega arith) in omega arith)
    ]

-- past the last one there are no numbers
pub none_past : (types : List PrimitiveTypeInfo) (t : PrimitiveTypeInfo) (i n number : ℕ) → length types ≤ i → variable_rank types t i ≤ number →
    HasVariable types t n → variable_rank types t n ≡ number → ⊥
none_past types t i n number l below h is =
    let small = rank_small types t n h in
    let all : variable_rank types t i ≡ count_by (same_type t) types = ap (count_by (same_type t)) (take_all i types l) in
    omega arith

-- ---- their indices

pub index_found : (o : Option ℕ) (place n : ℕ) → IfSome o (λ k. k ≡ place) → IfNone o (2 ^ 32 ≤ place) → place ≡ n → n < 2 ^ 32 → o ≡ Some n
index_found None place n is past e small = absurd (omega arith)
index_found (Some k) place n is past e small = ap (λ (i : ℕ). Some i) (is ∙ e)

pub index_there : (types : List PrimitiveTypeInfo) (t : PrimitiveTypeInfo) (o : Option ℕ) (place : ℕ) → IfSome o (λ k. k ≡ place) →
    HasVariable types t place → IfSome o (HasVariable types t)
index_there types t None place is h = tt
index_there types t (Some k) place is h = subst (HasVariable types t) (sym is) h

-- ---- their instructions

pub index_fits : (row : ℕ) → (row ≡ 4) ⊎ (row ≡ 7) → (n : ℕ) → IsTrue (fits_row (row_at row) (Index n))
unfolding row_at table
index_fits row (inl e) n = subst (λ (r : ℕ). IsTrue (fits_row (row_at r) (Index n))) (sym e) refl
index_fits row (inr e) n = subst (λ (r : ℕ). IsTrue (fits_row (row_at r) (Index n))) (sym e) refl

-- reading a variable gives a value of its type
read_gives : (o : Option PrimitiveTypeInfo) (t : PrimitiveTypeInfo) → o ≡ Some t →
    option_and_then at_most_one (option_and_then (λ u. Some (u ∷ [])) o) ≡ Some (Some t)
read_gives o t e = ap (λ (x : Option PrimitiveTypeInfo). option_and_then at_most_one (option_and_then (λ u. Some (u ∷ [])) x)) e

pub local_gives : (context : Context) (t : PrimitiveTypeInfo) (n : ℕ) (i : Instruction) → i ≡ indexed 4 n → IsInstruction i →
    HasVariable context.locals t n → GivesFromNothing context t i
unfolding integer_row row_at table
local_gives context t n i e is h = record {
  instruction = is;
  types = subst (λ (j : Instruction). instruction_types context j [] ≡ Some (Some t)) (sym e) (read_gives (slice_get context.locals n) t h);
  plain = subst (λ (j : Instruction). IsTrue (asks_types_alone j)) (sym e) refl;
}

pub global_gives : (context : Context) (t : PrimitiveTypeInfo) (n : ℕ) (i : Instruction) → i ≡ indexed 7 n → IsInstruction i →
    HasVariable context.info.globals t n → GivesFromNothing context t i
unfolding integer_row row_at table
global_gives context t n i e is h = record {
  instruction = is;
  types = subst (λ (j : Instruction). instruction_types context j [] ≡ Some (Some t)) (sym e) (read_gives (slice_get context.info.globals n) t h);
  plain = subst (λ (j : Instruction). IsTrue (asks_types_alone j)) (sym e) refl;
}
