-- Every row of the table has lines that are well formed, and right.
use Rattle.std.proofs.Common.{◌≡◌, ℕ, zero, suc, Some, subst, true, false, Bool, List, [], ◌∷◌, refl}
use Rattle.std.specs.Prelude.{map, slice_get, take, drop}
use Rattle.std.proofs.lemmas.Bool.{and_parts}
use Rattle.wasm_code.specs.Table.{table, row_at}
use Rattle.wasm_execution.specs.ExactRow.{exact_row}
use Rattle.wasm_execution.specs.IntegerRow.{integer_row}
use Rattle.wasm_execution.specs.declared.integer.IntegerType.{IntegerType}
use Rattle.wasm_execution.specs.declared.integer.IntegerType.TheVariants as integer
use Rattle.rewrite_rules.specs.declared.table.Widths.{Widths}
use Rattle.rewrite_rules.specs.declared.table.Widths.TheVariants.{Both, Only, Any, Operands, Own}
use Rattle.rewrite_rules.specs.declared.table.Row.{Row}
use Rattle.rewrite_rules.specs.Exact.{exact_operator}
use Rattle.rewrite_rules.specs.Line.{Line, is_formed, IsRight}
use Rattle.rewrite_rules.specs.declared.table.accesses.TheConstants.{ACCESS_BITS, ACCESS_WIDTHS, LOAD_SIGNS, STORE_SIGNS, ALIGNMENTS}
use Rattle.rewrite_rules.specs.declared.table.accesses.TheConstants.{CONSTANTS, WIDE_ACCESSES, CONSTANT_BITS}
use Rattle.rewrite_rules.specs.declared.table.control.TheConstants.{CONTROL}
use Rattle.rewrite_rules.specs.Table.{Entry, row_in, parts, rows_of, joined, ROWS, width_by, line_of, widths_in, row_lines_of, OfEachLine}
use Rattle.rewrite_rules.specs.Laws.{LinesKeepCode, TableIsRight}
use Rattle.rewrite_rules.proofs.PassLemmas.{passes, passes_at}
use Rattle.rewrite_rules.proofs.identities.RowLemmas.{AtWidths, AtRows, AtParts, ◌▸◌, joins, at_all}
use Rattle.rewrite_rules.proofs.identities.VectorRows as vector
use Rattle.rewrite_rules.proofs.identities.LaneTestRows as lane_tests
use Rattle.rewrite_rules.proofs.identities.LaneMoveRows as moves
use Rattle.rewrite_rules.proofs.identities.ExtensionRows as extension
use Rattle.rewrite_rules.proofs.identities.SignTestIdentities as sign_test
use Rattle.rewrite_rules.proofs.identities.UndoneRows as undone
use Rattle.rewrite_rules.proofs.identities.HalfIdentities as half
use Rattle.rewrite_rules.proofs.identities.FloatLaneRows as float_lane
use Rattle.rewrite_rules.proofs.identities.SaturationRows as saturation
use Rattle.rewrite_rules.proofs.identities.LaneCountIdentities as lane_count
use Rattle.rewrite_rules.proofs.identities.SwizzleIdentities as swizzle
use Rattle.rewrite_rules.proofs.identities.NarrowingIdentities as narrowing
use Rattle.rewrite_rules.proofs.identities.LaneConversionIdentities as lane_conversion
use Rattle.rewrite_rules.proofs.identities.ConversionIdentities as conversion
use Rattle.rewrite_rules.proofs.identities.PowerTestIdentities as power_test
use Rattle.rewrite_rules.proofs.identities.CountIdentities as count
use Rattle.rewrite_rules.proofs.identities.IntegerRows.{integer_rows_right}
use Rattle.rewrite_rules.proofs.identities.FloatRows.{float_rows_right}
use Rattle.rewrite_rules.proofs.identities.FurtherIdentities.{further_right}

-- ---- well formed

all_formed : passes (λ row. passes is_formed (row_lines_of row)) ROWS ≡ true
unfolding parts exact_operator exact_row integer_row row_at table
all_formed = refl

formed_line : OfEachLine (λ l. is_formed l ≡ true)
formed_line i row e k l f = passes_at is_formed (row_lines_of row) (passes_at (λ r. passes is_formed (row_lines_of r)) ROWS all_formed i row e) k l f

-- ---- right

-- rules that are no rows have no lines
abbrev is_own : Widths → Bool
is_own (Own o) = true
is_own w = false

abbrev all_own : List Entry → Bool
all_own = passes (λ (x : Entry). is_own x.1)

own_right : (es : List Entry) → all_own es ≡ true → AtRows IsRight (rows_of es)
own_right [] e = tt
own_right (x ∷ xs) e =
    let (own, others) = and_parts (is_own x.1) (all_own xs) e in
    (go x.1 (line_of (row_in x)) own, own_right xs others)
  where
    go : (w : Widths) (l : IntegerType → Line) → is_own w ≡ true → AtWidths IsRight w l
    go (Own o) l e = tt
    go Both l e = absurd cc
    go (Only t) l e = absurd cc
    go Any l e = absurd cc
    go (Operands a b c) l e = absurd cc

-- constant by constant, those behind it
vector_rows_right : AtParts IsRight (drop 29 parts)
unfolding parts
vector_rows_right =
    vector.bits_right
    ▸ vector.forms_right
    ▸ vector.sums_right
    ▸ vector.negatives_right
    ▸ vector.zeros_right
    ▸ vector.magnitudes_right
    ▸ lane_tests.orders_right
    ▸ lane_tests.wide_orders_right
    ▸ lane_tests.opposites_right
    ▸ lane_tests.wide_opposites_right
    ▸ lane_tests.complements_right
    ▸ lane_tests.wide_complements_right
    ▸ lane_tests.bounds_right
    ▸ lane_tests.repeats_right
    ▸ lane_tests.choices_right
    ▸ vector.shifts_right
    ▸ vector.lane_turns_right
    ▸ vector.floats_right
    ▸ moves.splats_right
    ▸ moves.lane_bits_right
    ▸ moves.splat_bits_right
    ▸ moves.signed_lanes_right
    ▸ moves.extended_lanes_right
    ▸ vector.decided_right
    ▸ own_right ACCESS_BITS refl
    ▸ own_right ACCESS_WIDTHS refl
    ▸ own_right LOAD_SIGNS refl
    ▸ own_right STORE_SIGNS refl
    ▸ own_right ALIGNMENTS refl
    ▸ own_right CONSTANTS refl
    ▸ extension.extensions_right
    ▸ extension.extension_masks_right
    ▸ extension.extension_moves_right
    ▸ sign_test.sign_tests_right
    ▸ power_test.power_tests_right
    ▸ count.zero_counts_right
    ▸ half.halves_right
    ▸ undone.undone_right
    ▸ float_lane.orders_right
    ▸ float_lane.opposites_right
    ▸ float_lane.choices_right
    ▸ saturation.saturated_right
    ▸ lane_count.lane_counts_right
    ▸ narrowing.narrowed_right
    ▸ lane_conversion.lane_conversions_right
    ▸ conversion.conversions_right
    ▸ moves.replaced_bits_right
    ▸ moves.masked_lanes_right
    ▸ moves.unmasked_lanes_right
    ▸ swizzle.swizzles_right
    ▸ own_right WIDE_ACCESSES refl
    ▸ float_lane.bounds_right
    ▸ own_right CONTROL refl
    ▸ own_right CONSTANT_BITS refl
    ▸ further_right
    ▸ tt

-- all of them
rows_right : AtRows IsRight ROWS
unfolding parts exact_operator exact_row integer_row row_at table
rows_right =
    let floats = joins IsRight (joined (take 8 (drop 21 parts))) (joined (drop 29 parts)) float_rows_right (at_all IsRight (drop 29 parts) vector_rows_right) in
    joins IsRight (joined (take 21 parts)) (joined (drop 21 parts)) integer_rows_right floats

-- ---- by indices

at_width : (P : Line → Type 0) (w : Widths) (l : IntegerType → Line) → AtWidths P w l → (k : ℕ) (m : Line) → slice_get (map l (widths_in w)) k ≡ Some m → P m
at_width P Both l h zero m e = let is : l integer.I32 ≡ m = cc in subst P is (h integer.I32)
at_width P Both l h (suc zero) m e = let is : l integer.I64 ≡ m = cc in subst P is (h integer.I64)
at_width P Both l h (suc (suc k)) m e = absurd cc
at_width P (Only t) l h zero m e = let is : l t ≡ m = cc in subst P is h
at_width P (Only t) l h (suc k) m e = absurd cc
at_width P Any l h zero m e = let is : l integer.I32 ≡ m = cc in subst P is h
at_width P Any l h (suc k) m e = absurd cc
at_width P (Operands a b c) l h zero m e = let is : l (width_by a) ≡ m = cc in subst P is h
at_width P (Operands a b c) l h (suc k) m e = absurd cc
at_width P (Own o) l h k m e = absurd cc

at_row : (P : Line → Type 0) (rs : List Row) → AtRows P rs → (i : ℕ) (row : Row) → slice_get rs i ≡ Some row → AtWidths P row.widths (line_of row)
at_row P [] h i row e = absurd cc
at_row P (r ∷ rs) h zero row e =
    let is : r ≡ row = cc in
    subst (λ r. AtWidths P r.widths (line_of r)) is h.0
at_row P (r ∷ rs) h (suc i) row e = at_row P rs h.1 i row e

right_line : OfEachLine IsRight
right_line i row e = at_width IsRight row.widths (line_of row) (at_row IsRight ROWS rows_right i row e)

pub table_is_right : LinesKeepCode → TableIsRight
table_is_right keep = record {
  formed = formed_line;
  right = right_line;
  keeps = λ i row e k l f. keep l (formed_line i row e k l f) (right_line i row e k l f);
}
