-- The accesses that are listed are well formed.
use Rattle.std.proofs.Common.{◌≡◌, ℕ, ℤ, pos, ◌++◌, Bool, true, false, List, [], ◌∷◌, Option, Some, None, refl, sym, subst, ◌∙◌, arith}
use Rattle.std.specs.Prelude.{◌==◌, ◌&&◌, nat_lt, nat_le, map, if◌then◌else◌}
use Rattle.std.specs.List.{All}
use Rattle.std.proofs.lemmas.Bool.{and_parts, leb-true}
use Rattle.std.proofs.lemmas.Option.{same_Some, slice_get-map}
use Rattle.std.proofs.lemmas.List.Elements.{All-head, All-tail, All-nil, All-cons, All-append}
use Rattle.wasm_code.specs.Instruction.{Instruction, is_of_kind, fits_row}
use Rattle.wasm_code.specs.Table.{table, row_at}
use Rattle.wasm_code.specs.declared.immediate.Imm.{Imm}
use Rattle.wasm_code.specs.declared.immediate.Imm.TheVariants as imm
use Rattle.wasm_code.specs.declared.immediate.MemArg.{MemArg}
use Rattle.wasm_code.specs.declared.table.Kind.{Kind}
use Rattle.wasm_code.specs.declared.table.Kind.TheVariants as kind
use Rattle.wasm_code.specs.declared.table.Row as instruction
use Rattle.wasm_execution.specs.ExactRow.{find}
use Rattle.wasm_execution.specs.declared.integer.IntegerType.{IntegerType}
use Rattle.wasm_execution.specs.declared.integer.IntegerType.TheVariants.{I32, I64}
use Rattle.rewrite_rules.specs.declared.pattern.Operator.{Operator}
use Rattle.rewrite_rules.specs.declared.pattern.Operator.TheVariants.{Whole, Select, Exact}
use Rattle.rewrite_rules.specs.declared.access.AccessKind.{AccessKind}
use Rattle.rewrite_rules.specs.declared.access.AccessKind.TheVariants.{Load, Store, Constant}
use Rattle.rewrite_rules.specs.declared.access.AccessSide.{AccessSide}
use Rattle.rewrite_rules.specs.declared.access.Access.{Access}
use Rattle.rewrite_rules.specs.declared.access.Conversion.{Conversion}
use Rattle.rewrite_rules.specs.declared.access.Conversion.TheVariants.{Nothing, By, With}
use Rattle.rewrite_rules.specs.declared.access.TheConstants.{ACCESSES}
use Rattle.rewrite_rules.specs.Instance.{constant_code, operator_code, row_number, immediate_of}
use Rattle.rewrite_rules.specs.Access.{access_in, code_with, conversion_code, side_code, realigned, other_bits, written_by, natural_alignments}
use Rattle.rewrite_rules.specs.Access.{IsAtMost, IsAlignedBy, IsAligned, IsOfRow, IsFormedConversion, IsFormedAccess, AccessesAreFormed}
use Rattle.rewrite_rules.proofs.PassLemmas.{passes, passes_at}

-- ---- the alignment that is written

abbrev pub align_written : Option ℕ → ℕ → ℕ
align_written None align = align
align_written (Some e) align = e

-- What is written differs in its alignment alone.
pub record IsRealigned (o : Option ℕ) (i k : Imm) : Type 0 where
  pub argument : MemArg
  pub is : imm.Mem argument ≡ i
  pub its : imm.Mem (record argument { align = align_written o argument.align }) ≡ k

pub realigned_is : (o : Option ℕ) (i k : Imm) → realigned o i ≡ Some k → IsRealigned o i k
realigned_is None (imm.Mem m) k e = record { argument = m; is = refl; its = same_Some (imm.Mem m) k e }
realigned_is (Some align) (imm.Mem m) k e = go (align == m.align) e
  where
    go : (b : Bool) → (if b then None else Some (imm.Mem (record m { align = align }))) ≡ Some k → IsRealigned (Some align) (imm.Mem m) k
    go true e = absurd cc
    go false e = record { argument = m; is = refl; its = same_Some (imm.Mem (record m { align = align })) k e }
realigned_is o i k e = absurd cc

-- ---- rows that take memory arguments

least : MemArg
least = record { offset = 0; align = 0; memory = 0 }

abbrev takes : Option instruction.Row → Bool
takes row = fits_row row (imm.Mem least)

fits_as : (row : Option instruction.Row) (m : MemArg) → takes row ≡ true → fits_row row (imm.Mem m) ≡ nat_lt m.align 64
unfolding least
fits_as None m e = absurd cc
fits_as (Some row) m e = go row.kind e
  where
    go : (k : Kind) → is_of_kind k (imm.Mem least) ≡ true → is_of_kind k (imm.Mem m) ≡ nat_lt m.align 64
    go kind.Mem e = refl
    go k e = absurd cc

-- the exponent that is written, where one is told, is below 64
abbrev stays_small : Option ℕ → Bool
stays_small None = true
stays_small (Some e) = nat_lt e 64

still_small : (align : Option ℕ) (a : ℕ) → stays_small align ≡ true → nat_lt a 64 ≡ true → nat_lt (align_written align a) 64 ≡ true
still_small None a s l = l
still_small (Some e) a s l = s

-- ---- natural alignments

-- what is written is aligned by the right one where what stands there is by the left one
abbrev stays_aligned : (align left right : Option ℕ) → Bool
stays_aligned None (Some n) (Some k) = nat_le n k
stays_aligned (Some e) left (Some k) = nat_le e k
stays_aligned align left right = false

still_aligned : (align left right : Option ℕ) (a : ℕ) → stays_aligned align left right ≡ true → IsAtMost a left → IsAtMost (align_written align a) right
still_aligned None (Some n) (Some k) a s l = let h = leb-true n k s in omega arith
still_aligned None (Some n) None a s l = tt
still_aligned None None right a s l = absurd cc
still_aligned (Some e) left (Some k) a s l = leb-true e k s
still_aligned (Some e) left None a s l = tt

-- ---- both sides

abbrev formed_operators : Conversion → Bool
formed_operators Nothing = true
formed_operators (By o) = fits_row (row_at (row_number o)) (immediate_of o)
formed_operators (With t n o) = fits_row (row_at (row_number o)) (immediate_of o)

operators_are_formed : (c : Conversion) → formed_operators c ≡ true → IsFormedConversion c
operators_are_formed Nothing e = tt
operators_are_formed (By o) e = e
operators_are_formed (With t n o) e = e

operator_aligned : (o : Operator) → IsAligned (operator_code o)
operator_aligned (Whole f) = tt
operator_aligned Select = tt
operator_aligned (Exact row None) = tt
operator_aligned (Exact row (Some lane)) = tt

constant_aligned : (t : IntegerType) (n : ℕ) → IsAligned (constant_code t n)
constant_aligned I32 n = tt
constant_aligned I64 n = tt

alone_aligned : (o : Operator) → All IsAligned (operator_code o ∷ [])
alone_aligned o = All-cons IsAligned (operator_code o) [] (operator_aligned o) (All-nil IsAligned)

conversion_aligned : (c : Conversion) → All IsAligned (conversion_code c)
conversion_aligned Nothing = All-nil IsAligned
conversion_aligned (By o) = alone_aligned o
conversion_aligned (With t n o) = All-cons IsAligned (constant_code t n) (operator_code o ∷ []) (constant_aligned t n) (alone_aligned o)

last_aligned : (is : List Instruction) (i : Instruction) → All IsAligned (is ++ i ∷ []) → IsAligned i
last_aligned [] i h = All-head IsAligned i [] h
last_aligned (j ∷ is) i h = last_aligned is i (All-tail IsAligned j (is ++ i ∷ []) h)

first_aligned : (k : AccessKind) (side : AccessSide) (i : Imm) → All IsAligned (side_code k side i) → IsAligned (code_with side.row i)
first_aligned Load side i h = All-head IsAligned (code_with side.row i) (conversion_code side.conversion) h
first_aligned Store side i h = last_aligned (conversion_code side.conversion) (code_with side.row i) h
first_aligned Constant side i h = All-head IsAligned (code_with side.row i) (conversion_code side.conversion) h

side_aligned : (k : AccessKind) (side : AccessSide) (i : Imm) → IsAligned (code_with side.row i) → All IsAligned (side_code k side i)
side_aligned Load side i h = All-cons IsAligned _ _ h (conversion_aligned side.conversion)
side_aligned Store side i h =
    All-append IsAligned (conversion_code side.conversion) (code_with side.row i ∷ []) (conversion_aligned side.conversion)
    (All-cons IsAligned _ [] h (All-nil IsAligned))
side_aligned Constant side i h = All-cons IsAligned _ _ h (conversion_aligned side.conversion)

-- ---- constants

-- the right row takes the constant that is written where the left one takes one of that kind
abbrev other_fits : Kind → Option instruction.Row → Bool
other_fits kind.F32 row = fits_row row (imm.I32 (pos 0))
other_fits kind.F64 row = fits_row row (imm.I64 (pos 0))
other_fits kind.I32 row = fits_row row (imm.F32 0)
other_fits kind.I64 row = fits_row row (imm.F64 0)
other_fits kind.V128 row = fits_row row (imm.V128 (pos 0))
other_fits k row = false

abbrev constants_fit : (left right : Option instruction.Row) → Bool
constants_fit None right = false
constants_fit (Some row) right = other_fits row.kind right

i32_fits : (row : Option instruction.Row) (z : ℤ) → fits_row row (imm.I32 (pos 0)) ≡ true → fits_row row (imm.I32 z) ≡ true
i32_fits None z e = absurd cc
i32_fits (Some row) z e = go row.kind e
  where
    go : (k : Kind) → is_of_kind k (imm.I32 (pos 0)) ≡ true → is_of_kind k (imm.I32 z) ≡ true
    go kind.I32 e = refl
    go k e = absurd cc

i64_fits : (row : Option instruction.Row) (z : ℤ) → fits_row row (imm.I64 (pos 0)) ≡ true → fits_row row (imm.I64 z) ≡ true
i64_fits None z e = absurd cc
i64_fits (Some row) z e = go row.kind e
  where
    go : (k : Kind) → is_of_kind k (imm.I64 (pos 0)) ≡ true → is_of_kind k (imm.I64 z) ≡ true
    go kind.I64 e = refl
    go k e = absurd cc

f32_fits : (row : Option instruction.Row) (n : ℕ) → fits_row row (imm.F32 0) ≡ true → fits_row row (imm.F32 n) ≡ true
f32_fits None n e = absurd cc
f32_fits (Some row) n e = go row.kind e
  where
    go : (k : Kind) → is_of_kind k (imm.F32 0) ≡ true → is_of_kind k (imm.F32 n) ≡ true
    go kind.F32 e = refl
    go k e = absurd cc

f64_fits : (row : Option instruction.Row) (n : ℕ) → fits_row row (imm.F64 0) ≡ true → fits_row row (imm.F64 n) ≡ true
f64_fits None n e = absurd cc
f64_fits (Some row) n e = go row.kind e
  where
    go : (k : Kind) → is_of_kind k (imm.F64 0) ≡ true → is_of_kind k (imm.F64 n) ≡ true
    go kind.F64 e = refl
    go k e = absurd cc

v128_fits : (row : Option instruction.Row) (z : ℤ) → fits_row row (imm.V128 (pos 0)) ≡ true → fits_row row (imm.V128 z) ≡ true
v128_fits None z e = absurd cc
v128_fits (Some row) z e = go row.kind e
  where
    go : (k : Kind) → is_of_kind k (imm.V128 (pos 0)) ≡ true → is_of_kind k (imm.V128 z) ≡ true
    go kind.V128 e = refl
    go k e = absurd cc

other_is_fit : (k : Kind) (row : Option instruction.Row) (i j : Imm) → other_fits k row ≡ true → is_of_kind k i ≡ true → other_bits i ≡ Some j →
    fits_row row j ≡ true
other_is_fit kind.F32 row (imm.F32 n) j e f w = subst (λ (x : Imm). fits_row row x ≡ true) (same_Some _ j w) (i32_fits row _ e)
other_is_fit kind.F64 row (imm.F64 n) j e f w = subst (λ (x : Imm). fits_row row x ≡ true) (same_Some _ j w) (i64_fits row _ e)
other_is_fit kind.I32 row (imm.I32 z) j e f w = subst (λ (x : Imm). fits_row row x ≡ true) (same_Some _ j w) (f32_fits row _ e)
other_is_fit kind.I64 row (imm.I64 z) j e f w = subst (λ (x : Imm). fits_row row x ≡ true) (same_Some _ j w) (f64_fits row _ e)
other_is_fit kind.V128 row (imm.V128 z) j e f w = subst (λ (x : Imm). fits_row row x ≡ true) (same_Some _ j w) (v128_fits row _ e)
other_is_fit k row i j e f w = absurd cc

constant_fits : (left right : Option instruction.Row) (i j : Imm) → constants_fit left right ≡ true → fits_row left i ≡ true → other_bits i ≡ Some j →
    fits_row right j ≡ true
constant_fits None right i j e f w = absurd cc
constant_fits (Some row) right i j e f w = other_is_fit row.kind right i j e f w

-- no constant has an alignment
other_aligned : (row : ℕ) (i j : Imm) → other_bits i ≡ Some j → IsAlignedBy row j
other_aligned row (imm.F32 n) j w = subst (IsAlignedBy row) (same_Some _ j w) tt
other_aligned row (imm.F64 n) j w = subst (IsAlignedBy row) (same_Some _ j w) tt
other_aligned row (imm.I32 z) j w = subst (IsAlignedBy row) (same_Some _ j w) tt
other_aligned row (imm.I64 z) j w = subst (IsAlignedBy row) (same_Some _ j w) tt
other_aligned row (imm.V128 z) j w = subst (IsAlignedBy row) (same_Some _ j w) tt
other_aligned row i j w = absurd cc

-- ---- an access

-- of loads and stores
abbrev memory_formed : Option ℕ → (left right : ℕ) → Bool
memory_formed align left right =
    takes (row_at left)
    && (takes (row_at right) && (stays_small align && stays_aligned align (find natural_alignments left) (find natural_alignments right)))

abbrev formed_rows : AccessKind → Option ℕ → (left right : ℕ) → Bool
formed_rows Load align left right = memory_formed align left right
formed_rows Store align left right = memory_formed align left right
formed_rows Constant align left right = constants_fit (row_at left) (row_at right)

-- what is written is of the right row, and aligned, where what stands there is of the left one
record Stays (left right : ℕ) (i k : Imm) : Type 0 where
  row : IsOfRow left i → IsOfRow right k
  aligned : IsAlignedBy left i → IsAlignedBy right k

memory_stays : (align : Option ℕ) (left right : ℕ) (i k : Imm) → memory_formed align left right ≡ true → realigned align i ≡ Some k → Stays left right i k
memory_stays align left right i k e w =
    let (takes_left, one) = and_parts _ _ e in
    let (takes_right, two) = and_parts _ _ one in
    let (small, aligned) = and_parts _ _ two in
    let r = realigned_is align i k w in
    let m = r.argument in
    let n = record m { align = align_written align m.align } in
    subst (λ (x : Imm). Stays left right x k) r.is
    (subst (λ (x : Imm). Stays left right (imm.Mem m) x) r.its (record {
      row = λ h. fits_as (row_at right) n takes_right ∙ still_small align m.align small (sym (fits_as (row_at left) m takes_left) ∙ h);
      aligned = λ h. still_aligned align (find natural_alignments left) (find natural_alignments right) m.align aligned h;
    }))

stays : (kind : AccessKind) (align : Option ℕ) (left right : ℕ) (i k : Imm) → formed_rows kind align left right ≡ true → written_by kind align i ≡ Some k →
    Stays left right i k
stays Load align left right i k e w = memory_stays align left right i k e w
stays Store align left right i k e w = memory_stays align left right i k e w
stays Constant align left right i k e w =
    record { row = λ h. constant_fits (row_at left) (row_at right) i k e h w; aligned = λ h. other_aligned right i k w }

abbrev is_formed_access : Access → Bool
is_formed_access a =
    formed_rows a.kind a.align a.left.row a.right.row && (formed_operators a.left.conversion && formed_operators a.right.conversion)

formed : (a : Access) → is_formed_access a ≡ true → IsFormedAccess a
formed a e =
    let (rows, operators) = and_parts _ _ e in
    let (left, right) = and_parts _ _ operators in
    record {
      right_row = λ i k w h. (stays a.kind a.align a.left.row a.right.row i k rows w).row h;
      left_operators = operators_are_formed a.left.conversion left;
      right_operators = operators_are_formed a.right.conversion right;
      aligned = λ i k w h.
          side_aligned a.kind a.right k ((stays a.kind a.align a.left.row a.right.row i k rows w).aligned (first_aligned a.kind a.left i h));
    }

-- ---- all of them

all_formed : passes is_formed_access (map access_in ACCESSES) ≡ true
unfolding least row_at table
all_formed = refl

pub accesses_are_formed : AccessesAreFormed
accesses_are_formed n a e = formed a (passes_at is_formed_access (map access_in ACCESSES) all_formed n a (slice_get-map access_in ACCESSES n ∙ e))
