-- Instructions with an immediate as other ones: loads and stores as those of as many bytes, with an operator behind the load or before the store, and
-- constants of floats by their bits, and of vectors by their complements
-- (WebAssembly Core Specification 3.0, Validation, Memory Instructions, and Execution, Memory Instructions and Numeric Instructions; which these are: this
-- project).
use Rattle.std.specs.Prelude.{◌≡◌, ◌==◌, ℕ, ◌≤◌, nat_lt, bit_xor, Bool, true, false, List, [], ◌∷◌, ◌++◌, ⊤, Option, Some, None, option_map}
use Rattle.std.specs.Prelude.{slice_get, if◌then◌else◌}
use Rattle.std.specs.Int.{w32, w64, w128, cast_signed, cast_unsigned}
use Rattle.std.specs.List.{All}
use Rattle.wasm_code.specs.Instruction.{Instruction, fits_row}
use Rattle.wasm_code.specs.Table.{row_at}
use Rattle.wasm_code.specs.declared.immediate.Imm.{Imm}
use Rattle.wasm_code.specs.declared.immediate.Imm.TheVariants as imm
use Rattle.wasm_execution.specs.ExactRow.{find, ones}
use Rattle.rewrite_rules.specs.declared.access.AccessKind.{AccessKind}
use Rattle.rewrite_rules.specs.declared.access.AccessKind.TheVariants.{Load, Store, Constant}
use Rattle.rewrite_rules.specs.declared.access.AccessSide.{AccessSide}
use Rattle.rewrite_rules.specs.declared.access.Access.{Access}
use Rattle.rewrite_rules.specs.declared.access.Conversion.{Conversion}
use Rattle.rewrite_rules.specs.declared.access.Conversion.TheVariants.{Nothing, By, With}
use Rattle.rewrite_rules.specs.declared.access.TheConstants.{ACCESSES}
use Rattle.rewrite_rules.specs.declared.growth.Growth as code
use Rattle.rewrite_rules.specs.declared.growth.Growth.TheVariants.{Shrinks, Keeps, Grows}
use Rattle.rewrite_rules.specs.declared.table.Own as beside
use Rattle.rewrite_rules.specs.declared.table.Own.TheVariants as own
use Rattle.rewrite_rules.specs.Instance.{constant_code, row_number, immediate_of, operator_code}

-- ---- the list

-- a line of it
abbrev pub AccessLine : Type 0
AccessLine = AccessKind × (ℕ × Conversion) × (ℕ × Conversion) × Option ℕ

-- what it says
abbrev pub access_in : AccessLine → Access
access_in l = record {
  kind = l.0;
  left = record { row = l.1.0; conversion = l.1.1 };
  right = record { row = l.2.0; conversion = l.2.1 };
  align = l.3;
}

-- that with the number
abbrev pub access_at : ℕ → Option Access
access_at n = option_map access_in (slice_get ACCESSES n)

-- ---- code

-- the instruction of a row of the instruction table, with that immediate
abbrev pub code_with : (row : ℕ) → Imm → Instruction
code_with row i = record { row = row; imm = i }

abbrev pub conversion_code : Conversion → List Instruction
conversion_code Nothing = []
conversion_code (By o) = operator_code o ∷ []
conversion_code (With t n o) = constant_code t n ∷ operator_code o ∷ []

-- a load or a constant, and what is done with the value behind it; or what is done with the value, and a store
abbrev pub side_code : AccessKind → AccessSide → Imm → List Instruction
side_code Load side i = code_with side.row i ∷ conversion_code side.conversion
side_code Store side i = conversion_code side.conversion ++ code_with side.row i ∷ []
side_code Constant side i = code_with side.row i ∷ conversion_code side.conversion

abbrev pub left_code : Access → Imm → List Instruction
left_code a i = side_code a.kind a.left i

abbrev pub right_code : Access → Imm → List Instruction
right_code a i = side_code a.kind a.right i

-- ---- immediates

-- a memory argument with that alignment, or the same where none is told; none where the same alignment stands there
abbrev pub realigned : Option ℕ → Imm → Option Imm
realigned None (imm.Mem m) = Some (imm.Mem m)
realigned (Some align) (imm.Mem m) = if align == m.align then None else Some (imm.Mem (record m { align = align }))
realigned align i = None

-- the constant of the other type with the same bits; of a vector, the one with the other bits
abbrev pub other_bits : Imm → Option Imm
other_bits (imm.F32 n) = Some (imm.I32 (cast_signed w32 n))
other_bits (imm.F64 n) = Some (imm.I64 (cast_signed w64 n))
other_bits (imm.I32 z) = Some (imm.F32 (cast_unsigned w32 z))
other_bits (imm.I64 z) = Some (imm.F64 (cast_unsigned w64 z))
other_bits (imm.V128 z) = Some (imm.V128 (cast_signed w128 (bit_xor (cast_unsigned w128 z) ones)))
other_bits i = None

abbrev pub written_by : AccessKind → Option ℕ → Imm → Option Imm
written_by Load align i = realigned align i
written_by Store align i = realigned align i
written_by Constant align i = other_bits i

-- the immediate that is written where this one stands
abbrev pub written_imm : Access → Imm → Option Imm
written_imm a i = written_by a.kind a.align i

-- ---- size

abbrev pub conversion_size : Conversion → ℕ
conversion_size Nothing = 0
conversion_size (By o) = 1
conversion_size (With t n o) = 2

abbrev pub access_growth : Access → code.Growth
access_growth a =
    let left = conversion_size a.left.conversion in
    let right = conversion_size a.right.conversion in
    if nat_lt right left then Shrinks else (if right == left then Keeps else Grows)

-- ---- what is written is well formed

-- The natural alignment of each load or store that is in an access, by its row, as the exponent of how many bytes it reads or writes.
abbrev pub natural_alignments : List (ℕ × ℕ)
natural_alignments =
    (11, 2) ∷ (12, 3) ∷ (13, 2) ∷ (14, 3) ∷ (15, 0) ∷ (16, 0) ∷ (17, 1) ∷ (18, 1) ∷ (19, 0) ∷ (20, 0) ∷ (21, 1) ∷ (22, 1) ∷ (23, 2) ∷ (24, 2)
    ∷ (25, 2) ∷ (26, 3) ∷ (27, 2) ∷ (28, 3) ∷ (29, 0) ∷ (30, 1) ∷ (31, 0) ∷ (32, 1) ∷ (33, 2)
    ∷ (189, 4) ∷ (196, 0) ∷ (197, 1) ∷ (198, 2) ∷ (199, 3) ∷ (200, 4) ∷ (281, 2) ∷ (282, 3) ∷ []

-- its alignment is at most the natural one
abbrev pub IsAtMost : ℕ → Option ℕ → Type 0
IsAtMost align (Some natural) = align ≤ natural
IsAtMost align None = ⊤

abbrev pub IsAlignedBy : (row : ℕ) → Imm → Type 0
IsAlignedBy row (imm.Mem m) = IsAtMost m.align (find natural_alignments row)
IsAlignedBy row i = ⊤

abbrev pub IsAligned : Instruction → Type 0
IsAligned i = IsAlignedBy i.row i.imm

-- the operators of a conversion are instructions of the standard
abbrev pub IsOfRow : ℕ → Imm → Type 0
IsOfRow row i = fits_row (row_at row) i ≡ true

abbrev pub IsFormedConversion : Conversion → Type 0
IsFormedConversion Nothing = ⊤
IsFormedConversion (By o) = IsOfRow (row_number o) (immediate_of o)
IsFormedConversion (With t n o) = IsOfRow (row_number o) (immediate_of o)

-- What is written is an instruction of the standard where what stands there is one, so are the operators, and its alignment is at most natural where that is.
pub record IsFormedAccess (a : Access) : Type 0 where
  pub right_row : (i k : Imm) → written_imm a i ≡ Some k → IsOfRow a.left.row i → IsOfRow a.right.row k
  pub left_operators : IsFormedConversion a.left.conversion
  pub right_operators : IsFormedConversion a.right.conversion
  pub aligned : (i k : Imm) → written_imm a i ≡ Some k → All IsAligned (left_code a i) → All IsAligned (right_code a k)

-- So are all that are listed.
abbrev pub AccessesAreFormed : Type 0
AccessesAreFormed = (n : ℕ) (a : Access) → access_at n ≡ Some a → IsFormedAccess a

-- ---- rules beside the table

-- it does as before only where what runs the module is exact
abbrev pub own_needs_exact : beside.Own → Bool
own_needs_exact (own.Access n) = true
own_needs_exact o = false
