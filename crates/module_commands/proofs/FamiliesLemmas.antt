-- The family of an instruction, by its opcode of one byte, or by its row.
use Rattle.std.proofs.Common.{◌≡◌, ℕ, zero, suc, ◌+◌, ◌&&◌, Bool, true, false, List, [], ◌∷◌, Option, Some, None, refl, sym, ap, ap₂, ◌∙◌, arith}
use Rattle.std.specs.Prelude.{◌==◌, IsTrue, is_some, option_map, slice_get, if◌then◌else◌}
use Rattle.std.proofs.lemmas.Bool.{and_parts, eqb-true, false≢true}
use Rattle.wasm_code.specs.declared.immediate.Imm.{Imm}
use Rattle.wasm_code.specs.declared.table.Opcode.{Opcode}
use Rattle.wasm_code.specs.declared.table.Opcode.TheVariants.{Byte, Fc, Fd}
use Rattle.wasm_code.specs.declared.table.Row.{Row}
use Rattle.wasm_code.specs.Instruction.{Instruction, IsInstruction, fits_row}
use Rattle.wasm_code.specs.Table.{table, row_at, opcode_in}
use Rattle.wasm_execution.specs.Row.{byte_of}
use Rattle.module_commands.specs.Families.{byte_family, has_place, instruction_family, opcode_family, row_family}
use Rattle.module_commands.specs.declared.families.Family.{Family}
use Rattle.module_commands.specs.declared.families.Family.TheVariants.{Integers, Floats, Vectors, Accesses}

some_map : {A B : Type 0} (f : A → B) (o : Option A) → is_some (option_map f o) ≡ is_some o
some_map f None = refl
some_map f (Some x) = refl

-- there is one where there is one of the same
pub some_alike : {A B : Type 0} (f : A → B) (o : Option A) (found : Option B) → option_map f o ≡ found → is_some o ≡ is_some found
some_alike f o found is = sym (some_map f o) ∙ ap is_some is

-- an instruction whose immediate has no place is of the family that its opcode tells
pub no_place : (i : Instruction) (imm : Imm) (found : Bool) → imm ≡ i.imm → found ≡ has_place imm → found ≡ false →
    opcode_family (opcode_in (row_at i.row)) ≡ instruction_family i
no_place i imm found imm_is is off =
    ap (λ b. if b then Some Accesses else opcode_family (opcode_in (row_at i.row))) (sym off ∙ (is ∙ ap has_place imm_is))

pub by_byte : (o : Option Opcode) (byte : ℕ) → byte_of o ≡ Some byte → byte_family byte ≡ opcode_family o
by_byte None byte e = absurd cc
by_byte (Some (Byte b)) byte e = let same : byte ≡ b = cc in ap byte_family same
by_byte (Some (Fc n)) byte e = absurd cc
by_byte (Some (Fd n)) byte e = absurd cc

-- ---- by the row

-- a number for each family, and one where there is none
number_of : Option Family → ℕ
number_of None = 0
number_of (Some Integers) = 1
number_of (Some Floats) = 2
number_of (Some Vectors) = 3
number_of (Some Accesses) = 4

with_number : ℕ → Option Family
with_number n =
    if n == 0 then None else (if n == 1 then Some Integers else (if n == 2 then Some Floats else (if n == 3 then Some Vectors else Some Accesses)))

numbered : (o : Option Family) → with_number (number_of o) ≡ o
unfolding number_of with_number
numbered None = refl
numbered (Some Integers) = refl
numbered (Some Floats) = refl
numbered (Some Vectors) = refl
numbered (Some Accesses) = refl

same_number : (o p : Option Family) → (number_of o == number_of p) ≡ true → o ≡ p
same_number o p e = sym (numbered o) ∙ (ap with_number (eqb-true (number_of o) (number_of p) e) ∙ numbered p)

-- rows whose opcodes are more than one byte are of the families that their numbers tell
agrees : Opcode → (row : ℕ) → Bool
agrees (Byte byte) row = true
agrees (Fc n) row = number_of (row_family row) == number_of (opcode_family (Some (Fc n)))
agrees (Fd n) row = number_of (row_family row) == number_of (opcode_family (Some (Fd n)))

all_agree : ℕ → List Row → Bool
all_agree n [] = true
all_agree n (row ∷ rows) = agrees row.opcode n && all_agree (suc n) rows

table_agrees : all_agree 0 table ≡ true
unfolding table all_agree agrees number_of
table_agrees = refl

agrees_at : (rows : List Row) (from n : ℕ) (row : Row) → all_agree from rows ≡ true → slice_get rows n ≡ Some row → agrees row.opcode (from + n) ≡ true
unfolding all_agree
agrees_at [] from n row h e = absurd cc
agrees_at (r ∷ rows) from zero row h e =
    let is : r ≡ row = cc in
    let same : from ≡ from + 0 = omega arith in
    ap₂ (λ (x : Row) k. agrees x.opcode k) (sym is) (sym same) ∙ (and_parts (agrees r.opcode from) (all_agree (suc from) rows) h).0
agrees_at (r ∷ rows) from (suc n) row h e =
    let same : suc from + n ≡ from + suc n = omega arith in
    ap (agrees row.opcode) (sym same) ∙ agrees_at rows (suc from) n row (and_parts (agrees r.opcode from) (all_agree (suc from) rows) h).1 e

prefixed : (o : Opcode) (row : ℕ) → byte_of (Some o) ≡ None → agrees o row ≡ true → row_family row ≡ opcode_family (Some o)
unfolding agrees
prefixed (Byte byte) row none h = absurd cc
prefixed (Fc n) row none h = same_number (row_family row) (opcode_family (Some (Fc n))) h
prefixed (Fd n) row none h = same_number (row_family row) (opcode_family (Some (Fd n))) h

pub by_row : (i : Instruction) → IsInstruction i → byte_of (opcode_in (row_at i.row)) ≡ None → row_family i.row ≡ opcode_family (opcode_in (row_at i.row))
unfolding row_at
by_row i is none = go (slice_get table i.row) refl is.kind none
  where
    go : (o : Option Row) → slice_get table i.row ≡ o → IsTrue (fits_row o i.imm) → byte_of (opcode_in o) ≡ None →
        row_family i.row ≡ opcode_family (opcode_in o)
    go None e fits none = absurd (false≢true fits)
    go (Some row) e fits none =
        prefixed row.opcode i.row none (ap (agrees row.opcode) (let same : i.row ≡ 0 + i.row = omega arith in same)
        ∙ agrees_at table 0 i.row row table_agrees e)
