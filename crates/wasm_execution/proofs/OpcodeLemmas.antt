-- The opcode of a row of the table, by the number of the row.
use Rattle.std.proofs.Common.{◌≡◌, ℕ, zero, suc, ◌+◌, ◌≤◌, Bool, true, false, List, [], ◌∷◌, length, Option, Some, None, refl, sym, ap, ◌∙◌, subst, arith}
use Rattle.std.specs.Prelude.{◌==◌, ◌≢◌, ◌&&◌, nat_lt, slice_get, if◌then◌else◌}
use Rattle.std.proofs.lemmas.Bool.{eqb-true, true≢false, ne_eqb, lt-ltb, le-ltb}
use Rattle.wasm_code.specs.Table.{table, row_at, opcode_in}
use Rattle.wasm_code.specs.declared.table.Row.{Row}
use Rattle.wasm_execution.specs.Row.{byte_of}

-- rows are numbered by their opcodes, ascending; the last row is the select with a written type
abbrev pub row_byte : ℕ → Option ℕ
row_byte n =
    if n == 0 then Some 0x01 else (if n == 1 then Some 0x10 else (if nat_lt n 4 then Some (n + 0x18) else
    (if nat_lt n 11 then Some (n + 0x1c) else (if nat_lt n 168 then Some (n + 0x1d) else (if nat_lt n 171 then Some (n + 0x28) else
    (if n == 445 then Some 0x1c else None))))))

same_byte : Option ℕ → Option ℕ → Bool
same_byte (Some a) (Some b) = a == b
same_byte None None = true
same_byte _ _ = false

same_byte_is : (o r : Option ℕ) → same_byte o r ≡ true → o ≡ r
unfolding same_byte
same_byte_is (Some a) (Some b) e = ap (λ n. Some n) (eqb-true a b e)
same_byte_is None None e = refl
same_byte_is (Some a) None e = absurd (true≢false (sym e))
same_byte_is None (Some b) e = absurd (true≢false (sym e))

all_bytes : ℕ → List Row → Bool
all_bytes n [] = true
all_bytes n (row ∷ rows) = same_byte (byte_of (Some row.opcode)) (row_byte n) && all_bytes (suc n) rows

table_bytes : all_bytes 0 table ≡ true
unfolding table all_bytes same_byte
table_bytes = refl

both : {a b : Bool} → (a && b) ≡ true → (a ≡ true) × (b ≡ true)
both {a = true} {b} e = (refl, e)
both {a = false} {b} e = absurd (true≢false (sym e))

byte_at : (rows : List Row) (from n : ℕ) (row : Row) → all_bytes from rows ≡ true → slice_get rows n ≡ Some row →
    byte_of (Some row.opcode) ≡ row_byte (from + n)
unfolding all_bytes
byte_at [] from n row h e = absurd cc
byte_at (r ∷ rows) from zero row h e =
    let is : r ≡ row = cc in
    subst (λ (x : Row). byte_of (Some x.opcode) ≡ row_byte (from + 0)) is
    (same_byte_is (byte_of (Some r.opcode)) (row_byte from) (both h).0 ∙ ap row_byte (let e : from ≡ from + 0 = omega arith in e))
byte_at (r ∷ rows) from (suc n) row h e = byte_at rows (suc from) n row (both h).1 e ∙ ap row_byte (let k : suc from + n ≡ from + suc n = omega arith in k)

-- there are no rows from 446 on
count : length table ≡ 446
unfolding table
count = refl

none_past : (n : ℕ) → 446 ≤ n → row_byte n ≡ None
none_past n l = rw (
  ne_eqb n 0 (λ e. absurd (omega arith)),
  ne_eqb n 1 (λ e. absurd (omega arith)),
  le-ltb n 4 (omega arith),
  le-ltb n 11 (omega arith),
  le-ltb n 168 (omega arith),
  le-ltb n 171 (omega arith),
  ne_eqb n 445 (λ e. absurd (omega arith)),
) refl

past_end : (rows : List Row) (n : ℕ) → slice_get rows n ≡ None → length rows ≤ n
past_end [] n e = omega arith
past_end (r ∷ rows) zero e = absurd cc
past_end (r ∷ rows) (suc n) e = let l = past_end rows n e in omega arith

row_opcode : (n : ℕ) → byte_of (opcode_in (row_at n)) ≡ row_byte n
unfolding row_at
row_opcode n = go (slice_get table n) refl
  where
    go : (o : Option Row) → slice_get table n ≡ o → byte_of (opcode_in o) ≡ row_byte n
    go (Some row) e = byte_at table 0 n row table_bytes e ∙ ap row_byte (let k : 0 + n ≡ n = omega arith in k)
    go None e = sym (none_past n (subst (λ k. k ≤ n) count (past_end table n e)))

-- ---- the tests of a row's number

pub byte_is : (n row : ℕ) (o : Option ℕ) → n ≡ row → row_byte n ≡ o → o ≡ byte_of (opcode_in (row_at row))
byte_is n row o e f = sym f ∙ (sym (row_opcode n) ∙ ap (λ k. byte_of (opcode_in (row_at k))) e)

pub from_2 : (n : ℕ) → 2 ≤ n → n ≤ 3 → row_byte n ≡ Some (n + 0x18)
from_2 n l m = rw (ne_eqb n 0 (λ e. absurd (omega arith)), ne_eqb n 1 (λ e. absurd (omega arith)), lt-ltb n 4 (omega arith)) refl

pub from_4 : (n : ℕ) → 4 ≤ n → n ≤ 10 → row_byte n ≡ Some (n + 0x1c)
from_4 n l m = rw (
  ne_eqb n 0 (λ e. absurd (omega arith)),
  ne_eqb n 1 (λ e. absurd (omega arith)),
  le-ltb n 4 (omega arith),
  lt-ltb n 11 (omega arith),
) refl

pub from_11 : (n : ℕ) → 11 ≤ n → n ≤ 167 → row_byte n ≡ Some (n + 0x1d)
from_11 n l m = rw (
  ne_eqb n 0 (λ e. absurd (omega arith)),
  ne_eqb n 1 (λ e. absurd (omega arith)),
  le-ltb n 4 (omega arith),
  le-ltb n 11 (omega arith),
  lt-ltb n 168 (omega arith),
) refl

pub from_168 : (n : ℕ) → 168 ≤ n → n ≤ 170 → row_byte n ≡ Some (n + 0x28)
from_168 n l m = rw (
  ne_eqb n 0 (λ e. absurd (omega arith)),
  ne_eqb n 1 (λ e. absurd (omega arith)),
  le-ltb n 4 (omega arith),
  le-ltb n 11 (omega arith),
  le-ltb n 168 (omega arith),
  lt-ltb n 171 (omega arith),
) refl

pub from_171 : (n : ℕ) → 171 ≤ n → n ≢ 445 → row_byte n ≡ None
from_171 n l d = rw (
  ne_eqb n 0 (λ e. absurd (omega arith)),
  ne_eqb n 1 (λ e. absurd (omega arith)),
  le-ltb n 4 (omega arith),
  le-ltb n 11 (omega arith),
  le-ltb n 168 (omega arith),
  le-ltb n 171 (omega arith),
  ne_eqb n 445 d,
) refl
