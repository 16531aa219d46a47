-- The code's rows are the table's, and the dense tables are the rows' opcodes, turned round: by computation over the rows and over the cells.
use Rattle.std.proofs.Common.{◌≡◌, ℕ, zero, suc, ◌+◌, ◌^◌, ◌<◌, Bool, true, false, cond, eqb, ltb, List, [], ◌∷◌, length, Option, Some}
use Rattle.std.proofs.Common.{None, refl, sym, ap, subst, ◌∙◌, arith}
use Rattle.std.specs.Prelude.{slice_get, IfSome}
use Rattle.std.proofs.lemmas.Bool.{eqb-true, eqb-false, eq-eqb, ltb-true}
use Rattle.std.proofs.lemmas.Option.{same_Some, some_pair_parts, slice_get_within}
use Rattle.wasm_code.specs.declared.table.Opcode.{Opcode}
use Rattle.wasm_code.specs.declared.table.Opcode.TheVariants.{Byte, Fc, Fd}
use Rattle.wasm_code.specs.declared.table.Kind.{Kind}
use Rattle.wasm_code.specs.declared.table.Kind.TheVariants as kind
use Rattle.wasm_code.specs.declared.table.ResultKind.TheVariants as results
use Rattle.wasm_code.specs.declared.table.Row.{Row}
use Rattle.wasm_code.specs.declared.rows.TheConstants.{ROWS}
use Rattle.wasm_code.specs.declared.dense.TheConstants.{BYTE_ROWS, FC_ROWS, FD_ROWS}
use Rattle.wasm_code.specs.Table.{table, row_at, opcode_in, HasOpcode}
use Rattle.wasm_code.specs.Finding.{same_opcode, first_with, row_with}
use Rattle.wasm_code.specs.Dense.{cell_in, cell, dense_row}

-- the code's rows are the table's
pub same_rows : ROWS ≡ table
unfolding table
same_rows = refl

pub at_rows : (n : ℕ) → row_at n ≡ slice_get ROWS n
unfolding row_at
at_rows n = ap (λ (rows : List Row). slice_get rows n) (sym same_rows)

both : {a b : Bool} → cond a b false ≡ true → (a ≡ true) × (b ≡ true)
both {a = true} {b} e = (refl, e)
both {a = false} {b} e = absurd cc

-- ---- each row is found from its opcode

is_number : Option ℕ → ℕ → Bool
is_number None r = false
is_number (Some n) r = eqb n r

is_number-true : (o : Option ℕ) (r : ℕ) → is_number o r ≡ true → o ≡ Some r
unfolding is_number
is_number-true None r e = absurd cc
is_number-true (Some n) r e = ap (λ (m : ℕ). Some m) (eqb-true n r e)

found_from : ℕ → List Row → Bool
found_from r [] = true
found_from r (row ∷ rows) = cond (is_number (dense_row row.opcode) r) (found_from (suc r) rows) false

all_found : found_from 0 ROWS ≡ true
unfolding found_from dense_row is_number
all_found = refl

found_at : (from : ℕ) (rows : List Row) (k : ℕ) (o : Opcode) → found_from from rows ≡ true → opcode_in (slice_get rows k) ≡ Some o →
    dense_row o ≡ Some (from + k)
unfolding found_from
found_at from [] k o all e = absurd cc
found_at from (row ∷ rows) zero o all e =
    let b = both all in
    let same : row.opcode ≡ o = same_Some row.opcode o e in
    rw (← same) (is_number-true _ _ b.0 ∙ ap (λ (m : ℕ). Some m) (omega arith))
found_at from (row ∷ rows) (suc k) o all e = found_at (suc from) rows k o (both all).1 e ∙ ap (λ (m : ℕ). Some m) (omega arith)

-- a row's opcode leads back to the row
pub found : (r : ℕ) (o : Opcode) → HasOpcode r o → dense_row o ≡ Some r
unfolding HasOpcode
found r o h = found_at 0 ROWS r o all_found (sym (ap opcode_in (at_rows r)) ∙ h) ∙ ap (λ (m : ℕ). Some m) (omega arith)

-- ---- each cell names a row with its opcode

same_opcode-true : (a b : Opcode) → same_opcode a b ≡ true → a ≡ b
same_opcode-true (Byte a) (Byte b) e = ap (λ (n : ℕ). Byte n) (eqb-true a b e)
same_opcode-true (Byte a) (Fc b) e = absurd cc
same_opcode-true (Byte a) (Fd b) e = absurd cc
same_opcode-true (Fc a) (Byte b) e = absurd cc
same_opcode-true (Fc a) (Fc b) e = ap (λ (n : ℕ). Fc n) (eqb-true a b e)
same_opcode-true (Fc a) (Fd b) e = absurd cc
same_opcode-true (Fd a) (Byte b) e = absurd cc
same_opcode-true (Fd a) (Fc b) e = absurd cc
same_opcode-true (Fd a) (Fd b) e = ap (λ (n : ℕ). Fd n) (eqb-true a b e)

same_itself : (a : Opcode) → same_opcode a a ≡ true
same_itself (Byte a) = eq-eqb a a refl
same_itself (Fc a) = eq-eqb a a refl
same_itself (Fd a) = eq-eqb a a refl

is_opcode : Option Opcode → Opcode → Bool
is_opcode None b = false
is_opcode (Some a) b = same_opcode a b

is_opcode-true : (o : Option Opcode) (b : Opcode) → is_opcode o b ≡ true → o ≡ Some b
unfolding is_opcode
is_opcode-true None b e = absurd cc
is_opcode-true (Some a) b e = ap (λ (c : Opcode). Some c) (same_opcode-true a b e)

is_right : Option ℕ → Opcode → Bool
is_right None o = true
is_right (Some r) o = is_opcode (opcode_in (slice_get ROWS r)) o

right_from : (ℕ → Opcode) → ℕ → List ℕ → Bool
right_from made n [] = true
right_from made n (c ∷ cells) = cond (is_right (cell_in (Some c)) (made n)) (right_from made (suc n) cells) false

right_bytes : right_from (λ n. Byte n) 0 BYTE_ROWS ≡ true
unfolding right_from is_right is_opcode
right_bytes = refl

right_fc : right_from (λ n. Fc n) 0 FC_ROWS ≡ true
unfolding right_from is_right is_opcode
right_fc = refl

right_fd : right_from (λ n. Fd n) 0 FD_ROWS ≡ true
unfolding right_from is_right is_opcode
right_fd = refl

right_at : (made : ℕ → Opcode) (from : ℕ) (cells : List ℕ) (k r : ℕ) → right_from made from cells ≡ true → cell cells k ≡ Some r →
    opcode_in (slice_get ROWS r) ≡ Some (made (from + k))
unfolding right_from is_right
right_at made from [] k r all e = absurd cc
right_at made from (c ∷ cells) zero r all e =
    let b = both all in
    let is : cell_in (Some c) ≡ Some r = e in
    let named : is_right (Some r) (made from) ≡ true = subst (λ (o : Option ℕ). is_right o (made from) ≡ true) is b.0 in
    is_opcode-true _ _ named ∙ ap (λ (m : ℕ). Some (made m)) (omega arith)
right_at made from (c ∷ cells) (suc k) r all e = right_at made (suc from) cells k r (both all).1 e ∙ ap (λ (m : ℕ). Some (made m)) (omega arith)

named_in_rows : (o : Opcode) (r : ℕ) → dense_row o ≡ Some r → opcode_in (slice_get ROWS r) ≡ Some o
unfolding dense_row
named_in_rows (Byte b) r e = right_at (λ n. Byte n) 0 BYTE_ROWS b r right_bytes e ∙ ap (λ (m : ℕ). Some (Byte m)) (omega arith)
named_in_rows (Fc n) r e = right_at (λ n. Fc n) 0 FC_ROWS n r right_fc e ∙ ap (λ (m : ℕ). Some (Fc m)) (omega arith)
named_in_rows (Fd n) r e = right_at (λ n. Fd n) 0 FD_ROWS n r right_fd e ∙ ap (λ (m : ℕ). Some (Fd m)) (omega arith)

-- what an opcode leads to has that opcode
pub is_named : (o : Opcode) (r : ℕ) → dense_row o ≡ Some r → HasOpcode r o
unfolding HasOpcode
is_named o r e = ap opcode_in (at_rows r) ∙ named_in_rows o r e

pub named : (o : Opcode) (result : Option ℕ) → result ≡ dense_row o → IfSome result (λ r. HasOpcode r o)
named o None e = tt
named o (Some r) e = is_named o r (sym e)

-- ---- rows with their numbers

abbrev Numbered : Type 0
Numbered = Option (ℕ × Row)

-- the row stands that far behind the row numbered r, which is the first of these, and has the opcode
abbrev StandsIn : Opcode → (r n : ℕ) → List Row → Row → Type 0
StandsIn o r n rows row = (k : ℕ) × (n ≡ r + k) × (slice_get rows k ≡ Some row) × (row.opcode ≡ o)

behind_first : (o : Opcode) (r n : ℕ) (first : Row) (rows : List Row) (row : Row) → StandsIn o (suc r) n rows row → StandsIn o r n (first ∷ rows) row
behind_first o r n first rows row s = (suc s.0, omega (arith, s.1), s.2, s.3)

first_stands : (v : Bool) (o : Opcode) (r n : ℕ) (first : Row) (rows : List Row) (row : Row) (more : Numbered) → same_opcode first.opcode o ≡ v →
    cond v (Some (r, first)) more ≡ Some (n, row)
    → (more ≡ Some (n, row) → StandsIn o (suc r) n rows row) → StandsIn o r n (first ∷ rows) row
first_stands true o r n first rows row more is e go =
    let p = some_pair_parts r n first row e in
    (0, omega (arith, p.0), ap (λ (x : Row). Some x) p.1, ap (λ (x : Row). x.opcode) (sym p.1) ∙ same_opcode-true first.opcode o is)
first_stands false o r n first rows row more is e go = behind_first o r n first rows row (go e)

-- a row that is found stands there, and has the opcode
first_is : (o : Opcode) (r n : ℕ) (rows : List Row) (row : Row) → first_with o r rows ≡ Some (n, row) → StandsIn o r n rows row
first_is o r n [] row e = absurd cc
first_is o r n (first ∷ rows) row e = first_stands (same_opcode first.opcode o) o r n first rows row (first_with o (suc r) rows) refl e
    (λ e. first_is o (suc r) n rows row e)

first_other : (v : Bool) (o : Opcode) (r : ℕ) (first : Row) (more : Numbered) → same_opcode first.opcode o ≡ v →
    cond v (Some (r, first)) more ≡ None → (v ≡ false) × (more ≡ None)
first_other true o r first more is e = absurd cc
first_other false o r first more is e = (refl, e)

not_same : (a o : Opcode) → same_opcode a o ≡ false → a ≡ o → ⊥
not_same a o is same = let clash : true ≡ false = sym (same_itself o) ∙ ap (λ (b : Opcode). same_opcode b o) (sym same) ∙ is in absurd cc

-- where none is found, no row has the opcode
first_lacks : (o : Opcode) (r k : ℕ) (rows : List Row) → first_with o r rows ≡ None → opcode_in (slice_get rows k) ≡ Some o → ⊥
first_lacks o r k [] e has = absurd cc
first_lacks o r zero (first ∷ rows) e has =
    let p = first_other (same_opcode first.opcode o) o r first (first_with o (suc r) rows) refl e in
    not_same first.opcode o p.0 (same_Some first.opcode o has)
first_lacks o r (suc k) (first ∷ rows) e has =
    let p = first_other (same_opcode first.opcode o) o r first (first_with o (suc r) rows) refl e in
    first_lacks o (suc r) k rows p.1 has

-- a row that an opcode leads to is the table's, and has the opcode
pub is_by_opcode : (o : Opcode) (n : ℕ) (row : Row) → row_with o ≡ Some (n, row) → (row_at n ≡ Some row) × (row.opcode ≡ o)
unfolding row_with row_at
is_by_opcode o n row e =
    let f = first_is o 0 n table row e in
    let place : n ≡ f.0 = omega (arith, f.1) in
    (ap (λ (k : ℕ). slice_get table k) place ∙ f.2, f.3)

-- an opcode that leads to no row is no row's
pub without_row : (o : Opcode) → row_with o ≡ None → (r : ℕ) → HasOpcode r o → ⊥
unfolding row_with row_at HasOpcode
without_row o none r h = first_lacks o 0 r table none h

-- the row numbered so has its own opcode
pub has_opcode : (n : ℕ) (row : Row) (o : Opcode) → row_at n ≡ Some row → row.opcode ≡ o → HasOpcode n o
unfolding HasOpcode
has_opcode n row o at is = ap opcode_in at ∙ ap (λ (p : Opcode). Some p) is

some_is : {A : Type 0} (x y : A) → Some x ≡ Some y → x ≡ y
some_is x y e = cc

-- the one row with the opcode is the first one
the_first : (n : ℕ) (row : Row) (o : Opcode) (d : Numbered) → row_with o ≡ d → row_at n ≡ Some row → row.opcode ≡ o → d ≡ Some (n, row)
the_first n row o None none at is = absurd (without_row o none n (has_opcode n row o at is))
the_first n row o (Some other) e at is =
    let p = is_by_opcode o other.0 other.1 e in
    let same : other.0 ≡ n = some_is other.0 n (sym (found other.0 o (has_opcode other.0 other.1 o p.0 p.1))
    ∙ found n o (has_opcode n row o at is)) in
    let row_is : other.1 ≡ row = some_is other.1 row (sym p.0 ∙ ap row_at same ∙ at) in
    ap (λ (k : ℕ). let x : Numbered = Some (k, other.1) in x) same ∙ ap (λ (r : Row). let x : Numbered = Some (n, r) in x) row_is

-- a row of the table is what its opcode leads to
pub with_opcode : (n : ℕ) (row : Row) (o : Opcode) → row_at n ≡ Some row → row.opcode ≡ o → row_with o ≡ Some (n, row)
with_opcode n row o at is = the_first n row o (row_with o) refl at is

-- where the opcode's cell names no row, there is none
pub not_led : (o : Opcode) → dense_row o ≡ None → row_with o ≡ None
not_led o none = by_row (row_with o) refl
  where
    by_row : (d : Numbered) → row_with o ≡ d → d ≡ None
    by_row None e = refl
    by_row (Some other) e =
        let p = is_by_opcode o other.0 other.1 e in
        let clash : Some other.0 ≡ None = sym (found other.0 o (has_opcode other.0 other.1 o p.0 p.1)) ∙ none in
        absurd cc

-- where it names a row, there is that one
pub led : (o : Opcode) (n : ℕ) (row : Row) → dense_row o ≡ Some n → row_at n ≡ Some row → row_with o ≡ Some (n, row)
unfolding HasOpcode
led o n row is at = with_opcode n row o at (some_is row.opcode o (sym (ap opcode_in at) ∙ is_named o n is))

-- where it names one, the table has it
pub led_nowhere : (o : Opcode) (n : ℕ) → dense_row o ≡ Some n → row_at n ≡ None → ⊥
unfolding HasOpcode
led_nowhere o n is none = let clash : None ≡ Some o = sym (ap opcode_in none) ∙ is_named o n is in absurd cc

rows_length : length ROWS ≡ 446
rows_length = refl

-- a row's number is below 446
pub row_small : (n : ℕ) (row : Row) → row_at n ≡ Some row → n < 446
row_small n row e = subst (λ (l : ℕ). n < l) rows_length (slice_get_within ROWS n row (sym (at_rows n) ∙ e))

-- ---- a row's opcode is its own bytes: no byte FC or FD, no number past 32 bits

abbrev pub FitsOpcode : Opcode → Type 0
FitsOpcode (Byte b) = (b ≡ 252 → ⊥) × (b ≡ 253 → ⊥)
FitsOpcode (Fc n) = n < 2 ^ 32
FitsOpcode (Fd n) = n < 2 ^ 32

unfoldable pub fits_test : Opcode → Bool
fits_test (Byte b) = cond (eqb b 252) false (cond (eqb b 253) false true)
fits_test (Fc n) = ltb n (2 ^ 32)
fits_test (Fd n) = ltb n (2 ^ 32)

byte_fits : (b : ℕ) (u v : Bool) → eqb b 252 ≡ u → eqb b 253 ≡ v → cond u false (cond v false true) ≡ true → FitsOpcode (Byte b)
byte_fits b true v p q e = absurd cc
byte_fits b false true p q e = absurd cc
byte_fits b false false p q e = (eqb-false b 252 p, eqb-false b 253 q)

pub fits_test-true : (o : Opcode) → fits_test o ≡ true → FitsOpcode o
unfolding fits_test
fits_test-true (Byte b) e = byte_fits b (eqb b 252) (eqb b 253) refl refl e
fits_test-true (Fc n) e = ltb-true _ _ e
fits_test-true (Fd n) e = ltb-true _ _ e

all_fit : List Row → Bool
all_fit [] = true
all_fit (row ∷ rows) = cond (fits_test row.opcode) (all_fit rows) false

rows_fit : all_fit ROWS ≡ true
unfolding all_fit fits_test
rows_fit = refl

fits_in : (rows : List Row) (n : ℕ) (row : Row) → all_fit rows ≡ true → slice_get rows n ≡ Some row → fits_test row.opcode ≡ true
unfolding all_fit
fits_in [] n row all e = absurd cc
fits_in (first ∷ rows) zero row all e = subst (λ (r : Row). fits_test r.opcode ≡ true) (same_Some first row e)
    (both {a = fits_test first.opcode} {b = all_fit rows} all).0
fits_in (first ∷ rows) (suc n) row all e = fits_in rows n row (both {a = fits_test first.opcode} {b = all_fit rows} all).1 e

pub opcode_fits : (n : ℕ) (row : Row) → row_at n ≡ Some row → fits_test row.opcode ≡ true
opcode_fits n row e = fits_in ROWS n row rows_fit (sym (at_rows n) ∙ e)

pub fits_at : (n : ℕ) (row : Row) → row_at n ≡ Some row → FitsOpcode row.opcode
fits_at n row e = fits_test-true row.opcode (opcode_fits n row e)

-- ---- the opcodes of the structured instructions

pub none_0 : row_with (Byte 0) ≡ None
unfolding dense_row
none_0 = not_led (Byte 0) refl

pub none_2 : row_with (Byte 2) ≡ None
unfolding dense_row
none_2 = not_led (Byte 2) refl

pub none_3 : row_with (Byte 3) ≡ None
unfolding dense_row
none_3 = not_led (Byte 3) refl

pub none_4 : row_with (Byte 4) ≡ None
unfolding dense_row
none_4 = not_led (Byte 4) refl

pub none_5 : row_with (Byte 5) ≡ None
unfolding dense_row
none_5 = not_led (Byte 5) refl

pub none_11 : row_with (Byte 11) ≡ None
unfolding dense_row
none_11 = not_led (Byte 11) refl

pub none_12 : row_with (Byte 12) ≡ None
unfolding dense_row
none_12 = not_led (Byte 12) refl

pub none_13 : row_with (Byte 13) ≡ None
unfolding dense_row
none_13 = not_led (Byte 13) refl

pub none_14 : row_with (Byte 14) ≡ None
unfolding dense_row
none_14 = not_led (Byte 14) refl

pub none_15 : row_with (Byte 15) ≡ None
unfolding dense_row
none_15 = not_led (Byte 15) refl

pub none_17 : row_with (Byte 17) ≡ None
unfolding dense_row
none_17 = not_led (Byte 17) refl

-- the row of a select with a type
abbrev pub typed_select : Row
typed_select = record { opcode = Byte 28; kind = kind.Val; info = record { operands = Some 3; result = results.Immediate; change = 0 } }

pub row_445 : row_at 445 ≡ Some typed_select
unfolding row_at table
row_445 = refl

pub select_row : row_with (Byte 28) ≡ Some (445, typed_select)
select_row = with_opcode 445 typed_select (Byte 28) row_445 refl

-- ---- a value type stands behind that opcode alone

is_val : Kind → Bool
is_val kind.Val = true
is_val _ = false

is_val-true : (k : Kind) → k ≡ kind.Val → is_val k ≡ true
unfolding is_val
is_val-true k e = rw e refl

vals_listed : List Row → Bool
vals_listed [] = true
vals_listed (row ∷ rows) = cond (cond (is_val row.kind) (same_opcode row.opcode (Byte 28)) true) (vals_listed rows) false

rows_vals : vals_listed ROWS ≡ true
unfolding vals_listed is_val
rows_vals = refl

val_in : (rows : List Row) (n : ℕ) (row : Row) → vals_listed rows ≡ true → slice_get rows n ≡ Some row → is_val row.kind ≡ true →
    same_opcode row.opcode (Byte 28) ≡ true
unfolding vals_listed
val_in [] n row all e v = absurd cc
val_in (first ∷ rows) zero row all e v =
    let is = same_Some first row e in
    let one : cond (is_val first.kind) (same_opcode first.opcode (Byte 28)) true ≡ true =
    (both {a = cond (is_val first.kind) (same_opcode first.opcode (Byte 28)) true} {b = vals_listed rows} all).0 in
    let own = rw is at one in
    let own' = rw v at own in
    own'
val_in (first ∷ rows) (suc n) row all e v = val_in rows n row (both {a = cond (is_val first.kind) (same_opcode first.opcode (Byte 28)) true} {b =
    vals_listed rows} all).1 e v

pub val_opcode : (n : ℕ) (row : Row) → row_at n ≡ Some row → row.kind ≡ kind.Val → row.opcode ≡ Byte 28
val_opcode n row e k = same_opcode-true _ _ (val_in ROWS n row rows_vals (sym (at_rows n) ∙ e) (is_val-true row.kind k))
