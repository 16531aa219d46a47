-- The effects of an instruction, by the number of its row.
use Rattle.std.proofs.Common.{◌≡◌, ℕ, zero, suc, ◌+◌, ◌≤◌, Bool, true, false, List, [], ◌∷◌, length, Option, Some, None, refl, sym, ap, ap₂, ◌∙◌, subst, arith}
use Rattle.std.specs.Prelude.{◌&&◌, ◌||◌, nat_lt, slice_get}
use Rattle.std.proofs.lemmas.Bool.{true≢false, lt-ltb}
use Rattle.wasm_code.specs.Instruction.{Instruction}
use Rattle.wasm_code.specs.Table.{table, row_at, opcode_in}
use Rattle.wasm_code.specs.declared.table.Opcode.{Opcode}
use Rattle.wasm_code.specs.declared.table.Row.{Row}
use Rattle.wasm_execution.specs.OtherRow.{is_in_span, opcode_changes, opcode_fails, changes, may_trap}

same : Bool → Bool → Bool
same true true = true
same false false = true
same _ _ = false

same_is : (a b : Bool) → same a b ≡ true → a ≡ b
unfolding same
same_is true true e = refl
same_is false false e = refl
same_is true false e = absurd (true≢false (sym e))
same_is false true e = absurd (true≢false (sym e))

-- the test of a row's number is that of its opcode, in each row of the table
all_same : (ℕ → Bool) → (Opcode → Bool) → ℕ → List Row → Bool
all_same f g n [] = true
all_same f g n (row ∷ rows) = same (f n) (g row.opcode) && all_same f g (suc n) rows

both : {a b : Bool} → (a && b) ≡ true → (a ≡ true) × (b ≡ true)
both {a = true} {b} e = (refl, e)
both {a = false} {b} e = absurd (true≢false (sym e))

same_at : (f : ℕ → Bool) (g : Opcode → Bool) (rows : List Row) (from n : ℕ) (row : Row) → all_same f g from rows ≡ true → slice_get rows n ≡ Some row →
    f (from + n) ≡ g row.opcode
unfolding all_same
same_at f g [] from n row h e = absurd cc
same_at f g (r ∷ rows) from zero row h e =
    let is : r ≡ row = cc in
    subst (λ (x : Row). f (from + 0) ≡ g x.opcode) is (ap f (let k : from + 0 ≡ from = omega arith in k) ∙ same_is (f from) (g r.opcode) (both h).0)
same_at f g (r ∷ rows) from (suc n) row h e =
    ap f (let k : from + suc n ≡ suc from + n = omega arith in k) ∙ same_at f g rows (suc from) n row (both h).1 e

pub past_end : (rows : List Row) (n : ℕ) → slice_get rows n ≡ None → length rows ≤ n
past_end [] n e = omega arith
past_end (r ∷ rows) zero e = absurd cc
past_end (r ∷ rows) (suc n) e = let l = past_end rows n e in omega arith

pub count : length table ≡ 446
unfolding table
count = refl

abbrev changing : List (ℕ × ℕ)
changing = (1, 1) ∷ (10, 10) ∷ (25, 33) ∷ (35, 35) ∷ (179, 186) ∷ (188, 188) ∷ (200, 200) ∷ (277, 280) ∷ []

abbrev failing : List (ℕ × ℕ)
failing = (9, 9) ∷ (11, 24) ∷ (139, 142) ∷ (145, 148) ∷ (189, 199) ∷ (273, 276) ∷ (281, 282) ∷ []

table_changes : all_same (λ n. is_in_span changing n || nat_lt 445 n) (λ o. opcode_changes (Some o)) 0 table ≡ true
unfolding table all_same same
table_changes = refl

table_fails : all_same (λ n. is_in_span failing n || nat_lt 445 n) (λ o. opcode_fails (Some o)) 0 table ≡ true
unfolding table all_same same
table_fails = refl

or_true : (a b : Bool) → b ≡ true → (a || b) ≡ true
or_true true b e = refl
or_true false b e = e

by_row : (spans : List (ℕ × ℕ)) (g : Option Opcode → Bool) → all_same (λ n. is_in_span spans n || nat_lt 445 n) (λ o. g (Some o)) 0 table ≡ true →
    g None ≡ true → (n : ℕ) → (is_in_span spans n || nat_lt 445 n) ≡ g (opcode_in (row_at n))
unfolding row_at
by_row spans g h none n = go (slice_get table n) refl
  where
    go : (o : Option Row) → slice_get table n ≡ o → (is_in_span spans n || nat_lt 445 n) ≡ g (opcode_in o)
    go (Some row) e =
        ap (λ k. is_in_span spans k || nat_lt 445 k) (let k : n ≡ 0 + n = omega arith in k) ∙
        same_at (λ n. is_in_span spans n || nat_lt 445 n) (λ o. g (Some o)) table 0 n row h e
    go None e =
        let l : 446 ≤ n = subst (λ k. k ≤ n) count (past_end table n e) in
        or_true (is_in_span spans n) (nat_lt 445 n) (lt-ltb 445 n (omega arith)) ∙ sym none

pub changes_is : (i : Instruction) (n : ℕ) → n ≡ i.row → (is_in_span changing n || nat_lt 445 n) ≡ changes i
unfolding changes
changes_is i n e = by_row changing opcode_changes table_changes refl n ∙ ap (λ k. opcode_changes (opcode_in (row_at k))) e

-- past the table's end both are true
or_twice : (a b c : Bool) → (a || (b || c)) ≡ ((a || c) || b)
or_twice true b c = refl
or_twice false true true = refl
or_twice false true false = refl
or_twice false false c = or_nothing c
  where
    or_nothing : (c : Bool) → c ≡ (c || false)
    or_nothing true = refl
    or_nothing false = refl

same_twice : (a b : Bool) → ((a || b) || b) ≡ (a || b)
same_twice true b = refl
same_twice false true = refl
same_twice false false = refl

pub may_trap_is : (i : Instruction) (n : ℕ) (c : Bool) → n ≡ i.row → c ≡ changes i → (c || is_in_span failing n) ≡ may_trap i
unfolding may_trap changes
may_trap_is i n c e h =
    let past = nat_lt 445 n in
    let fails = by_row failing opcode_fails table_fails refl n ∙ ap (λ k. opcode_fails (opcode_in (row_at k))) e in
    let is : c ≡ (is_in_span changing n || past) = h ∙ sym (changes_is i n e) in
    ap (λ x. x || is_in_span failing n) (is ∙ sym (same_twice (is_in_span changing n) past)) ∙
    (sym (or_twice (is_in_span changing n || past) (is_in_span failing n) past) ∙ ap₂ (λ x y. x || y) (changes_is i n e) fails)

-- ---- the code's tests

pub listed_is : (l : Bool) (i : Instruction) (n : ℕ) → l ≡ is_in_span changing n → n ≡ i.row → l ≡ true → l ≡ changes i
listed_is l i n h e t = t ∙ (sym (ap (λ x. x || nat_lt 445 n) (sym h ∙ t)) ∙ changes_is i n e)

pub unlisted_is : (l : Bool) (i : Instruction) (n : ℕ) → l ≡ is_in_span changing n → n ≡ i.row → l ≡ false → nat_lt 445 n ≡ changes i
unlisted_is l i n h e f = sym (ap (λ x. x || nat_lt 445 n) (sym h ∙ f)) ∙ changes_is i n e

pub changed_traps : (c : Bool) (i : Instruction) (n : ℕ) → n ≡ i.row → c ≡ changes i → c ≡ true → c ≡ may_trap i
changed_traps c i n e h t = t ∙ (sym (ap (λ x. x || is_in_span failing n) t) ∙ may_trap_is i n c e h)

pub failing_traps : (c l : Bool) (i : Instruction) (n : ℕ) → n ≡ i.row → c ≡ changes i → l ≡ is_in_span failing n → c ≡ false → l ≡ may_trap i
failing_traps c l i n e h k f = k ∙ (sym (ap (λ x. x || is_in_span failing n) f) ∙ may_trap_is i n c e h)
