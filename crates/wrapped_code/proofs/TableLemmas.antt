-- Operators that ask what they don't carry keep their numbers among these where others are put in between.
use Rattle.std.proofs.Common.{◌≡◌, ℕ, zero, suc, ◌-◌, ◌+◌, ◌≤◌, Bool, true, false, List, [], ◌∷◌, ◌++◌, length, refl, sym, ap, ◌∙◌, arith, inl, inr}
use Rattle.std.proofs.lemmas.Bool.{cases_lt}
use Rattle.wasm_code.specs.declared.operator.Operator.{Operator}
use Rattle.wasm_code.specs.declared.operator.Operator.TheVariants as op
use Rattle.wasm_equivalence.specs.control.Standard.{asks_beyond, asked_before, counted_where}
use Rattle.wrapped_code.specs.Wrapped.{Wrapped, plain, both, block, loop, choice, leaving, exits, once, trap}
use Rattle.wrapped_code.proofs.PlaceLemmas.{bones}
use Rattle.wrapped_code.proofs.MovedLemmas.{moved, moved_before, moved_behind}

tables_front : (xs zs : List Operator) (i : ℕ) → i ≤ length xs → asked_before (xs ++ zs) i ≡ asked_before xs i
tables_front xs zs zero l = refl
tables_front [] zs (suc i) l = absurd (omega arith)
tables_front (x ∷ xs) zs (suc i) l = ap (counted_where (asks_beyond x)) (tables_front xs zs i (omega arith))

counted_more : (b : Bool) (i j k : ℕ) → i ≡ j + k → counted_where b i ≡ counted_where b j + k
counted_more true i j k e = omega arith
counted_more false i j k e = e

tables_behind : (xs zs : List Operator) (i j : ℕ) → j ≡ length xs + i → asked_before (xs ++ zs) j ≡ asked_before xs (length xs) + asked_before zs i
tables_behind [] zs i j e = let x : j ≡ i = omega arith in ap (asked_before zs) x ∙ (omega arith)
tables_behind (x ∷ xs) zs i zero e = absurd (omega arith)
tables_behind (x ∷ xs) zs i (suc j) e =
    counted_more (asks_beyond x) (asked_before (xs ++ zs) j) (asked_before xs (length xs)) (asked_before zs i) (tables_behind xs zs i j (omega arith))

pub no_tables : (c : Wrapped) (os : List Operator) → asked_before (bones c os) (length (bones c os)) ≡ asked_before os (length os)
no_tables (plain code) os = refl
no_tables (both a b) os = no_tables a (bones b os) ∙ no_tables b os
no_tables (block t a) os = no_tables a (op.End ∷ os)
no_tables (loop t a) os = no_tables a (op.End ∷ os)
no_tables (choice t a b) os = no_tables a (op.Else ∷ bones b (op.End ∷ os)) ∙ no_tables b (op.End ∷ os)
no_tables (leaving t a b) os = no_tables a (op.Br 0 ∷ bones b (op.End ∷ os)) ∙ no_tables b (op.End ∷ os)
no_tables (exits t a b) os = no_tables a (op.BrIf 0 ∷ bones b (op.End ∷ os)) ∙ no_tables b (op.End ∷ os)
no_tables (once t a) os = no_tables a (op.BrIf 0 ∷ op.End ∷ os)
no_tables trap os = refl

pub tables_moved : (xs middle ys : List Operator) (n m : ℕ) → length xs ≡ n → length middle ≡ m → asked_before middle (length middle) ≡ 0 →
    (k : ℕ) → asked_before (xs ++ (middle ++ ys)) (moved n m k) ≡ asked_before (xs ++ ys) k
tables_moved xs middle ys n m n_is m_is none k = elim (cases_lt k n) [
  | inl l ↦ ap (asked_before (xs ++ (middle ++ ys))) (moved_before n m k l) ∙
      (tables_front xs (middle ++ ys) k (omega arith) ∙ sym (tables_front xs ys k (omega arith)))
  | inr l ↦ ap (asked_before (xs ++ (middle ++ ys))) (moved_behind n m k l) ∙
      (let a = tables_behind xs (middle ++ ys) (k - n + m) (k + m) (omega arith) in
      let b = tables_behind middle ys (k - n) (k - n + m) (omega arith) in
      let c = tables_behind xs ys (k - n) k (omega arith) in omega arith)
]
