-- The number that begins a text, and what follows it.
use Rattle.std.proofs.Common.{◌≡◌, ℕ, List, ◌++◌, Result, Ok, Err, sym, ap, ◌∙◌}
use Rattle.wasm_code.specs.declared.fault.Cause.{Cause}
use Rattle.wasm_code.specs.Number.{SpellsUnsigned}
use Rattle.wasm_code.specs.Reader.{unsigned_at}
use Rattle.wasm_code.specs.laws.GrammarLemmas.{ok_is}
use Rattle.wasm_code.specs.laws.NumberExact.{unsigned_exact}
use Rattle.wasm_module.specs.Room.{CountBeginsText}

one_rest : (r : Result (ℕ × List ℕ) Cause) (m n : ℕ) (a b : List ℕ) → r ≡ Ok (m, a) → r ≡ Ok (n, b) → a ≡ b
one_rest r m n a b p q = ap (λ (z : ℕ × List ℕ). z.1) (ok_is (m, a) (n, b) (sym p ∙ q))

no_error : (r : Result (ℕ × List ℕ) Cause) (n : ℕ) (a : List ℕ) (cause : Cause) → r ≡ Ok (n, a) → r ≡ Err cause → ⊥
no_error r n a cause p q = cc

reads : (bytes count items : List ℕ) (n : ℕ) → bytes ≡ count ++ items → SpellsUnsigned 32 count n → unsigned_at 32 bytes ≡ Ok (n, items)
reads bytes count items n e s = ap (unsigned_at 32) e ∙ (unsigned_exact 32).again count items n s

pub rest_is : (bytes count items behind : List ℕ) (m n : ℕ) → unsigned_at 32 bytes ≡ Ok (m, behind) → bytes ≡ count ++ items → SpellsUnsigned 32 count n →
    behind ≡ items
rest_is bytes count items behind m n r e s = one_rest (unsigned_at 32 bytes) m n behind items r (reads bytes count items n e s)

one_number : (r : Result (ℕ × List ℕ) Cause) (m n : ℕ) (a b : List ℕ) → r ≡ Ok (m, a) → r ≡ Ok (n, b) → m ≡ n
one_number r m n a b p q = ap (λ (z : ℕ × List ℕ). z.0) (ok_is (m, a) (n, b) (sym p ∙ q))

pub number_is : (bytes behind : List ℕ) (m n : ℕ) → unsigned_at 32 bytes ≡ Ok (m, behind) → CountBeginsText bytes n → m ≡ n
number_is bytes behind m n r h = one_number (unsigned_at 32 bytes) m n behind h.items r (reads bytes h.count h.items n h.parts h.counts)

-- a text begins with one number at most
pub one_count : (bytes count items size rest : List ℕ) (m n : ℕ) → bytes ≡ count ++ items → SpellsUnsigned 32 count m → bytes ≡ size ++ rest →
    SpellsUnsigned 32 size n → ◌≡◌ {A = ℕ × List ℕ} (m, items) (n, rest)
one_count bytes count items size rest m n e s f t = ok_is (m, items) (n, rest) (sym (reads bytes count items m e s) ∙ reads bytes size rest n f t)

pub counts : (bytes : List ℕ) (n : ℕ) (cause : Cause) → CountBeginsText bytes n → unsigned_at 32 bytes ≡ Err cause → ⊥
counts bytes n cause h e = no_error (unsigned_at 32 bytes) n h.items cause (reads bytes h.count h.items n h.parts h.counts) e
