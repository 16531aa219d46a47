-- Bytes behind the number of them: what is read so, and that it is read so alone.
use Rattle.std.proofs.Common.{◌≡◌, ℕ, ◌<◌, List, ◌++◌, length, take, drop, Result, Ok, Err, refl, sym, ap, subst, ◌∙◌, append_assoc, inl, arith}
use Rattle.std.specs.Prelude.{◌↔◌, IsTrue, Bool, false}
use Rattle.std.specs.List.{IsSplitAt}
use Rattle.std.proofs.lemmas.List.{length-append, take-append-drop, take_at, drop_at}
use Rattle.wasm_code.specs.declared.fault.Cause.{Cause}
use Rattle.wasm_code.specs.declared.fault.Cause.TheVariants as causes
use Rattle.wasm_code.specs.Number.{SpellsUnsigned, FailsUnsigned}
use Rattle.wasm_code.specs.Reader.{unsigned_at}
use Rattle.wasm_code.specs.laws.GrammarLemmas.{ok_is}
use Rattle.wasm_code.specs.laws.NumberExact.{unsigned_exact}
use Rattle.wasm_sections.specs.Section.{BeginsWithName, IsLinkingName, IsLinkable}
use Rattle.wasm_sections.specs.Reader.{size_fault_of, IsCounted, IsShort, FailsCounted}

split_is : (rest front back : List ℕ) (n : ℕ) → IsSplitAt rest n front back → rest ≡ front ++ back
split_is rest front back n s = rw (s.1, s.2) (sym (take-append-drop n rest))

pub counted : (text rest front back : List ℕ) (n : ℕ) → unsigned_at 32 text ≡ Ok (n, rest) → IsSplitAt rest n front back → IsCounted front back text
counted text rest front back n e s =
    let t = (unsigned_exact 32).takes text n rest e in
    record {
      size = t.0;
      parts = t.1 ∙ ap (λ (r : List ℕ). t.0 ++ r) (split_is rest front back n s) ∙ sym (append_assoc t.0 front back);
      counts = subst (SpellsUnsigned 32 t.0) (sym s.3) t.2;
    }

pub short : (text rest : List ℕ) (n : ℕ) → unsigned_at 32 text ≡ Ok (n, rest) → length rest < n → IsShort text
short text rest n e lt =
    let t = (unsigned_exact 32).takes text n rest e in
    record { size = t.0; back = rest; count = n; parts = t.1; counts = t.2; short = lt }

pub fails_counted : (text : List ℕ) (cause : Cause) → unsigned_at 32 text ≡ Err cause → FailsCounted (size_fault_of cause) text
fails_counted text causes.Truncated e = inl ((unsigned_exact 32).stops text causes.Truncated e)
fails_counted text causes.BadInteger e = (unsigned_exact 32).stops text causes.BadInteger e
fails_counted text causes.UnknownOpcode e = absurd ((unsigned_exact 32).stops text causes.UnknownOpcode e)
fails_counted text causes.BadImmediate e = absurd ((unsigned_exact 32).stops text causes.BadImmediate e)

-- ---- nothing else is read

pub reads : (front back text : List ℕ) → IsCounted front back text → unsigned_at 32 text ≡ Ok (length front, front ++ back)
reads front back text p = ap (unsigned_at 32) (p.parts ∙ append_assoc p.size front back)
    ∙ (unsigned_exact 32).again p.size (front ++ back) (length front) p.counts

one_number : (r : Result (ℕ × List ℕ) Cause) (m n : ℕ) (a b : List ℕ) → r ≡ Ok (m, a) → r ≡ Ok (n, b) → (m ≡ n) × (a ≡ b)
one_number r m n a b p q =
    let e = ok_is (m, a) (n, b) (sym p ∙ q) in
    (ap (λ (x : ℕ × List ℕ). x.0) e, ap (λ (x : ℕ × List ℕ). x.1) e)

no_number : (r : Result (ℕ × List ℕ) Cause) (m : ℕ) (a : List ℕ) (c : Cause) → r ≡ Ok (m, a) → r ≡ Err c → ⊥
no_number r m a c p q = cc

pub one_counted : (a b c d text : List ℕ) → IsCounted a b text → IsCounted c d text → (a ≡ c) × (b ≡ d)
one_counted a b c d text p q =
    let n = one_number (unsigned_at 32 text) (length a) (length c) (a ++ b) (c ++ d) (reads a b text p) (reads c d text q) in (
      sym (take_at a b (length a) refl) ∙ ap (take (length a)) n.1 ∙ take_at c d (length a) (sym n.0),
      sym (drop_at a b (length a) refl) ∙ ap (drop (length a)) n.1 ∙ drop_at c d (length a) (sym n.0),
    )

pub no_short : (a b text : List ℕ) → IsCounted a b text → IsShort text → ⊥
no_short a b text p s =
    let e = ap (unsigned_at 32) s.parts ∙ (unsigned_exact 32).again s.size s.back s.count s.counts in
    let n = one_number (unsigned_at 32 text) (length a) s.count (a ++ b) s.back (reads a b text p) e in
    omega (arith, n.0, ap length n.1, length-append a b, s.short)

pub no_fail : (a b text : List ℕ) (cause : Cause) → IsCounted a b text → FailsUnsigned 32 text cause → ⊥
no_fail a b text cause p f = no_number (unsigned_at 32 text) (length a) (a ++ b) cause (reads a b text p) ((unsigned_exact 32).fails text cause f)

-- ---- names of custom sections

pub named : (name back contents : List ℕ) → IsCounted name back contents → BeginsWithName contents name
named name back contents p = record { size = p.size; back = back; parts = p.parts; counts = p.counts }

counted_name : (contents name : List ℕ) → (n : BeginsWithName contents name) → IsCounted name n.back contents
counted_name contents name n = record { size = n.size; parts = n.parts; counts = n.counts }

pub one_name : (contents a b : List ℕ) → BeginsWithName contents a → BeginsWithName contents b → a ≡ b
one_name contents a b p q = (one_counted a p.back b q.back contents (counted_name contents a p) (counted_name contents b q)).0

pub short_name : (contents : List ℕ) → IsShort contents → (name : List ℕ) → BeginsWithName contents name → ⊥
short_name contents s name n = no_short name n.back contents (counted_name contents name n) s

pub failing_name : (contents : List ℕ) (cause : Cause) → unsigned_at 32 contents ≡ Err cause → (name : List ℕ) → BeginsWithName contents name → ⊥
failing_name contents cause e name n = no_fail name n.back contents cause (counted_name contents name n) ((unsigned_exact 32).stops contents cause e)

-- ---- names of linking metadata

pub linkable : (contents name : List ℕ) (r : Bool) → BeginsWithName contents name → IsTrue r ↔ IsLinkingName name → IsTrue r ↔ IsLinkable contents
linkable contents name r n h = (
  λ t. record { name = name; named = n; linking = h.0 t },
  λ l. h.1 (subst IsLinkingName (one_name contents l.name name l.named n) l.linking),
)

pub nameless : (contents : List ℕ) → ((name : List ℕ) → BeginsWithName contents name → ⊥) → IsTrue false ↔ IsLinkable contents
nameless contents none = (λ t. absurd cc, λ l. absurd (none l.name l.named))
