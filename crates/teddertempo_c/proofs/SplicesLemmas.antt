-- A module with code of another one in the buffer.
use Rattle.std.proofs.Common.{◌≡◌, ℕ, ◌<◌, ◌≤◌, inl, inr, List, length, take, Result, Ok, Err, refl, sym, subst, arith}
use Rattle.std.specs.Prelude.{IfOk}
use Rattle.rand_core.specs.Stream.{Stream}
use Rattle.module_changes.specs.Scope.{Scope}
use Rattle.module_changes.specs.Spliced.{IsSpliceRefusal, SplicesOne}
use Rattle.module_changes.specs.Valid.{StaysValidModule}
use Rattle.module_changes.specs.declared.entry.MadeChange.{MadeChange}
use Rattle.module_changes.specs.declared.splicing.SpliceRefusal.{SpliceRefusal}
use Rattle.module_changes.specs.declared.splicing.SplicedModule.{SplicedModule}
use Rattle.module_rewrites.specs.Seeded.{seeded}
use Rattle.teddertempo_c.specs.Changes.{HasSize}
use Rattle.teddertempo_c.specs.Splices.{copies_alone, IsSplicedBy, SplicesOnce}
use Rattle.teddertempo_c.specs.Writes.{IsPutInBuffer}
use Rattle.teddertempo_c.proofs.FitsLemmas.{length-rewritten}
use Rattle.teddertempo_c.proofs.WritesLemmas.{front_is, writes_front, writes_nothing}

-- ---- its size

size_of : (scope : Scope) (bytes other : List ℕ) (s : Stream) (m : MadeChange) (new : List ℕ) (after : Stream) →
    SplicesOne scope bytes other s m new after → HasSize scope.size new
size_of scope bytes other s m new after c =
    let makes = c.chooses.chooses.makes in
    record { some = length-rewritten _ _ _ _ _ new makes.written; fits = makes.fits }

pub size_so : (scope : Scope) (bytes other : List ℕ) (s after : Stream) (r : Result SplicedModule SpliceRefusal) →
    IfOk r (λ m. SplicesOne scope bytes other s m.made m.bytes.items after) → IfOk r (λ m. HasSize scope.size m.bytes.items)
size_so scope bytes other s after (Err e) h = tt
size_so scope bytes other s after (Ok m) h = size_of scope bytes other s m.made m.bytes.items after h

-- what a seed chooses
pub spliced_so : (seed room : ℕ) (bytes other : List ℕ) (s after : Stream) (r : Result SplicedModule SpliceRefusal) → s ≡ seeded seed →
    IfOk r (λ m. SplicesOne (copies_alone room) bytes other s m.made m.bytes.items after) → IfOk r (λ m. StaysValidModule bytes m.bytes.items) →
    IfOk r (λ m. IsSplicedBy seed room bytes other m.bytes.items)
spliced_so seed room bytes other s after (Err e) is h k = tt
spliced_so seed room bytes other s after (Ok m) is h k = record {
  made = m.made;
  after = after;
  splices = subst (λ (t : Stream). SplicesOne (copies_alone room) bytes other t m.made m.bytes.items after) is h;
  valid = k;
}

-- ---- the call

module _ (seed size : ℕ) (other old : List ℕ) where
  pub splice_made : (bytes : List ℕ) (result : ℕ) (new : List ℕ) → size ≤ length old → IsSplicedBy seed (length old) (take size old) other bytes →
      HasSize (length old) bytes → IsPutInBuffer bytes old result new → SplicesOnce seed size other old result new
  splice_made bytes result new inside is fits put = record {
    writes = writes_front bytes old result new put fits.fits fits.some;
    spliced = λ some. record {
      inside = inside;
      is = subst (IsSplicedBy seed (length old) (take size old) other) (sym (front_is bytes old result new put)) is;
    };
    refused = λ none. absurd (omega (arith, put.size, fits.some));
  }

  pub splice_outside : length old < size → SplicesOnce seed size other old 0 old
  splice_outside outside = record { writes = writes_nothing old; spliced = λ some. absurd (some refl); refused = λ none. inl outside }

  pub splice_refused : (refusal : SpliceRefusal) →
      IsSpliceRefusal (copies_alone (length old)) (take size old) other (seeded seed) refusal → SplicesOnce seed size other old 0 old
  splice_refused refusal why = record { writes = writes_nothing old; spliced = λ some. absurd (some refl); refused = λ none. inr (refusal, why) }
