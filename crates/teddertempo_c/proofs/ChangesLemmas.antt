-- A changed module in the buffer.
use Rattle.std.proofs.Common.{ℕ, ◌<◌, ◌≤◌, inl, inr, List, [], ◌∷◌, length, take, Option, Result, Ok, Err, refl, sym, subst, arith}
use Rattle.std.specs.Prelude.{IfOk}
use Rattle.rand_core.specs.Stream.{Stream}
use Rattle.module_changes.specs.Chosen.{ChoosesOne}
use Rattle.module_changes.specs.Scope.{Scope}
use Rattle.module_changes.specs.Times.{ChangesTimes, ChoosesEachChange, IsRefusal}
use Rattle.module_changes.specs.declared.entry.MadeChange.{MadeChange}
use Rattle.module_changes.specs.declared.refusal.Refusal.{Refusal}
use Rattle.module_changes.specs.declared.times.ChangedModule.{ChangedModule}
use Rattle.module_rewrites.specs.Seeded.{seeded}
use Rattle.teddertempo_c.specs.Changes.{any_change, ChangesOnce, HasSize, IsChangedBy}
use Rattle.teddertempo_c.specs.Writes.{IsPutInBuffer}
use Rattle.teddertempo_c.proofs.FitsLemmas.{length-rewritten}
use Rattle.teddertempo_c.proofs.WritesLemmas.{front_is, writes_front, writes_nothing}

-- ---- its size

size_of_one : (scope : Scope) (bytes : List ℕ) (s : Stream) (m : MadeChange) (new : List ℕ) (after : Stream) → ChoosesOne scope bytes s m new after →
    HasSize scope.size new
size_of_one scope bytes s m new after c =
    let makes = c.chooses.chooses.makes in
    record { some = length-rewritten _ _ _ _ _ new makes.written; fits = makes.fits }

size_of_each : (scope : Scope) (bytes : List ℕ) (s : Stream) (m : MadeChange) (ms : List MadeChange) (new : List ℕ) (after : Stream) →
    ChoosesEachChange scope bytes s (m ∷ ms) new after → HasSize scope.size new
size_of_each scope bytes s m [] new after h =
    subst (HasSize scope.size) (sym h.3.0) (size_of_one scope bytes s m h.0 h.1 h.2)
size_of_each scope bytes s m (k ∷ ks) new after h = size_of_each scope h.0 h.1 k ks new after h.3

pub size_of_all : (scope : Scope) (count : ℕ) (bytes : List ℕ) (s : Stream) (made : List MadeChange) (new : List ℕ) (stopped : Option Refusal) →
    ChangesTimes scope count bytes s made new stopped → HasSize scope.size new
size_of_all scope count bytes s [] new stopped h = absurd (let some = h.some in omega (arith, some))
size_of_all scope count bytes s (m ∷ ms) new stopped h = size_of_each scope bytes s m ms new h.after h.each

-- ---- the call

module _ (seed size : ℕ) (old : List ℕ) where
  pub change_made : (bytes : List ℕ) (result : ℕ) (new : List ℕ) → size ≤ length old → IsChangedBy seed (length old) (take size old) bytes →
      HasSize (length old) bytes → IsPutInBuffer bytes old result new → ChangesOnce seed size old result new
  change_made bytes result new inside is fits put = record {
    writes = writes_front bytes old result new put fits.fits fits.some;
    changed = λ some. record {
      inside = inside;
      is = subst (IsChangedBy seed (length old) (take size old)) (sym (front_is bytes old result new put)) is;
    };
    refused = λ none. absurd (omega (arith, put.size, fits.some));
  }

  pub change_outside : length old < size → ChangesOnce seed size old 0 old
  change_outside outside = record { writes = writes_nothing old; changed = λ some. absurd (some refl); refused = λ none. inl outside }

  pub change_refused : (refusal : Refusal) → IsRefusal (any_change (length old)) (take size old) (seeded seed) refusal → ChangesOnce seed size old 0 old
  change_refused refusal why = record { writes = writes_nothing old; changed = λ some. absurd (some refl); refused = λ none. inr (refusal, why) }

-- ---- what is answered

pub size_so : (scope : Scope) (bytes : List ℕ) (s : Stream) (r : Result ChangedModule Refusal) →
    IfOk r (λ m. ChangesTimes scope 1 bytes s m.made.items m.bytes.items m.stopped) → IfOk r (λ m. HasSize scope.size m.bytes.items)
size_so scope bytes s (Err e) h = tt
size_so scope bytes s (Ok m) h = size_of_all scope 1 bytes s m.made.items m.bytes.items m.stopped h
