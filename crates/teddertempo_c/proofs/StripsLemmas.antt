-- A module without its custom sections that name places in its code.
use Rattle.std.proofs.Common.{ℕ, ◌+◌, ◌-◌, ◌<◌, ◌≤◌, inl, inr, List, [], ◌∷◌, length, drop, refl, sym, ap, subst, arith, length-append}
use Rattle.std.specs.Prelude.{slice_range}
use Rattle.std.proofs.Math.Nat.{min-le_left}
use Rattle.std.proofs.lemmas.List.{length-take}
use Rattle.wasm_sections.specs.Debug.{bytes_of_sections, AreKept, IsWithoutDebug}
use Rattle.wasm_sections.specs.Laws.{AreJoined}
use Rattle.wasm_sections.specs.Section.{preamble}
use Rattle.wasm_sections.specs.Sections.{IsSectionFault}
use Rattle.wasm_sections.specs.declared.fault.ModuleFault.{ModuleFault}
use Rattle.wasm_sections.specs.declared.section.Section.{Section}
use Rattle.teddertempo_c.specs.Strips.{IsStripped, Strips}
use Rattle.teddertempo_c.specs.Writes.{IsPutInBuffer}
use Rattle.teddertempo_c.proofs.WritesLemmas.{front_is, writes_front, writes_nothing}

-- ---- its size

-- what is kept has no more bytes than there were
kept_fits : (bytes : List ℕ) (from to : ℕ) (sections kept : List Section) → AreJoined from sections to → to ≤ length bytes → AreKept bytes sections kept →
    from + length (bytes_of_sections bytes kept) ≤ to
kept_fits bytes from to [] kept joined inside none =
    subst (λ (ks : List Section). from + length (bytes_of_sections bytes ks) ≤ to) (sym none) (omega (arith, joined))
kept_fits bytes from to (s ∷ ss) kept joined inside (inl (debug, are)) =
    let rest = kept_fits bytes s.end to ss kept joined.3 inside are in
    let start = joined.0 in
    let first = joined.1 in
    let order = joined.2 in
    omega (arith, rest, start, first, order)
kept_fits bytes from to (s ∷ ss) kept joined inside (inr (other, more, is, are)) =
    subst (λ (ks : List Section). from + length (bytes_of_sections bytes ks) ≤ to) (sym is) (
    let rest = kept_fits bytes s.end to ss more joined.3 inside are in
    let start = joined.0 in
    let first = joined.1 in
    let order = joined.2 in
    let own = length-take (s.end - s.start) (drop s.start bytes) in
    let both = length-append (slice_range bytes s.start s.end) (bytes_of_sections bytes more) in
    let few = min-le_left (s.end - s.start) (length (drop s.start bytes)) in
    omega (arith, rest, start, first, order, own, both, few))

pub no_longer : (bytes : List ℕ) (sections : List Section) (new : List ℕ) → AreJoined 8 sections (length bytes) → IsWithoutDebug bytes sections new →
    length new ≤ length bytes
no_longer bytes sections new joined is =
    let kept = kept_fits bytes 8 (length bytes) sections is.kept joined (omega arith) is.are in
    let size = ap length is.written in
    let both = length-append preamble (bytes_of_sections bytes is.kept) in
    omega (arith, kept, size, both)

pub some_left : (bytes : List ℕ) (sections : List Section) (new : List ℕ) → IsWithoutDebug bytes sections new → 0 < length new
some_left bytes sections new is =
    let size = ap length is.written in
    let both = length-append preamble (bytes_of_sections bytes is.kept) in
    omega (arith, size, both)

-- ---- what the call writes

pub strip_made : (old bytes : List ℕ) (result : ℕ) (new : List ℕ) → IsStripped old bytes → 0 < length bytes → length bytes ≤ length old →
    IsPutInBuffer bytes old result new → Strips old result new
strip_made old bytes result new is some fits put = record {
  writes = writes_front bytes old result new put fits some;
  stripped = λ other. subst (IsStripped old) (sym (front_is bytes old result new put)) is;
  refused = λ none. absurd (omega (arith, put.size, some, none));
}

pub strip_refused : (old : List ℕ) (fault : ModuleFault) (offset : ℕ) → IsSectionFault old fault offset → Strips old 0 old
strip_refused old fault offset h = record { writes = writes_nothing old; stripped = λ some. absurd (some refl); refused = λ none. (fault, offset, h) }
