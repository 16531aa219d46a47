-- Entries of the code section: their sizes are read exactly, and their places follow from the sizes.
use Rattle.std.proofs.Common.{◌≡◌, inl, inr, ℕ, zero, suc, ◌+◌, ◌-◌, ◌<◌, ◌≤◌, List, [], ◌∷◌, ◌++◌, length, Result, Ok, Err, refl, sym, ap, subst, ◌∙◌, arith}
use Rattle.std.specs.Prelude.{IfOk, IfErr, MatchResult}
use Rattle.std.specs.Global.{Vec}
use Rattle.std.proofs.lemmas.List.{length-append}
use Rattle.wasm_code.specs.declared.fault.Cause.{Cause}
use Rattle.wasm_code.specs.Reader.{◌>>=◌, unsigned_at, bytes_at}
use Rattle.wasm_code.specs.laws.GrammarLemmas.{Reader, Exact, bind_ok, bind_err, ok_is, exact_of, exact_then, bytes_exact}
use Rattle.wasm_code.specs.laws.NumberExact.{unsigned_exact}
use Rattle.wasm_sections.specs.declared.fault.ModuleError.{ModuleError}
use Rattle.wasm_sections.specs.declared.fault.ModuleFault.TheVariants as faults
use Rattle.wasm_lists.specs.declared.entries.Entry.{Entry}
use Rattle.wasm_lists.specs.declared.refusal.Refusal.{Refusal}
use Rattle.wasm_lists.specs.declared.refusal.Refusal.TheVariants as refusals
use Rattle.wasm_lists.specs.List.{SpellsList, IsListFault}
use Rattle.wasm_lists.specs.Entries.{Measured, SpellsMeasuredSize, FailsSized, entries_from, SpellsEntries}
use Rattle.wasm_lists.specs.Reader.{each_at, skip_at, measured_at, measured_size_at, entry_of, entry_at, StopsBy, FailsWhole, AreRead, error_at}
use Rattle.wasm_lists.proofs.ListLemmas.{counted, item_fails, has_more, fault_is, one_list, whole_spells, whole_reads, only_of}

measured_exact : {A : Type 0} {Spells : List ℕ → A → Type 0} {Fails : List ℕ → Cause → Type 0} {at : Reader A} → Exact Spells Fails at →
    Exact (Measured Spells) Fails (measured_at at)
unfolding measured_at
measured_exact {A} {Spells} {Fails} {at} one = record {
  takes = λ bytes y rest e.
      let a = bind_ok (at bytes) (λ x. Ok ((x.0, length bytes - length x.1), x.1)) (y, rest) e in
      let p = ok_is ((a.0.0, length bytes - length a.0.1), a.0.1) (y, rest) a.2 in
      let t = one.takes bytes a.0.0 a.0.1 a.1 in
      subst (λ (q : (A × ℕ) × List ℕ). (text : List ℕ) × (bytes ≡ text ++ q.1) × Measured Spells text q.0) p
      (t.0, t.1, record { spells = t.2; bytes = omega (arith, ap length t.1, length-append t.0 a.0.1) });
  again = λ text rest x s.
      let len : length (text ++ rest) - length rest ≡ x.1 = omega (arith, length-append text rest, s.bytes) in
      rw (one.again text rest x.0 s.spells) (ap (λ (n : ℕ). Ok ((x.0, n), rest)) len);
  stops = λ bytes cause e.
      elim (bind_err (at bytes) (λ x. Ok ((x.0, length bytes - length x.1), x.1)) cause e) [
        | inl here ↦ one.stops bytes cause here
        | inr there ↦ let e' = there.2 in absurd cc
      ];
  fails = λ bytes cause f. rw (one.fails bytes cause f) refl;
}

pub sized_exact : Exact SpellsMeasuredSize FailsSized measured_size_at
unfolding measured_size_at
sized_exact = exact_then (measured_exact (unsigned_exact 32)) (λ size. exact_of (λ _. size) (bytes_exact size.0))

-- an entry takes the bytes of its size, and as many as it says
sized_length : (bytes : List ℕ) (size : ℕ × ℕ) (rest : List ℕ) → measured_size_at bytes ≡ Ok (size, rest) → length bytes ≡ size.1 + size.0 + length rest
sized_length bytes size rest e =
    let t = sized_exact.takes bytes size rest e in
    let s = t.2 in
    omega (
      arith,
      ap length t.1,
      length-append t.0 rest,
      ap length s.parts,
      length-append s.front s.back,
      s.first.bytes,
      s.second.spells.0,
      ap (λ (p : ℕ × ℕ). p.0) s.second.made,
      ap (λ (p : ℕ × ℕ). p.1) s.second.made,
    )

-- ---- one entry

-- what is read as a number, and skipped, is an entry
pub entry_is : (to : ℕ) (bytes contents rest : List ℕ) (n : ℕ) → length bytes ≤ to → unsigned_at 32 bytes ≡ Ok (n, contents) →
    skip_at n contents ≡ Ok (tt, rest)
    → entry_at to bytes ≡ Ok (record { start = to - length bytes; contents = to - length contents; end = to - length rest }, rest)
unfolding entry_at measured_size_at measured_at skip_at
entry_is to bytes contents rest n fits number skip =
    let b = bind_ok (bytes_at n contents) (λ x. Ok (tt, x.1)) (tt, rest) skip in
    let same : b.0.1 ≡ rest = ap (λ (q : Unit {0} × List ℕ). q.1) (ok_is (tt, b.0.1) (tt, rest) b.2) in
    let t = (bytes_exact n).takes contents b.0.0 b.0.1 b.1 in
    let u = (unsigned_exact 32).takes bytes n contents number in
    let first : to - length bytes + (length bytes - length contents) ≡ to - length contents = omega (arith, ap length u.1, length-append u.0 contents) in
    let second : to - length contents + n ≡ to - length rest = omega (
      arith,
      ap length u.1,
      length-append u.0 contents,
      ap length t.1,
      length-append t.0 b.0.1,
      t.2.0,
      ap length same,
    ) in
    rw (number, b.1, first, second, same) refl

pub number_fails : (to : ℕ) (bytes : List ℕ) (cause : Cause) → unsigned_at 32 bytes ≡ Err cause → entry_at to bytes ≡ Err cause
unfolding entry_at measured_size_at measured_at
number_fails to bytes cause e = rw e refl

pub skip_fails : (to : ℕ) (bytes contents : List ℕ) (n : ℕ) (cause : Cause) → unsigned_at 32 bytes ≡ Ok (n, contents) → skip_at n contents ≡ Err cause →
    entry_at to bytes ≡ Err cause
unfolding entry_at measured_size_at measured_at skip_at
skip_fails to bytes contents n cause number skip =
    elim (bind_err (bytes_at n contents) (λ x. Ok (tt, x.1)) cause skip) [
      | inl here ↦ rw (number, here) refl
      | inr there ↦ let e = there.2 in absurd cc
    ]

pub skip_shorter : (n : ℕ) (bytes rest : List ℕ) → skip_at n bytes ≡ Ok (tt, rest) → length rest ≤ length bytes
unfolding skip_at
skip_shorter n bytes rest skip =
    let b = bind_ok (bytes_at n bytes) (λ x. Ok (tt, x.1)) (tt, rest) skip in
    let same : b.0.1 ≡ rest = ap (λ (q : Unit {0} × List ℕ). q.1) (ok_is (tt, b.0.1) (tt, rest) b.2) in
    let t = (bytes_exact n).takes bytes b.0.0 b.0.1 b.1 in
    omega (arith, ap length t.1, length-append t.0 b.0.1, ap length same)

-- ---- entries are sizes with their places

-- what is read as an entry is a size
sized_of : (to : ℕ) (bytes : List ℕ) (entry : Entry) (rest : List ℕ) → entry_at to bytes ≡ Ok (entry, rest) →
    (size : ℕ × ℕ) × (measured_size_at bytes ≡ Ok (size, rest)) × (entry_of (to - length bytes) size ≡ entry)
unfolding entry_at
sized_of to bytes entry rest e =
    let a = bind_ok (measured_size_at bytes) (λ size. Ok (entry_of (to - length bytes) size.0, size.1)) (entry, rest) e in
    let p = ok_is (entry_of (to - length bytes) a.0.0, a.0.1) (entry, rest) a.2 in (
      a.0.0,
      a.1 ∙ ap (λ (q : Entry × List ℕ). Ok (a.0.0, q.1)) p,
      ap (λ (q : Entry × List ℕ). q.0) p,
    )

sized_fails : (to : ℕ) (bytes : List ℕ) (cause : Cause) → entry_at to bytes ≡ Err cause → measured_size_at bytes ≡ Err cause
unfolding entry_at
sized_fails to bytes cause e =
    elim (bind_err (measured_size_at bytes) (λ size. Ok (entry_of (to - length bytes) size.0, size.1)) cause e) [
      | inl here ↦ here
      | inr there ↦ let f = there.2 in absurd cc
    ]

-- one more entry in front
one_more : (start next : ℕ) (size : ℕ × ℕ) (entry : Entry) (sizes : List (ℕ × ℕ)) (entries all : List Entry) → all ≡ entry ∷ entries →
    entry_of start size ≡ entry → next ≡ start + size.1 + size.0 → entries ≡ entries_from next sizes → all ≡ entries_from start (size ∷ sizes)
one_more start next size entry sizes entries all is first place rest =
    let front : entry ∷ entries ≡ entry_of start size ∷ entries = ap (λ (x : Entry). x ∷ entries) (sym first) in
    let back : entry_of start size ∷ entries ≡ entry_of start size ∷ entries_from next sizes = ap (λ (l : List Entry). entry_of start size ∷ l) rest in
    let later : entry_of start size ∷ entries_from next sizes ≡ entries_from start (size ∷ sizes) =
    ap (λ (k : ℕ). entry_of start size ∷ entries_from k sizes) place in
    is ∙ front ∙ back ∙ later

sizes_of : (to n : ℕ) (bytes : List ℕ) (entries : List Entry) (rest : List ℕ) → length bytes ≤ to →
    each_at n (entry_at to) bytes ≡ Ok (entries, rest)
    → (sizes : List (ℕ × ℕ)) × (each_at n measured_size_at bytes ≡ Ok (sizes, rest)) × (entries ≡ entries_from (to - length bytes) sizes)
unfolding each_at
sizes_of to zero bytes entries rest fits e =
    let p = ok_is ([], bytes) (entries, rest) e in
    ([], ap (λ (q : List Entry × List ℕ). Ok ([], q.1)) p, ap (λ (q : List Entry × List ℕ). q.0) (sym p))
sizes_of to (suc n) bytes entries rest fits e =
    let a = bind_ok (entry_at to bytes) (λ y. each_at n (entry_at to) y.1 >>= λ ys. Ok (y.0 ∷ ys.0, ys.1)) (entries, rest) e in
    let b = bind_ok (each_at n (entry_at to) a.0.1) (λ ys. Ok (a.0.0 ∷ ys.0, ys.1)) (entries, rest) a.2 in
    let p = ok_is (a.0.0 ∷ b.0.0, b.0.1) (entries, rest) b.2 in
    let s = sized_of to bytes a.0.0 a.0.1 a.1 in
    let len = sized_length bytes s.0 a.0.1 s.1 in
    let later = sizes_of to n a.0.1 b.0.0 b.0.1 (omega (arith, fits, len)) b.1 in
    let place : to - length a.0.1 ≡ to - length bytes + s.0.1 + s.0.0 = omega (arith, fits, len) in
    let rest-is : b.0.1 ≡ rest = ap (λ (q : List Entry × List ℕ). q.1) p in
    let all : entries ≡ a.0.0 ∷ b.0.0 = ap (λ (q : List Entry × List ℕ). q.0) (sym p) in (
      s.0 ∷ later.0,
      rw (s.1, later.1) (ap (λ (r : List ℕ). Ok (s.0 ∷ later.0, r)) rest-is),
      one_more (to - length bytes) (to - length a.0.1) s.0 a.0.0 later.0 b.0.0 entries all s.2 place later.2,
    )

pub sizes_stop : (to n : ℕ) (bytes : List ℕ) (refusal : Refusal) (left : ℕ) → length bytes ≤ to → StopsBy (entry_at to) n bytes refusal left →
    StopsBy measured_size_at n bytes refusal left
sizes_stop to n bytes (refusals.Bytes cause) left fits s =
    let b = s.behind in
    let t = sizes_of to b.before bytes s.items s.rest fits b.reads in
    record {
      items = t.0;
      rest = s.rest;
      behind = record { before = b.before; fewer = b.fewer; reads = t.1; fails = sized_fails to s.rest cause b.fails };
      is_left = s.is_left;
    }
sizes_stop to n bytes refusals.Memory left fits s = tt

-- ---- a whole section

pub are_read : (start : ℕ) (text rest behind : List ℕ) (n : ℕ) (entries : List Entry) → unsigned_at 32 text ≡ Ok (n, rest) →
    each_at n (entry_at (start + length text)) rest ≡ Ok (entries, behind) → behind ≡ [] → AreRead start text entries
are_read start text rest behind n entries counts reads none =
    let u = (unsigned_exact 32).takes text n rest counts in
    let within : length rest ≤ length text = omega (arith, ap length u.1, length-append u.0 rest) in
    let t = sizes_of (start + length text) n rest entries behind (omega (arith, within)) reads in
    let place : start + length text - length rest ≡ start + (length text - length rest) = omega (arith, within) in
    record {
      number = n;
      rest = rest;
      sizes = t.0;
      counts = counts;
      reads = counted measured_size_at text rest n counts ∙ t.1 ∙ ap (λ (b : List ℕ). Ok (t.0, b)) none;
      placed = t.2 ∙ ap (λ (k : ℕ). entries_from k t.0) place;
    }

pub size_fails : (start : ℕ) (text rest : List ℕ) (n : ℕ) (refusal : Refusal) (left : ℕ) → unsigned_at 32 text ≡ Ok (n, rest) →
    StopsBy (entry_at (start + length text)) n rest refusal left →
    FailsWhole measured_size_at start text (error_at refusal (start + (length text - left)) start)
size_fails start text rest n refusal left counts s =
    let u = (unsigned_exact 32).takes text n rest counts in
    item_fails measured_size_at start text rest n refusal left counts
    (sizes_stop (start + length text) n rest refusal left (omega (arith, ap length u.1, length-append u.0 rest)) s)

pub more_sizes : (start : ℕ) (text rest behind : List ℕ) (n : ℕ) (entries : List Entry) (e : ModuleError) → unsigned_at 32 text ≡ Ok (n, rest) →
    each_at n (entry_at (start + length text)) rest ≡ Ok (entries, behind) → 0 < length behind → e.kind ≡ faults.TrailingBytes →
    e.offset ≡ start + (length text - length behind) → FailsWhole measured_size_at start text e
more_sizes start text rest behind n entries e counts reads some kind offset =
    let u = (unsigned_exact 32).takes text n rest counts in
    let t = sizes_of (start + length text) n rest entries behind (omega (arith, ap length u.1, length-append u.0 rest)) reads in
    has_more measured_size_at start text rest behind n t.0 e counts t.1 some kind offset

-- where the first entry starts
first_at : (text : List ℕ) (sizes : List (ℕ × ℕ)) (n : ℕ) (rest : List ℕ) (s : SpellsList SpellsMeasuredSize text sizes) → unsigned_at 32 text ≡ Ok (n, rest) →
    length text - length rest ≡ length s.front
first_at text sizes n rest s counts =
    let again : unsigned_at 32 text ≡ Ok (s.value, s.back) = ap (unsigned_at 32) s.parts ∙ (unsigned_exact 32).again s.front s.back s.value s.first in
    let same : s.back ≡ rest = ap (λ (q : ℕ × List ℕ). q.1) (ok_is (s.value, s.back) (n, rest) (sym again ∙ counts)) in
    omega (arith, ap length same, ap length s.parts, length-append s.front s.back)

entries_spell : (start : ℕ) (text : List ℕ) (entries : List Entry) → AreRead start text entries → SpellsEntries start text entries
entries_spell start text entries r =
    let s = whole_spells sized_exact text r.sizes r.reads in
    record {
      sizes = r.sizes;
      list = s;
      placed = r.placed ∙ ap (λ (k : ℕ). entries_from (start + k) r.sizes) (first_at text r.sizes r.number r.rest s r.counts);
    }

-- a text has one list of entries
pub one_list_of_entries : (start : ℕ) (text : List ℕ) (xs ys : List Entry) → SpellsEntries start text xs → SpellsEntries start text ys → xs ≡ ys
one_list_of_entries start text xs ys s t =
    let u = (unsigned_exact 32).again s.list.front s.list.back s.list.value s.list.first in
    let counts : unsigned_at 32 text ≡ Ok (s.list.value, s.list.back) = ap (unsigned_at 32) s.list.parts ∙ u in
    let here = first_at text s.sizes s.list.value s.list.back s.list counts in
    let there = first_at text t.sizes s.list.value s.list.back t.list counts in
    s.placed
    ∙ ap (λ (k : ℕ). entries_from (start + k) s.sizes) (sym here ∙ there)
    ∙ ap (λ (l : List (ℕ × ℕ)). entries_from (start + length t.list.front) l) (one_list sized_exact text s.sizes t.sizes s.list t.list)
    ∙ sym t.placed

pub entries_found : (start : ℕ) (text : List ℕ) (r : Result (Vec Entry) ModuleError) → IfOk r (λ v. AreRead start text v.items) →
    IfOk r (λ v. SpellsEntries start text v.items)
entries_found start text (Ok v) h = entries_spell start text v.items h
entries_found start text (Err e) h = tt

pub entries_only : (start : ℕ) (text : List ℕ) (r : Result (Vec Entry) ModuleError) (entries : List Entry) → IfOk r (λ v. AreRead start text v.items)
    → IfErr r (λ e. FailsWhole measured_size_at start text e) → SpellsEntries start text entries →
    MatchResult r (λ v. v.items ≡ entries) (λ e. e.kind ≡ faults.Memory)
entries_only start text (Ok v) entries h f s =
    let same : h.sizes ≡ s.sizes = ap (λ (q : List (ℕ × ℕ) × List ℕ). q.0)
    (ok_is (h.sizes, []) (s.sizes, []) (sym h.reads ∙ whole_reads sized_exact text s.sizes s.list)) in
    h.placed
    ∙ ap (λ (l : List (ℕ × ℕ)). entries_from (start + (length text - length h.rest)) l) same
    ∙ ap (λ (k : ℕ). entries_from (start + k) s.sizes) (first_at text s.sizes h.number h.rest s.list h.counts)
    ∙ sym s.placed
entries_only start text (Err e) entries h f s = only_of sized_exact start text s.sizes e (whole_reads sized_exact text s.sizes s.list) f

pub entries_fault : (start : ℕ) (text : List ℕ) (r : Result (Vec Entry) ModuleError) → IfErr r (λ e. FailsWhole measured_size_at start text e) →
    IfErr r (λ e. IsListFault SpellsMeasuredSize FailsSized start text e.kind e.offset)
entries_fault start text (Ok v) h = tt
entries_fault start text (Err e) h = fault_is sized_exact start text e h
