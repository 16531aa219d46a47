-- The loop that reads a list's items, and that what it answers is what is spelled.
use Rattle.std.proofs.Common.{◌≡◌, inl, inr, ℕ, zero, suc, ◌+◌, ◌-◌, ◌<◌, ◌≤◌, List, [], ◌∷◌, ◌++◌, length, Option, Some, Result, Ok, Err}
use Rattle.std.proofs.Common.{refl, sym, ap, subst, ◌∙◌, add-one, arith}
use Rattle.std.specs.Prelude.{IfOk, IfErr, MatchResult}
use Rattle.std.specs.Global.{Vec}
use Rattle.std.proofs.lemmas.List.{length-append, append-nil}
use Rattle.wasm_code.specs.declared.fault.Cause.{Cause}
use Rattle.wasm_code.specs.declared.fault.Cause.TheVariants.{Truncated, UnknownOpcode, BadInteger, BadImmediate}
use Rattle.wasm_code.specs.Grammar.{FailsTimes}
use Rattle.wasm_code.specs.Reader.{◌>>=◌, unsigned_at}
use Rattle.wasm_code.specs.laws.GrammarLemmas.{Reader, Exact, bind_ok, ok_is, exact_ends, exact_of, exact_then}
use Rattle.wasm_code.specs.laws.NumberExact.{unsigned_exact}
use Rattle.wasm_sections.specs.declared.fault.ModuleError.{ModuleError}
use Rattle.wasm_sections.specs.declared.fault.ModuleFault.{ModuleFault}
use Rattle.wasm_sections.specs.declared.fault.ModuleFault.TheVariants as faults
use Rattle.wasm_lists.specs.List.{Each, SpellsList, FailsList, ItemFails, ListStopsAt, HasMore, IsListFault, fault_of}
use Rattle.wasm_lists.specs.Reader.{each_at, list_at, FailsBehindItems, StopsEach, StopsList, GoesOnBehindList, FailsWhole}
use Rattle.wasm_lists.specs.Reader.{AnswersUnlessMemory, StopsBy, RunsTo, error_at, ReadsCut, FailsKnown}
use Rattle.wasm_lists.specs.declared.refusal.Refusal.{Refusal}
use Rattle.wasm_lists.specs.declared.refusal.Refusal.TheVariants as refusals

-- ---- lists are read exactly

pub each_exact : {A : Type 0} {Spells : List ℕ → A → Type 0} {Fails : List ℕ → Cause → Type 0} {at : Reader A} → Exact Spells Fails at → (n : ℕ) →
    Exact (Each n Spells) (FailsTimes n Fails Spells) (each_at n at)
unfolding each_at
each_exact one zero = exact_ends []
each_exact one (suc n) = exact_then one (λ x. exact_of (λ xs. x ∷ xs) (each_exact one n))

pub list_exact : {A : Type 0} {Spells : List ℕ → A → Type 0} {Fails : List ℕ → Cause → Type 0} {at : Reader A} → Exact Spells Fails at →
    Exact (SpellsList Spells) (FailsList Spells Fails) (list_at at)
unfolding list_at
list_exact one = exact_then (unsigned_exact 32) (λ n. each_exact one n)

-- what reading takes is not longer than what is there
pub shorter : {A : Type 0} {Spells : List ℕ → A → Type 0} {Fails : List ℕ → Cause → Type 0} {at : Reader A} → Exact Spells Fails at → (bytes : List ℕ)
    (x : A) (rest : List ℕ) → at bytes ≡ Ok (x, rest) → length rest ≤ length bytes
shorter one bytes x rest e = let t = one.takes bytes x rest e in omega (arith, ap length t.1, length-append t.0 rest)

-- ---- the loop

pub begins : {A : Type 0} (at : Reader A) (bytes : List ℕ) → each_at 0 at bytes ≡ Ok ([], bytes)
unfolding each_at
begins at bytes = refl

pub each_more : {A : Type 0} (at : Reader A) (i : ℕ) (bytes : List ℕ) (xs : List A) (rest : List ℕ) (x : A) (behind : List ℕ) →
    each_at i at bytes ≡ Ok (xs, rest) → at rest ≡ Ok (x, behind) → each_at (suc i) at bytes ≡ Ok (xs ++ x ∷ [], behind)
unfolding each_at
each_more {A} at zero bytes xs rest x behind e f =
    let p = ok_is ([], bytes) (xs, rest) e in
    let here : at bytes ≡ Ok (x, behind) = ap (λ (q : List A × List ℕ). at q.1) p ∙ f in
    rw here (ap (λ (q : List A × List ℕ). Ok (q.0 ++ x ∷ [], behind)) p)
each_more {A} at (suc i) bytes xs rest x behind e f =
    let a = bind_ok (at bytes) (λ y. each_at i at y.1 >>= λ ys. Ok (y.0 ∷ ys.0, ys.1)) (xs, rest) e in
    let b = bind_ok (each_at i at a.0.1) (λ ys. Ok (a.0.0 ∷ ys.0, ys.1)) (xs, rest) a.2 in
    let p = ok_is (a.0.0 ∷ b.0.0, b.0.1) (xs, rest) b.2 in
    let f' : at b.0.1 ≡ Ok (x, behind) = ap (λ (q : List A × List ℕ). at q.1) p ∙ f in
    let later = each_more at i a.0.1 b.0.0 b.0.1 x behind b.1 f' in
    rw (a.1, later) (ap (λ (q : List A × List ℕ). Ok (q.0 ++ x ∷ [], behind)) p)

pub goes_on : {A : Type 0} (at : Reader A) (i : ℕ) (bytes : List ℕ) (xs : List A) (rest : List ℕ) (x : A) (behind : List ℕ) →
    each_at i at bytes ≡ Ok (xs, rest) → at rest ≡ Ok (x, behind) → each_at (i + 1) at bytes ≡ Ok (xs ++ x ∷ [], behind)
goes_on at i bytes xs rest x behind e f = rw add-one (each_more at i bytes xs rest x behind e f)

-- one that fails behind fewer than there are
pub each_fails : {A : Type 0} (at : Reader A) (before n : ℕ) (bytes : List ℕ) (xs : List A) (rest : List ℕ) (cause : Cause) → before < n →
    each_at before at bytes ≡ Ok (xs, rest) → at rest ≡ Err cause → each_at n at bytes ≡ Err cause
unfolding each_at
each_fails at before zero bytes xs rest cause lt e f = absurd (omega (arith, lt))
each_fails {A} at zero (suc n) bytes xs rest cause lt e f =
    let p = ok_is ([], bytes) (xs, rest) e in
    let here : at bytes ≡ Err cause = ap (λ (q : List A × List ℕ). at q.1) p ∙ f in
    rw here refl
each_fails {A} at (suc before) (suc n) bytes xs rest cause lt e f =
    let a = bind_ok (at bytes) (λ y. each_at before at y.1 >>= λ ys. Ok (y.0 ∷ ys.0, ys.1)) (xs, rest) e in
    let b = bind_ok (each_at before at a.0.1) (λ ys. Ok (a.0.0 ∷ ys.0, ys.1)) (xs, rest) a.2 in
    let p = ok_is (a.0.0 ∷ b.0.0, b.0.1) (xs, rest) b.2 in
    let f' : at b.0.1 ≡ Err cause = ap (λ (q : List A × List ℕ). at q.1) p ∙ f in
    rw (a.1, each_fails at before n a.0.1 b.0.0 b.0.1 cause (omega (arith, lt)) b.1 f') refl

pub behind_fails : {A : Type 0} (at : Reader A) (n : ℕ) (bytes : List ℕ) (cause : Cause) (xs : List A) (back : List ℕ) →
    FailsBehindItems at n bytes cause xs back → each_at n at bytes ≡ Err cause
behind_fails at n bytes cause xs back s = each_fails at s.before n bytes xs back cause s.fewer s.reads s.fails

pub stops_fails : {A : Type 0} (at : Reader A) (n : ℕ) (bytes : List ℕ) (cause : Cause) (left : ℕ) → StopsEach at n bytes cause left →
    each_at n at bytes ≡ Err cause
stops_fails at n bytes cause left s = behind_fails at n bytes cause s.items s.rest s.behind

pub stopped : {A X : Type 0} (at : Reader A) (n i : ℕ) (bytes : List ℕ) (xs : List A) (rest : List ℕ) (refusal : Refusal) (view : X → A × List ℕ)
    → i < n → each_at i at bytes ≡ Ok (xs, rest) → AnswersUnlessMemory view (Err refusal) (at rest) → RunsTo at n bytes xs rest (Some refusal)
stopped at n i bytes xs rest (refusals.Bytes cause) view lt e f = record { before = i; fewer = lt; reads = e; fails = f }
stopped at n i bytes xs rest refusals.Memory view lt e f = tt

-- a list of which the items aren't read
pub refused : {A X : Type 0} (at : Reader A) (text rest : List ℕ) (n : ℕ) (o : Option Refusal) (refusal : Refusal) (xs : List A) (back : List ℕ)
    (view : X → List A × List ℕ) → unsigned_at 32 text ≡ Ok (n, rest) → RunsTo at n rest xs back o → o ≡ Some refusal
    → AnswersUnlessMemory view (Err refusal) (list_at at text)
unfolding list_at
refused at text rest n o (refusals.Bytes cause) xs back view e r is =
    rw e (behind_fails at n rest cause xs back (subst (λ (q : Option Refusal). RunsTo at n rest xs back q) is r))
refused at text rest n o refusals.Memory xs back view e r is = tt

-- ---- a list that is the whole of a text

pub counted : {A : Type 0} (at : Reader A) (text rest : List ℕ) (n : ℕ) → unsigned_at 32 text ≡ Ok (n, rest) → list_at at text ≡ each_at n at rest
unfolding list_at
counted at text rest n e = rw e refl

pub empty_is : (text : List ℕ) → length text ≡ 0 → text ≡ []
empty_is [] e = refl
empty_is (b ∷ text) e = absurd (omega (arith, e))

pub whole : {A : Type 0} (at : Reader A) (text rest behind : List ℕ) (n : ℕ) (xs : List A) → unsigned_at 32 text ≡ Ok (n, rest) →
    each_at n at rest ≡ Ok (xs, behind) → length behind ≡ 0 → list_at at text ≡ Ok (xs, [])
whole {A} at text rest behind n xs e f none = counted at text rest n e ∙ f ∙ ap (λ (b : List ℕ). Ok (xs, b)) (empty_is behind none)

pub item_fails : {A : Type 0} (at : Reader A) (start : ℕ) (text rest : List ℕ) (n : ℕ) (refusal : Refusal) (left : ℕ) →
    unsigned_at 32 text ≡ Ok (n, rest) → StopsBy at n rest refusal left → FailsWhole at start text (error_at refusal (start + (length text - left)) start)
item_fails at start text rest n (refusals.Bytes cause) left e s =
    inl (cause, refl, inr (record { number = n; rest = rest; left = left; counts = e; stops = s; is_at = refl }))
item_fails at start text rest n refusals.Memory left e s = inr (inr (refl, refl))

pub has_more : {A : Type 0} (at : Reader A) (start : ℕ) (text rest behind : List ℕ) (n : ℕ) (xs : List A) (e : ModuleError) →
    unsigned_at 32 text ≡ Ok (n, rest) → each_at n at rest ≡ Ok (xs, behind) → 0 < length behind → e.kind ≡ faults.TrailingBytes →
    e.offset ≡ start + (length text - length behind) → FailsWhole at start text e
has_more at start text rest behind n xs e counts reads some kind offset =
    inr (inl (kind, record { items = xs; rest = behind; reads = counted at text rest n counts ∙ reads; some = some; is_at = offset }))

-- ---- what isn't read because of an unknown form

pub stops_of : {A : Type 0} (at : Reader A) (start : ℕ) (text rest back : List ℕ) (n : ℕ) (xs : List A) (cause : Cause) (offset : ℕ) →
    unsigned_at 32 text ≡ Ok (n, rest) → FailsBehindItems at n rest cause xs back → offset ≡ start + (length text - length back)
    → StopsList at start text cause offset
stops_of at start text rest back n xs cause offset e f is = record {
  number = n;
  rest = rest;
  left = length back;
  counts = e;
  stops = record { items = xs; rest = back; behind = f; is_left = refl };
  is_at = is;
}

pub cut_fails : {A : Type 0} (at : Reader A) (start : ℕ) (text : List ℕ) (n : ℕ) (xs : List A) (e : ModuleError) → ReadsCut at start text n xs e →
    FailsWhole at start text e
cut_fails at start text n xs e c = inl (c.cause, c.kind, inr (stops_of at start text c.rest c.back n xs c.cause e.offset c.counts c.fails c.is_at))

pub fails_whole : {A : Type 0} (at : Reader A) (start : ℕ) (text : List ℕ) (e : ModuleError) → FailsKnown at start text e → FailsWhole at start text e
fails_whole at start text e (inl c) = inl (c.0, c.1, inl (c.2, c.3))
fails_whole at start text e (inr (inl c)) = inl (c.0, c.2, inr c.3)
fails_whole at start text e (inr (inr c)) = inr c

abbrev pub error : ModuleFault → ℕ → ModuleError
error kind offset = record { kind = kind; offset = offset }

module _ {A : Type 0} {Spells : List ℕ → A → Type 0} {Fails : List ℕ → Cause → Type 0} {at : Reader A} (one : Exact Spells Fails at) where
  pub whole_spells : (text : List ℕ) (xs : List A) → list_at at text ≡ Ok (xs, []) → SpellsList Spells text xs
  whole_spells text xs e =
      let t = (list_exact one).takes text xs [] e in
      subst (λ (s : List ℕ). SpellsList Spells s xs) (sym (t.1 ∙ append-nil t.0)) t.2

  pub whole_reads : (text : List ℕ) (xs : List A) → SpellsList Spells text xs → list_at at text ≡ Ok (xs, [])
  whole_reads text xs s = ap (list_at at) (sym (append-nil text)) ∙ (list_exact one).again text [] xs s

  -- a text spells one list
  pub one_list : (text : List ℕ) (xs ys : List A) → SpellsList Spells text xs → SpellsList Spells text ys → xs ≡ ys
  one_list text xs ys s t =
      ap (λ (q : List A × List ℕ). q.0) (ok_is (xs, []) (ys, []) (sym (whole_reads text xs s) ∙ whole_reads text ys t))

  pub found : (text : List ℕ) (r : Result (Vec A) ModuleError) → IfOk r (λ v. list_at at text ≡ Ok (v.items, [])) →
      IfOk r (λ v. SpellsList Spells text v.items)
  found text (Ok v) e = whole_spells text v.items e
  found text (Err e) h = tt

  by_cause : (start : ℕ) (text : List ℕ) (cause : Cause) (offset : ℕ) → ListStopsAt Spells Fails start text cause offset →
      IsListFault Spells Fails start text (fault_of cause) offset
  by_cause start text Truncated offset s = s
  by_cause start text UnknownOpcode offset s = s
  by_cause start text BadInteger offset s = s
  by_cause start text BadImmediate offset s = s

  abbrev pub item_of : (start : ℕ) (text rest back : List ℕ) (n : ℕ) (xs : List A) (cause : Cause) (offset : ℕ) → unsigned_at 32 text ≡ Ok (n, rest) →
      FailsBehindItems at n rest cause xs back → offset ≡ start + (length text - length back) → ItemFails Spells Fails start text cause offset
  item_of start text rest back n xs cause offset e f is =
      let t = (unsigned_exact 32).takes text n rest e in
      let u = (each_exact one f.before).takes rest xs back f.reads in
      record {
        number = n;
        count = t.0;
        before = f.before;
        items = xs;
        front = u.0;
        back = back;
        parts = t.1 ∙ ap (λ (r : List ℕ). t.0 ++ r) u.1;
        counts = t.2;
        fewer = f.fewer;
        spelled = u.2;
        at = omega (arith, is, ap length t.1, length-append t.0 rest, ap length u.1, length-append u.0 back);
        fails = one.stops back cause f.fails;
      }

  pub item_stops : (start : ℕ) (text : List ℕ) (cause : Cause) (offset : ℕ) → StopsList at start text cause offset →
      ListStopsAt Spells Fails start text cause offset
  item_stops start text cause offset s =
      let stops = s.stops in
      let place : offset ≡ start + (length text - length stops.rest) = s.is_at ∙ ap (λ (k : ℕ). start + (length text - k)) stops.is_left in
      inr (item_of start text s.rest stops.rest s.number stops.items cause offset s.counts stops.behind place)

  pub fault_is : (start : ℕ) (text : List ℕ) (e : ModuleError) → FailsWhole at start text e → IsListFault Spells Fails start text e.kind e.offset
  fault_is start text e (inl s) =
      subst (λ (k : ModuleFault). IsListFault Spells Fails start text k e.offset) (sym s.1) (by_cause start text s.0 e.offset
      (elim s.2 [
        | inl count ↦ inl (record { fails = (unsigned_exact 32).stops text s.0 count.0; at = count.1 })
        | inr item ↦ item_stops start text s.0 e.offset item
      ]))
  fault_is start text e (inr (inl s)) =
      subst (λ (k : ModuleFault). IsListFault Spells Fails start text k e.offset) (sym s.0) (more s.1.rest refl)
    where
      more : (rest : List ℕ) → s.1.rest ≡ rest → IsListFault Spells Fails start text faults.TrailingBytes e.offset
      more [] is = absurd (omega (arith, s.1.some, ap length is))
      more (b ∷ back) is =
          let t = (list_exact one).takes text s.1.items s.1.rest s.1.reads in
          record {
            items = s.1.items;
            front = t.0;
            first = b;
            back = back;
            parts = t.1 ∙ ap (λ (r : List ℕ). t.0 ++ r) is;
            list = t.2;
            at = omega (arith, s.1.is_at, ap length t.1, length-append t.0 s.1.rest);
          }
  fault_is start text e (inr (inr s)) =
      subst (λ (k : ModuleFault). IsListFault Spells Fails start text k e.offset) (sym s.0) s.1

  pub fault : (start : ℕ) (text : List ℕ) (r : Result (Vec A) ModuleError) → IfErr r (λ e. FailsWhole at start text e) →
      IfErr r (λ e. IsListFault Spells Fails start text e.kind e.offset)
  fault start text (Ok v) h = tt
  fault start text (Err e) h = fault_is start text e h

  -- what is spelled is read, and nothing else
  pub only_of : (start : ℕ) (text : List ℕ) (xs : List A) (e : ModuleError) → list_at at text ≡ Ok (xs, []) → FailsWhole at start text e →
      e.kind ≡ faults.Memory
  unfolding list_at
  only_of start text xs e reads (inl s) =
      elim s.2 [
        | inl count ↦ let f = rw count.0 at reads in absurd cc
        | inr item ↦
            let f = rw (item.counts, stops_fails at item.number item.rest s.0 item.left item.stops) at reads in
            absurd cc
      ]
  only_of start text xs e reads (inr (inl s)) =
      let same = ok_is (s.1.items, s.1.rest) (xs, []) (sym s.1.reads ∙ reads) in
      absurd (omega (arith, s.1.some, ap (λ (q : List A × List ℕ). length q.1) same))
  only_of start text xs e reads (inr (inr s)) = s.0

  pub only : (start : ℕ) (text : List ℕ) (r : Result (Vec A) ModuleError) (xs : List A) → IfOk r (λ v. list_at at text ≡ Ok (v.items, [])) →
      IfErr r (λ e. FailsWhole at start text e) → SpellsList Spells text xs → MatchResult r (λ v. v.items ≡ xs) (λ e. e.kind ≡ faults.Memory)
  only start text (Ok v) xs e f s = ap (λ (q : List A × List ℕ). q.0) (ok_is (v.items, []) (xs, []) (sym e ∙ whole_reads text xs s))
  only start text (Err e) xs g f s = only_of start text xs e (whole_reads text xs s) f

  -- ---- what is spelled has no fault

  pub stops_list : (start : ℕ) (text : List ℕ) (cause : Cause) (offset : ℕ) → ItemFails Spells Fails start text cause offset →
      StopsList at start text cause offset
  stops_list start text cause offset i = record {
    number = i.number;
    rest = i.front ++ i.back;
    left = length i.back;
    counts = ap (unsigned_at 32) i.parts ∙ (unsigned_exact 32).again i.count (i.front ++ i.back) i.number i.counts;
    stops = record {
      items = i.items;
      rest = i.back;
      behind = record {
        before = i.before;
        fewer = i.fewer;
        reads = (each_exact one i.before).again i.front i.back i.items i.spelled;
        fails = one.fails i.back cause i.fails;
      };
      is_left = refl;
    };
    is_at = omega (arith, i.at, ap length i.parts, length-append i.count (i.front ++ i.back), length-append i.front i.back);
  }

  stop_fails : (start : ℕ) (text : List ℕ) (cause : Cause) (offset : ℕ) → ListStopsAt Spells Fails start text cause offset →
      FailsWhole at start text (error (fault_of cause) offset)
  stop_fails start text cause offset (inl c) = inl (cause, refl, inl ((unsigned_exact 32).fails text cause c.fails, c.at))
  stop_fails start text cause offset (inr i) = inl (cause, refl, inr (stops_list start text cause offset i))

  pub list_goes_on : (start : ℕ) (text : List ℕ) (offset : ℕ) → HasMore Spells start text offset → GoesOnBehindList at start text offset
  list_goes_on start text offset m = record {
    items = m.items;
    rest = m.first ∷ m.back;
    reads = ap (list_at at) m.parts ∙ (list_exact one).again m.front (m.first ∷ m.back) m.items m.list;
    some = omega arith;
    is_at = omega (arith, m.at, ap length m.parts, length-append m.front (m.first ∷ m.back));
  }

  pub no_list_fault : (start : ℕ) (text : List ℕ) (xs : List A) → SpellsList Spells text xs → (fault : ModuleFault) (offset : ℕ) →
      IsListFault Spells Fails start text fault offset → fault ≡ faults.Memory
  no_list_fault start text xs s faults.Truncated offset f =
      only_of start text xs (error faults.Truncated offset) (whole_reads text xs s) (stop_fails start text Truncated offset f)
  no_list_fault start text xs s faults.BadInteger offset f =
      only_of start text xs (error faults.BadInteger offset) (whole_reads text xs s) (stop_fails start text BadInteger offset f)
  no_list_fault start text xs s faults.UnknownForm offset f =
      only_of start text xs (error faults.UnknownForm offset) (whole_reads text xs s) (stop_fails start text BadImmediate offset f)
  no_list_fault start text xs s faults.UnknownOpcode offset f =
      only_of start text xs (error faults.UnknownOpcode offset) (whole_reads text xs s) (stop_fails start text UnknownOpcode offset f)
  no_list_fault start text xs s faults.TrailingBytes offset f =
      only_of start text xs (error faults.TrailingBytes offset) (whole_reads text xs s) (inr (inl (refl, list_goes_on start text offset f)))
  no_list_fault start text xs s faults.Memory offset f = refl
  no_list_fault start text xs s _ offset f = absurd f
