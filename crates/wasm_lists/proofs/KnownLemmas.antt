-- What is known of a list with items of unknown forms is what is spelled.
use Rattle.std.proofs.Common.{◌≡◌, inl, inr, ℕ, zero, suc, ◌+◌, ◌-◌, ◌<◌, List, [], ◌∷◌, ◌++◌, length, Option, Some, None, Result, Ok, Err}
use Rattle.std.proofs.Common.{refl, sym, ap, subst, ◌∙◌, arith}
use Rattle.std.specs.Prelude.{IfOk, IfErr, MatchResult}
use Rattle.std.proofs.lemmas.List.{length-append}
use Rattle.wasm_code.specs.declared.fault.Cause.{Cause}
use Rattle.wasm_code.specs.declared.fault.Cause.TheVariants.{Truncated, UnknownOpcode, BadInteger, BadImmediate}
use Rattle.wasm_code.specs.Number.{FailsUnsigned}
use Rattle.wasm_code.specs.Reader.{◌>>=◌, unsigned_at}
use Rattle.wasm_code.specs.laws.GrammarLemmas.{Reader, Exact, bind_ok, ok_is}
use Rattle.wasm_code.specs.laws.NumberExact.{unsigned_exact}
use Rattle.wasm_sections.specs.declared.fault.ModuleError.{ModuleError}
use Rattle.wasm_sections.specs.declared.fault.ModuleFault.{ModuleFault}
use Rattle.wasm_sections.specs.declared.fault.ModuleFault.TheVariants as faults
use Rattle.wasm_lists.specs.Known.{Known, CauseIsUnknown, IsKnown, SpellsKnown, IsKnownFault}
use Rattle.wasm_lists.specs.List.{Each, ListStopsAt, IsListFault, fault_of}
use Rattle.wasm_lists.specs.Reader.{each_at, list_at, RunsTo, error_at, IsUnknownBy, ReadsWhole, ReadsCut, ReadsKnown, FailsKnown}
use Rattle.wasm_lists.specs.declared.refusal.Refusal.{Refusal}
use Rattle.wasm_lists.specs.declared.refusal.Refusal.TheVariants as refusals
use Rattle.wasm_lists.proofs.ListLemmas.{counted, whole, behind_fails, stops_of, fails_whole, error, each_exact, whole_spells, whole_reads}
use Rattle.wasm_lists.proofs.ListLemmas.{item_of, item_stops, fault_is, only_of, stops_list, list_goes_on}

pub all_known : {A : Type 0} (at : Reader A) (text rest behind : List ℕ) (n : ℕ) (xs : List A) (o : Option Refusal) → unsigned_at 32 text ≡ Ok (n, rest) →
    RunsTo at n rest xs behind o → o ≡ None → length behind ≡ 0 → ReadsWhole at text n xs
all_known at text rest behind n xs o e r is none =
    let reads = subst (λ (q : Option Refusal). RunsTo at n rest xs behind q) is r in
    record { rest = rest; counts = e; reads = whole at text rest behind n xs e reads none }

pub more_known : {A : Type 0} (at : Reader A) (start : ℕ) (text rest behind : List ℕ) (n : ℕ) (xs : List A) (o : Option Refusal) (e : ModuleError) →
    unsigned_at 32 text ≡ Ok (n, rest) → RunsTo at n rest xs behind o → o ≡ None → 0 < length behind → e.kind ≡ faults.TrailingBytes
    → e.offset ≡ start + (length text - length behind) → FailsKnown at start text e
more_known at start text rest behind n xs o e counts r is some kind offset =
    let reads = subst (λ (q : Option Refusal). RunsTo at n rest xs behind q) is r in
    inr (inr (inl (kind, record { items = xs; rest = behind; reads = counted at text rest n counts ∙ reads; some = some; is_at = offset })))

pub some_known : {A : Type 0} (at : Reader A) (start : ℕ) (text rest back : List ℕ) (n : ℕ) (xs : List A) (o : Option Refusal) (refusal : Refusal) →
    unsigned_at 32 text ≡ Ok (n, rest) → RunsTo at n rest xs back o → o ≡ Some refusal → IsUnknownBy refusal
    → ReadsCut at start text n xs (error_at refusal (start + (length text - length back)) start)
some_known at start text rest back n xs o (refusals.Bytes cause) e r is unknown =
    let fails = subst (λ (q : Option Refusal). RunsTo at n rest xs back q) is r in
    record { cause = cause; unknown = unknown; kind = refl; rest = rest; back = back; counts = e; fails = fails; is_at = refl }
some_known at start text rest back n xs o refusals.Memory e r is unknown = absurd unknown

pub none_known : {A : Type 0} (at : Reader A) (start : ℕ) (text rest back : List ℕ) (n : ℕ) (xs : List A) (o : Option Refusal) (refusal : Refusal) →
    unsigned_at 32 text ≡ Ok (n, rest) → RunsTo at n rest xs back o → o ≡ Some refusal → (IsUnknownBy refusal → ⊥)
    → FailsKnown at start text (error_at refusal (start + (length text - length back)) start)
none_known at start text rest back n xs o (refusals.Bytes cause) e r is known =
    let fails = subst (λ (q : Option Refusal). RunsTo at n rest xs back q) is r in
    inr (inl (cause, known, refl, stops_of at start text rest back n xs cause _ e fails refl))
none_known at start text rest back n xs o refusals.Memory e r is known = inr (inr (inr (refl, refl)))

-- what is read doesn't fail
never : {X : Type 0} (r : Result X Cause) (x : X) (cause : Cause) → r ≡ Ok x → r ≡ Err cause → ⊥
never r x cause e f = cc

-- where reading fails at once no items are read
none_fails : {A : Type 0} (at : Reader A) (j : ℕ) (bytes rest : List ℕ) (ys : List A) (cause : Cause) (start : List ℕ) (xs : List A) →
    each_at 0 at bytes ≡ Ok (xs, start) → at start ≡ Err cause → each_at (suc j) at bytes ≡ Ok (ys, rest) → ⊥
unfolding each_at
none_fails {A} at j bytes rest ys cause start xs p f q =
    let s = ok_is ([], bytes) (xs, start) p in
    let here : at bytes ≡ Err cause = ap (λ (z : List A × List ℕ). at z.1) s ∙ f in
    let a = bind_ok (at bytes) (λ y. each_at j at y.1 >>= λ zs. Ok (y.0 ∷ zs.0, zs.1)) (ys, rest) q in
    never (at bytes) a.0 cause a.1 here

one_more : {A : Type 0} (x y : A) (xs ys : List A) (p q : List ℕ) → x ≡ y → ◌≡◌ {A = List A × List ℕ} (xs, p) (ys, q) →
    ◌≡◌ {A = List A × List ℕ} (x ∷ xs, p) (y ∷ ys, q)
one_more {A} x y xs ys p q e f = ap (λ (z : List A × List ℕ). (x ∷ z.0, z.1)) f ∙ ap (λ (z : A). (z ∷ ys, q)) e

-- behind one list of items reading fails
behind_one : {A : Type 0} (at : Reader A) (i j : ℕ) (bytes : List ℕ) (xs ys : List A) (back rest : List ℕ) (cause other : Cause) →
    each_at i at bytes ≡ Ok (xs, back) → at back ≡ Err cause → each_at j at bytes ≡ Ok (ys, rest) → at rest ≡ Err other
    → ◌≡◌ {A = List A × List ℕ} (xs, back) (ys, rest)
unfolding each_at
behind_one at zero zero bytes xs ys back rest cause other p f q g = ok_is (xs, back) (ys, rest) (sym p ∙ q)
behind_one at zero (suc j) bytes xs ys back rest cause other p f q g = absurd (none_fails at j bytes rest ys cause back xs p f q)
behind_one at (suc i) zero bytes xs ys back rest cause other p f q g = absurd (none_fails at i bytes back xs other rest ys q g p)
behind_one {A} at (suc i) (suc j) bytes xs ys back rest cause other p f q g =
    let a = bind_ok (at bytes) (λ y. each_at i at y.1 >>= λ zs. Ok (y.0 ∷ zs.0, zs.1)) (xs, back) p in
    let b = bind_ok (at bytes) (λ y. each_at j at y.1 >>= λ zs. Ok (y.0 ∷ zs.0, zs.1)) (ys, rest) q in
    let same : a.0 ≡ b.0 = ok_is a.0 b.0 (sym a.1 ∙ b.1) in
    let c = bind_ok (each_at i at a.0.1) (λ zs. Ok (a.0.0 ∷ zs.0, zs.1)) (xs, back) a.2 in
    let d = bind_ok (each_at j at b.0.1) (λ zs. Ok (b.0.0 ∷ zs.0, zs.1)) (ys, rest) b.2 in
    let e = ok_is (a.0.0 ∷ c.0.0, c.0.1) (xs, back) c.2 in
    let h = ok_is (b.0.0 ∷ d.0.0, d.0.1) (ys, rest) d.2 in
    let from : each_at j at a.0.1 ≡ Ok d.0 = ap (λ (z : A × List ℕ). each_at j at z.1) same ∙ d.1 in
    let late = behind_one at i j a.0.1 c.0.0 d.0.0 c.0.1 d.0.1 cause other c.1 (ap (λ (z : List A × List ℕ). at z.1) e ∙ f) from
    (ap (λ (z : List A × List ℕ). at z.1) h ∙ g) in
    sym e ∙ one_more a.0.0 b.0.0 c.0.0 d.0.0 c.0.1 d.0.1 (ap (λ (z : A × List ℕ). z.0) same) late ∙ h

err_is : {X : Type 0} (r : Result X Cause) (c d : Cause) → r ≡ Err c → r ≡ Err d → c ≡ d
err_is r c d e f = cc

one_error : (e f : ModuleError) → e.kind ≡ f.kind → e.offset ≡ f.offset → e ≡ f
one_error e f kind offset =
    ap (λ (k : ModuleFault). record { kind = k; offset = e.offset }) kind ∙ ap (λ (n : ℕ). record { kind = f.kind; offset = n }) offset

known_is : {A : Type 0} (k j : Known A) → k.count ≡ j.count → k.items ≡ j.items → k.unknown ≡ j.unknown → k ≡ j
known_is {A} k j count items unknown =
    ap (λ (n : ℕ). record { count = n; items = k.items; unknown = k.unknown }) count
    ∙ ap (λ (xs : List A). record { count = j.count; items = xs; unknown = k.unknown }) items
    ∙ ap (λ (o : Option ModuleError). record { count = j.count; items = j.items; unknown = o }) unknown

-- a list of which an item isn't known isn't read
cut_list : {A : Type 0} (at : Reader A) (start : ℕ) (text : List ℕ) (n : ℕ) (xs : List A) (e : ModuleError) (c : ReadsCut at start text n xs e) →
    list_at at text ≡ Err c.cause
cut_list at start text n xs e c = counted at text c.rest n c.counts ∙ behind_fails at n c.rest c.cause xs c.back c.fails

whole_goes_on : {A : Type 0} (at : Reader A) (start : ℕ) (text : List ℕ) (n : ℕ) (xs ys : List A) (rest : List ℕ) (e : ModuleError) →
    list_at at text ≡ Ok (ys, rest) → ReadsCut at start text n xs e → ⊥
whole_goes_on at start text n xs ys rest e reads c = never (list_at at text) (ys, rest) c.cause reads (cut_list at start text n xs e c)

-- a number that isn't read is no unknown form
known_number : (cause : Cause) (text : List ℕ) → FailsUnsigned 32 text cause → CauseIsUnknown cause → ⊥
known_number Truncated text f u = u
known_number UnknownOpcode text f u = f
known_number BadInteger text f u = u
known_number BadImmediate text f u = f

module _ {A : Type 0} {Spells : List ℕ → A → Type 0} {Fails : List ℕ → Cause → Type 0} {at : Reader A} (one : Exact Spells Fails at) where
  each_length : (n : ℕ) (text : List ℕ) (xs : List A) → Each n Spells text xs → n ≡ length xs
  each_length zero text xs p = ap length p.1
  each_length (suc n) text xs p =
      let less = each_length n p.back p.second.value p.second.spells in omega (arith, less, ap length p.second.made)

  known_spells : (start : ℕ) (text : List ℕ) (n : ℕ) (xs : List A) (o : Option ModuleError) → ReadsKnown at start text n xs o →
      IsKnown Spells Fails start text n xs o
  known_spells start text n xs None r =
      let e = sym (counted at text r.rest n r.counts) ∙ r.reads in
      let u = (each_exact one n).takes r.rest xs [] e in
      record { list = whole_spells one text xs r.reads; counted = each_length n u.0 xs u.2 }
  known_spells start text n xs (Some e) r = record {
    cause = r.cause;
    unknown = r.unknown;
    kind = r.kind;
    item = item_of one start text r.rest r.back n xs r.cause e.offset r.counts r.fails r.is_at;
    counted = refl;
    before = refl;
  }

  known_reads : (start : ℕ) (text : List ℕ) (n : ℕ) (xs : List A) (o : Option ModuleError) → IsKnown Spells Fails start text n xs o →
      ReadsKnown at start text n xs o
  known_reads start text n xs None k =
      let l = k.list in
      let number : l.value ≡ n = each_length l.value l.back xs l.second ∙ sym k.counted in
      record {
        rest = l.back;
        counts = ap (unsigned_at 32) l.parts ∙ (unsigned_exact 32).again l.front l.back l.value l.first ∙ ap (λ (m : ℕ). Ok (m, l.back)) number;
        reads = whole_reads one text xs l;
      }
  known_reads start text n xs (Some e) k =
      let i = k.item in
      record {
        cause = k.cause;
        unknown = k.unknown;
        kind = k.kind;
        rest = i.front ++ i.back;
        back = i.back;
        counts = ap (unsigned_at 32) i.parts ∙ (unsigned_exact 32).again i.count (i.front ++ i.back) i.number i.counts
            ∙ ap (λ (m : ℕ). Ok (m, i.front ++ i.back)) (sym k.counted);
        fails = record {
          before = i.before;
          fewer = omega (arith, i.fewer, k.counted);
          reads = (each_exact one i.before).again i.front i.back i.items i.spelled ∙ ap (λ (ys : List A). Ok (ys, i.back)) (sym k.before);
          fails = one.fails i.back k.cause i.fails;
        };
        is_at = omega (arith, i.at, ap length i.parts, length-append i.count (i.front ++ i.back), length-append i.front i.back);
      }

  -- of a list one thing is known
  same_known : (start : ℕ) (text : List ℕ) (n m : ℕ) (xs ys : List A) (o p : Option ModuleError) → ReadsKnown at start text n xs o →
      ReadsKnown at start text m ys p → (n ≡ m) × (xs ≡ ys) × (o ≡ p)
  same_known start text n m xs ys None None r s = (
    ap (λ (q : ℕ × List ℕ). q.0) (ok_is (n, r.rest) (m, s.rest) (sym r.counts ∙ s.counts)),
    ap (λ (q : List A × List ℕ). q.0) (ok_is (xs, []) (ys, []) (sym r.reads ∙ s.reads)),
    refl,
  )
  same_known start text n m xs ys None (Some e) r s = absurd (whole_goes_on at start text m ys xs [] e r.reads s)
  same_known start text n m xs ys (Some e) None r s = absurd (whole_goes_on at start text n xs ys [] e s.reads r)
  same_known start text n m xs ys (Some e) (Some f) r s =
      let counts = ok_is (n, r.rest) (m, s.rest) (sym r.counts ∙ s.counts) in
      let number = ap (λ (q : ℕ × List ℕ). q.0) counts in
      let from : each_at s.fails.before at r.rest ≡ Ok (ys, s.back) =
      ap (λ (q : ℕ × List ℕ). each_at s.fails.before at q.1) counts ∙ s.fails.reads in
      let both = behind_one at r.fails.before s.fails.before r.rest xs ys r.back s.back r.cause s.cause r.fails.reads r.fails.fails from s.fails.fails in
      let back = ap (λ (q : List A × List ℕ). q.1) both in
      let cause = err_is (at r.back) r.cause s.cause r.fails.fails (ap at back ∙ s.fails.fails) in
      let offset : e.offset ≡ f.offset = omega (arith, r.is_at, s.is_at, ap length back) in
      (number, ap (λ (q : List A × List ℕ). q.0) both, ap Some (one_error e f (r.kind ∙ ap fault_of cause ∙ sym s.kind) offset))

  pub one_known : (start : ℕ) (text : List ℕ) (k j : Known A) → SpellsKnown Spells Fails start text k → SpellsKnown Spells Fails start text j → k ≡ j
  one_known start text k j s t =
      let r = same_known start text k.count j.count k.items j.items k.unknown j.unknown
      (known_reads start text k.count k.items k.unknown s) (known_reads start text j.count j.items j.unknown t) in
      known_is k j r.0 r.1 r.2

  pub known_found : (start : ℕ) (text : List ℕ) (r : Result (Known A) ModuleError) →
      IfOk r (λ k. ReadsKnown at start text k.count k.items k.unknown) → IfOk r (SpellsKnown Spells Fails start text)
  known_found start text (Ok k) r = known_spells start text k.count k.items k.unknown r
  known_found start text (Err e) r = tt

  known_only_of : (start : ℕ) (text : List ℕ) (n : ℕ) (xs : List A) (o : Option ModuleError) (e : ModuleError) → ReadsKnown at start text n xs o →
      FailsKnown at start text e → e.kind ≡ faults.Memory
  known_only_of start text n xs None e r f = only_of one start text xs e r.reads (fails_whole at start text e f)
  known_only_of start text n xs (Some u) e r (inl f) = absurd (never (unsigned_at 32 text) (n, r.rest) f.0 r.counts f.2)
  known_only_of start text n xs (Some u) e r (inr (inl f)) =
      let s = f.3 in
      let counts = ok_is (n, r.rest) (s.number, s.rest) (sym r.counts ∙ s.counts) in
      let from : each_at s.stops.behind.before at r.rest ≡ Ok (s.stops.items, s.stops.rest) =
      ap (λ (q : ℕ × List ℕ). each_at s.stops.behind.before at q.1) counts ∙ s.stops.behind.reads in
      let both = behind_one at r.fails.before s.stops.behind.before r.rest xs s.stops.items r.back s.stops.rest r.cause f.0 r.fails.reads r.fails.fails from
      s.stops.behind.fails in
      let cause = err_is (at r.back) r.cause f.0 r.fails.fails (ap at (ap (λ (q : List A × List ℕ). q.1) both) ∙ s.stops.behind.fails) in
      absurd (f.1 (subst CauseIsUnknown cause r.unknown))
  known_only_of start text n xs (Some u) e r (inr (inr (inl f))) = absurd (whole_goes_on at start text n xs f.1.items f.1.rest u f.1.reads r)
  known_only_of start text n xs (Some u) e r (inr (inr (inr f))) = f.0

  pub known_only : (start : ℕ) (text : List ℕ) (r : Result (Known A) ModuleError) (k : Known A) →
      IfOk r (λ k. ReadsKnown at start text k.count k.items k.unknown) → IfErr r (λ e. FailsKnown at start text e)
      → SpellsKnown Spells Fails start text k → MatchResult r (λ j. j ≡ k) (λ e. e.kind ≡ faults.Memory)
  known_only start text (Ok j) k e f s = one_known start text j k (known_spells start text j.count j.items j.unknown e) s
  known_only start text (Err e) k g f s = known_only_of start text k.count k.items k.unknown e (known_reads start text k.count k.items k.unknown s) f

  known_cause : (start : ℕ) (text : List ℕ) (cause : Cause) (offset : ℕ) → (CauseIsUnknown cause → ⊥) → ListStopsAt Spells Fails start text cause offset →
      IsKnownFault Spells Fails start text (fault_of cause) offset
  known_cause start text Truncated offset not s = s
  known_cause start text UnknownOpcode offset not s = not tt
  known_cause start text BadInteger offset not s = s
  known_cause start text BadImmediate offset not s = not tt

  known_fault_is : (start : ℕ) (text : List ℕ) (e : ModuleError) → FailsKnown at start text e → IsKnownFault Spells Fails start text e.kind e.offset
  known_fault_is start text e (inl f) =
      subst (λ (k : ModuleFault). IsKnownFault Spells Fails start text k e.offset) (sym f.1)
      (known_cause start text f.0 e.offset (known_number f.0 text ((unsigned_exact 32).stops text f.0 f.2))
      (inl (record { fails = (unsigned_exact 32).stops text f.0 f.2; at = f.3 })))
  known_fault_is start text e (inr (inl f)) =
      subst (λ (k : ModuleFault). IsKnownFault Spells Fails start text k e.offset) (sym f.2)
      (known_cause start text f.0 e.offset f.1 (item_stops one start text f.0 e.offset f.3))
  known_fault_is start text e (inr (inr (inl f))) =
      let trailing = fault_is one start text e (inr (inl f)) in
      subst (λ (k : ModuleFault). IsKnownFault Spells Fails start text k e.offset) (sym f.0)
      (subst (λ (k : ModuleFault). IsListFault Spells Fails start text k e.offset) f.0 trailing)
  known_fault_is start text e (inr (inr (inr f))) =
      subst (λ (k : ModuleFault). IsKnownFault Spells Fails start text k e.offset) (sym f.0) f.1

  pub known_fault : (start : ℕ) (text : List ℕ) (r : Result (Known A) ModuleError) → IfErr r (λ e. FailsKnown at start text e) →
      IfErr r (λ e. IsKnownFault Spells Fails start text e.kind e.offset)
  known_fault start text (Ok k) h = tt
  known_fault start text (Err e) h = known_fault_is start text e h

  -- ---- what is spelled has no fault

  stop_fails_known : (start : ℕ) (text : List ℕ) (cause : Cause) (offset : ℕ) → (CauseIsUnknown cause → ⊥) → ListStopsAt Spells Fails start text cause offset →
      FailsKnown at start text (error (fault_of cause) offset)
  stop_fails_known start text cause offset known (inl c) = inl (cause, refl, (unsigned_exact 32).fails text cause c.fails, c.at)
  stop_fails_known start text cause offset known (inr i) = inr (inl (cause, known, refl, stops_list one start text cause offset i))

  pub no_known_fault : (start : ℕ) (text : List ℕ) (k : Known A) → SpellsKnown Spells Fails start text k → (fault : ModuleFault) (offset : ℕ) →
      IsKnownFault Spells Fails start text fault offset → fault ≡ faults.Memory
  no_known_fault start text k s faults.Truncated offset f =
      known_only_of start text k.count k.items k.unknown (error faults.Truncated offset) (known_reads start text k.count k.items k.unknown s)
      (stop_fails_known start text Truncated offset (λ u. u) f)
  no_known_fault start text k s faults.BadInteger offset f =
      known_only_of start text k.count k.items k.unknown (error faults.BadInteger offset) (known_reads start text k.count k.items k.unknown s)
      (stop_fails_known start text BadInteger offset (λ u. u) f)
  no_known_fault start text k s faults.UnknownForm offset f = absurd f
  no_known_fault start text k s faults.UnknownOpcode offset f = absurd f
  no_known_fault start text k s faults.TrailingBytes offset f =
      known_only_of start text k.count k.items k.unknown (error faults.TrailingBytes offset)
      (known_reads start text k.count k.items k.unknown s) (inr (inr (inl (refl, list_goes_on one start text offset f))))
  no_known_fault start text k s faults.Memory offset f = refl
  no_known_fault start text k s _ offset f = absurd f
