-- The loop over groups of locals, and that what it answers is what is spelled.
use Rattle.std.proofs.Common.{◌≡◌, inl, inr, ℕ, zero, suc, ◌+◌, ◌-◌, ◌<◌, ◌≤◌, List, [], ◌∷◌, ◌++◌, length, take, replicate, Result, Ok}
use Rattle.std.proofs.Common.{Err, refl, sym, ap, ◌∙◌, append_assoc, arith}
use Rattle.std.specs.Prelude.{IfOk, IfErr, MatchResult}
use Rattle.std.proofs.lemmas.List.{length-append, append-nil, length-replicate, take_all}
use Rattle.wasm_types.specs.declared.types.PrimitiveTypeInfo.{PrimitiveTypeInfo}
use Rattle.wasm_code.specs.declared.fault.Cause.{Cause}
use Rattle.wasm_code.specs.declared.fault.Cause.TheVariants.{Truncated, UnknownOpcode, BadInteger, BadImmediate}
use Rattle.wasm_code.specs.Reader.{◌>>=◌, unsigned_at}
use Rattle.wasm_code.specs.laws.GrammarLemmas.{bind_ok, ok_is}
use Rattle.wasm_code.specs.laws.NumberExact.{unsigned_exact}
use Rattle.wasm_sections.specs.declared.fault.ModuleError.{ModuleError}
use Rattle.wasm_sections.specs.declared.fault.ModuleFault.{ModuleFault}
use Rattle.wasm_sections.specs.declared.fault.ModuleFault.TheVariants as faults
use Rattle.wasm_lists.specs.declared.locals.GroupStop.{GroupStop}
use Rattle.wasm_lists.specs.declared.locals.GroupStop.TheVariants as stops
use Rattle.wasm_lists.specs.declared.locals.Locals.{Locals}
use Rattle.wasm_lists.specs.declared.refusal.Refusal.{Refusal}
use Rattle.wasm_lists.specs.declared.refusal.Refusal.TheVariants as refusals
use Rattle.wasm_lists.specs.List.{fault_of}
use Rattle.wasm_lists.specs.Locals.{FailsGroup, types_of, locals_in, SpellsLocals, IsAtGroup, StopsAtGroup, IsLocalsFault}
use Rattle.wasm_lists.specs.Reader.{each_at, list_at, locals_group_at, ReadsGroups, IsAfterGroups, FailsGroups, HasTooMany, FailsGroupsBy}
use Rattle.wasm_lists.specs.Reader.{StopsGroups, left_of, error_at, group_error_at}
use Rattle.wasm_lists.proofs.ValueLemmas.{no_primitive_fails}
use Rattle.wasm_lists.proofs.ListLemmas.{begins, goes_on, each_exact, list_exact, each_fails, counted}
use Rattle.wasm_lists.proofs.ItemLemmas.{group_exact}

types_of-length : (groups : List (ℕ × PrimitiveTypeInfo)) → length (types_of groups) ≡ locals_in groups
types_of-length [] = refl
types_of-length (g ∷ groups) = omega (
  arith,
  length-append (replicate g.0 g.1) (types_of groups),
  length-replicate g.0 g.1,
  types_of-length groups,
)

types_of-append : (groups : List (ℕ × PrimitiveTypeInfo)) (g : ℕ × PrimitiveTypeInfo) → types_of (groups ++ g ∷ [])
    ≡ types_of groups ++ replicate g.0 g.1
types_of-append [] g = append-nil (replicate g.0 g.1)
types_of-append (h ∷ groups) g = ap (λ (l : List PrimitiveTypeInfo). replicate h.0 h.1 ++ l) (types_of-append groups g)
    ∙ sym (append_assoc (replicate h.0 h.1) (types_of groups) (replicate g.0 g.1))

locals_in-append : (groups : List (ℕ × PrimitiveTypeInfo)) (g : ℕ × PrimitiveTypeInfo) → locals_in (groups ++ g ∷ []) ≡ locals_in groups + g.0
locals_in-append [] g = omega arith
locals_in-append (h ∷ groups) g = omega (arith, locals_in-append groups g)

-- how many types there are
pub so_many : (before : List PrimitiveTypeInfo) (n : ℕ) (bytes : List ℕ) (types : List PrimitiveTypeInfo) (rest : List ℕ)
    (r : ReadsGroups before n bytes types rest) → length types ≡ length before + locals_in r.groups
so_many before n bytes types rest r = omega (arith, ap length r.all, length-append before (types_of r.groups), types_of-length r.groups)

pub few_types : (before : List PrimitiveTypeInfo) (n : ℕ) (bytes : List ℕ) (types : List PrimitiveTypeInfo) (rest : List ℕ) →
    ReadsGroups before n bytes types rest → length types ≤ 50000
few_types before n bytes types rest r = omega (arith, so_many before n bytes types rest r, r.few)

pub none_yet : (before : List PrimitiveTypeInfo) (bytes : List ℕ) → length before ≤ 50000 → ReadsGroups before 0 bytes before bytes
none_yet before bytes few = record {
  groups = [];
  reads = begins locals_group_at bytes;
  few = omega (arith, few);
  all = sym (append-nil before);
}

pub one_more : (before : List PrimitiveTypeInfo) (n : ℕ) (bytes : List ℕ) (types : List PrimitiveTypeInfo) (rest : List ℕ) (g : ℕ × PrimitiveTypeInfo)
    (behind : List ℕ) → ReadsGroups before n bytes types rest → locals_group_at rest ≡ Ok (g, behind) → g.0 ≤ 50000 - length types →
    ReadsGroups before (n + 1) bytes (types ++ replicate g.0 g.1) behind
one_more before n bytes types rest g behind r next fits = record {
  groups = r.groups ++ g ∷ [];
  reads = goes_on locals_group_at n bytes r.groups rest g behind r.reads next;
  few = omega (arith, so_many before n bytes types rest r, locals_in-append r.groups g, fits, r.few);
  all =
      ap (λ (l : List PrimitiveTypeInfo). l ++ replicate g.0 g.1) r.all
      ∙ append_assoc before (types_of r.groups) (replicate g.0 g.1)
      ∙ ap (λ (l : List PrimitiveTypeInfo). before ++ l) (sym (types_of-append r.groups g));
}

-- what a longer list is
pub resized : (types : List PrimitiveTypeInfo) (len was n : ℕ) (t : PrimitiveTypeInfo) → len ≡ length types → was ≡ length types →
    take (len + n) types ++ replicate (len + n - was) t ≡ types ++ replicate n t
resized types len was n t is too =
    let all : take (len + n) types ≡ types = take_all (len + n) types (omega (arith, is)) in
    let many : len + n - was ≡ n = omega (arith, is, too) in
    rw (all, many) refl

pub after : (before : List PrimitiveTypeInfo) (count n : ℕ) (bytes : List ℕ) (types : List PrimitiveTypeInfo) (rest : List ℕ) → n < count →
    (r : ReadsGroups before n bytes types rest) → IsAfterGroups before count bytes (length rest) r.groups rest
after before count n bytes types rest lt r = record {
  passed = n;
  fewer = lt;
  reads = r.reads;
  few = r.few;
  is_left = refl;
}

pub group_fails : (before : List PrimitiveTypeInfo) (count n : ℕ) (bytes : List ℕ) (types : List PrimitiveTypeInfo) (rest : List ℕ) (cause : Cause) →
    n < count → ReadsGroups before n bytes types rest → locals_group_at rest ≡ Err cause → FailsGroups before count bytes cause (length rest)
group_fails before count n bytes types rest cause lt r fails = record {
  groups = r.groups;
  rest = rest;
  place = after before count n bytes types rest lt r;
  fails = fails;
}

pub too_many : (before : List PrimitiveTypeInfo) (count n : ℕ) (bytes : List ℕ) (types : List PrimitiveTypeInfo) (rest : List ℕ)
    (g : ℕ × PrimitiveTypeInfo) (behind : List ℕ) → n < count → ReadsGroups before n bytes types rest → locals_group_at rest ≡ Ok (g, behind) →
    50000 - length types < g.0
    → HasTooMany before count bytes (length rest)
too_many before count n bytes types rest g behind lt r next many = record {
  groups = r.groups;
  rest = rest;
  place = after before count n bytes types rest lt r;
  group = g;
  behind = behind;
  next = next;
  many = omega (arith, so_many before n bytes types rest r, many);
}

-- ---- a whole entry

pub locals_found : (params : List PrimitiveTypeInfo) (start : ℕ) (text rest : List ℕ) (number : ℕ) (types : List PrimitiveTypeInfo) (behind : List ℕ) →
    unsigned_at 32 text ≡ Ok (number, rest) → ReadsGroups params number rest types behind →
    SpellsLocals params start text types (start + (length text - length behind))
locals_found params start text rest number types behind counts r =
    let t = (list_exact group_exact).takes text r.groups behind (counted locals_group_at text rest number counts ∙ r.reads) in
    record {
      groups = r.groups;
      front = t.0;
      back = behind;
      parts = t.1;
      list = t.2;
      few = r.few;
      all = r.all;
      at = omega (arith, ap length t.1, length-append t.0 behind);
    }

-- neither a count nor a group fails for want of an operator
no_opcode : (params : List PrimitiveTypeInfo) (start : ℕ) (text : List ℕ) (offset : ℕ) → StopsAtGroup params start text UnknownOpcode offset → ⊥
no_opcode params start text offset (inl f) = f.1.fails
no_opcode params start text offset (inr f) = no_group f.fails
  where
    no_group : {bytes : List ℕ} → FailsGroup bytes UnknownOpcode → ⊥
    no_group (inl g) = g
    no_group (inr g) = no_primitive_fails g.back g.second

by_cause : (params : List PrimitiveTypeInfo) (start : ℕ) (text : List ℕ) (cause : Cause) (offset : ℕ) → StopsAtGroup params start text cause offset →
    IsLocalsFault params start text (fault_of cause) offset
by_cause params start text Truncated offset s = s
by_cause params start text UnknownOpcode offset s = absurd (no_opcode params start text offset s)
by_cause params start text BadInteger offset s = s
by_cause params start text BadImmediate offset s = s

pub count_stops : (params : List PrimitiveTypeInfo) (start : ℕ) (text : List ℕ) (cause : Cause) → length params ≤ 50000 →
    unsigned_at 32 text ≡ Err cause → IsLocalsFault params start text (fault_of cause) start
count_stops params start text cause few e = by_cause params start text cause start (inl (
  omega (arith, few),
  record { fails = (unsigned_exact 32).stops text cause e; at = refl },
))

place_is : (params : List PrimitiveTypeInfo) (start : ℕ) (text bytes : List ℕ) (number left : ℕ) (groups : List (ℕ × PrimitiveTypeInfo))
    (rest : List ℕ) → unsigned_at 32 text ≡ Ok (number, bytes) → IsAfterGroups params number bytes left groups rest →
    IsAtGroup params start text (start + (length text - left)) groups rest
place_is params start text bytes number left groups rest counts p =
    let t = (unsigned_exact 32).takes text number bytes counts in
    let u = (each_exact group_exact p.passed).takes bytes groups rest p.reads in
    record {
      number = number;
      count = t.0;
      before = p.passed;
      front = u.0;
      parts = t.1 ∙ ap (λ (r : List ℕ). t.0 ++ r) u.1;
      counts = t.2;
      fewer = p.fewer;
      spelled = u.2;
      few = p.few;
      at = omega (arith, p.is_left, ap length t.1, length-append t.0 bytes, ap length u.1, length-append u.0 rest);
    }

by_refusal : (params : List PrimitiveTypeInfo) (start : ℕ) (text bytes : List ℕ) (number : ℕ) (refusal : Refusal) (left : ℕ) →
    unsigned_at 32 text ≡ Ok (number, bytes) → FailsGroupsBy params number bytes refusal left →
    let e = error_at refusal (start + (length text - left)) start in IsLocalsFault params start text e.kind e.offset
by_refusal params start text bytes number (refusals.Bytes cause) left counts s =
    by_cause params start text cause (start + (length text - left)) (inr (record {
      groups = s.groups;
      back = s.rest;
      place = place_is params start text bytes number left s.groups s.rest counts s.place;
      fails = group_exact.stops s.rest cause s.fails;
    }))
by_refusal params start text bytes number refusals.Memory left counts s = refl

pub locals_fault : (params : List PrimitiveTypeInfo) (start : ℕ) (text bytes : List ℕ) (number : ℕ) (stop : GroupStop) →
    unsigned_at 32 text ≡ Ok (number, bytes) → StopsGroups params number bytes stop →
    let e = group_error_at stop (start + (length text - left_of stop)) start in IsLocalsFault params start text e.kind e.offset
locals_fault params start text bytes number (stops.Refused s) counts f = by_refusal params start text bytes number s.refusal s.left counts f
locals_fault params start text bytes number (stops.TooMany left) counts f =
    let t = group_exact.takes f.rest f.group f.behind f.next in
    inr (record {
      groups = f.groups;
      back = f.rest;
      place = place_is params start text bytes number left f.groups f.rest counts f.place;
      group = f.group;
      bytes = t.0;
      rest = f.behind;
      parts = t.1;
      spells = t.2;
      many = f.many;
    })

-- ---- what is answered is the only answer

-- what is spelled is read so
is_read : (params : List PrimitiveTypeInfo) (start : ℕ) (text : List ℕ) (types : List PrimitiveTypeInfo) (expression : ℕ)
    (s : SpellsLocals params start text types expression) → list_at locals_group_at text ≡ Ok (s.groups, s.back)
is_read params start text types expression s =
    ap (list_at locals_group_at) s.parts ∙ (list_exact group_exact).again s.front s.back s.groups s.list

pub same_locals : (params : List PrimitiveTypeInfo) (start : ℕ) (text : List ℕ) (types others : List PrimitiveTypeInfo) (expression place : ℕ) →
    SpellsLocals params start text types expression → SpellsLocals params start text others place → (types ≡ others) × (expression ≡ place)
same_locals params start text types others expression place r s =
    let same = ok_is (r.groups, r.back) (s.groups, s.back) (sym (is_read params start text types expression r)
    ∙ is_read params start text others place s) in
    let behind : r.back ≡ s.back = ap (λ (q : List (ℕ × PrimitiveTypeInfo) × List ℕ). q.1) same in (
      r.all ∙ ap (λ (q : List (ℕ × PrimitiveTypeInfo) × List ℕ). params ++ types_of q.0) same ∙ sym s.all,
      omega (
        arith,
        r.at,
        s.at,
        ap length behind,
        ap length r.parts,
        length-append r.front r.back,
        ap length s.parts,
        length-append s.front s.back,
      ),
    )

-- the first of more that are read are read too
first_groups : (k n : ℕ) (bytes : List ℕ) (xs ys : List (ℕ × PrimitiveTypeInfo)) (r q : List ℕ) → k ≤ n → each_at k locals_group_at bytes ≡ Ok (xs, r) →
    each_at n locals_group_at bytes ≡ Ok (ys, q) → locals_in xs ≤ locals_in ys
unfolding each_at
first_groups zero n bytes xs ys r q le e f =
    let none : [] ≡ xs = ap (λ (p : List (ℕ × PrimitiveTypeInfo) × List ℕ). p.0) (ok_is ([], bytes) (xs, r) e) in
    omega (arith, ap locals_in none)
first_groups (suc k) zero bytes xs ys r q le e f = absurd (omega (arith, le))
first_groups (suc k) (suc n) bytes xs ys r q le e f =
    let a = bind_ok (locals_group_at bytes) (λ y. each_at k locals_group_at y.1 >>= λ ys. Ok (y.0 ∷ ys.0, ys.1)) (xs, r) e in
    let b = bind_ok (each_at k locals_group_at a.0.1) (λ ys. Ok (a.0.0 ∷ ys.0, ys.1)) (xs, r) a.2 in
    let c = bind_ok (locals_group_at bytes) (λ y. each_at n locals_group_at y.1 >>= λ ys. Ok (y.0 ∷ ys.0, ys.1)) (ys, q) f in
    let d = bind_ok (each_at n locals_group_at c.0.1) (λ ys. Ok (c.0.0 ∷ ys.0, ys.1)) (ys, q) c.2 in
    let here = ok_is a.0 c.0 (sym a.1 ∙ c.1) in
    let d' : each_at n locals_group_at a.0.1 ≡ Ok (d.0.0, d.0.1) = ap (λ (p : (ℕ × PrimitiveTypeInfo) × List ℕ). each_at n locals_group_at p.1) here ∙ d.1 in
    let later = first_groups k n a.0.1 b.0.0 d.0.0 b.0.1 d.0.1 (omega (arith, le)) b.1 d' in
    let all : a.0.0 ∷ b.0.0 ≡ xs = ap (λ (p : List (ℕ × PrimitiveTypeInfo) × List ℕ). p.0) (ok_is (a.0.0 ∷ b.0.0, b.0.1) (xs, r) b.2) in
    let others : c.0.0 ∷ d.0.0 ≡ ys = ap (λ (p : List (ℕ × PrimitiveTypeInfo) × List ℕ). p.0) (ok_is (c.0.0 ∷ d.0.0, d.0.1) (ys, q) d.2) in
    omega (arith, later, ap locals_in all, ap locals_in others, ap (λ (p : (ℕ × PrimitiveTypeInfo) × List ℕ). p.0.0) here)

-- a place is reached by reading
module _ (params : List PrimitiveTypeInfo) (start : ℕ) (text : List ℕ) (offset : ℕ) (groups : List (ℕ × PrimitiveTypeInfo)) (back : List ℕ)
    (p : IsAtGroup params start text offset groups back) where
  place_counts : unsigned_at 32 text ≡ Ok (p.number, p.front ++ back)
  place_counts = ap (unsigned_at 32) p.parts ∙ (unsigned_exact 32).again p.count (p.front ++ back) p.number p.counts

  place_reads : each_at p.before locals_group_at (p.front ++ back) ≡ Ok (groups, back)
  place_reads = (each_exact group_exact p.before).again p.front back groups p.spelled

  place_fails : (cause : Cause) → FailsGroup back cause → list_at locals_group_at text ≡ Err cause
  place_fails cause f =
      counted locals_group_at text (p.front ++ back) p.number place_counts
      ∙ each_fails locals_group_at p.before p.number (p.front ++ back) groups back cause p.fewer place_reads (group_exact.fails back cause f)

  place_passes : (group : ℕ × PrimitiveTypeInfo) (rest : List ℕ) (all : List (ℕ × PrimitiveTypeInfo)) (behind : List ℕ) →
      locals_group_at back ≡ Ok (group, rest) → list_at locals_group_at text ≡ Ok (all, behind) → locals_in groups + group.0 ≤ locals_in all
  place_passes group rest all behind next reads =
      let more = goes_on locals_group_at p.before (p.front ++ back) groups back group rest place_reads next in
      let whole = sym (counted locals_group_at text (p.front ++ back) p.number place_counts) ∙ reads in
      omega (
        arith,
        locals_in-append groups group,
        first_groups (p.before + 1) p.number (p.front ++ back) (groups ++ group ∷ []) all rest behind (omega (arith, p.fewer)) more whole,
      )

ok_not_err : {A : Type 0} (r : Result A Cause) (x : A) (cause : Cause) → r ≡ Ok x → r ≡ Err cause → ⊥
ok_not_err r x cause e f = absurd cc

no_stop : (params : List PrimitiveTypeInfo) (start : ℕ) (text : List ℕ) (types : List PrimitiveTypeInfo) (expression : ℕ) (cause : Cause) (offset : ℕ) →
    SpellsLocals params start text types expression → StopsAtGroup params start text cause offset → ⊥
unfolding list_at
no_stop params start text types expression cause offset s (inl f) =
    let e : list_at locals_group_at text ≡ Err cause = rw ((unsigned_exact 32).fails text cause f.1.fails) refl in
    ok_not_err (list_at locals_group_at text) (s.groups, s.back) cause (is_read params start text types expression s) e
no_stop params start text types expression cause offset s (inr f) =
    ok_not_err (list_at locals_group_at text) (s.groups, s.back) cause (is_read params start text types expression s)
    (place_fails params start text offset f.groups f.back f.place cause f.fails)

no_fault : (params : List PrimitiveTypeInfo) (start : ℕ) (text : List ℕ) (types : List PrimitiveTypeInfo) (expression : ℕ) (kind : ModuleFault) (offset : ℕ)
    → SpellsLocals params start text types expression → IsLocalsFault params start text kind offset → kind ≡ faults.Memory
no_fault params start text types expression faults.Memory offset s f = refl
no_fault params start text types expression faults.Truncated offset s f = absurd (no_stop params start text types expression Truncated offset s f)
no_fault params start text types expression faults.BadInteger offset s f = absurd (no_stop params start text types expression BadInteger offset s f)
no_fault params start text types expression faults.UnknownForm offset s f = absurd (no_stop params start text types expression BadImmediate offset s f)
no_fault params start text types expression faults.TooManyLocals offset s (inl f) = absurd (omega (arith, f.many, s.few))
no_fault params start text types expression faults.TooManyLocals offset s (inr f) =
    let next : locals_group_at f.back ≡ Ok (f.group, f.rest) = ap locals_group_at f.parts ∙ group_exact.again f.bytes f.rest f.group f.spells in
    absurd (omega (
      arith,
      f.many,
      s.few,
      place_passes params start text offset f.groups f.back f.place f.group f.rest s.groups s.back next (is_read params start text types expression s),
    ))
no_fault params start text types expression _ offset s f = absurd f

pub locals_only : (params : List PrimitiveTypeInfo) (start : ℕ) (text : List ℕ) (r : Result Locals ModuleError) (types : List PrimitiveTypeInfo)
    (expression : ℕ) → IfOk r (λ l. SpellsLocals params start text l.types.items l.expression)
    → IfErr r (λ e. IsLocalsFault params start text e.kind e.offset) → SpellsLocals params start text types expression →
    MatchResult r (λ l. (l.types.items ≡ types) × (l.expression ≡ expression)) (λ e. e.kind ≡ faults.Memory)
locals_only params start text (Ok l) types expression h f s = same_locals params start text l.types.items types l.expression expression h s
locals_only params start text (Err e) types expression h f s = no_fault params start text types expression e.kind e.offset s f
