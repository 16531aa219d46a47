-- Words that name a code entry.
use Rattle.std.proofs.Common.{◌≡◌, inl, inr, Bool, true, false, ℕ, zero, suc, ◌+◌, ◌-◌, ◌*◌, ◌%◌, ◌^◌, ◌<◌, ◌≤◌, List, [], ◌∷◌, length}
use Rattle.std.proofs.Common.{take, drop, Some, ap, subst, sym, ◌∙◌, arith}
use Rattle.std.specs.Prelude.{IsTrue, if◌then◌else◌, slice_get, slice_range}
use Rattle.std.specs.List.{sum_by}
use Rattle.std.proofs.lemmas.Bool.{cases_eq, cases_lt}
use Rattle.std.proofs.lemmas.List.{length-append, length-take}
use Rattle.std.proofs.lemmas.List.Sums.{sum_by-cons, sum_by_more, sum_by-take-le}
use Rattle.std.proofs.lemmas.Nat.{mod-mul-add}
use Rattle.std.proofs.lemmas.Option.{get_or_from_slice_get, slice_get_within}
use Rattle.rand_core.specs.Stream.{Stream, next_u64}
use Rattle.wasm_code.specs.Body.{SpellsCode, ends}
use Rattle.wasm_code.specs.Operator.{is_known, Spells, SpellsBy}
use Rattle.wasm_code.specs.declared.operator.Operator.{Operator}
use Rattle.wasm_types.specs.Module.{Module}
use Rattle.wasm_types.specs.declared.types.PrimitiveTypeInfo.{PrimitiveTypeInfo}
use Rattle.wasm_lists.specs.declared.entries.Entry.{Entry}
use Rattle.wasm_module.specs.Module.{Layout}
use Rattle.wasm_execution.specs.Values.{Context, context_in}
use Rattle.rewrite_rules.specs.declared.rule.Rule.{Rule}
use Rattle.body_rewrites.specs.Choice.{Chooses, after_word, growths}
use Rattle.body_rewrites.specs.HasWords.{HasWords}
use Rattle.body_rewrites.specs.declared.growth.Growth.{Growth}
use Rattle.body_rewrites.specs.declared.growth.Growth.TheVariants.{Shrinks, Keeps}
use Rattle.body_rewrites.specs.declared.rewrite.Rewrite.{Rewrite}
use Rattle.module_rewrites.specs.Drawing.{ContainsByte, contents_length}
use Rattle.module_rewrites.specs.EntryWords.{DrawsRewrite, HasEntryWords}
use Rattle.module_rewrites.specs.Function.{IsFunction}
use Rattle.module_rewrites.specs.Scope.{Scope, wanted_of}
use Rattle.module_rewrites.proofs.StandAgainLemmas.{OneReading, one_body}

-- an operator takes a byte or more
some_byte : (text : List ℕ) (x : Operator) → Spells text x → 0 < length text
some_byte text x s = omega (
  arith,
  ap length s.parts,
  length-append s.front s.back,
  ap length s.first.parts,
  length-append s.first.front s.first.back,
  ap length s.first.first,
)

some_other : (v : Bool) (text : List ℕ) (x : Operator) → SpellsBy v text x → 0 < length text
some_other true text x s = some_byte text x s
some_other false text x s =
    let o = s.spells in
    omega (
      arith,
      ap length o.parts,
      length-append o.front o.back,
      ap length o.first.parts,
      length-append o.first.front o.first.back,
      ap length o.first.first,
    )

-- a body takes a byte or more
body_takes : (start : ℕ) (text : List ℕ) (operators : List (Operator × ℕ)) → SpellsCode start text operators → 0 < length text
body_takes start text [] s = absurd (let last : IsTrue (ends []) = s.last in cc)
body_takes start text (x ∷ operators) s =
    let one = some_other (is_known x.0) s.all.front x.0 s.all.spells in
    let parts = ap length s.all.parts in
    let sum = length-append s.all.front s.all.back in
    omega (arith, one, parts, sum)

-- a code entry that is read contains a byte
pub entry_takes : (bytes : List ℕ) (info : Module) (layout : Layout) (n : ℕ) (locals : List PrimitiveTypeInfo) (expression : ℕ)
    (operators : List (Operator × ℕ)) (f : IsFunction bytes info layout n locals expression operators) → f.entry.contents < f.entry.end
entry_takes bytes info layout n locals expression operators f =
    let some = body_takes expression (slice_range bytes expression f.entry.end) operators f.body in
    let taken = length-take (f.entry.end - expression) (drop expression bytes) in
    let at = f.locals_are.at in
    omega (arith, some, taken, at)

within : (i n : ℕ) → i < n → i % n ≡ i
within i n less =
    let same : i ≡ 0 * n + i = omega arith in
    ap (λ k. k % n) same ∙ mod-mul-add 0 n i less

-- the first of its bytes, by its number
module _ (entries : List Entry) (n : ℕ) (entry : Entry) where
  pub first_byte : slice_get entries n ≡ Some entry → entry.contents < entry.end →
      sum_by contents_length (take n entries) < sum_by contents_length (take (n + 1) entries)
  first_byte at some =
      let inside = slice_get_within entries n entry at in
      let more = sum_by_more contents_length entries n entry inside in
      let own = ap contents_length (get_or_from_slice_get entries n entry entry at) in
      omega (arith, more, own, some)

  pub is_named : slice_get entries n ≡ Some entry → entry.contents < entry.end →
      ContainsByte entries n (sum_by contents_length (take n entries) % sum_by contents_length entries)
  is_named at some =
      let less = first_byte at some in
      let most = sum_by-take-le contents_length entries (n + 1) in
      let same = within (sum_by contents_length (take n entries)) (sum_by contents_length entries) (omega (arith, less, most)) in
      subst (ContainsByte entries n) (sym same) (record { inside = slice_get_within entries n entry at; from = omega arith; to = less })

module _ (scope : Scope) (bytes : List ℕ) (info : Module) (layout : Layout) (n : ℕ) (locals : List PrimitiveTypeInfo) (expression : ℕ)
    (operators : List (Operator × ℕ)) (r : Rewrite) (f : IsFunction bytes info layout n locals expression operators) where
  pub entry_words : sum_by contents_length layout.entries < 2 ^ 64 → HasWords (context_in info locals) scope.rules (wanted_of scope) operators r →
      HasEntryWords scope bytes info layout n r
  entry_words few w =
      let some = entry_takes bytes info layout n locals expression operators f in
      let less = first_byte layout.entries n f.entry f.is.at some in
      let most = sum_by-take-le contents_length layout.entries (n + 1) in
      record {
        byte = sum_by contents_length (take n layout.entries);
        one = w.one;
        two = w.two;
        three = w.three;
        byte_fits = omega (arith, few, less, most);
        one_fits = w.one_fits;
        two_fits = w.two_fits;
        three_fits = w.three_fits;
        draw = λ stream begins. record {
          names = record {
            inside = slice_get_within layout.entries n f.entry f.is.at;
            contains = λ any fit. subst (λ word. ContainsByte layout.entries n (word % sum_by contents_length layout.entries)) (sym begins.0)
                (is_named layout.entries n f.entry f.is.at some);
          };
          locals = locals;
          expression = expression;
          operators = operators;
          function = f;
          chooses = w.choose (next_u64 stream).1 begins.1;
        };
      }

-- ---- one rewrite at most

-- more entries contain no fewer bytes
contain_more : (entries : List Entry) (i j : ℕ) → i ≤ j → sum_by contents_length (take i entries) ≤ sum_by contents_length (take j entries)
contain_more entries zero j less = omega arith
contain_more entries (suc i) zero less = absurd (omega (arith, less))
contain_more [] (suc i) (suc j) less = omega arith
contain_more (x ∷ entries) (suc i) (suc j) less =
    let rest = contain_more entries i j (omega (arith, less)) in
    let one = sum_by-cons contents_length x (take i entries) in
    let two = sum_by-cons contents_length x (take j entries) in
    omega (arith, rest, one, two)

-- a byte is one entry's
pub named_one : (entries : List Entry) (n m byte : ℕ) → ContainsByte entries n byte → ContainsByte entries m byte → n ≡ m
named_one entries n m byte a b = elim (cases_lt n m) [
  | inl less ↦ let most = contain_more entries (n + 1) m (omega (arith, less)) in
      let from = b.from in
      let to = a.to in
      absurd (omega (arith, most, from, to))
  | inr no_less ↦ elim (cases_eq n m) [
    | inl same ↦ same
    | inr other ↦ let most = contain_more entries (m + 1) n (omega (arith, no_less, other)) in
        let from = a.from in
        let to = b.to in
        absurd (omega (arith, most, from, to))
  ]
]

pub draws_one : OneReading → ((context : Context) (s : Stream) (rules : List Rule) (wanted : List Growth) (operators : List (Operator × ℕ))
    (r q : Rewrite) → Chooses context s rules wanted operators r → Chooses context s rules wanted operators q → r ≡ q) →
    (scope : Scope) (bytes : List ℕ) (info : Module)
    (layout : Layout) (s : Stream) (n m : ℕ) (r q : Rewrite) → 0 < sum_by contents_length layout.entries → sum_by contents_length layout.entries < 2 ^ 64 →
    DrawsRewrite scope bytes info layout s n r → DrawsRewrite scope bytes info layout s m q → (n ≡ m) × (r ≡ q)
draws_one one law scope bytes info layout s n m r q some few a b =
    let same : n ≡ m = named_one layout.entries n m ((next_u64 s).0 % sum_by contents_length layout.entries) (a.names.contains some few)
    (b.names.contains some few) in
    let there : IsFunction bytes info layout n b.locals b.expression b.operators =
    subst (λ k. IsFunction bytes info layout k b.locals b.expression b.operators) (sym same) b.function in
    let alike = one_body one bytes info layout n a.locals b.locals a.expression b.expression a.operators b.operators a.function there in
    let chooses : Chooses (context_in info a.locals) (after_word s) scope.rules (wanted_of scope) a.operators q =
    subst (λ (ts : List PrimitiveTypeInfo). Chooses (context_in info ts) (after_word s) scope.rules (wanted_of scope) a.operators q) (sym alike.0)
    (subst (λ (os : List (Operator × ℕ)). Chooses (context_in info b.locals) (after_word s) scope.rules (wanted_of scope) os q) (sym alike.1) b.chooses) in
    (same, law (context_in info a.locals) (after_word s) scope.rules (wanted_of scope) a.operators r q a.chooses chooses)

-- few things are wanted
wanted_few : (b : Bool) → length (if b then (Shrinks ∷ Keeps ∷ []) else growths) < 2 ^ 64
wanted_few true = omega arith
wanted_few false = omega arith

pub few_wanted : (scope : Scope) → length (wanted_of scope) < 2 ^ 64
few_wanted scope = wanted_few scope.shrinking
