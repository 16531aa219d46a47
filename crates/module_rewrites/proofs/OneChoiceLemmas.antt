-- Words choose one rewrite of a module, and one after another.
use Rattle.std.proofs.Common.{◌≡◌, ◌⊎◌, ◌%◌, ◌^◌, inl, inr, ℕ, ◌+◌, ◌-◌, ◌<◌, ◌≤◌, List, [], ◌∷◌, ◌++◌, length, Option, Some, None, refl}
use Rattle.std.proofs.Common.{sym, ap, ap₂, subst, ◌∙◌, arith}
use Rattle.std.specs.Prelude.{IfSome}
use Rattle.std.specs.List.{sum_by}
use Rattle.std.proofs.lemmas.Bool.{cases_eq, cases_lt}
use Rattle.std.proofs.lemmas.List.{append-nil, length-append}
use Rattle.std.proofs.lemmas.List.Sums.{sum_by-take-le}
use Rattle.std.proofs.lemmas.Option.{slice_get_within}
use Rattle.rand_core.specs.Stream.{Stream, next_u64}
use Rattle.wasm_types.specs.Module.{Module}
use Rattle.wasm_lists.specs.declared.entries.Entry.{Entry}
use Rattle.wasm_module.specs.Module.{Layout, IsModule}
use Rattle.wasm_module.specs.declared.refusal.WriteError.TheVariants as writes
use Rattle.body_rewrites.specs.declared.rewrite.Rewrite.{Rewrite}
use Rattle.module_rewrites.specs.Chosen.{ChoosesBy, ChoosesOfModule, FindsEntry, GivesUp, GivesUpInOrder, GivesUpOn, TriesInVain}
use Rattle.module_rewrites.specs.ChosenTimes.{ChoosesEach, ChoosesTimes}
use Rattle.module_rewrites.specs.Drawing.{EachInVain, IsFirstBefore, IsFirstBehind, NamesEntry, by_word, contents_length, in_order}
use Rattle.module_rewrites.specs.Mutated.{CannotMutate, HasNoMutation, IsChosen, IsOfSize, RefusesChosenEntry, RefusesEntry, RefusesMutation}
use Rattle.module_rewrites.specs.Mutates.{EndsFor, Mutates}
use Rattle.module_rewrites.specs.Scope.{Scope, IsMarked, draws_of}
use Rattle.module_rewrites.specs.Stopped.{HadMemory}
use Rattle.module_rewrites.specs.Writing.{MakesAt}
use Rattle.module_rewrites.specs.declared.mutation.MutationError.{MutationError}
use Rattle.module_rewrites.specs.declared.mutation.MutationError.TheVariants as mutations
use Rattle.module_rewrites.specs.declared.times.MadeRewrite.{MadeRewrite}
use Rattle.module_rewrites.proofs.EntryWordsLemmas.{entry_takes, first_byte, named_one}
use Rattle.module_rewrites.proofs.OneAttemptLemmas.{Makes, OneWriting, attempts_apart, lacks, makes_one}
use Rattle.module_rewrites.proofs.OneSearchLemmas.{AreApart, draws_one, each_apart, each_as, each_count, each_one, names_apart, names_one}

module _ (one : OneWriting) (scope : Scope) (bytes : List ℕ) (info : Module) (layout : Layout) (is : IsModule bytes info layout)
    (few : sum_by contents_length layout.entries < 2 ^ 64) where
  are : AreApart (TriesInVain scope bytes info layout) (Makes scope bytes info layout)
  are = attempts_apart one scope bytes info layout is

  ends : (s : Stream) (n : ℕ) (r : Rewrite) (new : List ℕ) (after : Stream) → MakesAt scope bytes info layout s n r new after →
      Makes scope bytes info layout s n
  ends s n r new after m = record { rewrite = r; new = new; after = after; makes = m }

  -- ---- the entry

  inside : (s : Stream) (n : ℕ) → Makes scope bytes info layout s n → n < length layout.entries
  inside s n m = let f = m.makes.writes.function in slice_get_within layout.entries n f.entry f.is.at

  -- there is a byte to draw
  some_byte : (s : Stream) (n : ℕ) → Makes scope bytes info layout s n → 0 < sum_by contents_length layout.entries
  some_byte s n m =
      let w = m.makes.writes in
      let takes = entry_takes bytes info layout n w.locals w.expression w.operators w.function in
      let less = first_byte layout.entries n w.function.entry w.function.is.at takes in
      let most = sum_by-take-le contents_length layout.entries (n + 1) in
      omega (arith, less, most)

  names_one_entry : 0 < sum_by contents_length layout.entries → (s : Stream) (n m : ℕ) → NamesEntry s layout.entries n → NamesEntry s layout.entries m → n ≡ m
  names_one_entry some s n m p q =
      named_one layout.entries n m ((next_u64 s).0 % sum_by contents_length layout.entries) (p.contains some few) (q.contains some few)

  finds_one : (only : Option ℕ) (s : Stream) (n m : ℕ) (a b : Stream) → FindsEntry scope bytes info layout only s n a →
      FindsEntry scope bytes info layout only s m b → Makes scope bytes info layout a n → Makes scope bytes info layout b m → (n ≡ m) × (a ≡ b)
  finds_one (Some function) s n m a b f g p q =
      let same : n ≡ m = omega (arith, f.0, g.0) in
      let vain = subst (λ i. EachInVain (TriesInVain scope bytes info layout) (λ j. i) g.1 s b) (sym same) g.3 in
      let makes = subst (λ i. Makes scope bytes info layout b i) (sym same) q in
      (same, (each_count (TriesInVain scope bytes info layout) (Makes scope bytes info layout) are (λ j. n) f.1 g.1 s a b f.3 p vain makes).1)
  finds_one None s n m a b f g p q =
      draws_one (TriesInVain scope bytes info layout) (Makes scope bytes info layout) are layout.entries (names_one_entry (some_byte a n p))
      (draws_of scope bytes) s n m a b
      (inside a n p) (inside b m q) p q f g

  pub chooses_one : (only : Option ℕ) (s : Stream) (f g : ℕ) (r q : Rewrite) (new other : List ℕ) (after later : Stream) →
      ChoosesBy scope bytes info layout only s f r new after → ChoosesBy scope bytes info layout only s g q other later →
      (f ≡ g) × (r ≡ q) × (new ≡ other) × (after ≡ later)
  chooses_one only s f g r q new other after later a b =
      let same = finds_one only s a.n b.n a.found b.found a.finds b.finds (ends a.found a.n r new after a.makes) (ends b.found b.n q other later b.makes) in
      let there = subst (λ (x : Stream). MakesAt scope bytes info layout x a.n q other later) (sym same.1)
      (subst (λ i. MakesAt scope bytes info layout b.found i q other later) (sym same.0) b.makes) in
      let made = makes_one one scope bytes info layout a.found a.n r q new other after later a.makes there in
      (a.function_is ∙ ap (λ i. layout.imported_functions + i) same.0 ∙ sym b.function_is, made.0, made.1, made.2)

  -- ---- no rewrite fits

  order_apart : (last : ℕ) (s : Stream) (n : ℕ) (found left : Stream) → Makes scope bytes info layout found n →
      IsFirstBehind (TriesInVain scope bytes info layout) last n s found
      ⊎ IsFirstBefore (TriesInVain scope bytes info layout) (length layout.entries) last n s found →
      GivesUpInOrder scope bytes info layout last s left → ⊥
  order_apart last s n found left p (inl h) g =
      each_apart (TriesInVain scope bytes info layout) (Makes scope bytes info layout) are (λ j. last + j) h.0 g.behind.k s found g.middle
      (omega (arith, h.1, g.behind.to_is, inside found n p)) h.2 (subst (λ i. Makes scope bytes info layout found i) h.1 p) g.behind.each
  order_apart last s n found left p (inr h) g =
      let number : h.1 ≡ g.behind.k = omega (arith, h.3, g.behind.to_is) in
      let middle = each_one (TriesInVain scope bytes info layout) (Makes scope bytes info layout) are (λ j. last + j) g.behind.k s h.2 g.middle
      (subst (λ i. EachInVain (TriesInVain scope bytes info layout) (λ j. last + j) i s h.2) number h.4) g.behind.each in
      let here = each_as (TriesInVain scope bytes info layout) (Makes scope bytes info layout) are (λ j. j) (λ j. 0 + j) (λ j. omega arith) n g.middle found
      (subst (λ (x : Stream). EachInVain (TriesInVain scope bytes info layout) (λ j. j) n x found) middle h.5) in
      let zero_more : n ≡ 0 + n = omega arith in
      each_apart (TriesInVain scope bytes info layout) (Makes scope bytes info layout) are (λ j. 0 + j) n g.before.k g.middle found left
      (omega (arith, h.0, g.before.to_is)) here (subst (λ i. Makes scope bytes info layout found i) zero_more p) g.before.each

  finds_apart : (only : Option ℕ) (s : Stream) (n : ℕ) (found left : Stream) → FindsEntry scope bytes info layout only s n found →
      Makes scope bytes info layout found n → GivesUpOn scope bytes info layout only s left → ⊥
  finds_apart (Some function) s n found left f p g =
      let same : g.0 ≡ n = omega (arith, f.0, g.1) in
      each_apart (TriesInVain scope bytes info layout) (Makes scope bytes info layout) are (λ j. n) f.1 (draws_of scope bytes) s found left f.2 f.3 p
      (subst (λ i. EachInVain (TriesInVain scope bytes info layout) (λ j. i) (draws_of scope bytes) s left) same g.2)
  finds_apart None s n found left (by_word i l c less h is_named after) p g =
      names_apart (TriesInVain scope bytes info layout) (Makes scope bytes info layout) are layout.entries (names_one_entry (some_byte found n p)) i
      (draws_of scope bytes) s l c n g.0 g.1 less h is_named (subst (λ (x : Stream). Makes scope bytes info layout x n) after p) g.2
  finds_apart None s n found left (in_order l c h order) p g =
      let same = names_one (TriesInVain scope bytes info layout) (Makes scope bytes info layout) are layout.entries
      (names_one_entry (some_byte found n p)) (draws_of scope bytes) s l g.0 c g.1 h g.2 in
      let there = subst (λ (x : Stream). IsFirstBehind (TriesInVain scope bytes info layout) g.0 n x found
      ⊎ IsFirstBefore (TriesInVain scope bytes info layout) (length layout.entries) g.0 n x found) same.1
      (subst (λ i. IsFirstBehind (TriesInVain scope bytes info layout) i n c found
      ⊎ IsFirstBefore (TriesInVain scope bytes info layout) (length layout.entries) i n c found) same.0 order) in
      order_apart g.0 g.1 n found left p there g.3

  pub gives_up_apart : (only : Option ℕ) (s : Stream) (f : ℕ) (r : Rewrite) (new : List ℕ) (after left : Stream) →
      ChoosesBy scope bytes info layout only s f r new after → GivesUpOn scope bytes info layout only s left → ⊥
  gives_up_apart only s f r new after left c g = finds_apart only s c.n c.found left c.finds (ends c.found c.n r new after c.makes) g

  -- ---- no rewrite is there

  found_is_chosen : (only : Option ℕ) (s : Stream) (n : ℕ) (found : Stream) → FindsEntry scope bytes info layout only s n found →
      IsChosen only (layout.imported_functions + n)
  found_is_chosen (Some function) s n found f = f.0
  found_is_chosen None s n found f = tt

  pub cannot_apart : (only : Option ℕ) (s : Stream) (f : ℕ) (r : Rewrite) (new : List ℕ) (after : Stream) →
      ChoosesBy scope bytes info layout only s f r new after →
      ((n : ℕ) → n < length layout.entries → IsChosen only (layout.imported_functions + n) → HasNoMutation scope bytes info layout n) → ⊥
  cannot_apart only s f r new after c none =
      lacks one scope bytes info layout c.found c.n r c.makes.contents c.makes.more after
      (none c.n (inside c.found c.n (ends c.found c.n r new after c.makes)) (found_is_chosen only s c.n c.found c.finds)) c.makes.writes

module _ (one : OneWriting) (scope : Scope) (bytes : List ℕ) (info : Module) (layout : Layout) where
  -- nor is one that doesn't fit
  pub written_apart : (e : MutationError) (n : ℕ) → n < length layout.entries → IsChosen scope.function (layout.imported_functions + n) → IsOfSize e →
      RefusesEntry scope bytes info layout n e →
      ((n : ℕ) → n < length layout.entries → IsChosen scope.function (layout.imported_functions + n) → HasNoMutation scope bytes info layout n) → ⊥
  written_apart (mutations.Read e) n inside chosen size w none = size
  written_apart mutations.Memory n inside chosen size w none = size
  written_apart (mutations.Write writes.TooLarge) n inside chosen size w none =
      lacks one scope bytes info layout w.s n w.rewrite w.contents w.more w.after (none n inside chosen) w.writes
  written_apart (mutations.Write writes.EmptyType) n inside chosen size w none = size
  written_apart (mutations.Write writes.Memory) n inside chosen size w none = size
  written_apart mutations.TooLong n inside chosen size w none =
      lacks one scope bytes info layout w.s n w.rewrite w.contents w.more w.after (none n inside chosen) w.writes
  written_apart mutations.NotSmaller n inside chosen size (on, w) none =
      lacks one scope bytes info layout w.s n w.rewrite w.contents w.more w.after (none n inside chosen) w.writes

-- ---- of a module

abbrev pub OneModule : Type 0
OneModule =
    (bytes : List ℕ) (info other : Module) (layout place : Layout) → IsModule bytes info layout → IsModule bytes other place →
    info.exact ≡ other.exact → (info ≡ other) × (layout ≡ place)

abbrev pub EntriesFit : Type 0
EntriesFit =
    (bytes : List ℕ) (info : Module) (layout : Layout) → IsModule bytes info layout →
    sum_by (λ (entry : Entry). entry.end - entry.contents) layout.entries ≤ length bytes

module _ (one : OneWriting) (reading : OneModule) (fit : EntriesFit) (scope : Scope) where
  few_bytes : (bytes : List ℕ) (info : Module) (layout : Layout) → IsModule bytes info layout → length bytes < 2 ^ 64 →
      sum_by contents_length layout.entries < 2 ^ 64
  few_bytes bytes info layout is few = omega (arith, fit bytes info layout is, few)

  alike : (bytes : List ℕ) (i j : Module) (k l : Layout) → IsModule bytes i k → IsModule bytes j l → IsMarked scope i → IsMarked scope j →
      ◌≡◌ {A = Module × Layout} (j, l) (i, k)
  alike bytes i j k l m n e f = let same = reading bytes i j k l m n (e ∙ sym f) in sym (ap₂ (λ (x : Module) (y : Layout). (x, y)) same.0 same.1)

  pub module_one : (bytes new other : List ℕ) (s after later : Stream) (f g : ℕ) (r q : Rewrite) → length bytes < 2 ^ 64 →
      ChoosesOfModule scope bytes s f r new after → ChoosesOfModule scope bytes s g q other later → (f ≡ g) × (r ≡ q) × (new ≡ other) × (after ≡ later)
  module_one bytes new other s after later f g r q few a b =
      let there = subst (λ (p : Module × Layout). ChoosesBy scope bytes p.0 p.1 scope.function s g q other later)
      (alike bytes a.info b.info a.layout b.layout a.is b.is a.marked b.marked) b.chooses in
      chooses_one one scope bytes a.info a.layout a.is (few_bytes bytes a.info a.layout a.is few) scope.function s f g r q new other after later a.chooses there

  pub gives_up_none : (bytes new : List ℕ) (s after : Stream) (f : ℕ) (r : Rewrite) → length bytes < 2 ^ 64 → ChoosesOfModule scope bytes s f r new after →
      GivesUp scope bytes s → ⊥
  gives_up_none bytes new s after f r few c g =
      let there = subst (λ (p : Module × Layout). GivesUpOn scope bytes p.0 p.1 scope.function s g.left)
      (alike bytes c.info g.info c.layout g.layout c.is g.is c.marked g.marked) g.vain in
      gives_up_apart one scope bytes c.info c.layout c.is (few_bytes bytes c.info c.layout c.is few) scope.function s f r new after g.left c.chooses there

  pub cannot_none : (bytes new : List ℕ) (s after : Stream) (f : ℕ) (r : Rewrite) → length bytes < 2 ^ 64 → ChoosesOfModule scope bytes s f r new after →
      CannotMutate scope bytes → ⊥
  cannot_none bytes new s after f r few c g =
      let there = subst (λ (p : Module × Layout). (n : ℕ) → n < length p.1.entries → IsChosen scope.function (p.1.imported_functions + n) →
      HasNoMutation scope bytes p.0 p.1 n) (alike bytes c.info g.info c.layout g.layout c.is g.is c.marked g.marked) g.none in
      cannot_apart one scope bytes c.info c.layout c.is (few_bytes bytes c.info c.layout c.is few) scope.function s f r new after c.chooses there

  chosen_apart : (bytes : List ℕ) (e : MutationError) → IsOfSize e → RefusesChosenEntry scope bytes e → CannotMutate scope bytes → ⊥
  chosen_apart bytes e size r g =
      let there = subst (λ (p : Module × Layout). (n : ℕ) → n < length p.1.entries → IsChosen scope.function (p.1.imported_functions + n) →
      HasNoMutation scope bytes p.0 p.1 n) (alike bytes r.info g.info r.layout g.layout r.is g.is r.marked g.marked) g.none in
      written_apart one scope bytes r.info r.layout e r.n r.inside r.chosen size r.refuses there

  pub refused_apart : (bytes : List ℕ) (e : MutationError) → IsOfSize e → RefusesMutation scope bytes e → CannotMutate scope bytes → ⊥
  refused_apart bytes (mutations.Read e) size r g = size
  refused_apart bytes mutations.Memory size r g = size
  refused_apart bytes (mutations.Write e) size r g = chosen_apart bytes (mutations.Write e) size r g
  refused_apart bytes mutations.TooLong size r g = chosen_apart bytes mutations.TooLong size r g
  refused_apart bytes mutations.NotSmaller size r g = chosen_apart bytes mutations.NotSmaller size r g

  -- ---- one after another

  made_is : (m o : MadeRewrite) → m.function ≡ o.function → m.rewrite ≡ o.rewrite → m ≡ o
  made_is m o e f = λ i. record { function = e i; rewrite = f i }

  pub each_begins : (made others : List MadeRewrite) (bytes new other : List ℕ) (s after later : Stream) → length bytes < 2 ^ 64 → scope.most < 2 ^ 64 →
      length made ≤ length others → ChoosesEach scope bytes s made new after → ChoosesEach scope bytes s others other later →
      (rest : List MadeRewrite) × (others ≡ made ++ rest) × ChoosesEach scope new after rest other later
  each_begins [] others bytes new other s after later few most less a b = (
    others,
    refl,
    subst (λ (x : List ℕ). ChoosesEach scope x after others other later) (sym a.0)
        (subst (λ (x : Stream). ChoosesEach scope bytes x others other later) (sym a.1) b),
  )
  each_begins (m ∷ ms) [] bytes new other s after later few most less a b = absurd (omega (arith, less))
  each_begins (m ∷ ms) (o ∷ os) bytes new other s after later few most less a b =
      let same = module_one bytes a.0 b.0 s a.1 b.1 m.function o.function m.rewrite o.rewrite few a.2 b.2 in
      let there = subst (λ (x : List ℕ). ChoosesEach scope x a.1 os other later) (sym same.2)
      (subst (λ (x : Stream). ChoosesEach scope b.0 x os other later) (sym same.3) b.3) in
      let fits = a.2.chooses.makes.fits.few in
      let (rest, e, more) = each_begins ms os a.0 new other a.1 after later (omega (arith, fits, most)) most (omega (arith, less)) a.3 there in
      (rest, ap₂ (λ (x : MadeRewrite) (xs : List MadeRewrite). x ∷ xs) (sym (made_is m o same.0 same.1)) e, more)

  no_rest : (made others rest : List MadeRewrite) (new other : List ℕ) (after later : Stream) → length made ≡ length others → others ≡ made ++ rest →
      ChoosesEach scope new after rest other later → (made ≡ others) × (new ≡ other) × (after ≡ later)
  no_rest made others [] new other after later long e more = (sym (e ∙ append-nil made), sym more.0, sym more.1)
  no_rest made others (x ∷ rest) new other after later long e more = absurd (omega (arith, long, ap length e, length-append made (x ∷ rest)))

  pub each_same : (made others : List MadeRewrite) (bytes new other : List ℕ) (s after later : Stream) → length bytes < 2 ^ 64 → scope.most < 2 ^ 64 →
      length made ≡ length others → ChoosesEach scope bytes s made new after → ChoosesEach scope bytes s others other later →
      (made ≡ others) × (new ≡ other) × (after ≡ later)
  each_same made others bytes new other s after later few most long a b =
      let (rest, e, more) = each_begins made others bytes new other s after later few most (omega (arith, long)) a b in
      no_rest made others rest new other after later long e more

  -- ---- what ends it

  ends_apart : (stopped : Option MutationError) (new : List ℕ) (s : Stream) (f : ℕ) (r : Rewrite) (next : List ℕ) (left : Stream) → length new < 2 ^ 64 →
      EndsFor scope new stopped → HadMemory stopped → IfSome stopped (λ e. IsOfSize e → GivesUp scope new s) →
      ChoosesOfModule scope new s f r next left → ⊥
  ends_apart None new s f r next left few cannot had up c = cannot_none new next s left f r few c cannot
  ends_apart (Some (mutations.Read e)) new s f r next left few ends had up c = had ends.1
  ends_apart (Some mutations.Memory) new s f r next left few ends had up c = had tt
  ends_apart (Some (mutations.Write writes.TooLarge)) new s f r next left few ends had up c = gives_up_none new next s left f r few c (up tt)
  ends_apart (Some (mutations.Write writes.EmptyType)) new s f r next left few ends had up c = ends.0.refuses
  ends_apart (Some (mutations.Write writes.Memory)) new s f r next left few ends had up c = had tt
  ends_apart (Some mutations.TooLong) new s f r next left few ends had up c = gives_up_none new next s left f r few c (up tt)
  ends_apart (Some mutations.NotSmaller) new s f r next left few ends had up c = gives_up_none new next s left f r few c (up tt)

  -- what was made has no more bytes than it may
  each_fits : (made : List MadeRewrite) (bytes new : List ℕ) (s after : Stream) → length bytes < 2 ^ 64 → scope.most < 2 ^ 64 →
      ChoosesEach scope bytes s made new after → length new < 2 ^ 64
  each_fits [] bytes new s after few most a = omega (arith, few, ap length a.0)
  each_fits (m ∷ ms) bytes new s after few most a =
      let fits = a.2.chooses.makes.fits.few in
      each_fits ms a.0 new a.1 after (omega (arith, fits, most)) most a.3

  more_apart : (rest made others : List MadeRewrite) (stopped : Option MutationError) (new other : List ℕ) (after later : Stream) → length new < 2 ^ 64 →
      EndsFor scope new stopped → HadMemory stopped → IfSome stopped (λ e. IsOfSize e → GivesUp scope new after) → length made < length others →
      others ≡ made ++ rest → ChoosesEach scope new after rest other later → ⊥
  more_apart [] made others stopped new other after later few ends had up less e more = omega (arith, less, ap length e, length-append made [])
  more_apart (x ∷ rest) made others stopped new other after later few ends had up less e more =
      ends_apart stopped new after x.function x.rewrite more.0 more.1 few ends had up more.2

  -- none makes fewer rewrites than another
  fewer_apart : (count : ℕ) (bytes new other : List ℕ) (s : Stream) (made others : List MadeRewrite) (stopped halted : Option MutationError) →
      length bytes < 2 ^ 64 → scope.most < 2 ^ 64 → Mutates scope count bytes made new stopped → ChoosesTimes scope bytes s made new stopped →
      HadMemory stopped → Mutates scope count bytes others other halted → ChoosesTimes scope bytes s others other halted → length made < length others → ⊥
  fewer_apart count bytes new other s made others stopped halted few most m a had n b less =
      let (rest, e, more) = each_begins made others bytes new other s a.after b.after few most (omega (arith, less)) a.each b.each in
      more_apart rest made others stopped new other a.after b.after (each_fits made bytes new s a.after few most a.each)
      (m.fewer (omega (arith, less, n.most))) had a.gives_up less e more

  pub answers_same : (count : ℕ) (bytes new other : List ℕ) (s : Stream) (made others : List MadeRewrite) (stopped halted : Option MutationError) →
      length bytes < 2 ^ 64 → scope.most < 2 ^ 64 → Mutates scope count bytes made new stopped → ChoosesTimes scope bytes s made new stopped →
      HadMemory stopped → Mutates scope count bytes others other halted → ChoosesTimes scope bytes s others other halted → HadMemory halted →
      (made ≡ others) × (new ≡ other)
  answers_same count bytes new other s made others stopped halted few most m a had n b have = elim (cases_lt (length made) (length others)) [
    | inl less ↦ absurd (fewer_apart count bytes new other s made others stopped halted few most m a had n b less)
    | inr no_less ↦ elim (cases_eq (length made) (length others)) [
      | inl long ↦ let same = each_same made others bytes new other s a.after b.after few most long a.each b.each in (same.0, same.1)
      | inr differ ↦
          absurd (fewer_apart count bytes other new s others made halted stopped few most n b have m a (omega (arith, no_less, differ)))
    ]
  ]
