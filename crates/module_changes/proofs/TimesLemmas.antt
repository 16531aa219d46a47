-- Changes as a generator's words choose them, one after another.
use Rattle.std.proofs.Common.{◌≡◌, ◌⊎◌, ◌↔◌, ◌≤◌, inl, inr, Bool, false, ℕ, suc, ◌+◌, ◌<◌, List, [], ◌∷◌, ◌++◌, length, Option, Some, None}
use Rattle.std.proofs.Common.{Result, Ok, Err, true, refl, sym, ap, subst, ◌∙◌, arith, length-append}
use Rattle.std.proofs.lemmas.Bool.{true≢false}
use Rattle.std.specs.Prelude.{OnErr, OnOk, is_err}
use Rattle.rand_core.specs.Stream.{Stream}
use Rattle.wasm_types.specs.Module.{Module}
use Rattle.wasm_module.specs.Module.{Layout, IsModule}
use Rattle.module_rewrites.specs.Attempt.{RefusesIndex}
use Rattle.module_rewrites.specs.Mutated.{IsChosen}
use Rattle.module_rewrites.specs.declared.attempt.Reason.{Reason}
use Rattle.module_rewrites.specs.declared.attempt.Reason.TheVariants as reasons
use Rattle.module_changes.specs.Chosen.{most_drawn_times, AreInVain, ChoosesLarge, ChoosesNothing, ChoosesOne, ChangeIsInVain, SomeMayChange}
use Rattle.module_changes.specs.Donor.{itself, Donor}
use Rattle.module_changes.specs.Entry.{refusal_by, RefusesFrom}
use Rattle.module_changes.specs.Scope.{words_count, Scope}
use Rattle.module_changes.specs.Spliced.{donor_in, AreModules, IsSpliceRefusal}
use Rattle.module_changes.specs.declared.splicing.SpliceRefusal.TheVariants.{Change}
use Rattle.module_changes.specs.Times.{ChangesTimes, ChoosesEachChange, IsRefusal}
use Rattle.module_changes.specs.Watched.{SeeingChange, StandingOfChanges, SeesEachChange, SeesOneChange}
use Rattle.module_changes.specs.Words.{after_words, next_words_of}
use Rattle.module_changes.specs.declared.entry.MadeChange.{MadeChange}
use Rattle.module_changes.specs.declared.refusal.Refusal.{Refusal}
use Rattle.module_changes.specs.declared.refusal.Refusal.TheVariants.{Memory, NoChange, NoFunction, Read, TooLarge, UnknownImport}

-- ---- one change

module _ (donor : Donor) (scope : Scope) (bytes : List ℕ) (info : Module) (layout : Layout) (s : Stream) where
  -- what the refusal says of the words so far
  abbrev pub is_large : Refusal → Bool
  is_large TooLarge = true
  is_large refusal = false

  -- So many times the words chose nothing that can be made, and this says why.
  abbrev pub VainSoFar : (count : ℕ) → Refusal → (now : Stream) → Type 0
  VainSoFar count refusal now =
      ((refusal ≡ NoChange) ⊎ (refusal ≡ TooLarge)) × AreInVain donor scope bytes info layout count (is_large refusal) s now

  module _ (count number : ℕ) (words : List ℕ) (refusal : Refusal) (now after : Stream) (before : VainSoFar count refusal now)
      (many : number ≡ words_count scope) (words_are : words ≡ next_words_of now number) (after_is : after ≡ after_words now number) where
    once_more : (large : Bool) → ChangeIsInVain donor scope bytes info layout words (is_large refusal) large →
        AreInVain donor scope bytes info layout (count + 1) large s after
    once_more large vain =
        let next_is : suc count ≡ count + 1 = omega arith in
        subst (λ (n : ℕ). AreInVain donor scope bytes info layout n large s after) next_is (
          now,
          is_large refusal,
          before.1,
          subst (λ (ws : List ℕ). ChangeIsInVain donor scope bytes info layout ws (is_large refusal) large) (words_are ∙ ap (next_words_of now) many) vain,
          after_is ∙ ap (after_words now) many,
        )

    -- the next words choose what doesn't fit
    pub large_more : ChoosesLarge donor scope bytes info layout words → VainSoFar (count + 1) TooLarge after
    large_more large = (inr refl, once_more true (inl (large, refl)))

    -- they choose nothing
    pub nothing_more : ChoosesNothing donor scope bytes info layout words → VainSoFar (count + 1) refusal after
    nothing_more nothing = (before.0, once_more (is_large refusal) (inr (nothing, refl)))

  pub gives_up : (count : ℕ) (refusal : Refusal) (after : Stream) → SomeMayChange scope.function layout → count ≡ most_drawn_times →
      VainSoFar count refusal after →
      RefusesFrom donor scope bytes info layout s refusal
  gives_up count refusal after there all (inl e, vain) =
      subst (RefusesFrom donor scope bytes info layout s) (sym e) (record {
        there = there;
        after = after;
        vain = subst (λ (n : ℕ). AreInVain donor scope bytes info layout n false s after) all
            (subst (λ (r : Refusal). AreInVain donor scope bytes info layout count (is_large r) s after) e vain);
      })
  gives_up count refusal after there all (inr e, vain) =
      subst (RefusesFrom donor scope bytes info layout s) (sym e) (record {
        there = there;
        after = after;
        vain = subst (λ (n : ℕ). AreInVain donor scope bytes info layout n true s after) all
            (subst (λ (r : Refusal). AreInVain donor scope bytes info layout count (is_large r) s after) e vain);
      })

-- one may be changed
pub some_chosen : (only : Option ℕ) (layout : Layout) (start end : ℕ) →
    ((n : ℕ) → ((start ≤ n) × (n < end)) ↔ ((n < length layout.entries) × IsChosen only (layout.imported_functions + n))) →
    (only ≡ None) ⊎ (start < end) → (only ≡ None) ⊎ (layout.unknown.imports ≡ None) → SomeMayChange only layout
some_chosen only layout start end each (inl none) known = inl none
some_chosen only layout start end each (inr some) (inl none) = inl none
some_chosen only layout start end each (inr some) (inr known) =
    let own = (each start).0 (omega arith, some) in
    inr (known, start, own.0, own.1)

-- why no function may be changed
pub refuses_index : (donor : Donor) (scope : Scope) (bytes : List ℕ) (info : Module) (layout : Layout) (s : Stream) (reason : Reason) →
    RefusesIndex layout scope.function reason → RefusesFrom donor scope bytes info layout s (refusal_by reason)
refuses_index donor scope bytes info layout s (reasons.NoFunction f) h = h
refuses_index donor scope bytes info layout s (reasons.UnknownImport e) h = h
refuses_index donor scope bytes info layout s reason h = absurd h

pub refuses : (scope : Scope) (bytes : List ℕ) (info : Module) (layout : Layout) (s : Stream) → IsModule bytes info layout → info.exact ≡ false →
    (refusal : Refusal) → RefusesFrom (itself bytes info layout) scope bytes info layout s refusal → IsRefusal scope bytes s refusal
refuses scope bytes info layout s is exact (Read e) h = absurd h
refuses scope bytes info layout s is exact (NoFunction f) h = record { info = info; layout = layout; is = is; refuses = h }
refuses scope bytes info layout s is exact (UnknownImport e) h = record { info = info; layout = layout; is = is; refuses = h }
refuses scope bytes info layout s is exact NoChange h = record { info = info; layout = layout; is = is; exact = exact; gives_up = h }
refuses scope bytes info layout s is exact TooLarge h = record { info = info; layout = layout; is = is; exact = exact; gives_up = h }
refuses scope bytes info layout s is exact Memory h = tt

pub splice_refuses : (scope : Scope) (bytes other : List ℕ) (s : Stream) (m : AreModules bytes other) (refusal : Refusal) →
    RefusesFrom (donor_in m) scope bytes m.info m.layout s refusal → IsSpliceRefusal scope bytes other s (Change refusal)
splice_refuses scope bytes other s m (Read e) h = absurd h
splice_refuses scope bytes other s m (NoFunction f) h = record { info = m.info; layout = m.layout; is = m.is; refuses = h }
splice_refuses scope bytes other s m (UnknownImport e) h = record { info = m.info; layout = m.layout; is = m.is; refuses = h }
splice_refuses scope bytes other s m NoChange h = record { are = m; gives_up = h }
splice_refuses scope bytes other s m TooLarge h = record { are = m; gives_up = h }
splice_refuses scope bytes other s m Memory h = tt

-- ---- one after another

module _ (scope : Scope) (bytes : List ℕ) (s : Stream) where
  -- The bytes are the module with so many changes.
  pub record SoFar (number : ℕ) (made : List MadeChange) (new : List ℕ) (now : Stream) : Type 0 where
    pub each : ChoosesEachChange scope bytes s made new now
    pub number_is : length made ≡ number

  -- the first change
  pub first : (m : MadeChange) (made : List MadeChange) (new : List ℕ) (now : Stream) → made ≡ [] ++ m ∷ [] → ChoosesOne scope bytes s m new now →
      SoFar 1 made new now
  first m made new now e chosen =
      subst (λ (ms : List MadeChange). SoFar 1 ms new now) (sym e) (record { each = (new, now, chosen, (refl, refl)); number_is = refl })

-- one change more
each_more : (scope : Scope) (bytes : List ℕ) (s : Stream) (made : List MadeChange) (last : List ℕ) (now : Stream) (m : MadeChange) (new : List ℕ)
    (after : Stream) → ChoosesEachChange scope bytes s made last now → ChoosesOne scope last now m new after →
    ChoosesEachChange scope bytes s (made ++ m ∷ []) new after
each_more scope bytes s [] last now m new after e chosen = (
  new,
  after,
  subst (λ (b : List ℕ). ChoosesOne scope b s m new after) e.0 (subst (λ (t : Stream). ChoosesOne scope last t m new after) e.1 chosen),
  (refl, refl),
)
each_more scope bytes s (x ∷ made) last now m new after each chosen =
    (each.0, each.1, each.2, each_more scope each.0 each.1 made last now m new after each.3 chosen)

module _ (scope : Scope) (bytes : List ℕ) (s : Stream) (number : ℕ) (made : List MadeChange) (last : List ℕ) (now : Stream)
    (so : SoFar scope bytes s number made last now) where
  pub next : (m : MadeChange) (more : List MadeChange) (new : List ℕ) (after : Stream) → more ≡ made ++ m ∷ [] →
      ChoosesOne scope last now m new after → SoFar scope bytes s (number + 1) more new after
  next m more new after e chosen = subst (λ (ms : List MadeChange). SoFar scope bytes s (number + 1) ms new after) (sym e) (record {
    each = each_more scope bytes s made last now m new after so.each chosen;
    number_is = length-append made (m ∷ []) ∙ ap (λ (n : ℕ). n + 1) so.number_is;
  })

  -- all of them
  pub all_made : (count : ℕ) (stopped : Option Refusal) → 0 < number → number ≡ count → stopped ≡ None →
      ChangesTimes scope count bytes s made last stopped
  all_made count stopped some all none = record {
    some = omega (arith, so.number_is, some);
    most = omega (arith, so.number_is, all);
    after = now;
    each = so.each;
    fewer = λ below. absurd (omega (arith, so.number_is, all, below));
    all = λ whole. none;
  }

  -- fewer of them
  pub stops : (count : ℕ) (stopped : Option Refusal) (refusal : Refusal) → 0 < number → number < count → stopped ≡ Some refusal →
      IsRefusal scope last now refusal → ChangesTimes scope count bytes s made last stopped
  stops count stopped refusal some below is refuses = record {
    some = omega (arith, so.number_is, some);
    most = omega (arith, so.number_is, below);
    after = now;
    each = so.each;
    fewer = λ _. (refusal, is, refuses);
    all = λ whole. absurd (omega (arith, so.number_is, below, whole));
  }

-- ---- what is seen

sees_more : {W : Type 0} (saw : SeeingChange W) (scope : Scope) (from : StandingOfChanges W) (made : List MadeChange) (last :
    StandingOfChanges W) (m : MadeChange)
    (to : StandingOfChanges W) → SeesEachChange saw scope from made last → SeesOneChange saw scope last m to → SeesEachChange saw scope from (made ++ m ∷ []) to
sees_more {W} saw scope from [] last m to e one = (to, subst (λ (s : StandingOfChanges W). SeesOneChange saw scope s m to) e one, refl)
sees_more saw scope from (x ∷ made) last m to each one = (each.0, each.1, sees_more saw scope each.0 made last m to each.2 one)

-- one change more is made, and seen
pub sees_next : {W : Type 0} (saw : SeeingChange W) (scope : Scope) (from : StandingOfChanges W) (old : List MadeChange) (last : List ℕ) (now :
    Stream) (between : W)
    (m : MadeChange) (made : List MadeChange) (new : List ℕ) (after : Stream) (watcher : W) →
    SeesEachChange saw scope from old (record { bytes = last; stream = now; watcher = between }) → made ≡ old ++ m ∷ [] →
    ChoosesOne scope last now m new after → saw between last new m watcher →
    SeesEachChange saw scope from made (record { bytes = new; stream = after; watcher = watcher })
sees_next {W} saw scope from old last now between m made new after watcher each e chosen seen =
    let here : StandingOfChanges W = record { bytes = last; stream = now; watcher = between } in
    let to : StandingOfChanges W = record { bytes = new; stream = after; watcher = watcher } in
    subst (λ (ms : List MadeChange). SeesEachChange saw scope from ms to) (sym e)
    (sees_more saw scope from old here m to each (record { chosen = chosen; seen = seen }))

-- ---- an answer with an error or with a value

pub on_error : {T E P : Type 0} (r : Result T E) → is_err r ≡ true → OnErr r P → P
on_error (Ok x) e h = absurd (true≢false (sym e))
on_error (Err x) e h = h

pub on_value : {T E P : Type 0} (r : Result T E) → is_err r ≡ false → OnOk r P → P
on_value (Ok x) e h = h
on_value (Err x) e h = absurd (true≢false e)
