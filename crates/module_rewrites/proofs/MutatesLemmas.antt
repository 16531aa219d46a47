-- Rewrites made one after another.
use Rattle.std.proofs.Common.{◌≡◌, ℕ, ◌+◌, ◌<◌, List, [], ◌∷◌, ◌++◌, length, Option, Some, None, Result, Ok, Err, true, false, refl, sym}
use Rattle.std.proofs.Common.{◌∙◌, ap, subst, arith, length-append}
use Rattle.std.proofs.lemmas.Bool.{true≢false}
use Rattle.std.proofs.lemmas.Option.{same_Some, slice_get_within}
use Rattle.std.specs.Prelude.{IfSome, OnErr, OnOk, is_err}
use Rattle.rand_core.specs.Stream.{Stream}
use Rattle.wasm_sections.specs.declared.fault.ModuleFault.{ModuleFault}
use Rattle.wasm_sections.specs.declared.fault.ModuleFault.TheVariants.{Memory}
use Rattle.wasm_module.specs.Fault.{IsModuleFault}
use Rattle.body_rewrites.specs.declared.rewrite.Rewrite.{Rewrite}
use Rattle.module_rewrites.specs.Chosen.{ChoosesOfModule, GivesUp}
use Rattle.module_rewrites.specs.ChosenTimes.{ChoosesEach, ChoosesTimes}
use Rattle.module_rewrites.specs.Mutated.{IsChosen, IsMutated, IsOfSize, RefusesMutation}
use Rattle.module_rewrites.specs.Mutates.{Mutates, RewritesEach, IsReadOnceMade}
use Rattle.module_rewrites.specs.Scope.{Scope}
use Rattle.module_rewrites.specs.Watched.{Seeing, Standing, SeesOne, SeesEach}
use Rattle.module_rewrites.specs.declared.mutation.MutationError.{MutationError}
use Rattle.module_rewrites.specs.declared.mutation.MutationError.TheVariants.{Read, Memory as NoMemory, TooLong, NotSmaller, Write}
use Rattle.module_rewrites.specs.declared.times.MadeRewrite.{MadeRewrite}

-- The bytes are the module with so many rewrites made.
pub record SoFar (scope : Scope) (number : ℕ) (bytes : List ℕ) (stream : Stream) (made : List MadeRewrite) (new : List ℕ) (now : Stream) : Type 0 where
  pub each : RewritesEach scope bytes made new
  pub chooses : ChoosesEach scope bytes stream made new now
  pub number_is : length made ≡ number

-- one rewrite more
pub each_more : (scope : Scope) (bytes : List ℕ) (made : List MadeRewrite) (last : List ℕ) (m : MadeRewrite) (new : List ℕ) →
    RewritesEach scope bytes made last → IsMutated scope last m.function m.rewrite new → RewritesEach scope bytes (made ++ m ∷ []) new
each_more scope bytes [] last m new e mutated =
    (new, subst (λ (b : List ℕ). IsMutated scope b m.function m.rewrite new) e mutated, refl)
each_more scope bytes (x ∷ made) last m new each mutated =
    (each.0, each.1, each_more scope each.0 made last m new each.2 mutated)

pub chooses_more : (scope : Scope) (bytes : List ℕ) (stream : Stream) (made : List MadeRewrite) (last : List ℕ) (now : Stream) (m : MadeRewrite)
    (new : List ℕ) (after : Stream) → ChoosesEach scope bytes stream made last now → ChoosesOfModule scope last now m.function m.rewrite new after →
    ChoosesEach scope bytes stream (made ++ m ∷ []) new after
chooses_more scope bytes stream [] last now m new after e chosen = (
  new,
  after,
  subst (λ (b : List ℕ). ChoosesOfModule scope b stream m.function m.rewrite new after) e.0
      (subst (λ (s : Stream). ChoosesOfModule scope last s m.function m.rewrite new after) e.1 chosen),
  (refl, refl),
)
chooses_more scope bytes stream (x ∷ made) last now m new after each chosen =
    (each.0, each.1, each.2, chooses_more scope each.0 each.1 made last now m new after each.3 chosen)

-- the first rewrite
pub first : (scope : Scope) (bytes : List ℕ) (stream : Stream) (m : MadeRewrite) (made : List MadeRewrite) (new : List ℕ) (now : Stream) →
    made ≡ [] ++ m ∷ [] → IsMutated scope bytes m.function m.rewrite new → ChoosesOfModule scope bytes stream m.function m.rewrite new now →
    SoFar scope 1 bytes stream made new now
first scope bytes stream m made new now e mutated chosen =
    subst (λ (ms : List MadeRewrite). SoFar scope 1 bytes stream ms new now) (sym e)
    (record { each = (new, mutated, refl); chooses = (new, now, chosen, (refl, refl)); number_is = refl })

-- one rewrite more
pub next : (scope : Scope) (number : ℕ) (bytes : List ℕ) (stream : Stream) (old : List MadeRewrite) (last : List ℕ) (now : Stream) (m : MadeRewrite)
    (made : List MadeRewrite) (new : List ℕ) (after : Stream) →
    SoFar scope number bytes stream old last now → made ≡ old ++ m ∷ [] → IsMutated scope last m.function m.rewrite new →
    ChoosesOfModule scope last now m.function m.rewrite new after → SoFar scope (number + 1) bytes stream made new after
next scope number bytes stream old last now m made new after so e mutated chosen =
    subst (λ (ms : List MadeRewrite). SoFar scope (number + 1) bytes stream ms new after) (sym e) (record {
      each = each_more scope bytes old last m new so.each mutated;
      chooses = chooses_more scope bytes stream old last now m new after so.chooses chosen;
      number_is = length-append old (m ∷ []) ∙ ap (λ (n : ℕ). n + 1) so.number_is;
    })

-- the watcher sees one rewrite more
sees_more : {W : Type 0} (saw : Seeing W) (scope : Scope) (from : Standing W) (made : List MadeRewrite) (last : Standing W) (m : MadeRewrite)
    (to : Standing W) → SeesEach saw scope from made last → SeesOne saw scope last m to → SeesEach saw scope from (made ++ m ∷ []) to
sees_more {W} saw scope from [] last m to e one = (to, subst (λ (s : Standing W). SeesOne saw scope s m to) e one, refl)
sees_more saw scope from (x ∷ made) last m to each one = (each.0, each.1, sees_more saw scope each.0 made last m to each.2 one)

pub sees_next : {W : Type 0} (saw : Seeing W) (scope : Scope) (from : Standing W) (old : List MadeRewrite) (last : List ℕ) (now : Stream) (between : W)
    (m : MadeRewrite) (made : List MadeRewrite) (new : List ℕ) (after : Stream) (watcher : W) →
    SeesEach saw scope from old (record { bytes = last; stream = now; watcher = between }) → made ≡ old ++ m ∷ [] →
    IsMutated scope last m.function m.rewrite new → ChoosesOfModule scope last now m.function m.rewrite new after → saw between last new m watcher →
    SeesEach saw scope from made (record { bytes = new; stream = after; watcher = watcher })
sees_next {W} saw scope from old last now between m made new after watcher each e mutated chosen seen =
    let to : Standing W = record { bytes = new; stream = after; watcher = watcher } in
    let here : Standing W = record { bytes = last; stream = now; watcher = between } in
    subst (λ (ms : List MadeRewrite). SeesEach saw scope from ms to) (sym e)
    (sees_more saw scope from old here m to each (record { mutated = mutated; chosen = chosen; seen = seen }))

-- what is known of a module in which a rewrite was made: no fault of it is there but want of memory
abbrev pub ModulesAreReadAgain : Type 0
ModulesAreReadAgain =
    (scope : Scope) (bytes new : List ℕ) (function : ℕ) (rewrite : Rewrite) → IsMutated scope bytes function rewrite new →
    (fault : ModuleFault) (offset : ℕ) → IsModuleFault new fault offset → fault ≡ Memory

once_made : ModulesAreReadAgain → (scope : Scope) (bytes : List ℕ) (m : MadeRewrite) (made : List MadeRewrite) (last : List ℕ) →
    RewritesEach scope bytes (m ∷ made) last → (fault : ModuleFault) (offset : ℕ) → IsModuleFault last fault offset → fault ≡ Memory
once_made law scope bytes m [] last h =
    law scope bytes last m.function m.rewrite (subst (λ (b : List ℕ). IsMutated scope bytes m.function m.rewrite b) (sym h.2) h.1)
once_made law scope bytes m (k ∷ made) last h = once_made law scope h.0 k made last h.2

read_once_made : ModulesAreReadAgain → (scope : Scope) (bytes : List ℕ) (made : List MadeRewrite) (last : List ℕ)
    (e : MutationError) → 0 < length made → RewritesEach scope bytes made last → RefusesMutation scope last e → IsReadOnceMade e
read_once_made law scope bytes [] last e some h refused = absurd (omega (arith, some))
read_once_made law scope bytes (m ∷ made) last (Read e) some h refused = once_made law scope bytes m made last h e.kind e.offset refused
read_once_made law scope bytes (m ∷ made) last NoMemory some h refused = tt
read_once_made law scope bytes (m ∷ made) last (Write e) some h refused = tt
read_once_made law scope bytes (m ∷ made) last TooLong some h refused = tt
read_once_made law scope bytes (m ∷ made) last NotSmaller some h refused = tt

-- fewer, since the module that the rewrites left is refused
pub stops : ModulesAreReadAgain → (scope : Scope) (count number : ℕ) (bytes : List ℕ) (stream : Stream) (made : List MadeRewrite) (new : List ℕ)
    (now : Stream) (stopped : Option MutationError) (e : MutationError) → SoFar scope number bytes stream made new now → 0 < number → number < count → stopped
    ≡ Some e →
    RefusesMutation scope new e → Mutates scope count bytes made new stopped
stops law scope count number bytes stream made new now None e so some few is refused = absurd (let wrong : None ≡ Some e = is in cc)
stops law scope count number bytes stream made new now (Some k) e so some few is refused =
    let same : k ≡ e = same_Some k e is in
    let own : RefusesMutation scope new k = subst (RefusesMutation scope new) (sym same) refused in
    record {
      some = omega (arith, so.number_is);
      most = omega (arith, so.number_is);
      each = so.each;
      fewer = λ below. (own, read_once_made law scope bytes made new k (omega (arith, so.number_is)) so.each own);
      all = λ all. absurd (omega (arith, so.number_is, all));
    }

-- the words choose what was made
pub times_none : (scope : Scope) (number : ℕ) (bytes : List ℕ) (stream : Stream) (made : List MadeRewrite) (new : List ℕ) (now : Stream)
    (stopped : Option MutationError) → SoFar scope number bytes stream made new now → stopped ≡ None → ChoosesTimes scope bytes stream made new stopped
times_none scope number bytes stream made new now (Some e) so none = absurd (let wrong : Some e ≡ None = none in cc)
times_none scope number bytes stream made new now None so none = record { after = now; each = so.chooses; gives_up = tt }

pub times_stop : (scope : Scope) (number : ℕ) (bytes : List ℕ) (stream : Stream) (made : List MadeRewrite) (new : List ℕ) (now : Stream)
    (stopped : Option MutationError) (e : MutationError) → SoFar scope number bytes stream made new now → stopped ≡ Some e →
    (IsOfSize e → GivesUp scope new now) → ChoosesTimes scope bytes stream made new stopped
times_stop scope number bytes stream made new now stopped e so is gives_up = record {
  after = now;
  each = so.chooses;
  gives_up = subst (λ (o : Option MutationError). IfSome o (λ k. IsOfSize k → GivesUp scope new now)) (sym is) gives_up;
}

-- what a call that failed, or one that didn't, leaves
pub on_error : {T E P : Type 0} (r : Result T E) → is_err r ≡ true → OnErr r P → P
on_error (Ok x) e h = absurd (true≢false (sym e))
on_error (Err x) e h = h

pub on_value : {T E P : Type 0} (r : Result T E) → is_err r ≡ false → OnOk r P → P
on_value (Ok x) e h = h
on_value (Err x) e h = absurd (true≢false e)

-- no memory was left for the list of what was made
pub no_room : (scope : Scope) (bytes : List ℕ) (function : ℕ) (rewrite : Rewrite) (new : List ℕ) → IsMutated scope bytes function rewrite new →
    RefusesMutation scope bytes NoMemory
no_room scope bytes function rewrite new m = record {
  info = m.info;
  layout = m.layout;
  is = m.is;
  marked = m.marked;
  n = m.mutates.0;
  inside = slice_get_within m.layout.entries m.mutates.0 m.mutates.2.function.entry m.mutates.2.function.is.at;
  chosen = subst (IsChosen scope.function) m.mutates.1 m.chosen;
  refuses = tt;
}

-- ---- rewrites, and others from where they left the module and the generator

each_join : (scope : Scope) (bytes : List ℕ) (first : List MadeRewrite) (between : List ℕ) (second : List MadeRewrite) (new : List ℕ) →
    RewritesEach scope bytes first between → RewritesEach scope between second new → RewritesEach scope bytes (first ++ second) new
each_join scope bytes [] between second new e rest = subst (λ (b : List ℕ). RewritesEach scope b second new) e rest
each_join scope bytes (x ∷ first) between second new each rest = (each.0, each.1, each_join scope each.0 first between second new each.2 rest)

pub chooses_join : (scope : Scope) (bytes : List ℕ) (stream : Stream) (first : List MadeRewrite) (between : List ℕ) (middle : Stream)
    (second : List MadeRewrite) (new : List ℕ) (after : Stream) → ChoosesEach scope bytes stream first between middle →
    ChoosesEach scope between middle second new after → ChoosesEach scope bytes stream (first ++ second) new after
chooses_join scope bytes stream [] between middle second new after e rest =
    subst (λ (b : List ℕ). ChoosesEach scope b stream second new after) e.0
    (subst (λ (s : Stream). ChoosesEach scope between s second new after) e.1 rest)
chooses_join scope bytes stream (x ∷ first) between middle second new after each rest =
    (each.0, each.1, each.2, chooses_join scope each.0 each.1 first between middle second new after each.3 rest)

pub chooses_split : (scope : Scope) (bytes new : List ℕ) (stream after : Stream) (first second : List MadeRewrite) →
    ChoosesEach scope bytes stream (first ++ second) new after →
    (between : List ℕ) × (middle : Stream) × ChoosesEach scope bytes stream first between middle × ChoosesEach scope between middle second new after
chooses_split scope bytes new stream after [] second each = (bytes, stream, (refl, refl), each)
chooses_split scope bytes new stream after (x ∷ first) second each =
    let rest = chooses_split scope each.0 new each.1 after first second each.3 in
    (rest.0, rest.1, (each.0, each.1, each.2, rest.2), rest.3)

pub mutates_join : (scope : Scope) (count more : ℕ) (bytes between new : List ℕ) (first second : List MadeRewrite) (stopped : Option MutationError) →
    Mutates scope count bytes first between None → length first ≡ count → Mutates scope more between second new stopped →
    Mutates scope (count + more) bytes (first ++ second) new stopped
mutates_join scope count more bytes between new first second stopped one whole rest =
    let sum : length (first ++ second) ≡ length first + length second = length-append first second in
    record {
      some = omega (arith, sum, one.some);
      most = omega (arith, sum, whole, rest.most);
      each = each_join scope bytes first between second new one.each rest.each;
      fewer = λ below. rest.fewer (omega (arith, sum, whole, below));
      all = λ all. rest.all (omega (arith, sum, whole, all));
    }
