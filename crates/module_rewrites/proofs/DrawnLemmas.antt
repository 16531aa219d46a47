-- The function and the rewrite that words choose.
use Rattle.std.proofs.Common.{◌≡◌, inl, inr, ℕ, zero, suc, ◌+◌, ◌<◌, ◌≤◌, List, length, get_or, Some, None, sym, subst, ◌∙◌, arith}
use Rattle.std.specs.Prelude.{slice_get}
use Rattle.std.specs.List.{All}
use Rattle.std.proofs.lemmas.Option.{slice_get-get_or}
use Rattle.rand_core.specs.Stream.{Stream}
use Rattle.wasm_types.specs.Module.{Module}
use Rattle.wasm_lists.specs.declared.entries.Entry.{Entry}
use Rattle.wasm_module.specs.Inside.{IsInside}
use Rattle.wasm_module.specs.Module.{Layout}
use Rattle.body_rewrites.specs.Choice.{after_word}
use Rattle.body_rewrites.specs.declared.rewrite.Rewrite.{Rewrite}
use Rattle.module_rewrites.specs.Chosen.{AllInVain, ChoosesAgain, ChoosesBy, ChoosesFrom, ChoosesWithin, GivesUpInOrder, GivesUpOn, TriesInVain}
use Rattle.module_rewrites.specs.Drawing.{EachInVain, IsFirstBehind, NamesEntry, NamesInVain, by_word, in_order}
use Rattle.module_rewrites.specs.Scope.{Scope, draws_of}
use Rattle.module_rewrites.specs.Writing.{MakesAt}

-- the entries of a module are in order
pub all_ordered : (bytes : List ℕ) (entries : List Entry) → ((n : ℕ) (entry : Entry) → slice_get entries n ≡ Some entry → IsInside bytes entry) →
    All (λ (e : Entry). e.contents ≤ e.end) entries
all_ordered bytes entries inside = λ k d lt. (inside k (get_or entries k d) (slice_get-get_or entries k d lt)).ordered

module _ (scope : Scope) (bytes : List ℕ) (info : Module) (layout : Layout) where
  -- ---- in order

  -- by equal numbers
  each_same : (at as_well : ℕ → ℕ) → ((j : ℕ) → at j ≡ as_well j) → (count : ℕ) (s after : Stream) →
      EachInVain (TriesInVain scope bytes info layout) at count s after → EachInVain (TriesInVain scope bytes info layout) as_well count s after
  each_same at as_well same zero s after h = h
  each_same at as_well same (suc count) s after h =
      (h.0, each_same at as_well same count s h.0 h.1, subst (λ i. TriesInVain scope bytes info layout h.0 i after) (same count) h.2)

  -- one attempt in vain more
  pub all_more : (first now next : Stream) (from n : ℕ) → AllInVain scope bytes info layout from n first now →
      TriesInVain scope bytes info layout now n next → AllInVain scope bytes info layout from (n + 1) first next
  all_more first now next from n all one = record {
    k = suc all.k;
    to_is = omega (arith, all.to_is);
    each = (now, all.each, subst (λ i. TriesInVain scope bytes info layout now i next) all.to_is one);
  }

  -- the first one where an attempt isn't in vain
  pub within_here : (first now next : Stream) (from n to function : ℕ) (rewrite : Rewrite) (made : List ℕ) → n < to →
      function ≡ layout.imported_functions + n → AllInVain scope bytes info layout from n first now →
      MakesAt scope bytes info layout now n rewrite made next → ChoosesWithin scope bytes info layout from to first function rewrite made next
  within_here first now next from n to function rewrite made below at all makes = record {
    n = n;
    function_is = at;
    before = below;
    found = now;
    first = (all.k, all.to_is, all.each);
    makes = makes;
  }

  pub from_here : (s after : Stream) (first to function : ℕ) (rewrite : Rewrite) (made : List ℕ) →
      ChoosesWithin scope bytes info layout first to s function rewrite made after →
      ChoosesFrom scope bytes info layout first s function rewrite made after
  from_here s after first to function rewrite made w =
      record { n = w.n; function_is = w.function_is; found = w.found; first = inl w.first; makes = w.makes }

  -- from 0 on, the numbers are those of the attempts
  from_zero : (n : ℕ) (s after : Stream) → IsFirstBehind (TriesInVain scope bytes info layout) 0 n s after →
      EachInVain (TriesInVain scope bytes info layout) (λ j. j) n s after
  from_zero n s after h =
      let same : n ≡ h.0 = omega (arith, h.1) in
      subst (λ i. EachInVain (TriesInVain scope bytes info layout) (λ j. j) i s after) (sym same)
      (each_same (λ j. 0 + j) (λ j. j) (λ j. omega arith) h.0 s after h.2)

  pub from_start : (s now after : Stream) (first count function : ℕ) (rewrite : Rewrite) (made : List ℕ) → count ≡ length layout.entries →
      AllInVain scope bytes info layout first count s now → ChoosesWithin scope bytes info layout 0 first now function rewrite made after →
      ChoosesFrom scope bytes info layout first s function rewrite made after
  from_start s now after first count function rewrite made all_is all w = record {
    n = w.n;
    function_is = w.function_is;
    found = w.found;
    first = inr (w.before, all.k, now, sym all_is ∙ all.to_is, all.each, from_zero w.n now w.found w.first);
    makes = w.makes;
  }

  -- ---- by words

  -- a word names an entry, and the attempt there is in vain
  pub vain_more : (first now drawn next : Stream) (count last n : ℕ) →
      NamesInVain (TriesInVain scope bytes info layout) layout.entries count first last now → drawn ≡ after_word now → NamesEntry now layout.entries n →
      TriesInVain scope bytes info layout drawn n next →
      NamesInVain (TriesInVain scope bytes info layout) layout.entries (count + 1) first n next
  vain_more first now drawn next count last n vain is named tried =
      let next_is : suc count ≡ count + 1 = omega arith in
      subst (λ i. NamesInVain (TriesInVain scope bytes info layout) layout.entries i first n next) next_is
      (last, now, vain, named, subst (λ (x : Stream). TriesInVain scope bytes info layout x n next) is tried)

  -- the next word names one where there is a rewrite that fits
  pub drawn_here : (first now drawn next : Stream) (count last n function : ℕ) (rewrite : Rewrite) (made : List ℕ) → count < draws_of scope bytes →
      NamesInVain (TriesInVain scope bytes info layout) layout.entries count first last now → drawn ≡ after_word now → NamesEntry now layout.entries n →
      function ≡ layout.imported_functions + n → MakesAt scope bytes info layout drawn n rewrite made next →
      ChoosesBy scope bytes info layout None first function rewrite made next
  drawn_here first now drawn next count last n function rewrite made few vain is named at makes = record {
    n = n;
    function_is = at;
    found = drawn;
    finds = by_word count last now few vain named is;
    makes = makes;
  }

  -- all words that may be drawn named entries in vain
  pub drawn_in_order : (first now next : Stream) (count last function : ℕ) (rewrite : Rewrite) (made : List ℕ) → count ≡ draws_of scope bytes →
      NamesInVain (TriesInVain scope bytes info layout) layout.entries count first last now →
      ChoosesFrom scope bytes info layout last now function rewrite made next → ChoosesBy scope bytes info layout None first function rewrite made next
  drawn_in_order first now next count last function rewrite made all vain from = record {
    n = from.n;
    function_is = from.function_is;
    found = from.found;
    finds = in_order last now (subst (λ i. NamesInVain (TriesInVain scope bytes info layout) layout.entries i first last now) all vain) from.first;
    makes = from.makes;
  }

  pub gives_up_by_words : (first now next : Stream) (count last : ℕ) → count ≡ draws_of scope bytes →
      NamesInVain (TriesInVain scope bytes info layout) layout.entries count first last now → GivesUpInOrder scope bytes info layout last now next →
      GivesUpOn scope bytes info layout None first next
  gives_up_by_words first now next count last all vain order =
      (last, now, subst (λ i. NamesInVain (TriesInVain scope bytes info layout) layout.entries i first last now) all vain, order)

  -- ---- the function that is named

  pub again_more : (first now next : Stream) (n k count : ℕ) → count ≡ suc k → EachInVain (TriesInVain scope bytes info layout) (λ j. n) k first now →
      TriesInVain scope bytes info layout now n next → EachInVain (TriesInVain scope bytes info layout) (λ j. n) count first next
  again_more first now next n k count is vain tried =
      subst (λ i. EachInVain (TriesInVain scope bytes info layout) (λ j. n) i first next) (sym is) (now, vain, tried)

  pub again_here : (first now next : Stream) (n k function : ℕ) (rewrite : Rewrite) (made : List ℕ) → k < draws_of scope bytes →
      function ≡ layout.imported_functions + n → EachInVain (TriesInVain scope bytes info layout) (λ j. n) k first now →
      MakesAt scope bytes info layout now n rewrite made next → ChoosesAgain scope bytes info layout n first function rewrite made next
  again_here first now next n k function rewrite made few at vain makes =
      record { function_is = at; count = k; few = few; found = now; vain = vain; makes = makes }

  pub named_here : (s after : Stream) (n function made_in : ℕ) (rewrite : Rewrite) (made : List ℕ) → layout.imported_functions + n ≡ function →
      ChoosesAgain scope bytes info layout n s made_in rewrite made after →
      ChoosesBy scope bytes info layout (Some function) s made_in rewrite made after
  named_here s after n function made_in rewrite made is w = record {
    n = n;
    function_is = w.function_is;
    found = w.found;
    finds = (is, w.count, w.few, w.vain);
    makes = w.makes;
  }
