-- A change of operators that are named.
use Rattle.std.proofs.Common.{◌≡◌, false, ℕ, zero, suc, ◌+◌, ◌-◌, ◌%◌, ◌<◌, ◌≤◌, List, [], ◌∷◌, ◌++◌, length, min, Some, refl, sym, subst, mod-eq_of_lt, arith}
use Rattle.std.specs.Prelude.{slice_get}
use Rattle.wasm_code.specs.Instruction.{Instruction}
use Rattle.wasm_code.specs.declared.operator.Operator.{Operator}
use Rattle.wasm_types.specs.Module.{Module}
use Rattle.wasm_types.specs.declared.types.PrimitiveTypeInfo.{PrimitiveTypeInfo}
use Rattle.wasm_module.specs.Module.{Layout, IsModule}
use Rattle.wasm_execution.specs.Values.{Context, context_in}
use Rattle.body_changes.specs.Chosen.{Changes, ChangesNone, ChoosesChange, IsFirstFrom, NoneWithin, behind, before}
use Rattle.body_changes.specs.Kinds.{IsChange, Material}
use Rattle.body_changes.specs.declared.change.Change.{Change}
use Rattle.module_rewrites.specs.Attempt.{RefusesIndex}
use Rattle.module_rewrites.specs.Function.{IsFunction}
use Rattle.module_rewrites.specs.declared.attempt.Reason.{Reason}
use Rattle.module_rewrites.specs.declared.attempt.Reason.TheVariants as reasons
use Rattle.module_changes.specs.Changed.{ChangeDoesNotFit, HasNoChange, MakesChange, WritesBody}
use Rattle.module_changes.specs.Entry.{refusal_by}
use Rattle.module_changes.specs.Placed.{choice_at, least, up_to, words_at, ChangesDown, ChangesLast, IsLargeAt, ChangeMakesAt, MakesNone, RefusesLast}
use Rattle.module_changes.specs.Valid.{StaysValidModule}
use Rattle.module_changes.specs.declared.entry.MadeChange.{MadeChange}
use Rattle.module_changes.specs.declared.placed.ChangeAt.{ChangeAt}
use Rattle.module_changes.proofs.ValidLemmas.{made_stays, stays_as_it_is, stays_follow, OfValidity}

abbrev Operators : Type 0
Operators = List (Operator × ℕ)

-- ---- the words name it

-- where the first one holds, it is the one
first_is : (Holds : ℕ → Type 0) (count k n : ℕ) → k < count → Holds k → IsFirstFrom Holds count k n → n ≡ k
first_is Holds count k n inside holds (behind low high own none) = go (n - k) refl
  where
    go : (gap : ℕ) → n - k ≡ gap → n ≡ k
    go zero e = omega (arith, e, low)
    go (suc gap) e = absurd (none k (omega arith) (omega (arith, e)) holds)
first_is Holds count k n inside holds (before low own none more) = absurd (none k (omega arith) inside holds)

only_one : {X : Type 0} (x y : X) (n : ℕ) → slice_get (x ∷ []) n ≡ Some y → y ≡ x
only_one x y zero e = let same : x ≡ y = cc in sym same
only_one x y (suc n) e = absurd cc

module _ (context : Context) (operators : Operators) (change : Change) (k : ℕ) (inside : k < length operators)
    (makes : ChangeMakesAt context operators change k) where
  chosen_is : (other : Change) (at start : ℕ) (code : List Instruction) →
      ChoosesChange context operators least (change ∷ []) (words_at k) other at start code → (other ≡ change) × (at ≡ k)
  chosen_is other at start code c =
      let same = only_one change other c.number c.is_change in (
        same,
        first_is (Changes context operators least [] change) (length operators) k at inside makes
            (subst (λ (from : ℕ). IsFirstFrom (Changes context operators least [] change) (length operators) from at) (mod-eq_of_lt inside)
            (subst (λ (x : Change). IsFirstFrom (Changes context operators least [] x) (length operators) (k % length operators) at) same c.place)),
      )

  -- so they choose one
  never_none : ChangesNone context operators least (change ∷ []) (words_at k) → ⊥
  never_none none = none 0 (omega arith) (change, refl, (k, inside, makes))

-- what is found by what was read is of the function
module _ (info : Module) (lent locals : List PrimitiveTypeInfo) (given operators : Operators) (copied : List Instruction) (lent_is : lent ≡ locals)
    (given_is : given ≡ operators) (copied_is : copied ≡ []) where
  abbrev found : Material
  found = record { most = 1; copied = copied }

  pub made_so : (own change : Change) (at start : ℕ) (code : List Instruction) → own ≡ change →
      IsChange (context_in info lent) given found [] own at start code → ChangeMakesAt (context_in info locals) operators change at
  made_so own change at start code same h = (
    start,
    code,
    subst (λ (ts : List PrimitiveTypeInfo). IsChange (context_in info ts) operators least [] change at start code) lent_is
        (subst (λ (os : Operators). IsChange (context_in info lent) os least [] change at start code) given_is
        (subst (λ (c : List Instruction). IsChange (context_in info lent) given (record { most = 1; copied = c }) [] change at start code) copied_is
        (subst (λ (x : Change). IsChange (context_in info lent) given found [] x at start code) same h))),
  )

  pub none_so : (change : Change) (from to : ℕ) → NoneWithin (Changes (context_in info lent) given found [] change) from to →
      NoneWithin (ChangeMakesAt (context_in info locals) operators change) from to
  none_so change from to h =
      subst (λ (ts : List PrimitiveTypeInfo). NoneWithin (ChangeMakesAt (context_in info ts) operators change) from to) lent_is
      (subst (λ (os : Operators). NoneWithin (ChangeMakesAt (context_in info lent) os change) from to) given_is
      (subst (λ (c : List Instruction). NoneWithin (Changes (context_in info lent) given (record { most = 1; copied = c }) [] change) from to) copied_is h))

-- ---- the function that was read

module _ (at : ChangeAt) (size : ℕ) (bytes : List ℕ) (info : Module) (layout : Layout) (is : IsModule bytes info layout) (exact : info.exact ≡ false) (n : ℕ)
    (inside : n < length layout.entries) (function_is : layout.imported_functions + n ≡ at.function) (locals : List PrimitiveTypeInfo) (operators : Operators)
    (only : (l : List PrimitiveTypeInfo) (x : ℕ) (o : Operators) → IsFunction bytes info layout n l x o → (locals ≡ l) × (operators ≡ o)) where
  abbrev MakesHere : (k : ℕ) → Type 0
  MakesHere k = ChangeMakesAt (context_in info locals) operators at.change k

  -- none of the operators is changed
  pub none_here : NoneWithin MakesHere at.first (min at.end (length operators)) → MakesNone at bytes
  none_here none = record {
    info = info;
    layout = layout;
    is = is;
    exact = exact;
    n = n;
    inside = inside;
    function_is = function_is;
    none = λ l x o f.
        let same = only l x o f in
        subst (λ (ts : List PrimitiveTypeInfo). NoneWithin (ChangeMakesAt (context_in info ts) o at.change) at.first (min at.end (length o))) same.0
        (subst (λ (os : Operators). NoneWithin (ChangeMakesAt (context_in info locals) os at.change) at.first (min at.end (length os))) same.1 none);
  }

  module _ (k : ℕ) (low : at.first ≤ k) (high : k < min at.end (length operators)) (holds : MakesHere k) where
    -- the function that was read is the one that is changed
    holds_there : (l : List PrimitiveTypeInfo) (x : ℕ) (o : Operators) → IsFunction bytes info layout n l x o →
        (k < length o) × ChangeMakesAt (context_in info l) o at.change k
    holds_there l x o f =
        let same = only l x o f in (
          subst (λ (os : Operators). k < length os) same.1 (omega (arith, high)),
          subst (λ (ts : List PrimitiveTypeInfo). ChangeMakesAt (context_in info ts) o at.change k) same.0
              (subst (λ (os : Operators). ChangeMakesAt (context_in info locals) os at.change k) same.1 holds),
        )

    pub never_unchanged : (x : ℕ) → IsFunction bytes info layout n locals x operators → HasNoChange (choice_at at size) bytes info layout (words_at k) n → ⊥
    never_unchanged x f none =
        never_none (context_in info locals) operators at.change k (omega (arith, high)) holds (none locals x operators f)

    made_there : (m : MadeChange) (contents : List ℕ) (w : WritesBody (choice_at at size) bytes info layout (words_at k) n m contents) →
        (m.change ≡ at.change) × (m.operator ≡ k)
    made_there m contents w =
        let there = holds_there w.locals w.expression w.operators w.function in
        chosen_is (context_in info w.locals) w.operators at.change k there.0 there.1 m.change m.operator m.start w.code.code w.code.chooses

    module _ (none : NoneWithin MakesHere (k + 1) (min at.end (length operators))) where
      none_there : (l : List PrimitiveTypeInfo) (x : ℕ) (o : Operators) → IsFunction bytes info layout n l x o →
          NoneWithin (ChangeMakesAt (context_in info l) o at.change) (k + 1) (min at.end (length o))
      none_there l x o f =
          let same = only l x o f in
          subst (λ (ts : List PrimitiveTypeInfo). NoneWithin (ChangeMakesAt (context_in info ts) o at.change) (k + 1) (min at.end (length o))) same.0
          (subst (λ (os : Operators). NoneWithin (ChangeMakesAt (context_in info locals) os at.change) (k + 1) (min at.end (length os))) same.1 none)

      pub large_here : ChangeDoesNotFit (choice_at at size) bytes info layout (words_at k) n → IsLargeAt at size bytes
      large_here large = record {
        info = info;
        layout = layout;
        is = is;
        exact = exact;
        n = n;
        function_is = function_is;
        operator = k;
        behind = low;
        before = omega (arith, high);
        large = large;
        operator_is = (made_there large.made large.contents large.writes).1;
        last = none_there large.writes.locals large.writes.expression large.writes.operators large.writes.function;
      }

      built : (m : MadeChange) (new : List ℕ) → m.change ≡ at.change → m.operator ≡ k →
          (makes : MakesChange (choice_at at size) bytes info layout (words_at m.operator) n m new) → ChangesLast at size bytes m new
      built m new change e makes = record {
        info = info;
        layout = layout;
        is = is;
        exact = exact;
        n = n;
        function_is = function_is;
        change_is = change;
        behind = omega (arith, low, e);
        before = omega (arith, high, e);
        makes = makes;
        last = subst (λ (o : ℕ). NoneWithin (ChangeMakesAt (context_in info makes.writes.locals) makes.writes.operators at.change) (o + 1)
            (min at.end (length makes.writes.operators))) (sym e)
            (none_there makes.writes.locals makes.writes.expression makes.writes.operators makes.writes.function);
      }

      pub made_last : (m : MadeChange) (new : List ℕ) → MakesChange (choice_at at size) bytes info layout (words_at k) n m new →
          ChangesLast at size bytes m new
      made_last m new makes =
          let same = made_there m makes.contents makes.writes in
          built m new same.0 same.1 (subst (λ (o : ℕ). MakesChange (choice_at at size) bytes info layout (words_at o) n m new) (sym same.1) makes)

-- nothing is changed of a function that can't be read
pub unread : (at : ChangeAt) (bytes : List ℕ) (info : Module) (layout : Layout) → IsModule bytes info layout → info.exact ≡ false → (n : ℕ) →
    n < length layout.entries → layout.imported_functions + n ≡ at.function →
    ((l : List PrimitiveTypeInfo) (x : ℕ) (o : Operators) → IsFunction bytes info layout n l x o → ⊥) → MakesNone at bytes
unread at bytes info layout is exact n inside function_is never = record {
  info = info;
  layout = layout;
  is = is;
  exact = exact;
  n = n;
  inside = inside;
  function_is = function_is;
  none = λ l x o f. absurd (never l x o f);
}

-- why no function may be changed
pub refuses_last : (at : ChangeAt) (size : ℕ) (bytes : List ℕ) (info : Module) (layout : Layout) → IsModule bytes info layout → (reason : Reason) →
    RefusesIndex layout (Some at.function) reason → RefusesLast at size bytes (refusal_by reason)
refuses_last at size bytes info layout is (reasons.NoFunction f) h = record { info = info; layout = layout; is = is; refuses = h }
refuses_last at size bytes info layout is (reasons.UnknownImport e) h = record { info = info; layout = layout; is = is; refuses = h }
refuses_last at size bytes info layout is reason h = absurd h

-- ---- one after another

-- code that is replaced begins no later than it ends
pub starts_within : (at : ChangeAt) (size : ℕ) (bytes : List ℕ) (m : MadeChange) (new : List ℕ) → ChangesLast at size bytes m new → m.start < at.end
starts_within at size bytes m new c =
    let some = c.makes.writes.code.replaced.can.closed.some in
    let before = c.before in
    omega (arith, some, before)

pub first_down : (at : ChangeAt) (size : ℕ) (bytes : List ℕ) (m : MadeChange) (made : List MadeChange) (new : List ℕ) → made ≡ [] ++ m ∷ [] →
    ChangesLast at size bytes m new → ChangesDown at size bytes made new m.start
first_down at size bytes m made new e c =
    subst (λ (ms : List MadeChange). ChangesDown at size bytes ms new m.start) (sym e) (new, c, (refl, refl))

-- one change more
down_more : (at : ChangeAt) (size : ℕ) (bytes : List ℕ) (made : List MadeChange) (middle : List ℕ) (left : ℕ) (m : MadeChange) (new : List ℕ) →
    ChangesDown at size bytes made middle left → ChangesLast (up_to at left) size middle m new → ChangesDown at size bytes (made ++ m ∷ []) new m.start
down_more at size bytes [] middle left m new h c = (
  new,
  subst (λ (b : List ℕ). ChangesLast at size b m new) h.0 (subst (λ (end : ℕ). ChangesLast (up_to at end) size middle m new) h.1 c),
  (refl, refl),
)
down_more at size bytes (x ∷ made) middle left m new h c = (h.0, h.1, down_more (up_to at x.start) size h.0 made middle left m new h.2 c)

pub next_down : (at : ChangeAt) (size : ℕ) (bytes : List ℕ) (old : List MadeChange) (middle : List ℕ) (left : ℕ) (m : MadeChange) (made : List MadeChange)
    (new : List ℕ) → ChangesDown at size bytes old middle left → made ≡ old ++ m ∷ [] → ChangesLast (up_to at left) size middle m new →
    ChangesDown at size bytes made new m.start
next_down at size bytes old middle left m made new h e c =
    subst (λ (ms : List MadeChange). ChangesDown at size bytes ms new m.start) (sym e) (down_more at size bytes old middle left m new h c)

-- ---- valid where it was

last_stays : OfValidity → (at : ChangeAt) (size : ℕ) (bytes : List ℕ) (m : MadeChange) (new : List ℕ) → ChangesLast at size bytes m new →
    StaysValidModule bytes new
last_stays law at size bytes m new c = made_stays law bytes new c.info c.layout c.is c.exact c.makes

pub down_stays : OfValidity → (at : ChangeAt) (size : ℕ) (bytes : List ℕ) (made : List MadeChange) (new : List ℕ) (left : ℕ) →
    ChangesDown at size bytes made new left → StaysValidModule bytes new
down_stays law at size bytes [] new left h = subst (StaysValidModule bytes) (sym h.0) (stays_as_it_is bytes)
down_stays law at size bytes (m ∷ made) new left h =
    stays_follow bytes h.0 new (last_stays law at size bytes m h.0 h.1) (down_stays law (up_to at m.start) size h.0 made new left h.2)
