-- What is made of an operator, and which operator and which change come first.
use Rattle.std.proofs.Common.{◌≡◌, ℕ, ◌+◌, ◌%◌, ◌<◌, ◌≤◌, ◌⊎◌, inl, inr, List, length, drop, Option, Some, None, Result, Ok, Err, sym, ap}
use Rattle.std.proofs.Common.{subst, ◌∙◌, mod-lt, arith}
use Rattle.std.specs.Prelude.{◌↔◌, get_or, slice_get, Bool, IfNone, IfOk, IfSome, IsTrue}
use Rattle.std.proofs.lemmas.Bool.{cases_lt}
use Rattle.std.proofs.lemmas.Option.{same_Some}
use Rattle.wasm_code.specs.Instruction.{Instruction}
use Rattle.body_changes.specs.declared.change.Change.{Change}
use Rattle.body_changes.specs.declared.changing.Body.{Body}
use Rattle.body_changes.specs.declared.changing.Changed.{Changed}
use Rattle.body_changes.specs.declared.kinds.Place.{Place}
use Rattle.body_changes.specs.declared.units.Unit.{Unit}
use Rattle.body_changes.specs.Body.{context_in_body, material_in, body_operators_in, ChangesIn, ChangesSome, IsBody, IsFound, IsNumbered}
use Rattle.body_changes.specs.Chosen.{behind, before, ChoosesChange, IsFirstFrom, NoneWithin}
use Rattle.body_changes.specs.Kinds.{IsChange, ChangeMakes, WordsNameCode}
use Rattle.body_changes.specs.Proposals.{IsNewFrom, IsPlace, MakesAtPlace, MakesNew, NamesAt}
use Rattle.body_changes.specs.Units.{IsUnit}
use Rattle.body_changes.proofs.EndLemmas.{no_unit_there, unit_there}
use Rattle.body_changes.proofs.OneUnitLemmas.{one_unit}

-- the place in the body
abbrev pub place_in : Body → (at : ℕ) → Unit → Place
place_in body at unit = record { source = body.source; units = body.units; at = at; unit = unit; copied = body.copied }

module _ (body : Body) (is : IsBody body) (at : ℕ) (inside : at < length (body_operators_in body)) where
  pub no_unit : get_or body.units.now at None ≡ None → (words : List ℕ) (change : Change) → ChangesIn body words change at → ⊥
  no_unit e words change (start, code, c) =
      no_unit_there (context_in_body body) (body_operators_in body) body.units.now at None is.units inside (λ u f. none u (sym e ∙ f)) c.unit c.is
    where
      none : (u : Unit) → None ≡ Some u → ⊥
      none u f = cc

  pub is_place : (unit : Unit) → get_or body.units.now at None ≡ Some unit → IsPlace (place_in body at unit)
  is_place unit e = record {
    units = is.units;
    inside = inside;
    is = unit_there (context_in_body body) (body_operators_in body) body.units.now at None unit is.units inside e;
    copied = is.copied;
  }

  module _ (unit : Unit) (there : IsPlace (place_in body at unit)) (words : List ℕ) (change : Change) where
    -- what the change makes is made of this unit
    made_here : (start : ℕ) (code : List Instruction)
        (c : IsChange (context_in_body body) (body_operators_in body) (material_in body) words change at start code) →
        MakesAtPlace (place_in body at unit) body.most words change start code
    made_here start code c =
        subst (λ (u : Unit). ChangeMakes (context_in_body body) (body_operators_in body) (material_in body) words change at u start code)
        (one_unit (context_in_body body) (body_operators_in body) at c.unit unit c.is there.is) c.makes

    pub none_made : ((start : ℕ) (code : List Instruction) → MakesAtPlace (place_in body at unit) body.most words change start code →
        IsNewFrom (place_in body at unit) start code → ⊥) → ChangesIn body words change at → ⊥
    none_made never (start, code, c) = never start code (made_here start code c) c.new

    pub changes_here : (b : Bool) → (IsTrue b ↔ MakesNew (place_in body at unit) body.most words change) → IsTrue b ↔ ChangesIn body words change at
    changes_here b decided = (
      λ f. let (start, code, makes, new) = decided.0 f in (start, code, record { unit = unit; is = there.is; makes = makes; new = new }),
      λ k. decided.1 (k.0, k.1, made_here k.0 k.1 k.2, k.2.new),
    )

    pub is_found : (c : Changed) → c.change ≡ change → c.at ≡ at → MakesAtPlace (place_in body at unit) body.most words change c.start c.code.items →
        IsNewFrom (place_in body at unit) c.start c.code.items →
        ((start : ℕ) (code : List Instruction) → MakesAtPlace (place_in body at unit) body.most words change start code →
        IsNewFrom (place_in body at unit) start code → NamesAt (place_in body at unit) change words code → c.code.items ≡ code) →
        IsFound body words c
    is_found c e f makes new named =
        let own : IsChange (context_in_body body) (body_operators_in body) (material_in body) words change at c.start c.code.items =
        record { unit = unit; is = there.is; makes = makes; new = new } in
        record {
          is = subst (λ (x : Change). IsChange (context_in_body body) (body_operators_in body) (material_in body) words x c.at c.start c.code.items) (sym e)
              (subst (λ (k : ℕ). IsChange (context_in_body body) (body_operators_in body) (material_in body) words change k c.start c.code.items) (sym f) own);
          named = named_so c e f named;
        }
      where
        named_so : (c : Changed) → c.change ≡ change → c.at ≡ at →
            ((start : ℕ) (code : List Instruction) → MakesAtPlace (place_in body at unit) body.most words change start code →
            IsNewFrom (place_in body at unit) start code → NamesAt (place_in body at unit) change words code → c.code.items ≡ code) →
            (s : ℕ) (other : List Instruction) (o : IsChange (context_in_body body) (body_operators_in body) (material_in body) words c.change c.at s other) →
            WordsNameCode (context_in_body body) c.change o.unit words other → c.code.items ≡ other
        named_so c e f named s other o names = go c.change c.at e f o names
          where
            go : (x : Change) (k : ℕ) → x ≡ change → k ≡ at →
                (o : IsChange (context_in_body body) (body_operators_in body) (material_in body) words x k s other) →
                WordsNameCode (context_in_body body) x o.unit words other → c.code.items ≡ other
            go x k p q o names =
                let unit_is : IsUnit (context_in_body body) (body_operators_in body) at o.unit =
                subst (λ (m : ℕ). IsUnit (context_in_body body) (body_operators_in body) m o.unit) q o.is in
                let same = one_unit (context_in_body body) (body_operators_in body) at o.unit unit unit_is there.is in
                named s other
                (subst (λ (u : Unit). ChangeMakes (context_in_body body) (body_operators_in body) (material_in body) words change at u s other) same
                (subst (λ (y : Change). ChangeMakes (context_in_body body) (body_operators_in body) (material_in body) words y at o.unit s other) p
                (subst (λ (m : ℕ). ChangeMakes (context_in_body body) (body_operators_in body) (material_in body) words x m o.unit s other) q o.makes)))
                (subst (λ (m : ℕ). IsNewFrom (place_in body m unit) s other) q o.new)
                (subst (λ (u : Unit). WordsNameCode (context_in_body body) change u words other) same
                (subst (λ (y : Change). WordsNameCode (context_in_body body) y o.unit words other) p names))

-- ---- the first one

pub none_more : (Holds : ℕ → Type 0) (from at : ℕ) → NoneWithin Holds from at → (Holds at → ⊥) → NoneWithin Holds from (at + 1)
none_more Holds from at none never k a b h = go (cases_lt k at)
  where
    go : (k < at) ⊎ (at ≤ k) → ⊥
    go (inl l) = none k a l h
    go (inr l) = let same : k ≡ at = omega arith in never (subst Holds same h)

-- the same from the last one down
pub none_less : (Holds : ℕ → Type 0) (at end to : ℕ) → end ≡ at + 1 → NoneWithin Holds end to → (Holds at → ⊥) → NoneWithin Holds at to
none_less Holds at end to is none never k a b h = go (cases_lt at k)
  where
    go : (at < k) ⊎ (k ≤ at) → ⊥
    go (inl l) = none k (omega (arith, is, l)) b h
    go (inr l) = let same : k ≡ at = omega arith in never (subst Holds same h)

pub none_to : (Holds : ℕ → Type 0) (from at to : ℕ) → NoneWithin Holds from at → to ≤ at → NoneWithin Holds from to
none_to Holds from at to none l k a b = none k a (omega arith)

pub none_all : (Holds : ℕ → Type 0) (from count : ℕ) → NoneWithin Holds from count → NoneWithin Holds 0 from → NoneWithin Holds 0 count
none_all Holds from count last first k a b h = go (cases_lt k from)
  where
    go : (k < from) ⊎ (from ≤ k) → ⊥
    go (inl l) = first k (omega arith) l h
    go (inr l) = last k l b h

pub on_none : {X E A B : Type 0} (r : Result (Option X) E) → (A → B) → IfOk r (λ o. IfNone o A) → IfOk r (λ o. IfNone o B)
on_none (Err e) f h = tt
on_none (Ok (Some x)) f h = tt
on_none (Ok None) f h = f h

pub on_some : {X E : Type 0} (r : Result (Option X) E) (P Q : X → Type 0) → ((x : X) → P x → Q x) → IfOk r (λ o. IfSome o P) → IfOk r (λ o. IfSome o Q)
on_some (Err e) P Q f h = tt
on_some (Ok None) P Q f h = tt
on_some (Ok (Some x)) P Q f h = f x h

first_inside : (Holds : ℕ → Type 0) (count from n : ℕ) → from < count → IsFirstFrom Holds count from n → n < count
first_inside Holds count from n l (behind a b h none) = b
first_inside Holds count from n l (before a h none more) = omega arith

module _ (body : Body) (changes : List Change) (words : List ℕ) (some : 0 < length (body_operators_in body)) where
  holds_at : (from to : ℕ) (c : Changed) (n : IsNumbered body changes words from to c) → ChangesSome body changes words n.number
  holds_at from to c n =
      let inside = first_inside (ChangesIn body (drop 2 words) c.change) (length (body_operators_in body))
      (get_or words 1 0 % length (body_operators_in body)) c.at (mod-lt (get_or words 1 0) some) n.place in
      (c.change, n.is_change, (c.at, inside, (c.start, c.code.items, n.found.is)))

  chosen : (from to : ℕ) (c : Changed) (n : IsNumbered body changes words from to c) →
      IsFirstFrom (ChangesSome body changes words) (length changes) (get_or words 0 0 % length changes) n.number →
      ChoosesChange (context_in_body body) (body_operators_in body) (material_in body) changes words c.change c.at c.start c.code.items
  chosen from to c n first = record {
    number = n.number;
    is_change = n.is_change;
    first = first;
    place = n.place;
    is = n.found.is;
    named = n.found.named;
  }

  -- from the one that the word names on
  pub chosen_behind : (from : ℕ) (c : Changed) → from ≡ get_or words 0 0 % length changes → IsNumbered body changes words from (length changes) c →
      ChoosesChange (context_in_body body) (body_operators_in body) (material_in body) changes words c.change c.at c.start c.code.items
  chosen_behind from c e n =
      chosen from (length changes) c n
      (subst (λ (k : ℕ). IsFirstFrom (ChangesSome body changes words) (length changes) k n.number) e
      (behind n.behind n.before (holds_at from (length changes) c n) n.first))

  -- or before it
  pub chosen_before : (from : ℕ) (c : Changed) → from ≡ get_or words 0 0 % length changes → NoneWithin (ChangesSome body changes words) from (length changes) →
      IsNumbered body changes words 0 from c →
      ChoosesChange (context_in_body body) (body_operators_in body) (material_in body) changes words c.change c.at c.start c.code.items
  chosen_before from c e none n =
      chosen 0 from c n
      (subst (λ (k : ℕ). IsFirstFrom (ChangesSome body changes words) (length changes) k n.number) e
      (before n.before (holds_at 0 from c n) none n.first))

-- the change of that number makes nothing of any operator
pub number_never : (body : Body) (changes : List Change) (words rest : List ℕ) (number : ℕ) (change : Change) → rest ≡ drop 2 words →
    slice_get changes number ≡ Some change → NoneWithin (ChangesIn body rest change) 0 (length (body_operators_in body)) →
    ChangesSome body changes words number → ⊥
number_never body changes words rest number change e is never (other, there, (at, inside, (start, code, h))) =
    let same : other ≡ change = same_Some other change (sym there ∙ is) in
    never at (omega arith) inside (
      start,
      code,
      subst (λ (x : Change). IsChange (context_in_body body) (body_operators_in body) (material_in body) rest x at start code) same
          (subst (λ (ws : List ℕ). IsChange (context_in_body body) (body_operators_in body) (material_in body) ws other at start code) (sym e) h),
    )

pub numbered : (body : Body) (changes : List Change) (words rest : List ℕ) (from to number start : ℕ) (change : Change) (c : Changed) →
    rest ≡ drop 2 words → start ≡ get_or words 1 0 % length (body_operators_in body) → from ≤ number → number < to →
    slice_get changes number ≡ Some change → NoneWithin (ChangesSome body changes words) from number → c.change ≡ change → IsFound body rest c →
    IsFirstFrom (ChangesIn body rest change) (length (body_operators_in body)) start c.at → IsNumbered body changes words from to c
numbered body changes words rest from to number start change c e f a b is none g found first = record {
  number = number;
  behind = a;
  before = b;
  is_change = is ∙ ap (λ (x : Change). Some x) (sym g);
  first = none;
  place = subst (λ (ws : List ℕ). IsFirstFrom (ChangesIn body ws c.change) (length (body_operators_in body))
      (get_or words 1 0 % length (body_operators_in body)) c.at) e
      (subst (λ (k : ℕ). IsFirstFrom (ChangesIn body rest c.change) (length (body_operators_in body)) k c.at) f
      (subst (λ (x : Change). IsFirstFrom (ChangesIn body rest x) (length (body_operators_in body)) start c.at) (sym g) first));
  found = subst (λ (ws : List ℕ). IsFound body ws c) e found;
}
