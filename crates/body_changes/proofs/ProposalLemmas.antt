-- What is proposed, from what each kind makes; what leaves no choice is one code.
use Rattle.std.proofs.Common.{◌≡◌, ℕ, ◌+◌, List, [], ◌∷◌, ◌++◌, Option, Some, None, Result, Ok, Err, sym, ap, ap₂, subst, ◌∙◌, arith}
use Rattle.std.specs.Prelude.{is_some, slice_range, IfNone, IfOk, IfSome, IsTrue}
use Rattle.std.proofs.lemmas.Bool.{false≢true}
use Rattle.wasm_code.specs.Instruction.{Instruction}
use Rattle.wasm_execution.specs.Values.{Context}
use Rattle.body_changes.specs.declared.kinds.Proposal.{Proposal}
use Rattle.body_changes.specs.declared.units.Unit.{Unit}
use Rattle.body_changes.specs.Kinds.{MakesCopy, MakesExchanged, MakesFirst, MakesLast, MakesTurned, MakesTwice, Stand}
use Rattle.body_changes.specs.Units.{IsUnit}
use Rattle.body_changes.proofs.OneUnitLemmas.{one_start}
use Rattle.body_changes.proofs.OwnLemmas.{one_there, same_instructions}
use Rattle.body_changes.proofs.StandLemmas.{Operators}

-- ---- code in the place of a unit

pub none_in : {X Y : Type 0} (r : Option X) (o : Option Y) {A B : Type 0} → (A → B) → IfNone r (o ≡ None) → IfNone o A → IfNone r B
none_in (Some x) o f e h = tt
none_in None (Some y) f e h = absurd cc
none_in None None f e h = f h

-- what is proposed is that code, in the place of the unit
abbrev pub IsOf : {Y : Type 0} → (Y → List Instruction) → (start : ℕ) → Option Y → Proposal → Type 0
IsOf items start o p = IfSome o (λ own. (p.start ≡ start) × (p.code.items ≡ items own))

-- of what leaves no choice
module _ {Y : Type 0} (items : Y → List Instruction) (K : List Instruction → Type 0) (unique : (a b : List Instruction) → K a → K b → a ≡ b) (at : ℕ) where
  pub one_in : (r : Option Proposal) (o : Option Y) → IfSome r (IsOf items at o) → IfSome r (λ p. IsTrue (is_some o)) → IfSome o (λ y. K (items y)) →
      (New : ℕ → List Instruction → Type 0) →
      IfSome r (λ p. (start : ℕ) (code : List Instruction) → (start ≡ at) × K code → New start code → New p.start p.code.items)
  one_in None o is there made New = tt
  one_in (Some p) None is there made New = absurd (false≢true there)
  one_in (Some p) (Some y) is there made New = λ start code k new.
      subst (λ (s : ℕ). New s p.code.items) (k.0 ∙ sym is.0) (subst (New start) (unique code (items y) k.1 made ∙ sym is.1) new)

  pub named_in : (r : Option Proposal) (o : Option Y) → IfSome r (IsOf items at o) → IfSome r (λ p. IsTrue (is_some o)) → IfSome o (λ y. K (items y)) →
      (New Named : ℕ → List Instruction → Type 0) →
      IfSome r (λ p. (start : ℕ) (code : List Instruction) → (start ≡ at) × K code → New start code → Named start code → p.code.items ≡ code)
  named_in None o is there made New Named = tt
  named_in (Some p) None is there made New Named = absurd (false≢true there)
  named_in (Some p) (Some y) is there made New Named = λ start code k new named. is.1 ∙ unique (items y) code made k.1

-- of what words choose
pub named_of : {Y : Type 0} (items : Y → List Instruction) (K : List Instruction → Type 0) (at : ℕ) (r : Option Proposal) (o : Option Y) →
    IfSome r (IsOf items at o) → IfSome r (λ p. IsTrue (is_some o)) → (New : ℕ → List Instruction → Type 0) (Named : List Instruction → Type 0) →
    IfSome o (λ y. (c : List Instruction) → K c → Named c → items y ≡ c) →
    IfSome r (λ p. (start : ℕ) (code : List Instruction) → (start ≡ at) × K code → New start code → Named code → p.code.items ≡ code)
named_of items K at None o is there New Named h = tt
named_of items K at (Some p) None is there New Named h = absurd (false≢true there)
named_of items K at (Some p) (Some y) is there New Named h = λ start code k new named. is.1 ∙ h code k.1 named

-- of what is made in one way
pub named_only : {Y : Type 0} (items : Y → List Instruction) (K : List Instruction → Type 0) (at : ℕ) (r : Option Proposal) (o : Option Y) →
    IfSome r (IsOf items at o) → IfSome r (λ p. IsTrue (is_some o)) → (New : ℕ → List Instruction → Type 0) (Named : List Instruction → Type 0) →
    IfSome o (λ y. (c : List Instruction) → K c → items y ≡ c) →
    IfSome r (λ p. (start : ℕ) (code : List Instruction) → (start ≡ at) × K code → New start code → Named code → p.code.items ≡ code)
named_only items K at None o is there New Named h = tt
named_only items K at (Some p) None is there New Named h = absurd (false≢true there)
named_only items K at (Some p) (Some y) is there New Named h = λ start code k new named. is.1 ∙ h code k.1

-- of what has a start of its own
module _ {E : Type 0} (M : ℕ → List Instruction → Type 0) (unique : (s t : ℕ) (a b : List Instruction) → M s a → M t b → (s ≡ t) × (a ≡ b)) where
  pub new_there : (r : Result (Option Proposal) E) → IfOk r (λ o. IfSome o (λ p. M p.start p.code.items)) → (New : ℕ → List Instruction → Type 0) →
      IfOk r (λ o. IfSome o (λ p. (start : ℕ) (code : List Instruction) → M start code → New start code → New p.start p.code.items))
  new_there (Err e) made New = tt
  new_there (Ok None) made New = tt
  new_there (Ok (Some p)) made New = λ start code m new.
      let (starts, codes) = unique start p.start code p.code.items m made in
      subst (λ (s : ℕ). New s p.code.items) starts (subst (New start) codes new)

  pub named_there : (r : Result (Option Proposal) E) → IfOk r (λ o. IfSome o (λ p. M p.start p.code.items)) →
      (New Named : ℕ → List Instruction → Type 0) →
      IfOk r (λ o. IfSome o (λ p. (start : ℕ) (code : List Instruction) → M start code → New start code → Named start code → p.code.items ≡ code))
  named_there (Err e) made New Named = tt
  named_there (Ok None) made New Named = tt
  named_there (Ok (Some p)) made New Named = λ start code m new named. sym (unique start p.start code p.code.items m made).1

-- ---- one code

one_code : (operators : Operators) (start end : ℕ) (a b : List Instruction) → Stand operators start end a → Stand operators start end b → a ≡ b
one_code operators start end a b g h = same_instructions (slice_range operators start end) a b g h

pub one_copy : (copied a b : List Instruction) → MakesCopy copied a → MakesCopy copied b → a ≡ b
one_copy copied a b g h = g.code_is ∙ sym h.code_is

pub one_first : (operators : Operators) (unit : Unit) (a b : List Instruction) → MakesFirst operators unit a → MakesFirst operators unit b → a ≡ b
one_first operators unit a b g h = one_code operators unit.start unit.last a b g.stand h.stand

pub one_last : (operators : Operators) (at : ℕ) (unit : Unit) (a b : List Instruction) → MakesLast operators at unit a → MakesLast operators at unit b →
    a ≡ b
one_last operators at unit a b g h = one_code operators unit.last at a b g.stand h.stand

pub one_exchanged : (operators : Operators) (at : ℕ) (unit : Unit) (a b : List Instruction) → MakesExchanged operators at unit a →
    MakesExchanged operators at unit b → a ≡ b
one_exchanged operators at unit a b g h =
    let firsts = one_code operators unit.start unit.last g.first h.first g.first_stands h.first_stands in
    let lasts = one_code operators unit.last at g.last h.last g.last_stands h.last_stands in
    let owns = one_there operators at g.own h.own g.has h.has in
    g.code_is ∙ (ap₂ (λ (x : List Instruction) (i : Instruction). x ++ i ∷ [])
    (ap₂ (λ (x : List Instruction) (y : List Instruction). x ++ y) lasts firsts) owns ∙ sym h.code_is)

pub one_twice : (operators : Operators) (at : ℕ) (unit : Unit) (a b : List Instruction) → MakesTwice operators at unit a → MakesTwice operators at unit b →
    a ≡ b
one_twice operators at unit a b g h =
    let owns = one_code operators unit.start (at + 1) g.own h.own g.stand h.stand in
    g.code_is ∙ (ap (λ (x : List Instruction). x ++ x) owns ∙ sym h.code_is)

-- the start is one too
pub one_turned : (context : Context) (operators : Operators) (at : ℕ) (unit : Unit) (s t : ℕ) (a b : List Instruction) →
    MakesTurned context operators at unit s a → MakesTurned context operators at unit t b → (s ≡ t) × (a ≡ b)
one_turned context operators at unit s t a b g h =
    let m = g.right_before in
    let n = h.right_before in
    let lasts : h.last ≡ g.last = omega arith in
    let starts = one_start context operators g.last g.before h.before g.is (subst (λ (k : ℕ). IsUnit context operators k h.before) lasts h.is) in
    let firsts = one_code operators g.before.start unit.start g.first h.first g.first_stands
    (subst (λ (k : ℕ). Stand operators k unit.start h.first) (sym starts) h.first_stands) in
    let owns = one_code operators unit.start (at + 1) g.own h.own g.own_stands h.own_stands in (
      g.start_is ∙ (starts ∙ sym h.start_is),
      g.code_is ∙ (ap₂ (λ (x : List Instruction) (y : List Instruction). x ++ y) owns firsts ∙ sym h.code_is),
    )
