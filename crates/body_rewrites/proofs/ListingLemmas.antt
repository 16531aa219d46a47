-- The rewrites of a body, as they are listed.
use Rattle.std.proofs.Common.{◌≡◌, ℕ, zero, suc, ◌+◌, ◌<◌, ◌≤◌, ◌⊎◌, inl, inr, Bool, true, false, cond, List, [], ◌∷◌, ◌++◌, length, map}
use Rattle.std.proofs.Common.{get_or, Option, Some, None, refl, sym, ap, ap₂, subst, ◌∙◌, arith, append-nil, append_assoc}
use Rattle.std.specs.Prelude.{Contains, slice_get, ◌==◌, if◌then◌else◌}
use Rattle.std.specs.List.{filter}
use Rattle.std.proofs.lemmas.Bool.{eqb-true, eq-eqb, false≢true}
use Rattle.std.proofs.lemmas.Option.{same_Some}
use Rattle.wasm_code.specs.declared.operator.Operator.{Operator}
use Rattle.wasm_execution.specs.declared.integer.IntegerType.{IntegerType}
use Rattle.wasm_execution.specs.Values.{Context}
use Rattle.rewrite_rules.specs.declared.rule.Rule.{Rule}
use Rattle.rewrite_rules.specs.declared.table.Row.{Row}
use Rattle.rewrite_rules.specs.Rule.{rule_number}
use Rattle.rewrite_rules.specs.Table.{ROWS}
use Rattle.body_rewrites.specs.declared.found.Found.{Found}
use Rattle.body_rewrites.specs.declared.growth.Growth.{Growth}
use Rattle.body_rewrites.specs.declared.growth.Growth.TheVariants.{Shrinks, Keeps, Grows}
use Rattle.body_rewrites.specs.declared.places.Line.{Line}
use Rattle.body_rewrites.specs.declared.rewrite.Rewrite.{Rewrite}
use Rattle.body_rewrites.specs.Changes.{Change}
use Rattle.body_rewrites.specs.Growth.{has_growth, same_growth}
use Rattle.body_rewrites.specs.Rewrites.{Makes, IsAsked, IsMade, by_rows, asked_below, growth_of}
use Rattle.body_rewrites.specs.Listing.{AreThose, HasGrowth, IsWantedBy, LineGrows, OneChange, found_as, AreFound, AddsFound, passing}
use Rattle.body_rewrites.specs.Listing.{AreRules, has_number, has_some, is_by, is_wanted}
use Rattle.body_rewrites.specs.ThoseLemmas.{head_contained, tail_contained, contained_cases, those_append}

-- ---- lines

-- a row has one line for a width
line_one : (number : ℕ) (line other : Line) → slice_get ROWS number ≡ Some line.row → slice_get ROWS number ≡ Some other.row → line.width ≡ other.width →
    line ≡ other
line_one number line other a b e =
    ap₂ (λ (row : Row) (width : IntegerType). let made : Line = record { row = row; width = width } in made) (same_Some line.row other.row (sym a ∙ b)) e

-- the rewrite of an operator by a line of the row with the number
abbrev pub rewrite_by : (at number : ℕ) → Line → Rewrite
rewrite_by at number line = record { operator = at; row = number; width = line.width }

module _ (context : Context) (operators : List (Operator × ℕ)) where
  pub line_nothing : (at number : ℕ) (line : Line) → IsAsked number line → ((change : Change) → Makes context operators line at change → ⊥) →
      IsMade context operators (rewrite_by at number line) → ⊥
  line_nothing at number line asked none (change, made) =
      none change (subst (λ (l : Line). Makes context operators l at change) (line_one number made.line line made.asked.row_is asked.row_is made.width_is)
      made.makes)

  pub line_has_growth : (at number : ℕ) (line : Line) → IsAsked number line → (kind : Growth) → LineGrows context operators line at kind →
      HasGrowth context operators kind (rewrite_by at number line)
  line_has_growth at number line asked kind h = record {
    change = h.change;
    made = record { line = line; asked = asked; width_is = refl; makes = h.makes };
    growth_is = h.growth_is;
  }

  -- a rewrite does one thing to the number of operators
  pub growth_one : OneChange → (r : Rewrite) (kind other : Growth) → HasGrowth context operators kind r → HasGrowth context operators other r →
      kind ≡ other
  growth_one one r kind other a b =
      let same = line_one r.row a.made.line b.made.line a.made.asked.row_is b.made.asked.row_is (a.made.width_is ∙ sym b.made.width_is) in
      let changes = one context operators b.made.line r.operator a.change b.change
      (subst (λ (l : Line). Makes context operators l r.operator a.change) same a.made.makes) b.made.makes in
      sym a.growth_is ∙ ap (λ (c : Change). growth_of operators r.operator c) changes ∙ b.growth_is

  -- ---- what is found

  pub found_append : (xs ys : List Rewrite) (us vs : List Found) → AreFound context operators xs us → AreFound context operators ys vs →
      AreFound context operators (xs ++ ys) (us ++ vs)
  found_append [] ys us vs e more = subst (λ zs. AreFound context operators ys (zs ++ vs)) (sym e) more
  found_append (x ∷ xs) ys us vs (inl (kind, has, rest, e, are)) more =
      inl (kind, has, rest ++ vs, ap (λ zs. zs ++ vs) e, found_append xs ys rest vs are more)
  found_append (x ∷ xs) ys us vs (inr (never, are)) more = inr (never, found_append xs ys us vs are more)

  pub adds_more : (xs ys : List Rewrite) (old mid new : List Found) → AddsFound context operators xs old mid → AddsFound context operators ys mid new →
      AddsFound context operators (xs ++ ys) old new
  adds_more xs ys old mid new a b = record {
    more = a.more ++ b.more;
    are = found_append xs ys a.more b.more a.are b.are;
    new_is = b.new_is ∙ ap (λ zs. zs ++ b.more) a.new_is ∙ append_assoc old a.more b.more;
  }

  pub adds_nothing : (r : Rewrite) (old : List Found) → (IsMade context operators r → ⊥) → AddsFound context operators (r ∷ []) old old
  adds_nothing r old never = record { more = []; are = inr (never, refl); new_is = sym (append-nil old) }

  pub found_few : (items : List Rewrite) (found : List Found) → AreFound context operators items found → length found ≤ length items
  found_few [] found e = let none = ap length e in omega arith
  found_few (x ∷ xs) found (inl (kind, has, rest, e, are)) = let size = ap length e in let l = found_few xs rest are in omega arith
  found_few (x ∷ xs) found (inr (never, are)) = let l = found_few xs found are in omega arith

  -- those that pass a test are those with the property that it decides
  module _ (P : Rewrite → Type 0) (test : Found → Bool) (made : (r : Rewrite) → P r → IsMade context operators r)
      (to : (r : Rewrite) (kind : Growth) → HasGrowth context operators kind r → test (found_as r kind) ≡ true → P r)
      (from : (r : Rewrite) (kind : Growth) → HasGrowth context operators kind r → P r → test (found_as r kind) ≡ true) where
    tested : (r : Rewrite) (kind : Growth) → HasGrowth context operators kind r → (rs : List Rewrite) (rest : List Found) →
        AreThose P rs (passing test rest) → (b : Bool) → test (found_as r kind) ≡ b →
        AreThose P (r ∷ rs) (map (λ (f : Found). f.rewrite) (cond b (found_as r kind ∷ filter test rest) (filter test rest)))
    tested r kind has rs rest are true e = inl (to r kind has e, passing test rest, refl, are)
    tested r kind has rs rest are false e = inr (λ p. false≢true (sym e ∙ from r kind has p), are)

    pub found_passing : (items : List Rewrite) (found : List Found) → AreFound context operators items found → AreThose P items (passing test found)
    found_passing [] found e = ap (λ zs. passing test zs) e
    found_passing (r ∷ rs) found (inl (kind, has, rest, e, are)) =
        subst (λ zs. AreThose P (r ∷ rs) (passing test zs)) (sym e)
        (tested r kind has rs rest (found_passing rs rest are) (test (found_as r kind)) refl)
    found_passing (r ∷ rs) found (inr (never, are)) = inr (λ p. never (made r p), found_passing rs found are)

-- ---- what is asked

pub asked_more : (at : ℕ) → asked_below (at + 1) ≡ asked_below at ++ by_rows at 0 ROWS
asked_more at = let e : at + 1 ≡ suc at = omega arith in ap asked_below e

-- ---- of which rules they are

number_cases : (n m : ℕ) (b : Bool) → (n == m) ≡ b → (rest : Bool) → (if n == m then true else rest) ≡ true → (n ≡ m) ⊎ (rest ≡ true)
number_cases n m true e rest h = inl (eqb-true n m e)
number_cases n m false e rest h = inr (ap (λ c. if c then true else rest) (sym e) ∙ h)

is_number : (n m : ℕ) (rest : Bool) → n ≡ m → (if n == m then true else rest) ≡ true
is_number n m rest e = ap (λ c. if c then true else rest) (eq-eqb n m e)

is_other : (n m : ℕ) (b rest : Bool) → (n == m) ≡ b → rest ≡ true → (if n == m then true else rest) ≡ true
is_other n m true rest e h = ap (λ c. if c then true else rest) e
is_other n m false rest e h = ap (λ c. if c then true else rest) e ∙ h

pub has_number_of : (rules : List Rule) (n : ℕ) → has_number rules n ≡ true → (rule : Rule) × Contains rules rule × (rule_number rule ≡ n)
has_number_of [] n h = absurd (false≢true h)
has_number_of (rule ∷ rules) n h = elim (number_cases (rule_number rule) n (rule_number rule == n) refl (has_number rules n) h) [
  | inl same ↦ (rule, head_contained rule rules, same)
  | inr more ↦ let (other, among, is) = has_number_of rules n more in (other, tail_contained rule rules other among, is)
]

pub number_had : (rules : List Rule) (n : ℕ) (rule : Rule) → Contains rules rule → rule_number rule ≡ n → has_number rules n ≡ true
number_had [] n rule h e = absurd (let l : h.0 < 0 = h.1 in omega arith)
number_had (x ∷ rules) n rule h e = elim (contained_cases x rules rule h) [
  | inl same ↦ is_number (rule_number x) n (has_number rules n) (ap rule_number same ∙ e)
  | inr c ↦ is_other (rule_number x) n (rule_number x == n) (has_number rules n) refl (number_had rules n rule c e)
]

pub none_had : (rules : List Rule) (n : ℕ) (b : Bool) → has_number rules n ≡ b → ((rule : Rule) → Contains rules rule → rule_number rule ≡ n → ⊥) → false ≡ b
none_had rules n true h none = let (rule, among, is) = has_number_of rules n h in absurd (none rule among is)
none_had rules n false h none = refl

-- ---- what they do to the number of operators

the_same : (one other : Growth) → same_growth one other ≡ true → one ≡ other
the_same Shrinks Shrinks h = refl
the_same Keeps Keeps h = refl
the_same Grows Grows h = refl
the_same one other h = absurd (false≢true h)

is_itself : (one : Growth) → same_growth one one ≡ true
is_itself Shrinks = refl
is_itself Keeps = refl
is_itself Grows = refl

growth_cases : (one kind : Growth) (b rest : Bool) → same_growth one kind ≡ b → (if same_growth one kind then true else rest) ≡ true →
    (one ≡ kind) ⊎ (rest ≡ true)
growth_cases one kind true rest e h = inl (the_same one kind e)
growth_cases one kind false rest e h = inr (ap (λ c. if c then true else rest) (sym e) ∙ h)

is_later : (one kind : Growth) (b rest : Bool) → same_growth one kind ≡ b → rest ≡ true → (if same_growth one kind then true else rest) ≡ true
is_later one kind true rest e h = ap (λ c. if c then true else rest) e
is_later one kind false rest e h = ap (λ c. if c then true else rest) e ∙ h

pub has_growth_of : (wanted : List Growth) (kind : Growth) → has_growth wanted kind ≡ true → Contains wanted kind
has_growth_of [] kind h = absurd (false≢true h)
has_growth_of (one ∷ more) kind h = elim (growth_cases one kind (same_growth one kind) (has_growth more kind) refl h) [
  | inl same ↦ subst (Contains (one ∷ more)) same (head_contained one more)
  | inr later ↦ tail_contained one more kind (has_growth_of more kind later)
]

pub growth_had : (wanted : List Growth) (kind other : Growth) → Contains wanted other → other ≡ kind → has_growth wanted kind ≡ true
growth_had [] kind other h e = absurd (let l : h.0 < 0 = h.1 in omega arith)
growth_had (one ∷ more) kind other h e = elim (contained_cases one more other h) [
  | inl same ↦ ap (λ c. if c then true else has_growth more kind)
      (subst (λ (k : Growth). same_growth one k ≡ true) (same ∙ e) (is_itself one))
  | inr c ↦ is_later one kind (same_growth one kind) (has_growth more kind) refl (growth_had more kind other c e)
]

pub item_contained : (wanted : List Growth) (i : ℕ) (d : Growth) → i < length wanted → Contains wanted (get_or wanted i d)
item_contained [] i d l = absurd (omega arith)
item_contained (one ∷ more) zero d l = head_contained one more
item_contained (one ∷ more) (suc i) d l = tail_contained one more (get_or more i d) (item_contained more i d (omega arith))

pub no_growth : (wanted : List Growth) (kind : Growth) (b : Bool) → has_growth wanted kind ≡ b →
    ((other : Growth) → Contains wanted other → other ≡ kind → ⊥) → false ≡ b
no_growth wanted kind true h none = absurd (none kind (has_growth_of wanted kind h) refl)
no_growth wanted kind false h none = refl

module _ (context : Context) (operators : List (Operator × ℕ)) (rows : List ℕ) (are : AreRules rows) (rules : List Rule) (wanted : List Growth) where
  some_of_rule : (o : Option ℕ) → has_some rules o ≡ true → (rule : Rule) × Contains rules rule × (o ≡ Some (rule_number rule))
  some_of_rule None h = absurd (false≢true h)
  some_of_rule (Some n) h = let (rule, among, is) = has_number_of rules n h in (rule, among, ap (λ k. Some k) (sym is))

  both_true : (b c : Bool) → (if b then c else false) ≡ true → (b ≡ true) × (c ≡ true)
  both_true true c h = (refl, h)
  both_true false c h = absurd (false≢true h)

  are_both : (b c : Bool) → b ≡ true → c ≡ true → (if b then c else false) ≡ true
  are_both true c e h = h
  are_both false c e h = absurd (false≢true e)

  pub is_wanted_to : (r : Rewrite) (kind : Growth) → HasGrowth context operators kind r → is_wanted rows rules wanted (found_as r kind) ≡ true →
      IsWantedBy context operators rules wanted r
  is_wanted_to r kind has e =
      let (one, by) = both_true (has_growth wanted kind) (is_by rows rules (found_as r kind)) e in
      let (rule, among, is) = some_of_rule (slice_get rows r.row) by in
      record { growth = kind; listed = has_growth_of wanted kind one; has = has; of_rule = (rule, among, sym (are r.row) ∙ is) }

  pub is_wanted_from : OneChange → (r : Rewrite) (kind : Growth) → HasGrowth context operators kind r → IsWantedBy context operators rules wanted r →
      is_wanted rows rules wanted (found_as r kind) ≡ true
  is_wanted_from law r kind has p =
      let (rule, among, is) = p.of_rule in
      are_both (has_growth wanted kind) (is_by rows rules (found_as r kind))
      (growth_had wanted kind p.growth p.listed (growth_one context operators law r p.growth kind p.has has))
      (ap (has_some rules) (are r.row ∙ is) ∙ number_had rules (rule_number rule) rule among refl)

  -- those that are wanted, of one operator more
  pub by_more : OneChange → (at : ℕ) (list : List Rewrite) (found : List Found) →
      AreThose (IsWantedBy context operators rules wanted) (asked_below at) list → AreFound context operators (by_rows at 0 ROWS) found →
      AreThose (IsWantedBy context operators rules wanted) (asked_below (at + 1)) (list ++ passing (is_wanted rows rules wanted) found)
  by_more law at list found are_before are_here =
      let P = IsWantedBy context operators rules wanted in
      let test = is_wanted rows rules wanted in
      subst (λ items. AreThose P items (list ++ passing test found)) (sym (asked_more at))
      (those_append P (asked_below at) (by_rows at 0 ROWS) list (passing test found) are_before
      (found_passing context operators P test (λ r p. (p.has.change, p.has.made)) is_wanted_to (is_wanted_from law) (by_rows at 0 ROWS) found are_here))
