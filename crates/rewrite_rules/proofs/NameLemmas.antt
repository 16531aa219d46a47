-- The names of the rules, line by line; and that no two of them are the same.
use Rattle.std.proofs.Common.{◌≡◌, ℕ, zero, suc, ◌+◌, ◌-◌, ◌<◌, ◌≤◌, ◌⊎◌, Bool, true, false, List, [], ◌∷◌, ◌++◌, Option, Some, None, length, drop, take}
use Rattle.std.proofs.Common.{refl, sym, ap, subst, ◌∙◌, arith, lit<, inl, inr}
use Rattle.std.specs.Prelude.{◌&&◌, ◌||◌, not, map, slice_get, option_map}
use borrow.Author.Count.{below_more}
use Rattle.std.specs.Option.{option_flatten}
use Rattle.std.specs.Str.{bytes_eq}
use Rattle.std.specs.Cmp.Lexicographic.{other_text}
use Rattle.std.proofs.lemmas.Bool.{and_parts}
use Rattle.std.specs.Borrow.{Bor}
use Rattle.std.proofs.lemmas.List.{drop_all, take_all, length-append, length-map, map-append}
use Rattle.std.proofs.lemmas.Option.{same_Some, slice_get_cases, slice_get_past, slice_get-get_or}
use Rattle.rewrite_rules.specs.declared.rule.Rule.{Rule}
use Rattle.rewrite_rules.specs.Rule.{rule_number}
use Rattle.rewrite_rules.specs.Table.{entries, row_in, parts, ROWS}
use Rattle.rewrite_rules.specs.Names.{name_in, begins, given, names, rule_of, NamesDiffer}

-- ---- line by line

by_suc : {A : Type 0} (f : ℕ → A) (i : ℕ) → f (suc i) ≡ f (i + 1)
by_suc f i = let e : suc i ≡ i + 1 = omega arith in ap f e

-- a name stands there
some_from : (os : List (Option (List ℕ))) (i : ℕ) (t : List ℕ) → option_flatten (slice_get os i) ≡ Some t → given (drop i os) ≡ t ∷ given (drop (suc i) os)
some_from [] i t e = absurd cc
some_from (Some s ∷ os) zero t e = ap (λ x. x ∷ given os) (same_Some s t e)
some_from (None ∷ os) zero t e = absurd cc
some_from (o ∷ os) (suc i) t e = some_from os i t e

-- none does
none_from : (os : List (Option (List ℕ))) (i : ℕ) → option_flatten (slice_get os i) ≡ None → given (drop i os) ≡ given (drop (suc i) os)
none_from [] zero e = refl
none_from [] (suc i) e = refl
none_from (Some s ∷ os) zero e = absurd cc
none_from (None ∷ os) zero e = refl
none_from (o ∷ os) (suc i) e = none_from os i e

-- ---- counting

-- what is known where a list goes on with a name
record GoesOn (ns : List (List ℕ)) (count : ℕ) (t : List ℕ) (rest : List (List ℕ)) : Type 0 where
  here : slice_get ns count ≡ Some t
  behind : drop (suc count) ns ≡ rest
  within : count < length ns

goes_on : (ns : List (List ℕ)) (count : ℕ) (t : List ℕ) (rest : List (List ℕ)) → drop count ns ≡ t ∷ rest → GoesOn ns count t rest
goes_on [] zero t rest e = absurd cc
goes_on [] (suc count) t rest e = absurd cc
goes_on (n ∷ ns) zero t rest e =
    let is : n ≡ t = cc in
    let more : ns ≡ rest = cc in
    record { here = ap (λ x. Some x) is; behind = more; within = omega arith }
goes_on (n ∷ ns) (suc count) t rest e =
    let h = goes_on ns count t rest e in
    record { here = h.here; behind = h.behind; within = omega arith }

ends : (ns : List (List ℕ)) (count : ℕ) → drop count ns ≡ [] → length ns ≤ count
ends [] count e = omega arith
ends (n ∷ ns) zero e = absurd cc
ends (n ∷ ns) (suc count) e = let l = ends ns count e in omega arith

-- Before the line with the index there are as many names as were counted.
pub record AreCounted (os : List (Option (List ℕ))) (i count : ℕ) : Type 0 where
  pub rest : drop count (given os) ≡ given (drop i os)
  pub within : count ≤ length (given os)
  pub few : count ≤ i

module _ (os : List (Option (List ℕ))) where
  at_name : (i count : ℕ) (t : List ℕ) → AreCounted os i count → option_flatten (slice_get os i) ≡ Some t →
      GoesOn (given os) count t (given (drop (suc i) os))
  at_name i count t h e = goes_on (given os) count t (given (drop (suc i) os)) (h.rest ∙ some_from os i t e)

  pub counted_some : (i count : ℕ) (t : List ℕ) → AreCounted os i count → option_flatten (slice_get os i) ≡ Some t → AreCounted os (i + 1) (count + 1)
  counted_some i count t h e =
      let next = at_name i count t h e in
      record {
        rest = sym (by_suc (λ n. drop n (given os)) count) ∙ (next.behind ∙ by_suc (λ n. given (drop n os)) i);
        within = omega arith;
        few = omega arith;
      }

  pub counted_none : (i count : ℕ) → AreCounted os i count → option_flatten (slice_get os i) ≡ None → AreCounted os (i + 1) count
  counted_none i count h e = record {
    rest = h.rest ∙ (none_from os i e ∙ by_suc (λ n. given (drop n os)) i);
    within = h.within;
    few = omega arith;
  }

  -- the name that stands there has that number
  pub number_here : (i count : ℕ) (t : List ℕ) → AreCounted os i count → option_flatten (slice_get os i) ≡ Some t → slice_get (given os) count ≡ Some t
  number_here i count t h e = (at_name i count t h e).here

  -- behind the last line
  pub all_counted : (i count : ℕ) → AreCounted os i count → length os ≤ i → count ≡ length (given os)
  all_counted i count h l =
      let none = ends (given os) count (h.rest ∙ ap given (drop_all i os l)) in
      omega arith

  -- the name that is elsewhere than among these
  pub is_none : (i count n : ℕ) → AreCounted os i count → length os ≤ i → count ≤ n → slice_get (given os) n ≡ None
  is_none i count n h l m = let all = all_counted i count h l in slice_get_past (given os) n (omega arith)

-- ---- by the rows

pub as_long : length begins ≡ length ROWS
as_long = length-map entries name_in ∙ sym (length-map entries row_in)

pub few_rows : length ROWS < 65535
unfolding parts
few_rows = lit< tt

pub few_names : length names < 65536
unfolding parts
few_names = lit< tt

-- ---- the rules of the rows

some_up_to : (os : List (Option (List ℕ))) (i : ℕ) (t : List ℕ) → option_flatten (slice_get os i) ≡ Some t →
    length (given (take (suc i) os)) ≡ length (given (take i os)) + 1
some_up_to [] i t e = absurd cc
some_up_to (Some s ∷ os) zero t e = refl
some_up_to (None ∷ os) zero t e = absurd cc
some_up_to (Some s ∷ os) (suc i) t e = let h = some_up_to os i t e in omega arith
some_up_to (None ∷ os) (suc i) t e = some_up_to os i t e

none_up_to : (os : List (Option (List ℕ))) (i : ℕ) → option_flatten (slice_get os i) ≡ None → length (given (take (suc i) os)) ≡ length (given (take i os))
none_up_to [] zero e = refl
none_up_to [] (suc i) e = refl
none_up_to (Some s ∷ os) zero e = absurd cc
none_up_to (None ∷ os) zero e = refl
none_up_to (Some s ∷ os) (suc i) e = ap (λ n. suc n) (none_up_to os i e)
none_up_to (None ∷ os) (suc i) e = none_up_to os i e

pub one_more : (os : List (Option (List ℕ))) (i count : ℕ) (t : List ℕ) → count ≡ length (given (take i os)) → option_flatten (slice_get os i) ≡ Some t →
    count + 1 ≡ length (given (take (i + 1) os))
one_more os i count t h e = ap (λ n. n + 1) h ∙ (sym (some_up_to os i t e) ∙ by_suc (λ n. length (given (take n os))) i)

pub no_more : (os : List (Option (List ℕ))) (i count : ℕ) → count ≡ length (given (take i os)) → option_flatten (slice_get os i) ≡ None →
    count ≡ length (given (take (i + 1) os))
no_more os i count h e = h ∙ (sym (none_up_to os i e) ∙ by_suc (λ n. length (given (take n os))) i)

-- ---- the names of the lines so far

some_given : (os : List (Option (List ℕ))) (i : ℕ) (t : List ℕ) → option_flatten (slice_get os i) ≡ Some t →
    given (take (suc i) os) ≡ given (take i os) ++ t ∷ []
some_given [] i t e = absurd cc
some_given (Some s ∷ os) zero t e = ap (λ x. x ∷ []) (same_Some s t e)
some_given (None ∷ os) zero t e = absurd cc
some_given (Some s ∷ os) (suc i) t e = ap (λ zs. s ∷ zs) (some_given os i t e)
some_given (None ∷ os) (suc i) t e = some_given os i t e

none_given : (os : List (Option (List ℕ))) (i : ℕ) → option_flatten (slice_get os i) ≡ None → given (take (suc i) os) ≡ given (take i os)
none_given [] zero e = refl
none_given [] (suc i) e = refl
none_given (Some s ∷ os) zero e = absurd cc
none_given (None ∷ os) zero e = refl
none_given (Some s ∷ os) (suc i) e = ap (λ zs. s ∷ zs) (none_given os i e)
none_given (None ∷ os) (suc i) e = none_given os i e

pub names_more : (items more : List (Bor (List ℕ))) (i : ℕ) (t : Bor (List ℕ)) → more ≡ items ++ t ∷ [] →
    option_flatten (slice_get begins i) ≡ Some t.now → map (λ (t : Bor (List ℕ)). t.now) items ≡ given (take i begins) →
    map (λ (t : Bor (List ℕ)). t.now) more ≡ given (take (i + 1) begins)
names_more items more i t next here so =
    ap (map (λ (t : Bor (List ℕ)). t.now)) next
    ∙ (map-append (λ (t : Bor (List ℕ)). t.now) items (t ∷ [])
    ∙ (ap (λ zs. zs ++ t.now ∷ []) so ∙ (sym (some_given begins i t.now here) ∙ by_suc (λ n. given (take n begins)) i)))

pub names_same : (items : List (Bor (List ℕ))) (i : ℕ) → option_flatten (slice_get begins i) ≡ None →
    map (λ (t : Bor (List ℕ)). t.now) items ≡ given (take i begins) → map (λ (t : Bor (List ℕ)). t.now) items ≡ given (take (i + 1) begins)
names_same items i here so = so ∙ (sym (none_given begins i here) ∙ by_suc (λ n. given (take n begins)) i)

pub all_names : (items : List (Bor (List ℕ))) (i : ℕ) → length ROWS ≤ i → map (λ (t : Bor (List ℕ)). t.now) items ≡ given (take i begins) →
    map (λ (t : Bor (List ℕ)). t.now) items ≡ names
all_names items i l so = let long = as_long in so ∙ ap given (take_all i begins (omega arith))

fewer_given : (os : List (Option (List ℕ))) (i : ℕ) → length (given (take i os)) ≤ length (given os)
fewer_given [] zero = omega arith
fewer_given [] (suc i) = omega arith
fewer_given (o ∷ os) zero = omega arith
fewer_given (Some s ∷ os) (suc i) = let l = fewer_given os i in omega arith
fewer_given (None ∷ os) (suc i) = fewer_given os i

some_names : 0 < length names
unfolding parts
some_names = lit< tt

-- the number of a row's rule is that of a name
pub rule_below : (i count x : ℕ) → count ≡ length (given (take i begins)) → x ≡ count - 1 → x < length names
rule_below i count x h is = let few = fewer_given begins i in let some = some_names in omega arith

get_before : (xs : List ℕ) (x k : ℕ) → k < length xs → slice_get (xs ++ x ∷ []) k ≡ slice_get xs k
get_before [] x k l = absurd (omega arith)
get_before (y ∷ xs) x zero l = refl
get_before (y ∷ xs) x (suc k) l = get_before xs x k (omega arith)

get_last : (xs : List ℕ) (x : ℕ) → slice_get (xs ++ x ∷ []) (length xs) ≡ Some x
get_last [] x = refl
get_last (y ∷ xs) x = get_last xs x

-- that of one row more
pub rule_here : (i count x : ℕ) → i < length ROWS → count ≡ length (given (take (i + 1) begins)) → x ≡ count - 1 → rule_of i ≡ Some x
rule_here i count x l h is =
    let m : i < length begins = let long = as_long in omega arith in
    ap (option_map (λ (name : Option (List ℕ)). length (given (take (i + 1) begins)) - 1)) (slice_get-get_or begins i None m)
    ∙ ap (λ n. Some n) (sym (is ∙ ap (λ n. n - 1) h))

pub rules_more : (rules items : List ℕ) (i x : ℕ) → items ≡ rules ++ x ∷ [] → length rules ≡ i → rule_of i ≡ Some x →
    ((k : ℕ) → k < i → slice_get rules k ≡ rule_of k) → (k : ℕ) → k < i + 1 → slice_get items k ≡ rule_of k
rules_more rules items i x more long here before =
    below_more (λ k. slice_get items k ≡ rule_of k) i
    (λ k l. ap (λ z. slice_get z k) more ∙ (get_before rules x k (omega arith) ∙ before k l))
    (ap (λ z. slice_get z i) more ∙ (ap (slice_get (rules ++ x ∷ [])) (sym long) ∙ (get_last rules x ∙ sym here)))

pub one_longer : (rules items : List ℕ) (i x : ℕ) → items ≡ rules ++ x ∷ [] → length rules ≡ i → length items ≡ i + 1
one_longer rules items i x more long = ap length more ∙ (length-append rules (x ∷ []) ∙ ap (λ n. n + 1) long)

-- and none behind the last row
pub rules_are : (rules : List ℕ) (i : ℕ) → length rules ≡ i → length ROWS ≤ i → ((k : ℕ) → k < i → slice_get rules k ≡ rule_of k) →
    (n : ℕ) → slice_get rules n ≡ rule_of n
rules_are rules i long l before n = elim (slice_get_cases rules n).1 as (λ z. slice_get rules n ≡ rule_of n) [
  | inl h ↦ before n (let m = h.1 in omega arith)
  | inr h ↦ h.1 ∙ sym (ap (option_map (λ (name : Option (List ℕ)). length (given (take (n + 1) begins)) - 1))
      (slice_get_past begins n (let m = h.0 in let e = as_long in omega arith)))
]

-- ---- all rules

get_cases : (xs : List Rule) (x : Rule) (n : ℕ) (y : Rule) → slice_get (xs ++ x ∷ []) n ≡ Some y → (slice_get xs n ≡ Some y) ⊎ ((n ≡ length xs) × (x ≡ y))
get_cases [] x zero y e = inr (refl, same_Some x y e)
get_cases [] x (suc n) y e = absurd cc
get_cases (z ∷ xs) x zero y e = inl e
get_cases (z ∷ xs) x (suc n) y e = elim (get_cases xs x n y e) [
  | inl h ↦ inl h
  | inr h ↦ inr (ap (λ k. suc k) h.0, h.1)
]

pub numbered_more : (rules items : List Rule) (number : ℕ) (rule : Rule) → items ≡ rules ++ rule ∷ [] → length rules ≡ number → rule_number rule ≡ number →
    ((n : ℕ) (r : Rule) → slice_get rules n ≡ Some r → rule_number r ≡ n) →
    (length items ≡ number + 1) × ((n : ℕ) (r : Rule) → slice_get items n ≡ Some r → rule_number r ≡ n)
numbered_more rules items number rule more long is before = (
  ap length more ∙ (length-append rules (rule ∷ []) ∙ ap (λ n. n + 1) long),
  λ n r e. elim (get_cases rules rule n r (ap (λ zs. slice_get zs n) (sym more) ∙ e)) [
    | inl h ↦ before n r h
    | inr h ↦ ap rule_number (sym h.1) ∙ (is ∙ (sym long ∙ sym h.0))
  ],
)

-- ---- no two are the same

abbrev pub is_among : List (List ℕ) → List ℕ → Bool
is_among [] x = false
is_among (y ∷ ys) x = bytes_eq y x || is_among ys x

abbrev apart : List (List ℕ) → Bool
apart [] = true
apart (x ∷ xs) = not (is_among xs x) && apart xs

all_apart : apart names ≡ true
unfolding parts
all_apart = refl

neither : (a b : Bool) → not (a || b) ≡ true → (false ≡ a) × (not b ≡ true)
neither true b e = absurd cc
neither false b e = (refl, e)

not_there : (xs : List (List ℕ)) (x : List ℕ) → not (is_among xs x) ≡ true → (n : ℕ) → slice_get xs n ≡ Some x → ⊥
not_there [] x e n is = absurd cc
not_there (y ∷ ys) x e zero is = other_text y x (neither (bytes_eq y x) (is_among ys x) e).0 (same_Some y x is)
not_there (y ∷ ys) x e (suc n) is = not_there ys x (neither (bytes_eq y x) (is_among ys x) e).1 n is

differ : (xs : List (List ℕ)) → apart xs ≡ true → (n m : ℕ) (x : List ℕ) → slice_get xs n ≡ Some x → slice_get xs m ≡ Some x → n ≡ m
differ [] e n m x p q = absurd cc
differ (y ∷ ys) e zero zero x p q = refl
differ (y ∷ ys) e zero (suc m) x p q =
    absurd (not_there ys x (subst (λ z. not (is_among ys z) ≡ true) (same_Some y x p) (and_parts (not (is_among ys y)) (apart ys) e).0) m q)
differ (y ∷ ys) e (suc n) zero x p q =
    absurd (not_there ys x (subst (λ z. not (is_among ys z) ≡ true) (same_Some y x q) (and_parts (not (is_among ys y)) (apart ys) e).0) n p)
differ (y ∷ ys) e (suc n) (suc m) x p q = ap (λ k. suc k) (differ ys (and_parts (not (is_among ys y)) (apart ys) e).1 n m x p q)

pub names_differ : NamesDiffer
names_differ = differ names all_apart
