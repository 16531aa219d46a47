-- The lines of the table, as operators are asked for them.
use Rattle.std.proofs.Common.{◌≡◌, ℕ, zero, suc, ◌+◌, ◌<◌, ◌≤◌, ◌⊎◌, inl, inr, Bool, true, false, cond, List, [], ◌∷◌, ◌++◌, length, map}
use Rattle.std.proofs.Common.{take, get_or, Option, Some, None, refl, sym, ap, ap₂, subst, ◌∙◌, arith, lit<, append-nil, append_assoc}
use Rattle.std.specs.Prelude.{slice_get, Result, Ok, Err, IfOk, IfSome}
use Rattle.std.specs.Global.{Vec}
use Rattle.std.specs.List.{filter}
use Rattle.std.proofs.lemmas.List.{take_more, length-take-le, map-append}
use Rattle.std.proofs.lemmas.Option.{get_or_from_slice_get, same_Some, slice_get_within, slice_get-get_or}
use Rattle.wasm_execution.specs.declared.integer.IntegerType.{IntegerType}
use Rattle.wasm_execution.specs.Values.{Context}
use Rattle.rewrite_rules.specs.declared.table.Row.{Row}
use Rattle.rewrite_rules.specs.Table.{parts, ROWS}
use Rattle.body_rewrites.specs.declared.asked.Asked.{Asked}
use Rattle.body_rewrites.specs.declared.found.Found.{Found}
use Rattle.body_rewrites.specs.declared.rewrite.Rewrite.{Rewrite}
use Rattle.body_rewrites.specs.Rewrites.{IsAsked, asked_widths, by_rows}
use Rattle.body_rewrites.specs.Listing.{AreThose, AreFound, AddsFound}
use Rattle.body_rewrites.specs.Asking.{asked_as, asked_for, asked_in, asked_from, all_asked, rewrite_of, rewrites_of, is_candidate}
use Rattle.body_rewrites.specs.Asking.{candidates, IsUsed, AreLists, AreAsked, IsAskedSo}
use Rattle.body_rewrites.proofs.StandsLemmas.{Operators}
use Rattle.body_rewrites.proofs.ListingLemmas.{adds_more}
use Rattle.body_rewrites.specs.ThoseLemmas.{those_with, those_without}

-- what is known of an answer
pub if_ok : {X E : Type 0} {P Q : X → Type 0} (r : Result X E) → ((x : X) → P x → Q x) → IfOk r P → IfOk r Q
if_ok (Ok x) f h = f x h
if_ok (Err e) f h = h

-- ---- making the table

asked_append : (number : ℕ) (xs ys : List Row) → asked_from number (xs ++ ys) ≡ asked_from number xs ++ asked_from (number + length xs) ys
asked_append number [] ys = let e : number ≡ number + length {A = Row} [] = omega arith in ap (λ n. asked_from n ys) e
asked_append number (x ∷ xs) ys =
    let e : suc number + length xs ≡ number + length (x ∷ xs) = omega arith in
    ap (λ zs. asked_for number x ++ zs) (asked_append (suc number) xs ys ∙ ap (λ n. asked_from (suc number) xs ++ asked_from n ys) e)
    ∙ sym (append_assoc (asked_for number x) (asked_from (suc number) xs) (asked_from (number + length (x ∷ xs)) ys))

-- those of one row more
asked_more : (rows : List Row) (number : ℕ) (d : Row) → number < length rows →
    asked_from 0 (take number rows) ++ asked_for number (get_or rows number d) ≡ asked_from 0 (take (number + 1) rows)
asked_more rows number d l =
    let size : 0 + length (take number rows) ≡ number = (let long = length-take-le number rows (omega arith) in omega arith) in
    sym (ap (asked_from 0) (take_more rows number d l) ∙ asked_append 0 (take number rows) (get_or rows number d ∷ [])
    ∙ ap (λ n. asked_from 0 (take number rows) ++ asked_from n (get_or rows number d ∷ [])) size
    ∙ ap (λ zs. asked_from 0 (take number rows) ++ zs) (append-nil (asked_for number (get_or rows number d))))

pub asked_next : (number : ℕ) (row : Row) (items more : List Asked) → slice_get ROWS number ≡ Some row → items ≡ asked_from 0 (take number ROWS) →
    more ≡ items ++ asked_for number row → more ≡ asked_from 0 (take (number + 1) ROWS)
asked_next number row items more there is next =
    next ∙ ap₂ (λ zs r. zs ++ asked_for number r) is (sym (get_or_from_slice_get ROWS number row row there))
    ∙ asked_more ROWS number row (slice_get_within ROWS number row there)

there_in : (rows : List Row) (number : ℕ) → number < length rows → slice_get rows number ≡ None → ⊥
there_in [] number l none = absurd (omega arith)
there_in (row ∷ rows) zero l none = absurd cc
there_in (row ∷ rows) (suc number) l none = there_in rows number (omega arith) none

pub row_there : (number : ℕ) → number < length ROWS → slice_get ROWS number ≡ None → ⊥
row_there = there_in ROWS

-- with those of the row that is there
pub numbered_next : (number : ℕ) (items more : List Asked) → number < length ROWS → items ≡ asked_from 0 (take number ROWS) →
    more ≡ items ++ asked_in number (slice_get ROWS number) → more ≡ asked_from 0 (take (number + 1) ROWS)
numbered_next number items more l is next = go (slice_get ROWS number) refl
  where
    go : (o : Option Row) → slice_get ROWS number ≡ o → more ≡ asked_from 0 (take (number + 1) ROWS)
    go (Some row) e = asked_next number row items more e is (next ∙ ap (λ o. items ++ asked_in number o) e)
    go None e = absurd (row_there number l e)

pub few_asked : length all_asked < 65536
unfolding parts
few_asked = lit< tt

-- ---- what is asked of an operator

rewrites_for_are : (at number : ℕ) (row : Row) (widths : List IntegerType) →
    rewrites_of at (map (asked_as number row) widths)
    ≡ map (λ (width : IntegerType). let r : Rewrite = record { operator = at; row = number; width = width } in r) widths
rewrites_for_are at number row [] = refl
rewrites_for_are at number row (w ∷ ws) =
    ap (λ rs. (let r : Rewrite = record { operator = at; row = number; width = w } in r) ∷ rs) (rewrites_for_are at number row ws)

pub rewrites_are : (at number : ℕ) (rows : List Row) → rewrites_of at (asked_from number rows) ≡ by_rows at number rows
rewrites_are at number [] = refl
rewrites_are at number (row ∷ rows) =
    map-append (rewrite_of at) (asked_for number row) (asked_from (suc number) rows)
    ∙ ap₂ (λ xs ys. xs ++ ys) (rewrites_for_are at number row (asked_widths row.widths)) (rewrites_are at (suc number) rows)

append_cases : {A : Type 0} (xs ys : List A) (n : ℕ) (y : A) → slice_get (xs ++ ys) n ≡ Some y →
    (slice_get xs n ≡ Some y) ⊎ ((m : ℕ) × (slice_get ys m ≡ Some y))
append_cases [] ys n y e = inr (n, e)
append_cases (x ∷ xs) ys zero y e = inl e
append_cases (x ∷ xs) ys (suc n) y e = append_cases xs ys n y e

among_widths : {A : Type 0} (f : IntegerType → A) (widths : List IntegerType) (n : ℕ) (a : A) → slice_get (map f widths) n ≡ Some a →
    (w : IntegerType) × (slice_get widths n ≡ Some w) × (f w ≡ a)
among_widths f [] n a e = absurd cc
among_widths f (w ∷ ws) zero a e = (w, refl, same_Some (f w) a e)
among_widths f (w ∷ ws) (suc n) a e = among_widths f ws n a e

is_asked_from : (number : ℕ) (rows : List Row) → ((k : ℕ) (row : Row) → slice_get rows k ≡ Some row → slice_get ROWS (number + k) ≡ Some row) →
    (n : ℕ) (a : Asked) → slice_get (asked_from number rows) n ≡ Some a → IsAskedSo a
is_asked_from number [] are n a e = absurd cc
is_asked_from number (row ∷ rows) are n a e = elim (append_cases (asked_for number row) (asked_from (suc number) rows) n a e) [
  | inl h ↦
      let (w, there, same) = among_widths (asked_as number row) (asked_widths row.widths) n a h in
      let at : number + 0 ≡ number = omega arith in
      let asked : IsAsked number (record { row = row; width = w }) = record {
        row_is = ap (slice_get ROWS) (sym at) ∙ are 0 row refl;
        place = n;
        width_is = there;
      } in
      subst (λ (a : Asked). IsAskedSo a) same (record { line = asked; form_is = refl; root_is = refl })
  | inr h ↦
      is_asked_from (suc number) rows
      (λ k row e. let next : suc number + k ≡ number + suc k = omega arith in ap (slice_get ROWS) next ∙ are (suc k) row e) h.0 a h.1
]

pub is_asked : AreAsked all_asked
is_asked = is_asked_from 0 ROWS (λ k row e. let same : 0 + k ≡ k = omega arith in ap (slice_get ROWS) same ∙ e)

-- ---- those that are asked where an instruction of a class stands

filter_few : {A : Type 0} (test : A → Bool) (xs : List A) → length (filter test xs) ≤ length xs
filter_few test [] = omega arith
filter_few {A = A} test (x ∷ xs) = go (test x) (filter test xs) (filter_few test xs)
  where
    go : (b : Bool) (ys : List A) → length ys ≤ length xs → length (cond b (x ∷ ys) ys) ≤ length (x ∷ xs)
    go true ys l = omega arith
    go false ys l = omega arith

pub candidates_few : (exact : Bool) (class : ℕ) → length (candidates exact class) < 65536
candidates_few exact class = let few = filter_few (is_candidate exact class) all_asked in let all = few_asked in omega (arith, few, all)

-- ---- the list of a class that is used

pub class_is_used : (used : List Bool) (class : ℕ) → IsUsed used class → class < length used
class_is_used used class marked = slice_get_within used class true marked

pub list_is : (exact : Bool) (used : List Bool) (lists : List (Vec Asked)) → AreLists exact used all_asked lists → (class : ℕ) → class < 447 →
    IsUsed used class →
    (lines : List Asked) → IfSome (slice_get lists class) (λ list. lines ≡ list.items) → lines ≡ candidates exact class
list_is exact used lists are class l marked lines h = go (slice_get lists class) refl h
  where
    there : {A : Type 0} (xs : List A) (n : ℕ) → n < length xs → slice_get xs n ≡ None → ⊥
    there [] n l none = absurd (omega arith)
    there (x ∷ xs) zero l none = absurd cc
    there (x ∷ xs) (suc n) l none = there xs n (omega arith) none

    go : (o : Option (Vec Asked)) → slice_get lists class ≡ o → IfSome o (λ list. lines ≡ list.items) → lines ≡ candidates exact class
    go (Some v) e same = same ∙ are.each class v e marked
    go None e same = absurd (there lists class (let long = are.long in omega arith) e)

-- ---- line by line

pub asked_at : (list : List Asked) → AreAsked list → (i : ℕ) (d : Asked) → i < length list → IsAskedSo (get_or list i d)
asked_at list are i d l = are i (get_or list i d) (slice_get-get_or list i d l)

pub rewrites_next : (at : ℕ) (list : List Asked) (i : ℕ) (d : Asked) → i < length list →
    rewrites_of at (take i list) ++ rewrite_of at (get_or list i d) ∷ [] ≡ rewrites_of at (take (i + 1) list)
rewrites_next at list i d l =
    sym (ap (rewrites_of at) (take_more list i d l) ∙ map-append (rewrite_of at) (take i list) (get_or list i d ∷ []))

pub all_added : (context : Context) (operators : Operators) (items : List Rewrite) (found : List Found) → AddsFound context operators items [] found →
    AreFound context operators items found
all_added context operators items found h = subst (AreFound context operators items) (sym h.new_is) h.are

pub added_next : (context : Context) (operators : Operators) (at here : ℕ) → here ≡ at → (list : List Asked) (i : ℕ) (d : Asked) → i < length list →
    (old new : List Found) → AddsFound context operators (rewrites_of at (take i list)) [] old →
    AddsFound context operators (rewrite_of here (get_or list i d) ∷ []) old new → AddsFound context operators (rewrites_of at (take (i + 1) list)) [] new
added_next context operators at here same list i d l old new before one =
    subst (λ items. AddsFound context operators items [] new) (rewrites_next at list i d l)
    (adds_more context operators (rewrites_of at (take i list)) (rewrite_of at (get_or list i d) ∷ []) [] old new before
    (subst (λ n. AddsFound context operators (rewrite_of n (get_or list i d) ∷ []) old new) same one))

module _ (P : Rewrite → Type 0) (at : ℕ) (list : List Asked) (i : ℕ) (d : Asked) (l : i < length list) (old : List Rewrite)
    (before : AreThose P (rewrites_of at (take i list)) old) where
  pub those_next : (new : List Rewrite) → P (rewrite_of at (get_or list i d)) → new ≡ old ++ rewrite_of at (get_or list i d) ∷ [] →
      AreThose P (rewrites_of at (take (i + 1) list)) new
  those_next new p next =
      subst (AreThose P (rewrites_of at (take (i + 1) list))) (sym next)
      (subst (λ items. AreThose P items (old ++ rewrite_of at (get_or list i d) ∷ [])) (rewrites_next at list i d l)
      (those_with P (rewrites_of at (take i list)) (rewrite_of at (get_or list i d)) old before p))

  pub those_skip : (P (rewrite_of at (get_or list i d)) → ⊥) → AreThose P (rewrites_of at (take (i + 1) list)) old
  those_skip never =
      subst (λ items. AreThose P items old) (rewrites_next at list i d l)
      (those_without P (rewrites_of at (take i list)) (rewrite_of at (get_or list i d)) old before never)
