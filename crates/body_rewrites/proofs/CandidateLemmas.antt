-- The lists of candidates, line by line.
use Rattle.std.proofs.Common.{◌≡◌, ℕ, zero, suc, ◌+◌, ◌<◌, ◌≤◌, ◌≢◌, ◌⊎◌, inl, inr, Bool, true, false, cond, List, [], ◌∷◌, ◌++◌, length}
use Rattle.std.proofs.Common.{map, take, get_or, Option, Some, None, refl, sym, ap, ap₂, subst, ◌∙◌, arith, append-nil, append_assoc}
use Rattle.std.specs.Prelude.{◌&&◌, ◌||◌, not, nat_le, option_to_list, slice_get, slice_set, Result, Ok, Err, OnOk}
use Rattle.std.specs.Global.{Vec}
use Rattle.std.specs.List.{filter}
use Rattle.std.proofs.lemmas.Bool.{cases_lt, false≢true, le-leb, leb-true}
use Rattle.std.proofs.lemmas.List.Elements.{filter-append}
use Rattle.std.proofs.lemmas.Option.{get_or_from_slice_get, same_Some, slice_get_within}
use Rattle.body_rewrites.specs.declared.asked.Asked.{Asked}
use Rattle.body_rewrites.specs.declared.asked.Form.{Form}
use Rattle.body_rewrites.specs.declared.asked.Form.TheVariants.{Own, Alone, Other}
use Rattle.body_rewrites.specs.declared.root.Root.TheVariants as root
use Rattle.body_rewrites.specs.declared.trees.Tree.{Tree}
use Rattle.rewrite_rules.specs.declared.table.Row.{Row}
use Rattle.rewrite_rules.specs.Table.{ROWS, needs_exact}
use Rattle.body_rewrites.proofs.AskingLemmas.{asked_next}
use Rattle.wasm_execution.specs.declared.integer.IntegerType.{IntegerType}
use Rattle.body_rewrites.specs.Asking.{asked_as, asked_for, asked_from, by_form, is_candidate, form_alone, is_alone, AddsLine, AreLists}
use Rattle.body_rewrites.specs.Asking.{AreLaidOut, NoneStands, NoneServes, AreRootClasses, AreCandidateClasses, IsUsed}
use Rattle.body_rewrites.specs.Alone.{form_of}
use Rattle.body_rewrites.specs.Counting.{alone_slot, alone_slots, by_alone}
use Rattle.body_rewrites.specs.Listing.{widths_told}
use Rattle.body_rewrites.specs.Rewrites.{asked_widths}
use Rattle.body_rewrites.specs.Roots.{fits}

-- ---- a line more

filter_with : {A : Type 0} (test : A → Bool) (xs : List A) (x : A) → test x ≡ true → filter test (xs ++ x ∷ []) ≡ filter test xs ++ x ∷ []
filter_with test xs x on = filter-append test xs (x ∷ []) ∙ ap (λ b. filter test xs ++ cond b (x ∷ []) []) on

filter_without : {A : Type 0} (test : A → Bool) (xs : List A) (x : A) → test x ≡ false → filter test (xs ++ x ∷ []) ≡ filter test xs
filter_without test xs x off =
    filter-append test xs (x ∷ []) ∙ (ap (λ b. filter test xs ++ cond b (x ∷ []) []) off ∙ append-nil (filter test xs))

line_added : (exact : Bool) (used : List Bool) (lines : List Asked) (x : Asked) (old new : List (Vec Asked)) (classes : ℕ × ℕ) →
    AreCandidateClasses exact x classes →
    AddsLine x used classes old new → AreLists exact used lines old → AreLists exact used (lines ++ x ∷ []) new
line_added exact used lines x old new classes are adds so = record {
  long = adds.long ∙ so.long;
  each = λ class v e marked. go class v e marked (is_candidate exact class x) refl;
}
  where
    go : (class : ℕ) (v : Vec Asked) → slice_get new class ≡ Some v → IsUsed used class → (b : Bool) → is_candidate exact class x ≡ b →
        v.items ≡ filter (is_candidate exact class) (lines ++ x ∷ [])
    go class v e marked true on =
        let inside = slice_get_within new class v e in
        let size = adds.long ∙ so.long in
        let (from, before) = (are class (omega (arith, inside, size))).0 on in
        let (w, there, items) = adds.within class v from before marked e in
        items ∙ (ap (λ zs. zs ++ x ∷ []) (so.each class w there marked) ∙ sym (filter_with (is_candidate exact class) lines x on))
    go class v e marked false off =
        let inside = slice_get_within new class v e in
        let size = adds.long ∙ so.long in
        let same = adds.beyond class (elim (cases_lt class classes.0) [
          | inl k ↦ inl k
          | inr k ↦ elim (cases_lt class classes.1) [
            | inl m ↦ absurd (false≢true (sym off ∙ (are class (omega (arith, inside, size))).1 (k, m)))
            | inr m ↦ inr m
          ]
        ]) in
        so.each class v (sym same ∙ e) marked ∙ sym (filter_without (is_candidate exact class) lines x off)

-- one that is no operand alone
pub candidate_added : (exact : Bool) (used : List Bool) (lines : List Asked) (x : Asked) (old new : List (Vec Asked)) (alone : List Asked) (classes : ℕ × ℕ) →
    is_alone x ≡ false → AreCandidateClasses exact x classes → AddsLine x used classes old new → AreLaidOut exact used lines old alone →
    AreLaidOut exact used (lines ++ x ∷ []) new alone
candidate_added exact used lines x old new alone classes off are adds so = record {
  by_class = line_added exact used lines x old new classes are adds so.by_class;
  apart = so.apart ∙ sym (filter_without is_alone lines x off);
}

no_candidate : (exact : Bool) (row : Row) (form : Form) (b : Bool) → form_alone form ≡ true → by_form exact row form b ≡ false
no_candidate exact row (Own o) b e = absurd (false≢true e)
no_candidate exact row (Alone d) b e = refl
no_candidate exact row Other b e = absurd (false≢true e)

-- nor is one that may not stand there
no_stand : (exact : Bool) (row : Row) (form : Form) (b : Bool) → b ≡ false → by_form exact row form b ≡ false
no_stand exact row (Own o) b e = e
no_stand exact row (Alone d) b e = refl
no_stand exact row Other b e = ap (λ c. (exact || not (needs_exact row)) && c) e ∙ none (exact || not (needs_exact row))
  where
    none : (c : Bool) → (c && false) ≡ false
    none true = refl
    none false = refl

-- one that is
pub alone_added : (exact : Bool) (used : List Bool) (lines : List Asked) (x : Asked) (lists : List (Vec Asked)) (alone more : List Asked) (y : Asked) → y ≡ x →
    is_alone x ≡ true → more ≡ alone ++ y ∷ [] → AreLaidOut exact used lines lists alone → AreLaidOut exact used (lines ++ x ∷ []) lists more
alone_added exact used lines x lists alone more y same on next so = record {
  by_class = record {
    long = so.by_class.long;
    each = λ class v e marked.
        so.by_class.each class v e marked
        ∙ sym (filter_without (is_candidate exact class) lines x (no_candidate exact x.line.row x.form (fits class true x.root) on));
  };
  apart = next ∙ (ap₂ (λ zs z. zs ++ z ∷ []) so.apart same ∙ sym (filter_with is_alone lines x on));
}

-- ---- the lines of a row

-- for one width
pub one_width_laid_out : (exact : Bool) (used : List Bool) (number : ℕ) (row : Row) (width : IntegerType) (more : Option IntegerType) →
    asked_widths row.widths ≡ widths_told width more → more ≡ None → (a : Asked) → a ≡ asked_as number row width → (lines : List Asked)
    (lists : List (Vec Asked)) (alone : List Asked) → AreLaidOut exact used (lines ++ a ∷ []) lists alone →
    AreLaidOut exact used (lines ++ asked_for number row) lists alone
one_width_laid_out exact used number row width more e none a is lines lists alone so =
    subst (λ (ws : List IntegerType). AreLaidOut exact used (lines ++ map (asked_as number row) ws) lists alone) (sym (e ∙ ap (widths_told width) none))
    (subst (λ (x : Asked). AreLaidOut exact used (lines ++ x ∷ []) lists alone) is so)

-- for two
pub two_widths_laid_out : (exact : Bool) (used : List Bool) (number : ℕ) (row : Row) (width other : IntegerType) (more : Option IntegerType) →
    asked_widths row.widths ≡ widths_told width more → more ≡ Some other → (a b : Asked) → a ≡ asked_as number row width →
    b ≡ asked_as number row other → (lines : List Asked) (lists : List (Vec Asked)) (alone : List Asked) →
    AreLaidOut exact used ((lines ++ a ∷ []) ++ b ∷ []) lists alone → AreLaidOut exact used (lines ++ asked_for number row) lists alone
two_widths_laid_out exact used number row width other more e some a b is is_other lines lists alone so =
    subst (λ (ws : List IntegerType). AreLaidOut exact used (lines ++ map (asked_as number row) ws) lists alone) (sym (e ∙ ap (widths_told width) some))
    (subst (λ list. AreLaidOut exact used list lists alone)
    (append_assoc lines (a ∷ []) (b ∷ []) ∙ ap₂ (λ x y. lines ++ x ∷ y ∷ []) is is_other) so)

-- for none, where no line may apply
line_skipped : (exact : Bool) (used : List Bool) (lines : List Asked) (x : Asked) (lists : List (Vec Asked)) (alone : List Asked) → is_alone x ≡ false →
    NoneStands used x.root → AreLaidOut exact used lines lists alone → AreLaidOut exact used (lines ++ x ∷ []) lists alone
line_skipped exact used lines x lists alone off none so = record {
  by_class = record {
    long = so.by_class.long;
    each = λ class v e marked.
        so.by_class.each class v e marked
        ∙ sym (filter_without (is_candidate exact class) lines x (no_stand exact x.line.row x.form (fits class true x.root) (none class marked)));
  };
  apart = so.apart ∙ sym (filter_without is_alone lines x off);
}

widths_skipped : (exact : Bool) (used : List Bool) (number : ℕ) (row : Row) (lists : List (Vec Asked)) (alone : List Asked) → form_alone (form_of row) ≡ false →
    (ws : List IntegerType) → NoneServes used row ws → (lines : List Asked) → AreLaidOut exact used lines lists alone →
    AreLaidOut exact used (lines ++ map (asked_as number row) ws) lists alone
widths_skipped exact used number row lists alone off [] none lines so =
    subst (λ list. AreLaidOut exact used list lists alone) (sym (append-nil lines)) so
widths_skipped exact used number row lists alone off (w ∷ ws) (none, rest) lines so =
    subst (λ list. AreLaidOut exact used list lists alone) (append_assoc lines (asked_as number row w ∷ []) (map (asked_as number row) ws))
    (widths_skipped exact used number row lists alone off ws rest (lines ++ asked_as number row w ∷ [])
    (line_skipped exact used lines (asked_as number row w) lists alone off none so))

pub row_skipped : (exact : Bool) (used : List Bool) (number : ℕ) (row : Row) (form : Form) → form ≡ form_of row →
    (form_alone form ≡ false) × NoneServes used row (asked_widths row.widths) → (lines : List Asked) (lists : List (Vec Asked))
    (alone : List Asked) → AreLaidOut exact used lines lists alone → AreLaidOut exact used (lines ++ asked_for number row) lists alone
row_skipped exact used number row form is (off, none) lines lists alone so =
    widths_skipped exact used number row lists alone (ap form_alone (sym is) ∙ off) (asked_widths row.widths) none lines so

pub no_operand_alone : (form : Form) → ((d : Bool) → form ≡ Alone d → ⊥) → form_alone form ≡ false
no_operand_alone (Own o) never = refl
no_operand_alone (Alone d) never = absurd (never d refl)
no_operand_alone Other never = refl

-- no used class is the only one of a root
pub one_class : (used : List Bool) (first last : ℕ) → first ≡ last → get_or used first false ≡ false → NoneStands used (root.Classes first last)
one_class used first last same off class marked = go (nat_le first class) (nat_le class last) refl refl
  where
    unused : IsUsed used first → ⊥
    unused mark = false≢true (sym off ∙ get_or_from_slice_get used first true false mark)

    go : (a b : Bool) → nat_le first class ≡ a → nat_le class last ≡ b → (nat_le first class && nat_le class last) ≡ false
    go false b e f = ap (λ c. c && nat_le class last) e
    go true false e f = ap₂ (λ c d. c && d) e f
    go true true e f =
        let l = leb-true first class e in
        let m = leb-true class last f in
        absurd (unused (subst (IsUsed used) (let is : class ≡ first = omega (arith, l, m, same) in is) marked))

-- with those of the rows before
pub row_laid_out : (exact : Bool) (used : List Bool) (number : ℕ) (row : Row) (lists : List (Vec Asked)) (alone : List Asked) →
    slice_get ROWS number ≡ Some row →
    AreLaidOut exact used (asked_from 0 (take number ROWS) ++ asked_for number row) lists alone →
    AreLaidOut exact used (asked_from 0 (take (number + 1) ROWS)) lists alone
row_laid_out exact used number row lists alone there so =
    subst (λ list. AreLaidOut exact used list lists alone) (asked_next number row _ _ there refl refl) so

-- what is known of an answer
pub on_ok : {X E : Type 0} {P Q : Type 0} (r : Result X E) → (P → Q) → OnOk r P → OnOk r Q
on_ok (Ok x) f h = f h
on_ok (Err e) f h = h

-- ---- classes

both : (a b : Bool) → (a && b) ≡ true → (a ≡ true) × (b ≡ true)
both true true e = (refl, refl)
both true false e = absurd (false≢true e)
both false b e = absurd (false≢true e)

pub classes_are : (first last behind : ℕ) → ((class : ℕ) → class < 447 → class ≤ last → class < behind) → ((class : ℕ) → class < behind → class ≤ last) →
    AreRootClasses (root.Classes first last) (first, behind)
classes_are first last behind same only class l = (
  λ e. (let (a, b) = both (nat_le first class) (nat_le class last) e in (leb-true first class a, same class l (leb-true class last b))),
  λ (k, m). ap₂ (λ a b. a && b) (le-leb first class k) (le-leb class last (only class m)),
)

-- ---- lines of an operand alone

apart : (tree : Tree) (a : Asked) (form : Form) → form_alone form ≡ false → by_alone tree a form ≡ None
apart tree a (Own o) e = refl
apart tree a (Alone d) e = absurd (false≢true (sym e))
apart tree a Other e = refl

-- the others have no place
pub alone_alone : (tree : Tree) (list : List Asked) → alone_slots tree list ≡ alone_slots tree (filter is_alone list)
alone_alone tree [] = refl
alone_alone tree (a ∷ list) = go (is_alone a) refl (alone_alone tree list)
  where
    go : (b : Bool) → is_alone a ≡ b → alone_slots tree list ≡ alone_slots tree (filter is_alone list) →
        alone_slots tree (a ∷ list) ≡ alone_slots tree (cond b (a ∷ filter is_alone list) (filter is_alone list))
    go true e rest = ap (λ ns. option_to_list (alone_slot tree a) ++ ns) rest
    go false e rest = ap (λ o. option_to_list o ++ alone_slots tree list) (apart tree a a.form e) ∙ rest

-- ---- a number in lists

module _ {A : Type 0} where
  length_set : (xs : List A) (i : ℕ) (x : A) → length (slice_set xs i x) ≡ length xs
  length_set [] i x = refl
  length_set (y ∷ xs) zero x = refl
  length_set (y ∷ xs) (suc i) x = ap suc (length_set xs i x)

  get_set_same : (xs : List A) (i : ℕ) (x : A) → i < length xs → slice_get (slice_set xs i x) i ≡ Some x
  get_set_same [] i x l = absurd (omega arith)
  get_set_same (y ∷ xs) zero x l = refl
  get_set_same (y ∷ xs) (suc i) x l = get_set_same xs i x (omega arith)

  get_set_other : (xs : List A) (i k : ℕ) (x : A) → k ≢ i → slice_get (slice_set xs i x) k ≡ slice_get xs k
  get_set_other [] i k x other = refl
  get_set_other (y ∷ xs) zero zero x other = absurd (other refl)
  get_set_other (y ∷ xs) zero (suc k) x other = refl
  get_set_other (y ∷ xs) (suc i) zero x other = refl
  get_set_other (y ∷ xs) (suc i) (suc k) x other = get_set_other xs i k x (λ e. other (ap suc e))

-- So it is of the classes so far.
pub record IsAdding (a : Asked) (used : List Bool) (classes : ℕ × ℕ) (class : ℕ) (old new : List (Vec Asked)) : Type 0 where
  pub adds : AddsLine a used (classes.0, class) old new
  pub from : classes.0 ≤ class
  pub most : (class ≡ classes.0) ⊎ (class ≤ classes.1)

pub none_added : (a : Asked) (used : List Bool) (classes : ℕ × ℕ) (class : ℕ) (old new : List (Vec Asked)) → class < classes.1 →
    (IsUsed used class → ⊥) → IsAdding a used classes class old new → IsAdding a used classes (class + 1) old new
none_added a used classes class old new l unused so = record {
  adds = record {
    long = so.adds.long;
    within = λ k v from before marked e. elim (cases_lt k class) [
      | inl m ↦ so.adds.within k v from m marked e
      | inr m ↦ absurd (unused (subst (IsUsed used) (let same : k ≡ class = omega (arith, m, before) in same) marked))
    ];
    beyond = λ k outside. so.adds.beyond k (elim outside [
      | inl m ↦ inl m
      | inr m ↦ inr (omega (arith, m))
    ]);
  };
  from = (let f = so.from in omega (arith, f));
  most = inr (omega (arith, l));
}

pub one_added : (a : Asked) (used : List Bool) (classes : ℕ × ℕ) (class : ℕ) (old now new : List (Vec Asked)) (v w : Vec Asked) (b : Asked) → b ≡ a →
    class < classes.1 → slice_get now class ≡ Some v → w.items ≡ v.items ++ b ∷ [] → new ≡ slice_set now class w → IsAdding a used classes class old now →
    IsAdding a used classes (class + 1) old new
one_added a used classes class old now new v w b same_line l there items is so = record {
  adds = record {
    long = ap length is ∙ length_set now class w ∙ so.adds.long;
    within = λ k u from before marked e. elim (cases_lt k class) [
      | inl m ↦ so.adds.within k u from m marked (sym (elsewhere k (omega (arith, m))) ∙ e)
      | inr m ↦ (
          let same : k ≡ class = omega (arith, m, before) in
          let got : w ≡ u = same_Some w u (sym here ∙ (ap (slice_get new) (sym same) ∙ e)) in (
            v,
            ap (slice_get old) same ∙ (sym (so.adds.beyond class (inr (omega arith))) ∙ there),
            ap (λ (x : Vec Asked). x.items) (sym got) ∙ (items ∙ ap (λ y. v.items ++ y ∷ []) same_line),
          ))
    ];
    beyond = λ k outside. elim outside [
      | inl m ↦ (let f = so.from in elsewhere k (omega (arith, m, f)) ∙ so.adds.beyond k (inl m))
      | inr m ↦ elsewhere k (omega (arith, m)) ∙ so.adds.beyond k (inr (omega (arith, m)))
    ];
  };
  from = (let f = so.from in omega (arith, f));
  most = inr (omega (arith, l));
}
  where
    here : slice_get new class ≡ Some w
    here = ap (λ xs. slice_get xs class) is ∙ get_set_same now class w (slice_get_within now class v there)

    elsewhere : (k : ℕ) → (k ≢ class) → slice_get new k ≡ slice_get now k
    elsewhere k other = ap (λ xs. slice_get xs k) is ∙ get_set_other now class k w other

pub all_classes_added : (a : Asked) (used : List Bool) (classes : ℕ × ℕ) (class : ℕ) (old new : List (Vec Asked)) → classes.1 ≤ class →
    IsAdding a used classes class old new → AddsLine a used classes old new
all_classes_added a used classes class old new l so = record {
  long = so.adds.long;
  within = λ k v from before marked e. so.adds.within k v from (omega (arith, before, l)) marked e;
  beyond = λ k outside. so.adds.beyond k (elim outside [
    | inl m ↦ inl m
    | inr m ↦ elim so.most [
      | inl e ↦ elim (cases_lt k classes.0) [ inl f ↦ inl f | inr f ↦ inr (omega (arith, e, f)) ]
      | inr e ↦ inr (omega (arith, e, l, m))
    ]
  ]);
}
