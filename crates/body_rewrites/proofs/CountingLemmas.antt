-- How many rewrites there are by each rule that do each thing to the number of operators, as they are counted.
use Rattle.std.proofs.Common.{◌≡◌, ℕ, ◌+◌, ◌-◌, ◌<◌, ◌≤◌, inr, Bool, true, false, cond, List, [], ◌∷◌, ◌++◌}
use Rattle.std.proofs.Common.{length, take, get_or, Option, Some, None, refl, sym, ap, ap₂, subst, ◌∙◌, arith, lit<}
use Rattle.std.proofs.Common.{length-append}
use Rattle.std.specs.Prelude.{◌==◌, Result, Ok, Err, IfOk, IfSome, IfNone, slice_get, option_map, option_to_list}
use Rattle.std.specs.List.{filter}
use Rattle.std.proofs.lemmas.Bool.{eqb-true, eq-eqb, false≢true}
use Rattle.std.proofs.lemmas.List.{length-take-le}
use Rattle.std.proofs.lemmas.List.Elements.{filter_more, filter-append}
use Rattle.std.proofs.lemmas.Option.{none-some, slice_get-get_or, slice_get_within, same_Some}
use Rattle.wasm_code.specs.declared.operator.Operator.{Operator}
use Rattle.wasm_execution.specs.Values.{Context}
use Rattle.rewrite_rules.specs.declared.rule.Rule.{Rule}
use Rattle.rewrite_rules.specs.Names.{names, rule_of}
use Rattle.rewrite_rules.specs.Rule.{rule_number}
use Rattle.rewrite_rules.specs.Table.{parts, ROWS}
use Rattle.body_rewrites.specs.declared.found.Found.{Found}
use Rattle.body_rewrites.specs.declared.growth.Growth.{Growth}
use Rattle.body_rewrites.specs.declared.growth.Growth.TheVariants.{Shrinks, Keeps, Grows}
use Rattle.body_rewrites.specs.declared.rewrite.Rewrite.{Rewrite}
use Rattle.body_rewrites.specs.declared.asked.Asked.{Asked}
use Rattle.body_rewrites.specs.declared.trees.Tree.{Tree}
use Rattle.body_rewrites.specs.Asking.{all_asked}
use Rattle.body_rewrites.specs.Rewrites.{IsMade}
use Rattle.body_rewrites.specs.Listing.{AreThose, HasGrowth, OneChange, found_as, AreFound, passing}
use Rattle.body_rewrites.specs.Choice.{IsOf}
use Rattle.body_rewrites.specs.Counting.{slot_of, is_slot, is_in_slot, AddsCounts, count_in, CountsFound, HaveRoom, alone_slot, alone_slots}
use Rattle.body_rewrites.specs.Counting.{slots_in}
use Rattle.body_rewrites.proofs.AskingLemmas.{few_asked}
use Rattle.body_rewrites.proofs.ListingLemmas.{growth_one, found_append, found_few, found_passing}

-- ---- lists

-- what is known of an answer
pub ok_map : {X E : Type 0} {P Q : X → Type 0} (r : Result X E) → ((x : X) → P x → Q x) → IfOk r P → IfOk r Q
ok_map (Ok x) f h = f x h
ok_map (Err e) f h = h

pub if_some : {A : Type 0} {P Q : A → Type 0} (o : Option A) → ((x : A) → P x → Q x) → IfSome o P → IfSome o Q
if_some (Some x) f h = f x h
if_some None f h = h

pub if_none : {A : Type 0} {P Q : Type 0} (o : Option A) → (P → Q) → IfNone o P → IfNone o Q
if_none (Some x) f h = h
if_none None f h = f h

-- ---- places of counts

slot_apart : (n m : ℕ) (kind other : Growth) → slot_of n kind ≡ slot_of m other → (n ≡ m) × (kind ≡ other)
slot_apart n m Shrinks Shrinks e = (omega arith, refl)
slot_apart n m Shrinks Keeps e = absurd (omega arith)
slot_apart n m Shrinks Grows e = absurd (omega arith)
slot_apart n m Keeps Shrinks e = absurd (omega arith)
slot_apart n m Keeps Keeps e = (omega arith, refl)
slot_apart n m Keeps Grows e = absurd (omega arith)
slot_apart n m Grows Shrinks e = absurd (omega arith)
slot_apart n m Grows Keeps e = absurd (omega arith)
slot_apart n m Grows Grows e = (omega arith, refl)

slot_is : (o : Option ℕ) (kind other : Growth) (number : ℕ) → is_slot (slot_of number other) (option_map (λ n. slot_of n kind) o) ≡ true →
    (o ≡ Some number) × (kind ≡ other)
slot_is None kind other number h = absurd (false≢true h)
slot_is (Some n) kind other number h =
    let (same, is) = slot_apart n number kind other (eqb-true (slot_of n kind) (slot_of number other) h) in
    (ap (λ k. Some k) same, is)

is_the_slot : (o : Option ℕ) (kind other : Growth) (number : ℕ) → o ≡ Some number → kind ≡ other →
    is_slot (slot_of number other) (option_map (λ n. slot_of n kind) o) ≡ true
is_the_slot o kind other number e f =
    ap₂ (λ (u : Option ℕ) (k : Growth). is_slot (slot_of number other) (option_map (λ n. slot_of n k) u)) e f
    ∙ eq-eqb (slot_of number other) (slot_of number other) refl

-- those that are counted at a rule's place are the rule's
module _ (one : OneChange) (context : Context) (operators : List (Operator × ℕ)) (kind : Growth) (rule : Rule) where
  of_to : (r : Rewrite) (other : Growth) → HasGrowth context operators other r →
      is_in_slot (slot_of (rule_number rule) kind) (found_as r other) ≡ true → IsOf context operators kind rule r
  of_to r other has h =
      let (row_is, same) = slot_is (rule_of r.row) other kind (rule_number rule) h in
      (subst (λ (k : Growth). HasGrowth context operators k r) same has, row_is)

  of_from : (r : Rewrite) (other : Growth) → HasGrowth context operators other r → IsOf context operators kind rule r →
      is_in_slot (slot_of (rule_number rule) kind) (found_as r other) ≡ true
  of_from r other has p =
      is_the_slot (rule_of r.row) other kind (rule_number rule) p.1 (growth_one context operators one r other kind has p.0)

  pub of_passing : (items : List Rewrite) (found : List Found) → AreFound context operators items found →
      AreThose (IsOf context operators kind rule) items (passing (is_in_slot (slot_of (rule_number rule) kind)) found)
  of_passing items found are =
      found_passing context operators (IsOf context operators kind rule) (is_in_slot (slot_of (rule_number rule) kind))
      (λ r p. (p.0.change, p.0.made)) of_to of_from items found are

-- ---- how many rules there are

last_rule : rule_of (length ROWS - 1) ≡ Some (length names - 1)
unfolding parts
last_rule = refl

some_names : 0 < length names
unfolding parts
some_names = lit< tt

pub some_rows : 0 < length ROWS
unfolding parts
some_rows = lit< tt

-- the last row is of the last one
pub last_is : (count : ℕ) → count ≡ length ROWS → (n : ℕ) → rule_of (count - 1) ≡ Some n → n + 1 ≡ length names
last_is count all n there =
    let same = same_Some n (length names - 1) (sym there ∙ (ap (λ k. rule_of (k - 1)) all ∙ last_rule)) in
    let some = some_names in
    omega (arith, same, some)

pub last_there : (count : ℕ) → count ≡ length ROWS → rule_of (count - 1) ≡ None → ⊥
last_there count all none = none-some _ (sym none ∙ (ap (λ k. rule_of (k - 1)) all ∙ last_rule))

-- ---- one after another

pub count_few : (found : List Found) (slot : ℕ) → count_in found slot ≤ length found
count_few [] slot = omega arith
count_few (x ∷ xs) slot = let l = count_few xs slot in one_few (is_in_slot slot x) (filter (is_in_slot slot) xs) l
  where
    one_few : (b : Bool) (kept : List Found) → length kept ≤ length xs → length (cond b (x ∷ kept) kept) ≤ length (x ∷ xs)
    one_few true kept l = omega arith
    one_few false kept l = omega arith

count_append : (xs ys : List Found) (slot : ℕ) → count_in (xs ++ ys) slot ≡ count_in xs slot + count_in ys slot
count_append xs ys slot = ap length (filter-append (is_in_slot slot) xs ys) ∙ length-append (filter (is_in_slot slot) xs) (filter (is_in_slot slot) ys)

-- where no more is counted than there is room for, the rest is left
pub room_left : (more : ℕ → ℕ) (most room : ℕ) (old new : List ℕ) → ((slot : ℕ) → more slot ≤ most) → AddsCounts more old new →
    HaveRoom (most + room) old → HaveRoom room new
room_left more most room old new few adds some slot n h =
    let size = adds.count in
    let inside = slice_get_within new slot n h in
    let was = slice_get-get_or old slot 0 (omega arith) in
    let space = some slot (get_or old slot 0) was in
    let is : n ≡ get_or old slot 0 + more slot = same_Some n (get_or old slot 0 + more slot) (sym h ∙ adds.each slot (get_or old slot 0) was) in
    let here = few slot in
    omega arith

pub less_room : (room more : ℕ) (counts : List ℕ) → room ≤ more → HaveRoom more counts → HaveRoom room counts
less_room room more counts l some slot n h = let space = some slot n h in omega arith

module _ (context : Context) (operators : List (Operator × ℕ)) where
  pub counts_nothing : (counts : List ℕ) → CountsFound context operators [] counts counts
  counts_nothing counts = record {
    found = [];
    are = refl;
    adds = record { count = refl; each = λ slot n h. h ∙ ap (λ k. Some k) (let e : n ≡ n + 0 = omega arith in e) };
  }

  pub counts_never : (r : Rewrite) (counts : List ℕ) → (IsMade context operators r → ⊥) → CountsFound context operators (r ∷ []) counts counts
  counts_never r counts never = record {
    found = [];
    are = inr (never, refl);
    adds = record { count = refl; each = λ slot n h. h ∙ ap (λ k. Some k) (let e : n ≡ n + 0 = omega arith in e) };
  }

  pub counts_append : (xs ys : List Rewrite) (old mid new : List ℕ) → CountsFound context operators xs old mid → CountsFound context operators ys mid new →
      CountsFound context operators (xs ++ ys) old new
  counts_append xs ys old mid new a b = record {
    found = a.found ++ b.found;
    are = found_append context operators xs ys a.found b.found a.are b.are;
    adds = record {
      count = b.adds.count ∙ a.adds.count;
      each = λ slot n h. b.adds.each slot (n + count_in a.found slot) (a.adds.each slot n h)
          ∙ ap (λ k. Some k) (let all = count_append a.found b.found slot in omega (arith, all));
    };
  }

  pub room_behind : (items : List Rewrite) (most room : ℕ) (old new : List ℕ) → length items ≤ most → CountsFound context operators items old new →
      HaveRoom (most + room) old → HaveRoom room new
  room_behind items most room old new l counted some =
      room_left (count_in counted.found) most room old new
      (λ slot. let few = count_few counted.found slot in let fewer = found_few context operators items counted.found counted.are in
      omega (arith, few, fewer, l))
      counted.adds some

-- ---- places

slots_few : (slots : List ℕ) (slot : ℕ) → slots_in slots slot ≤ length slots
slots_few [] slot = omega arith
slots_few (x ∷ xs) slot = let l = slots_few xs slot in one_few (x == slot) (filter (λ other. other == slot) xs) l
  where
    one_few : (b : Bool) (kept : List ℕ) → length kept ≤ length xs → length (cond b (x ∷ kept) kept) ≤ length (x ∷ xs)
    one_few true kept l = omega arith
    one_few false kept l = omega arith

slots_more : (slots : List ℕ) (i d slot : ℕ) → i < length slots →
    slots_in (take (i + 1) slots) slot ≡ slots_in (take i slots) slot + slots_in (get_or slots i d ∷ []) slot
slots_more slots i d slot l =
    let test = λ (other : ℕ). other == slot in
    ap length (filter_more test slots i d l) ∙ length-append (filter test (take i slots)) (cond (test (get_or slots i d)) (get_or slots i d ∷ []) [])

pub no_slots_yet : (slots counts : List ℕ) → AddsCounts (slots_in (take 0 slots)) counts counts
no_slots_yet slots counts = record { count = refl; each = λ slot n h. h ∙ ap (λ k. Some k) (let e : n ≡ n + 0 = omega arith in e) }

pub one_slot_more : (slots : List ℕ) (i d : ℕ) → i < length slots → (old mid new : List ℕ) → AddsCounts (slots_in (take i slots)) old mid →
    AddsCounts (slots_in (get_or slots i d ∷ [])) mid new → AddsCounts (slots_in (take (i + 1) slots)) old new
one_slot_more slots i d l old mid new a b = record {
  count = b.count ∙ a.count;
  each = λ slot n h. b.each slot (n + slots_in (take i slots) slot) (a.each slot n h)
      ∙ ap (λ k. Some k) (let all = slots_more slots i d slot l in omega (arith, all));
}

-- there is room for one more, where there is for all
pub room_for_slot : (slots : List ℕ) (i : ℕ) → i < length slots → (old new : List ℕ) → HaveRoom (length slots) old →
    AddsCounts (slots_in (take i slots)) old new → HaveRoom 1 new
room_for_slot slots i l old new room adds =
    let long = length-take-le i slots (omega arith) in
    room_left (slots_in (take i slots)) i 1 old new (λ slot. let few = slots_few (take i slots) slot in omega (arith, few, long)) adds
    (less_room (i + 1) (length slots) old (omega arith) room)

alone_few : (tree : Tree) (list : List Asked) → length (alone_slots tree list) ≤ length list
alone_few tree [] = omega arith
alone_few tree (a ∷ list) =
    let rest = alone_few tree list in
    let all = length-append (option_to_list (alone_slot tree a)) (alone_slots tree list) in
    let one = one_few (alone_slot tree a) in
    omega (arith, rest, all, one)
  where
    one_few : (o : Option ℕ) → length (option_to_list o) ≤ 1
    one_few None = omega arith
    one_few (Some n) = omega arith

pub few_alone : (tree : Tree) → length (alone_slots tree all_asked) ≤ 65536
few_alone tree = let few = alone_few tree all_asked in let all = few_asked in omega (arith, few, all)
