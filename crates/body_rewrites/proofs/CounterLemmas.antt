-- What is counted at an operator: what lines of an operand alone make of its tree, and what the candidates make.
use Rattle.std.proofs.Common.{◌≡◌, ◌⊎◌, ℕ, suc, ◌+◌, ◌-◌, Bool, true, false, cond, List, [], ◌∷◌, ◌++◌, length, take, Option, Some, None}
use Rattle.std.proofs.Common.{inl, inr, refl, sym, ap, ap₂, subst, ◌∙◌, arith}
use Rattle.std.specs.Prelude.{◌==◌, ◌&&◌, ◌||◌, not, if◌then◌else◌, option_map, option_to_list, slice_get}
use Rattle.std.specs.List.{filter}
use Rattle.std.proofs.lemmas.Bool.{false≢true}
use Rattle.std.proofs.lemmas.Option.{slice_get-map}
use Rattle.wasm_types.specs.declared.types.PrimitiveTypeInfo.{PrimitiveTypeInfo}
use Rattle.wasm_types.specs.declared.types.PrimitiveTypeInfo.TheVariants as primitive
use Rattle.wasm_execution.specs.declared.integer.IntegerType.{IntegerType}
use Rattle.wasm_execution.specs.declared.integer.IntegerType.TheVariants as integer
use Rattle.wasm_execution.specs.Values.{Context, type_of, same_type}
use Rattle.rewrite_rules.specs.declared.table.Row.{Row}
use Rattle.rewrite_rules.specs.Applying.{ExactRowsAreTold}
use Rattle.rewrite_rules.specs.Holes.{HolesAreTold}
use Rattle.rewrite_rules.specs.Laws.{TableIsRight}
use Rattle.rewrite_rules.specs.Names.{name_in, begins, given, rule_of}
use Rattle.rewrite_rules.specs.Operands.{TypesAreTold}
use Rattle.rewrite_rules.specs.Parts.{PartsAreTheCode}
use Rattle.rewrite_rules.specs.Table.{Entry, entries, row_in, ROWS, needs_exact, SidesAreParts}
use Rattle.body_rewrites.specs.declared.asked.Asked.{Asked}
use Rattle.body_rewrites.specs.declared.asked.Form.{Form}
use Rattle.body_rewrites.specs.declared.asked.Form.TheVariants.{Own, Alone, Other}
use Rattle.body_rewrites.specs.declared.found.Found.{Found}
use Rattle.body_rewrites.specs.declared.growth.Growth.TheVariants.{Grows}
use Rattle.body_rewrites.specs.declared.rewrite.Rewrite.{Rewrite}
use Rattle.body_rewrites.specs.declared.trees.Tree.{Tree}
use Rattle.body_rewrites.specs.Alone.{takes, alone_growth}
use Rattle.body_rewrites.specs.Asking.{all_asked, by_form, is_candidate, candidates, rewrite_of, rewrites_of, IsAskedSo}
use Rattle.body_rewrites.specs.Counting.{sample, slot_of, slot_in, is_slot, is_in_slot, AddsCounts, count_in, CountsFound, by_alone}
use Rattle.body_rewrites.specs.Counting.{alone_slot, alone_slots, slots_in, of_tree}
use Rattle.body_rewrites.specs.Listing.{HasGrowth, AreFound, found_as}
use Rattle.body_rewrites.specs.Matching.{LeftsAreInstances}
use Rattle.body_rewrites.specs.Rewrites.{IsMade, by_rows}
use Rattle.body_rewrites.specs.Roots.{fits, IsClassAt}
use Rattle.body_rewrites.specs.Trees.{IsTree, HasTree, IsTreeAt, TreesLeave}
use Rattle.body_rewrites.proofs.StandsLemmas.{Operators}
use Rattle.body_rewrites.proofs.AloneLineApplies.{alone_some, alone_none}
use Rattle.body_rewrites.proofs.AskingLemmas.{rewrites_are, is_asked}
use Rattle.body_rewrites.proofs.ExactnessLemmas.{exact_nothing}
use Rattle.body_rewrites.proofs.FormLemmas.{form_alone, is_line}
use Rattle.body_rewrites.proofs.ListingLemmas.{line_nothing}
use Rattle.body_rewrites.proofs.RootLemmas.{makes_fits}

-- ---- trees that are alike

sample_takes : (t : PrimitiveTypeInfo) (busy : Bool) (tree : Tree) → tree.gives ≡ t → (tree.writes || tree.asks) ≡ busy → (width : IntegerType) (d : Bool) →
    takes width d (sample t busy) ≡ takes width d tree
sample_takes t busy tree gives is width d =
    ap₂ (λ u b. same_type u (type_of width) && not (d && b)) (sym gives) (or-false busy ∙ sym is)
  where
    or-false : (b : Bool) → (b || false) ≡ b
    or-false true = refl
    or-false false = refl

sample_slot : (t : PrimitiveTypeInfo) (busy : Bool) (tree : Tree) → tree.gives ≡ t → (tree.writes || tree.asks) ≡ busy → (a : Asked) (form : Form) →
    by_alone (sample t busy) a form ≡ by_alone tree a form
sample_slot t busy tree gives is a (Own o) = refl
sample_slot t busy tree gives is a Other = refl
sample_slot t busy tree gives is a (Alone d) =
    ap (λ b. if b then option_map (λ number. slot_of number Grows) (rule_of a.number) else None) (sample_takes t busy tree gives is a.line.width d)

-- what lines of an operand alone make of a tree goes by its type, and by whether it writes or asks
pub sample_slots : (tree : Tree) (t : PrimitiveTypeInfo) (busy : Bool) → tree.gives ≡ t → (tree.writes || tree.asks) ≡ busy → (list : List Asked) →
    alone_slots (sample t busy) list ≡ alone_slots tree list
sample_slots tree t busy gives is [] = refl
sample_slots tree t busy gives is (a ∷ list) =
    ap₂ (λ o ns. option_to_list o ++ ns) (sample_slot t busy tree gives is a a.form) (sample_slots tree t busy gives is list)

other_type : (gives : PrimitiveTypeInfo) → (gives ≡ primitive.I32 → ⊥) → (gives ≡ primitive.I64 → ⊥) → (width : IntegerType) →
    same_type gives (type_of width) ≡ false
other_type primitive.I32 a b width = absurd (a refl)
other_type primitive.I64 a b width = absurd (b refl)
other_type primitive.F32 a b integer.I32 = refl
other_type primitive.F32 a b integer.I64 = refl
other_type primitive.F64 a b integer.I32 = refl
other_type primitive.F64 a b integer.I64 = refl
other_type primitive.V128 a b integer.I32 = refl
other_type primitive.V128 a b integer.I64 = refl
other_type primitive.FuncRef a b integer.I32 = refl
other_type primitive.FuncRef a b integer.I64 = refl
other_type primitive.ExternRef a b integer.I32 = refl
other_type primitive.ExternRef a b integer.I64 = refl
other_type primitive.Empty a b integer.I32 = refl
other_type primitive.Empty a b integer.I64 = refl

other_slot : (tree : Tree) → (tree.gives ≡ primitive.I32 → ⊥) → (tree.gives ≡ primitive.I64 → ⊥) → (a : Asked) (form : Form) → by_alone tree a form ≡ None
other_slot tree x y a (Own o) = refl
other_slot tree x y a Other = refl
other_slot tree x y a (Alone d) =
    ap (λ b. if b && not (d && (tree.writes || tree.asks)) then option_map (λ number. slot_of number Grows) (rule_of a.number) else None)
    (other_type tree.gives x y a.line.width)

-- they make nothing of one of another type
pub other_slots : (tree : Tree) → (tree.gives ≡ primitive.I32 → ⊥) → (tree.gives ≡ primitive.I64 → ⊥) → (list : List Asked) → alone_slots tree list ≡ []
other_slots tree x y [] = refl
other_slots tree x y (a ∷ list) = ap₂ (λ o ns. option_to_list o ++ ns) (other_slot tree x y a a.form) (other_slots tree x y list)

-- ---- two lists of what is found, as one

abbrev bit : Bool → ℕ
bit true = 1
bit false = 0

cond_count : {A : Type 0} (b : Bool) (x : A) (xs : List A) → length (cond b (x ∷ xs) xs) ≡ bit b + length xs
cond_count true x xs = omega arith
cond_count false x xs = omega arith

-- Those that are found of all, and so many at each place as of some, and among places of the others.
record Both (context : Context) (operators : Operators) (items : List Rewrite) (some : List Found) (slots : List ℕ) : Type 0 where
  found : List Found
  are : AreFound context operators items found
  count : (slot : ℕ) → count_in found slot ≡ count_in some slot + slots_in slots slot

module _ (context : Context) (operators : Operators) (at : ℕ) (test : Asked → Bool) (slot : Asked → Option ℕ) where
  abbrev slots : List Asked → List ℕ
  slots [] = []
  slots (a ∷ list) = option_to_list (slot a) ++ slots list

  -- what is known of a line: it has a place where it is no candidate and makes something, which grows
  record IsSplit (a : Asked) : Type 0 where
    apart : test a ≡ true → slot a ≡ None
    grows : (n : ℕ) → slot a ≡ Some n → HasGrowth context operators Grows (rewrite_of at a) × (slot_in (found_as (rewrite_of at a) Grows) ≡ Some n)
    never : test a ≡ false → slot a ≡ None → IsMade context operators (rewrite_of at a) → ⊥

  -- with one line before
  module _ (x : Asked) (xs : List Asked) (split : IsSplit x) (rest : (some : List Found) → AreFound context operators (rewrites_of at (filter test xs)) some →
      Both context operators (rewrites_of at xs) some (slots xs)) where
    without : (some : List Found) → (IsMade context operators (rewrite_of at x) → ⊥) → slot x ≡ None →
        AreFound context operators (rewrites_of at (filter test xs)) some → Both context operators (rewrites_of at (x ∷ xs)) some (slots (x ∷ xs))
    without some none off h =
        let r = rest some h in
        record {
          found = r.found;
          are = inr (none, r.are);
          count =
              λ n. r.count n ∙ ap (λ o. count_in some n + slots_in (option_to_list o ++ slots xs) n) (sym off);
        }

    by_slot : (some : List Found) (o : Option ℕ) → slot x ≡ o → test x ≡ false → AreFound context operators (rewrites_of at (filter test xs)) some →
        Both context operators (rewrites_of at (x ∷ xs)) some (slots (x ∷ xs))
    by_slot some None e off h = without some (split.never off e) e h
    by_slot some (Some k) e off h =
        let r = rest some h in
        let (has, place) = split.grows k e in
        record {
          found = found_as (rewrite_of at x) Grows ∷ r.found;
          are = inl (Grows, has, r.found, refl, r.are);
          count = λ n.
              let one = cond_count (is_in_slot n (found_as (rewrite_of at x) Grows)) (found_as (rewrite_of at x) Grows) (filter (is_in_slot n) r.found) in
              let same = ap (λ o. bit (is_slot n o)) place in
              let other = cond_count (k == n) k (filter (λ m. m == n) (slots xs)) in
              let all : slots_in (slots (x ∷ xs)) n ≡ slots_in (k ∷ slots xs) n = ap (λ o. slots_in (option_to_list o ++ slots xs) n) e in
              let before = r.count n in
              omega (arith, one, same, other, all, before);
        }

    by_test : (some : List Found) (b : Bool) → test x ≡ b → AreFound context operators (rewrites_of at (cond b (x ∷ filter test xs) (filter test xs))) some →
        Both context operators (rewrites_of at (x ∷ xs)) some (slots (x ∷ xs))
    by_test some false off h = by_slot some (slot x) refl off h
    by_test some true on (inr (none, are)) = without some none (split.apart on) are
    by_test some true on (inl (kind, has, more, is, are)) =
        let r = rest more are in
        let off = split.apart on in
        record {
          found = found_as (rewrite_of at x) kind ∷ r.found;
          are = inl (kind, has, r.found, refl, r.are);
          count = λ n.
              let one = cond_count (is_in_slot n (found_as (rewrite_of at x) kind)) (found_as (rewrite_of at x) kind) (filter (is_in_slot n) r.found) in
              let other = cond_count (is_in_slot n (found_as (rewrite_of at x) kind)) (found_as (rewrite_of at x) kind) (filter (is_in_slot n) more) in
              let same = ap (λ fs. count_in fs n) is in
              let all : slots_in (slots (x ∷ xs)) n ≡ slots_in (slots xs) n = ap (λ o. slots_in (option_to_list o ++ slots xs) n) off in
              let before = r.count n in
              omega (arith, one, other, same, all, before);
        }

  found_both : (list : List Asked) → ((n : ℕ) (a : Asked) → slice_get list n ≡ Some a → IsSplit a) → (some : List Found) →
      AreFound context operators (rewrites_of at (filter test list)) some → Both context operators (rewrites_of at list) some (slots list)
  found_both [] split some e = record { found = some; are = e; count = λ n. (let none = ap length e in omega arith) }
  found_both (x ∷ xs) split some h = by_test x xs (split 0 x refl) (found_both xs (λ n. split (suc n))) some (test x) refl h

-- ---- what a line of an operand alone makes

has_rule : (n : ℕ) (row : Row) → slice_get ROWS n ≡ Some row → rule_of n ≡ None → ⊥
has_rule n row there none = go (slice_get entries n) (sym (slice_get-map row_in entries n)
    ∙ there) (ap (option_map _) (sym (slice_get-map name_in entries n)) ∙ none)
  where
    go : (o : Option Entry) → option_map row_in o ≡ Some row →
        option_map (λ (name : Option (List ℕ)). length (given (take (n + 1) begins)) - 1) (option_map name_in o) ≡ None → ⊥
    go None e h = cc
    go (Some x) e h = cc

candidate_apart : (exact : Bool) (class : ℕ) (tree : Tree) (a : Asked) (form : Form) (b : Bool) → by_form exact a.line.row form b ≡ true →
    by_alone tree a form ≡ None
candidate_apart exact class tree a (Own o) b e = refl
candidate_apart exact class tree a (Alone d) b e = absurd (false≢true e)
candidate_apart exact class tree a Other b e = refl

-- it isn't ready, or may not stand there
not_ready : (exact needs fits : Bool) → ((exact || not needs) && fits) ≡ false → ((exact ≡ false) × (needs ≡ true)) ⊎ (fits ≡ false)
not_ready true needs fits e = inr e
not_ready false true fits e = inl (refl, refl)
not_ready false false fits e = inr e

module _ (types : TypesAreTold) (holes_are : HolesAreTold) (right : TableIsRight) (sides : SidesAreParts) (codes : PartsAreTheCode)
    (lefts : LeftsAreInstances) (leave : TreesLeave) (exacts : ExactRowsAreTold) (context : Context) (operators : Operators) (at : ℕ) where
  -- it makes nothing where the tree isn't as it asks, or there is none
  alone_nothing : (o : Option Tree) → IsTreeAt context operators at o → (a : Asked) → IsAskedSo a → (d : Bool) → a.form ≡ Alone d →
      alone_growth a.line.width d o ≡ None → IsMade context operators (rewrite_of at a) → ⊥
  alone_nothing o told a is d form off =
      let (not_own, alone, twice) = form_alone a.line.row a.line.row.widths d (sym form ∙ is.form_is) in
      line_nothing context operators at a.number a.line is.line
      (alone_none types holes_are right a.line (is_line a.number a.line is.line not_own) alone context operators at leave sides codes o told
      (ap (λ d. alone_growth a.line.width d o) (sym twice) ∙ off))

  -- what may stand elsewhere than a candidate makes nothing
  other_nothing : (class : ℕ) → IsClassAt operators at class → (a : Asked) → IsAskedSo a → fits class true a.root ≡ false →
      IsMade context operators (rewrite_of at a) → ⊥
  other_nothing class is_class a is off =
      line_nothing context operators at a.number a.line is.line
      (λ change made. false≢true (sym off ∙ (ap (fits class true) is.root_is ∙ makes_fits context operators at class is_class true tt a.line change made)))

  module _ (exact : Bool) (exact_is : exact ≡ context.info.exact) (class : ℕ) (is_class : IsClassAt operators at class) where
    other_apart : (a : Asked) → IsAskedSo a → a.form ≡ Other → by_form exact a.line.row Other (fits class true a.root) ≡ false →
        IsMade context operators (rewrite_of at a) → ⊥
    other_apart a is form off made = elim (not_ready exact (needs_exact a.line.row) (fits class true a.root) off) [
      | inl h ↦ exact_nothing right exacts context operators at a is form h.1 (sym exact_is ∙ h.0) made
      | inr h ↦ other_nothing class is_class a is h made
    ]

    no_place : ((start : ℕ) (t : PrimitiveTypeInfo) → IsTree context operators start at t → ⊥) → (a : Asked) → IsAskedSo a →
        IsSplit context operators at (is_candidate exact class) (λ a. None) a
    no_place none a is = record {
      apart = λ e. refl;
      grows = λ n e. absurd cc;
      never = λ off e made. by a.form refl off made;
    }
      where
        by : (form : Form) → a.form ≡ form → is_candidate exact class a ≡ false → IsMade context operators (rewrite_of at a) → ⊥
        by (Own o) e off made = other_nothing class is_class a is (sym (ap (λ f. by_form exact a.line.row f (fits class true a.root)) e) ∙ off) made
        by (Alone d) e off made = alone_nothing None none a is d e refl made
        by Other e off made = other_apart a is e (sym (ap (λ f. by_form exact a.line.row f (fits class true a.root)) e) ∙ off) made

    module _ (tree : Tree) (told : HasTree context operators at tree) (a : Asked) (is : IsAskedSo a) where
      has_growth : (d : Bool) → a.form ≡ Alone d → takes a.line.width d tree ≡ true → HasGrowth context operators Grows (rewrite_of at a)
      has_growth d form on =
          let (not_own, alone, twice) = form_alone a.line.row a.line.row.widths d (sym form ∙ is.form_is) in
          let grows = alone_some types holes_are right a.line (is_line a.number a.line is.line not_own) alone context operators at leave lefts (Some tree)
          told Grows (ap (λ d. alone_growth a.line.width d (Some tree)) (sym twice) ∙ ap (λ b. if b then Some Grows else None) on) in
          record {
            change = grows.change;
            made = record { line = a.line; asked = is.line; width_is = refl; makes = grows.makes };
            growth_is = grows.growth_is;
          }

      some_place : (form : Form) → a.form ≡ form → (n : ℕ) → by_alone tree a form ≡ Some n →
          HasGrowth context operators Grows (rewrite_of at a) × (slot_in (found_as (rewrite_of at a) Grows) ≡ Some n)
      some_place (Own o) form n e = absurd cc
      some_place Other form n e = absurd cc
      some_place (Alone d) form n e = go (takes a.line.width d tree) refl e
        where
          go : (b : Bool) → takes a.line.width d tree ≡ b → (if b then option_map (λ number. slot_of number Grows) (rule_of a.number) else None) ≡ Some n →
              HasGrowth context operators Grows (rewrite_of at a) × (slot_in (found_as (rewrite_of at a) Grows) ≡ Some n)
          go true on e = (has_growth d form on, e)
          go false off e = absurd cc

      never_made : (form : Form) → a.form ≡ form → by_form exact a.line.row form (fits class true a.root) ≡ false → by_alone tree a form ≡ None →
          IsMade context operators (rewrite_of at a) → ⊥
      never_made (Own o) form off none made = other_nothing class is_class a is off made
      never_made Other form off none made = other_apart a is form off made
      never_made (Alone d) form off none made = go (takes a.line.width d tree) refl none
        where
          go : (b : Bool) → takes a.line.width d tree ≡ b → (if b then option_map (λ number. slot_of number Grows) (rule_of a.number) else None) ≡ None → ⊥
          go true on e = has_rule a.number a.line.row is.line.row_is (unmapped (rule_of a.number) e)
            where
              unmapped : (o : Option ℕ) → option_map (λ number. slot_of number Grows) o ≡ None → o ≡ None
              unmapped None e = refl
              unmapped (Some n) e = absurd cc
          go false no_take e = alone_nothing (Some tree) told a is d form (ap (λ b. if b then Some Grows else None) no_take) made

      a_place : IsSplit context operators at (is_candidate exact class) (alone_slot tree) a
      a_place = record {
        apart = candidate_apart exact class tree a a.form (fits class true a.root);
        grows = some_place a.form refl;
        never = never_made a.form refl;
      }

    no_slots : (list : List Asked) → slots context operators at (is_candidate exact class) (λ a. None) list ≡ []
    no_slots [] = refl
    no_slots (a ∷ list) = no_slots list

    same_slots : (tree : Tree) (list : List Asked) → slots context operators at (is_candidate exact class) (alone_slot tree) list ≡ alone_slots tree list
    same_slots tree [] = refl
    same_slots tree (a ∷ list) = ap (λ ns. option_to_list (alone_slot tree a) ++ ns) (same_slots tree list)

    all_found : (o : Option Tree) → IsTreeAt context operators at o → (some : List Found) →
        AreFound context operators (rewrites_of at (filter (is_candidate exact class) all_asked)) some →
        Both context operators (rewrites_of at all_asked) some (of_tree o)
    all_found None told some are =
        subst (Both context operators (rewrites_of at all_asked) some) (no_slots all_asked)
        (found_both context operators at (is_candidate exact class) (λ a. None) all_asked (λ n a e. no_place told a (is_asked n a e)) some are)
    all_found (Some tree) told some are =
        subst (Both context operators (rewrites_of at all_asked) some) (same_slots tree all_asked)
        (found_both context operators at (is_candidate exact class) (alone_slot tree) all_asked (λ n a e. a_place tree told a (is_asked n a e)) some are)

    -- what is counted for candidates, and for lines of an operand alone, is all that is made of the operator
    pub counts_all : (o : Option Tree) → IsTreeAt context operators at o → (lines : List Asked) → lines ≡ candidates exact class → (old mid new : List ℕ) →
        CountsFound context operators (rewrites_of at lines) old mid → AddsCounts (slots_in (of_tree o)) mid new →
        CountsFound context operators (by_rows at 0 ROWS) old new
    counts_all o told lines are old mid new some more =
        let both = all_found o told some.found
        (subst (λ list. AreFound context operators (rewrites_of at list) some.found) are some.are) in
        record {
          found = both.found;
          are = subst (λ items. AreFound context operators items both.found) (rewrites_are at 0 ROWS) both.are;
          adds = record {
            count = more.count ∙ some.adds.count;
            each = λ slot n h. more.each slot (n + count_in some.found slot) (some.adds.each slot n h)
                ∙ ap (λ k. Some k) (let all = both.count slot in omega (arith, all));
          };
        }
