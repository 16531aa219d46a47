-- How many rewrites there may be, and those of an operator and of a rule, one after another.
use Rattle.std.proofs.Common.{◌≡◌, ℕ, zero, suc, ◌+◌, ◌-◌, ◌*◌, ◌^◌, ◌<◌, ◌≤◌, ◌⊎◌, inl, inr, Bool, true, false, cond, List, [], ◌∷◌, ◌++◌}
use Rattle.std.proofs.Common.{length, map, take, get_or, Option, Some, None, refl, sym, ap, ap₂, subst, ◌∙◌, arith, append-nil}
use Rattle.std.proofs.Common.{append_assoc, length-append}
use Rattle.std.specs.Prelude.{Ok, Err, slice_get}
use Rattle.std.specs.List.{filter}
use Rattle.std.proofs.lemmas.Bool.{eqb-true, eq-eqb, false≢true}
use Rattle.std.proofs.lemmas.List.{length-map}
use Rattle.std.proofs.lemmas.List.Elements.{filter-append}
use Rattle.std.proofs.lemmas.Option.{slice_get-get_or, slice_get_within, same_Some}
use Rattle.wasm_code.specs.declared.operator.Operator.{Operator}
use Rattle.wasm_execution.specs.Values.{Context}
use Rattle.wasm_execution.specs.declared.integer.IntegerType.{IntegerType}
use Rattle.rewrite_rules.specs.declared.rule.Rule.{Rule}
use Rattle.rewrite_rules.specs.declared.table.Row.{Row}
use Rattle.rewrite_rules.specs.declared.table.Widths.{Widths}
use Rattle.rewrite_rules.specs.declared.table.Widths.TheVariants.{Both, Only, Any, Operands, Own}
use Rattle.rewrite_rules.specs.Names.{rule_of}
use Rattle.rewrite_rules.specs.Rule.{rule_number}
use Rattle.rewrite_rules.specs.Table.{parts, ROWS}
use Rattle.body_rewrites.specs.declared.found.Found.{Found}
use Rattle.body_rewrites.specs.declared.growth.Growth.{Growth}
use Rattle.body_rewrites.specs.declared.rewrite.Rewrite.{Rewrite}
use Rattle.body_rewrites.specs.declared.asked.Asked.{Asked}
use Rattle.body_rewrites.specs.Asking.{asked_as, asked_in, asked_from, all_asked, rewrites_of, AreAsked, IsAskedSo}
use Rattle.body_rewrites.specs.Rewrites.{asked_widths, by_rows, asked_below}
use Rattle.body_rewrites.specs.Listing.{AreThose, HasGrowth, OneChange, passing}
use Rattle.body_rewrites.specs.Choice.{IsOf}
use Rattle.body_rewrites.specs.Counting.{slot_of, is_in_slot, count_in, CountsFound, HaveRoom}
use Rattle.body_rewrites.specs.Counting.{is_number, is_of, asked_of, AreCounts, FindsIn}
use Rattle.body_rewrites.specs.ThoseLemmas.{those_append, those_parts, those_first, those_same}
use Rattle.body_rewrites.proofs.AskingLemmas.{numbered_next, rewrites_are}
use Rattle.body_rewrites.proofs.ListingLemmas.{found_few, asked_more}
use Rattle.body_rewrites.proofs.CountingLemmas.{count_few, of_passing}

-- ---- how many there may be

by_rows_few : (at number : ℕ) (rows : List Row) → length (by_rows at number rows) ≤ 2 * length rows
by_rows_few at number [] = omega arith
by_rows_few at number (row ∷ rows) =
    let first = map (λ (width : IntegerType). let r : Rewrite = record { operator = at; row = number; width = width } in r) (asked_widths row.widths) in
    let size = length-append first (by_rows at (suc number) rows) in
    let own = length-map (asked_widths row.widths) (λ (width : IntegerType). let r : Rewrite = record { operator = at; row = number; width = width } in r) in
    let few = widths_few row.widths in
    let more = by_rows_few at (suc number) rows in
    omega arith
  where
    widths_few : (w : Widths) → length (asked_widths w) ≤ 2
    widths_few Both = omega arith
    widths_few (Only t) = omega arith
    widths_few Any = omega arith
    widths_few (Operands a b c) = omega arith
    widths_few (Own o) = omega arith

pub asked_few : length ROWS < 65535 → (end : ℕ) → length (asked_below end) ≤ 131070 * end
asked_few rows zero = omega arith
asked_few rows (suc at) =
    let before = asked_few rows at in
    let size = length-append (asked_below at) (by_rows at 0 ROWS) in
    let here = by_rows_few at 0 ROWS in
    omega arith

-- ---- operator by operator

module _ (context : Context) (operators : List (Operator × ℕ)) where
  -- there is room for those of one operator more
  pub counts_have_room : length ROWS < 65535 → (at : ℕ) (counts : List ℕ) → at < 2 ^ 64 → AreCounts context operators at counts → HaveRoom 131072 counts
  counts_have_room rows at counts l are slot n h =
      let most = are.most slot n h in
      let before = asked_few rows at in
      omega arith

  pub counts_more : OneChange → (at : ℕ) (old new : List ℕ) → AreCounts context operators at old →
      CountsFound context operators (by_rows at 0 ROWS) old new → AreCounts context operators (at + 1) new
  counts_more one at old new are counted =
      let found = counted.found in
      let here = counted.are in
      let adds = counted.adds in
      record {
        count = adds.count ∙ are.count;
        each = λ kind rule.
            let before = are.each kind rule in
            let slot = slot_of (rule_number rule) kind in
            let more = passing (is_in_slot slot) found in
            let P = IsOf context operators kind rule in
            record {
              those = before.those ++ more;
              are = subst (λ items. AreThose P items (before.those ++ more)) (sym (asked_more at))
                  (those_append P (asked_below at) (by_rows at 0 ROWS) before.those more before.are
                  (of_passing one context operators kind rule (by_rows at 0 ROWS) found here));
              count = adds.each slot (length before.those) before.count
                  ∙ ap (λ k. Some k) (ap (λ k. length before.those + k) (sym (length-map (filter (is_in_slot slot) found) (λ (f : Found). f.rewrite)))
                  ∙ sym (length-append before.those more));
            };
        most = λ slot n h.
            let size = adds.count in
            let inside = slice_get_within new slot n h in
            let was = slice_get-get_or old slot 0 (omega arith) in
            let most = are.most slot (get_or old slot 0) was in
            let is : n ≡ get_or old slot 0 + count_in found slot =
            same_Some n (get_or old slot 0 + count_in found slot) (sym h ∙ adds.each slot (get_or old slot 0) was) in
            let few = count_few found slot in
            let fewer = found_few context operators (by_rows at 0 ROWS) found here in
            let long = ap length (asked_more at) ∙ length-append (asked_below at) (by_rows at 0 ROWS) in
            omega arith;
      }

-- ---- the item with a number

slice_get_front : {A : Type 0} (xs ys : List A) (n : ℕ) (x : A) → slice_get xs n ≡ Some x → slice_get (xs ++ ys) n ≡ Some x
slice_get_front [] ys n x h = absurd cc
slice_get_front (y ∷ xs) ys zero x h = h
slice_get_front (y ∷ xs) ys (suc n) x h = slice_get_front xs ys n x h

slice_get_behind : {A : Type 0} (xs ys : List A) (n at : ℕ) → length xs + n ≡ at → slice_get (xs ++ ys) at ≡ slice_get ys n
slice_get_behind {A} [] ys n at e = let none : length {A = A} [] ≡ 0 = refl in let same : at ≡ n = omega (arith, e, none) in ap (slice_get ys) same
slice_get_behind (x ∷ xs) ys n zero e = absurd (omega arith)
slice_get_behind (x ∷ xs) ys n (suc at) e = slice_get_behind xs ys n at (omega arith)

-- ---- by the lines of a rule

rule_cases : (n : ℕ) (o : Option ℕ) → is_number n o ≡ true → o ≡ Some n
rule_cases n None e = absurd (false≢true e)
rule_cases n (Some m) e = ap (λ k. Some k) (eqb-true m n e)

is_its_number : (n : ℕ) (o : Option ℕ) → o ≡ Some n → is_number n o ≡ true
is_its_number n o e = ap (is_number n) e ∙ eq-eqb n n refl

-- those of a row are all of the rule, or none is
of_row : (test : Asked → Bool) (number : ℕ) (row : Row) (b : Bool) → ((width : IntegerType) → test (asked_as number row width) ≡ b) →
    (widths : List IntegerType) → filter test (map (asked_as number row) widths) ≡ cond b (map (asked_as number row) widths) []
of_row test number row true same [] = refl
of_row test number row false same [] = refl
of_row test number row true same (w ∷ ws) =
    ap₂ (λ c zs. cond c (asked_as number row w ∷ zs) zs) (same w) (of_row test number row true same ws)
of_row test number row false same (w ∷ ws) =
    ap₂ (λ c zs. cond c (asked_as number row w ∷ zs) zs) (same w) (of_row test number row false same ws)

of_number : (rule : Rule) (number : ℕ) (b : Bool) → is_number (rule_number rule) (rule_of number) ≡ b → (o : Option Row) →
    filter (is_of rule) (asked_in number o) ≡ cond b (asked_in number o) []
of_number rule number true is None = refl
of_number rule number false is None = refl
of_number rule number b is (Some row) = of_row (is_of rule) number row b (λ width. is) (asked_widths row.widths)

rule_next : (rule : Rule) (number : ℕ) (b : Bool) → number < length ROWS → is_number (rule_number rule) (rule_of number) ≡ b →
    filter (is_of rule) (asked_from 0 (take number ROWS)) ++ cond b (asked_in number (slice_get ROWS number)) []
    ≡ filter (is_of rule) (asked_from 0 (take (number + 1) ROWS))
rule_next rule number b l is =
    let so_far = asked_from 0 (take number ROWS) in
    let here = asked_in number (slice_get ROWS number) in
    sym (ap (filter (is_of rule)) (sym (numbered_next number so_far (so_far ++ here) l refl refl))
    ∙ (filter-append (is_of rule) so_far here
    ∙ ap (λ zs. filter (is_of rule) so_far ++ zs) (of_number rule number b is (slice_get ROWS number))))

-- with those of a row of the rule
pub of_rule_next : (rule : Rule) (number : ℕ) (items more : List Asked) → number < length ROWS →
    is_number (rule_number rule) (rule_of number) ≡ true → items ≡ filter (is_of rule) (asked_from 0 (take number ROWS)) →
    more ≡ items ++ asked_in number (slice_get ROWS number) → more ≡ filter (is_of rule) (asked_from 0 (take (number + 1) ROWS))
of_rule_next rule number items more l on is next =
    next ∙ (ap (λ zs. zs ++ asked_in number (slice_get ROWS number)) is ∙ rule_next rule number true l on)

-- a row of another rule
pub of_rule_skip : (rule : Rule) (number : ℕ) (items : List Asked) → number < length ROWS →
    is_number (rule_number rule) (rule_of number) ≡ false → items ≡ filter (is_of rule) (asked_from 0 (take number ROWS)) →
    items ≡ filter (is_of rule) (asked_from 0 (take (number + 1) ROWS))
of_rule_skip rule number items l off is =
    is ∙ (sym (append-nil (filter (is_of rule) (asked_from 0 (take number ROWS)))) ∙ rule_next rule number false l off)

module _ (context : Context) (operators : List (Operator × ℕ)) (kind : Growth) (rule : Rule) where
  -- of one operator
  those_of_rule : (at : ℕ) (list : List Asked) (those : List Rewrite) → AreThose (IsOf context operators kind rule) (rewrites_of at list) those →
      AreThose (HasGrowth context operators kind) (rewrites_of at (filter (is_of rule) list)) those
  those_of_rule at [] those e = e
  those_of_rule at (a ∷ list) those h = go (is_of rule a) refl h (those_of_rule at list)
    where
      go : (b : Bool) → is_of rule a ≡ b → AreThose (IsOf context operators kind rule) (rewrites_of at (a ∷ list)) those →
          ((rest : List Rewrite) → AreThose (IsOf context operators kind rule) (rewrites_of at list) rest →
          AreThose (HasGrowth context operators kind) (rewrites_of at (filter (is_of rule) list)) rest) →
          AreThose (HasGrowth context operators kind) (rewrites_of at (cond b (a ∷ filter (is_of rule) list) (filter (is_of rule) list))) those
      go true e (inl (p, rest, is, are)) next = inl (p.0, rest, is, next rest are)
      go true e (inr (never, are)) next = inr (λ has. never (has, rule_cases (rule_number rule) (rule_of a.number) e), next those are)
      go false e (inl (p, rest, is, are)) next = absurd (false≢true (sym e ∙ is_its_number (rule_number rule) (rule_of a.number) p.1))
      go false e (inr (never, are)) next = next those are

  -- of all of them
  pub those_of_lines : (end : ℕ) (those : List Rewrite) → AreThose (IsOf context operators kind rule) (asked_below end) those →
      AreThose (HasGrowth context operators kind) (asked_of (filter (is_of rule) all_asked) end) those
  those_of_lines zero those e = e
  those_of_lines (suc at) those h =
      let (us, vs, same, front, back) = those_parts (IsOf context operators kind rule) (asked_below at) (by_rows at 0 ROWS) those h in
      subst (AreThose (HasGrowth context operators kind) (asked_of (filter (is_of rule) all_asked) (suc at))) (sym same)
      (those_append (HasGrowth context operators kind) (asked_of (filter (is_of rule) all_asked) at) (rewrites_of at (filter (is_of rule) all_asked)) us vs
      (those_of_lines at us front)
      (those_of_rule at all_asked vs (subst (λ items. AreThose (IsOf context operators kind rule) items vs) (sym (rewrites_are at 0 ROWS)) back)))

-- ---- operator by operator

asked_before : (list : List Asked) (n m : ℕ) → m ≤ n → (ys : List Rewrite) × (asked_of list n ≡ asked_of list m ++ ys)
asked_before list zero zero l = ([], refl)
asked_before list zero (suc m) l = absurd (omega arith)
asked_before list (suc n) m l = elim (all_or_fewer m n l) [
  | inl fewer ↦
      let (ys, same) = asked_before list n m fewer in
      (ys ++ rewrites_of n list, ap (λ zs. zs ++ rewrites_of n list) same ∙ append_assoc (asked_of list m) ys (rewrites_of n list))
  | inr same ↦ ([], ap (asked_of list) (sym same) ∙ sym (append-nil (asked_of list m)))
]
  where
    all_or_fewer : (m n : ℕ) → m ≤ suc n → (m ≤ n) ⊎ (m ≡ suc n)
    all_or_fewer m n l = grind arith

asked_next : (list : List Asked) (at : ℕ) → asked_of list (at + 1) ≡ asked_of list at ++ rewrites_of at list
asked_next list at = let e : at + 1 ≡ suc at = omega arith in ap (asked_of list) e

-- Those of the operators before `at` that have the property, and how many are left to be passed over.
abbrev pub Passed : (list : List Asked) → (Rewrite → Type 0) → (at left number : ℕ) → Type 0
Passed list P at left number = (passed : List Rewrite) × AreThose P (asked_of list at) passed × (length passed + left ≡ number)

module _ (list : List Asked) (P : Rewrite → Type 0) (at left number : ℕ) (before : Passed list P at left number) where
  -- with those of the next operator
  passed_more : (more : List Rewrite) → AreThose P (rewrites_of at list) more → AreThose P (asked_of list (at + 1)) (before.0 ++ more)
  passed_more more here =
      subst (λ items. AreThose P items (before.0 ++ more)) (sym (asked_next list at))
      (those_append P (asked_of list at) (rewrites_of at list) before.0 more before.1 here)

  -- it is one of the next operator
  pub passed_to : (n : ℕ) → at < n → (more : List Rewrite) → AreThose P (rewrites_of at list) more → (r : Rewrite) → FindsIn left more (Ok r) →
      (those : List Rewrite) → AreThose P (asked_of list n) those → slice_get those number ≡ Some r
  passed_to n l more here r found those all =
      let (ys, same) = asked_before list n (at + 1) (omega arith) in
      let (ws, parts) = those_first P (asked_of list (at + 1)) ys (before.0 ++ more) those (passed_more more here)
      (subst (λ zs. AreThose P zs those) same all) in
      ap (λ zs. slice_get zs number) parts
      ∙ slice_get_front (before.0 ++ more) ws number r (slice_get_behind before.0 more left number before.2 ∙ found)

  -- it is none of these
  pub passed_over : (more : List Rewrite) → AreThose P (rewrites_of at list) more → (behind : ℕ) → FindsIn left more (Err behind) →
      Passed list P (at + 1) behind number
  passed_over more here behind found = (
    before.0 ++ more,
    passed_more more here,
    (let size = length-append before.0 more in let count = before.2 in let rest : length more + behind ≡ left = found in omega arith),
  )

  pub passed_all : (n : ℕ) → at ≡ n → (those : List Rewrite) → AreThose P (asked_of list n) those → length those ≤ number
  passed_all n end those all =
      let same = ap length (those_same P (asked_of list at) before.0 those before.1 (subst (λ k. AreThose P (asked_of list k) those) (sym end) all)) in
      let count = before.2 in
      omega arith

-- each of the lines of a rule is one of the table
pub filter_asked : (test : Asked → Bool) (list : List Asked) → AreAsked list → AreAsked (filter test list)
filter_asked test [] are n a e = absurd cc
filter_asked test (x ∷ xs) are n a e = go (test x) n e (λ m. filter_asked test xs (λ k. are (suc k)) m a)
  where
    go : (b : Bool) (n : ℕ) → slice_get (cond b (x ∷ filter test xs) (filter test xs)) n ≡ Some a →
        ((m : ℕ) → slice_get (filter test xs) m ≡ Some a → IsAskedSo a) → IsAskedSo a
    go true zero e next = are 0 a e
    go true (suc n) e next = next n e
    go false n e next = next n e
