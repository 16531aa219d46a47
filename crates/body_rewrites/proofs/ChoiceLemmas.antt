-- The rewrite that words choose.
use Rattle.std.proofs.Common.{◌≡◌, ℕ, ◌%◌, ◌<◌, ◌≤◌, List, [], ◌∷◌, length, Some, refl, sym, ap, subst, ◌∙◌, arith}
use Rattle.std.specs.Prelude.{Contains, slice_get, ◌↔◌}
use Rattle.std.proofs.lemmas.Option.{same_Some}
use Rattle.rand_core.specs.Stream.{Stream, next_u64}
use Rattle.wasm_code.specs.declared.operator.Operator.{Operator}
use Rattle.wasm_execution.specs.Values.{Context}
use Rattle.rewrite_rules.specs.declared.rule.Rule.{Rule}
use Rattle.body_rewrites.specs.declared.growth.Growth.{Growth}
use Rattle.body_rewrites.specs.declared.growth.Growth.TheVariants.{Shrinks, Keeps, Grows}
use Rattle.body_rewrites.specs.declared.rewrite.Rewrite.{Rewrite}
use Rattle.body_rewrites.specs.Rewrites.{growth_of, asked_below}
use Rattle.body_rewrites.specs.Listing.{AreThose, IsBy, IsWantedBy}
use Rattle.body_rewrites.specs.Choice.{after_word, growths, IsOf, IsOpen, HasOpen, Chooses}
use Rattle.body_rewrites.specs.Counting.{HasCount, AreCounts, IsOpenBy, HasOpenBy}
use Rattle.body_rewrites.specs.ThoseLemmas.{those_as, none_of, none_are, one_of, some_of, head_contained, tail_contained}

pub contains_growth : (kind : Growth) → Contains growths kind
contains_growth Shrinks = head_contained Shrinks (Keeps ∷ Grows ∷ [])
contains_growth Keeps = tail_contained Shrinks (Keeps ∷ Grows ∷ []) Keeps (head_contained Keeps (Grows ∷ []))
contains_growth Grows = tail_contained Shrinks (Keeps ∷ Grows ∷ []) Grows (tail_contained Keeps (Grows ∷ []) Grows (head_contained Grows []))

-- there is one counted where there is an open rule
module _ (counts : List ℕ) (rules : List Rule) (wanted : List Growth) where
  -- a growth that was drawn has an open rule
  pub has_open_rule : (list : List Growth) → AreThose (HasOpenBy counts rules) wanted list → (i : ℕ) (kind : Growth) → slice_get list i ≡ Some kind →
      (own : List Rule) → AreThose (IsOpenBy counts kind) rules own → 0 < length own
  has_open_rule list are i kind drawn own are_own =
      let open_one = (one_of (HasOpenBy counts rules) wanted list are i kind drawn).1 in
      some_of (IsOpenBy counts kind) rules own open_one.0 open_one.1 open_one.2 are_own

  -- something is counted for a rule that was drawn
  pub has_count : (kind : Growth) (own : List Rule) → AreThose (IsOpenBy counts kind) rules own → (i : ℕ) (rule : Rule) → slice_get own i ≡ Some rule →
      (count : ℕ) → HasCount counts kind rule count → 0 < count
  has_count kind own are i rule drawn count has =
      let open_one = (one_of (IsOpenBy counts kind) rules own are i rule drawn).1 in
      let same : count ≡ open_one.n = same_Some count open_one.n (sym has ∙ open_one.count) in
      let some = open_one.some in
      omega arith

module _ (context : Context) (operators : List (Operator × ℕ)) (counts : List ℕ) (are : AreCounts context operators (length operators) counts) where
  first_item : (xs : List Rewrite) → 0 < length xs → (x : Rewrite) × (slice_get xs 0 ≡ Some x)
  first_item [] l = absurd (omega arith)
  first_item (x ∷ xs) l = (x, refl)

  is_open : (kind : Growth) (rule : Rule) → IsOpenBy counts kind rule → IsOpen context operators kind rule
  is_open kind rule own =
      let is = are.each kind rule in
      let size = same_Some own.n (length is.those) (sym own.count ∙ is.count) in
      let some = own.some in
      let (r, first) = first_item is.those (omega arith) in
      let (among, of) = one_of (IsOf context operators kind rule) (asked_below (length operators)) is.those is.are 0 r first in
      (r, among, of)

  open_counted : (kind : Growth) (rule : Rule) → IsOpen context operators kind rule → IsOpenBy counts kind rule
  open_counted kind rule own =
      let is = are.each kind rule in
      record {
        n = length is.those;
        count = is.count;
        some = some_of (IsOf context operators kind rule) (asked_below (length operators)) is.those own.0 own.1 own.2 is.are;
      }

  growths_open : (rules : List Rule) (wanted list : List Growth) → AreThose (HasOpenBy counts rules) wanted list →
      AreThose (HasOpen context operators rules) wanted list
  growths_open rules wanted list = those_as (HasOpenBy counts rules) (HasOpen context operators rules)
      (λ kind h. (h.0, h.1, is_open kind h.0 h.2)) (λ kind h. (h.0, h.1, open_counted kind h.0 h.2)) wanted list

  rules_open : (kind : Growth) (rules list : List Rule) → AreThose (IsOpenBy counts kind) rules list → AreThose (IsOpen context operators kind) rules list
  rules_open kind rules list = those_as (IsOpenBy counts kind) (IsOpen context operators kind) (is_open kind) (open_counted kind) rules list

  -- where none is open, there is no rewrite
  pub none_open : (rules : List Rule) (wanted : List Growth) → AreThose (HasOpenBy counts rules) wanted [] →
      AreThose (IsWantedBy context operators rules wanted) (asked_below (length operators)) []
  none_open rules wanted none = none_are (IsWantedBy context operators rules wanted) (asked_below (length operators)) (λ r among p.
      let (rule, listed, is) = p.of_rule in
      none_of (HasOpenBy counts rules) wanted none p.growth p.listed (rule, listed, open_counted p.growth rule (r, among, (p.has, is))))

  -- the number that was drawn is that of a rewrite
  pub never_past : (kind : Growth) (rule : Rule) (count number : ℕ) → HasCount counts kind rule count → number < count →
      ((those : List Rewrite) → AreThose (IsOf context operators kind rule) (asked_below (length operators)) those → length those ≤ number) → ⊥
  never_past kind rule count number has inside past =
      let counted = are.each kind rule in
      let most = past counted.those counted.are in
      let size : count ≡ length counted.those = same_Some count (length counted.those) (sym has ∙ counted.count) in
      absurd (let none : length counted.those < length counted.those = omega arith in omega arith)

  pub chosen : (stream behind last : Stream) → behind ≡ after_word stream → last ≡ after_word behind → (rules : List Rule) (wanted list : List Growth) →
      AreThose (HasOpenBy counts rules) wanted list → (kind : Growth) → slice_get list ((next_u64 stream).0 % length list) ≡ Some kind →
      (own : List Rule) → AreThose (IsOpenBy counts kind) rules own → (rule : Rule) → slice_get own ((next_u64 behind).0 % length own) ≡ Some rule →
      (count number : ℕ) (r : Rewrite) → HasCount counts kind rule count → number ≡ (next_u64 last).0 % count →
      ((those : List Rewrite) → AreThose (IsOf context operators kind rule) (asked_below (length operators)) those → slice_get those number ≡ Some r) →
      Chooses context stream rules wanted operators r
  chosen stream behind last first second rules wanted list are_growths kind g own are_rules rule k count number r has named place =
      let counted = are.each kind rule in
      let size : count ≡ length counted.those = same_Some count (length counted.those) (sym has ∙ counted.count) in
      let third : last ≡ after_word (after_word stream) = second ∙ ap after_word first in
      record {
        growth = kind;
        rule = rule;
        draws_growth = record { those = list; are = growths_open rules wanted list are_growths; is = g };
        draws_rule = record {
          those = own;
          are = rules_open kind rules own are_rules;
          is = subst (λ s. slice_get own ((next_u64 s).0 % length own) ≡ Some rule) first k;
        };
        draws_rewrite = record {
          those = counted.those;
          are = counted.are;
          is = ap (λ n. slice_get counted.those ((next_u64 (after_word (after_word stream))).0 % n)) (sym size)
              ∙ ap (λ s. slice_get counted.those ((next_u64 s).0 % count)) (sym third) ∙ ap (slice_get counted.those) (sym named)
              ∙ place counted.those counted.are;
        };
      }

-- every rewrite by the rules is wanted, where all growths are
pub every_is_wanted : (context : Context) (operators : List (Operator × ℕ)) (rules : List Rule) (r : Rewrite) →
    IsBy context operators rules r ↔ IsWantedBy context operators rules growths r
every_is_wanted context operators rules r = (
  λ by.
      let kind = growth_of operators r.operator by.0.0 in
      record { growth = kind; listed = contains_growth kind; has = record { change = by.0.0; made = by.0.1; growth_is = refl }; of_rule = by.1 },
  λ is. ((is.has.change, is.has.made), is.of_rule),
)

pub empty_is : {A : Type 0} (xs : List A) → length xs ≡ 0 → xs ≡ []
empty_is [] e = refl
empty_is (x ∷ xs) e = absurd cc
