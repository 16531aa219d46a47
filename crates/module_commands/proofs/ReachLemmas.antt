-- What is counted, one operator and one function more each time.
use Rattle.std.proofs.Common.{◌≡◌, inl, inr, ℕ, suc, ◌+◌, ◌-◌, ◌^◌, ◌<◌, ◌≤◌, min, not, ◌&&◌, ◌||◌, Bool, true, false, List, [], ◌∷◌, ◌++◌}
use Rattle.std.proofs.Common.{length, get_or, Option, Some, None, refl, sym, ap, ap₂, ◌∙◌, subst, arith}
use Rattle.std.specs.Prelude.{◌↔◌, IsTrue, IfSome, IfNone, is_some, slice_get}
use Rattle.std.proofs.lemmas.Bool.{false≢true, not-true, not_from_false, cases_eq, cases_lt, and_parts, and_from, or_cases, or_left, or_right}
use Rattle.std.proofs.lemmas.List.{length_push}
use Rattle.std.proofs.lemmas.Option.{same_Some, slice_get-get_or, slice_get_cases, slice_get_past}
use Rattle.wasm_code.specs.declared.operator.Operator.{Operator}
use Rattle.wasm_types.specs.Module.{Module}
use Rattle.wasm_types.specs.declared.types.PrimitiveTypeInfo.{PrimitiveTypeInfo}
use Rattle.wasm_module.specs.Module.{Layout}
use Rattle.wasm_execution.specs.Values.{Context, context_in}
use Rattle.body_rewrites.specs.Listing.{AreThose}
use Rattle.body_rewrites.specs.Reached.{AreReached, OperatorIsMarked, IsReached}
use Rattle.body_rewrites.specs.ThoseLemmas.{those_with, those_without, those_as}
use Rattle.module_rewrites.specs.Function.{IsFunction}
use Rattle.module_rewrites.specs.Scope.{Scope, wanted_of}
use Rattle.module_commands.specs.Blocks.{HasNoDelimiter, IsBlock, IsBlockRangeIn, delimits, is_delimiter_of}
use Rattle.module_commands.specs.Reach.{AreCounted, AreCountedAt, AreOfBody, AreOfEntries, AreOfEntry, Counts, CountsFamily, CountsFamilyAt}
use Rattle.module_commands.specs.Reach.{EndsBlock, EndsReached, HoldsReached, IsOfFamily, IsOneIf, ToldReach, no_part, nothing, number_of}
use Rattle.module_commands.specs.Reach.{numbers_below, part_in_64_bits, part_of, part_sum, reach_in_64_bits, sum_of}
use Rattle.module_commands.specs.declared.families.Family.{Family}
use Rattle.module_commands.specs.declared.families.Family.TheVariants.{Integers, Floats, Vectors, Accesses}
use Rattle.module_commands.specs.declared.reach.Part.{Part}
use Rattle.module_commands.specs.declared.reach.Reach.{Reach}

abbrev Operators : Type 0
Operators = List (Operator × ℕ)

-- ---- how many have a property

counts_none : (P : ℕ → Type 0) → Counts P 0 0
counts_none P = record { those = []; are = refl; many = refl }

counts_next : (P : ℕ → Type 0) (n count one : ℕ) → Counts P n count → IsOneIf (P n) one → Counts P (n + 1) (count + one)
counts_next P n count one h (inl (p, is)) =
    let next : suc n ≡ n + 1 = omega arith in
    let many = h.many in
    let sized = length_push h.those n in
    record {
      those = h.those ++ n ∷ [];
      are = subst (λ (m : ℕ). AreThose P (numbers_below m) (h.those ++ n ∷ [])) next (those_with P (numbers_below n) n h.those h.are p);
      many = omega (arith, many, is, sized);
    }
counts_next P n count one h (inr (never, is)) =
    let next : suc n ≡ n + 1 = omega arith in
    let many = h.many in
    record {
      those = h.those;
      are = subst (λ (m : ℕ). AreThose P (numbers_below m) h.those) next (those_without P (numbers_below n) n h.those h.are never);
      many = omega (arith, many, is);
    }

counts_as : (P Q : ℕ → Type 0) (n count : ℕ) → ((k : ℕ) → P k ↔ Q k) → Counts P n count → Counts Q n count
counts_as P Q n count same h = record { those = h.those; are = those_as P Q (λ k. (same k).0) (λ k. (same k).1) (numbers_below n) h.those h.are; many = h.many }

one_if : (P : Type 0) (b : Bool) → (IsTrue b ↔ P) → IsOneIf P (number_of b)
one_if P true same = inl (same.0 refl, refl)
one_if P false same = inr (λ p. false≢true (same.1 p), refl)

-- ---- numbers of 64 bits

cap_left : (a b most : ℕ) → min (min a most + b) most ≡ min (a + b) most
cap_left a b most = omega arith

cap_both : (a b most : ℕ) → min (min a most + min b most) most ≡ min (a + b) most
cap_both a b most = omega arith

abbrev make_part : (all within : ℕ) → Part
make_part all within = record { all = all; within = within }

abbrev make_reach : (operators blocks integers floats vectors accesses : Part) → Reach
make_reach operators blocks integers floats vectors accesses =
    record { operators = operators; blocks = blocks; integers = integers; floats = floats; vectors = vectors; accesses = accesses }

same_reach : (a b c d e f s t u v w x : Part) → a ≡ s → b ≡ t → c ≡ u → d ≡ v → e ≡ w → f ≡ x → make_reach a b c d e f ≡ make_reach s t u v w x
same_reach a b c d e f s t u v w x g h i j k l =
    ap₂ (λ p q. make_reach p q c d e f) g h ∙ (ap₂ (λ p q. make_reach s t p q e f) i j ∙ ap₂ (λ p q. make_reach s t u v p q) k l)

left_part : (p q : Part) → part_in_64_bits (part_sum (part_in_64_bits p) q) ≡ part_in_64_bits (part_sum p q)
left_part p q = ap₂ make_part (cap_left p.all q.all (2 ^ 64 - 1)) (cap_left p.within q.within (2 ^ 64 - 1))

both_parts : (p q : Part) → part_in_64_bits (part_sum (part_in_64_bits p) (part_in_64_bits q)) ≡ part_in_64_bits (part_sum p q)
both_parts p q = ap₂ make_part (cap_both p.all q.all (2 ^ 64 - 1)) (cap_both p.within q.within (2 ^ 64 - 1))

left_sum : (r s : Reach) → reach_in_64_bits (sum_of (reach_in_64_bits r) s) ≡ reach_in_64_bits (sum_of r s)
left_sum r s =
    same_reach _ _ _ _ _ _ _ _ _ _ _ _ (left_part r.operators s.operators) (left_part r.blocks s.blocks) (left_part r.integers s.integers)
    (left_part r.floats s.floats) (left_part r.vectors s.vectors) (left_part r.accesses s.accesses)

both_sums : (r s : Reach) → reach_in_64_bits (sum_of (reach_in_64_bits r) (reach_in_64_bits s)) ≡ reach_in_64_bits (sum_of r s)
both_sums r s =
    same_reach _ _ _ _ _ _ _ _ _ _ _ _ (both_parts r.operators s.operators) (both_parts r.blocks s.blocks) (both_parts r.integers s.integers)
    (both_parts r.floats s.floats) (both_parts r.vectors s.vectors) (both_parts r.accesses s.accesses)

pub told_nothing : (Are : Reach → Type 0) (reach : Reach) → Are nothing → reach ≡ nothing → ToldReach Are reach
told_nothing Are reach are is = record { exact = nothing; are = are; as_told = is }

-- ---- the instructions of a family

module _ (Reached : ℕ → Type 0) (operators : Operators) (family : Family) where
  family_none : CountsFamily Reached operators 0 family no_part
  family_none = record { all = counts_none (IsOfFamily family operators); within = counts_none (λ at. IsOfFamily family operators at × Reached at) }

  family_next : (n : ℕ) (before own : Part) → CountsFamily Reached operators n family before → CountsFamilyAt Reached operators n family own →
      CountsFamily Reached operators (n + 1) family (part_sum before own)
  family_next n before own h k = record {
    all = counts_next (IsOfFamily family operators) n _ _ h.all k.all;
    within = counts_next (λ at. IsOfFamily family operators at × Reached at) n _ _ h.within k.within;
  }

  -- what one operator counts
  pub family_at : (at : ℕ) (there marked : Bool) (part : Part) → (IsTrue there ↔ IsOfFamily family operators at) → (IsTrue marked ↔ Reached at) →
      part ≡ part_of there marked → CountsFamilyAt Reached operators at family part
  family_at at there marked part is_there is_marked is =
      let one : CountsFamilyAt Reached operators at family (part_of there marked) = record {
        all = one_if (IsOfFamily family operators at) there is_there;
        within = one_if (IsOfFamily family operators at × Reached at) (there && marked) (
          λ t. (is_there.0 (and_parts there marked t).0, is_marked.0 (and_parts there marked t).1),
          λ h. and_from there marked (is_there.1 h.0) (is_marked.1 h.1),
        );
      } in
      subst (CountsFamilyAt Reached operators at family) (sym is) one

family_as : (P Q : ℕ → Type 0) (operators : Operators) (family : Family) (end : ℕ) (part : Part) → ((at : ℕ) → P at ↔ Q at) →
    CountsFamily P operators end family part → CountsFamily Q operators end family part
family_as P Q operators family end part same h = record {
  all = h.all;
  within = counts_as (λ at. IsOfFamily family operators at × P at) (λ at. IsOfFamily family operators at × Q at) end _
      (λ at. (λ k. (k.0, (same at).0 k.1), λ k. (k.0, (same at).1 k.1))) h.within;
}

-- ---- operator by operator

pub counted_none : (Reached : ℕ → Type 0) (operators : Operators) → AreCounted Reached operators 0 nothing
counted_none Reached operators = record {
  operators_all = refl;
  operators_within = counts_none Reached;
  blocks_all = counts_none (EndsBlock operators);
  blocks_within = counts_none (EndsReached Reached operators);
  integers = family_none Reached operators Integers;
  floats = family_none Reached operators Floats;
  vectors = family_none Reached operators Vectors;
  accesses = family_none Reached operators Accesses;
}

counted_next : (Reached : ℕ → Type 0) (operators : Operators) (n : ℕ) (before own : Reach) → AreCounted Reached operators n before →
    AreCountedAt Reached operators n own → AreCounted Reached operators (n + 1) (sum_of before own)
counted_next Reached operators n before own h k =
    let all = h.operators_all in
    let one = k.operators_all in
    record {
      operators_all = omega (arith, all, one);
      operators_within = counts_next Reached n _ _ h.operators_within k.operators_within;
      blocks_all = counts_next (EndsBlock operators) n _ _ h.blocks_all k.blocks_all;
      blocks_within = counts_next (EndsReached Reached operators) n _ _ h.blocks_within k.blocks_within;
      integers = family_next Reached operators Integers n _ _ h.integers k.integers;
      floats = family_next Reached operators Floats n _ _ h.floats k.floats;
      vectors = family_next Reached operators Vectors n _ _ h.vectors k.vectors;
      accesses = family_next Reached operators Accesses n _ _ h.accesses k.accesses;
    }

pub told_next : (Reached : ℕ → Type 0) (operators : Operators) (n : ℕ) (before own new : Reach) → ToldReach (AreCounted Reached operators n) before →
    AreCountedAt Reached operators n own → new ≡ reach_in_64_bits (sum_of before own) → ToldReach (AreCounted Reached operators (n + 1)) new
told_next Reached operators n before own new h k is = record {
  exact = sum_of h.exact own;
  are = counted_next Reached operators n h.exact own h.are k;
  as_told = is ∙ (ap (λ r. reach_in_64_bits (sum_of r own)) h.as_told ∙ left_sum h.exact own);
}

-- what one operator counts
pub counted_at : (Reached : ℕ → Type 0) (operators : Operators) (at : ℕ) (marked ends held : Bool) (p q i f v a : Part) →
    (IsTrue marked ↔ Reached at) → (IsTrue ends ↔ EndsBlock operators at) → (IsTrue held ↔ HoldsReached Reached operators (at + 1)) →
    p ≡ part_of true marked → q ≡ part_of ends held →
    CountsFamilyAt Reached operators at Integers i → CountsFamilyAt Reached operators at Floats f → CountsFamilyAt Reached operators at Vectors v →
    CountsFamilyAt Reached operators at Accesses a → AreCountedAt Reached operators at (make_reach p q i f v a)
counted_at Reached operators at marked ends held p q i f v a is_marked is_end is_held p_is q_is integers floats vectors accesses =
    record {
      operators_all = ap (λ (part : Part). part.all) p_is;
      operators_within = subst (λ (part : Part). IsOneIf (Reached at) part.within) (sym p_is) (one_if (Reached at) marked is_marked);
      blocks_all = subst (λ (part : Part). IsOneIf (EndsBlock operators at) part.all) (sym q_is) (one_if (EndsBlock operators at) ends is_end);
      blocks_within = subst (λ (part : Part). IsOneIf (EndsReached Reached operators at) part.within) (sym q_is)
          (one_if (EndsReached Reached operators at) (ends && held) (forth, back));
      integers = integers;
      floats = floats;
      vectors = vectors;
      accesses = accesses;
    }
  where
    -- in a block that ends there, what no delimiter stands behind stands in the block
    inside : (start : ℕ) → IsBlock operators start (at + 1) → HoldsReached Reached operators (at + 1) → EndsReached Reached operators at
    inside start block h = elim (cases_lt h.0 start) [
      | inl before ↦
          let some = h.1 in
          let last = block.range.inside in
          let longer : IsBlockRangeIn operators h.0 (at + 1) = record { some = some; inside = last; none = h.2 } in
          let same = (block.longest h.0 (at + 1) (omega (arith, before)) (omega arith) longer).0 in
          absurd (omega (arith, before, same))
      | inr behind ↦
          let some = h.1 in
          record { start = start; block = block; at = h.0; from = behind; to = omega (arith, some); reached = h.3 }
    ]

    forth : IsTrue (ends && held) → EndsReached Reached operators at
    forth t =
        let parts = and_parts ends held t in
        let block = is_end.0 parts.0 in
        inside block.0 block.1 (is_held.0 parts.1)

    back : EndsReached Reached operators at → IsTrue (ends && held)
    back e =
        let from = e.from in
        let to = e.to in
        and_from ends held (is_end.1 (e.start, e.block)) (is_held.1 (
          e.at,
          omega (arith, to),
          λ k o low high is. e.block.range.none k o (omega (arith, from, low)) high is,
          e.reached,
        ))

-- ---- blocks

-- one ends there where one is found that does
pub ends_if_found : (operators : Operators) (at : ℕ) (found : Option ℕ) → IfSome found (λ start. IsBlock operators start (at + 1)) →
    IfNone found ((start : ℕ) → ¬ (IsBlock operators start (at + 1))) →
    IsTrue (is_some found) ↔ EndsBlock operators at
ends_if_found operators at None h none = (λ t. absurd (false≢true t), λ ends. absurd (none ends.0 ends.1))
ends_if_found operators at (Some start) h none = (λ t. (start, h), λ ends. refl)

-- ---- a reached operator with no delimiter from it on

pub holds_none : (Reached : ℕ → Type 0) (operators : Operators) → IsTrue false ↔ HoldsReached Reached operators 0
holds_none Reached operators = (λ t. absurd (false≢true t), λ h. let none : h.0 < 0 = h.1 in absurd (omega arith))

pub holds_next : (Reached : ℕ → Type 0) (operators : Operators) (at : ℕ) (stopped marked held : Bool) → at < length operators →
    stopped ≡ delimits operators at → (IsTrue marked ↔ Reached at) → (IsTrue held ↔ HoldsReached Reached operators at) →
    IsTrue (not stopped && (held || marked)) ↔ HoldsReached Reached operators (at + 1)
holds_next Reached operators at stopped marked held inside stopped_is is_marked is_held = (forth, back)
  where
    -- the operator there is no delimiter, and none stands before it
    more : (k : ℕ) → delimits operators at ≡ false → HasNoDelimiter operators k at → HasNoDelimiter operators k (at + 1)
    more k own none j o low high is = elim (cases_eq j at) [
      | inl e ↦ ap is_delimiter_of (sym is ∙ ap (slice_get operators) e) ∙ own
      | inr other ↦ none j o low (omega (arith, high, other)) is
    ]

    forth : IsTrue (not stopped && (held || marked)) → HoldsReached Reached operators (at + 1)
    forth t =
        let parts = and_parts (not stopped) (held || marked) t in
        let own : delimits operators at ≡ false = sym stopped_is ∙ not-true stopped parts.0 in
        elim (or_cases held marked parts.1) [
          | inl h ↦
              let before = is_held.0 h in
              let below = before.1 in
              (before.0, omega (arith, below), more before.0 own before.2, before.3)
          | inr m ↦ (at, omega arith, more at own (λ j o low high is. absurd (omega (arith, low, high))), is_marked.0 m)
        ]

    back : HoldsReached Reached operators (at + 1) → IsTrue (not stopped && (held || marked))
    back h =
        let below = h.1 in
        let own : delimits operators at ≡ false = elim (slice_get_cases operators at).1 [
          | inl x ↦ ap is_delimiter_of x.2 ∙ h.2 at x.0 (omega (arith, below)) (omega arith) x.2
          | inr past ↦ absurd (omega (arith, past.0, inside))
        ] in
        and_from (not stopped) (held || marked) (not_from_false stopped (stopped_is ∙ own)) (elim (cases_eq h.0 at) [
          | inl e ↦ or_right held marked (is_marked.1 (subst Reached e h.3))
          | inr other ↦
              let before : h.0 < at = omega (arith, below, other) in
              or_left held marked (is_held.1 (h.0, before, λ j o low high is. h.2 j o low (omega (arith, high)) is, h.3))
        ])

-- ---- marks

pub marked_if : (marks : List Bool) (at : ℕ) (d marked : Bool) → at < length marks → marked ≡ get_or marks at d → IsTrue marked ↔ OperatorIsMarked marks at
marked_if marks at d marked inside is =
    let there = slice_get-get_or marks at d inside in (
      λ t. there ∙ ap (λ b. Some b) (sym is ∙ t),
      λ m. is ∙ same_Some (get_or marks at d) true (sym there ∙ m),
    )

-- ---- a body

counted_as : (P Q : ℕ → Type 0) (operators : Operators) (end : ℕ) (reach : Reach) → ((at : ℕ) → P at ↔ Q at) → AreCounted P operators end reach →
    AreCounted Q operators end reach
counted_as P Q operators end reach same h = record {
  operators_all = h.operators_all;
  operators_within = counts_as P Q end _ same h.operators_within;
  blocks_all = h.blocks_all;
  blocks_within = counts_as (EndsReached P operators) (EndsReached Q operators) end _ (λ last. (
    λ e. record { start = e.start; block = e.block; at = e.at; from = e.from; to = e.to; reached = (same e.at).0 e.reached },
    λ e. record { start = e.start; block = e.block; at = e.at; from = e.from; to = e.to; reached = (same e.at).1 e.reached },
  )) h.blocks_within;
  integers = family_as P Q operators Integers end _ same h.integers;
  floats = family_as P Q operators Floats end _ same h.floats;
  vectors = family_as P Q operators Vectors end _ same h.vectors;
  accesses = family_as P Q operators Accesses end _ same h.accesses;
}

-- a mark tells whether the operator is reached; behind the last one there is neither a mark nor an operator
marked_as : (context : Context) (scope : Scope) (operators : Operators) (marks : List Bool) →
    AreReached context operators scope.rules (wanted_of scope) marks → (at : ℕ) →
    OperatorIsMarked marks at ↔ IsReached context operators scope.rules (wanted_of scope) at
marked_as context scope operators marks h at = elim (cases_lt at (length operators)) [
  | inl less ↦ h.each at less
  | inr past ↦
      let past_marks : length marks ≤ at = rw h.count past in (
        λ m.
            let none : None ≡ Some true = sym (slice_get_past marks at past_marks) ∙ m in
            absurd cc,
        λ r. absurd (let inside = r.inside in omega (arith, inside, past)),
      )
]

pub told_body : (context : Context) (scope : Scope) (operators : Operators) (marks : List Bool) (reach : Reach) →
    AreReached context operators scope.rules (wanted_of scope) marks → ToldReach (AreCounted (OperatorIsMarked marks) operators (length operators)) reach →
    ToldReach (AreOfBody context scope operators) reach
told_body context scope operators marks reach h t = record {
  exact = t.exact;
  are = counted_as (OperatorIsMarked marks) (IsReached context operators scope.rules (wanted_of scope)) operators (length operators) t.exact
      (marked_as context scope operators marks h)
      t.are;
  as_told = t.as_told;
}

-- ---- function by function

abbrev Types : Type 0
Types = List PrimitiveTypeInfo

module _ (scope : Scope) (bytes : List ℕ) (info : Module) (layout : Layout) (n : ℕ) where
  -- of one that was read
  pub told_read : (locals lent : Types) (expression : ℕ) (operators given : Operators) (reach : Reach) → lent ≡ locals → given ≡ operators →
      IsFunction bytes info layout n locals expression operators →
      ((l : Types) (x : ℕ) (o : Operators) → IsFunction bytes info layout n l x o → (locals ≡ l) × (operators ≡ o)) →
      ToldReach (AreOfBody (context_in info lent) scope given) reach → ToldReach (AreOfEntry scope bytes info layout n) reach
  told_read locals lent expression operators given reach lent_is given_is f only t = record {
    exact = t.exact;
    are = record {
      read = λ l x o k.
          let s = only l x o k in
          subst (λ (ts : Types). AreOfBody (context_in info ts) scope o t.exact) (lent_is ∙ s.0)
          (subst (λ (os : Operators). AreOfBody (context_in info lent) scope os t.exact) (given_is ∙ s.1) t.are);
      unread = λ never. absurd (never (record { locals = locals; expression = expression; operators = operators; is = f }));
    };
    as_told = t.as_told;
  }

  -- of one that can't be
  pub told_unread : (reach : Reach) → ((l : Types) (x : ℕ) (o : Operators) → IsFunction bytes info layout n l x o → ⊥) → reach ≡ nothing →
      ToldReach (AreOfEntry scope bytes info layout n) reach
  told_unread reach never is = record {
    exact = nothing;
    are = record { read = λ l x o f. absurd (never l x o f); unread = λ _. refl };
    as_told = is;
  }

  -- one more
  pub told_more : (before own new : Reach) → ToldReach (AreOfEntries scope bytes info layout n) before → ToldReach (AreOfEntry scope bytes info layout n) own →
      new ≡ reach_in_64_bits (sum_of before own) → ToldReach (AreOfEntries scope bytes info layout (n + 1)) new
  told_more before own new h k is =
      let next : suc n ≡ n + 1 = omega arith in
      record {
        exact = sum_of h.exact k.exact;
        are = subst (λ (m : ℕ). AreOfEntries scope bytes info layout m (sum_of h.exact k.exact)) next (h.exact, k.exact, refl, h.are, k.are);
        as_told = is ∙ (ap (λ r. reach_in_64_bits (sum_of r own)) h.as_told
            ∙ (ap (λ r. reach_in_64_bits (sum_of (reach_in_64_bits h.exact) r)) k.as_told ∙ both_sums h.exact k.exact));
      }
