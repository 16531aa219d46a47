-- The tree of the next operator, where it has one: what is told of it is right, and what is kept with it.
use Rattle.std.proofs.Common.{◌≡◌, ℕ, zero, suc, ◌+◌, ◌-◌, ◌<◌, ◌≤◌, ◌⊎◌, inl, inr, List, [], ◌∷◌, ◌++◌, length, take}
use Rattle.std.proofs.Common.{drop, Option, Some, None, refl, sym, ap, ap₂, ◌∙◌, subst, length-append, arith}
use Rattle.std.specs.Prelude.{option_and_then, slice_get}
use Rattle.std.specs.Option.{unwrap_or}
use Rattle.std.proofs.lemmas.List.{length-take-le, length-drop, drop-drop, drop_at, drop_all}
use Rattle.std.proofs.lemmas.Option.{slice_get_past}
use Rattle.wasm_code.specs.Instruction.{Instruction}
use Rattle.wasm_types.specs.declared.types.PrimitiveTypeInfo.{PrimitiveTypeInfo}
use Rattle.wasm_execution.specs.Values.{Context}
use Rattle.wasm_execution.specs.Row.{instruction_types, instruction_count}
use Rattle.body_rewrites.specs.declared.trees.Tree.{Tree}
use Rattle.body_rewrites.specs.declared.trees.Open.{Open}
use Rattle.body_rewrites.specs.Trees.{one_type, tree_behind, tree_after, Stands, HasTree}
use Rattle.body_rewrites.specs.Open.{start_of, AreLast, AreOpen, HasInstruction, HasEffectsOf, HasNoted, TreeIsTold}
use Rattle.body_rewrites.proofs.StandsLemmas.{Operators, Types, nothing_stands, stands_nothing, stands_snoc, after_snoc, gives_one}
use Rattle.body_rewrites.proofs.OpenLemmas.{cut}
use Rattle.body_rewrites.proofs.OpenLemmas as lemmas

-- ---- lists with the last items replaced

below_or_last : {X : Type 0} (xs : List X) (b : ℕ) (y : X) (j : ℕ) (x : X) → b ≤ length xs → slice_get (take b xs ++ y ∷ []) j ≡ Some x →
    ((j < b) × (slice_get xs j ≡ Some x)) ⊎ ((j ≡ b) × (y ≡ x))
below_or_last xs zero y zero x le e = inr (refl, cc)
below_or_last xs zero y (suc j) x le e = absurd cc
below_or_last [] (suc b) y j x le e = absurd (omega arith)
below_or_last (z ∷ xs) (suc b) y zero x le e = inl (omega arith, e)
below_or_last (z ∷ xs) (suc b) y (suc j) x le e =
    elim (below_or_last xs b y j x (omega arith) e) [
      | inl p ↦ let l = p.0 in inl (omega arith, p.1)
      | inr p ↦ inr (ap suc p.0, p.1)
    ]

-- of the first b and one more, those behind the first j
drop_last : {X : Type 0} (xs : List X) (b j : ℕ) (y : X) → j ≤ b → b ≤ length xs → drop j (take b xs ++ y ∷ []) ≡ take (b - j) (drop j xs) ++ y ∷ []
drop_last xs b zero y le l = ap (λ n. take n xs ++ y ∷ []) (let e : b ≡ b - 0 = omega arith in e)
drop_last xs zero (suc j) y le l = absurd (omega arith)
drop_last [] (suc b) (suc j) y le l = absurd (omega arith)
drop_last (x ∷ xs) (suc b) (suc j) y le l =
    drop_last xs b j y (omega arith) (omega arith) ∙ ap (λ n. take n (drop j xs) ++ y ∷ []) (let e : b - j ≡ suc b - suc j = omega arith in e)

get_last : {X : Type 0} (xs : List X) (b j : ℕ) (y d e : X) → j ≤ b → b ≤ length xs → unwrap_or (slice_get xs b) d ≡ y →
    unwrap_or (slice_get (take b xs ++ y ∷ []) j) e ≡ unwrap_or (slice_get xs j) d
get_last xs zero zero y d e le l k = sym k
get_last xs zero (suc j) y d e le l k = absurd (omega arith)
get_last [] (suc b) j y d e le l k = absurd (omega arith)
get_last (x ∷ xs) (suc b) zero y d e le l k = refl
get_last (x ∷ xs) (suc b) (suc j) y d e le l k = get_last xs b j y d e (omega arith) (omega arith) k

-- ---- the next operator

module _ (context : Context) (operators : Operators) (at : ℕ) (o : Open) (h : AreOpen context operators at o) (i : Instruction)
    (has : HasInstruction operators at i) (mid : Open) (noted : HasNoted i at o mid) (below : ℕ) (tree : Tree)
    (told : TreeIsTold context i at mid below tree) where
  count : ℕ
  count = instruction_count context.info i

  sum : below + count ≡ length o.starts.items
  unfolding count
  sum = told.below_is ∙ ap length (lemmas.starts_are context operators at o h i has mid noted)

  within_types : below ≤ length o.types.items
  unfolding count
  within_types = let s = sum in let a = h.aligned in omega arith

  start_is : tree.start ≡ start_of o.starts.items below at
  start_is = told.start_is ∙ ap (λ l. start_of l below at) (lemmas.starts_are context operators at o h i has mid noted)

  typed : one_type (instruction_types context i (drop below o.types.items)) ≡ Some tree.gives
  typed =
      ap (λ l. one_type (instruction_types context i (drop below l))) (sym (lemmas.types_are context operators at o h i has mid noted))
      ∙ told.typed

  -- the code of its operands
  record Front : Type 0 where
    code : List Instruction
    ordered : tree.start ≤ at
    stands : Stands operators tree.start at code
    leaves : tree_after context code [] ≡ Some (drop below o.types.items)

  front : Front
  front = go (slice_get o.starts.items below) refl start_is
    where
      go : (p : Option ℕ) → slice_get o.starts.items below ≡ p → tree.start ≡ unwrap_or p at → Front
      go (Some s) e k =
          let (code, st, t) = h.leave below s e in
          let before = h.begun below s e in
          record {
            code = code;
            ordered = omega (arith, k);
            stands = subst (λ n. Stands operators n at code) (sym k) st;
            leaves = t;
          }
      go None e k =
          let past : length o.starts.items ≤ below = no_get o.starts.items below e in
          let a = h.aligned in
          record {
            code = [];
            ordered = omega (arith, k);
            stands = subst (λ n. Stands operators n at []) (sym k) (stands_nothing operators at);
            leaves = ap (λ l. Some l) (sym (drop_all below o.types.items (omega arith)));
          }
        where
          no_get : {X : Type 0} (xs : List X) (j : ℕ) → slice_get xs j ≡ None → length xs ≤ j
          no_get [] j e = omega arith
          no_get (x ∷ xs) zero e = absurd cc
          no_get (x ∷ xs) (suc j) e = let l = no_get xs j e in omega arith

  -- code that leaves the types from the j-th on, with the instruction behind it
  behind_types : (j : ℕ) (code : List Instruction) → j ≤ below → tree_after context code [] ≡ Some (drop j o.types.items) →
      tree_after context (code ++ i ∷ []) [] ≡ Some (drop j (take below o.types.items ++ tree.gives ∷ []))
  unfolding count
  behind_types j code le e =
      let s = sum in
      let a = h.aligned in
      let w = within_types in
      let long : length (drop j o.types.items) ≡ length o.types.items - j = length-drop j o.types.items in
      let enough : instruction_count context.info i ≤ length (drop j o.types.items) = omega arith in
      let rest : length (drop j o.types.items) - instruction_count context.info i ≡ below - j = omega arith in
      let whole : j + (below - j) ≡ below = omega arith in
      let operands : drop (length (drop j o.types.items) - instruction_count context.info i) (drop j o.types.items) ≡ drop below o.types.items =
      ap (λ n. drop n (drop j o.types.items)) rest ∙ (drop-drop (below - j) j o.types.items ∙ ap (λ n. drop n o.types.items) whole) in
      after_snoc context code i []
      ∙ (ap (option_and_then (tree_behind context i)) e
      ∙ (gives_one context i (drop j o.types.items) tree.gives enough (ap (λ l. one_type (instruction_types context i l)) operands ∙ typed)
      ∙ ap (λ l. Some l) (ap (λ n. take n (drop j o.types.items) ++ tree.gives ∷ []) rest ∙ sym (drop_last o.types.items below j tree.gives le w))))

  whole_typed : tree_after context (front.code ++ i ∷ []) [] ≡ Some (tree.gives ∷ [])
  whole_typed =
      behind_types below front.code (omega arith) front.leaves
      ∙ ap (λ l. Some l) (drop_at (take below o.types.items) (tree.gives ∷ []) below
      (length-take-le below o.types.items within_types))

  pub has_tree : at < length operators → HasTree context operators at tree
  has_tree inside =
      let f = front in
      let code = f.code ++ i ∷ [] in
      let st = stands_snoc operators tree.start at f.code i f.ordered has f.stands in
      let le : tree.start ≤ at + 1 = let l = f.ordered in omega arith in
      let m = lemmas.marked context operators at o h i has mid noted mid (record { written = refl; trapped = refl; asked = refl }) in
      record {
        is = record { inside = inside; ordered = f.ordered; code = code; stands = st; typed = whole_typed };
        writes_is = told.writes_is ∙ sym (m.written tree.start code le st);
        traps_is = told.traps_is ∙ sym (m.trapped tree.start code le st);
        asks_is = told.asks_is ∙ sym (m.asked tree.start code le st);
      }

  pub open_next : (new : Open) → new.starts.items ≡ take below o.starts.items ++ tree.start ∷ [] →
      new.types.items ≡ take below o.types.items ++ tree.gives ∷ [] → HasEffectsOf mid new → AreOpen context operators (at + 1) new
  unfolding count
  open_next new starts types effects =
      let s = sum in
      let a = h.aligned in
      let w = within_types in
      let m = lemmas.marked context operators at o h i has mid noted new effects in
      let long_starts : length new.starts.items ≡ below + 1 =
      ap length starts ∙ (length-append (take below o.starts.items) (tree.start ∷ [])
      ∙ ap (λ n. n + 1) (length-take-le below o.starts.items (omega arith))) in
      let long_types : length new.types.items ≡ below + 1 =
      ap length types ∙ (length-append (take below o.types.items) (tree.gives ∷ []) ∙ ap (λ n. n + 1) (length-take-le below o.types.items w)) in
      record {
        aligned = long_types ∙ sym long_starts;
        begun = λ j k e. begun_at j k (below_or_last o.starts.items below tree.start j k (omega arith) (ap (λ l. slice_get l j) (sym starts) ∙ e));
        leave = λ j k e. leave_at j k (below_or_last o.starts.items below tree.start j k (omega arith) (ap (λ l. slice_get l j) (sym starts) ∙ e));
        most = λ k code ts le st e. most_at k code ts st e (cut k at le) long_starts long_types;
        written_is = m.written;
        trapped_is = m.trapped;
        asked_is = m.asked;
      }
    where
      begun_at : (j k : ℕ) → ((j < below) × (slice_get o.starts.items j ≡ Some k)) ⊎ ((j ≡ below) × (tree.start ≡ k)) → k < at + 1
      begun_at j k (inl p) = let l = h.begun j k p.1 in omega arith
      begun_at j k (inr p) = let l = front.ordered in omega (arith, p.1)

      Left : ℕ → ℕ → Type 0
      Left j k = (code : List Instruction) × Stands operators k (at + 1) code × (tree_after context code [] ≡ Some (drop j new.types.items))

      leave_at : (j k : ℕ) → ((j < below) × (slice_get o.starts.items j ≡ Some k)) ⊎ ((j ≡ below) × (tree.start ≡ k)) →
          (code : List Instruction) × Stands operators k (at + 1) code × (tree_after context code [] ≡ Some (drop j new.types.items))
      leave_at j k (inl p) =
          let (code, st, t) = h.leave j k p.1 in
          let l = h.begun j k p.1 in
          let less = p.0 in (
            code ++ i ∷ [],
            stands_snoc operators k at code i (omega arith) has st,
            behind_types j code (omega arith) t ∙ ap (λ l. Some (drop j l)) (sym types),
          )
      leave_at j k (inr p) =
          let f = front in (
            f.code ++ i ∷ [],
            subst (λ n. Stands operators n (at + 1) (f.code ++ i ∷ [])) p.1 (stands_snoc operators tree.start at f.code i f.ordered has f.stands),
            behind_types below f.code (omega arith) f.leaves ∙ ap₂ (λ n l. Some (drop n l)) (sym p.0) (sym types),
          )

      most_at : (k : ℕ) (code : List Instruction) (ts : Types) → Stands operators k (at + 1) code → tree_after context code [] ≡ Some ts →
          (k ≡ at + 1) ⊎ (k ≤ at) → length new.starts.items ≡ below + 1 → length new.types.items ≡ below + 1 → AreLast new k (at + 1) ts
      most_at k code ts st e (inl same) ls lt =
          let nothing : code ≡ [] = nothing_stands operators k code (subst (λ n. Stands operators k n code) (sym same) st) in
          let empty : [] ≡ ts = same_list (ap (λ c. tree_after context c []) (sym nothing) ∙ e) in
          subst (λ l. AreLast new k (at + 1) l) empty (record {
            few = omega arith;
            last = drop_all (length new.types.items - 0) new.types.items (omega arith);
            begins = same ∙ sym (ap (λ p. unwrap_or p (at + 1)) (slice_get_past new.starts.items (length new.starts.items - 0) (omega arith)));
          })
        where
          same_list : ◌≡◌ {A = Option Types} (Some []) (Some ts) → [] ≡ ts
          same_list e = cc
      most_at k code ts st e (inr le) ls lt =
          let s = sum in
          let a = h.aligned in
          let w = within_types in
          let v = lemmas.over context operators at o h i has k code ts le st e in
          let enough = v.given.enough in
          let few = v.last.few in
          let d = length o.types.items - length v.types in
          let n = instruction_count context.info i in
          let same_operands : drop below o.types.items ≡ drop (length v.types - n) v.types =
          ap (λ m. drop m o.types.items) (let e : below ≡ length o.types.items - n = omega arith in e)
          ∙ sym (lemmas.operands_are context operators at o h i has mid noted k code ts v) in
          let one : tree.gives ≡ v.given.gives =
          same_type tree.gives v.given.gives (sym typed ∙ (ap (λ l. one_type (instruction_types context i l)) same_operands ∙ v.given.typed)) in
          let long : length ts ≡ length v.types - n + 1 =
          ap length v.given.left
          ∙ (length-append (take (length v.types - n) v.types) (v.given.gives ∷ [])
          ∙ ap (λ m. m + 1) (length-take-le (length v.types - n) v.types (omega arith))) in
          let place : below + 1 - length ts ≡ d = omega arith in
          let less : d ≤ below = omega arith in
          let rest : below - d ≡ length v.types - n = omega arith in
          record {
            few = omega arith;
            last =
                ap₂ (λ m l. drop m l) (ap (λ m. m - length ts) lt ∙ place) types
                ∙ (drop_last o.types.items below d tree.gives less w
                ∙ (ap₂ (λ m t. take m (drop d o.types.items) ++ t ∷ []) rest one
                ∙ (ap (λ l. take (length v.types - n) l ++ v.given.gives ∷ []) v.last.last ∙ sym v.given.left)));
            begins =
                v.last.begins
                ∙ (ap (λ m. start_of o.starts.items m at) (ap (λ m. m - length v.types) (sym a))
                ∙ (sym (get_last o.starts.items below d tree.start at (at + 1) less (omega arith) (sym start_is))
                ∙ ap₂ (λ m l. start_of l m (at + 1)) (sym (ap (λ m. m - length ts) ls ∙ place)) (sym starts)));
          }
        where
          same_type : (t u : PrimitiveTypeInfo) → ◌≡◌ {A = Option PrimitiveTypeInfo} (Some t) (Some u) → t ≡ u
          same_type t u e = cc
