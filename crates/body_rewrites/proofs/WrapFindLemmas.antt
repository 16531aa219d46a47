-- Where trees are wrapped, and where they are found wrapped.
use Rattle.std.proofs.Common.{◌≡◌, ℕ, zero, suc, ◌+◌, ◌-◌, ◌<◌, ◌≤◌, List, [], ◌∷◌, ◌++◌, length, map, take, drop, get_or, append_assoc}
use Rattle.std.proofs.Common.{IsTrue, Option, Some, None, refl, sym, ap, ap₂, subst, ◌∙◌, arith}
use Rattle.std.specs.Prelude.{nat_lt, slice_get}
use Rattle.std.proofs.lemmas.Bool.{lt-ltb, ltb-true}
use Rattle.std.proofs.lemmas.List.{map-append, take_more}
use Rattle.std.proofs.lemmas.Option.{same_Some}
use Rattle.wasm_code.specs.Instruction.{Instruction}
use Rattle.wasm_code.specs.declared.operator.Operator.TheVariants.{Instr}
use Rattle.body_splices.specs.declared.piece.Piece.{Piece}
use Rattle.body_splices.specs.OwnBytes.{without_offsets}
use Rattle.wasm_execution.specs.declared.integer.IntegerType.TheVariants as integer
use Rattle.rewrite_rules.specs.declared.wrap.WrapItem.TheVariants as item
use Rattle.wasm_code.specs.declared.immediate.ValType.{ValType}
use Rattle.wasm_code.specs.declared.operator.Operator.{Operator}
use Rattle.wasm_types.specs.declared.types.PrimitiveTypeInfo.{PrimitiveTypeInfo}
use Rattle.wasm_execution.specs.Values.{Context}
use Rattle.rewrite_rules.specs.declared.table.Own.TheVariants.{Wrap as Wraps, Unwrap as Unwraps}
use Rattle.rewrite_rules.specs.declared.wrap.Wrap.{Wrap}
use Rattle.rewrite_rules.specs.declared.wrap.WrapItem.{WrapItem}
use Rattle.rewrite_rules.specs.Wrap.{back_of, value_of, IsItem}
use Rattle.body_rewrites.specs.declared.own.Made.{Made}
use Rattle.body_rewrites.specs.declared.own.Made.TheVariants as made
use Rattle.body_rewrites.specs.declared.trees.Tree.{Tree}
use Rattle.body_rewrites.specs.Trees.{IsTree, HasTree}
use Rattle.body_rewrites.specs.Blocks.{HasRoomForBlock}
use Rattle.body_rewrites.specs.Own.{IsWrapped, HasItem, HaveItems, Rewrites, item_piece, item_pieces}
use Rattle.body_rewrites.specs.OwnSites.{IsConstantOperator, IsWrapRound}
use Rattle.body_rewrites.proofs.StandsLemmas.{Operators}
use Rattle.body_rewrites.proofs.CutLemmas.{one_start}
use Rattle.body_rewrites.proofs.OwnAloneLemmas.{one_number, one_type}
use Rattle.body_rewrites.proofs.WrapLemmas.{back_some}

abbrev NoTree : Context → Operators → ℕ → Type 0
NoTree context operators at = (start : ℕ) (t : PrimitiveTypeInfo) → IsTree context operators start at t → ⊥

abbrev no_type : Option ValType
no_type = None

not_none : (v : ValType) → no_type ≡ Some v → ⊥
not_none v e = absurd cc

-- ---- what is put round

module _ (context : Context) (operators : Operators) (w : Wrap) where
  pub no_room : (at : ℕ) → (HasRoomForBlock operators → ⊥) → (start : ℕ) (m : Made) → Rewrites context operators (Wraps w) start at m → ⊥
  no_room at none start (made.Wrapped v t) (e, room, u, n, tree) = none room
  no_room at none start m r = r

  pub no_tree : (at : ℕ) → NoTree context operators at → (start : ℕ) (m : Made) → Rewrites context operators (Wraps w) start at m → ⊥
  no_tree at none start (made.Wrapped v t) (e, room, u, n, tree) = none start u tree
  no_tree at none start m r = r

  pub no_value : (at : ℕ) (tree : Tree) → HasTree context operators at tree → no_type ≡ value_of tree.gives → (start : ℕ) (m : Made) →
      Rewrites context operators (Wraps w) start at m → ⊥
  no_value at tree has none start (made.Wrapped v t) (e, room, u, n, is) =
      let same = one_type context operators tree.start start at tree.gives u has.is is in
      not_none t (none ∙ (ap value_of same ∙ n))
  no_value at tree has none start m r = r

-- ---- items that stand

drop_next : {X : Type 0} (xs : List X) (i : ℕ) (d : X) → i < length xs → drop i xs ≡ get_or xs i d ∷ drop (suc i) xs
drop_next [] i d l = absurd (omega arith)
drop_next (y ∷ xs) zero d l = refl
drop_next (y ∷ xs) (suc i) d l = drop_next xs i d (omega arith)

drop_there : {X : Type 0} (xs : List X) (i : ℕ) (d : X) → i < length xs → drop i xs ≡ get_or xs i d ∷ drop (i + 1) xs
drop_there xs i d l = let next : suc i ≡ i + 1 = omega arith in drop_next xs i d l ∙ ap (λ m. get_or xs i d ∷ drop m xs) next

module _ (operators : Operators) (start : ℕ) (items : List WrapItem) (t : ValType) where
  -- from the i-th on
  abbrev pub From : ℕ → Type 0
  From i = HaveItems operators (start + i) (drop i items) t

  pub at_first : (HaveItems operators (start + 0) (drop 0 items) t → HaveItems operators start items t) ×
      (HaveItems operators start items t → HaveItems operators (start + 0) (drop 0 items) t)
  at_first =
      let e : start + 0 ≡ start = omega arith in (
        λ h. subst (λ k. HaveItems operators k items t) e h,
        λ h. subst (λ k. HaveItems operators k items t) (sym e) h,
      )

  pub first_and_rest : (i : ℕ) (d : WrapItem) → i < length items → From i → HasItem operators (start + i) (get_or items i d) t × From (i + 1)
  first_and_rest i d l h =
      let k = subst (λ is. HaveItems operators (start + i) is t) (drop_there items i d l) h in
      let next : start + i + 1 ≡ start + (i + 1) = omega arith in
      (k.0, subst (λ n. HaveItems operators n (drop (i + 1) items) t) next k.1)

  pub first_then_rest : (i : ℕ) (d : WrapItem) → i < length items → HasItem operators (start + i) (get_or items i d) t → From (i + 1) → From i
  first_then_rest i d l has rest =
      let next : start + (i + 1) ≡ start + i + 1 = omega arith in
      subst (λ is. HaveItems operators (start + i) is t) (sym (drop_there items i d l))
      (has, subst (λ n. HaveItems operators n (drop (i + 1) items) t) next rest)

  pub none_left : (i : ℕ) → length items ≤ i → From i
  none_left i l = go items i (start + i) l
    where
      go : (is : List WrapItem) (i k : ℕ) → length is ≤ i → HaveItems operators k (drop i is) t
      go [] zero k l = tt
      go [] (suc i) k l = tt
      go (x ∷ is) zero k l = absurd (omega arith)
      go (x ∷ is) (suc i) k l = go is i k (omega arith)

-- ---- what is found wrapped

module _ (context : Context) (operators : Operators) (w : Wrap) (at : ℕ) where
  pub not_inside : length operators ≤ at + 1 → (start : ℕ) (m : Made) → Rewrites context operators (Unwraps w) start at m → ⊥
  not_inside l start (made.Inner from end) h = let k = h.inside in omega arith
  not_inside l start m r = r

  pub not_behind : at < length (back_of w) → (start : ℕ) (m : Made) → Rewrites context operators (Unwraps w) start at m → ⊥
  not_behind l start (made.Inner from end) h = let k = h.ends in let i = h.last_is in omega (arith, k, i, l)
  not_behind l start m r = r

  -- the tree's last operator is the one before `end`
  ends_so : (start from end last : ℕ) (h : IsWrapped context operators w start at from end) → last + 1 + length (back_of w) ≡ at + 1 → h.last ≡ last
  ends_so start from end last h e = let k = h.ends in let i = h.last_is in omega (arith, k, i, e)

  pub no_inner : (last : ℕ) → last + 1 + length (back_of w) ≡ at + 1 → NoTree context operators last → (start : ℕ) (m : Made) →
      Rewrites context operators (Unwraps w) start at m → ⊥
  no_inner last e none start (made.Inner from end) h =
      none from h.type (subst (λ k. IsTree context operators from k h.type) (ends_so start from end last h e) h.tree)
  no_inner last e none start m r = r

  pub no_round : (last : ℕ) (tree : Tree) → last + 1 + length (back_of w) ≡ at + 1 → HasTree context operators last tree →
      ((start : ℕ) → IsWrapRound operators w tree (last + 1) start → ⊥) → (start : ℕ) (m : Made) → Rewrites context operators (Unwraps w) start at m → ⊥
  no_round last tree e has none start (made.Inner from end) h =
      let there = subst (λ k. IsTree context operators from k h.type) (ends_so start from end last h e) h.tree in
      let types = one_type context operators tree.start from last tree.gives h.type has.is there in
      let starts = one_start context operators tree.start from last tree.gives h.type has.is there in
      let ends : end ≡ last + 1 = let k = h.ends in omega (arith, k, e) in
      none start (record {
        value = h.value;
        value_is = ap value_of types ∙ h.value_is;
        ordered = (let l = has.is.ordered in omega (arith, l));
        begins = h.begins ∙ sym starts;
        before = h.before;
        behind = subst (λ k. HaveItems operators k (back_of w) h.value) ends h.behind;
      })
  no_round last tree e has none start m r = r

  pub is_round : (last start : ℕ) (tree : Tree) → last + 1 + length (back_of w) ≡ at + 1 → HasTree context operators last tree → at + 1 < length operators →
      IsWrapRound operators w tree (last + 1) start → Rewrites context operators (Unwraps w) start at (made.Inner tree.start (last + 1))
  is_round last start tree e has l round = record {
    last = last;
    last_is = refl;
    type = tree.gives;
    value = round.value;
    value_is = round.value_is;
    tree = has.is;
    inside = l;
    begins = round.begins;
    ends = e;
    before = round.before;
    behind = round.behind;
  }

-- ---- single operators

same_code : {i j : Instruction} → Instr i ≡ Instr j → i ≡ j
same_code e = cc

-- the constant of a number that isn't zero
pub nonzero_is : (o : Operator) (n : ℕ) (t : ValType) → IsConstantOperator o n → (0 < n → IsItem item.NonZero t o) × (IsItem item.NonZero t o → 0 < n)
nonzero_is o zero t (few, is) = (
  λ l. absurd (omega arith),
  λ (m, small, e). let same = one_number integer.I32 integer.I32 zero (suc m) few small (same_code (sym is ∙ e)) in omega (arith, same),
)
nonzero_is o (suc n) t (few, is) = (λ l. (n, few, is), λ h. omega arith)

pub nonzero_item : (i : WrapItem) (o : Operator) (n : ℕ) (t : ValType) → i ≡ item.NonZero → IsConstantOperator o n →
    (IsTrue (nat_lt 0 n) → IsItem i t o) × (IsItem i t o → IsTrue (nat_lt 0 n))
nonzero_item i o n t e is =
    subst (λ j. (IsTrue (nat_lt 0 n) → IsItem j t o) × (IsItem j t o → IsTrue (nat_lt 0 n))) (sym e)
    (λ h. (nonzero_is o n t is).0 (ltb-true 0 n h), λ h. lt-ltb 0 n ((nonzero_is o n t is).1 h))

-- the item stands there where the operator is it
pub item_there : (operators : Operators) (at : ℕ) (o : Operator) (i : WrapItem) (t : ValType) → slice_get (without_offsets operators) at ≡ Some o →
    HasItem operators at i t → IsItem i t o
item_there operators at o i t e h = subst (IsItem i t) (same_Some h.operator o (sym h.has ∙ e)) h.is

pub no_item : (operators : Operators) (at : ℕ) (i : WrapItem) (t : ValType) → slice_get (without_offsets operators) at ≡ None → HasItem operators at i t → ⊥
no_item operators at i t e h = none_some h.operator (sym e ∙ h.has)
  where
    none_some : (o : Operator) → ◌≡◌ {A = Option Operator} None (Some o) → ⊥
    none_some o e = absurd cc

-- ---- what is put

pub one_more_piece : (is : List WrapItem) (t : ValType) (word i : ℕ) (d : WrapItem) (piece : Piece) (old mid new : List Piece) → i < length is →
    piece ≡ item_piece t word (get_or is i d) → mid ≡ old ++ item_pieces t word (take i is) → new ≡ mid ++ piece ∷ [] →
    new ≡ old ++ item_pieces t word (take (i + 1) is)
one_more_piece is t word i d piece old mid new l e m n =
    n ∙ (ap₂ (λ (ps qs : List Piece). ps ++ qs) m (ap (λ (p : Piece). p ∷ []) e)
    ∙ (append_assoc old (item_pieces t word (take i is)) (item_piece t word (get_or is i d) ∷ [])
    ∙ ap (λ (ps : List Piece). old ++ ps)
    (sym (map-append (item_piece t word) (take i is) (get_or is i d ∷ [])) ∙ ap (map (item_piece t word)) (sym (take_more is i d l)))))

-- the operator before what is behind a tree
pub last_so : (w : Wrap) (at : ℕ) (behind : List WrapItem) → behind ≡ back_of w → length behind ≤ at →
    at + 1 - length behind - 1 + 1 + length (back_of w) ≡ at + 1
last_so w at behind e l =
    let some = back_some w in
    let same : length behind ≡ length (back_of w) = ap length e in
    omega (arith, some, same, l)
