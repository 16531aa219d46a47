-- Where selects, conditionals, conditions and code that is never reached are found.
use Rattle.std.proofs.Common.{◌≡◌, ℕ, ◌+◌, true, false, Some, None, Option, sym, ap, subst, ◌∙◌, arith}
use Rattle.std.specs.Prelude.{slice_get}
use Rattle.std.proofs.lemmas.Option.{same_Some}
use Rattle.wasm_code.specs.Instruction.{Instruction}
use Rattle.wasm_code.specs.declared.immediate.ValType.{ValType}
use Rattle.wasm_code.specs.declared.operator.Operator.{Operator}
use Rattle.wasm_types.specs.declared.types.PrimitiveTypeInfo.{PrimitiveTypeInfo}
use Rattle.wasm_types.specs.declared.types.PrimitiveTypeInfo.TheVariants as primitive
use Rattle.body_splices.specs.OwnBytes.{without_offsets}
use Rattle.wasm_execution.specs.Values.{Context}
use Rattle.rewrite_rules.specs.Code.{writes}
use Rattle.rewrite_rules.specs.Wrap.{value_of}
use Rattle.rewrite_rules.specs.Flow.{is_leaf, zero_code, ne_code, eqz_code}
use Rattle.rewrite_rules.specs.declared.table.Own.TheVariants.{SelectToIf, IfToSelect, TestCondition, DropConditionTest, DoubleCondition}
use Rattle.rewrite_rules.specs.declared.table.Own.TheVariants.{DropDoubleCondition, PutDead, DropDead}
use Rattle.body_rewrites.specs.declared.own.Made.{Made}
use Rattle.body_rewrites.specs.declared.own.Made.TheVariants as made
use Rattle.body_rewrites.specs.declared.trees.Tree.{Tree}
use Rattle.body_rewrites.specs.Trees.{IsTree, HasTree}
use Rattle.body_rewrites.specs.Open.{HasInstruction}
use Rattle.body_rewrites.specs.Blocks.{HasRoomForBlock}
use Rattle.body_rewrites.specs.Own.{AreLeaves, HasCondition, HasPlainLeave, IsAsked, IsConditionalChoice, IsDead, IsLeafAt, IsReadBefore}
use Rattle.body_rewrites.specs.Own.{IsSelected, IsTested, Rewrites}
use Rattle.body_rewrites.specs.OwnSites.{IsAskedBehind}
use Rattle.body_rewrites.proofs.StandsLemmas.{Operators}
use Rattle.body_rewrites.proofs.CutLemmas.{one_start}
use Rattle.body_rewrites.proofs.OwnAloneLemmas.{one_tree, one_type}

-- the operator that stands there
pub one_operator : (operators : Operators) (at : ℕ) (o p : Operator) → slice_get (without_offsets operators) at ≡ Some o →
    slice_get (without_offsets operators) at ≡ Some p → o ≡ p
one_operator operators at o p a b = same_Some o p (sym a ∙ b)

pub none_there : (operators : Operators) (at : ℕ) (o : Operator) → slice_get (without_offsets operators) at ≡ None →
    slice_get (without_offsets operators) at ≡ Some o → ⊥
none_there operators at o e h = none_some (sym e ∙ h)
  where
    none_some : ◌≡◌ {A = Option Operator} None (Some o) → ⊥
    none_some e = absurd cc

module _ (context : Context) (operators : Operators) where
  abbrev NoTree : ℕ → Type 0
  NoTree at = (start : ℕ) (t : PrimitiveTypeInfo) → IsTree context operators start at t → ⊥

  -- ---- constants and variables

  pub no_leaf : (at : ℕ) → NoTree at → (t : PrimitiveTypeInfo) → IsLeafAt context operators at t → ⊥
  no_leaf at none t l = none at t l.tree

  pub leaf_begins : (at : ℕ) (tree : Tree) → HasTree context operators at tree → (t : PrimitiveTypeInfo) → IsLeafAt context operators at t → tree.start ≡ at
  leaf_begins at tree has t l = one_start context operators tree.start at at tree.gives t has.is l.tree

  pub is_leaf_at : (at : ℕ) (i : Instruction) (tree : Tree) → HasInstruction operators at i → is_leaf i ≡ true → HasTree context operators at tree →
      tree.start ≡ at → IsLeafAt context operators at tree.gives
  is_leaf_at at i tree has leaf is e = record {
    instruction = i;
    has = has;
    leaf = leaf;
    tree = subst (λ s. IsTree context operators s at tree.gives) e is.is;
  }

  pub leaf_type : (at : ℕ) (t u : PrimitiveTypeInfo) → IsLeafAt context operators at t → IsLeafAt context operators at u → t ≡ u
  leaf_type at t u a b = one_type context operators at at at t u a.tree b.tree

  pub same_types : (first second : ℕ) (t u : PrimitiveTypeInfo) → IsLeafAt context operators first t → IsLeafAt context operators second u → (v : ValType) →
      AreLeaves context operators first second v → t ≡ u
  same_types first second t u a b v l = leaf_type first t l.type a l.one ∙ leaf_type second l.type u l.other b

  pub valueless : (first second : ℕ) (t : PrimitiveTypeInfo) → IsLeafAt context operators first t → None ≡ value_of t → (v : ValType) →
      AreLeaves context operators first second v → ⊥
  valueless first second t a none v l = none_some (none ∙ (ap value_of (leaf_type first t l.type a l.one) ∙ l.value_is))
    where
      none_some : ◌≡◌ {A = Option ValType} None (Some v) → ⊥
      none_some e = absurd cc

  pub are_leaves : (first second : ℕ) (t u : PrimitiveTypeInfo) (v : ValType) → t ≡ u → Some v ≡ value_of t → IsLeafAt context operators first t →
      IsLeafAt context operators second u → AreLeaves context operators first second v
  are_leaves first second t u v e value a b =
      record { type = t; value_is = sym value; one = a; other = subst (λ k. IsLeafAt context operators second k) (sym e) b }

  -- ---- a tree of 32 bits before an operator

  pub none_read : (last end : ℕ) → last + 1 ≡ end → NoTree last → (start : ℕ) → IsReadBefore context operators start end → ⊥
  none_read last end e none start r =
      let ends = r.last_is in
      let same : r.last ≡ last = omega (arith, e, ends) in
      none start primitive.I32 (subst (λ k. IsTree context operators start k primitive.I32) same r.tree)

  pub what_is_read : (last end : ℕ) (tree : Tree) → last + 1 ≡ end → HasTree context operators last tree → (start : ℕ) →
      IsReadBefore context operators start end → (tree.gives ≡ primitive.I32) × (tree.writes ≡ false)
  what_is_read last end tree e has start r =
      let ends = r.last_is in
      let same : last ≡ r.last = omega (arith, e, ends) in
      subst (λ k. (is : IsTree context operators start k primitive.I32) → writes is.code ≡ false → (tree.gives ≡ primitive.I32) × (tree.writes ≡ false)) same
      does r.tree r.reads
    where
      does : (is : IsTree context operators start last primitive.I32) → writes is.code ≡ false → (tree.gives ≡ primitive.I32) × (tree.writes ≡ false)
      does is w = (
        one_type context operators tree.start start last tree.gives primitive.I32 has.is is,
        has.writes_is ∙ (ap writes (one_tree context operators tree.start start last tree.gives primitive.I32 has.is is) ∙ w),
      )

  pub is_read : (last end : ℕ) (tree : Tree) → last + 1 ≡ end → HasTree context operators last tree → tree.gives ≡ primitive.I32 → tree.writes ≡ false →
      IsReadBefore context operators tree.start end
  is_read last end tree e has gives reads = go tree.gives gives has.is (sym has.writes_is ∙ reads)
    where
      go : (t : PrimitiveTypeInfo) → t ≡ primitive.I32 → (is : IsTree context operators tree.start last t) → writes is.code ≡ false →
          IsReadBefore context operators tree.start end
      go primitive.I32 same is w = record { last = last; last_is = e; tree = is; reads = w }
      go t same is w = absurd cc

  -- ---- conditions

  pub none_asked : (last behind : ℕ) → NoTree last → (start : ℕ) → IsAskedBehind context operators start last behind → ⊥
  none_asked last behind none start a = none start primitive.I32 a.tree

  pub asked_type : (last behind : ℕ) (tree : Tree) → HasTree context operators last tree → (start : ℕ) →
      IsAskedBehind context operators start last behind → tree.gives ≡ primitive.I32
  asked_type last behind tree has start a = one_type context operators tree.start start last tree.gives primitive.I32 has.is a.tree

  pub is_asked : (last behind : ℕ) (tree : Tree) → HasTree context operators last tree → tree.gives ≡ primitive.I32 → HasCondition operators behind →
      IsAskedBehind context operators tree.start last behind
  is_asked last behind tree has e h = record { tree = subst (λ t. IsTree context operators tree.start last t) e has.is; asks = h }

  -- ---- what isn't found

  module _ (at : ℕ) where
    pub no_select : ((start : ℕ) (v : ValType) (condition : ℕ) → HasRoomForBlock operators → IsSelected context operators start at v condition → ⊥) →
        (start : ℕ) (m : Made) →
        Rewrites context operators SelectToIf start at m → ⊥
    no_select none start (made.Conditional v condition) (room, h) = none start v condition room h
    no_select none start m h = h

    pub no_choice : ((start : ℕ) → IsConditionalChoice context operators start at → ⊥) → (start : ℕ) (m : Made) →
        Rewrites context operators IfToSelect start at m → ⊥
    no_choice none start made.Selected h = none start h
    no_choice none start m h = h

    pub no_condition : ((start : ℕ) → IsAsked context operators start at → ⊥) → (start : ℕ) (m : Made) → Rewrites context operators TestCondition start at m → ⊥
    no_condition none start made.Tested h = none start h
    no_condition none start m h = h

    pub no_double : ((start : ℕ) → IsAsked context operators start at → ⊥) → (start : ℕ) (m : Made) → Rewrites context operators DoubleCondition start at m → ⊥
    no_double none start made.DoublyTested h = none start h
    no_double none start m h = h

    pub no_test : ((start end : ℕ) → IsTested context operators zero_code ne_code start at end → ⊥) → (start : ℕ) (m : Made) →
        Rewrites context operators DropConditionTest start at m → ⊥
    no_test none start (made.Inner from end) (e, h) = none start end h
    no_test none start m h = h

    pub no_double_test : ((start end : ℕ) → IsTested context operators eqz_code eqz_code start at end → ⊥) → (start : ℕ) (m : Made) →
        Rewrites context operators DropDoubleCondition start at m → ⊥
    no_double_test none start (made.Inner from end) (e, h) = none start end h
    no_double_test none start m h = h

    pub no_leave : (HasPlainLeave operators at → ⊥) → (start : ℕ) (m : Made) → Rewrites context operators PutDead start at m → ⊥
    no_leave none start made.Dead (e, h) = none h
    no_leave none start m h = h

    pub no_dead : ((start : ℕ) → IsDead context operators start at → ⊥) → (start : ℕ) (m : Made) → Rewrites context operators DropDead start at m → ⊥
    no_dead none start made.Nothing h = none start h
    no_dead none start m h = h

    -- ---- conditions with a test behind them

    pub asked_before : (start last end : ℕ) (i j : Instruction) → last + 2 ≡ at → IsTested context operators i j start at end →
        IsAskedBehind context operators start last (at + 1)
    asked_before start last end i j e h =
        let ends = h.ends in
        let lasts = h.last_is in
        let same : h.last ≡ last = omega (arith, e, ends, lasts) in
        record { tree = subst (λ k. IsTree context operators start k primitive.I32) same h.tree; asks = h.behind }

    pub is_tested : (start last end : ℕ) (i j : Instruction) → last + 1 ≡ end → end + 1 ≡ at → HasInstruction operators end i → HasInstruction operators at j →
        IsAskedBehind context operators start last (at + 1) → IsTested context operators i j start at end
    is_tested start last end i j e f one other a =
        record { ends = f; last = last; last_is = e; tree = a.tree; first = one; second = other; behind = a.asks }

    -- ---- trees that are dropped

    pub dead_tree : (last : ℕ) → last + 1 ≡ at → NoTree last → (start : ℕ) → IsDead context operators start at → ⊥
    dead_tree last e none start h =
        let ends = h.last_is in
        let same : h.last ≡ last = omega (arith, e, ends) in
        none start h.type (subst (λ k. IsTree context operators start k h.type) same h.tree)

    pub dead_begins : (last : ℕ) (tree : Tree) → last + 1 ≡ at → HasTree context operators last tree → (start : ℕ) → IsDead context operators start at →
        tree.start ≡ start
    dead_begins last tree e has start h =
        let ends = h.last_is in
        let same : h.last ≡ last = omega (arith, e, ends) in
        one_start context operators tree.start start last tree.gives h.type has.is (subst (λ k. IsTree context operators start k h.type) same h.tree)
