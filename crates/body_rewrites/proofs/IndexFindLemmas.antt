-- Where indices of branches by a table are found, and what bounds them.
use Rattle.std.proofs.Common.{◌≡◌, ℕ, ◌+◌, ◌-◌, ◌≤◌, false, List, [], ◌∷◌, ◌++◌, Some, refl, sym, ap, subst, ◌∙◌, arith}
use Rattle.std.specs.Prelude.{slice_get}
use Rattle.wasm_code.specs.Instruction.{Instruction}
use Rattle.wasm_code.specs.declared.operator.Operator.{Operator}
use Rattle.wasm_code.specs.declared.operator.Operator.TheVariants.{BrTable}
use Rattle.wasm_types.specs.declared.types.PrimitiveTypeInfo.TheVariants as primitive
use Rattle.body_splices.specs.OwnBytes.{without_offsets}
use Rattle.wasm_execution.specs.declared.integer.IntegerType.TheVariants as integer
use Rattle.wasm_execution.specs.Values.{Context}
use Rattle.rewrite_rules.specs.Code.{writes, asks}
use Rattle.rewrite_rules.specs.Flow.{below_code, select_code}
use Rattle.rewrite_rules.specs.Instance.{constant_code}
use Rattle.rewrite_rules.specs.declared.table.Own.TheVariants.{BoundIndex, DropIndexBound}
use Rattle.body_rewrites.specs.declared.own.Made.{Made}
use Rattle.body_rewrites.specs.declared.own.Made.TheVariants as made
use Rattle.body_rewrites.specs.declared.trees.Tree.{Tree}
use Rattle.body_rewrites.specs.Trees.{Stands, IsTree, HasTree}
use Rattle.body_rewrites.specs.Open.{HasInstruction}
use Rattle.body_rewrites.specs.Matching.{HaveSameCode}
use Rattle.body_rewrites.specs.Own.{HasTable, IsBounded, IsIndex, IsReadBefore, Rewrites}
use Rattle.body_rewrites.specs.OwnSites.{IsBoundAt, IsSettledBefore, IsTableOperator}
use Rattle.body_rewrites.proofs.StandsLemmas.{Operators, stands_nothing, stands_snoc}
use Rattle.body_rewrites.proofs.AloneLemmas.{one_code}
use Rattle.body_rewrites.proofs.CodeLemmas.{stands_both}
use Rattle.body_rewrites.proofs.IndexLemmas.{bound_code, bound_copy, bound_number, bound_place, bound_read, bound_there}
use Rattle.body_rewrites.proofs.OwnAloneLemmas.{one_read, one_table, one_tree}
use Rattle.body_rewrites.proofs.FlowFindLemmas.{one_operator}

-- ---- branches by a table

pub has_table : (operators : Operators) (at n : ℕ) (o : Operator) → slice_get (without_offsets operators) at ≡ Some o → IsTableOperator o n →
    HasTable operators at n
has_table operators at n o has (fits, is) = record { has = has ∙ ap (λ (p : Operator). Some p) is; fits = fits }

pub no_table : (operators : Operators) (at n : ℕ) (o : Operator) → slice_get (without_offsets operators) at ≡ Some o → (IsTableOperator o n → ⊥) →
    HasTable operators at n → ⊥
no_table operators at n o has none h = none (h.fits, one_operator operators at o (BrTable n) has h.has)

-- ---- what bounds an index

module _ (operators : Operators) (at : ℕ) where
  pub no_comparison : (place count : ℕ) → (HasInstruction operators (at - 1) below_code → ⊥) → IsBoundAt operators place at count → ⊥
  no_comparison place count none h =
      let ends = h.ends in
      none (subst (λ k. HasInstruction operators k below_code) (let same : place + 1 ≡ at - 1 = omega (arith, ends) in same) h.compares)

  pub no_number : (place count n : ℕ) → HasTable operators (at + 1) n → (HasInstruction operators (at - 2) (constant_code integer.I32 n) → ⊥) →
      IsBoundAt operators place at count → ⊥
  no_number place count n table none h =
      let ends = h.ends in
      none (subst (λ k. HasInstruction operators k (constant_code integer.I32 n)) (let same : place ≡ at - 2 = omega (arith, ends) in same)
      (subst (λ k. HasInstruction operators place (constant_code integer.I32 k)) (one_table operators (at + 1) count n h.behind table) h.limit))

  pub is_bound : (count : ℕ) → 2 ≤ at → HasTable operators (at + 1) count → HasInstruction operators at select_code →
      HasInstruction operators (at - 1) below_code → HasInstruction operators (at - 2) (constant_code integer.I32 count) →
      IsBoundAt operators (at - 2) at count
  is_bound count l table selects compares number = record {
    ends = omega (arith, l);
    limit = number;
    compares = subst (λ k. HasInstruction operators k below_code) (let same : at - 1 ≡ at - 2 + 1 = omega (arith, l) in same) compares;
    selects = selects;
    behind = table;
  }

-- ---- trees that don't ask the world

module _ (context : Context) (operators : Operators) where
  pub what_is_asked : (last end : ℕ) (tree : Tree) → last + 1 ≡ end → HasTree context operators last tree → (start : ℕ) →
      (r : IsReadBefore context operators start end) → tree.asks ≡ asks r.tree.code
  what_is_asked last end tree e has start r =
      let ends = r.last_is in
      let same : last ≡ r.last = omega (arith, e, ends) in
      subst (λ k. (is : IsTree context operators start k primitive.I32) → tree.asks ≡ asks is.code) same does r.tree
    where
      does : (is : IsTree context operators start last primitive.I32) → tree.asks ≡ asks is.code
      does is = has.asks_is ∙ ap asks (one_tree context operators tree.start start last tree.gives primitive.I32 has.is is)

module _ (context : Context) (operators : Operators) (at : ℕ) where
  -- ---- what isn't found

  pub no_index_here : ((start count : ℕ) → IsIndex context operators start at count → ⊥) → (start : ℕ) (m : Made) →
      Rewrites context operators BoundIndex start at m → ⊥
  no_index_here none start (made.Bounded count) h = none start count h
  no_index_here none start m h = h

  pub no_bounded : ((start end : ℕ) → IsBounded context operators start at end → ⊥) → (start : ℕ) (m : Made) →
      Rewrites context operators DropIndexBound start at m → ⊥
  no_bounded none start (made.Inner from end) (e, h) = none start end h
  no_bounded none start m h = h

  -- ---- indices

  pub index_read : (start count : ℕ) → IsIndex context operators start at count → IsSettledBefore context operators start (at + 1)
  index_read start count h = record { read = record { last = at; last_is = refl; tree = h.tree; reads = h.reads }; settled = h.settled }

  pub is_index : (start count : ℕ) → HasTable operators (at + 1) count → (HasInstruction operators at select_code → ⊥) →
      IsSettledBefore context operators start (at + 1) → IsIndex context operators start at count
  is_index start count table free r =
      let ends = r.read.last_is in
      ends_here r.read.last (let same : r.read.last ≡ at = omega (arith, ends) in same) r.read.tree r.read.reads r.settled
    where
      ends_here : (last : ℕ) → last ≡ at → (tree : IsTree context operators start last primitive.I32) → writes tree.code ≡ false →
          asks tree.code ≡ false → IsIndex context operators start at count
      ends_here last same =
          subst (λ k. (tree : IsTree context operators start k primitive.I32) → writes tree.code ≡ false → asks tree.code ≡ false →
          IsIndex context operators start at count) (sym same)
          (λ tree reads settled. record { tree = tree; reads = reads; settled = settled; unbounded = free; behind = table })

  -- ---- bounded ones

  -- By what is found of the bound: where it stands, where the code begins that stands once more, and the number.
  module _ (place count : ℕ) (b : IsBoundAt operators place at count) where
    same_place : (start end : ℕ) (h : IsBounded context operators start at end) → bound_place context operators start at end h ≡ place
    same_place start end h =
        let one = b.ends in
        let other = (bound_there context operators start at end h).ends in
        omega (arith, one, other)

    pub copy_read : (start end : ℕ) → IsBounded context operators start at end → IsReadBefore context operators (end + 1) place
    copy_read start end h = subst (λ k. IsReadBefore context operators (end + 1) k) (same_place start end h) (bound_copy context operators start at end h)

    module _ (copy : ℕ) (r : IsReadBefore context operators copy place) where
      pub copy_begins : (start end : ℕ) → IsBounded context operators start at end → end + 1 ≡ copy
      copy_begins start end h = one_read context operators (end + 1) copy place (copy_read start end h) r

      ends_before : (start end : ℕ) → IsBounded context operators start at end → end ≡ copy - 1
      ends_before start end h = let e = copy_begins start end h in omega (arith, e)

      pub number_before : (start end : ℕ) → IsBounded context operators start at end → HasInstruction operators (copy - 1) (constant_code integer.I32 count)
      number_before start end h =
          subst (λ k. HasInstruction operators k (constant_code integer.I32 count)) (ends_before start end h)
          (subst (λ n. HasInstruction operators end (constant_code integer.I32 n)) (one_table operators (at + 1) h.count count h.behind b.behind)
          (bound_number context operators start at end h))

      pub index_before : (start end : ℕ) → IsBounded context operators start at end → IsSettledBefore context operators start (copy - 1)
      index_before start end h = subst (λ k. IsSettledBefore context operators start k) (ends_before start end h) (bound_read context operators start at end h)

      pub same_twice : (start end : ℕ) → IsBounded context operators start at end → HaveSameCode operators (start, copy - 1) (copy, place)
      same_twice start end h = (
        h.tree.code,
        subst (λ k. Stands operators start k h.tree.code) (h.last_is ∙ ends_before start end h) h.tree.stands,
        subst (λ k. Stands operators k place h.tree.code) (copy_begins start end h)
            (subst (λ k. Stands operators (end + 1) k h.tree.code) (same_place start end h) (bound_code context operators start at end h)),
      )

    -- and what is found so is bounded
    pub is_bounded : (start end copy : ℕ) → end + 1 ≡ copy → copy ≤ place → HasInstruction operators end (constant_code integer.I32 count) →
        (r : IsSettledBefore context operators start end) → HaveSameCode operators (start, end) (copy, place) → IsBounded context operators start at end
    is_bounded start end copy e l number settled (code, one, other) =
        let r = settled.read in
        let limit = constant_code integer.I32 count in
        let same = one_code operators start end code r.tree.code one (subst (λ k. Stands operators start k r.tree.code) r.last_is r.tree.stands) in
        let ends = b.ends in
        let first : Stands operators end copy (limit ∷ []) =
        subst (λ k. Stands operators end k (limit ∷ [])) e (stands_snoc operators end end [] limit (omega arith) number (stands_nothing operators end)) in
        let third : Stands operators place (place + 1) (limit ∷ []) =
        stands_snoc operators place place [] limit (omega arith) b.limit (stands_nothing operators place) in
        let fourth : Stands operators place (place + 1 + 1) (limit ∷ below_code ∷ []) =
        stands_snoc operators place (place + 1) (limit ∷ []) below_code (omega arith) b.compares third in
        let fifth : Stands operators place (at + 1) (limit ∷ below_code ∷ select_code ∷ []) =
        stands_snoc operators place at (limit ∷ below_code ∷ []) select_code (omega (arith, ends)) b.selects
        (subst (λ k. Stands operators place k (limit ∷ below_code ∷ [])) (let k : place + 1 + 1 ≡ at = omega (arith, ends) in k) fourth) in
        let second : Stands operators copy (at + 1) (r.tree.code ++ (limit ∷ below_code ∷ select_code ∷ [])) =
        stands_both operators copy place (at + 1) r.tree.code (limit ∷ below_code ∷ select_code ∷ []) l (omega (arith, ends))
        (subst (λ (c : List Instruction). Stands operators copy place c) same other) fifth in
        record {
          last = r.last;
          last_is = r.last_is;
          tree = r.tree;
          reads = r.reads;
          settled = settled.settled;
          count = count;
          stands = stands_both operators end copy (at + 1) (limit ∷ []) (r.tree.code ++ (limit ∷ below_code ∷ select_code ∷ [])) (omega (arith, e))
              (omega (arith, ends, l)) first second;
          behind = b.behind;
        }
