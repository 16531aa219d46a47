-- Where rules beside the table apply, by what is read of a body.
use Rattle.std.proofs.Common.{◌≡◌, ℕ, ◌+◌, ◌<◌, ◌≤◌, ◌^◌, true, false, List, length, Option, Some, None, refl, sym, ap, subst, ◌∙◌, arith}
use Rattle.std.specs.Prelude.{IfNone, slice_get}
use Rattle.std.specs.Option.{option_flatten}
use Rattle.std.proofs.lemmas.Bool.{false≢true}
use Rattle.wasm_code.specs.Instruction.{Instruction}
use Rattle.wasm_code.specs.declared.immediate.Imm.TheVariants as imm
use Rattle.wasm_types.specs.Module.{Module}
use Rattle.wasm_types.specs.declared.types.PrimitiveTypeInfo.{PrimitiveTypeInfo}
use Rattle.wasm_execution.specs.Values.{Context}
use Rattle.rewrite_rules.specs.Code.{writes, traps}
use Rattle.rewrite_rules.specs.declared.table.Own.TheVariants.{ThroughGlobal, WithNop, Forget}
use Rattle.body_rewrites.specs.declared.own.Made.{Made}
use Rattle.body_rewrites.specs.declared.own.Made.TheVariants as made
use Rattle.body_rewrites.specs.declared.trees.Tree.{Tree}
use Rattle.body_rewrites.specs.Trees.{IsTree, HasTree, IsTreeAt, AreTrees}
use Rattle.body_rewrites.specs.Open.{HasInstruction}
use Rattle.body_rewrites.specs.Own.{is_number, Rewrites, IsForgotten}
use Rattle.body_rewrites.specs.OwnSites.{HasBare, HasIndexed}
use Rattle.body_rewrites.proofs.StandsLemmas.{Operators}
use Rattle.body_rewrites.proofs.CutLemmas.{start_none}
use Rattle.body_rewrites.proofs.OwnAloneLemmas.{one_instruction, one_tree, one_type}

pub no_index : (operators : Operators) (at row : ℕ) (i : Instruction) (o : Option ℕ) → HasInstruction operators at i →
    IfNone o ((n : ℕ) → i ≡ record { row = row; imm = imm.Index n } → ⊥) → IfNone o ((n : ℕ) → HasIndexed operators at row n → ⊥)
no_index operators at row i (Some n) h none = tt
no_index operators at row i None h none = λ n has. none n (one_instruction operators at i (record { row = row; imm = imm.Index n }) h has)

-- ---- trees

pub tree_told : (trees : List (Option Tree)) (at : ℕ) (o : Option Tree) → o ≡ option_flatten (slice_get trees at) → (context : Context)
    (operators : Operators) → AreTrees context operators trees → IsTreeAt context operators at o
tree_told trees at None e context operators a = start_none trees at (sym e) context operators a
tree_told trees at (Some tree) e context operators a = go (slice_get trees at) refl e
  where
    go : (o : Option (Option Tree)) → slice_get trees at ≡ o → Some tree ≡ option_flatten o → HasTree context operators at tree
    go (Some (Some found)) k e =
        let same : found ≡ tree = cc in
        subst (λ x. HasTree context operators at x) same (a.each at (Some found) k)
    go (Some None) k e = absurd cc
    go None k e = absurd cc

abbrev NoTree : Context → Operators → ℕ → Type 0
NoTree context operators at = (start : ℕ) (t : PrimitiveTypeInfo) → IsTree context operators start at t → ⊥

module _ (context : Context) (operators : Operators) where
  pub no_nop : (at : ℕ) → NoTree context operators at → (start : ℕ) (m : Made) → Rewrites context operators WithNop start at m → ⊥
  no_nop at none start made.Nop (t, tree) = none start t tree
  no_nop at none start m r = r

  pub no_global : (at : ℕ) → NoTree context operators at → (start : ℕ) (m : Made) → Rewrites context operators ThroughGlobal start at m → ⊥
  no_global at none start (made.Global t g) (tree, number, index, small) = none start t tree
  no_global at none start m r = r

  pub no_number : (at : ℕ) (tree : Tree) → HasTree context operators at tree → false ≡ is_number tree.gives → (start : ℕ) (m : Made) →
      Rewrites context operators ThroughGlobal start at m → ⊥
  no_number at tree has none start (made.Global t g) (is, number, index, small) =
      let same = one_type context operators tree.start start at tree.gives t has.is is in
      false≢true (none ∙ (ap is_number same ∙ number))
  no_number at tree has none start m r = r

  pub is_through : (info : Module) (at count : ℕ) (tree : Tree) → HasTree context operators at tree → true ≡ is_number tree.gives → context.info ≡ info →
      count ≤ 4294967295 → count ≡ length info.globals → Rewrites context operators ThroughGlobal tree.start at (made.Global tree.gives count)
  is_through info at count tree has number same small e =
      (has.is, sym number, e ∙ ap (λ (m : Module). length m.globals) (sym same), (let l : count < 2 ^ 32 = omega (arith, small) in l))

  pub not_forgotten : (at last : ℕ) → last + 1 ≡ at → NoTree context operators last → (start : ℕ) (m : Made) →
      Rewrites context operators Forget start at m → ⊥
  not_forgotten at last e none start made.Nothing f =
      let ends = f.ends in
      let same : f.last ≡ last = omega arith in
      none start f.type (subst (λ k. IsTree context operators start k f.type) same f.tree)
  not_forgotten at last e none start m r = r

  forgotten : (at last : ℕ) (tree : Tree) → last + 1 ≡ at → HasTree context operators last tree → (start : ℕ) → IsForgotten context operators start at →
      (tree.writes ≡ false) × (tree.traps ≡ false)
  forgotten at last tree e has start f =
      let ends = f.ends in
      let same : last ≡ f.last = omega arith in
      subst (λ k. (is : IsTree context operators start k f.type) → writes is.code ≡ false → traps is.code ≡ false →
      (tree.writes ≡ false) × (tree.traps ≡ false)) same does f.tree f.reads f.returns
    where
      does : (is : IsTree context operators start last f.type) → writes is.code ≡ false → traps is.code ≡ false →
          (tree.writes ≡ false) × (tree.traps ≡ false)
      does is w t =
          let code = one_tree context operators tree.start start last tree.gives f.type has.is is in
          (has.writes_is ∙ (ap writes code ∙ w), has.traps_is ∙ (ap traps code ∙ t))

  pub it_writes : (at last : ℕ) (tree : Tree) → last + 1 ≡ at → HasTree context operators last tree → tree.writes ≡ true → (start : ℕ) (m : Made) →
      Rewrites context operators Forget start at m → ⊥
  it_writes at last tree e has w start made.Nothing f = false≢true (sym (forgotten at last tree e has start f).0 ∙ w)
  it_writes at last tree e has w start m r = r

  pub it_traps : (at last : ℕ) (tree : Tree) → last + 1 ≡ at → HasTree context operators last tree → tree.traps ≡ true → (start : ℕ) (m : Made) →
      Rewrites context operators Forget start at m → ⊥
  it_traps at last tree e has w start made.Nothing f = false≢true (sym (forgotten at last tree e has start f).1 ∙ w)
  it_traps at last tree e has w start m r = r

  pub is_forgotten : (at last : ℕ) (tree : Tree) → last + 1 ≡ at → HasTree context operators last tree → HasBare operators at 2 → tree.writes ≡ false →
      tree.traps ≡ false → Rewrites context operators Forget tree.start at made.Nothing
  is_forgotten at last tree e has drops w t = record {
    dropped = drops;
    last = last;
    ends = e;
    type = tree.gives;
    tree = has.is;
    reads = sym has.writes_is ∙ w;
    returns = sym has.traps_is ∙ t;
  }
