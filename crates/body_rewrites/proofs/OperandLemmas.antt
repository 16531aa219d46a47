-- What stands in a hole.
use Rattle.std.proofs.Common.{◌≡◌, ℕ, suc, ◌+◌, ◌-◌, ◌<◌, ◌≤◌, inl, inr, Bool, true, false, List, [], ◌∷◌, length, Option, Some, None, refl}
use Rattle.std.proofs.Common.{sym, ap, subst, ◌∙◌, arith}
use Rattle.std.specs.Prelude.{◌||◌, if◌then◌else◌, slice_get}
use Rattle.std.specs.Option.{option_flatten}
use Rattle.wasm_code.specs.Instruction.{Instruction}
use Rattle.wasm_types.specs.declared.types.PrimitiveTypeInfo.{PrimitiveTypeInfo}
use Rattle.wasm_execution.specs.Values.{Context}
use Rattle.rewrite_rules.specs.declared.pattern.Part.{Part}
use Rattle.rewrite_rules.specs.declared.pattern.Part.TheVariants.{Hole, Constant, Drawn, Apply}
use Rattle.rewrite_rules.specs.Code.{Leaves, writes, traps, asks}
use Rattle.body_rewrites.specs.declared.trees.Tree.{Tree}
use Rattle.body_rewrites.specs.Trees.{tree_after, Stands, IsTree, HasTree, AreTrees}
use Rattle.body_rewrites.specs.Cutting.{HasPart, AreCut}
use Rattle.body_rewrites.specs.Matching.{is_hole, operand_at, operand_code, instructions, operators_in, HaveSameCode}
use Rattle.body_rewrites.specs.Differing.{IsTreeIn}
use Rattle.body_rewrites.specs.Operands.{has_hole, IsOperand, IsOperandOf}
use Rattle.body_rewrites.specs.Places.{IsTreeCode}
use Rattle.body_rewrites.proofs.StandsLemmas.{Operators}
use Rattle.body_rewrites.proofs.CutLemmas.{one_start, no_item}
use Rattle.body_rewrites.proofs.CodeLemmas.{part_ordered}
use Rattle.body_rewrites.proofs.AlikeLemmas.{code_there}
use Rattle.body_rewrites.proofs.AloneLemmas.{one_code}
use Rattle.body_rewrites.proofs.MatchingLemmas.{same_length}
use Rattle.body_rewrites.proofs.LeavesLemmas.{trees_leave}

-- that code stands there, before `end`
pub record StandsIn (operators : Operators) (end : ℕ) (place : ℕ × ℕ) (code : List Instruction) : Type 0 where
  pub ordered : place.0 ≤ place.1
  pub inside : place.1 ≤ end
  pub stands : Stands operators place.0 place.1 code

-- a tree stands there
record HasTreeThere (context : Context) (operators : Operators) (place : ℕ × ℕ) : Type 0 where
  at : ℕ
  gives : PrimitiveTypeInfo
  ends : place.1 ≡ suc at
  is : IsTree context operators place.0 at gives

module _ (context : Context) (operators : Operators) where
  hole_tree : (p : Part) (n start end : ℕ) → is_hole p n ≡ true → HasPart context operators p start end → HasTreeThere context operators (start, end)
  hole_tree (Hole m) n start end e (at, t, ends, tree) = record { at = at; gives = t; ends = ends; is = tree }
  hole_tree (Constant t x) n start end e h = absurd cc
  hole_tree (Drawn t) n start end e h = absurd cc
  hole_tree (Apply o) n start end e h = absurd cc

  -- where the pattern has the hole a tree stands in it
  Told : Bool → ℕ × ℕ → Type 0
  Told true place = HasTreeThere context operators place
  Told false place = place ≡ (0, 0)

  told : (n : ℕ) (ps : List Part) (ks : List ℕ) (end : ℕ) → AreCut context operators ps ks end → Told (has_hole ps n) (operand_at ps ks end n)
  unfolding Told
  told n [] [] end c = refl
  told n [] (k ∷ ks) end c = absurd c
  told n (p ∷ ps) [] end c = absurd c
  told n (p ∷ ps) (k ∷ ks) end (h, c) = go (is_hole p n) refl (told n ps ks k c)
    where
      go : (b : Bool) → is_hole p n ≡ b → Told (has_hole ps n) (operand_at ps ks k n) →
          Told (b || has_hole ps n) (if b then (k, end) else operand_at ps ks k n)
      go true e rest = hole_tree p n k end e h
      go false e rest = rest

  -- of two trees of an operator the code is one
  one_tree : (start at : ℕ) (t : PrimitiveTypeInfo) (tree : Tree) → IsTree context operators start at t → HasTree context operators at tree →
      IsOperand context (instructions (operators_in operators start (suc at))) tree
  one_tree start at t tree is has =
      let same : tree.start ≡ start = one_start context operators tree.start start at tree.gives t has.is is in
      let last : at + 1 ≡ suc at = omega arith in
      let there = subst (λ e. Stands operators start e has.is.code) last (subst (λ s. Stands operators s (at + 1) has.is.code) same has.is.stands) in
      let code : has.is.code ≡ instructions (operators_in operators start (suc at)) = sym (code_there operators start (suc at) has.is.code there) in
      record {
        leaves = subst (λ l. Leaves context l tree.gives) code (trees_leave context operators tree.start at tree.gives has.is);
        writes_is = has.writes_is ∙ ap writes code;
        traps_is = has.traps_is ∙ ap traps code;
        asks_is = has.asks_is ∙ ap asks code;
      }

  -- what the list has for an operator with a tree
  kept : (trees : List (Option Tree)) (start at : ℕ) (t : PrimitiveTypeInfo) → AreTrees context operators trees → IsTree context operators start at t →
      (tree : Tree) × (option_flatten (slice_get trees at) ≡ Some tree) × HasTree context operators at tree
  kept trees start at t a is = go (slice_get trees at) refl
    where
      go : (o : Option (Option Tree)) → slice_get trees at ≡ o →
          (tree : Tree) × (option_flatten (slice_get trees at) ≡ Some tree) × HasTree context operators at tree
      go (Some (Some tree)) e = (tree, ap option_flatten e, a.each at (Some tree) e)
      go (Some None) e = absurd (a.each at None e start t is)
      go None e =
          let past = no_item trees at e in
          let count = a.count in
          let inside = is.inside in
          absurd (omega arith)

  found : (trees : List (Option Tree)) (place : ℕ × ℕ) (o : Option Tree) → AreTrees context operators trees → HasTreeThere context operators place →
      o ≡ option_flatten (slice_get trees (place.1 - 1)) →
      (tree : Tree) × (o ≡ Some tree) × IsOperand context (instructions (operators_in operators place.0 place.1)) tree
  found trees place o a h e =
      let last : place.1 - 1 ≡ h.at = omega (arith, h.ends) in
      let (tree, at, has) = kept trees place.0 h.at h.gives a h.is in (
        tree,
        e ∙ (ap (λ k. option_flatten (slice_get trees k)) last ∙ at),
        subst (λ k. IsOperand context (instructions (operators_in operators place.0 k)) tree) (sym h.ends) (one_tree place.0 h.at h.gives tree h.is has),
      )

  pub none_there : (n : ℕ) (ps : List Part) (ks : List ℕ) (end : ℕ) → (operand_at ps ks end n).1 ≡ 0 → AreCut context operators ps ks end →
      has_hole ps n ≡ false
  unfolding Told
  none_there n ps ks end e c = go (has_hole ps n) refl (told n ps ks end c)
    where
      go : (b : Bool) → has_hole ps n ≡ b → Told b (operand_at ps ks end n) → has_hole ps n ≡ false
      go true k h = absurd (omega (arith, e, h.ends))
      go false k h = k

  pub some_there : (trees : List (Option Tree)) (n : ℕ) (ps : List Part) (ks : List ℕ) (end : ℕ) (o : Option Tree) → 0 < (operand_at ps ks end n).1 →
      o ≡ option_flatten (slice_get trees ((operand_at ps ks end n).1 - 1)) → AreTrees context operators trees → AreCut context operators ps ks end →
      IsOperandOf context operators ps ks end n o
  unfolding Told
  some_there trees n ps ks end o some e a c = go (has_hole ps n) refl (told n ps ks end c)
    where
      go : (b : Bool) → has_hole ps n ≡ b → Told b (operand_at ps ks end n) → IsOperandOf context operators ps ks end n o
      go true k h =
          let (tree, is, operand) = found trees (operand_at ps ks end n) o a h e in
          subst (λ q. IsOperandOf context operators ps ks end n q) (sym is) (k, operand)
      go false k h = absurd (omega (arith, some, ap (λ (q : ℕ × ℕ). q.1) h))

  -- where there is no such hole, nothing stands in it
  pub nothing_there : (n : ℕ) (ps : List Part) (ks : List ℕ) (end : ℕ) → AreCut context operators ps ks end → has_hole ps n ≡ false →
      operand_code operators ps ks end n ≡ []
  unfolding Told
  nothing_there n ps ks end c e =
      let place : operand_at ps ks end n ≡ (0, 0) = subst (λ b. Told b (operand_at ps ks end n)) e (told n ps ks end c) in
      ap (λ (q : ℕ × ℕ). instructions (operators_in operators q.0 q.1)) place

  -- what stands in a hole is a tree
  pub tree_there : (n : ℕ) (ps : List Part) (ks : List ℕ) (end : ℕ) → has_hole ps n ≡ true → AreCut context operators ps ks end →
      IsTreeCode context (operand_code operators ps ks end n)
  unfolding Told
  tree_there n ps ks end e c =
      let h : HasTreeThere context operators (operand_at ps ks end n) = subst (λ b. Told b (operand_at ps ks end n)) e (told n ps ks end c) in
      let last : h.at + 1 ≡ (operand_at ps ks end n).1 = omega (arith, h.ends) in
      let place = operand_at ps ks end n in
      let code = code_there operators place.0 place.1 h.is.code (subst (λ k. Stands operators place.0 k h.is.code) last h.is.stands) in
      (h.gives, subst (λ l. tree_after context l [] ≡ Some (h.gives ∷ [])) (sym code) h.is.typed)

  before_end : (n : ℕ) (ps : List Part) (ks : List ℕ) (end : ℕ) → AreCut context operators ps ks end → (operand_at ps ks end n).1 ≤ end
  before_end n [] [] end c = omega arith
  before_end n [] (k ∷ ks) end c = absurd c
  before_end n (p ∷ ps) [] end c = absurd c
  before_end n (p ∷ ps) (k ∷ ks) end (h, c) =
      let before = part_ordered context operators p k end h in
      go (is_hole p n) (let l = before_end n ps ks k c in omega arith)
    where
      go : (b : Bool) → (operand_at ps ks k n).1 ≤ end → (if b then (k, end) else operand_at ps ks k n).1 ≤ end
      go true l = omega arith
      go false l = l

  -- and its code stands there
  pub operand_stands : (n : ℕ) (ps : List Part) (ks : List ℕ) (end : ℕ) → has_hole ps n ≡ true → AreCut context operators ps ks end →
      StandsIn operators end (operand_at ps ks end n) (operand_code operators ps ks end n)
  unfolding Told
  operand_stands n ps ks end e c =
      let h : HasTreeThere context operators (operand_at ps ks end n) = subst (λ b. Told b (operand_at ps ks end n)) e (told n ps ks end c) in
      let last : h.at + 1 ≡ (operand_at ps ks end n).1 = omega (arith, h.ends) in
      let place = operand_at ps ks end n in
      let there = subst (λ k. Stands operators place.0 k h.is.code) last h.is.stands in
      record {
        ordered = omega (arith, h.ends, h.is.ordered);
        inside = before_end n ps ks end c;
        stands = subst (Stands operators place.0 place.1) (sym (code_there operators place.0 place.1 h.is.code there)) there;
      }

  -- wherever a tree's code stands it is one by the list of trees
  tree_told : (trees : List (Option Tree)) (place : ℕ × ℕ) (start end : ℕ) → AreTrees context operators trees → HasTreeThere context operators place →
      start ≤ end → end ≤ length operators → HaveSameCode operators (start, end) place → IsTreeIn trees start end
  tree_told trees place start end a h l k same =
      let inside = h.is.inside in
      let ordered = h.is.ordered in
      let long = same_length operators (start, end) place k (omega (arith, h.ends, inside)) same in
      let last : end - 1 + 1 ≡ end = omega (arith, h.ends, ordered, long) in
      let ends : h.at + 1 ≡ place.1 = omega (arith, h.ends) in
      let whole = subst (λ m. Stands operators place.0 m h.is.code) ends h.is.stands in
      let code : same.0 ≡ h.is.code = one_code operators place.0 place.1 same.0 h.is.code same.2 whole in
      let is : IsTree context operators start (end - 1) h.gives = record {
        inside = omega (arith, last, k);
        ordered = omega (arith, h.ends, ordered, long);
        code = h.is.code;
        stands = subst (Stands operators start (end - 1 + 1)) code (subst (λ m. Stands operators start m same.0) (sym last) same.1);
        typed = h.is.typed;
      } in
      let (tree, at, has) = kept trees start (end - 1) h.gives a is in
      inr (tree, at, one_start context operators tree.start start (end - 1) tree.gives h.gives has.is is)

  -- so it is with what stands in a hole
  pub operand_told : (trees : List (Option Tree)) (n : ℕ) (ps : List Part) (ks : List ℕ) (end : ℕ) → AreTrees context operators trees →
      AreCut context operators ps ks end → (start behind : ℕ) → start ≤ behind → behind ≤ length operators →
      HaveSameCode operators (start, behind) (operand_at ps ks end n) → IsTreeIn trees start behind
  unfolding Told
  operand_told trees n ps ks end a c start behind l k same = go (has_hole ps n) (operand_at ps ks end n) (told n ps ks end c) same
    where
      go : (b : Bool) (place : ℕ × ℕ) → Told b place → HaveSameCode operators (start, behind) place → IsTreeIn trees start behind
      go true place h same = tree_told trees place start behind a h l k same
      go false place h same = inl (
          let e : place.0 ≡ 0 = ap (λ (q : ℕ × ℕ). q.0) h in
          let f : place.1 ≡ 0 = ap (λ (q : ℕ × ℕ). q.1) h in
          let long = same_length operators (start, behind) place k (omega (arith, f)) same in
          omega (arith, e, f, long, l))
