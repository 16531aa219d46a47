-- Whether all entries of a tree of a graph have one colour, told by the tree.
use Rattle.std.proofs.Common.{◌≡◌, ℕ, ◌+◌, ◌-◌, ◌<◌, inl, inr, Bool, true, List, [], ◌∷◌, length, refl, sym, ap, ap₂, ◌∙◌, arith}
use Rattle.std.specs.Prelude.{◌&&◌, ◌==◌, is_some}
use Rattle.std.specs.List.{All, flat_map}
use Rattle.std.proofs.Math.Bool.{and-true, and-false}
use Rattle.std.proofs.lemmas.Bool.{ne_eqb}
use Rattle.std.proofs.lemmas.Bool.Decides.{Decides-at}
use Rattle.std.proofs.lemmas.List.Elements.{All-head, All-tail}
use Rattle.std.proofs.lemmas.Option.{slice_get_within}
use Rattle.peephole_lang.specs.Node.{instr_of, children_of}
use Rattle.peephole_graphs.specs.Tree.{Tree}
use Rattle.peephole_graphs.specs.Color.{color_at}
use Rattle.peephole_graphs.specs.Downwards.{Kin, downwards, kin_at}
use Rattle.peephole_graphs.specs.Measures.{are_colored}
use Rattle.peephole_graphs.specs.Graph.{trees_at}
use Rattle.peephole_graphs.specs.Source.{Source, shapes_in}
use Rattle.peephole_graphs.specs.Entries.{Graph, kins_of, entry_tree}
use Rattle.peephole_graphs.specs.GraphOf.{IsGraphOf}
use Rattle.peephole_graphs.specs.Shown as test
use Rattle.peephole_graphs.specs.Shown.{is_colored, has_one_color, ShowsTheColor}
use Rattle.peephole_graphs.proofs.graph.Sizes.{colored_append}
use Rattle.peephole_graphs.proofs.graph.ForwardOrder.{color_small}
use Rattle.peephole_graphs.proofs.BuilderLemmas.{block_length}
use Rattle.peephole_graphs.proofs.DfgLemmas.{decides_colored}
use Rattle.peephole_graphs.proofs.graph.GraphOfLemmas.{undef_instr}
use Rattle.peephole_graphs.proofs.graph.EntryTreeLemmas.{own_tree, entry_operand, by_children, down_is, kin_is, last_tree}

kids_colored : (xs : List Kin) (color : ℕ → ℕ) (c : ℕ) (g : ℕ → Tree) (is : List ℕ) →
    All (λ k. are_colored xs c (downwards xs k) ≡ is_colored color c (g k)) is →
    are_colored xs c (flat_map (downwards xs) is) ≡ test.trees_are_colored color c (trees_at g is)
kids_colored xs color c g [] h = refl
kids_colored xs color c g (i ∷ is) h =
    let P : ℕ → Type 0 = λ k. are_colored xs c (downwards xs k) ≡ is_colored color c (g k) in
    colored_append xs c (downwards xs i) (flat_map (downwards xs) is)
    ∙ ap₂ (λ a b. a && b) (All-head P i is h) (kids_colored xs color c g is (All-tail P i is h))

-- ---- entry by entry

module _ (source : Source) (given : Graph) (h : IsGraphOf source given) where
  abbrev kins : List Kin
  kins = kins_of given.entries

  abbrev color : ℕ → ℕ
  color = color_at source.preserving (shapes_in source)

  colored_at : (c : ℕ) → c < 4294967295 → (i : ℕ) → i < length given.entries →
      are_colored kins c (downwards kins i) ≡ is_colored color c (entry_tree source given i)
  colored_at c l = by_children given h.forest_is (λ i. are_colored kins c (downwards kins i) ≡ is_colored color c (entry_tree source given i)) (λ i e s kids.
      let cs = children_of e.operator in
      let all = kids_colored kins color c (entry_tree source given) cs kids in
      let known = h.entry i e s in
      let number = known.2 in
      let own : Bool → Bool = λ b. are_colored kins c (flat_map (downwards kins) cs) && (b && true) in
      ap (are_colored kins c) (down_is given h.forest_is i e s) ∙ (colored_append kins c (flat_map (downwards kins) cs) (i ∷ [])
      ∙ (ap (λ (x : Kin). own (x.color == c)) (kin_is given.entries i e s) ∙ elim known.3 [
        | inl (instr, offset, there, is, painted) ↦
            let same : known.0 ≡ e.operator_idx - source.first = omega arith in
            ap₂ (λ a b. a && b) all (and-true (e.color == c) ∙ ap (λ k. k == c) (painted ∙ ap color same))
            ∙ sym (ap (is_colored color c) (own_tree source given h.forest_is i e instr s is))
        | inr m ↦
            let painted = m.1 in
            ap own (ne_eqb e.color c (λ w. omega arith))
            ∙ (and-false (are_colored kins c (flat_map (downwards kins) cs)) ∙ sym (ap (is_colored color c) (entry_operand source given i e s m.0).1))
      ])))

-- ---- the last tree

pub shows_the_color : ShowsTheColor
shows_the_color source given h n e =
    let m = length given.entries - 1 in
    let c = color_at source.preserving (shapes_in source) in
    let ks = kins_of given.entries in
    let own = (h.finds (source.first + n) m).0 (h.last n e).0 in
    let known = h.entry m own.0 own.1 in
    let inside = known.1 in
    let number = known.2 in
    let many = block_length source.info source.operators h.fit in
    let k = own.0.operator_idx - source.first in
    let decided = decides_colored ks (kin_at ks m).color (downwards ks m) in
    elim known.3 [
      | inl (instr, offset, there, is, painted) ↦
          let same : known.0 ≡ k = omega arith in
          let small = color_small source.preserving (shapes_in source) k h.small (omega arith) in
          let here = own_tree source given h.forest_is m own.0 instr own.1 is in
          let painted_kin : (kin_at ks m).color ≡ c k = ap (λ (x : Kin). x.color) (kin_is given.entries m own.0 own.1) ∙ (painted ∙ ap c same) in
          Decides-at _ _ (ap (has_one_color c) (last_tree source given h n e ∙ here) ∙ (sym (ap (is_colored c (c k)) here)
          ∙ (sym (colored_at source given h (c k) small m (slice_get_within given.entries m own.0 own.1))
          ∙ ap (λ x. are_colored ks x (downwards ks m)) (sym painted_kin)))) decided
      | inr missing ↦ let none = sym (ap (λ o. is_some (instr_of o)) missing.0 ∙ ap is_some undef_instr) ∙ own.3 in absurd cc
    ]
