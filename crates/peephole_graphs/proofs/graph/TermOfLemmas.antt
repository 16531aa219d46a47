-- The term of an entry stands for the entry's tree.
use Rattle.std.proofs.Common.{◌≡◌, ℕ, suc, ◌+◌, ◌<◌, inl, inr, List, [], ◌∷◌, length, Some, refl, sym, ap, ap₂, subst, ◌∙◌}
use Rattle.std.specs.Prelude.{slice_get}
use Rattle.std.specs.List.{All}
use Rattle.std.proofs.lemmas.List.Elements.{All-head, All-tail}
use Rattle.peephole_lang.specs.Lang.{ids_of}
use Rattle.peephole_lang.specs.declared.lang.Head.{Head}
use Rattle.peephole_lang.specs.declared.lang.Lang.{Lang}
use Rattle.peephole_lang.specs.Node.{head_of, children_of}
use Rattle.peephole_lang.specs.Term as term
use Rattle.peephole_lang.specs.Term.{Term, Terms, no_terms, ◌▸◌, node, pick, tree_at}
use Rattle.peephole_graphs.specs.declared.dfg.StackEntry.{StackEntry}
use Rattle.peephole_graphs.specs.Tree as tree
use Rattle.peephole_graphs.specs.Tree.{Tree, Trees, no_trees, full_size_of, full_size}
use Rattle.peephole_graphs.specs.Graph.{trees_at}
use Rattle.peephole_graphs.specs.Source.{Source}
use Rattle.peephole_graphs.specs.Entries.{Graph, entry_tree}
use Rattle.peephole_graphs.specs.GraphOf.{IsGraphOf}
use Rattle.peephole_graphs.specs.Layout.{entry_nodes, node_count_of, node_count}
use Rattle.peephole_graphs.specs.TermOf.{IsTermOf, AreTermsOf, HasTermsOfTrees}
use Rattle.peephole_graphs.proofs.BuilderLemmas.{shape_instr}
use Rattle.peephole_graphs.proofs.graph.GraphLemmas.{children_below}
use Rattle.peephole_graphs.proofs.graph.EntryTreeLemmas.{own_tree, entry_operand, by_children, nodes_below, term_at}

picked_terms : (f : ℕ → Term Head) (g : ℕ → Tree) (is : List ℕ) → All (λ k. IsTermOf (f k) (g k)) is → AreTermsOf (pick f is) (trees_at g is)
picked_terms f g [] h = tt
picked_terms f g (i ∷ is) h =
    let P : ℕ → Type 0 = λ k. IsTermOf (f k) (g k) in (All-head P i is h, picked_terms f g is (All-tail P i is h))

-- of the same term and the same tree
both : {t t' : Term Head} {u u' : Tree} → t ≡ t' → u ≡ u' → IsTermOf t' u' → IsTermOf t u
both {t} {t'} {u} {u'} e d h = subst (λ x. IsTermOf x u) (sym e) (subst (λ x. IsTermOf t' x) (sym d) h)

module _ (source : Source) (given : Graph) (h : IsGraphOf source given) where
  abbrev pub at : ℕ → Term Head
  at = tree_at (entry_nodes given.entries)

  pub term_of_entry : (i : ℕ) (e : StackEntry) → slice_get given.entries i ≡ Some e → at i ≡ node (head_of e.operator) (pick at (children_of e.operator))
  term_of_entry = term_at (λ (e : StackEntry). head_of e.operator) given.entries
      (nodes_below (λ (e : StackEntry). head_of e.operator) given.entries (children_below source given h))

  pub terms_of_trees : (i : ℕ) → i < length given.entries → IsTermOf (at i) (entry_tree source given i)
  unfolding ids_of
  terms_of_trees = by_children given h.forest_is (λ i. IsTermOf (at i) (entry_tree source given i)) (λ i e s kids. elim (h.entry i e s).3 [
    | inl (instr, offset, there, is, color) ↦ both (term_of_entry i e s) (own_tree source given h.forest_is i e instr s is) (
      is ∙ ap Some (sym (shape_instr source.info instr)),
      picked_terms at (entry_tree source given) (children_of e.operator) kids,
    )
    | inr (missing, color) ↦ both (term_of_entry i e s) (entry_operand source given i e s missing).1
        (ap (λ (l : Lang). node (head_of l) (pick at (children_of l))) missing)
  ])

pub has_terms_of_trees : HasTermsOfTrees
has_terms_of_trees source given h i l = terms_of_trees source given h i l

-- ---- how many nodes a term has

mutual
  pub same_size : (t : Term Head) (u : Tree) → IsTermOf t u → node_count_of t ≡ full_size_of u
  same_size t (tree.entry m) h = ap node_count_of h
  same_size term.absent (tree.node i s kids) h = absurd h
  same_size (node g ts) (tree.node i s kids) h = ap suc (same_sizes ts kids h.1)

  same_sizes : (ts : Terms Head) (us : Trees) → AreTermsOf ts us → node_count ts ≡ full_size us
  same_sizes no_terms no_trees h = refl
  same_sizes no_terms (tree.◌▸◌ u us) h = absurd h
  same_sizes (t ▸ ts) no_trees h = absurd h
  same_sizes (t ▸ ts) (tree.◌▸◌ u us) h = ap₂ (λ x y. x + y) (same_size t u h.0) (same_sizes ts us h.1)
