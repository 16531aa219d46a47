-- What a reader of a graph needs of its entries, its parents and its roots.
use Rattle.std.proofs.Common.{◌≡◌, ℕ, ◌<◌, List, [], ◌∷◌, ◌++◌, length, get_or, Option, None, Some, ap, ◌∙◌}
use Rattle.std.specs.Prelude.{reverse}
use Rattle.std.specs.List.{All}
use Rattle.std.proofs.lemmas.List.{length-reverse, reverse-append}
use Rattle.peephole_lang.specs.Node.{children_of}
use Rattle.peephole_graphs.specs.declared.dfg.StackEntry.{StackEntry}
use Rattle.peephole_graphs.specs.Forest.{has}
use Rattle.peephole_graphs.specs.Graph.{GraphEntry, roots}
use Rattle.peephole_graphs.specs.Entries.{roots_of, Graph}
use Rattle.peephole_graphs.specs.GraphOf.{IsGraphOf}
use Rattle.peephole_graphs.proofs.Lists.{all_has}
use Rattle.peephole_graphs.proofs.GrowingLemmas.{reverse_push}
use Rattle.peephole_graphs.proofs.DfgLemmas.{entry_seen}
use Rattle.peephole_graphs.proofs.graph.GraphOfLemmas.{represents}
use Rattle.peephole_graphs.specs.Source.{Source}

-- the roots, parent by parent
pub roots_root : (ps : List (Option ℕ)) → roots_of (ps ++ None ∷ []) ≡ roots_of ps ++ length ps ∷ []
roots_root ps = ap (λ x. reverse (roots x)) (reverse_push ps None) ∙
    (reverse-append (length (reverse ps) ∷ []) (roots (reverse ps)) ∙ ap (λ n. roots_of ps ++ n ∷ []) (length-reverse ps))

pub roots_child : (ps : List (Option ℕ)) (p : ℕ) → roots_of (ps ++ Some p ∷ []) ≡ roots_of ps
roots_child ps p = ap (λ x. reverse (roots x)) (reverse_push ps (Some p))

-- children stand below
pub children_below : (source : Source) (given : Graph) → IsGraphOf source given →
    (i : ℕ) (d : StackEntry) → i < length given.entries → All (λ c. c < i) (children_of (get_or given.entries i d).operator)
children_below source given h i d l = all_has (λ c. c < i) (children_of (get_or given.entries i d).operator)
    (λ c w. ((represents source given h).block_graph.parent i c (ap (λ (e : GraphEntry). has c e.children)
    (entry_seen source.info source.first given.entries i d l) ∙ w)).1)
