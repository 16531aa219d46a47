-- What was built is the graph that is answered.
use Rattle.std.proofs.Common.{Bool, ◌≡◌, ℕ, Option, Ok, Some, IfOk, IfSome, refl, sym, subst, ap₂, slice_range, MatchOption}
use Rattle.std.proofs.Common.{Result, arith}
use Rattle.std.specs.Prelude.{IsTrue}
use Rattle.peephole_graphs.specs.Contiguous.{HasContiguousTrees}
use Rattle.std.proofs.lemmas.Grind.{common_steps}
use Rattle.mutate_base.specs.declared.error.Error.{Error}
use Rattle.peephole_graphs.specs.declared.dfg.MiniDFG.{MiniDFG}
use Rattle.peephole_graphs.specs.declared.growing.Growing.{Growing}
use Rattle.peephole_graphs.specs.Source.{Source}
use Rattle.peephole_graphs.specs.Dfg.{Graph, graph_of}
use Rattle.peephole_graphs.specs.GraphOf.{IsGraphOf, HasNoGraph}
use Rattle.peephole_graphs.specs.Building.{HasGrown, graph_in}
use Rattle.peephole_graphs.proofs.graph.LayoutTrees.{has_trees}
use Rattle.peephole_graphs.proofs.builder.DFGBuilder.get_dfg.Goals.{in-None, in-Some}
use Rattle.peephole_graphs.proofs.builder.DFGBuilder.get_dfg.Goals as goal

abbrev Answers : Source → Result (Option MiniDFG) Error → Type 0
Answers s r = IfOk r (λ o. IfSome o (λ g. IsGraphOf s (graph_of g)))

has_grown : (s : Source) (o : Option Growing) (g : Growing) → MatchOption o (HasNoGraph s) (HasGrown s) → o ≡ Some g → HasGrown s g
has_grown s o g h e = subst (λ x. MatchOption x (HasNoGraph s) (HasGrown s)) e h

some_is : (s t : Source) (o : Option Growing) (g : Growing) (d : MiniDFG) (r : Result (Option MiniDFG) Error) →
    MatchOption o (HasNoGraph s) (HasGrown s) → o ≡ Some g → s ≡ t → graph_of d ≡ graph_in g → r ≡ Ok (Some d) → Answers t r
some_is s t o g d r h e same is w = subst (Answers t) (sym w) (subst (λ x. IsGraphOf x (graph_of d)) same
    (subst (IsGraphOf s) (sym is) (has_grown s o g h e).graph))

same_graph : (g h : Graph) → ((k : ℕ) → g.own_entry k ≡ h.own_entry k) → g.entries ≡ h.entries → g.parents ≡ h.parents → g ≡ h
same_graph g h m e p = λ i. record { entries = e i; parents = p i; own_entry = λ k. m k i }

same_source : (s t : Source) → s.info ≡ t.info → s.preserving ≡ t.preserving → s.first ≡ t.first → s.operators ≡ t.operators → s ≡ t
same_source s t a b c d = λ i. record { info = a i; preserving = b i; first = c i; operators = d i }

pub returns-clause-graph : goal.returns-clause-graph
returns-clause-graph c = elim c.match-growing.branch [
  | in-None w ↦ rw w.result-is tt
  | in-Some w ↦ some_is _ _ c.in_ok-growing.growing w.in-Some.growing w.of_parts.result _ c.in_ok-growing.ensures w.in-Some.is
      (same_source _ _ refl (grind (arith, common_steps)) c.range-range.ensures.start
      (ap₂ (slice_range c.args.operators.now) c.range-range.ensures.start c.range-range.ensures.end))
      (same_graph _ _ w.of_parts.ensures.map w.of_parts.ensures.entries w.of_parts.ensures.parents) w.result-is
]

are_contiguous : (s : Source) (on : Bool) (o : Option Growing) (g : Growing) (d : MiniDFG) (r : Result (Option MiniDFG) Error) →
    MatchOption o (HasNoGraph s) (HasGrown s) → o ≡ Some g → s.preserving ≡ on → (graph_of d).entries ≡ g.entries.items → r ≡ Ok (Some d) → IsTrue on →
    IfOk r (λ o. IfSome o (λ g. HasContiguousTrees (graph_of g).entries))
are_contiguous s on o g d r h e same is w on_is = subst (λ x. IfOk x (λ o. IfSome o (λ g. HasContiguousTrees (graph_of g).entries))) (sym w)
    (subst HasContiguousTrees (sym is) ((has_grown s o g h e).contiguous (subst IsTrue (sym same) on_is)))

pub returns-clause-contiguous : goal.returns-clause-contiguous
returns-clause-contiguous c = elim c.match-growing.branch [
  | in-None w ↦ λ on. rw w.result-is tt
  | in-Some w ↦ are_contiguous _ _ c.in_ok-growing.growing w.in-Some.growing w.of_parts.result _ c.in_ok-growing.ensures w.in-Some.is
      (grind (arith, common_steps)) w.of_parts.ensures.entries w.result-is
]

pub of_parts-requires-clause-trees : goal.of_parts-requires-clause-trees
of_parts-requires-clause-trees c = has_trees _ (graph_in c.in-Some.growing)
    (has_grown _ c.in_ok-growing.growing c.in-Some.growing c.in_ok-growing.ensures c.in-Some.is).graph

pub of_parts-requires-clause-forest : goal.of_parts-requires-clause-forest
of_parts-requires-clause-forest c = (has_grown _ c.in_ok-growing.growing c.in-Some.growing c.in_ok-growing.ensures c.in-Some.is).graph.forest_is

pub of_parts-requires-clause-lies : goal.of_parts-requires-clause-lies
of_parts-requires-clause-lies c = (has_grown _ c.in_ok-growing.growing c.in-Some.growing c.in_ok-growing.ensures c.in-Some.is).lies
