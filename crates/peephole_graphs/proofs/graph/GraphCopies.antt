-- A copy of a block's graph is a graph of the block.
use Rattle.std.proofs.Common.{◌≡◌, ℕ, ◌+◌, ◌<◌, inl, inr, List, length, get_or, map, Option, Some, sym, ap, ap₂, ◌∙◌, subst, arith}
use Rattle.std.specs.Prelude.{reverse, slice_get, is_some}
use Rattle.std.specs.List.{AllZip}
use Rattle.std.proofs.lemmas.List.Elements.{AllZip-get_or, length_all_zip}
use Rattle.std.proofs.lemmas.Option.{slice_get-get_or, slice_get_within, get_or_from_slice_get}
use Rattle.peephole_nodes.specs.declared.id.Id.{Id}
use Rattle.peephole_lang.specs.declared.lang.Head.{Head}
use Rattle.peephole_lang.specs.declared.lang.Lang.{Lang}
use Rattle.peephole_lang.specs.declared.lang.Lang.TheVariants.{Undef}
use Rattle.peephole_lang.specs.Equal.{IsEqual}
use Rattle.peephole_lang.specs.Lang.{ids_of}
use Rattle.peephole_lang.specs.Node.{head_of, instr_of_head}
use Rattle.peephole_lang.specs.Term.{numbers_of}
use Rattle.peephole_lang.specs.laws.Again.{determined}
use Rattle.peephole_graphs.specs.declared.dfg.MiniDFG.{MiniDFG}
use Rattle.peephole_graphs.specs.declared.dfg.StackEntry.{StackEntry}
use Rattle.peephole_graphs.specs.Dfg.{graph_of, IsSameEntry, IsSameGraph}
use Rattle.peephole_graphs.specs.Entries.{EntryView, entry_view, graph_entry, roots_of}
use Rattle.peephole_graphs.specs.Forest.{has}
use Rattle.peephole_graphs.specs.Graph.{tree_at_entry, trees_at}
use Rattle.peephole_graphs.specs.GraphOf.{IsStackEntryOf, IsGraphOf, IsMissing, IsOperator}
use Rattle.peephole_graphs.specs.Source.{Source}
use Rattle.peephole_graphs.specs.Tree.{Trees}
use Rattle.peephole_graphs.proofs.graph.EntryCopies.{copied_forest, map_same}

-- ---- entries

turned : (e f : StackEntry) → IsSameEntry e f → IsSameEntry f e
turned e f h = ((sym h.0.0, sym h.0.1), sym h.1, sym h.2)

is_undef : (l : Lang) → IsEqual Undef l → l ≡ Undef
unfolding IsEqual
is_undef l e = sym e

missing_same : (e f : StackEntry) → IsSameEntry e f → IsMissing e → IsMissing f
missing_same e f h m = (
  is_undef f.operator (determined Undef f.operator (sym (h.0.0 ∙ ap head_of m.0)) (sym (h.0.1 ∙ ap ids_of m.0))),
  h.1 ∙ m.1,
)

operator_same : (s : Source) (n : ℕ) (e f : StackEntry) → IsSameEntry e f → IsOperator s n e → IsOperator s n f
operator_same s n e f h (i, at, there, instr, color) = (i, at, there, ap instr_of_head h.0.0 ∙ instr, h.1 ∙ color)

entry_same : (s : Source) (e f : StackEntry) → IsSameEntry e f → IsStackEntryOf s e → IsStackEntryOf s f
entry_same s e f h (n, l, at, inl own) = (n, l, h.2 ∙ at, inl (operator_same s n e f h own))
entry_same s e f h (n, l, at, inr missing) = (n, l, h.2 ∙ at, inr (missing_same e f h missing))

view_same : (e f : StackEntry) → IsSameEntry e f → entry_view f ≡ entry_view e
view_same e f h =
    let seen : Head → List Id → ℕ → ℕ → EntryView = λ head ids operator color. record {
      instr = instr_of_head head;
      children = numbers_of ids;
      operator = operator;
      color = color;
    } in
    λ i. seen (h.0.0 i) (h.0.1 i) (h.2 i) (h.1 i)

-- ---- entries of a list and of its copy

record IsMadeFrom (es : List StackEntry) (i : ℕ) (f : StackEntry) : Type 0 where
  entry : StackEntry
  there : slice_get es i ≡ Some entry
  same : IsSameEntry entry f

module _ (es fs : List StackEntry) (h : AllZip IsSameEntry es fs) where
  made_from : (i : ℕ) (f : StackEntry) → slice_get fs i ≡ Some f → IsMadeFrom es i f
  made_from i f w =
      let n = length_all_zip IsSameEntry es fs h in
      let within = slice_get_within fs i f w in
      let inside : i < length es = omega arith in
      record {
        entry = get_or es i f;
        there = slice_get-get_or es i f inside;
        same = subst (IsSameEntry (get_or es i f)) (get_or_from_slice_get fs i f f w) (AllZip-get_or IsSameEntry es fs i f f h inside);
      }

  copied_to : (i : ℕ) (e : StackEntry) → slice_get es i ≡ Some e → IsMadeFrom fs i e
  copied_to i e w =
      let n = length_all_zip IsSameEntry es fs h in
      let inside = slice_get_within es i e w in
      let same = AllZip-get_or IsSameEntry es fs i e e h inside in
      record {
        entry = get_or fs i e;
        there = slice_get-get_or fs i e (omega arith);
        same = turned e (get_or fs i e) (subst (λ (x : StackEntry). IsSameEntry x (get_or fs i e)) (get_or_from_slice_get es i e e w) same);
      }

-- ---- graphs

pub copy_has_the_block : (s : Source) (g h : MiniDFG) → IsSameGraph g h → IsGraphOf s (graph_of g) → IsGraphOf s (graph_of h)
copy_has_the_block s g h c is =
    let es = (graph_of g).entries in
    let fs = (graph_of h).entries in
    let n = length_all_zip IsSameEntry es fs c.entries in
    let parents = c.parents in
    let seen : map entry_view fs ≡ map entry_view es = map_same entry_view view_same es fs c.entries in
    let forest_by : List EntryView → List (Option ℕ) → Trees = λ views parents.
    trees_at (tree_at_entry (reverse (map (graph_entry s.info s.first) views))) (roots_of parents) in
    record {
      fit = is.fit;
      small = is.small;
      forest_is = copied_forest es fs c.entries (graph_of g).parents (graph_of h).parents parents is.forest_is;
      trees = ap₂ forest_by seen parents ∙ is.trees;
      entry = λ i f w. let from = made_from es fs c.entries i f w in
          entry_same s from.entry f from.same (is.entry i from.entry from.there);
      taker = λ p i e d we wd child missing.
          let d' = made_from es fs c.entries i d wd in
          let e' = made_from es fs c.entries p e we in
          d'.same.2 ∙ (is.taker p i e'.entry d'.entry e'.there d'.there
          (ap (λ ids. has i (numbers_of ids)) (sym e'.same.0.1) ∙ child) (missing_same d d'.entry (turned d'.entry d d'.same) missing) ∙ sym e'.same.2);
      order = λ i j d e l wd we.
          let d' = made_from es fs c.entries i d wd in
          let e' = made_from es fs c.entries j e we in
          let rises = is.order i j d'.entry e'.entry l d'.there e'.there in
          let p = d'.same.2 in
          let q = e'.same.2 in
          omega arith;
      finds = λ k i. (
        λ w.
            let own = (is.finds k i).0 (sym (c.map k) ∙ w) in
            let f = copied_to es fs c.entries i own.0 own.1 in
            (f.entry, f.there, sym f.same.2 ∙ own.2, ap (λ (x : Head). is_some (instr_of_head x)) (sym f.same.0.0) ∙ own.3),
        λ own.
            let e = made_from es fs c.entries i own.0 own.1 in
            c.map k ∙ (is.finds k i).1
            (e.entry, e.there, sym e.same.2 ∙ own.2, ap (λ (x : Head). is_some (instr_of_head x)) (sym e.same.0.0) ∙ own.3),
      );
      keys = λ n l. ap is_some (c.map (s.first + n)) ∙ is.keys n l;
      last = λ m e.
          let l = is.last m e in
          rw (sym n, c.map (s.first + m), parents) l;
    }
