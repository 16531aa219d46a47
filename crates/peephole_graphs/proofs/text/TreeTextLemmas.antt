-- The text of a graph is that of its forest.
use Rattle.std.proofs.Common.{◌≡◌, ℕ, ◌+◌, ◌-◌, ◌<◌, ◌≤◌, inl, inr, Bool, true, false, List, [], ◌∷◌, ◌++◌, length, get_or, refl, sym, ap, ap₂, subst, ◌∙◌}
use Rattle.std.proofs.Common.{arith, append_assoc, Some}
use Rattle.std.specs.Prelude.{codes, slice_get}
use Rattle.std.specs.List.{All}
use Rattle.std.proofs.lemmas.List.{append-nil}
use Rattle.std.proofs.lemmas.List.Elements.{All-head, All-tail, All-weaker}
use Rattle.std.proofs.lemmas.Option.{get_or_from_slice_get}
use Rattle.wasm_code.specs.Instruction.{Instruction}
use Rattle.peephole_nodes.specs.Payload.{imm_of}
use Rattle.peephole_nodes.specs.PayloadText.{payload_text}
use Rattle.peephole_nodes.specs.Text.{variant_name_in}
use Rattle.peephole_nodes.specs.Variants.{variants, variant_at}
use Rattle.peephole_nodes.specs.laws.PayloadLemmas.{imm_back}
use Rattle.peephole_nodes.specs.laws.VariantLemmas.{has_variant}
use Rattle.peephole_lang.specs.Lang.{place_of, payload_of, variant_child_count}
use Rattle.peephole_lang.specs.Node.{head_of, instr_of, instr_of_head, children_of}
use Rattle.peephole_lang.specs.Term.{Term, node, pick}
use Rattle.peephole_lang.specs.Text.{text_of}
use Rattle.peephole_lang.specs.declared.lang.Head.{Head}
use Rattle.peephole_lang.specs.declared.lang.Lang.{Lang}
use Rattle.peephole_lang.specs.declared.lang.Lang.TheVariants.{Undef}
use Rattle.peephole_lang.specs.laws.Fits.{fits_own}
use Rattle.peephole_graphs.specs.declared.dfg.StackEntry.{StackEntry}
use Rattle.peephole_graphs.specs.Shape.{Shape}
use Rattle.peephole_graphs.specs.Tree as tree
use Rattle.peephole_graphs.specs.Tree.{Tree, Trees, no_trees, ◌▸◌, join}
use Rattle.peephole_graphs.specs.Forest.{is_operand, trees, operator_tree, trees_without, forest}
use Rattle.peephole_graphs.specs.Color.{color_at}
use Rattle.peephole_graphs.specs.Graph as graph
use Rattle.peephole_graphs.specs.Growing.{undef_entry}
use Rattle.peephole_graphs.specs.Source.{Source, shapes_in}
use Rattle.peephole_graphs.specs.Entries.{Graph, instruction_shape_of, roots_of, entry_tree}
use Rattle.peephole_graphs.specs.ForestText.{EntryLine, line_text, is_followed, branch, edge, tree_lines, child_lines, root_lines, default_lines, entry_text}
use Rattle.peephole_graphs.specs.ForestText as shown
use Rattle.peephole_graphs.specs.GraphOf.{IsGraphOf, IsMissing}
use Rattle.peephole_graphs.specs.Shown.{ShowsTheForest}
use Rattle.peephole_graphs.specs.TreeText.{written_payload, variant_text, instruction_text, are_some, tree_text, operands_text, trees_text}
use Rattle.peephole_graphs.proofs.BuilderLemmas.{shape_instr}
use Rattle.peephole_graphs.proofs.graph.GraphOfLemmas.{undef_children}
use Rattle.peephole_graphs.proofs.graph.GraphLemmas.{children_below}
use Rattle.peephole_graphs.proofs.Lists.{has_itself}
use Rattle.peephole_graphs.proofs.graph.EntryTreeLemmas.{own_tree, entry_operand, by_children, nodes_below, term_at, roots_below}

-- ---- the text of an instruction

-- a place and a payload whose instruction is `i`
record IsHeadOf (h : Head) (i : Instruction) : Type 0 where
  place : 12 + i.row ≡ h.place
  imm : imm_of h.payload ≡ i.imm

head_of_instr : (h : Head) (i : Instruction) → instr_of_head h ≡ Some i → IsHeadOf h i
head_of_instr h i e = record { place = grind arith; imm = grind arith }

node_text : (l : Lang) (i : Instruction) → instr_of l ≡ Some i → text_of l ≡ instruction_text i
node_text l i e =
    let own = has_variant (place_of l) (payload_of l) (variant_child_count l) (fits_own l) in
    let h = head_of_instr (head_of l) i e in
    let v = own.variant in
    ap (λ o. variant_name_in o ++ payload_text (payload_of l)) own.at
    ∙ (ap (λ o. v.name ++ written_payload o) (sym (imm_back v.payload (payload_of l) own.kind))
    ∙ sym (ap₂ variant_text (ap variant_at h.place ∙ own.at) (sym h.imm)))

undef_text : text_of Undef ≡ codes "undef"
unfolding place_of payload_of variants
undef_text = refl

-- ---- the lines of a tree

lines_append : (xs ys : List EntryLine) → default_lines (xs ++ ys) ≡ default_lines xs ++ default_lines ys
lines_append [] ys = refl
lines_append (l ∷ ls) ys =
    let own = l.prefix ++ entry_text l.entry (text_of l.entry.operator) in
    ap (λ t. own ++ t) (lines_append ls ys) ∙ sym (append_assoc own (default_lines ls) (default_lines ys))

-- an entry and a tree have the same lines
abbrev Shows : (ℕ → ℕ) → ℕ → ℕ → Term StackEntry → Tree → Type 0
Shows color first taker t u = (prefix inner : List ℕ) → default_lines (tree_lines prefix inner t) ≡ tree_text color first prefix inner taker u

followed : (f : ℕ → Term StackEntry) (g : ℕ → Tree) (is : List ℕ) → is_followed (pick f is) ≡ are_some (graph.trees_at g is)
followed f g [] = refl
followed f g (i ∷ is) = refl

kids_shown : (color : ℕ → ℕ) (first taker : ℕ) (f : ℕ → Term StackEntry) (g : ℕ → Tree) (is : List ℕ) →
    All (λ k. Shows color first taker (f k) (g k)) is → (inner : List ℕ) →
    default_lines (child_lines inner (pick f is)) ≡ operands_text color first inner taker (graph.trees_at g is)
kids_shown color first taker f g [] h inner = refl
kids_shown color first taker f g (i ∷ is) h inner =
    let P : ℕ → Type 0 = λ k. Shows color first taker (f k) (g k) in
    let b = is_followed (pick f is) in
    let lines : Bool → List ℕ = λ c. tree_text color first (inner ++ branch c) (inner ++ edge c) taker (g i) in
    lines_append (tree_lines (inner ++ branch b) (inner ++ edge b) (f i)) (child_lines inner (pick f is))
    ∙ ap₂ (λ x y. x ++ y) (All-head P i is h (inner ++ branch b) (inner ++ edge b) ∙ ap lines (followed f g is))
    (kids_shown color first taker f g is (All-tail P i is h) inner)

-- ---- the trees of the entries

-- An entry's lines are those of its tree, as an operand of `taker` if it is a missing operand.
module _ (source : Source) (given : Graph) (h : IsGraphOf source given) where
  abbrev color : ℕ → ℕ
  color = color_at source.preserving (shapes_in source)

  abbrev seen_term : ℕ → Term StackEntry
  seen_term = shown.entry_term given.entries

  abbrev seen_tree : ℕ → Tree
  seen_tree = entry_tree source given

  abbrev IsShownAt : ℕ → Type 0
  IsShownAt i = (taker : ℕ) → ((e : StackEntry) → slice_get given.entries i ≡ Some e → IsMissing e → e.operator_idx ≡ taker) →
      Shows color source.first taker (seen_term i) (seen_tree i)

  -- the children's lines
  children_shown : (i : ℕ) (e : StackEntry) → slice_get given.entries i ≡ Some e → All IsShownAt (children_of e.operator) → (inner : List ℕ) →
      default_lines (child_lines inner (pick seen_term (children_of e.operator)))
      ≡ operands_text color source.first inner e.operator_idx (graph.trees_at seen_tree (children_of e.operator))
  children_shown i e s kids = kids_shown color source.first e.operator_idx seen_term seen_tree (children_of e.operator)
      (λ k d l. kids k d l e.operator_idx (λ x t m. h.taker i (get_or (children_of e.operator) k d) e x s t
      (has_itself (children_of e.operator) k d l) m))

  -- an operator's line and those of its operands
  operator_shown : (i : ℕ) (e : StackEntry) (instr : Instruction) → slice_get given.entries i ≡ Some e → instr_of e.operator ≡ Some instr →
      source.first ≤ e.operator_idx → e.color ≡ color (e.operator_idx - source.first) → All IsShownAt (children_of e.operator) →
      (taker : ℕ) → Shows color source.first taker (node e (pick seen_term (children_of e.operator))) (seen_tree i)
  operator_shown i e instr s is later painted kids taker prefix inner =
      let n = e.operator_idx - source.first in
      let at : e.operator_idx ≡ source.first + n = omega arith in
      let own = instruction_text (instruction_shape_of source.info instr).instr in
      let text = node_text e.operator instr is ∙ ap instruction_text (sym (shape_instr source.info instr)) in
      let operands = graph.trees_at seen_tree (children_of e.operator) in
      ap₂ (λ (t rest : List ℕ). (prefix ++ entry_text e t) ++ rest) text (children_shown i e s kids inner)
      ∙ (ap₂ (λ c k. (prefix ++ line_text c k own) ++ operands_text color source.first inner k operands) painted at
      ∙ sym (ap (tree_text color source.first prefix inner taker) (own_tree source given h.forest_is i e instr s is)))

  -- a missing operand's line
  missing_shown : (i : ℕ) (e : StackEntry) → slice_get given.entries i ≡ Some e → IsMissing e →
      Shows color source.first e.operator_idx (node e (pick seen_term (children_of e.operator))) (seen_tree i)
  missing_shown i e s m prefix inner =
      let text = ap text_of m.0 ∙ undef_text in
      ap₂ (λ (x t : List ℕ). (prefix ++ entry_text e t) ++ default_lines (child_lines inner (pick seen_term x))) (ap children_of m.0 ∙ undef_children) text
      ∙ (append-nil (prefix ++ entry_text e (codes "undef")) ∙ (ap (λ c. prefix ++ line_text c e.operator_idx (codes "undef")) m.1
      ∙ sym (ap (tree_text color source.first prefix inner e.operator_idx) (entry_operand source given i e s m.0).1)))

  shown_at : (i : ℕ) → i < length given.entries → IsShownAt i
  shown_at = by_children given h.forest_is IsShownAt (λ i e s kids taker taken.
      let own = term_at (λ (x : StackEntry). x) given.entries
      (nodes_below (λ (x : StackEntry). x) given.entries (children_below source given h)) i e s in
      let known = h.entry i e s in
      subst (λ t. Shows color source.first taker t (seen_tree i)) (sym own) (elim known.3 [
        | inl (instr, offset, there, is, painted) ↦
            let number = known.2 in
            let same : known.0 ≡ e.operator_idx - source.first = omega arith in
            operator_shown i e instr s is (omega arith) (painted ∙ ap color same) kids taker
        | inr m ↦ subst (λ k. Shows color source.first k (node e (pick seen_term (children_of e.operator))) (seen_tree i)) (taken e s m) (missing_shown i e s m)
      ]))

-- ---- the roots

abbrev are_nodes : Trees → Bool
are_nodes no_trees = true
are_nodes (tree.entry m ▸ ts) = false
are_nodes (tree.node i s kids ▸ ts) = are_nodes ts

nodes_join : (ts us : Trees) → are_nodes ts ≡ true → are_nodes us ≡ true → are_nodes (join ts us) ≡ true
nodes_join no_trees us h k = k
nodes_join (tree.entry m ▸ ts) us h k = absurd (cc)
nodes_join (tree.node i s kids ▸ ts) us h k = nodes_join ts us h k

nodes_without : (test : ℕ → Bool) (ts : Trees) → are_nodes ts ≡ true → are_nodes (trees_without test ts) ≡ true
nodes_without test no_trees h = refl
nodes_without test (tree.entry m ▸ ts) h = absurd (cc)
nodes_without test (tree.node i s kids ▸ ts) h = grind (arith, nodes_without test ts h)

nodes_trees : (block : List Shape) → are_nodes (trees block) ≡ true
nodes_trees [] = refl
nodes_trees (s ∷ earlier) = nodes_join (trees earlier) (operator_tree s earlier ▸ no_trees) (nodes_trees earlier) refl

nodes_forest : (block : List Shape) → are_nodes (forest block) ≡ true
nodes_forest block = nodes_without (λ j. is_operand j (trees block)) (trees block) (nodes_trees block)

first_node : (color : ℕ → ℕ) (first a : ℕ) (t : Tree) (ts : Trees) → are_nodes (t ▸ ts) ≡ true →
    (tree_text color first [] [] a t ≡ tree_text color first [] [] 0 t) × (are_nodes ts ≡ true)
first_node color first a (tree.entry m) ts h = absurd (cc)
first_node color first a (tree.node i s kids) ts h = (refl, h)

roots_shown : (color : ℕ → ℕ) (first : ℕ) (entries : List StackEntry) (g : ℕ → Tree) (is : List ℕ) →
    All (λ i. (a : ℕ) × Shows color first a (shown.entry_term entries i) (g i)) is →
    are_nodes (graph.trees_at g is) ≡ true → default_lines (root_lines entries is) ≡ trees_text color first (graph.trees_at g is)
roots_shown color first entries g [] l k = refl
roots_shown color first entries g (i ∷ is) l k =
    let P : ℕ → Type 0 = λ i. (a : ℕ) × Shows color first a (shown.entry_term entries i) (g i) in
    let one = All-head P i is l in
    let own = first_node color first one.0 (g i) (graph.trees_at g is) k in
    lines_append (tree_lines [] [] (shown.entry_term entries i)) (root_lines entries is)
    ∙ ap₂ (λ x y. x ++ y) (one.1 [] [] ∙ own.0) (roots_shown color first entries g is (All-tail P i is l) own.1)

pub shows_the_forest : ShowsTheForest
shows_the_forest source given h =
    let c = color_at source.preserving (shapes_in source) in
    let is = roots_of given.parents in
    let paired = h.forest_is.paired in
    let each : (i : ℕ) → i < length given.parents → (a : ℕ) × Shows c source.first a (shown.entry_term given.entries i) (entry_tree source given i) =
    λ i l. let e = get_or given.entries i (undef_entry 0) in (
      e.operator_idx,
      shown_at source given h i (omega arith) e.operator_idx
          (λ x s m. sym (ap (λ (y : StackEntry). y.operator_idx) (get_or_from_slice_get given.entries i x (undef_entry 0) s))),
    ) in
    ap (λ t. codes "DFG forest\n" ++ t) (roots_shown c source.first given.entries (entry_tree source given) is
    (All-weaker (λ i. i < length given.parents) (λ i. (a : ℕ) × Shows c source.first a (shown.entry_term given.entries i) (entry_tree source given i))
    each is (roots_below given.parents)) (ap are_nodes h.trees ∙ nodes_forest (shapes_in source)) ∙ ap (trees_text c source.first) h.trees)
