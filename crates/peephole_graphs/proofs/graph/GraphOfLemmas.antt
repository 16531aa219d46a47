-- That a graph is a block's says what it is in the theory's lists, and the other way round.
use Rattle.std.proofs.Common.{◌≡◌, ℕ, zero, suc, ◌-◌, ◌<◌, ◌≤◌, true, List, [], ◌∷◌, length, map, get_or, Option, None, Some, refl, sym, ap, ap₂, ◌∙◌, subst}
use Rattle.std.proofs.Common.{arith, inl, inr}
use Rattle.std.specs.Prelude.{◌⊎◌, ◌==◌, if◌then◌else◌, reverse, slice_get, option_map}
use Rattle.std.specs.Bool.{nat_eq}
use Rattle.std.specs.List.{IsDistinct}
use Rattle.std.proofs.lemmas.Bool.{cases_lt, false≢true}
use Rattle.std.proofs.lemmas.Simd.{map-map}
use Rattle.std.proofs.lemmas.List.{length-reverse, length-map, get_or-map, get_or_past}
use Rattle.std.proofs.lemmas.List.Elements.{All-head, All-tail, All-from_get_or, All-map}
use Rattle.std.proofs.lemmas.Option.{same_Some, slice_get-get_or, get_or_from_slice_get, slice_get_within}
use Rattle.wasm_code.specs.Instruction.{Instruction}
use Rattle.wasm_code.specs.declared.operator.Operator.{Operator}
use Rattle.wasm_code.specs.declared.operator.Operator.TheVariants.{Instr}
use Rattle.wasm_types.specs.Module.{Module}
use Rattle.peephole_lang.specs.Lang.{place_of, ids_of}
use Rattle.peephole_lang.specs.Node.{instr_of, children_of}
use Rattle.peephole_lang.specs.declared.lang.Lang.{Lang}
use Rattle.peephole_lang.specs.declared.lang.Lang.TheVariants.{Undef}
use Rattle.peephole_graphs.specs.declared.dfg.StackEntry.{StackEntry}
use Rattle.peephole_graphs.specs.Shape.{Shape, Judged, Fits, IsFit, AreFit, and_shape, operator_shapes, judge}
use Rattle.peephole_graphs.specs.Forest.{has}
use Rattle.peephole_graphs.specs.Color.{color_at}
use Rattle.peephole_graphs.specs.Graph.{GraphEntry, undef, item}
use Rattle.peephole_graphs.specs.Growing.{undef_entry}
use Rattle.peephole_graphs.specs.Entries.{EntryView, entry_view, instruction_shape_of, graph_entry, graph_entries, children_at, Graph}
use Rattle.peephole_graphs.specs.GraphOf.{IsGraphOf, IsMissing, IsOperator, IsStackEntryOf}
use Rattle.peephole_graphs.proofs.Lists.{all_slice_get}
use Rattle.peephole_graphs.proofs.graph.BlockGraph.{entry_at, parent_at, shape_at, IsBlockEntry, IsOperatorOrMissing}
use Rattle.peephole_graphs.proofs.graph.Representation.{Represents, IsOwnOrUndef}
use Rattle.peephole_graphs.proofs.DfgLemmas.{get_item, item_map, map_reverse, nodes_length, entry_seen, later_entries}
use Rattle.peephole_graphs.proofs.BuilderLemmas.{block_length, operator_fits, shape_fit, shape_instr}
use Rattle.peephole_graphs.specs.Source.{Source, shapes_in}

-- ---- lists

-- a list of options holds a value where it is read so
reads_some : {A : Type 0} (xs : List (Option A)) (i : ℕ) (x : A) → get_or xs i None ≡ Some x → slice_get xs i ≡ Some (Some x)
reads_some [] i x e = absurd cc
reads_some (y ∷ ys) zero x e = ap Some e
reads_some (y ∷ ys) (suc i) x e = reads_some ys i x e

some_none : {A P : Type 0} (x : A) → ◌≡◌ {A = Option A} (Some x) None → P
some_none x e = cc

shape_item : (xs : List Shape) (i : ℕ) → shape_at xs i ≡ item None (map Some xs) i
shape_item [] i = refl
shape_item (x ∷ xs) i = ap₂ (λ n y. if n == i then Some x else y) (sym (length-map xs Some)) (shape_item xs i)

shape_read : (xs : List Shape) (i : ℕ) → get_or (map Some xs) i None ≡ slice_get xs i
shape_read [] i = refl
shape_read (x ∷ xs) zero = refl
shape_read (x ∷ xs) (suc i) = shape_read xs i

-- the shapes by number, the first one first
shape_turned : (xs : List Shape) (i : ℕ) → shape_at (reverse xs) i ≡ slice_get xs i
shape_turned xs i = shape_item (reverse xs) i ∙ (ap (λ y. item None y i) (map_reverse Some xs) ∙ (sym (get_item None (map Some xs) i) ∙ shape_read xs i))

-- ---- the operators of a block

record HasOperator (info : Module) (operators : List (Operator × ℕ)) (n : ℕ) : Type 0 where
  operator : Operator × ℕ
  shape : Shape
  here : slice_get operators n ≡ Some operator
  judged : judge info operator.0 ≡ Fits shape
  shaped : slice_get (operator_shapes info operators) n ≡ Some shape

operator_there : (info : Module) (operators : List (Operator × ℕ)) → AreFit info operators → (n : ℕ) → n < length operators → HasOperator info operators n
operator_there info [] h n l = absurd (omega arith)
operator_there info (o ∷ os) h n l = go (judge info o.0) refl (All-head (λ (o : Operator × ℕ). IsFit (judge info o.0)) o os h)
    (operator_there info os (All-tail (λ (o : Operator × ℕ). IsFit (judge info o.0)) o os h)) n l
  where
    go : (j : Judged) → judge info o.0 ≡ j → IsFit j → ((k : ℕ) → k < length os → HasOperator info os k) → (n : ℕ) →
        n < suc (length os) → HasOperator info (o ∷ os) n
    go (Fits s) e u later zero m = record {
      operator = o;
      shape = s;
      here = refl;
      judged = e;
      shaped = ap (λ x. slice_get (and_shape x (operator_shapes info os)) 0) e;
    }
    go (Fits s) e u later (suc k) m =
        let rest = later k (omega arith) in
        record {
          operator = rest.operator;
          shape = rest.shape;
          here = rest.here;
          judged = rest.judged;
          shaped = ap (λ x. slice_get (and_shape x (operator_shapes info os)) (suc k)) e ∙ rest.shaped;
        }
    go _ e u later k m = absurd u

-- ---- children and parents

pub children_seen : (info : Module) (first : ℕ) (es : List StackEntry) (p : ℕ) → (entry_at (graph_entries info first es) p).children ≡ children_at es p
children_seen info first es p =
    let kids : GraphEntry → List ℕ = λ e. e.children in
    let whole = map-map kids (graph_entry info first) (map entry_view es) ∙ map-map (λ v. kids (graph_entry info first v)) entry_view es in
    item_map kids (undef 0) (graph_entries info first es) p
    ∙ (ap (λ x. item [] x p) (map_reverse kids (map (graph_entry info first) (map entry_view es)) ∙ ap reverse whole)
    ∙ sym (get_item [] (map (λ (e : StackEntry). children_of e.operator) es) p))

-- only an entry has children
with_children : (es : List StackEntry) (p i : ℕ) → has i (children_at es p) ≡ true → p < length es
with_children es p i h = elim (cases_lt p (length es)) [
  | inl l ↦ l
  | inr l ↦
      let kids = map (λ (e : StackEntry). children_of e.operator) es in
      let n = length-map es (λ (e : StackEntry). children_of e.operator) in
      absurd (false≢true (sym (ap (has i) (get_or_past kids p [] (omega arith))) ∙ h))
]

pub children_here : (es : List StackEntry) (p : ℕ) (e : StackEntry) → slice_get es p ≡ Some e → children_at es p ≡ children_of e.operator
children_here es p e s = get_or-map (λ (x : StackEntry). children_of x.operator) es p e [] (slice_get_within es p e s) ∙
    ap (λ (x : StackEntry). children_of x.operator) (get_or_from_slice_get es p e e s)

parent_there : (parents : List (Option ℕ)) (i p : ℕ) → slice_get parents i ≡ Some (Some p) → parent_at (reverse parents) i ≡ Some p
parent_there parents i p e = sym (get_item None parents i) ∙ get_or_from_slice_get parents i (Some p) None e

parent_read : (parents : List (Option ℕ)) (i p : ℕ) → parent_at (reverse parents) i ≡ Some p → slice_get parents i ≡ Some (Some p)
parent_read parents i p e = reads_some parents i p (get_item None parents i ∙ e)

-- ---- entries

pub undef_instr : instr_of Undef ≡ None
unfolding place_of
undef_instr = refl

pub undef_children : children_of Undef ≡ []
unfolding ids_of
undef_children = refl

-- an entry as the theory sees it
pub entry_here : (info : Module) (first : ℕ) (es : List StackEntry) (i : ℕ) (e : StackEntry) → slice_get es i ≡ Some e →
    entry_at (graph_entries info first es) i ≡ graph_entry info first (entry_view e)
entry_here info first es i e s = entry_seen info first es i e (slice_get_within es i e s) ∙
    ap (λ (x : StackEntry). graph_entry info first (entry_view x)) (get_or_from_slice_get es i e e s)

module _ (source : Source) (e : StackEntry) (fit : AreFit source.info source.operators) where
  abbrev seen : GraphEntry
  seen = graph_entry source.info source.first (entry_view e)

  entry_into : IsStackEntryOf source e → IsBlockEntry source.preserving (shapes_in source) seen
  entry_into (n, l, at, kind) =
      let block = shapes_in source in
      let P : Option Shape → Type 0 = λ o. IsOperatorOrMissing source.preserving block o seen in
      let count = block_length source.info source.operators fit in
      let number : e.operator_idx - source.first ≡ n = omega arith in (
        omega arith,
        elim kind [
          | inl (i, offset, here, instr, color) ↦
              let o = operator_there source.info source.operators fit n l in
              let first = ap (λ (x : Operator × ℕ). x.0) (same_Some o.operator (Instr i, offset) (sym o.here ∙ here)) in
              let own = operator_fits source.info o.operator.0 o.shape o.judged in
              let fits = shape_fit source.info o.operator.0 o.shape o.judged in
              let turned = shape_turned (operator_shapes source.info source.operators) n in
              let shape : shape_at block (e.operator_idx - source.first) ≡ Some (instruction_shape_of source.info i) = cc in
              subst P (sym (ap (option_map (instruction_shape_of source.info)) instr)) (shape, color ∙ ap (color_at source.preserving block) (sym number))
          | inr (missing, color) ↦ subst P (sym (ap (λ (l : Lang). option_map (instruction_shape_of source.info) (instr_of l)) missing ∙
              ap (option_map (instruction_shape_of source.info)) undef_instr)) (ap children_of missing ∙ undef_children, color)
        ],
      )

  entry_from : source.first ≤ e.operator_idx → IsOwnOrUndef e → IsBlockEntry source.preserving (shapes_in source) seen → IsStackEntryOf source e
  entry_from later missing (l, kind) =
      let count = block_length source.info source.operators fit in
      (e.operator_idx - source.first, omega arith, omega arith, go (instr_of e.operator) refl kind)
    where
      go : (o : Option Instruction) → instr_of e.operator ≡ o → IsOperatorOrMissing source.preserving (shapes_in source)
          (option_map (instruction_shape_of source.info) o) seen → IsOperator source (e.operator_idx - source.first) e ⊎ IsMissing e
      go None w k = inr (missing w, k.1)
      go (Some i) w k =
          let count = block_length source.info source.operators fit in
          let n = e.operator_idx - source.first in
          let o = operator_there source.info source.operators fit n (omega arith) in
          let turned = shape_turned (operator_shapes source.info source.operators) n in
          let painted = k.0 in
          let fits = operator_fits source.info o.operator.0 o.shape o.judged in
          let instr = shape_instr source.info i in
          let own : o.operator.0 ≡ Instr i = cc in
          inl (i, o.operator.1, o.here ∙ ap (λ (x : Operator). Some (x, o.operator.1)) own, w, k.1)

-- ---- graphs

module _ (source : Source) (given : Graph) where
  abbrev nodes : List GraphEntry
  nodes = graph_entries source.info source.first given.entries

  abbrev entry : ℕ → StackEntry
  entry i = get_or given.entries i (undef_entry 0)

  abbrev IsAt : ℕ → StackEntry → Type 0
  IsAt i e = slice_get given.entries i ≡ Some e

  count : length nodes ≡ length given.entries
  count = nodes_length source.info source.first given.entries

  here : (i : ℕ) → i < length given.entries → IsAt i (entry i)
  here i l = slice_get-get_or given.entries i (undef_entry 0) l

  at : (i : ℕ) (e : StackEntry) → IsAt i e → entry_at nodes i ≡ graph_entry source.info source.first (entry_view e)
  at = entry_here source.info source.first given.entries

  number : (i : ℕ) (e : StackEntry) → IsAt i e → (entry_at nodes i).number ≡ e.operator_idx - source.first
  number i e s = ap (λ (z : GraphEntry). z.number) (at i e s)

  kids : (p i : ℕ) → has i (entry_at nodes p).children ≡ has i (children_at given.entries p)
  kids p i = ap (has i) (children_seen source.info source.first given.entries p)

  module _ (h : IsGraphOf source given) where
    own : (e : StackEntry) → IsStackEntryOf source e → instr_of e.operator ≡ None → e.operator ≡ Undef
    own e (n, l, at, inl (i, offset, there, instr, color)) w = some_none i (sym instr ∙ w)
    own e (n, l, at, inr (missing, color)) w = missing

    lacks : (i : ℕ) (e : StackEntry) → IsAt i e → option_map (instruction_shape_of source.info) (instr_of e.operator) ≡ None → IsMissing e
    lacks i e s none = elim (h.entry i e s).3 [
      | inl (j, offset, there, instr, color) ↦ some_none (instruction_shape_of source.info j)
          (sym (ap (option_map (instruction_shape_of source.info)) instr) ∙ none)
      | inr missing ↦ missing
    ]

    pub represents : Represents source given
    represents = record {
      fit = h.fit;
      small = h.small;
      block_graph = record {
        same_length = length-reverse given.parents ∙ (h.forest_is.paired ∙ sym count);
        trees = h.trees;
        entries = λ i l.
            let n = count in
            let s = here i (omega arith) in
            subst (IsBlockEntry source.preserving (shapes_in source)) (sym (at i (entry i) s))
            (entry_into source (entry i) h.fit (h.entry i (entry i) s));
        parent = λ p i w. let q = h.forest_is.parent p i (sym (kids p i) ∙ w) in (parent_there given.parents i p q.0, q.1);
        child = λ p i w.
            let q = h.forest_is.child p i (parent_read given.parents i p w) in
            let l = with_children given.entries p i q in
            let n = count in
            (omega arith, kids p i ∙ q);
        once = λ p. subst (IsDistinct nat_eq) (sym (children_seen source.info source.first given.entries p)) (h.forest_is.once p);
        taker = λ p i w none.
            let q = sym (kids p i) ∙ w in
            let l = with_children given.entries p i q in
            let below = (h.forest_is.parent p i q).1 in
            let se = here p l in
            let sx = here i (omega arith) in
            let missing = lacks i (entry i) sx (sym (ap (λ (y : GraphEntry). y.shape) (at i (entry i) sx)) ∙ none) in
            let same = h.taker p i (entry p) (entry i) se sx (sym (ap (has i) (children_here given.entries p (entry p) se)) ∙ q) missing in
            number i (entry i) sx ∙ (ap (λ k. k - source.first) same ∙ sym (number p (entry p) se));
        order = λ i j le l.
            let n = count in
            let sx = here i (omega arith) in
            let sy = here j (omega arith) in
            let rises = h.order i j (entry i) (entry j) le sx sy in
            let p = number i (entry i) sx in
            let q = number j (entry j) sy in
            omega arith;
      };
      missing = λ i e l w. own (get_or given.entries i e) (h.entry i (get_or given.entries i e) (slice_get-get_or given.entries i e l)) w;
      later = All-map (λ (x : EntryView). source.first ≤ x.operator) entry_view given.entries (All-from_get_or
          (λ (e : StackEntry). source.first ≤ e.operator_idx) given.entries (undef_entry 0)
          (λ i l. let at = (h.entry i (entry i) (here i l)).2 in omega arith));
      finds = h.finds;
      keys = h.keys;
      last = h.last;
    }

  module _ (h : Represents source given) where
    later : (i : ℕ) (e : StackEntry) → IsAt i e → source.first ≤ e.operator_idx
    later i e s = all_slice_get (λ (x : StackEntry). source.first ≤ x.operator_idx) given.entries i e s (later_entries source.first given.entries h.later)

    pub is_graph_of : IsGraphOf source given
    is_graph_of = record {
      fit = h.fit;
      small = h.small;
      forest_is = record {
        paired = sym (length-reverse given.parents) ∙ (h.block_graph.same_length ∙ count);
        parent = λ p i w. let q = h.block_graph.parent p i (kids p i ∙ w) in (parent_read given.parents i p q.0, q.1);
        child = λ p i w. sym (kids p i) ∙ (h.block_graph.child p i (parent_there given.parents i p w)).1;
        once = λ p. subst (IsDistinct nat_eq) (children_seen source.info source.first given.entries p) (h.block_graph.once p);
      };
      trees = h.block_graph.trees;
      entry = λ i e s.
          let l = slice_get_within given.entries i e s in
          let n = count in
          entry_from source e h.fit (later i e s) (all_slice_get IsOwnOrUndef given.entries i e s h.missing)
          (subst (IsBlockEntry source.preserving (shapes_in source)) (at i e s) (h.block_graph.entries i (omega arith)));
      taker = λ p i e x se sx w m.
          let same = h.block_graph.taker p i (ap (λ (y : GraphEntry). has i y.children) (at p e se) ∙ w)
          (ap (λ (y : GraphEntry). y.shape) (at i x sx) ∙ ap (option_map (instruction_shape_of source.info)) (ap instr_of m.0 ∙ undef_instr)) in
          let p' = number i x sx in
          let q' = number p e se in
          let a = later i x sx in
          let b = later p e se in
          omega arith;
      order = λ i j x y le sx sy.
          let l = slice_get_within given.entries j y sy in
          let n = count in
          let rises = h.block_graph.order i j le (omega arith) in
          let p = number i x sx in
          let q = number j y sy in
          let a = later i x sx in
          let b = later j y sy in
          omega arith;
      finds = h.finds;
      keys = h.keys;
      last = h.last;
    }
