-- What the loop of `build` keeps.
use Rattle.std.proofs.Common.{◌≡◌, ℕ, suc, ◌+◌, ◌-◌, ◌<◌, ◌≤◌, Bool, true, false, List, [], ◌∷◌, ◌++◌, length, take, drop, get_or, map, replicate, Option}
use Rattle.std.proofs.Common.{None, Some, refl, sym, ap, ap₂, ◌∙◌, subst, arith, ⊎_elim}
use Rattle.std.specs.Prelude.{◌⊎◌, option_map, reverse, slice_get, if◌then◌else◌}
use Rattle.std.specs.List.{All, sum_by}
use Rattle.std.proofs.lemmas.Bool.Decides.{nat_tests}
use Rattle.std.proofs.lemmas.Bool.{eq-eqb}
use Rattle.std.proofs.lemmas.List.{reverse-append, length-append, length-reverse, map-append, length-map, take-append-drop, drop_more, take_more, length-take}
use Rattle.std.proofs.lemmas.Simd.{map-map}
use Rattle.std.proofs.lemmas.List.Elements.{All-head, All-tail, All-append, All-push, All-map, All-replicate}
use Rattle.wasm_code.specs.Instruction.{Instruction}
use Rattle.wasm_code.specs.Table.{row_info_of}
use Rattle.wasm_code.specs.declared.immediate.Imm.{Imm}
use Rattle.wasm_code.specs.declared.immediate.Imm.TheVariants.{Index}
use Rattle.wasm_code.specs.declared.operator.Operator.{Operator}
use Rattle.wasm_code.specs.declared.operator.Operator.TheVariants.{Instr}
use Rattle.wasm_code.specs.declared.table.RowInfo.{RowInfo}
use Rattle.wasm_types.specs.Module.{Module, function_type}
use Rattle.wasm_types.specs.declared.types.PrimitiveTypeInfo.{PrimitiveTypeInfo}
use Rattle.wasm_types.specs.declared.types.TypeInfo.{TypeInfo}
use Rattle.wasm_types.specs.declared.types.TypeInfo.TheVariants.{Func, Other}
use Rattle.peephole_graphs.specs.Shape.{Shape, Judged, Fits, Unfit, IsFit, AreFit, and_shape, operator_shapes, shapes_of_block, has_result, call_shape}
use Rattle.peephole_graphs.specs.Shape.{judge_callee, judge_call, judge_row, judge_found, judge_instruction, judge}
use Rattle.peephole_graphs.specs.Color.{color_after}
use Rattle.peephole_graphs.specs.Graph.{undef, GraphEntry}
use Rattle.peephole_graphs.specs.GraphOf.{IsSmall, FirstFault, IsRefused, ShapeDoesNotFit}
use Rattle.peephole_graphs.proofs.graph.BlockGraph.{result_count, missing_count}
use Rattle.peephole_graphs.specs.Step.{down, grown, GraphGrowth}
use Rattle.peephole_graphs.specs.Entries.{EntryView, entry_view, shape_of_judged, instruction_shape_of, graph_entry, graph_entries}
use Rattle.peephole_graphs.specs.Measures.{sizes_kept, size_kept, SubtreesAreMeasured}
use Rattle.peephole_graphs.specs.Growing.{undef_entry, lacks, taken_of, own_index, IsConsistent, Added}
use Rattle.peephole_graphs.proofs.OwnEntriesLemmas.{slice_get_push}
use Rattle.peephole_graphs.proofs.graph.Representation.{IsOwnOrUndef}
use Rattle.peephole_lang.specs.Lang.{place_of, ids_of}
use Rattle.peephole_lang.specs.Node.{is_count, row_takes_count, takes_children}
use Rattle.peephole_graphs.proofs.graph.StackGraph.{graph, is_graph, IsGraph, behind}
use Rattle.peephole_graphs.proofs.graph.BlockGraphLemmas.{own, facts, stack_height, own_replicate}
use Rattle.peephole_graphs.specs.declared.growing.Growing.{Growing}
use Rattle.peephole_graphs.specs.declared.dfg.StackEntry.{StackEntry}
use Rattle.mutate_base.specs.declared.error.Error.{Error}
use Rattle.mutate_base.specs.declared.error.Error.TheVariants.{Memory, TooLarge}
use Rattle.peephole_graphs.proofs.GrowingLemmas.{grown_is, stack_below}
use Rattle.peephole_graphs.proofs.DfgLemmas.{nodes_length, later_entries, measured_more, stack_room, kept_count}
use Rattle.peephole_graphs.proofs.graph.NodeCount.{wholes-forest}
use Rattle.peephole_graphs.proofs.graph.Totals.{map_replicate, stack_total, size_of_entry}
use Rattle.peephole_graphs.specs.Source.{Source, shapes_in}

fits_same : (s t : Shape) → Fits s ≡ Fits t → s ≡ t
fits_same s t e = cc

unfit_fits : {P : Type 0} (s : Shape) → Unfit ≡ Fits s → P
unfit_fits s e = cc

-- a shape is of its instruction
call_shape_instr : (i : Instruction) (parameters : ℕ) (returns : List PrimitiveTypeInfo) → (shape_of_judged i (call_shape i parameters returns)).instr ≡ i
call_shape_instr i parameters [] = refl
call_shape_instr i parameters (one ∷ []) = refl
call_shape_instr i parameters (one ∷ other ∷ more) = refl

call_instr : (info : Module) (i : Instruction) (imm : Imm) → (shape_of_judged i (judge_call info i imm)).instr ≡ i
call_instr info i (Index function) = go (function_type info function)
  where
    go : (type : Option TypeInfo) → (shape_of_judged i (judge_callee i function type)).instr ≡ i
    go None = refl
    go (Some Other) = refl
    go (Some (Func type)) = call_shape_instr i (length type.params) type.returns
call_instr info i _ = refl

found_instr : (info : Module) (i : Instruction) (found : Option RowInfo) → (shape_of_judged i (judge_found info i found)).instr ≡ i
found_instr info i None = refl
found_instr info i (Some row) = go row.operands
  where
    go : (o : Option ℕ) → (shape_of_judged i (judge_row info i row o)).instr ≡ i
    go None = call_instr info i i.imm
    go (Some k) = refl

pub shape_instr : (info : Module) (i : Instruction) → (instruction_shape_of info i).instr ≡ i
shape_instr info i = found_instr info i (row_info_of i.row)

-- an instruction that fits takes as many children as its shape has operands
found_takes : (info : Module) (i : Instruction) (found : Option RowInfo) (s : Shape) → judge_found info i found ≡ Fits s →
    row_takes_count found s.operands ≡ true
found_takes info i None s e = unfit_fits s e
found_takes info i (Some row) s e = go row.operands refl e
  where
    go : (o : Option ℕ) → row.operands ≡ o → judge_row info i row o ≡ Fits s → row_takes_count (Some row) s.operands ≡ true
    go None w u = ap (λ x. is_count x s.operands) w
    go (Some k) w u = ap (λ x. is_count x s.operands) w ∙ eq-eqb k s.operands (ap (λ (x : Shape). x.operands)
        (fits_same (record { instr = i; operands = k; has_result = has_result row.result; change = row.change }) s u))

-- an operator that fits is the instruction of its shape, which takes so many children
record IsOfShape (info : Module) (o : Operator) (s : Shape) : Type 0 where
  is : o ≡ Instr s.instr
  judged : judge_instruction info s.instr ≡ Fits s
  makes : takes_children s.instr.row s.operands ≡ true

of_shape : (info : Module) (o : Operator) (s : Shape) → judge info o ≡ Fits s → IsOfShape info o s
of_shape info (Instr i) s e =
    let same : s.instr ≡ i = sym (ap (λ j. (shape_of_judged i j).instr) e) ∙ shape_instr info i in
    record {
      is = ap Instr (sym same);
      judged = ap (judge_instruction info) same ∙ e;
      makes = ap (λ (j : Instruction). takes_children j.row s.operands) same ∙ found_takes info i (row_info_of i.row) s e;
    }
of_shape info _ s e = unfit_fits s e

pub operator_fits : (info : Module) (o : Operator) (s : Shape) → judge info o ≡ Fits s → o ≡ Instr s.instr
operator_fits info o s e = (of_shape info o s e).is

pub shape_fit : (info : Module) (o : Operator) (s : Shape) → judge info o ≡ Fits s → instruction_shape_of info s.instr ≡ s
shape_fit info o s e = ap (shape_of_judged s.instr) (of_shape info o s e).judged

pub shape_makes : (info : Module) (o : Operator) (s : Shape) → Fits s ≡ judge info o → takes_children s.instr.row s.operands ≡ true
shape_makes info o s e = (of_shape info o s (sym e)).makes

shapes_append : (info : Module) (os ps : List (Operator × ℕ)) → operator_shapes info (os ++ ps) ≡ operator_shapes info os ++ operator_shapes info ps
shapes_append info [] ps = refl
shapes_append info (o ∷ os) ps = go (judge info o.0) (shapes_append info os ps)
  where
    go : (j : Judged) → operator_shapes info (os ++ ps) ≡ operator_shapes info os ++ operator_shapes info ps →
        and_shape j (operator_shapes info (os ++ ps)) ≡ and_shape j (operator_shapes info os) ++ operator_shapes info ps
    go (Fits s) w = ap (λ x. s ∷ x) w
    go _ w = w

pub block_push : (info : Module) (os : List (Operator × ℕ)) (o : Operator × ℕ) (s : Shape) → judge info o.0 ≡ Fits s →
    shapes_of_block info (os ++ o ∷ []) ≡ s ∷ shapes_of_block info os
block_push info os o s e = ap reverse (shapes_append info os (o ∷ [])) ∙
    (ap (λ j. reverse (operator_shapes info os ++ and_shape j [])) e ∙ reverse-append (operator_shapes info os) (s ∷ []))

shapes_length : (info : Module) (os : List (Operator × ℕ)) → AreFit info os → length (operator_shapes info os) ≡ length os
shapes_length info [] h = refl
shapes_length info (o ∷ os) h = go (judge info o.0) (All-head (λ (o : Operator × ℕ). IsFit (judge info o.0)) o os h)
    (shapes_length info os (All-tail (λ (o : Operator × ℕ). IsFit (judge info o.0)) o os h))
  where
    go : (j : Judged) → IsFit j → length (operator_shapes info os) ≡ length os → length (and_shape j (operator_shapes info os)) ≡ suc (length os)
    go (Fits s) u w = ap suc w
    go _ u w = absurd u

pub block_length : (info : Module) (os : List (Operator × ℕ)) → AreFit info os → length (shapes_of_block info os) ≡ length os
block_length info os h = length-reverse (operator_shapes info os) ∙ shapes_length info os h

-- the graph's lists as the theory has them
abbrev pub nodes_in : Source → Growing → List GraphEntry
nodes_in source g = graph_entries source.info source.first g.entries.items

abbrev pub state_of : Source → Growing → GraphGrowth
state_of source g = record { nodes = nodes_in source g; parents = reverse g.parents.items; stack = reverse g.stack.items }

-- the same with other operators
abbrev pub over : Source → List (Operator × ℕ) → Source
over source operators = record { info = source.info; preserving = source.preserving; first = source.first; operators = operators }

abbrev pub front : Source → ℕ → Source
front source i = over source (take i source.operators)

pub record Kept (source : Source) (g : Growing) : Type 0 where
  pub fit : AreFit source.info source.operators
  pub small : IsSmall source.preserving (shapes_in source)
  pub state : state_of source g ≡ graph source.preserving (shapes_in source)
  pub first : g.map.first ≡ source.first
  pub count : length g.map.entries.items ≡ length source.operators
  pub names : (n : ℕ) → slice_get g.map.entries.items n ≡ own (nodes_in source g) n
  pub later : All (λ (x : EntryView). source.first ≤ x.operator) (map entry_view g.entries.items)
  pub color : g.color ≡ color_after source.preserving (shapes_in source)
  pub measured : SubtreesAreMeasured g.entries.items g.subtrees.items
  pub missing : All IsOwnOrUndef g.entries.items

module _ (source : Source) (g : Growing) (h : Kept source g) where
  kept_graph : IsGraph (shapes_in source) (state_of source g)
  kept_graph = subst (IsGraph (shapes_in source)) (sym h.state) (is_graph source.preserving (shapes_in source))

  kept_below : All (λ i. i < length g.parents.items) g.stack.items
  kept_below = stack_below (shapes_in source) (nodes_in source g) g.parents.items g.stack.items kept_graph

  pub kept_parents : length g.parents.items ≡ length g.entries.items
  kept_parents = sym (length-reverse g.parents.items) ∙ (kept_graph.same_length ∙ nodes_length source.info source.first g.entries.items)

  kept_room : sum_by (size_kept g.subtrees.items) g.stack.items ≤ length g.entries.items
  kept_room = stack_room g.entries.items (sizes_kept g.subtrees.items) g.stack.items (state_of source g) source.info source.first
      refl refl h.measured.sizes_are (subst (λ (x : GraphGrowth). sum_by (size_of_entry x) x.stack ≤ length x.nodes) (sym h.state)
      (stack_total source.preserving (shapes_in source)))

  pub kept_consistent : IsConsistent g
  kept_consistent = record {
    parents = kept_parents;
    subtrees = kept_count g.entries.items g.subtrees.items h.measured;
    stack = subst (λ n. All (λ i. i < n) g.stack.items) kept_parents kept_below;
    room = kept_room;
  }

  -- the index of the next operator's entry
  place_is : (s : Shape) → own_index s.operands g ≡ length (shapes_in source) + missing_count (s ∷ shapes_in source)
  place_is s =
      let block = shapes_in source in
      let count : length g.entries.items ≡ length block + missing_count block = sym (nodes_length source.info source.first g.entries.items) ∙
      (ap (λ (x : GraphGrowth). length x.nodes) h.state ∙ (facts source.preserving block).count) in
      let stack_is : length g.stack.items ≡ result_count block = sym (length-reverse g.stack.items) ∙ stack_height block (state_of source g) kept_graph in
      let lacks_is : lacks s.operands g ≡ s.operands - result_count block = ap (λ x. s.operands - x) stack_is in
      omega arith

-- ---- an operator more

-- what holds of the old entries, of missing operands and of the operator's own holds of all
All_added : (P : StackEntry → Type 0) (s : Shape) (operator : ℕ) (old new : Growing) (a : Added s operator old new) →
    All P old.entries.items → P (undef_entry operator) → P a.own → All P new.entries.items
All_added P s operator old new a h u o =
    let missing = replicate (lacks s.operands old) (undef_entry operator) in
    subst (All P) (sym a.entries) (All-push P (old.entries.items ++ missing) a.own
    (All-append P old.entries.items missing h (All-replicate P (lacks s.operands old) (undef_entry operator) u)) o)

abbrev seen : Source → StackEntry → GraphEntry
seen source e = graph_entry source.info source.first (entry_view e)

undef_seen : (source : Source) (n : ℕ) → seen source (undef_entry (source.first + n)) ≡ undef n
unfolding place_of ids_of
undef_seen source n = let number : (source.first + n) - source.first ≡ n = omega arith in ap undef number

-- the new entries are those of the graph's next step
state_more : (source : Source) (n : ℕ) (s : Shape) (old new : Growing) → instruction_shape_of source.info s.instr ≡ s →
    All (λ i. i < length old.parents.items) old.stack.items → Added s (source.first + n) old new →
    state_of source new ≡ grown (state_of source old) s n old.color
state_more source n s old new f b a =
    let f' = seen source in
    let es = map (graph_entry source.info source.first) (map entry_view old.entries.items) in
    let more = lacks s.operands old in
    let missing = replicate more (undef_entry (source.first + n)) in
    let children = down (length old.entries.items) more ++ taken_of s.operands old in
    let count : length old.entries.items ≡ length es =
    sym (length-map (map entry_view old.entries.items) (graph_entry source.info source.first) ∙ length-map old.entries.items entry_view) in
    let number : (source.first + n) - source.first ≡ n = omega arith in
    let own_is : seen source a.own ≡ record { shape = Some s; children = children; number = n; color = old.color } = λ i. record {
      shape = (ap (option_map (instruction_shape_of source.info)) a.own_instr ∙ ap Some f) i;
      children = a.own_children i;
      number = (ap (λ x. x - source.first) a.own_operator ∙ number) i;
      color = a.own_color i;
    } in
    let missing_is = map_replicate f' more (undef_entry (source.first + n)) ∙ ap (replicate more) (undef_seen source n) in
    let entries_is : map (graph_entry source.info source.first) (map entry_view new.entries.items) ≡
    (es ++ replicate more (undef n)) ++ record { shape = Some s; children = children; number = n; color = old.color } ∷ [] =
    map-map (graph_entry source.info source.first) entry_view new.entries.items ∙ (ap (map f') a.entries ∙
    (map-append f' (old.entries.items ++ missing) (a.own ∷ []) ∙
    ap₂ (λ x y. x ++ y ∷ []) (map-append f' old.entries.items missing ∙
    ap₂ (λ x y. x ++ y) (sym (map-map (graph_entry source.info source.first) entry_view old.entries.items)) missing_is) own_is)) in
    grown_is s n old.color (length old.entries.items) es old.parents.items old.stack.items
    (map (graph_entry source.info source.first) (map entry_view new.entries.items)) new.parents.items new.stack.items count b entries_is a.parents a.stack

color_more : (preserving : Bool) (s : Shape) (block : List Shape) →
    (if preserving then color_after preserving block + s.change else color_after preserving block) ≡ color_after preserving (s ∷ block)
color_more true s block = refl
color_more false s block = refl

names_more : (source : Source) (n : ℕ) (s : Shape) (old new : Growing) → state_of source new ≡ grown (state_of source old) s n old.color →
    length old.map.entries.items ≡ n → ((m : ℕ) → slice_get old.map.entries.items m ≡ own (nodes_in source old) m) → Added s (source.first + n) old new →
    (m : ℕ) → slice_get new.map.entries.items m ≡ own (nodes_in source new) m
names_more source n s old new e count h a m =
    let first = source.first in
    let nodes = nodes_in source old in
    let more = s.operands - length (reverse old.stack.items) in
    let place_is : own_index s.operands old ≡ length (replicate more (undef n) ++ nodes) =
    omega (arith, behind (undef n) more nodes, nodes_length source.info first old.entries.items, length-reverse old.stack.items) in
    let here = ap (λ (x : List ℕ). slice_get x m) a.named ∙ slice_get_push old.map.entries.items (own_index s.operands old) m in
    let old_is = h m in
    let rest = own_replicate more n m nodes in
    let next : slice_get new.map.entries.items m ≡ own (grown (state_of source old) s n old.color).nodes m = grind (arith, nat_tests) in
    next ∙ ap (λ (x : GraphGrowth). own x.nodes m) (sym e)

split_at : (operators : List (Operator × ℕ)) (i : ℕ) (d : Operator × ℕ) → i < length operators → operators ≡ take i operators ++
    get_or operators i d ∷ drop (i + 1) operators
split_at operators i d l = sym (take-append-drop i operators) ∙ ap (λ x. take i operators ++ x) (drop_more operators i d l)

pub fault : (source : Source) (i : ℕ) (d : Operator × ℕ) (g : Growing) (P : List Shape → Judged → Type 0) →
    i < length source.operators → Kept (front source i) g →
    P (shapes_in (front source i)) (judge source.info (get_or source.operators i d).0) → FirstFault source P
fault source i d g P l h p = record {
  before = take i source.operators;
  at = get_or source.operators i d;
  rest = drop (i + 1) source.operators;
  whole = split_at source.operators i d l;
  fit = h.fit;
  small = h.small;
  fault = p;
}

pub refused : (source : Source) (i : ℕ) (d : Operator × ℕ) (given : Shape) (old : Growing) (e : Error) →
    i < length source.operators → Kept (front source i) old → Fits given ≡ judge source.info (get_or source.operators i d).0 → (e ≡ Memory) ⊎
    ((e ≡ TooLarge) × ((4294967296 ≤ own_index given.operands old) ⊎ (4294967295 ≤ old.color))) → IsRefused source e
refused source i d given old e l h j w =
    let block = shapes_in (front source i) in
    ⊎_elim
    (λ m. subst (IsRefused source) (sym m) tt)
    (λ m. subst (IsRefused source) (sym m.0) (fault source i d old (ShapeDoesNotFit source.preserving) l h (
      given,
      sym j,
      λ small. let p = place_is (front source i) old h given in let q = h.color in let a = small.1 in
          let b = small.2 in let w = wholes-forest (given ∷ block) in ⊎_elim (λ u. omega arith) (λ u. omega arith) m.1,
    ))) w

some_none : {P : Type 0} (i : Instruction) → ◌≡◌ {A = Option Instruction} (Some i) None → P
some_none i e = cc

kept_more : (source : Source) (o : Operator × ℕ) (s : Shape) (old new : Growing) → Kept source old →
    Fits s ≡ judge source.info o.0 → Added s (source.first + length source.operators) old new → own_index s.operands old < 4294967296 →
    old.color < 4294967295 → new.color ≡ (if source.preserving then old.color + s.change else old.color) → Kept (over source (source.operators ++ o ∷ [])) new
kept_more source o s old new h e a p q r =
    let fits : Operator × ℕ → Type 0 = λ o. IsFit (judge source.info o.0) in
    let after : StackEntry → Type 0 = λ e. source.first ≤ e.operator_idx in
    let block = shapes_in source in
    let n = length source.operators in
    let n_is : n ≡ length block = sym (block_length source.info source.operators h.fit) in
    let push = block_push source.info source.operators o s (sym e) in
    let state = state_more source n s old new (shape_fit source.info o.0 s (sym e)) (kept_below source old h) a in
    let next : grown (state_of source old) s n old.color ≡ graph source.preserving (s ∷ block) = λ i. grown (h.state i) s (n_is i) (h.color i) in
    let own_is = place_is source old h s in
    record {
      fit = All-push fits source.operators o h.fit (subst IsFit e tt);
      small = subst (IsSmall source.preserving) (sym push) (
        h.small,
        let w = wholes-forest (s ∷ block) in omega arith,
        subst (λ x. x < 4294967295) h.color q,
      );
      missing = All_added IsOwnOrUndef s (source.first + n) old new a h.missing (λ e. refl)
          (λ e. some_none s.instr (sym a.own_instr ∙ e));
      state = state ∙ (next ∙ ap (graph source.preserving) (sym push));
      first = a.first ∙ h.first;
      count = ap length a.named ∙ (length-append old.map.entries.items (own_index s.operands old ∷ []) ∙
          (ap (λ x. x + 1) h.count ∙ sym (length-append source.operators (o ∷ []))));
      names = names_more source n s old new state h.count h.names a;
      later = All-map (λ (x : EntryView). source.first ≤ x.operator) entry_view new.entries.items (All_added after s (source.first + n)
          old new a (later_entries source.first old.entries.items h.later) (omega arith) (let at = a.own_operator in omega arith));
      measured = measured_more source.info source.first n s block old.entries.items new.entries.items old.subtrees.items
          new.subtrees.items old.color old.stack.items (lacks s.operands old) (taken_of s.operands old) (state_of source old)
          (kept_graph source old h) refl refl (ap (λ (x : GraphGrowth). x.nodes) state) q refl refl h.measured a.subtrees;
      color = r ∙ (ap (λ x. if source.preserving then x + s.change else x) h.color ∙ (color_more source.preserving s block ∙
          ap (color_after source.preserving) (sym push)));
    }

pub kept_next : (source : Source) (i : ℕ) (d : Operator × ℕ) (given : Shape) (old new : Growing) → i < length source.operators → Kept (front source i) old →
    Fits given ≡ judge source.info (get_or source.operators i d).0 → Added given (source.first + i) old new →
    own_index given.operands old < 4294967296 → old.color < 4294967295 → new.color ≡ (if source.preserving then old.color + given.change else old.color) →
    Kept (front source (i + 1)) new
kept_next source i d given old new l h e a p q r = subst (λ x. Kept (over source x) new) (sym (take_more source.operators i d l))
    (kept_more (front source i) (get_or source.operators i d) given old new h e (subst (λ n. Added given (source.first + n) old new)
    (let f = length-take i source.operators in omega arith) a) p q r)
