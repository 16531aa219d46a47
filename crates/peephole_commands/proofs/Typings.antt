-- What `result` answers, by what its calls answer.
use Rattle.std.proofs.Common.{◌≡◌, ℕ, ◌+◌, ◌-◌, List, length, Option, Some, None, Ok, Err, inl, inr, ◌⊎◌, refl, sym, ap, ◌∙◌, arith, Bool, true, false}
use Rattle.std.specs.Prelude.{nat_lt, Result, IfSome, IsSome, MatchResult, slice_get, if◌then◌else◌}
use Rattle.std.specs.Result.{result_ok, result_map_both}
use Rattle.std.proofs.lemmas.Option.{same_Some, slice_get_within}
use Rattle.wasm_code.specs.Instruction.{Instruction}
use Rattle.wasm_code.specs.Table.{row_info_of}
use Rattle.wasm_types.specs.Module.{Module}
use Rattle.mutate_base.specs.declared.error.Error.{Error}
use Rattle.mutate_base.specs.declared.error.Error.TheVariants.{Memory}
use Rattle.wasm_types.specs.declared.types.PrimitiveTypeInfo.{PrimitiveTypeInfo}
use Rattle.wasm_types.specs.declared.types.PrimitiveTypeInfo.TheVariants.{Empty}
use Rattle.peephole_nodes.specs.Payload.{imm_of, is_writable}
use Rattle.peephole_lang.specs.declared.lang.Lang.TheVariants.{Undef}
use Rattle.peephole_lang.specs.Lang.{place_of, payload_of}
use Rattle.peephole_lang.specs.Node.{head_of, instr_of_head}
use Rattle.peephole_lang.specs.Term as term
use Rattle.peephole_lang.specs.Term.{Term, Terms, tree_at}
use Rattle.peephole_lang.specs.declared.lang.Head.{Head}
use Rattle.peephole_analysis.specs.Analysis.{Analysis, head_type, row_type, instruction_type, rowless_types, or_empty}
use Rattle.peephole_analysis.specs.TermTypes.{term_type, first_term_type}
use Rattle.peephole_graphs.specs.declared.dfg.MiniDFG.{MiniDFG}
use Rattle.peephole_graphs.specs.declared.shape.Shape.{Shape}
use Rattle.peephole_graphs.specs.Dfg.{graph_of}
use Rattle.peephole_graphs.specs.Entries.{entry_tree}
use Rattle.peephole_graphs.specs.EntryTrees.{EndsWithTheLastTree}
use Rattle.peephole_graphs.specs.Faults.{HasNoFault}
use Rattle.peephole_graphs.specs.Forest.{forest}
use Rattle.peephole_graphs.specs.Layout.{entry_nodes}
use Rattle.peephole_terms.specs.Written.{source_at, block_shapes}
use Rattle.peephole_graphs.specs.Shown.{last_tree_of}
use Rattle.peephole_graphs.specs.Tree.{Tree, Trees, entry, node, no_trees, ◌▸◌}
use Rattle.peephole_graphs.specs.TermOf.{IsTermOf, AreTermsOf, HasTermsOfTrees}
use Rattle.peephole_commands.specs.declared.graphs.Refusal.{Refusal}
use Rattle.peephole_commands.specs.declared.graphs.Refusal.TheVariants as refusal
use Rattle.peephole_commands.specs.Graphs.{of_graph, site_of, IsPlaceInBlock, IsGraphIn, AnswersAs}
use Rattle.peephole_commands.specs.Results.{tree_type, first_tree_type, result_output}
use Rattle.peephole_terms.specs.Laws.{OperatorsHaveEntries}
use Rattle.peephole_commands.specs.declared.place.Place.{Place}
use Rattle.peephole_commands.proofs.Refusals.{shapes_found}
use Rattle.peephole_commands.proofs.Shows.{place_length}

-- ---- a term's type is that of the tree that it stands for

abbrev chosen : (rowless writable : Bool) → (row : ℕ) → Head → Option Instruction
chosen rowless writable row h = if rowless then None else if writable then Some (record { row = row; imm = imm_of h.payload }) else None

by_row : (a : Analysis) (first : Option PrimitiveTypeInfo) (h : Head) (i : Instruction) (rowless writable : Bool) (row : ℕ)
    (t : Result PrimitiveTypeInfo Error) →
    chosen rowless writable row h ≡ Some i → (if rowless then t else row_type a first (imm_of h.payload) (row_info_of row)) ≡ instruction_type a first i
by_row a first h i true writable row t e = absurd (cc)
by_row a first h i false false row t e = absurd (cc)
by_row a first h i false true row t e = ap (instruction_type a first) (same_Some _ _ e)

own_type : (a : Analysis) (first : Option PrimitiveTypeInfo) (h : Head) (i : Instruction) → instr_of_head h ≡ Some i →
    head_type a first h ≡ instruction_type a first i
own_type a first h i e =
    by_row a first h i (nat_lt h.place 12) (is_writable h.payload) (h.place - 12) (Ok (or_empty (slice_get rowless_types h.place))) e

missing_type : (a : Analysis) → head_type a None (head_of Undef) ≡ Ok Empty
unfolding place_of payload_of
missing_type a = refl

mutual
  same_type : (a : Analysis) (t : Term Head) (u : Tree) → IsTermOf t u → term_type a t ≡ tree_type a u
  same_type a t (entry m) h = ap (term_type a) h ∙ missing_type a
  same_type a term.absent (node i s operands) h = absurd h
  same_type a (term.node x kids) (node i s operands) h =
      own_type a (first_term_type a kids) x s.instr h.0 ∙ ap (λ first. instruction_type a first s.instr) (same_first a kids operands h.1)

  same_first : (a : Analysis) (ts : Terms Head) (us : Trees) → AreTermsOf ts us → first_term_type a ts ≡ first_tree_type a us
  same_first a term.no_terms no_trees h = refl
  same_first a term.no_terms (u ▸ us) h = absurd h
  same_first a (term.◌▸◌ t ts) no_trees h = absurd h
  same_first a (term.◌▸◌ t ts) (u ▸ us) h = ap result_ok (same_type a t u h.0)

-- ---- the point's type

-- what a call told of the point's own term, whose type is `said`
abbrev Told : Result PrimitiveTypeInfo Error → Result PrimitiveTypeInfo Error → Type 0
Told said result = MatchResult result (λ t. said ≡ Ok t) (λ e. (e ≡ Memory) ⊎ (said ≡ Err e))

abbrev refusing : Result PrimitiveTypeInfo Error → Result PrimitiveTypeInfo Refusal
refusing r = result_map_both (λ t. t) refusal.Refused r

-- the point has its own entry
pub point_there : OperatorsHaveEntries → (info : Module) (preserving : Bool) (p : Place) (graph : MiniDFG) → IsPlaceInBlock p →
    IsGraphIn info preserving p graph → IsSome ((graph_of graph).own_entry p.point)
point_there law info preserving p graph place g =
    let last = place.block.last in
    let within = place.within in
    law info preserving (site_of p) (graph_of graph) (omega arith) g p.point
    place.block.some (omega arith)

-- the type of the point is that of its entry's term
typed_is : HasNoFault → EndsWithTheLastTree → HasTermsOfTrees → (a : Analysis) (preserving : Bool) (p : Place) (graph : MiniDFG) (i : ℕ) →
    IsPlaceInBlock p → IsGraphIn a.info preserving p graph → (graph_of graph).own_entry p.point ≡ Some i →
    result_output a preserving (site_of p) ≡ refusing (term_type a (tree_at (entry_nodes (graph_of graph).entries) i))
typed_is fits ends stand a preserving p graph i place g at =
    let s = source_at a.info preserving (site_of p) in
    let first = p.block.now.start in
    let n = p.point - first in
    let e = place_length p place in
    let entries = (graph_of graph).entries in
    let some = place.block.some in
    let point : first + n ≡ p.point = omega arith in
    let own = (g.finds p.point i).0 at in
    let there = slice_get_within entries i own.0 own.1 in
    let here : i ≡ length entries - 1 = same_Some i _ (sym at ∙ (ap (graph_of graph).own_entry (sym point) ∙ (g.last n e).0)) in
    let tree : last_tree_of (entry 0) (forest (block_shapes a.info (site_of p))) ≡ entry_tree s (graph_of graph) i =
    ends s (graph_of graph) g n e ∙ ap (entry_tree s (graph_of graph)) (sym here) in
    ap (λ (r : Result (List Shape) Refusal). of_graph r (λ block. refusing (tree_type a (last_tree_of (entry 0) (forest block)))))
    (shapes_found fits a.info preserving p graph g)
    ∙ ap refusing (ap (tree_type a) tree ∙ sym (same_type a (tree_at (entry_nodes entries) i) (entry_tree s (graph_of graph) i)
    (stand s (graph_of graph) g i there)))

-- what is told of the term is told of the point
told_so : (said : Result PrimitiveTypeInfo Error) (whole : Result PrimitiveTypeInfo Refusal) (result : Result PrimitiveTypeInfo Error) →
    whole ≡ refusing said → Told said result → AnswersAs (λ t. t) whole (refusing result)
told_so said whole (Ok t) w h = w ∙ ap refusing h
told_so said whole (Err e) w (inl m) = inl (ap refusal.Refused m)
told_so said whole (Err e) w (inr h) = inr (w ∙ ap refusing h)

pub point_told : HasNoFault → EndsWithTheLastTree → HasTermsOfTrees → OperatorsHaveEntries → (a : Analysis) (preserving : Bool) (p : Place)
    (graph : MiniDFG) (result : Result PrimitiveTypeInfo Error) → IsPlaceInBlock p → IsGraphIn a.info preserving p graph →
    IfSome ((graph_of graph).own_entry p.point) (λ i. Told (term_type a (tree_at (entry_nodes (graph_of graph).entries) i)) result) →
    AnswersAs (λ t. t) (result_output a preserving (site_of p)) (refusing result)
point_told fits ends stand own a preserving p graph result place g told =
    go ((graph_of graph).own_entry p.point) refl (point_there own a.info preserving p graph place g) told
  where
    go : (looked : Option ℕ) → (graph_of graph).own_entry p.point ≡ looked → IsSome looked →
        IfSome looked (λ i. Told (term_type a (tree_at (entry_nodes (graph_of graph).entries) i)) result) →
        AnswersAs (λ t. t) (result_output a preserving (site_of p)) (refusing result)
    go None at some told = absurd (cc some)
    go (Some i) at some told = told_so _ _ result (typed_is fits ends stand a preserving p graph i place g at) told
