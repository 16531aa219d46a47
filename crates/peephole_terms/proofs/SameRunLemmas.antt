-- A block in which a term stands for the tree that it evaluates as runs as it did.
use Rattle.std.proofs.Common.{◌≡◌, ℕ, Bool, List, [], ◌∷◌, ◌++◌, length, map, inl, inr, Ok, refl, sym, ap, ◌∙◌, append-nil}
use Rattle.std.specs.Prelude.{◌≢◌, reverse}
use Rattle.std.specs.List.{All}
use Rattle.std.proofs.lemmas.Bool.{false≢true, cond-true}
use Rattle.std.proofs.lemmas.List.{reverse-reverse}
use Rattle.std.proofs.lemmas.List.Elements.{All-head, All-tail}
use Rattle.wasm_code.specs.Instruction.{Instruction}
use Rattle.wasm_code.specs.declared.operator.Operator.{Operator}
use Rattle.wasm_types.specs.Module.{Module}
use Rattle.wasm_types.specs.declared.types.PrimitiveTypeInfo.{PrimitiveTypeInfo}
use Rattle.peephole_lang.specs.declared.lang.Head.{Head}
use Rattle.peephole_lang.specs.Term.{Term, tree_at}
use Rattle.peephole_graphs.specs.Entries.{Graph, entry_tree}
use Rattle.peephole_graphs.specs.declared.shape.Shape.{Shape}
use Rattle.peephole_graphs.specs.declared.shape.Judged.{Judged}
use Rattle.peephole_graphs.specs.declared.shape.Judged.TheVariants.{Fits}
use Rattle.peephole_graphs.specs.Shape.{IsFit, AreFit, judge, and_shape, operator_shapes}
use Rattle.peephole_graphs.specs.Tree.{instructions_of, instructions}
use Rattle.peephole_graphs.specs.Forest.{forest, IsInOrder}
use Rattle.peephole_graphs.specs.GraphOf.{IsGraphOf}
use Rattle.peephole_graphs.specs.Source.{Source}
use Rattle.peephole_graphs.specs.Layout.{entry_nodes}
use Rattle.peephole_graphs.proofs.BuilderLemmas.{operator_fits}
use Rattle.peephole_graphs.proofs.forest.TreeOrder.{in_order_code}
use Rattle.wasm_execution.specs.Values.{Value, IsValue, types, Context, context_in, State, HasTypes, Outcome, Ends, Traps, Stuck, then_run, above}
use Rattle.wasm_execution.specs.Machine.{run}
use Rattle.wasm_execution.specs.Agreement.{with_globals, SameOutcome}
use Rattle.wasm_execution.specs.Laws.{Keeps}
use Rattle.wasm_execution.specs.OutcomeLemmas.{run_append, run_three}
use Rattle.wasm_execution.specs.StateLemmas.{none_of, with_more, Follows}
use Rattle.wasm_execution.specs.TypeLemmas.{run_keeps}
use Rattle.wasm_execution.specs.SameLemmas.{then_stuck, then_follows_run, run_follows, more_same, same_is}
use Rattle.peephole_terms.specs.NodeKind.{NumberType, primitive_of}
use Rattle.peephole_terms.specs.Expansion.{Setting, requests_of, expansion_of, expansion_in}
use Rattle.peephole_terms.specs.Written.{Site, source_at, block_operators, is_written, term_code, written_block}
use Rattle.peephole_terms.specs.EncoderSteps.{Writing}
use Rattle.peephole_terms.specs.Meaning.{meaning_of}
use Rattle.peephole_terms.specs.StackCode.{words_for}
use Rattle.peephole_terms.specs.SameRun.{EvaluatesAs, and_instruction, instructions_in, RunsAsBefore, AppendsSameRun}
use Rattle.peephole_terms.proofs.RootTerms.{block_part, own_replaced, own_itself}
use Rattle.peephole_terms.proofs.RereadLemmas.{instr_of, instructions_are}
use Rattle.peephole_terms.proofs.SettingLemmas.{HasWritten}
use Rattle.peephole_terms.proofs.MeaningLemmas.{typed_of}
use Rattle.peephole_terms.proofs.StackCodeLemmas.{code_follows}
use Rattle.peephole_terms.proofs.TermOfLemmas.{IsItself}

-- ---- a tree and a term that evaluates as it

-- The tree is written as these instructions, and the term as those.
pub record AreWritten (info : Module) (words : List ℕ) (tree t : Term Head) (own code : List Instruction) : Type 0 where
  pub itself : IsItself tree own
  pub expands : expansion_of (length info.globals) words t ≡ Ok code

no_globals : (s : State) → with_globals [] s ≡ s
no_globals s = ap (λ (gs : List Value). record s { globals = gs }) (append-nil s.globals)

none_more : (o : Outcome) → with_more [] o ≡ o
none_more (Ends vs s) = ap (Ends vs) (no_globals s)
none_more (Traps c gs r) = refl
none_more Stuck = refl

-- with no further globals the outcomes are equal
follows_alone : (o r : Outcome) → Follows [] o r → r ≡ o
follows_alone o r h = h.2 ∙ (ap (λ (gs : List Value). with_more gs o) (none_of h.0 h.1) ∙ none_more o)

module _ {locals : List PrimitiveTypeInfo} {info : Module} {words : List ℕ} {tree t : Term Head} {own code : List Instruction}
    (more : List PrimitiveTypeInfo) (a : EvaluatesAs (context_in info locals) words tree t) (x : AreWritten info words tree t own code) where
  abbrev context : Context
  context = context_in info locals

  -- the tree's own run is what it means
  tree_is : (stack : List Value) (s : State) → HasTypes context s → run own stack s ≡ above stack (meaning_of [] tree s)
  tree_is stack s h =
      ap (run own stack) (sym (no_globals s)) ∙
      follows_alone (above stack (meaning_of [] tree s)) (run own stack (with_globals [] s))
      (code_follows context a.list [] tree [] own a.first_types (x.itself.expands (length info.globals) []) stack s [] h
      (sym (ap (λ (ks : List NumberType). map primitive_of ks ++ []) x.itself.asks)))

  -- so the term's run follows the tree's
  pub tree_follows : (requested stack : List Value) (s : State) → HasTypes context s → types requested ≡ map primitive_of (requests_of t) ++ more →
      Follows requested (run own stack s) (run code stack (with_globals requested s))
  tree_follows requested stack s h hr =
      let same : meaning_of [] tree s ≡ meaning_of words t s =
      same_is context a.list a.list (meaning_of [] tree s) (meaning_of words t s) (typed_of context a.list tree [] s a.first_types h)
      (typed_of context a.list t words s a.second_types h) (a.means s h) in
      let it : run own stack s ≡ above stack (meaning_of words t s) = tree_is stack s h ∙ ap (above stack) same in
      rw it (code_follows context a.list more t words code a.second_types x.expands stack s requested h hr)

  -- behind the same instructions
  after_follows : (requested : List Value) (o r : Outcome) → types requested ≡ map primitive_of (requests_of t) ++ more → Keeps context o →
      Follows requested o r → Follows requested (then_run o (run own)) (then_run r (run code))
  after_follows requested o r hr k f =
      let g = go f.0 (f.1 ∙ hr) o k in (g.0, g.1 ∙ f.1, ap (λ x. then_run x (run code)) f.2 ∙ g.2)
    where
      go : (after : List Value) → types after ≡ map primitive_of (requests_of t) ++ more → (o : Outcome) → Keeps context o →
          Follows after (then_run o (run own)) (then_run (with_more after o) (run code))
      go after hr (Ends vs s) k = tree_follows after vs s k.1 hr
      go after hr (Traps c gs q) k = (after, refl, refl)
      go after hr Stuck k = (after, refl, refl)

  -- with the same instructions before and behind
  pub keeps_run : (front back : List Instruction) (stack : List Value) (s : State) (others requested : List Value) → All IsValue stack →
      HasTypes context s → types requested ≡ map primitive_of (requests_of t) ++ more → run ((front ++ own) ++ back) stack s ≢ Stuck →
      SameOutcome (run ((front ++ own) ++ back) stack (with_globals others s)) (run ((front ++ code) ++ back) stack (with_globals requested s))
  keeps_run front back stack s others requested hs h hr n =
      let first = run front stack s in
      let middle = then_run first (run own) in
      let all = then_run middle (run back) in
      let old : run ((front ++ own) ++ back) stack s ≡ all = run_three front own back stack s in
      let n' : all ≢ Stuck = λ e. n (old ∙ e) in
      let first_kept = run_keeps context front stack s h hs in
      let first_free : first ≢ Stuck = then_stuck (run own) first (then_stuck (run back) middle n') in
      let follows = after_follows requested first (run front stack (with_globals requested s)) hr first_kept
      (run_follows context front requested stack s h hs first_free) in
      let middle_kept : Keeps context middle =
      rw (run_append front own stack s) at (run_keeps context (front ++ own) stack s h hs) in
      let written = then_follows_run context requested back middle (then_run (run front stack (with_globals requested s)) (run code)) middle_kept follows n'
      (run_follows context back) in
      let alone = run_follows context ((front ++ own) ++ back) others stack s h hs n in
      let kept : Keeps context all = rw old at (run_keeps context ((front ++ own) ++ back) stack s h hs) in
      rw (alone.2 ∙ ap (with_more alone.0) old, run_three front code back stack (with_globals requested s) ∙ written.2)
      (more_same context alone.0 written.0 all kept n')

-- ---- the block's own instructions

one_fits : (info : Module) (o : Operator) (j : Judged) (ss : List Shape) (is : List Instruction) → judge info o ≡ j → IsFit j →
    instr_of ss ≡ is →
    instr_of (and_shape j ss) ≡ and_instruction o is
one_fits info o (Fits s) ss is e f h = rw (operator_fits info o s e, h) refl
one_fits info o _ ss is e f h = absurd f

fit_instructions : (info : Module) (os : List (Operator × ℕ)) → AreFit info os → instr_of (operator_shapes info os) ≡ instructions_in os
fit_instructions info [] fit = refl
fit_instructions info (o ∷ os) fit =
    one_fits info o.0 (judge info o.0) (operator_shapes info os) (instructions_in os) refl
    (All-head (λ (x : Operator × ℕ). IsFit (judge info x.0)) o os fit)
    (fit_instructions info os (All-tail (λ (x : Operator × ℕ). IsFit (judge info x.0)) o os fit))

-- in order, they are those of the forest
forest_instructions : (info : Module) (os : List (Operator × ℕ)) → AreFit info os → IsInOrder (reverse (operator_shapes info os)) →
    instructions (forest (reverse (operator_shapes info os))) ≡ instructions_in os
forest_instructions info os fit order =
    let shaped = reverse (operator_shapes info os) in
    instructions_are (forest shaped) ∙ (ap instr_of (in_order_code shaped order ∙ reverse-reverse (operator_shapes info os))
    ∙ fit_instructions info os fit)

-- ---- a block

module _ (s : Setting) (preserving : Bool) (site : Site) (g : Graph) (t : Term Head) (h : IsGraphOf (source_at s.info preserving site) g) where
  runs_as_before : (code : List Instruction) → term_code s site t ≡ Ok code → RunsAsBefore s site g t (written_block s.info site code)
  runs_as_before code e locals more r stack state others requested hs hv hr n =
      let source : Source = source_at s.info preserving site in
      let own = instructions_of (entry_tree source g r.entry) in
      elim (block_part source g site.at t h) [
        | inl none ↦ absurd (false≢true (sym none.0 ∙ r.root))
        | inr sp ↦
            let old : instructions_in (block_operators site) ≡ (sp.front ++ own) ++ sp.back =
            sym (forest_instructions s.info (block_operators site) h.fit r.order) ∙ (sym (own_replaced source g site.at r.entry h r.own) ∙ sp.round own) in
            let written : AreWritten s.info (words_for s t) (tree_at (entry_nodes g.entries) r.entry) t own code = record {
              itself = own_itself source g site.at r.entry h r.own;
              expands = sym (cond-true (is_written s.info site) (expansion_in s t) (Ok []) r.root) ∙ e;
            } in
            rw (old, sp.round code) (keeps_run more r.evaluates written sp.front sp.back stack state others requested hs hv hr (rw old at n))
      ]

  pub body_runs : {old : List ℕ} {v : Writing} → HasWritten s site t old v → AppendsSameRun s site g t old v.bytes
  body_runs w = record {
    code = w.body.code;
    expands = w.body.expands;
    appended = w.body.appended;
    runs = runs_as_before w.body.code w.body.expands;
  }
