-- What the rules on indices of branches by a table make may stand in the place of what stood there: an index that is bounded by the number of labels or isn't.
use Rattle.std.proofs.Common.{◌≡◌, ℕ, ◌+◌, ◌<◌, ◌≤◌, List, [], ◌∷◌, ◌++◌, length, map, take, drop, refl, sym, ap, ap₂, subst, ◌∙◌, arith, append-nil}
use Rattle.std.specs.Prelude.{slice_range}
use Rattle.std.specs.List.{All}
use Rattle.std.proofs.lemmas.List.{map-append}
use Rattle.wasm_code.specs.Instruction.{Instruction}
use Rattle.wasm_code.specs.declared.operator.Operator.{Operator}
use Rattle.wasm_code.specs.declared.operator.Operator.TheVariants as op
use Rattle.wasm_types.specs.declared.types.PrimitiveTypeInfo.TheVariants as primitive
use Rattle.body_splices.specs.declared.piece.Piece.{Piece}
use Rattle.body_splices.specs.declared.piece.Piece.TheVariants.{Kept}
use Rattle.body_splices.specs.OwnBytes.{none_of, without_offsets}
use Rattle.body_splices.specs.Splice.{IsPieceIn}
use Rattle.body_splices.specs.Laws.{pieces_operators}
use Rattle.wasm_execution.specs.declared.integer.IntegerType.TheVariants as integer
use Rattle.wasm_execution.specs.Values.{Context}
use Rattle.wasm_equivalence.specs.control.Standard.{asks_beyond}
use Rattle.wasm_equivalence.specs.hosts.Embedder.{with_operators}
use Rattle.wasm_equivalence.specs.validation.StaysValid.{Pushes}
use Rattle.wrapped_code.specs.Alike.{SameAs}
use Rattle.wrapped_code.specs.Indices.{LabelAlike}
use Rattle.rewrite_rules.specs.Instance.{constant_code}
use Rattle.rewrite_rules.specs.Flow.{below_code, select_code, bounded_code}
use Rattle.body_rewrites.specs.declared.own.Made.TheVariants as made
use Rattle.body_rewrites.specs.Trees.{Stands}
use Rattle.body_rewrites.specs.Doing.{DoesAsBody}
use Rattle.body_rewrites.specs.Changes.{Change, changed, MayStand}
use Rattle.body_rewrites.specs.Own.{HasTable, IsBounded, IsIndex, change_of}
use Rattle.body_rewrites.proofs.StandsLemmas.{Operators}
use Rattle.body_rewrites.proofs.CodeLemmas.{stands_both}
use Rattle.body_rewrites.proofs.LeavesLemmas.{trees_leave}
use Rattle.body_rewrites.proofs.ChangedLemmas.{three_parts, code_unasked}
use Rattle.body_rewrites.proofs.WritingLemmas.{range_alone}
use Rattle.body_rewrites.proofs.FlowLemmas.{drop_one, there_inside, tree_range}
use Rattle.body_rewrites.proofs.IndexLemmas.{bound_behind}
use Rattle.body_rewrites.proofs.FlowStandLemmas.{FlowLaws, all_in, kept}

abbrev instr_of : Instruction → Operator
instr_of i = op.Instr i

module _ (context : Context) (operators : Operators) (at : ℕ) where
  abbrev os : List Operator
  os = without_offsets operators

  -- ---- an index in the place of another one

  module _ (laws : FlowLaws) (begin : ℕ) (pieces : (word : ℕ) → List Piece) (own code : List Instruction) (count : ℕ) (ordered : begin ≤ at)
      (stands : slice_range os begin (at + 1) ≡ map instr_of own) (are : (word : ℕ) → pieces_operators os (pieces word) ≡ map instr_of code)
      (within : (word : ℕ) → at + 1 < length operators → All (IsPieceIn operators) (pieces word)) (behind : HasTable operators (at + 1) count)
      (pushes : Pushes context own [] (primitive.I32 ∷ [])) (pushes_so : Pushes context code [] (primitive.I32 ∷ []))
      (same_label : SameAs (LabelAlike count) context own code) where
    abbrev indexing : Change
    indexing = record { start = begin; pieces = pieces; asks = [] }

    branch_is : drop (at + 1) os ≡ op.BrTable count ∷ drop (at + 1 + 1) os
    branch_is = drop_one os (at + 1) (op.BrTable count) behind.has

    index_does : (word : ℕ) → DoesAsBody context [] os (changed operators at indexing word)
    index_does word m input b same is =
        laws.indices m input b (with_operators (changed operators at indexing word) b) (record {
          params_are = refl;
          locals_are = refl;
          front = take begin os;
          back = drop (at + 1 + 1) os;
          own = own;
          code = code;
          count = count;
          old_is = sym is
              ∙ (three_parts os begin (at + 1) (omega (arith, ordered))
              ∙ ap₂ (λ (a b : List Operator). take begin os ++ (a ++ b)) stands branch_is);
          new_is = ap₂ (λ (a b : List Operator). take begin os ++ (a ++ b)) (are word) branch_is;
          pushes = subst (λ (k : Context). Pushes k own [] (primitive.I32 ∷ [])) same pushes;
          pushes_so = subst (λ (k : Context). Pushes k code [] (primitive.I32 ∷ [])) same pushes_so;
          same = subst (λ (k : Context). SameAs (LabelAlike count) k own code) same same_label;
        })

    index_stands : MayStand context operators at indexing
    index_stands = record {
      ordered = ordered;
      followed = λ inside last. there_inside operators (at + 1) (op.BrTable count) behind.has;
      within = within;
      unasked = ap (none_of asks_beyond) stands ∙ code_unasked own;
      unasking = λ word. ap (none_of asks_beyond) (are word) ∙ code_unasked code;
      does = λ word inside none. index_does word;
    }

  module _ (laws : FlowLaws) (start : ℕ) where
    -- ---- a bound put

    module _ (count : ℕ) (h : IsIndex context operators start at count) where
      abbrev bounding : Change
      bounding = change_of at (record { start = start; made = made.Bounded count })

      abbrev limit : Instruction
      limit = constant_code integer.I32 count

      abbrev picks : List Instruction
      picks = limit ∷ below_code ∷ select_code ∷ []

      index_is : slice_range os start (at + 1) ≡ map instr_of h.tree.code
      index_is = tree_range context operators start at (at + 1) primitive.I32 h.tree refl

      bounded_is : (word : ℕ) → pieces_operators os (bounding.pieces word) ≡ map instr_of (bounded_code count h.tree.code)
      bounded_is word =
          ap (λ (l : List Operator). l ++ (instr_of limit ∷ (l ++ map instr_of picks))) index_is
          ∙ sym (map-append instr_of h.tree.code (limit ∷ (h.tree.code ++ picks))
          ∙ ap (λ (l : List Operator). map instr_of h.tree.code ++ (instr_of limit ∷ l)) (map-append instr_of h.tree.code picks))

      pub bound_stands : MayStand context operators at bounding
      bound_stands =
          let leaves = trees_leave context operators start at primitive.I32 h.tree in
          let o = h.tree.ordered in
          index_stands laws start bounding.pieces h.tree.code (bounded_code count h.tree.code) count o index_is bounded_is
          (λ word l.
          let here = kept context operators at start (at + 1) (omega (arith, o)) l in
          all_in context operators at (bounding.pieces word) (here, (tt, (here, (tt, (tt, (tt, tt)))))))
          h.behind (laws.bounds.pushes context h.tree.code leaves) (laws.bounds.pushes_bounded context h.tree.code count h.behind.fits leaves)
          (laws.bounds.bounded context h.tree.code count h.behind.fits leaves h.reads)

    -- ---- a bound taken away

    module _ (end : ℕ) (h : IsBounded context operators start at end) where
      abbrev code : List Instruction
      code = h.tree.code

      before_end : start ≤ end
      before_end = let e = h.last_is in let l = h.tree.ordered in omega (arith, e, l)

      end_before : end < at
      end_before = bound_behind context operators start at end h

      all_stand : Stands operators start (at + 1) (bounded_code h.count code)
      all_stand =
          let l = end_before in
          stands_both operators start end (at + 1) code
          (constant_code integer.I32 h.count ∷ (code ++ (constant_code integer.I32 h.count ∷ below_code ∷ select_code ∷ []))) before_end (omega (arith, l))
          (subst (λ k. Stands operators start k code) h.last_is h.tree.stands) h.stands

      left_stands : MayStand context operators at (change_of at (record { start = start; made = made.Inner start end }))
      left_stands =
          let leaves = trees_leave context operators start h.last primitive.I32 h.tree in
          let b = before_end in
          let l = end_before in
          index_stands laws start (λ word. Kept start end ∷ []) (bounded_code h.count code) code h.count (omega (arith, b, l))
          (range_alone operators start (at + 1) ∙ all_stand)
          (λ word. append-nil (slice_range os start end) ∙ tree_range context operators start h.last end primitive.I32 h.tree h.last_is)
          (λ word inside.
          all_in context operators at (Kept start end ∷ []) (kept context operators at start end b (omega (arith, l, inside)), tt))
          h.behind (laws.bounds.pushes_bounded context code h.count h.behind.fits leaves) (laws.bounds.pushes context code leaves)
          (laws.bounds.bounded_turned context code h.count h.behind.fits leaves h.reads)

    pub unbound_stands : (from end : ℕ) → from ≡ start → IsBounded context operators start at end →
        MayStand context operators at (change_of at (record { start = start; made = made.Inner from end }))
    unbound_stands from end e h =
        subst (λ k. MayStand context operators at (change_of at (record { start = start; made = made.Inner k end }))) (sym e) (left_stands end h)
