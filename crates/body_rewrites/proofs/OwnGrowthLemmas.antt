-- What rules beside the table do to the number of operators.
use Rattle.std.proofs.Common.{◌≡◌, ℕ, suc, ◌+◌, ◌-◌, ◌<◌, inl, inr, List, [], ◌∷◌, ◌++◌, length, take, drop, refl, sym, ap, subst, ◌∙◌, arith}
use Rattle.std.specs.Prelude.{◌==◌, nat_lt, if◌then◌else◌, slice_range}
use Rattle.std.proofs.lemmas.Bool.{cases_eq, cases_lt, eq-eqb, le-ltb, lt-ltb, ne_eqb}
use Rattle.std.proofs.lemmas.List.{drop-map, take-map, length-append}
use Rattle.wasm_code.specs.Instruction.{Instruction}
use Rattle.wasm_code.specs.declared.immediate.BlockType.TheVariants.{Value}
use Rattle.wasm_code.specs.declared.operator.Operator.{Operator}
use Rattle.wasm_code.specs.declared.operator.Operator.TheVariants as op
use Rattle.body_splices.specs.OwnBytes.{without_offsets}
use Rattle.body_splices.specs.declared.piece.Piece.TheVariants.{Kept}
use Rattle.body_splices.specs.Laws.{pieces_operators}
use Rattle.wasm_execution.specs.declared.integer.IntegerType.TheVariants as integer
use Rattle.wasm_execution.specs.Values.{Context}
use Rattle.rewrite_rules.specs.declared.growth.Growth.TheVariants as rows
use Rattle.rewrite_rules.specs.Access.{conversion_size, right_code}
use Rattle.rewrite_rules.specs.Beside.{drop_code, get_global, set_global}
use Rattle.rewrite_rules.specs.Flow.{zero_code, ne_code, eqz_code, below_code, select_code}
use Rattle.rewrite_rules.specs.Instance.{constant_code}
use Rattle.rewrite_rules.specs.declared.table.Own.{Own}
use Rattle.rewrite_rules.specs.declared.table.Own.TheVariants.{Unfold, ThroughGlobal, WithNop, Fold, Forget, TeeToSet, DropNop, SetToTee}
use Rattle.rewrite_rules.specs.declared.table.Own.TheVariants.{Access as Accesses, Wrap as Wraps, Unwrap as Unwraps}
use Rattle.rewrite_rules.specs.declared.table.Own.TheVariants.{SelectToIf, IfToSelect, TestCondition, DropConditionTest, DoubleCondition}
use Rattle.rewrite_rules.specs.declared.table.Own.TheVariants.{DropDoubleCondition, PutDead, DropDead}
use Rattle.rewrite_rules.specs.declared.table.Own.TheVariants.{BoundIndex, DropIndexBound, BrIfToIf, IfToBrIf}
use Rattle.body_rewrites.specs.declared.own.Made.{Made}
use Rattle.body_rewrites.specs.declared.own.Made.TheVariants as made
use Rattle.body_rewrites.specs.declared.own.Site.{Site}
use Rattle.body_rewrites.specs.Changes.{Change}
use Rattle.body_rewrites.specs.Growth.{IsGrowth, HasGrowth}
use Rattle.body_rewrites.specs.Open.{HasInstruction}
use Rattle.body_rewrites.specs.Own.{Rewrites, IsTested, new, made_pieces, change_of, IsOwnChange}
use Rattle.body_rewrites.specs.OwnSites.{growth_of, in_bodies}
use Rattle.body_rewrites.proofs.AccessLemmas.{access_start, side_size}
use Rattle.body_rewrites.proofs.StandsLemmas.{Operators}
use Rattle.body_rewrites.proofs.MatchingLemmas.{length_in}
use Rattle.body_rewrites.proofs.OperationCodeLemmas.{takes}
use Rattle.body_rewrites.proofs.OwnAloneLemmas.{count_left}
use Rattle.body_rewrites.proofs.WrapLemmas.{front_some, wrapped_count, inner_count}
use Rattle.body_rewrites.proofs.FlowLemmas.{range_count, there_inside}
use Rattle.body_rewrites.proofs.IndexLemmas.{bound_behind, bound_inside}

-- the growth of a row is so in bodies
grows_so : (left right new old : ℕ) → new ≡ right + 1 → old ≡ left + 1 →
    IsGrowth (in_bodies (if nat_lt right left then rows.Shrinks else (if right == left then rows.Keeps else rows.Grows))) new old
grows_so left right new old e f = elim (cases_lt right left) [
  | inl less ↦
      subst (λ b. IsGrowth (in_bodies (if b then rows.Shrinks else (if right == left then rows.Keeps else rows.Grows))) new old)
      (sym (lt-ltb right left less)) (let l : new < old = omega (arith, e, f, less) in l)
  | inr high ↦
      subst (λ b. IsGrowth (in_bodies (if b then rows.Shrinks else (if right == left then rows.Keeps else rows.Grows))) new old)
      (sym (le-ltb right left high)) (elim (cases_eq right left) [
        | inl same ↦
            subst (λ b. IsGrowth (in_bodies (if b then rows.Keeps else rows.Grows)) new old) (sym (eq-eqb right left same))
            (let s : new ≡ old = omega (arith, e, f, same) in s)
        | inr other ↦
            subst (λ b. IsGrowth (in_bodies (if b then rows.Keeps else rows.Grows)) new old) (sym (ne_eqb right left other))
            (let l : old < new = omega (arith, e, f, high, other) in l)
      ])
]

module _ (context : Context) (operators : Operators) (at : ℕ) where
  new_count : (code : List Instruction) → length (pieces_operators (without_offsets operators) (new code)) ≡ length code
  new_count [] = refl
  new_count (i ∷ code) = ap suc (new_count code)

  -- as many operators are kept as the tree has
  kept_count : (start : ℕ) (more : List Operator) → at < length operators →
      length (slice_range (without_offsets operators) start (at + 1) ++ more) ≡ at + 1 - start + length more
  kept_count start more l =
      let kept : slice_range (without_offsets operators) start (at + 1) ≡ without_offsets (slice_range operators start (at + 1)) =
      ap (take (at + 1 - start)) (drop-map (λ (o : Operator × ℕ). o.0) start operators)
      ∙ take-map (λ (o : Operator × ℕ). o.0) (at + 1 - start) (drop start operators) in
      length-append (slice_range (without_offsets operators) start (at + 1)) more
      ∙ ap (λ n. n + length more) (ap length kept ∙ length_in operators start (at + 1) (omega (arith, l)))

  abbrev os : List Operator
  os = without_offsets operators

  inside_of : (k : ℕ) (i : Instruction) → HasInstruction operators k i → k < length operators
  inside_of k i h = there_inside operators k (op.Instr i) h

  untested : (start from end : ℕ) (one other : Instruction) → from ≡ start → IsTested context operators one other start at end →
      length (pieces_operators os (Kept from end ∷ [])) < at + 1 - start
  untested start from end one other e h =
      let ordered = h.tree.ordered in
      let last = h.last_is in
      let ends = h.ends in
      let inside = inside_of at other h.second in
      let count = inner_count operators from end (omega (arith, last, ordered, e)) (omega (arith, ends, inside)) in
      omega (arith, count, ends, last, ordered, e)

  pub growth_at : (own : Own) (start : ℕ) (m : Made) → Rewrites context operators own start at m → (word : ℕ) →
      IsGrowth (growth_of m) (length (pieces_operators (without_offsets operators) (made_pieces start at m word))) (at + 1 - start)
  growth_at Unfold start (made.Sum t n) (e, c) word = (let l : at + 1 - start < 3 = omega (arith, e) in l)
  growth_at ThroughGlobal start (made.Global t g) (tree, number, index, small) word =
      let count = kept_count start (pieces_operators (without_offsets operators) (new (set_global g ∷ get_global g ∷ []))) tree.inside in
      omega (arith, count)
  growth_at WithNop start made.Nop (t, tree) word = let count = kept_count start [] tree.inside in omega (arith, count)
  growth_at Fold start (made.Constant t n) f word =
      let ends = f.ends in
      let count = sym (count_left f.operands) ∙ ap length f.typed in
      elim (takes f.operation) [
        | inl one ↦ (let l : 1 < at + 1 - start = omega (arith, ends, count, one) in l)
        | inr two ↦ (let l : 1 < at + 1 - start = omega (arith, ends, count, two) in l)
      ]
  growth_at Forget start made.Nothing f word =
      let ends = f.ends in
      let ordered = f.tree.ordered in
      (let l : 0 < at + 1 - start = omega (arith, ends, ordered) in l)
  growth_at TeeToSet start (made.SetAndGet n) (e, h) word = (let l : at + 1 - start < 2 = omega (arith, e) in l)
  growth_at DropNop start made.Nothing (e, h) word = (let l : 0 < at + 1 - start = omega (arith, e) in l)
  growth_at SetToTee start (made.Tee n) (e, h, g) word = (let l : 1 < at + 1 - start = omega (arith, e) in l)
  growth_at (Accesses n) start (made.Access a w) f word =
      let begins = access_start context operators n start at a w f in
      let count = new_count (right_code a w) in
      let size = side_size a.kind a.right.row a.right.conversion w in
      grows_so (conversion_size a.left.conversion) (conversion_size a.right.conversion) _ (at + 1 - start) (count ∙ size) (omega (arith, begins))
  growth_at (Wraps w) start (made.Wrapped v t) (e, room, u, n, tree) word =
      let count = wrapped_count operators start at v t word (length_in operators start (at + 1) (omega (arith, tree.inside))) in
      let some = front_some v in
      omega (arith, count, some)
  growth_at (Unwraps w) start (made.Inner from end) h word =
      let some = front_some w in
      let ordered = h.tree.ordered in
      let last = h.last_is in
      let begins = h.begins in
      let ends = h.ends in
      let inside = h.inside in
      let count = inner_count operators from end (omega (arith, last, ordered)) (omega (arith, ends, inside)) in
      (let l : length (pieces_operators (without_offsets operators) (Kept from end ∷ [])) < at + 1 - start =
      omega (arith, count, some, begins, ends, last, ordered) in l)
  growth_at SelectToIf start (made.Conditional v condition) (room, h) word =
      let read = h.read.tree.ordered in
      let last = h.read.last_is in
      let begins = h.condition_is in
      let inside = inside_of at select_code h.selects in
      let one = range_count operators condition at (omega (arith, inside)) in
      let two = range_count operators start (condition - 1) (omega (arith, inside, read, last)) in
      let three = range_count operators (condition - 1) condition (omega (arith, inside, read, last)) in
      let first = length-append (slice_range os condition at) (op.If (Value v) ∷ (slice_range os start (condition - 1)
      ++ (op.Else ∷ (slice_range os (condition - 1) condition ++ (op.End ∷ []))))) in
      let second = length-append (slice_range os start (condition - 1)) (op.Else ∷ (slice_range os (condition - 1) condition ++ (op.End ∷ []))) in
      let third = length-append (slice_range os (condition - 1) condition) (op.End ∷ []) in
      (let l : at + 1 - start < length (pieces_operators os (made_pieces start at (made.Conditional v condition) word)) =
      omega (arith, read, last, begins, one, two, three, first, second, third) in l)
  growth_at IfToSelect start made.Selected h word =
      let read = h.read.tree.ordered in
      let last = h.read.last_is in
      let ends = h.ends in
      let inside = h.inside in
      let one = range_count operators (at - 3) (at - 2) (omega (arith, inside)) in
      let two = range_count operators (at - 1) at (omega (arith, inside)) in
      let three = range_count operators start (at - 4) (omega (arith, inside)) in
      let first = length-append (slice_range os (at - 3) (at - 2)) (slice_range os (at - 1) at
      ++ (slice_range os start (at - 4) ++ (op.Instr select_code ∷ []))) in
      let second = length-append (slice_range os (at - 1) at) (slice_range os start (at - 4) ++ (op.Instr select_code ∷ [])) in
      let third = length-append (slice_range os start (at - 4)) (op.Instr select_code ∷ []) in
      (let l : length (pieces_operators os (made_pieces start at made.Selected word)) < at + 1 - start =
      omega (arith, read, last, ends, one, two, three, first, second, third) in l)
  growth_at TestCondition start made.Tested h word =
      let count = kept_count start (pieces_operators os (new (zero_code ∷ ne_code ∷ []))) h.tree.inside in omega (arith, count)
  growth_at DropConditionTest start (made.Inner from end) (e, h) word = untested start from end zero_code ne_code e h
  growth_at DoubleCondition start made.DoublyTested h word =
      let count = kept_count start (pieces_operators os (new (eqz_code ∷ eqz_code ∷ []))) h.tree.inside in omega (arith, count)
  growth_at DropDoubleCondition start (made.Inner from end) (e, h) word = untested start from end eqz_code eqz_code e h
  growth_at PutDead start made.Dead (e, h) word =
      let count = kept_count start (pieces_operators os (new (constant_code integer.I32 word ∷ drop_code ∷ [])))
      (there_inside operators at h.leave.operator h.leave.has) in
      omega (arith, count)
  growth_at DropDead start made.Nothing h word =
      let last = h.last_is in
      let ordered = h.tree.ordered in
      (let l : 0 < at + 1 - start = omega (arith, last, ordered) in l)
  growth_at BoundIndex start (made.Bounded count) h word =
      let limit = op.Instr (constant_code integer.I32 count) in
      let size = kept_count start (limit ∷ (slice_range os start (at + 1) ++ (limit ∷ op.Instr below_code ∷ op.Instr select_code ∷ []))) h.tree.inside in
      omega (arith, size)
  growth_at DropIndexBound start (made.Inner from end) (e, h) word =
      let ordered = h.tree.ordered in
      let last = h.last_is in
      let place = bound_behind context operators start at end h in
      let inside = bound_inside context operators start at end h in
      let count = inner_count operators from end (omega (arith, last, ordered, e)) (omega (arith, place, inside)) in
      (let l : length (pieces_operators os (Kept from end ∷ [])) < at + 1 - start = omega (arith, count, place, last, ordered, e) in l)
  growth_at BrIfToIf start (made.InConditional label) (e, room, h) word = (let l : at + 1 - start < 3 = omega (arith, e) in l)
  growth_at IfToBrIf start (made.BranchIf label) h word = let ends = h.ends in (let l : 1 < at + 1 - start = omega (arith, ends) in l)
  growth_at own start m r word = absurd r

  pub is_growing : (own : Own) (site : Site) → Rewrites context operators own site.start at site.made →
      (change : Change) × IsOwnChange context operators own at change × HasGrowth operators at change (growth_of site.made)
  is_growing own site r =
      (change_of at site, record { site = site; rewrites = r; is = refl }, growth_at own site.start site.made r)
