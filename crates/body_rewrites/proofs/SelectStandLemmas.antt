-- What the rules on selects make may stand in the place of what stood there: a conditional for a select, and a select for it.
use Rattle.std.proofs.Common.{◌≡◌, ℕ, ◌+◌, ◌-◌, ◌≤◌, true, List, [], ◌∷◌, ◌++◌, map, take, drop, Some}
use Rattle.std.proofs.Common.{refl, sym, ap, ap₂, subst, ◌∙◌, arith}
use Rattle.std.specs.Prelude.{slice_range}
use Rattle.std.proofs.lemmas.List.{map-append}
use Rattle.wasm_code.specs.Instruction.{Instruction}
use Rattle.wasm_code.specs.declared.immediate.BlockType.TheVariants.{Value}
use Rattle.wasm_code.specs.declared.immediate.ValType.{ValType}
use Rattle.wasm_code.specs.declared.operator.Operator.{Operator}
use Rattle.wasm_code.specs.declared.operator.Operator.TheVariants as op
use Rattle.wasm_types.specs.declared.types.PrimitiveTypeInfo.TheVariants as primitive
use Rattle.body_splices.specs.OwnBytes.{none_of, without_offsets}
use Rattle.body_splices.specs.Laws.{pieces_operators}
use Rattle.wasm_execution.specs.Values.{Context}
use Rattle.wasm_equivalence.specs.control.Standard.{asks_beyond}
use Rattle.wasm_equivalence.specs.control.Wider.{wider}
use Rattle.wasm_equivalence.specs.hosts.Embedder.{with_operators}
use Rattle.wasm_equivalence.specs.validation.StaysValid.{Pushes}
use Rattle.wrapped_code.specs.Wrapped.{written, WrappedRunsAs, WrappedChecksAs}
use Rattle.wrapped_code.specs.Ways.{WrappedPushes, PushingCodeIsThere}
use Rattle.wrapped_code.specs.Handlers.{none_handle}
use Rattle.wrapped_code.specs.Laws.{WrappedCodeDoes, UnwrappedCodeDoes}
use Rattle.rewrite_rules.specs.Flow.{select_code, MayBranch}
use Rattle.body_rewrites.specs.declared.own.Made.TheVariants as made
use Rattle.body_rewrites.specs.Doing.{DoesAsBody}
use Rattle.body_rewrites.specs.Changes.{Change, changed, MayStand}
use Rattle.body_rewrites.specs.Own.{IsConditionalChoice, IsSelected, change_of}
use Rattle.body_rewrites.proofs.StandsLemmas.{Operators}
use Rattle.body_rewrites.proofs.AloneLemmas.{range_split}
use Rattle.body_rewrites.proofs.LeavesLemmas.{trees_leave}
use Rattle.body_rewrites.proofs.BehindLemmas.{behind_instruction}
use Rattle.body_rewrites.proofs.ChangedLemmas.{three_parts, code_unasked}
use Rattle.body_rewrites.proofs.WrapStandLemmas.{none-append}
use Rattle.body_rewrites.proofs.FlowLemmas.{range_one, range_next, tree_range, leaf_leaves}
use Rattle.body_rewrites.proofs.FlowStandLemmas.{FlowLaws, instr_of, kept, all_in}

-- the pieces of a conditional, and of a select with its operands
abbrev conditional_of : ValType → (c x y : List Operator) → List Operator
conditional_of v c x y = c ++ (op.If (Value v) ∷ (x ++ (op.Else ∷ (y ++ (op.End ∷ [])))))

abbrev select_of : (x y c : List Operator) → List Operator
select_of x y c = x ++ (y ++ (c ++ (instr_of select_code ∷ [])))

module _ (context : Context) (operators : Operators) (at : ℕ) where
  abbrev os : List Operator
  os = without_offsets operators

  -- ---- a select as a conditional

  module _ (laws : FlowLaws) (wrapped : WrappedCodeDoes) (start condition : ℕ) (v : ValType) (h : IsSelected context operators start at v condition) where
    abbrev change : Change
    change = change_of at (record { start = start; made = made.Conditional v condition })

    abbrev x : Instruction
    x = h.leaves.one.instruction

    abbrev y : Instruction
    y = h.leaves.other.instruction

    abbrev c : List Instruction
    c = h.read.tree.code

    abbrev branched : List Operator
    branched = conditional_of v (map instr_of c) (instr_of x ∷ []) (instr_of y ∷ [])

    may : MayBranch context (x ∷ y ∷ (c ++ select_code ∷ [])) h.leaves.type branched
    may =
        laws.branches context x y c h.leaves.type v h.leaves.value_is h.leaves.one.leaf h.leaves.other.leaf
        (leaf_leaves context operators start h.leaves.type h.leaves.one)
        (leaf_leaves context operators (start + 1) h.leaves.type h.leaves.other) (trees_leave context operators condition h.read.last primitive.I32 h.read.tree)
        h.read.reads

    second_is : condition - 1 ≡ start + 1
    second_is = let e = h.condition_is in omega (arith, e)

    condition_at : condition ≤ at
    condition_at = let e = h.read.last_is in let l = h.read.tree.ordered in omega (arith, e, l)

    start_at : start ≤ at
    start_at = let e = h.condition_is in let l = condition_at in omega (arith, e, l)

    x_is : slice_range os start (condition - 1) ≡ instr_of x ∷ []
    x_is = ap (slice_range os start) second_is ∙ range_one os start (instr_of x) h.leaves.one.has

    y_is : slice_range os (condition - 1) condition ≡ instr_of y ∷ []
    y_is =
        ap₂ (slice_range os) second_is (let e = h.condition_is in let k : condition ≡ start + 1 + 1 = omega (arith, e) in k)
        ∙ range_one os (start + 1) (instr_of y) h.leaves.other.has

    c_is : slice_range os condition at ≡ map instr_of c
    c_is = tree_range context operators condition h.read.last at primitive.I32 h.read.tree h.read.last_is

    pieces_are : (word : ℕ) → pieces_operators os (change.pieces word) ≡ branched
    pieces_are word =
        ap₂ (λ (a : List Operator) (b : List Operator × List Operator). conditional_of v a b.0 b.1) c_is
        (ap₂ (λ (a b : List Operator). (a, b)) x_is y_is)

    replaced_is : slice_range os start (at + 1) ≡ map instr_of (x ∷ y ∷ (c ++ select_code ∷ []))
    replaced_is =
        range_next os start (start + 1) (at + 1) (instr_of x) refl (let l = start_at in omega (arith, l)) h.leaves.one.has
        ∙ ap (λ (l : List Operator). instr_of x ∷ l)
        (range_next os (start + 1) condition (at + 1) (instr_of y) (let e = h.condition_is in omega (arith, e)) (let l = condition_at in omega (arith, l))
        h.leaves.other.has
        ∙ ap (λ (l : List Operator). instr_of y ∷ l)
        (range_split os condition at (at + 1) condition_at (omega arith)
        ∙ (ap₂ (λ (a b : List Operator). a ++ b) c_is (range_one os at (instr_of select_code) h.selects)
        ∙ sym (map-append instr_of c (select_code ∷ [])))))

    abbrev front : List Operator
    front = take start os

    abbrev back : List Operator
    back = drop (at + 1) os

    old_is : os ≡ front ++ (map instr_of (x ∷ y ∷ (c ++ select_code ∷ [])) ++ back)
    old_is =
        three_parts os start (at + 1) (let l = start_at in omega (arith, l)) ∙ ap (λ (l : List Operator). front ++ (l ++ back)) replaced_is

    new_is : (word : ℕ) → changed operators at change word ≡ front ++ written may.code back
    new_is word = ap (λ (l : List Operator). front ++ l) (ap (λ (l : List Operator). l ++ back) (pieces_are word) ∙ sym (may.written_is back))

    select_does : (word : ℕ) → none_handle os ≡ true → DoesAsBody context [] os (changed operators at change word)
    select_does word none m input b same is =
        wrapped m input [] b (with_operators (changed operators at change word) b) (record {
          params_are = refl;
          locals_are = refl;
          unhandled = subst (λ (l : List Operator). none_handle l ≡ true) is none;
          front = front;
          back = back;
          head = x;
          own = y ∷ (c ++ select_code ∷ []);
          code = may.code;
          old_is = sym is ∙ old_is;
          new_is = new_is word;
          runs = subst (λ (k : Context). WrappedRunsAs k [] (x ∷ y ∷ (c ++ select_code ∷ [])) may.code) same (may.runs []);
          checks = subst (λ (k : Context). WrappedChecksAs k (wider input [] k) (x ∷ y ∷ (c ++ select_code ∷ [])) may.code) same (may.checks input []);
        })

    pub select_stands : MayStand context operators at change
    select_stands = record {
      ordered = start_at;
      followed = λ inside last. behind_instruction operators at select_code h.selects last;
      within = λ word l.
          let e = h.condition_is in
          let k = condition_at in
          all_in context operators at (change.pieces word) (
            kept context operators at condition at k (omega (arith, l)),
            (
              tt,
              (
                kept context operators at start (condition - 1) (omega (arith, e)) (omega (arith, e, k, l)),
                (
                  tt,
                  (
                    kept context operators at (condition - 1) condition (omega arith)
                        (omega (arith, k, l)),
                    (tt, tt),
                  ),
                ),
              ),
            ),
          );
      unasked = ap (none_of asks_beyond) replaced_is ∙ code_unasked (x ∷ y ∷ (c ++ select_code ∷ []));
      unasking = λ word. ap (none_of asks_beyond) (pieces_are word)
          ∙ none-append asks_beyond (map instr_of c) (op.If (Value v) ∷ instr_of x ∷ op.Else ∷ instr_of y ∷ op.End ∷ []) (code_unasked c) refl;
      does = λ word inside none. select_does word none;
    }

  -- ---- a conditional as a select

  module _ (laws : FlowLaws) (unwrapped : UnwrappedCodeDoes) (pushing : PushingCodeIsThere) (start : ℕ) (h :
      IsConditionalChoice context operators start at) where
    abbrev taken : Change
    taken = change_of at (record { start = start; made = made.Selected })

    abbrev one : Instruction
    one = h.leaves.one.instruction

    abbrev other : Instruction
    other = h.leaves.other.instruction

    abbrev asked : List Instruction
    asked = h.read.tree.code

    abbrev opened : List Operator
    opened = conditional_of h.value (map instr_of asked) (instr_of one ∷ []) (instr_of other ∷ [])

    abbrev choice : List Instruction
    choice = one ∷ other ∷ (asked ++ select_code ∷ [])

    choice_may : MayBranch context choice h.leaves.type opened
    choice_may =
        laws.branches context one other asked h.leaves.type h.value h.leaves.value_is h.leaves.one.leaf h.leaves.other.leaf
        (leaf_leaves context operators (h.place + 1) h.leaves.type h.leaves.one) (leaf_leaves context operators (h.place + 3) h.leaves.type h.leaves.other)
        (trees_leave context operators start h.read.last primitive.I32 h.read.tree) h.read.reads

    start_place : start ≤ h.place
    start_place = let e = h.read.last_is in let l = h.read.tree.ordered in omega (arith, e, l)

    asked_is : slice_range os start h.place ≡ map instr_of asked
    asked_is = tree_range context operators start h.read.last h.place primitive.I32 h.read.tree h.read.last_is

    one_is : slice_range os (at - 3) (at - 2) ≡ instr_of one ∷ []
    one_is =
        let e = h.ends in
        ap₂ (slice_range os) (let k : at - 3 ≡ h.place + 1 = omega (arith, e) in k) (let k : at - 2 ≡ h.place + 1 + 1 = omega (arith, e) in k)
        ∙ range_one os (h.place + 1) (instr_of one) h.leaves.one.has

    other_is : slice_range os (at - 1) at ≡ instr_of other ∷ []
    other_is =
        let e = h.ends in
        ap₂ (slice_range os) (let k : at - 1 ≡ h.place + 3 = omega (arith, e) in k) (let k : at ≡ h.place + 3 + 1 = omega (arith, e) in k)
        ∙ range_one os (h.place + 3) (instr_of other) h.leaves.other.has

    before_is : slice_range os start (at - 4) ≡ map instr_of asked
    before_is = let e = h.ends in ap (slice_range os start) (let k : at - 4 ≡ h.place = omega (arith, e) in k) ∙ asked_is

    choice_is : select_of (instr_of one ∷ []) (instr_of other ∷ []) (map instr_of asked) ≡ map instr_of choice
    choice_is = ap (λ (l : List Operator). instr_of one ∷ instr_of other ∷ l) (sym (map-append instr_of asked (select_code ∷ [])))

    chosen_are : (word : ℕ) → pieces_operators os (taken.pieces word) ≡ map instr_of choice
    chosen_are word =
        ap₂ (λ (a : List Operator) (b : List Operator × List Operator). select_of a b.0 b.1) one_is
        (ap₂ (λ (a b : List Operator). (a, b)) other_is before_is)
        ∙ choice_is

    opened_is : slice_range os start (at + 1) ≡ opened
    opened_is =
        let e = h.ends in
        range_split os start h.place (at + 1) start_place (omega (arith, e))
        ∙ ap₂ (λ (a b : List Operator). a ++ b) asked_is
        (range_next os h.place (h.place + 1) (at + 1) (op.If (Value h.value)) refl (omega (arith, e))
        (h.choice.opens.has ∙ ap (λ (o : Operator). Some o) h.choice.opens.is)
        ∙ ap (λ (l : List Operator). op.If (Value h.value) ∷ l)
        (range_next os (h.place + 1) (h.place + 2) (at + 1) (instr_of one) (omega arith) (omega (arith, e)) h.leaves.one.has
        ∙ ap (λ (l : List Operator). instr_of one ∷ l)
        (range_next os (h.place + 2) (h.place + 3) (at + 1) op.Else (omega arith) (omega (arith, e))
        (h.choice.parts.has ∙ ap (λ (o : Operator). Some o) h.choice.parts.is)
        ∙ ap (λ (l : List Operator). op.Else ∷ l)
        (range_next os (h.place + 3) (h.place + 4) (at + 1) (instr_of other) (omega arith) (omega (arith, e)) h.leaves.other.has
        ∙ ap (λ (l : List Operator). instr_of other ∷ l)
        (ap (slice_range os (h.place + 4)) (let k : at + 1 ≡ h.place + 4 + 1 = omega (arith, e) in k)
        ∙ range_one os (h.place + 4) op.End (h.choice.closes.has ∙ ap (λ (o : Operator). Some o) h.choice.closes.is))))))

    abbrev around : List Operator
    around = take start os

    abbrev rest : List Operator
    rest = drop (at + 1) os

    start_end : start ≤ at
    start_end = let e = h.ends in let l = start_place in omega (arith, e, l)

    opened_there : os ≡ around ++ (opened ++ rest)
    opened_there =
        three_parts os start (at + 1) (let l = start_end in omega (arith, l)) ∙ ap (λ (l : List Operator). around ++ (l ++ rest)) opened_is

    chosen_is : (word : ℕ) → changed operators at taken word ≡ around ++ (map instr_of choice ++ rest)
    chosen_is word = ap (λ (l : List Operator). around ++ (l ++ rest)) (chosen_are word)

    choice_does : (word : ℕ) → none_handle os ≡ true → DoesAsBody context [] os (changed operators at taken word)
    choice_does word none m input b same is =
        unwrapped m input b (with_operators (changed operators at taken word) b) (record {
          params_are = refl;
          locals_are = refl;
          unhandled = subst (λ (l : List Operator). none_handle l ≡ true) is none;
          front = around;
          back = rest;
          head = one;
          own = other ∷ (asked ++ select_code ∷ []);
          code = choice_may.code;
          there = pushing context choice_may.code h.leaves.type [] choice_may.pushes_so;
          old_is = sym is ∙ (opened_there ∙ ap (λ (l : List Operator). around ++ l) (sym (choice_may.written_is rest)));
          new_is = chosen_is word;
          pushed = h.leaves.type ∷ [];
          pushes = subst (λ (k : Context). Pushes k choice [] (h.leaves.type ∷ [])) same choice_may.pushes;
          pushes_so = subst (λ (k : Context). WrappedPushes k choice_may.code [] (h.leaves.type ∷ [])) same choice_may.pushes_so;
          runs = subst (λ (k : Context). WrappedRunsAs k [] choice choice_may.code) same (choice_may.runs []);
        })

    pub choice_stands : MayStand context operators at taken
    choice_stands = record {
      ordered = start_end;
      followed = λ inside last. h.inside;
      within = λ word l.
          let e = h.ends in
          let s = start_place in
          all_in context operators at (taken.pieces word) (
            kept context operators at (at - 3) (at - 2) (omega (arith, e)) (omega (arith, e, l)),
            (
              kept context operators at (at - 1) at (omega (arith, e)) (omega (arith, l)),
              (kept context operators at start (at - 4) (omega (arith, e, s)) (omega (arith, e, l)), (tt, tt)),
            ),
          );
      unasked = ap (none_of asks_beyond) opened_is
          ∙ none-append asks_beyond (map instr_of asked) (op.If (Value h.value) ∷ instr_of one ∷ op.Else ∷ instr_of other ∷ op.End
          ∷ []) (code_unasked asked) refl;
      unasking = λ word. ap (none_of asks_beyond) (chosen_are word) ∙ code_unasked choice;
      does = λ word inside none. choice_does word none;
    }
