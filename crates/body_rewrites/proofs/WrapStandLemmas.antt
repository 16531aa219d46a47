-- A tree in control flow of its own may stand in the place of the tree, and the tree in the place of that.
use Rattle.std.proofs.Common.{◌≡◌, ℕ, ◌+◌, ◌<◌, ◌≤◌, ◌&&◌, not, Bool, true, false, List, [], ◌∷◌, ◌++◌, length, map, take, drop, Some, refl}
use Rattle.std.proofs.Common.{sym, ap, ap₂, subst, ◌∙◌, arith, append_assoc, append-nil}
use Rattle.std.specs.Prelude.{slice_range}
use Rattle.std.specs.List.{All}
use mathlib.Core.List.{append_cancel_left}
use Rattle.std.proofs.lemmas.List.{take-append-drop}
use Rattle.std.proofs.lemmas.List.Elements.{All-nil, All-cons}
use Rattle.wasm_code.specs.Instruction.{Instruction}
use Rattle.wasm_code.specs.declared.immediate.ValType.{ValType}
use Rattle.wasm_code.specs.declared.operator.Operator.{Operator}
use Rattle.wasm_code.specs.declared.operator.Operator.TheVariants.{Instr}
use Rattle.wasm_types.specs.declared.types.PrimitiveTypeInfo.{PrimitiveTypeInfo}
use Rattle.body_splices.specs.declared.piece.Piece.TheVariants.{Kept}
use Rattle.body_splices.specs.OwnBytes.{none_of, without_offsets}
use Rattle.body_splices.specs.Splice.{IsPieceIn}
use Rattle.body_splices.specs.Laws.{pieces_operators}
use Rattle.wasm_execution.specs.Values.{Context}
use Rattle.wasm_equivalence.specs.control.Standard.{asks_beyond}
use Rattle.wasm_equivalence.specs.control.Wider.{wider}
use Rattle.wasm_equivalence.specs.hosts.Embedder.{with_operators}
use Rattle.wasm_equivalence.specs.validation.StaysValid.{Pushes}
use Rattle.wrapped_code.specs.Wrapped.{written, WrappedRunsAs, WrappedChecksAs}
use Rattle.wrapped_code.specs.Ways.{WrappedPushes, PushingCodeIsThere}
use Rattle.wrapped_code.specs.Handlers.{none_handle}
use Rattle.wrapped_code.specs.Laws.{WrappedCodeDoes, UnwrappedCodeDoes}
use Rattle.rewrite_rules.specs.declared.wrap.Wrap.{Wrap}
use Rattle.rewrite_rules.specs.Wrap.{front_of, back_of, value_of, AreItems, MayWrap, WrapsAreRight}
use Rattle.body_rewrites.specs.declared.own.Made.TheVariants as made
use Rattle.body_rewrites.specs.Trees.{IsTree}
use Rattle.body_rewrites.specs.Doing.{DoesAsBody}
use Rattle.body_rewrites.specs.Changes.{Change, changed, MayStand}
use Rattle.body_rewrites.specs.Own.{IsWrapped, item_pieces, change_of}
use Rattle.body_rewrites.proofs.StandsLemmas.{Operators}
use Rattle.body_rewrites.proofs.LeavesLemmas.{trees_leave}
use Rattle.body_rewrites.proofs.AloneLemmas.{range_split}
use Rattle.body_rewrites.proofs.BehindLemmas.{behind_instruction, last_there}
use Rattle.body_rewrites.proofs.ChangedLemmas.{three_parts, code_unasked}
use Rattle.body_rewrites.proofs.SplitLemmas.{count_is}
use Rattle.body_rewrites.proofs.WrapLemmas.{back_some, items_are, items_within, items_unasked, items_stand, pieces_append}
use Rattle.body_rewrites.proofs.WritingLemmas.{range_alone}

abbrev instr_of : Instruction → Operator
instr_of i = Instr i

-- ---- parts of a list

behind_parts : {A : Type 0} (xs : List A) (a b : ℕ) → a ≤ b → drop a xs ≡ slice_range xs a b ++ drop b xs
behind_parts xs a b l =
    append_cancel_left (take a xs) (drop a xs) (slice_range xs a b ++ drop b xs) (take-append-drop a xs ∙ three_parts xs a b l)

pub none-append : (holds : Operator → Bool) (os rest : List Operator) → none_of holds os ≡ true → none_of holds rest ≡ true → none_of holds (os ++ rest) ≡ true
none-append holds [] rest h k = k
none-append holds (o ∷ os) rest h k = go (holds o) (λ e. none-append holds os rest e k) h
  where
    go : (b : Bool) → (none_of holds os ≡ true → none_of holds (os ++ rest) ≡ true) → (not b && none_of holds os) ≡ true →
        (not b && none_of holds (os ++ rest)) ≡ true
    go true more e = absurd cc
    go false more e = more e

-- the code of a tree has an instruction
record HasFirst (code : List Instruction) : Type 0 where
  head : Instruction
  own : List Instruction
  is : code ≡ head ∷ own

first_of : (code : List Instruction) → 0 < length code → HasFirst code
first_of [] l = absurd (omega arith)
first_of (i ∷ code) l = record { head = i; own = code; is = refl }

module _ (wraps : WrapsAreRight) (context : Context) (operators : Operators) (at : ℕ) where
  abbrev os : List Operator
  os = without_offsets operators

  -- the tree's code, at a function with these types
  tree_first : (start last : ℕ) (t : PrimitiveTypeInfo) (tree : IsTree context operators start last t) → HasFirst tree.code
  tree_first start last t tree =
      let count = count_is operators start (last + 1) tree.code (let l = tree.inside in omega arith) tree.stands in
      first_of tree.code (let l = tree.ordered in omega (arith, count))

  -- ---- what is put round

  module _ (wrapped : WrappedCodeDoes) (w : Wrap) (t : ValType) (u : PrimitiveTypeInfo) (value : value_of u ≡ Some t) (start : ℕ)
      (tree : IsTree context operators start at u) where
    abbrev change : Change
    change = change_of at (record { start = start; made = made.Wrapped w t })

    abbrev before : ℕ → List Operator
    before word = pieces_operators os (item_pieces t word (front_of w))

    abbrev behind : ℕ → List Operator
    behind word = pieces_operators os (item_pieces t word (back_of w))

    tree_is : slice_range os start (at + 1) ≡ map instr_of tree.code
    tree_is = range_alone operators start (at + 1) ∙ tree.stands

    pieces_are : (word : ℕ) → pieces_operators os (change.pieces word) ≡ before word ++ (map instr_of tree.code ++ behind word)
    pieces_are word =
        pieces_append os (item_pieces t word (front_of w)) (Kept start (at + 1) ∷ item_pieces t word (back_of w))
        ∙ ap (λ (l : List Operator). before word ++ (l ++ behind word)) tree_is

    may : (word : ℕ) → MayWrap context tree.code u (before word) (behind word)
    may word =
        wraps context tree.code w u t (before word) (behind word) value (trees_leave context operators start at u tree) (items_are os t word (front_of w))
        (items_are os t word (back_of w))

    abbrev front : List Operator
    front = take start os

    abbrev back : List Operator
    back = drop (at + 1) os

    range : start ≤ at + 1
    range = let l = tree.ordered in omega arith

    old_is : os ≡ front ++ (map instr_of tree.code ++ back)
    old_is = three_parts os start (at + 1) range ∙ ap (λ (l : List Operator). front ++ (l ++ back)) tree_is

    new_is : (word : ℕ) → changed operators at change word ≡ front ++ written (may word).code back
    new_is word =
        ap (λ (l : List Operator). front ++ l)
        (ap (λ (l : List Operator). l ++ back) (pieces_are word)
        ∙ (append_assoc (before word) (map instr_of tree.code ++ behind word) back
        ∙ (ap (λ (l : List Operator). before word ++ l) (append_assoc (map instr_of tree.code) (behind word) back)
        ∙ sym ((may word).written_is back))))

    wrap_does : (word : ℕ) → none_handle os ≡ true → DoesAsBody context [] os (changed operators at change word)
    wrap_does word none m input b same is =
        let first = tree_first start at u tree in
        let code = (may word).code in
        wrapped m input [] b (with_operators (changed operators at change word) b) (record {
          params_are = refl;
          locals_are = refl;
          unhandled = subst (λ (l : List Operator). none_handle l ≡ true) is none;
          front = front;
          back = back;
          head = first.head;
          own = first.own;
          code = code;
          old_is = sym is ∙ (old_is ∙ ap (λ (is : List Instruction). front ++ (map instr_of is ++ back)) first.is);
          new_is = new_is word;
          runs = subst (λ (p : Context × List Instruction). WrappedRunsAs p.0 [] p.1 code)
              (ap₂ (λ (c : Context) (is : List Instruction). (c, is)) same first.is) ((may word).runs []);
          checks = subst (λ (p : Context × List Instruction). WrappedChecksAs p.0 (wider input [] p.0) p.1 code)
              (ap₂ (λ (c : Context) (is : List Instruction). (c, is)) same first.is) ((may word).checks input []);
        })

    pub wrap_stands : MayStand context operators at change
    wrap_stands = record {
      ordered = tree.ordered;
      followed = λ inside last.
          let (i, has) = last_there operators start at tree.code tree.ordered inside tree.stands in
          behind_instruction operators at i has last;
      within = λ word l. items_within operators t word (front_of w) (Kept start (at + 1) ∷ item_pieces t word (back_of w))
          (All-cons (IsPieceIn operators) (Kept start (at + 1)) (item_pieces t word (back_of w)) (record { ordered = range; inside = l })
          (subst (All (IsPieceIn operators)) (append-nil (item_pieces t word (back_of w)))
          (items_within operators t word (back_of w) [] (All-nil (IsPieceIn operators)))));
      unasked = ap (none_of asks_beyond) tree_is ∙ code_unasked tree.code;
      unasking = λ word. ap (none_of asks_beyond) (pieces_are word)
          ∙ (items_unasked (front_of w) t (before word) (map instr_of tree.code ++ behind word) (items_are os t word (front_of w))
          ∙ none-append asks_beyond (map instr_of tree.code) (behind word) (code_unasked tree.code)
          (ap (none_of asks_beyond) (sym (append-nil (behind word)))
          ∙ items_unasked (back_of w) t (behind word) [] (items_are os t word (back_of w))));
      does = λ word inside none. wrap_does word none;
    }

  -- ---- what is taken away

  module _ (unwrapped : UnwrappedCodeDoes) (pushing : PushingCodeIsThere) (w : Wrap) (start from end : ℕ) (h :
      IsWrapped context operators w start at from end) where
    abbrev taken : Change
    taken = change_of at (record { start = start; made = made.Inner from end })

    abbrev opened : List Operator
    opened = slice_range os start from

    abbrev closed : List Operator
    closed = slice_range os end (at + 1)

    inner_is : slice_range os from end ≡ map instr_of h.tree.code
    inner_is = ap (slice_range os from) (sym h.last_is) ∙ (range_alone operators from (h.last + 1) ∙ h.tree.stands)

    opened_are : AreItems (front_of w) h.value opened
    opened_are =
        subst (λ n. AreItems (front_of w) h.value (take n (drop start os))) (let e = h.begins in
        omega (arith, e)) (items_stand operators start (front_of w) h.value h.before)

    closed_are : AreItems (back_of w) h.value closed
    closed_are =
        subst (λ n. AreItems (back_of w) h.value (take n (drop end os))) (let e = h.ends in
        omega (arith, e)) (items_stand operators end (back_of w) h.value h.behind)

    unwrap_may : MayWrap context h.tree.code h.type opened closed
    unwrap_may =
        wraps context h.tree.code w h.type h.value opened closed h.value_is (trees_leave context operators from h.last h.type h.tree) opened_are closed_are

    -- in which order they stand
    start_from : start ≤ from
    start_from = let e = h.begins in omega (arith, e)

    from_end : from ≤ end
    from_end = let e = h.tree.ordered in let l = h.last_is in omega (arith, e, l)

    end_at : end ≤ at + 1
    end_at = let e = h.ends in omega (arith, e)

    abbrev around : List Operator
    around = take start os

    abbrev rest : List Operator
    rest = drop (at + 1) os

    wrapped_is : os ≡ around ++ (opened ++ (map instr_of h.tree.code ++ (closed ++ rest)))
    wrapped_is =
        three_parts os start from start_from
        ∙ ap (λ (l : List Operator). around ++ (opened ++ l))
        (behind_parts os from end from_end
        ∙ ap₂ (λ (a b : List Operator). a ++ b) inner_is (behind_parts os end (at + 1) end_at))

    replaced_is : slice_range os start (at + 1) ≡ opened ++ (map instr_of h.tree.code ++ closed)
    replaced_is =
        range_split os start from (at + 1) start_from (let b = from_end in let c = end_at in omega (arith, b, c))
        ∙ ap (λ (l : List Operator). opened ++ l)
        (range_split os from end (at + 1) from_end end_at ∙ ap (λ (l : List Operator). l ++ closed) inner_is)

    left_is : (word : ℕ) → changed operators at taken word ≡ around ++ (map instr_of h.tree.code ++ rest)
    left_is word = ap (λ (l : List Operator). around ++ (l ++ rest)) (append-nil (slice_range os from end) ∙ inner_is)

    unwrap_does : (word : ℕ) → none_handle os ≡ true → DoesAsBody context [] os (changed operators at taken word)
    unwrap_does word none m input b same is =
        let first = tree_first from h.last h.type h.tree in
        let code = unwrap_may.code in
        unwrapped m input b (with_operators (changed operators at taken word) b) (record {
          params_are = refl;
          locals_are = refl;
          unhandled = subst (λ (l : List Operator). none_handle l ≡ true) is none;
          front = around;
          back = rest;
          head = first.head;
          own = first.own;
          code = code;
          there = pushing context code h.type [] unwrap_may.pushes_so;
          old_is = sym is ∙ (wrapped_is ∙ ap (λ (l : List Operator). around ++ l) (sym (unwrap_may.written_is rest)));
          new_is = left_is word ∙ ap (λ (is : List Instruction). around ++ (map instr_of is ++ rest)) first.is;
          pushed = h.type ∷ [];
          pushes = subst (λ (p : Context × List Instruction). Pushes p.0 p.1 [] (h.type ∷ []))
              (ap₂ (λ (c : Context) (is : List Instruction). (c, is)) same first.is) unwrap_may.pushes;
          pushes_so = subst (λ c. WrappedPushes c code [] (h.type ∷ [])) same unwrap_may.pushes_so;
          runs = subst (λ (p : Context × List Instruction). WrappedRunsAs p.0 [] p.1 code)
              (ap₂ (λ (c : Context) (is : List Instruction). (c, is)) same first.is) (unwrap_may.runs []);
        })

    pub unwrap_stands : MayStand context operators at taken
    unwrap_stands = record {
      ordered = (let a = start_from in let b = from_end in let e = h.ends in let s = back_some w in omega (arith, a, b, e, s));
      followed = λ inside last. h.inside;
      within = λ word l. All-cons (IsPieceIn operators) (Kept from end) [] (record { ordered = from_end; inside = (let e = end_at in omega (arith, e, l)) })
          (All-nil (IsPieceIn operators));
      unasked = ap (none_of asks_beyond) replaced_is
          ∙ (items_unasked (front_of w) h.value opened (map instr_of h.tree.code ++ closed) opened_are
          ∙ none-append asks_beyond (map instr_of h.tree.code) closed (code_unasked h.tree.code)
          (ap (none_of asks_beyond) (sym (append-nil closed)) ∙ items_unasked (back_of w) h.value closed [] closed_are));
      unasking = λ word. ap (none_of asks_beyond) (append-nil (slice_range os from end) ∙ inner_is) ∙ code_unasked h.tree.code;
      does = λ word inside none. unwrap_does word none;
    }
