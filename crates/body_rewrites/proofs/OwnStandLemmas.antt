-- What a rule beside the table makes may stand in the place of what it rewrites.
use Rattle.std.proofs.Common.{◌≡◌, ℕ, ◌+◌, ◌-◌, ◌≤◌, ◌<◌, List, [], ◌∷◌, ◌++◌, length, map, take, drop, refl, sym, ap, subst, ◌∙◌, arith}
use Rattle.std.specs.Prelude.{slice_range, ⊤}
use Rattle.std.specs.List.{All}
use Rattle.std.proofs.lemmas.List.{drop-map, take-map, append-nil}
use Rattle.std.proofs.lemmas.List.Elements.{All-nil, All-cons}
use Rattle.body_splices.specs.declared.piece.Piece.TheVariants.{Kept, New}
use Rattle.wasm_code.specs.Instruction.{Instruction}
use Rattle.wasm_code.specs.declared.operator.Operator.{Operator}
use Rattle.wasm_code.specs.declared.operator.Operator.TheVariants.{Instr}
use Rattle.body_splices.specs.OwnBytes.{without_offsets}
use Rattle.body_splices.specs.Splice.{IsPieceIn}
use Rattle.body_splices.specs.Laws.{pieces_operators, KeepsInstructions}
use Rattle.wasm_execution.specs.Values.{Context}
use Rattle.rewrite_rules.specs.declared.pattern.Operator.TheVariants.{Whole}
use Rattle.rewrite_rules.specs.Access.{left_code, right_code}
use Rattle.rewrite_rules.specs.Instance.{constant_code, operator_code}
use Rattle.rewrite_rules.specs.Beside.{StandsWith, BesidesKeepCode, nop_code, drop_code, get_local, set_local, tee_local, get_global}
use Rattle.rewrite_rules.specs.Beside.{set_global, constants, sum_code}
use Rattle.rewrite_rules.specs.declared.table.Own.{Own}
use Rattle.rewrite_rules.specs.declared.table.Own.TheVariants.{Unfold, ThroughGlobal, WithNop, Fold, Forget, TeeToSet, DropNop, SetToTee}
use Rattle.rewrite_rules.specs.declared.table.Own.TheVariants.{Access as Accesses, Wrap as Wraps, Unwrap as Unwraps}
use Rattle.rewrite_rules.specs.declared.table.Own.TheVariants.{SelectToIf, IfToSelect, TestCondition, DropConditionTest, DoubleCondition}
use Rattle.rewrite_rules.specs.declared.table.Own.TheVariants.{DropDoubleCondition, PutDead, DropDead}
use Rattle.rewrite_rules.specs.declared.table.Own.TheVariants.{BoundIndex, DropIndexBound, BrIfToIf, IfToBrIf}
use Rattle.body_rewrites.specs.declared.own.Made.{Made}
use Rattle.body_rewrites.specs.declared.own.Made.TheVariants as made
use Rattle.body_rewrites.specs.Trees.{Stands}
use Rattle.body_rewrites.specs.Open.{HasInstruction}
use Rattle.body_rewrites.specs.Matching.{instructions}
use Rattle.wasm_equivalence.specs.control.Laws.{ReplacedCodeIsInOnePiece}
use Rattle.wasm_equivalence.specs.hosts.EmbedderLaws.{PiecesDo}
use Rattle.wasm_equivalence.specs.validation.StaysValid.{ReplacedCodeStaysValid}
use Rattle.wrapped_code.specs.Laws.{WrappedCodeDoes, UnwrappedCodeDoes}
use Rattle.wrapped_code.specs.Ways.{PushingCodeIsThere}
use Rattle.rewrite_rules.specs.Wrap.{WrapsAreRight}
use Rattle.body_rewrites.specs.Changes.{Change, pieces_code, KeepsCode, MayStand}
use Rattle.body_rewrites.specs.Own.{Rewrites, new, made_pieces, made_asks, change_of, IsOwnChange}
use Rattle.body_rewrites.proofs.AccessLemmas.{access_start}
use Rattle.body_rewrites.proofs.StandsLemmas.{Operators, stands_nothing, stands_snoc}
use Rattle.body_rewrites.proofs.LeavesLemmas.{trees_leave}
use Rattle.body_rewrites.proofs.ChangedLemmas.{keeps_may_stand}
use Rattle.body_rewrites.proofs.WrapStandLemmas.{wrap_stands, unwrap_stands}
use Rattle.body_rewrites.proofs.FlowStandLemmas.{FlowLaws, test_stands, double_stands, untest_stands, undouble_stands, put_stands, gone_stands}
use Rattle.body_rewrites.proofs.SelectStandLemmas.{select_stands, choice_stands}
use Rattle.body_rewrites.proofs.IndexStandLemmas.{bound_stands, unbound_stands}
use Rattle.body_rewrites.proofs.BranchStandLemmas.{nest_stands, unnest_stands}

-- ---- what is written

abbrev instr_of : Instruction → Operator
instr_of i = Instr i

read_back : (code : List Instruction) (os : List Operator) → instructions (map instr_of code ++ os) ≡ code ++ instructions os
read_back [] os = refl
read_back (i ∷ code) os = ap (λ is. i ∷ is) (read_back code os)

new_within : (operators : Operators) (code : List Instruction) → All (IsPieceIn operators) (new code)
new_within operators [] = All-nil (IsPieceIn operators)
new_within operators (i ∷ code) = All-cons (IsPieceIn operators) (New i) (new code) tt (new_within operators code)

new_keep : (operators : Operators) (code : List Instruction) → All (KeepsInstructions operators) (new code)
new_keep operators [] = All-nil (KeepsInstructions operators)
new_keep operators (i ∷ code) = All-cons (KeepsInstructions operators) (New i) (new code) tt (new_keep operators code)

new_back : (operators : Operators) (code : List Instruction) → pieces_code operators (new code) ≡ code
new_back operators [] = refl
new_back operators (i ∷ code) = ap (λ is. i ∷ is) (new_back operators code)

-- the operators that are kept
kept_are : (operators : Operators) (start end : ℕ) (code : List Instruction) → Stands operators start end code →
    slice_range (without_offsets operators) start end ≡ map instr_of code
kept_are operators start end code h =
    ap (take (end - start)) (drop-map (λ (o : Operator × ℕ). o.0) start operators)
    ∙ (take-map (λ (o : Operator × ℕ). o.0) (end - start) (drop start operators) ∙ h)

-- what is made is instructions in the place of instructions
abbrev IsInPlace : Made → Type 0
IsInPlace (made.Wrapped w t) = ⊥
IsInPlace (made.Inner from end) = ⊥
IsInPlace (made.Conditional v condition) = ⊥
IsInPlace made.Selected = ⊥
IsInPlace made.Tested = ⊥
IsInPlace made.DoublyTested = ⊥
IsInPlace made.Dead = ⊥
IsInPlace (made.Bounded count) = ⊥
IsInPlace (made.InConditional label) = ⊥
IsInPlace (made.BranchIf label) = ⊥
IsInPlace m = ⊤

-- the code that is made of this code
abbrev made_code : (old : List Instruction) → Made → (word : ℕ) → List Instruction
made_code old made.Nothing word = []
made_code old (made.Constant t n) word = constant_code t n ∷ []
made_code old (made.Sum t n) word = sum_code t n word
made_code old made.Nop word = nop_code ∷ old
made_code old (made.Global t g) word = old ++ set_global g ∷ get_global g ∷ []
made_code old (made.SetAndGet n) word = set_local n ∷ get_local n ∷ []
made_code old (made.Tee n) word = tee_local n ∷ []
made_code old (made.Access a w) word = right_code a w
made_code old m word = []

module _ (operators : Operators) (start at : ℕ) (old : List Instruction) (ordered : start ≤ at) (stands : Stands operators start (at + 1) old) where
  kept_back : (os : List Operator) → instructions (slice_range (without_offsets operators) start (at + 1) ++ os) ≡ old ++ instructions os
  kept_back os = ap (λ l. instructions (l ++ os)) (kept_are operators start (at + 1) old stands) ∙ read_back old os

  written_is : (m : Made) → IsInPlace m → (word : ℕ) → pieces_code operators (made_pieces start at m word) ≡ made_code old m word
  written_is made.Nothing here word = refl
  written_is (made.Constant t n) here word = refl
  written_is (made.Sum t n) here word = refl
  written_is made.Nop here word = ap (λ is. nop_code ∷ is) (kept_back [] ∙ append-nil old)
  written_is (made.Global t g) here word =
      kept_back (pieces_operators (without_offsets operators) (new (set_global g ∷ get_global g ∷ [])))
  written_is (made.SetAndGet n) here word = refl
  written_is (made.Tee n) here word = refl
  written_is (made.Access a w) here word = new_back operators (right_code a w)
  written_is m here word = absurd here

  within_is : (m : Made) → IsInPlace m → (word : ℕ) → at + 1 < length operators → All (IsPieceIn operators) (made_pieces start at m word)
  within_is made.Nothing here word l = All-nil (IsPieceIn operators)
  within_is (made.Constant t n) here word l = new_within operators (constant_code t n ∷ [])
  within_is (made.Sum t n) here word l = new_within operators (sum_code t n word)
  within_is made.Nop here word l =
      All-cons (IsPieceIn operators) (New nop_code) (Kept start (at + 1) ∷ []) tt
      (All-cons (IsPieceIn operators) (Kept start (at + 1)) [] (record { ordered = omega arith; inside = l }) (All-nil (IsPieceIn operators)))
  within_is (made.Global t g) here word l =
      All-cons (IsPieceIn operators) (Kept start (at + 1)) (new (set_global g ∷ get_global g ∷ [])) (record { ordered = omega arith; inside = l })
      (new_within operators (set_global g ∷ get_global g ∷ []))
  within_is (made.SetAndGet n) here word l = new_within operators (set_local n ∷ get_local n ∷ [])
  within_is (made.Tee n) here word l = new_within operators (tee_local n ∷ [])
  within_is (made.Access a w) here word l = new_within operators (right_code a w)
  within_is m here word l = absurd here

  keep_is : (m : Made) → IsInPlace m → (word : ℕ) → All (KeepsInstructions operators) (made_pieces start at m word)
  keep_is made.Nothing here word = All-nil (KeepsInstructions operators)
  keep_is (made.Constant t n) here word = new_keep operators (constant_code t n ∷ [])
  keep_is (made.Sum t n) here word = new_keep operators (sum_code t n word)
  keep_is made.Nop here word =
      All-cons (KeepsInstructions operators) (New nop_code) (Kept start (at + 1) ∷ []) tt
      (All-cons (KeepsInstructions operators) (Kept start (at + 1)) [] (record { instructions = old; stand = stands }) (All-nil (KeepsInstructions operators)))
  keep_is (made.Global t g) here word =
      All-cons (KeepsInstructions operators) (Kept start (at + 1)) (new (set_global g ∷ get_global g ∷ [])) (record { instructions = old; stand = stands })
      (new_keep operators (set_global g ∷ get_global g ∷ []))
  keep_is (made.SetAndGet n) here word = new_keep operators (set_local n ∷ get_local n ∷ [])
  keep_is (made.Tee n) here word = new_keep operators (tee_local n ∷ [])
  keep_is (made.Access a w) here word = new_keep operators (right_code a w)
  keep_is m here word = absurd here

  made_stands : (context : Context) (m : Made) → IsInPlace m → ((word : ℕ) → StandsWith context (made_asks m) old (made_code old m word)) →
      KeepsCode context operators at (change_of at (record { start = start; made = m }))
  made_stands context m here same = record {
    ordered = ordered;
    old = old;
    stands = stands;
    within = within_is m here;
    keep = keep_is m here;
    same = λ word. subst (StandsWith context (made_asks m) old) (sym (written_is m here word)) (same word);
  }

-- the rule puts instructions in the place of instructions
abbrev KeepsInPlace : Own → Type 0
KeepsInPlace (Wraps w) = ⊥
KeepsInPlace (Unwraps w) = ⊥
KeepsInPlace SelectToIf = ⊥
KeepsInPlace IfToSelect = ⊥
KeepsInPlace TestCondition = ⊥
KeepsInPlace DropConditionTest = ⊥
KeepsInPlace DoubleCondition = ⊥
KeepsInPlace DropDoubleCondition = ⊥
KeepsInPlace PutDead = ⊥
KeepsInPlace DropDead = ⊥
KeepsInPlace BoundIndex = ⊥
KeepsInPlace DropIndexBound = ⊥
KeepsInPlace BrIfToIf = ⊥
KeepsInPlace IfToBrIf = ⊥
KeepsInPlace own = ⊤

-- ---- what is rewritten

pub one_here : (operators : Operators) (at : ℕ) (i : Instruction) → HasInstruction operators at i → Stands operators at (at + 1) (i ∷ [])
one_here operators at i h = stands_snoc operators at at [] i (omega arith) h (stands_nothing operators at)

module _ (laws : BesidesKeepCode) (context : Context) (operators : Operators) (at : ℕ) where
  abbrev Stand : ℕ → Made → Type 0
  Stand start m = KeepsCode context operators at (change_of at (record { start = start; made = m }))

  -- what is made of the one instruction at the operator
  of_one : (start : ℕ) (i : Instruction) (m : Made) → IsInPlace m → start ≡ at → HasInstruction operators at i →
      ((word : ℕ) → StandsWith context (made_asks m) (i ∷ []) (made_code (i ∷ []) m word)) → Stand start m
  of_one start i m here e h same =
      subst (λ s. Stand s m) (sym e) (made_stands operators at at (i ∷ []) (omega arith) (one_here operators at i h) context m here same)

  stand_at : (own : Own) (start : ℕ) (m : Made) → KeepsInPlace own → Rewrites context operators own start at m → Stand start m
  stand_at Unfold start (made.Sum t n) keeps (e, c) = of_one start (constant_code t n) (made.Sum t n) tt e c.has (laws.as_a_sum context t n)
  stand_at ThroughGlobal start (made.Global t g) keeps (tree, number, e, small) =
      made_stands operators start at tree.code tree.ordered tree.stands context (made.Global t g) tt (λ word.
      subst (λ k. StandsWith context (t ∷ []) tree.code (tree.code ++ set_global k ∷ get_global k ∷ [])) (sym e)
      (laws.through_global context t tree.code (trees_leave context operators start at t tree)))
  stand_at WithNop start made.Nop keeps (t, tree) =
      made_stands operators start at tree.code tree.ordered tree.stands context made.Nop tt (λ word. laws.with_nop context tree.code)
  stand_at Fold start (made.Constant t n) keeps f =
      let ends = f.ends in
      made_stands operators start at (constants f.operands ++ operator_code (Whole f.operation) ∷ []) (omega arith) f.stands context (made.Constant t n) tt
      (λ word. subst (λ u. StandsWith context [] (constants f.operands ++ operator_code (Whole f.operation) ∷ []) (constant_code u n ∷ [])) f.type_is
      (laws.fold context f.operation f.operands n f.typed f.value_is))
  stand_at Forget start made.Nothing keeps f =
      let ends = f.ends in
      let ordered = f.tree.ordered in
      made_stands operators start at (f.tree.code ++ drop_code ∷ []) (omega arith)
      (stands_snoc operators start at f.tree.code drop_code (omega arith) f.dropped (subst (λ e. Stands operators start e f.tree.code) ends f.tree.stands))
      context made.Nothing tt
      (λ word. laws.forget context f.type f.tree.code (trees_leave context operators start f.last f.type f.tree) f.reads f.returns)
  stand_at TeeToSet start (made.SetAndGet n) keeps (e, h) = of_one start (tee_local n) (made.SetAndGet n) tt e h (λ word. laws.tee_to_set context n)
  stand_at DropNop start made.Nothing keeps (e, h) = of_one start nop_code made.Nothing tt e h (λ word. laws.drop_nop context)
  stand_at SetToTee start (made.Tee n) keeps (e, h, g) =
      made_stands operators start at (set_local n ∷ get_local n ∷ []) (omega arith)
      (stands_snoc operators start at (set_local n ∷ []) (get_local n) (omega arith) g
      (subst (λ k. Stands operators start k (set_local n ∷ [])) e (one_here operators start (set_local n) h)))
      context (made.Tee n) tt (λ word. laws.set_to_tee context n)
  stand_at (Accesses n) start (made.Access a w) keeps f =
      let begins = access_start context operators n start at a w f in
      made_stands operators start at (left_code a f.immediate) (omega arith) f.stands context (made.Access a w) tt
      (λ word. laws.access context n a f.immediate w f.exact f.listed f.fits f.written_is)
  stand_at (Wraps w) start m keeps r = absurd keeps
  stand_at (Unwraps w) start m keeps r = absurd keeps
  stand_at SelectToIf start m keeps r = absurd keeps
  stand_at IfToSelect start m keeps r = absurd keeps
  stand_at TestCondition start m keeps r = absurd keeps
  stand_at DropConditionTest start m keeps r = absurd keeps
  stand_at DoubleCondition start m keeps r = absurd keeps
  stand_at DropDoubleCondition start m keeps r = absurd keeps
  stand_at PutDead start m keeps r = absurd keeps
  stand_at DropDead start m keeps r = absurd keeps
  stand_at BoundIndex start m keeps r = absurd keeps
  stand_at DropIndexBound start m keeps r = absurd keeps
  stand_at BrIfToIf start m keeps r = absurd keeps
  stand_at IfToBrIf start m keeps r = absurd keeps
  stand_at own start m keeps r = absurd r

-- ---- each rule

module _ (laws : BesidesKeepCode) (wraps : WrapsAreRight) (wrapped : WrappedCodeDoes) (unwrapped : UnwrappedCodeDoes) (pushing :
    PushingCodeIsThere) (flow : FlowLaws)
    (one_piece : ReplacedCodeIsInOnePiece) (valid : ReplacedCodeStaysValid) (do_as : PiecesDo) (context : Context) (operators : Operators) (at : ℕ) where
  abbrev MadeStands : ℕ → Made → Type 0
  MadeStands start m = MayStand context operators at (change_of at (record { start = start; made = m }))

  kept : (own : Own) (start : ℕ) (m : Made) → KeepsInPlace own → Rewrites context operators own start at m → MadeStands start m
  kept own start m keeps r =
      keeps_may_stand one_piece valid do_as context operators at (change_of at (record { start = start; made = m }))
      (stand_at laws context operators at own start m keeps r)

  may_stand : (own : Own) (start : ℕ) (m : Made) → Rewrites context operators own start at m → MadeStands start m
  may_stand (Wraps w) start (made.Wrapped v t) (e, room, u, value, tree) = wrap_stands wraps context operators at wrapped v t u value start tree
  may_stand (Unwraps w) start (made.Inner from end) h = unwrap_stands wraps context operators at unwrapped pushing w start from end h
  may_stand Unfold start m r = kept Unfold start m tt r
  may_stand ThroughGlobal start m r = kept ThroughGlobal start m tt r
  may_stand WithNop start m r = kept WithNop start m tt r
  may_stand Fold start m r = kept Fold start m tt r
  may_stand Forget start m r = kept Forget start m tt r
  may_stand TeeToSet start m r = kept TeeToSet start m tt r
  may_stand DropNop start m r = kept DropNop start m tt r
  may_stand SetToTee start m r = kept SetToTee start m tt r
  may_stand (Accesses n) start m r = kept (Accesses n) start m tt r
  may_stand SelectToIf start (made.Conditional v condition) (room, h) = select_stands context operators at flow wrapped start condition v h
  may_stand IfToSelect start made.Selected h = choice_stands context operators at flow unwrapped pushing start h
  may_stand TestCondition start made.Tested h = test_stands context operators at flow start h
  may_stand DropConditionTest start (made.Inner from end) (e, h) = untest_stands context operators at flow start from end e h
  may_stand DoubleCondition start made.DoublyTested h = double_stands context operators at flow start h
  may_stand DropDoubleCondition start (made.Inner from end) (e, h) = undouble_stands context operators at flow start from end e h
  may_stand PutDead start made.Dead (e, h) = put_stands context operators at flow h start e
  may_stand DropDead start made.Nothing h = gone_stands context operators at flow start h
  may_stand BoundIndex start (made.Bounded count) h = bound_stands context operators at flow start count h
  may_stand DropIndexBound start (made.Inner from end) (e, h) = unbound_stands context operators at flow start from end e h
  may_stand BrIfToIf start (made.InConditional label) (e, room, h) = nest_stands context operators at flow label h start e
  may_stand IfToBrIf start (made.BranchIf label) h = unnest_stands context operators at flow start label h
  may_stand own start m r = absurd r

  pub stand : (own : Own) (change : Change) → IsOwnChange context operators own at change → MayStand context operators at change
  stand own change is = subst (MayStand context operators at) (sym is.is) (may_stand own is.site.start is.site.made is.rewrites)
