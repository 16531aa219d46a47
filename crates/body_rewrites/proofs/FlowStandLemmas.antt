-- What the rules on conditions and on code that is never reached make may stand in the place of what stood there.
use Rattle.std.proofs.Common.{◌≡◌, ℕ, ◌+◌, ◌<◌, ◌≤◌, ◌&&◌, not, Bool, true, false, List, [], ◌∷◌, ◌++◌, length, map, take, drop}
use Rattle.std.proofs.Common.{refl, sym, ap, ap₂, subst, ◌∙◌, arith, append_assoc, append-nil}
use Rattle.std.specs.Prelude.{⊤, slice_range}
use Rattle.std.specs.List.{All}
use Rattle.std.proofs.lemmas.List.{map-append}
use Rattle.std.proofs.lemmas.List.Elements.{All-nil, All-cons}
use Rattle.wasm_code.specs.Instruction.{Instruction}
use Rattle.wasm_code.specs.declared.operator.Operator.{Operator}
use Rattle.wasm_code.specs.declared.operator.Operator.TheVariants as op
use Rattle.wasm_types.specs.declared.types.PrimitiveTypeInfo.TheVariants as primitive
use Rattle.body_splices.specs.declared.piece.Piece.{Piece}
use Rattle.body_splices.specs.declared.piece.Piece.TheVariants.{Kept}
use Rattle.body_splices.specs.OwnBytes.{none_of, without_offsets}
use Rattle.body_splices.specs.Splice.{IsPieceIn}
use Rattle.body_splices.specs.Laws.{pieces_operators}
use Rattle.wasm_execution.specs.declared.integer.IntegerType.TheVariants as integer
use Rattle.wasm_execution.specs.Values.{Context}
use Rattle.wasm_equivalence.specs.control.Standard.{asks_beyond}
use Rattle.wasm_equivalence.specs.hosts.Embedder.{with_operators}
use Rattle.wasm_equivalence.specs.validation.StaysValid.{Pushes}
use Rattle.wrapped_code.specs.Handlers.{none_handle}
use Rattle.wrapped_code.specs.Conditions.{SameTruth, ConditionsMayChange}
use Rattle.wrapped_code.specs.Indices.{IndicesMayChange}
use Rattle.wrapped_code.specs.Dead.{never_goes_on, DeadCodeMayChange}
use Rattle.wrapped_code.specs.Nested.{BranchesMayNest, BranchesMayUnnest}
use Rattle.rewrite_rules.specs.Beside.{drop_code}
use Rattle.rewrite_rules.specs.Instance.{constant_code}
use Rattle.rewrite_rules.specs.Flow.{zero_code, ne_code, eqz_code, SelectsAreConditionals, TestsAreConditions}
use Rattle.rewrite_rules.specs.Flow.{BoundsAreIndices, DroppedCodePushesNothing, DroppedConstantsPushNothing}
use Rattle.body_rewrites.specs.declared.own.Made.TheVariants as made
use Rattle.body_rewrites.specs.Trees.{Stands}
use Rattle.body_rewrites.specs.Doing.{DoesAsBody}
use Rattle.body_rewrites.specs.Changes.{Change, changed, MayStand}
use Rattle.body_rewrites.specs.Own.{HasCondition, HasPlainLeave, IsAsked, IsDead, IsTested, new, change_of}
use Rattle.body_rewrites.proofs.StandsLemmas.{Operators, stands_snoc}
use Rattle.body_rewrites.proofs.AloneLemmas.{range_split}
use Rattle.body_rewrites.proofs.LeavesLemmas.{trees_leave}
use Rattle.body_rewrites.proofs.BehindLemmas.{behind_instruction}
use Rattle.body_rewrites.proofs.ChangedLemmas.{three_parts, code_unasked}
use Rattle.body_rewrites.proofs.WritingLemmas.{range_alone}
use Rattle.body_rewrites.proofs.FlowLemmas.{range_one, drop_one, take_one, there_inside, behind_operator, leave_goes, tree_range}

-- what holds of these rules' code
pub record FlowLaws : Type 0 where
  pub branches : SelectsAreConditionals
  pub tests : TestsAreConditions
  pub conditions : ConditionsMayChange
  pub bounds : BoundsAreIndices
  pub indices : IndicesMayChange
  pub dead : DeadCodeMayChange
  pub nests : BranchesMayNest
  pub unnests : BranchesMayUnnest
  pub dropped : DroppedCodePushesNothing
  pub constants : DroppedConstantsPushNothing

abbrev pub instr_of : Instruction → Operator
instr_of i = op.Instr i

module _ (context : Context) (operators : Operators) (at : ℕ) where
  abbrev os : List Operator
  os = without_offsets operators

  -- what is kept stands there
  pub kept : (start end : ℕ) → start ≤ end → end < length operators → IsPieceIn operators (Kept start end)
  kept start end l inside = record { ordered = l; inside = inside }

  abbrev pub AllIn : List Piece → Type 0
  AllIn [] = ⊤
  AllIn (p ∷ ps) = IsPieceIn operators p × AllIn ps

  pub all_in : (ps : List Piece) → AllIn ps → All (IsPieceIn operators) ps
  all_in [] h = All-nil (IsPieceIn operators)
  all_in (p ∷ ps) h = All-cons (IsPieceIn operators) p ps h.0 (all_in ps h.1)

  -- ---- conditions

  module _ (laws : FlowLaws) (begin : ℕ) (pieces : (word : ℕ) → List Piece) (own code : List Instruction) (ordered : begin ≤ at)
      (stands : slice_range os begin (at + 1) ≡ map instr_of own) (are : (word : ℕ) → pieces_operators os (pieces word) ≡ map instr_of code)
      (within : (word : ℕ) → at + 1 < length operators → All (IsPieceIn operators) (pieces word)) (behind : HasCondition operators (at + 1))
      (pushes : Pushes context own [] (primitive.I32 ∷ [])) (pushes_so : Pushes context code [] (primitive.I32 ∷ [])) (truth : SameTruth context own code) where
    abbrev asking : Change
    asking = record { start = begin; pieces = pieces; asks = [] }

    branch_is : drop (at + 1) os ≡ behind.operator ∷ drop (at + 1 + 1) os
    branch_is = drop_one os (at + 1) behind.operator behind.has

    condition_does : (word : ℕ) → DoesAsBody context [] os (changed operators at asking word)
    condition_does word m input b same is =
        laws.conditions m input b (with_operators (changed operators at asking word) b) (record {
          params_are = refl;
          locals_are = refl;
          front = take begin os;
          back = drop (at + 1 + 1) os;
          own = own;
          code = code;
          branch = behind.operator;
          asks = behind.is;
          old_is = sym is
              ∙ (three_parts os begin (at + 1) (omega (arith, ordered))
              ∙ ap₂ (λ (a b : List Operator). take begin os ++ (a ++ b)) stands branch_is);
          new_is = ap₂ (λ (a b : List Operator). take begin os ++ (a ++ b)) (are word) branch_is;
          pushes = subst (λ (k : Context). Pushes k own [] (primitive.I32 ∷ [])) same pushes;
          pushes_so = subst (λ (k : Context). Pushes k code [] (primitive.I32 ∷ [])) same pushes_so;
          truth = subst (λ (k : Context). SameTruth k own code) same truth;
        })

    condition_stands : MayStand context operators at asking
    condition_stands = record {
      ordered = ordered;
      followed = λ inside last. there_inside operators (at + 1) behind.operator behind.has;
      within = within;
      unasked = ap (none_of asks_beyond) stands ∙ code_unasked own;
      unasking = λ word. ap (none_of asks_beyond) (are word) ∙ code_unasked code;
      does = λ word inside none. condition_does word;
    }

  module _ (laws : FlowLaws) (start : ℕ) where
    -- a test put behind a condition
    module _ (h : IsAsked context operators start at) (one other : Instruction) where
      abbrev tested : (word : ℕ) → List Piece
      tested word = Kept start (at + 1) ∷ new (one ∷ other ∷ [])

      tested_is : slice_range os start (at + 1) ≡ map instr_of h.tree.code
      tested_is = tree_range context operators start at (at + 1) primitive.I32 h.tree refl

      tested_stands : Pushes context h.tree.code [] (primitive.I32 ∷ []) →
          Pushes context (h.tree.code ++ (one ∷ other ∷ [])) [] (primitive.I32 ∷ []) → SameTruth context h.tree.code (h.tree.code ++ (one ∷ other ∷ [])) →
          MayStand context operators at (record { start = start; pieces = tested; asks = [] })
      tested_stands pushes pushes_so truth =
          condition_stands laws start tested h.tree.code (h.tree.code ++ (one ∷ other ∷ [])) h.tree.ordered tested_is
          (λ word.
          ap (λ (l : List Operator). l ++ (instr_of one ∷ instr_of other ∷ [])) tested_is ∙ sym (map-append instr_of h.tree.code (one ∷ other ∷ [])))
          (λ word l.
          all_in (tested word) (kept start (at + 1) (let o = h.tree.ordered in omega (arith, o)) l, (tt, (tt, tt))))
          h.behind pushes pushes_so truth

    -- a test taken away
    module _ (end : ℕ) (one other : Instruction) (h : IsTested context operators one other start at end) where
      untested_end : start ≤ end
      untested_end = let e = h.last_is in let l = h.tree.ordered in omega (arith, e, l)

      both_stand : Stands operators start (at + 1) (h.tree.code ++ (one ∷ other ∷ []))
      both_stand =
          let before = stands_snoc operators start end h.tree.code one untested_end h.first
          (subst (λ k. Stands operators start k h.tree.code) h.last_is h.tree.stands) in
          subst (Stands operators start (at + 1)) (append_assoc h.tree.code (one ∷ []) (other ∷ []))
          (stands_snoc operators start at (h.tree.code ++ one ∷ []) other (let e = h.ends in let l = untested_end in omega (arith, e, l)) h.second
          (subst (λ k. Stands operators start k (h.tree.code ++ one ∷ [])) h.ends before))

      untested_stands : Pushes context (h.tree.code ++ (one ∷ other ∷ [])) [] (primitive.I32 ∷ []) → Pushes context h.tree.code [] (primitive.I32 ∷ []) →
          SameTruth context (h.tree.code ++ (one ∷ other ∷ [])) h.tree.code →
          MayStand context operators at (change_of at (record { start = start; made = made.Inner start end }))
      untested_stands pushes pushes_so truth =
          condition_stands laws start (λ word. Kept start end ∷ []) (h.tree.code ++ (one ∷ other ∷ [])) h.tree.code
          (let e = h.ends in let l = untested_end in omega (arith, e, l)) (range_alone operators start (at + 1) ∙ both_stand)
          (λ word. append-nil (slice_range os start end) ∙ tree_range context operators start h.last end primitive.I32 h.tree h.last_is)
          (λ word l.
          all_in (Kept start end ∷ []) (kept start end untested_end (let e = h.ends in omega (arith, e, l)), tt))
          h.behind pushes pushes_so truth

    pub test_stands : IsAsked context operators start at → MayStand context operators at (change_of at (record { start = start; made = made.Tested }))
    test_stands h =
        let leaves = trees_leave context operators start at primitive.I32 h.tree in
        tested_stands h zero_code ne_code (laws.tests.pushes context h.tree.code leaves) (laws.tests.pushes_not_zero context h.tree.code leaves)
        (laws.tests.not_zero context h.tree.code leaves)

    pub double_stands : IsAsked context operators start at → MayStand context operators at (change_of at (record { start = start; made = made.DoublyTested }))
    double_stands h =
        let leaves = trees_leave context operators start at primitive.I32 h.tree in
        tested_stands h eqz_code eqz_code (laws.tests.pushes context h.tree.code leaves) (laws.tests.pushes_twice_zero context h.tree.code leaves)
        (laws.tests.twice_zero context h.tree.code leaves)

    -- where the code begins that is left
    begun : (from end : ℕ) → from ≡ start → MayStand context operators at (change_of at (record { start = start; made = made.Inner start end })) →
        MayStand context operators at (change_of at (record { start = start; made = made.Inner from end }))
    begun from end e h = subst (λ k. MayStand context operators at (change_of at (record { start = start; made = made.Inner k end }))) (sym e) h

    pub untest_stands : (from end : ℕ) → from ≡ start → IsTested context operators zero_code ne_code start at end →
        MayStand context operators at (change_of at (record { start = start; made = made.Inner from end }))
    untest_stands from end e h =
        let leaves = trees_leave context operators start h.last primitive.I32 h.tree in
        begun from end e (untested_stands end zero_code ne_code h (laws.tests.pushes_not_zero context h.tree.code leaves)
        (laws.tests.pushes context h.tree.code leaves) (laws.tests.not_zero_turned context h.tree.code leaves))

    pub undouble_stands : (from end : ℕ) → from ≡ start → IsTested context operators eqz_code eqz_code start at end →
        MayStand context operators at (change_of at (record { start = start; made = made.Inner from end }))
    undouble_stands from end e h =
        let leaves = trees_leave context operators start h.last primitive.I32 h.tree in
        begun from end e (untested_stands end eqz_code eqz_code h (laws.tests.pushes_twice_zero context h.tree.code leaves)
        (laws.tests.pushes context h.tree.code leaves) (laws.tests.twice_zero_turned context h.tree.code leaves))

  -- ---- code that is never reached

  module _ (laws : FlowLaws) (begin : ℕ) (pieces : (word : ℕ) → List Piece) (own : List Instruction) (code : (word : ℕ) → List Instruction)
      (before : List Operator) (leave : Operator) (leaves : never_goes_on leave ≡ true)
      (was : os ≡ before ++ (leave ∷ (map instr_of own ++ drop (at + 1) os)))
      (becomes : (word : ℕ) → changed operators at (record { start = begin; pieces = pieces; asks = [] }) word
      ≡ before ++ (leave ∷ (map instr_of (code word) ++ drop (at + 1) os)))
      (pushes : Pushes context own [] []) (pushes_so : (word : ℕ) → Pushes context (code word) [] []) where
    dead_does : (word : ℕ) → none_handle os ≡ true →
        DoesAsBody context [] os (changed operators at (record { start = begin; pieces = pieces; asks = [] }) word)
    dead_does word none m input b same is =
        laws.dead m input b (with_operators (changed operators at (record { start = begin; pieces = pieces; asks = [] }) word) b) (record {
          params_are = refl;
          locals_are = refl;
          unhandled = subst (λ (l : List Operator). none_handle l ≡ true) is none;
          front = before;
          back = drop (at + 1) os;
          own = own;
          code = code word;
          leave = leave;
          leaves = leaves;
          old_is = sym is ∙ was;
          new_is = becomes word;
          pushes = subst (λ (k : Context). Pushes k own [] []) same pushes;
          pushes_so = subst (λ (k : Context). Pushes k (code word) [] []) same (pushes_so word);
        })

  nothing_pushed : Pushes context [] [] []
  nothing_pushed = λ f. refl

  -- what is put behind such an operator
  module _ (laws : FlowLaws) (h : HasPlainLeave operators at) where
    abbrev put : Change
    put = change_of at (record { start = at; made = made.Dead })

    leave_is : slice_range os at (at + 1) ≡ h.leave.operator ∷ []
    leave_is = range_one os at h.leave.operator h.leave.has

    abbrev dead_code : ℕ → List Instruction
    dead_code word = constant_code integer.I32 word ∷ drop_code ∷ []

    plain_unasked : (rest : List Operator) → none_of asks_beyond rest ≡ true → none_of asks_beyond (h.leave.operator ∷ rest) ≡ true
    plain_unasked rest e = go (asks_beyond h.leave.operator) h.plain
      where
        go : (b : Bool) → b ≡ false → (not b && none_of asks_beyond rest) ≡ true
        go true k = absurd cc
        go false k = e

    put_at : MayStand context operators at put
    put_at = record {
      ordered = omega arith;
      followed = λ inside last. behind_operator operators at h.leave.operator h.leave.has (leave_goes h.leave.operator h.leave.leaves) last;
      within = λ word l.
          all_in (put.pieces word) (kept at (at + 1) (omega arith) l, (tt, (tt, tt)));
      unasked = ap (none_of asks_beyond) leave_is ∙ plain_unasked [] refl;
      unasking = λ word.
          ap (λ (l : List Operator). none_of asks_beyond (l ++ map instr_of (dead_code word))) leave_is
          ∙ plain_unasked (map instr_of (dead_code word)) refl;
      does = λ word inside none.
          dead_does laws at put.pieces [] dead_code (take at os) h.leave.operator h.leave.leaves
          (three_parts os at (at + 1) (omega arith) ∙ ap (λ (l : List Operator). take at os ++ (l ++ drop (at + 1) os)) leave_is)
          (λ word. ap (λ (l : List Operator). take at os ++ ((l ++ map instr_of (dead_code word)) ++ drop (at + 1) os)) leave_is) nothing_pushed
          (λ word. laws.constants context integer.I32 word) word none;
    }

    pub put_stands : (start : ℕ) → start ≡ at → MayStand context operators at (change_of at (record { start = start; made = made.Dead }))
    put_stands start e = subst (λ k. MayStand context operators at (change_of at (record { start = k; made = made.Dead }))) (sym e) put_at

  -- what is taken away behind one
  module _ (laws : FlowLaws) (start : ℕ) (h : IsDead context operators start at) where
    abbrev gone : Change
    gone = change_of at (record { start = start; made = made.Nothing })

    start_dropped : start ≤ at
    start_dropped = let e = h.last_is in let l = h.tree.ordered in omega (arith, e, l)

    dropped_is : slice_range os start (at + 1) ≡ map instr_of (h.tree.code ++ drop_code ∷ [])
    dropped_is =
        range_split os start at (at + 1) start_dropped (omega arith)
        ∙ (ap₂ (λ (a b : List Operator). a ++ b) (tree_range context operators start h.last at h.type h.tree h.last_is)
        (range_one os at (instr_of drop_code) h.dropped)
        ∙ sym (map-append instr_of h.tree.code (drop_code ∷ [])))

    until_is : take start os ≡ take h.place os ++ h.leave.operator ∷ []
    until_is = ap (λ k. take k os) (sym h.place_is) ∙ take_one os h.place h.leave.operator h.leave.has

    behind_leave : (l : List Operator) → take start os ++ l ≡ take h.place os ++ (h.leave.operator ∷ l)
    behind_leave l = ap (λ (a : List Operator). a ++ l) until_is ∙ append_assoc (take h.place os) (h.leave.operator ∷ []) l

    pub gone_stands : MayStand context operators at gone
    gone_stands = record {
      ordered = start_dropped;
      followed = λ inside last. behind_instruction operators at drop_code h.dropped last;
      within = λ word l. all_in [] tt;
      unasked = ap (none_of asks_beyond) dropped_is ∙ code_unasked (h.tree.code ++ drop_code ∷ []);
      unasking = λ word. refl;
      does = λ word inside none.
          dead_does laws start gone.pieces (h.tree.code ++ drop_code ∷ []) (λ word. []) (take h.place os) h.leave.operator h.leave.leaves
          (three_parts os start (at + 1) (let l = start_dropped in omega (arith, l))
          ∙ (ap (λ (l : List Operator). take start os ++ (l ++ drop (at + 1) os)) dropped_is
          ∙ behind_leave (map instr_of (h.tree.code ++ drop_code ∷ []) ++ drop (at + 1) os)))
          (λ word. behind_leave (drop (at + 1) os))
          (laws.dropped context h.tree.code h.type (trees_leave context operators start h.last h.type h.tree)) (λ word. nothing_pushed) word none;
    }
