-- Where a line that is well formed and right applies, what it writes may stand in the place of what it is an instance of.
use Rattle.std.proofs.Common.{◌≡◌, ℕ, true, List, [], ◌∷◌, ◌++◌, map, Some, sym, ap, ap₂, ◌∙◌, subst}
use Rattle.std.specs.Prelude.{◌==◌, ◌&&◌, ◌||◌, option_and_then}
use Rattle.std.proofs.lemmas.Bool.{and_parts, or_right}
use Rattle.wasm_code.specs.Instruction.{Instruction}
use Rattle.wasm_types.specs.declared.types.PrimitiveTypeInfo.{PrimitiveTypeInfo}
use Rattle.wasm_execution.specs.Values.{Value, IsOfType, Context, State, HasTypes, above}
use Rattle.wasm_execution.specs.IntegerRow.{integer_row}
use Rattle.wasm_execution.specs.Machine.{run}
use Rattle.wasm_execution.specs.Agreement.{with_globals}
use Rattle.wasm_execution.specs.RowLemmas.{and_then_some}
use Rattle.wasm_execution.specs.StateLemmas.{Follows}
use Rattle.wasm_execution.specs.SameLemmas.{run_follows}
use Rattle.wasm_equivalence.specs.control.Wider.{wider}
use Rattle.wasm_equivalence.specs.validation.StaysValid.{Pushes, TypedCodePushes, PushesOnFrames, RowTypesStay}
use Rattle.rewrite_rules.specs.Code.{types_behind, types_after, Leaves}
use Rattle.rewrite_rules.specs.Pattern.{Kind, fixed, any, kind_at, holes, draws_by, hole_kind_of, kind_in, same_kind, fits, uses_exact, traps_at_root}
use Rattle.rewrite_rules.specs.Order.{is_in, every}
use Rattle.rewrite_rules.specs.Line.{Line, is_formed, IsOfKind, IsRight}
use Rattle.rewrite_rules.specs.Instance.{code_of, doing, Applies, StandsFor}
use Rattle.rewrite_rules.specs.Laws.{LinesKeepCode}
use Rattle.rewrite_rules.proofs.CodeLemmas.{behind}
use Rattle.rewrite_rules.proofs.IndexLemmas.{every_in, each_from}
use Rattle.rewrite_rules.proofs.OrderLemmas.{moved}
use Rattle.rewrite_rules.proofs.OperatorLemmas.{finished}
use Rattle.rewrite_rules.proofs.ValueLemmas.{kinds_same, hole_type, ends, ends_at}
use Rattle.rewrite_rules.proofs.TypesLemmas.{behind_is}
use Rattle.rewrite_rules.proofs.MeaningLemmas.{AreLeft, does, all_good, code_typed, pattern_runs}

-- ---- valid alike

module _ (push : TypedCodePushes) (stay : RowTypesStay) (context : Context) where
  -- typed code in the module with further globals
  pub after_wider : (input : List ℕ) (more : List PrimitiveTypeInfo) (code : List Instruction) (ts us : List PrimitiveTypeInfo) →
      types_after context code ts ≡ Some us → types_after (wider input more context) code ts ≡ Some us
  after_wider input more [] ts us e = e
  after_wider input more (i ∷ code) ts us e =
      let (ms, k, l) = and_then_some (types_after context code) (types_behind context i ts) us e in
      let b = behind context i ts ms k in
      let first : types_behind (wider input more context) i ts ≡ Some ms =
      ap (types_behind (wider input more context) i) b.parts
      ∙ (behind_is (wider input more context) i b.below b.operands b.results
      (stay context input more (integer_row i) b.operands b.results b.typed)
      ∙ ap (λ x. Some x) (sym b.gives)) in
      ap (option_and_then (types_after (wider input more context) code)) first ∙ after_wider input more code ms us l

  -- it pushes its types
  pub pushes : (code : List Instruction) (ts us : List PrimitiveTypeInfo) → types_after context code ts ≡ Some us → Pushes context code ts us
  pushes [] ts us e = subst (Pushes context [] ts) (let same : ts ≡ us = cc in same) (push.nothing context ts)
  pushes (i ∷ code) ts us e =
      let (ms, k, l) = and_then_some (types_after context code) (types_behind context i ts) us e in
      let b = behind context i ts ms k in
      let one = push.above context (i ∷ []) b.below b.operands b.results (push.row context i b.operands b.results b.typed) in
      push.follow context (i ∷ []) code ts ms us
      (subst (λ l. Pushes context (i ∷ []) l ms) (sym b.parts)
      (subst (Pushes context (i ∷ []) (b.below ++ b.operands)) (sym b.gives) one)) (pushes code ms us l)

-- ---- numbers of the holes' kinds

of_kind : (u : PrimitiveTypeInfo) (k : Kind) (n : ℕ) → IsOfType (kind_at u k) n → IsOfKind k n
of_kind u (fixed t) n h = h
of_kind u any n h = tt

module _ (push : TypedCodePushes) (frames : PushesOnFrames) (stay : RowTypesStay) (l : Line) (formed : is_formed l ≡ true) (right : IsRight l)
    (context : Context) (x : ℕ → List Instruction) (c : ℕ → ℕ) (words : List ℕ) (a : Applies context l x c) where
  -- what is well formed, one by one
  record Formed : Type 0 where
    left_fits : fits l.kinds l.left ≡ true
    right_fits : fits l.kinds l.right ≡ true
    left_root : traps_at_root l.left ≡ true
    right_root : traps_at_root l.right ≡ true
    same : kind_in l.kinds l.left ≡ kind_in l.kinds l.right
    within : every (is_in (holes l.left)) (holes l.right) ≡ true

  parts : Formed
  parts =
      let fit = fits l.kinds l.left && fits l.kinds l.right in
      let root = traps_at_root l.left && traps_at_root l.right in
      let last = draws_by l.left == 0 && every (is_in (holes l.left)) (holes l.right) in
      let kind = same_kind (kind_in l.kinds l.left) (kind_in l.kinds l.right) in
      let p = and_parts fit (root && (kind && last)) formed in
      let b = and_parts root (kind && last) p.1 in
      let d = and_parts kind last b.1 in
      let f = and_parts (fits l.kinds l.left) (fits l.kinds l.right) p.0 in
      let g = and_parts (traps_at_root l.left) (traps_at_root l.right) b.0 in
      let k = and_parts (draws_by l.left == 0) (every (is_in (holes l.left)) (holes l.right)) d.1 in
      record { left_fits = f.0; right_fits = f.1; left_root = g.0; right_root = g.1; same = kinds_same _ _ d.0; within = k.1 }

  abbrev u : PrimitiveTypeInfo
  u = a.type

  abbrev old : List Instruction
  old = code_of x c [] l.left

  abbrev new : List Instruction
  new = code_of x c words l.right

  within : (n : ℕ) → is_in (holes l.right) n ≡ true → is_in (holes l.left) n ≡ true
  within n i = every_in (is_in (holes l.left)) (holes l.right) n parts.within i

  left_good : AreLeft context u a.numeric l.kinds x c (holes l.left)
  left_good = each_from (λ n. Leaves context (x n) (kind_at u (hole_kind_of l.kinds n))) (holes l.left) a.leave

  right_good : AreLeft context u a.numeric l.kinds x c (holes l.right)
  right_good = each_from (λ n. Leaves context (x n) (kind_at u (hole_kind_of l.kinds n))) (holes l.right) (λ n i. a.leave n (within n i))

  -- both do the same
  same_run : (stack : List Value) (s : State) → HasTypes context s → run old stack s ≡ run new stack s
  same_run stack s h =
      let τ = hole_type u l.kinds c in
      pattern_runs context u a.numeric l.kinds x c l.left (λ e. a.exact (ap (λ b. b || uses_exact l.right) e)) parts.left_root parts.left_fits
      left_good [] stack s h
      ∙ (moved context (does context u a.numeric l.kinds x c) (doing x) τ (holes l.left) (holes l.right) a.moves within
      (all_good context u a.numeric l.kinds x c (holes l.left) left_good)
      (λ vs m. above stack (ends u l.kinds c [] l.left vs m)) (λ vs m. above stack (ends u l.kinds c words l.right vs m)) alike s h
      ∙ sym (pattern_runs context u a.numeric l.kinds x c l.right (λ e. a.exact (or_right (uses_exact l.left) (uses_exact l.right) e)) parts.right_root
      parts.right_fits right_good words stack s h))
    where
      alike : (h : ℕ → ℕ) → ((n : ℕ) → IsOfType (hole_type u l.kinds c n) (h n)) → (m : State) → HasTypes context m →
          above stack (ends u l.kinds c [] l.left (map (λ n. record { type = hole_type u l.kinds c n; number = h n }) (holes l.left)) m)
          ≡ above stack (ends u l.kinds c words l.right (map (λ n. record { type = hole_type u l.kinds c n; number = h n }) (holes l.right)) m)
      alike h fit m hm = ap (above stack)
          (ends_at u l.kinds c h [] l.left m
          ∙ (ap₂ (λ k y. finished (kind_at u k) y m) parts.same
          (right h c [] words (λ n. of_kind u (hole_kind_of l.kinds n) (h n) (fit n)) a.as_asked)
          ∙ sym (ends_at u l.kinds c h words l.right m)))

  -- both have one type
  abbrev t : PrimitiveTypeInfo
  t = kind_at u (kind_in l.kinds l.left)

  old_typed : types_after context old [] ≡ Some (t ∷ [])
  old_typed = code_typed context u a.numeric l.kinds x c l.left [] parts.left_fits left_good []

  new_typed : types_after context new [] ≡ Some (t ∷ [])
  new_typed =
      code_typed context u a.numeric l.kinds x c l.right words parts.right_fits right_good []
      ∙ ap (λ k. Some (kind_at u k ∷ [])) (sym parts.same)

  stands_for : StandsFor context old new
  stands_for = record {
    runs = λ more stack requested s hs h e n.
        subst (λ o. Follows requested o (run new stack (with_globals requested s))) (sym (same_run stack s h))
        (run_follows context new requested stack s h hs (λ k. n (same_run stack s h ∙ k)));
    checks = λ input more f g e.
        let after = wider input more context in
        frames after new (t ∷ []) (pushes push stay after new [] (t ∷ []) (after_wider push stay context input more new [] (t ∷ []) new_typed)) f
        ∙ (sym (frames context old (t ∷ []) (pushes push stay context old [] (t ∷ []) old_typed) f) ∙ e);
  }

pub lines_keep_code : TypedCodePushes → PushesOnFrames → RowTypesStay → LinesKeepCode
lines_keep_code push frames stay l formed right context x c words a = stands_for push frames stay l formed right context x c words a
