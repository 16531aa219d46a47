-- Every way to wrap a value is right.
use Rattle.std.proofs.Common.{◌≡◌, ℕ, zero, suc, ◌%◌, ◌^◌, ◌<◌, List, [], ◌∷◌, ◌++◌, map, Some, refl, sym, ap, ◌∙◌, subst, lit<}
use Rattle.std.specs.Prelude.{⊤, Bool}
use Rattle.std.specs.Int.{w32}
use Rattle.std.proofs.Math.Nat.{mod-eq_of_lt, mod-lt}
use Rattle.std.proofs.lemmas.Int.{of_z-to_z}
use Rattle.std.proofs.lemmas.Nat.{pow_pos}
use Rattle.wasm_code.specs.Instruction.{Instruction}
use Rattle.wasm_code.specs.declared.immediate.BlockType.TheVariants.{Value}
use Rattle.wasm_code.specs.declared.immediate.ValType.{ValType}
use Rattle.wasm_code.specs.declared.immediate.ValType.TheVariants as value
use Rattle.wasm_code.specs.declared.operator.Operator.{Operator}
use Rattle.wasm_code.specs.declared.operator.Operator.TheVariants as op
use Rattle.wasm_types.specs.Module.{merged}
use Rattle.wasm_types.specs.declared.types.PrimitiveTypeInfo.{PrimitiveTypeInfo}
use Rattle.wasm_types.specs.declared.types.PrimitiveTypeInfo.TheVariants as primitive
use Rattle.wasm_execution.specs.declared.integer.IntegerType.TheVariants as integer
use Rattle.wasm_execution.specs.OtherRow.{value_type}
use Rattle.wasm_execution.specs.Values.{Context}
use Rattle.wasm_execution.specs.IntegerRow as row
use Rattle.wasm_execution.specs.IntegerRow.{integer_row}
use Rattle.wasm_execution.specs.SameLemmas.{run_follows}
use Rattle.wasm_equivalence.specs.control.Blocks.{arity_of}
use Rattle.wasm_equivalence.specs.control.Wider.{wider}
use Rattle.wasm_equivalence.specs.validation.StaysValid.{Pushes, TypedCodePushes, RowTypesStay}
use Rattle.wrapped_code.specs.Wrapped.{Wrapped, plain, both, block, loop, choice, leaving, exits, once, trap, written, WrappedRunsAs}
use Rattle.wrapped_code.specs.Ways.{WrappedPushes, WrappedCodePushes, PushedCodeChecksAs, IsPure, WrappedCodeRuns}
use Rattle.rewrite_rules.specs.declared.wrap.Wrap.{Wrap}
use Rattle.rewrite_rules.specs.declared.wrap.Wrap.TheVariants.{InBlock, InLoop, InIf, InElse, LeaveBlock, LeaveOver, LeaveDead, MayLeave, SurelyLeave, Once}
use Rattle.rewrite_rules.specs.declared.wrap.WrapItem.{WrapItem}
use Rattle.rewrite_rules.specs.declared.wrap.WrapItem.TheVariants.{Block, Loop, If, Else, End, Branch, BranchIf, Unreachable, Zero, NonZero, Any}
use Rattle.rewrite_rules.specs.Code.{Leaves}
use Rattle.rewrite_rules.specs.Numbers.{low}
use Rattle.rewrite_rules.specs.Instance.{constant_code}
use Rattle.rewrite_rules.specs.Wrap.{front_of, back_of, IsItem, AreItems, value_of, MayWrap, WrapsAreRight}
use Rattle.rewrite_rules.proofs.LineLemmas.{after_wider, pushes}
use Rattle.rewrite_rules.proofs.MeaningLemmas.{constant_row, constant_types, constant_runs}

-- ---- operators by their numbers

-- the operator that an item is, with the number of its constant, or of the one before that
abbrev spelled : WrapItem → ValType → ℕ → Operator
spelled Block v n = op.Block (Value v)
spelled Loop v n = op.Loop (Value v)
spelled If v n = op.If (Value v)
spelled Else v n = op.Else
spelled End v n = op.End
spelled Branch v n = op.Br 0
spelled BranchIf v n = op.BrIf 0
spelled Unreachable v n = op.Unreachable
spelled Zero v n = op.Instr (constant_code integer.I32 0)
spelled NonZero v n = op.Instr (constant_code integer.I32 (suc n))
spelled Any v n = op.Instr (constant_code integer.I32 n)

-- The number is that of a constant.
abbrev Fits : WrapItem → ℕ → Type 0
Fits NonZero n = suc n < 2 ^ 32
Fits Any n = n < 2 ^ 32
Fits i n = ⊤

-- one by one
abbrev all_spelled : List WrapItem → ValType → (ℕ → ℕ) → List Operator
all_spelled [] v at = []
all_spelled (i ∷ items) v at = spelled i v (at 0) ∷ all_spelled items v (λ k. at (suc k))

abbrev AllFit : List WrapItem → (ℕ → ℕ) → Type 0
AllFit [] at = ⊤
AllFit (i ∷ items) at = Fits i (at 0) × AllFit items (λ k. at (suc k))

record Spelled (items : List WrapItem) (v : ValType) (os : List Operator) : Type 0 where
  at : ℕ → ℕ
  fit : AllFit items at
  is : os ≡ all_spelled items v at

record IsSpelled (i : WrapItem) (v : ValType) (o : Operator) : Type 0 where
  at : ℕ
  fit : Fits i at
  is : o ≡ spelled i v at

item : (i : WrapItem) (v : ValType) (o : Operator) → IsItem i v o → IsSpelled i v o
item Block v o e = record { at = 0; fit = tt; is = e }
item Loop v o e = record { at = 0; fit = tt; is = e }
item If v o e = record { at = 0; fit = tt; is = e }
item Else v o e = record { at = 0; fit = tt; is = e }
item End v o e = record { at = 0; fit = tt; is = e }
item Branch v o e = record { at = 0; fit = tt; is = e }
item BranchIf v o e = record { at = 0; fit = tt; is = e }
item Unreachable v o e = record { at = 0; fit = tt; is = e }
item Zero v o e = record { at = 0; fit = tt; is = e }
item NonZero v o e = record { at = e.0; fit = e.1; is = e.2 }
item Any v o e = record { at = e.0; fit = e.1; is = e.2 }

abbrev before : ℕ → (ℕ → ℕ) → ℕ → ℕ
before n at zero = n
before n at (suc k) = at k

items_are : (items : List WrapItem) (v : ValType) (os : List Operator) → AreItems items v os → Spelled items v os
items_are [] v [] e = record { at = λ k. 0; fit = tt; is = refl }
items_are [] v (o ∷ os) e = absurd e
items_are (i ∷ items) v [] e = absurd e
items_are (i ∷ items) v (o ∷ os) e =
    let first = item i v o e.0 in
    let rest = items_are items v os e.1 in
    record { at = before first.at rest.at; fit = (first.fit, rest.fit); is = ap (λ p. p ∷ os) first.is ∙ ap (λ ps. spelled i v first.at ∷ ps) rest.is }

-- ---- types

-- the type of values that are wrapped is the block's, whatever references have
pub merged_is : (one_reference : Bool) (t : PrimitiveTypeInfo) (v : ValType) → value_of t ≡ Some v → merged one_reference (value_type v) ≡ t
merged_is b primitive.I32 v e = let is : value.I32 ≡ v = cc in subst (λ u. merged b (value_type u) ≡ primitive.I32) is refl
merged_is b primitive.I64 v e = let is : value.I64 ≡ v = cc in subst (λ u. merged b (value_type u) ≡ primitive.I64) is refl
merged_is b primitive.F32 v e = let is : value.F32 ≡ v = cc in subst (λ u. merged b (value_type u) ≡ primitive.F32) is refl
merged_is b primitive.F64 v e = let is : value.F64 ≡ v = cc in subst (λ u. merged b (value_type u) ≡ primitive.F64) is refl
merged_is b primitive.V128 v e = let is : value.V128 ≡ v = cc in subst (λ u. merged b (value_type u) ≡ primitive.V128) is refl
merged_is b primitive.FuncRef v e = absurd cc
merged_is b primitive.ExternRef v e = absurd cc
merged_is b primitive.Empty v e = absurd cc

-- ---- constants

abbrev number : ℕ → Instruction
number n = constant_code integer.I32 n

pub number_row : (n : ℕ) → n < 2 ^ 32 → integer_row (number n) ≡ row.constant integer.I32 n
number_row n l =
    constant_row integer.I32 n ∙
    ap (λ m. row.constant integer.I32 m) (of_z-to_z w32 (n % 2 ^ 32) (mod-lt n (pow_pos 32)) ∙ mod-eq_of_lt l)

abbrev number_is_pure : (context : Context) (n : ℕ) → IsPure context primitive.I32 (number n ∷ [])
number_is_pure context n = record {
  value = λ s. record { type = primitive.I32; number = low integer.I32 n };
  typed = λ s h. refl;
  is_value = λ s h. mod-lt n (pow_pos 32);
  gives = λ stack s a h. constant_runs integer.I32 n stack s;
}

-- ---- the ways

module _ (push : TypedCodePushes) (stay : RowTypesStay) (types : WrappedCodePushes) (alike : PushedCodeChecksAs) (ways : WrappedCodeRuns)
    (context : Context) (own : List Instruction) (t : PrimitiveTypeInfo) (v : ValType) (of_type : value_of t ≡ Some v) (leaves : Leaves context own t) where
  -- what a block of the type gives
  abbrev ends : Context → List PrimitiveTypeInfo
  ends c = (arity_of c.info (Value v)).ends

  ends_are : (c : Context) → ends c ≡ t ∷ []
  ends_are c = ap (λ u. u ∷ []) (merged_is c.info.one_reference t v of_type)

  own_pushes : Pushes context own [] (t ∷ [])
  own_pushes = pushes push stay context own [] (t ∷ []) leaves

  -- in a context where the code pushes such a value
  abbrev PushesOwn : Context → Type 0
  PushesOwn c = Pushes c own [] (ends c)

  abbrev Gives : Context → Wrapped → Type 0
  Gives c code = WrappedPushes c code [] (ends c)

  pushes_own : (c : Context) → Pushes c own [] (t ∷ []) → PushesOwn c
  pushes_own c p = subst (Pushes c own []) (sym (ends_are c)) p

  made : (code : Wrapped) (front back : List Operator) →
      ((rest : List Operator) → written code rest ≡ front ++ (map (λ (i : Instruction). op.Instr i) own ++ (back ++ rest))) →
      ((more : List PrimitiveTypeInfo) → WrappedRunsAs context more own code) → ((c : Context) → PushesOwn c → Gives c code) →
      MayWrap context own t front back
  made code front back is runs gives = record {
    code = code;
    written_is = is;
    runs = runs;
    checks = λ input more.
        let after = wider input more context in
        let p = pushes push stay after own [] (t ∷ []) (after_wider push stay context input more own [] (t ∷ []) leaves) in
        alike context after own code (t ∷ []) own_pushes (subst (WrappedPushes after code []) (ends_are after) (gives after (pushes_own after p)));
    pushes = own_pushes;
    pushes_so = subst (WrappedPushes context code []) (ends_are context) (gives context (pushes_own context own_pushes));
  }

  -- the code itself
  self : (more : List PrimitiveTypeInfo) → WrappedRunsAs context more own (plain own)
  self more = ways.plain_code context more own own (λ stack requested s a h is n. run_follows context own requested stack s h a n)

  own_gives : (c : Context) → PushesOwn c → Gives c (plain own)
  own_gives c p = types.plain_code c own [] (ends c) p

  -- a constant before code that takes it, behind the code, and beneath it
  number_pushes : (c : Context) (n : ℕ) → WrappedPushes c (plain (number n ∷ [])) [] (primitive.I32 ∷ [])
  number_pushes c n =
      types.plain_code c (number n ∷ []) [] (primitive.I32 ∷ [])
      (push.row c (number n) [] (primitive.I32 ∷ []) (constant_types c integer.I32 n))

  number_before : (c : Context) (n : ℕ) (code : Wrapped) → WrappedPushes c code (primitive.I32 ∷ []) (ends c) → Gives c (both (plain (number n ∷ [])) code)
  number_before c n code p = types.follow c (plain (number n ∷ [])) code [] (primitive.I32 ∷ []) (ends c) (number_pushes c n) p

  number_behind : (c : Context) (n : ℕ) → PushesOwn c →
      WrappedPushes c (both (plain own) (plain (number n ∷ []))) [] (ends c ++ primitive.I32 ∷ [])
  number_behind c n p =
      types.follow c (plain own) (plain (number n ∷ [])) [] (ends c) (ends c ++ primitive.I32 ∷ []) (own_gives c p)
      (types.above c (plain (number n ∷ [])) (ends c) [] (primitive.I32 ∷ []) (number_pushes c n))

  number_beneath : (c : Context) (n : ℕ) (code : Wrapped) (us : List PrimitiveTypeInfo) → WrappedPushes c code [] us →
      WrappedPushes c (both (plain (number n ∷ [])) code) [] (primitive.I32 ∷ us)
  number_beneath c n code us p =
      types.follow c (plain (number n ∷ [])) code [] (primitive.I32 ∷ []) (primitive.I32 ∷ us) (number_pushes c n)
      (types.above c code (primitive.I32 ∷ []) [] us p)

  wraps : (w : Wrap) (at at_back : ℕ → ℕ) → AllFit (front_of w) at → AllFit (back_of w) at_back →
      MayWrap context own t (all_spelled (front_of w) v at) (all_spelled (back_of w) v at_back)
  wraps InBlock at at_back f b =
      made (block (Value v) (plain own)) _ _ (λ rest. refl) (λ more. ways.in_block context more own (Value v) (plain own) (self more))
      (λ c p. types.in_block c (Value v) (plain own) refl (own_gives c p))
  wraps InLoop at at_back f b =
      made (loop (Value v) (plain own)) _ _ (λ rest. refl) (λ more. ways.in_loop context more own (Value v) (plain own) (self more))
      (λ c p. types.in_loop c (Value v) (plain own) refl (own_gives c p))
  wraps InIf at at_back f b =
      made (both (plain (number (suc (at 0)) ∷ [])) (choice (Value v) (plain own) trap)) _ _ (λ rest. refl)
      (λ more. ways.in_first context more own (Value v) (number (suc (at 0))) (at 0) (plain own) trap f.0 (number_row (suc (at 0)) f.0) (self more))
      (λ c p. number_before c (suc (at 0)) (choice (Value v) (plain own) trap) (types.in_first c (Value v) (plain own) refl (own_gives c p)))
  wraps InElse at at_back f b =
      made (both (plain (number 0 ∷ [])) (choice (Value v) trap (plain own))) _ _ (λ rest. refl)
      (λ more. ways.in_second context more own (Value v) (number 0) trap (plain own) (number_row 0 (lit< tt)) (self more))
      (λ c p. number_before c 0 (choice (Value v) trap (plain own)) (types.in_second c (Value v) (plain own) refl (own_gives c p)))
  wraps LeaveBlock at at_back f b =
      made (leaving (Value v) (plain own) (plain [])) _ _ (λ rest. refl)
      (λ more. ways.before_branch context more own (Value v) (plain own) (plain []) refl (pushes_own context own_pushes) (self more))
      (λ c p. types.before_end c (Value v) (plain own) refl (own_gives c p))
  wraps LeaveOver at at_back f b =
      let inside = both (plain (number (at 1) ∷ [])) (plain own) in
      made (leaving (Value v) inside (plain [])) _ _ (λ rest. refl)
      (λ more. ways.before_branch_over context more own (Value v) (number (at 1) ∷ []) (plain own) (plain []) primitive.I32 refl
      (pushes_own context own_pushes) (number_is_pure context (at 1)) (self more))
      (λ c p. types.before_end_over c (Value v) inside (primitive.I32 ∷ []) refl
      (number_beneath c (at 1) (plain own) (ends c) (own_gives c p)))
  wraps LeaveDead at at_back f b =
      made (leaving (Value v) (plain own) trap) _ _ (λ rest. refl)
      (λ more. ways.before_branch context more own (Value v) (plain own) trap refl (pushes_own context own_pushes) (self more))
      (λ c p. types.before_trap_over c (Value v) (plain own) [] refl (own_gives c p))
  wraps MayLeave at at_back f b =
      made (exits (Value v) (both (plain own) (plain (number (at_back 0) ∷ []))) (plain [])) _ _ (λ rest. refl)
      (λ more. ways.before_condition context more own (Value v) (plain own) (number (at_back 0) ∷ []) refl (pushes_own context own_pushes)
      (number_is_pure context (at_back 0)) (self more))
      (λ c p. types.before_exit c (Value v) (both (plain own) (plain (number (at_back 0) ∷ []))) (plain []) refl (number_behind c (at_back 0) p)
      (types.plain_code c [] (ends c) (ends c) (push.nothing c (ends c))))
  wraps SurelyLeave at at_back f b =
      let tested = both (plain own) (plain (number (suc (at_back 0)) ∷ [])) in
      let inside = both (plain (number (at 1) ∷ [])) tested in
      made (exits (Value v) inside trap) _ _ (λ rest. refl)
      (λ more. ways.before_sure_branch_over context more own (Value v) (number (at 1) ∷ []) (plain own) (number (suc (at_back 0))) (at_back 0)
      primitive.I32 refl (pushes_own context own_pushes) (number_is_pure context (at 1)) b.0 (number_row (suc (at_back 0)) b.0) (self more))
      (λ c p. types.before_sure_branch c (Value v) inside (primitive.I32 ∷ []) refl
      (number_beneath c (at 1) tested (ends c ++ primitive.I32 ∷ []) (number_behind c (suc (at_back 0)) p)))
  wraps Once at at_back f b =
      made (once (Value v) (both (plain own) (plain (number 0 ∷ [])))) _ _ (λ rest. refl)
      (λ more. ways.before_jump context more own (Value v) (plain own) (number 0 ∷ []) (number_is_pure context 0) (λ s h. refl) (self more))
      (λ c p. types.in_once c (Value v) (both (plain own) (plain (number 0 ∷ []))) refl refl (number_behind c 0 p))

pub wraps_are_right : TypedCodePushes → RowTypesStay → WrappedCodePushes → PushedCodeChecksAs → WrappedCodeRuns → WrapsAreRight
wraps_are_right push stay types alike ways context own w t v front back of_type leaves f b =
    let fs = items_are (front_of w) v front f in
    let bs = items_are (back_of w) v back b in
    subst (λ os. MayWrap context own t os back) (sym fs.is)
    (subst (λ os. MayWrap context own t (all_spelled (front_of w) v fs.at) os) (sym bs.is)
    (wraps push stay types alike ways context own t v of_type leaves w fs.at bs.at fs.fit bs.fit))
