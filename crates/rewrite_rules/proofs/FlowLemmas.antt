-- A select as a conditional, conditions that are tested, and code that is dropped.
use Rattle.std.proofs.Common.{◌≡◌, ℕ, ◌<◌, true, false, List, [], ◌∷◌, ◌++◌, Option, Some, None, refl, sym, ap, ap₂, ◌∙◌, subst, append_assoc, lit<}
use Rattle.std.specs.Prelude.{Bool, ◌-◌, ◌^◌, ◌||◌, nat_le, if◌then◌else◌, take, drop, map, option_map, option_and_then}
use Rattle.wasm_code.specs.Instruction.{Instruction}
use Rattle.wasm_code.specs.declared.immediate.BlockType.TheVariants.{Value}
use Rattle.wasm_code.specs.declared.immediate.ValType.{ValType}
use Rattle.wasm_code.specs.declared.operator.Operator.TheVariants as op
use Rattle.wasm_types.specs.declared.types.PrimitiveTypeInfo.{PrimitiveTypeInfo}
use Rattle.wasm_types.specs.declared.types.PrimitiveTypeInfo.TheVariants as primitive
use Rattle.wasm_execution.specs.declared.integer.IntegerType.TheVariants as integer
use Rattle.wasm_execution.specs.declared.operation.Comparison.TheVariants.{Ne, LtU}
use Rattle.wasm_execution.specs.declared.operation.Operation.TheVariants as operation
use Rattle.wasm_execution.specs.Integer.{compare, eqz, ne, lt_u}
use Rattle.wasm_execution.specs.Values.{type_of, Context}
use Rattle.wasm_execution.specs.IntegerRow as row
use Rattle.wasm_execution.specs.IntegerRow.{IntegerRow, is_numeric, variable_type, operand_count, row_types, integer_row}
use Rattle.wasm_equivalence.specs.control.Blocks.{arity_of}
use Rattle.wasm_equivalence.specs.control.Wider.{wider}
use Rattle.wasm_equivalence.specs.validation.StaysValid.{Pushes, TypedCodePushes, RowTypesStay}
use Rattle.wrapped_code.specs.Wrapped.{Wrapped, plain, both, choice}
use Rattle.wrapped_code.specs.Ways.{WrappedPushes, WrappedCodePushes, PushedCodeChecksAs, IsPure, IsAlone, LeavesValue, PureCode}
use Rattle.wrapped_code.specs.Ways.{row_changes, code_changes, CodeIsAlone, WrappedCodeRuns}
use Rattle.wrapped_code.specs.Alike.{SameAs}
use Rattle.wrapped_code.specs.Conditions.{SameTruth, ConditionsAsTrue}
use Rattle.wrapped_code.specs.Indices.{LabelAlike, IndicesAreBounded}
use Rattle.rewrite_rules.specs.declared.pattern.Operator.TheVariants.{Whole, Select}
use Rattle.rewrite_rules.specs.Code.{types_after, Leaves, row_writes, writes}
use Rattle.rewrite_rules.specs.Instance.{constant_code}
use Rattle.rewrite_rules.specs.Beside.{drop_code}
use Rattle.rewrite_rules.specs.Wrap.{value_of}
use Rattle.rewrite_rules.specs.Flow.{is_told_by_state, is_leaf, zero_code, ne_code, eqz_code, below_code, select_code, bounded_code, MayBranch}
use Rattle.rewrite_rules.specs.Flow.{SelectsAreConditionals, TestsAreConditions, BoundsAreIndices, DroppedCodePushesNothing, DroppedConstantsPushNothing}
use Rattle.rewrite_rules.proofs.LineLemmas.{after_wider, pushes}
use Rattle.rewrite_rules.proofs.MeaningLemmas.{constant_types}
use Rattle.rewrite_rules.proofs.OperatorLemmas.{row_is}
use Rattle.rewrite_rules.proofs.WrapLemmas.{merged_is, number_row}
use Rattle.rewrite_rules.proofs.beside.StandLemmas.{drop_row}

-- ---- rows

select_row : integer_row select_code ≡ row.select
select_row = row_is Select refl

ne_row : integer_row ne_code ≡ row.operation (compare integer.I32 ne)
ne_row = row_is (Whole (operation.Compare integer.I32 Ne)) refl

eqz_row : integer_row eqz_code ≡ row.operation (eqz integer.I32)
eqz_row = row_is (Whole (operation.Eqz integer.I32)) refl

below_row : integer_row below_code ≡ row.operation (compare integer.I32 lt_u)
below_row = row_is (Whole (operation.Compare integer.I32 LtU)) refl

-- what a row without operands gives
abbrev given_by : Context → IntegerRow → Option (List PrimitiveTypeInfo)
given_by context r =
    let below = 0 - operand_count context.info r in
    option_and_then (types_after context [])
    (if nat_le (operand_count context.info r) 0
    then option_map (λ (us : List PrimitiveTypeInfo). take below [] ++ us) (row_types context r (drop below [])) else None)

-- ---- types

numeric : (t : PrimitiveTypeInfo) (v : ValType) → value_of t ≡ Some v → is_numeric t ≡ true
numeric primitive.I32 v e = refl
numeric primitive.I64 v e = refl
numeric primitive.F32 v e = refl
numeric primitive.F64 v e = refl
numeric primitive.V128 v e = refl
numeric primitive.FuncRef v e = absurd cc
numeric primitive.ExternRef v e = absurd cc
numeric primitive.Empty v e = absurd cc

selected : (context : Context) (t : PrimitiveTypeInfo) → is_numeric t ≡ true → row_types context row.select (t ∷ t ∷ primitive.I32 ∷ []) ≡ Some (t ∷ [])
selected context primitive.I32 e = refl
selected context primitive.I64 e = refl
selected context primitive.F32 e = refl
selected context primitive.F64 e = refl
selected context primitive.V128 e = refl
selected context primitive.FuncRef e = absurd cc
selected context primitive.ExternRef e = absurd cc
selected context primitive.Empty e = absurd cc

-- ---- what writes nothing

changes_as_written : (r : IntegerRow) → row_changes r ≡ row_writes r
changes_as_written (row.constant t n) = refl
changes_as_written (row.operation f) = refl
changes_as_written (row.get x) = refl
changes_as_written (row.set x) = refl
changes_as_written (row.tee x) = refl
changes_as_written row.discard = refl
changes_as_written row.select = refl
changes_as_written row.nop = refl
changes_as_written (row.other i) = refl

all_changes : (code : List Instruction) → code_changes code ≡ writes code
all_changes [] = refl
all_changes (i ∷ code) = ap₂ (λ (a b : Bool). a || b) (changes_as_written (integer_row i)) (all_changes code)

-- ---- constants and variables

one_type : (t u : PrimitiveTypeInfo) → Some (u ∷ []) ≡ Some (t ∷ []) → u ≡ t
one_type t u e = cc

told : (o : Option PrimitiveTypeInfo) (t : PrimitiveTypeInfo) →
    option_and_then (λ (us : List PrimitiveTypeInfo). Some us)
    (option_map (λ (us : List PrimitiveTypeInfo). us) (option_and_then (λ (u : PrimitiveTypeInfo). Some (u ∷ [])) o)) ≡ Some (t ∷ []) → o ≡ Some t
told (Some u) t e = ap (λ (k : PrimitiveTypeInfo). Some k) (one_type t u e)
told None t e = absurd cc

leaf_is_pure : PureCode → (context : Context) (i : Instruction) (t : PrimitiveTypeInfo) → is_leaf i ≡ true → Leaves context (i ∷ []) t →
    IsPure context t (i ∷ [])
leaf_is_pure pure context i t e l = go (integer_row i) refl e
  where
    go : (r : IntegerRow) → integer_row i ≡ r → is_told_by_state r ≡ true → IsPure context t (i ∷ [])
    go (row.constant k n) is e =
        let same : Some (type_of k ∷ []) ≡ Some (t ∷ []) = sym (ap (given_by context) is) ∙ l in
        subst (λ (u : PrimitiveTypeInfo). IsPure context u (i ∷ [])) (one_type t (type_of k) same) (pure.of_constant context i k n is)
    go (row.get x) is e = pure.of_variable context i x t is (told (variable_type context x) t (sym (ap (given_by context) is) ∙ l))
    go (row.operation f) is e = absurd cc
    go (row.set x) is e = absurd cc
    go (row.tee x) is e = absurd cc
    go row.discard is e = absurd cc
    go row.select is e = absurd cc
    go row.nop is e = absurd cc
    go (row.other k) is e = absurd cc

-- ---- a select

module _ (push : TypedCodePushes) (stay : RowTypesStay) (types : WrappedCodePushes) (alike : PushedCodeChecksAs) (ways : WrappedCodeRuns) (pure : PureCode)
    (lone : CodeIsAlone) (context : Context) (x y : Instruction) (c : List Instruction) (t : PrimitiveTypeInfo) (v : ValType) (of_type : value_of t ≡ Some v)
    (leaf_x : is_leaf x ≡ true) (leaf_y : is_leaf y ≡ true) (leaves_x : Leaves context (x ∷ []) t) (leaves_y : Leaves context (y ∷ []) t)
    (leaves_c : Leaves context c primitive.I32) (still : writes c ≡ false) where
  abbrev own : List Instruction
  own = x ∷ y ∷ (c ++ select_code ∷ [])

  abbrev conditional : Wrapped
  conditional = both (plain c) (choice (Value v) (plain (x ∷ [])) (plain (y ∷ [])))

  -- both values and the condition stand before the select
  own_pushes : Pushes context own [] (t ∷ [])
  own_pushes =
      let px = pushes push stay context (x ∷ []) [] (t ∷ []) leaves_x in
      let py = pushes push stay context (y ∷ []) [] (t ∷ []) leaves_y in
      let pc = pushes push stay context c [] (primitive.I32 ∷ []) leaves_c in
      let last =
      push.row context select_code (t ∷ t ∷ primitive.I32 ∷ []) (t ∷ [])
      (ap (λ r. row_types context r (t ∷ t ∷ primitive.I32 ∷ [])) select_row ∙ selected context t (numeric t v of_type)) in
      push.follow context (x ∷ []) (y ∷ (c ++ select_code ∷ [])) [] (t ∷ []) (t ∷ []) px
      (push.follow context (y ∷ []) (c ++ select_code ∷ []) (t ∷ []) (t ∷ t ∷ []) (t ∷ []) (push.above context (y ∷ []) (t ∷ []) [] (t ∷ []) py)
      (push.follow context c (select_code ∷ []) (t ∷ t ∷ []) (t ∷ t ∷ primitive.I32 ∷ []) (t ∷ [])
      (push.above context c (t ∷ t ∷ []) [] (primitive.I32 ∷ []) pc) last))

  -- what a block of the type gives
  abbrev ends : Context → List PrimitiveTypeInfo
  ends k = (arity_of k.info (Value v)).ends

  ends_are : (k : Context) → ends k ≡ t ∷ []
  ends_are k = ap (λ u. u ∷ []) (merged_is k.info.one_reference t v of_type)

  part : (k : Context) (i : Instruction) → Leaves k (i ∷ []) t → WrappedPushes k (plain (i ∷ [])) [] (ends k)
  part k i l = types.plain_code k (i ∷ []) [] (ends k) (subst (Pushes k (i ∷ []) []) (sym (ends_are k)) (pushes push stay k (i ∷ []) [] (t ∷ []) l))

  gives : (k : Context) → Leaves k (x ∷ []) t → Leaves k (y ∷ []) t → Leaves k c primitive.I32 → WrappedPushes k conditional [] (t ∷ [])
  gives k lx ly lc =
      let condition = types.plain_code k c [] (primitive.I32 ∷ []) (pushes push stay k c [] (primitive.I32 ∷ []) lc) in
      let parts = types.in_parts k (Value v) (plain (x ∷ [])) (plain (y ∷ [])) refl (part k x lx) (part k y ly) in
      subst (WrappedPushes k conditional []) (ends_are k)
      (types.follow k (plain c) (choice (Value v) (plain (x ∷ [])) (plain (y ∷ []))) [] (primitive.I32 ∷ []) (ends k) condition parts)

  pure_x : IsPure context t (x ∷ [])
  pure_x = leaf_is_pure pure context x t leaf_x leaves_x

  pure_y : IsPure context t (y ∷ [])
  pure_y = leaf_is_pure pure context y t leaf_y leaves_y

  alone : IsAlone context primitive.I32 c
  alone = lone.alone context primitive.I32 c (pushes push stay context c [] (primitive.I32 ∷ []) leaves_c)

  stays : (i : Instruction) (p : IsPure context t (i ∷ [])) → LeavesValue context primitive.I32 t c (i ∷ []) alone p
  stays i p = lone.all_stays context primitive.I32 t c (i ∷ []) alone p (all_changes c ∙ still)

  may_branch : MayBranch context own t
      (map (λ (i : Instruction). op.Instr i) c ++ (op.If (Value v) ∷ op.Instr x ∷ op.Else ∷ op.Instr y ∷ op.End ∷ []))
  may_branch = record {
    code = conditional;
    written_is = λ rest.
        sym (append_assoc (map (λ (i : Instruction). op.Instr i) c) (op.If (Value v) ∷ op.Instr x ∷ op.Else ∷ op.Instr y ∷ op.End ∷ []) rest);
    runs = λ more.
        ways.selected_after context more (x ∷ []) (y ∷ []) c select_code t (Value v) select_row (numeric t v of_type) pure_x pure_y alone
        (stays x pure_x) (stays y pure_y);
    checks = λ input more.
        let after = wider input more context in
        alike context after own conditional (t ∷ []) own_pushes
        (gives after (after_wider push stay context input more (x ∷ []) [] (t ∷ []) leaves_x)
        (after_wider push stay context input more (y ∷ []) [] (t ∷ []) leaves_y)
        (after_wider push stay context input more c [] (primitive.I32 ∷ []) leaves_c));
    pushes = own_pushes;
    pushes_so = gives context leaves_x leaves_y leaves_c;
  }

pub selects_are_conditionals : TypedCodePushes → RowTypesStay → WrappedCodePushes → PushedCodeChecksAs → WrappedCodeRuns → PureCode → CodeIsAlone →
    SelectsAreConditionals
selects_are_conditionals push stay types alike ways pure lone context x y c t v of_type leaf_x leaf_y leaves_x leaves_y leaves_c still =
    may_branch push stay types alike ways pure lone context x y c t v of_type leaf_x leaf_y leaves_x leaves_y leaves_c still

-- ---- conditions

module _ (push : TypedCodePushes) (stay : RowTypesStay) (truths : ConditionsAsTrue) (context : Context) (own : List Instruction)
    (leaves : Leaves context own primitive.I32) where
  abbrev one : List PrimitiveTypeInfo
  one = primitive.I32 ∷ []

  abbrev two : List PrimitiveTypeInfo
  two = primitive.I32 ∷ primitive.I32 ∷ []

  condition : Pushes context own [] one
  condition = pushes push stay context own [] one leaves

  not_zero : SameTruth context own (own ++ (zero_code ∷ ne_code ∷ []))
  not_zero = truths.not_zero context own zero_code ne_code (number_row 0 (lit< tt)) ne_row condition

  twice_zero : SameTruth context own (own ++ (eqz_code ∷ eqz_code ∷ []))
  twice_zero = truths.twice_zero context own eqz_code eqz_row condition

  pushes_not_zero : Pushes context (own ++ (zero_code ∷ ne_code ∷ [])) [] one
  pushes_not_zero =
      push.follow context own (zero_code ∷ ne_code ∷ []) [] one one condition
      (push.follow context (zero_code ∷ []) (ne_code ∷ []) one two one
      (push.above context (zero_code ∷ []) one [] one (push.row context zero_code [] one (constant_types context integer.I32 0)))
      (push.row context ne_code two one (ap (λ r. row_types context r two) ne_row)))

  is_zero : Pushes context (eqz_code ∷ []) one one
  is_zero = push.row context eqz_code one one (ap (λ r. row_types context r one) eqz_row)

  pushes_twice_zero : Pushes context (own ++ (eqz_code ∷ eqz_code ∷ [])) [] one
  pushes_twice_zero =
      push.follow context own (eqz_code ∷ eqz_code ∷ []) [] one one condition
      (push.follow context (eqz_code ∷ []) (eqz_code ∷ []) one one one is_zero is_zero)

pub tests_are_conditions : TypedCodePushes → RowTypesStay → ConditionsAsTrue → TestsAreConditions
tests_are_conditions push stay truths = record {
  not_zero = not_zero push stay truths;
  not_zero_turned = λ context own l.
      truths.turned context own (own ++ (zero_code ∷ ne_code ∷ [])) (condition push stay truths context own l) (not_zero push stay truths context own l);
  twice_zero = twice_zero push stay truths;
  twice_zero_turned = λ context own l.
      truths.turned context own (own ++ (eqz_code ∷ eqz_code ∷ [])) (condition push stay truths context own l) (twice_zero push stay truths context own l);
  pushes = condition push stay truths;
  pushes_not_zero = pushes_not_zero push stay truths;
  pushes_twice_zero = pushes_twice_zero push stay truths;
}

-- ---- indices

module _ (push : TypedCodePushes) (stay : RowTypesStay) (bounds : IndicesAreBounded) (context : Context) (own : List Instruction) (count : ℕ)
    (few : count < 2 ^ 32) (leaves : Leaves context own primitive.I32) where
  abbrev limit_code : Instruction
  limit_code = constant_code integer.I32 count

  index : Pushes context own [] (primitive.I32 ∷ [])
  index = pushes push stay context own [] (primitive.I32 ∷ []) leaves

  pushes_bounded : Pushes context (bounded_code count own) [] (primitive.I32 ∷ [])
  pushes_bounded = bounds.pushes context own count limit_code below_code select_code few (number_row count few) below_row select_row index

  bounded : writes own ≡ false → SameAs (LabelAlike count) context own (bounded_code count own)
  bounded still =
      bounds.bounded context own count limit_code below_code select_code few (number_row count few) below_row select_row (all_changes own ∙ still) index

  bounded_turned : writes own ≡ false → SameAs (LabelAlike count) context (bounded_code count own) own
  bounded_turned still = bounds.turned context own (bounded_code count own) count index (bounded still)

pub bounds_are_indices : TypedCodePushes → RowTypesStay → IndicesAreBounded → BoundsAreIndices
bounds_are_indices push stay bounds = record {
  bounded = bounded push stay bounds;
  bounded_turned = bounded_turned push stay bounds;
  pushes = λ context own l. pushes push stay context own [] (primitive.I32 ∷ []) l;
  pushes_bounded = pushes_bounded push stay bounds;
}

-- ---- code that is dropped

dropped : TypedCodePushes → (context : Context) (t : PrimitiveTypeInfo) → Pushes context (drop_code ∷ []) (t ∷ []) []
dropped push context t = push.row context drop_code (t ∷ []) [] (ap (λ r. row_types context r (t ∷ [])) drop_row)

pub dropped_code_pushes_nothing : TypedCodePushes → RowTypesStay → DroppedCodePushesNothing
dropped_code_pushes_nothing push stay context own t l =
    push.follow context own (drop_code ∷ []) [] (t ∷ []) [] (pushes push stay context own [] (t ∷ []) l) (dropped push context t)

pub dropped_constants_push_nothing : TypedCodePushes → DroppedConstantsPushNothing
dropped_constants_push_nothing push context t n =
    push.follow context (constant_code t n ∷ []) (drop_code ∷ []) [] (type_of t ∷ []) []
    (push.row context (constant_code t n) [] (type_of t ∷ []) (constant_types context t n)) (dropped push context (type_of t))
