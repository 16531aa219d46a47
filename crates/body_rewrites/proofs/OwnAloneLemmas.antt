-- A rule beside the table makes one thing at an operator at most.
use Rattle.std.proofs.Common.{◌≡◌, ℕ, zero, suc, ◌+◌, ◌-◌, ◌<◌, ◌^◌, List, [], ◌∷◌, ◌++◌, length, map, Option, Some, refl, sym, ap, ap₂, subst, ◌∙◌, arith}
use Rattle.std.specs.Prelude.{slice_get}
use Rattle.std.proofs.lemmas.Nat.{pow_pos}
use Rattle.std.proofs.lemmas.Int.{of_z-to_z}
use Rattle.std.proofs.lemmas.Option.{same_Some}
use Rattle.rewrite_rules.specs.Wrap.{value_of as wrapped_type}
use Rattle.std.proofs.lemmas.List.{same_from_push}
use Rattle.std.proofs.Math.Nat.{mod-lt, mod-eq_of_lt}
use mir.Val.{bits}
use Rattle.wasm_code.specs.Instruction.{Instruction}
use Rattle.wasm_code.specs.declared.immediate.ValType.{ValType}
use Rattle.wasm_code.specs.declared.immediate.Imm.{Imm}
use Rattle.wasm_code.specs.declared.immediate.Imm.TheVariants as imm
use Rattle.wasm_code.specs.declared.operator.Operator.{Operator}
use Rattle.wasm_code.specs.declared.operator.Operator.TheVariants.{Instr, Br, BrIf, BrTable}
use Rattle.wasm_types.specs.declared.types.PrimitiveTypeInfo.{PrimitiveTypeInfo}
use Rattle.wasm_types.specs.declared.types.PrimitiveTypeInfo.TheVariants as primitive
use Rattle.body_splices.specs.OwnBytes.{without_offsets}
use Rattle.wasm_execution.specs.declared.integer.IntegerType.{IntegerType}
use Rattle.wasm_execution.specs.declared.integer.IntegerType.TheVariants as integer
use Rattle.wasm_execution.specs.Computed.{computed}
use Rattle.wasm_execution.specs.Operation.{operator_of}
use Rattle.wasm_execution.specs.Values.{Context, Value, whole, type_of, width_of, types}
use Rattle.rewrite_rules.specs.declared.pattern.Operator.TheVariants.{Whole}
use Rattle.rewrite_rules.specs.Numbers.{low}
use Rattle.rewrite_rules.specs.Instance.{constant_code, operator_code}
use Rattle.rewrite_rules.specs.Beside.{constants, left_by}
use Rattle.rewrite_rules.specs.Flow.{zero_code, ne_code, eqz_code}
use Rattle.rewrite_rules.specs.declared.table.Own.{Own}
use Rattle.rewrite_rules.specs.declared.table.Own.TheVariants.{Unfold, ThroughGlobal, WithNop, Fold, Forget, TeeToSet, DropNop, SetToTee}
use Rattle.rewrite_rules.specs.declared.table.Own.TheVariants.{Access as Accesses, Wrap as Wraps, Unwrap as Unwraps}
use Rattle.rewrite_rules.specs.declared.table.Own.TheVariants.{SelectToIf, IfToSelect, TestCondition, DropConditionTest, DoubleCondition}
use Rattle.rewrite_rules.specs.declared.table.Own.TheVariants.{DropDoubleCondition, PutDead, DropDead}
use Rattle.rewrite_rules.specs.declared.table.Own.TheVariants.{BoundIndex, DropIndexBound, BrIfToIf, IfToBrIf}
use Rattle.body_rewrites.specs.declared.own.Made.{Made}
use Rattle.body_rewrites.specs.declared.own.Made.TheVariants as made
use Rattle.body_rewrites.specs.Trees.{Stands, IsTree, tree_after}
use Rattle.body_rewrites.specs.Open.{HasInstruction}
use Rattle.body_rewrites.specs.Matching.{number_in}
use Rattle.body_rewrites.specs.Changes.{Change}
use Rattle.body_rewrites.specs.Own.{AreLeaves, HasTable, IsBounded, IsFolded, IsReadBefore, IsTested, Rewrites, change_of, IsOwnChange}
use Rattle.body_rewrites.proofs.AccessLemmas.{one_access}
use Rattle.body_rewrites.proofs.StandsLemmas.{Operators}
use Rattle.body_rewrites.proofs.AloneLemmas.{one_code}
use Rattle.body_rewrites.proofs.CutLemmas.{one_start}
use Rattle.body_rewrites.proofs.MatchingLemmas.{entry_in}
use Rattle.body_rewrites.proofs.IndexLemmas.{bound_copy, bound_place, bound_read, bound_there}
use Rattle.body_rewrites.proofs.OperationCodeLemmas.{one_operation}

-- ---- instructions

pub one_instruction : (operators : Operators) (at : ℕ) (i j : Instruction) → HasInstruction operators at i → HasInstruction operators at j → i ≡ j
one_instruction operators at i j h g = go (sym h ∙ g)
  where
    go : ◌≡◌ {A = Option _} (Some (Instr i)) (Some (Instr j)) → i ≡ j
    go e = cc

pub one_table : (operators : Operators) (at n m : ℕ) → HasTable operators at n → HasTable operators at m → n ≡ m
one_table operators at n m a b = go (sym a.has ∙ b.has)
  where
    go : ◌≡◌ {A = Option Operator} (Some (BrTable n)) (Some (BrTable m)) → n ≡ m
    go e = cc

pub one_branch : (operators : Operators) (at n m : ℕ) → slice_get (without_offsets operators) at ≡ Some (BrIf n) →
    slice_get (without_offsets operators) at ≡ Some (BrIf m) → n ≡ m
one_branch operators at n m a b = go (sym a ∙ b)
  where
    go : ◌≡◌ {A = Option Operator} (Some (BrIf n)) (Some (BrIf m)) → n ≡ m
    go e = cc

one_outer : (operators : Operators) (at n m : ℕ) → slice_get (without_offsets operators) at ≡ Some (Br (suc n)) →
    slice_get (without_offsets operators) at ≡ Some (Br (suc m)) → n ≡ m
one_outer operators at n m a b = go (sym a ∙ b)
  where
    go : ◌≡◌ {A = Option Operator} (Some (Br (suc n))) (Some (Br (suc m))) → n ≡ m
    go e = cc

-- that of the code
pub instruction_in : (operators : Operators) (start end : ℕ) (code : List Instruction) (k : ℕ) (i : Instruction) → k < end - start →
    Stands operators start end code → slice_get code k ≡ Some i → HasInstruction operators (start + k) i
instruction_in operators start end code k i l h e =
    sym (entry_in operators start end k l) ∙ (ap (λ os. slice_get os k) h ∙ among code k e)
  where
    among : (code : List Instruction) (k : ℕ) → slice_get code k ≡ Some i → slice_get (map (λ (i : Instruction). Instr i) code) k ≡ Some (Instr i)
    among [] k e = absurd cc
    among (j ∷ code) zero e = ap (λ (j : Instruction). Some (Instr j)) (let same : j ≡ i = cc in same)
    among (j ∷ code) (suc k) e = among code k e

-- ---- constants

pub number_back : (t : IntegerType) (n : ℕ) → number_in (constant_code t n).imm ≡ low t n
number_back integer.I32 n = of_z-to_z (width_of integer.I32) (low integer.I32 n) (mod-lt n (pow_pos (bits (width_of integer.I32))))
number_back integer.I64 n = of_z-to_z (width_of integer.I64) (low integer.I64 n) (mod-lt n (pow_pos (bits (width_of integer.I64))))

pub one_type_of : (t u : IntegerType) (n m : ℕ) → constant_code t n ≡ constant_code u m → t ≡ u
one_type_of integer.I32 integer.I32 n m e = refl
one_type_of integer.I32 integer.I64 n m e = let rows : 36 ≡ 37 = ap (λ (i : Instruction). i.row) e in absurd (omega (arith, rows))
one_type_of integer.I64 integer.I32 n m e = let rows : 37 ≡ 36 = ap (λ (i : Instruction). i.row) e in absurd (omega (arith, rows))
one_type_of integer.I64 integer.I64 n m e = refl

pub one_low : (t u : IntegerType) (n m : ℕ) → constant_code t n ≡ constant_code u m → low t n ≡ low u m
one_low t u n m e = sym (number_back t n) ∙ (ap (λ (i : Instruction). number_in i.imm) e ∙ number_back u m)

pub one_number : (t u : IntegerType) (n m : ℕ) → n < 2 ^ bits (width_of t) → m < 2 ^ bits (width_of u) → constant_code t n ≡ constant_code u m → n ≡ m
one_number t u n m l k e = sym (mod-eq_of_lt l) ∙ (one_low t u n m e ∙ mod-eq_of_lt k)

one_value : (c d : IntegerType × ℕ) → constant_code c.0 c.1 ≡ constant_code d.0 d.1 → whole c.0 c.1 ≡ whole d.0 d.1
one_value c d e = ap₂ value_of (one_type_of c.0 d.0 c.1 d.1 e) (one_low c.0 d.0 c.1 d.1 e)
  where
    value_of : IntegerType → ℕ → Value
    value_of t n = record { type = type_of t; number = n }

one_left : (cs ds : List (IntegerType × ℕ)) → constants cs ≡ constants ds → left_by cs ≡ left_by ds
one_left [] [] e = refl
one_left [] (d ∷ ds) e = absurd cc
one_left (c ∷ cs) [] e = absurd cc
one_left (c ∷ cs) (d ∷ ds) e =
    let first : constant_code c.0 c.1 ≡ constant_code d.0 d.1 = cc in
    ap₂ (λ v vs. v ∷ vs) (one_value c d first) (one_left cs ds (cc))

-- ---- operators on constants

last_get : (cs : List (IntegerType × ℕ)) (i : Instruction) → slice_get (constants cs ++ i ∷ []) (length cs) ≡ Some i
last_get [] i = refl
last_get (c ∷ cs) i = last_get cs i

pub count_left : (cs : List (IntegerType × ℕ)) → length (types (left_by cs)) ≡ length cs
count_left [] = refl
count_left (c ∷ cs) = ap suc (count_left cs)

module _ (operators : Operators) where
  pub folded_at : (start at : ℕ) (t : IntegerType) (n : ℕ) (f : IsFolded operators start at t n) →
      HasInstruction operators at (operator_code (Whole f.operation))
  folded_at start at t n f =
      let ends = f.ends in
      subst (λ k. HasInstruction operators k (operator_code (Whole f.operation))) ends
      (instruction_in operators start (at + 1) _ (length f.operands) (operator_code (Whole f.operation)) (omega arith) f.stands
      (last_get f.operands (operator_code (Whole f.operation))))

  one_fold : (start other at : ℕ) (t u : IntegerType) (n m : ℕ) → IsFolded operators start at t n → IsFolded operators other at u m →
      (start ≡ other) × (t ≡ u) × (n ≡ m)
  one_fold start other at t u n m f g =
      let same = one_operation f.operation g.operation
      (one_instruction operators at (operator_code (Whole f.operation)) (operator_code (Whole g.operation)) (folded_at start at t n f)
      (folded_at other at u m g)) in
      let count : length f.operands ≡ length g.operands =
      sym (count_left f.operands)
      ∙ (ap length f.typed ∙ (ap (λ o. length (operator_of o).operands) same ∙ (sym (ap length g.typed) ∙ count_left g.operands))) in
      let one = f.ends in
      let two = g.ends in
      let begins : start ≡ other = omega (arith, count, one, two) in
      let codes = one_code operators start (at + 1) (constants f.operands ++ operator_code (Whole f.operation) ∷ [])
      (constants g.operands ++ operator_code (Whole g.operation) ∷ []) f.stands
      (subst (λ k. Stands operators k (at + 1) (constants g.operands ++ operator_code (Whole g.operation) ∷ [])) (sym begins) g.stands) in
      let left = one_left f.operands g.operands (same_from_push (constants f.operands) (constants g.operands) _ _ codes).0 in (
        begins,
        sym f.type_is ∙ (ap (λ o. (operator_of o).result) same ∙ g.type_is),
        some_is (sym f.value_is ∙ (ap₂ (λ o vs. computed (operator_of o) (map (λ (v : Value). v.number) vs)) same left ∙ g.value_is)),
      )
    where
      some_is : ◌≡◌ {A = Option ℕ} (Some n) (Some m) → n ≡ m
      some_is e = cc

-- ---- trees

module _ (context : Context) (operators : Operators) where
  pub one_tree : (s k at : ℕ) (t u : PrimitiveTypeInfo) (a : IsTree context operators s at t) (b : IsTree context operators k at u) → a.code ≡ b.code
  one_tree s k at t u a b =
      let begins = one_start context operators s k at t u a b in
      one_code operators s (at + 1) a.code b.code a.stands (subst (λ m. Stands operators m (at + 1) b.code) (sym begins) b.stands)

  pub one_type : (s k at : ℕ) (t u : PrimitiveTypeInfo) → IsTree context operators s at t → IsTree context operators k at u → t ≡ u
  one_type s k at t u a b = type_is (sym a.typed ∙ (ap (λ code. tree_after context code []) (one_tree s k at t u a b) ∙ b.typed))
    where
      type_is : ◌≡◌ {A = Option (List PrimitiveTypeInfo)} (Some (t ∷ [])) (Some (u ∷ [])) → t ≡ u
      type_is e = cc

  -- ---- operands and conditions

  pub one_leaves : (first second : ℕ) (v w : ValType) → AreLeaves context operators first second v → AreLeaves context operators first second w → v ≡ w
  one_leaves first second v w a b =
      same_Some v w (sym a.value_is ∙ (ap wrapped_type (one_type first first first a.type b.type a.one.tree b.one.tree) ∙ b.value_is))

  pub one_read : (s k end : ℕ) → IsReadBefore context operators s end → IsReadBefore context operators k end → s ≡ k
  one_read s k end a b =
      let one = a.last_is in
      let two = b.last_is in
      let last : b.last ≡ a.last = omega (arith, one, two) in
      one_start context operators s k a.last primitive.I32 primitive.I32 a.tree (subst (λ n. IsTree context operators k n primitive.I32) last b.tree)

  one_tested : (s k at from other end behind : ℕ) (i j : Instruction) → from ≡ s → other ≡ k → IsTested context operators i j s at end →
      IsTested context operators i j k at behind → (s ≡ k) × (made.Inner from end ≡ made.Inner other behind)
  one_tested s k at from other end behind i j e f a b =
      let one = a.ends in
      let two = b.ends in
      let same : end ≡ behind = omega (arith, one, two) in
      let x = a.last_is in
      let y = b.last_is in
      let last : b.last ≡ a.last = omega (arith, x, y, same) in
      let starts =
      one_start context operators s k a.last primitive.I32 primitive.I32 a.tree (subst (λ n. IsTree context operators k n primitive.I32) last b.tree) in
      (starts, ap₂ (λ f e. made.Inner f e) (e ∙ (starts ∙ sym f)) same)

  -- ---- indices

  one_bound : (s k at from other end behind : ℕ) → from ≡ s → other ≡ k → IsBounded context operators s at end → IsBounded context operators k at behind →
      (s ≡ k) × (made.Inner from end ≡ made.Inner other behind)
  one_bound s k at from other end behind e f a b =
      let one = bound_place context operators s at end a in
      let two = bound_place context operators k at behind b in
      let there = (bound_there context operators s at end a).ends in
      let too = (bound_there context operators k at behind b).ends in
      let places : two ≡ one = omega (arith, there, too) in
      let copies = one_read (end + 1) (behind + 1) one (bound_copy context operators s at end a)
      (subst (λ n. IsReadBefore context operators (behind + 1) n) places (bound_copy context operators k at behind b)) in
      let same : end ≡ behind = omega (arith, copies) in
      let starts = one_read s k end (bound_read context operators s at end a).read
      (subst (λ n. IsReadBefore context operators k n) (sym same) (bound_read context operators k at behind b).read) in
      (starts, ap₂ (λ f e. made.Inner f e) (e ∙ (starts ∙ sym f)) same)

  -- ---- sites

  same_index : (at n m row : ℕ) → HasInstruction operators at (record { row = row; imm = imm.Index n }) →
      HasInstruction operators at (record { row = row; imm = imm.Index m }) → n ≡ m
  same_index at n m row h g = go (one_instruction operators at (record { row = row; imm = imm.Index n }) (record { row = row; imm = imm.Index m }) h g)
    where
      go : ◌≡◌ {A = Instruction} (record { row = row; imm = imm.Index n }) (record { row = row; imm = imm.Index m }) → n ≡ m
      go e = index_is (ap (λ (i : Instruction). i.imm) e)
        where
          index_is : ◌≡◌ {A = Imm} (imm.Index n) (imm.Index m) → n ≡ m
          index_is e = cc

  pub one_site : (own : Own) (s k at : ℕ) (m l : Made) → Rewrites context operators own s at m → Rewrites context operators own k at l → (s ≡ k) × (m ≡ l)
  one_site Unfold s k at (made.Sum t n) (made.Sum u o) (e, a) (f, b) =
      let same = one_instruction operators at (constant_code t n) (constant_code u o) a.has b.has in
      (e ∙ sym f, ap₂ (λ t n. made.Sum t n) (one_type_of t u n o same) (one_number t u n o a.small b.small same))
  one_site Unfold s k at (made.Sum t n) l r q = absurd q
  one_site ThroughGlobal s k at (made.Global t g) (made.Global u h) (a, x, e, y) (b, z, f, w) =
      (one_start context operators s k at t u a b, ap₂ (λ t g. made.Global t g) (one_type s k at t u a b) (e ∙ sym f))
  one_site ThroughGlobal s k at (made.Global t g) l r q = absurd q
  one_site WithNop s k at made.Nop made.Nop (t, a) (u, b) = (one_start context operators s k at t u a b, refl)
  one_site WithNop s k at made.Nop l r q = absurd q
  one_site Fold s k at (made.Constant t n) (made.Constant u o) a b =
      let (e, f, g) = one_fold operators s k at t u n o a b in
      (e, ap₂ (λ t n. made.Constant t n) f g)
  one_site Fold s k at (made.Constant t n) l r q = absurd q
  one_site Forget s k at made.Nothing made.Nothing a b =
      let one = a.ends in
      let two = b.ends in
      let last : b.last ≡ a.last = omega arith in
      (one_start context operators s k a.last a.type b.type a.tree (subst (λ n. IsTree context operators k n b.type) last b.tree), refl)
  one_site Forget s k at made.Nothing l r q = absurd q
  one_site TeeToSet s k at (made.SetAndGet n) (made.SetAndGet o) (e, a) (f, b) =
      (e ∙ sym f, ap (λ n. made.SetAndGet n) (same_index at n o 6 a b))
  one_site TeeToSet s k at (made.SetAndGet n) l r q = absurd q
  one_site DropNop s k at made.Nothing made.Nothing (e, a) (f, b) = (e ∙ sym f, refl)
  one_site DropNop s k at made.Nothing l r q = absurd q
  one_site SetToTee s k at (made.Tee n) (made.Tee o) (e, a, x) (f, b, y) = (omega arith, ap (λ n. made.Tee n) (same_index at n o 4 x y))
  one_site SetToTee s k at (made.Tee n) l r q = absurd q
  one_site (Accesses n) s k at (made.Access a w) (made.Access b v) f g =
      let (e, x, y) = one_access context operators n s k at a b w v f g in
      (e, ap₂ (λ a w. made.Access a w) x y)
  one_site (Accesses n) s k at (made.Access a w) l r q = absurd q
  one_site (Wraps w) s k at (made.Wrapped v t) (made.Wrapped x y) (e, room, u, n, a) (f, place, z, p, b) = (
    one_start context operators s k at u z a b,
    ap₂ (λ v t. made.Wrapped v t) (e ∙ sym f) (same_Some t y (sym n ∙ (ap wrapped_type (one_type s k at u z a b) ∙ p))),
  )
  one_site (Wraps w) s k at (made.Wrapped v t) l r q = absurd q
  one_site (Unwraps w) s k at (made.Inner from end) (made.Inner other behind) a b =
      let one = a.ends in
      let two = b.ends in
      let same : end ≡ behind = omega (arith, one, two) in
      let last : b.last ≡ a.last = let x = a.last_is in let y = b.last_is in omega (arith, x, y, same) in
      let from_is : from ≡ other =
      one_start context operators from other a.last a.type b.type a.tree (subst (λ n. IsTree context operators other n b.type) last b.tree) in
      (let x = a.begins in let y = b.begins in omega (arith, x, y, from_is), ap₂ (λ f e. made.Inner f e) from_is same)
  one_site (Unwraps w) s k at (made.Inner from end) l r q = absurd q
  one_site SelectToIf s k at (made.Conditional v c) (made.Conditional w d) (room, a) (place, b) =
      let same = one_read c d at a.read b.read in
      let x = a.condition_is in
      let y = b.condition_is in
      let starts : s ≡ k = omega (arith, x, y, same) in (
        starts,
        ap₂ (λ v c. made.Conditional v c)
            (one_leaves s (s + 1) v w a.leaves (subst (λ n. AreLeaves context operators n (n + 1) w) (sym starts) b.leaves)) same,
      )
  one_site SelectToIf s k at (made.Conditional v c) l r q = absurd q
  one_site IfToSelect s k at made.Selected made.Selected a b =
      let x = a.ends in
      let y = b.ends in
      let places : b.place ≡ a.place = omega (arith, x, y) in
      (one_read s k a.place a.read (subst (λ n. IsReadBefore context operators k n) places b.read), refl)
  one_site IfToSelect s k at made.Selected l r q = absurd q
  one_site TestCondition s k at made.Tested made.Tested a b = (one_start context operators s k at primitive.I32 primitive.I32 a.tree b.tree, refl)
  one_site TestCondition s k at made.Tested l r q = absurd q
  one_site DropConditionTest s k at (made.Inner from end) (made.Inner other behind) (e, a) (f, b) =
      one_tested s k at from other end behind zero_code ne_code e f a b
  one_site DropConditionTest s k at (made.Inner from end) l r q = absurd q
  one_site DoubleCondition s k at made.DoublyTested made.DoublyTested a b =
      (one_start context operators s k at primitive.I32 primitive.I32 a.tree b.tree, refl)
  one_site DoubleCondition s k at made.DoublyTested l r q = absurd q
  one_site DropDoubleCondition s k at (made.Inner from end) (made.Inner other behind) (e, a) (f, b) =
      one_tested s k at from other end behind eqz_code eqz_code e f a b
  one_site DropDoubleCondition s k at (made.Inner from end) l r q = absurd q
  one_site PutDead s k at made.Dead made.Dead (e, a) (f, b) = (e ∙ sym f, refl)
  one_site PutDead s k at made.Dead l r q = absurd q
  one_site DropDead s k at made.Nothing made.Nothing a b =
      let one = a.last_is in
      let two = b.last_is in
      let last : b.last ≡ a.last = omega (arith, one, two) in
      (one_start context operators s k a.last a.type b.type a.tree (subst (λ n. IsTree context operators k n b.type) last b.tree), refl)
  one_site DropDead s k at made.Nothing l r q = absurd q
  one_site BoundIndex s k at (made.Bounded n) (made.Bounded m) a b = (
    one_start context operators s k at primitive.I32 primitive.I32 a.tree b.tree,
    ap (λ n. made.Bounded n) (one_table operators (at + 1) n m a.behind b.behind),
  )
  one_site BoundIndex s k at (made.Bounded n) l r q = absurd q
  one_site DropIndexBound s k at (made.Inner from end) (made.Inner other behind) (e, a) (f, b) = one_bound s k at from other end behind e f a b
  one_site DropIndexBound s k at (made.Inner from end) l r q = absurd q
  one_site BrIfToIf s k at (made.InConditional n) (made.InConditional m) (e, room, a) (f, place, b) =
      (e ∙ sym f, ap (λ n. made.InConditional n) (one_branch operators at n m a.branch b.branch))
  one_site BrIfToIf s k at (made.InConditional n) l r q = absurd q
  one_site IfToBrIf s k at (made.BranchIf n) (made.BranchIf m) a b =
      let one = a.ends in
      let two = b.ends in
      let same : k ≡ s = omega (arith, one, two) in (
        sym same,
        ap (λ n. made.BranchIf n) (one_outer operators (s + 1) n m a.branch
            (subst (λ p. slice_get (without_offsets operators) (p + 1) ≡ Some (Br (suc m))) same b.branch)),
      )
  one_site IfToBrIf s k at (made.BranchIf n) l r q = absurd q
  one_site own s k at m l r q = absurd r

  pub one_change : (at : ℕ) (own : Own) (change other : Change) → IsOwnChange context operators own at change → IsOwnChange context operators own at other →
      change ≡ other
  one_change at own change other a b =
      let (e, f) = one_site own a.site.start b.site.start at a.site.made b.site.made a.rewrites b.rewrites in
      a.is ∙ (ap₂ (λ s m. change_of at (record { start = s; made = m })) e f ∙ sym b.is)
