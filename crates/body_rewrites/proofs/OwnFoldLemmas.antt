-- Where an operator on constants is folded, by what is read of a body.
use Rattle.std.proofs.Common.{◌≡◌, ℕ, ◌+◌, ◌-◌, ◌<◌, ◌≤◌, inl, inr, true, false, List, [], ◌∷◌, ◌++◌, length, map, Option, Some, None, refl}
use Rattle.std.proofs.Common.{sym, ap, ap₂, subst, ◌∙◌, arith}
use Rattle.std.specs.Prelude.{IfSome, IfNone, is_some, slice_get}
use Rattle.std.proofs.lemmas.Bool.{true≢false}
use Rattle.std.proofs.lemmas.Nat.{pow_pos}
use Rattle.std.proofs.Math.Nat.{mod-lt, mod-mod}
use mir.Val.{bits}
use Rattle.wasm_code.specs.Instruction.{Instruction}
use Rattle.wasm_code.specs.declared.immediate.Imm.{Imm}
use Rattle.wasm_code.specs.declared.immediate.Imm.TheVariants as imm
use Rattle.wasm_execution.specs.declared.integer.IntegerType.{IntegerType}
use Rattle.wasm_execution.specs.declared.operation.Operation.{Operation}
use Rattle.wasm_execution.specs.Computed.{computed}
use Rattle.wasm_execution.specs.Operation.{operator_of}
use Rattle.wasm_execution.specs.Opcode.{opcode, operations, operation_of}
use Rattle.wasm_execution.specs.Values.{Context, Value, whole, type_of, width_of, types}
use Rattle.rewrite_rules.specs.declared.pattern.Operator.TheVariants.{Whole}
use Rattle.rewrite_rules.specs.Numbers.{low}
use Rattle.rewrite_rules.specs.Instance.{constant_code, operator_code}
use Rattle.rewrite_rules.specs.Beside.{constants, left_by}
use Rattle.rewrite_rules.specs.declared.table.Own.TheVariants.{Fold}
use Rattle.body_rewrites.specs.declared.own.Made.{Made}
use Rattle.body_rewrites.specs.declared.own.Made.TheVariants as made
use Rattle.body_rewrites.specs.declared.own.Site.{Site}
use Rattle.body_rewrites.specs.Trees.{Stands}
use Rattle.body_rewrites.specs.Open.{HasInstruction}
use Rattle.body_rewrites.specs.Own.{HasConstant, IsFolded, Rewrites}
use Rattle.body_rewrites.specs.OwnSites.{HasOperation, IsValueOn, IsFoldOf, IsSiteOf}
use Rattle.body_rewrites.proofs.StandsLemmas.{Operators, stands_snoc}
use Rattle.body_rewrites.proofs.AlikeLemmas.{by_low}
use Rattle.body_rewrites.proofs.OperationCodeLemmas.{opcode_found, found, opcode_from, opcode_to, takes, one_operation}
use Rattle.body_rewrites.proofs.OwnStandLemmas.{one_here}
use Rattle.body_rewrites.proofs.OwnAloneLemmas.{one_instruction, instruction_in, one_type_of, one_number, count_left, folded_at}

-- ---- the operator of an instruction

pub operation_some : (i : Instruction) (row : ℕ) (o : Option Operation) → row ≡ i.row → i.imm ≡ imm.Nothing → o ≡ operation_of (row + 29) →
    IfSome o (λ f. i ≡ operator_code (Whole f))
operation_some i row None e m is = tt
operation_some i row (Some f) e m is =
    let code = opcode_found operations (row + 29) f (sym is) in
    let same : i.row ≡ opcode f - 29 = omega (arith, e, code) in
    ap₂ instruction_of same m
  where
    instruction_of : ℕ → Imm → Instruction
    instruction_of r m = record { row = r; imm = m }

pub operation_none : (i : Instruction) (row : ℕ) (o : Option Operation) → row ≡ i.row → o ≡ operation_of (row + 29) →
    IfNone o ((f : Operation) → i ≡ operator_code (Whole f) → ⊥)
operation_none i row (Some f) e is = tt
operation_none i row None e is = λ f has.
    let rows : i.row ≡ opcode f - 29 = ap (λ (i : Instruction). i.row) has in
    let from = opcode_from f in
    let same : row + 29 ≡ opcode f = omega (arith, e, rows, from) in
    impossible f (is ∙ (ap operation_of same ∙ found f))
  where
    impossible : (f : Operation) → ◌≡◌ {A = Option Operation} None (Some f) → ⊥
    impossible f e = absurd cc

pub row_to : (i : Instruction) (row : ℕ) → row ≡ i.row → 226 < row → (f : Operation) → i ≡ operator_code (Whole f) → ⊥
row_to i row e far f has =
    let rows : i.row ≡ opcode f - 29 = ap (λ (i : Instruction). i.row) has in
    let to = opcode_to f in
    absurd (omega (arith, e, rows, far, to))

-- ---- constants

whole_low : (t : IntegerType) (n : ℕ) → whole t n ≡ whole t (low t n)
whole_low t n = ap (λ k. record { type = type_of t; number = k }) (sym (mod-mod n _))

-- the constant with its number's low bits
abbrev lowered : IntegerType × ℕ → IntegerType × ℕ
lowered c = (c.0, low c.0 c.1)

low_constant : (operators : Operators) (at : ℕ) (c : IntegerType × ℕ) → HasInstruction operators at (constant_code c.0 c.1) →
    HasConstant operators at (lowered c).0 (lowered c).1
low_constant operators at c h = record {
  small = mod-lt c.1 (pow_pos (bits (width_of c.0)));
  has = subst (HasInstruction operators at) (by_low c.0 c.1 (low c.0 c.1) (sym (mod-mod c.1 _))) h;
}

one_constant : (operators : Operators) (at : ℕ) (c d : IntegerType × ℕ) → HasConstant operators at c.0 c.1 → HasConstant operators at d.0 d.1 → c ≡ d
one_constant operators at c d a b =
    let same = one_instruction operators at (constant_code c.0 c.1) (constant_code d.0 d.1) a.has b.has in
    ap₂ (λ t n. (t, n)) (one_type_of c.0 d.0 c.1 d.1 same) (one_number c.0 d.0 c.1 d.1 a.small b.small same)

-- what stands where the constant of the fold does
constant_there : (operators : Operators) (start at k : ℕ) (code : List Instruction) (c : IntegerType × ℕ) → k < at + 1 - start →
    Stands operators start (at + 1) code → slice_get code k ≡ Some (constant_code c.0 c.1) → HasConstant operators (start + k) (lowered c).0 (lowered c).1
constant_there operators start at k code c l h e =
    low_constant operators (start + k) c (instruction_in operators start (at + 1) code k (constant_code c.0 c.1) l h e)

-- ---- one constant, and two

module _ (operators : Operators) (at : ℕ) (f : Operation) (has : HasOperation operators at f) where
  pub folded_one : (one : IntegerType × ℕ) (t : IntegerType) (n : ℕ) → t ≡ (operator_of f).result → 1 ≤ at →
      HasConstant operators (at - 1) one.0 one.1 → IsValueOn f (one ∷ []) n → IsFolded operators (at - 1) at t n
  folded_one one t n same l c v =
      let last : at - 1 + 1 ≡ at = omega (arith, l) in record {
        operation = f;
        operands = one ∷ [];
        ends = last;
        stands = stands_snoc operators (at - 1) at (constant_code one.0 one.1 ∷ []) (operator_code (Whole f)) (omega arith) has
            (subst (λ e. Stands operators (at - 1) e (constant_code one.0 one.1 ∷ [])) last (one_here operators (at - 1) (constant_code one.0 one.1) c.has));
        typed = v.typed;
        type_is = sym same;
        value_is = v.value_is;
      }

  pub folded_two : (one two : IntegerType × ℕ) (t : IntegerType) (n : ℕ) → t ≡ (operator_of f).result → 2 ≤ at →
      HasConstant operators (at - 2) one.0 one.1 → HasConstant operators (at - 1) two.0 two.1 → IsValueOn f (one ∷ two ∷ []) n →
      IsFolded operators (at - 2) at t n
  folded_two one two t n same l c d v =
      let first : at - 2 + 1 ≡ at - 1 = omega (arith, l) in
      let last : at - 1 + 1 ≡ at = omega (arith, l) in record {
        operation = f;
        operands = one ∷ two ∷ [];
        ends = (let e : at - 2 + 2 ≡ at = omega (arith, l) in e);
        stands = stands_snoc operators (at - 2) at (constant_code one.0 one.1 ∷ constant_code two.0 two.1 ∷ []) (operator_code (Whole f)) (omega arith) has
            (subst (λ e. Stands operators (at - 2) e (constant_code one.0 one.1 ∷ constant_code two.0 two.1 ∷ [])) last
            (stands_snoc operators (at - 2) (at - 1) (constant_code one.0 one.1 ∷ []) (constant_code two.0 two.1) (omega arith) d.has
            (subst (λ e. Stands operators (at - 2) e (constant_code one.0 one.1 ∷ [])) first
            (one_here operators (at - 2) (constant_code one.0 one.1) c.has))));
        typed = v.typed;
        type_is = sym same;
        value_is = v.value_is;
      }

  -- the operator that is folded is this one
  same_operation : (start : ℕ) (t : IntegerType) (n : ℕ) (g : IsFolded operators start at t n) → g.operation ≡ f
  same_operation start t n g =
      one_operation g.operation f
      (one_instruction operators at (operator_code (Whole g.operation)) (operator_code (Whole f)) (folded_at operators start at t n g) has)

  one_operand : (start : ℕ) (t : IntegerType) (n : ℕ) (g : IsFolded operators start at t n) → length g.operands ≡ 1 →
      (one : IntegerType × ℕ) × (start + 1 ≡ at) × HasConstant operators (at - 1) one.0 one.1 × IsValueOn f (one ∷ []) n
  one_operand start t n g count = go g.operands count g.ends g.stands g.typed g.value_is
    where
      go : (cs : List (IntegerType × ℕ)) → length cs ≡ 1 → start + length cs ≡ at →
          Stands operators start (at + 1) (constants cs ++ operator_code (Whole g.operation) ∷ []) → types (left_by cs) ≡ (operator_of g.operation).operands →
          computed (operator_of g.operation) (map (λ (v : Value). v.number) (left_by cs)) ≡ Some n →
          (one : IntegerType × ℕ) × (start + 1 ≡ at) × HasConstant operators (at - 1) one.0 one.1 × IsValueOn f (one ∷ []) n
      go [] l e h p v = absurd (omega (arith, l))
      go (c ∷ []) l e h p v =
          let value : IsValueOn g.operation (lowered c ∷ []) n = record {
            typed = p;
            value_is = sym (ap (λ (v : Value). computed (operator_of g.operation) (v.number ∷ [])) (whole_low c.0 c.1)) ∙ v;
          } in
          let place : start + 0 ≡ at - 1 = omega (arith, e) in (
            lowered c,
            e,
            subst (λ k. HasConstant operators k (lowered c).0 (lowered c).1) place
                (constant_there operators start at 0 (constants (c ∷ []) ++ operator_code (Whole g.operation) ∷ []) c (omega (arith, e)) h refl),
            subst (λ o. IsValueOn o (lowered c ∷ []) n) (same_operation start t n g) value,
          )
      go (c ∷ d ∷ cs) l e h p v = absurd (omega (arith, l))

  two_operands : (start : ℕ) (t : IntegerType) (n : ℕ) (g : IsFolded operators start at t n) → length g.operands ≡ 2 →
      (one two : IntegerType × ℕ) × (start + 2 ≡ at) × HasConstant operators (at - 2) one.0 one.1 × HasConstant operators (at - 1) two.0 two.1 ×
      IsValueOn f (one ∷ two ∷ []) n
  two_operands start t n g count = go g.operands count g.ends g.stands g.typed g.value_is
    where
      go : (cs : List (IntegerType × ℕ)) → length cs ≡ 2 → start + length cs ≡ at →
          Stands operators start (at + 1) (constants cs ++ operator_code (Whole g.operation) ∷ []) → types (left_by cs) ≡ (operator_of g.operation).operands →
          computed (operator_of g.operation) (map (λ (v : Value). v.number) (left_by cs)) ≡ Some n →
          (one two : IntegerType × ℕ) × (start + 2 ≡ at) × HasConstant operators (at - 2) one.0 one.1 × HasConstant operators (at - 1) two.0 two.1 ×
          IsValueOn f (one ∷ two ∷ []) n
      go [] l e h p v = absurd (omega (arith, l))
      go (c ∷ []) l e h p v = absurd (omega (arith, l))
      go (c ∷ d ∷ []) l e h p v =
          let value : IsValueOn g.operation (lowered c ∷ lowered d ∷ []) n = record {
            typed = p;
            value_is = sym (ap₂ (λ (v w : Value). computed (operator_of g.operation) (v.number ∷ w.number ∷ [])) (whole_low c.0 c.1) (whole_low d.0 d.1)) ∙ v;
          } in
          let first : start + 0 ≡ at - 2 = omega (arith, e) in
          let second : start + 1 ≡ at - 1 = omega (arith, e) in
          let code = constants (c ∷ d ∷ []) ++ operator_code (Whole g.operation) ∷ [] in (
            lowered c,
            lowered d,
            e,
            subst (λ k. HasConstant operators k (lowered c).0 (lowered c).1) first (constant_there operators start at 0 code c (omega (arith, e)) h refl),
            subst (λ k. HasConstant operators k (lowered d).0 (lowered d).1) second (constant_there operators start at 1 code d (omega (arith, e)) h refl),
            subst (λ o. IsValueOn o (lowered c ∷ lowered d ∷ []) n) (same_operation start t n g) value,
          )
      go (c ∷ d ∷ b ∷ cs) l e h p v = absurd (omega (arith, l))

  pub one_missing : ((t : IntegerType) (n : ℕ) → HasConstant operators (at - 1) t n → ⊥) → IsFoldOf operators 1 at None
  one_missing none = λ start t n g count.
      let (one, e, c, v) = one_operand start t n g count in
      none one.0 one.1 c

  pub one_valueless : (one : IntegerType × ℕ) → HasConstant operators (at - 1) one.0 one.1 → ((n : ℕ) → IsValueOn f (one ∷ []) n → ⊥) →
      IsFoldOf operators 1 at None
  one_valueless one there none = λ start t n g count.
      let (also, e, c, v) = one_operand start t n g count in
      none n (subst (λ d. IsValueOn f (d ∷ []) n) (one_constant operators (at - 1) also one c there) v)

  pub first_missing : ((t : IntegerType) (n : ℕ) → HasConstant operators (at - 2) t n → ⊥) → IsFoldOf operators 2 at None
  first_missing none = λ start t n g count.
      let (one, two, e, c, d, v) = two_operands start t n g count in
      none one.0 one.1 c

  pub second_missing : ((t : IntegerType) (n : ℕ) → HasConstant operators (at - 1) t n → ⊥) → IsFoldOf operators 2 at None
  second_missing none = λ start t n g count.
      let (one, two, e, c, d, v) = two_operands start t n g count in
      none two.0 two.1 d

  pub two_valueless : (one two : IntegerType × ℕ) → HasConstant operators (at - 2) one.0 one.1 → HasConstant operators (at - 1) two.0 two.1 →
      ((n : ℕ) → IsValueOn f (one ∷ two ∷ []) n → ⊥) → IsFoldOf operators 2 at None
  two_valueless one two first second none = λ start t n g count.
      let (also, other, e, c, d, v) = two_operands start t n g count in
      none n (subst (λ x. IsValueOn f (one ∷ x ∷ []) n) (one_constant operators (at - 1) other two d second)
      (subst (λ x. IsValueOn f (x ∷ other ∷ []) n) (one_constant operators (at - 2) also one c first) v))

-- ---- one or two

module _ (operators : Operators) (at : ℕ) where
  pub no_operation : ((f : Operation) → HasOperation operators at f → ⊥) → (context : Context) → IsSiteOf context operators Fold at None
  no_operation none context = nowhere
    where
      nowhere : (start : ℕ) (m : Made) → Rewrites context operators Fold start at m → ⊥
      nowhere start (made.Constant t n) g = none g.operation (folded_at operators start at t n g)
      nowhere start m r = r

  pub first_found : (o : Option Site) → is_some o ≡ true → IsFoldOf operators 1 at o → (context : Context) → IsSiteOf context operators Fold at o
  first_found (Some site) e h context = h context
  first_found None e h context = absurd cc

  pub second_found : (o p : Option Site) → is_some o ≡ false → IsFoldOf operators 1 at o → IsFoldOf operators 2 at p → (context : Context) →
      IsSiteOf context operators Fold at p
  second_found (Some site) p e h k context = absurd (true≢false e)
  second_found None (Some site) e h k context = k context
  second_found None None e h k context = neither
    where
      neither : (start : ℕ) (m : Made) → Rewrites context operators Fold start at m → ⊥
      neither start (made.Constant t n) g =
          let count = sym (count_left g.operands) ∙ ap length g.typed in
          elim (takes g.operation) [
            | inl one ↦ h start t n g (count ∙ one)
            | inr two ↦ k start t n g (count ∙ two)
          ]
      neither start m r = r
