-- An operator on constants, and a constant as a sum: each is a line of its own numbers, well formed and right.
use Rattle.std.proofs.Common.{◌≡◌, ℕ, ◌+◌, ◌-◌, ◌%◌, ◌^◌, ◌<◌, Bool, true, false, List, [], ◌∷◌, ◌++◌, map, Some, refl, sym, ap, ap₂, ◌∙◌, subst, arith}
use Rattle.std.specs.Prelude.{◌&&◌, ◌||◌, ◌==◌}
use Rattle.std.proofs.lemmas.Bool.{false≢true}
use Rattle.std.proofs.Math.Nat.{mod-lt, mod-mod, add-mod-mod, add-mod_right}
use Rattle.std.proofs.lemmas.Nat.{pow_pos}
use mir.Val.{bits}
use Rattle.wasm_code.specs.Instruction.{Instruction}
use Rattle.wasm_types.specs.declared.types.PrimitiveTypeInfo.{PrimitiveTypeInfo}
use Rattle.wasm_types.specs.declared.types.PrimitiveTypeInfo.TheVariants as primitive
use Rattle.wasm_execution.specs.declared.integer.IntegerType.{IntegerType}
use Rattle.wasm_execution.specs.declared.operation.Binary.TheVariants.{Add}
use Rattle.wasm_execution.specs.declared.operation.Operation.{Operation}
use Rattle.wasm_execution.specs.declared.operation.Operation.TheVariants as operation
use Rattle.wasm_execution.specs.Values.{type_of, width_of, types, Context}
use Rattle.wasm_execution.specs.Integer.{IntegerOperator}
use Rattle.wasm_execution.specs.Computed.{computed}
use Rattle.wasm_execution.specs.Machine.{division_trap_cause}
use Rattle.wasm_execution.specs.Operation.{operator_of}
use Rattle.wasm_execution.specs.RowLemmas.{map_some, same_type_self}
use Rattle.rewrite_rules.specs.declared.pattern.Number.TheVariants.{Literal}
use Rattle.rewrite_rules.specs.declared.pattern.Operator.TheVariants.{Whole}
use Rattle.rewrite_rules.specs.Pattern.{fixed, operands_of, Pattern, Patterns, constant, apply, none, ◌▹◌}
use Rattle.rewrite_rules.specs.Pattern.{holes, holes_in, draws_all, some_exact, kinds_in, same_kinds, fit, none_traps}
use Rattle.rewrite_rules.specs.Numbers.{or_cause, value_on, low, numbers_in}
use Rattle.rewrite_rules.specs.Order.{is_in, may_move}
use Rattle.rewrite_rules.specs.Line.{Line, is_exact_line, is_formed, IsRight}
use Rattle.rewrite_rules.specs.Instance.{constant_code, operator_code, codes_of, doing, Applies, StandsFor}
use Rattle.rewrite_rules.specs.Laws.{LinesKeepCode}
use Rattle.rewrite_rules.proofs.identities.WidthLemmas.{ok}
use Rattle.rewrite_rules.specs.Beside.{constants, left_by, sum_code}

-- ---- constants as a pattern's operands

abbrev literals : List (IntegerType × ℕ) → Patterns
literals [] = none
literals (c ∷ cs) = constant c.0 (Literal c.1) ▹ literals cs

kinds_are : (cs : List (IntegerType × ℕ)) → kinds_in [] (literals cs) ≡ map fixed (types (left_by cs))
kinds_are [] = refl
kinds_are (c ∷ cs) = ap (λ ks. fixed (type_of c.0) ∷ ks) (kinds_are cs)

they_fit : (cs : List (IntegerType × ℕ)) → fit [] (literals cs) ≡ true
they_fit [] = refl
they_fit (c ∷ cs) = they_fit cs

none_trap : (cs : List (IntegerType × ℕ)) → none_traps (literals cs) ≡ true
none_trap [] = refl
none_trap (c ∷ cs) = none_trap cs

no_draws : (cs : List (IntegerType × ℕ)) → draws_all (literals cs) ≡ 0
no_draws [] = refl
no_draws (c ∷ cs) = let e = no_draws cs in omega arith

no_exact : (cs : List (IntegerType × ℕ)) → some_exact (literals cs) ≡ false
no_exact [] = refl
no_exact (c ∷ cs) = no_exact cs

no_holes : (cs : List (IntegerType × ℕ)) → holes_in (literals cs) ≡ []
no_holes [] = refl
no_holes (c ∷ cs) = no_holes cs

numbers_are : (h c : ℕ → ℕ) (words : List ℕ) (cs : List (IntegerType × ℕ)) → numbers_in h c words (literals cs) ≡ map (λ v. v.number) (left_by cs)
numbers_are h c words [] = refl
numbers_are h c words (k ∷ cs) = ap (λ ns. low k.0 k.1 ∷ ns) (numbers_are h c _ cs)

codes_are : (x : ℕ → List Instruction) (c : ℕ → ℕ) (words : List ℕ) (cs : List (IntegerType × ℕ)) → codes_of x c words (literals cs) ≡ constants cs
codes_are x c words [] = refl
codes_are x c words (k ∷ cs) = ap (λ l. constant_code k.0 k.1 ∷ l) (codes_are x c _ cs)

-- ---- lines without holes

abbrev bare : (left right : Pattern) → Line
bare left right = record { left = left; right = right; kinds = []; conditions = [] }

-- such a line applies anywhere
applies : (context : Context) (left right : Pattern) → holes left ≡ [] → holes right ≡ [] → is_exact_line (bare left right) ≡ false →
    Applies context (bare left right) (λ n. []) (λ n. 0)
applies context left right e f x = record {
  type = primitive.I32;
  numeric = refl;
  leave = λ n i. absurd (false≢true (ap (λ ns. is_in ns n) (sym e) ∙ i));
  as_asked = refl;
  moves = ap₂ (may_move (doing (λ n. []))) e f;
  exact = λ y. absurd (false≢true (sym x ∙ y));
}

-- ---- an operator on constants

same_all : (ts : List PrimitiveTypeInfo) → same_kinds (map fixed ts) (map fixed ts) ≡ true
same_all [] = refl
same_all (t ∷ ts) = ap₂ (λ a b. a && b) (same_type_self t) (same_all ts)

all_true : (a b c d e : Bool) → a ≡ true → b ≡ true → c ≡ true → d ≡ true → e ≡ true →
    (((a && b) && true) && ((c && true) && (d && (e && true)))) ≡ true
all_true a b c d e p q r s t = rw (p, q, r, s, t) refl

-- a value has no more than the bits of its type
low_is : (f : IntegerOperator) (ns : List ℕ) (n : ℕ) → computed f ns ≡ Some n → low f.result n ≡ n
low_is f ns n e =
    let M : ℕ = 2 ^ bits (width_of f.result) in
    let (k, a, b) = map_some (λ (m : ℕ). m % M) (f.value ns) n e in
    ap (low f.result) (sym b) ∙ (mod-mod k M ∙ b)

module _ (f : Operation) (cs : List (IntegerType × ℕ)) (n : ℕ) (typed : types (left_by cs) ≡ (operator_of f).operands)
    (given : computed (operator_of f) (map (λ v. v.number) (left_by cs)) ≡ Some n) where
  abbrev folded : Line
  folded = bare (apply (Whole f) (literals cs)) (constant (operator_of f).result (Literal n))

  formed : is_formed folded ≡ true
  formed =
      let operands : same_kinds (kinds_in [] (literals cs)) (operands_of (Whole f)) ≡ true =
      ap (λ ks. same_kinds ks (operands_of (Whole f))) (kinds_are cs)
      ∙ (ap (λ ts. same_kinds (map fixed (types (left_by cs))) (map fixed ts)) (sym typed) ∙ same_all (types (left_by cs))) in
      all_true _ _ _ _ _ operands (they_fit cs) (none_trap cs) (same_type_self (type_of (operator_of f).result)) (ap (λ m. m == 0) (no_draws cs))

  right : IsRight folded
  right h c us vs a e =
      ap (value_on (Whole f)) (numbers_are h c us cs)
      ∙ (ap (λ o. or_cause o (division_trap_cause (map (λ v. v.number) (left_by cs)))) given
      ∙ ap ok (sym (low_is (operator_of f) (map (λ v. v.number) (left_by cs)) n given)))

  pub fold : LinesKeepCode → (context : Context) →
      StandsFor context (constants cs ++ operator_code (Whole f) ∷ []) (constant_code (operator_of f).result n ∷ [])
  fold law context =
      subst (λ code. StandsFor context (code ++ operator_code (Whole f) ∷ []) (constant_code (operator_of f).result n ∷ []))
      (codes_are (λ n. []) (λ n. 0) [] cs)
      (law folded formed right context (λ n. []) (λ n. 0) [] (applies context folded.left folded.right (no_holes cs) refl (ap (λ b. b || false) (no_exact cs))))

-- ---- a constant as a sum

parts_add : (M n k : ℕ) → 0 < M → (k % M + (n + (M - k % M)) % M) % M ≡ n % M
parts_add M n k p =
    let below : k % M < M = mod-lt k p in
    add-mod-mod (k % M) (n + (M - k % M)) M
    ∙ (ap (λ m. m % M) (let whole : k % M + (n + (M - k % M)) ≡ n + M = omega arith in whole) ∙ add-mod_right n M)

module _ (t : IntegerType) (n word : ℕ) where
  abbrev sum : Line
  sum =
      bare (constant t (Literal n))
      (apply (Whole (operation.Binary t Add))
      (constant t (Literal word) ▹ constant t (Literal (n + (2 ^ bits (width_of t) - low t word))) ▹ none))

  sum_formed : is_formed sum ≡ true
  sum_formed = rw (same_type_self (type_of t)) refl

  sum_right : IsRight sum
  sum_right h c us vs a e = ap ok (sym (parts_add (2 ^ bits (width_of t)) n word (pow_pos (bits (width_of t)))))

  pub as_a_sum : LinesKeepCode → (context : Context) → StandsFor context (constant_code t n ∷ []) (sum_code t n word)
  as_a_sum law context = law sum sum_formed sum_right context (λ n. []) (λ n. 0) [] (applies context sum.left sum.right refl refl refl)
