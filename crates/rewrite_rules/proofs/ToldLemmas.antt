-- Types that fit are those of the holes.
use Rattle.std.proofs.Common.{◌≡◌, ℕ, zero, suc, ◌+◌, Bool, true, List, [], ◌∷◌, Option, Some, None, refl, sym, ap, subst, ◌∙◌, arith}
use Rattle.std.specs.Prelude.{◌&&◌, slice_get}
use Rattle.std.specs.Option.{option_flatten}
use Rattle.std.proofs.lemmas.Bool.{and_parts, false≢true}
use Rattle.wasm_code.specs.Instruction.{Instruction}
use Rattle.wasm_types.specs.declared.types.PrimitiveTypeInfo.{PrimitiveTypeInfo}
use Rattle.wasm_execution.specs.Values.{Context, same_type}
use Rattle.wasm_execution.specs.IntegerRow.{is_numeric}
use Rattle.wasm_execution.specs.RowLemmas.{same_type_is, same_type_self}
use Rattle.rewrite_rules.specs.Code.{Leaves}
use Rattle.rewrite_rules.specs.Pattern.{Kind, fixed, any, kind_at, hole_kind_of}
use Rattle.rewrite_rules.specs.Operands.{fixed_in, type_given, select_type, type_in, has_type, have_types, IsTypeIn, AreTypes, HaveTypes, TypesAreTold}

type_is : (u : PrimitiveTypeInfo) (k : Kind) → type_in u (fixed_in k) ≡ kind_at u k
type_is u (fixed t) = refl
type_is u any = refl

both : {a b : Bool} → a ≡ true → b ≡ true → (a && b) ≡ true
both e f = cc

module _ (kinds : List Kind) where
  -- of a list from the hole with the index on
  at_hole : (u : PrimitiveTypeInfo) (m : ℕ) (ts : List (Option PrimitiveTypeInfo)) → have_types u kinds m ts ≡ true → (n : ℕ) (t : PrimitiveTypeInfo) →
      option_flatten (slice_get ts n) ≡ Some t → t ≡ kind_at u (hole_kind_of kinds (m + n))
  at_hole u m [] e n t k = absurd cc
  at_hole u m (o ∷ ts) e zero t k =
      let has = (and_parts (has_type u kinds m o) (have_types u kinds (suc m) ts) e).0 in
      let there = subst (λ (q : Option PrimitiveTypeInfo). has_type u kinds m q ≡ true) k has in
      same_type_is t (type_in u (fixed_in (hole_kind_of kinds m))) there
      ∙ (type_is u (hole_kind_of kinds m) ∙ ap (λ j. kind_at u (hole_kind_of kinds j)) (let s : m ≡ m + 0 = omega arith in s))
  at_hole u m (o ∷ ts) e (suc n) t k =
      at_hole u (suc m) ts (and_parts (has_type u kinds m o) (have_types u kinds (suc m) ts) e).1 n t k
      ∙ ap (λ j. kind_at u (hole_kind_of kinds j)) (let s : suc m + n ≡ m + suc n = omega arith in s)

  -- each has the type of its hole, where a select is of the type
  Have : (u : PrimitiveTypeInfo) (m : ℕ) (ts : List (Option PrimitiveTypeInfo)) → Type 0
  Have u m ts = (n : ℕ) (t : PrimitiveTypeInfo) → option_flatten (slice_get ts n) ≡ Some t → t ≡ kind_at u (hole_kind_of kinds (m + n))

  behind : (u : PrimitiveTypeInfo) (m : ℕ) (o : Option PrimitiveTypeInfo) (ts : List (Option PrimitiveTypeInfo)) → Have u m (o ∷ ts) → Have u (suc m) ts
  unfolding Have
  behind u m o ts h n t k = h (suc n) t k ∙ ap (λ j. kind_at u (hole_kind_of kinds j)) (let s : m + suc n ≡ suc m + n = omega arith in s)

  first : (u : PrimitiveTypeInfo) (m : ℕ) (t : PrimitiveTypeInfo) (ts : List (Option PrimitiveTypeInfo)) → Have u m (Some t ∷ ts) →
      t ≡ kind_at u (hole_kind_of kinds m)
  unfolding Have
  first u m t ts h = h 0 t refl ∙ ap (λ j. kind_at u (hole_kind_of kinds j)) (let s : m + 0 ≡ m = omega arith in s)

  selects : (u : PrimitiveTypeInfo) (m : ℕ) (ts : List (Option PrimitiveTypeInfo)) → Have u m ts → is_numeric u ≡ true →
      is_numeric (select_type kinds m ts) ≡ true
  selects u m [] h e = refl
  selects u m (None ∷ ts) h e = selects u (suc m) ts (behind u m None ts h) e
  selects u m (Some t ∷ ts) h e = go (hole_kind_of kinds m) (first u m t ts h) (selects u (suc m) ts (behind u m (Some t) ts h) e)
    where
      go : (k : Kind) → t ≡ kind_at u k → is_numeric (select_type kinds (suc m) ts) ≡ true →
          is_numeric (type_given t (fixed_in k) (select_type kinds (suc m) ts)) ≡ true
      go (fixed v) is rest = rest
      go any is rest = ap is_numeric is ∙ e

  -- every operand has its type, where each hole that may have any has the select's
  have : (u v : PrimitiveTypeInfo) (m : ℕ) (ts : List (Option PrimitiveTypeInfo)) → Have u m ts →
      ((n : ℕ) (t : PrimitiveTypeInfo) → option_flatten (slice_get ts n) ≡ Some t → hole_kind_of kinds (m + n) ≡ any → v ≡ u) → have_types v kinds m ts ≡ true
  have u v m [] h a = refl
  have u v m (None ∷ ts) h a =
      have u v (suc m) ts (behind u m None ts h)
      (λ n t k e. a (suc n) t k (ap (hole_kind_of kinds) (let s : m + suc n ≡ suc m + n = omega arith in s) ∙ e))
  have u v m (Some t ∷ ts) h a =
      both (go (hole_kind_of kinds m) refl (first u m t ts h))
      (have u v (suc m) ts (behind u m (Some t) ts h)
      (λ n t k e. a (suc n) t k (ap (hole_kind_of kinds) (let s : m + suc n ≡ suc m + n = omega arith in s) ∙ e)))
    where
      go : (k : Kind) → hole_kind_of kinds m ≡ k → t ≡ kind_at u k → same_type t (type_in v (fixed_in k)) ≡ true
      go (fixed w) is same = subst (λ q. same_type t q ≡ true) same (same_type_self t)
      go any is same =
          let v_is = a 0 t refl (ap (hole_kind_of kinds) (let s : m + 0 ≡ m = omega arith in s) ∙ is) in
          subst (λ q. same_type t q ≡ true) (same ∙ sym v_is) (same_type_self t)

  -- so does the type that is selected
  select_is : (u : PrimitiveTypeInfo) (m : ℕ) (ts : List (Option PrimitiveTypeInfo)) → Have u m ts → (n : ℕ) (t : PrimitiveTypeInfo) →
      option_flatten (slice_get ts n) ≡ Some t → hole_kind_of kinds (m + n) ≡ any → select_type kinds m ts ≡ u
  select_is u m [] h n t k e = absurd cc
  select_is u m (None ∷ ts) h zero t k e = absurd cc
  select_is u m (None ∷ ts) h (suc n) t k e =
      select_is u (suc m) ts (behind u m None ts h) n t k (ap (hole_kind_of kinds) (let s : suc m + n ≡ m + suc n = omega arith in s) ∙ e)
  select_is u m (Some v ∷ ts) h zero t k e =
      go (hole_kind_of kinds m) (ap (hole_kind_of kinds) (let s : m + 0 ≡ m = omega arith in sym s) ∙ e) (first u m v ts h)
    where
      go : (j : Kind) → j ≡ any → v ≡ kind_at u j → type_given v (fixed_in j) (select_type kinds (suc m) ts) ≡ u
      go (fixed w) is same = absurd cc
      go any is same = same
  select_is u m (Some v ∷ ts) h (suc n) t k e =
      go (hole_kind_of kinds m) (first u m v ts h)
      (select_is u (suc m) ts (behind u m (Some v) ts h) n t k (ap (hole_kind_of kinds) (let s : suc m + n ≡ m + suc n = omega arith in s) ∙ e))
    where
      go : (j : Kind) → v ≡ kind_at u j → select_type kinds (suc m) ts ≡ u → type_given v (fixed_in j) (select_type kinds (suc m) ts) ≡ u
      go (fixed w) same rest = rest
      go any same rest = same

one_type : (context : Context) (code : List Instruction) (t u : PrimitiveTypeInfo) → Leaves context code t → Leaves context code u → t ≡ u
one_type context code t u a b = only (sym a ∙ b)
  where
    only : ◌≡◌ {A = Option (List PrimitiveTypeInfo)} (Some (t ∷ [])) (Some (u ∷ [])) → t ≡ u
    only e = cc

pub types_are_told : TypesAreTold
unfolding Have
types_are_told = record {
  same = λ context x is_there kinds ts are e.
      let (numeric, fit) = and_parts (is_numeric (select_type kinds 0 ts)) (have_types (select_type kinds 0 ts) kinds 0 ts) e in
      let u = select_type kinds 0 ts in
      record {
        type = u;
        numeric = numeric;
        leave = λ n there.
            leaves context x is_there kinds ts are u n there
            (λ t k. at_hole kinds u 0 ts fit n t k ∙ ap (λ j. kind_at u (hole_kind_of kinds j)) (let s : 0 + n ≡ n = omega arith in s));
      };
  only = λ context x is_there kinds ts are h.
      let have_each = has_each context x is_there kinds ts are h in
      both (selects kinds h.type 0 ts have_each h.numeric)
      (have kinds h.type (select_type kinds 0 ts) 0 ts have_each (select_is kinds h.type 0 ts have_each));
}
  where
    leaves : (context : Context) (x : ℕ → List Instruction) (is_there : ℕ → Bool) (kinds : List Kind) (ts : List (Option PrimitiveTypeInfo)) →
        AreTypes context x is_there ts → (u : PrimitiveTypeInfo) (n : ℕ) → is_there n ≡ true →
        ((t : PrimitiveTypeInfo) → option_flatten (slice_get ts n) ≡ Some t → t ≡ kind_at u (hole_kind_of kinds n)) →
        Leaves context (x n) (kind_at u (hole_kind_of kinds n))
    leaves context x is_there kinds ts are u n there is = go (option_flatten (slice_get ts n)) refl (are n)
      where
        go : (o : Option PrimitiveTypeInfo) → option_flatten (slice_get ts n) ≡ o → IsTypeIn context (x n) (is_there n) o →
            Leaves context (x n) (kind_at u (hole_kind_of kinds n))
        go (Some t) k (it, l) = subst (Leaves context (x n)) (is t k) l
        go None k none = absurd (false≢true (sym none ∙ there))

    has_each : (context : Context) (x : ℕ → List Instruction) (is_there : ℕ → Bool) (kinds : List Kind) (ts : List (Option PrimitiveTypeInfo)) →
        AreTypes context x is_there ts → (h : HaveTypes context x is_there kinds) → Have kinds h.type 0 ts
    has_each context x is_there kinds ts are h n t k =
        let (there, l) = subst (IsTypeIn context (x n) (is_there n)) k (are n) in
        one_type context (x n) t (kind_at h.type (hole_kind_of kinds n)) l (h.leave n there)
        ∙ ap (λ j. kind_at h.type (hole_kind_of kinds j)) (let s : n ≡ 0 + n = omega arith in s)
