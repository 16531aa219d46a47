-- The values that are kept where nothing is, and where each of them begins once the last ones are replaced.
use Rattle.std.proofs.Common.{◌≡◌, ℕ, ◌+◌, ◌<◌, ◌≤◌, ◌⊎◌, inl, inr, List, [], ◌∷◌, ◌++◌, length, get_or, take, Option, Some, None, refl}
use Rattle.std.proofs.Common.{sym, ap, ◌∙◌, subst, length-append, arith}
use Rattle.std.proofs.lemmas.Bool.{cases_lt}
use Rattle.std.proofs.lemmas.List.{drop_all, get_or_append_left, get_or_default, get_or_push, get_or-take, length-take-le}
use Rattle.wasm_types.specs.declared.types.PrimitiveTypeInfo.{PrimitiveTypeInfo}
use Rattle.wasm_execution.specs.Values.{Context}
use Rattle.body_changes.specs.Pass.{start_where, AreValues, IsCodeLeaving}
use Rattle.body_changes.specs.Replacing.{IsClosed}
use Rattle.body_changes.proofs.StandLemmas.{Operators, Types, no_code, none_left}

-- ---- nothing kept

-- no value is left behind an operator that no code goes across
pub none_kept : (context : Context) (operators : Operators) (at : ℕ) →
    ((s : ℕ) (ts : Types) → s ≤ at → IsCodeLeaving context operators s at ts → s ≡ at) → AreValues context operators at [] []
none_kept context operators at across = record {
  aligned = refl;
  sorted = λ j k le. omega arith;
  leave = λ j. subst (λ ts. IsCodeLeaving context operators at at ts) (sym (drop_all {X = PrimitiveTypeInfo} j [] (omega arith)))
      (no_code context operators at);
  most = λ s ts le c. let same = across s ts le c in record {
    number = 0;
    few = omega arith;
    last = none_left context operators at ts (subst (λ n. IsCodeLeaving context operators n at ts) same c);
    begins = omega arith;
  };
}

-- the same values
pub same_values : (context : Context) (operators : Operators) (at : ℕ) (starts ss : List ℕ) (types ts : Types) → ss ≡ starts → ts ≡ types →
    AreValues context operators at starts types → AreValues context operators at ss ts
same_values context operators at starts ss types ts e f v =
    subst (λ xs. AreValues context operators at xs ts) (sym e) (subst (AreValues context operators at starts) (sym f) v)

pub nothing_before : (context : Context) (operators : Operators) → AreValues context operators 0 [] []
nothing_before context operators = none_kept context operators 0 (λ s ts le c. omega arith)

pub nothing_across : (context : Context) (operators : Operators) (at : ℕ) → ((s : ℕ) (ts : Types) → IsClosed context operators s (at + 1) ts → ⊥) →
    AreValues context operators (at + 1) [] []
nothing_across context operators at never = none_kept context operators (at + 1) (λ s ts le c. go s ts c (cases_lt s (at + 1)) le)
  where
    go : (s : ℕ) (ts : Types) → IsCodeLeaving context operators s (at + 1) ts → (s < at + 1) ⊎ (at + 1 ≤ s) → s ≤ at + 1 → s ≡ at + 1
    go s ts c (inl l) le = absurd (never s ts (record { some = l; own = c.own; stands = c.stands; leaves = c.leaves }))
    go s ts c (inr l) le = omega arith

-- ---- lists with the last items replaced

-- with one behind the first ones or none, which stands where it stood
pub kept_start : (starts : List ℕ) (below j at other start : ℕ) (o : Option PrimitiveTypeInfo) → below ≤ length starts → start ≡ get_or starts below at →
    j < length (take below starts ++ start_where o start) → get_or (take below starts ++ start_where o start) j other ≡ get_or starts j at
kept_start starts below j at other start o le is l = go (cases_lt j below)
  where
    long : length (take below starts) ≡ below
    long = length-take-le below starts le

    last : (o : Option PrimitiveTypeInfo) → below ≤ j → j < length (take below starts ++ start_where o start) →
        get_or (take below starts ++ start_where o start) j other ≡ get_or starts j at
    last None b m =
        let n = length-append (take below starts) [] in let k = long in absurd (omega arith)
    last (Some t) b m =
        let n = length-append (take below starts) (start ∷ []) in
        let k = long in
        let same : below ≡ j = omega arith in
        get_or_push (take below starts) start other j (k ∙ same) ∙ (is ∙ ap (λ n. get_or starts n at) same)

    go : (j < below) ⊎ (below ≤ j) → get_or (take below starts ++ start_where o start) j other ≡ get_or starts j at
    go (inl b) =
        let k = long in
        get_or_append_left (take below starts) (start_where o start) other j (omega arith)
        ∙ (get_or-take below starts j other b ∙ get_or_default starts j other at (omega arith))
    go (inr b) = last o b l
