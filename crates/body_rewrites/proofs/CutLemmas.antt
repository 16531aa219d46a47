-- Where parts stand: they stand in one way at most.
use Rattle.std.proofs.Common.{◌≡◌, ℕ, zero, suc, ◌+◌, ◌≤◌, inl, inr, List, [], ◌∷◌, ◌++◌, length, take, drop, Option, Some, None, refl, sym}
use Rattle.std.proofs.Common.{ap, ap₂, ◌∙◌, subst, append_assoc, arith}
use Rattle.std.specs.Prelude.{IfSome, IfNone, slice_get}
use Rattle.std.specs.Option.{option_flatten}
use Rattle.std.proofs.lemmas.Bool.{cases_lt}
use Rattle.std.proofs.lemmas.List.{append-nil, take_all}
use Rattle.wasm_types.specs.declared.types.PrimitiveTypeInfo.{PrimitiveTypeInfo}
use Rattle.wasm_execution.specs.Values.{Context}
use Rattle.wasm_execution.specs.RowLemmas.{and_then_some}
use Rattle.rewrite_rules.specs.declared.pattern.Part.{Part}
use Rattle.rewrite_rules.specs.declared.pattern.Part.TheVariants.{Hole, Constant, Drawn, Apply}
use Rattle.body_rewrites.specs.declared.trees.Tree.{Tree}
use Rattle.body_rewrites.specs.Trees.{tree_after, Stands, IsTree, HasTree, AreTrees}
use Rattle.body_rewrites.specs.Cutting.{IsStartAt, HasPart, AreCut}
use Rattle.body_rewrites.proofs.StandsLemmas.{Operators, Types}
use Rattle.body_rewrites.proofs.AloneLemmas.{split, one_code, nothing_between, after_append, after_above, leaves_some}

-- ---- trees

module _ (context : Context) (operators : Operators) where
  -- of two trees of an operator the one that begins first
  begins_there : (s m at : ℕ) (t u : PrimitiveTypeInfo) → s ≤ m → IsTree context operators s at t → IsTree context operators m at u → s ≡ m
  begins_there s m at t u le a b =
      let inside = a.inside in
      let ordered = b.ordered in
      let p = split operators s m (at + 1) a.code le (omega arith) a.stands in
      let same : p.back ≡ b.code = one_code operators m (at + 1) p.back b.code p.second b.stands in
      let whole = sym (after_append context p.front p.back []) ∙ (ap (λ c. tree_after context c []) (sym p.parts) ∙ a.typed) in
      let (ts, k, l) = and_then_some (tree_after context p.back) (tree_after context p.front []) (t ∷ []) whole in
      let above = after_above context b.code ts [] (u ∷ []) b.typed in
      let both = sym above ∙ (ap₂ (λ c l. tree_after context c l) (sym same) (append-nil ts) ∙ l) in
      let none : ts ≡ [] = no_more ts both in
      let empty : p.front ≡ [] = leaves_some context p.front [] (k ∙ ap (λ l. Some l) none) in
      nothing_between operators s m le (omega arith) (subst (Stands operators s m) empty p.first)
    where
      no_more : (ts : Types) → ◌≡◌ {A = Option Types} (Some (ts ++ u ∷ [])) (Some (t ∷ [])) → ts ≡ []
      no_more [] e = refl
      no_more (v ∷ []) e = absurd cc
      no_more (v ∷ w ∷ ts) e = absurd cc

  pub one_start : (s m at : ℕ) (t u : PrimitiveTypeInfo) → IsTree context operators s at t → IsTree context operators m at u → s ≡ m
  one_start s m at t u a b = elim (cases_lt s m) [
    | inl l ↦ begins_there s m at t u (omega arith) a b
    | inr l ↦ sym (begins_there m s at u t l b a)
  ]

  -- ---- parts

  pub one_place : (p : Part) (s m end : ℕ) → HasPart context operators p s end → HasPart context operators p m end → s ≡ m
  one_place (Hole n) s m end (at, t, e, a) (to, u, f, b) =
      let same : to ≡ at = omega (arith, e, f) in
      one_start s m at t u a (subst (λ k. IsTree context operators m k u) same b)
  one_place (Constant t x) s m end (n, i, e, a, c) (k, j, f, b, d) = omega (arith, e, f)
  one_place (Drawn t) s m end a b = absurd a
  one_place (Apply o) s m end (e, a) (f, b) = omega (arith, e, f)

-- ---- what a tree's start tells

pub hole_some : (operators : Operators) (trees : List (Option Tree)) (p : Part) (n end at : ℕ) (o : Option ℕ) → p ≡ Hole n → end ≡ suc at →
    ((context : Context) (any : Operators) → AreTrees context any trees → IsStartAt context any at o) →
    IfSome o (λ k. (context : Context) → AreTrees context operators trees → HasPart context operators p k end)
hole_some operators trees p n end at (Some k) is e f = λ context a.
    let (t, tree) = f context operators a in
    subst (λ q. HasPart context operators q k end) (sym is) (at, t, e, tree)
hole_some operators trees p n end at None is e f = tt

pub hole_none : (operators : Operators) (trees : List (Option Tree)) (p : Part) (n end at : ℕ) (o : Option ℕ) → p ≡ Hole n → end ≡ suc at →
    ((context : Context) (any : Operators) → AreTrees context any trees → IsStartAt context any at o) →
    IfNone o ((context : Context) → AreTrees context operators trees → (k : ℕ) → HasPart context operators p k end → ⊥)
hole_none operators trees p n end at (Some k) is e f = tt
hole_none operators trees p n end at None is e f = λ context a k h.
    no_tree context a k (subst (λ q. HasPart context operators q k end) is h)
  where
    no_tree : (context : Context) → AreTrees context operators trees → (k : ℕ) → HasPart context operators (Hole n) k end → ⊥
    no_tree context a k (to, t, g, tree) =
        let same : to ≡ at = omega (arith, e, g) in
        f context operators a k t (subst (λ m. IsTree context operators k m t) same tree)

-- ---- parts so far

-- The first so many parts begin at these places, the last of them at `at`; and so they do in every cut.
pub record AreCutSo (operators : Operators) (trees : List (Option Tree)) (parts : List Part) (starts : List ℕ) (end i at : ℕ) : Type 0 where
  pub some : (context : Context) → AreTrees context operators trees → (ps : List Part) (ks : List ℕ) → AreCut context operators ps ks at →
      AreCut context operators (take i parts ++ ps) (starts ++ ks) end
  pub only : (context : Context) → AreTrees context operators trees → (ks : List ℕ) → AreCut context operators parts ks end →
      (rest : List ℕ) × (ks ≡ starts ++ rest) × AreCut context operators (drop i parts) rest at

module _ (operators : Operators) (trees : List (Option Tree)) (parts : List Part) (end : ℕ) where
  pub nothing_cut : AreCutSo operators trees parts [] end 0 end
  nothing_cut = record { some = λ context a ps ks c. c; only = λ context a ks c. (ks, refl, c) }

  -- the part with that number, and those behind it
  take_more : {X : Type 0} (xs ys : List X) (i : ℕ) (x : X) → slice_get xs i ≡ Some x → take (i + 1) xs ++ ys ≡ take i xs ++ x ∷ ys
  take_more [] ys i x e = absurd cc
  take_more (z ∷ xs) ys zero x e = ap (λ w. w ∷ ys) (let same : z ≡ x = cc in same)
  take_more (z ∷ xs) ys (suc i) x e =
      ap (λ n. take n (z ∷ xs) ++ ys) (let s : suc i + 1 ≡ suc (i + 1) = omega arith in s) ∙ ap (λ l. z ∷ l) (take_more xs ys i x e)

  drop_more : {X : Type 0} (xs : List X) (i : ℕ) (x : X) → slice_get xs i ≡ Some x → drop i xs ≡ x ∷ drop (i + 1) xs
  drop_more [] i x e = absurd cc
  drop_more (z ∷ xs) zero x e = ap (λ w. w ∷ xs) (let same : z ≡ x = cc in same)
  drop_more (z ∷ xs) (suc i) x e =
      drop_more xs i x e ∙ ap (λ n. x ∷ drop n (z ∷ xs)) (let s : suc (i + 1) ≡ suc i + 1 = omega arith in s)

  -- a cut of the rest begins with that part's place
  first_of : (context : Context) (i at : ℕ) (p : Part) (rest : List ℕ) → slice_get parts i ≡ Some p → AreCut context operators (drop i parts) rest at →
      (k : ℕ) × (ks : List ℕ) × (rest ≡ k ∷ ks) × HasPart context operators p k at × AreCut context operators (drop (i + 1) parts) ks k
  first_of context i at p rest e c = go rest (subst (λ l. AreCut context operators l rest at) (drop_more parts i p e) c)
    where
      go : (rest : List ℕ) → AreCut context operators (p ∷ drop (i + 1) parts) rest at →
          (k : ℕ) × (ks : List ℕ) × (rest ≡ k ∷ ks) × HasPart context operators p k at × AreCut context operators (drop (i + 1) parts) ks k
      go [] c = absurd c
      go (k ∷ ks) (h, c) = (k, ks, refl, h, c)

  pub one_more : (starts : List ℕ) (i at k : ℕ) (p : Part) → slice_get parts i ≡ Some p → AreCutSo operators trees parts starts end i at →
      ((context : Context) → AreTrees context operators trees → HasPart context operators p k at) →
      AreCutSo operators trees parts (starts ++ k ∷ []) end (i + 1) k
  one_more starts i at k p e h has = record {
    some = λ context a ps ks c.
        subst (λ l. AreCut context operators l ((starts ++ k ∷ []) ++ ks) end) (sym (take_more parts ps i p e))
        (subst (λ l. AreCut context operators (take i parts ++ p ∷ ps) l end) (sym (append_assoc starts (k ∷ []) ks))
        (h.some context a (p ∷ ps) (k ∷ ks) (has context a, c)));
    only = λ context a ks c.
        let (rest, x, y) = h.only context a ks c in
        let (m, ms, u, v, w) = first_of context i at p rest e y in
        let same : m ≡ k = one_place context operators p m k at v (has context a) in (
          ms,
          x ∙ (ap (λ l. starts ++ l) (u ∙ ap (λ n. n ∷ ms) same) ∙ sym (append_assoc starts (k ∷ []) ms)),
          subst (λ n. AreCut context operators (drop (i + 1) parts) ms n) same w,
        );
  }

  pub no_more : (starts : List ℕ) (i at : ℕ) (p : Part) → slice_get parts i ≡ Some p → AreCutSo operators trees parts starts end i at →
      ((context : Context) → AreTrees context operators trees → (k : ℕ) → HasPart context operators p k at → ⊥) →
      (context : Context) → AreTrees context operators trees → (ks : List ℕ) → AreCut context operators parts ks end → ⊥
  no_more starts i at p e h none context a ks c =
      let (rest, x, y) = h.only context a ks c in
      let (m, ms, u, v, w) = first_of context i at p rest e y in
      none context a m v

  pub all_cut : (starts : List ℕ) (i at : ℕ) → length parts ≤ i → AreCutSo operators trees parts starts end i at →
      (context : Context) → AreTrees context operators trees → AreCut context operators parts starts end
  all_cut starts i at le h context a =
      subst (λ l. AreCut context operators l starts end) (append-nil (take i parts) ∙ take_all i parts le)
      (subst (λ l. AreCut context operators (take i parts ++ []) l end) (append-nil starts) (h.some context a [] [] tt))

-- ---- what a look-up tells

pub start_some : (trees : List (Option Tree)) (at : ℕ) (tree : Tree) → option_flatten (slice_get trees at) ≡ Some tree → (context : Context)
    (operators : Operators) → AreTrees context operators trees → IsStartAt context operators at (Some tree.start)
start_some trees at tree e context operators a = go (slice_get trees at) refl e
  where
    go : (o : Option (Option Tree)) → slice_get trees at ≡ o → option_flatten o ≡ Some tree → IsStartAt context operators at (Some tree.start)
    go (Some (Some found)) k e =
        let same : found ≡ tree = cc in
        let t = subst (λ x. HasTree context operators at x) same (a.each at (Some found) k) in
        (tree.gives, t.is)
    go (Some None) k e = absurd cc
    go None k e = absurd cc

-- the list ends before that index
pub no_item : {X : Type 0} (xs : List X) (n : ℕ) → slice_get xs n ≡ None → length xs ≤ n
no_item [] n e = omega arith
no_item (x ∷ xs) zero e = absurd cc
no_item (x ∷ xs) (suc n) e = let l = no_item xs n e in omega arith

pub start_none : (trees : List (Option Tree)) (at : ℕ) → option_flatten (slice_get trees at) ≡ None → (context : Context) (operators : Operators) →
    AreTrees context operators trees → IsStartAt context operators at None
start_none trees at none context operators a start t is = go (slice_get trees at) refl none
  where
    go : (o : Option (Option Tree)) → slice_get trees at ≡ o → option_flatten o ≡ None → ⊥
    go (Some (Some tree)) e k = absurd cc
    go (Some None) e k = a.each at None e start t is
    go None e k =
        let past = no_item trees at e in
        let count = a.count in
        let inside = is.inside in
        omega arith
