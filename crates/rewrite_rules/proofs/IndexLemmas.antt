-- Lists of indices, and what holds of each of them.
use Rattle.std.proofs.Common.{◌≡◌, ℕ, Bool, true, false, List, [], ◌∷◌, ◌++◌, refl, sym, ap, ◌∙◌, append_assoc}
use Rattle.std.specs.Prelude.{◌==◌, ◌||◌, not, if◌then◌else◌}
use Rattle.std.proofs.lemmas.Bool.{eqb-true, eq-eqb, and_parts, false≢true}
use Rattle.std.proofs.lemmas.List.{append-nil}
use Rattle.rewrite_rules.specs.Order.{is_in, every, at_most_one_passes, back}
use Rattle.rewrite_rules.proofs.RunLemmas.{Each, each_append}

pub every_in : (f : ℕ → Bool) (ns : List ℕ) (n : ℕ) → every f ns ≡ true → is_in ns n ≡ true → f n ≡ true
every_in f [] n e i = absurd cc
every_in f (m ∷ ms) n e i = go (n == m) refl i (every_in f ms n (and_parts (f m) (every f ms) e).1)
  where
    go : (b : Bool) → (n == m) ≡ b → (b || is_in ms n) ≡ true → (is_in ms n ≡ true → f n ≡ true) → f n ≡ true
    go true k i rest = ap f (eqb-true n m k) ∙ (and_parts (f m) (every f ms) e).0
    go false k i rest = rest i

pub one_of : (f : ℕ → Bool) (ns : List ℕ) (n k : ℕ) → at_most_one_passes f ns ≡ true → is_in ns n ≡ true → is_in ns k ≡ true → f n ≡ true → f k ≡ true → n ≡ k
one_of f [] n k e i j p q = absurd cc
one_of f (m ∷ ms) n k e i j p q = go (f m) refl e (one_of f ms n k)
  where
    is_first : every (λ j. j == m || not (f j)) ms ≡ true → (n : ℕ) → is_in (m ∷ ms) n ≡ true → f n ≡ true → n ≡ m
    is_first h n i p = at (n == m) refl i
      where
        or_not : (a b : Bool) → b ≡ true → (a || not b) ≡ true → a ≡ true
        or_not true b p k = refl
        or_not false true p k = absurd cc
        or_not false false p k = absurd (false≢true p)

        at : (b : Bool) → (n == m) ≡ b → (b || is_in ms n) ≡ true → n ≡ m
        at true k i = eqb-true n m k
        at false k i = eqb-true n m (or_not (n == m) (f n) p (every_in (λ j. j == m || not (f j)) ms n h i))

    in_rest : f m ≡ false → (n : ℕ) → is_in (m ∷ ms) n ≡ true → f n ≡ true → is_in ms n ≡ true
    in_rest h n i p = at (n == m) refl i
      where
        at : (b : Bool) → (n == m) ≡ b → (b || is_in ms n) ≡ true → is_in ms n ≡ true
        at true k i = absurd (false≢true (sym h ∙ (ap f (sym (eqb-true n m k)) ∙ p)))
        at false k i = i

    go : (b : Bool) → f m ≡ b → (if b then every (λ j. j == m || not (f j)) ms else at_most_one_passes f ms) ≡ true →
        (at_most_one_passes f ms ≡ true → is_in ms n ≡ true → is_in ms k ≡ true → f n ≡ true → f k ≡ true → n ≡ k) → n ≡ k
    go true h e rest = is_first e n i p ∙ sym (is_first e k j q)
    go false h e rest = rest e (in_rest h n i p) (in_rest h k j q) p q

pub each_from : (P : ℕ → Type 0) (ns : List ℕ) → ((n : ℕ) → is_in ns n ≡ true → P n) → Each P ns
each_from P [] k = tt
each_from P (n ∷ ns) k = (k n (ap (λ b. b || is_in ns n) (eq-eqb n n refl)), each_from P ns (λ m i. k m (or_second (m == n) (is_in ns m) i)))
  where
    or_second : (a b : Bool) → b ≡ true → (a || b) ≡ true
    or_second true b e = refl
    or_second false b e = e

pub in_append : (ns ms : List ℕ) (n : ℕ) → is_in (ns ++ ms) n ≡ (is_in ns n || is_in ms n)
in_append [] ms n = refl
in_append (k ∷ ns) ms n = go (n == k) (in_append ns ms n)
  where
    go : (b : Bool) → is_in (ns ++ ms) n ≡ (is_in ns n || is_in ms n) → (b || is_in (ns ++ ms) n) ≡ ((b || is_in ns n) || is_in ms n)
    go true e = refl
    go false e = e

pub in_back : (ns : List ℕ) (n : ℕ) → is_in (back ns) n ≡ is_in ns n
in_back [] n = refl
in_back (m ∷ ms) n = in_append (back ms) (m ∷ []) n ∙ (ap (λ b. b || (n == m || false)) (in_back ms n) ∙ turn (is_in ms n) (n == m))
  where
    turn : (a b : Bool) → (a || (b || false)) ≡ (b || a)
    turn true true = refl
    turn true false = refl
    turn false true = refl
    turn false false = refl

pub back_append : (ns ms : List ℕ) → back (ns ++ ms) ≡ back ms ++ back ns
back_append [] ms = sym (append-nil (back ms))
back_append (n ∷ ns) ms = ap (λ xs. xs ++ (n ∷ [])) (back_append ns ms) ∙ append_assoc (back ms) (back ns) (n ∷ [])

pub back_back : (ns : List ℕ) → back (back ns) ≡ ns
back_back [] = refl
back_back (n ∷ ns) = back_append (back ns) (n ∷ []) ∙ ap (λ xs. n ∷ xs) (back_back ns)

pub each_back : (P : ℕ → Type 0) (ns : List ℕ) → Each P ns → Each P (back ns)
each_back P [] a = tt
each_back P (n ∷ ns) a = each_append P (back ns) (n ∷ []) (each_back P ns a.1) (a.0, tt)
