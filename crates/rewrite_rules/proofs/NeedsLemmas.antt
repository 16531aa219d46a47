-- What a rule asks of its operands, computed once, is what is asked of each instance.
use Rattle.std.proofs.Common.{◌≡◌, ℕ, Bool, true, false, List, [], ◌∷◌, refl, ap, ap₂, ◌∙◌}
use Rattle.std.specs.Prelude.{◌==◌, ◌&&◌, ◌||◌, not, if◌then◌else◌}
use Rattle.rewrite_rules.specs.Order.{is_in}
use Rattle.rewrite_rules.specs.Pattern.{holes}
use Rattle.rewrite_rules.specs.Order as order
use Rattle.rewrite_rules.specs.Order.{Doing, every, at_most_one_passes, is_twice, are_free, in_neither, back, may_move}
use Rattle.rewrite_rules.specs.Needs.{Middle, before_end, middle_of, those, NeedsAreEnough}

module _ (may : Doing) where
  free_in : Middle → Bool
  free_in m = are_free may m.left m.right

  end_is : (ns ms : List ℕ) → order.before_end may ns ms ≡ free_in (before_end ns ms)
  unfolding free_in
  end_is [] ms = refl
  end_is (n ∷ ns) [] = refl
  end_is (n ∷ ns) (m ∷ ms) = go (n == m && in_neither ns ms n) (end_is ns ms)
    where
      go : (b : Bool) → order.before_end may ns ms ≡ free_in (before_end ns ms) →
          (if b then order.before_end may ns ms else are_free may (back (n ∷ ns)) (back (m ∷ ms)))
          ≡ free_in (if b then before_end ns ms else record { left = back (n ∷ ns); right = back (m ∷ ms) })
      go true e = e
      go false e = refl

  middle_is : (ns ms : List ℕ) → may_move may ns ms ≡ free_in (middle_of ns ms)
  middle_is [] ms = end_is [] (back ms)
  middle_is (n ∷ ns) [] = end_is (back (n ∷ ns)) []
  middle_is (n ∷ ns) (m ∷ ms) = go (n == m && in_neither ns ms n) (middle_is ns ms)
    where
      go : (b : Bool) → may_move may ns ms ≡ free_in (middle_of ns ms) →
          (if b then may_move may ns ms else order.before_end may (back (n ∷ ns)) (back (m ∷ ms)))
          ≡ free_in (if b then middle_of ns ms else before_end (back (n ∷ ns)) (back (m ∷ ms)))
      go true e = e
      go false e = end_is (back (n ∷ ns)) (back (m ∷ ms))

-- a test of some is a test of all, where the others pass
each_of : (f g : ℕ → Bool) (k : ℕ → Bool) → ((n : ℕ) → k n ≡ (not (g n) || f n)) → (ns : List ℕ) → every k ns ≡ every f (those g ns)
each_of f g k e [] = refl
each_of f g k e (n ∷ ns) = ap₂ (λ a b. a && b) (e n) (each_of f g k e ns) ∙ go (g n)
  where
    go : (b : Bool) → ((not b || f n) && every f (those g ns)) ≡ every f (if b then n ∷ those g ns else those g ns)
    go true = refl
    go false = refl

pub needs_are_enough : NeedsAreEnough
unfolding free_in
needs_are_enough may r =
    let m = middle_of (holes r.left) (holes r.right) in
    middle_is may (holes r.left) (holes r.right)
    ∙ ap (λ b. every (λ n. not (may.write n)) m.left && (at_most_one_passes may.trap m.left && b))
    (ap₂ (λ a b. a && b)
    (each_of (λ n. not (may.trap n)) (λ n. not (is_in m.right n)) (λ n. is_in m.right n || not (may.trap n)) (λ n. twice (is_in m.right n) (may.trap n)) m.left)
    (each_of (λ n. not (may.ask n)) (λ n. is_twice m.left n || is_twice m.right n)
    (λ n. not (may.ask n) || (not (is_twice m.left n) && not (is_twice m.right n))) (λ n. either (may.ask n) (is_twice m.left n) (is_twice m.right n)) m.left))
  where
    twice : (a b : Bool) → (a || not b) ≡ (not (not a) || not b)
    twice true b = refl
    twice false b = refl

    either : (a b c : Bool) → (not a || (not b && not c)) ≡ (not (b || c) || not a)
    either true true c = refl
    either true false true = refl
    either true false false = refl
    either false true true = refl
    either false true false = refl
    either false false true = refl
    either false false false = refl
