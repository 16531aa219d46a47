-- How it is told whether operands may move.
use Rattle.std.proofs.Common.{◌≡◌, ℕ, zero, suc, ◌-◌, ◌<◌, Bool, true, false, List, [], ◌∷◌, ◌++◌, length, take, refl, sym, ap, ap₂, ◌∙◌, arith}
use Rattle.std.specs.Prelude.{◌==◌, ◌&&◌, ◌||◌, not, if◌then◌else◌, slice_index_or}
use Rattle.rewrite_rules.specs.declared.order.Effects.{Effects}
use Rattle.rewrite_rules.specs.Order.{Doing, effect_at, is_in, is_twice, every, at_most_one_passes, is_free, in_neither, are_free, back, before_end, may_move}
use Rattle.rewrite_rules.proofs.IndexLemmas.{in_back, back_append, back_back}

-- it is the index, or may not trap
abbrev pub traps_only : List Effects → (index : ℕ) → ℕ → Bool
traps_only es index m = m == index || not (effect_at es m).traps

module _ (may : Doing) where
  -- each test of all of them
  still : ℕ → Bool
  still n = not (may.write n)

  stays : (right : List ℕ) → ℕ → Bool
  stays right n = is_in right n || not (may.trap n)

  once : (left right : List ℕ) → ℕ → Bool
  once left right n = not (may.ask n) || (not (is_twice left n) && not (is_twice right n))

  six : (a b c d e f : Bool) → ((a && (b && c)) && (d && (e && f))) ≡ ((a && d) && ((b && e) && (c && f)))
  six true true true d e f = refl
  six true true false true true f = refl
  six true true false true false f = refl
  six true true false false e f = refl
  six true false c true e f = refl
  six true false c false e f = refl
  six false b c d e f = refl

  free_all : (left right ns : List ℕ) →
      every (is_free may left right) ns ≡ (every still ns && (every (stays right) ns && every (once left right) ns))
  unfolding still stays once
  free_all left right [] = refl
  free_all left right (n ∷ ns) =
      ap (λ b. is_free may left right n && b) (free_all left right ns)
      ∙ six (still n) (stays right n) (once left right n) (every still ns) (every (stays right) ns) (every (once left right) ns)

  pub free_where_each_is : (left right : List ℕ) (one : Bool) → every (is_free may left right) left ≡ one →
      are_free may left right ≡ (one && at_most_one_passes may.trap left)
  unfolding still stays once
  free_where_each_is left right one e =
      four (every still left) (at_most_one_passes may.trap left) (every (stays right) left) (every (once left right) left)
      ∙ ap (λ b. b && at_most_one_passes may.trap left) (sym (free_all left right left) ∙ e)
    where
      four : (a b c d : Bool) → (a && (b && (c && d))) ≡ ((a && (c && d)) && b)
      four false b c d = refl
      four true true true true = refl
      four true true true false = refl
      four true true false d = refl
      four true false true true = refl
      four true false true false = refl
      four true false false d = refl

  -- ---- nothing is left on one side

  pub none_right : (ns ms : List ℕ) → ms ≡ [] → may_move may ns ms ≡ before_end may (back ns) (back ms)
  none_right [] ms e = refl
  none_right (n ∷ ns) [] e = refl
  none_right (n ∷ ns) (m ∷ ms) e = absurd cc

  ends_with : (ns : List ℕ) → before_end may ns [] ≡ are_free may (back ns) []
  ends_with [] = refl
  ends_with (n ∷ ns) = refl

  pub ends_right : (ns ms : List ℕ) → ms ≡ [] → before_end may (back ns) (back ms) ≡ are_free may ns ms
  ends_right ns [] e = ends_with (back ns) ∙ ap (λ l. are_free may l []) (back_back ns)
  ends_right ns (m ∷ ms) e = absurd cc

  -- ---- the last ones

  neither_back : (ns ms : List ℕ) (n : ℕ) → in_neither (back ns) (back ms) n ≡ in_neither ns ms n
  neither_back ns ms n = ap₂ (λ a b. not a && not b) (in_back ns n) (in_back ms n)

  -- two sides that end with these
  last_is : (ns ms : List ℕ) (n m : ℕ) (same : Bool) → (n == m && in_neither ns ms n) ≡ same →
      before_end may (back (ns ++ n ∷ [])) (back (ms ++ m ∷ [])) ≡
      (if same then before_end may (back ns) (back ms) else are_free may (ns ++ n ∷ []) (ms ++ m ∷ []))
  last_is ns ms n m same e =
      ap₂ (λ a b. before_end may a b) (back_append ns (n ∷ [])) (back_append ms (m ∷ []))
      ∙ (ap (λ b. if n == m && b then before_end may (back ns) (back ms) else are_free may (back (n ∷ back ns)) (back (m ∷ back ms)))
      (neither_back ns ms n)
      ∙ (ap (λ b. if b then before_end may (back ns) (back ms) else are_free may (back (n ∷ back ns)) (back (m ∷ back ms))) e
      ∙ ap₂ (λ a b. if same then before_end may (back ns) (back ms) else are_free may a b)
      (ap (λ l. l ++ n ∷ []) (back_back ns)) (ap (λ l. l ++ m ∷ []) (back_back ms))))

-- the last of the first ones
pub take_last : (xs : List ℕ) (count : ℕ) (d : ℕ) → count < length xs →
    take (length xs - count) xs ≡ take (length xs - count - 1) xs ++ slice_index_or xs (length xs - count - 1) d ∷ []
take_last xs count d l =
    ap (λ k. take k xs) (let e : length xs - count ≡ suc (length xs - count - 1) = omega arith in e) ∙ one_longer xs (length xs - count - 1) (omega arith)
  where
    one_longer : (xs : List ℕ) (k : ℕ) → k < length xs → take (suc k) xs ≡ take k xs ++ slice_index_or xs k d ∷ []
    one_longer [] k l = absurd (omega arith)
    one_longer (x ∷ xs) zero l = refl
    one_longer (x ∷ xs) (suc k) l = ap (λ ys. x ∷ ys) (one_longer xs k (omega arith))

-- where an end of both sides is told to be the same, or not
pub one_back : (may : Doing) (left right : List ℕ) (count d : ℕ) (same : Bool) → count < length left → count < length right →
    (slice_index_or left (length left - count - 1) d == slice_index_or right (length right - count - 1) d
    && in_neither (take (length left - count - 1) left) (take (length right - count - 1) right) (slice_index_or left (length left - count - 1) d)) ≡ same →
    before_end may (back (take (length left - count) left)) (back (take (length right - count) right)) ≡
    (if same then before_end may (back (take (length left - count - 1) left)) (back (take (length right - count - 1) right))
    else are_free may (take (length left - count) left) (take (length right - count) right))
one_back may left right count d same l m e =
    let a = take_last left count d l in
    let b = take_last right count d m in
    ap₂ (λ xs ys. before_end may (back xs) (back ys)) a b
    ∙ (last_is may (take (length left - count - 1) left) (take (length right - count - 1) right) _ _ same e
    ∙ ap₂
    (λ xs ys. if same then before_end may (back (take (length left - count - 1) left)) (back (take (length right - count - 1) right)) else are_free may xs ys)
    (sym a) (sym b))
