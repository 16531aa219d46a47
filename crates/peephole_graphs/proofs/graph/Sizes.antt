-- Sizes and flags of a graph that grows.
use Rattle.std.proofs.Common.{◌≡◌, ℕ, zero, suc, ◌+◌, ◌<◌, ◌≤◌, Bool, true, false, List, [], ◌∷◌, ◌++◌, length, refl, ap, ap₂, ◌∙◌, arith, ⊎_elim}
use Rattle.std.specs.Prelude.{◌&&◌, ◌==◌, reverse, replicate}
use Rattle.std.specs.List.{All, flat_map, sum_by}
use Rattle.std.proofs.lemmas.Bool.Decides.{nat_tests}
use Rattle.std.proofs.lemmas.Bool.{cond-true, cond-false, cond_both, eq-eqb, ne_eqb, cases_eq}
use Rattle.std.proofs.lemmas.Grind.{flat_map-append}
use Rattle.std.proofs.lemmas.List.{length-append, reverse-append}
use Rattle.std.proofs.lemmas.List.Concat.{length-flat_map}
use Rattle.std.proofs.lemmas.List.Elements.{All-head, All-tail, All-nil, All-push, All-weaker}
use Rattle.std.proofs.lemmas.List.Sums.{sum_by-append, sum_by-cons}
use Rattle.peephole_graphs.specs.Graph.{item}
use Rattle.peephole_graphs.specs.Step.{down}
use Rattle.peephole_graphs.specs.Downwards.{Kin, downwards, kin_at}
use Rattle.peephole_graphs.specs.Measures.{are_colored, sizes_of, color_flags_of, are_alike}
use Rattle.peephole_graphs.proofs.Lists.{all_reverse, all_flat_map, sum_by-reverse, sum_by_same}
use Rattle.peephole_graphs.proofs.graph.StackGraph.{behind}
use Rattle.peephole_graphs.proofs.graph.BlockGraphLemmas.{at_old, at_more, item_last, item_before}

sum_by_down : (f : ℕ → ℕ) (b k : ℕ) → ((i : ℕ) → b ≤ i → i < b + k → f i ≡ 1) → sum_by f (down b k) ≡ k
sum_by_down f b zero h = refl
sum_by_down f b (suc k) h =
    let e = h (b + k) (omega arith) (omega arith) in
    let g = sum_by_down f b k (λ i a c. h i a (omega arith)) in
    omega (arith, sum_by-cons f (b + k) (down b k))

-- old entries keep what lies below them
pub down_old : (u : Kin) (more : ℕ) (xs : List Kin) (i : ℕ) → i < length xs → downwards (replicate more u ++ xs) i ≡ downwards xs i
down_old u zero xs i l = refl
down_old u (suc k) xs i l = let b = behind u k xs in let ih = down_old u k xs i l in grind (arith, nat_tests)

pub down_own : (new : Kin) (ys : List Kin) → downwards (new ∷ ys) (length ys) ≡ flat_map (downwards ys) new.children ++ length ys ∷ []
down_own new ys = cond-true _ _ _ (eq-eqb (length ys) (length ys) refl)

down_bare : (u : Kin) (ys : List Kin) → u.children ≡ [] → downwards (u ∷ ys) (length ys) ≡ length ys ∷ []
down_bare u ys e = down_own u ys ∙ ap (λ x. flat_map (downwards ys) x ++ length ys ∷ []) e

pub down_more : (u : Kin) (more : ℕ) (xs : List Kin) (i : ℕ) → u.children ≡ [] → length xs ≤ i → i < length xs + more →
    downwards (replicate more u ++ xs) i ≡ i ∷ []
down_more u zero xs i e m l = absurd (omega arith)
down_more u (suc k) xs i e m l =
    let b = behind u k xs in
    let own = down_bare u (replicate k u ++ xs) e in
    let ih = down_more u k xs i e m in
    grind (arith, nat_tests)

pub sizes_length : (xs : List Kin) → length (sizes_of xs) ≡ length xs
sizes_length [] = refl
sizes_length (e ∷ xs) = ap suc (sizes_length xs)

pub flags_length : (xs : List Kin) → length (color_flags_of xs) ≡ length xs
flags_length [] = refl
flags_length (e ∷ xs) = ap suc (flags_length xs)

pub size_at : (xs : List Kin) (i : ℕ) → i < length xs → length (downwards xs i) ≡ item 0 (sizes_of xs) i
size_at [] i l = absurd (omega arith)
size_at (e ∷ xs) i l = let ih = size_at xs i in grind (arith, nat_tests, sizes_length xs)

pub sizes_replicate : (u : Kin) (k : ℕ) (xs : List Kin) → u.children ≡ [] → sizes_of (replicate k u ++ xs) ≡ replicate k 1 ++ sizes_of xs
sizes_replicate u zero xs e = refl
sizes_replicate u (suc k) xs e = ap₂ (λ x y. length x ∷ y) (down_bare u (replicate k u ++ xs) e) (sizes_replicate u k xs e)

pub sizes_step : (new u : Kin) (more : ℕ) (xs : List Kin) (taken : List ℕ) → u.children ≡ [] →
    new.children ≡ down (length xs) more ++ reverse taken → All (λ i. i < length xs) taken → sizes_of (new ∷ (replicate more u ++ xs)) ≡
    suc (more + sum_by (λ i. item 0 (sizes_of xs) i) taken) ∷ (replicate more 1 ++ sizes_of xs)
sizes_step new u more xs taken e c h =
    let ys = replicate more u ++ xs in
    let f : ℕ → ℕ = λ i. length (downwards ys i) in
    let g : ℕ → ℕ = λ i. item 0 (sizes_of xs) i in
    let one = sum_by_down f (length xs) more (λ i a b. ap length (down_more u more xs i e a b)) in
    let two : sum_by f (reverse taken) ≡ sum_by g taken = sum_by-reverse f taken ∙
    sum_by_same f g taken (length xs) h (λ i l. ap length (down_old u more xs i l) ∙ size_at xs i l) in
    let kids = length-flat_map (downwards ys) new.children ∙ (ap (sum_by f) c ∙ sum_by-append f (down (length xs) more) (reverse taken)) in
    let whole = ap length (down_own new ys) ∙ length-append (flat_map (downwards ys) new.children) (length ys ∷ []) in
    ap₂ (λ x y. x ∷ y) (omega arith) (sizes_replicate u more xs e)

pub colored_append : (xs : List Kin) (c : ℕ) (is js : List ℕ) → are_colored xs c (is ++ js) ≡ (are_colored xs c is && are_colored xs c js)
colored_append xs c [] js = refl
colored_append xs c (i ∷ is) js = grind (arith, colored_append xs c is js)

pub colored_same : (xs ys : List Kin) (c n : ℕ) (is : List ℕ) → All (λ i. i < n) is →
    ((i : ℕ) → i < n → kin_at xs i ≡ kin_at ys i) → are_colored xs c is ≡ are_colored ys c is
colored_same xs ys c n [] h e = refl
colored_same xs ys c n (i ∷ is) h e = ap₂ (λ (k : Kin) b. (k.color == c) && b) (e i (All-head (λ i. i < n) i is h))
    (colored_same xs ys c n is (All-tail (λ i. i < n) i is h) e)

pub down_below : (xs : List Kin) (i : ℕ) → All (λ j. j < length xs) (downwards xs i)
down_below [] i = All-nil (λ j. j < 0)
down_below (e ∷ xs) i =
    let kids = flat_map (downwards xs) e.children in
    let older = All-weaker (λ j. j < length xs) (λ j. j < suc (length xs)) (λ j l. omega arith) in
    cond_both (length xs == i) (kids ++ length xs ∷ []) (downwards xs i) (All (λ j. j < suc (length xs)))
    (λ w. All-push (λ j. j < suc (length xs)) kids (length xs)
    (older kids (all_flat_map (downwards xs) (length xs) e.children (down_below xs))) (omega arith))
    (λ w. older (downwards xs i) (down_below xs i))

pub kin_older : (e : Kin) (xs : List Kin) (i : ℕ) → i < length xs → kin_at (e ∷ xs) i ≡ kin_at xs i
kin_older e xs i l = item_before (record { children = []; color = 0 }) e xs i l

colored_older : (e : Kin) (xs : List Kin) (c i : ℕ) → are_colored (e ∷ xs) c (downwards xs i) ≡ are_colored xs c (downwards xs i)
colored_older e xs c i = colored_same (e ∷ xs) xs c (length xs) (downwards xs i) (down_below xs i) (kin_older e xs)

pub flag_at : (xs : List Kin) (i : ℕ) → i < length xs → are_colored xs (kin_at xs i).color (downwards xs i) ≡ item false (color_flags_of xs) i
flag_at [] i l = absurd (omega arith)
flag_at (e ∷ xs) i l =
    let ih = flag_at xs i in
    let older = colored_older e xs (kin_at xs i).color i in
    let count = flags_length xs in
    grind (arith, nat_tests)

-- the entry itself is the last one
pub down_last : (xs : List Kin) (i : ℕ) → i < length xs → (is : List ℕ) × (downwards xs i ≡ is ++ i ∷ [])
down_last [] i l = absurd (omega arith)
down_last (e ∷ xs) i l = ⊎_elim
    (λ w. (flat_map (downwards xs) e.children, cond-true _ _ _ (eq-eqb (length xs) i w) ∙ ap (λ j. flat_map (downwards xs) e.children ++ j ∷ []) w))
    (λ w. let h = down_last xs i (omega arith) in (h.0, cond-false _ _ _ (ne_eqb (length xs) i w) ∙ h.1))
    (cases_eq (length xs) i)

alike : (xs : List Kin) (c i : ℕ) → i < length xs →
    are_colored xs c (downwards xs i) ≡ (item false (color_flags_of xs) i && ((kin_at xs i).color == c))
alike xs c i l =
    let flag = flag_at xs i l in
    let own = down_last xs i l in
    let parts = ap (are_colored xs c) own.1 ∙ colored_append xs c own.0 (i ∷ []) in
    grind (arith, nat_tests)

alike_append : (flag : ℕ → Bool) (color : ℕ → ℕ) (c : ℕ) (is js : List ℕ) →
    are_alike flag color c (is ++ js) ≡ (are_alike flag color c is && are_alike flag color c js)
alike_append flag color c [] js = refl
alike_append flag color c (i ∷ is) js = grind (arith, alike_append flag color c is js)

pub alike_reverse : (flag : ℕ → Bool) (color : ℕ → ℕ) (c : ℕ) (is : List ℕ) → are_alike flag color c (reverse is) ≡ are_alike flag color c is
alike_reverse flag color c [] = refl
alike_reverse flag color c (i ∷ is) = ap (are_alike flag color c) (reverse-append (i ∷ []) is) ∙
    grind (arith, alike_append flag color c (reverse is) (i ∷ []), alike_reverse flag color c is)

colored_gather : (xs : List Kin) (c : ℕ) (f : ℕ → List ℕ) (flag : ℕ → Bool) (color : ℕ → ℕ) (is : List ℕ) (n : ℕ) →
    All (λ i. i < n) is → ((i : ℕ) → i < n → are_colored xs c (f i) ≡ (flag i && (color i == c))) →
    are_colored xs c (flat_map f is) ≡ are_alike flag color c is
colored_gather xs c f flag color [] n h e = refl
colored_gather xs c f flag color (i ∷ is) n h e = colored_append xs c (f i) (flat_map f is) ∙
    ap₂ (λ a b. a && b) (e i (All-head (λ i. i < n) i is h)) (colored_gather xs c f flag color is n (All-tail (λ i. i < n) i is h) e)

-- a missing operand has no operator's colour
colored_down : (zs : List Kin) (c b k : ℕ) (f : ℕ → List ℕ) → ((i : ℕ) → b ≤ i → i < b + k → are_colored zs c (f i) ≡ false) →
    are_colored zs c (flat_map f (down b k)) ≡ (k == 0)
colored_down zs c b zero f h = refl
colored_down zs c b (suc k) f h = let one = h (b + k) (omega arith) (omega arith) in
    grind (arith, nat_tests, colored_append zs c (f (b + k)) (flat_map f (down b k)))

flags_replicate : (u : Kin) (k : ℕ) (xs : List Kin) → u.children ≡ [] → color_flags_of (replicate k u ++ xs) ≡ replicate k true ++ color_flags_of xs
flags_replicate u zero xs e = refl
flags_replicate u (suc k) xs e =
    let ih = flags_replicate u k xs e in
    let own = down_bare u (replicate k u ++ xs) e in
    let here = item_last (record { children = []; color = 0 }) u (replicate k u ++ xs) _ refl in
    grind (arith, nat_tests)

pub flags_step : (new u : Kin) (more : ℕ) (xs : List Kin) (taken : List ℕ) → u.children ≡ [] → u.color ≡ 4294967295 →
    new.color < 4294967295 → new.children ≡ down (length xs) more ++ reverse taken → All (λ i. i < length xs) taken →
    color_flags_of (new ∷ (replicate more u ++ xs)) ≡ ((more == 0) && are_alike (item false (color_flags_of xs))
    (λ i. (kin_at xs i).color) new.color taken) ∷ (replicate more true ++ color_flags_of xs)
flags_step new u more xs taken e v l d h =
    let ys = replicate more u ++ xs in
    let zs = new ∷ ys in
    let c = new.color in
    let none : Kin = record { children = []; color = 0 } in
    let here : kin_at zs (length ys) ≡ new = cond-true _ _ _ (eq-eqb (length ys) (length ys) refl) in
    let old : (i : ℕ) → i < length xs → kin_at zs i ≡ kin_at xs i = λ i b. at_old none new u more xs i b in
    let one : are_colored zs c (flat_map (downwards ys) (down (length xs) more)) ≡ (more == 0) =
    colored_down zs c (length xs) more (downwards ys) (λ i a b. ap (are_colored zs c) (down_more u more xs i e a b) ∙
    ap (λ x. x && true) (ap (λ (k : Kin). k.color == c) (at_more none new u more xs i a b) ∙ ne_eqb u.color c (λ w. omega arith))) in
    let two : are_colored zs c (flat_map (downwards ys) (reverse taken)) ≡ are_alike (item false (color_flags_of xs))
    (λ i. (kin_at xs i).color) c taken = colored_gather zs c (downwards ys) (item false (color_flags_of xs)) (λ i. (kin_at xs i).color)
    (reverse taken) (length xs)
    (all_reverse (λ i. i < length xs) taken h)
    (λ i b. ap (are_colored zs c) (down_old u more xs i b) ∙ (colored_same zs xs c (length xs) (downwards xs i) (down_below xs i) old ∙ alike xs c i b)) ∙
    alike_reverse (item false (color_flags_of xs)) (λ i. (kin_at xs i).color) c taken in
    let kids = ap (λ x. are_colored zs c (flat_map (downwards ys) x)) d ∙
    ap (are_colored zs c) (flat_map-append (downwards ys) (down (length xs) more) (reverse taken)) in
    let own = ap (are_colored zs c) (down_own new ys) ∙ colored_append zs c (flat_map (downwards ys) new.children) (length ys ∷ []) in
    let parts = colored_append zs c (flat_map (downwards ys) (down (length xs) more)) (flat_map (downwards ys) (reverse taken)) in
    ap₂ (λ x y. x ∷ y) (grind (arith, nat_tests)) (flags_replicate u more xs e)
