-- Where a line of the table stands among the lines of its constants.
use Rattle.std.proofs.Common.{◌≡◌, ℕ, zero, suc, ◌+◌, ◌-◌, ◌<◌, ◌≤◌, List, [], ◌∷◌, ◌++◌, None, length, get_or, drop, refl, sym, ap, subst, ◌∙◌, arith}
use Rattle.std.proofs.Common.{Bool, true, false}
use Rattle.std.specs.Prelude.{slice_get}
use Rattle.std.proofs.Math.Dec.{ltb}
use Rattle.std.proofs.lemmas.Bool.{ltb-true, ltb-false}
use Rattle.std.proofs.lemmas.List.{append-nil}
use Rattle.rewrite_rules.specs.declared.lines.TheConstants.{STARTS}
use Rattle.rewrite_rules.specs.Table.{Entry, parts, part_at, joined, entries}

-- ---- one constant

-- none stands behind the last one
none_past : (lists : List (List Entry)) (part n : ℕ) → length lists ≤ part → None ≡ slice_get (get_or lists part []) n
none_past [] part n l = refl
none_past (es ∷ lists) zero n l = absurd (omega arith)
none_past (es ∷ lists) (suc part) n l = none_past lists part n (omega arith)

pub elsewhere : (part n : ℕ) → 84 ≤ part → None ≡ slice_get (part_at part) n
unfolding parts
elsewhere part n l = none_past parts part n l

-- ---- one behind another

before : (es ds : List Entry) (n : ℕ) → n < length es → slice_get (es ++ ds) n ≡ slice_get es n
before [] ds n l = absurd (omega arith)
before (e ∷ es) ds zero l = refl
before (e ∷ es) ds (suc n) l = before es ds n (omega arith)

after : (es ds : List Entry) (n : ℕ) → length es ≤ n → slice_get (es ++ ds) n ≡ slice_get ds (n - length es)
after [] ds n l = let e : n ≡ n - 0 = omega arith in ap (slice_get ds) e
after (e ∷ es) ds zero l = absurd (omega arith)
after (e ∷ es) ds (suc n) l = let m : n - length es ≡ suc n - suc (length es) = omega arith in after es ds n (omega arith) ∙ ap (slice_get ds) m

among : (lists : List (List Entry)) (part n : ℕ) → n < length (get_or lists part []) →
    slice_get (joined (drop part lists)) n ≡ slice_get (get_or lists part []) n
among [] part n l = absurd (omega arith)
among (es ∷ lists) zero n l = before es (joined lists) n l
among (es ∷ lists) (suc part) n l = among lists part n l

among_last : (lists : List (List Entry)) (part n : ℕ) → suc part ≡ length lists →
    slice_get (joined (drop part lists)) n ≡ slice_get (get_or lists part []) n
among_last [] part n l = absurd (omega arith)
among_last (es ∷ []) zero n l = ap (λ ds. slice_get ds n) (append-nil es)
among_last (es ∷ ds ∷ lists) zero n l = absurd (omega arith)
among_last (es ∷ lists) (suc part) n l = among_last lists part n (omega arith)

-- ---- where each begins

abbrev starts : ℕ → List (List Entry) → List ℕ
starts s [] = []
starts s (es ∷ lists) = s ∷ starts (s + length es) lists

from_on : (lists : List (List Entry)) (s part : ℕ) → part < length lists → s ≤ get_or (starts s lists) part 0
from_on [] s part l = absurd (omega arith)
from_on (es ∷ lists) s zero l = omega arith
from_on (es ∷ lists) s (suc part) l =
    let e : s + length es ≤ get_or (starts (s + length es) lists) part 0 = from_on lists (s + length es) part (omega arith) in omega arith

next : (lists : List (List Entry)) (s part : ℕ) → suc part < length lists →
    get_or (starts s lists) (suc part) 0 ≡ get_or (starts s lists) part 0 + length (get_or lists part [])
next [] s part l = absurd (omega arith)
next (es ∷ []) s part l = absurd (omega arith)
next (es ∷ ds ∷ lists) s zero l = refl
next (es ∷ ds ∷ lists) s (suc part) l = next (ds ∷ lists) (s + length es) part (omega arith)

behind : (lists : List (List Entry)) (s part n : ℕ) → part < length lists → get_or (starts s lists) part 0 ≤ n →
    slice_get (joined lists) (n - s) ≡ slice_get (joined (drop part lists)) (n - get_or (starts s lists) part 0)
behind [] s part n l k = absurd (omega arith)
behind (es ∷ lists) s zero n l k = refl
behind (es ∷ lists) s (suc part) n l k =
    let e : s + length es ≤ get_or (starts (s + length es) lists) part 0 = from_on lists (s + length es) part (omega arith) in
    let m : n - s - length es ≡ n - (s + length es) = omega arith in
    after es (joined lists) (n - s) (omega arith) ∙ (ap (slice_get (joined lists)) m ∙ behind lists (s + length es) part n (omega arith) k)

found_in : (lists : List (List Entry)) (part n : ℕ) → part < length lists → get_or (starts 0 lists) part 0 ≤ n →
    ((after : ℕ) → after ≡ part + 1 → after < length lists → n < get_or (starts 0 lists) after 0) →
    slice_get (get_or lists part []) (n - get_or (starts 0 lists) part 0) ≡ slice_get (joined lists) n
found_in lists part n l begins ends = sym (ap (slice_get (joined lists)) e ∙ (behind lists 0 part n l begins ∙ go (ltb (suc part) (length lists)) refl))
  where
    e : n ≡ n - 0
    e = omega arith

    go : (b : Bool) → ltb (suc part) (length lists) ≡ b →
        slice_get (joined (drop part lists)) (n - get_or (starts 0 lists) part 0) ≡ slice_get (get_or lists part []) (n - get_or (starts 0 lists) part 0)
    go true h =
        let f : suc part < length lists = ltb-true (suc part) (length lists) h in
        let k : n < get_or (starts 0 lists) (suc part) 0 = ends (suc part) (omega arith) f in
        let o : get_or (starts 0 lists) (suc part) 0 ≡ get_or (starts 0 lists) part 0 + length (get_or lists part []) = next lists 0 part f in
        among lists part (n - get_or (starts 0 lists) part 0) (omega arith)
    go false h =
        let f : length lists ≤ suc part = ltb-false (suc part) (length lists) h in
        among_last lists part (n - get_or (starts 0 lists) part 0) (omega arith)

-- ---- in the table

-- the code's beginnings
same_starts : STARTS ≡ starts 0 parts
unfolding parts
same_starts = refl

so_many : length STARTS ≡ length parts
unfolding parts
so_many = refl

pub found : (part n : ℕ) → part < length STARTS → get_or STARTS part 0 ≤ n →
    ((after : ℕ) → after ≡ part + 1 → after < length STARTS → n < get_or STARTS after 0) →
    slice_get (part_at part) (n - get_or STARTS part 0) ≡ slice_get entries n
found part n inside begins ends =
    subst
    (λ ns. get_or ns part 0 ≤ n → ((after : ℕ) → after ≡ part + 1 → after < length parts → n < get_or ns after 0) →
    slice_get (part_at part) (n - get_or ns part 0) ≡ slice_get entries n)
    (sym same_starts) (found_in parts part n (subst (λ m. part < m) so_many inside)) begins
    (λ after is l. ends after is (subst (λ m. after < m) (sym so_many) l))
