-- The bytes of a body's operators are their spellings, which stand in the input one behind another.
use Rattle.std.proofs.Common.{◌≡◌, ℕ, ◌+◌, ◌-◌, ◌<◌, ◌≤◌, List, [], ◌∷◌, ◌++◌, length, take, drop, IsTrue, refl, sym, ap, ap₂, subst, ◌∙◌, append_assoc}
use Rattle.std.proofs.Common.{append-nil, arith}
use Rattle.std.specs.Prelude.{slice_range}
use Rattle.std.proofs.Math.Seq.{take-add}
use Rattle.std.proofs.lemmas.List.{drop-drop, drop_at, take_at, take_all, take-append-drop, length-append, length-drop}
use Rattle.wasm_code.specs.Body.{AreSpelled, bytes_of, with_offsets, ends}
use Rattle.wasm_code.specs.declared.operator.Operator.{Operator}
use Rattle.body_splices.specs.OwnBytes.{own_bytes, IsBodyIn}
use Rattle.body_splices.specs.Putting.{offset_of}
use Rattle.body_splices.specs.Splice.{IsRangeIn}
use Rattle.body_splices.specs.Laws.{OwnBytesAreTheBody}
use Rattle.body_splices.proofs.SpellingLemmas.{Spelling, spellings_of, joined_parts, bytes_of-append, length-with_offsets, offset_placed}
use Rattle.body_splices.proofs.SpellingLemmas.{ends_with, ends_placed, end_spelling, last_size}

-- ---- bytes in an input

-- bytes that begin there
begin_there : (input front back : List ℕ) (from to : ℕ) → drop from input ≡ front ++ back → to ≡ from + length front → slice_range input from to ≡ front
begin_there input front back from to there at =
    let size : to - from ≡ length front = omega (arith, at) in
    ap₂ (λ (k : ℕ) (xs : List ℕ). take k xs) size there ∙ take_at front back (length front) refl

-- those behind them
behind_there : (input front back : List ℕ) (from : ℕ) → drop from input ≡ front ++ back → drop (from + length front) input ≡ back
behind_there input front back from there =
    sym (drop-drop (length front) from input) ∙ (ap (drop (length front)) there ∙ drop_at front back (length front) refl)

-- ---- spellings in an input

pub own_there : (input rest : List ℕ) (from : ℕ) (ps : List Spelling) → AreSpelled ps → IsTrue (ends_with ps) → drop from input ≡ bytes_of ps ++ rest →
    own_bytes input (with_offsets from ps) ≡ ps
own_there input rest from [] each last there = absurd (let none : IsTrue (ends_with []) = last in cc)
own_there input rest from (p ∷ []) each last there =
    let one = end_spelling p.0 p.1 last each.0 in
    let begins : drop from input ≡ p.1 ++ rest = there ∙ ap (λ (xs : List ℕ). xs ++ rest) (append-nil p.1) in
    ap (λ (xs : List ℕ). (p.0, xs) ∷ []) (begin_there input p.1 rest from (from + 1) begins (omega (arith, one)))
own_there input rest from (p ∷ q ∷ ps) each last there =
    let later = bytes_of (q ∷ ps) in
    let begins : drop from input ≡ p.1 ++ (later ++ rest) = there ∙ append_assoc p.1 later rest in
    ap₂ (λ (xs : List ℕ) (qs : List Spelling). (p.0, xs) ∷ qs) (begin_there input p.1 (later ++ rest) from (from + length p.1) begins refl)
    (own_there input rest (from + length p.1) (q ∷ ps) each.1 last (behind_there input p.1 (later ++ rest) from begins))

-- the first ones, and those of a range
pub range_behind : {A : Type 0} (ps : List A) (i j : ℕ) → i ≤ j → take j ps ≡ take i ps ++ slice_range ps i j
range_behind ps i j l = let e : j ≡ i + (j - i) = omega arith in ap (λ (k : ℕ). take k ps) e ∙ take-add i (j - i) ps

-- where they end
range_ends : (ps : List Spelling) (i j : ℕ) → i ≤ j →
    length (bytes_of (take j ps)) ≡ length (bytes_of (take i ps)) + length (bytes_of (slice_range ps i j))
range_ends ps i j l =
    ap (λ (qs : List Spelling). length (bytes_of qs)) (range_behind ps i j l)
    ∙ (ap (λ (t : List ℕ). length t) (bytes_of-append (take i ps) (slice_range ps i j)) ∙ length-append (bytes_of (take i ps)) (bytes_of (slice_range ps i j)))

-- a range of them
part_there : (input rest : List ℕ) (from : ℕ) (ps : List Spelling) (i j : ℕ) → i ≤ j → drop from input ≡ bytes_of ps ++ rest →
    slice_range input (from + length (bytes_of (take i ps))) (from + length (bytes_of (take j ps))) ≡ bytes_of (slice_range ps i j)
part_there input rest from ps i j l there =
    let front = bytes_of (take i ps) in
    let part = bytes_of (slice_range ps i j) in
    let back = bytes_of (drop j ps) ++ rest in
    let ends = range_ends ps i j l in
    let begins : bytes_of (take j ps) ≡ front ++ part = ap bytes_of (range_behind ps i j l) ∙ bytes_of-append (take i ps) (slice_range ps i j) in
    let parts : bytes_of ps ++ rest ≡ front ++ (part ++ back) =
    ap (λ (xs : List ℕ). xs ++ rest) (joined_parts j ps) ∙ (append_assoc (bytes_of (take j ps)) (bytes_of (drop j ps)) rest
    ∙ (ap (λ (xs : List ℕ). xs ++ back) begins ∙ append_assoc front part back)) in
    begin_there input part back (from + length front) (from + length (bytes_of (take j ps)))
    (behind_there input front (part ++ back) from (there ∙ parts)) (omega (arith, ends))

-- ---- a body in an input

-- The operators have these spellings, which are the input's bytes from one offset up to another.
pub record IsSpelled (input : List ℕ) (operators : List (Operator × ℕ)) (from to : ℕ) (ps : List Spelling) : Type 0 where
  pub each : AreSpelled ps
  pub last : IsTrue (ends_with ps)
  pub read : with_offsets from ps ≡ operators
  pub whole : bytes_of ps ≡ slice_range input from to

-- what stands behind them
abbrev rest_in : List ℕ → (from to : ℕ) → List ℕ
rest_in input from to = drop (to - from) (drop from input)

there_in : (input : List ℕ) (from to : ℕ) (ps : List Spelling) → bytes_of ps ≡ slice_range input from to →
    drop from input ≡ bytes_of ps ++ rest_in input from to
there_in input from to ps whole =
    sym (take-append-drop (to - from) (drop from input)) ∙ ap (λ (xs : List ℕ). xs ++ rest_in input from to) (sym whole)

-- the bytes of a body's operators are such
pub is_spelled : (input : List ℕ) (operators : List (Operator × ℕ)) (b : IsBodyIn input operators) →
    IsSpelled input operators b.from b.to (own_bytes input operators)
is_spelled input operators b =
    let h = spellings_of operators b.from (slice_range input b.from b.to) b.spells.all in
    let ps = h.spellings in
    let last : IsTrue (ends_with ps) = sym (ap ends (sym h.read) ∙ ends_placed b.from ps) ∙ b.spells.last in
    let own : own_bytes input operators ≡ ps =
    ap (own_bytes input) (sym h.read) ∙ own_there input (rest_in input b.from b.to) b.from ps h.each last (there_in input b.from b.to ps h.whole) in
    subst (IsSpelled input operators b.from b.to) (sym own) (record { each = h.each; last = last; read = h.read; whole = h.whole })

pub own_whole : OwnBytesAreTheBody
own_whole input operators body = (is_spelled input operators body).whole

module _ {input : List ℕ} {operators : List (Operator × ℕ)} (body : IsBodyIn input operators) where
  abbrev own : List Spelling
  own = own_bytes input operators

  abbrev rest : List ℕ
  rest = rest_in input body.from body.to

  abbrev is : IsSpelled input operators body.from body.to own
  is = is_spelled input operators body

  there : drop body.from input ≡ bytes_of own ++ rest
  there = there_in input body.from body.to own is.whole

  pub count_is : length operators ≡ length own
  count_is = ap (λ (xs : List (Operator × ℕ)). length xs) (sym is.read) ∙ length-with_offsets body.from own

  starts_at : (i : ℕ) → i < length operators → offset_of operators i ≡ body.from + length (bytes_of (take i own))
  starts_at i l = let n = count_is in ap (λ (xs : List (Operator × ℕ)). offset_of xs i) (sym is.read) ∙ offset_placed body.from own i (omega arith)

  -- behind the last one
  ends_at : 0 < length operators → offset_of operators (length operators - 1) + 1 ≡ body.from + length (bytes_of (take (length operators) own))
  ends_at l =
      let n = count_is in
      let all : take (length operators) own ≡ own = take_all (length operators) own (omega arith) in
      let size = ap (λ (qs : List Spelling). length (bytes_of qs)) all in
      let before = ap (λ (k : ℕ). length (bytes_of (take (k - 1) own))) n in
      omega (arith, starts_at (length operators - 1) (omega arith), last_size own is.each is.last)

  room : (i : ℕ) → body.from + length (bytes_of (take i own)) ≤ length input
  room i =
      let size = ap (λ (t : List ℕ). length t) there in
      let parts = ap (λ (t : List ℕ). length t) (joined_parts i own) in
      let ordered = body.ordered in
      let inside = body.inside in
      omega (
        arith,
        length-drop body.from input,
        length-append (bytes_of own) rest,
        length-append (bytes_of (take i own)) (bytes_of (drop i own)),
      )

  module _ {start end : ℕ} (range : IsRangeIn operators start end) where
    -- the bytes of a range are there
    pub between_ordered : offset_of operators start ≤ offset_of operators end
    between_ordered =
        let l = range.ordered in
        let m = range.inside in
        omega (arith, starts_at start (omega arith), starts_at end m, range_ends own start end l)

    pub between_inside : offset_of operators end ≤ length input
    between_inside = let m = range.inside in omega (arith, starts_at end m, room end)

    pub between : slice_range input (offset_of operators start) (offset_of operators end) ≡ bytes_of (slice_range own start end)
    between =
        let l = range.ordered in
        let m = range.inside in
        ap₂ (slice_range input) (starts_at start (omega arith)) (starts_at end m) ∙ part_there input rest body.from own start end l there

  module _ {start : ℕ} (l : start < length operators) where
    -- and those of the operators from one on
    pub from_ordered : offset_of operators start ≤ offset_of operators (length operators - 1) + 1
    from_ordered = omega (arith, starts_at start l, ends_at (omega arith), range_ends own start (length operators) (omega arith))

    pub from_inside : offset_of operators (length operators - 1) + 1 ≤ length input
    from_inside = omega (arith, ends_at (omega arith), room (length operators))

    pub all_from : slice_range input (offset_of operators start) (offset_of operators (length operators - 1) + 1) ≡ bytes_of (drop start own)
    all_from =
        let n = count_is in
        let whole : slice_range own start (length operators) ≡ drop start own =
        take_all (length operators - start) (drop start own) (omega (arith, length-drop start own)) in
        ap₂ (slice_range input) (starts_at start l) (ends_at (omega arith))
        ∙ (part_there input rest body.from own start (length operators) (omega arith) there ∙ ap bytes_of whole)
