-- The block that the function finds is the one of the relation.
use Rattle.std.proofs.Common.{◌≡◌, ℕ, zero, suc, ◌+◌, ◌<◌, ◌≤◌, inl, inr, List, length, Option, Some, None, true, false, refl, sym, ap, ap₂, ◌∙◌, arith}
use Rattle.std.specs.Prelude.{slice_get}
use Rattle.std.proofs.lemmas.Bool.{both_ways, cases_Bool, cases_eq, cases_lt, false_from_ne_true}
use Rattle.std.proofs.lemmas.Option.{slice_get_cases}
use Rattle.wasm_code.specs.Operator.{is_delimiter}
use Rattle.wasm_code.specs.declared.operator.Operator.{Operator}
use Rattle.peephole_graphs.specs.Block.{BlockRange, HasNoDelimiter, IsBlockIn, IsBlockOf, delimits, is_delimiter_of, block_start, block_at}
use Rattle.peephole_graphs.specs.Block.{FindsTheBlock, FindsNoBlock}

abbrev Operators : Type 0
Operators = List (Operator × ℕ)

-- what stands at a place that delimits
some_of : (found : Option (Operator × ℕ)) → is_delimiter_of found ≡ true → (o : Operator × ℕ) × (found ≡ Some o) × (is_delimiter o.0 ≡ true)
some_of None h = cc
some_of (Some o) h = (o, refl, h)

not_delimiter : (found : Option (Operator × ℕ)) (o : Operator × ℕ) → is_delimiter_of found ≡ false → found ≡ Some o → is_delimiter o.0 ≡ false
not_delimiter found o h e = let k : is_delimiter_of found ≡ is_delimiter o.0 = ap is_delimiter_of e in cc

-- no delimiter from the start on
start_none : (os : Operators) (n k : ℕ) (o : Operator × ℕ) → block_start os n ≤ k → k < n → slice_get os k ≡ Some o → is_delimiter o.0 ≡ false
start_none os zero k o a b e = absurd (omega arith)
start_none os (suc n) k o a b e = elim (cases_Bool (delimits os n)) [
  | inl d ↦ let late = rw d at a in absurd (omega arith)
  | inr d ↦ elim (cases_eq k n) [
    | inl same ↦ not_delimiter (slice_get os n) o d (rw same at e)
    | inr other ↦ start_none os n k o (rw d at a) (omega arith) e
  ]
]

start_within : (os : Operators) (n : ℕ) → block_start os n ≤ n
start_within os zero = omega arith
start_within os (suc n) = grind (arith, start_within os n)

-- and no earlier start has none
start_least : (os : Operators) (n from : ℕ) → from ≤ n → HasNoDelimiter os from n → block_start os n ≤ from
start_least os zero from l h = omega arith
start_least os (suc n) from l h = elim (cases_eq from (suc n)) [
  | inl same ↦ let within = start_within os (suc n) in omega arith
  | inr other ↦ elim (cases_Bool (delimits os n)) [
    | inl d ↦ let found = some_of (slice_get os n) d in absurd (both_ways _ (h n found.0 (omega arith) (omega arith) found.1) found.2)
    | inr d ↦ rw d (start_least os n from (omega arith) (λ k o a b. h k o a (omega arith)))
  ]
]

get_some : (os : Operators) (n : ℕ) → n < length os → (o : Operator × ℕ) × (slice_get os n ≡ Some o)
get_some os n l = elim (slice_get_cases os n).1 [ inl h ↦ (h.0, h.2) | inr h ↦ let past = h.0 in absurd (omega arith) ]

free : (os : Operators) (n : ℕ) → ((o : Operator × ℕ) → slice_get os n ≡ Some o → is_delimiter o.0 ≡ false) → delimits os n ≡ false
free os n h = false_from_ne_true (delimits os n) (λ d. let found = some_of (slice_get os n) d in both_ways _ (h found.0 found.1) found.2)

same_start : (os : Operators) (n : ℕ) → delimits os n ≡ false → block_start os (suc n) ≡ block_start os n
same_start os n h = rw h

-- the block of an operator that is there
pub block_is_in : (os : Operators) (n : ℕ) (b : BlockRange) → n < length os → IsBlockOf os n b.start b.end → IsBlockIn os b
block_is_in os n b inside h = record {
  some = omega (arith, h.some, h.last);
  inside = omega (arith, inside, h.last);
  none = h.none;
}

-- ---- the function and the relation

abbrev range : ℕ → ℕ → BlockRange
range start end = record { start = start; end = end }

is_found : (os : Operators) (n : ℕ) (b : BlockRange) → IsBlockOf os n b.start b.end → block_at os n ≡ Some b
is_found os n b h =
    let last = h.last in
    let some = h.some in
    let d : delimits os n ≡ false = free os n (λ o k. h.none n o some (omega arith) k) in
    let w : n + 1 ≡ suc n = omega arith in
    let same : block_start os (suc n) ≡ block_start os n = same_start os n d in
    let least : block_start os n ≤ b.start = start_least os n b.start some (λ k o a g. h.none k o a (omega arith)) in
    let most : b.start ≤ block_start os n = h.longest (block_start os n) (λ k o a g. start_none os (suc n) k o (omega arith)
    (omega arith)) in
    let start : block_start os n ≡ b.start = omega arith in
    rw d (ap₂ (λ s e. Some (range s e)) start (sym last))

-- the block of an operator that is no delimiter
start_block : (os : Operators) (n : ℕ) → delimits os n ≡ false → IsBlockOf os n (block_start os n) (n + 1)
start_block os n d =
    let same = same_start os n d in
    let within = start_within os n in
    record {
      last = refl;
      some = within;
      none = λ k o a g e. start_none os (suc n) k o (omega arith) (omega arith) e;
      longest = λ from h. elim (cases_lt n from) [
        | inr below ↦ start_least os n from below (λ k o a g. h k o a (omega arith))
        | inl above ↦ omega arith
      ];
    }

found_is : (os : Operators) (n : ℕ) (b : BlockRange) → block_at os n ≡ Some b → IsBlockOf os n b.start b.end
found_is os n b e = elim (cases_Bool (delimits os n)) [
  | inl d ↦ let none = rw d at e in absurd cc
  | inr d ↦
      let some = rw d at e in
      let same : b ≡ range (block_start os n) (n + 1) = cc in
      rw same (start_block os n d)
]

pub finds_the_block : FindsTheBlock
finds_the_block os n b = (found_is os n b, is_found os n b)

pub finds_no_block : FindsNoBlock
finds_no_block os n l = (
  λ e o at. elim (cases_Bool (delimits os n)) [ inl d ↦ sym (ap is_delimiter_of at) ∙ d | inr d ↦ let some = rw d at e in absurd cc ],
  λ h. let found = get_some os n l in let d : delimits os n ≡ true = ap is_delimiter_of found.1 ∙ h found.0 found.1 in rw d,
)
