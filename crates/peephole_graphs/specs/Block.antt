-- The basic block of an operator, as a relation and as a function. Which operators are delimiters is this project's rule.
use Rattle.std.specs.Prelude.{ℕ, zero, suc, ◌+◌, ◌<◌, ◌≤◌, ◌≡◌, ◌↔◌, Bool, false, true, List, length, Option, Some, None, slice_get, if◌then◌else◌}
use Rattle.wasm_code.specs.Operator.{is_delimiter}
use Rattle.wasm_code.specs.declared.operator.Operator.{Operator}

-- A block as the range of its operators, the one at `end` no longer of it.
pub record BlockRange : Type 0 where
  pub start : ℕ
  pub end : ℕ

-- the operator there is a delimiter
abbrev pub IsDelimiterAt : List (Operator × ℕ) → ℕ → Type 0
IsDelimiterAt operators k = (o : Operator × ℕ) → slice_get operators k ≡ Some o → is_delimiter o.0 ≡ true

-- none of the operators of the range is a delimiter
abbrev pub HasNoDelimiter : List (Operator × ℕ) → ℕ → ℕ → Type 0
HasNoDelimiter operators start end = (k : ℕ) (o : Operator × ℕ) → start ≤ k → k < end → slice_get operators k ≡ Some o → is_delimiter o.0 ≡ false

-- A range of a body's operators, one at least, none of which is a delimiter.
pub record IsBlockIn (operators : List (Operator × ℕ)) (block : BlockRange) : Type 0 where
  pub some : block.start < block.end
  pub inside : block.end ≤ length operators
  pub none : HasNoDelimiter operators block.start block.end

-- the longest range of operators that ends with the one at the index and holds no delimiter
pub record IsBlockOf (operators : List (Operator × ℕ)) (index start end : ℕ) : Type 0 where
  pub last : end ≡ index + 1
  pub some : start ≤ index
  pub none : HasNoDelimiter operators start end
  pub longest : (from : ℕ) → HasNoDelimiter operators from end → start ≤ from

-- ---- the same as a function

-- whether the operator with an index is a delimiter
abbrev pub is_delimiter_of : Option (Operator × ℕ) → Bool
is_delimiter_of None = false
is_delimiter_of (Some o) = is_delimiter o.0

-- whether there is an operator with the index, and it is a delimiter
abbrev pub delimits : List (Operator × ℕ) → ℕ → Bool
delimits operators n = is_delimiter_of (slice_get operators n)

-- the index behind the last delimiter before the operator n
abbrev pub block_start : List (Operator × ℕ) → ℕ → ℕ
block_start operators zero = 0
block_start operators (suc n) = if delimits operators n then suc n else block_start operators n

-- the block of the operator n, which a delimiter does not have
abbrev pub block_at : List (Operator × ℕ) → ℕ → Option BlockRange
block_at operators n = if delimits operators n then None else Some (record { start = block_start operators n; end = n + 1 })

-- the function finds exactly the block of the relation
abbrev pub FindsTheBlock : Type 0
FindsTheBlock = (operators : List (Operator × ℕ)) (n : ℕ) (b : BlockRange) → (block_at operators n ≡ Some b) ↔ IsBlockOf operators n b.start b.end

-- it finds none exactly where the operator is a delimiter
abbrev pub FindsNoBlock : Type 0
FindsNoBlock = (operators : List (Operator × ℕ)) (n : ℕ) → n < length operators → (block_at operators n ≡ None) ↔ IsDelimiterAt operators n
