-- Blocks of a function, and what is told of them.
use Rattle.std.proofs.Common.{◌≡◌, ◌⊎◌, ℕ, ◌+◌, ◌-◌, ◌<◌, ◌≤◌, inl, inr, List, [], length, true, false, refl, sym, ap, ◌∙◌, subst, arith}
use Rattle.std.specs.Prelude.{slice_get}
use Rattle.std.proofs.lemmas.Bool.{cases_Bool, both_ways, cases_eq, cases_lt}
use Rattle.std.proofs.lemmas.Option.{slice_get_cases}
use Rattle.wasm_code.specs.declared.operator.Operator.{Operator}
use Rattle.module_commands.specs.Blocks.{HasNoDelimiter, IsBlock, TellsBlock, delimits, is_delimiter_of}
use Rattle.module_commands.specs.Lines.{block_line_in_form}
use Rattle.module_options.specs.declared.form.Form.{Form}

abbrev Operators : Type 0
Operators = List (Operator × ℕ)

-- no block goes on behind the operator n
abbrev Stops : Operators → ℕ → Type 0
Stops operators n = (n + 1 ≡ length operators) ⊎ (delimits operators (n + 1) ≡ true)

-- a range without a delimiter that goes up to the operator n ends behind it
stops_at : (operators : Operators) (n from to : ℕ) → from ≤ n → n + 1 ≤ to → to ≤ length operators → HasNoDelimiter operators from to → Stops operators n →
    to ≡ n + 1
stops_at operators n from to low high inside none (inl whole) = omega (arith, whole, inside, high)
stops_at operators n from to low high inside none (inr delimiter) = elim (cases_eq to (n + 1)) [
  | inl e ↦ e
  | inr other ↦ elim (slice_get_cases operators (n + 1)).1 [
    | inl x ↦
        let more : n + 1 < to = omega (arith, high, other) in
        let here : from ≤ n + 1 = omega (arith, low) in
        absurd (both_ways (delimits operators (n + 1)) (ap is_delimiter_of x.2 ∙ none (n + 1) x.0 here more x.2) delimiter)
    | inr past ↦ omega (arith, past.0, inside, high, other)
  ]
]

-- where the operator that stands there is no delimiter, none of the range is that begins one before
pub one_more : (operators : Operators) (start end : ℕ) → 0 < start → delimits operators (start - 1) ≡ false → HasNoDelimiter operators start end →
    HasNoDelimiter operators (start - 1) end
one_more operators start end some passed h k o low high is = elim (cases_eq k (start - 1)) [
  | inl e ↦ ap is_delimiter_of (sym is ∙ ap (slice_get operators) e) ∙ passed
  | inr other ↦ h k o (omega (arith, some, low, other)) high is
]

-- the block whose last operator is the n-th, which is no delimiter, and behind which none goes on
pub block_of : (operators : Operators) (n start : ℕ) → n < length operators → delimits operators n ≡ false → Stops operators n →
    HasNoDelimiter operators start (n + 1) → ((from : ℕ) → HasNoDelimiter operators from (n + 1) → start ≤ from) → IsBlock operators start (n + 1)
block_of operators n start inside passed stops none least = record {
  range = record { some = omega (arith, some); inside = omega (arith, inside); none = none };
  longest = λ from to low high r.
      let begins : start ≤ from = least from (λ k o a b is. r.none k o a (omega (arith, b, high)) is) in
      let within : from ≤ n = omega (arith, low, some) in (
        omega (arith, low, begins),
        stops_at operators n from to within high r.inside r.none stops,
      );
}
  where
    own : HasNoDelimiter operators n (n + 1)
    own k o a b is =
        let here : k ≡ n = omega (arith, a, b) in
        ap is_delimiter_of (sym is ∙ ap (slice_get operators) here) ∙ passed

    some : start ≤ n
    some = least n own

-- where a block ends with the operator n, that is no delimiter, and no block goes on behind it
pub ends_of : (operators : Operators) (n start : ℕ) → n < length operators → IsBlock operators start (n + 1) →
    (delimits operators n ≡ false) × ((n + 1 ≡ length operators) ⊎ (delimits operators (n + 1) ≡ true))
ends_of operators n start inside h = (own, next)
  where
    low : start ≤ n
    low = let some = h.range.some in omega (arith, some)

    own : delimits operators n ≡ false
    own = elim (slice_get_cases operators n).1 [
      | inl x ↦ ap is_delimiter_of x.2 ∙ h.range.none n x.0 low (omega arith) x.2
      | inr past ↦ absurd (omega (arith, past.0, inside))
    ]

    more : delimits operators (n + 1) ≡ false → HasNoDelimiter operators start (n + 2)
    more passed k o a b is = elim (cases_eq k (n + 1)) [
      | inl e ↦ ap is_delimiter_of (sym is ∙ ap (slice_get operators) e) ∙ passed
      | inr other ↦ h.range.none k o a (omega (arith, b, other)) is
    ]

    next : (n + 1 ≡ length operators) ⊎ (delimits operators (n + 1) ≡ true)
    next = elim (cases_eq (n + 1) (length operators)) [
      | inl e ↦ inl e
      | inr other ↦ elim (cases_Bool (delimits operators (n + 1))) [
        | inl delimiter ↦ inr delimiter
        | inr passed ↦
            let longer = h.longest start (n + 2) (omega arith) (omega arith)
            (record { some = omega (arith, low); inside = omega (arith, inside, other); none = more passed }) in
            absurd (omega (arith, longer.1))
      ]
    ]

-- one block alone ends there
same_start : (operators : Operators) (a b end : ℕ) → IsBlock operators a end → IsBlock operators b end → a ≡ b
same_start operators a b end h k = elim (cases_lt b a) [
  | inl less ↦ sym (h.longest b end (omega (arith, less)) (omega arith) k.range).0
  | inr least ↦ (k.longest a end least (omega arith) h.range).0
]

-- the line of a block
pub tells_block : (form : Form) (function : ℕ) (operators : Operators) (n start : ℕ) (text : List ℕ) → IsBlock operators start (n + 1) →
    text ≡ block_line_in_form form (record { function = function; start = start; end = n + 1 }) → TellsBlock form function operators n text
tells_block form function operators n start text block is = record {
  block = λ other h. subst (λ (s : ℕ). text ≡ block_line_in_form form (record { function = function; start = s; end = n + 1 }))
      (same_start operators start other (n + 1) block h) is;
  none = λ never. absurd (never start block);
}

-- no line
pub tells_none : (form : Form) (function : ℕ) (operators : Operators) (n : ℕ) → ((start : ℕ) → ¬ (IsBlock operators start (n + 1))) →
    TellsBlock form function operators n []
tells_none form function operators n never = record { block = λ start h. absurd (never start h); none = λ _. refl }
