-- What options ask for (this project).
use Rattle.std.specs.Prelude.{◌≡◌, ◌≢◌, ◌⊎◌, ℕ, ◌<◌, ◌≤◌, ◌+◌, ◌-◌, ◌*◌, ◌/◌, ◌%◌, ◌^◌, min, Bool, true, eqb, not, ◌||◌, bit_and, IsTrue}
use Rattle.std.specs.Prelude.{List, length, Option, Some, None, if◌then◌else◌, slice_get}
use Rattle.std.specs.List.{filter, list_all}
use Rattle.std.specs.Option.{unwrap_or}
use Rattle.rewrite_rules.specs.Names.{names}
use Rattle.rewrite_rules.specs.Rule.{rule_number}
use Rattle.rewrite_rules.specs.declared.rule.Rule.{Rule}
use Rattle.module_rewrites.specs.declared.dose.Dose.{Dose}
use Rattle.module_rewrites.specs.declared.dose.Dose.TheVariants.{Times, Percent}
use Rattle.teddertempo_c.specs.Rules.{every_rule}
use Rattle.teddertempo_c.specs.declared.options.Options.{Options}
use Rattle.teddertempo_c.specs.declared.options.TheConstants.{FLAGS, NO_GROWTH}

-- all words are 0
abbrev pub are_zero : (words : List ℕ) → Bool
are_zero words = list_all (λ (word : ℕ). eqb word 0) words

-- the rule with the number i has bit i % 64, in the word i / 64; the word is 0 if there is none
abbrev pub word_of : (words : List ℕ) → (number : ℕ) → ℕ
word_of words number = unwrap_or (slice_get words (number / 64)) 0

-- the word has the bit with that number, of its 64 bits
abbrev pub has_bit : (word number : ℕ) → Bool
has_bit word number = eqb ((word / 2 ^ (number % 64)) % 2) 1

-- the flag is set, which is a word with one bit
abbrev pub has_flag : (flags flag : ℕ) → Bool
has_flag flags flag = not (eqb (bit_and flags flag) 0)

-- the rule with the number may rewrite: its bit is set, or no bit is
abbrev pub allows_number : Options → (number : ℕ) → Bool
allows_number options number = are_zero options.rules || has_bit (word_of options.rules number) number

-- the rule may
abbrev pub allows : Options → Rule → Bool
allows options rule = allows_number options (rule_number rule)

-- The rules that may, in the order of all rules.
abbrev pub rules_of : Options → List Rule
rules_of options = filter (allows options) every_rule

-- a bit of these words is set that is no rule's
abbrev pub NamesNoRule : (words : List ℕ) → Type 0
NamesNoRule words =
    (number : ℕ) × (length names ≤ number) × (number < 64 * length words) × (has_bit (word_of words number) number ≡ true)

-- A flag is set that isn't among the known ones, a growth is given beside the flag that there is none, or a word of later versions isn't 0.
abbrev pub IsMisused : (growth flags known : ℕ) → (reserved : List ℕ) → Type 0
IsMisused growth flags known reserved =
    (bit_and flags known ≢ flags) ⊎ ((IsTrue (has_flag flags NO_GROWTH) × (growth ≢ 0)) ⊎ IsTrue (not (are_zero reserved)))

-- The options are refused.
abbrev pub AreBad : Options → Type 0
AreBad options = IsMisused options.growth options.flags FLAGS options.reserved ⊎ NamesNoRule options.rules

-- the only function that may be edited: none is named by 0, that with the index n by n + 1
abbrev pub function_of : (only : ℕ) → Option ℕ
function_of only = if eqb only 0 then None else Some (only - 1)

-- how many rewrites are made: a percentage, unless that is 0, or else the count, which is 1 if it is 0
abbrev pub dose_of : Options → Dose
dose_of options =
    if eqb options.percent 0 then (if eqb options.count 0 then Times 1 else Times options.count) else Percent options.percent

-- The most bytes that the new module of one of `size` bytes may have in a buffer with that much room: as many as the old one has, by the flag; else as
-- many as there is room for, if no growth is given; else only so many more than the old one has.
abbrev pub most_of : (growth flags size room : ℕ) → ℕ
most_of growth flags size room =
    if has_flag flags NO_GROWTH then min room size else (if eqb growth 0 then room else min room (size + growth))
