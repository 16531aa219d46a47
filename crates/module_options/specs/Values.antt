-- The values of options: numbers, doses and files (this project).
use Rattle.std.specs.Prelude.{◌≡◌, ◌<◌, ◌^◌, ◌||◌, if◌then◌else◌, ℕ, Bool, false, List, ◌++◌, Option, Some, None}
use Rattle.std.specs.Prelude.{codes, option_and_then, unwrap_or, IfSome}
use Rattle.std.specs.Str.{bytes_eq}
use Rattle.std.specs.Str.Parse.{IsNumeral, digits_value, without_leading_plus}
use Rattle.clap.specs.Walk.{Row, Text}
use Rattle.module_rewrites.specs.Dose.{IsOneOrMore}
use Rattle.module_rewrites.specs.declared.dose.Dose.{Dose}
use Rattle.module_rewrites.specs.declared.dose.Dose.TheVariants.{Times, Percent}
use Rattle.module_options.specs.Front.{begins_with}
use Rattle.module_options.specs.Flags.{first_of}

-- the text writes that number, below 2^64, in digits to that base behind a plus at most
pub record Writes (base : ℕ) (text : Text) (n : ℕ) : Type 0 where
  pub digits : IsNumeral base (without_leading_plus text)
  pub value : n ≡ digits_value base (without_leading_plus text)
  pub fits : n < 2 ^ 64

-- the number that an option has, by its text: none where it has no text, or one that writes none
abbrev pub IsNumberOf : Option Text → Option ℕ → Type 0
IsNumberOf None found = found ≡ None
IsNumberOf (Some text) (Some n) = Writes 10 text n
IsNumberOf (Some text) None = (n : ℕ) → ¬ (Writes 10 text n)

-- the same, and where it has none the other one
abbrev pub IsNumberOr : (other : ℕ) → Option Text → ℕ → Type 0
IsNumberOr other text n = (found : Option ℕ) × IsNumberOf text found × (n ≡ unwrap_or found other)

-- a plus stands before the number, also behind `0x`
abbrev pub has_plus : Option Text → Bool
has_plus None = false
has_plus (Some text) = begins_with text (codes "+") || begins_with text (codes "0x+")

-- so it does in a number that is given
abbrev pub have_plus : List Row → Bool
have_plus rows =
    has_plus (first_of (codes "seed") rows) || has_plus (first_of (codes "count") rows)
    || has_plus (first_of (codes "function") rows) || has_plus (first_of (codes "max-size") rows)
    || has_plus (first_of (codes "from") rows) || has_plus (first_of (codes "to") rows)

-- the text writes that number in decimal digits, or behind `0x` in hexadecimal ones
pub data WritesSeed (text : Text) (n : ℕ) : Type 0 where
  in_decimal : Writes 10 text n → WritesSeed text n
  in_hexadecimal : (digits : Text) → text ≡ codes "0x" ++ digits → Writes 16 digits n → WritesSeed text n

-- the number that it writes, if it writes one
abbrev pub IsSeedOf : Text → Option ℕ → Type 0
IsSeedOf text (Some n) = WritesSeed text n
IsSeedOf text None = (n : ℕ) → ¬ (WritesSeed text n)

-- the number that is given, 0 where none is
abbrev pub IsSeed : Option Text → ℕ → Type 0
IsSeed None seed = seed ≡ 0
IsSeed (Some text) seed = WritesSeed text seed

-- the file that a text names: none where it is `-`
abbrev pub file_of : Option Text → Option Text
file_of text = option_and_then (λ name. if bytes_eq name (codes "-") then None else Some name) text

-- how many rewrites are made where no count is given: one, or where they are to make the module smaller, as many as there are
abbrev pub default_dose : (shrink : Bool) → Dose
default_dose shrink = if shrink then Times 18446744073709551615 else Times 1

-- the text writes that percentage
pub record WritesPercentage (text : Text) (dose : Dose) : Type 0 where
  pub digits : Text
  pub number : ℕ
  pub text_is : text ≡ digits ++ codes "%"
  pub writes : Writes 10 digits number
  pub dose_is : dose ≡ Percent number

-- The text says how many rewrites are made: a number, a percentage of the operators that there are, or `each`, which is as many as there are operators.
pub data WritesDose (text : Text) (dose : Dose) : Type 0 where
  as_number : (n : ℕ) → dose ≡ Times n → Writes 10 text n → WritesDose text dose
  as_percentage : WritesPercentage text dose → WritesDose text dose
  as_each : dose ≡ Percent 100 → text ≡ codes "each" → WritesDose text dose

-- the percentage that it writes, if it writes one
abbrev pub IsPercentageOf : Text → Option Dose → Type 0
IsPercentageOf text (Some dose) = WritesPercentage text dose
IsPercentageOf text None = (dose : Dose) → ¬ (WritesPercentage text dose)

-- what it says, if it says anything
abbrev pub TextSaysDose : Text → Option Dose → Type 0
TextSaysDose text (Some dose) = WritesDose text dose
TextSaysDose text None = (dose : Dose) → ¬ (WritesDose text dose)

-- how many rewrites are made
abbrev pub IsDose : (shrink : Bool) → Option Text → Dose → Type 0
IsDose shrink None dose = dose ≡ default_dose shrink
IsDose shrink (Some text) dose = WritesDose text dose

-- the text doesn't say so, or it says that none are
abbrev pub IsNoDose : Text → Type 0
IsNoDose text = (found : Option Dose) × TextSaysDose text found × IfSome found (λ dose. ¬ (IsOneOrMore dose))
