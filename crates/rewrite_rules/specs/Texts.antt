-- The texts of numbers and conditions (this project).
use Rattle.std.specs.Prelude.{ℕ, ◌==◌, List, ◌++◌, codes, if◌then◌else◌}
use Rattle.std.specs.Fmt.{decimal}
use Rattle.rewrite_rules.specs.declared.pattern.Number.{Number}
use Rattle.rewrite_rules.specs.declared.pattern.Number.TheVariants.{Literal, Ones, Bits, Sign, Slot, Turned, Next, Previous, Negated, Power, Place, Sum}
use Rattle.rewrite_rules.specs.declared.table.Condition.{Condition}
use Rattle.rewrite_rules.specs.declared.table.Condition.TheVariants as asked

-- the letter of a constant on the left side, by its index
abbrev pub slot_text : ℕ → List ℕ
slot_text i = if i == 0 then codes "c" else (if i == 1 then codes "d" else codes "c" ++ decimal i)

abbrev pub number_text : Number → List ℕ
number_text (Literal n) = decimal n
number_text Ones = codes "-1"
number_text Bits = codes "N"
number_text Sign = codes "2^(N - 1)"
number_text (Slot i) = slot_text i
number_text (Turned i) = codes "N - " ++ slot_text i
number_text (Next i) = slot_text i ++ codes " + 1"
number_text (Previous i) = slot_text i ++ codes " - 1"
number_text (Negated i) = codes "-" ++ slot_text i
number_text (Power i) = codes "2^" ++ slot_text i
number_text (Place i) = codes "log " ++ slot_text i
number_text (Sum i j) = slot_text i ++ (codes " + " ++ slot_text j)

abbrev pub condition_text : Condition → List ℕ
condition_text (asked.BelowWidth i) = slot_text i ++ codes " < N"
condition_text (asked.Power i) = slot_text i ++ codes " is a power of two"
condition_text (asked.Mask i) = slot_text i ++ codes " is a mask"
condition_text (asked.Turns i j) = slot_text i ++ (codes " + " ++ (slot_text j ++ codes " is a multiple of N"))
