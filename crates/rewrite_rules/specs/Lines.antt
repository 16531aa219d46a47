-- The lines of the table as the code holds them (this project).
use Rattle.std.specs.Prelude.{ℕ, List, Option, option_map}
use Rattle.std.specs.Borrow.{Bor}
use Rattle.rewrite_rules.specs.declared.table.Condition.{Condition}
use Rattle.rewrite_rules.specs.declared.table.Step.{Step}
use Rattle.rewrite_rules.specs.declared.table.Widths.{Widths}
use Rattle.rewrite_rules.specs.declared.table.Row.{Row}
use Rattle.rewrite_rules.specs.Table.{Text, Entry, row_in}

-- a text that it refers to
abbrev pub text_by_reference : Bor (List ℕ) → Text
text_by_reference b = record { now = b.now }

-- a line in the code
abbrev pub Held : Type 0
Held = Option (Bor (List ℕ)) × Widths × Option Condition × List Step × List Step

-- a line with its name
abbrev pub shown : Held → Entry
shown l = (option_map text_by_reference l.0, l.1, l.2, l.3, l.4)

-- one that is referred to
abbrev pub shown_at : Option (Bor Held) → Option Entry
shown_at o = option_map (λ (l : Bor Held). shown l.now) o

-- the row of one
abbrev pub row_shown : Held → Row
row_shown l = row_in (shown l)
