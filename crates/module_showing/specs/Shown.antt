-- The line that a shown rewrite begins with (this project).
use Rattle.std.specs.Prelude.{ℕ, List, [], ◌++◌, codes, decimal, option_and_then, slice_get}
use Rattle.std.specs.Option.{unwrap_or}
use Rattle.rewrite_rules.specs.Names.{names, rule_of}
use Rattle.module_rewrites.specs.declared.times.MadeRewrite.{MadeRewrite}

-- the name of the rule that the row with that number is of; none where there is no such row
abbrev pub row_name : ℕ → List ℕ
row_name row = unwrap_or (option_and_then (slice_get names) (rule_of row)) []

-- which operator of which function was rewritten, and the rule
abbrev pub first_line : MadeRewrite → List ℕ
first_line made =
    codes "function " ++ (decimal made.function
    ++ (codes " operator " ++ (decimal made.rewrite.operator ++ (codes " rule " ++ (row_name made.rewrite.row ++ codes "\n")))))
