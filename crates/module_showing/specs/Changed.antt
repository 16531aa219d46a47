-- The line that a shown change begins with (this project).
use Rattle.std.specs.Prelude.{ℕ, List, ◌++◌, codes, decimal}
use Rattle.body_changes.specs.Change.{change_name}
use Rattle.module_changes.specs.declared.entry.MadeChange.{MadeChange}

-- with which operator of which function the code ended that was replaced, and the change
abbrev pub shown_change_line : MadeChange → List ℕ
shown_change_line made =
    codes "function " ++ (decimal made.function
    ++ (codes " operator " ++ (decimal made.operator ++ (codes " change " ++ (change_name made.change ++ codes "\n")))))
