-- The rules, as a run lists them (this project).
use Rattle.std.specs.Prelude.{ℕ, List, Option}
use Rattle.std.specs.Io.KnownBytes.{Appends}
use Rattle.rule_listing.specs.Listing.{Told, AreTold, listing}
use Rattle.rule_listing.specs.declared.form.Form.{Form}

-- What is written is the list of all rules, in that form.
pub record WritesRules (form : Form) (before behind : Option (List ℕ)) : Type 0 where
  pub told : List Told
  pub are : AreTold told
  pub written : Appends before behind (listing form told)
