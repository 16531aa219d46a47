-- What a call that rewrites by options leaves in the buffer, and what it reports (this project).
use Rattle.std.specs.Prelude.{◌≡◌, ℕ, List, [], ◌∷◌, ◌++◌, Some, length, take}
use Rattle.rewrite_rules.specs.Names.{rule_of}
use Rattle.module_rewrites.specs.declared.times.MadeRewrite.{MadeRewrite}
use Rattle.teddertempo_c.specs.Options.{AreBad, rules_of, function_of, dose_of, has_flag, most_of}
use Rattle.teddertempo_c.specs.Outcome.{IsOutcome}
use Rattle.teddertempo_c.specs.Reported.{Reported}
use Rattle.teddertempo_c.specs.Writes.{Asked, IsRewrittenBy}
use Rattle.teddertempo_c.specs.declared.options.Options.{Options}
use Rattle.teddertempo_c.specs.declared.options.TheConstants.{EXACT, SHRINK}
use Rattle.teddertempo_c.specs.declared.outcome.Outcome.{Outcome}
use Rattle.teddertempo_c.specs.declared.report.Report.{Report}

-- what the options ask for of a module of `size` bytes, in a buffer with that much room
abbrev pub asked_of_options : Options → (size room : ℕ) → Asked
asked_of_options options size room = record {
  seed = options.seed;
  scope = record {
    rules = rules_of options;
    function = function_of options.only;
    most = most_of options.growth options.flags size room;
    shrinking = has_flag options.flags SHRINK;
    exact = has_flag options.flags EXACT;
  };
  dose = dose_of options;
}

-- how many rewrites were made, and the function and the rule of the last one
pub record TellsRewrites (made : List MadeRewrite) (report : Report) : Type 0 where
  pub count : report.made ≡ length made
  pub before : List MadeRewrite
  pub last : MadeRewrite
  pub made_are : made ≡ before ++ last ∷ []
  pub function : report.function ≡ last.function
  pub rule : rule_of last.rewrite.row ≡ Some report.kind
  pub offset : report.offset ≡ 0

-- The first `size` bytes of the old ones are a module, and the new ones are that module rewritten as the options and the report say.
pub record IsRewrittenSo (options : Options) (size : ℕ) (old new : List ℕ) (report : Report) : Type 0 where
  pub made : List MadeRewrite
  pub is : IsRewrittenBy (asked_of_options options size (length old)) (take size old) made new
  pub tells : TellsRewrites made report

-- that outcome is why nothing of the first `size` bytes is rewritten
abbrev pub IsOutcomeFor : Options → (size : ℕ) → (old : List ℕ) → (offset : ℕ) → Outcome → Type 0
IsOutcomeFor options size old = IsOutcome (asked_of_options options size (length old)) (take size old)

-- what the call does and reports
abbrev pub RewritesWith : Options → (size : ℕ) → (old : List ℕ) → (result : ℕ) → (new : List ℕ) → Report → Type 0
RewritesWith options size old = Reported (IsRewrittenSo options size old) (IsOutcomeFor options size old) (AreBad options) size old
