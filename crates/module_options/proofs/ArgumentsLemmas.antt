-- A command line, argument by argument.
use Rattle.std.proofs.Common.{◌≡◌, ◌∙◌, true, false, Some, ap, ap₂}
use Rattle.std.specs.Borrow.{Bor}
use Rattle.clap.specs.Built.{AddsArg}
use Rattle.clap.specs.Simple.{App, app_of, app_of_fields, with_rule}
use Rattle.clap.specs.Walk.{Rule, Text, rule_of}
use Rattle.clap.specs.declared.builder.arg.Arg.{Arg}
use Rattle.clap.specs.declared.builder.command.Command.{Command}
use Rattle.clap.specs.declared.builder.command.Command.TheViews.{out-Command}

abbrev with_version : App → App
with_version a = record a { top = record a.top { has_version = true } }

-- a version, what the program is about, and what stands behind its help
pub versioned : (a b c d : Command) (version about after : Bor Text) (app : App) → app_of a ≡ app →
    out-Command b ≡ record (out-Command a) { version = Some version } → out-Command c ≡ record (out-Command b) { about = Some about } →
    out-Command d ≡ record (out-Command c) { after_help = Some after } → app_of d ≡ record app { top = record app.top { has_version = true } }
versioned a b c d version about after app is with_v with_a with_h =
    ap app_of_fields with_h ∙ (ap app_of_fields with_a ∙ (ap app_of_fields with_v ∙ ap with_version is))

-- a heading of the help
pub headed : (a b : Command) (heading : Bor Text) (app : App) → app_of a ≡ app →
    out-Command b ≡ record (out-Command a) { current_help_heading = Some heading } → app_of b ≡ app
headed a b heading app is with_h = ap app_of_fields with_h ∙ is

-- one argument more
pub one_more : (old new : Command) (a : Arg) (r : Rule) (app : App) → app_of old ≡ app → AddsArg old a new → a.global ≡ false → rule_of a ≡ r →
    app_of new ≡ with_rule app r
one_more old new a r app is adds local rule = adds.shape local ∙ ap₂ with_rule is rule
