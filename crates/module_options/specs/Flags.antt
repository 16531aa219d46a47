-- The options that a command line has (this project).
use Rattle.std.specs.Prelude.{◌&&◌, ◌||◌, Bool, false, List, Option, Some, codes, not, option_and_then, slice_get}
use Rattle.clap.specs.Takes.{is_given}
use Rattle.clap.specs.Walk.{Row, Text, all_of}
use Rattle.clap.specs.declared.parser.matches.ValueSource.{ValueSource}
use Rattle.clap.specs.declared.parser.matches.ValueSource.TheVariants.{DefaultValue}
use Rattle.module_options.specs.declared.flags.Flags.{Flags}

-- the text of an option, the first where it has several
abbrev pub first_of : (name : Text) → List Row → Option Text
first_of name rows = option_and_then (λ values. slice_get values 0) (all_of name rows)

-- an argument has an entry that doesn't come from its default
abbrev pub is_explicit : (has : Bool) → Option ValueSource → Bool
is_explicit has (Some DefaultValue) = false
is_explicit has source = has

-- operators are named
abbrev pub is_placed : List Row → Bool
is_placed rows = is_given (codes "from") rows || is_given (codes "to") rows

-- the flags; one that isn't given is false
abbrev pub flags_of : List Row → Flags
flags_of rows = record {
  list = is_given (codes "list") rows;
  blocks = is_given (codes "blocks") rows;
  rules = is_given (codes "list-rules") rows;
  change = is_given (codes "change") rows;
  changes = is_given (codes "list-changes") rows;
  stats = is_given (codes "stats") rows;
  reach = is_given (codes "reach") rows;
  json = is_given (codes "json") rows;
  show = is_given (codes "show") rows;
  strip_debug = is_given (codes "strip-debug") rows;
  quiet = is_given (codes "quiet") rows;
}

-- they ask for JSON, and for nothing that is written in it
abbrev pub tell_nothing : Flags → Bool
tell_nothing flags = flags.json && not (flags.rules || flags.changes || flags.list || flags.blocks || flags.stats || flags.reach)

-- a report is asked for
abbrev pub reports : Flags → Bool
reports flags = flags.stats || flags.reach
