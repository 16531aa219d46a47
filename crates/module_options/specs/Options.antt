-- The options that the matches of a command line are (this project).
use Rattle.std.specs.Prelude.{◌≡◌, if◌then◌else◌, false, List, [], None, Some, codes, option_map, string_bytes}
use Rattle.std.specs.Str.{bytes_eq}
use Rattle.clap.specs.Walk.{Row, Text, all_of, one_of}
use Rattle.clap.specs.Simple.{App, matches_of}
use Rattle.clap.specs.Takes.{is_given}
use Rattle.clap.specs.Kinds.{IsAmong}
use Rattle.clap.specs.Faults.{fault_of}
use Rattle.clap.specs.declared.error.kind.ErrorKind.{ErrorKind}
use Rattle.clap.specs.declared.error.kind.ErrorKind.TheVariants.{OutOfMemory}
use Rattle.module_options.specs.Conflicts.{conflict}
use Rattle.module_options.specs.Flags.{first_of, flags_of, tell_nothing, reports}
use Rattle.module_options.specs.Misuse.{AreMisused, kind_for}
use Rattle.module_options.specs.Named.{AreWantedRules, AreChanges, IsChangePlace}
use Rattle.module_options.specs.Task.{task_of}
use Rattle.module_options.specs.Values.{IsNumberOf, IsNumberOr, have_plus, IsSeed, file_of, IsDose}
use Rattle.module_options.specs.declared.misuse.Misuse.{Misuse}
use Rattle.module_options.specs.declared.options.Options.{Options}

-- The options that the matches are.
pub record AreOptions (rows : List Row) (options : Options) : Type 0 where
  pub apart : conflict rows ≡ None
  pub tell : tell_nothing (flags_of rows) ≡ false
  pub plain : have_plus rows ≡ false
  pub task : Some options.task ≡ task_of (flags_of rows) (first_of (codes "list-rules") rows)
  pub input : option_map string_bytes options.input ≡ file_of (first_of (codes "input") rows)
  pub output : option_map string_bytes options.output ≡ file_of (first_of (codes "output") rows)
  pub seed : IsSeed (first_of (codes "seed") rows) options.seed
  pub dose : IsDose (is_given (codes "shrink") rows) (first_of (codes "count") rows) options.dose
  pub function : IsNumberOf (one_of (codes "function") rows) options.function
  pub rules : AreWantedRules (all_of (codes "rule") rows) (all_of (codes "not-rule") rows) options.rules.items
  pub changes : AreChanges (first_of (codes "change") rows) options.changes.items
  pub place : IsChangePlace rows options.changes.items options.function options.place
  pub max_size : IsNumberOr 18446744073709551615 (one_of (codes "max-size") rows) options.max_size
  pub shrink : options.shrink ≡ is_given (codes "shrink") rows
  pub exact : options.exact ≡ is_given (codes "exact") rows
  pub stats : options.stats ≡ reports (flags_of rows)
  pub reach : options.reach ≡ (flags_of rows).reach
  pub json : options.json ≡ (flags_of rows).json
  pub show : options.show ≡ (flags_of rows).show
  pub strip_debug : options.strip_debug ≡ (flags_of rows).strip_debug
  pub quiet : options.quiet ≡ (flags_of rows).quiet

-- The word as clap reads it: `--change` without a name is asked for by its own name, `any`, so that the word behind it is none.
abbrev pub spelled : (word : Text) → Text
spelled word = if bytes_eq word (codes "--change") then codes "--change=any" else word

-- clap takes the words, and the options are those of their matches
pub record SayOptions (app : App) (words : List Text) (options : Options) : Type 0 where
  pub taken : fault_of app words ≡ []
  pub are : AreOptions (matches_of app words) options

-- Why words of the command line say no options: no memory is left, clap refuses them, or their matches are none.
pub data AreRefused (app : App) (words : List Text) (kind : ErrorKind) : Type 0 where
  by_memory : kind ≡ OutOfMemory → AreRefused app words kind
  by_words : IsAmong kind (fault_of app words) → AreRefused app words kind
  by_matches : fault_of app words ≡ [] → (misuse : Misuse) → AreMisused (matches_of app words) misuse → kind ≡ kind_for misuse → AreRefused app words kind
