-- The command line of the program, in the terms of clap (this project).
use Rattle.std.specs.Prelude.{List, [], ◌∷◌, true, codes, Some}
use Rattle.std.specs.Borrow.{Bor}
use Rattle.clap.specs.Walk.{Rule, Text}
use Rattle.clap.specs.Simple.{App, new_rule, new_shape, with_rule}
use Rattle.clap.specs.declared.builder.action.ArgAction.TheVariants.{Append, SetTrue}
use Rattle.clap.specs.declared.builder.value_parser.ValueParser.{ValueParser}
use Rattle.clap.specs.declared.builder.value_parser.ValueParser.TheVariants.{Names, Unsigned}

-- a flag `--name`
abbrev pub flag : (name : Text) → Rule
flag name = record (new_rule name) { long = Some name; action = Some SetTrue }

-- an option `--name` that has a value
abbrev pub valued : (name : Text) → ValueParser → Rule
valued name parser = record (new_rule name) { long = Some name; value_names = 1; parser = Some parser }

-- a number below 2^64
abbrev pub number : ValueParser
number = Unsigned 0 18446744073709551615

-- an option `--name` that has a text
abbrev pub texted : (name : Text) → Rule
texted name = record (new_rule name) { long = Some name; value_names = 1 }

-- the module that is read, and where to the other one is written, also `-o`
abbrev pub input_rule : Rule
input_rule = record (new_rule (codes "input")) { value_names = 1 }

-- where the written module goes; 111 is the letter o
abbrev pub output_rule : Rule
output_rule = record (texted (codes "output")) { short = Some 111 }

-- the generator's seed; a text, since it may be hexadecimal
abbrev pub seed_rule : Rule
seed_rule = texted (codes "seed")

-- how many rewrites are made; a text, since it may be a percentage
abbrev pub count_rule : Rule
count_rule = texted (codes "count")

-- in which form the rules are listed: a text, `text` where none is given
abbrev pub rules_rule : Rule
rules_rule = record (texted (codes "list-rules")) {
  range = Some (record { start_inclusive = 0; end_inclusive = 1 });
  missing = codes "text" ∷ [];
}

-- by which change the module is changed: a text, `any` where none is given
abbrev pub change_rule : Rule
change_rule = record (texted (codes "change")) {
  range = Some (record { start_inclusive = 0; end_inclusive = 1 });
  missing = codes "any" ∷ [];
}

-- an option `--name` that has one of these names at each use
abbrev pub naming : (name : Text) → (names : Bor (List (Bor Text))) → Rule
naming name names = record (valued name (Names names)) { action = Some Append }

-- the files of the modules that are read and written
abbrev pub file_rules : List Rule
file_rules = input_rule ∷ output_rule ∷ []

-- which rewrites are made
abbrev pub rewriting_rules : (names : Bor (List (Bor Text))) → List Rule
rewriting_rules names =
    seed_rule ∷ count_rule ∷ valued (codes "function") number ∷ naming (codes "rule") names ∷ naming (codes "not-rule") names
    ∷ flag (codes "exact") ∷ []

-- how large the module may be, and how it is changed
abbrev pub changing_rules : List Rule
changing_rules =
    flag (codes "shrink") ∷ valued (codes "max-size") number ∷ change_rule ∷ valued (codes "from") number ∷ valued (codes "to") number ∷ []

-- what is written
abbrev pub writing_rules : List Rule
writing_rules =
    flag (codes "strip-debug") ∷ flag (codes "list") ∷ flag (codes "blocks") ∷ rules_rule ∷ flag (codes "list-changes") ∷ []

-- what is reported on standard error
abbrev pub reporting_rules : List Rule
reporting_rules =
    flag (codes "stats") ∷ flag (codes "reach") ∷ flag (codes "show") ∷ flag (codes "json") ∷ flag (codes "quiet") ∷ []

-- the command line with these arguments after its own
abbrev pub with_rules : App → List Rule → App
with_rules app [] = app
with_rules app (rule ∷ rules) = with_rules (with_rule app rule) rules

-- the command line without arguments
abbrev pub bare_command : App
bare_command = record { top = record (new_shape (codes "teddertempo")) { has_version = true }; subs = [] }

-- all that the command line takes: the file of the module, options with a value, and flags
abbrev pub arguments : (names : Bor (List (Bor Text))) → List Rule
arguments names =
    input_rule ∷ output_rule ∷ seed_rule ∷ count_rule ∷ valued (codes "function") number ∷ naming (codes "rule") names
    ∷ naming (codes "not-rule") names ∷ flag (codes "exact") ∷ flag (codes "shrink") ∷ valued (codes "max-size") number ∷ change_rule
    ∷ valued (codes "from") number ∷ valued (codes "to") number ∷ flag (codes "strip-debug") ∷ flag (codes "list") ∷ flag (codes "blocks") ∷ rules_rule
    ∷ flag (codes "list-changes") ∷ flag (codes "stats") ∷ flag (codes "reach") ∷ flag (codes "show") ∷ flag (codes "json") ∷ flag (codes "quiet") ∷ []

-- The command line, where the rules have these names.
abbrev pub command_line : (names : Bor (List (Bor Text))) → App
command_line names = record { top = record (new_shape (codes "teddertempo")) { rules = arguments names; has_version = true }; subs = [] }
