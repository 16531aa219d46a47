-- Which options are given, and which of them can't be used together.
use Rattle.std.proofs.Common.{◌≡◌, ◌∙◌, List, [], ◌∷◌, ◌++◌, Bool, true, false, Option, Some, None, refl, sym, ap, ap₂}
use Rattle.std.specs.Prelude.{is_some, option_and_then, option_map, find}
use Rattle.std.specs.Option.{option_map_or, option_or, option_zip}
use Rattle.std.specs.Borrow.{Bor}
use Rattle.clap.specs.Facts.{explicit_source}
use Rattle.clap.specs.Matches.{matched_of}
use Rattle.clap.specs.Takes.{is_given}
use Rattle.clap.specs.Walk.{Row, Text, rows_of, texts}
use Rattle.clap.specs.declared.parser.matches.Found.{Found}
use Rattle.clap.specs.declared.parser.matches.MatchedArg.{MatchedArg}
use Rattle.clap.specs.declared.parser.matches.ValueSource.{ValueSource}
use Rattle.clap.specs.declared.parser.matches.ValueSource.TheVariants.{DefaultValue, CommandLine}
use Rattle.clap.proofs.WalkLemmas.{find-map}
use Rattle.clap.proofs.TakesLemmas.{present_row}
use Rattle.module_options.specs.Conflicts.{apart, conflict, first_given, first_pair, given_pair}
use Rattle.module_options.specs.Flags.{is_explicit}

-- an entry that there is
explicit_as : (source : Option ValueSource) → is_explicit true source ≡ explicit_source source
explicit_as None = refl
explicit_as (Some DefaultValue) = refl
explicit_as (Some CommandLine) = refl

-- an option is given by its entry
pub given_by : (found : Found) (name : Text) (has : Bool) (source : Option ValueSource) → has ≡ is_some (matched_of found name) →
    source ≡ option_and_then (λ a. a.source) (matched_of found name) → is_explicit has source ≡ is_given name (rows_of found)
given_by found name has source has_is source_is = ap₂ is_explicit has_is source_is ∙ (go (matched_of found name) ∙ present_row found name)
  where
    go : (o : Option MatchedArg) →
        is_explicit (is_some o) (option_and_then (λ a. a.source) o) ≡ option_map_or (λ a. explicit_source a.source) o false
    go None = refl
    go (Some a) = explicit_as a.source

-- the texts of two names
abbrev pub texts_of : Option (Bor Text × Bor Text) → Option (Text × Text)
texts_of pair = option_map (λ p. (p.0.now, p.1.now)) pair

-- of both
zipped : (one other : Option (Bor Text)) → texts_of (option_zip one other) ≡ option_zip (option_map (λ n. n.now) one) (option_map (λ n. n.now) other)
zipped None None = refl
zipped None (Some y) = refl
zipped (Some x) None = refl
zipped (Some x) (Some y) = refl

-- of the first name
first_text : (rows : List Row) (names : List (Bor Text)) →
    option_map (λ n. n.now) (find (λ name. is_given name.now rows) names) ≡ first_given rows (texts names)
first_text rows names = find-map (λ (t : Text). is_given t rows) (λ (n : Bor Text). n.now) names

-- of the first option of each list
pub pair_given : (rows : List Row) (ones others : List (Bor Text)) (one other : Option (Bor Text)) (pair : Option (Bor Text × Bor Text)) →
    one ≡ find (λ name. is_given name.now rows) ones → other ≡ find (λ name. is_given name.now rows) others → pair ≡ option_zip one other →
    texts_of pair ≡ given_pair rows (texts ones) (texts others)
unfolding given_pair
pair_given rows ones others one other pair one_is other_is pair_is =
    ap texts_of pair_is ∙ (zipped one other ∙ ap₂ option_zip (ap (option_map (λ (n : Bor Text). n.now)) one_is ∙ first_text rows ones)
    (ap (option_map (λ (n : Bor Text). n.now)) other_is ∙ first_text rows others))

-- one row more of the table
last_pair : (rows : List Row) (table : List (List Text × List Text)) (lists : List Text × List Text) →
    first_pair rows (table ++ lists ∷ []) ≡ option_or (first_pair rows table) (given_pair rows lists.0 lists.1)
unfolding first_pair
last_pair rows [] lists = last (given_pair rows lists.0 lists.1)
  where
    last : (p : Option (Text × Text)) → option_or p None ≡ p
    last None = refl
    last (Some pair) = refl
last_pair rows (ls ∷ table) lists =
    ap (option_or (given_pair rows ls.0 ls.1)) (last_pair rows table lists)
    ∙ grouped (given_pair rows ls.0 ls.1) (first_pair rows table) (given_pair rows lists.0 lists.1)
  where
    grouped : (p q r : Option (Text × Text)) → option_or p (option_or q r) ≡ option_or (option_or p q) r
    grouped None q r = refl
    grouped (Some pair) q r = refl

-- the first pair of the table so far, or else that of one row more
pub or_pair : (rows : List Row) (table : List (List Text × List Text)) (ones others : List Text) (so_far pair both : Option (Bor Text × Bor Text)) →
    texts_of so_far ≡ first_pair rows table → texts_of pair ≡ given_pair rows ones others → both ≡ option_or so_far pair →
    texts_of both ≡ first_pair rows (table ++ (ones, others) ∷ [])
or_pair rows table ones others so_far pair both before here is =
    ap texts_of is ∙ (of so_far ∙ (ap₂ option_or before here ∙ sym (last_pair rows table (ones, others))))
  where
    of : (p : Option (Bor Text × Bor Text)) → texts_of (option_or p pair) ≡ option_or (texts_of p) (texts_of pair)
    of None = refl
    of (Some p) = refl

-- the first row
pub one_pair : (rows : List Row) (ones others : List Text) (pair : Option (Bor Text × Bor Text)) →
    texts_of pair ≡ given_pair rows ones others → texts_of pair ≡ first_pair rows ((ones, others) ∷ [])
unfolding first_pair
one_pair rows ones others pair here = here ∙ sym (last_pair rows [] (ones, others))

-- all rows
pub conflict_is : (rows : List Row) (pair : Option (Bor Text × Bor Text)) → texts_of pair ≡ first_pair rows apart → texts_of pair ≡ conflict rows
unfolding conflict
conflict_is rows pair is = is
