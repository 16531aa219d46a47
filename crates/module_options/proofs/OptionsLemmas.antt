-- What the getters of clap's matches read.
use Rattle.std.proofs.Common.{◌≡◌, ◌≢◌, ◌⊎◌, ◌<◌, ℕ, Bool, true, false, List, [], ◌∷◌, ◌++◌, ◌+◌, map, take, length, get_or, Option, Some}
use Rattle.std.proofs.Common.{None, Result, Ok, Err, refl, sym, ap, ap₂, ◌∙◌, subst, inl, inr}
use Rattle.std.specs.Prelude.{◌^◌, ◌↔◌, IfSome, IsTrue, codes, option_and_then, option_map, slice_get}
use Rattle.std.specs.Borrow.{Bor}
use Rattle.std.specs.Str.{bytes_eq}
use Rattle.std.specs.Str.Parse.{ParsesUnsigned}
use Rattle.std.proofs.lemmas.Bool.{both_ways, true≢false}
use Rattle.std.proofs.lemmas.List.{get_or-map, length-map, map-append, map_more, take_more}
use Rattle.std.proofs.lemmas.List.Folds.{list_any_at}
use Rattle.std.proofs.lemmas.Option.{slice_get-get_or, slice_get-map}
use Rattle.clap.specs.Faults.{fault_of, is_simple_and_free}
use Rattle.clap.specs.Kinds.{HasKind, IsAmong}
use Rattle.clap.specs.Matches.{ReadsOne, first_value, found_of, matched_of, raw_values}
use Rattle.clap.specs.Simple.{App, HasMatchesOf, is_simple, matches_of}
use Rattle.clap.specs.Values.{kind_of}
use Rattle.clap.specs.Walk.{Row, Text, all_of, rows_of, texts}
use Rattle.clap.proofs.WalkLemmas.{raw_values-rows}
use Rattle.clap.specs.declared.parser.matches.Found.{Found}
use Rattle.clap.specs.declared.parser.matches.MatchedArg.{MatchedArg}
use Rattle.clap.specs.declared.error.Error.{Error}
use Rattle.clap.specs.declared.error.kind.ErrorKind.{ErrorKind}
use Rattle.clap.specs.declared.parser.matches.ArgMatches.{ArgMatches}
use Rattle.module_rewrites.specs.declared.dose.Dose.{Dose}
use Rattle.module_rewrites.specs.declared.dose.Dose.TheVariants.{Times}
use Rattle.rewrite_rules.specs.Rule.{rule_name}
use Rattle.rewrite_rules.specs.declared.rule.Rule.{Rule}
use Rattle.body_rewrites.specs.Listing.{AreThose}
use Rattle.body_rewrites.specs.ThoseLemmas.{those_with, those_without}
use Rattle.module_options.specs.Arguments.{command_line}
use Rattle.module_options.specs.Flags.{first_of}
use Rattle.module_options.specs.Misuse.{AreMisused, kind_for}
use Rattle.module_options.specs.Named.{AreNamedRules, AreWantedRules, IsWanted, NamesNone, is_named, names_or_none}
use Rattle.module_options.specs.Options.{spelled, AreOptions, AreRefused, SayOptions}
use Rattle.module_options.specs.Values.{IsNumberOf, WritesSeed, TextSaysDose, IsPercentageOf, WritesDose, WritesPercentage}
use Rattle.module_options.specs.Values.WritesDose.{as_number, as_percentage, as_each}
use Rattle.module_options.specs.Values.WritesSeed.{in_hexadecimal}
use Rattle.module_options.specs.Options.AreRefused.{by_matches, by_memory, by_words}
use Rattle.module_options.specs.declared.misuse.Misuse.{Misuse}
use Rattle.module_options.specs.declared.misuse.Misuse.TheVariants.{Memory, UnknownRule}
use Rattle.module_options.specs.declared.options.Options.{Options}

-- a number
pub number_by : {E : Type 0} (gives : List ℕ → Result ℕ E → Type 0) → ((bs : List ℕ) (r : Result ℕ E) → gives bs r → ParsesUnsigned 64 10 bs r) →
    (text : Option Text) (r : Option ℕ) → (text ≡ None → r ≡ None) → ((t : Text) → text ≡ Some t → ReadsOne gives t r) → IsNumberOf text r
number_by gives parses None r none some = none refl
number_by gives parses (Some t) (Some n) none some =
    let is = parses t (Ok n) (some t refl) in
    record { digits = is.0.0; value = is.1; fits = subst (λ (k : ℕ). k < 2 ^ 64) (sym is.1) is.0.1 }
number_by gives parses (Some t) None none some =
    let is = some t refl in
    λ n w. parses t (Err is.0) is.1 (w.digits, subst (λ (k : ℕ). k < 2 ^ 64) w.value w.fits)

-- the first text
pub first_text : (found : Found) (name : Text) → first_value found name ≡ first_of name (rows_of found)
first_text found name =
    of (matched_of found name) ∙ ap (λ (o : Option (List Text)). option_and_then (λ values. slice_get values 0) o) (raw_values-rows found name)
  where
    of : (m : Option MatchedArg) → option_and_then (λ a. option_map (λ (s : Bor Text). s.now) (slice_get a.vals.items 0)) m
        ≡ option_and_then (λ values. slice_get values 0) (option_map raw_values m)
    of None = refl
    of (Some a) = sym (slice_get-map (λ (s : Bor Text). s.now) a.vals.items 0)

-- a seed behind `0x`
pub seed_in_hexadecimal : (text digits : Text) (n : ℕ) → text ≡ codes "0x" ++ digits → ParsesUnsigned {E = Text} 64 16 digits (Ok n) → WritesSeed text n
seed_in_hexadecimal text digits n front is =
    in_hexadecimal digits front (record { digits = is.0.0; value = is.1; fits = subst (λ (k : ℕ). k < 2 ^ 64) (sym is.1) is.0.1 })

-- a name that is no rule's
pub names_none : (names : List (Bor Text)) (i : ℕ) (d : Bor Text) → i < length names → ((rule : Rule) → rule_name rule ≢ (get_or names i d).now) →
    NamesNone (texts names)
names_none names i d l none = record {
  place = i;
  name = (get_or names i d).now;
  at = slice_get-map (λ (s : Bor Text). s.now) names i ∙ ap (option_map (λ (s : Bor Text). s.now)) (slice_get-get_or names i d l);
  none = none;
}

-- one rule more
pub named_more : (names : List (Bor Text)) (i : ℕ) (d : Bor Text) (rs next : List Rule) (rule : Rule) → i < length names →
    map rule_name rs ≡ texts (take i names) → rule_name rule ≡ (get_or names i d).now → next ≡ rs ++ rule ∷ [] → map rule_name next ≡ texts (take (i + 1) names)
named_more names i d rs next rule l h named is =
    ap (map rule_name) is ∙ (map-append rule_name rs (rule ∷ [])
    ∙ (ap₂ (λ (front : List Text) (name : Text). front ++ name ∷ []) h named ∙ sym (map_more (λ (s : Bor Text). s.now) names i d l)))

-- a name that is the rule's
pub named_here : (names : List (Bor Text)) (i : ℕ) (d : Bor Text) (rule : Rule) (own : Text) (same : Bool) → i < length names → own ≡ rule_name rule →
    same ≡ bytes_eq (get_or names i d).now own → same ≡ true → is_named (texts names) rule ≡ true
named_here names i d rule own same l own_is same_is is =
    list_any_at (λ (name : Text). bytes_eq name (rule_name rule)) (texts names) i d.now
    (subst (λ (n : ℕ). i < n) (sym (length-map names (λ (s : Bor Text). s.now))) l)
    (ap (λ (t : Text). bytes_eq t (rule_name rule)) (get_or-map (λ (s : Bor Text). s.now) names i d d.now l)
    ∙ (ap (bytes_eq (get_or names i d).now) (sym own_is) ∙ (sym same_is ∙ is)))

-- ---- what clap makes of the words

line_is_simple : (names : Bor (List (Bor Text))) → is_simple (command_line names) ≡ true
line_is_simple names = refl

line_is_free : (names : Bor (List (Bor Text))) → is_simple_and_free (command_line names) ≡ true
line_is_free names = refl

-- it takes them
taken : (names : Bor (List (Bor Text))) (app : App) (words : List Text) → app ≡ command_line names → (is_simple_and_free app ≡ true → fault_of app words ≡ []) →
    fault_of (command_line names) words ≡ []
taken names app words is kinds = ap (λ (a : App). fault_of a words) (sym is) ∙ kinds (ap is_simple_and_free is ∙ line_is_free names)

-- and these are its matches
rows_are : (names : Bor (List (Bor Text))) (app : App) (words : List Text) (m : ArgMatches) → app ≡ command_line names → HasMatchesOf app words m →
    rows_of (found_of m) ≡ matches_of (command_line names) words
rows_are names app words m is has = (has (ap is_simple is ∙ line_is_simple names)).0 ∙ ap (λ (a : App). matches_of a words) is

pub say_options : (names : Bor (List (Bor Text))) (app : App) (words : List Text) (m : ArgMatches) (options : Options) → app ≡ command_line names →
    (is_simple_and_free app ≡ true → fault_of app words ≡ []) → HasMatchesOf app words m → AreOptions (rows_of (found_of m)) options →
    SayOptions (command_line names) words options
say_options names app words m options is kinds has are = record {
  taken = taken names app words is kinds;
  are = subst (λ (rows : List Row). AreOptions rows options) (rows_are names app words m is has) are;
}

pub refused_matches : (names : Bor (List (Bor Text))) (app : App) (words : List Text) (m : ArgMatches) (misuse : Misuse) (kind : ErrorKind) →
    app ≡ command_line names → (is_simple_and_free app ≡ true → fault_of app words ≡ []) → HasMatchesOf app words m →
    AreMisused (rows_of (found_of m)) misuse → kind ≡ kind_for misuse → AreRefused (command_line names) words kind
refused_matches names app words m misuse kind is kinds has misused told =
    by_matches (taken names app words is kinds) misuse (subst (λ (rows : List Row). AreMisused rows misuse) (rows_are names app words m is has) misused) told

pub refused_words : (names : Bor (List (Bor Text))) (app : App) (words : List Text) (e : Error) → app ≡ command_line names →
    (is_simple_and_free app ≡ true → HasKind (fault_of app words) e) → AreRefused (command_line names) words (kind_of e)
refused_words names app words e is kinds = elim (kinds (ap is_simple_and_free is ∙ line_is_free names)) [
  | inl memory ↦ by_memory memory
  | inr among ↦ by_words (subst (λ (a : App). IsAmong (kind_of e) (fault_of a words)) is among)
]

-- ---- the rules that are named

pub names_given : (found : Found) (option : Text) (given : Option (Bor (List (Bor Text)))) → option_map (λ s. map (λ v. v.now) s.now) given ≡
    option_map raw_values (matched_of found option) → (o : Option (Bor (List (Bor Text)))) → given ≡ o →
    all_of option (rows_of found) ≡ option_map (λ s. texts s.now) o
names_given found option given get o is =
    sym (raw_values-rows found option) ∙ (sym get ∙ ap (option_map (λ (s : Bor (List (Bor Text))). texts s.now)) is)

-- those of the rules that are wanted
pub rules_wanted : (named others : Option (List Text)) (given lent wanted : List Rule) (names : List Text) → AreNamedRules named given → lent ≡ given →
    names ≡ names_or_none others → AreThose (IsWanted names) lent wanted → AreWantedRules named others wanted
rules_wanted named others given lent wanted names are lent_is names_are is = record {
  given = given;
  are_named = are;
  are = subst (λ (rs : List Rule). AreThose (IsWanted (names_or_none others)) rs wanted) lent_is
      (subst (λ (ns : List Text). AreThose (IsWanted ns) lent wanted) names_are is);
}

pub misused_name : (rows : List Row) (names : List Text) (e : Misuse) → all_of (codes "rule") rows ≡ Some names →
    (e ≡ Memory) ⊎ ((e ≡ UnknownRule) × NamesNone names) → AreMisused rows e
misused_name rows names e is (inl memory) = subst (AreMisused rows) (sym memory) tt
misused_name rows names e is (inr unknown) =
    subst (AreMisused rows) (sym unknown.0) (subst (λ (o : Option (List Text)). IfSome o NamesNone) (sym is) unknown.1)

-- ---- rules that are wanted

-- one rule more, that is wanted
pub wanted_with : (P : Rule → Type 0) (rs : List Rule) (i : ℕ) (d x : Rule) (ws next : List Rule) (wanted : Bool) → i < length rs → x ≡ get_or rs i d →
    AreThose P (take i rs) ws → (IsTrue wanted ↔ P x) → wanted ≡ true → next ≡ ws ++ x ∷ [] → AreThose P (take (i + 1) rs) next
wanted_with P rs i d x ws next wanted l x_is h same is next_is =
    subst (AreThose P (take (i + 1) rs)) (sym next_is)
    (subst (λ (l : List Rule). AreThose P l (ws ++ x ∷ [])) (sym (take_more rs i d l ∙ ap (λ (r : Rule). take i rs ++ r ∷ []) (sym x_is)))
    (those_with P (take i rs) x ws h (same.0 is)))

-- or isn't
pub wanted_without : (P : Rule → Type 0) (rs : List Rule) (i : ℕ) (d x : Rule) (ws next : List Rule) (wanted : Bool) → i < length rs → x ≡ get_or rs i d →
    AreThose P (take i rs) ws → (IsTrue wanted ↔ P x) → wanted ≡ false → next ≡ ws → AreThose P (take (i + 1) rs) next
wanted_without P rs i d x ws next wanted l x_is h same is next_is =
    subst (AreThose P (take (i + 1) rs)) (sym next_is)
    (subst (λ (l : List Rule). AreThose P l ws) (sym (take_more rs i d l ∙ ap (λ (r : Rule). take i rs ++ r ∷ []) (sym x_is)))
    (those_without P (take i rs) x ws h (λ p. both_ways wanted is (same.1 p))))

-- ---- how many rewrites are made

-- a number
pub dose_in_digits : (text : Text) (n : ℕ) → ParsesUnsigned {E = Text} 64 10 text (Ok n) → WritesDose text (Times n)
dose_in_digits text n is =
    as_number n refl (record { digits = is.0.0; value = is.1; fits = subst (λ (k : ℕ). k < 2 ^ 64) (sym is.1) is.0.1 })

-- neither a number nor each
writes_none : (text : Text) (e : Text) → bytes_eq text (codes "each") ≡ false → ParsesUnsigned {E = Text} 64 10 text (Err e) →
    ((dose : Dose) → ¬ (WritesPercentage text dose)) → (dose : Dose) → WritesDose text dose → ⊥
writes_none text e other fails is dose (as_number n same w) = fails (w.digits, subst (λ (k : ℕ). k < 2 ^ 64) w.value w.fits)
writes_none text e other fails is dose (as_percentage w) = is dose w
writes_none text e other fails is dose (as_each same w) =
    let wrong : true ≡ false = subst (λ (t : Text). bytes_eq t (codes "each") ≡ false) w other in
    absurd (true≢false wrong)

pub dose_otherwise : (text : Text) (e : Text) (found : Option Dose) → bytes_eq text (codes "each") ≡ false →
    ParsesUnsigned {E = Text} 64 10 text (Err e) → IsPercentageOf text found → TextSaysDose text found
dose_otherwise text e (Some dose) other fails is = as_percentage is
dose_otherwise text e None other fails is = writes_none text e other fails is

-- one word more as clap reads it
pub spelled_more : {S : Type 0} (text : S → Text) (words : List S) (i : ℕ) (d x : S) (ws next : List (Bor Text)) (w : Bor Text) → i < length words →
    x ≡ get_or words i d → texts ws ≡ map spelled (map text (take i words)) → w.now ≡ spelled (text x) → next ≡ ws ++ w ∷ [] →
    texts next ≡ map spelled (map text (take (i + 1) words))
spelled_more {S} text words i d x ws next w l x_is h named is =
    ap texts is ∙ (map-append (λ (s : Bor Text). s.now) ws (w ∷ [])
    ∙ (ap₂ (λ (front : List Text) (word : Text). front ++ word ∷ []) h (named ∙ ap (λ (y : S). spelled (text y)) x_is)
    ∙ sym (ap (map spelled) (map_more text words i d l) ∙ map-append spelled (map text (take i words)) (text (get_or words i d) ∷ []))))

-- why they say no options
pub refused_as : (app : App) (ws vs : List Text) (kind : ErrorKind) → ws ≡ vs → AreRefused app ws kind → AreRefused app vs kind
refused_as app ws vs kind e h = subst (λ (xs : List Text). AreRefused app xs kind) e h
