-- The rules, the changes and the operators that options name (this project).
use Rattle.std.specs.Prelude.{◌≡◌, ◌≢◌, ◌⊎◌, ◌∷◌, ◌+◌, ℕ, Bool, true, false, List, [], Option, Some, None}
use Rattle.std.specs.Prelude.{codes, is_some, map, min, slice_get, unwrap_or}
use Rattle.std.specs.List.{list_any}
use Rattle.std.specs.Str.{bytes_eq}
use Rattle.clap.specs.Walk.{Row, Text, one_of}
use Rattle.body_changes.specs.Change.{change_name}
use Rattle.body_changes.specs.declared.change.Change.{Change}
use Rattle.body_changes.specs.declared.change.TheConstants.{CHANGES}
use Rattle.rewrite_rules.specs.Rule.{AreAllRules, rule_name}
use Rattle.rewrite_rules.specs.declared.rule.Rule.{Rule}
use Rattle.body_rewrites.specs.Listing.{AreThose}
use Rattle.module_changes.specs.declared.placed.ChangeAt.{ChangeAt}
use Rattle.module_options.specs.Flags.{first_of, is_placed}
use Rattle.module_options.specs.Values.{IsNumberOf}

-- all rules where no name is given, else those that are named, one for each name
abbrev pub AreNamedRules : Option (List Text) → List Rule → Type 0
AreNamedRules None rules = AreAllRules rules
AreNamedRules (Some names) rules = map rule_name rules ≡ names

-- one of the names is the rule's
abbrev pub is_named : (names : List Text) → Rule → Bool
is_named names rule = list_any (λ name. bytes_eq name (rule_name rule)) names

-- none of the names is the rule's
abbrev pub IsWanted : (others : List Text) → Rule → Type 0
IsWanted others rule = is_named others rule ≡ false

-- the names, none where none are given
abbrev pub names_or_none : Option (List Text) → List Text
names_or_none names = unwrap_or names []

-- Those of the named rules, or of all, that are wanted, in their order.
pub record AreWantedRules (named others : Option (List Text)) (rules : List Rule) : Type 0 where
  pub given : List Rule
  pub are_named : AreNamedRules named given
  pub are : AreThose (IsWanted (names_or_none others)) given rules

-- one of the names is no rule's
pub record NamesNone (names : List Text) : Type 0 where
  pub place : ℕ
  pub name : Text
  pub at : slice_get names place ≡ Some name
  pub none : (rule : Rule) → rule_name rule ≢ name

-- The name stands for these changes: for one that has it, or `any` for all.
abbrev pub StandsForChanges : (name : Text) → List Change → Type 0
StandsForChanges name changes =
    ((name ≡ codes "any") × (changes ≡ CHANGES)) ⊎ ((change : Change) × (name ≡ change_name change) × (changes ≡ change ∷ []))

-- those that the name stands for that is given, or all
abbrev pub AreChanges : Option Text → List Change → Type 0
AreChanges None changes = changes ≡ CHANGES
AreChanges (Some name) changes = StandsForChanges name changes

-- it stands for none
abbrev pub NamesNoChange : (name : Text) → Type 0
NamesNoChange name = (changes : List Change) → ¬ (StandsForChanges name changes)

-- the change of the function's operators from the first one that is given up to the other one, where there is one change and a function
abbrev pub placed : List Change → (function from to : Option ℕ) → Option ChangeAt
placed (change ∷ []) (Some function) from to =
    Some (record { change = change; function = function; first = unwrap_or from 0; end = min (unwrap_or to 18446744073709551615 + 1) 18446744073709551615 })
placed changes function from to = None

-- the operators that are changed, where any are named
pub record IsChangePlace (rows : List Row) (changes : List Change) (function : Option ℕ) (place : Option ChangeAt) : Type 0 where
  pub from : Option ℕ
  pub from_is : IsNumberOf (one_of (codes "from") rows) from
  pub to : Option ℕ
  pub to_is : IsNumberOf (one_of (codes "to") rows) to
  pub none : is_placed rows ≡ false → place ≡ None
  pub some : is_placed rows ≡ true → (is_some place ≡ true) × (place ≡ placed changes function from to)

-- operators are named, and there is no change of its own, or no function
pub record IsUnplaced (rows : List Row) : Type 0 where
  pub named : is_placed rows ≡ true
  pub changes : List Change
  pub are_changes : AreChanges (first_of (codes "change") rows) changes
  pub function : Option ℕ
  pub is_function : IsNumberOf (one_of (codes "function") rows) function
  pub none : (from to : Option ℕ) → placed changes function from to ≡ None
