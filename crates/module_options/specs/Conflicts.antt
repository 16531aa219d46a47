-- Options that can't be used together (this project).
use Rattle.std.specs.Prelude.{List, [], ◌∷◌, Option, None, codes, find}
use Rattle.std.specs.Option.{option_or, option_zip}
use Rattle.clap.specs.Takes.{is_given}
use Rattle.clap.specs.Walk.{Row, Text}

-- the first of the options that is given
abbrev pub first_given : List Row → List Text → Option Text
first_given rows names = find (λ name. is_given name rows) names

-- the first option of each list that is given, if both lists have one
unfoldable pub given_pair : List Row → (ones others : List Text) → Option (Text × Text)
given_pair rows ones others = option_zip (first_given rows ones) (first_given rows others)

-- the same for the first two of these lists of which both have one
unfoldable pub first_pair : List Row → List (List Text × List Text) → Option (Text × Text)
first_pair rows [] = None
first_pair rows (lists ∷ rest) = option_or (given_pair rows lists.0 lists.1) (first_pair rows rest)

-- the lists of which no module is read
abbrev pub unread : List Text
unread = codes "list-rules" ∷ codes "list-changes" ∷ []

-- options that choose rules, or which of their rewrites are made
abbrev pub of_rules : List Text
of_rules = codes "rule" ∷ codes "not-rule" ∷ codes "shrink" ∷ codes "exact" ∷ []

-- options of what is written in place of a list
abbrev pub of_module : List Text
of_module =
    codes "seed" ∷ codes "count" ∷ codes "max-size" ∷ codes "from" ∷ codes "to" ∷ codes "stats" ∷ codes "reach" ∷ codes "show" ∷ codes "strip-debug" ∷ []

-- An option of a first list can't be used together with one of the second list beside it.
abbrev pub apart : List (List Text × List Text)
apart =
    (codes "blocks" ∷ [], codes "list" ∷ [])
    ∷ (codes "list" ∷ codes "blocks" ∷ [], unread)
    ∷ (codes "list-changes" ∷ [], codes "list-rules" ∷ [])
    ∷ (codes "blocks" ∷ codes "list-rules" ∷ codes "list-changes" ∷ codes "reach" ∷ [], codes "change" ∷ [])
    ∷ (of_rules, codes "change" ∷ codes "blocks" ∷ unread)
    ∷ (of_module, codes "list" ∷ codes "blocks" ∷ unread)
    ∷ (codes "input" ∷ codes "function" ∷ [], unread)
    ∷ (codes "json" ∷ [], codes "list-rules" ∷ [])
    ∷ (codes "seed" ∷ codes "count" ∷ codes "show" ∷ [], codes "from" ∷ codes "to" ∷ [])
    ∷ []

-- two options that are given and can't be used together
unfoldable pub conflict : List Row → Option (Text × Text)
conflict rows = first_pair rows apart
