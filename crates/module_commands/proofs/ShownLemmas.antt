-- What is shown of rewrites that were seen one after another.
use Rattle.std.proofs.Common.{◌≡◌, ℕ, List, [], ◌∷◌, ◌++◌, Bool, true, false, Option, refl, sym, ◌∙◌, ap, subst, append_assoc, append-nil}
use Rattle.std.specs.Io.KnownBytes.{Appends}
use Rattle.module_showing.specs.Shown.{first_line}
use Rattle.module_rewrites.specs.Scope.{Scope}
use Rattle.module_rewrites.specs.Watched.{Seeing, SeesEach, Standing}
use Rattle.module_rewrites.specs.declared.times.MadeRewrite.{MadeRewrite}
use Rattle.module_commands.specs.Shown.{GrowsBy, IsShown, Shows, ShowsOne}
use Rattle.module_commands.proofs.TurnLemmas.{appends_nothing}
use Rattle.module_commands.specs.declared.showing.Shower.{Shower}

-- what a watcher that shows rewrites makes of one
abbrev pub showing : {P : Type 0} → Seeing (Shower P)
showing before old new made after = ShowsOne before made after

-- where nothing has failed behind them all, nothing had before
unfailed : {P : Type 0} (scope : Scope) (from : Standing (Shower P)) (made : List MadeRewrite) (to : Standing (Shower P)) →
    SeesEach showing scope from made to → to.watcher.failed ≡ false → from.watcher.failed ≡ false
unfailed scope from [] to seen none = subst (λ s. s.watcher.failed ≡ false) seen none
unfailed scope from (m ∷ made) to seen none = seen.1.seen.never (unfailed scope seen.0 made to seen.2 none)

-- nothing is shown
kept : {P : Type 0} (scope : Scope) (from : Standing (Shower P)) (made : List MadeRewrite) (to : Standing (Shower P)) →
    SeesEach showing scope from made to → to.watcher.failed ≡ false → from.watcher.wanted ≡ false → to.watcher.text.items ≡ from.watcher.text.items
kept scope from [] to seen none wanted = ap (λ s. s.watcher.text.items) seen
kept scope from (m ∷ made) to seen none wanted =
    kept scope seen.0 made to seen.2 none (seen.1.seen.wanted ∙ wanted)
    ∙ subst (λ (w : Bool). GrowsBy w m from.watcher.text.items seen.0.watcher.text.items) wanted
    (seen.1.seen.grows (unfailed scope seen.0 made to seen.2 none))

-- each is shown
grown : {P : Type 0} (scope : Scope) (from : Standing (Shower P)) (made : List MadeRewrite) (to : Standing (Shower P)) →
    SeesEach showing scope from made to → to.watcher.failed ≡ false → from.watcher.wanted ≡ true →
    (text : List ℕ) × (to.watcher.text.items ≡ from.watcher.text.items ++ text) × Shows made text
grown scope from [] to seen none wanted = ([], ap (λ s. s.watcher.text.items) seen ∙ sym (append-nil from.watcher.text.items), refl)
grown scope from (m ∷ made) to seen none wanted =
    let one = subst (λ (w : Bool). GrowsBy w m from.watcher.text.items seen.0.watcher.text.items) wanted
    (seen.1.seen.grows (unfailed scope seen.0 made to seen.2 none)) in
    let more = grown scope seen.0 made to seen.2 none (seen.1.seen.wanted ∙ wanted) in
    let own = first_line m ++ one.0 in
    (own ++ more.0, (more.1 ∙ ap (λ text. text ++ more.0) one.1) ∙ append_assoc from.watcher.text.items own more.0, (one.0, more.0, refl, more.2))

-- What is shown of all of them.
pub is_shown : {P : Type 0} (scope : Scope) (from : Standing (Shower P)) (made : List MadeRewrite) (to : Standing (Shower P)) (show : Bool) →
    SeesEach showing scope from made to → to.watcher.failed ≡ false → from.watcher.wanted ≡ show → from.watcher.text.items ≡ [] →
    IsShown show made to.watcher.text.items
is_shown scope from made to false seen none wanted empty = kept scope from made to seen none wanted ∙ empty
is_shown scope from made to true seen none wanted empty =
    let all = grown scope from made to seen none wanted in
    subst (Shows made) (sym (all.1 ∙ ap (λ text. text ++ all.0) empty)) all.2

-- What is shown is written, where anything is.
pub shown_text : (show : Bool) (made : List MadeRewrite) (text : List ℕ) (old new : Option (List ℕ)) → IsShown show made text →
    (show ≡ true → Appends old new text) → (show ≡ false → new ≡ old) → Appends old new text
shown_text true made text old new is h k = h refl
shown_text false made text old new is h k =
    subst (Appends old new) (sym is) (subst (λ (c : Option (List ℕ)). Appends old c []) (sym (k refl)) (appends_nothing old))
