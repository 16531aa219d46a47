-- What is shown of changes that were seen one after another.
use Rattle.std.specs.Prelude.{is_none, ◌&&◌, ◌||◌}
use Rattle.std.proofs.Common.{◌≡◌, ℕ, List, [], ◌∷◌, ◌++◌, Bool, true, false, Option, refl, sym, ◌∙◌, ap, subst, append_assoc, append-nil}
use Rattle.std.specs.Io.KnownBytes.{Appends}
use Rattle.module_showing.specs.Changed.{shown_change_line}
use Rattle.module_changes.specs.Scope.{Scope}
use Rattle.module_changes.specs.Watched.{SeeingChange, SeesEachChange, StandingOfChanges}
use Rattle.module_changes.specs.declared.entry.MadeChange.{MadeChange}
use Rattle.module_changes.specs.declared.placed.ChangeAt.{ChangeAt}
use Rattle.module_changes.specs.declared.refusal.Refusal.{Refusal}
use Rattle.module_commands.specs.Changing.{AreShown, GrowsByChange, ShowsChanges, ShowsOneChange, report_asked}
use Rattle.module_options.specs.declared.form.Form.{Form}
use Rattle.module_commands.proofs.TurnLemmas.{appends_nothing}
use Rattle.module_commands.specs.declared.changing.ChangeShower.{ChangeShower}

-- what a watcher that shows changes makes of one
abbrev pub showing : {P : Type 0} → SeeingChange (ChangeShower P)
showing before old new made after = ShowsOneChange before made after

-- where nothing has failed behind them all, nothing had before
unfailed : {P : Type 0} (scope : Scope) (from : StandingOfChanges (ChangeShower P)) (made : List MadeChange) (to : StandingOfChanges (ChangeShower P)) →
    SeesEachChange showing scope from made to →
    to.watcher.failed ≡ false → from.watcher.failed ≡ false
unfailed scope from [] to seen none = subst (λ s. s.watcher.failed ≡ false) seen none
unfailed scope from (m ∷ made) to seen none = seen.1.seen.never (unfailed scope seen.0 made to seen.2 none)

-- nothing is shown
kept : {P : Type 0} (scope : Scope) (from : StandingOfChanges (ChangeShower P)) (made : List MadeChange) (to : StandingOfChanges (ChangeShower P)) →
    SeesEachChange showing scope from made to →
    to.watcher.failed ≡ false → from.watcher.wanted ≡ false → to.watcher.text.items ≡ from.watcher.text.items
kept scope from [] to seen none wanted = ap (λ s. s.watcher.text.items) seen
kept scope from (m ∷ made) to seen none wanted =
    kept scope seen.0 made to seen.2 none (seen.1.seen.wanted ∙ wanted)
    ∙ subst (λ (w : Bool). GrowsByChange w m from.watcher.text.items seen.0.watcher.text.items) wanted
    (seen.1.seen.grows (unfailed scope seen.0 made to seen.2 none))

-- each is shown
grown : {P : Type 0} (scope : Scope) (from : StandingOfChanges (ChangeShower P)) (made : List MadeChange) (to : StandingOfChanges (ChangeShower P)) →
    SeesEachChange showing scope from made to →
    to.watcher.failed ≡ false → from.watcher.wanted ≡ true →
    (text : List ℕ) × (to.watcher.text.items ≡ from.watcher.text.items ++ text) × ShowsChanges made text
grown scope from [] to seen none wanted = ([], ap (λ s. s.watcher.text.items) seen ∙ sym (append-nil from.watcher.text.items), refl)
grown scope from (m ∷ made) to seen none wanted =
    let one = subst (λ (w : Bool). GrowsByChange w m from.watcher.text.items seen.0.watcher.text.items) wanted
    (seen.1.seen.grows (unfailed scope seen.0 made to seen.2 none)) in
    let more = grown scope seen.0 made to seen.2 none (seen.1.seen.wanted ∙ wanted) in
    let own = shown_change_line m ++ one.0 in
    (own ++ more.0, (more.1 ∙ ap (λ text. text ++ more.0) one.1) ∙ append_assoc from.watcher.text.items own more.0, (one.0, more.0, refl, more.2))

-- What is shown of all of them.
pub are_shown : {P : Type 0} (scope : Scope) (from : StandingOfChanges (ChangeShower P)) (made : List MadeChange)
    (to : StandingOfChanges (ChangeShower P)) (show : Bool) →
    SeesEachChange showing scope from made to → to.watcher.failed ≡ false → from.watcher.wanted ≡ show → from.watcher.text.items ≡ [] →
    AreShown show made to.watcher.text.items
are_shown scope from made to false seen none wanted empty = kept scope from made to seen none wanted ∙ empty
are_shown scope from made to true seen none wanted empty =
    let all = grown scope from made to seen none wanted in
    subst (ShowsChanges made) (sym (all.1 ∙ ap (λ text. text ++ all.0) empty)) all.2

-- What is told is written, where anything is.
pub told_text : (stats show : Bool) (place : Option ChangeAt) (form : Form) (bytes : List ℕ) (made : List MadeChange) (stopped :
    Option Refusal) (written shown told : List ℕ)
    (old new : Option (List ℕ)) → AreShown (show && is_none place) made shown → told ≡ shown ++ report_asked stats form bytes made stopped written →
    ((stats || show) ≡ true → Appends old new told) → ((stats || show) ≡ false → new ≡ old) →
    Appends old new (shown ++ report_asked stats form bytes made stopped written)
told_text true show place form bytes made stopped written shown told old new are is h k = subst (Appends old new) is (h refl)
told_text false true place form bytes made stopped written shown told old new are is h k = subst (Appends old new) is (h refl)
told_text false false place form bytes made stopped written shown told old new are is h k =
    subst (λ (text : List ℕ). Appends old new (text ++ [])) (sym are)
    (subst (λ (c : Option (List ℕ)). Appends old c []) (sym (k refl)) (appends_nothing old))
