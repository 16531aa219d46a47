-- The sites of a function: its operators, each with the changes that make anything of it (this project).
use Rattle.std.specs.Prelude.{◌≡◌, ℕ, zero, suc, List, [], ◌++◌, length, map}
use Rattle.wasm_code.specs.declared.operator.Operator.{Operator}
use Rattle.wasm_types.specs.Module.{Module}
use Rattle.wasm_types.specs.declared.types.PrimitiveTypeInfo.{PrimitiveTypeInfo}
use Rattle.wasm_module.specs.Module.{Layout}
use Rattle.wasm_execution.specs.Values.{Context, context_in}
use Rattle.body_changes.specs.declared.change.Change.{Change}
use Rattle.body_rewrites.specs.Listing.{AreThose}
use Rattle.module_rewrites.specs.Attempt.{CanRead}
use Rattle.module_rewrites.specs.Function.{IsFunction}
use Rattle.module_changes.specs.Placed.{ChangeMakesAt}
use Rattle.module_changes.specs.declared.entry.MadeChange.{MadeChange}
use Rattle.module_changes.specs.declared.sites.Site.{Site}

-- the operator with each of the changes, in their order
abbrev pub sites_at : List Change → (operator : ℕ) → List Site
sites_at changes operator = map (λ (change : Change). record { operator = operator; change = change }) changes

-- so many operators, in their order
abbrev pub sites_below : List Change → (count : ℕ) → List Site
sites_below changes zero = []
sites_below changes (suc operator) = sites_below changes operator ++ sites_at changes operator

-- the change makes something of the operator
abbrev pub IsSite : (Makes : Change → ℕ → Type 0) → Site → Type 0
IsSite Makes site = Makes site.change site.operator

-- The list has each operator with each of the changes that makes anything of it, by no words, and no other, in the order of the operators and of the changes.
abbrev pub AreSites : Context → List (Operator × ℕ) → List Change → List Site → Type 0
AreSites context operators changes list = AreThose (IsSite (ChangeMakesAt context operators)) (sites_below changes (length operators)) list

-- It has those of the function of the n-th code entry; none where that can't be read.
pub record AreSitesOf (changes : List Change) (bytes : List ℕ) (info : Module) (layout : Layout) (n : ℕ) (list : List Site) : Type 0 where
  pub are : (locals : List PrimitiveTypeInfo) (expression : ℕ) (operators : List (Operator × ℕ)) →
      IsFunction bytes info layout n locals expression operators → AreSites (context_in info locals) operators changes list
  pub none : ¬ (CanRead bytes info layout n) → list ≡ []

-- that of a change that was made
abbrev pub site_of_change : MadeChange → Site
site_of_change made = record { operator = made.operator; change = made.change }

-- ---- for private functions

-- the list has grown by those of the operator
abbrev pub AddsSites : (Makes : Change → ℕ → Type 0) → List Change → (operator : ℕ) → (old new : List Site) → Type 0
AddsSites Makes changes operator old new =
    (items : List Site) → AreThose (IsSite Makes) items old → AreThose (IsSite Makes) (items ++ sites_at changes operator) new
