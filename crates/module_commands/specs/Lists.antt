-- Lines of a module's functions, one behind another; the list that `--list` writes (this project).
use Rattle.std.specs.Prelude.{◌≡◌, ◌↔◌, ℕ, zero, suc, ◌+◌, ◌^◌, ◌<◌, ◌≤◌, List, [], ◌++◌, length, Option}
use Rattle.std.specs.Io.KnownBytes.{Appends}
use Rattle.wasm_code.specs.declared.operator.Operator.{Operator}
use Rattle.wasm_types.specs.Module.{Module}
use Rattle.wasm_types.specs.declared.types.PrimitiveTypeInfo.{PrimitiveTypeInfo}
use Rattle.wasm_module.specs.Module.{Layout, IsModule}
use Rattle.wasm_execution.specs.Values.{Context, context_in}
use Rattle.body_rewrites.specs.declared.rewrite.Rewrite.{Rewrite}
use Rattle.body_rewrites.specs.Listing.{AreThose, IsWantedBy}
use Rattle.body_rewrites.specs.Rewrites.{asked_below}
use Rattle.module_rewrites.specs.Attempt.{CanRead}
use Rattle.module_rewrites.specs.Function.{IsFunction}
use Rattle.module_rewrites.specs.Mutated.{IsChosen}
use Rattle.module_rewrites.specs.Scope.{Scope, IsMarked, wanted_of}
use Rattle.module_commands.specs.Lines.{rewrite_lines}
use Rattle.module_options.specs.declared.form.Form.{Form}

-- The text is that of each of so many things from the one with the number `from` on, one behind another.
abbrev pub InTurn : (Tells : ℕ → List ℕ → Type 0) → (from count : ℕ) → (text : List ℕ) → Type 0
InTurn Tells from zero text = text ≡ []
InTurn Tells from (suc count) text =
    (front : List ℕ) × (own : List ℕ) × (text ≡ front ++ own) × InTurn Tells from count front × Tells (from + count) own

-- The text is that of each function that is looked at of the module with these bytes, by the numbers of their code entries.
pub record OfFunctions (Tells : Module → Layout → ℕ → List ℕ → Type 0) (only : Option ℕ) (bytes text : List ℕ) : Type 0 where
  pub info : Module
  pub layout : Layout
  pub is : IsModule bytes info layout
  pub from : ℕ
  pub count : ℕ
  pub chosen : (n : ℕ) → ((from ≤ n) × (n < from + count)) ↔ ((n < length layout.entries) × IsChosen only (layout.imported_functions + n))
  pub told : InTurn (Tells info layout) from count text

-- A device has grown by that text.
pub record WritesOfFunctions (Tells : Module → Layout → ℕ → List ℕ → Type 0) (only : Option ℕ) (bytes : List ℕ) (old new : Option (List ℕ)) : Type 0 where
  pub text : List ℕ
  pub of : OfFunctions Tells only bytes text
  pub written : Appends old new text

-- ---- the rewrites that there are

-- those of a body by one of the rules, where they are to make the module smaller those that leave no more operators, in the order of the operators, the rows
-- and the widths
abbrev pub AreTheRewrites : Context → Scope → List (Operator × ℕ) → List Rewrite → Type 0
AreTheRewrites context scope operators list = AreThose (IsWantedBy context operators scope.rules (wanted_of scope)) (asked_below (length operators)) list

-- The text has a line for each such rewrite that there is of the function of the n-th code entry, and no other; none where that can't be
-- read. (An index has 64 bits.)
pub record ListsFunction (form : Form) (scope : Scope) (bytes : List ℕ) (info : Module) (layout : Layout) (n : ℕ) (text : List ℕ) : Type 0 where
  pub marked : IsMarked scope info
  pub list : List Rewrite
  pub are : (locals : List PrimitiveTypeInfo) (expression : ℕ) (operators : List (Operator × ℕ)) →
      IsFunction bytes info layout n locals expression operators → AreTheRewrites (context_in info locals) scope operators list
  pub none : ¬ (CanRead bytes info layout n) → list ≡ []
  pub lines : layout.imported_functions + n < 2 ^ 64 → text ≡ rewrite_lines form (layout.imported_functions + n) list

-- A device has grown by the lines of the functions that are looked at.
abbrev pub WritesList : Form → Scope → (bytes : List ℕ) → (old new : Option (List ℕ)) → Type 0
WritesList form scope bytes old new = WritesOfFunctions (ListsFunction form scope bytes) scope.function bytes old new
