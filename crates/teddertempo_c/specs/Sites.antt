-- A call that lists the operators of a module's functions of which changes make anything (this project).
use Rattle.std.specs.Prelude.{◌≡◌, ⊤, ◌↔◌, ℕ, zero, suc, ◌+◌, ◌^◌, ◌<◌, ◌≤◌, List, [], ◌++◌, length, map, take, drop}
use Rattle.wasm_types.specs.Module.{Module}
use Rattle.wasm_sections.specs.declared.fault.ModuleFault.TheVariants as faults
use Rattle.wasm_module.specs.Fault.{IsModuleFault}
use Rattle.wasm_module.specs.Module.{Layout, IsModule}
use Rattle.body_changes.specs.declared.change.Change.{Change}
use Rattle.module_rewrites.specs.Attempt.{RefusesIndexOf}
use Rattle.module_rewrites.specs.Mutated.{IsChosen}
use Rattle.module_rewrites.specs.declared.attempt.Reason.{Reason}
use Rattle.module_rewrites.specs.declared.attempt.Reason.TheVariants as reasons
use Rattle.module_rewrites.specs.declared.mutation.MutationError.TheVariants as mutations
use Rattle.module_changes.specs.Sites.{AreSitesOf}
use Rattle.module_changes.specs.declared.sites.Site.{Site}
use Rattle.teddertempo_c.specs.ChangeOptions.{AreBad, change_number, changes_of}
use Rattle.teddertempo_c.specs.Options.{function_of}
use Rattle.teddertempo_c.specs.Outcome.{IsNoModule}
use Rattle.teddertempo_c.specs.Reported.{Tells, report_of}
use Rattle.teddertempo_c.specs.declared.change_options.ChangeOptions.{ChangeOptions}
use Rattle.teddertempo_c.specs.declared.outcome.Outcome.{Outcome}
use Rattle.teddertempo_c.specs.declared.outcome.Outcome.TheVariants.{Done, NotAModule, LinkableObject, NoFunction, NoMemory}
use Rattle.teddertempo_c.specs.declared.report.Report.{Report}
use Rattle.teddertempo_c.specs.declared.sites.SiteRow.{SiteRow}

-- ---- the rows

-- one for each site of the function with the index
abbrev pub site_rows_of : (function : ℕ) → List Site → List SiteRow
site_rows_of function sites = map (λ (s : Site). record { function = function; operator_index = s.operator; change = change_number s.change }) sites

-- those of so many code entries from one on, in their order. (An index has 64 bits.)
abbrev pub AreRows : List Change → (bytes : List ℕ) → Module → Layout → (from count : ℕ) → List SiteRow → Type 0
AreRows changes bytes info layout from zero rows = rows ≡ []
AreRows changes bytes info layout from (suc count) rows =
    (front : List SiteRow) × (sites : List Site) × AreRows changes bytes info layout from count front
    × AreSitesOf changes bytes info layout (from + count) sites
    × (layout.imported_functions + (from + count) < 2 ^ 64 → rows ≡ front ++ site_rows_of (layout.imported_functions + (from + count)) sites)

-- Those of the functions that may be changed.
pub record SitesAreListed (options : ChangeOptions) (bytes : List ℕ) (rows : List SiteRow) : Type 0 where
  pub info : Module
  pub layout : Layout
  pub is : IsModule bytes info layout
  pub from : ℕ
  pub count : ℕ
  pub chosen : (n : ℕ) →
      ((from ≤ n) × (n < from + count)) ↔ ((n < length layout.entries) × IsChosen (function_of options.only) (layout.imported_functions + n))
  pub rows_are : AreRows (changes_of options) bytes info layout from count rows

-- ---- the call

-- The room holds as many of the rows as fit, and behind them what it held; the result is how many there are.
pub record HoldsRows (rows old : List SiteRow) (result : ℕ) (new : List SiteRow) : Type 0 where
  pub size : result ≡ length rows
  pub is : new ≡ take (length old) rows ++ drop (length rows) old

-- The rows are those of the sites; the room holds as many as fit; and the report says how many there are.
pub record IsListed (options : ChangeOptions) (bytes : List ℕ) (old : List SiteRow) (result : ℕ) (new : List SiteRow) (report : Report) : Type 0 where
  pub rows : List SiteRow
  pub listed : SitesAreListed options bytes rows
  pub holds : HoldsRows rows old result new
  pub report_is : report ≡ report_of Done 0 0 (length rows) 0

-- Why nothing is listed; the offset is that of the module's fault, or 0. Nothing is said of a want of memory.
abbrev pub IsOutcome : ChangeOptions → (bytes : List ℕ) → (offset : ℕ) → Outcome → Type 0
IsOutcome options bytes offset NotAModule = IsNoModule bytes offset
IsOutcome options bytes offset LinkableObject = IsModuleFault bytes faults.Linkable offset
IsOutcome options bytes offset NoFunction = (offset ≡ 0) × ((reason : Reason) × RefusesIndexOf (function_of options.only) bytes reason)
IsOutcome options bytes offset NoMemory = offset ≡ 0
IsOutcome options bytes offset outcome = ⊥

-- What the call does and reports: it lists the sites, or the result is 0, and the room is as it was.
abbrev pub ListsSites : ChangeOptions → (bytes : List ℕ) → (old : List SiteRow) → (result : ℕ) → (new : List SiteRow) → Report → Type 0
ListsSites options bytes old result new report =
    Tells (IsListed options bytes old result new report) ((result ≡ 0) × (new ≡ old)) (IsOutcome options bytes) (AreBad options) report

-- ---- for private functions

-- why there are no rows: the bytes are no module, or it has no such function, or for want of memory
abbrev pub IsWhyNone : ChangeOptions → (bytes : List ℕ) → Reason → Type 0
IsWhyNone options bytes (reasons.Refused (mutations.Read e)) = IsModuleFault bytes e.kind e.offset
IsWhyNone options bytes (reasons.Refused mutations.Memory) = ⊤
IsWhyNone options bytes (reasons.NoFunction function) = RefusesIndexOf (function_of options.only) bytes (reasons.NoFunction function)
IsWhyNone options bytes (reasons.UnknownImport e) = RefusesIndexOf (function_of options.only) bytes (reasons.UnknownImport e)
IsWhyNone options bytes reason = ⊥
