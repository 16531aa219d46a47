-- What calls come to, and when (this project).
use Rattle.std.specs.Prelude.{◌≡◌, ℕ, List}
use Rattle.wasm_sections.specs.declared.fault.ModuleFault.{ModuleFault}
use Rattle.wasm_sections.specs.declared.fault.ModuleFault.TheVariants as faults
use Rattle.wasm_module.specs.Fault.{IsModuleFault}
use Rattle.wasm_module.specs.declared.refusal.WriteError.{WriteError}
use Rattle.wasm_module.specs.declared.refusal.WriteError.TheVariants as writes
use Rattle.module_rewrites.specs.Attempt.{RefusesIndexOf}
use Rattle.module_rewrites.specs.declared.function.FunctionError.{FunctionError}
use Rattle.module_rewrites.specs.declared.attempt.Reason.{Reason}
use Rattle.module_rewrites.specs.declared.attempt.Reason.TheVariants as reasons
use Rattle.module_rewrites.specs.declared.mutation.MutationError.{MutationError}
use Rattle.module_rewrites.specs.declared.mutation.MutationError.TheVariants as mutations
use Rattle.teddertempo_c.specs.Writes.{Asked, IsRefusedFor}
use Rattle.teddertempo_c.specs.declared.outcome.Outcome.{Outcome}
use Rattle.teddertempo_c.specs.declared.outcome.Outcome.TheVariants.{Done, NotAModule, LinkableObject, Unreadable, NothingApplies, NoFunction}
use Rattle.teddertempo_c.specs.declared.outcome.Outcome.TheVariants.{TooLarge, NoMemory, BadOptions}

-- the header's constants
abbrev pub outcome_number : Outcome → ℕ
outcome_number Done = 0
outcome_number NotAModule = 1
outcome_number LinkableObject = 2
outcome_number Unreadable = 3
outcome_number NothingApplies = 4
outcome_number NoFunction = 5
outcome_number TooLarge = 6
outcome_number NoMemory = 7
outcome_number BadOptions = 8

-- the fault is neither that of linkable objects nor a want of memory
abbrev pub IsOtherFault : ModuleFault → Type 0
IsOtherFault faults.Linkable = ⊥
IsOtherFault faults.Memory = ⊥
IsOtherFault fault = Unit {0}

-- the bytes have such a fault there
pub record IsNoModule (bytes : List ℕ) (offset : ℕ) : Type 0 where
  pub kind : ModuleFault
  pub is : IsModuleFault bytes kind offset
  pub other : IsOtherFault kind

-- a rewrite is refused since its module isn't small enough: for the bytes that it may have, for sizes of 32 bits, or since it is no smaller
abbrev pub MutationIsTooLarge : MutationError → Type 0
MutationIsTooLarge (mutations.Read e) = ⊥
MutationIsTooLarge mutations.Memory = ⊥
MutationIsTooLarge (mutations.Write writes.TooLarge) = Unit {0}
MutationIsTooLarge (mutations.Write writes.EmptyType) = ⊥
MutationIsTooLarge (mutations.Write writes.Memory) = ⊥
MutationIsTooLarge mutations.TooLong = Unit {0}
MutationIsTooLarge mutations.NotSmaller = Unit {0}

-- so one is
pub record IsRefusedAsTooLarge (asked : Asked) (bytes : List ℕ) : Type 0 where
  pub error : MutationError
  pub large : MutationIsTooLarge error
  pub is : IsRefusedFor asked bytes (reasons.Refused error)

-- no rule applies in a function that can be read, or the module has no function of its own
abbrev pub IsWithoutRule : Reason → Type 0
IsWithoutRule reasons.NoRule = Unit {0}
IsWithoutRule reasons.NoOwnFunction = Unit {0}
IsWithoutRule reason = ⊥

-- Why nothing of the module is rewritten; the offset is that of its fault, or 0. Nothing is said of a want of memory.
abbrev pub IsOutcome : Asked → (bytes : List ℕ) → (offset : ℕ) → Outcome → Type 0
IsOutcome asked bytes offset Done = ⊥
IsOutcome asked bytes offset NotAModule = IsNoModule bytes offset
IsOutcome asked bytes offset LinkableObject = IsModuleFault bytes faults.Linkable offset
IsOutcome asked bytes offset Unreadable = (offset ≡ 0) × ((e : FunctionError) × IsRefusedFor asked bytes (reasons.Unreadable e))
IsOutcome asked bytes offset NothingApplies = (offset ≡ 0) × ((reason : Reason) × IsWithoutRule reason × IsRefusedFor asked bytes reason)
IsOutcome asked bytes offset NoFunction = (offset ≡ 0) × ((reason : Reason) × RefusesIndexOf asked.scope.function bytes reason)
IsOutcome asked bytes offset TooLarge = (offset ≡ 0) × IsRefusedAsTooLarge asked bytes
IsOutcome asked bytes offset NoMemory = offset ≡ 0
IsOutcome asked bytes offset BadOptions = ⊥

-- ---- for private functions

-- what a module's fault comes to, and the offset that is told
abbrev pub outcome_by_fault : ModuleFault → Outcome
outcome_by_fault faults.Linkable = LinkableObject
outcome_by_fault faults.Memory = NoMemory
outcome_by_fault fault = NotAModule

-- 0 where memory was wanting, which is at no place in the bytes
abbrev pub offset_by_fault : ModuleFault → (offset : ℕ) → ℕ
offset_by_fault faults.Memory offset = 0
offset_by_fault fault offset = offset

-- what it comes to that a module isn't written; for the type of a global none that a rewrite makes is refused
abbrev pub outcome_by_write : WriteError → Outcome
outcome_by_write writes.TooLarge = TooLarge
outcome_by_write writes.EmptyType = TooLarge
outcome_by_write writes.Memory = NoMemory

-- the same of any refusal: that of reading, for want of memory, of writing, or for the size of the module
abbrev pub outcome_by_refusal : MutationError → Outcome
outcome_by_refusal (mutations.Read e) = outcome_by_fault e.kind
outcome_by_refusal mutations.Memory = NoMemory
outcome_by_refusal (mutations.Write e) = outcome_by_write e
outcome_by_refusal mutations.TooLong = TooLarge
outcome_by_refusal mutations.NotSmaller = TooLarge

-- the offset that is told of a refusal; 0 where nothing of the module's bytes is at fault
abbrev pub offset_by_refusal : MutationError → ℕ
offset_by_refusal (mutations.Read e) = offset_by_fault e.kind e.offset
offset_by_refusal e = 0

-- what a reason comes to
abbrev pub outcome_by : Reason → Outcome
outcome_by reasons.NoRule = NothingApplies
outcome_by reasons.NoOwnFunction = NothingApplies
outcome_by (reasons.Unreadable e) = Unreadable
outcome_by (reasons.NoFunction function) = NoFunction
outcome_by (reasons.UnknownImport e) = NoFunction
outcome_by (reasons.Refused e) = outcome_by_refusal e

-- the offset that is told of a reason; 0 of one that is no refusal
abbrev pub offset_by : Reason → ℕ
offset_by (reasons.Refused e) = offset_by_refusal e
offset_by reason = 0
