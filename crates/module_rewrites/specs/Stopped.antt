-- Why rewriting stopped: for want of memory, or not (this project).
use Rattle.std.specs.Prelude.{◌≡◌, Option, IfSome}
use Rattle.wasm_sections.specs.declared.fault.ModuleFault.TheVariants as faults
use Rattle.wasm_module.specs.declared.refusal.WriteError.TheVariants as writes
use Rattle.module_rewrites.specs.declared.mutation.MutationError.{MutationError}
use Rattle.module_rewrites.specs.declared.mutation.MutationError.TheVariants as mutations

-- no memory was left
abbrev pub IsForMemory : MutationError → Type 0
IsForMemory (mutations.Read e) = e.kind ≡ faults.Memory
IsForMemory mutations.Memory = Unit {0}
IsForMemory (mutations.Write writes.Memory) = Unit {0}
IsForMemory (mutations.Write e) = ⊥
IsForMemory mutations.TooLong = ⊥
IsForMemory mutations.NotSmaller = ⊥

-- What stopped rewriting, if anything did, was no want of memory.
abbrev pub HadMemory : Option MutationError → Type 0
HadMemory stopped = IfSome stopped (λ e. ¬ (IsForMemory e))
