-- How a run with a success ends (this project).
use Rattle.std.specs.Prelude.{Bool, true, false, Option, Some, None, if◌then◌else◌}
use Rattle.wasm_sections.specs.declared.fault.ModuleFault.{ModuleFault}
use Rattle.wasm_sections.specs.declared.fault.ModuleFault.TheVariants as faults
use Rattle.wasm_module.specs.declared.refusal.WriteError.TheVariants as writes
use Rattle.module_rewrites.specs.declared.mutation.MutationError.{MutationError}
use Rattle.module_rewrites.specs.declared.mutation.MutationError.TheVariants as mutations
use Rattle.module_commands.specs.declared.ending.Ending.{Ending}
use Rattle.module_commands.specs.declared.ending.Ending.TheVariants.{Whole, OutOfMemory}

-- it was memory that the module wasn't read for
abbrev pub is_memory_fault : ModuleFault → Bool
is_memory_fault faults.Memory = true
is_memory_fault fault = false

-- it was memory that a rewrite was refused for: at reading, rewriting or writing
abbrev pub is_memory : MutationError → Bool
is_memory (mutations.Read e) = is_memory_fault e.kind
is_memory mutations.Memory = true
is_memory (mutations.Write writes.Memory) = true
is_memory e = false

-- out of memory where a further rewrite was refused for that, else whole
abbrev pub ending_of : (stopped : Option MutationError) → Ending
ending_of None = Whole
ending_of (Some e) = if is_memory e then OutOfMemory else Whole
