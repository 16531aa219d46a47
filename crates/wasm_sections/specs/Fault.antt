-- The names of the faults of modules (this project): each variant's own name.
use Rattle.std.specs.Prelude.{ℕ, List, codes}
use Rattle.wasm_sections.specs.declared.fault.ModuleFault.{ModuleFault}
use Rattle.wasm_sections.specs.declared.fault.ModuleFault.TheVariants as faults

-- what a caller is told of bytes that are no module, or none that can be read here
abbrev pub fault_name : ModuleFault → List ℕ
fault_name faults.BadMagic = codes "BadMagic"
fault_name faults.BadVersion = codes "BadVersion"
fault_name faults.Truncated = codes "Truncated"
fault_name faults.BadInteger = codes "BadInteger"
fault_name faults.UnknownSection = codes "UnknownSection"
fault_name faults.OutOfOrder = codes "OutOfOrder"
fault_name faults.Linkable = codes "Linkable"
fault_name faults.UnknownForm = codes "UnknownForm"
fault_name faults.UnknownOpcode = codes "UnknownOpcode"
fault_name faults.TrailingBytes = codes "TrailingBytes"
fault_name faults.CodeCount = codes "CodeCount"
fault_name faults.TooManyLocals = codes "TooManyLocals"
fault_name faults.Memory = codes "Memory"
