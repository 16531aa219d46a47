-- The names of the errors (this project): each variant's own name.
use Rattle.std.specs.Prelude.{ℕ, List, codes}
use Rattle.wasm_code.specs.declared.fault.ReadKind.{ReadKind}
use Rattle.wasm_code.specs.declared.fault.ReadKind.TheVariants as kinds
use Rattle.wasm_code.specs.declared.fault.SinkError.{SinkError}
use Rattle.wasm_code.specs.declared.fault.SinkError.TheVariants as sinks

-- what a caller is told of a body that can't be read
abbrev pub kind_name : ReadKind → List ℕ
kind_name kinds.Truncated = codes "Truncated"
kind_name kinds.UnknownOpcode = codes "UnknownOpcode"
kind_name kinds.BadInteger = codes "BadInteger"
kind_name kinds.BadImmediate = codes "BadImmediate"
kind_name kinds.NoEnd = codes "NoEnd"
kind_name kinds.Memory = codes "Memory"

-- what a caller is told where bytes can't be put into a sink
abbrev pub sink_error_name : SinkError → List ℕ
sink_error_name sinks.Memory = codes "Memory"
