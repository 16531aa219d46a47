-- The names of the faults, and how much was read of a long input (this project's).
use Rattle.std.specs.Prelude.{ℕ, ◌<◌, List, length, Option, codes}
use Rattle.wasm_code.specs.Fault.{kind_name}
use Rattle.peephole_payloads.specs.TermError.{term_error_name}
use Rattle.peephole_script.specs.declared.fault.Fault.{Fault}
use Rattle.peephole_script.specs.declared.fault.Fault.TheVariants as fault
use Rattle.peephole_script.specs.declared.fault.RunError.{RunError}
use Rattle.peephole_script.specs.declared.fault.RunError.TheVariants as run
use Rattle.std.specs.Io.KnownBytes.{Consumes}

-- known bytes begin with more than `most` bytes, and lose them
abbrev pub ConsumesMore : Option (List ℕ) → Option (List ℕ) → ℕ → Type 0
ConsumesMore old new most = (bytes : List ℕ) × Consumes old new bytes × (most < length bytes)

-- the name of what ends a whole run, other than a faulty line
abbrev pub run_error_name : RunError → List ℕ
run_error_name run.Memory = codes "Memory"
run_error_name run.Input = codes "Input"
run_error_name run.TooLong = codes "TooLong"
run_error_name run.Output = codes "Output"

-- the name that the report of a faulty line gives
abbrev pub line_fault_name : Fault → List ℕ
line_fault_name fault.Text = codes "Text"
line_fault_name fault.UnknownCommand = codes "UnknownCommand"
line_fault_name fault.BadArgument = codes "BadArgument"
line_fault_name fault.NoBody = codes "NoBody"
line_fault_name fault.OutOfRange = codes "OutOfRange"
line_fault_name fault.NoBlock = codes "NoBlock"
line_fault_name (fault.Read kind) = kind_name kind
line_fault_name fault.BadChild = codes "BadChild"
line_fault_name (fault.Term e) = term_error_name e
line_fault_name fault.Unwritable = codes "Unwritable"
line_fault_name fault.TooLarge = codes "TooLarge"
line_fault_name fault.Memory = codes "Memory"
