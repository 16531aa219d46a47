-- Structural operators of new code, and their bytes (WebAssembly Core Specification 3.0, Binary Format, Instructions, Control Instructions).
use Rattle.std.specs.Prelude.{ℕ, ◌<◌, ◌^◌, ⊤, List, [], ◌∷◌}
use Rattle.wasm_code.specs.Code.{shortest}
use Rattle.wasm_code.specs.Immediate.{val_type_code}
use Rattle.wasm_code.specs.declared.immediate.BlockType.TheVariants.{Empty, Value}
use Rattle.wasm_code.specs.declared.operator.Operator.{Operator}
use Rattle.wasm_code.specs.declared.operator.Operator.TheVariants as op
use Rattle.body_splices.specs.declared.control.Control.{Control}
use Rattle.body_splices.specs.declared.control.Control.TheVariants as control

-- the operator that it is
abbrev pub control_operator : Control → Operator
control_operator (control.Block t) = op.Block (Value t)
control_operator (control.Loop t) = op.Loop (Value t)
control_operator (control.If t) = op.If (Value t)
control_operator control.BareIf = op.If Empty
control_operator control.Else = op.Else
control_operator control.End = op.End
control_operator (control.Branch label) = op.Br label
control_operator (control.BranchIf label) = op.BrIf label
control_operator control.Unreachable = op.Unreachable

-- its bytes: a label has its shortest spelling
abbrev pub control_bytes : Control → List ℕ
control_bytes (control.Block t) = 0x02 ∷ val_type_code t ∷ []
control_bytes (control.Loop t) = 0x03 ∷ val_type_code t ∷ []
control_bytes (control.If t) = 0x04 ∷ val_type_code t ∷ []
control_bytes control.BareIf = 0x04 ∷ 0x40 ∷ []
control_bytes control.Else = 0x05 ∷ []
control_bytes control.End = 0x0b ∷ []
control_bytes (control.Branch label) = 0x0c ∷ shortest label
control_bytes (control.BranchIf label) = 0x0d ∷ shortest label
control_bytes control.Unreachable = 0x00 ∷ []

-- its label, if it has one, is of its type
abbrev pub LabelInRange : Control → Type 0
LabelInRange (control.Branch label) = label < 2 ^ 8
LabelInRange (control.BranchIf label) = label < 2 ^ 8
LabelInRange _ = ⊤
