-- The kind of immediate that stands for each kind of payload (this project).
use Rattle.wasm_code.specs.declared.table.Kind.{Kind}
use Rattle.wasm_code.specs.declared.table.Kind.TheVariants as imm
use Rattle.peephole_nodes.specs.declared.payload.PayloadKind.{PayloadKind}
use Rattle.peephole_nodes.specs.declared.payload.PayloadKind.TheVariants as kind

-- the kind of immediate that stands for a payload of the kind
abbrev pub imm_kind : PayloadKind → Kind
imm_kind kind.Nothing = imm.Nothing
imm_kind kind.Index = imm.Index
imm_kind kind.Lane = imm.Lane
imm_kind kind.I32 = imm.I32
imm_kind kind.I64 = imm.I64
imm_kind kind.F32 = imm.F32
imm_kind kind.F64 = imm.F64
imm_kind kind.V128 = imm.V128
imm_kind kind.Memory = imm.Mem
imm_kind kind.MemoryLane = imm.MemLane
imm_kind kind.Shuffle = imm.Shuffle
imm_kind kind.Ref = imm.Heap
imm_kind kind.Value = imm.Val
imm_kind kind.MemoryInit = imm.Pair
imm_kind kind.MemoryCopy = imm.Pair
imm_kind kind.TableInit = imm.Pair
imm_kind kind.TableCopy = imm.Pair
