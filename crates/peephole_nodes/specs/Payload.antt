-- The immediate that stands for a payload, and the payload that stands for an immediate (this project; the order of two
-- indexes: WebAssembly Core Specification 3.0, Binary Format, Instructions: segment, then memory or table, and destination,
-- then source).
use Rattle.std.specs.Prelude.{nat_lt, Bool, true, false, Option, Some, None}
use Rattle.wasm_code.specs.declared.immediate.AbstractHeapType.TheVariants as ty
use Rattle.wasm_code.specs.declared.immediate.AbstractHeapType.{AbstractHeapType}
use Rattle.wasm_code.specs.declared.immediate.HeapType.TheVariants.{Abstract}
use Rattle.wasm_code.specs.declared.immediate.Imm.{Imm}
use Rattle.wasm_code.specs.declared.immediate.Imm.TheVariants as imm
use Rattle.peephole_payloads.specs.declared.payload.RefType.{RefType}
use Rattle.peephole_payloads.specs.declared.payload.RefType.TheVariants as ref
use Rattle.peephole_payloads.specs.Payload.{ref_heap_type, payload_of_mem_arg, mem_arg_of_payload}
use Rattle.peephole_nodes.specs.declared.payload.Payload.{Payload}
use Rattle.peephole_nodes.specs.declared.payload.Payload.TheVariants as payload
use Rattle.peephole_nodes.specs.declared.payload.PayloadKind.{PayloadKind}
use Rattle.peephole_nodes.specs.declared.payload.PayloadKind.TheVariants as kind

abbrev pub imm_of : Payload → Imm
imm_of payload.Nothing = imm.Nothing
imm_of (payload.Index index) = imm.Index index
imm_of (payload.Lane lane) = imm.Lane lane
imm_of (payload.I32 number) = imm.I32 number
imm_of (payload.I64 number) = imm.I64 number
imm_of (payload.F32 bits) = imm.F32 bits
imm_of (payload.F64 bits) = imm.F64 bits
imm_of (payload.V128 number) = imm.V128 number
imm_of (payload.Memory m) = imm.Mem (mem_arg_of_payload m)
imm_of (payload.MemoryLane m) = imm.MemLane (mem_arg_of_payload m.memarg) m.lane
imm_of (payload.Shuffle s) = imm.Shuffle s.indices
imm_of (payload.Ref t) = imm.Heap (ref_heap_type t)
imm_of (payload.Value t) = imm.Val t
imm_of (payload.MemoryInit x) = imm.Pair x.segment x.memory
imm_of (payload.MemoryCopy x) = imm.Pair x.dst x.src
imm_of (payload.TableInit x) = imm.Pair x.segment x.table
imm_of (payload.TableCopy x) = imm.Pair x.dst x.src

-- the exponent of its alignment, where it has one, is below 64
abbrev pub is_writable : Payload → Bool
is_writable (payload.Memory m) = nat_lt m.align 64
is_writable (payload.MemoryLane m) = nat_lt m.memarg.align 64
is_writable _ = true

-- a payload of that kind
abbrev pub is_payload_of : PayloadKind → Payload → Bool
is_payload_of kind.Nothing payload.Nothing = true
is_payload_of kind.Index (payload.Index _) = true
is_payload_of kind.Lane (payload.Lane _) = true
is_payload_of kind.I32 (payload.I32 _) = true
is_payload_of kind.I64 (payload.I64 _) = true
is_payload_of kind.F32 (payload.F32 _) = true
is_payload_of kind.F64 (payload.F64 _) = true
is_payload_of kind.V128 (payload.V128 _) = true
is_payload_of kind.Memory (payload.Memory _) = true
is_payload_of kind.MemoryLane (payload.MemoryLane _) = true
is_payload_of kind.Shuffle (payload.Shuffle _) = true
is_payload_of kind.Ref (payload.Ref _) = true
is_payload_of kind.Value (payload.Value _) = true
is_payload_of kind.MemoryInit (payload.MemoryInit _) = true
is_payload_of kind.MemoryCopy (payload.MemoryCopy _) = true
is_payload_of kind.TableInit (payload.TableInit _) = true
is_payload_of kind.TableCopy (payload.TableCopy _) = true
is_payload_of _ _ = false

abbrev pub ref_type_of : AbstractHeapType → RefType
ref_type_of ty.Func = ref.Func
ref_type_of ty.Extern = ref.Extern

-- the payload of that kind that stands for the immediate, or none
abbrev pub payload_of_imm : PayloadKind → Imm → Option Payload
payload_of_imm kind.Nothing imm.Nothing = Some payload.Nothing
payload_of_imm kind.Index (imm.Index index) = Some (payload.Index index)
payload_of_imm kind.Lane (imm.Lane lane) = Some (payload.Lane lane)
payload_of_imm kind.I32 (imm.I32 number) = Some (payload.I32 number)
payload_of_imm kind.I64 (imm.I64 number) = Some (payload.I64 number)
payload_of_imm kind.F32 (imm.F32 bits) = Some (payload.F32 bits)
payload_of_imm kind.F64 (imm.F64 bits) = Some (payload.F64 bits)
payload_of_imm kind.V128 (imm.V128 number) = Some (payload.V128 number)
payload_of_imm kind.Memory (imm.Mem m) = Some (payload.Memory (payload_of_mem_arg m))
payload_of_imm kind.MemoryLane (imm.MemLane m lane) = Some (payload.MemoryLane (record { memarg = payload_of_mem_arg m; lane = lane }))
payload_of_imm kind.Shuffle (imm.Shuffle lanes) = Some (payload.Shuffle (record { indices = lanes }))
payload_of_imm kind.Ref (imm.Heap (Abstract t)) = Some (payload.Ref (ref_type_of t))
payload_of_imm kind.Value (imm.Val t) = Some (payload.Value t)
payload_of_imm kind.MemoryInit (imm.Pair segment memory) = Some (payload.MemoryInit (record { memory = memory; segment = segment }))
payload_of_imm kind.MemoryCopy (imm.Pair dst src) = Some (payload.MemoryCopy (record { src = src; dst = dst }))
payload_of_imm kind.TableInit (imm.Pair segment table) = Some (payload.TableInit (record { table = table; segment = segment }))
payload_of_imm kind.TableCopy (imm.Pair dst src) = Some (payload.TableCopy (record { src = src; dst = dst }))
payload_of_imm _ _ = None
