-- Payloads of nodes as immediates of instructions, field by field (this project).
use Rattle.wasm_code.specs.declared.immediate.HeapType.{HeapType}
use Rattle.wasm_code.specs.declared.immediate.HeapType.TheVariants.{Abstract}
use Rattle.wasm_code.specs.declared.immediate.AbstractHeapType.TheVariants as ty
use Rattle.wasm_code.specs.declared.immediate.MemArg as wasm
use Rattle.peephole_payloads.specs.declared.payload.RefType.{RefType}
use Rattle.peephole_payloads.specs.declared.payload.RefType.TheVariants.{Func, Extern}
use Rattle.peephole_payloads.specs.declared.payload.MemArg.{MemArg}

abbrev pub ref_heap_type : RefType → HeapType
ref_heap_type Func = Abstract ty.Func
ref_heap_type Extern = Abstract ty.Extern

abbrev pub payload_of_mem_arg : wasm.MemArg → MemArg
payload_of_mem_arg m = record { static_offset = m.offset; align = m.align; mem = m.memory }

abbrev pub mem_arg_of_payload : MemArg → wasm.MemArg
mem_arg_of_payload p = record { offset = p.static_offset; align = p.align; memory = p.mem }
