-- That payloads compare by their kinds, and then by what they hold.
use Rattle.std.proofs.Common.{◌≡◌, refl}
use Rattle.wasm_code.specs.laws.OrderLemmas.{val_types_in_order}
use Rattle.peephole_payloads.specs.laws.OrderLemmas.{mem_args_in_order, mem_arg_lanes_in_order, shuffles_in_order, ref_types_in_order}
use Rattle.peephole_payloads.specs.laws.OrderLemmas.{memory_inits_in_order, memory_copies_in_order, table_inits_in_order}
use Rattle.peephole_payloads.specs.laws.OrderLemmas.{table_copies_in_order}
use Rattle.peephole_nodes.specs.PayloadOrder.{payload_order}
use Rattle.peephole_nodes.specs.contracts.payload.PayloadOrd.TheImpl as payload_ord
use Rattle.peephole_nodes.specs.declared.payload.Payload.{Payload}
use Rattle.peephole_nodes.specs.declared.payload.Payload.TheVariants as payload

pub payloads_in_order : (x y : Payload) → payload_ord.ghosts.cmp x y ≡ payload_order x y
payloads_in_order payload.Nothing payload.Nothing = refl
payloads_in_order (payload.Index i) (payload.Index j) = refl
payloads_in_order (payload.Lane i) (payload.Lane j) = refl
payloads_in_order (payload.I32 i) (payload.I32 j) = refl
payloads_in_order (payload.I64 i) (payload.I64 j) = refl
payloads_in_order (payload.F32 i) (payload.F32 j) = refl
payloads_in_order (payload.F64 i) (payload.F64 j) = refl
payloads_in_order (payload.V128 i) (payload.V128 j) = refl
payloads_in_order (payload.Memory i) (payload.Memory j) = mem_args_in_order.total i j
payloads_in_order (payload.MemoryLane i) (payload.MemoryLane j) = mem_arg_lanes_in_order.total i j
payloads_in_order (payload.Shuffle i) (payload.Shuffle j) = shuffles_in_order.total i j
payloads_in_order (payload.Ref i) (payload.Ref j) = ref_types_in_order.total i j
payloads_in_order (payload.Value i) (payload.Value j) = val_types_in_order.total i j
payloads_in_order (payload.MemoryInit i) (payload.MemoryInit j) = memory_inits_in_order.total i j
payloads_in_order (payload.MemoryCopy i) (payload.MemoryCopy j) = memory_copies_in_order.total i j
payloads_in_order (payload.TableInit i) (payload.TableInit j) = table_inits_in_order.total i j
payloads_in_order (payload.TableCopy i) (payload.TableCopy j) = table_copies_in_order.total i j
payloads_in_order _ _ = refl
