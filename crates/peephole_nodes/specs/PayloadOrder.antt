-- How payloads compare (this project): by their kinds, in the order of the definition, and payloads of one kind by what they hold.
use Rattle.std.specs.Prelude.{ℕ, [], ◌∷◌}
use Rattle.std.specs.Ordering.{nat_cmp, int_cmp, ordering_then}
use Rattle.std.specs.declared.cmp.Ordering.{Ordering}
use Rattle.std.specs.declared.cmp.Ordering.TheVariants.{Equal}
use Rattle.wasm_code.specs.Order.{lexicographic, val_type_place}
use Rattle.peephole_payloads.specs.Order.{ref_type_numbers, mem_arg_numbers, mem_arg_lane_numbers, shuffle_numbers, table_copy_numbers}
use Rattle.peephole_payloads.specs.Order.{memory_copy_numbers, table_init_numbers, memory_init_numbers}
use Rattle.peephole_nodes.specs.declared.payload.Payload.{Payload}
use Rattle.peephole_nodes.specs.declared.payload.Payload.TheVariants.{Nothing, Index, Lane, I32, I64, F32, F64, V128, Memory, MemoryLane}
use Rattle.peephole_nodes.specs.declared.payload.Payload.TheVariants.{Shuffle, Ref, Value, MemoryInit, MemoryCopy, TableInit, TableCopy}

-- the place of a payload's kind
abbrev pub payload_place : Payload → ℕ
payload_place Nothing = 0
payload_place (Index _) = 1
payload_place (Lane _) = 2
payload_place (I32 _) = 3
payload_place (I64 _) = 4
payload_place (F32 _) = 5
payload_place (F64 _) = 6
payload_place (V128 _) = 7
payload_place (Memory _) = 8
payload_place (MemoryLane _) = 9
payload_place (Shuffle _) = 10
payload_place (Ref _) = 11
payload_place (Value _) = 12
payload_place (MemoryInit _) = 13
payload_place (MemoryCopy _) = 14
payload_place (TableInit _) = 15
payload_place (TableCopy _) = 16

-- payloads of one kind: signed numbers as they are, floats by their bits, several fields in turn
abbrev pub content_order : Payload → Payload → Ordering
content_order (Index i) (Index j) = nat_cmp i j
content_order (Lane i) (Lane j) = nat_cmp i j
content_order (I32 i) (I32 j) = int_cmp i j
content_order (I64 i) (I64 j) = int_cmp i j
content_order (F32 i) (F32 j) = nat_cmp i j
content_order (F64 i) (F64 j) = nat_cmp i j
content_order (V128 i) (V128 j) = int_cmp i j
content_order (Memory i) (Memory j) = lexicographic (mem_arg_numbers i) (mem_arg_numbers j)
content_order (MemoryLane i) (MemoryLane j) = lexicographic (mem_arg_lane_numbers i) (mem_arg_lane_numbers j)
content_order (Shuffle i) (Shuffle j) = lexicographic (shuffle_numbers i) (shuffle_numbers j)
content_order (Ref i) (Ref j) = lexicographic (ref_type_numbers i) (ref_type_numbers j)
content_order (Value i) (Value j) = lexicographic (val_type_place i ∷ []) (val_type_place j ∷ [])
content_order (MemoryInit i) (MemoryInit j) = lexicographic (memory_init_numbers i) (memory_init_numbers j)
content_order (MemoryCopy i) (MemoryCopy j) = lexicographic (memory_copy_numbers i) (memory_copy_numbers j)
content_order (TableInit i) (TableInit j) = lexicographic (table_init_numbers i) (table_init_numbers j)
content_order (TableCopy i) (TableCopy j) = lexicographic (table_copy_numbers i) (table_copy_numbers j)
content_order _ _ = Equal

abbrev pub payload_order : Payload → Payload → Ordering
payload_order x y = ordering_then (nat_cmp (payload_place x) (payload_place y)) (content_order x y)
