use Rattle.peephole_payloads.specs.laws.OrderLemmas.{ref_types_in_order, mem_args_in_order, mem_arg_lanes_in_order, shuffles_in_order}
use Rattle.peephole_payloads.specs.laws.OrderLemmas.{table_copies_in_order, memory_copies_in_order, table_inits_in_order}
use Rattle.peephole_payloads.specs.laws.OrderLemmas.{memory_inits_in_order}
use Rattle.peephole_payloads.proofs.laws.payload_parts_are_ordered.Goals as goal

pub returns : goal.returns
returns c = record {
  ref_type = ref_types_in_order;
  mem_arg = mem_args_in_order;
  mem_arg_lane = mem_arg_lanes_in_order;
  shuffle = shuffles_in_order;
  table_copy = table_copies_in_order;
  memory_copy = memory_copies_in_order;
  table_init = table_inits_in_order;
  memory_init = memory_inits_in_order;
}
