use Rattle.peephole_payloads.specs.laws.Equality.{ref_types_equal, mem_args_equal, mem_arg_lanes_equal, shuffles_equal, table_copies_equal}
use Rattle.peephole_payloads.specs.laws.Equality.{memory_copies_equal, table_inits_equal, memory_inits_equal}
use Rattle.peephole_payloads.proofs.laws.equal_payload_parts.Goals as goal

pub returns : goal.returns
returns c = record {
  ref_type = ref_types_equal;
  mem_arg = mem_args_equal;
  mem_arg_lane = mem_arg_lanes_equal;
  shuffle = shuffles_equal;
  table_copy = table_copies_equal;
  memory_copy = memory_copies_equal;
  table_init = table_inits_equal;
  memory_init = memory_inits_equal;
}
