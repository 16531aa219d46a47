use Rattle.peephole_payloads.specs.laws.LawLemmas.{mem_arg_reads_back, mem_lane_back, shuffle_back, table_copy_back, memory_copy_back}
use Rattle.peephole_payloads.specs.laws.LawLemmas.{table_init_back, memory_init_back}
use Rattle.peephole_payloads.proofs.laws.payload_texts_read_back.Goals as goal

pub returns : goal.returns
returns c = record {
  mem_arg = mem_arg_reads_back;
  mem_arg_lane = mem_lane_back;
  shuffle = shuffle_back;
  table_copy = table_copy_back;
  memory_copy = memory_copy_back;
  table_init = table_init_back;
  memory_init = memory_init_back;
}
