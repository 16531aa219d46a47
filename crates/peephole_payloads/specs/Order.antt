-- The numbers that payloads are ordered by (this project): their fields, in the order in which the structures have them.
use Rattle.std.specs.Prelude.{ℕ, List, [], ◌∷◌}
use Rattle.peephole_payloads.specs.declared.payload.RefType.{RefType}
use Rattle.peephole_payloads.specs.declared.payload.RefType.TheVariants.{Func, Extern}
use Rattle.peephole_payloads.specs.declared.payload.MemArg.{MemArg}
use Rattle.peephole_payloads.specs.declared.payload.MemArgLane.{MemArgLane}
use Rattle.peephole_payloads.specs.declared.payload.Shuffle.{Shuffle}
use Rattle.peephole_payloads.specs.declared.payload.TableCopy.{TableCopy}
use Rattle.peephole_payloads.specs.declared.payload.MemoryCopy.{MemoryCopy}
use Rattle.peephole_payloads.specs.declared.payload.TableInit.{TableInit}
use Rattle.peephole_payloads.specs.declared.payload.MemoryInit.{MemoryInit}

-- the bits of a float
abbrev pub float_numbers : ℕ → List ℕ
float_numbers bits = bits ∷ []

abbrev pub ref_type_numbers : RefType → List ℕ
ref_type_numbers Func = 0 ∷ []
ref_type_numbers Extern = 1 ∷ []

abbrev pub mem_arg_numbers : MemArg → List ℕ
mem_arg_numbers m = m.static_offset ∷ m.align ∷ m.mem ∷ []

abbrev pub mem_arg_lane_numbers : MemArgLane → List ℕ
mem_arg_lane_numbers m = m.memarg.static_offset ∷ m.memarg.align ∷ m.memarg.mem ∷ m.lane ∷ []

abbrev pub shuffle_numbers : Shuffle → List ℕ
shuffle_numbers s = s.indices

abbrev pub table_copy_numbers : TableCopy → List ℕ
table_copy_numbers c = c.src ∷ c.dst ∷ []

abbrev pub memory_copy_numbers : MemoryCopy → List ℕ
memory_copy_numbers c = c.src ∷ c.dst ∷ []

abbrev pub table_init_numbers : TableInit → List ℕ
table_init_numbers i = i.table ∷ i.segment ∷ []

abbrev pub memory_init_numbers : MemoryInit → List ℕ
memory_init_numbers i = i.memory ∷ i.segment ∷ []
