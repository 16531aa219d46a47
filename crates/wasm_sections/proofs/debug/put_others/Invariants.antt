use Rattle.std.proofs.Common.{take}
use Rattle.wasm_sections.specs.Reader.{ArePut}
use Rattle.wasm_sections.proofs.debug.put_others.Given as goal

abbrev pub invariant-loop-section : goal.invariant-loop-section
invariant-loop-section l = ArePut l.bytes (take l.section-index l.sections) l.initial.out.items l.out.items
