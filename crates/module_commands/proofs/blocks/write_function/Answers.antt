-- The lines of the blocks, or that of the fault.
use Rattle.module_commands.proofs.FaultsLemmas.{tells_read, tells_unread}
use Rattle.module_commands.proofs.TurnLemmas.{ok_map}
use Rattle.module_commands.proofs.blocks.write_function.Goals as goal

pub returns-in-Ok-clause-lines : goal.returns-in-Ok-clause-lines
returns-in-Ok-clause-lines g c =
    ok_map c.write_blocks.result (λ h. (
      h.0,
      h.1,
      tells_read c.args.form c.args.bytes.now c.args.wasm.now.info c.args.wasm.now.layout c.args.n c.in-Ok.function.locals.items
          c.in-Ok.function.expression c.in-Ok.function.operators.items c.deref.result.now c.index_of-index.result h.0 c.deref.ensures.value
          c.in-Ok.ensures.read c.in-Ok.ensures.only c.index_of-index.ensures h.2,
    )) c.write_blocks.ensures.lines

pub returns-else-is_memory-clause-lines : goal.returns-else-is_memory-clause-lines
returns-else-is_memory-clause-lines g c =
    ok_map c.write_fault.result (λ h. (
      h.0,
      h.1,
      tells_unread c.args.form c.args.bytes.now c.args.wasm.now.info c.args.wasm.now.layout c.args.n c.in-Err.e h.0 (λ l x o f.
          let memory = c.is_memory.ensures.1 (c.in-Err.ensures.only l x o f) in
          let other = c.if-is_memory.false in
          absurd cc)
          (record { fault = c.in-Err.ensures.fault; known = λ m. let memory = c.is_memory.ensures.1 m in let other = c.if-is_memory.false in absurd cc }) h.2,
    )) c.write_fault.ensures.line
