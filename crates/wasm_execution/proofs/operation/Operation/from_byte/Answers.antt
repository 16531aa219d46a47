use Rattle.wasm_execution.proofs.OperationLemmas.{first_of_five, first_of_all}
use Rattle.wasm_execution.proofs.operation.Operation.from_byte.Goals as goal

pub returns : goal.returns
returns c = record {
  operator = first_of_five _ _ _ _ _ _ _ _ _ _ _ _ _ _ c.or.ensures c.or-2.ensures c.or-3.ensures c.or-4.ensures
      c.operation_at.ensures.operator c.operation_at-2.ensures.operator c.operation_at-3.ensures.operator
      c.operation_at-4.ensures.operator c.operation_at-5.ensures.operator;
  opcode = first_of_all c.args.byte _ _ _ _ _ _ _ _ _ c.or.ensures c.or-2.ensures c.or-3.ensures c.or-4.ensures
      c.operation_at.ensures.place c.operation_at-2.ensures.place c.operation_at-3.ensures.place
      c.operation_at-4.ensures.place c.operation_at-5.ensures.place;
}
