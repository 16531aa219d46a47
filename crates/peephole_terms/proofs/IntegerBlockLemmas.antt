-- A block of integer rows runs as before where it isn't stuck with further globals behind the module's, and asks no world.
use Rattle.std.proofs.Common.{ℕ, List, [], ◌∷◌}
use Rattle.std.specs.List.{All}
use Rattle.std.proofs.lemmas.List.Elements.{All-nil, All-cons, All-head, All-tail}
use Rattle.wasm_code.specs.Instruction.{Instruction}
use Rattle.wasm_code.specs.declared.operator.Operator.{Operator}
use Rattle.wasm_code.specs.declared.operator.Operator.TheVariants.{Instr}
use Rattle.wasm_execution.specs.Values.{Context, context_in}
use Rattle.wasm_execution.specs.IntegerRow.{integer_row}
use Rattle.wasm_execution.specs.Laws.{NamesIn, IsFreeAlone, IsIntegerRow, AskNoWorld}
use Rattle.peephole_terms.specs.Written.{block_operators}
use Rattle.peephole_terms.specs.SameRun.{and_instruction, instructions_in, IsIntegerOperator, IntegerBlocksRunAsBefore, IntegerBlocksAskNoWorld}

-- what holds of integer operators holds of the instructions among them
module _ (context : Context) (P : Instruction → Type 0) (holds : (i : Instruction) → IsIntegerOperator context (Instr i) → P i) where
  and_all : (o : Operator) (is : List Instruction) → IsIntegerOperator context o → All P is → All P (and_instruction o is)
  and_all (Instr i) is h all = All-cons P i is (holds i h) all
  and_all _ is h all = absurd h

  all_in : (os : List (Operator × ℕ)) → All (λ (o : Operator × ℕ). IsIntegerOperator context o.0) os → All P (instructions_in os)
  all_in [] h = All-nil P
  all_in (o ∷ os) h =
      let Q = λ (o : Operator × ℕ). IsIntegerOperator context o.0 in
      and_all o.0 (instructions_in os) (All-head Q o os h) (all_in os (All-tail Q o os h))

pub integer_blocks_run : IsFreeAlone → IntegerBlocksRunAsBefore
integer_blocks_run free s site graph t written runs locals more r block stack state others requested hs hv ho hr n =
    let context = context_in s.info locals in
    let names = all_in context (λ i. NamesIn context (integer_row i)) (λ i h. h.1) (block_operators site) block in
    runs locals more r stack state others requested hs hv hr
    (free context (instructions_in (block_operators site)) stack others state hv hs names n)

pub integer_blocks_ask : AskNoWorld → IntegerBlocksAskNoWorld
integer_blocks_ask ask context site block stack state rest w e =
    ask (instructions_in (block_operators site)) stack state rest w e
    (all_in context (λ i. IsIntegerRow (integer_row i)) (λ i h. h.0) (block_operators site) block)
