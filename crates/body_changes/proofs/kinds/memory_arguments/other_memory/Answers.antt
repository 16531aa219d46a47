-- The one that words name.
use Rattle.std.proofs.Common.{◌≡◌, List}
use Rattle.wasm_code.specs.Instruction.{Instruction}
use Rattle.body_changes.specs.Kinds.{MakesMemoryArgument, NamesArgument}
use Rattle.body_changes.specs.Proposals.{operators_of, IsBehindAt, IsNewAt}
use Rattle.body_changes.proofs.PartLemmas.{ok_some_then}
use Rattle.body_changes.proofs.kinds.memory_arguments.other_memory.Goals as goal

pub returns-clause-named : goal.returns-clause-named
returns-clause-named c =
    let place = c.args.place.now in
    ok_some_then c.behind_operands.result (λ code. IsBehindAt place c.in-Some.other code.items)
    (λ code. (others : List Instruction) → MakesMemoryArgument (operators_of place) place.at place.unit others → IsNewAt place others →
    NamesArgument c.args.words.now others → code.items ≡ others) c.behind_operands.ensures.made (λ code. c.in-Some.ensures.named code.items)
