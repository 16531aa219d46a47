-- The one that the word names.
use Rattle.std.proofs.Common.{◌≡◌, List}
use Rattle.wasm_code.specs.Instruction.{Instruction}
use Rattle.body_changes.specs.declared.change.Change.TheVariants.{Operator}
use Rattle.body_changes.specs.Kinds.{MakesOperator}
use Rattle.body_changes.specs.Proposals.{context_at, operators_of, IsBehindAt, NamesAt}
use Rattle.body_changes.proofs.PartLemmas.{ok_some_then}
use Rattle.body_changes.proofs.kinds.operators.other_behind.Goals as goal

pub returns-clause-named : goal.returns-clause-named
returns-clause-named c =
    let place = c.args.place.now in
    ok_some_then c.behind_operands.result (λ code. IsBehindAt place c.in-Some.other code.items)
    (λ code. (others : List Instruction) → MakesOperator (context_at place) (operators_of place) place.at place.unit others →
    NamesAt place Operator c.args.words.now others → code.items ≡ others) c.behind_operands.ensures.made (λ code. c.in-Some.ensures.named code.items)
