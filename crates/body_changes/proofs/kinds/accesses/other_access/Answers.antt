-- It is the only one.
use Rattle.std.proofs.Common.{◌≡◌, List}
use Rattle.wasm_code.specs.Instruction.{Instruction}
use Rattle.body_changes.specs.Proposals.{IsBehindAt, MakesOther}
use Rattle.body_changes.proofs.PartLemmas.{ok_some_then}
use Rattle.body_changes.proofs.kinds.accesses.other_access.Goals as goal

pub returns-clause-only : goal.returns-clause-only
returns-clause-only c =
    let place = c.args.place.now in
    ok_some_then c.behind_operands.result (λ code. IsBehindAt place c.in-Some.other code.items)
    (λ code. (others : List Instruction) → MakesOther place c.args.kind c.args.words.now others → code.items ≡ others) c.behind_operands.ensures.made
    (λ code. c.in-Some.ensures.only code.items)
