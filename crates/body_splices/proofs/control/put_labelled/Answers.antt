-- A label of one byte is spelled by one byte or by two.
use Rattle.std.proofs.Common.{ℕ, List, ◌++◌, ◌∷◌, ◌≡◌, OnOk, subst, arith}
use Rattle.body_splices.proofs.LabelLemmas.{one_byte, two_bytes}
use Rattle.body_splices.proofs.control.put_labelled.Goals as goal

pub returns-then-label-lt128-clause-ok : goal.returns-then-label-lt128-clause-ok
returns-then-label-lt128-clause-ok c =
    subst (λ (text : List ℕ). OnOk c.raw.result (c.raw.new.self ≡ c.args.sink.now ++ c.args.opcode ∷ text))
    (one_byte c.args.label (omega (arith, c.if-label-lt128.true))) c.raw.ensures.ok

pub returns-else-label-lt128-clause-ok : goal.returns-else-label-lt128-clause-ok
returns-else-label-lt128-clause-ok c =
    let raw = c.raw-else-label-lt128 in
    subst (λ (text : List ℕ). OnOk raw.result (raw.new.self ≡ c.args.sink.now ++ c.args.opcode ∷ text))
    (two_bytes c.args.label (omega (arith, c.if-label-lt128.false)) (omega (arith, c.ranges.label.fits))) raw.ensures.ok
