-- What is proposed is new, where anything is.
use Rattle.body_changes.specs.Proposals.{IsNewFrom, MakesAtPlace}
use Rattle.std.proofs.Common.{ℕ, List, sym, ◌∙◌}
use Rattle.std.proofs.lemmas.Bool.{false≢true}
use Rattle.wasm_code.specs.Instruction.{Instruction}
use Rattle.body_changes.proofs.PartLemmas.{ok_some_then}
use Rattle.body_changes.proofs.proposing.made_of.Goals as goal

pub returns-then-not-makes_new-clause-none : goal.returns-then-not-makes_new-clause-none
returns-then-not-makes_new-clause-none c = λ start code makes new.
    false≢true (sym c.if-not-makes_new.true ∙ (c.makes_new.ensures c.args.most c.requires.some).1 (start, code, makes, new))

pub returns-clause-new : goal.returns-clause-new
returns-clause-new c =
    let place = c.args.place.now in
    let (start, code, makes, new) = (c.makes_new.ensures c.args.most c.requires.some).0 c.if-not-makes_new.false in
    ok_some_then c.propose.result (λ p. (s : ℕ) (other : List Instruction) → MakesAtPlace place c.args.most c.args.words.now c.args.change s other →
    IsNewFrom place s other → IsNewFrom place p.start p.code.items) (λ p. IsNewFrom place p.start p.code.items) c.propose.ensures.new
    (λ p wherever. wherever start code makes new)
