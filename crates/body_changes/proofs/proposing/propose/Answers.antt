-- Change by change.
use Rattle.std.proofs.Common.{ℕ, subst}
use Rattle.body_changes.specs.declared.change.Change.TheVariants as change
use Rattle.body_changes.specs.declared.kinds.accesses.Indexed.TheVariants as indexed
use Rattle.body_changes.specs.Kinds.{MakesCopy, MakesExchanged, MakesFirst, MakesLast, MakesOperator, MakesTurned, MakesTwice}
use Rattle.body_changes.specs.Proposals.{context_at, operators_of, IsNewFrom, MakesOther, NamesAt}
use Rattle.body_changes.proofs.ProposalLemmas.{named_in, named_of, named_only, named_there, new_there, none_in, one_in}
use Rattle.body_changes.proofs.ProposalLemmas.{one_copy, one_exchanged, one_first, one_last, one_turned, one_twice}
use Rattle.body_changes.proofs.proposing.propose.Goals as goal

pub returns-in_ok-other_constant-in-Constant-clause-none : goal.returns-in_ok-other_constant-in-Constant-clause-none
returns-in_ok-other_constant-in-Constant-clause-none c =
    rw c.in-Constant.is (none_in c.in_place.result c.in_ok-other_constant-in-Constant.field-0 (λ never start code makes new. never code makes.1)
    c.in_place.ensures.none c.in_ok-other_constant-in-Constant.ensures.none)

pub returns-in_ok-other_behind-in-Operator-clause-none : goal.returns-in_ok-other_behind-in-Operator-clause-none
returns-in_ok-other_behind-in-Operator-clause-none c =
    rw c.in-Operator.is (none_in c.in_place-in-Operator.result c.in_ok-other_behind-in-Operator.field-0 (λ never start code makes new. never code makes.1)
    c.in_place-in-Operator.ensures.none c.in_ok-other_behind-in-Operator.ensures.none)

pub returns-in_ok-drawn-in-Draw-clause-none : goal.returns-in_ok-drawn-in-Draw-clause-none
returns-in_ok-drawn-in-Draw-clause-none c =
    rw c.in-Draw.is (none_in c.in_place-in-Draw.result c.in_ok-drawn-in-Draw.field-0 (λ never start code makes new. never code makes.1)
    c.in_place-in-Draw.ensures.none c.in_ok-drawn-in-Draw.ensures.none)

pub returns-in_ok-other_behind-in-Operator-clause-named : goal.returns-in_ok-other_behind-in-Operator-clause-named
returns-in_ok-other_behind-in-Operator-clause-named c =
    let place = c.args.place.now in
    rw c.in-Operator.is (named_of (λ code. code.items) (MakesOperator (context_at place) (operators_of place) place.at place.unit) place.unit.start
    c.in_place-in-Operator.result c.in_ok-other_behind-in-Operator.field-0 c.in_place-in-Operator.ensures.some c.in_place-in-Operator.ensures.there
    (IsNewFrom place) (NamesAt place change.Operator c.args.words.now) c.in_ok-other_behind-in-Operator.ensures.named)

pub returns-in_ok-copied-in-Copy-clause-new : goal.returns-in_ok-copied-in-Copy-clause-new
returns-in_ok-copied-in-Copy-clause-new c =
    let place = c.args.place.now in
    rw c.in-Copy.is (one_in (λ code. code.items)
    (MakesCopy place.copied.code.now) (one_copy place.copied.code.now)
    place.unit.start c.in_place-in-Copy.result c.in_ok-copied-in-Copy.field-0 c.in_place-in-Copy.ensures.some c.in_place-in-Copy.ensures.there
    c.in_ok-copied-in-Copy.ensures.made (IsNewFrom place))

pub returns-in_ok-copied-in-Copy-clause-none : goal.returns-in_ok-copied-in-Copy-clause-none
returns-in_ok-copied-in-Copy-clause-none c =
    let place = c.args.place.now in
    rw c.in-Copy.is (none_in c.in_place-in-Copy.result c.in_ok-copied-in-Copy.field-0
    (λ never start code makes new. never code makes.1 (subst (λ (s : ℕ). IsNewFrom place s code) makes.0 new))
    c.in_place-in-Copy.ensures.none c.in_ok-copied-in-Copy.ensures.none)

pub returns-in_ok-copied-in-Copy-clause-named : goal.returns-in_ok-copied-in-Copy-clause-named
returns-in_ok-copied-in-Copy-clause-named c =
    let place = c.args.place.now in
    rw c.in-Copy.is (named_in (λ code. code.items)
    (MakesCopy place.copied.code.now) (one_copy place.copied.code.now)
    place.unit.start c.in_place-in-Copy.result c.in_ok-copied-in-Copy.field-0 c.in_place-in-Copy.ensures.some c.in_place-in-Copy.ensures.there
    c.in_ok-copied-in-Copy.ensures.made (IsNewFrom place)
    (λ start code. NamesAt place change.Copy c.args.words.now code))

pub returns-in_ok-first_operand-in-FirstOperand-clause-new : goal.returns-in_ok-first_operand-in-FirstOperand-clause-new
returns-in_ok-first_operand-in-FirstOperand-clause-new c =
    let place = c.args.place.now in
    rw c.in-FirstOperand.is (one_in (λ code. code.items)
    (MakesFirst (operators_of place) place.unit)
    (one_first (operators_of place) place.unit)
    place.unit.start c.in_place-in-FirstOperand.result c.in_ok-first_operand-in-FirstOperand.field-0
    c.in_place-in-FirstOperand.ensures.some c.in_place-in-FirstOperand.ensures.there
    c.in_ok-first_operand-in-FirstOperand.ensures.made (IsNewFrom place))

pub returns-in_ok-first_operand-in-FirstOperand-clause-none : goal.returns-in_ok-first_operand-in-FirstOperand-clause-none
returns-in_ok-first_operand-in-FirstOperand-clause-none c =
    rw c.in-FirstOperand.is (none_in c.in_place-in-FirstOperand.result c.in_ok-first_operand-in-FirstOperand.field-0
    (λ never start code makes new. never code makes.1)
    c.in_place-in-FirstOperand.ensures.none c.in_ok-first_operand-in-FirstOperand.ensures.none)

pub returns-in_ok-first_operand-in-FirstOperand-clause-named : goal.returns-in_ok-first_operand-in-FirstOperand-clause-named
returns-in_ok-first_operand-in-FirstOperand-clause-named c =
    let place = c.args.place.now in
    rw c.in-FirstOperand.is (named_in (λ code. code.items)
    (MakesFirst (operators_of place) place.unit)
    (one_first (operators_of place) place.unit)
    place.unit.start c.in_place-in-FirstOperand.result c.in_ok-first_operand-in-FirstOperand.field-0
    c.in_place-in-FirstOperand.ensures.some c.in_place-in-FirstOperand.ensures.there
    c.in_ok-first_operand-in-FirstOperand.ensures.made (IsNewFrom place)
    (λ start code. NamesAt place change.FirstOperand c.args.words.now code))

pub returns-in_ok-last_operand-in-LastOperand-clause-new : goal.returns-in_ok-last_operand-in-LastOperand-clause-new
returns-in_ok-last_operand-in-LastOperand-clause-new c =
    let place = c.args.place.now in
    rw c.in-LastOperand.is (one_in (λ code. code.items)
    (MakesLast (operators_of place) place.at place.unit)
    (one_last (operators_of place) place.at place.unit)
    place.unit.start c.in_place-in-LastOperand.result c.in_ok-last_operand-in-LastOperand.field-0
    c.in_place-in-LastOperand.ensures.some c.in_place-in-LastOperand.ensures.there
    c.in_ok-last_operand-in-LastOperand.ensures.made (IsNewFrom place))

pub returns-in_ok-last_operand-in-LastOperand-clause-none : goal.returns-in_ok-last_operand-in-LastOperand-clause-none
returns-in_ok-last_operand-in-LastOperand-clause-none c =
    rw c.in-LastOperand.is (none_in c.in_place-in-LastOperand.result c.in_ok-last_operand-in-LastOperand.field-0
    (λ never start code makes new. never code makes.1)
    c.in_place-in-LastOperand.ensures.none c.in_ok-last_operand-in-LastOperand.ensures.none)

pub returns-in_ok-last_operand-in-LastOperand-clause-named : goal.returns-in_ok-last_operand-in-LastOperand-clause-named
returns-in_ok-last_operand-in-LastOperand-clause-named c =
    let place = c.args.place.now in
    rw c.in-LastOperand.is (named_in (λ code. code.items)
    (MakesLast (operators_of place) place.at place.unit)
    (one_last (operators_of place) place.at place.unit)
    place.unit.start c.in_place-in-LastOperand.result c.in_ok-last_operand-in-LastOperand.field-0
    c.in_place-in-LastOperand.ensures.some c.in_place-in-LastOperand.ensures.there
    c.in_ok-last_operand-in-LastOperand.ensures.made (IsNewFrom place)
    (λ start code. NamesAt place change.LastOperand c.args.words.now code))

pub returns-in_ok-exchanged-in-ExchangeOperands-clause-new : goal.returns-in_ok-exchanged-in-ExchangeOperands-clause-new
returns-in_ok-exchanged-in-ExchangeOperands-clause-new c =
    let place = c.args.place.now in
    rw c.in-ExchangeOperands.is (one_in (λ code. code.items)
    (MakesExchanged (operators_of place) place.at place.unit)
    (one_exchanged (operators_of place) place.at place.unit)
    place.unit.start c.in_place-in-ExchangeOperands.result c.in_ok-exchanged-in-ExchangeOperands.field-0
    c.in_place-in-ExchangeOperands.ensures.some c.in_place-in-ExchangeOperands.ensures.there
    c.in_ok-exchanged-in-ExchangeOperands.ensures.made (IsNewFrom place))

pub returns-in_ok-exchanged-in-ExchangeOperands-clause-none : goal.returns-in_ok-exchanged-in-ExchangeOperands-clause-none
returns-in_ok-exchanged-in-ExchangeOperands-clause-none c =
    rw c.in-ExchangeOperands.is (none_in c.in_place-in-ExchangeOperands.result c.in_ok-exchanged-in-ExchangeOperands.field-0
    (λ never start code makes new. never code makes.1)
    c.in_place-in-ExchangeOperands.ensures.none c.in_ok-exchanged-in-ExchangeOperands.ensures.none)

pub returns-in_ok-exchanged-in-ExchangeOperands-clause-named : goal.returns-in_ok-exchanged-in-ExchangeOperands-clause-named
returns-in_ok-exchanged-in-ExchangeOperands-clause-named c =
    let place = c.args.place.now in
    rw c.in-ExchangeOperands.is (named_in (λ code. code.items)
    (MakesExchanged (operators_of place) place.at place.unit)
    (one_exchanged (operators_of place) place.at place.unit)
    place.unit.start c.in_place-in-ExchangeOperands.result c.in_ok-exchanged-in-ExchangeOperands.field-0
    c.in_place-in-ExchangeOperands.ensures.some c.in_place-in-ExchangeOperands.ensures.there
    c.in_ok-exchanged-in-ExchangeOperands.ensures.made (IsNewFrom place)
    (λ start code. NamesAt place change.ExchangeOperands c.args.words.now code))

pub returns-in_ok-doubled-in-Double-clause-new : goal.returns-in_ok-doubled-in-Double-clause-new
returns-in_ok-doubled-in-Double-clause-new c =
    let place = c.args.place.now in
    rw c.in-Double.is (one_in (λ code. code.items)
    (MakesTwice (operators_of place) place.at place.unit)
    (one_twice (operators_of place) place.at place.unit)
    place.unit.start c.in_place-in-Double.result c.in_ok-doubled-in-Double.field-0 c.in_place-in-Double.ensures.some c.in_place-in-Double.ensures.there
    c.in_ok-doubled-in-Double.ensures.made (IsNewFrom place))

pub returns-in_ok-doubled-in-Double-clause-none : goal.returns-in_ok-doubled-in-Double-clause-none
returns-in_ok-doubled-in-Double-clause-none c =
    rw c.in-Double.is (none_in c.in_place-in-Double.result c.in_ok-doubled-in-Double.field-0 (λ never start code makes new. never code makes.1)
    c.in_place-in-Double.ensures.none c.in_ok-doubled-in-Double.ensures.none)

pub returns-in_ok-doubled-in-Double-clause-named : goal.returns-in_ok-doubled-in-Double-clause-named
returns-in_ok-doubled-in-Double-clause-named c =
    let place = c.args.place.now in
    rw c.in-Double.is (named_in (λ code. code.items)
    (MakesTwice (operators_of place) place.at place.unit)
    (one_twice (operators_of place) place.at place.unit)
    place.unit.start c.in_place-in-Double.result c.in_ok-doubled-in-Double.field-0 c.in_place-in-Double.ensures.some c.in_place-in-Double.ensures.there
    c.in_ok-doubled-in-Double.ensures.made (IsNewFrom place)
    (λ start code. NamesAt place change.Double c.args.words.now code))

pub returns-in-ExchangeStatements-clause-new : goal.returns-in-ExchangeStatements-clause-new
returns-in-ExchangeStatements-clause-new c =
    let place = c.args.place.now in
    rw c.in-ExchangeStatements.is (new_there (MakesTurned (context_at place) (operators_of place) place.at place.unit)
    (one_turned (context_at place) (operators_of place) place.at place.unit) c.turned.result
    c.turned.ensures.made (IsNewFrom place))

pub returns-in-ExchangeStatements-clause-named : goal.returns-in-ExchangeStatements-clause-named
returns-in-ExchangeStatements-clause-named c =
    let place = c.args.place.now in
    rw c.in-ExchangeStatements.is (named_there (MakesTurned (context_at place) (operators_of place) place.at place.unit)
    (one_turned (context_at place) (operators_of place) place.at place.unit) c.turned.result
    c.turned.ensures.made (IsNewFrom place) (λ start code. NamesAt place change.ExchangeStatements c.args.words.now code))

pub returns-in_ok-other_memory-in-MemoryArgument-clause-none : goal.returns-in_ok-other_memory-in-MemoryArgument-clause-none
returns-in_ok-other_memory-in-MemoryArgument-clause-none c =
    rw c.in-MemoryArgument.is (none_in c.in_place-in-MemoryArgument.result c.in_ok-other_memory-in-MemoryArgument.field-0
    (λ never start code makes new. never code makes.1) c.in_place-in-MemoryArgument.ensures.none
    c.in_ok-other_memory-in-MemoryArgument.ensures.none)

pub returns-in_ok-other_access-in-Local-clause-named : goal.returns-in_ok-other_access-in-Local-clause-named
returns-in_ok-other_access-in-Local-clause-named c =
    rw c.in-Local.is (named_only (λ code. code.items) (MakesOther c.args.place.now indexed.Local c.args.words.now) c.args.place.now.unit.start
    c.in_place-in-Local.result c.in_ok-other_access-in-Local.field-0 c.in_place-in-Local.ensures.some c.in_place-in-Local.ensures.there
    (IsNewFrom c.args.place.now) (NamesAt c.args.place.now change.Local c.args.words.now) c.in_ok-other_access-in-Local.ensures.only)

pub returns-in_ok-other_access-in-Global-clause-named : goal.returns-in_ok-other_access-in-Global-clause-named
returns-in_ok-other_access-in-Global-clause-named c =
    rw c.in-Global.is (named_only (λ code. code.items) (MakesOther c.args.place.now indexed.Global c.args.words.now) c.args.place.now.unit.start
    c.in_place-in-Global.result c.in_ok-other_access-in-Global.field-0 c.in_place-in-Global.ensures.some c.in_place-in-Global.ensures.there
    (IsNewFrom c.args.place.now) (NamesAt c.args.place.now change.Global c.args.words.now) c.in_ok-other_access-in-Global.ensures.only)

pub returns-in_ok-other_access-in-Call-clause-named : goal.returns-in_ok-other_access-in-Call-clause-named
returns-in_ok-other_access-in-Call-clause-named c =
    rw c.in-Call.is (named_only (λ code. code.items) (MakesOther c.args.place.now indexed.Function c.args.words.now) c.args.place.now.unit.start
    c.in_place-in-Call.result c.in_ok-other_access-in-Call.field-0 c.in_place-in-Call.ensures.some c.in_place-in-Call.ensures.there
    (IsNewFrom c.args.place.now) (NamesAt c.args.place.now change.Call c.args.words.now) c.in_ok-other_access-in-Call.ensures.only)
