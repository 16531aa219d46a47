-- Where a variable of the type has the number, it is that one.
use Rattle.std.proofs.Common.{◌≡◌, ◌%◌, None, Some, sym, ◌∙◌, mod-eq_of_lt, arith}
use Rattle.body_changes.proofs.VariableLemmas.{index_found, index_there, rank_small}
use Rattle.body_changes.proofs.variables.variable_of.Goals as goal

pub returns-then-count-eq0-clause-only : goal.returns-then-count-eq0-clause-only
returns-then-count-eq0-clause-only c = λ n small there is.
    let less = rank_small c.args.types.now c.args.wanted n there in
    let count = c.count_of-count.ensures in
    let none = c.if-count-eq0.true in
    absurd (omega arith)

pub returns-in-Some-clause-some : goal.returns-in-Some-clause-some
returns-in-Some-clause-some c =
    index_there c.args.types.now c.args.wanted c.index_of.result c.in-Some.place c.index_of.ensures.some (rw c.in-Some.is at c.place_of.ensures.some)

pub returns-in-Some-clause-only : goal.returns-in-Some-clause-only
returns-in-Some-clause-only c = λ n small there is.
    let less = rank_small c.args.types.now c.args.wanted n there in
    let count = c.count_of-count.ensures in
    let same : c.args.number % c.count_of-count.result ≡ c.args.number = mod-eq_of_lt (omega arith) in
    let found : Some c.in-Some.place ≡ Some n = sym c.in-Some.is ∙ c.place_of.ensures.only n there (is ∙ sym same) in
    let place : c.in-Some.place ≡ n = cc in
    index_found c.index_of.result c.in-Some.place n c.index_of.ensures.some c.index_of.ensures.none place small

pub returns-in-None-clause-only : goal.returns-in-None-clause-only
returns-in-None-clause-only c = λ n small there is.
    let less = rank_small c.args.types.now c.args.wanted n there in
    let count = c.count_of-count.ensures in
    let same : c.args.number % c.count_of-count.result ≡ c.args.number = mod-eq_of_lt (omega arith) in
    let found : None ≡ Some n = sym c.in-None.is ∙ c.place_of.ensures.only n there (is ∙ sym same) in
    absurd cc
