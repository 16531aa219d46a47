use Rattle.std.proofs.Common.{arith}
use Rattle.std.proofs.lemmas.Result.{err_from_is_err_and}
use Rattle.wasm_code.specs.laws.NumberExact.{unsigned_exact}
use Rattle.wasm_lists.proofs.ListLemmas.{shorter}
use Rattle.wasm_lists.proofs.EntryLemmas.{entry_is, number_fails, skip_fails, skip_shorter}
use Rattle.wasm_lists.proofs.entries.entry_from.Goals as goal

pub returns-in_err-size-clause-gives : goal.returns-in_err-size-clause-gives
returns-in_err-size-clause-gives c =
    let p = err_from_is_err_and c.from_residual.result c.from_residual.ensures.1 in
    rw (p.1, p.2) (number_fails c.args.to c.args.bytes.now _ c.in_err-size.ensures)

pub returns-in_err-rest-clause-gives : goal.returns-in_err-rest-clause-gives
returns-in_err-rest-clause-gives c =
    let p = err_from_is_err_and c.from_residual-in_err-rest.result c.from_residual-in_err-rest.ensures.1 in
    rw (p.1, p.2) (skip_fails c.args.to c.args.bytes.now c.in_ok-size.contents.now c.in_ok-size.size _ c.in_ok-size.ensures c.in_err-rest.ensures)

pub overflow_sub-result-2 : goal.overflow_sub-result-2
overflow_sub-result-2 c =
    let contents = shorter (unsigned_exact 32) c.args.bytes.now c.in_ok-size.size c.in_ok-size.contents.now c.in_ok-size.ensures in
    omega (arith, c.requires)

pub overflow_sub-result-3 : goal.overflow_sub-result-3
overflow_sub-result-3 c =
    let contents = shorter (unsigned_exact 32) c.args.bytes.now c.in_ok-size.size c.in_ok-size.contents.now c.in_ok-size.ensures in
    let rest = skip_shorter c.in_ok-size.size c.in_ok-size.contents.now c.in_ok-rest.rest.now c.in_ok-rest.ensures in
    omega (arith, c.requires)

pub returns-clause-gives : goal.returns-clause-gives
returns-clause-gives c =
    entry_is c.args.to c.args.bytes.now c.in_ok-size.contents.now c.in_ok-rest.rest.now c.in_ok-size.size c.requires c.in_ok-size.ensures
    c.in_ok-rest.ensures

pub returns-clause-within : goal.returns-clause-within
returns-clause-within c =
    let contents = shorter (unsigned_exact 32) c.args.bytes.now c.in_ok-size.size c.in_ok-size.contents.now c.in_ok-size.ensures in
    let rest = skip_shorter c.in_ok-size.size c.in_ok-size.contents.now c.in_ok-rest.rest.now c.in_ok-rest.ensures in
    omega arith
