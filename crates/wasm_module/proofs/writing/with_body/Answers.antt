use Rattle.std.proofs.Common.{◌≡◌, ◌++◌, length, arith, length-append}
use Rattle.wasm_module.proofs.RewrittenLemmas.{rewrites, too_large}
use Rattle.wasm_module.proofs.writing.with_body.Goals as goal

pub code_size-requires-clause-first : goal.code_size-requires-clause-first
code_size-requires-clause-first c = let place = c.code_place.ensures c.args.bytes.now c.requires.module.0 c.requires.module.1 in place.placed.first

pub code_size-requires-clause-order : goal.code_size-requires-clause-order
code_size-requires-clause-order c = let place = c.code_place.ensures c.args.bytes.now c.requires.module.0 c.requires.module.1 in place.placed.order

pub code_size-requires-clause-last : goal.code_size-requires-clause-last
code_size-requires-clause-last c = let place = c.code_place.ensures c.args.bytes.now c.requires.module.0 c.requires.module.1 in place.placed.last

pub returns-in_err-whole-clause-too_large : goal.returns-in_err-whole-clause-too_large
returns-in_err-whole-clause-too_large c is =
    let place = c.code_place.ensures c.args.bytes.now c.requires.module.0 c.requires.module.1 in
    let size : c.in_ok-size.size ≡ length (c.args.locals.now ++ c.args.expression.now) =
    omega (arith, c.in_ok-size.ensures.ok, length-append c.args.locals.now c.args.expression.now) in
    too_large _ _ _ _ _ _ _ _ place size c.in_err-whole.ensures.too_large

pub overflow_sub-behind : goal.overflow_sub-behind
overflow_sub-behind c = let place = c.code_place.ensures c.args.bytes.now c.requires.module.0 c.requires.module.1 in place.placed.inside

pub front_with-requires : goal.front_with-requires
front_with-requires c = let place = c.code_place.ensures c.args.bytes.now c.requires.module.0 c.requires.module.1 in record { room = place.room }

pub put_code-requires-clause-placed : goal.put_code-requires-clause-placed
put_code-requires-clause-placed c = let place = c.code_place.ensures c.args.bytes.now c.requires.module.0 c.requires.module.1 in place.placed

pub returns-clause-written : goal.returns-clause-written
returns-clause-written c =
    let place = c.code_place.ensures c.args.bytes.now c.requires.module.0 c.requires.module.1 in
    let size : c.in_ok-size.size ≡ length (c.args.locals.now ++ c.args.expression.now) =
    omega (arith, c.in_ok-size.ensures.ok, length-append c.args.locals.now c.args.expression.now) in
    rewrites _ _ _ _ _ _ _ _ _ _ _ _ place size (omega arith) c.in_ok-whole.ensures.ok (omega arith) c.in_ok-new.ensures.written
    c.in_ok-put_head.ensures.ok c.in_ok-put_code.ensures
