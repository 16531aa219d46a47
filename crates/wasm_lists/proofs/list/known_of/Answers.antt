use Rattle.std.proofs.Common.{refl, arith}
use Rattle.wasm_code.specs.laws.NumberExact.{unsigned_exact}
use Rattle.wasm_lists.proofs.ListLemmas.{shorter}
use Rattle.wasm_lists.proofs.KnownLemmas.{all_known, more_known, none_known, some_known}
use Rattle.wasm_lists.proofs.list.known_of.Goals as goal

pub error_of-error-requires-clause-left : goal.error_of-error-requires-clause-left
error_of-error-requires-clause-left g c =
    let counted = shorter (unsigned_exact 32) c.args.contents.now c.in-Ok.counted.0 c.in-Ok.counted.1.now c.in-Ok.ensures in
    omega (arith, c.each_of-items.ensures.within)

pub overflow_sub-result : goal.overflow_sub-result
overflow_sub-result g c =
    let counted = shorter (unsigned_exact 32) c.args.contents.now c.in-Ok.counted.0 c.in-Ok.counted.1.now c.in-Ok.ensures in
    omega (arith, c.each_of-items.ensures.within)

pub returns-in-None-clause-fault : goal.returns-in-None-clause-fault
returns-in-None-clause-fault g c =
    more_known g.T.Item.at c.args.start c.args.contents.now c.in-Ok.counted.1.now c.each_of-items.result.1.now c.in-Ok.counted.0
    c.each_of-items.result.0.items c.each_of-items.result.2 _ c.in-Ok.ensures c.each_of-items.ensures.runs c.in-None.is c.if-left-gt0.true refl refl

pub returns-in-None-2-clause-found : goal.returns-in-None-2-clause-found
returns-in-None-2-clause-found g c =
    all_known g.T.Item.at c.args.contents.now c.in-Ok.counted.1.now c.each_of-items.result.1.now c.in-Ok.counted.0 c.each_of-items.result.0.items
    c.each_of-items.result.2 c.in-Ok.ensures c.each_of-items.ensures.runs c.in-None.is (omega (arith, c.if-left-gt0.false))

pub returns-then-is_unknown-clause-found : goal.returns-then-is_unknown-clause-found
returns-then-is_unknown-clause-found g c =
    rw c.error_of-error.ensures (some_known g.T.Item.at c.args.start c.args.contents.now c.in-Ok.counted.1.now c.each_of-items.result.1.now
    c.in-Ok.counted.0 c.each_of-items.result.0.items c.each_of-items.result.2 c.in-Some.refusal c.in-Ok.ensures c.each_of-items.ensures.runs c.in-Some.is
    (c.is_unknown.ensures.0 c.if-is_unknown.true))

pub returns-else-is_unknown-clause-fault : goal.returns-else-is_unknown-clause-fault
returns-else-is_unknown-clause-fault g c =
    rw c.error_of-error.ensures (none_known g.T.Item.at c.args.start c.args.contents.now c.in-Ok.counted.1.now c.each_of-items.result.1.now
    c.in-Ok.counted.0 c.each_of-items.result.0.items c.each_of-items.result.2 c.in-Some.refusal c.in-Ok.ensures c.each_of-items.ensures.runs c.in-Some.is
    (λ unknown. let yes = c.is_unknown.ensures.1 unknown in let no = c.if-is_unknown.false in absurd cc))
