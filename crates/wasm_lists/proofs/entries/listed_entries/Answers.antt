use Rattle.std.proofs.Common.{◌≤◌, length, refl, arith}
use Rattle.std.proofs.lemmas.Grind.{common_steps}
use Rattle.wasm_code.specs.laws.NumberExact.{unsigned_exact}
use Rattle.wasm_lists.proofs.ListLemmas.{shorter, empty_is}
use Rattle.wasm_lists.proofs.EntryLemmas.{are_read, size_fails, more_sizes}
use Rattle.wasm_lists.proofs.entries.listed_entries.Goals as goal

pub entries_of-requires : goal.entries_of-requires
entries_of-requires c =
    let counted = shorter (unsigned_exact 32) c.args.contents.now c.in-Ok.counted.0 c.in-Ok.counted.1.now c.in-Ok.ensures in
    omega arith

pub overflow_sub-result : goal.overflow_sub-result
overflow_sub-result c =
    let counted = shorter (unsigned_exact 32) c.args.contents.now c.in-Ok.counted.0 c.in-Ok.counted.1.now c.in-Ok.ensures in
    let within : length c.in-Ok-entries_of.behind.now ≤ length c.in-Ok.counted.1.now = c.in-Ok-entries_of.ensures.within in
    omega arith

pub error_of-requires-clause-left : goal.error_of-requires-clause-left
error_of-requires-clause-left c =
    let counted = shorter (unsigned_exact 32) c.args.contents.now c.in-Ok.counted.0 c.in-Ok.counted.1.now c.in-Ok.ensures in
    let left : c.in-Err-entries_of.stop.left ≤ length c.in-Ok.counted.1.now = c.in-Err-entries_of.ensures.left in
    omega arith

pub returns-then-is_empty-clause-found : goal.returns-then-is_empty-clause-found
returns-then-is_empty-clause-found c =
    are_read c.args.start c.args.contents.now c.in-Ok.counted.1.now c.in-Ok-entries_of.behind.now c.in-Ok.counted.0 c.in-Ok-entries_of.entries.items
    c.in-Ok.ensures c.in-Ok-entries_of.ensures.found (empty_is c.in-Ok-entries_of.behind.now (grind (arith, common_steps)))

pub returns-else-is_empty-clause-fault : goal.returns-else-is_empty-clause-fault
returns-else-is_empty-clause-fault c =
    more_sizes c.args.start c.args.contents.now c.in-Ok.counted.1.now c.in-Ok-entries_of.behind.now c.in-Ok.counted.0
    c.in-Ok-entries_of.entries.items _ c.in-Ok.ensures c.in-Ok-entries_of.ensures.found (grind (arith, common_steps)) refl refl

pub returns-in-Err-entries_of-clause-fault : goal.returns-in-Err-entries_of-clause-fault
returns-in-Err-entries_of-clause-fault c =
    rw c.error_of.ensures (size_fails c.args.start c.args.contents.now c.in-Ok.counted.1.now c.in-Ok.counted.0 c.in-Err-entries_of.stop.refusal
    c.in-Err-entries_of.stop.left c.in-Ok.ensures c.in-Err-entries_of.ensures.stops)
