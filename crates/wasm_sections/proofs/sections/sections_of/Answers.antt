use Rattle.std.proofs.Common.{◌≡◌, ◌-◌, ◌≤◌, [], ◌∷◌, ◌++◌, length, take, drop, arith}
use Rattle.std.specs.Prelude.{max}
use Rattle.std.proofs.lemmas.Grind.{common_steps}
use Rattle.std.proofs.lemmas.List.{take_all, length-take, length-drop}
use Rattle.wasm_sections.specs.Id.{rank_of}
use Rattle.wasm_sections.proofs.ModuleLemmas.{begins, goes_on, shrinks, stops}
use Rattle.wasm_sections.proofs.sections.sections_of.Goals as goal

pub loop-rest-init : goal.loop-rest-init
loop-rest-init c =
    let bytes = c.args.bytes.now in
    let le : length (drop 8 bytes) ≤ length bytes - 8 = omega (arith, length-drop 8 bytes) in
    let rest : take (length bytes - 8) (drop 8 bytes) ≡ drop 8 bytes = take_all (length bytes - 8) (drop 8 bytes) le in
    let items : c.new-found.result.items ≡ [] = c.new-found.ensures.items in
    record {
      so_far = rw items (begins bytes (take (length bytes - 8) (drop 8 bytes)) c.in_ok-check_preamble.ensures.ok rest);
      within = omega (arith, length-take (length bytes - 8) (drop 8 bytes));
    }

pub loop-rest-preserved : goal.loop-rest-preserved
loop-rest-preserved c =
    let items : c.push.new.self.items ≡ c.loop-rest.found.items ++ c.in-Ok.section ∷ [] = grind (arith, common_steps) in
    let last : c.max-last.result ≡ max c.loop-rest.last (rank_of c.in-Ok.section.id) = rw (← c.rank.ensures) c.max-last.ensures in
    let small = shrinks _ _ _ _ _ c.in-Ok.ensures.found in
    record {
      so_far = rw (items, last) (goes_on _ _ _ _ _ _ c.loop-rest.invariant.so_far c.in-Ok.ensures.found);
      within = let within = c.loop-rest.invariant.within in omega (arith, small);
    }

pub returns-in-Err-clause-fault : goal.returns-in-Err-clause-fault
returns-in-Err-clause-fault c = stops _ _ _ _ _ c.loop-rest.invariant.so_far c.in-Err.ensures.fault
