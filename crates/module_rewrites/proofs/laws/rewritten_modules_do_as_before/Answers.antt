use Rattle.module_rewrites.proofs.DoesAsBeforeLemmas.{OfModules, OfPrograms, does_after, mutated_does, mutates_does}
use Rattle.module_rewrites.proofs.StandAgainLemmas.{OneReading}
use Rattle.module_rewrites.proofs.SameModuleLemmas.{OfStripped, does_itself, does_stripped}
use Rattle.module_rewrites.proofs.laws.rewritten_modules_do_as_before.Goals as goal

pub returns : goal.returns
returns c =
    let one : OneReading = record { locals = c.one_list.ensures.locals; operators = c.one_list-2.ensures } in
    let modules : OfModules = record { one = c.one_reading.ensures; made = c.rewritten_modules_are_made_alike.ensures.rewritten } in
    let stripped : OfStripped = record {
      one = c.one_module.ensures;
      same = c.modules_without_debug_are_the_same.ensures;
      made = c.rewritten_modules_are_made_alike.ensures.stripped;
    } in
    let law : OfPrograms = record {
      one = c.one_function_is_rewritten.ensures.one;
      themselves = c.one_function_is_rewritten.ensures.none;
      pieces = c.pieces_do_as_before.ensures;
      valid = c.valid_modules_do_more.ensures.valid;
      more = c.valid_modules_do_more.ensures.more;
      sessions = c.valid_modules_do_more.ensures.sessions;
      harnesses = c.valid_modules_do_more.ensures.harnesses;
      sound = c.valid_modules_do_more.ensures.sound;
      embedders = c.embedders_are_sound.ensures;
      again = c.rewritten_modules_do_more.ensures.follow;
      calls = c.sessions_do_more.ensures.calls;
      tells = c.sessions_do_more.ensures.harnesses;
    } in
    record {
      one = λ scope bytes new function rewrite m. mutated_does one law modules scope bytes function rewrite new m;
      each = λ scope count bytes new made stopped m. mutates_does one law modules scope count bytes made new stopped m;
      stripped = does_stripped law c.own_bytes_stay.ensures stripped;
      itself = does_itself law c.own_bytes_stay.ensures;
      follow = does_after law;
    }
