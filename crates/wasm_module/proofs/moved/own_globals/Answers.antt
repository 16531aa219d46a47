use Rattle.wasm_module.proofs.MovedLemmas.{globals_counted, no_globals}
use Rattle.wasm_module.proofs.moved.own_globals.Goals as goal

pub count_of-requires : goal.count_of-requires
count_of-requires c =
    let h = c.requires in
    (h.1.own_globals, globals_counted c.args.bytes.now h.0 h.1 c.args.sections.now c.in-Some._start c.in-Some.contents.now h.2 h.3 c.in-Some.ensures.found)

pub returns-in-Some : goal.returns-in-Some
returns-in-Some c info layout m e =
    c.count_of.ensures layout.own_globals
    (globals_counted c.args.bytes.now info layout c.args.sections.now c.in-Some._start c.in-Some.contents.now m e c.in-Some.ensures.found)

pub returns-in-None : goal.returns-in-None
returns-in-None c info layout m e = no_globals c.args.bytes.now info layout c.args.sections.now m e c.in-None.ensures.none
