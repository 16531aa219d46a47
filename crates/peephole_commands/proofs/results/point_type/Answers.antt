use Rattle.std.proofs.Common.{Ok, Err}
use Rattle.peephole_commands.proofs.Typings.{point_told}
use Rattle.peephole_commands.proofs.results.point_type.Goals as goal

pub returns-in-Ok : goal.returns-in-Ok
returns-in-Ok c = λ preserving g.
    point_told c.faults_are_found.ensures.none c.entries_have_trees.ensures.last c.terms_stand_for_trees.ensures
    c.own_trees_are_kept.ensures.entries c.args.analysis.now preserving c.args.place.now c.args.graph.now (Ok c.in-Ok.ty) c.requires.place g
    c.in-Ok.ensures

pub returns-in-Err : goal.returns-in-Err
returns-in-Err c = λ preserving g.
    point_told c.faults_are_found.ensures.none c.entries_have_trees.ensures.last c.terms_stand_for_trees.ensures
    c.own_trees_are_kept.ensures.entries c.args.analysis.now preserving c.args.place.now c.args.graph.now (Err c.in-Err.error) c.requires.place g
    c.in-Err.ensures
