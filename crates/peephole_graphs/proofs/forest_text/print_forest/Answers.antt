use Rattle.std.proofs.lemmas.Result.{err_from_is_err_and}
use Rattle.peephole_graphs.proofs.forest_text.print_forest.Goals as goal

pub returns-in_err-write_roots : goal.returns-in_err-write_roots
returns-in_err-write_roots g c =
    let p = err_from_is_err_and c.from_residual-in_err-write_roots.result c.from_residual-in_err-write_roots.ensures.1 in
    rw (p.1, p.2) (rw c.in_ok-text.ensures.ok at c.in_err-write_roots.ensures)

pub returns : goal.returns
returns g c = rw c.in_ok-text.ensures.ok at c.in_ok-write_roots.ensures
