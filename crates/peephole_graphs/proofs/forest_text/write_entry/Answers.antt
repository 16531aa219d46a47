use Rattle.std.proofs.Common.{inl, string_bytes}
use Rattle.std.proofs.lemmas.Result.{err_from_is_err_and}
use Rattle.peephole_graphs.proofs.text.ForestWalk.{refused, answered}
use Rattle.peephole_graphs.proofs.forest_text.write_entry.Goals as goal

pub returns-in_err-own : goal.returns-in_err-own
returns-in_err-own g c =
    let p = err_from_is_err_and c.from_residual.result c.from_residual.ensures.1 in
    rw (p.1, p.2) (inl (refused g.F.Fn c.args.f.now c.args.entry c.f.result c.in_err-own.field-0.0 (string_bytes c.args.text.now) c.f.ensures c.in_err-own.was))

pub returns : goal.returns
returns g c =
    answered g.F.Fn c.args.f.now c.args.entry c.f.result c.in_ok-own.own (string_bytes c.args.text.now) _ c.f.ensures
    c.in_ok-own.was c.in_ok-writeln.ensures.bytes
