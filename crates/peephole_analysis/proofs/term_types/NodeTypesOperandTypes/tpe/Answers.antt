use Rattle.std.proofs.Common.{◌∙◌, ◌≤◌, length, sym, ap, subst}
use Rattle.peephole_analysis.proofs.DecidingLemmas.{unknown, told}
use Rattle.peephole_analysis.proofs.term_types.NodeTypesOperandTypes.tpe.Goals as goal

pub returns-then-from-nodes : goal.returns-then-from-nodes
returns-then-from-nodes c =
    sym (unknown c.args.self.now.analysis.now c.args.self.now.expr.now c.args.id.0
    (subst (λ n. n ≤ c.args.id.0) (ap length c.as_ref-nodes.ensures.nodes) c.if-from-nodes.true))

pub returns : goal.returns
returns c =
    let a = c.args.self.now.analysis.now in
    c.ok.ensures.value
    ∙ told a c.as_ref-nodes.result.now c.args.self.now.expr.now c.deciding_place-place.result c.args.id.0 c.index-nodes-place.result
    c.get_returning_tpe.result c.as_ref-nodes.ensures.nodes c.as_ref-nodes.ensures.below c.deciding_place-place.ensures.there
    (c.deciding_place-place.ensures.same a) c.deciding_place-place.ensures.alone c.index-nodes-place.is c.get_returning_tpe.ensures
