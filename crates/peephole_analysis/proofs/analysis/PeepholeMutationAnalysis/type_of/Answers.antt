use Rattle.peephole_analysis.proofs.DecidingLemmas.{of_root}
use Rattle.peephole_analysis.proofs.analysis.PeepholeMutationAnalysis.type_of.Goals as goal

pub returns : goal.returns
returns c =
    of_root c.args.self.now c.as_ref-nodes.result.now c.args.expr.now c.index-nodes-nodes.result c.get_returning_tpe.result
    c.as_ref-nodes.ensures.nodes c.as_ref-nodes.ensures.below c.requires c.index-nodes-nodes.is c.get_returning_tpe.ensures
