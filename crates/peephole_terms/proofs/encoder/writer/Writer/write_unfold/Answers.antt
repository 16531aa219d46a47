use Rattle.std.proofs.Common.{◌∙◌, ap, sym, refl, arith}
use Rattle.std.proofs.lemmas.Grind.{common_steps}
use Rattle.peephole_lang.specs.Term.{tree_at}
use Rattle.peephole_terms.specs.Expansion.{constant_of}
use Rattle.peephole_terms.specs.EncoderSteps.{nodes_in}
use Rattle.peephole_terms.proofs.WalkLemmas.{unfold_is, unfold_none}
use Rattle.peephole_terms.proofs.encoder.writer.Writer.write_unfold.Goals as goal

pub returns-in-len1-clause-taken : goal.returns-in-len1-clause-taken
returns-in-len1-clause-taken g c =
    rw (unfold_is g.N.Holds.held c.args.nodes.now c.args.tpe c.args.node.now c.node.result.now c.children.result.now _ c.index-nodes-child.result
    c.children.ensures.value (omega (arith, c.in-len1.len_at_least)) (omega (arith, c.in-len1.len_below)) c.requires.before c.requires.below
    c.index-nodes-child.is c.node.ensures ∙ ap (constant_of c.args.tpe) (sym c.payload-constant.ensures)) c.write_sum.ensures.taken

pub returns-in_default-2-clause-taken : goal.returns-in_default-2-clause-taken
returns-in_default-2-clause-taken g c = record {
  ok = tt;
  err = rw (unfold_none (tree_at (nodes_in g.N.Holds.held c.args.nodes.now)) c.args.tpe c.args.node.now c.children.result.now
      c.children.ensures.value (omega (arith, c.in_default.len_at_least))) refl;
  in_range = tt;
  kept = grind (arith, common_steps);
}
