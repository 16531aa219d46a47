use Rattle.peephole_terms.specs.Expansion.{term_in}
use Rattle.peephole_terms.proofs.EncoderLemmas.{term_there, tree_there}
use Rattle.peephole_terms.proofs.encoder.writer.Writer.write_root.Goals as goal

pub returns-then-entries-root-clause-taken : goal.returns-then-entries-root-clause-taken
returns-then-entries-root-clause-taken g c =
    rw (term_there c.args.insertion_point (term_in c.args.expr.now) c.args.entries.now c.args.root c.index-entries-root.result
    c.requires.root c.if-entries-root.true) c.write_tree_by.ensures.taken

pub returns-else-entries-root-clause-taken : goal.returns-else-entries-root-clause-taken
returns-else-entries-root-clause-taken g c =
    rw (tree_there c.args.insertion_point (term_in c.args.expr.now) c.args.entries.now c.args.root c.index-entries-root.result
    c.requires.root c.if-entries-root.false) c.write_tree_by-else-entries-root.ensures.taken
