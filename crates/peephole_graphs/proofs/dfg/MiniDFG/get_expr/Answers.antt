use Rattle.std.proofs.Common.{sym, ◌∙◌}
use Rattle.std.proofs.lemmas.Result.{IfOk-weaker}
use Rattle.peephole_lang.specs.Node.{head_of, children_of}
use Rattle.peephole_lang.specs.Term.{tree_at}
use Rattle.peephole_graphs.specs.Layout.{entry_nodes}
use Rattle.peephole_graphs.proofs.LayoutLemmas.{term_is, some_expr}
use Rattle.peephole_graphs.proofs.SpanLemmas.{entry_whole}
use Rattle.peephole_graphs.proofs.graph.WritableLemmas.{laid_out_writable}
use Rattle.peephole_graphs.proofs.dfg.MiniDFG.get_expr.Goals as goal

pub lay_out_at-requires : goal.lay_out_at-requires
lay_out_at-requires c = c.args.self.now.trees.found c.args.at c.in-Some.root (sym c.get.ensures ∙ c.in-Some.is)

pub returns-clause-laid : goal.returns-clause-laid
returns-clause-laid c = IfOk-weaker c.lay_out_at.result _ _ (λ expr h. rw (sym c.get.ensures ∙ c.in-Some.is) h) c.lay_out_at.ensures.laid

pub returns-clause-term : goal.returns-clause-term
returns-clause-term c =
    let found = sym c.get.ensures ∙ c.in-Some.is in
    let es = c.args.self.now.entries.items in
    let root = c.in-Some.root in
    let whole = entry_whole es root c.args.self.now.trees.below (c.args.self.now.trees.found c.args.at root found) in
    IfOk-weaker c.lay_out_at.result _ _ (λ expr h. rw found (term_is head_of children_of expr (tree_at (entry_nodes es) root) whole h))
    c.lay_out_at.ensures.laid

pub returns-clause-writable : goal.returns-clause-writable
returns-clause-writable c = laid_out_writable c.args.self.now.entries.items c.in-Some.root c.args.self.now.trees.writable
    c.lay_out_at.result c.lay_out_at.ensures.laid

pub returns-clause-some : goal.returns-clause-some
returns-clause-some c =
    let es = c.args.self.now.entries.items in
    let root = c.in-Some.root in
    let whole = entry_whole es root c.args.self.now.trees.below (c.args.self.now.trees.found c.args.at root (sym c.get.ensures ∙ c.in-Some.is)) in
    IfOk-weaker c.lay_out_at.result _ _ (λ expr h. some_expr head_of children_of expr (tree_at (entry_nodes es) root) whole h) c.lay_out_at.ensures.laid
