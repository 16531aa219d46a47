use Rattle.std.proofs.Common.{inl, inr, subst, arith}
use Rattle.std.proofs.lemmas.Result.{err_from_is_err_and, IfOk-weaker, IfErr-weaker}
use Rattle.peephole_graphs.specs.Rebuild.{IsLaidOut}
use Rattle.peephole_graphs.proofs.terms.ReachBound.{not_too_long}
use Rattle.peephole_graphs.proofs.terms.NodeTrees.{told_whole, told_too_long}
use Rattle.peephole_graphs.proofs.rebuild.build_expr.Goals as goal

pub returns-clause-laid : goal.returns-clause-laid
returns-clause-laid g c =
    let t = c.in_ok-nodes.ensures.tree in
    IfOk-weaker c.lay_asked.result _ _ (λ expr h. (t.0, t.1, h t.0 t.1.1 t.2)) c.lay_asked.ensures.laid

pub returns-clause-told : goal.returns-clause-told
returns-clause-told g c = λ nodes told.
    let t = c.in_ok-nodes.ensures.tree in
    IfOk-weaker c.lay_asked.result _ _ (λ expr h. subst (λ u. IsLaidOut g.L.Language.head g.L.Language.children u expr)
    (told_whole _ c.args.root.0 nodes told t.0 t.1) (h t.0 t.1.1 t.2)) c.lay_asked.ensures.laid

pub returns-clause-refused : goal.returns-clause-refused
returns-clause-refused g c = IfErr-weaker c.lay_asked.result _ _ (λ e h. inl h) c.lay_asked.ensures.refused

pub returns-clause-once : goal.returns-clause-once
returns-clause-once g c = λ once. c.lay_asked.ensures.refused

pub returns-clause-too_large : goal.returns-clause-too_large
returns-clause-too_large g c = λ nodes told. IfErr-weaker c.lay_asked.result _ _ (λ e h. inl h) c.lay_asked.ensures.refused

pub returns-in_err-nodes-clause-once : goal.returns-in_err-nodes-clause-once
returns-in_err-nodes-clause-once g c = λ once.
    let p = err_from_is_err_and c.from_residual.result c.from_residual.ensures.1 in
    rw (p.1, p.2) (elim c.in_err-nodes.ensures.refused [
      | inl w ↦ w
      | inr w ↦ absurd (not_too_long _ c.args.root.0 once (let small = c.well_formed in omega (arith, small)) w.1)
    ])

pub returns-in_err-nodes-clause-too_large : goal.returns-in_err-nodes-clause-too_large
returns-in_err-nodes-clause-too_large g c = λ nodes told.
    let p = err_from_is_err_and c.from_residual.result c.from_residual.ensures.1 in
    rw (p.1, p.2) (elim c.in_err-nodes.ensures.refused [ inl w ↦ inl w | inr w ↦ inr (w.0, told_too_long _ c.args.root.0 nodes told w.1) ])
