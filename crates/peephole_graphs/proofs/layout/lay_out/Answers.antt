use Rattle.std.proofs.Common.{◌≡◌, ◌++◌, ◌∷◌, [], List, refl, ap, ap₂, ◌∙◌, sym, subst, inl, inr, arith, Result, Err, IfErr, map}
use Rattle.std.proofs.lemmas.List.{length-map}
use Rattle.std.proofs.lemmas.Result.{err_from_is_err_and}
use Rattle.mutate_base.specs.declared.error.Error.{Error}
use Rattle.peephole_nodes.specs.declared.id.Id.{Id}
use Rattle.peephole_lang.specs.Node.{node_of, head_of, children_of}
use Rattle.peephole_lang.specs.Lang.{ids_of}
use Rattle.peephole_lang.specs.Term.{numbers_of}
use Rattle.peephole_graphs.specs.declared.postfix.Turn.{Turn}
use Rattle.peephole_graphs.specs.Postfix.{turns_of}
use Rattle.peephole_graphs.proofs.LayoutLemmas.{term_is, some_expr}
use Rattle.peephole_graphs.proofs.graph.LayoutTrees.{missing, node_of_entry}
use Rattle.peephole_graphs.proofs.terms.LayoutWalk.{layout_state, first_ones, start, child_inside, own_inside, down, found, own_done}
use Rattle.peephole_graphs.proofs.terms.LayoutWalk.{still_more, end_laid, end_whole}
use Rattle.peephole_graphs.proofs.layout.lay_out.Goals as goal

pub loop-turn-init : goal.loop-turn-init
loop-turn-init c =
    start missing node_of_entry c.args.entries.now c.args.root _ _ c.index-entries-root.result c.requires.below c.requires.root
    c.index-entries-root.is
    (c.in_ok-enter.ensures.entered ∙ ap₂ (λ (ids : List Id) (turns : List Turn). turns_of c.args.root (numbers_of ids) ++ turns)
    c.children.ensures.value c.new-walk.ensures)
    (ap₂ (λ x (y : List Id). layout_state (map node_of x) (numbers_of y)) c.new-expr.ensures c.new-finished.ensures.items)

pub bounds-entries-index : goal.bounds-entries-index
bounds-entries-index c =
    child_inside missing node_of_entry c.args.entries.now (rw c.in-Child.is at c.in-Some.ensures) c.loop-turn.invariant

pub bounds-entries-index-in-Own : goal.bounds-entries-index-in-Own
bounds-entries-index-in-Own c =
    own_inside missing node_of_entry c.args.entries.now (rw c.in-Own.is at c.in-Some.ensures) c.loop-turn.invariant

pub loop-turn-preserved-in-Continue-branch-2 : goal.loop-turn-preserved-in-Continue-branch-2
loop-turn-preserved-in-Continue-branch-2 c = (down missing node_of_entry c.args.entries.now c.index-entries-index.result c.requires.below
    (rw c.in-Child.is at c.in-Some.ensures) c.index-entries-index.is
    (c.in_ok-enter-in-Child.ensures.entered ∙ ap (λ (ids : List Id). turns_of c.in-Child.index (numbers_of ids) ++ c.advance.new.self)
    c.children-in-Child.ensures.value)
    c.loop-turn.invariant).0

pub loop-turn-smaller-in-Continue-branch-2 : goal.loop-turn-smaller-in-Continue-branch-2
loop-turn-smaller-in-Continue-branch-2 c = (down missing node_of_entry c.args.entries.now c.index-entries-index.result c.requires.below
    (rw c.in-Child.is at c.in-Some.ensures) c.index-entries-index.is
    (c.in_ok-enter-in-Child.ensures.entered ∙ ap (λ (ids : List Id). turns_of c.in-Child.index (numbers_of ids) ++ c.advance.new.self)
    c.children-in-Child.ensures.value)
    c.loop-turn.invariant).1

pub add_own-requires-clause-enough : goal.add_own-requires-clause-enough
add_own-requires-clause-enough c =
    found missing node_of_entry c.args.entries.now c.loop-turn.finished.items (ids_of c.index-entries-index-in-Own.result.operator)
    (rw c.in-Own.is at c.in-Some.ensures) c.index-entries-index-in-Own.is refl c.loop-turn.invariant

pub loop-turn-preserved : goal.loop-turn-preserved
loop-turn-preserved c = (own_done missing node_of_entry c.args.entries.now c.loop-turn.finished.items c.add_own.new.finished.items
    (ids_of c.index-entries-index-in-Own.result.operator) (rw c.in-Own.is at c.in-Some.ensures) c.index-entries-index-in-Own.is refl
    c.in_ok-add_own-in-Own.ensures.added
    (c.in_ok-add_own-in-Own.ensures.finished
    ∙ ap (λ n. first_ones (ids_of c.index-entries-index-in-Own.result.operator) c.loop-turn.finished.items ++ n ∷ [])
    (sym (length-map c.loop-turn.expr node_of)))
    c.loop-turn.invariant).0

err_is : {A : Type 0} (P : Error → Type 0) (r : Result A Error) (e : Error) → r ≡ Err e → P e → IfErr r P
err_is P r e is h = subst (λ x. IfErr x P) (sym is) h

pub returns-in_err-add_own-in-Own-clause-refused : goal.returns-in_err-add_own-in-Own-clause-refused
returns-in_err-add_own-in-Own-clause-refused c =
    let more = still_more missing node_of_entry c.args.entries.now (rw c.in-Own.is at c.in-Some.ensures) c.loop-turn.invariant in
    let same = length-map c.loop-turn.expr node_of in
    let p = err_from_is_err_and c.from_residual-in_err-add_own-in-Own.result c.from_residual-in_err-add_own-in-Own.ensures.1 in
    err_is _ _ c.in_err-add_own-in-Own.field-0.0 (p.1 ∙ ap (λ x. Err x) p.2)
    (elim c.in_err-add_own-in-Own.ensures.refused [ inl h ↦ inl h | inr h ↦ let l = h.1 in inr (h.0, omega arith) ])

pub returns-clause-laid : goal.returns-clause-laid
returns-clause-laid c = end_laid missing node_of_entry c.args.entries.now c.in_default.ensures.0 c.loop-turn.invariant

pub returns-clause-term : goal.returns-clause-term
returns-clause-term c =
    term_is head_of children_of _ _ (end_whole missing node_of_entry c.args.entries.now c.args.root c.requires.below c.requires.root)
    (returns-clause-laid c)

pub returns-clause-some : goal.returns-clause-some
returns-clause-some c =
    some_expr head_of children_of _ _ (end_whole missing node_of_entry c.args.entries.now c.args.root c.requires.below c.requires.root)
    (returns-clause-laid c)
