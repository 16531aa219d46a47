-- Nodes that were asked for, laid out by one step each.
use denote.Ref.{Bor}
use Rattle.std.proofs.Common.{◌≡◌, ℕ, ◌+◌, ◌≤◌, List, [], ◌∷◌, ◌++◌, length}
use Rattle.std.proofs.Common.{sym, ap, ap₂, subst, ◌∙◌, arith, length-append, map}
use Rattle.std.proofs.lemmas.List.{length-map}
use Rattle.peephole_nodes.specs.declared.id.Id.{Id}
use Rattle.peephole_lang.specs.Term.{Term, numbers_of}
use Rattle.peephole_graphs.specs.Layout.{node_by, IsWhole}
use Rattle.peephole_graphs.specs.Rebuild.{IsLaidOut, piece_by, in_postfix, AreNodesOfTree}
use Rattle.peephole_graphs.proofs.terms.NodeRequests.{pieces_of, one_more}
use Rattle.peephole_graphs.proofs.LayoutLemmas.{term_is}
use Rattle.peephole_graphs.proofs.terms.LayoutWalk.{LayoutState, layout_state, LeadsTo, layout_begins, layout_ends}
use Rattle.peephole_graphs.proofs.terms.LayoutWalk.{enough_finished, own_added, first_ones, last_ones}

-- ---- by the lists of the code

module _ {L H : Type 0} (head : L → H) (children : L → List ℕ) where
  abbrev pub now_laid : List L → List Id → LayoutState H
  now_laid expr finished = layout_state (map (node_by head children) expr) (numbers_of finished)

  pub asked_begins : (asked : List (Bor L)) (expr : List L) (finished : List Id) (t : Term H) → expr ≡ [] → finished ≡ [] → IsWhole t →
      AreNodesOfTree head children asked t → LeadsTo t (pieces_of head children asked) (now_laid expr finished)
  asked_begins asked expr finished t e f w a =
      subst (λ x. LeadsTo t x (now_laid expr finished)) (sym a)
      (subst (λ x. LeadsTo t (in_postfix t) x) (sym (ap₂ (λ (x : List L) (y : List Id). now_laid x y) e f)) (layout_begins t w))

  module _ (asked rest : List (Bor L)) (n : Bor L) (ids : List Id) (t : Term H) (expr : List L) (finished : List Id)
      (top : asked ≡ rest ++ n ∷ []) (k : children n.now ≡ numbers_of ids)
      (h : LeadsTo t (pieces_of head children asked) (now_laid expr finished)) where
    -- the node that was taken is made next
    next_made : LeadsTo t (piece_by head children n.now ∷ pieces_of head children rest) (now_laid expr finished)
    next_made = subst (λ x. LeadsTo t x (now_laid expr finished)) (ap (pieces_of head children) top ∙ one_more head children rest n) h

    pub asked_enough : length ids ≤ length finished
    asked_enough = enough_finished {n = node_by head children n.now} finished ids k next_made

    pub asked_goes_on : (expr' : List L) (finished' : List Id) → map (node_by head children) expr' ≡ map (node_by head children) expr
        ++ record { head = head n.now; children = last_ones ids finished } ∷ [] →
        numbers_of finished' ≡ first_ones ids finished ++ length expr ∷ [] →
        LeadsTo t (pieces_of head children rest) (now_laid expr' finished')
    asked_goes_on expr' finished' a d =
        let place = ap (λ z. first_ones ids finished ++ z ∷ []) (sym (length-map expr (node_by head children))) in
        own_added {n = node_by head children n.now} finished ids k next_made (map (node_by head children) expr') (numbers_of finished') a (d ∙ place)

  pub asked_laid : (asked : List (Bor L)) (count : ℕ) (t : Term H) (expr : List L) (finished : List Id) → count ≡ length asked → count ≡ 0 →
      IsWhole t → LeadsTo t (pieces_of head children asked) (now_laid expr finished) → IsLaidOut head children t expr
  asked_laid [] count t expr finished c z w h =
      let laid_is = layout_ends h in
      record { nodes_are = laid_is; term_is = term_is head children expr t w laid_is }
  asked_laid (n ∷ asked) count t expr finished c z w h = absurd (omega arith)

pub one_longer : {L H : Type 0} (held : L → H) (expr expr' : List L) (n : H) → map held expr' ≡ map held expr ++ n ∷ [] →
    length expr' ≡ length expr + 1
one_longer held expr expr' n e =
    let many = ap (λ x. length x) e in
    omega (arith, many, length-map expr held, length-map expr' held, length-append (map held expr) (n ∷ []))
