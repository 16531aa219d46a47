-- One change more, which makes something of the operator, or nothing.
use Rattle.std.proofs.Common.{[], ◌+◌, take, subst, sym, ◌∙◌}
use Rattle.std.proofs.lemmas.Bool.{false≢true}
use Rattle.body_changes.specs.Body.{ChangesIn}
use Rattle.module_changes.specs.Sites.{AddsSites}
use Rattle.module_changes.proofs.SitesLemmas.{adds_nothing, adds_one}
use Rattle.module_changes.proofs.sites.add_sites.Goals as goal
use Rattle.module_changes.proofs.sites.add_sites.Goals.{else-can_change, then-can_change+in_ok-push}

pub loop-change-preserved : goal.loop-change-preserved
loop-change-preserved c =
    let Makes = ChangesIn c.args.body.now [] in
    let changes = c.args.changes.now in
    let operator = c.args.operator in
    let k = c.loop-change.change-index in
    let old = c.args.sites.now.items in
    elim c.if-can_change.branch [
      | then-can_change+in_ok-push w ↦
          subst (λ sites. AddsSites Makes (take (k + 1) changes) operator old sites.items) (sym w.sites-is)
          (adds_one Makes changes operator k _ c.loop-change-test.true old c.loop-change.sites.items w.push.new.self.items c.loop-change.invariant
          (c.can_change.ensures.0 w.if-can_change.true) w.in_ok-push.ensures.items)
      | else-can_change w ↦
          subst (λ sites. AddsSites Makes (take (k + 1) changes) operator old sites.items) (sym w.sites-is)
          (adds_nothing Makes changes operator k _ c.loop-change-test.true old c.loop-change.sites.items c.loop-change.invariant
          (λ makes. false≢true (sym w.if-can_change.false ∙ c.can_change.ensures.1 makes)))
    ]
