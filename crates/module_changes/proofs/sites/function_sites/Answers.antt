-- Those of one operator more.
use Rattle.std.proofs.Common.{◌≡◌, ℕ, suc, [], ◌+◌, length, subst, arith}
use Rattle.body_changes.specs.Body.{ChangesIn}
use Rattle.body_changes.specs.Replacing.{source_context}
use Rattle.body_changes.specs.declared.changing.Body.{Body}
use Rattle.body_rewrites.specs.Listing.{AreThose}
use Rattle.module_changes.specs.Sites.{sites_below, IsSite}
use Rattle.module_changes.proofs.SitesLemmas.{sites_so}
use Rattle.module_changes.proofs.sites.function_sites.Goals as goal

pub loop-operator-preserved : goal.loop-operator-preserved
loop-operator-preserved c =
    let body : Body = record { source = c.args.source.now; units = c.deref.result; most = 1; copied = c.in_ok-copied.copied } in
    let changes = c.args.changes.now in
    let next : suc c.loop-operator.operator ≡ c.loop-operator.operator + 1 = omega arith in
    subst (λ (n : ℕ). AreThose (IsSite (ChangesIn body [])) (sites_below changes n) c.add_sites.new.sites.items) next
    (c.in_ok-add_sites.ensures.added (sites_below changes c.loop-operator.operator) c.loop-operator.invariant)

pub returns : goal.returns
returns c =
    let source = c.args.source.now in
    let all : c.loop-operator.operator ≡ length source.operators.now = omega (arith, c.loop-operator-test.false, c.loop-operator.auto.operator-end) in
    sites_so (source_context source) source.operators.now c.in_ok-copied.copied.code.now c.args.changes.now c.loop-operator.operator c.loop-operator.sites.items
    c.in_ok-copied.ensures.code all c.loop-operator.invariant
