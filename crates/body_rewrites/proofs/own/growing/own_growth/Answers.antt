-- By what is made.
use Rattle.std.proofs.Common.{sym, subst}
use Rattle.body_rewrites.specs.Changes.{Change}
use Rattle.body_rewrites.specs.Growth.{HasGrowth}
use Rattle.body_rewrites.specs.Own.{IsOwnChange}
use Rattle.body_rewrites.specs.OwnSites.{IsSiteOf}
use Rattle.body_rewrites.proofs.OwnGrowthLemmas.{is_growing}
use Rattle.body_rewrites.proofs.own.growing.own_growth.Goals as goal

pub returns-clause-some : goal.returns-clause-some
returns-clause-some c = λ context same lists.
    let rewrites = subst (IsSiteOf context c.args.body.now.operators.now c.args.own c.args.at) c.in-Some.is (c.site_of.ensures context same lists) in
    subst (λ growth. (change : Change) × IsOwnChange context c.args.body.now.operators.now c.args.own c.args.at change ×
    HasGrowth c.args.body.now.operators.now c.args.at change growth) (sym c.growth_of.ensures)
    (is_growing context c.args.body.now.operators.now c.args.at c.args.own c.in-Some.site rewrites)
