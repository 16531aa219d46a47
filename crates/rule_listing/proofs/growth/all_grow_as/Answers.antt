-- One row more, and all of them.
use Rattle.std.proofs.Common.{◌≡◌, Some, refl, arith}
use Rattle.std.specs.Prelude.{slice_get}
use Rattle.std.proofs.lemmas.Option.{slice_get_within}
use Rattle.rewrite_rules.specs.declared.table.Row.{Row}
use Rattle.rewrite_rules.specs.Growing.{GrowsAs}
use Rattle.rewrite_rules.specs.Names.{rule_of}
use Rattle.rewrite_rules.specs.Table.{ROWS}
use Rattle.rule_listing.proofs.ListingLemmas.{below_more}
use Rattle.rule_listing.proofs.growth.all_grow_as.Goals as goal

pub loop-index-preserved : goal.loop-index-preserved
loop-index-preserved c = λ n row l e s.
    below_more (λ m. (r : Row) → rule_of m ≡ Some c.args.rule → slice_get ROWS m ≡ Some r → GrowsAs r c.args.growth) c.loop-index.index
    (λ m k r. c.loop-index.invariant m r k) (λ r. c.if-not-grows_as.ensures r refl) n l row e s

pub returns : goal.returns
returns c = λ n row t e s. let inside = slice_get_within ROWS n row s in c.loop-index.invariant n row (omega arith) e s
