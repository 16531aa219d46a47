-- Those of the sites so far.
use Rattle.std.proofs.Common.{◌≡◌, ◌++◌, take}
use Rattle.teddertempo_c.specs.Sites.{site_rows_of}
use Rattle.teddertempo_c.proofs.sites.add_rows.Given as goal

abbrev pub invariant-loop-site : goal.invariant-loop-site
invariant-loop-site l = l.rows.items ≡ l.initial.rows.items ++ site_rows_of l.function (take l.site-index l.sites)
