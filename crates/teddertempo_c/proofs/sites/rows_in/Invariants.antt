-- Those of the functions so far.
use Rattle.std.proofs.Common.{◌-◌}
use Rattle.teddertempo_c.specs.ChangeOptions.{changes_of}
use Rattle.teddertempo_c.specs.Sites.{AreRows}
use Rattle.teddertempo_c.proofs.sites.rows_in.Given as goal

abbrev pub invariant-loop-n : goal.invariant-loop-n
invariant-loop-n l = AreRows (changes_of l.options) l.bytes l.module.info l.module.layout l.from (l.n - l.from) l.rows.items
