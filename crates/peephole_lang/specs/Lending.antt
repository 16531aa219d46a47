-- What a node ends as, once its lent children have been written (this project): as it was, with the children that were
-- written last.
use Rattle.std.specs.Prelude.{List}
use Rattle.std.specs.Borrow.{Lends, MutBor, Fml, Array}
use Rattle.peephole_nodes.specs.contracts.id.Id as id
use Rattle.peephole_lang.specs.contracts.lang.Lang.{the_row}
use Rattle.peephole_nodes.specs.declared.id.Id.{Id}
use Rattle.peephole_lang.specs.declared.lang.Lang.{Lang}
use Rattle.peephole_lang.specs.Lang.{with_ids}

abbrev pub LendsIds : MutBor Lang → MutBor (List Id) → Fml
LendsIds s r = Lends the_row (Array id.the_row 0) s r (with_ids s.now)
