-- Those so far.
use Rattle.std.proofs.Common.{◌≡◌, ◌++◌, take}
use Rattle.body_rewrites.specs.Listing.{passing, is_wanted}
use Rattle.body_rewrites.proofs.listing.add_wanted.Given as goal

abbrev pub invariant-loop-found : goal.invariant-loop-found
invariant-loop-found l = l.list.items ≡ l.initial.list.items ++ passing (is_wanted l.rows l.rules l.wanted) (take l.found-index l.found)
