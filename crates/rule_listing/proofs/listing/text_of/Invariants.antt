-- The rules so far.
use Rattle.std.proofs.Common.{string_bytes}
use Rattle.rule_listing.proofs.ListingLemmas.{AreSoFar}
use Rattle.rule_listing.proofs.listing.text_of.Given as goal

abbrev pub invariant-loop-number : goal.invariant-loop-number
invariant-loop-number l = AreSoFar l.form l.number (string_bytes l.text)
