-- In the entry that is inside the bytes.
use Rattle.module_rewrites.proofs.MutationLemmas.{behind_locals, body_in}
use Rattle.module_rewrites.proofs.laws.functions_are_inside.Goals as goal

pub returns-clause-body : goal.returns-clause-body
returns-clause-body c bytes info layout n locals expression operators known f =
    body_in bytes info layout n locals expression operators f (c.entries_are_inside.ensures bytes info layout n f.entry known f.is.at)

pub returns-clause-locals : goal.returns-clause-locals
returns-clause-locals c bytes info layout n locals expression operators known f =
    behind_locals bytes info layout n locals expression operators f.entry f (c.entries_are_inside.ensures bytes info layout n f.entry known f.is.at) f.is.at
