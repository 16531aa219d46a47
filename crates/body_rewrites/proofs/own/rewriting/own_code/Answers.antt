-- By what stands at the site.
use Rattle.std.proofs.Common.{◌≡◌, subst}
use Rattle.wasm_execution.specs.Values.{Context}
use Rattle.body_rewrites.specs.Changes.{Change, IsWritten}
use Rattle.body_rewrites.specs.Own.{IsOwnChange, made_asks, made_pieces}
use Rattle.body_rewrites.specs.OwnSites.{IsNewCode, IsSiteOf, IsWritable}
use Rattle.body_rewrites.specs.Places.{AreListsOf}
use Rattle.body_rewrites.proofs.MadeLemmas.{if_found}
use Rattle.body_rewrites.proofs.OwnCodeLemmas.{if_none, is_change, is_writable, none_behind}
use Rattle.body_rewrites.proofs.own.rewriting.own_code.Goals as goal

pub returns-then-at-body-clause-none : goal.returns-then-at-body-clause-none
returns-then-at-body-clause-none c = λ context same lists.
    none_behind context c.args.body.now.operators.now c.args.at c.if-at-body.true c.args.own

pub returns-clause-some : goal.returns-clause-some
returns-clause-some c =
    let operators = c.args.body.now.operators.now in
    let at = c.args.at in
    let site = c.in-Some.site in
    if_found c.written.result (IsNewCode site.start (made_pieces site.start at site.made c.args.word) (made_asks site.made))
    (λ code. (context : Context) → context.info ≡ c.args.body.now.info.now → AreListsOf context c.args.body.now →
    (change : Change) × IsOwnChange context operators c.args.own at change × IsWritten change c.args.word code)
    (λ code is context same lists.
    is_change context operators at c.args.own site c.args.word code
    (subst (IsSiteOf context operators c.args.own at) c.in-Some.is (c.site_of.ensures context same lists)) is)
    c.written.ensures.some

pub returns-clause-none : goal.returns-clause-none
returns-clause-none c =
    let operators = c.args.body.now.operators.now in
    let at = c.args.at in
    let site = c.in-Some.site in
    if_none c.written.result (IsWritable site.made → ⊥)
    ((context : Context) → context.info ≡ c.args.body.now.info.now → AreListsOf context c.args.body.now →
    (change : Change) → IsOwnChange context operators c.args.own at change → ⊥)
    (λ unfit context same lists change made.
    unfit (is_writable c.accesses_are_formed.ensures context operators at c.args.own site.start site.made
    (subst (IsSiteOf context operators c.args.own at) c.in-Some.is (c.site_of.ensures context same lists))))
    c.written.ensures.none
