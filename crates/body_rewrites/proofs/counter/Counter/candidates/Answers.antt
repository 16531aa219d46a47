-- The list of the class, which is used.
use Rattle.std.proofs.Common.{◌≡◌, Vec, length, sym, subst, ap, arith}
use Rattle.std.specs.Global.{Global}
use Rattle.std.specs.Prelude.{IfSome, slice_get}
use Rattle.body_rewrites.specs.declared.asked.Asked.{Asked}
use Rattle.body_rewrites.specs.Asking.{candidates, IsUsed}
use Rattle.body_rewrites.specs.Counting.{Laying}
use Rattle.body_rewrites.proofs.AskingLemmas.{class_is_used, list_is}
use Rattle.body_rewrites.proofs.counter.Counter.candidates.Goals as goal

pub list_at-requires : goal.list_at-requires
list_at-requires c =
    let used = subst (λ (laying : Laying). IsUsed laying.used c.args.class) (sym c.self.view_is) c.requires in
    let inside = class_is_used c.self.inside.used.items c.args.class used in
    let count = c.self.invariant.1 in
    let long = c.self.invariant.2.long in
    let value = ap length c.as_slice.ensures.value in
    omega (arith, inside, count, long, value)

pub returns : goal.returns
returns c =
    let used = subst (λ (laying : Laying). IsUsed laying.used c.args.class) (sym c.self.view_is) c.requires in
    let inside = class_is_used c.self.inside.used.items c.args.class used in
    let count = c.self.invariant.1 in
    subst (λ (laying : Laying). c.list_at.result.now ≡ candidates laying.exact c.args.class) c.self.view_is
    (list_is c.self.inside.exact c.self.inside.used.items c.self.inside.lists.items c.self.invariant.2 c.args.class (omega (arith, inside, count))
    used c.list_at.result.now
    (subst (λ lists. IfSome (slice_get lists c.args.class) (λ (list : Vec Asked Global). c.list_at.result.now ≡ list.items)) c.as_slice.ensures.value
    c.list_at.ensures))
