-- By the label, and the block that it is of.
use Rattle.std.proofs.Common.{refl, sym, subst, ◌∙◌}
use Rattle.std.specs.Prelude.{take}
use Rattle.std.proofs.lemmas.Bool.{false≢true}
use Rattle.body_splices.specs.OwnBytes.{without_offsets}
use Rattle.wrapped_code.specs.Opened.{TakesNothing}
use Rattle.body_rewrites.proofs.BranchFindLemmas.{no_bare_branch, same_label}
use Rattle.body_rewrites.proofs.own.br_if_to_if.find.Goals as goal

pub returns-then-not-has_room : goal.returns-then-not-has_room
returns-then-not-has_room c = λ context blocks.
    no_bare_branch c.args.operators.now context c.args.at (λ label room h.
    false≢true (sym c.if-not-has_room.true ∙ c.has_room.ensures.only c.args.operators.now blocks room))

pub returns-in_default : goal.returns-in_default
returns-in_default c = λ context blocks.
    no_bare_branch c.args.operators.now context c.args.at (λ label room h. c.in_default.ensures.none label (h.fits, h.branch))

pub returns-then-not-takes_nothing : goal.returns-then-not-takes_nothing
returns-then-not-takes_nothing c = λ context blocks.
    no_bare_branch c.args.operators.now context c.args.at (λ label room h.
    false≢true (sym c.if-not-takes_nothing.true
    ∙ c.takes_nothing.ensures.only blocks
    (subst (λ n. TakesNothing (take c.args.at (without_offsets c.args.operators.now)) n)
    (same_label c.args.operators.now c.args.at c.in-Some.label label c.in-Some.ensures.some h) h.bare)))

pub returns : goal.returns
returns c = λ context blocks.
    let (fits, has) = c.in-Some.ensures.some in (
      refl,
      c.has_room.ensures.same c.if-not-has_room.false c.args.operators.now blocks,
      record { branch = has; fits = fits; bare = c.takes_nothing.ensures.same c.if-not-takes_nothing.false blocks },
    )
