-- By the three operators.
use Rattle.std.proofs.Common.{◌≡◌, ◌-◌, sym, subst, ◌∙◌, arith}
use Rattle.std.specs.Prelude.{Some, slice_get}
use Rattle.std.proofs.lemmas.Bool.{false≢true}
use Rattle.wasm_code.specs.declared.immediate.BlockType.TheVariants.{Empty}
use Rattle.wasm_code.specs.declared.operator.Operator.TheVariants.{If}
use Rattle.body_splices.specs.OwnBytes.{without_offsets}
use Rattle.body_rewrites.proofs.BranchFindLemmas.{is_nested_branch, no_nested_branch, outer_there}
use Rattle.body_rewrites.proofs.own.if_to_br_if.find.Goals as goal

pub returns-then-not-has_end : goal.returns-then-not-has_end
returns-then-not-has_end c = λ context.
    no_nested_branch c.args.operators.now context c.args.at (λ start label h. false≢true (sym c.if-not-has_end.true ∙ c.has_end.ensures.only h.closes))

pub returns-in_default : goal.returns-in_default
returns-in_default c = λ context.
    no_nested_branch c.args.operators.now context c.args.at (λ start label h.
    c.in_default.ensures.none label (outer_there c.args.operators.now c.args.at start label h))

pub returns-then-not-has_bare_if : goal.returns-then-not-has_bare_if
returns-then-not-has_bare_if c = λ context.
    no_nested_branch c.args.operators.now context c.args.at (λ start label h.
    let ends = h.ends in
    let same : start ≡ c.args.at - 2 = omega (arith, ends) in
    false≢true (sym c.if-not-has_bare_if.true
    ∙ c.has_bare_if.ensures.only (subst (λ n. slice_get (without_offsets c.args.operators.now) n ≡ Some (If Empty)) same h.opens)))

pub returns : goal.returns
returns c = λ context.
    is_nested_branch c.args.operators.now c.args.at c.in-Some.label (omega (arith, c.if-at-lt2.false)) c.if-at-operators-2.false
    (c.has_bare_if.ensures.same c.if-not-has_bare_if.false) c.in-Some.ensures.some (c.has_end.ensures.same c.if-not-has_end.false)
