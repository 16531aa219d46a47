-- By what stands there.
use Rattle.std.proofs.Common.{◌≡◌, ◌+◌, ◌-◌, true, sym, ap, ◌∙◌, arith, rules}
use Rattle.wasm_types.specs.Module.{Module}
use Rattle.rewrite_rules.specs.Access.{conversion_size}
use Rattle.body_rewrites.proofs.OwnAccessLemmas.{found, no_side, none_written}
use Rattle.body_rewrites.proofs.own.access.find.Goals as goal

pub returns-in_default-side_at : goal.returns-in_default-side_at
returns-in_default-side_at c = λ context same.
    let a = c.in-Some.access in
    let start = c.args.at - c.size-size.result in
    let begins : start + conversion_size a.left.conversion ≡ c.args.at = omega (arith, c.size-size.ensures, c.if-at-size.false) in
    no_side context c.args.operators.now c.args.number c.args.at a (sym c.in-Some.ensures) start begins c.in_default-side_at.ensures.none

pub returns-in_default-written : goal.returns-in_default-written
returns-in_default-written c = λ context same.
    let a = c.in-Some.access in
    let start = c.args.at - c.size-size.result in
    let begins : start + conversion_size a.left.conversion ≡ c.args.at = omega (arith, c.size-size.ensures, c.if-at-size.false) in
    none_written context c.args.operators.now c.args.number c.args.at a (sym c.in-Some.ensures) start c.in-Some-side_at.immediate begins
    c.in-Some-side_at.ensures.some (sym c.in_default-written.ensures)

pub returns : goal.returns
returns c = λ context same.
    let a = c.in-Some.access in
    let start = c.args.at - c.size-size.result in
    let begins : start + conversion_size a.left.conversion ≡ c.args.at = omega (arith, c.size-size.ensures, c.if-at-size.false) in
    let exact : c.args.info.now.exact ≡ true = search rules in
    found context c.args.operators.now c.args.number c.args.at a (sym c.in-Some.ensures) start c.in-Some-side_at.immediate c.in-Some-written.written begins
    (ap (λ (m : Module). m.exact) same ∙ exact) c.in-Some-side_at.ensures.some (sym c.in-Some-written.ensures)
