-- By the marks of reached operators.
use Rattle.std.proofs.Common.{List, length, sym, ap, ◌∙◌, subst}
use Rattle.wasm_execution.specs.Values.{context_in}
use Rattle.rewrite_rules.specs.declared.rule.Rule.{Rule}
use Rattle.body_rewrites.specs.declared.growth.Growth.{Growth}
use Rattle.body_rewrites.specs.Reached.{AreReached}
use Rattle.module_rewrites.specs.Scope.{wanted_of}
use Rattle.module_commands.proofs.ReachLemmas.{told_body}
use Rattle.module_commands.proofs.reach.reach_of_body.Goals as goal

pub reach_of_marked-requires : goal.reach_of_marked-requires
reach_of_marked-requires c = ap length c.deref-2.ensures.value ∙ c.in_ok-marks.ensures.count

pub returns-clause-reach : goal.returns-clause-reach
returns-clause-reach c =
    let context = context_in c.args.info.now c.args.locals.now in
    let operators = c.args.operators.now in
    let scope = c.args.scope.now in
    let marks = c.in_ok-marks.marks.items in
    told_body context scope operators c.deref-2.result.now c.reach_of_marked.result
    (subst (AreReached context operators scope.rules (wanted_of scope)) (sym c.deref-2.ensures.value)
    (subst (λ (rules : List Rule). AreReached context operators rules (wanted_of scope) marks) c.rules.ensures
    (subst (λ (wanted : List Growth). AreReached context operators c.rules.result.now wanted marks) c.wanted.ensures c.in_ok-marks.ensures)))
    c.reach_of_marked.ensures
