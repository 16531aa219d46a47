-- By the operator.
use Rattle.std.proofs.Common.{ℕ}
use Rattle.wasm_code.specs.declared.operator.Operator.TheVariants.{BrTable}
use Rattle.body_rewrites.specs.Own.{HasTable}
use Rattle.body_rewrites.specs.OwnSites.{IsTableOperator}
use Rattle.body_rewrites.proofs.MadeLemmas.{if_found}
use Rattle.body_rewrites.proofs.OwnCodeLemmas.{if_none}
use Rattle.body_rewrites.proofs.IndexFindLemmas.{has_table, no_table}
use Rattle.body_rewrites.proofs.FlowFindLemmas.{none_there}
use Rattle.body_rewrites.proofs.own.indices.table_at.Goals as goal

pub returns-in-Some-clause-some : goal.returns-in-Some-clause-some
returns-in-Some-clause-some c =
    if_found c.labels_of.result (IsTableOperator c.in-Some.operator) (HasTable c.args.operators.now c.args.at)
    (λ n is. has_table c.args.operators.now c.args.at n c.in-Some.operator c.in-Some.ensures.some is) c.labels_of.ensures.some

pub returns-in-Some-clause-none : goal.returns-in-Some-clause-none
returns-in-Some-clause-none c =
    if_none c.labels_of.result ((n : ℕ) → IsTableOperator c.in-Some.operator n → ⊥) ((n : ℕ) → HasTable c.args.operators.now c.args.at n → ⊥)
    (λ none n. no_table c.args.operators.now c.args.at n c.in-Some.operator c.in-Some.ensures.some (none n)) c.labels_of.ensures.none

pub returns-in-None-clause-none : goal.returns-in-None-clause-none
returns-in-None-clause-none c = λ n h. none_there c.args.operators.now c.args.at (BrTable n) c.in-None.ensures.none h.has
