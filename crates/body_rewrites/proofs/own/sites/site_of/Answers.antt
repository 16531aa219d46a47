-- By the rule.
use Rattle.std.proofs.Common.{sym, subst}
use Rattle.body_rewrites.specs.OwnSites.{IsSiteOf}
use Rattle.body_rewrites.proofs.own.sites.site_of.Goals as goal

pub returns-in-Unfold : goal.returns-in-Unfold
returns-in-Unfold c = λ context same lists.
    let found = c.find.ensures context in
    subst (λ own. IsSiteOf context c.args.body.now.operators.now own c.args.at c.find.result) (sym c.in-Unfold.is) found

pub returns-in-ThroughGlobal : goal.returns-in-ThroughGlobal
returns-in-ThroughGlobal c = λ context same lists.
    let found = c.find-in-ThroughGlobal.ensures context c.args.body.now.operators.now same lists.trees in
    subst (λ own. IsSiteOf context c.args.body.now.operators.now own c.args.at c.find-in-ThroughGlobal.result) (sym c.in-ThroughGlobal.is) found

pub returns-in-WithNop : goal.returns-in-WithNop
returns-in-WithNop c = λ context same lists.
    let found = c.find-in-WithNop.ensures context c.args.body.now.operators.now lists.trees in
    subst (λ own. IsSiteOf context c.args.body.now.operators.now own c.args.at c.find-in-WithNop.result) (sym c.in-WithNop.is) found

pub returns-in-Fold : goal.returns-in-Fold
returns-in-Fold c = λ context same lists.
    let found = c.find-in-Fold.ensures context in
    subst (λ own. IsSiteOf context c.args.body.now.operators.now own c.args.at c.find-in-Fold.result) (sym c.in-Fold.is) found

pub returns-in-Forget : goal.returns-in-Forget
returns-in-Forget c = λ context same lists.
    let found = c.find-in-Forget.ensures context lists.trees in
    subst (λ own. IsSiteOf context c.args.body.now.operators.now own c.args.at c.find-in-Forget.result) (sym c.in-Forget.is) found

pub returns-in-TeeToSet : goal.returns-in-TeeToSet
returns-in-TeeToSet c = λ context same lists.
    let found = c.find-in-TeeToSet.ensures context in
    subst (λ own. IsSiteOf context c.args.body.now.operators.now own c.args.at c.find-in-TeeToSet.result) (sym c.in-TeeToSet.is) found

pub returns-in-DropNop : goal.returns-in-DropNop
returns-in-DropNop c = λ context same lists.
    let found = c.find-in-DropNop.ensures context in
    subst (λ own. IsSiteOf context c.args.body.now.operators.now own c.args.at c.find-in-DropNop.result) (sym c.in-DropNop.is) found

pub returns-in-SetToTee : goal.returns-in-SetToTee
returns-in-SetToTee c = λ context same lists.
    let found = c.find-in-SetToTee.ensures context in
    subst (λ own. IsSiteOf context c.args.body.now.operators.now own c.args.at c.find-in-SetToTee.result) (sym c.in-SetToTee.is) found

pub returns-in-Access : goal.returns-in-Access
returns-in-Access c = λ context same lists.
    let found = c.find-in-Access.ensures context same in
    subst (λ own. IsSiteOf context c.args.body.now.operators.now own c.args.at c.find-in-Access.result) (sym c.in-Access.is) found

pub returns-in-Wrap : goal.returns-in-Wrap
returns-in-Wrap c = λ context same lists.
    let found = c.find-in-Wrap.ensures context c.args.body.now.operators.now lists.trees lists.blocks in
    subst (λ own. IsSiteOf context c.args.body.now.operators.now own c.args.at c.find-in-Wrap.result) (sym c.in-Wrap.is) found

pub returns-in-Unwrap : goal.returns-in-Unwrap
returns-in-Unwrap c = λ context same lists.
    let found = c.find-in-Unwrap.ensures context lists.trees in
    subst (λ own. IsSiteOf context c.args.body.now.operators.now own c.args.at c.find-in-Unwrap.result) (sym c.in-Unwrap.is) found

pub returns-in-SelectToIf : goal.returns-in-SelectToIf
returns-in-SelectToIf c = λ context same lists.
    let found = c.find-in-SelectToIf.ensures context lists.trees lists.blocks in
    subst (λ own. IsSiteOf context c.args.body.now.operators.now own c.args.at c.find-in-SelectToIf.result) (sym c.in-SelectToIf.is) found

pub returns-in-IfToSelect : goal.returns-in-IfToSelect
returns-in-IfToSelect c = λ context same lists.
    let found = c.find-in-IfToSelect.ensures context lists.trees in
    subst (λ own. IsSiteOf context c.args.body.now.operators.now own c.args.at c.find-in-IfToSelect.result) (sym c.in-IfToSelect.is) found

pub returns-in-TestCondition : goal.returns-in-TestCondition
returns-in-TestCondition c = λ context same lists.
    let found = c.find-in-TestCondition.ensures context lists.trees in
    subst (λ own. IsSiteOf context c.args.body.now.operators.now own c.args.at c.find-in-TestCondition.result) (sym c.in-TestCondition.is) found

pub returns-in-DropConditionTest : goal.returns-in-DropConditionTest
returns-in-DropConditionTest c = λ context same lists.
    let found = c.find-in-DropConditionTest.ensures context lists.trees in
    subst (λ own. IsSiteOf context c.args.body.now.operators.now own c.args.at c.find-in-DropConditionTest.result) (sym c.in-DropConditionTest.is) found

pub returns-in-DoubleCondition : goal.returns-in-DoubleCondition
returns-in-DoubleCondition c = λ context same lists.
    let found = c.find-in-DoubleCondition.ensures context lists.trees in
    subst (λ own. IsSiteOf context c.args.body.now.operators.now own c.args.at c.find-in-DoubleCondition.result) (sym c.in-DoubleCondition.is) found

pub returns-in-DropDoubleCondition : goal.returns-in-DropDoubleCondition
returns-in-DropDoubleCondition c = λ context same lists.
    let found = c.find-in-DropDoubleCondition.ensures context lists.trees in
    subst (λ own. IsSiteOf context c.args.body.now.operators.now own c.args.at c.find-in-DropDoubleCondition.result) (sym c.in-DropDoubleCondition.is) found

pub returns-in-PutDead : goal.returns-in-PutDead
returns-in-PutDead c = λ context same lists.
    let found = c.find-in-PutDead.ensures context in
    subst (λ own. IsSiteOf context c.args.body.now.operators.now own c.args.at c.find-in-PutDead.result) (sym c.in-PutDead.is) found

pub returns-in-DropDead : goal.returns-in-DropDead
returns-in-DropDead c = λ context same lists.
    let found = c.find-in-DropDead.ensures context lists.trees in
    subst (λ own. IsSiteOf context c.args.body.now.operators.now own c.args.at c.find-in-DropDead.result) (sym c.in-DropDead.is) found

pub returns-in-BoundIndex : goal.returns-in-BoundIndex
returns-in-BoundIndex c = λ context same lists.
    let found = c.find-in-BoundIndex.ensures context lists.trees in
    subst (λ own. IsSiteOf context c.args.body.now.operators.now own c.args.at c.find-in-BoundIndex.result) (sym c.in-BoundIndex.is) found

pub returns-in-DropIndexBound : goal.returns-in-DropIndexBound
returns-in-DropIndexBound c = λ context same lists.
    let found = c.find-in-DropIndexBound.ensures context lists.trees in
    subst (λ own. IsSiteOf context c.args.body.now.operators.now own c.args.at c.find-in-DropIndexBound.result) (sym c.in-DropIndexBound.is) found

pub returns-in-BrIfToIf : goal.returns-in-BrIfToIf
returns-in-BrIfToIf c = λ context same lists.
    let found = c.find-in-BrIfToIf.ensures context lists.blocks in
    subst (λ own. IsSiteOf context c.args.body.now.operators.now own c.args.at c.find-in-BrIfToIf.result) (sym c.in-BrIfToIf.is) found

pub returns-in-IfToBrIf : goal.returns-in-IfToBrIf
returns-in-IfToBrIf c = λ context same lists.
    let found = c.find-in-IfToBrIf.ensures context in
    subst (λ own. IsSiteOf context c.args.body.now.operators.now own c.args.at c.find-in-IfToBrIf.result) (sym c.in-IfToBrIf.is) found
