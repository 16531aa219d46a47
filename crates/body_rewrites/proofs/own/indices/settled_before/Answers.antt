-- By the tree right before the operator.
use Rattle.std.proofs.Common.{◌-◌, ℕ, List, sym, ◌∙◌, arith}
use Rattle.std.specs.Prelude.{Some, None}
use Rattle.std.proofs.lemmas.Bool.{false≢true}
use Rattle.wasm_code.specs.declared.operator.Operator.{Operator}
use Rattle.wasm_execution.specs.Values.{Context}
use Rattle.body_rewrites.specs.Trees.{AreTrees}
use Rattle.body_rewrites.specs.Own.{IsReadBefore}
use Rattle.body_rewrites.specs.OwnSites.{IsSettledBefore}
use Rattle.body_rewrites.proofs.MadeLemmas.{if_found}
use Rattle.body_rewrites.proofs.OwnCodeLemmas.{if_none}
use Rattle.body_rewrites.proofs.OwnFindLemmas.{tree_told}
use Rattle.body_rewrites.proofs.FlowFindLemmas.{none_read}
use Rattle.body_rewrites.proofs.IndexFindLemmas.{what_is_asked}
use Rattle.body_rewrites.proofs.own.indices.settled_before.Goals as goal

pub returns-then-end-eq0-clause-none : goal.returns-then-end-eq0-clause-none
returns-then-end-eq0-clause-none c = λ context operators trees start s.
    let last = s.read.last_is in absurd (omega (arith, last, c.if-end-eq0.true))

pub returns-in_default-clause-none : goal.returns-in_default-clause-none
returns-in_default-clause-none c = λ context operators trees start s.
    none_read context operators (c.args.end - 1) c.args.end (omega (arith, c.if-end-eq0.false))
    (tree_told c.args.trees.now (c.args.end - 1) None (sym c.in_default.is ∙ c.tree_at.ensures) context operators trees) start s.read

pub returns-then-tree-clause-none : goal.returns-then-tree-clause-none
returns-then-tree-clause-none c = λ context operators trees start s.
    false≢true (sym s.settled
    ∙ (sym (what_is_asked context operators (c.args.end - 1) c.args.end c.in-Some.tree (omega (arith, c.if-end-eq0.false))
    (tree_told c.args.trees.now (c.args.end - 1) (Some c.in-Some.tree) (sym c.in-Some.is ∙ c.tree_at.ensures) context operators trees) start s.read)
    ∙ c.if-tree.true))

pub returns-clause-some : goal.returns-clause-some
returns-clause-some c =
    if_found c.read_before.result
    (λ start. (context : Context) (operators : List (Operator × ℕ)) → AreTrees context operators c.args.trees.now →
    IsReadBefore context operators start c.args.end)
    (λ start. (context : Context) (operators : List (Operator × ℕ)) → AreTrees context operators c.args.trees.now →
    IsSettledBefore context operators start c.args.end)
    (λ start read context operators trees. record {
      read = read context operators trees;
      settled = sym (what_is_asked context operators (c.args.end - 1) c.args.end c.in-Some.tree (omega (arith, c.if-end-eq0.false))
          (tree_told c.args.trees.now (c.args.end - 1) (Some c.in-Some.tree) (sym c.in-Some.is ∙ c.tree_at.ensures) context operators trees) start
          (read context operators trees)) ∙ c.if-tree.false;
    })
    c.read_before.ensures.some

pub returns-clause-none : goal.returns-clause-none
returns-clause-none c =
    if_none c.read_before.result
    ((context : Context) (operators : List (Operator × ℕ)) → AreTrees context operators c.args.trees.now → (start : ℕ) →
    IsReadBefore context operators start c.args.end → ⊥)
    ((context : Context) (operators : List (Operator × ℕ)) → AreTrees context operators c.args.trees.now → (start : ℕ) →
    IsSettledBefore context operators start c.args.end → ⊥)
    (λ none context operators trees start s. none context operators trees start s.read) c.read_before.ensures.none
