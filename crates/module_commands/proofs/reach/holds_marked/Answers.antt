-- It is marked, or one before it in its block is.
use Rattle.std.proofs.Common.{◌+◌, not, ◌&&◌, ◌||◌, Bool, sym, ap, subst, ◌∙◌}
use Rattle.std.specs.Prelude.{◌↔◌, IsTrue}
use Rattle.body_rewrites.specs.Reached.{OperatorIsMarked}
use Rattle.module_commands.specs.Reach.{HoldsReached}
use Rattle.module_commands.proofs.ReachLemmas.{holds_next}
use Rattle.module_commands.proofs.reach.holds_marked.Goals as goal

pub returns-then-held : goal.returns-then-held
returns-then-held c =
    subst (λ (b : Bool). IsTrue b ↔ HoldsReached (OperatorIsMarked c.args.marks.now) c.args.operators.now (c.args.at + 1))
    (ap (λ b. not b && (c.args.held || c.is_marked-marked.result)) c.if-not-stopped.true
    ∙ (ap (λ b. b || c.is_marked-marked.result) c.if-held.true ∙ sym c.if-held.true))
    (holds_next (OperatorIsMarked c.args.marks.now) c.args.operators.now c.args.at c.delimits-stopped.result c.is_marked-marked.result c.args.held
    c.requires.inside
    c.delimits-stopped.ensures c.is_marked-marked.ensures c.requires.held)

pub returns-else-held : goal.returns-else-held
returns-else-held c =
    subst (λ (b : Bool). IsTrue b ↔ HoldsReached (OperatorIsMarked c.args.marks.now) c.args.operators.now (c.args.at + 1))
    (ap (λ b. not b && (c.args.held || c.is_marked-marked.result)) c.if-not-stopped.true ∙ ap (λ b. b || c.is_marked-marked.result) c.if-held.false)
    (holds_next (OperatorIsMarked c.args.marks.now) c.args.operators.now c.args.at c.delimits-stopped.result c.is_marked-marked.result c.args.held
    c.requires.inside
    c.delimits-stopped.ensures c.is_marked-marked.ensures c.requires.held)

pub returns-else-not-stopped : goal.returns-else-not-stopped
returns-else-not-stopped c =
    subst (λ (b : Bool). IsTrue b ↔ HoldsReached (OperatorIsMarked c.args.marks.now) c.args.operators.now (c.args.at + 1))
    (ap (λ b. not b && (c.args.held || c.is_marked-marked.result)) c.if-not-stopped.false ∙ sym (ap not c.if-not-stopped.false))
    (holds_next (OperatorIsMarked c.args.marks.now) c.args.operators.now c.args.at c.delimits-stopped.result c.is_marked-marked.result c.args.held
    c.requires.inside
    c.delimits-stopped.ensures c.is_marked-marked.ensures c.requires.held)
