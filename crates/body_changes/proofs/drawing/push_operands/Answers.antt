-- Goals for two and for three operands.
use Rattle.std.proofs.Common.{◌+◌, arith}
use Rattle.body_changes.specs.Goals.{context_for}
use Rattle.body_changes.proofs.DrawingLemmas.{two_pushed, three_pushed}
use Rattle.body_changes.proofs.drawing.push_operands.Goals as goal

pub returns-in_ok-push-in-Two-2 : goal.returns-in_ok-push-in-Two-2
returns-in_ok-push-in-Two-2 c =
    let room = rw c.in-Two.is at c.requires.room in
    let first = c.named-first.ensures in
    rw c.in-Two.is (two_pushed (context_for c.args.scope.now) c.in-Two.a c.in-Two.b c.args.room (1 + c.named-first.result)
    c.args.goals.now.items c.push-in-Two.new.self.items c.push-in-Two-2.new.self.items (omega arith) (omega arith)
    (rw c.in-Two.is at c.requires.drawable) c.in_ok-push-in-Two.ensures.items c.in_ok-push-in-Two-2.ensures.items)

pub returns-in_ok-push-in-Three-3 : goal.returns-in_ok-push-in-Three-3
returns-in_ok-push-in-Three-3 c =
    let room = rw c.in-Three.is at c.requires.room in
    let first = c.named-first-in-Three.ensures in
    let second = c.named-second.ensures in
    rw c.in-Three.is (three_pushed (context_for c.args.scope.now) c.in-Three.a c.in-Three.b c.in-Three.c c.args.room
    (1 + c.named-first-in-Three.result) (1 + c.named-second.result) c.args.goals.now.items c.push-in-Three.new.self.items
    c.push-in-Three-2.new.self.items c.push-in-Three-3.new.self.items (omega arith) (omega arith) (omega arith)
    (rw c.in-Three.is at c.requires.drawable) c.in_ok-push-in-Three.ensures.items c.in_ok-push-in-Three-2.ensures.items
    c.in_ok-push-in-Three-3.ensures.items)
