use Rattle.std.proofs.Common.{◌≡◌, [], rules, refl}
use Rattle.peephole_payloads.specs.Parts.{remaining_parts}
use Rattle.peephole_payloads.proofs.ShuffleLemmas.{starts, keeps, overflows, whole}
use Rattle.peephole_payloads.proofs.payload_text.ShuffleFromStr.from_str.Goals as goal

pub loop-part-init : goal.loop-part-init
loop-part-init c = starts _ _ _ c.new-parts.ensures refl

pub loop-part-preserved-then-count-lt16 : goal.loop-part-preserved-then-count-lt16
loop-part-preserved-then-count-lt16 c =
    keeps c.args.text.now (remaining_parts c.loop-part.parts.left) c.in-Some.part.now
    (remaining_parts c.part.new.self.left) c.loop-part.indices c.loop-part.count c.in_ok-lane.lane
    c.loop-part.invariant c.in-Some.ensures c.in_ok-lane.ensures c.if-count-lt16.true

pub loop-part-preserved : goal.loop-part-preserved
loop-part-preserved c =
    overflows c.args.text.now (remaining_parts c.loop-part.parts.left) c.in-Some.part.now
    (remaining_parts c.part.new.self.left) c.loop-part.indices c.loop-part.count c.in_ok-lane.lane
    c.loop-part.invariant c.in-Some.ensures c.in_ok-lane.ensures c.if-count-lt16.false

pub returns-then-count-eq16 : goal.returns-then-count-eq16
returns-then-count-eq16 c =
    let none : remaining_parts c.loop-part.parts.left ≡ [] = search rules in
    whole c.args.text.now (remaining_parts c.loop-part.parts.left) c.loop-part.indices c.loop-part.count c.loop-part.invariant none c.if-count-eq16.true
