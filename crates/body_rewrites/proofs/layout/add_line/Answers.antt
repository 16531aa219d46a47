-- By whether its left side is an operand alone.
use Rattle.std.proofs.Common.{sym, ◌∙◌}
use Rattle.body_rewrites.proofs.CandidateLemmas.{alone_added, candidate_added, on_ok}
use Rattle.body_rewrites.proofs.layout.add_line.Goals as goal

pub returns-then-is_alone-clause-added : goal.returns-then-is_alone-clause-added
returns-then-is_alone-clause-added c = λ lines so.
    alone_added c.args.exact c.args.used.now lines c.args.asked.now c.args.lists.now c.args.alone.now.items c.push.new.self.items c.again.result c.again.ensures
    (sym c.is_alone.ensures ∙ c.if-is_alone.true) c.in_ok-push.ensures.items so

pub returns-clause-added : goal.returns-clause-added
returns-clause-added c =
    on_ok c.add_candidate.result
    (λ adds lines so. candidate_added c.args.exact c.args.used.now lines c.args.asked.now c.args.lists.now c.add_candidate.new.lists c.args.alone.now.items
    c.classes_of.result (sym c.is_alone.ensures ∙ c.if-is_alone.false) c.classes_of.ensures.are adds so) c.add_candidate.ensures

pub returns-clause-long : goal.returns-clause-long
returns-clause-long c = on_ok c.add_candidate.result (λ adds. adds.long ∙ c.requires.lists) c.add_candidate.ensures
