-- Class by class.
use Rattle.std.proofs.Common.{◌+◌, true, subst, sym, ◌∙◌, arith}
use Rattle.std.proofs.lemmas.Bool.{false≢true}
use Rattle.std.proofs.lemmas.Option.{slice_get-get_or}
use Rattle.body_rewrites.proofs.AllAlikeLemmas.{item_is}
use Rattle.body_rewrites.proofs.CandidateLemmas.{IsAdding, none_added, one_added, all_classes_added}
use Rattle.body_rewrites.proofs.layout.add_candidate.Goals.{then-used-class+in_ok-push, else-used-class}
use Rattle.body_rewrites.proofs.layout.add_candidate.Goals as goal

pub loop-class-preserved : goal.loop-class-preserved
loop-class-preserved c =
    let class = c.loop-class.class in
    let lists = c.loop-class.lists in
    let inside = c.loop-class-test.true in
    let long = c.loop-class.invariant.adds.long in
    elim c.if-used-class.branch [
      | then-used-class+in_ok-push w ↦
          one_added c.args.asked.now c.args.used.now c.args.classes class c.args.lists.now lists c.if-used-class.lists _ w.push.new.self w.again.result
          w.again.ensures inside
          (slice_get-get_or lists class w.index-lists-class.result (omega (arith, inside, c.requires.lists, long))) w.in_ok-push.ensures.items w.lists-is
          c.loop-class.invariant
      | else-used-class w ↦
          subst (IsAdding c.args.asked.now c.args.used.now c.args.classes (class + 1) c.args.lists.now) (sym w.lists-is)
          (none_added c.args.asked.now c.args.used.now c.args.classes class c.args.lists.now lists inside
          (λ marked. false≢true (sym w.if-used-class.false ∙ item_is c.args.used.now class _ true marked)) c.loop-class.invariant)
    ]

pub returns : goal.returns
returns c =
    all_classes_added c.args.asked.now c.args.used.now c.args.classes c.loop-class.class c.args.lists.now c.loop-class.lists
    (omega (arith, c.loop-class-test.false)) c.loop-class.invariant
