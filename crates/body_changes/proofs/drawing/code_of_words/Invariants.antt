-- The code so far.
use Rattle.body_changes.specs.Goals.{context_for, DrawsOnly, IsDrawing}
use Rattle.body_changes.proofs.drawing.code_of_words.Given as goal

abbrev pub invariant-loop-step : goal.invariant-loop-step
invariant-loop-step l = record {
  drawing : IsDrawing (context_for l.scope) l.fn.wanted l.fn.size l.step l.goals.items l.code.items;
  only : DrawsOnly (context_for l.scope) (record { wanted = l.fn.wanted; size = l.fn.size }) l.step l.words l.rest l.goals.items l.code.items;
}
