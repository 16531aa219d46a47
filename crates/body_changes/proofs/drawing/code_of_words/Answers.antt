-- One instruction more, and all of them.
use Rattle.std.proofs.Common.{◌≡◌, List, [], ◌∷◌, length, refl, sym, ◌∙◌, subst, append-nil, arith}
use Rattle.std.proofs.lemmas.Grind.{common_steps}
use Rattle.std.proofs.lemmas.List.Elements.{All-pop}
use Rattle.body_changes.specs.declared.goal.Goal.{Goal}
use Rattle.body_changes.specs.declared.goal.Words.{Words}
use Rattle.body_changes.specs.Goals.{context_for, HasDrawn, GoalIsOpen}
use Rattle.body_changes.proofs.DrawingLemmas.{drawing_goes_on, drawing_stays, drawing_ends, drawn_plain, only_goes_on, only_stays, only_ends}
use Rattle.body_changes.proofs.drawing.code_of_words.Goals.{in-Some+in_ok-draw_next, in_default}
use Rattle.body_changes.proofs.drawing.code_of_words.Goals as goal

no_goals : (goals : List Goal) → length goals ≡ 0 → goals ≡ []
no_goals [] e = refl
no_goals (g ∷ goals) e = absurd (omega arith)

pub loop-step-preserved : goal.loop-step-preserved
loop-step-preserved c =
    let context = context_for c.args.scope.now in
    let first : Goal = record { wanted = c.args.wanted; size = c.args.size } in
    elim c.match-pop.branch [
      | in-Some+in_ok-draw_next w ↦
          let items = rw w.in-Some.is at c.pop.ensures.items in
          let open_goals = All-pop (GoalIsOpen context) c.loop-step.goals.items c.pop.new.self.items c.pop.result c.pop.ensures.items
          c.loop-step.invariant.drawing.some in
          let is_open = rw w.in-Some.is at open_goals.1 in
          let drawn = w.in_ok-draw_next.ensures in
          rw (w.goals-is, w.code-is) (record {
            drawing = drawing_goes_on context c.args.wanted c.args.size c.loop-step.step c.loop-step.goals.items c.pop.new.self.items
                w.draw_next.new.goals.items w.in-Some.goal w.first_words.result c.loop-step.code.items w.draw_next.new.code.items items
                c.loop-step.invariant.drawing open_goals.0 is_open drawn;
            only = only_goes_on context first w.in-Some.goal c.loop-step.step c.args.words.now c.loop-step.rest.now _ c.loop-step.goals.items
                c.pop.new.self.items w.draw_next.new.goals.items c.loop-step.code.items w.draw_next.new.code.items items
                (subst (λ (ws : Words). HasDrawn context w.in-Some.goal ws c.pop.new.self.items c.loop-step.code.items w.draw_next.new.goals.items
                w.draw_next.new.code.items) w.first_words.ensures drawn) c.loop-step.invariant.only;
          })
      | in_default w ↦
          let items = rw w.in_default.is at c.pop.ensures.items in
          let cases = rw w.in_default.is at c.pop.ensures.cases in
          let none : c.loop-step.goals.items ≡ [] = no_goals c.loop-step.goals.items (grind (arith, common_steps)) in
          let left : c.pop.new.self.items ≡ [] = sym (append-nil c.pop.new.self.items) ∙ (sym items ∙ none) in
          rw (w.goals-is, w.code-is) (record {
            drawing = drawing_stays context c.args.wanted c.args.size c.loop-step.step c.loop-step.goals.items c.pop.new.self.items
                c.loop-step.code.items none left c.loop-step.invariant.drawing;
            only = only_stays context first c.loop-step.step c.args.words.now c.loop-step.rest.now _ c.loop-step.goals.items c.pop.new.self.items
                c.loop-step.code.items none left c.loop-step.invariant.only;
          })
    ]

pub returns-clause-code : goal.returns-clause-code
returns-clause-code c =
    (drawing_ends (context_for c.args.scope.now) c.args.wanted c.args.size c.loop-step.step c.loop-step.goals.items c.loop-step.code.items
    c.turn.new.code.items c.loop-step-test.false c.turn.ensures c.loop-step.invariant.drawing).0

pub returns-clause-few : goal.returns-clause-few
returns-clause-few c =
    (drawing_ends (context_for c.args.scope.now) c.args.wanted c.args.size c.loop-step.step c.loop-step.goals.items c.loop-step.code.items
    c.turn.new.code.items c.loop-step-test.false c.turn.ensures c.loop-step.invariant.drawing).1

pub returns-clause-plain : goal.returns-clause-plain
returns-clause-plain c =
    drawn_plain (context_for c.args.scope.now) c.args.wanted c.args.size c.loop-step.step c.loop-step.goals.items c.loop-step.code.items
    c.turn.new.code.items c.turn.ensures c.loop-step.invariant.drawing

pub returns-clause-drawn : goal.returns-clause-drawn
returns-clause-drawn c =
    only_ends (context_for c.args.scope.now) (record { wanted = c.args.wanted; size = c.args.size }) c.loop-step.step c.args.words.now
    c.loop-step.rest.now c.loop-step.goals.items c.loop-step.code.items c.turn.new.code.items c.loop-step-test.false c.turn.ensures
    c.loop-step.invariant.drawing c.loop-step.invariant.only
