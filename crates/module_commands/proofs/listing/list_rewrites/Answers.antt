-- The lines of each function, one behind another.
use Rattle.std.proofs.Common.{◌≡◌, ◌+◌, ◌-◌, ◌≤◌, ℕ, [], ◌++◌, refl, sym, subst, arith}
use Rattle.module_options.specs.Form.{output_form_of}
use Rattle.module_commands.specs.Lists.{InTurn, ListsFunction}
use Rattle.module_options.specs.Scope.{scope_of}
use Rattle.module_commands.proofs.TurnLemmas.{appends_more, appends_nothing, turn_more}
use Rattle.module_commands.proofs.listing.list_rewrites.Goals as goal

pub loop-n-init : goal.loop-n-init
loop-n-init g c =
    let from = c.in_ok-chosen.chosen.start in
    let options = c.args.options.now in
    let none : 0 ≡ from - from = omega arith in (
      [],
      appends_nothing (g.W.Write.contents c.args.output.now),
      subst (λ (k : ℕ). InTurn (ListsFunction (output_form_of options) (scope_of options) c.args.bytes.now c.in_ok-module.module.info
          c.in_ok-module.module.layout) from k []) none refl,
    )

pub loop-n-preserved : goal.loop-n-preserved
loop-n-preserved g c =
    let front = c.loop-n.invariant in
    let own = c.in_ok-list_function.ensures.lines in
    let options = c.args.options.now in (
      front.0 ++ own.0,
      appends_more (g.W.Write.contents c.args.output.now) (g.W.Write.contents c.loop-n.output) (g.W.Write.contents c.list_function.new.output)
          front.0 own.0 front.1 own.1,
      turn_more (ListsFunction (output_form_of options) (scope_of options) c.args.bytes.now c.in_ok-module.module.info c.in_ok-module.module.layout)
          c.in_ok-chosen.chosen.start c.loop-n.n front.0 own.0 c.loop-n.auto.n front.2 own.2,
    )

pub returns-clause-lines : goal.returns-clause-lines
returns-clause-lines g c =
    let options = c.args.options.now in
    let from = c.in_ok-chosen.chosen.start in
    let to = c.in_ok-chosen.chosen.end in
    let ordered : from ≤ to = c.in_ok-chosen.ensures.inside.0 in
    let end : c.loop-n.n ≡ to = omega (arith, c.loop-n-test.false, c.loop-n.auto.n-end ordered) in
    let whole : to ≡ from + (to - from) = omega (arith, ordered) in
    record {
      text = c.loop-n.invariant.0;
      of = record {
        info = c.in_ok-module.module.info;
        layout = c.in_ok-module.module.layout;
        is = c.in_ok-module.ensures.read;
        from = from;
        count = to - from;
        chosen = λ n. rw (sym whole) (c.in_ok-chosen.ensures.chosen n);
        told = subst (λ (k : ℕ). InTurn (ListsFunction (output_form_of options) (scope_of options) c.args.bytes.now c.in_ok-module.module.info
            c.in_ok-module.module.layout) from (k - from) c.loop-n.invariant.0) end c.loop-n.invariant.2;
      };
      written = c.loop-n.invariant.1;
    }
