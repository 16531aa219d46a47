-- The line of each block, one behind another.
use Rattle.std.proofs.Common.{◌≡◌, ◌≤◌, ℕ, [], ◌++◌, length, refl, subst, arith}
use Rattle.std.proofs.lemmas.Grind.{common_steps}
use Rattle.module_commands.specs.Blocks.{TellsBlock}
use Rattle.module_commands.specs.Lines.{block_lines}
use Rattle.module_commands.specs.Lists.{InTurn}
use Rattle.module_commands.proofs.TurnLemmas.{appends_more, appends_nothing, turn_next}
use Rattle.module_commands.proofs.blocks.write_blocks.Goals as goal

pub loop-last-init : goal.loop-last-init
loop-last-init g c = ([], appends_nothing (g.W.Write.contents c.args.output.now), refl)

pub loop-last-preserved : goal.loop-last-preserved
loop-last-preserved g c =
    let front = c.loop-last.invariant in
    let own = block_lines c.args.form c.line_ending-line.result in (
      front.0 ++ own,
      appends_more (g.W.Write.contents c.args.output.now) (g.W.Write.contents c.loop-last.output) (g.W.Write.contents c.write_lines.new.output)
          front.0 own front.1 c.in_ok-write_lines.ensures.lines,
      turn_next (TellsBlock c.args.form c.args.function c.args.operators.now) c.loop-last.last front.0 own front.2
          (c.line_ending-line.ensures c.args.form),
    )

pub returns-clause-lines : goal.returns-clause-lines
returns-clause-lines g c =
    let past : length c.args.operators.now ≤ c.loop-last.last = grind (arith, common_steps) in
    let within : c.loop-last.last ≤ length c.args.operators.now = grind (arith, common_steps) in
    let end : c.loop-last.last ≡ length c.args.operators.now = omega (arith, past, within) in (
      c.loop-last.invariant.0,
      c.loop-last.invariant.1,
      subst (λ (n : ℕ). InTurn (TellsBlock c.args.form c.args.function c.args.operators.now) 0 n c.loop-last.invariant.0) end
          c.loop-last.invariant.2,
    )
