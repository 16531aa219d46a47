-- The lines of those that can't be read, and their count.
use Rattle.std.proofs.Common.{◌≡◌, ◌≤◌, ℕ, [], ◌++◌, length, refl, subst, arith}
use Rattle.std.proofs.lemmas.Grind.{common_steps}
use Rattle.std.specs.Io.KnownBytes.{Appends}
use Rattle.module_commands.specs.Lines.{functions_line}
use Rattle.module_commands.specs.Reports.{TellsUnreadable}
use Rattle.module_commands.proofs.FaultsLemmas.{more_told}
use Rattle.module_commands.proofs.TurnLemmas.{appends_more, appends_nothing, ok_map}
use Rattle.module_commands.proofs.stats.report_functions.Goals as goal

pub loop-n-init : goal.loop-n-init
loop-n-init g c = (omega arith, [], appends_nothing (g.W.Write.contents c.args.notes.now), (refl, refl))

pub loop-n-preserved : goal.loop-n-preserved
loop-n-preserved g c =
    let so_far = c.loop-n.invariant in
    let own = c.in_ok-unreadable.ensures.told in (
      omega (arith, so_far.0, c.in_ok-unreadable.ensures.most),
      so_far.1 ++ own.0,
      appends_more (g.W.Write.contents c.args.notes.now) (g.W.Write.contents c.loop-n.notes) (g.W.Write.contents c.report_function.new.notes)
          so_far.1 own.0 so_far.2 own.1,
      more_told c.args.form c.args.bytes.now c.args.wasm.now.info c.args.wasm.now.layout c.loop-n.n c.loop-n.unreadable _ so_far.1 own.0 so_far.3 own.2,
    )

pub returns-clause-reports : goal.returns-clause-reports
returns-clause-reports g c =
    let so_far = c.loop-n.invariant in
    let entries = c.args.wasm.now.layout.entries in
    let past : length entries ≤ c.loop-n.n = grind (arith, common_steps) in
    let within : c.loop-n.n ≤ length entries = grind (arith, common_steps) in
    let end : c.loop-n.n ≡ length entries = omega (arith, past, within) in
    let sized : c.len-count.result ≡ length entries = grind (arith, common_steps) in
    let before = g.W.Write.contents c.args.notes.now in
    let between = g.W.Write.contents c.loop-n.notes in
    ok_map c.write_functions.result (λ h. record {
      unreadable = c.loop-n.unreadable;
      lines = so_far.1;
      told = subst (λ (n : ℕ). TellsUnreadable c.args.form c.args.bytes.now c.args.wasm.now.info c.args.wasm.now.layout n c.loop-n.unreadable so_far.1)
          end so_far.3;
      written = appends_more before between (g.W.Write.contents c.write_functions.new.notes) so_far.1
          (functions_line c.args.form (length entries) c.loop-n.unreadable) so_far.2
          (subst (λ (n : ℕ). Appends between (g.W.Write.contents c.write_functions.new.notes) (functions_line c.args.form n c.loop-n.unreadable)) sized h);
    }) c.write_functions.ensures.line
