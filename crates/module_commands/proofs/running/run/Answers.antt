-- Why the module that was read isn't written rewritten, and nothing listed of it.
use Rattle.std.proofs.Common.{refl, subst, sym}
use Rattle.std.proofs.lemmas.Result.{err_from_is_err_and}
use Rattle.module_commands.specs.Failures.{FailsAtTask, FailsToDo, IsNoOther, SharesMemory, TakesModule}
use Rattle.module_options.specs.declared.task.Task.{Task}
use Rattle.module_commands.proofs.FaultsLemmas.{task_fails}
use Rattle.module_commands.proofs.WritesLemmas.{err_map, of_all, on_ok_of}
use Rattle.module_commands.proofs.running.run.Goals as goal

pub returns-in_ok-bytes-in-Rewrite-clause-fails : goal.returns-in_ok-bytes-in-Rewrite-clause-fails
returns-in_ok-bytes-in-Rewrite-clause-fails g c =
    let options = c.args.options.now in
    let bytes = c.deref.result.now in
    let taken = c.in_ok-bytes-in-Rewrite.ensures in
    let none : IsNoOther bytes = subst IsNoOther (sym c.deref.ensures.value) taken.other in
    err_map c.rewrite.result (λ e h. of_all (λ bytes. FailsToDo options.task options bytes e) (g.R.Read.remaining c.args.input.now.device)
    (g.R.Read.remaining c.take_module.new.input.device) c.in_ok-bytes-in-Rewrite.bytes.items bytes taken.bytes taken.end c.deref.ensures.value
    (task_fails options.task options bytes e none
    (subst (λ (task : Task). FailsAtTask task options bytes e) (sym c.in-Rewrite.is) h))) c.rewrite.ensures.fails

pub returns-in_err-list_rewrites-in-List-clause-fails : goal.returns-in_err-list_rewrites-in-List-clause-fails
returns-in_err-list_rewrites-in-List-clause-fails g c =
    let options = c.args.options.now in
    let bytes = c.deref-in-List.result.now in
    let taken = c.in_ok-bytes-in-List.ensures in
    let none : IsNoOther bytes = subst IsNoOther (sym c.deref-in-List.ensures.value) taken.other in
    let e = c.in_err-list_rewrites-in-List.field-0.0 in
    let p = err_from_is_err_and c.from_residual-in_err-list_rewrites-in-List.result c.from_residual-in_err-list_rewrites-in-List.ensures.1 in
    rw (p.1, p.2) (of_all (λ bytes. FailsToDo options.task options bytes e) (g.R.Read.remaining c.args.input.now.device)
    (g.R.Read.remaining c.take_module-in-List.new.input.device) c.in_ok-bytes-in-List.bytes.items bytes taken.bytes taken.end
    c.deref-in-List.ensures.value (task_fails options.task options bytes e none
    (subst (λ (task : Task). FailsAtTask task options bytes e) (sym c.in-List.is) c.in_err-list_rewrites-in-List.ensures.fails)))

pub returns-in_err-list_sites-in-Sites-clause-fails : goal.returns-in_err-list_sites-in-Sites-clause-fails
returns-in_err-list_sites-in-Sites-clause-fails g c =
    let options = c.args.options.now in
    let bytes = c.deref-in-Sites.result.now in
    let taken = c.in_ok-bytes-in-Sites.ensures in
    let none : IsNoOther bytes = subst IsNoOther (sym c.deref-in-Sites.ensures.value) taken.other in
    let e = c.in_err-list_sites-in-Sites.field-0.0 in
    let p = err_from_is_err_and c.from_residual-in_err-list_sites-in-Sites.result c.from_residual-in_err-list_sites-in-Sites.ensures.1 in
    rw (p.1, p.2) (of_all (λ bytes. FailsToDo options.task options bytes e) (g.R.Read.remaining c.args.input.now.device)
    (g.R.Read.remaining c.take_module-in-Sites.new.input.device) c.in_ok-bytes-in-Sites.bytes.items bytes taken.bytes taken.end
    c.deref-in-Sites.ensures.value (task_fails options.task options bytes e none
    (subst (λ (task : Task). FailsAtTask task options bytes e) (sym c.in-Sites.is) c.in_err-list_sites-in-Sites.ensures.fails)))

pub returns-in_err-list_blocks-in-Blocks-clause-fails : goal.returns-in_err-list_blocks-in-Blocks-clause-fails
returns-in_err-list_blocks-in-Blocks-clause-fails g c =
    let options = c.args.options.now in
    let bytes = c.deref-in-Blocks.result.now in
    let taken = c.in_ok-bytes-in-Blocks.ensures in
    let none : IsNoOther bytes = subst IsNoOther (sym c.deref-in-Blocks.ensures.value) taken.other in
    let e = c.in_err-list_blocks-in-Blocks.field-0.0 in
    let p = err_from_is_err_and c.from_residual-in_err-list_blocks-in-Blocks.result c.from_residual-in_err-list_blocks-in-Blocks.ensures.1 in
    rw (p.1, p.2) (of_all (λ bytes. FailsToDo options.task options bytes e) (g.R.Read.remaining c.args.input.now.device)
    (g.R.Read.remaining c.take_module-in-Blocks.new.input.device) c.in_ok-bytes-in-Blocks.bytes.items bytes taken.bytes taken.end
    c.deref-in-Blocks.ensures.value (task_fails options.task options bytes e none
    (subst (λ (task : Task). FailsAtTask task options bytes e) (sym c.in-Blocks.is) c.in_err-list_blocks-in-Blocks.ensures.fails)))

-- threads share no memory of the module, since it was taken
pub returns-in_ok-bytes-in-Rewrite-clause-alone : goal.returns-in_ok-bytes-in-Rewrite-clause-alone
returns-in_ok-bytes-in-Rewrite-clause-alone g c = λ takes exact.
    let taken = c.in_ok-bytes-in-Rewrite.ensures in
    on_ok_of c.rewrite.result
    (of_all (λ bytes. ¬ (SharesMemory bytes)) (g.R.Read.remaining c.args.input.now.device) (g.R.Read.remaining c.take_module.new.input.device)
    c.in_ok-bytes-in-Rewrite.bytes.items c.in_ok-bytes-in-Rewrite.bytes.items taken.bytes taken.end refl (taken.alone exact))

pub returns-in_ok-flush-in-List-clause-alone : goal.returns-in_ok-flush-in-List-clause-alone
returns-in_ok-flush-in-List-clause-alone g c = λ takes exact.
    let taken = c.in_ok-bytes-in-List.ensures in
    of_all (λ bytes. ¬ (SharesMemory bytes)) (g.R.Read.remaining c.args.input.now.device) (g.R.Read.remaining c.take_module-in-List.new.input.device)
    c.in_ok-bytes-in-List.bytes.items c.in_ok-bytes-in-List.bytes.items taken.bytes taken.end refl (taken.alone exact)

pub returns-in_ok-flush-in-Sites-clause-alone : goal.returns-in_ok-flush-in-Sites-clause-alone
returns-in_ok-flush-in-Sites-clause-alone g c = λ takes exact.
    let taken = c.in_ok-bytes-in-Sites.ensures in
    of_all (λ bytes. ¬ (SharesMemory bytes)) (g.R.Read.remaining c.args.input.now.device) (g.R.Read.remaining c.take_module-in-Sites.new.input.device)
    c.in_ok-bytes-in-Sites.bytes.items c.in_ok-bytes-in-Sites.bytes.items taken.bytes taken.end refl (taken.alone exact)

pub returns-in_ok-flush-in-Blocks-clause-alone : goal.returns-in_ok-flush-in-Blocks-clause-alone
returns-in_ok-flush-in-Blocks-clause-alone g c = λ takes exact.
    let taken = c.in_ok-bytes-in-Blocks.ensures in
    of_all (λ bytes. ¬ (SharesMemory bytes)) (g.R.Read.remaining c.args.input.now.device) (g.R.Read.remaining c.take_module-in-Blocks.new.input.device)
    c.in_ok-bytes-in-Blocks.bytes.items c.in_ok-bytes-in-Blocks.bytes.items taken.bytes taken.end refl (taken.alone exact)

pub returns-in-Rules-clause-alone : goal.returns-in-Rules-clause-alone
returns-in-Rules-clause-alone g c = λ takes exact. absurd (subst TakesModule c.in-Rules.is takes)

-- the same of a module that is changed
pub returns-in_ok-bytes-in-Change-clause-fails : goal.returns-in_ok-bytes-in-Change-clause-fails
returns-in_ok-bytes-in-Change-clause-fails g c =
    let options = c.args.options.now in
    let bytes = c.deref-in-Change.result.now in
    let taken = c.in_ok-bytes-in-Change.ensures in
    let none : IsNoOther bytes = subst IsNoOther (sym c.deref-in-Change.ensures.value) taken.other in
    err_map c.write_changed.result (λ e h. of_all (λ bytes. FailsToDo options.task options bytes e) (g.R.Read.remaining c.args.input.now.device)
    (g.R.Read.remaining c.take_module-in-Change.new.input.device) c.in_ok-bytes-in-Change.bytes.items bytes taken.bytes taken.end
    c.deref-in-Change.ensures.value (task_fails options.task options bytes e none
    (subst (λ (task : Task). FailsAtTask task options bytes e) (sym c.in-Change.is) h))) c.write_changed.ensures.fails

pub returns-in_ok-bytes-in-Change-clause-alone : goal.returns-in_ok-bytes-in-Change-clause-alone
returns-in_ok-bytes-in-Change-clause-alone g c = λ takes exact.
    let taken = c.in_ok-bytes-in-Change.ensures in
    on_ok_of c.write_changed.result
    (of_all (λ bytes. ¬ (SharesMemory bytes)) (g.R.Read.remaining c.args.input.now.device) (g.R.Read.remaining c.take_module-in-Change.new.input.device)
    c.in_ok-bytes-in-Change.bytes.items c.in_ok-bytes-in-Change.bytes.items taken.bytes taken.end refl (taken.alone exact))

pub returns-in-Changes-clause-alone : goal.returns-in-Changes-clause-alone
returns-in-Changes-clause-alone g c = λ takes exact. absurd (subst TakesModule c.in-Changes.is takes)
