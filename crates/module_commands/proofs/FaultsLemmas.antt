-- What is told of functions that can be read, and of those that can't; why no list is written.
use Rattle.std.proofs.Common.{◌≡◌, ℕ, suc, ◌+◌, ◌<◌, List, [], ◌∷◌, ◌++◌, length, take, get_or, Option, Some, None, inr, refl, sym, ap, ◌∙◌}
use Rattle.std.proofs.Common.{subst, append_assoc, append-nil, arith}
use Rattle.std.specs.Prelude.{◌^◌}
use Rattle.std.proofs.lemmas.List.{take_more}
use Rattle.std.specs.Io.KnownBytes.{Appends}
use Rattle.wasm_code.specs.declared.operator.Operator.{Operator}
use Rattle.wasm_types.specs.Module.{Module}
use Rattle.wasm_types.specs.declared.types.PrimitiveTypeInfo.{PrimitiveTypeInfo}
use Rattle.wasm_module.specs.Module.{Layout, IsModule}
use Rattle.module_changes.specs.Scope.{Scope}
use Rattle.module_changes.specs.Placed.{RefusesAt}
use Rattle.module_changes.specs.Times.{IsRefusal}
use Rattle.module_changes.specs.declared.placed.ChangeAt.{ChangeAt}
use Rattle.module_changes.specs.declared.refusal.Refusal.{Refusal}
use Rattle.module_changes.specs.declared.refusal.Refusal.TheVariants as refusals
use Rattle.module_rewrites.specs.Attempt.{IsKnownFunctionFault, RefusesIndex}
use Rattle.module_rewrites.specs.Function.{IsFunction}
use Rattle.module_rewrites.specs.declared.attempt.Reason.{Reason}
use Rattle.module_rewrites.specs.declared.attempt.Reason.TheVariants.{NoRule, NoOwnFunction, Unreadable, NoFunction, UnknownImport, Refused}
use Rattle.module_rewrites.specs.declared.function.FunctionError.{FunctionError}
use Rattle.module_rewrites.specs.declared.times.MadeRewrite.{MadeRewrite}
use Rattle.module_commands.specs.Blocks.{TellsBlock, TellsBlocks, TellsFault}
use Rattle.module_rewrites.specs.Seeded.{seeded}
use Rattle.module_commands.specs.Changing.{failure_by}
use Rattle.module_options.specs.Scope.{change_scope_of}
use Rattle.module_commands.specs.Failures.{FailsAtTask, FailsToChange, FailsToDo, FailsToInform, FailsToList, FailsToRead, FailsToReport}
use Rattle.module_commands.specs.Failures.{IsNoOther, IsReasonToListNone, IsWhyUnchanged}
use Rattle.module_commands.specs.Lines.{rewrite_line}
use Rattle.module_commands.specs.Lists.{InTurn}
use Rattle.module_commands.specs.Reports.{TellsIfUnread, TellsUnreadable, made_lines}
use Rattle.module_commands.specs.declared.failure.Failure.{Failure}
use Rattle.module_commands.specs.declared.failure.Failure.TheVariants.{Nothing, Unchanged, Input, TooLong, Component, TextFormat, SharedMemory, Output, Memory}
use Rattle.module_options.specs.declared.form.Form.{Form}
use Rattle.module_options.specs.declared.options.Options.{Options}
use Rattle.module_options.specs.declared.task.Task.{Task}
use Rattle.module_options.specs.declared.task.Task.TheVariants.{Rewrite, Change, List as Lists, Sites, Blocks, Rules, Changes}
use Rattle.module_commands.proofs.TurnLemmas.{appends_more}

abbrev Types : Type 0
Types = List PrimitiveTypeInfo

abbrev Operators : Type 0
Operators = List (Operator × ℕ)

-- ---- blocks

-- of a function that was read
pub tells_read : (form : Form) (bytes : List ℕ) (info : Module) (layout : Layout) (n : ℕ) (locals : Types) (expression : ℕ) (operators given : Operators)
    (index : ℕ) (text : List ℕ) → given ≡ operators → IsFunction bytes info layout n locals expression operators →
    ((l : Types) (x : ℕ) (o : Operators) → IsFunction bytes info layout n l x o → (locals ≡ l) × (operators ≡ o)) →
    (layout.imported_functions + n < 2 ^ 64 → index ≡ layout.imported_functions + n) → InTurn (TellsBlock form index given) 0 (length given) text →
    TellsBlocks form bytes info layout n text
tells_read form bytes info layout n locals expression operators given index text given_is f only at told = record {
  read = λ l x o k small.
      let s = only l x o k in
      subst (λ (os : Operators). InTurn (TellsBlock form (layout.imported_functions + n) os) 0 (length os) text) (given_is ∙ s.1)
      (subst (λ (i : ℕ). InTurn (TellsBlock form i given) 0 (length given) text) (at small) told);
  unread = λ never. absurd (never (record { locals = locals; expression = expression; operators = operators; is = f }));
}

-- of one that can't be
pub tells_unread : (form : Form) (bytes : List ℕ) (info : Module) (layout : Layout) (n : ℕ) (error : FunctionError) (text : List ℕ) →
    ((l : Types) (x : ℕ) (o : Operators) → IsFunction bytes info layout n l x o → ⊥) → IsKnownFunctionFault bytes info layout n error →
    TellsFault form layout n error text → TellsBlocks form bytes info layout n text
tells_unread form bytes info layout n error text never fault tells = record {
  read = λ l x o k _. absurd (never l x o k);
  unread = λ _. (error, fault, tells);
}

-- ---- reports

-- one function more
pub more_told : (form : Form) (bytes : List ℕ) (info : Module) (layout : Layout) (n unreadable one : ℕ) (front own : List ℕ) →
    TellsUnreadable form bytes info layout n unreadable front → TellsIfUnread form bytes info layout n one own →
    TellsUnreadable form bytes info layout (n + 1) (unreadable + one) (front ++ own)
more_told form bytes info layout n unreadable one front own h k =
    let next : suc n ≡ n + 1 = omega arith in
    subst (λ (m : ℕ). TellsUnreadable form bytes info layout m (unreadable + one) (front ++ own)) next (unreadable, one, front, own, refl, refl, h, k)

-- one rewrite more
made_more : (form : Form) (ms : List MadeRewrite) (m : MadeRewrite) →
    made_lines form (ms ++ m ∷ []) ≡ made_lines form ms ++ rewrite_line form m.function m.rewrite
made_more form [] m = append-nil (rewrite_line form m.function m.rewrite)
made_more form (x ∷ ms) m =
    ap (λ (l : List ℕ). rewrite_line form x.function x.rewrite ++ l) (made_more form ms m)
    ∙ sym (append_assoc (rewrite_line form x.function x.rewrite) (made_lines form ms) (rewrite_line form m.function m.rewrite))

pub made_next : (a b c : Option (List ℕ)) (form : Form) (ms : List MadeRewrite) (k : ℕ) (d : MadeRewrite) → k < length ms →
    Appends a b (made_lines form (take k ms)) → Appends b c (rewrite_line form (get_or ms k d).function (get_or ms k d).rewrite) →
    Appends a c (made_lines form (take (k + 1) ms))
made_next a b c form ms k d l front own =
    subst (Appends a c) (sym (ap (made_lines form) (take_more ms k d l) ∙ made_more form (take k ms) (get_or ms k d)))
    (appends_more a b c (made_lines form (take k ms)) (rewrite_line form (get_or ms k d).function (get_or ms k d).rewrite) front own)

-- ---- failures

pub read_fails : (only : Option ℕ) (bytes : List ℕ) (e : Failure) → FailsToRead bytes e → FailsToList only bytes e
read_fails only bytes (Nothing NoRule) h = absurd h
read_fails only bytes (Nothing NoOwnFunction) h = absurd h
read_fails only bytes (Nothing (Unreadable e)) h = absurd h
read_fails only bytes (Nothing (NoFunction f)) h = absurd h
read_fails only bytes (Nothing (UnknownImport e)) h = absurd h
read_fails only bytes (Nothing (Refused e)) h = h
read_fails only bytes (Unchanged refusal) h = absurd h
read_fails only bytes Input h = absurd h
read_fails only bytes TooLong h = absurd h
read_fails only bytes Component h = absurd h
read_fails only bytes TextFormat h = absurd h
read_fails only bytes SharedMemory h = absurd h
read_fails only bytes Output h = tt
read_fails only bytes Memory h = tt

pub index_fails : (only : Option ℕ) (bytes : List ℕ) (info : Module) (layout : Layout) (e : Failure) (reason : Reason) → IsModule bytes info layout →
    RefusesIndex layout only reason → e ≡ Nothing reason → FailsToList only bytes e
index_fails only bytes info layout e reason is h because = subst (FailsToList only bytes) (sym because) (listed reason h)
  where
    listed : (r : Reason) → RefusesIndex layout only r → IsReasonToListNone only bytes r
    listed NoRule k = k
    listed NoOwnFunction k = k
    listed (Unreadable e) k = k
    listed (NoFunction f) k = record { info = info; layout = layout; is = is; refuses = k }
    listed (UnknownImport x) k = record { info = info; layout = layout; is = is; refuses = k }
    listed (Refused x) k = absurd k

-- a task fails at what was read: its own faults are none of the input's
pub task_fails : (task : Task) (options : Options) (bytes : List ℕ) (e : Failure) → IsNoOther bytes → FailsAtTask task options bytes e →
    FailsToDo task options bytes e
task_fails task options bytes (Nothing reason) none h = (none, h)
task_fails task options bytes (Unchanged refusal) none h = (none, h)
task_fails task options bytes Input none h = tt
task_fails Rewrite options bytes TooLong none h = absurd h
task_fails Change options bytes TooLong none h = absurd h
task_fails Lists options bytes TooLong none h = absurd h
task_fails Sites options bytes TooLong none h = absurd h
task_fails Blocks options bytes TooLong none h = absurd h
task_fails (Rules form) options bytes TooLong none h = absurd h
task_fails Changes options bytes TooLong none h = absurd h
task_fails Rewrite options bytes Component none h = absurd h
task_fails Change options bytes Component none h = absurd h
task_fails Lists options bytes Component none h = absurd h
task_fails Sites options bytes Component none h = absurd h
task_fails Blocks options bytes Component none h = absurd h
task_fails (Rules form) options bytes Component none h = absurd h
task_fails Changes options bytes Component none h = absurd h
task_fails Rewrite options bytes TextFormat none h = absurd h
task_fails Change options bytes TextFormat none h = absurd h
task_fails Lists options bytes TextFormat none h = absurd h
task_fails Sites options bytes TextFormat none h = absurd h
task_fails Blocks options bytes TextFormat none h = absurd h
task_fails (Rules form) options bytes TextFormat none h = absurd h
task_fails Changes options bytes TextFormat none h = absurd h
task_fails Rewrite options bytes SharedMemory none h = absurd h
task_fails Change options bytes SharedMemory none h = absurd h
task_fails Lists options bytes SharedMemory none h = absurd h
task_fails Sites options bytes SharedMemory none h = absurd h
task_fails Blocks options bytes SharedMemory none h = absurd h
task_fails (Rules form) options bytes SharedMemory none h = absurd h
task_fails Changes options bytes SharedMemory none h = absurd h
task_fails task options bytes Output none h = h
task_fails task options bytes Memory none h = h

pub report_fails : (only : Option ℕ) (bytes : List ℕ) (e : Failure) → FailsToReport e → FailsToList only bytes e
report_fails only bytes (Nothing reason) h = absurd h
report_fails only bytes (Unchanged refusal) h = absurd h
report_fails only bytes Input h = absurd h
report_fails only bytes TooLong h = absurd h
report_fails only bytes Component h = absurd h
report_fails only bytes TextFormat h = absurd h
report_fails only bytes SharedMemory h = absurd h
report_fails only bytes Output h = tt
report_fails only bytes Memory h = tt

-- the module isn't told of before it is changed
pub informing_fails : (options : Options) (bytes : List ℕ) (e : Failure) → FailsToInform bytes e → FailsToChange options bytes e
informing_fails options bytes (Nothing reason) h = inr h
informing_fails options bytes (Unchanged refusal) h = absurd h
informing_fails options bytes Input h = absurd h
informing_fails options bytes TooLong h = absurd h
informing_fails options bytes Component h = absurd h
informing_fails options bytes TextFormat h = absurd h
informing_fails options bytes SharedMemory h = absurd h
informing_fails options bytes Output h = tt
informing_fails options bytes Memory h = tt

unchanged_fails : (options : Options) (bytes : List ℕ) (refusal : Refusal) (failure : Failure) → failure ≡ failure_by refusal →
    IsWhyUnchanged options.place options bytes refusal → FailsToChange options bytes failure
unchanged_fails options bytes refusal failure is h = subst (FailsToChange options bytes) (sym is) (by refusal h)
  where
    by : (r : Refusal) → IsWhyUnchanged options.place options bytes r → FailsToChange options bytes (failure_by r)
    by (refusals.Read e) h = (λ same. absurd cc, h)
    by (refusals.NoFunction f) h = (λ same. absurd cc, h)
    by (refusals.UnknownImport e) h = (λ same. absurd cc, h)
    by refusals.NoChange h = (λ same. absurd cc, h)
    by refusals.TooLarge h = (λ same. absurd cc, h)
    by refusals.Memory h = tt

-- nothing of the module is changed
pub changing_fails : (options : Options) (scope : Scope) (bytes : List ℕ) (refusal : Refusal) (failure : Failure) → options.place ≡ None →
    scope ≡ change_scope_of options → failure ≡ failure_by refusal → IsRefusal scope bytes (seeded options.seed) refusal →
    FailsToChange options bytes failure
changing_fails options scope bytes refusal failure none is failure_is h =
    unchanged_fails options bytes refusal failure failure_is
    (subst (λ (o : Option ChangeAt). IsWhyUnchanged o options bytes refusal) (sym none)
    (subst (λ (s : Scope). IsRefusal s bytes (seeded options.seed) refusal) is h))

-- nor at the operators that are named
pub placing_fails : (options : Options) (at : ChangeAt) (bytes : List ℕ) (refusal : Refusal) (failure : Failure) → options.place ≡ Some at →
    failure ≡ failure_by refusal → RefusesAt at options.max_size bytes refusal → FailsToChange options bytes failure
placing_fails options at bytes refusal failure some failure_is h =
    unchanged_fails options bytes refusal failure failure_is
    (subst (λ (o : Option ChangeAt). IsWhyUnchanged o options bytes refusal) (sym some) h)
