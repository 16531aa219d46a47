-- None of the functions that may be rewritten can be read, or there is none.
use Rattle.std.proofs.Common.{◌<◌, ◌≤◌, ℕ, Option, subst, arith}
use Rattle.std.specs.Prelude.{IfSome}
use Rattle.module_rewrites.specs.Attempt.{CanRead, IsKnownFunctionFault}
use Rattle.module_rewrites.specs.declared.function.FunctionError.{FunctionError}
use Rattle.module_rewrites.proofs.AttemptLemmas.{first_chosen, no_function}
use Rattle.module_rewrites.proofs.attempt.without_rewrite.Goals as goal

pub returns-then-entries-clause-reason : goal.returns-then-entries-clause-reason
returns-then-entries-clause-reason c scope marked cannot are =
    let past : c.args.entries.end ≤ c.args.entries.start = omega (arith, c.if-entries.true) in
    let empty = no_function scope.function c.args.layout.now c.args.entries.start c.args.entries.end are.chosen are.named past in
    (empty.0, record { info = c.args.info.now; layout = c.args.layout.now; is = c.requires.module; none = empty.1 })

pub returns-in-Ok-Some-clause-reason : goal.returns-in-Ok-Some-clause-reason
returns-in-Ok-Some-clause-reason c scope marked cannot are =
    let bytes = c.args.bytes.now in
    let info = c.args.info.now in
    let layout = c.args.layout.now in
    let start = c.args.entries.start in
    let end = c.args.entries.end in
    record {
      info = info;
      layout = layout;
      is = c.requires.module;
      n = start;
      first = first_chosen scope.function layout start end are.chosen (omega (arith, c.if-entries.false));
      fault = subst (λ (o : Option FunctionError). IfSome o (IsKnownFunctionFault bytes info layout start)) c.in-Ok-Some.field-0-is c.in-Ok-Some.ensures.fault;
      none = λ m inside may can.
          let within = (are.chosen m).1 (inside, may) in
          subst (λ (o : Option FunctionError). IfSome o (λ e. (n : ℕ) → start ≤ n → n < end → ¬ (CanRead bytes info layout n))) c.in-Ok-Some.field-0-is
          c.in-Ok-Some.ensures.none m within.0 within.1 can;
    }
