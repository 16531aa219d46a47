-- At the function that was read.
use Rattle.std.proofs.Common.{Err, ℕ, List, subst, ◌++◌, ap, refl}
use Rattle.wasm_execution.specs.Values.{context_in}
use Rattle.body_rewrites.specs.Random.{AppendsByWords}
use Rattle.module_rewrites.specs.Chosen.{by_lack}
use Rattle.module_rewrites.specs.Scope.{wanted_of}
use Rattle.module_rewrites.specs.Size.{IsNotFor, IsSmallEnough}
use Rattle.module_rewrites.specs.Writing.{WritesAt}
use Rattle.module_rewrites.proofs.MutationLemmas.{behind_locals, body_in, mutates, nothing_here, refuses_size, refuses_writing, tried_size}
use Rattle.module_rewrites.proofs.MutationLemmas.{tried_writing, writes_here}
use Rattle.module_rewrites.proofs.mutation.mutate_entry.Goals as goal

pub returns-in-Err-clause-none : goal.returns-in-Err-clause-none
returns-in-Err-clause-none g c l x o f =
    let memory = c.is_memory.ensures.1 (c.in-Err.ensures.only l x o f) in
    let other = c.if-is_memory.false in
    absurd cc

pub returns-in-Err-clause-tried : goal.returns-in-Err-clause-tried
returns-in-Err-clause-tried g c vain =
    by_lack (λ l x o f.
    let memory = c.is_memory.ensures.1 (c.in-Err.ensures.only l x o f) in
    let other = c.if-is_memory.false in
    absurd cc) refl

pub rewrite_function-requires : goal.rewrite_function-requires
rewrite_function-requires g c =
    let f = c.in-Ok.ensures.read in
    record {
      body = body_in c.args.bytes.now c.args.info.now c.args.layout.now c.args.n c.in-Ok.function.locals.items c.in-Ok.function.expression
          c.in-Ok.function.operators.items f
          (c.entries_are_inside.ensures c.args.bytes.now c.args.info.now c.args.layout.now c.args.n f.entry c.requires.module f.is.at);
    }

pub returns-in-Ok-None-clause-none : goal.returns-in-Ok-None-clause-none
returns-in-Ok-None-clause-none g c =
    nothing_here c.args.scope.now c.args.bytes.now c.args.info.now c.args.layout.now c.args.n c.in-Ok.function.locals.items
    c.in-Ok.function.operators.items c.in-Ok.ensures.only (rw c.in-Ok-None.field-0-is at c.in-Ok-None.ensures.none)

pub returns-in-Ok-None-clause-tried : goal.returns-in-Ok-None-clause-tried
returns-in-Ok-None-clause-tried g c vain =
    by_lack (nothing_here c.args.scope.now c.args.bytes.now c.args.info.now c.args.layout.now c.args.n c.in-Ok.function.locals.items
    c.in-Ok.function.operators.items c.in-Ok.ensures.only (rw c.in-Ok-None.field-0-is at c.in-Ok-None.ensures.none))
    (rw c.in-Ok-None.field-0-is at c.in-Ok-None.ensures.kept)

pub locals_of-locals-requires : goal.locals_of-locals-requires
locals_of-locals-requires g c =
    let f = c.in-Ok.ensures.read in
    behind_locals c.args.bytes.now c.args.info.now c.args.layout.now c.args.n c.in-Ok.function.locals.items c.in-Ok.function.expression
    c.in-Ok.function.operators.items c.entry_at.result f
    (c.entries_are_inside.ensures c.args.bytes.now c.args.info.now c.args.layout.now c.args.n f.entry c.requires.module f.is.at) c.entry_at.ensures

pub returns-in-Ok-with_body-clause-mutated : goal.returns-in-Ok-with_body-clause-mutated
returns-in-Ok-with_body-clause-mutated g c =
    let bytes = c.args.bytes.now in
    let info = c.args.info.now in
    let layout = c.args.layout.now in
    let f = c.in-Ok.function in
    let made = c.in-Ok-Some.made in
    let s = g.R.Rng.stream c.args.generator.now in
    let after = g.R.Rng.stream c.rewrite_function.new.generator in
    let contents = c.locals_of-locals.result.now ++ c.bytes.result.now in
    let more = c.deref.result.now in
    let appended : AppendsByWords (context_in info f.locals.items) s c.args.scope.now.rules (wanted_of c.args.scope.now) bytes f.operators.items
    made.rewrite c.new-body.result c.rewrite_function.new.sink made.asks.items after = rw c.in-Ok-Some.field-0-is at c.in-Ok-Some.ensures.rewritten in (
      c.function_index.ensures,
      mutates c.args.scope.now bytes info layout c.args.n f.locals.items f.expression f.operators.items c.entry_at.result
          made.rewrite c.new-body.result c.rewrite_function.new.sink made.asks.items s after c.locals_of-locals.result.now c.bytes.result.now more
          c.in-Ok.ensures.read c.new-body.ensures appended c.entry_at.ensures c.locals_of-locals.ensures c.bytes.ensures c.deref.ensures.value
          c.own_bytes_stay.ensures c.rewritten_bytes_are_a_module.ensures c.in-Ok-with_body.new.items c.requires.module c.in-Ok-with_body.ensures.written,
    )

pub returns-in-Ok-with_body-clause-chosen : goal.returns-in-Ok-with_body-clause-chosen
returns-in-Ok-with_body-clause-chosen g c =
    let bytes = c.args.bytes.now in
    let info = c.args.info.now in
    let layout = c.args.layout.now in
    let f = c.in-Ok.function in
    let made = c.in-Ok-Some.made in
    let s = g.R.Rng.stream c.args.generator.now in
    let after = g.R.Rng.stream c.rewrite_function.new.generator in
    let contents = c.locals_of-locals.result.now ++ c.bytes.result.now in
    let more = c.deref.result.now in
    let appended : AppendsByWords (context_in info f.locals.items) s c.args.scope.now.rules (wanted_of c.args.scope.now) bytes f.operators.items
    made.rewrite c.new-body.result c.rewrite_function.new.sink made.asks.items after = rw c.in-Ok-Some.field-0-is at c.in-Ok-Some.ensures.rewritten in
    let writes : WritesAt c.args.scope.now bytes info layout s c.args.n made.rewrite contents more after =
    writes_here c.args.scope.now bytes info layout c.args.n f.locals.items f.expression f.operators.items c.entry_at.result
    made.rewrite c.new-body.result c.rewrite_function.new.sink made.asks.items s after c.locals_of-locals.result.now c.bytes.result.now more
    c.in-Ok.ensures.read c.new-body.ensures appended c.entry_at.ensures c.locals_of-locals.ensures c.bytes.ensures c.deref.ensures.value in
    let fits : IsSmallEnough c.args.scope.now bytes c.in-Ok-with_body.new.items =
    subst (λ (new : List ℕ). IsSmallEnough c.args.scope.now bytes new) c.deref-in-Ok-with_body.ensures.value c.in-None.ensures.fits in
    record { contents = contents; more = more; writes = writes; made = c.in-Ok-with_body.ensures.written; fits = fits }

pub returns-in-Some-clause-refused : goal.returns-in-Some-clause-refused
returns-in-Some-clause-refused g c =
    let bytes = c.args.bytes.now in
    let info = c.args.info.now in
    let layout = c.args.layout.now in
    let f = c.in-Ok.function in
    let made = c.in-Ok-Some.made in
    let s = g.R.Rng.stream c.args.generator.now in
    let after = g.R.Rng.stream c.rewrite_function.new.generator in
    let contents = c.locals_of-locals.result.now ++ c.bytes.result.now in
    let more = c.deref.result.now in
    let appended : AppendsByWords (context_in info f.locals.items) s c.args.scope.now.rules (wanted_of c.args.scope.now) bytes f.operators.items
    made.rewrite c.new-body.result c.rewrite_function.new.sink made.asks.items after = rw c.in-Ok-Some.field-0-is at c.in-Ok-Some.ensures.rewritten in
    let writes : WritesAt c.args.scope.now bytes info layout s c.args.n made.rewrite contents more after =
    writes_here c.args.scope.now bytes info layout c.args.n f.locals.items f.expression f.operators.items c.entry_at.result
    made.rewrite c.new-body.result c.rewrite_function.new.sink made.asks.items s after c.locals_of-locals.result.now c.bytes.result.now more
    c.in-Ok.ensures.read c.new-body.ensures appended c.entry_at.ensures c.locals_of-locals.ensures c.bytes.ensures c.deref.ensures.value in
    refuses_size c.args.scope.now bytes info layout c.args.n s after made.rewrite contents more writes c.in-Ok-with_body.new.items
    c.in-Ok-with_body.ensures.written c.in-Some.error
    (subst (λ (new : List ℕ). IsNotFor c.args.scope.now bytes new c.in-Some.error) c.deref-in-Ok-with_body.ensures.value c.in-Some.ensures.refused)

pub returns-in-Some-clause-tried : goal.returns-in-Some-clause-tried
returns-in-Some-clause-tried g c vain =
    let bytes = c.args.bytes.now in
    let info = c.args.info.now in
    let layout = c.args.layout.now in
    let f = c.in-Ok.function in
    let made = c.in-Ok-Some.made in
    let s = g.R.Rng.stream c.args.generator.now in
    let after = g.R.Rng.stream c.rewrite_function.new.generator in
    let contents = c.locals_of-locals.result.now ++ c.bytes.result.now in
    let more = c.deref.result.now in
    let appended : AppendsByWords (context_in info f.locals.items) s c.args.scope.now.rules (wanted_of c.args.scope.now) bytes f.operators.items
    made.rewrite c.new-body.result c.rewrite_function.new.sink made.asks.items after = rw c.in-Ok-Some.field-0-is at c.in-Ok-Some.ensures.rewritten in
    let writes : WritesAt c.args.scope.now bytes info layout s c.args.n made.rewrite contents more after =
    writes_here c.args.scope.now bytes info layout c.args.n f.locals.items f.expression f.operators.items c.entry_at.result
    made.rewrite c.new-body.result c.rewrite_function.new.sink made.asks.items s after c.locals_of-locals.result.now c.bytes.result.now more
    c.in-Ok.ensures.read c.new-body.ensures appended c.entry_at.ensures c.locals_of-locals.ensures c.bytes.ensures c.deref.ensures.value in
    tried_size c.args.scope.now bytes info layout c.args.n s after made.rewrite contents more writes c.in-Ok-with_body.new.items
    c.in-Ok-with_body.ensures.written c.in-Some.error
    (subst (λ (new : List ℕ). IsNotFor c.args.scope.now bytes new c.in-Some.error) c.deref-in-Ok-with_body.ensures.value c.in-Some.ensures.refused)

pub returns-clause-refused : goal.returns-clause-refused
returns-clause-refused g c =
    let bytes = c.args.bytes.now in
    let info = c.args.info.now in
    let layout = c.args.layout.now in
    let f = c.in-Ok.function in
    let made = c.in-Ok-Some.made in
    let s = g.R.Rng.stream c.args.generator.now in
    let after = g.R.Rng.stream c.rewrite_function.new.generator in
    let contents = c.locals_of-locals.result.now ++ c.bytes.result.now in
    let more = c.deref.result.now in
    let appended : AppendsByWords (context_in info f.locals.items) s c.args.scope.now.rules (wanted_of c.args.scope.now) bytes f.operators.items
    made.rewrite c.new-body.result c.rewrite_function.new.sink made.asks.items after = rw c.in-Ok-Some.field-0-is at c.in-Ok-Some.ensures.rewritten in
    let writes : WritesAt c.args.scope.now bytes info layout s c.args.n made.rewrite contents more after =
    writes_here c.args.scope.now bytes info layout c.args.n f.locals.items f.expression f.operators.items c.entry_at.result
    made.rewrite c.new-body.result c.rewrite_function.new.sink made.asks.items s after c.locals_of-locals.result.now c.bytes.result.now more
    c.in-Ok.ensures.read c.new-body.ensures appended c.entry_at.ensures c.locals_of-locals.ensures c.bytes.ensures c.deref.ensures.value in
    refuses_writing c.args.scope.now bytes info layout c.args.n s after made.rewrite contents more writes c.in-Err-with_body.e
    (λ e. c.in-Err-with_body.ensures.too_large (ap (λ x. Err x) e)) (λ e. c.in-Err-with_body.ensures.empty.0 (ap (λ x. Err x) e))

pub returns-clause-tried : goal.returns-clause-tried
returns-clause-tried g c vain =
    let bytes = c.args.bytes.now in
    let info = c.args.info.now in
    let layout = c.args.layout.now in
    let f = c.in-Ok.function in
    let made = c.in-Ok-Some.made in
    let s = g.R.Rng.stream c.args.generator.now in
    let after = g.R.Rng.stream c.rewrite_function.new.generator in
    let contents = c.locals_of-locals.result.now ++ c.bytes.result.now in
    let more = c.deref.result.now in
    let appended : AppendsByWords (context_in info f.locals.items) s c.args.scope.now.rules (wanted_of c.args.scope.now) bytes f.operators.items
    made.rewrite c.new-body.result c.rewrite_function.new.sink made.asks.items after = rw c.in-Ok-Some.field-0-is at c.in-Ok-Some.ensures.rewritten in
    let writes : WritesAt c.args.scope.now bytes info layout s c.args.n made.rewrite contents more after =
    writes_here c.args.scope.now bytes info layout c.args.n f.locals.items f.expression f.operators.items c.entry_at.result
    made.rewrite c.new-body.result c.rewrite_function.new.sink made.asks.items s after c.locals_of-locals.result.now c.bytes.result.now more
    c.in-Ok.ensures.read c.new-body.ensures appended c.entry_at.ensures c.locals_of-locals.ensures c.bytes.ensures c.deref.ensures.value in
    tried_writing c.args.scope.now bytes info layout c.args.n s after made.rewrite contents more writes c.in-Err-with_body.e
    (λ e. c.in-Err-with_body.ensures.too_large (ap (λ x. Err x) e)) vain
