-- The lines of a function, or none where it can't be read.
use Rattle.std.proofs.Common.{[], ◌∙◌, ap}
use Rattle.module_options.specs.Form.{output_form_of}
use Rattle.module_commands.specs.Lines.{rewrite_lines}
use Rattle.module_options.specs.Scope.{scope_of}
use Rattle.module_options.specs.declared.form.Form.{Form}
use Rattle.module_commands.proofs.ListingLemmas.{lists_function, lists_nothing}
use Rattle.module_commands.proofs.TurnLemmas.{appends_nothing, ok_map}
use Rattle.module_commands.proofs.listing.list_function.Goals as goal

pub returns-in-Err-clause-lines : goal.returns-in-Err-clause-lines
returns-in-Err-clause-lines g c = (
  [],
  appends_nothing (g.W.Write.contents c.args.output.now),
  lists_nothing (output_form_of c.args.options.now) (scope_of c.args.options.now) c.args.bytes.now c.args.wasm.now.info c.args.wasm.now.layout c.args.n
      c.requires.marked
      (λ l x o f.
      let memory = c.is_memory.ensures.1 (c.in-Err.ensures.only l x o f) in
      let other = c.if-is_memory.false in
      absurd cc),
)

pub returns-clause-lines : goal.returns-clause-lines
returns-clause-lines g c =
    let lines = rewrite_lines c.form.result c.index_of-index.result c.deref.result.now in
    ok_map c.write_rewrites.result (λ h. (
      lines,
      h,
      lists_function (output_form_of c.args.options.now) (scope_of c.args.options.now) c.scope.result c.args.bytes.now c.args.wasm.now.info
          c.args.wasm.now.layout c.args.n c.in-Ok.function.locals.items c.in-Ok.function.expression c.in-Ok.function.operators.items
          c.in_ok-rewrites.rewrites.items c.index_of-index.result lines c.scope.ensures
          c.requires.marked c.in-Ok.ensures.read c.in-Ok.ensures.only c.in_ok-rewrites.ensures c.index_of-index.ensures
          (ap (λ (form : Form). rewrite_lines form c.index_of-index.result c.deref.result.now) c.form.ensures
          ∙ ap (rewrite_lines (output_form_of c.args.options.now) c.index_of-index.result) c.deref.ensures.value),
    )) c.write_rewrites.ensures.lines
