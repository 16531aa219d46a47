use Rattle.std.proofs.Common.{ℕ, sym, ap, subst, ◌∙◌}
use Rattle.std.specs.Prelude.{slice_range}
use Rattle.wasm_code.specs.Body.{SpellsCode}
use Rattle.module_rewrites.specs.Function.{parameters_of}
use Rattle.module_rewrites.proofs.FunctionLemmas.{spelled_there}
use Rattle.module_rewrites.proofs.function.read_function.Goals as goal

pub contents_of-contents-requires : goal.contents_of-contents-requires
contents_of-contents-requires c = c.entries_are_inside.ensures c.args.bytes.now c.args.info.now c.args.layout.now c.args.n c.entry_at-entry.result
    c.requires.module c.entry_at-entry.ensures

pub returns-in-Err-clause-only : goal.returns-in-Err-clause-only
returns-in-Err-clause-only c locals expression operators f =
    let s = spelled_there c.args.bytes.now c.args.info.now c.args.layout.now c.args.n c.entry_at-entry.result c.in-Some-parameters.params.now
    c.contents_of-contents.result.now c.entry_at-entry.ensures
    (sym (c.in-Some-parameters.ensures ∙ ap (parameters_of c.args.info.now) c.function_index.ensures)) c.contents_of-contents.ensures locals expression
    operators f in
    c.in-Err.ensures.only locals expression s.0

pub read_code-requires-clause-bounds : goal.read_code-requires-clause-bounds
read_code-requires-clause-bounds c = (c.entries_are_inside.ensures c.args.bytes.now c.args.info.now c.args.layout.now c.args.n
    c.entry_at-entry.result c.requires.module c.entry_at-entry.ensures).ends

pub returns-in-Ok-read_code-clause-only : goal.returns-in-Ok-read_code-clause-only
returns-in-Ok-read_code-clause-only c locals expression operators f =
    let s = spelled_there c.args.bytes.now c.args.info.now c.args.layout.now c.args.n c.entry_at-entry.result c.in-Some-parameters.params.now
    c.contents_of-contents.result.now c.entry_at-entry.ensures
    (sym (c.in-Some-parameters.ensures ∙ ap (parameters_of c.args.info.now) c.function_index.ensures)) c.contents_of-contents.ensures locals expression
    operators f in
    let l = c.in-Ok.ensures.only locals expression s.0 in (
      l.0,
      c.in-Ok-read_code.ensures.only operators (subst (λ (from : ℕ).
          SpellsCode from (slice_range c.args.bytes.now from c.entry_at-entry.result.end) operators) (sym l.1) s.1),
    )

pub returns-in-Err-read_code-clause-only : goal.returns-in-Err-read_code-clause-only
returns-in-Err-read_code-clause-only c locals expression operators f =
    let s = spelled_there c.args.bytes.now c.args.info.now c.args.layout.now c.args.n c.entry_at-entry.result c.in-Some-parameters.params.now
    c.contents_of-contents.result.now c.entry_at-entry.ensures
    (sym (c.in-Some-parameters.ensures ∙ ap (parameters_of c.args.info.now) c.function_index.ensures)) c.contents_of-contents.ensures locals expression
    operators f in
    let l = c.in-Ok.ensures.only locals expression s.0 in
    c.in-Err-read_code.ensures.only operators (subst (λ (from : ℕ).
    SpellsCode from (slice_range c.args.bytes.now from c.entry_at-entry.result.end) operators) (sym l.1) s.1)

pub returns-in_default-parameters-clause-fault : goal.returns-in_default-parameters-clause-fault
returns-in_default-parameters-clause-fault c =
    c.without_type.ensures c.args.bytes.now c.args.info.now c.args.n
    (sym (c.in_default-parameters.ensures ∙ ap (parameters_of c.args.info.now) c.function_index.ensures))
