use Rattle.std.proofs.Common.{◌∙◌, ℕ, sym, ap, subst, arith}
use Rattle.wasm_sections.specs.declared.fault.ModuleFault.{ModuleFault}
use Rattle.wasm_module.specs.Fault.{IsModuleFault}
use Rattle.wasm_module.specs.Fault.IsModuleFault.{of_memory}
use Rattle.wasm_module.specs.Module.{Layout}
use Rattle.wasm_module.specs.Reread.{WasRewritten}
use Rattle.wasm_module.specs.declared.layout.Module.{Module}
use Rattle.module_rewrites.proofs.MutationLemmas.{was_rewritten}
use Rattle.module_rewrites.proofs.mutation.mutate_with.Goals as goal

pub read_again-requires : goal.read_again-requires
read_again-requires g c =
    let view = ap (λ (z : Module). z.layout) c.read.view_is in
    subst (λ (n : ℕ). WasRewritten c.args.read.info c.args.read.layout n c.args.bytes.now)
    (omega (arith, c.requires.1, ap (λ (l : Layout). l.imported_functions) view)) c.requires.2

pub returns-in-Err-clause-refused : goal.returns-in-Err-clause-refused
returns-in-Err-clause-refused g c =
    subst (λ (kind : ModuleFault). IsModuleFault c.args.bytes.now kind c.in-Err.e.offset) (sym c.in-Err.ensures.memory) of_memory

pub returns-in-Ok-Some-clause-read : goal.returns-in-Ok-Some-clause-read
returns-in-Ok-Some-clause-read g c =
    was_rewritten c.args.scope.now c.args.bytes.now c.in-Ok.module.info c.in-Ok.module.layout c.in-Ok-Some.mutated.function c.in-Ok-Some.mutated.rewrite
    c.in-Ok-Some.mutated.bytes.items c.without_bytes.result.info c.without_bytes.result.layout c.one_reading.ensures c.in-Ok.ensures.read
    (c.in-Ok.ensures.marked ∙ c.requires.3)
    c.without_bytes.ensures.info c.without_bytes.ensures.layout (rw c.in-Ok-Some.field-0-is at c.in-Ok-Some.ensures.mutated)

pub mutate_chosen-made-requires-clause-marked : goal.mutate_chosen-made-requires-clause-marked
mutate_chosen-made-requires-clause-marked g c = c.in-Ok.ensures.marked ∙ c.requires.3
