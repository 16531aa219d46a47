use Rattle.std.proofs.Common.{◌≢◌, length, ap, arith}
use Rattle.std.proofs.lemmas.Grind.{common_steps}
use Rattle.wasm_module.specs.Lists.{Listed}
use Rattle.wasm_module.specs.Fault.IsModuleFault.{of_the_count}
use Rattle.wasm_module.proofs.OneLemmas.{AreOne}
use Rattle.wasm_module.proofs.ListedLemmas.{one_count}
use Rattle.wasm_module.proofs.module.check_count.Goals as goal

pub returns-else-len-clause-fault : goal.returns-else-len-clause-fault
returns-else-len-clause-fault c =
    let differ : length c.listed.inside.entries.items ≢ length c.listed.inside.functions.items = grind (arith, common_steps) in
    let entries = ap (λ (l : Listed). length l.entries) c.listed.view_is in
    let functions = ap (λ (l : Listed). length l.functions) c.listed.view_is in
    of_the_count (record {
      sections = c.args.sections.now;
      spells = c.requires.spells;
      functions = _;
      entries = _;
      functions_are = c.requires.listed.functions_are;
      entries_are = c.requires.listed.entries_are;
      differ = λ e. omega (arith, entries, functions, e);
      at = c.code_start.ensures;
    })

pub returns-else-len-clause-only : goal.returns-else-len-clause-only
returns-else-len-clause-only c info layout m same =
    let one : AreOne = record {
      types = c.one_list.ensures.types;
      imports = c.one_list.ensures.imports;
      functions = c.one_list.ensures.functions;
      tables = c.one_list.ensures.tables;
      memories = c.one_list.ensures.memories;
      globals = c.one_list.ensures.globals;
      entries = c.one_list.ensures.entries;
    } in
    let count = one_count c.args.bytes.now c.args.sections.now c.args.listed.now info layout one m same c.requires.listed in
    let differ : length c.listed.inside.entries.items ≢ length c.listed.inside.functions.items = grind (arith, common_steps) in
    let entries = ap (λ (l : Listed). length l.entries) c.listed.view_is in
    let functions = ap (λ (l : Listed). length l.functions) c.listed.view_is in
    absurd (omega (arith, entries, functions, count))
