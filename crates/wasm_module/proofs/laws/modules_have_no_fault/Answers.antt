use Rattle.wasm_module.proofs.FaultLemmas.{no_fault}
use Rattle.wasm_module.proofs.laws.modules_have_no_fault.Goals as goal

pub returns : goal.returns
returns c bytes info layout m fault offset f =
    no_fault bytes info layout m (record {
      types = c.lists_have_no_fault.ensures.types;
      imports = c.lists_have_no_fault.ensures.imports;
      functions = c.lists_have_no_fault.ensures.functions;
      tables = c.lists_have_no_fault.ensures.tables;
      memories = c.lists_have_no_fault.ensures.memories;
      globals = c.lists_have_no_fault.ensures.globals;
      entries = c.lists_have_no_fault.ensures.entries;
    }) (record {
      types = c.one_list.ensures.types;
      imports = c.one_list.ensures.imports;
      functions = c.one_list.ensures.functions;
      tables = c.one_list.ensures.tables;
      memories = c.one_list.ensures.memories;
      globals = c.one_list.ensures.globals;
      entries = c.one_list.ensures.entries;
    }) (record {
      only = λ others spells. c.one_module.ensures bytes others layout.sections spells m.spells;
      clean = λ fault offset f. c.modules_have_no_section_fault.ensures bytes layout.sections m.spells fault offset f;
    }) fault offset f
