use Rattle.wasm_module.proofs.OneLemmas.{one_module}
use Rattle.wasm_module.proofs.laws.one_reading.Goals as goal

pub returns : goal.returns
returns c bytes info other layout place m n mark =
    one_module bytes info other layout place (record {
      types = c.one_list.ensures.types;
      imports = c.one_list.ensures.imports;
      functions = c.one_list.ensures.functions;
      tables = c.one_list.ensures.tables;
      memories = c.one_list.ensures.memories;
      globals = c.one_list.ensures.globals;
      entries = c.one_list.ensures.entries;
    }) (c.one_module.ensures bytes layout.sections place.sections m.spells n.spells) m n mark
