-- Section ids: their bytes, and the order in which sections stand
-- (WebAssembly Core Specification 3.0, Binary Format, Modules, Sections and Modules; the names are those of its grammar).
use Rattle.std.specs.Prelude.{ℕ, List, codes}
use Rattle.wasm_sections.specs.declared.id.SectionId.{SectionId}
use Rattle.wasm_sections.specs.declared.id.SectionId.TheVariants as ids

-- the byte of the id
abbrev pub id_code : SectionId → ℕ
id_code ids.Custom = 0
id_code ids.Type = 1
id_code ids.Import = 2
id_code ids.Function = 3
id_code ids.Table = 4
id_code ids.Memory = 5
id_code ids.Global = 6
id_code ids.Export = 7
id_code ids.Start = 8
id_code ids.Element = 9
id_code ids.Code = 10
id_code ids.Data = 11
id_code ids.DataCount = 12
id_code ids.Tag = 13

-- the place of such a section in a module, from 1; 0 for a custom section, which may stand anywhere
abbrev pub rank_of : SectionId → ℕ
rank_of ids.Custom = 0
rank_of ids.Type = 1
rank_of ids.Import = 2
rank_of ids.Function = 3
rank_of ids.Table = 4
rank_of ids.Memory = 5
rank_of ids.Tag = 6
rank_of ids.Global = 7
rank_of ids.Export = 8
rank_of ids.Start = 9
rank_of ids.Element = 10
rank_of ids.DataCount = 11
rank_of ids.Code = 12
rank_of ids.Data = 13

-- what the grammar calls the section, in lower case: `datacount` is one word
abbrev pub id_name : SectionId → List ℕ
id_name ids.Custom = codes "custom"
id_name ids.Type = codes "type"
id_name ids.Import = codes "import"
id_name ids.Function = codes "function"
id_name ids.Table = codes "table"
id_name ids.Memory = codes "memory"
id_name ids.Global = codes "global"
id_name ids.Export = codes "export"
id_name ids.Start = codes "start"
id_name ids.Element = codes "element"
id_name ids.Code = codes "code"
id_name ids.Data = codes "data"
id_name ids.DataCount = codes "datacount"
id_name ids.Tag = codes "tag"
