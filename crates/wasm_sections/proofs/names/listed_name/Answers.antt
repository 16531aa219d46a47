use Rattle.std.proofs.lemmas.Option.{IfSome_then}
use Rattle.wasm_sections.proofs.NameLemmas.{lists, has_listed, no_list}
use Rattle.wasm_sections.proofs.names.listed_name.Goals as goal

pub returns-in-Ok-clause-found : goal.returns-in-Ok-clause-found
returns-in-Ok-clause-found c = IfSome_then _ c.name_among.ensures.found (λ name has. lists _ _ _ _ _ c.in-Ok.ensures has)

pub returns-in-Ok-clause-only : goal.returns-in-Ok-clause-only
returns-in-Ok-clause-only c name l = c.name_among.ensures.only name (has_listed _ _ _ _ _ c.in-Ok.ensures l)

pub returns-in-Err-clause-only : goal.returns-in-Err-clause-only
returns-in-Err-clause-only c name l = no_list _ name _ _ c.in-Err.ensures l
