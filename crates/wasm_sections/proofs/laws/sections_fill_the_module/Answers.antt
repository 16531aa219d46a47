use Rattle.wasm_sections.specs.lemmas.ChangeLemmas.{all_joined, each_within, found_within}
use Rattle.wasm_sections.proofs.laws.sections_fill_the_module.Goals as goal

pub returns-clause-joined : goal.returns-clause-joined
returns-clause-joined c bytes ss m = all_joined bytes ss m

pub returns-clause-each : goal.returns-clause-each
returns-clause-each c bytes ss m k d lt = each_within bytes ss m k d lt

pub returns-clause-found : goal.returns-clause-found
returns-clause-found c bytes ss id s m f = found_within bytes ss id s m f
