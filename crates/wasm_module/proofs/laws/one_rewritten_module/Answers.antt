use Rattle.wasm_module.proofs.OneTextLemmas.{one_text, fits}
use Rattle.wasm_module.proofs.laws.one_rewritten_module.Goals as goal

pub returns-clause-one : goal.returns-clause-one
returns-clause-one c = one_text c.one_place.ensures

pub returns-clause-fits : goal.returns-clause-fits
returns-clause-fits c bytes info layout n contents more new is = fits bytes info layout is n contents more new
