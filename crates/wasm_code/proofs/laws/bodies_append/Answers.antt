use Rattle.wasm_code.proofs.JoinLemmas as lemmas
use Rattle.wasm_code.proofs.laws.bodies_append.Goals as goal

pub returns-clause-joins : goal.returns-clause-joins
returns-clause-joins c xs ys start a b p q = lemmas.all_append xs ys start a b p q

pub returns-clause-shifts : goal.returns-clause-shifts
returns-clause-shifts c xs start by text p = lemmas.all_shifted xs start by text p

pub returns-clause-cuts : goal.returns-clause-cuts
returns-clause-cuts c xs ys start text p = lemmas.all_cut xs ys start text p
