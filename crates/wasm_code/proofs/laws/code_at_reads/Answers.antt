use Rattle.wasm_code.proofs.BodyReader as lemmas
use Rattle.wasm_code.proofs.laws.code_at_reads.Goals as goal

pub returns-clause-spelled : goal.returns-clause-spelled
returns-clause-spelled c start text xs s = lemmas.code_spelled start text xs s

pub returns-clause-faulty : goal.returns-clause-faulty
returns-clause-faulty c start text kind offset s other = lemmas.code_faulty start text kind offset s other

pub returns-clause-answers : goal.returns-clause-answers
returns-clause-answers c start text xs e = lemmas.code_answers start text xs e

pub returns-clause-faults : goal.returns-clause-faults
returns-clause-faults c start text kind offset e = lemmas.code_faults start text kind offset e
