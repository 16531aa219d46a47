use Rattle.peephole_terms.proofs.IntegerBlockLemmas.{integer_blocks_run, integer_blocks_ask}
use Rattle.peephole_terms.proofs.laws.integer_blocks_run_as_before.Goals as goal

pub returns-clause-runs : goal.returns-clause-runs
returns-clause-runs c = integer_blocks_run c.requested_globals_free_nothing.ensures

pub returns-clause-worlds : goal.returns-clause-worlds
returns-clause-worlds c = integer_blocks_ask c.integer_rows_ask_no_world.ensures
