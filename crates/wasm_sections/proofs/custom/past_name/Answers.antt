use Rattle.std.proofs.Common.{refl}
use Rattle.wasm_sections.proofs.CustomLemmas.{named, other_name, no_name}
use Rattle.wasm_sections.proofs.custom.past_name.Goals as goal

pub returns-then-is_name-clause-found : goal.returns-then-is_name-clause-found
returns-then-is_name-clause-found c = named _ _ _ _ c.in-Ok.ensures (c.if-is_name.ensures.0 refl)

pub returns-else-is_name-clause-none : goal.returns-else-is_name-clause-none
returns-else-is_name-clause-none c rest n = other_name _ _ _ _ rest c.in-Ok.ensures (λ e. let t = c.if-is_name.ensures.1 e in absurd cc) n

pub returns-in-Err-clause-none : goal.returns-in-Err-clause-none
returns-in-Err-clause-none c rest n = no_name _ _ rest _ c.in-Err.ensures n
