use Rattle.wasm_sections.proofs.NameLemmas.{no_name_there, is_listed}
use Rattle.wasm_sections.proofs.names.function_name.Goals as goal

pub returns-in_err-contents-clause-only : goal.returns-in_err-contents-clause-only
returns-in_err-contents-clause-only c name n =
    absurd (no_name_there _ _ name _ _ c.in_ok-subsections.ensures.only c.in_err-contents.ensures.only n)

pub returns-clause-only : goal.returns-clause-only
returns-clause-only c name n =
    c.listed_name.ensures.only name (is_listed _ _ _ name _ _ c.in_ok-subsections.ensures.only c.in_ok-contents.ensures.only n)
