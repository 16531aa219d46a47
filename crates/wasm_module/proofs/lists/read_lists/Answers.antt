use Rattle.std.proofs.Common.{rules}
use Rattle.wasm_module.proofs.lists.read_lists.Goals as goal

pub returns-in_err-list_in-clause-only : goal.returns-in_err-list_in-clause-only
returns-in_err-list_in-clause-only c l a = let memory = c.in_err-list_in.ensures.only l.types a.types_are in search rules

pub returns-in_err-list_in-2-clause-only : goal.returns-in_err-list_in-2-clause-only
returns-in_err-list_in-2-clause-only c l a = let memory = c.in_err-list_in-2.ensures.only l.imports a.imports_are in search rules

pub returns-in_err-functions_in-clause-only : goal.returns-in_err-functions_in-clause-only
returns-in_err-functions_in-clause-only c l a = let memory = c.in_err-functions_in.ensures.only l.functions a.functions_are in search rules

pub returns-in_err-list_in-3-clause-only : goal.returns-in_err-list_in-3-clause-only
returns-in_err-list_in-3-clause-only c l a = let memory = c.in_err-list_in-3.ensures.only l.tables a.tables_are in search rules

pub returns-in_err-list_in-4-clause-only : goal.returns-in_err-list_in-4-clause-only
returns-in_err-list_in-4-clause-only c l a = let memory = c.in_err-list_in-4.ensures.only l.memories a.memories_are in search rules

pub returns-in_err-list_in-5-clause-only : goal.returns-in_err-list_in-5-clause-only
returns-in_err-list_in-5-clause-only c l a = let memory = c.in_err-list_in-5.ensures.only l.globals a.globals_are in search rules

pub returns-in_err-entries_in-clause-only : goal.returns-in_err-entries_in-clause-only
returns-in_err-entries_in-clause-only c l a = let memory = c.in_err-entries_in.ensures.only l.entries a.entries_are in search rules
