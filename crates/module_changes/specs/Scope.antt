-- What of a module may be changed, and how (this project).
use Rattle.std.specs.Prelude.{ℕ, ◌+◌, ◌*◌, List, Option}
use Rattle.wasm_code.specs.Instruction.{Instruction}
use Rattle.body_changes.specs.Kinds.{Material}
use Rattle.body_changes.specs.declared.change.Change.{Change}

-- by which changes, in which function alone where one is named, by its index among all functions, of how many instructions drawn code is at most, and how many
-- bytes a new module may have at most
pub record Scope : Type 0 where
  pub changes : List Change
  pub function : Option ℕ
  pub most : ℕ
  pub size : ℕ

-- how many words an attempt takes: for the function, the change, the operator, and three for each instruction that may be drawn
abbrev pub words_count : Scope → ℕ
words_count scope = 3 + 3 * scope.most

-- what words choose among in a function: that, and the code that may be copied
pub record Choice : Type 0 where
  pub scope : Scope
  pub copied : List Instruction

-- what new code is made of
abbrev pub material_of : Choice → Material
material_of choice = record { most = choice.scope.most; copied = choice.copied }
