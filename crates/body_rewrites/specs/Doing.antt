-- When a body does what another one does (this project).
use Rattle.std.specs.Prelude.{◌≡◌, ℕ, List}
use Rattle.wasm_code.specs.declared.operator.Operator.{Operator}
use Rattle.wasm_types.specs.Module.{Module}
use Rattle.wasm_types.specs.declared.types.PrimitiveTypeInfo.{PrimitiveTypeInfo}
use Rattle.wasm_execution.specs.Values.{Context}
use Rattle.wasm_equivalence.specs.hosts.Embedder.{DoesAs, with_operators}
use Rattle.wasm_equivalence.specs.modules.Program.{Body, function_context}

-- A function with the old body, in whichever module that has its types, does as it did with the new one, where globals of those types stand behind the
-- module's: it comes to the same end from every state, at every fuel, is valid where it was, and its calls through tables and its other operators come to
-- what is of their types.
abbrev pub DoesAsBody : Context → (asked : List PrimitiveTypeInfo) → (old new : List Operator) → Type 0
DoesAsBody context asked old new =
    (m : Module) (input : List ℕ) (b : Body) → context ≡ function_context m b → old ≡ b.operators → DoesAs m input asked b (with_operators new b)
