-- A module that a rewrite made smaller (this project).
use Rattle.std.specs.Prelude.{◌≡◌, ◌⊎◌, ℕ, ◌+◌, List}
use Rattle.wasm_code.specs.declared.operator.Operator.{Operator}
use Rattle.wasm_types.specs.Module.{Module}
use Rattle.wasm_types.specs.declared.types.PrimitiveTypeInfo.{PrimitiveTypeInfo}
use Rattle.wasm_module.specs.Module.{Layout, IsModule}
use Rattle.wasm_execution.specs.Values.{context_in}
use Rattle.body_rewrites.specs.Listing.{HasGrowth}
use Rattle.body_rewrites.specs.declared.growth.Growth.TheVariants.{Shrinks, Keeps}
use Rattle.body_rewrites.specs.declared.rewrite.Rewrite.{Rewrite}
use Rattle.module_rewrites.specs.Function.{IsFunction}
use Rattle.module_rewrites.specs.Size.{IsSmaller}

-- The rewrite is one of the module's function with the index, among all functions, that leaves fewer operators there or as many, and the new module is smaller.
pub record MakesSmaller (bytes : List ℕ) (function : ℕ) (rewrite : Rewrite) (new : List ℕ) : Type 0 where
  pub info : Module
  pub layout : Layout
  pub is : IsModule bytes info layout
  pub n : ℕ
  pub function_is : function ≡ layout.imported_functions + n
  pub locals : List PrimitiveTypeInfo
  pub expression : ℕ
  pub operators : List (Operator × ℕ)
  pub function_read : IsFunction bytes info layout n locals expression operators
  pub no_more : HasGrowth (context_in info locals) operators Shrinks rewrite ⊎ HasGrowth (context_in info locals) operators Keeps rewrite
  pub smaller : IsSmaller new bytes
