-- Where a function stands in a module (this project).
use Rattle.std.specs.Prelude.{ℕ, List}
use Rattle.wasm_code.specs.declared.operator.Operator.{Operator}
use Rattle.wasm_types.specs.Module.{Module}
use Rattle.wasm_types.specs.declared.types.PrimitiveTypeInfo.{PrimitiveTypeInfo}
use Rattle.wasm_module.specs.Module.{Layout, IsModule}
use Rattle.body_splices.specs.OwnBytes.{IsBodyIn}
use Rattle.module_rewrites.specs.Function.{IsFunction}
use Rattle.module_rewrites.specs.Mutated.{IsBehindLocals}

-- Its body stands in the module's bytes.
abbrev pub FunctionsAreInside : Type 0
FunctionsAreInside =
    (bytes : List ℕ) (info : Module) (layout : Layout) (n : ℕ) (locals : List PrimitiveTypeInfo) (expression : ℕ) (operators : List (Operator × ℕ)) →
    IsModule bytes info layout → IsFunction bytes info layout n locals expression operators → IsBodyIn bytes operators

-- It starts behind the locals, inside the entry.
abbrev pub LocalsStandBefore : Type 0
LocalsStandBefore =
    (bytes : List ℕ) (info : Module) (layout : Layout) (n : ℕ) (locals : List PrimitiveTypeInfo) (expression : ℕ) (operators : List (Operator × ℕ)) →
    IsModule bytes info layout → (f : IsFunction bytes info layout n locals expression operators) → IsBehindLocals bytes f.entry expression
