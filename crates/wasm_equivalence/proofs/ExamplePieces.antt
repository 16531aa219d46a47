-- What the examples share: values, a call, a world that refuses all, and code that asks nothing beyond its operators.
use Rattle.std.proofs.Common.{ℕ, List, [], None}
use Rattle.wasm_code.specs.declared.immediate.Imm.TheVariants as imm
use Rattle.wasm_code.specs.declared.operator.Operator.{Operator}
use Rattle.wasm_code.specs.Instruction.{Instruction}
use Rattle.wasm_types.specs.Module.{Module}
use Rattle.wasm_types.specs.declared.types.PrimitiveTypeInfo.{PrimitiveTypeInfo}
use Rattle.wasm_execution.specs.declared.integer.IntegerType.TheVariants as integer
use Rattle.wasm_execution.specs.Values.{Value, whole, met, Fails, World}
use Rattle.wasm_equivalence.specs.control.Standard.{Beyond, by_asked, fails, breaks}
use Rattle.wasm_equivalence.specs.validation.Sound.{HasDeeds}

abbrev pub i32 : ℕ → Value
i32 n = whole integer.I32 n

abbrev pub call : ℕ → Instruction
call f = record { row = 1; imm = imm.Index f }

-- what it is asked traps
abbrev pub refuses : Module → World
refuses m = record { info = m; answer = λ i vs gs r. Fails (met 0) gs r; others = λ i vs gs r more. more }

-- no table has anything, and no other operator takes, leaves or catches anything
abbrev pub nothing : Beyond
nothing = record {
  labels = λ k. [];
  default = λ k. 0;
  target = λ k c r. fails 0;
  takes = λ k. [];
  deed = λ k vs r. breaks 0 r;
  leaves = λ k. None;
  label = λ k. None;
  catcher = λ k mark r. None;
  clauses = λ k. [];
}

pub no_deeds : (m : Module) (results : List PrimitiveTypeInfo) (structure : List Operator) → HasDeeds m results structure (by_asked structure nothing)
no_deeds m results structure = record { deeds = λ k o vs rest s part t a. tt; caught = λ k mark rest o c at e. absurd cc }
