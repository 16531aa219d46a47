-- What holds of the standard's control and of replaced code: this project's laws.
use Rattle.std.specs.Prelude.{ℕ, List}
use Rattle.wasm_types.specs.declared.types.PrimitiveTypeInfo.{PrimitiveTypeInfo}
use Rattle.wasm_execution.specs.Values.{Context}
use Rattle.wasm_code.specs.declared.operator.Operator.{Operator}
use Rattle.wasm_equivalence.specs.control.Function.{IsSoundControl, RunsPieceByPiece, ReplacesCode}
use Rattle.wasm_equivalence.specs.control.Standard.{Beyond, standard}
use Rattle.wasm_equivalence.specs.control.Wider.{wider_module, IsWiderControl}

-- The standard's control is sound, and does in a module with more globals what it does in the module.
pub record StandardControlIsSound : Type 0 where
  pub sound : (context : Context) (results : List PrimitiveTypeInfo) (structure : List Operator) (beyond : Beyond) →
      IsSoundControl context (standard context.info results structure beyond)
  pub wide : (input : List ℕ) (more : List PrimitiveTypeInfo) (context : Context) (results : List PrimitiveTypeInfo) (structure : List Operator)
      (beyond : Beyond) → IsWiderControl input more context (standard context.info results structure beyond)
      (standard (wider_module input more context.info) results structure beyond)

-- Every body runs as itself, and so does one in which instructions were replaced by others that run as they did.
pub record ReplacedCodeIsInOnePiece : Type 0 where
  pub none : (context : Context) (requests : List PrimitiveTypeInfo) (body : List Operator) → RunsPieceByPiece context requests body body
  pub one : (context : Context) (requests : List PrimitiveTypeInfo) (old new : List Operator) → ReplacesCode context requests old new →
      RunsPieceByPiece context requests old new
