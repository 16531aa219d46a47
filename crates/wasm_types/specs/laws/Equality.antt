-- That the test for equal types is equality (this project).
use Rattle.std.specs.Prelude.{◌≡◌, true, refl}
use Rattle.std.specs.Bool.{Decides}
use Rattle.std.proofs.Common.{true≢false, sym}
use Rattle.wasm_types.specs.contracts.types.PrimitiveTypeInfoPartialEq.TheImpl as type_eq
use Rattle.wasm_types.specs.contracts.types.PrimitiveTypeInfoEq.TheImpl.Laws.{laws-law as type_equiv}
use Rattle.wasm_types.specs.declared.types.PrimitiveTypeInfo.{PrimitiveTypeInfo}
use Rattle.wasm_types.specs.declared.types.PrimitiveTypeInfo.TheVariants as type

pub same_type : (t u : PrimitiveTypeInfo) → type_eq.ghosts.eq t u ≡ true → t ≡ u
same_type type.I32 type.I32 e = refl
same_type type.I64 type.I64 e = refl
same_type type.F32 type.F32 e = refl
same_type type.F64 type.F64 e = refl
same_type type.V128 type.V128 e = refl
same_type type.FuncRef type.FuncRef e = refl
same_type type.ExternRef type.ExternRef e = refl
same_type type.Empty type.Empty e = refl
same_type _ _ e = absurd (true≢false (sym e))

pub types_equal : (t u : PrimitiveTypeInfo) → Decides (type_eq.ghosts.eq t u) (t ≡ u)
types_equal t u = (same_type t u, λ e. rw e (type_equiv.refl u))
