-- That the test for equal value types is equality (this project).
use Rattle.std.specs.Prelude.{◌≡◌, true, refl}
use Rattle.std.specs.Bool.{Decides}
use Rattle.std.proofs.Common.{true≢false, sym}
use Rattle.wasm_code.specs.contracts.immediate.ValTypePartialEq.TheImpl as val_type_eq
use Rattle.wasm_code.specs.contracts.immediate.ValTypeEq.TheImpl.Laws.{laws-law as val_type_equiv}
use Rattle.wasm_code.specs.declared.immediate.ValType.{ValType}
use Rattle.wasm_code.specs.declared.immediate.ValType.TheVariants as val

-- value types that compare equal are the same
pub same_val_type : (t u : ValType) → val_type_eq.ghosts.eq t u ≡ true → t ≡ u
same_val_type val.I32 val.I32 e = refl
same_val_type val.I64 val.I64 e = refl
same_val_type val.F32 val.F32 e = refl
same_val_type val.F64 val.F64 e = refl
same_val_type val.V128 val.V128 e = refl
same_val_type val.FuncRef val.FuncRef e = refl
same_val_type val.ExternRef val.ExternRef e = refl
same_val_type _ _ e = absurd (true≢false (sym e))

-- the test is true exactly where they are the same
pub val_types_equal : (t u : ValType) → Decides (val_type_eq.ghosts.eq t u) (t ≡ u)
val_types_equal t u = (same_val_type t u, λ e. rw e (val_type_equiv.refl u))
