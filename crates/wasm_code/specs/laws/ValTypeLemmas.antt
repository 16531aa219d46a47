-- Value types are read exactly.
use Rattle.std.proofs.Common.{◌≡◌, ℕ, eqb, Bool, true, false, cond, sym, ap, ◌∙◌, Option, Some, refl}
use Rattle.std.proofs.lemmas.Bool.{eqb-true}
use Rattle.wasm_code.specs.declared.immediate.ValType.{ValType}
use Rattle.wasm_code.specs.declared.immediate.ValType.TheVariants.{I32, I64, F32, F64, V128, FuncRef, ExternRef}
use Rattle.wasm_code.specs.Immediate.{val_type_code, SpellsValType, FailsValType}
use Rattle.wasm_code.specs.Reader.{val_type_of, val_type_at}
use Rattle.wasm_code.specs.laws.GrammarLemmas.{Exact, exact_code}

-- the next code of a list of codes is the byte's, or it is one of those behind it
pub listed : {A : Type 0} (code : A → ℕ) (v : Bool) (b k : ℕ) (x y : A) (rest : Option A) → eqb b k ≡ v → code y ≡ k → cond v (Some y) rest ≡ Some x →
    (rest ≡ Some x → code x ≡ b) → code x ≡ b
listed code true b k x y rest is named e more = let same : y ≡ x = cc in ap code (sym same) ∙ named ∙ sym (eqb-true b k is)
listed code false b k x y rest is named e more = more e

pub val_type_named : (b : ℕ) (t : ValType) → val_type_of b ≡ Some t → val_type_code t ≡ b
unfolding val_type_of
val_type_named b t e =
    let code = val_type_code in
    listed code _ b 127 t I32 _ refl refl e (λ e. listed code _ b 126 t I64 _ refl refl e (λ e. listed code _ b 125 t F32 _ refl refl e
    (λ e. listed code _ b 124 t F64 _ refl refl e (λ e. listed code _ b 123 t V128 _ refl refl e (λ e. listed code _ b 112 t FuncRef _ refl refl e
    (λ e. listed code _ b 111 t ExternRef _ refl refl e (λ e. absurd cc)))))))

pub val_type_coded : (t : ValType) → val_type_of (val_type_code t) ≡ Some t
unfolding val_type_of
val_type_coded I32 = refl
val_type_coded I64 = refl
val_type_coded F32 = refl
val_type_coded F64 = refl
val_type_coded V128 = refl
val_type_coded FuncRef = refl
val_type_coded ExternRef = refl

pub val_type_exact : Exact SpellsValType FailsValType val_type_at
unfolding val_type_at
val_type_exact = exact_code val_type_code val_type_of val_type_named val_type_coded
