use Rattle.std.proofs.Common.{FitsSigned, rules, refl, arith}
use Rattle.std.specs.Int.{w64}
use Rattle.std.proofs.lemmas.Int.{to_z-of_z}
use Rattle.wasm_execution.proofs.DivisionLemmas.{divided}
use Rattle.wasm_execution.proofs.value.divide_signed_64.Goals as goal

pub returns : goal.returns
returns c =
    let x = c.cast_signed.result in
    let y = c.cast_signed-2.result in
    let q = c.in_ok-quotient.quotient in
    let fx : FitsSigned w64 x = search rules in
    let fy : FitsSigned w64 y = search rules in
    let fq : FitsSigned w64 q = search rules in
    divided w64 c.args.n c.args.m c.cast_unsigned.result x y q refl (omega arith) (omega arith) c.cast_signed.ensures c.cast_signed-2.ensures
    (simp to_z-of_z at c.in_ok-quotient.ensures) (simp to_z-of_z at c.cast_unsigned.ensures)
