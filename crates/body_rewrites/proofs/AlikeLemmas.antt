-- When a part's code stands where the part may.
use Rattle.std.proofs.Common.{◌≡◌, ℕ, suc, ◌+◌, List, [], ◌∷◌, map, refl, sym, ap, subst, ◌∙◌, arith}
use Rattle.std.specs.Int.{cast_signed}
use Rattle.std.proofs.lemmas.Int.{of_z-to_z}
use Rattle.std.proofs.lemmas.Nat.{pow_pos}
use Rattle.std.proofs.Math.Nat.{mod-lt}
use mir.Val.{bits}
use Rattle.wasm_code.specs.Instruction.{Instruction}
use Rattle.wasm_code.specs.declared.immediate.Imm.TheVariants as imm
use Rattle.wasm_code.specs.declared.operator.Operator.TheVariants.{Instr}
use Rattle.wasm_execution.specs.declared.integer.IntegerType.{IntegerType}
use Rattle.wasm_execution.specs.declared.integer.IntegerType.TheVariants as integer
use Rattle.wasm_execution.specs.Values.{width_of}
use Rattle.rewrite_rules.specs.declared.pattern.Number.{Number}
use Rattle.rewrite_rules.specs.declared.pattern.Part.{Part}
use Rattle.rewrite_rules.specs.declared.pattern.Part.TheVariants.{Hole, Constant, Drawn, Apply}
use Rattle.rewrite_rules.specs.Numbers.{low, number_of, constant_at}
use Rattle.rewrite_rules.specs.Instance.{constant_code, operator_code}
use Rattle.body_rewrites.specs.Trees.{Stands}
use Rattle.body_rewrites.specs.Open.{HasInstruction}
use Rattle.body_rewrites.specs.Matching.{instructions, operators_in, number_in, number_of_operator, number_at, HaveSameCode, HasSomeCode, HasSomePart, IsAlike}
use Rattle.body_rewrites.proofs.AloneLemmas.{one_code}
use Rattle.body_rewrites.proofs.StandsLemmas.{Operators, stands_nothing, stands_snoc}

-- ---- operands

pub instructions_back : (code : List Instruction) → instructions (map (λ (i : Instruction). Instr i) code) ≡ code
instructions_back [] = refl
instructions_back (i ∷ code) = ap (λ is. i ∷ is) (instructions_back code)

pub code_there : (operators : Operators) (a b : ℕ) (code : List Instruction) → Stands operators a b code → instructions (operators_in operators a b) ≡ code
code_there operators a b code h = ap instructions h ∙ instructions_back code

pub hole_alike : (operators : Operators) (place operand : ℕ × ℕ) (n : ℕ) (numbers : List ℕ) → HaveSameCode operators place operand →
    IsAlike operators (Hole n) place operand numbers
hole_alike operators place operand n numbers (code, h, k) =
    subst (Stands operators place.0 place.1) (sym (code_there operators operand.0 operand.1 code k)) h

pub alike_hole : (operators : Operators) (place operand : ℕ × ℕ) (n : ℕ) (numbers : List ℕ) → HasSomeCode operators operand →
    IsAlike operators (Hole n) place operand numbers → HaveSameCode operators place operand
alike_hole operators place operand n numbers (le, inside, (code, k)) h =
    (code, subst (Stands operators place.0 place.1) (code_there operators operand.0 operand.1 code k) h, k)

-- ---- constants

number_back : (t : IntegerType) (n : ℕ) → number_in (constant_code t n).imm ≡ low t n
number_back integer.I32 n = of_z-to_z (width_of integer.I32) (low integer.I32 n) (mod-lt n (pow_pos (bits (width_of integer.I32))))
number_back integer.I64 n = of_z-to_z (width_of integer.I64) (low integer.I64 n) (mod-lt n (pow_pos (bits (width_of integer.I64))))

pub by_low : (t : IntegerType) (n m : ℕ) → low t n ≡ low t m → constant_code t n ≡ constant_code t m
by_low integer.I32 n m e = ap (λ k. record { row = 36; imm = imm.I32 (cast_signed (width_of integer.I32) k) }) e
by_low integer.I64 n m e = ap (λ k. record { row = 37; imm = imm.I64 (cast_signed (width_of integer.I64) k) }) e

there : (operators : Operators) (at : ℕ) (i : Instruction) → HasInstruction operators at i → number_at operators at ≡ number_in i.imm
there operators at i h = ap number_of_operator h

alone : (operators : Operators) (at end : ℕ) (i : Instruction) → end ≡ suc at → HasInstruction operators at i → Stands operators at end (i ∷ [])
alone operators at end i e h =
    subst (λ k. Stands operators at k (i ∷ [])) (let s : at + 1 ≡ end = omega (arith, e) in s)
    (stands_snoc operators at at [] i (omega arith) h (stands_nothing operators at))

pub constant_alike : (operators : Operators) (t : IntegerType) (e : Number) (place operand : ℕ × ℕ) (numbers : List ℕ) →
    HasSomePart operators (Constant t e) place → number_at operators place.0 ≡ low t (number_of t (constant_at numbers) e) →
    IsAlike operators (Constant t e) place operand numbers
constant_alike operators t e place operand numbers (context, (n, i, ends, has, (small, is))) same =
    let m = number_of t (constant_at numbers) e in
    let found : number_at operators place.0 ≡ low t n = there operators place.0 i has ∙ (ap (λ (j : Instruction). number_in j.imm) is ∙ number_back t n) in
    subst (λ j. Stands operators place.0 place.1 (j ∷ [])) (is ∙ by_low t n m (sym found ∙ same)) (alone operators place.0 place.1 i ends has)

first_of : (i j : Instruction) → ◌≡◌ {A = List Instruction} (i ∷ []) (j ∷ []) → i ≡ j
first_of i j e = cc

pub alike_constant : (operators : Operators) (t : IntegerType) (e : Number) (place operand : ℕ × ℕ) (numbers : List ℕ) →
    HasSomePart operators (Constant t e) place → IsAlike operators (Constant t e) place operand numbers →
    number_at operators place.0 ≡ low t (number_of t (constant_at numbers) e)
alike_constant operators t e place operand numbers (context, (n, i, ends, has, (small, is))) h =
    let m = number_of t (constant_at numbers) e in
    let one = one_code operators place.0 place.1 (i ∷ []) (constant_code t m ∷ []) (alone operators place.0 place.1 i ends has) h in
    there operators place.0 i has ∙ (ap (λ (j : Instruction). number_in j.imm) (first_of i (constant_code t m) one) ∙ number_back t m)

-- ---- other parts

pub others_alike : (operators : Operators) (part : Part) (place operand : ℕ × ℕ) (numbers : List ℕ) → ((n : ℕ) → part ≡ Hole n → ⊥) →
    ((t : IntegerType) (e : Number) → part ≡ Constant t e → ⊥) → HasSomePart operators part place → IsAlike operators part place operand numbers
others_alike operators (Hole n) place operand numbers hole constant some = absurd (hole n refl)
others_alike operators (Constant t e) place operand numbers hole constant some = absurd (constant t e refl)
others_alike operators (Drawn t) place operand numbers hole constant (context, none) = absurd none
others_alike operators (Apply o) place operand numbers hole constant (context, (ends, has)) =
    alone operators place.0 place.1 (operator_code o) ends has
