-- The instructions that operators are.
use Rattle.std.proofs.Common.{◌≡◌, ℕ, zero, suc, ◌+◌, ◌<◌, List, [], ◌∷◌, ◌++◌, length, map, take, Some, refl, sym, ap, ap₂, ◌∙◌, arith}
use Rattle.std.specs.Prelude.{slice_get}
use Rattle.std.proofs.lemmas.List.{take-map, map-append}
use Rattle.wasm_code.specs.Instruction.{Instruction}
use Rattle.wasm_code.specs.declared.operator.Operator.{Operator}
use Rattle.wasm_code.specs.declared.operator.Operator.TheVariants.{Instr}
use Rattle.body_splices.specs.OwnBytes.{without_offsets}
use Rattle.body_changes.specs.Replacing.{AreTheseInstructions, HasInstruction}

pub take_got : {A : Type 0} (xs : List A) (i : ℕ) (x : A) → slice_get xs i ≡ Some x → take (i + 1) xs ≡ take i xs ++ x ∷ []
take_got [] zero x e = absurd cc
take_got [] (suc i) x e = absurd cc
take_got (y ∷ ys) zero x e = let same : y ≡ x = cc in ap (λ z. z ∷ []) same
take_got (y ∷ ys) (suc i) x e =
    let n : suc i + 1 ≡ suc (i + 1) = omega arith in ap (λ k. take k (y ∷ ys)) n ∙ ap (λ zs. y ∷ zs) (take_got ys i x e)

pub one_more : (operators : List (Operator × ℕ)) (i : ℕ) (x : Instruction) (code grown : List Instruction) → HasInstruction operators i x →
    AreTheseInstructions (take i operators) code → grown ≡ code ++ x ∷ [] → AreTheseInstructions (take (i + 1) operators) grown
one_more operators i x code grown e h g = record {
  are = sym (take-map (λ (o : Operator × ℕ). o.0) (i + 1) operators)
      ∙ (take_got (without_offsets operators) i (Instr x) e
      ∙ (ap (λ xs. xs ++ Instr x ∷ []) (take-map (λ (o : Operator × ℕ). o.0) i operators ∙ h.are)
      ∙ (sym (map-append (λ (j : Instruction). Instr j) code (x ∷ [])) ∙ ap (map (λ (j : Instruction). Instr j)) (sym g))));
}

mapped_got : (code : List Instruction) (i : ℕ) (o : Operator) → slice_get (map (λ (j : Instruction). Instr j) code) i ≡ Some o →
    (j : Instruction) × (o ≡ Instr j)
mapped_got [] zero o e = absurd cc
mapped_got [] (suc i) o e = absurd cc
mapped_got (j ∷ code) zero o e = (j, cc)
mapped_got (j ∷ code) (suc i) o e = mapped_got code i o e

some_there : (os : List (Operator × ℕ)) (i : ℕ) → i < length os → (o : Operator) × (slice_get (without_offsets os) i ≡ Some o)
some_there [] i l = absurd (omega arith)
some_there (x ∷ os) zero l = (x.0, refl)
some_there (x ∷ os) (suc i) l = some_there os i (omega arith)

pub no_instructions : (operators : List (Operator × ℕ)) (i : ℕ) (code : List Instruction) → i < length operators →
    ((x : Instruction) → HasInstruction operators i x → ⊥) → AreTheseInstructions operators code → ⊥
no_instructions operators i code l never h =
    let (o, there) = some_there operators i l in
    let (j, is) = mapped_got code i o (ap (λ xs. slice_get xs i) (sym h.are) ∙ there) in
    never j (there ∙ ap (λ (x : Operator). Some x) is)

-- they are no others
pub same_instructions : (operators : List (Operator × ℕ)) (a b : List Instruction) → AreTheseInstructions operators a → AreTheseInstructions operators b → a ≡ b
same_instructions operators a b g h = mapped_same a b (sym g.are ∙ h.are)
  where
    mapped_same : (a b : List Instruction) → map (λ (j : Instruction). Instr j) a ≡ map (λ (j : Instruction). Instr j) b → a ≡ b
    mapped_same [] [] e = refl
    mapped_same [] (y ∷ b) e = absurd cc
    mapped_same (x ∷ a) [] e = absurd cc
    mapped_same (x ∷ a) (y ∷ b) e =
        let heads : Instr x ≡ Instr y = cc in
        let same : x ≡ y = cc in
        let tails : map (λ (j : Instruction). Instr j) a ≡ map (λ (j : Instruction). Instr j) b = cc in
        ap₂ (λ (z : Instruction) zs. z ∷ zs) same (mapped_same a b tails)

-- ---- one by one

mapped_there : (code : List Instruction) (i : ℕ) → i < length code →
    (x : Instruction) × (slice_get code i ≡ Some x) × (slice_get (map (λ (j : Instruction). Instr j) code) i ≡ Some (Instr x))
mapped_there [] i l = absurd (omega arith)
mapped_there (x ∷ code) zero l = (x, refl, refl)
mapped_there (x ∷ code) (suc i) l = mapped_there code i (omega arith)

-- each of them stands at its index
pub own_there : (operators : List (Operator × ℕ)) (code : List Instruction) (i : ℕ) → AreTheseInstructions operators code → i < length code →
    (x : Instruction) × (slice_get code i ≡ Some x) × HasInstruction operators i x
own_there operators code i h l =
    let (x, is, there) = mapped_there code i l in (x, is, ap (λ xs. slice_get xs i) h.are ∙ there)

pub one_there : (operators : List (Operator × ℕ)) (i : ℕ) (x y : Instruction) → HasInstruction operators i x → HasInstruction operators i y → x ≡ y
one_there operators i x y a b = let e : Some (Instr x) ≡ Some (Instr y) = sym a ∙ b in let same : Instr x ≡ Instr y = cc in cc
