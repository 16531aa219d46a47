-- Something stands behind what is rewritten.
use Rattle.std.proofs.Common.{◌≡◌, ℕ, zero, suc, ◌+◌, ◌-◌, ◌<◌, ◌≤◌, IsTrue, List, [], ◌∷◌, length, map, sym, ap, ◌∙◌, arith}
use Rattle.std.specs.Prelude.{slice_get}
use Rattle.std.proofs.lemmas.Bool.{false≢true}
use Rattle.wasm_code.specs.Body.{is_end, ends}
use Rattle.wasm_code.specs.Instruction.{Instruction}
use Rattle.wasm_code.specs.declared.operator.Operator.{Operator}
use Rattle.wasm_code.specs.declared.operator.Operator.TheVariants.{Instr}
use Rattle.body_rewrites.specs.Trees.{Stands}
use Rattle.body_rewrites.specs.Open.{HasInstruction}
use Rattle.body_rewrites.proofs.StandsLemmas.{Operators}
use Rattle.body_rewrites.proofs.MatchingLemmas.{entry_in, one_there}
use Rattle.body_rewrites.proofs.SplitLemmas.{count_is}

pub behind_instruction : (operators : Operators) (at : ℕ) (i : Instruction) → HasInstruction operators at i → IsTrue (ends operators) →
    at + 1 < length operators
behind_instruction [] at i e h = absurd (false≢true h)
behind_instruction (x ∷ []) zero i e h = absurd (false≢true (sym (ap is_end (let is : x.0 ≡ Instr i = cc in is)) ∙ h))
behind_instruction (x ∷ []) (suc at) i e h = absurd cc
behind_instruction (x ∷ y ∷ os) zero i e h = omega arith
behind_instruction (x ∷ y ∷ os) (suc at) i e h = let n = behind_instruction (y ∷ os) at i e h in omega arith

-- the last of instructions that stand together
pub last_there : (operators : Operators) (s at : ℕ) (code : List Instruction) → s ≤ at → at < length operators → Stands operators s (at + 1) code →
    (i : Instruction) × HasInstruction operators at i
last_there operators s at code l inside h =
    let count = count_is operators s (at + 1) code (omega (arith, inside)) h in
    let (i, is) = one_there code (at - s) (omega (arith, count, l)) in
    let there : s + (at - s) ≡ at = omega (arith, l) in (
      i,
      ap (slice_get (map (λ (o : Operator × ℕ). o.0) operators)) (sym there)
          ∙ (sym (entry_in operators s (at + 1) (at - s) (omega (arith, l))) ∙ (ap (λ os. slice_get os (at - s)) h ∙ is)),
    )
