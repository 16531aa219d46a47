-- The frames of a valid body before each of its pieces.
use Rattle.std.proofs.Common.{◌≡◌, ℕ, zero, suc, ◌+◌, ◌<◌, List, [], ◌∷◌, length, Option, Some, refl, sym, ap, ◌∙◌, arith}
use Rattle.std.specs.Prelude.{option_and_then}
use Rattle.wasm_code.specs.Instruction.{Instruction}
use Rattle.wasm_code.specs.declared.operator.Operator.{Operator}
use Rattle.wasm_code.specs.declared.operator.Operator.TheVariants as op
use Rattle.wasm_execution.specs.Values.{Context}
use Rattle.wasm_execution.specs.IntegerRow.{integer_row}
use Rattle.wasm_execution.specs.RowLemmas.{and_then_some}
use Rattle.wasm_equivalence.specs.control.Function.{structural, piece}
use Rattle.wasm_equivalence.specs.validation.Algorithm.{Frame, check_row, Structural, on_innermost, check}

abbrev pub check_instructions : Context → List Instruction → List Frame → Option (List Frame)
check_instructions context [] fs = Some fs
check_instructions context (i ∷ code) fs =
    option_and_then (check_instructions context code) (on_innermost (check_row context (integer_row i)) fs)

pub record Trace (context : Context) (steps : Structural) (pieces : ℕ → List Instruction) (count : ℕ) (start out : List Frame) : Type 0 where
  pub frames : ℕ → List Frame
  pub first : frames 0 ≡ start
  pub goes : (k : ℕ) → k < count →
      (mid : List Frame) × (check_instructions context (pieces k) (frames k) ≡ Some mid) × (steps k mid ≡ Some (frames (suc k)))
  pub last : check_instructions context (pieces count) (frames count) ≡ Some out

abbrev behind_one : List Frame → (ℕ → List Frame) → ℕ → List Frame
behind_one start later zero = start
behind_one start later (suc j) = later j

module _ (context : Context) (steps : Structural) where
  trace_structural : (os : List Operator) (k n : ℕ) (o : Operator) (start mid out : List Frame) → steps k start ≡ Some mid →
      Trace context (λ j. steps (suc k + j)) (piece os) n mid out →
      (pieces : ℕ → List Instruction) → pieces 0 ≡ [] → ((j : ℕ) → pieces (suc j) ≡ piece os j) →
      Trace context (λ j. steps (k + j)) pieces (suc n) start out
  trace_structural os k n o start mid out e t pieces none later = record {
    frames = behind_one start t.frames;
    first = refl;
    goes = goes;
    last = ap (λ code. check_instructions context code (t.frames n)) (later n) ∙ t.last;
  }
    where
      goes : (j : ℕ) → j < suc n → (mid : List Frame)
          × (check_instructions context (pieces j) (behind_one start t.frames j) ≡ Some mid)
          × (steps (k + j) mid ≡ Some (behind_one start t.frames (suc j)))
      goes zero l = (
        start,
        ap (λ code. check_instructions context code start) none,
        (let q : k + 0 ≡ k = omega arith in ap (λ i. steps i start) q) ∙ (e ∙ ap Some (sym t.first)),
      )
      goes (suc j) l =
          let (m, a, b) = t.goes j (omega arith) in
          let q : k + suc j ≡ suc k + j = omega arith in
          (m, ap (λ code. check_instructions context code (t.frames j)) (later j) ∙ a, ap (λ i. steps i m) q ∙ b)

  abbrev instead : List Frame → (ℕ → List Frame) → ℕ → List Frame
  instead start later zero = start
  instead start later (suc j) = later (suc j)

  trace_instruction : (os : List Operator) (k n : ℕ) (i : Instruction) (start mid out : List Frame) →
      on_innermost (check_row context (integer_row i)) start ≡ Some mid → Trace context (λ j. steps (k + j)) (piece os) n mid out →
      Trace context (λ j. steps (k + j)) (piece (op.Instr i ∷ os)) n start out
  trace_instruction os k n i start mid out e t = record {
    frames = instead start t.frames;
    first = refl;
    goes = goes;
    last = last n t.last;
  }
    where
      first : (m : List Frame) → check_instructions context (piece os 0) (t.frames 0) ≡ Some m →
          check_instructions context (piece (op.Instr i ∷ os) 0) start ≡ Some m
      first m a = ap (option_and_then (check_instructions context (piece os 0))) e ∙
          (ap (check_instructions context (piece os 0)) (sym t.first) ∙ a)

      goes : (j : ℕ) → j < n → (mid : List Frame)
          × (check_instructions context (piece (op.Instr i ∷ os) j) (instead start t.frames j) ≡ Some mid)
          × (steps (k + j) mid ≡ Some (instead start t.frames (suc j)))
      goes zero l = let (m, a, b) = t.goes zero l in (m, first m a, b)
      goes (suc j) l = t.goes (suc j) l

      last : (n : ℕ) → check_instructions context (piece os n) (t.frames n) ≡ Some out →
          check_instructions context (piece (op.Instr i ∷ os) n) (instead start t.frames n) ≡ Some out
      last zero a = first out a
      last (suc n) a = a

  pub trace_of : (os : List Operator) (k : ℕ) (start out : List Frame) → check context steps k os start ≡ Some out →
      Trace context (λ j. steps (k + j)) (piece os) (length (structural os)) start out
  trace_of [] k start out e = record { frames = λ j. start; first = refl; goes = λ j l. absurd (omega arith); last = e }
  trace_of (op.Instr i ∷ os) k start out e =
      let (mid, a, b) = and_then_some (check context steps k os) (on_innermost (check_row context (integer_row i)) start) out e in
      trace_instruction os k (length (structural os)) i start mid out a (trace_of os k mid out b)
  trace_of (o ∷ os) k start out e =
      let (mid, a, b) = and_then_some (check context steps (suc k) os) (steps k start) out e in
      trace_structural os k (length (structural os)) o start mid out a (trace_of os (suc k) mid out b) (piece (o ∷ os)) refl (λ j. refl)
