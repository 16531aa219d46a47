-- When pieces are the operators that stand in a range.
use Rattle.std.proofs.Common.{◌≡◌, ℕ, ◌+◌, ◌-◌, ◌<◌, ◌≤◌, List, [], ◌∷◌, ◌++◌, length, map, take, drop, Some, None, refl, sym, ap, ap₂, subst, ◌∙◌, arith}
use Rattle.std.specs.Prelude.{slice_get, slice_range}
use Rattle.std.proofs.Math.Seq.{take-append_seam}
use Rattle.std.proofs.lemmas.List.{append_cancel_left, drop_all, length-append, map-append}
use Rattle.wasm_code.specs.Instruction.{Instruction}
use Rattle.wasm_code.specs.declared.operator.Operator.{Operator}
use Rattle.wasm_code.specs.declared.operator.Operator.TheVariants.{Instr}
use Rattle.body_splices.specs.declared.piece.Piece.{Piece}
use Rattle.body_splices.specs.OwnBytes.{without_offsets}
use Rattle.body_splices.specs.Laws.{AreInstructions, pieces_operators}
use Rattle.body_rewrites.specs.Open.{HasInstruction}
use Rattle.body_rewrites.specs.Matching.{operators_in, HaveSameCode}
use Rattle.body_rewrites.specs.Differing.{IsBehindPiece, ArePieces}
use Rattle.body_rewrites.proofs.StandsLemmas.{Operators, stands_nothing, stands_snoc}
use Rattle.body_rewrites.proofs.AloneLemmas.{range_split}
use Rattle.body_rewrites.proofs.MatchingLemmas.{length_in, entry_in}
use Rattle.body_rewrites.proofs.WritingLemmas.{range_alone}

abbrev instr_of : Instruction → Operator
instr_of i = Instr i

-- ---- ranges

in_parts : (operators : Operators) (s m e : ℕ) → s ≤ m → m ≤ e → operators_in operators s e ≡ operators_in operators s m ++ operators_in operators m e
in_parts operators s m e l k =
    ap (map (λ (o : Operator × ℕ). o.0)) (range_split operators s m e l k)
    ∙ map-append (λ (o : Operator × ℕ). o.0) (slice_range operators s m) (slice_range operators m e)

front_code : (xs ys : List Operator) (code : List Instruction) → xs ++ ys ≡ map instr_of code → xs ≡ map instr_of (take (length xs) code)
front_code [] ys code e = refl
front_code (x ∷ xs) ys [] e = absurd cc
front_code (x ∷ xs) ys (i ∷ code) e =
    let first : x ≡ Instr i = cc in
    ap₂ (λ z zs. z ∷ zs) first (front_code xs ys code cc)

back_code : (xs ys : List Operator) (code : List Instruction) → xs ++ ys ≡ map instr_of code → ys ≡ map instr_of (drop (length xs) code)
back_code [] ys code e = e
back_code (x ∷ xs) ys [] e = absurd cc
back_code (x ∷ xs) ys (i ∷ code) e = back_code xs ys code cc

-- the last ones of instructions are instructions
pub instructions_from : (operators : Operators) (start at end : ℕ) → start ≤ at → at ≤ end → AreInstructions operators start end →
    AreInstructions operators at end
instructions_from operators start at end l k is = record {
  instructions = drop (length (operators_in operators start at)) is.instructions;
  stand = back_code (operators_in operators start at) (operators_in operators at end) is.instructions (sym (in_parts operators start at end l k) ∙ is.stand);
}

-- more than stand in the range aren't the first of it
pub too_many : (operators : Operators) (at end : ℕ) (these rest : List Operator) → end ≤ length operators → end - at < length these →
    ¬ (these ++ rest ≡ operators_in operators at end)
too_many operators at end these rest inside more e =
    let count = sym (length-append these rest) ∙ (ap length e ∙ length_in operators at end inside) in
    absurd (omega (arith, count, more))

front_is : (operators : Operators) (at next end : ℕ) (these rest : List Operator) → at ≤ next → next ≤ end → end ≤ length operators →
    length these ≡ next - at → these ++ rest ≡ operators_in operators at end → these ≡ operators_in operators at next
front_is operators at next end these rest l k inside count e =
    let same : length these ≡ length (operators_in operators at next) = count ∙ sym (length_in operators at next (omega (arith, k, inside))) in
    sym (take-append_seam these rest)
    ∙ (ap (take (length these)) (e ∙ in_parts operators at next end l k)
    ∙ (ap (λ n. take n (operators_in operators at next ++ operators_in operators next end)) same
    ∙ take-append_seam (operators_in operators at next) (operators_in operators next end)))

-- ---- code that is kept

pub kept_count : (operators : Operators) (s e : ℕ) → e ≤ length operators → length (slice_range (without_offsets operators) s e) ≡ e - s
kept_count operators s e l = ap length (range_alone operators s e) ∙ length_in operators s e l

pub kept_is : (operators : Operators) (at next : ℕ) (kept : ℕ × ℕ) → HaveSameCode operators (at, next) kept →
    slice_range (without_offsets operators) kept.0 kept.1 ≡ operators_in operators at next
kept_is operators at next kept (code, a, b) = range_alone operators kept.0 kept.1 ∙ (b ∙ sym a)

pub kept_there : (operators : Operators) (at next end : ℕ) (kept : ℕ × ℕ) (rest : List Operator) → at ≤ next → next ≤ end → end ≤ length operators →
    kept.1 ≤ length operators → kept.1 - kept.0 ≡ next - at → AreInstructions operators at end →
    slice_range (without_offsets operators) kept.0 kept.1 ++ rest ≡ operators_in operators at end → HaveSameCode operators (at, next) kept
kept_there operators at next end kept rest l k inside within count is e =
    let these = slice_range (without_offsets operators) kept.0 kept.1 in
    let code = take (length these) is.instructions in
    let there : these ≡ map instr_of code = front_code these rest is.instructions (e ∙ is.stand) in
    let same : these ≡ operators_in operators at next =
    front_is operators at next end these rest l k inside (kept_count operators kept.0 kept.1 within ∙ count) e in
    (code, sym same ∙ there, sym (range_alone operators kept.0 kept.1) ∙ there)

-- ---- an instruction that is new

pub new_is : (operators : Operators) (at : ℕ) (i : Instruction) → HasInstruction operators at i → Instr i ∷ [] ≡ operators_in operators at (at + 1)
new_is operators at i has = sym (stands_snoc operators at at [] i (omega arith) has (stands_nothing operators at))

pub new_there : (operators : Operators) (at end : ℕ) (i : Instruction) (rest : List Operator) → at < end → Instr i ∷ rest ≡ operators_in operators at end →
    HasInstruction operators at i
new_there operators at end i rest l e =
    let here : at + 0 ≡ at = omega arith in
    subst (λ k. HasInstruction operators k i) here
    (sym (entry_in operators at end 0 (omega (arith, l))) ∙ ap (λ os. slice_get os 0) (sym e))

-- ---- pieces so far

-- The first so many end before `at`, and all are the range's operators where those behind them are those from there on, and only there.
pub record AreThereSo (operators : Operators) (start end : ℕ) (pieces : List Piece) (i at : ℕ) : Type 0 where
  pub before : start ≤ at
  pub behind : at ≤ end
  pub same : ArePieces operators at end (drop i pieces) → ArePieces operators start end pieces
  pub only : ArePieces operators start end pieces → ArePieces operators at end (drop i pieces)

module _ (operators : Operators) (start end : ℕ) (pieces : List Piece) (i at : ℕ) (p : Piece) (ps : drop i pieces ≡ p ∷ drop (i + 1) pieces)
    (so : AreThereSo operators start end pieces i at) where
  pub one_more_there : (next : ℕ) → IsBehindPiece operators p at end (Some next) → AreThereSo operators start end pieces (i + 1) next
  one_more_there next (l, k, e) = record {
    before = omega (arith, so.before, l);
    behind = k;
    same = λ h. so.same (subst (ArePieces operators at end) (sym ps) (ap₂ (λ a b. a ++ b) e h ∙ sym (in_parts operators at next end l k)));
    only = λ h. append_cancel_left (operators_in operators at next) _ _
        (ap (λ a. a ++ pieces_operators (without_offsets operators) (drop (i + 1) pieces)) (sym e)
        ∙ (subst (ArePieces operators at end) ps (so.only h) ∙ in_parts operators at next end l k));
  }

  pub no_more_there : IsBehindPiece operators p at end None → ¬ (ArePieces operators start end pieces)
  no_more_there none h = none (pieces_operators (without_offsets operators) (drop (i + 1) pieces)) (subst (ArePieces operators at end) ps (so.only h))

-- none is left
pub all_there : (operators : Operators) (start end : ℕ) (pieces : List Piece) (i at : ℕ) → length pieces ≤ i →
    AreThereSo operators start end pieces i at → at ≡ end → ArePieces operators start end pieces
all_there operators start end pieces i at l so e =
    so.same (subst (ArePieces operators at end) (sym (drop_all i pieces l))
    (subst (λ k. [] ≡ operators_in operators at k) e (sym (stands_nothing operators at))))

pub ends_there : (operators : Operators) (start end : ℕ) (pieces : List Piece) (i at : ℕ) → end ≤ length operators → length pieces ≤ i →
    AreThereSo operators start end pieces i at → ArePieces operators start end pieces → at ≡ end
ends_there operators start end pieces i at inside l so h =
    let nothing : [] ≡ operators_in operators at end = subst (ArePieces operators at end) (drop_all i pieces l) (so.only h) in
    let count = ap length nothing ∙ length_in operators at end inside in
    let ordered = so.behind in
    omega (arith, count, ordered)
