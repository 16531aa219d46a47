-- The body with code in the place of some of its instructions.
use Rattle.std.proofs.Common.{◌≡◌, ℕ, ◌+◌, ◌-◌, ◌<◌, ◌≤◌, List, [], ◌∷◌, ◌++◌, length, map, take, drop, Option, Some, None, Result, Ok, Err, refl, sym, ap}
use Rattle.std.proofs.Common.{ap₂, subst, ◌∙◌, arith}
use Rattle.std.specs.Prelude.{slice_range, IfOk, IfNone}
use Rattle.std.proofs.lemmas.List.{take-append-drop, drop-drop, map-append, length-map, length-take, length-drop, take-map, drop-map}
use Rattle.wasm_code.specs.Instruction.{Instruction}
use Rattle.wasm_code.specs.declared.operator.Operator.{Operator}
use Rattle.wasm_code.specs.declared.operator.Operator.TheVariants.{Instr}
use Rattle.wasm_types.specs.declared.types.PrimitiveTypeInfo.{PrimitiveTypeInfo}
use Rattle.wasm_execution.specs.Values.{Context}
use Rattle.wasm_equivalence.specs.validation.StaysValid.{ReplacedCodeStaysValid, ChecksAs, StaysValid}
use Rattle.wasm_equivalence.specs.control.Wider.{wider}
use Rattle.body_splices.specs.OwnBytes.{without_offsets}
use Rattle.body_splices.specs.Laws.{pieces_operators, SplicedOperatorsAre}
use Rattle.body_splices.specs.Splice.{AppendsSpliced}
use Rattle.body_changes.specs.Replacing.{new_pieces, AppendsReplaced, AreTheseInstructions, CanReplace, IsClosed}
use Rattle.body_changes.specs.Typed.{told_types_after, LeavesTypes}
use Rattle.body_changes.proofs.OwnLemmas.{same_instructions}
use Rattle.body_changes.proofs.TypedLemmas.{OfRows, checks}

three_parts : {A : Type 0} (xs : List A) (a b : ℕ) → a ≤ b → take a xs ++ (slice_range xs a b ++ drop b xs) ≡ xs
three_parts xs a b l =
    let there : a + (b - a) ≡ b = omega arith in
    ap (λ ys. take a xs ++ (slice_range xs a b ++ ys)) (ap (λ k. drop k xs) (sym there) ∙ sym (drop-drop (b - a) a xs))
    ∙ (ap (λ ys. take a xs ++ ys) (take-append-drop (b - a) (drop a xs)) ∙ take-append-drop a xs)

-- the operators before, the instructions and the operators behind
body_parts : (os : List (Operator × ℕ)) (start end : ℕ) (own : List Instruction) → start ≤ end → AreTheseInstructions (slice_range os start end) own →
    without_offsets os ≡ without_offsets (take start os) ++ (map (λ (i : Instruction). Instr i) own ++ without_offsets (drop end os))
body_parts os start end own l h =
    ap without_offsets (sym (three_parts os start end l))
    ∙ (map-append (λ (o : Operator × ℕ). o.0) (take start os) (slice_range os start end ++ drop end os)
    ∙ ap (λ (xs : List Operator). without_offsets (take start os) ++ xs) (map-append (λ (o : Operator × ℕ). o.0) (slice_range os start end) (drop end os)
    ∙ ap (λ (xs : List Operator). xs ++ without_offsets (drop end os)) h.are))

first_of_own : (os : List (Operator × ℕ)) (start end : ℕ) (own : List Instruction) → start < end → end ≤ length os →
    AreTheseInstructions (slice_range os start end) own → (i : Instruction) × (rest : List Instruction) × (own ≡ i ∷ rest)
first_of_own os start end [] l m h =
    let n = ap (λ (xs : List Operator). length xs) h.are in
    let a = length-map (slice_range os start end) (λ (o : Operator × ℕ). o.0) in
    let b = length-take (end - start) (drop start os) in
    let d = length-drop start os in
    absurd (omega arith)
first_of_own os start end (i ∷ rest) l m h = (i, rest, refl)

stays : ReplacedCodeStaysValid → (context : Context) (bytes : List ℕ) (more : List PrimitiveTypeInfo) (front back : List Operator)
    (own code : List Instruction) → (i : Instruction) × (rest : List Instruction) × (own ≡ i ∷ rest) →
    ChecksAs context (wider bytes more context) own code →
    StaysValid context (wider bytes more context) (front ++ (map (λ (i : Instruction). Instr i) own ++ back))
    (front ++ (map (λ (i : Instruction). Instr i) code ++ back))
stays law context bytes more front back own code some c =
    let (i, rest, is) = some in
    subst (λ (x : List Instruction). StaysValid context (wider bytes more context) (front ++ (map (λ (i : Instruction). Instr i) x ++ back))
    (front ++ (map (λ (i : Instruction). Instr i) code ++ back))) (sym is)
    (law context bytes more front back i rest code
    (subst (λ (x : List Instruction). ChecksAs context (wider bytes more context) x code) is c))

-- ---- the body

new_operators : (os : List Operator) (code : List Instruction) → pieces_operators os (new_pieces code) ≡ map (λ (i : Instruction). Instr i) code
new_operators os [] = refl
new_operators os (i ∷ code) = ap (λ xs. Instr i ∷ xs) (new_operators os code)

pub replaced : OfRows → ReplacedCodeStaysValid → SplicedOperatorsAre → (context : Context) (input : List ℕ) (operators : List (Operator × ℕ))
    (start end : ℕ) (code : List Instruction) (old new : List ℕ) → end < length operators → CanReplace context operators start end code →
    AppendsSpliced input operators start end (new_pieces code) old new → AppendsReplaced context input operators start end code old new
replaced rows law again context input operators start end code old new inside can spliced = record {
  can = can;
  spliced = spliced;
  valid = λ bytes more.
      let closed = can.closed in
      let some = closed.some in
      let first : Operator × ℕ → Operator = λ o. o.0 in
      let written : without_offsets spliced.again
      ≡ without_offsets (take start operators) ++ (map (λ (i : Instruction). Instr i) code ++ without_offsets (drop end operators)) =
      again input operators start end (new_pieces code) old new spliced
      ∙ ap₂ (λ xs ys. xs ++ ys) (take-map first start operators)
      (ap₂ (λ xs ys. xs ++ ys) (new_operators (without_offsets operators) code) (drop-map first end operators)) in
      rw (body_parts operators start end closed.own (omega arith) closed.stands, written)
      (stays law context bytes more (without_offsets (take start operators)) (without_offsets (drop end operators)) closed.own code
      (first_of_own operators start end closed.own closed.some (omega arith) closed.stands)
      (checks rows context closed.own code can.types closed.leaves can.leaves bytes more));
}

-- ---- where it can't stand there

same_types : (context : Context) (own others : List Instruction) (old types : List PrimitiveTypeInfo) → own ≡ others → LeavesTypes context own old →
    LeavesTypes context others types → old ≡ types
same_types context own others old types same a b =
    let g : Some old ≡ Some types = sym a ∙ (ap (λ xs. told_types_after context xs []) same ∙ b) in cc

-- it leaves what it leaves, and no other types
pub closed_one : (context : Context) (operators : List (Operator × ℕ)) (start end : ℕ) (old types : List PrimitiveTypeInfo) →
    IsClosed context operators start end old → IsClosed context operators start end types → old ≡ types
closed_one context operators start end old types a b =
    same_types context a.own b.own old types (same_instructions (slice_range operators start end) a.own b.own a.stands b.stands) a.leaves b.leaves

pub not_closed : (context : Context) (operators : List (Operator × ℕ)) (start end : ℕ) (code : List Instruction) →
    ((types : List PrimitiveTypeInfo) → IsClosed context operators start end types → ⊥) → CanReplace context operators start end code → ⊥
not_closed context operators start end code never can = never can.types can.closed

pub types_differ : (context : Context) (operators : List (Operator × ℕ)) (start end : ℕ) (code : List Instruction) (old new : List PrimitiveTypeInfo) →
    IsClosed context operators start end old → LeavesTypes context code new → (old ≡ new → ⊥) → CanReplace context operators start end code → ⊥
types_differ context operators start end code old new closed leaves differ can =
    differ (closed_one context operators start end old can.types closed can.closed ∙ same_types context code code can.types new refl can.leaves leaves)

-- ---- where nothing is typed there

pub none_in_place : {X E : Type 0} (context : Context) (operators : List (Operator × ℕ)) (start end : ℕ) (own lent : List Instruction)
    (r : Result (Option X) E) → lent ≡ own → AreTheseInstructions (slice_range operators start end) own →
    IfOk r (λ o. IfNone o (told_types_after context lent [] ≡ None)) →
    IfOk r (λ o. IfNone o ((types : List PrimitiveTypeInfo) → IsClosed context operators start end types → ⊥))
none_in_place context operators start end own lent (Err e) is stands h = tt
none_in_place context operators start end own lent (Ok (Some x)) is stands h = tt
none_in_place context operators start end own lent (Ok None) is stands h = λ types closed.
    let same = same_instructions (slice_range operators start end) closed.own lent closed.stands
    (subst (AreTheseInstructions (slice_range operators start end)) (sym is) stands) in
    let no : Some types ≡ None = sym closed.leaves ∙ (ap (λ xs. told_types_after context xs []) same ∙ h) in
    absurd cc
