-- A body with a change that may stand in it does what it did.
use Rattle.std.proofs.Common.{◌≡◌, subst, append-nil, true, ℕ, ◌+◌, ◌-◌, ◌<◌, ◌≤◌, List, [], ◌∷◌, ◌++◌, length, map, take, drop, refl, sym, ap, ap₂, ◌∙◌, arith}
use Rattle.std.specs.Prelude.{slice_range}
use Rattle.std.specs.List.{All}
use Rattle.std.proofs.lemmas.List.{take-append-drop, drop-drop, map-append}
use Rattle.std.proofs.lemmas.List.Elements.{All-head, All-tail}
use Rattle.wasm_code.specs.Instruction.{Instruction}
use Rattle.wasm_code.specs.declared.operator.Operator.{Operator}
use Rattle.wasm_code.specs.declared.operator.Operator.TheVariants.{Instr}
use Rattle.wasm_types.specs.declared.types.PrimitiveTypeInfo.{PrimitiveTypeInfo}
use Rattle.body_splices.specs.declared.piece.Piece.{Piece}
use Rattle.body_splices.specs.declared.piece.Piece.TheVariants.{Kept, New, Structural}
use Rattle.body_splices.specs.OwnBytes.{none_of, without_offsets}
use Rattle.body_splices.specs.Laws.{KeepsInstructions, piece_operators, pieces_operators, SplicedOperatorsAre, SplicesKeepOperators, SplicesKeepStructure}
use Rattle.wasm_execution.specs.Values.{Context}
use Rattle.wasm_equivalence.specs.control.Function.{RunsPieceByPiece}
use Rattle.wasm_equivalence.specs.control.Laws.{ReplacedCodeIsInOnePiece}
use Rattle.wasm_equivalence.specs.control.Standard.{asks_beyond}
use Rattle.wasm_equivalence.specs.hosts.Embedder.{with_operators}
use Rattle.wasm_equivalence.specs.hosts.EmbedderLaws.{PiecesDo}
use Rattle.wasm_equivalence.specs.control.Wider.{wider}
use Rattle.wasm_equivalence.specs.validation.StaysValid.{ReplacedCodeStaysValid, ChecksAs, StaysValid}
use Rattle.wrapped_code.specs.Handlers.{ReadCodeHasNoHandlers}
use Rattle.body_rewrites.specs.Doing.{DoesAsBody}
use Rattle.body_rewrites.specs.Changes.{Change, changed, pieces_code, KeepsCode, MayStand}
use Rattle.body_rewrites.specs.Changed.{ChangedBodiesDoAsBefore}
use Rattle.body_rewrites.proofs.StandsLemmas.{Operators}
use Rattle.body_rewrites.specs.Matching.{instructions}
use Rattle.body_rewrites.proofs.AlikeLemmas.{instructions_back}
use Rattle.body_rewrites.proofs.SplitLemmas.{count_is}
use Rattle.body_rewrites.proofs.BehindLemmas.{behind_instruction, last_there}
use Rattle.body_rewrites.proofs.WritingLemmas.{range_alone}

abbrev instr_of : Instruction → Operator
instr_of i = Instr i

-- ---- pieces

piece_is : (operators : Operators) (p : Piece) → KeepsInstructions operators p → (code : List Instruction) ×
    (piece_operators (without_offsets operators) p ≡ map instr_of code)
piece_is operators (Kept start end) k = (k.instructions, range_alone operators start end ∙ k.stand)
piece_is operators (New i) k = (i ∷ [], refl)
piece_is operators (Structural c) k = absurd k

pieces_are : (operators : Operators) (ps : List Piece) → All (KeepsInstructions operators) ps → (code : List Instruction) ×
    (pieces_operators (without_offsets operators) ps ≡ map instr_of code)
pieces_are operators [] k = ([], refl)
pieces_are operators (p ∷ ps) k =
    let (one, is) = piece_is operators p (All-head (KeepsInstructions operators) p ps k) in
    let (more, are) = pieces_are operators ps (All-tail (KeepsInstructions operators) p ps k) in
    (one ++ more, ap₂ (λ a b. a ++ b) is are ∙ sym (map-append instr_of one more))

pub pieces_alone : (operators : Operators) (ps : List Piece) → All (KeepsInstructions operators) ps →
    pieces_operators (without_offsets operators) ps ≡ map instr_of (pieces_code operators ps)
pieces_alone operators ps k =
    let (code, is) = pieces_are operators ps k in
    is ∙ ap (map instr_of) (sym (ap instructions is ∙ instructions_back code))

-- ---- three parts of a list

pub three_parts : {A : Type 0} (xs : List A) (a b : ℕ) → a ≤ b → xs ≡ take a xs ++ (slice_range xs a b ++ drop b xs)
three_parts xs a b l =
    let there : a + (b - a) ≡ b = omega arith in
    sym (ap (λ ys. take a xs ++ (slice_range xs a b ++ ys)) (ap (λ k. drop k xs) (sym there) ∙ sym (drop-drop (b - a) a xs))
    ∙ (ap (λ ys. take a xs ++ ys) (take-append-drop (b - a) (drop a xs)) ∙ take-append-drop a xs))

-- ---- no instruction asks more, nor opens a block that catches exceptions

pub code_unasked : (code : List Instruction) → none_of asks_beyond (map instr_of code) ≡ true
code_unasked [] = refl
code_unasked (i ∷ code) = code_unasked code

-- ---- instructions in the place of instructions

stays_valid : ReplacedCodeStaysValid → (context : Context) (input : List ℕ) (requests : List PrimitiveTypeInfo) (front back : List Operator)
    (own code : List Instruction) → 0 < length own → ChecksAs context (wider input requests context) own code →
    StaysValid context (wider input requests context) (front ++ (map instr_of own ++ back)) (front ++ (map instr_of code ++ back))
stays_valid law context input requests front back [] code some checks = absurd (omega arith)
stays_valid law context input requests front back (i ∷ own) code some checks = law context input requests front back i own code checks

module _ (one_piece : ReplacedCodeIsInOnePiece) (valid : ReplacedCodeStaysValid) (do_as : PiecesDo) (context : Context) (operators : Operators) (at : ℕ)
    (change : Change) (keeps : KeepsCode context operators at change) where
  abbrev front : List Operator
  front = take change.start (without_offsets operators)

  abbrev back : List Operator
  back = drop (at + 1) (without_offsets operators)

  abbrev code : ℕ → List Instruction
  code word = pieces_code operators (change.pieces word)

  range : change.start ≤ at + 1
  range = let l = keeps.ordered in omega arith

  replaced_is : slice_range (without_offsets operators) change.start (at + 1) ≡ map instr_of keeps.old
  replaced_is = range_alone operators change.start (at + 1) ∙ keeps.stands

  old_is : without_offsets operators ≡ front ++ (map instr_of keeps.old ++ back)
  old_is = three_parts (without_offsets operators) change.start (at + 1) range ∙ ap (λ (l : List Operator). front ++ (l ++ back)) replaced_is

  new_is : (word : ℕ) → changed operators at change word ≡ front ++ (map instr_of (code word) ++ back)
  new_is word = ap (λ (l : List Operator). front ++ (l ++ back)) (pieces_alone operators (change.pieces word) (keeps.keep word))

  some : at < length operators → 0 < length keeps.old
  some inside =
      let count = count_is operators change.start (at + 1) keeps.old (omega (arith, inside)) keeps.stands in
      omega (arith, count, keeps.ordered)

  abbrev asks : List PrimitiveTypeInfo
  asks = change.asks

  runs_so : (word : ℕ) → RunsPieceByPiece context asks (without_offsets operators) (changed operators at change word)
  runs_so word =
      subst (λ (ts : List PrimitiveTypeInfo). RunsPieceByPiece context ts (without_offsets operators) (changed operators at change word)) (append-nil asks)
      (one_piece.one context (asks ++ []) (without_offsets operators) (changed operators at change word) (record {
        front = front;
        back = back;
        own = keeps.old;
        code = code word;
        old_is = old_is;
        new_is = new_is word;
        runs = (keeps.same word).runs [];
      }))

  valid_so : (word : ℕ) (input : List ℕ) → at < length operators →
      StaysValid context (wider input asks context) (without_offsets operators) (changed operators at change word)
  valid_so word input inside =
      subst (λ (ts : List PrimitiveTypeInfo). StaysValid context (wider input ts context) (without_offsets operators) (changed operators at change word))
      (append-nil asks)
      (subst (λ (p : List Operator × List Operator). StaysValid context (wider input (asks ++ []) context) p.0 p.1)
      (ap₂ (λ (a b : List Operator). (a, b)) (sym old_is) (sym (new_is word)))
      (stays_valid valid context input (asks ++ []) front back keeps.old (code word) (some inside) ((keeps.same word).checks input [])))

  does_so : (word : ℕ) → at < length operators → DoesAsBody context asks (without_offsets operators) (changed operators at change word)
  does_so word inside m input b same is =
      do_as m input asks b (with_operators (changed operators at change word) b) refl refl
      (subst (λ (p : Context × List Operator). RunsPieceByPiece p.0 asks p.1 (changed operators at change word))
      (ap₂ (λ (c : Context) (os : List Operator). (c, os)) same is) (runs_so word))
      (subst (λ (p : Context × List Operator). StaysValid p.0 (wider input asks p.0) p.1 (changed operators at change word))
      (ap₂ (λ (c : Context) (os : List Operator). (c, os)) same is) (valid_so word input inside))

  pub keeps_may_stand : MayStand context operators at change
  keeps_may_stand = record {
    ordered = keeps.ordered;
    followed = λ inside last.
        let (i, has) = last_there operators change.start at keeps.old keeps.ordered inside keeps.stands in
        behind_instruction operators at i has last;
    within = keeps.within;
    unasked = ap (none_of asks_beyond) replaced_is ∙ code_unasked keeps.old;
    unasking = λ word. ap (none_of asks_beyond) (pieces_alone operators (change.pieces word) (keeps.keep word)) ∙ code_unasked (code word);
    does = λ word inside none. does_so word inside;
  }

-- ---- the whole body

pub changed_bodies_do_as_before : SplicedOperatorsAre → SplicesKeepOperators → SplicesKeepStructure → ReadCodeHasNoHandlers → ChangedBodiesDoAsBefore
changed_bodies_do_as_before again_is kept structure handled context input operators at change word old new body inside may spliced =
    let range : change.start ≤ at + 1 = let l = may.ordered in omega arith in
    let none = handled body.from (slice_range input body.from body.to) operators body.spells.all in
    let is : changed operators at change word ≡ without_offsets spliced.again =
    sym (again_is input operators change.start (at + 1) (change.pieces word) old new spliced) in
    record {
      spliced = spliced;
      whole = subst (DoesAsBody context change.asks (without_offsets operators)) is (may.does word inside none);
      asking = kept asks_beyond input operators change.start (at + 1) (change.pieces word) old new spliced range may.unasked (may.unasking word);
      structure = λ are keep. structure input operators change.start (at + 1) (change.pieces word) old new spliced range are keep;
    }
