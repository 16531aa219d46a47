-- The laws of bodies with pieces in the place of operators.
use Rattle.std.proofs.Common.{◌≡◌, ℕ, ◌-◌, ◌&&◌, not, Bool, true, false, List, [], ◌∷◌, ◌++◌, take, drop, map, IsTrue, refl, sym, ap, ap₂, subst, ◌∙◌}
use Rattle.std.proofs.Common.{append_assoc}
use Rattle.std.specs.Prelude.{slice_range}
use Rattle.std.specs.List.{All}
use Rattle.std.proofs.lemmas.List.{map-append, take-map, drop-map, take-append-drop}
use Rattle.std.proofs.lemmas.List.Elements.{All-head, All-tail}
use Rattle.wasm_code.specs.Body.{SpellsAll, with_offsets, ends}
use Rattle.wasm_code.specs.Instruction.{Instruction}
use Rattle.wasm_code.specs.declared.operator.Operator.{Operator}
use Rattle.wasm_code.specs.declared.operator.Operator.TheVariants.{Instr}
use Rattle.body_splices.specs.declared.piece.Piece.{Piece}
use Rattle.body_splices.specs.declared.piece.Piece.TheVariants.{Kept, New, Structural}
use Rattle.body_splices.specs.OwnBytes.{own_bytes, and_where, is_structural, bytes_where, none_of, without_offsets}
use Rattle.body_splices.specs.Splice.{piece_bytes, pieces_bytes}
use Rattle.body_splices.specs.Laws.{OwnBytesStay, piece_operators, pieces_operators, SplicedOperatorsAre}
use Rattle.body_splices.specs.Laws.{KeepsInstructions, SplicesKeepOperators, SplicesKeepStructure}
use Rattle.body_splices.proofs.SpellingLemmas.{Spelling, spellings_of, all_joined, ends_with, ends_placed}
use Rattle.body_splices.proofs.BodyLemmas.{own_there, range_behind}

-- ---- a body in two places

-- what is the law of bytes that spell one list of operators
abbrev OneList : Type 0
OneList = (xs ys : List (Operator × ℕ)) (start : ℕ) (text : List ℕ) → SpellsAll xs start text → SpellsAll ys start text → xs ≡ ys

pub own_stay : OneList → OwnBytesStay
own_stay one input other text back behind from to operators there here elsewhere s t =
    let h = spellings_of operators from text s.all in
    let ps = h.spellings in
    let last : IsTrue (ends_with ps) = sym (ap ends (sym h.read) ∙ ends_placed from ps) ∙ s.last in
    let same : with_offsets to ps ≡ there =
    one (with_offsets to ps) there to text (subst (SpellsAll (with_offsets to ps) to) h.whole (all_joined to ps h.each)) t.all in
    let first : own_bytes input operators ≡ ps =
    ap (own_bytes input) (sym h.read) ∙ own_there input back from ps h.each last (here ∙ ap (λ (xs : List ℕ). xs ++ back) (sym h.whole)) in
    let second : own_bytes other there ≡ ps =
    ap (own_bytes other) (sym same) ∙ own_there other behind to ps h.each last (elsewhere ∙ ap (λ (xs : List ℕ). xs ++ behind) (sym h.whole)) in
    first ∙ sym second

-- ---- the operators

abbrev names : List Spelling → List Operator
names ps = map (λ (p : Spelling). p.0) ps

names_own : (input : List ℕ) (operators : List (Operator × ℕ)) → names (own_bytes input operators) ≡ without_offsets operators
names_own input [] = refl
names_own input (o ∷ []) = refl
names_own input (o ∷ p ∷ operators) = ap (λ (os : List Operator). o.0 ∷ os) (names_own input (p ∷ operators))

names_range : (ps : List Spelling) (start end : ℕ) → names (slice_range ps start end) ≡ slice_range (names ps) start end
names_range ps start end =
    sym (take-map (λ (p : Spelling). p.0) (end - start) (drop start ps)) ∙ ap (take (end - start)) (sym (drop-map (λ (p : Spelling). p.0) start ps))

names_piece : (own : List Spelling) (piece : Piece) → names (piece_bytes own piece) ≡ piece_operators (names own) piece
names_piece own (Kept start end) = names_range own start end
names_piece own (New i) = refl
names_piece own (Structural c) = refl

names_pieces : (own : List Spelling) (pieces : List Piece) → names (pieces_bytes own pieces) ≡ pieces_operators (names own) pieces
names_pieces own [] = refl
names_pieces own (p ∷ ps) =
    map-append (λ (p : Spelling). p.0) (piece_bytes own p) (pieces_bytes own ps)
    ∙ ap₂ (λ (xs ys : List Operator). xs ++ ys) (names_piece own p) (names_pieces own ps)

pub operators_are : SplicedOperatorsAre
operators_are input operators start end pieces old new spliced =
    let own = own_bytes input operators in
    let name : Spelling → Operator = λ p. p.0 in
    let front = take start own in
    let middle = pieces_bytes own pieces in
    let back = drop end own in
    let parts : names (front ++ (middle ++ back)) ≡ take start (names own) ++ (pieces_operators (names own) pieces ++ drop end (names own)) =
    map-append name front (middle ++ back)
    ∙ ap₂ (λ (xs ys : List Operator). xs ++ ys) (sym (take-map name start own))
    (map-append name middle back ∙ ap₂ (λ (xs ys : List Operator). xs ++ ys) (names_pieces own pieces) (sym (drop-map name end own))) in
    sym (names_own spliced.text spliced.again)
    ∙ (ap names spliced.bytes_are ∙ (parts
    ∙ ap (λ (os : List Operator). take start os ++ (pieces_operators os pieces ++ drop end os)) (names_own input operators)))

-- ---- what stays

where-append : (holds : Operator → Bool) (ps qs : List Spelling) → bytes_where holds (ps ++ qs) ≡ bytes_where holds ps ++ bytes_where holds qs
where-append holds [] qs = refl
where-append holds (p ∷ ps) qs =
    ap (and_where (holds p.0) p) (where-append holds ps qs) ∙ go (holds p.0) (bytes_where holds ps) (bytes_where holds qs)
  where
    go : (b : Bool) (xs ys : List Spelling) → and_where b p (xs ++ ys) ≡ and_where b p xs ++ ys
    go true xs ys = refl
    go false xs ys = refl

none_there : (holds : Operator → Bool) (ps : List Spelling) → none_of holds (names ps) ≡ true → bytes_where holds ps ≡ []
none_there holds [] e = refl
none_there holds (p ∷ ps) e = go (holds p.0) (bytes_where holds ps) (none_there holds ps) e
  where
    go : (b : Bool) (rest : List Spelling) → (none_of holds (names ps) ≡ true → rest ≡ []) → (not b && none_of holds (names ps)) ≡ true →
        and_where b p rest ≡ []
    go true rest h e = absurd cc
    go false rest h e = h e

-- what has none may stand in the middle
where_around : (holds : Operator → Bool) (front middle back : List Spelling) → none_of holds (names middle) ≡ true →
    bytes_where holds (front ++ (middle ++ back)) ≡ bytes_where holds front ++ bytes_where holds back
where_around holds front middle back none =
    where-append holds front (middle ++ back)
    ∙ ap (λ (xs : List Spelling). bytes_where holds front ++ xs)
    (where-append holds middle back ∙ ap (λ (xs : List Spelling). xs ++ bytes_where holds back) (none_there holds middle none))

pub operators_kept : SplicesKeepOperators
operators_kept holds input operators start end pieces old new spliced l range kept =
    let own = own_bytes input operators in
    let front = take start own in
    let back = drop end own in
    let part = slice_range own start end in
    let whole : own ≡ front ++ (part ++ back) =
    sym (take-append-drop end own) ∙ (ap (λ (ps : List Spelling). ps ++ back) (range_behind own start end l) ∙ append_assoc front part back) in
    let named : names part ≡ slice_range (without_offsets operators) start end =
    names_range own start end ∙ ap (λ (os : List Operator). slice_range os start end) (names_own input operators) in
    let written : names (pieces_bytes own pieces) ≡ pieces_operators (without_offsets operators) pieces =
    names_pieces own pieces ∙ ap (λ (os : List Operator). pieces_operators os pieces) (names_own input operators) in
    ap (bytes_where holds) spliced.bytes_are
    ∙ (where_around holds front (pieces_bytes own pieces) back (ap (none_of holds) written ∙ kept)
    ∙ sym (ap (bytes_where holds) whole ∙ where_around holds front part back (ap (none_of holds) named ∙ range)))

-- ---- the structure

-- instructions are no structural operators
none_structural : (is : List Instruction) (os : List Operator) → none_of is_structural (map (λ (i : Instruction). Instr i) is ++ os) ≡ none_of is_structural os
none_structural [] os = refl
none_structural (i ∷ is) os = none_structural is os

none_alone : (is : List Instruction) → none_of is_structural (map (λ (i : Instruction). Instr i) is) ≡ true
none_alone [] = refl
none_alone (i ∷ is) = none_alone is

range_is : (operators : List (Operator × ℕ)) (start end : ℕ) →
    slice_range (without_offsets operators) start end ≡ without_offsets (slice_range operators start end)
range_is operators start end =
    let first : Operator × ℕ → Operator = λ o. o.0 in
    ap (take (end - start)) (drop-map first start operators) ∙ take-map first (end - start) (drop start operators)

piece_none : (operators : List (Operator × ℕ)) (piece : Piece) (os : List Operator) → KeepsInstructions operators piece →
    none_of is_structural (piece_operators (without_offsets operators) piece ++ os) ≡ none_of is_structural os
piece_none operators (Kept start end) os h =
    ap (λ (l : List Operator). none_of is_structural (l ++ os)) (range_is operators start end ∙ h.stand) ∙ none_structural h.instructions os
piece_none operators (New i) os h = refl
piece_none operators (Structural c) os h = absurd h

pieces_none : (operators : List (Operator × ℕ)) (pieces : List Piece) → All (KeepsInstructions operators) pieces →
    none_of is_structural (pieces_operators (without_offsets operators) pieces) ≡ true
pieces_none operators [] h = refl
pieces_none operators (p ∷ ps) h =
    piece_none operators p (pieces_operators (without_offsets operators) ps) (All-head (KeepsInstructions operators) p ps h)
    ∙ pieces_none operators ps (All-tail (KeepsInstructions operators) p ps h)

pub structure_kept : SplicesKeepStructure
structure_kept input operators start end pieces old new spliced l range kept =
    operators_kept is_structural input operators start end pieces old new spliced l
    (ap (none_of is_structural) (range_is operators start end ∙ range.stand) ∙ none_alone range.instructions)
    (pieces_none operators pieces kept)
