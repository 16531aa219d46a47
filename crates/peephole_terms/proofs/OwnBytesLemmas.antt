-- The bytes of each operator of a body are its spelling.
use Rattle.std.proofs.Common.{◌≡◌, ℕ, ◌+◌, ◌-◌, List, [], ◌∷◌, ◌++◌, length, take, drop, IsTrue, refl, sym, ap, ap₂, subst, ◌∙◌}
use Rattle.std.proofs.Common.{append_assoc, append-nil, arith}
use Rattle.std.specs.Prelude.{slice_range}
use Rattle.std.proofs.lemmas.List.{drop-drop, drop_at, take_at, take-append-drop}
use Rattle.wasm_code.specs.Body.{AreSpelled, SpellsAll, bytes_of, with_offsets}
use Rattle.wasm_code.specs.declared.operator.Operator.{Operator}
use Rattle.peephole_terms.specs.Written.{without_offsets}
use Rattle.peephole_terms.specs.OwnBytes.{own_bytes, OwnBytesStay}
use Rattle.peephole_terms.proofs.SpellingLemmas.{Spelling, spelled, spellings_of, all_joined, named_placed, ends_with, ends_named, end_spelling, StandsIn}

-- bytes that begin there
begin_there : (input front back : List ℕ) (from to : ℕ) → drop from input ≡ front ++ back → to ≡ from + length front → slice_range input from to ≡ front
begin_there input front back from to there at =
    let size : to - from ≡ length front = omega (arith, at) in
    ap₂ (λ (k : ℕ) (xs : List ℕ). take k xs) size there ∙ take_at front back (length front) refl

-- those behind them
behind_there : (input front back : List ℕ) (from : ℕ) → drop from input ≡ front ++ back → drop (from + length front) input ≡ back
behind_there input front back from there =
    sym (drop-drop (length front) from input) ∙ (ap (drop (length front)) there ∙ drop_at front back (length front) refl)

own_there : (input rest : List ℕ) (from : ℕ) (ps : List Spelling) → AreSpelled ps → IsTrue (ends_with (spelled ps)) →
    drop from input ≡ bytes_of ps ++ rest → own_bytes input (with_offsets from ps) ≡ ps
own_there input rest from [] each last there = absurd (let none : IsTrue (ends_with []) = last in cc)
own_there input rest from (p ∷ []) each last there =
    let one = end_spelling p.0 p.1 last each.0 in
    let begins : drop from input ≡ p.1 ++ rest = there ∙ ap (λ (xs : List ℕ). xs ++ rest) (append-nil p.1) in
    ap (λ (xs : List ℕ). (p.0, xs) ∷ []) (begin_there input p.1 rest from (from + 1) begins (omega (arith, one)))
own_there input rest from (p ∷ q ∷ ps) each last there =
    let later = bytes_of (q ∷ ps) in
    let begins : drop from input ≡ p.1 ++ (later ++ rest) = there ∙ append_assoc p.1 later rest in
    ap₂ (λ (xs : List ℕ) (qs : List Spelling). (p.0, xs) ∷ qs) (begin_there input p.1 (later ++ rest) from (from + length p.1) begins refl)
    (own_there input rest (from + length p.1) (q ∷ ps) each.1 last (behind_there input p.1 (later ++ rest) from begins))

pub own_are : (input : List ℕ) (from to : ℕ) (ps : List Spelling) → AreSpelled ps → IsTrue (ends_with (spelled ps)) → StandsIn input from to ps →
    own_bytes input (with_offsets from ps) ≡ ps
own_are input from to ps each last stands =
    own_there input (drop (to - from) (drop from input)) from ps each last
    (sym (take-append-drop (to - from) (drop from input)) ∙ ap (λ (xs : List ℕ). xs ++ drop (to - from) (drop from input)) stands.whole)

-- what is the law of bytes that spell one list of operators
abbrev pub OneList : Type 0
OneList = (xs ys : List (Operator × ℕ)) (start : ℕ) (text : List ℕ) → SpellsAll xs start text → SpellsAll ys start text → xs ≡ ys

pub own_stay : OneList → OwnBytesStay
own_stay one input other text back behind from to operators there here elsewhere s t =
    let h = spellings_of operators from text s.all in
    let ps = h.spellings in
    let last : IsTrue (ends_with (spelled ps)) =
    sym (ends_named operators ∙ ap ends_with (ap without_offsets (sym h.read) ∙ named_placed from ps)) ∙ s.last in
    let same : with_offsets to ps ≡ there =
    one (with_offsets to ps) there to text (subst (SpellsAll (with_offsets to ps) to) h.whole (all_joined to ps h.each)) t.all in
    let first : own_bytes input operators ≡ ps =
    ap (own_bytes input) (sym h.read) ∙ own_there input back from ps h.each last (here ∙ ap (λ (xs : List ℕ). xs ++ back) (sym h.whole)) in
    let second : own_bytes other there ≡ ps =
    ap (own_bytes other) (sym same) ∙ own_there other behind to ps h.each last (elsewhere ∙ ap (λ (xs : List ℕ). xs ++ behind) (sym h.whole)) in
    first ∙ sym second
