-- A body with pieces in the place of operators is read again.
use Rattle.std.proofs.Common.{◌≡◌, ℕ, ◌<◌, List, [], ◌++◌, length, take, drop, IsTrue, refl, sym, ap, subst, ◌∙◌, append_assoc, append-nil, arith}
use Rattle.std.proofs.lemmas.List.{length-drop, take-append-drop}
use Rattle.wasm_code.specs.Body.{AreSpelled, bytes_of, with_offsets, SpellsAll}
use Rattle.wasm_code.specs.declared.operator.Operator.{Operator}
use Rattle.body_splices.specs.declared.piece.Piece.{Piece}
use Rattle.body_splices.specs.OwnBytes.{own_bytes, IsBodyIn}
use Rattle.body_splices.specs.Putting.{PutsSpliced}
use Rattle.body_splices.specs.Splice.{pieces_bytes, IsRangeIn, AppendsSpliced}
use Rattle.body_splices.proofs.SpellingLemmas.{Spelling, all_joined, spelled_append, spelled_take, spelled_drop, bytes_of-append}
use Rattle.body_splices.proofs.SpellingLemmas.{ends_with, ends_placed, ends_behind}
use Rattle.body_splices.proofs.BodyLemmas.{own_there, is_spelled, count_is}
use Rattle.body_splices.proofs.PieceLemmas.{CodesSpell, LabelsSpell, pieces_spelled}

-- the last operator stays
last_kept : (own middle : List Spelling) (start end : ℕ) → end < length own → ends_with (take start own ++ (middle ++ drop end own)) ≡ ends_with own
last_kept own middle start end l =
    let front = take start own in
    let back = drop end own in
    let some : 0 < length back = omega (arith, length-drop end own) in
    ap ends_with (sym (append_assoc front middle back)) ∙ (ends_behind (front ++ middle) back some
    ∙ sym (ap ends_with (sym (take-append-drop end own)) ∙ ends_behind (take end own) back some))

pub appends_spliced : CodesSpell → LabelsSpell →
    (input : List ℕ) (operators : List (Operator × ℕ)) (start end : ℕ) (pieces : List Piece) (old new : List ℕ) →
    IsBodyIn input operators → IsRangeIn operators start end → PutsSpliced (own_bytes input operators) start end pieces old new →
    AppendsSpliced input operators start end pieces old new
appends_spliced spell labels input operators start end pieces old new body range put =
    let own = own_bytes input operators in
    let middle = pieces_bytes own pieces in
    let is = is_spelled input operators body in
    let inside : end < length own = let n = count_is body in let l = range.inside in omega arith in
    let ps = take start own ++ (middle ++ drop end own) in
    let text = bytes_of (take start own) ++ (bytes_of middle ++ bytes_of (drop end own)) in
    let joined : bytes_of ps ≡ text =
    bytes_of-append (take start own) (middle ++ drop end own)
    ∙ ap (λ (t : List ℕ). bytes_of (take start own) ++ t) (bytes_of-append middle (drop end own)) in
    let each : AreSpelled ps =
    spelled_append (take start own) (middle ++ drop end own) (spelled_take start own is.each)
    (spelled_append middle (drop end own) (pieces_spelled spell labels own is.each pieces put.coded) (spelled_drop end own is.each)) in
    let last : IsTrue (ends_with ps) = last_kept own middle start end inside ∙ is.last in
    record {
      text = text;
      appended = put.grown;
      text_is = refl;
      again = with_offsets 0 ps;
      spells = record {
        all = subst (SpellsAll (with_offsets 0 ps) 0) joined (all_joined 0 ps each);
        last = ends_placed 0 ps ∙ last;
      };
      bytes_are = own_there text [] 0 ps each last (sym joined ∙ sym (append-nil (bytes_of ps)));
    }
