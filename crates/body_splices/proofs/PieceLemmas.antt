-- The operators of pieces, as they are written.
use Rattle.std.proofs.Common.{◌≡◌, ℕ, ◌+◌, ◌-◌, ◌^◌, ◌<◌, List, [], ◌∷◌, ◌++◌, length, take, drop, get_or, refl, sym, ap, subst, ◌∙◌}
use Rattle.std.proofs.Common.{◌≤◌, Result, Ok, Err, append_assoc, append-nil}
use Rattle.std.specs.Prelude.{OnErr, ◌==◌}
use Rattle.std.specs.List.{All}
use Rattle.std.proofs.lemmas.List.{take_more, take_all}
use Rattle.std.proofs.lemmas.List.Elements.{All-nil, All-more, All-head, All-tail}
use Rattle.wasm_code.specs.Body.{AreSpelled, bytes_of}
use Rattle.wasm_code.specs.Code.{code, shortest}
use Rattle.wasm_code.specs.Grammar.{Choose, Of, NoBytes}
use Rattle.wasm_code.specs.Instruction.{Instruction, IsInstruction}
use Rattle.wasm_code.specs.Number.{SpellsUnsigned}
use Rattle.wasm_code.specs.Operator.{SpellsOpcode, SpellsBehind, Spells, SpellsAny}
use Rattle.wasm_code.specs.Immediate.{val_type_code}
use Rattle.wasm_code.specs.declared.table.Opcode.TheVariants.{Byte, Fc, Fd}
use Rattle.wasm_code.specs.declared.immediate.BlockType.TheVariants.{Empty, Value}
use Rattle.wasm_code.specs.declared.operator.Operator.{Operator}
use Rattle.body_splices.specs.Control.{control_operator, control_bytes, LabelInRange}
use Rattle.body_splices.specs.declared.control.Control.{Control}
use Rattle.body_splices.specs.declared.control.Control.TheVariants as control
use Rattle.wasm_code.specs.declared.operator.Operator.TheVariants as op
use Rattle.body_splices.specs.declared.piece.Piece.{Piece}
use Rattle.body_splices.specs.declared.piece.Piece.TheVariants.{Kept, New, Structural}
use Rattle.body_splices.specs.Splice.{piece_bytes, pieces_bytes}
use Rattle.body_splices.specs.Putting.{IsCoded, PutsPiece, PutsPieces}
use Rattle.body_splices.proofs.SpellingLemmas.{Spelling, spelled_append, spelled_take, spelled_drop, bytes_of-append}

-- ---- their spellings

-- the code of every instruction spells it, as the law `code_spells` says
abbrev pub CodesSpell : Type 0
CodesSpell = (i : Instruction) → IsInstruction i → Spells (code i) (op.Instr i)

-- the shortest spelling of every label spells it, as the law `shortest_is_a_spelling` says
abbrev pub LabelsSpell : Type 0
LabelsSpell = (label : ℕ) → label < 2 ^ 8 → SpellsUnsigned 32 (shortest label) label

-- the byte is an opcode with nothing behind it
abbrev IsOpcode : ℕ → Type 0
IsOpcode b =
    Choose (b == 0xfc) (Of (λ n. Fc n) (SpellsUnsigned 32)) (Choose (b == 0xfd) (Of (λ n. Fd n) (SpellsUnsigned 32)) (NoBytes (Byte b))) [] (Byte b)

-- an opcode of one byte, and what is behind it
whole : (b : ℕ) (back : List ℕ) (o : Operator) → IsOpcode b → SpellsBehind (Byte b) back o → Spells (b ∷ back) o
whole b back o opcode behind =
    let first : SpellsOpcode (b ∷ []) (Byte b) = record { value = b; front = b ∷ []; back = []; parts = refl; first = refl; second = opcode } in
    record { value = Byte b; front = b ∷ []; back = back; parts = refl; first = first; second = behind }

-- the bytes of a structural operator spell it
control_spelled : LabelsSpell → (c : Control) → LabelInRange c → Spells (control_bytes c) (control_operator c)
control_spelled spell (control.Block t) fits = whole 0x02 (val_type_code t ∷ []) (op.Block (Value t)) (refl, refl) (refl, refl)
control_spelled spell (control.Loop t) fits = whole 0x03 (val_type_code t ∷ []) (op.Loop (Value t)) (refl, refl) (refl, refl)
control_spelled spell (control.If t) fits = whole 0x04 (val_type_code t ∷ []) (op.If (Value t)) (refl, refl) (refl, refl)
control_spelled spell control.BareIf fits = whole 0x04 (0x40 ∷ []) (op.If Empty) (refl, refl) (refl, refl)
control_spelled spell control.Else fits = whole 0x05 [] op.Else (refl, refl) (refl, refl)
control_spelled spell control.End fits = whole 0x0b [] op.End (refl, refl) (refl, refl)
control_spelled spell (control.Branch label) fits = whole 0x0c (shortest label) (op.Br label) (refl, refl) (refl, spell label fits)
control_spelled spell (control.BranchIf label) fits = whole 0x0d (shortest label) (op.BrIf label) (refl, refl) (refl, spell label fits)
control_spelled spell control.Unreachable fits = whole 0x00 [] op.Unreachable (refl, refl) (refl, refl)

-- of an operator that is known, any spelling is one of these
control_any : LabelsSpell → (c : Control) → LabelInRange c → SpellsAny (control_bytes c) (control_operator c)
control_any spell (control.Block t) fits = control_spelled spell (control.Block t) fits
control_any spell (control.Loop t) fits = control_spelled spell (control.Loop t) fits
control_any spell (control.If t) fits = control_spelled spell (control.If t) fits
control_any spell control.BareIf fits = control_spelled spell control.BareIf fits
control_any spell control.Else fits = control_spelled spell control.Else fits
control_any spell control.End fits = control_spelled spell control.End fits
control_any spell (control.Branch label) fits = control_spelled spell (control.Branch label) fits
control_any spell (control.BranchIf label) fits = control_spelled spell (control.BranchIf label) fits
control_any spell control.Unreachable fits = control_spelled spell control.Unreachable fits

piece_spelled : CodesSpell → LabelsSpell → (own : List Spelling) → AreSpelled own → (piece : Piece) → IsCoded piece →
    AreSpelled (piece_bytes own piece)
piece_spelled spell labels own each (Kept start end) coded = spelled_take (end - start) (drop start own) (spelled_drop start own each)
piece_spelled spell labels own each (New i) coded = (spell i coded, tt)
piece_spelled spell labels own each (Structural c) coded = (control_any labels c coded, tt)

pub pieces_spelled : CodesSpell → LabelsSpell → (own : List Spelling) → AreSpelled own → (pieces : List Piece) → All IsCoded pieces →
    AreSpelled (pieces_bytes own pieces)
pieces_spelled spell labels own each [] coded = tt
pieces_spelled spell labels own each (p ∷ ps) coded =
    spelled_append (piece_bytes own p) (pieces_bytes own ps) (piece_spelled spell labels own each p (All-head IsCoded p ps coded))
    (pieces_spelled spell labels own each ps (All-tail IsCoded p ps coded))

-- ---- piece by piece

pieces_more : (own : List Spelling) (ps : List Piece) (p : Piece) → pieces_bytes own (ps ++ p ∷ []) ≡ pieces_bytes own ps ++ piece_bytes own p
pieces_more own [] p = append-nil (piece_bytes own p)
pieces_more own (q ∷ ps) p =
    ap (λ (qs : List Spelling). piece_bytes own q ++ qs) (pieces_more own ps p)
    ∙ sym (append_assoc (piece_bytes own q) (pieces_bytes own ps) (piece_bytes own p))

pub none_put : (own : List Spelling) (pieces : List Piece) (old : List ℕ) → PutsPieces own (take 0 pieces) old old
none_put own pieces old = record { coded = All-nil IsCoded; grown = sym (append-nil old) }

pub one_more : (own : List Spelling) (pieces : List Piece) (k : ℕ) (piece : Piece) (old mid new : List ℕ) → k < length pieces →
    piece ≡ get_or pieces k piece → PutsPieces own (take k pieces) old mid → PutsPiece own piece mid new → PutsPieces own (take (k + 1) pieces) old new
one_more own pieces k piece old mid new l is h p =
    let before = take k pieces in
    let more : take (k + 1) pieces ≡ before ++ piece ∷ [] = take_more pieces k piece l ∙ ap (λ (x : Piece). before ++ x ∷ []) (sym is) in
    let bytes : bytes_of (pieces_bytes own (take (k + 1) pieces)) ≡ bytes_of (pieces_bytes own before) ++ bytes_of (piece_bytes own piece) =
    ap (λ (ps : List Piece). bytes_of (pieces_bytes own ps)) more
    ∙ (ap bytes_of (pieces_more own before piece) ∙ bytes_of-append (pieces_bytes own before) (piece_bytes own piece)) in
    record {
      coded = All-more IsCoded pieces k piece l h.coded (subst IsCoded is p.coded);
      grown = p.grown ∙ (ap (λ (t : List ℕ). t ++ bytes_of (piece_bytes own piece)) h.grown
          ∙ (append_assoc old (bytes_of (pieces_bytes own before)) (bytes_of (piece_bytes own piece)) ∙ ap (λ (t : List ℕ). old ++ t) (sym bytes)));
    }

pub all_put : (own : List Spelling) (pieces : List Piece) (k : ℕ) (old new : List ℕ) → length pieces ≤ k → PutsPieces own (take k pieces) old new →
    PutsPieces own pieces old new
all_put own pieces k old new l h = subst (λ (ps : List Piece). PutsPieces own ps old new) (take_all k pieces l) h

pub on_error : {A E : Type 0} {P : Type 0} (r : Result A E) → P → OnErr r P
on_error (Ok x) p = tt
on_error (Err e) p = p
