-- Operators with their spellings: their bytes, and where each begins.
use Rattle.std.proofs.Common.{◌≡◌, ℕ, zero, suc, ◌+◌, ◌-◌, ◌<◌, List, [], ◌∷◌, ◌++◌, length, take, drop, map, Bool, true, false, refl, sym, ap, ap₂, ◌∙◌}
use Rattle.std.proofs.Common.{append_assoc, arith, IsTrue}
use Rattle.std.specs.Prelude.{slice_index, ◌==◌}
use Rattle.std.proofs.lemmas.List.{length-append, take-append-drop}
use Rattle.wasm_code.specs.declared.table.Opcode.{Opcode}
use Rattle.wasm_code.specs.declared.table.Opcode.TheVariants.{Byte, Fc, Fd}
use Rattle.wasm_code.specs.Grammar.{Choose, Of, NoBytes}
use Rattle.wasm_code.specs.Number.{SpellsUnsigned}
use Rattle.wasm_code.specs.Operator.{SpellsAny}
use Rattle.wasm_code.specs.Body.{SpellsAll, AreSpelled, bytes_of, with_offsets, is_end, ends}
use Rattle.wasm_code.specs.declared.operator.Operator.{Operator}
use Rattle.wasm_code.specs.declared.operator.Operator.TheVariants as op

-- an operator with its spelling
abbrev pub Spelling : Type 0
Spelling = Operator × List ℕ

-- Spellings whose joined bytes are read as these operators.
pub record AreSpellings (xs : List (Operator × ℕ)) (start : ℕ) (text : List ℕ) : Type 0 where
  pub spellings : List (Operator × List ℕ)
  pub each : AreSpelled spellings
  pub whole : bytes_of spellings ≡ text
  pub read : with_offsets start spellings ≡ xs

pub spellings_of : (xs : List (Operator × ℕ)) (start : ℕ) (text : List ℕ) → SpellsAll xs start text → AreSpellings xs start text
spellings_of [] start text s = record { spellings = []; each = tt; whole = sym s; read = refl }
spellings_of (x ∷ xs) start text s =
    let more = spellings_of xs (start + length s.front) s.back s.rest in
    let here : ◌≡◌ {A = Operator × ℕ} (x.0, start) x = ap (λ (n : ℕ). (x.0, n)) (sym s.offset) in
    record {
      spellings = (x.0, s.front) ∷ more.spellings;
      each = (s.spells, more.each);
      whole = ap (λ (t : List ℕ). s.front ++ t) more.whole ∙ sym s.parts;
      read = ap₂ (λ (y : Operator × ℕ) (ys : List (Operator × ℕ)). y ∷ ys) here more.read;
    }

-- joined spellings are read as their operators
pub all_joined : (start : ℕ) (ps : List Spelling) → AreSpelled ps → SpellsAll (with_offsets start ps) start (bytes_of ps)
all_joined start [] s = refl
all_joined start (p ∷ ps) s =
    record { front = p.1; back = bytes_of ps; parts = refl; offset = refl; spells = s.0; rest = all_joined (start + length p.1) ps s.1 }

-- ---- parts of such a list

pub spelled_append : (ps qs : List Spelling) → AreSpelled ps → AreSpelled qs → AreSpelled (ps ++ qs)
spelled_append [] qs a b = b
spelled_append (p ∷ ps) qs a b = (a.0, spelled_append ps qs a.1 b)

pub spelled_take : (n : ℕ) (ps : List Spelling) → AreSpelled ps → AreSpelled (take n ps)
spelled_take zero ps a = tt
spelled_take (suc n) [] a = tt
spelled_take (suc n) (p ∷ ps) a = (a.0, spelled_take n ps a.1)

pub spelled_drop : (n : ℕ) (ps : List Spelling) → AreSpelled ps → AreSpelled (drop n ps)
spelled_drop zero ps a = a
spelled_drop (suc n) [] a = tt
spelled_drop (suc n) (p ∷ ps) a = spelled_drop n ps a.1

pub bytes_of-append : (ps qs : List Spelling) → bytes_of (ps ++ qs) ≡ bytes_of ps ++ bytes_of qs
bytes_of-append [] qs = refl
bytes_of-append (p ∷ ps) qs = ap (λ (t : List ℕ). p.1 ++ t) (bytes_of-append ps qs) ∙ sym (append_assoc p.1 (bytes_of ps) (bytes_of qs))

pub joined_parts : (n : ℕ) (ps : List Spelling) → bytes_of ps ≡ bytes_of (take n ps) ++ bytes_of (drop n ps)
joined_parts n ps = ap bytes_of (sym (take-append-drop n ps)) ∙ bytes_of-append (take n ps) (drop n ps)

pub length-with_offsets : (start : ℕ) (ps : List Spelling) → length (with_offsets start ps) ≡ length ps
length-with_offsets start [] = refl
length-with_offsets start (p ∷ ps) = ap suc (length-with_offsets (start + length p.1) ps)

-- an operator starts behind the bytes of those before it
pub offset_placed : (start : ℕ) (ps : List Spelling) (i : ℕ) → i < length ps →
    slice_index (map (λ (o : Operator × ℕ). o.1) (with_offsets start ps)) i ≡ start + length (bytes_of (take i ps))
offset_placed start [] i l = absurd (omega arith)
offset_placed start (p ∷ ps) zero l = omega arith
offset_placed start (p ∷ ps) (suc i) l =
    let more = offset_placed (start + length p.1) ps i (omega arith) in
    omega (arith, more, length-append p.1 (bytes_of (take i ps)))

-- ---- the last operator

abbrev pub ends_with : List Spelling → Bool
ends_with [] = false
ends_with (p ∷ []) = is_end p.0
ends_with (p ∷ q ∷ ps) = ends_with (q ∷ ps)

pub ends_placed : (start : ℕ) (ps : List Spelling) → ends (with_offsets start ps) ≡ ends_with ps
ends_placed start [] = refl
ends_placed start (p ∷ []) = refl
ends_placed start (p ∷ q ∷ ps) = ends_placed (start + length p.1) (q ∷ ps)

-- what stands before the last operator doesn't count
pub ends_behind : (ps qs : List Spelling) → 0 < length qs → ends_with (ps ++ qs) ≡ ends_with qs
ends_behind [] qs l = refl
ends_behind (p ∷ []) [] l = absurd (omega arith)
ends_behind (p ∷ []) (q ∷ qs) l = refl
ends_behind (p ∷ o ∷ ps) qs l = ends_behind (o ∷ ps) qs l

-- an opcode of one byte has no bytes behind it
no_more : (v w : Bool) (b c : ℕ) (back : List ℕ) (o : Opcode) →
    Choose v (Of (λ n. Fc n) (SpellsUnsigned 32)) (Choose w (Of (λ n. Fd n) (SpellsUnsigned 32)) (NoBytes (Byte b))) back o → o ≡ Byte c → back ≡ []
no_more true w b c back o s e = let m = s.made in absurd cc
no_more false true b c back o s e = let m = s.made in absurd cc
no_more false false b c back o s e = s.0

-- `end` is spelled by one byte
pub end_spelling : (o : Operator) (text : List ℕ) → IsTrue (is_end o) → SpellsAny text o → length text ≡ 1
end_spelling op.End text e s =
    let behind = s.second in
    let more : s.first.back ≡ [] = no_more (s.first.value == 0xfc) (s.first.value == 0xfd) s.first.value 0x0b s.first.back s.value s.first.second behind.0 in
    let first : s.first.front ≡ s.first.value ∷ [] = s.first.first in
    let front : s.front ≡ s.first.value ∷ [] = s.first.parts ∙ ap₂ (λ (x y : List ℕ). x ++ y) first more in
    ap (λ (t : List ℕ). length t) (s.parts ∙ ap₂ (λ (x y : List ℕ). x ++ y) front behind.1)
end_spelling _ text e s = absurd cc

-- so the last operator begins one byte before the end
pub last_size : (ps : List Spelling) → AreSpelled ps → IsTrue (ends_with ps) → length (bytes_of (take (length ps - 1) ps)) + 1 ≡ length (bytes_of ps)
last_size [] a e = absurd cc
last_size (p ∷ []) a e =
    let one = end_spelling p.0 p.1 e a.0 in
    omega (arith, one, length-append p.1 [])
last_size (p ∷ q ∷ ps) a e =
    let more = last_size (q ∷ ps) a.1 e in
    let at : length (p ∷ q ∷ ps) - 1 ≡ suc (length (q ∷ ps) - 1) = omega arith in
    let front : length (bytes_of (take (length (p ∷ q ∷ ps) - 1) (p ∷ q ∷ ps))) ≡ length (p.1 ++ bytes_of (take (length (q ∷ ps) - 1) (q ∷ ps))) =
    ap (λ (k : ℕ). length (bytes_of (take k (p ∷ q ∷ ps)))) at in
    omega (arith, more, front, length-append p.1 (bytes_of (take (length (q ∷ ps) - 1) (q ∷ ps))), length-append p.1 (bytes_of (q ∷ ps)))
