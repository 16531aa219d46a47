-- Bodies as lists of operators with their spellings: their bytes and their operators' offsets.
use Rattle.std.proofs.Common.{◌≡◌, ℕ, zero, suc, ◌+◌, ◌-◌, ◌<◌, ◌≤◌, List, [], ◌∷◌, ◌++◌, length, take, drop, map, Bool, true, false, refl, sym, ap, ap₂, ◌∙◌}
use Rattle.std.proofs.Common.{append_assoc, arith, IsTrue}
use Rattle.std.specs.Prelude.{slice_index, slice_range, ◌==◌}
use Rattle.std.specs.List.{All}
use Rattle.std.proofs.lemmas.List.{length-append, length-take, length-drop, take-append-drop, take-take, take_at, drop-drop, drop-take, drop_at}
use Rattle.std.proofs.lemmas.List.Elements.{All-head, All-tail}
use Rattle.wasm_code.specs.Instruction.{Instruction, IsInstruction}
use Rattle.wasm_code.specs.declared.table.Opcode.{Opcode}
use Rattle.wasm_code.specs.declared.table.Opcode.TheVariants.{Byte, Fc, Fd}
use Rattle.wasm_code.specs.Grammar.{Choose, Of, NoBytes}
use Rattle.wasm_code.specs.Number.{SpellsUnsigned}
use Rattle.wasm_code.specs.Operator.{Spells, SpellsAny}
use Rattle.wasm_code.specs.Code.{code, codes}
use Rattle.wasm_code.specs.Body.{SpellsAll, AreSpelled, bytes_of, with_offsets, is_end, ends}
use Rattle.wasm_code.specs.declared.operator.Operator.{Operator}
use Rattle.wasm_code.specs.declared.operator.Operator.TheVariants as op
use Rattle.peephole_terms.specs.Spliced.{coded}
use Rattle.peephole_terms.specs.Written.{without_offsets}

-- an operator with its spelling
abbrev pub Spelling : Type 0
Spelling = Operator × List ℕ

-- the operators alone
abbrev pub spelled : List Spelling → List Operator
spelled ps = map (λ (p : Operator × List ℕ). p.0) ps

-- Spellings whose joined bytes are read as these operators.
pub record AreSpellings (xs : List (Operator × ℕ)) (start : ℕ) (text : List ℕ) : Type 0 where
  pub spellings : List (Operator × List ℕ)
  pub each : AreSpelled spellings
  pub whole : bytes_of spellings ≡ text
  pub read : with_offsets start spellings ≡ xs

pub spellings_of : (xs : List (Operator × ℕ)) (start : ℕ) (text : List ℕ) → SpellsAll xs start text → AreSpellings xs start text
spellings_of [] start text s = record { spellings = []; each = tt; whole = sym s; read = refl }
spellings_of (x ∷ xs) start text s =
    let more = spellings_of xs (start + length s.front) s.back s.rest in
    let here : ◌≡◌ {A = Operator × ℕ} (x.0, start) x = ap (λ (n : ℕ). (x.0, n)) (sym s.offset) in
    record {
      spellings = (x.0, s.front) ∷ more.spellings;
      each = (s.spells, more.each);
      whole = ap (λ (t : List ℕ). s.front ++ t) more.whole ∙ sym s.parts;
      read = ap₂ (λ (y : Operator × ℕ) (ys : List (Operator × ℕ)). y ∷ ys) here more.read;
    }

-- joined spellings are read as their operators
pub all_joined : (start : ℕ) (ps : List Spelling) → AreSpelled ps → SpellsAll (with_offsets start ps) start (bytes_of ps)
all_joined start [] s = refl
all_joined start (p ∷ ps) s =
    record { front = p.1; back = bytes_of ps; parts = refl; offset = refl; spells = s.0; rest = all_joined (start + length p.1) ps s.1 }

-- ---- parts of such a list

pub spelled_append : (ps qs : List Spelling) → AreSpelled ps → AreSpelled qs → AreSpelled (ps ++ qs)
spelled_append [] qs a b = b
spelled_append (p ∷ ps) qs a b = (a.0, spelled_append ps qs a.1 b)

pub spelled_take : (n : ℕ) (ps : List Spelling) → AreSpelled ps → AreSpelled (take n ps)
spelled_take zero ps a = tt
spelled_take (suc n) [] a = tt
spelled_take (suc n) (p ∷ ps) a = (a.0, spelled_take n ps a.1)

pub spelled_drop : (n : ℕ) (ps : List Spelling) → AreSpelled ps → AreSpelled (drop n ps)
spelled_drop zero ps a = a
spelled_drop (suc n) [] a = tt
spelled_drop (suc n) (p ∷ ps) a = spelled_drop n ps a.1

pub bytes_of-append : (ps qs : List Spelling) → bytes_of (ps ++ qs) ≡ bytes_of ps ++ bytes_of qs
bytes_of-append [] qs = refl
bytes_of-append (p ∷ ps) qs = ap (λ (t : List ℕ). p.1 ++ t) (bytes_of-append ps qs) ∙ sym (append_assoc p.1 (bytes_of ps) (bytes_of qs))

pub joined_parts : (n : ℕ) (ps : List Spelling) → bytes_of ps ≡ bytes_of (take n ps) ++ bytes_of (drop n ps)
joined_parts n ps = ap bytes_of (sym (take-append-drop n ps)) ∙ bytes_of-append (take n ps) (drop n ps)

pub named_placed : (start : ℕ) (ps : List Spelling) → without_offsets (with_offsets start ps) ≡ spelled ps
named_placed start [] = refl
named_placed start (p ∷ ps) = ap (λ (os : List Operator). p.0 ∷ os) (named_placed (start + length p.1) ps)

pub length-with_offsets : (start : ℕ) (ps : List Spelling) → length (with_offsets start ps) ≡ length ps
length-with_offsets start [] = refl
length-with_offsets start (p ∷ ps) = ap suc (length-with_offsets (start + length p.1) ps)

-- an operator starts behind the bytes of those before it
pub offset_placed : (start : ℕ) (ps : List Spelling) (i : ℕ) → i < length ps →
    slice_index (map (λ (o : Operator × ℕ). o.1) (with_offsets start ps)) i ≡ start + length (bytes_of (take i ps))
offset_placed start [] i l = absurd (omega arith)
offset_placed start (p ∷ ps) zero l = omega arith
offset_placed start (p ∷ ps) (suc i) l =
    let more = offset_placed (start + length p.1) ps i (omega arith) in
    omega (arith, more, length-append p.1 (bytes_of (take i ps)))

-- ---- instructions

-- the code of every instruction spells it, as the law `code_spells` says
abbrev pub CodesSpell : Type 0
CodesSpell = (i : Instruction) → IsInstruction i → Spells (code i) (op.Instr i)

pub coded_spelled : CodesSpell → (is : List Instruction) → All IsInstruction is → AreSpelled (coded is)
coded_spelled spell [] all = tt
coded_spelled spell (i ∷ is) all = (spell i (All-head IsInstruction i is all), coded_spelled spell is (All-tail IsInstruction i is all))

pub joined_coded : (is : List Instruction) → bytes_of (coded is) ≡ codes is
joined_coded [] = refl
joined_coded (i ∷ is) = ap (λ (t : List ℕ). code i ++ t) (joined_coded is)

pub spelled_coded : (is : List Instruction) → spelled (coded is) ≡ map (λ (i : Instruction). op.Instr i) is
spelled_coded [] = refl
spelled_coded (i ∷ is) = ap (λ (os : List Operator). op.Instr i ∷ os) (spelled_coded is)

-- ---- the last operator

abbrev pub ends_with : List Operator → Bool
ends_with [] = false
ends_with (o ∷ []) = is_end o
ends_with (o ∷ p ∷ os) = ends_with (p ∷ os)

pub ends_named : (xs : List (Operator × ℕ)) → ends xs ≡ ends_with (without_offsets xs)
ends_named [] = refl
ends_named (x ∷ []) = refl
ends_named (x ∷ y ∷ xs) = ends_named (y ∷ xs)

-- what stands before the last operator doesn't count
pub ends_behind : (os ps : List Operator) → 0 < length ps → ends_with (os ++ ps) ≡ ends_with ps
ends_behind [] ps l = refl
ends_behind (o ∷ []) [] l = absurd (omega arith)
ends_behind (o ∷ []) (p ∷ ps) l = refl
ends_behind (o ∷ q ∷ os) ps l = ends_behind (q ∷ os) ps l

-- an opcode of one byte has no bytes behind it
no_more : (v w : Bool) (b c : ℕ) (back : List ℕ) (o : Opcode) →
    Choose v (Of (λ n. Fc n) (SpellsUnsigned 32)) (Choose w (Of (λ n. Fd n) (SpellsUnsigned 32)) (NoBytes (Byte b))) back o → o ≡ Byte c → back ≡ []
no_more true w b c back o s e = let m = s.made in absurd cc
no_more false true b c back o s e = let m = s.made in absurd cc
no_more false false b c back o s e = s.0

-- `end` is spelled by one byte
pub end_spelling : (o : Operator) (text : List ℕ) → IsTrue (is_end o) → SpellsAny text o → length text ≡ 1
end_spelling op.End text e s =
    let behind = s.second in
    let more : s.first.back ≡ [] = no_more (s.first.value == 0xfc) (s.first.value == 0xfd) s.first.value 0x0b s.first.back s.value s.first.second behind.0 in
    let first : s.first.front ≡ s.first.value ∷ [] = s.first.first in
    let front : s.front ≡ s.first.value ∷ [] = s.first.parts ∙ ap₂ (λ (x y : List ℕ). x ++ y) first more in
    ap (λ (t : List ℕ). length t) (s.parts ∙ ap₂ (λ (x y : List ℕ). x ++ y) front behind.1)
end_spelling _ text e s = absurd cc

-- so the last operator begins one byte before the end
pub last_size : (ps : List Spelling) → AreSpelled ps → IsTrue (ends_with (spelled ps)) → length (bytes_of (take (length ps - 1) ps)) + 1 ≡ length (bytes_of ps)
last_size [] a e = absurd cc
last_size (p ∷ []) a e =
    let one = end_spelling p.0 p.1 e a.0 in
    omega (arith, one, length-append p.1 [])
last_size (p ∷ q ∷ ps) a e =
    let more = last_size (q ∷ ps) a.1 e in
    let at : length (p ∷ q ∷ ps) - 1 ≡ suc (length (q ∷ ps) - 1) = omega arith in
    let front : length (bytes_of (take (length (p ∷ q ∷ ps) - 1) (p ∷ q ∷ ps))) ≡ length (p.1 ++ bytes_of (take (length (q ∷ ps) - 1) (q ∷ ps))) =
    ap (λ (k : ℕ). length (bytes_of (take k (p ∷ q ∷ ps)))) at in
    omega (arith, more, front, length-append p.1 (bytes_of (take (length (q ∷ ps) - 1) (q ∷ ps))), length-append p.1 (bytes_of (q ∷ ps)))

-- ---- where they stand in an input

-- the bytes of the input from one offset to another are the joined spellings
pub record StandsIn (input : List ℕ) (from to : ℕ) (ps : List Spelling) : Type 0 where
  pub whole : slice_range input from to ≡ bytes_of ps
  pub size : length (bytes_of ps) ≡ to - from

pub stands_in : (input : List ℕ) (from to : ℕ) (ps : List Spelling) → from ≤ to → to ≤ length input → slice_range input from to ≡ bytes_of ps →
    StandsIn input from to ps
stands_in input from to ps l m whole = record {
  whole = whole;
  size = omega (arith, ap (λ (t : List ℕ). length t) whole, length-take (to - from) (drop from input), length-drop from input);
}

-- those before an operator
pub front_in : (input : List ℕ) (from to k : ℕ) (ps : List Spelling) → StandsIn input from to ps →
    slice_range input from (from + length (bytes_of (take k ps))) ≡ bytes_of (take k ps)
front_in input from to k ps h =
    let m = length (bytes_of (take k ps)) in
    let parts = joined_parts k ps in
    let size = h.size in
    let less : m ≤ to - from = omega (arith, ap (λ (t : List ℕ). length t) parts, length-append (bytes_of (take k ps)) (bytes_of (drop k ps))) in
    let n : from + m - from ≡ m = omega arith in
    ap (λ (k : ℕ). take k (drop from input)) n
    ∙ (sym (take-take m (to - from) (drop from input) less)
    ∙ (ap (take m) (h.whole ∙ parts) ∙ take_at (bytes_of (take k ps)) (bytes_of (drop k ps)) m refl))

-- those from an operator on, to where the last one ends
pub back_in : (input : List ℕ) (from to end k : ℕ) (ps : List Spelling) → StandsIn input from to ps → end ≡ from + length (bytes_of ps) →
    slice_range input (from + length (bytes_of (take k ps))) end ≡ bytes_of (drop k ps)
back_in input from to end k ps h e =
    let m = length (bytes_of (take k ps)) in
    let parts = joined_parts k ps in
    let size = h.size in
    let more : to - from ≡ m + (end - (from + m)) =
    omega (arith, ap (λ (t : List ℕ). length t) parts, length-append (bytes_of (take k ps)) (bytes_of (drop k ps))) in
    ap (take (end - (from + m))) (sym (drop-drop m from input))
    ∙ (sym (drop-take m (end - (from + m)) (drop from input))
    ∙ (ap (drop m) (ap (λ (k : ℕ). take k (drop from input)) (sym more) ∙ h.whole ∙ parts) ∙ drop_at (bytes_of (take k ps)) (bytes_of (drop k ps)) m refl))
