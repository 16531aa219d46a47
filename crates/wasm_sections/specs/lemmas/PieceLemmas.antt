-- A module as a list of pieces: the ids, the sizes as they are spelled, and the contents; the offsets follow from these.
use Rattle.std.proofs.Common.{◌≡◌, ℕ, ◌+◌, ◌-◌, ◌<◌, List, [], ◌∷◌, ◌++◌, length, take, drop, refl, sym, ap, subst, ◌∙◌, append_assoc, arith}
use Rattle.std.specs.Prelude.{max, slice_range}
use Rattle.std.proofs.lemmas.List.{length-append, append-nil, take_at, drop_at}
use Rattle.wasm_code.specs.Number.{SpellsUnsigned}
use Rattle.wasm_sections.specs.declared.id.SectionId.{SectionId}
use Rattle.wasm_sections.specs.declared.section.Section.{Section}
use Rattle.wasm_sections.specs.Id.{id_code, rank_of}
use Rattle.wasm_sections.specs.Section.{SpellsSections, AreInOrder, section_parts_of, AreFinal, preamble, SpellsModule}
use Rattle.wasm_sections.specs.Sections.{last_rank}
use Rattle.wasm_sections.specs.lemmas.SectionLemmas.{section_of}

pub record Piece : Type 0 where
  pub id : SectionId
  pub size : List ℕ
  pub contents : List ℕ

abbrev pub code_of : Piece → List ℕ
code_of x = id_code x.id ∷ x.size ++ x.contents

-- the pieces, joined
abbrev pub joined : List Piece → List ℕ
joined [] = []
joined (x ∷ xs) = code_of x ++ joined xs

abbrev pub AreCounted : List Piece → Type 0
AreCounted [] = Unit {0}
AreCounted (x ∷ xs) = SpellsUnsigned 32 x.size (length x.contents) × AreCounted xs

abbrev pub contents_at : ℕ → Piece → ℕ
contents_at start x = start + 1 + length x.size

abbrev pub end_at : ℕ → Piece → ℕ
end_at start x = contents_at start x + length x.contents

-- the section that the piece is at that offset
abbrev pub placed : ℕ → Piece → Section
placed start x = section_of x.id start (contents_at start x) (end_at start x)

abbrev pub all_placed : ℕ → List Piece → List Section
all_placed start [] = []
all_placed start (x ∷ xs) = placed start x ∷ all_placed (end_at start x) xs

abbrev pub AreSorted : ℕ → List Piece → Type 0
AreSorted last [] = Unit {0}
AreSorted last (x ∷ xs) = (0 < rank_of x.id → last < rank_of x.id) × AreSorted (max last (rank_of x.id)) xs

abbrev pub part : Piece → SectionId × List ℕ
part x = (x.id, x.contents)

abbrev pub parts : List Piece → List (SectionId × List ℕ)
parts [] = []
parts (x ∷ xs) = part x ∷ parts xs

-- ---- sections are pieces at offsets

pub record IsView (sections : List Section) (start : ℕ) (text : List ℕ) : Type 0 where
  pub pieces : List Piece
  pub counted : AreCounted pieces
  pub bytes : text ≡ joined pieces
  pub are : sections ≡ all_placed start pieces

pub section_is : (s : Section) (start contents end : ℕ) → s.start ≡ start → s.contents ≡ contents → s.end ≡ end → s ≡ section_of s.id start contents end
section_is s start contents end p q r = ap (λ (n : ℕ). section_of s.id n s.contents s.end) p
    ∙ ap (λ (n : ℕ). section_of s.id start n s.end) q ∙ ap (section_of s.id start contents) r

pub view : (ss : List Section) (start : ℕ) (text : List ℕ) → SpellsSections ss start text → IsView ss start text
view [] start text e = record { pieces = []; counted = tt; bytes = e; are = refl }
view (s ∷ ss) start text p =
    let v = view ss s.end p.back p.rest in
    let x : Piece = record { id = s.id; size = p.size; contents = p.contents } in
    let end : s.end ≡ end_at start x = p.ends ∙ ap (λ (n : ℕ). n + length p.contents) p.contents_at in
    record {
      pieces = x ∷ v.pieces;
      counted = (p.counts, v.counted);
      bytes = p.parts ∙ ap (λ (b : List ℕ). code_of x ++ b) v.bytes;
      are = ap (λ (l : List Section). s ∷ l) (v.are ∙ ap (λ (n : ℕ). all_placed n v.pieces) end)
          ∙ ap (λ (z : Section). z ∷ all_placed (end_at start x) v.pieces)
          (section_is s start (contents_at start x) (end_at start x) p.starts p.contents_at end);
    }

pub spelled : (xs : List Piece) (start : ℕ) → AreCounted xs → SpellsSections (all_placed start xs) start (joined xs)
spelled [] start c = refl
spelled (x ∷ xs) start c = record {
  size = x.size;
  contents = x.contents;
  back = joined xs;
  parts = refl;
  counts = c.0;
  starts = refl;
  contents_at = refl;
  ends = refl;
  rest = spelled xs (end_at start x) c.1;
}

sorted : (xs : List Piece) (start last : ℕ) → AreInOrder last (all_placed start xs) → AreSorted last xs
sorted [] start last o = tt
sorted (x ∷ xs) start last o = (o.0, sorted xs (end_at start x) (max last (rank_of x.id)) o.1)

in_order : (xs : List Piece) (start last : ℕ) → AreSorted last xs → AreInOrder last (all_placed start xs)
in_order [] start last o = tt
in_order (x ∷ xs) start last o = (o.0, in_order xs (end_at start x) (max last (rank_of x.id)) o.1)

-- ---- contents by their offsets

pub range_is : (bytes a b c : List ℕ) (from to : ℕ) → bytes ≡ a ++ (b ++ c) → length a ≡ from → from + length b ≡ to → slice_range bytes from to ≡ b
range_is bytes a b c from to e f t =
    let len : length b ≡ to - from = omega (arith, t) in
    ap (λ (l : List ℕ). take (to - from) (drop from l)) e ∙ ap (take (to - from)) (drop_at a (b ++ c) from f) ∙ take_at b c (to - from) len

pub parts_are : (xs : List Piece) (start : ℕ) (bytes before behind : List ℕ) → bytes ≡ before ++ (joined xs ++ behind) → length before ≡ start →
    section_parts_of bytes (all_placed start xs) ≡ parts xs
parts_are [] start bytes before behind e f = refl
parts_are (x ∷ xs) start bytes before behind e f =
    let at_contents : bytes ≡ (before ++ id_code x.id ∷ x.size) ++ (x.contents ++ (joined xs ++ behind)) = e ∙ simp append_assoc in
    let at_rest : bytes ≡ (before ++ code_of x) ++ (joined xs ++ behind) = e ∙ simp append_assoc in
    let head_len : length (before ++ id_code x.id ∷ x.size) ≡ contents_at start x =
    omega (arith, length-append before (id_code x.id ∷ x.size), f) in
    let piece_len : length (before ++ code_of x) ≡ end_at start x =
    omega (arith, length-append before (code_of x), length-append (id_code x.id ∷ x.size) x.contents, f) in
    let here = range_is bytes (before ++ id_code x.id ∷ x.size) x.contents (joined xs ++ behind) (contents_at start x) (end_at start x) at_contents
    head_len refl in
    ap (λ (l : List ℕ). (x.id, l) ∷ section_parts_of bytes (all_placed (end_at start x) xs)) here
    ∙ ap (λ (l : List (SectionId × List ℕ)). part x ∷ l) (parts_are xs (end_at start x) bytes (before ++ code_of x) behind at_rest piece_len)

-- ---- modules

pub record IsModuleView (bytes : List ℕ) (sections : List Section) : Type 0 where
  pub pieces : List Piece
  pub bytes_are : bytes ≡ preamble ++ joined pieces
  pub are : sections ≡ all_placed 8 pieces
  pub counted : AreCounted pieces
  pub sorted : AreSorted 0 pieces
  pub final : AreFinal (parts pieces)

pub module_parts : (bytes : List ℕ) (xs : List Piece) → bytes ≡ preamble ++ joined xs → section_parts_of bytes (all_placed 8 xs) ≡ parts xs
module_parts bytes xs e = parts_are xs 8 bytes preamble [] (e ∙ ap (λ (l : List ℕ). preamble ++ l) (sym (append-nil (joined xs)))) refl

pub of_module : (bytes : List ℕ) (ss : List Section) → SpellsModule bytes ss → IsModuleView bytes ss
of_module bytes ss m =
    let v = view ss 8 m.text m.spelled in
    let e = m.parts ∙ ap (λ (l : List ℕ). preamble ++ l) v.bytes in
    record {
      pieces = v.pieces;
      bytes_are = e;
      are = v.are;
      counted = v.counted;
      sorted = sorted v.pieces 8 0 (subst (AreInOrder 0) v.are m.ordered);
      final = subst AreFinal (ap (section_parts_of bytes) v.are ∙ module_parts bytes v.pieces e) m.final;
    }

-- the pieces spell a module
pub of_pieces : (xs : List Piece) → AreCounted xs → AreSorted 0 xs → AreFinal (parts xs) → SpellsModule (preamble ++ joined xs) (all_placed 8 xs)
of_pieces xs counted sorted final = record {
  text = joined xs;
  parts = refl;
  spelled = spelled xs 8 counted;
  ordered = in_order xs 8 0 sorted;
  final = subst AreFinal (sym (module_parts (preamble ++ joined xs) xs refl)) final;
}

-- ---- pieces behind pieces

pub joined-append : (xs ys : List Piece) → joined (xs ++ ys) ≡ joined xs ++ joined ys
joined-append [] ys = refl
joined-append (x ∷ xs) ys = ap (λ (l : List ℕ). code_of x ++ l) (joined-append xs ys) ∙ sym (append_assoc (code_of x) (joined xs) (joined ys))

pub parts-append : (xs ys : List Piece) → parts (xs ++ ys) ≡ parts xs ++ parts ys
parts-append [] ys = refl
parts-append (x ∷ xs) ys = ap (λ (l : List (SectionId × List ℕ)). part x ∷ l) (parts-append xs ys)

pub counted-append : (xs ys : List Piece) → AreCounted xs → AreCounted ys → AreCounted (xs ++ ys)
counted-append [] ys p q = q
counted-append (x ∷ xs) ys p q = (p.0, counted-append xs ys p.1 q)

pub counted_cut : (xs ys : List Piece) → AreCounted (xs ++ ys) → AreCounted xs × AreCounted ys
counted_cut [] ys p = (tt, p)
counted_cut (x ∷ xs) ys p = let c = counted_cut xs ys p.1 in ((p.0, c.0), c.1)

pub final-append : (ps qs : List (SectionId × List ℕ)) → AreFinal ps → AreFinal qs → AreFinal (ps ++ qs)
final-append [] qs p q = q
final-append (x ∷ ps) qs p q = (p.0, final-append ps qs p.1 q)

pub final_cut : (ps qs : List (SectionId × List ℕ)) → AreFinal (ps ++ qs) → AreFinal ps × AreFinal qs
final_cut [] qs p = (tt, p)
final_cut (x ∷ ps) qs p = let c = final_cut ps qs p.1 in ((p.0, c.0), c.1)

-- the largest rank, behind one of the rank `last`
abbrev pub last_of : ℕ → List Piece → ℕ
last_of last [] = last
last_of last (x ∷ xs) = last_of (max last (rank_of x.id)) xs

pub last_is : (xs : List Piece) (start last : ℕ) → last_rank last (all_placed start xs) ≡ last_of last xs
last_is [] start last = refl
last_is (x ∷ xs) start last = last_is xs (end_at start x) (max last (rank_of x.id))

pub sorted-append : (xs ys : List Piece) (last : ℕ) → AreSorted last xs → AreSorted (last_of last xs) ys → AreSorted last (xs ++ ys)
sorted-append [] ys last p q = q
sorted-append (x ∷ xs) ys last p q = (p.0, sorted-append xs ys (max last (rank_of x.id)) p.1 q)

pub sorted_cut : (xs ys : List Piece) (last : ℕ) → AreSorted last (xs ++ ys) → AreSorted last xs × AreSorted (last_of last xs) ys
sorted_cut [] ys last p = (tt, p)
sorted_cut (x ∷ xs) ys last p = let c = sorted_cut xs ys (max last (rank_of x.id)) p.1 in ((p.0, c.0), c.1)

pub length-code : (x : Piece) → length (code_of x) ≡ 1 + length x.size + length x.contents
length-code x = omega (arith, length-append (id_code x.id ∷ x.size) x.contents)

-- where the pieces behind those begin
pub end_is : (start : ℕ) (x : Piece) (xs : List Piece) → end_at start x + length (joined xs) ≡ start + length (joined (x ∷ xs))
end_is start x xs = omega (arith, length-append (code_of x) (joined xs), length-code x)

pub placed-append : (xs ys : List Piece) (start : ℕ) → all_placed start (xs ++ ys) ≡ all_placed start xs ++ all_placed (start + length (joined xs)) ys
placed-append [] ys start = ap (λ (n : ℕ). all_placed n ys) (omega arith)
placed-append (x ∷ xs) ys start = ap (λ (l : List Section). placed start x ∷ l) (placed-append xs ys (end_at start x)
    ∙ ap (λ (n : ℕ). all_placed (end_at start x) xs ++ all_placed n ys) (end_is start x xs))
