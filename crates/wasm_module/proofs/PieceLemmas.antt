-- Pieces of a module of which one is written anew, or stands between the others.
use Rattle.std.proofs.Common.{◌≡◌, ℕ, ◌+◌, ◌<◌, List, [], ◌∷◌, ◌++◌, length, take, drop, refl, sym, ap, subst, ◌∙◌, append_assoc, arith}
use Rattle.std.specs.Prelude.{max, slice_range}
use Rattle.std.proofs.lemmas.List.{length-append, take_at, drop_at}
use Rattle.wasm_code.specs.Number.{SpellsUnsigned}
use Rattle.wasm_code.specs.Code.{shortest}
use Rattle.wasm_sections.specs.declared.id.SectionId.{SectionId}
use Rattle.wasm_sections.specs.declared.id.SectionId.TheVariants as ids
use Rattle.wasm_sections.specs.declared.section.Section.{Section}
use Rattle.wasm_sections.specs.Id.{rank_of}
use Rattle.wasm_sections.specs.Section.{SpellsModule, AreFinal, preamble}
use Rattle.wasm_sections.specs.Find.{AreBefore, AreBehind}
use Rattle.wasm_sections.specs.Laws.{SpellsParts}
use Rattle.wasm_sections.specs.lemmas.SectionLemmas.{has_rank}
use Rattle.wasm_sections.specs.lemmas.PieceLemmas.{Piece, code_of, joined, AreCounted, AreSorted, end_at, placed, all_placed, parts}
use Rattle.wasm_sections.specs.lemmas.PieceLemmas.{last_of, of_pieces, module_parts, range_is, joined-append, parts-append, counted-append}
use Rattle.wasm_sections.specs.lemmas.PieceLemmas.{counted_cut, sorted-append, sorted_cut, final-append, final_cut, end_is}

abbrev pub written : SectionId → List ℕ → Piece
written id contents = record { id = id; size = shortest (length contents); contents = contents }

-- ---- pieces that spell a module

pub record AreWhole (xs : List Piece) : Type 0 where
  pub counted : AreCounted xs
  pub sorted : AreSorted 0 xs
  pub final : AreFinal (parts xs)

pub spell : (xs : List Piece) (new : List ℕ) → new ≡ preamble ++ joined xs → AreWhole xs → SpellsParts new (parts xs)
spell xs new e w = record {
  sections = all_placed 8 xs;
  spells = subst (λ (b : List ℕ). SpellsModule b (all_placed 8 xs)) (sym e) (of_pieces xs w.counted w.sorted w.final);
  are = module_parts new xs e;
}

pub swapped : (u w : List Piece) (x : Piece) (contents : List ℕ) → (x.id ≡ ids.Custom → ⊥) →
    SpellsUnsigned 32 (shortest (length contents)) (length contents) → AreWhole (u ++ x ∷ w) → AreWhole (u ++ written x.id contents ∷ w)
swapped u w x contents other counts a =
    let y = written x.id contents in
    let c = counted_cut u (x ∷ w) a.counted in
    let o = sorted_cut u (x ∷ w) 0 a.sorted in
    let f = final_cut (parts u) (parts (x ∷ w)) (subst AreFinal (parts-append u (x ∷ w)) a.final) in
    record {
      counted = counted-append u (y ∷ w) c.0 (counts, c.1.1);
      sorted = sorted-append u (y ∷ w) 0 o.0 (o.1.0, o.1.1);
      final = subst AreFinal (sym (parts-append u (y ∷ w))) (final-append (parts u) (parts (y ∷ w)) f.0 (λ custom. absurd (other custom), f.1.1));
    }

below : (u : List Piece) (start last rank : ℕ) → AreBefore rank (all_placed start u) → last < rank → last_of last u < rank
below [] start last rank b lt = lt
below (x ∷ u) start last rank b lt = below u (end_at start x) (max last (rank_of x.id)) rank b.1 (let small = b.0 in omega arith)

raised : (w : List Piece) (start last rank : ℕ) → AreSorted last w → AreBehind rank (all_placed start w) → AreSorted (max last rank) w
raised [] start last rank o b = tt
raised (x ∷ w) start last rank o b =
    let r = rank_of x.id in
    let same : max (max last r) rank ≡ max (max last rank) r = omega arith in (
      λ some. let one = o.0 some in let two = b.0 some in omega arith,
      subst (λ (n : ℕ). AreSorted n w) same (raised w (end_at start x) (max last r) rank o.1 b.1),
    )

pub inserted : (u w : List Piece) (id : SectionId) (contents : List ℕ) (start : ℕ) → (id ≡ ids.Custom → ⊥) →
    SpellsUnsigned 32 (shortest (length contents)) (length contents) → AreBefore (rank_of id) (all_placed 8 u)
    → AreBehind (rank_of id) (all_placed start w) → AreWhole (u ++ w) → AreWhole (u ++ written id contents ∷ w)
inserted u w id contents start other counts smaller greater a =
    let y = written id contents in
    let c = counted_cut u w a.counted in
    let o = sorted_cut u w 0 a.sorted in
    let f = final_cut (parts u) (parts w) (subst AreFinal (parts-append u w) a.final) in
    let above = below u 8 0 (rank_of id) smaller (has_rank id other) in
    record {
      counted = counted-append u (y ∷ w) c.0 (counts, c.1);
      sorted = sorted-append u (y ∷ w) 0 o.0 (λ some. above, raised w start (last_of 0 u) (rank_of id) o.1 greater);
      final = subst AreFinal (sym (parts-append u (y ∷ w))) (final-append (parts u) (parts (y ∷ w)) f.0 (λ custom. absurd (other custom), f.1));
    }

-- ---- sections as pieces

pub record IsCut (before behind : List Section) (start : ℕ) (xs : List Piece) : Type 0 where
  pub first : List Piece
  pub second : List Piece
  pub parts : xs ≡ first ++ second
  pub before_are : before ≡ all_placed start first
  pub behind_are : behind ≡ all_placed (start + length (joined first)) second

heads : (s z : Section) (ss zs : List Section) → s ∷ ss ≡ z ∷ zs → (s ≡ z) × (ss ≡ zs)
heads s z ss zs e = (cc, cc)

pub cut : (before behind : List Section) (start : ℕ) (xs : List Piece) → before ++ behind ≡ all_placed start xs → IsCut before behind start xs
cut [] behind start xs e = record {
  first = [];
  second = xs;
  parts = refl;
  before_are = refl;
  behind_are = e ∙ ap (λ (n : ℕ). all_placed n xs) (omega arith);
}
cut (s ∷ before) behind start [] e = absurd cc
cut (s ∷ before) behind start (x ∷ xs) e =
    let t = heads s (placed start x) (before ++ behind) (all_placed (end_at start x) xs) e in
    let r = cut before behind (end_at start x) xs t.1 in
    record {
      first = x ∷ r.first;
      second = r.second;
      parts = ap (λ (l : List Piece). x ∷ l) r.parts;
      before_are = ap (λ (z : Section). z ∷ before) t.0 ∙ ap (λ (l : List Section). placed start x ∷ l) r.before_are;
      behind_are = r.behind_are ∙ ap (λ (n : ℕ). all_placed n r.second) (end_is start x r.first);
    }

pub record IsSplit (before behind : List Section) (s : Section) (start : ℕ) (xs : List Piece) : Type 0 where
  pub first : List Piece
  pub x : Piece
  pub second : List Piece
  pub parts : xs ≡ first ++ x ∷ second
  pub before_are : before ≡ all_placed start first
  pub is : s ≡ placed (start + length (joined first)) x
  pub behind_are : behind ≡ all_placed (end_at (start + length (joined first)) x) second

split_at : (first : List Piece) (behind : List Section) (s : Section) (start : ℕ) (before : List Section) (xs second : List Piece) →
    xs ≡ first ++ second → before ≡ all_placed start first → s ∷ behind ≡ all_placed (start + length (joined first)) second
    → IsSplit before behind s start xs
split_at first behind s start before xs [] p b e = absurd cc
split_at first behind s start before xs (x ∷ second) p b e =
    let from = start + length (joined first) in
    let t = heads s (placed from x) behind (all_placed (end_at from x) second) e in
    record { first = first; x = x; second = second; parts = p; before_are = b; is = t.0; behind_are = t.1 }

pub split : (before behind : List Section) (s : Section) (start : ℕ) (xs : List Piece) → before ++ s ∷ behind ≡ all_placed start xs →
    IsSplit before behind s start xs
split before behind s start xs e =
    let c = cut before (s ∷ behind) start xs e in split_at c.first behind s start before xs c.second c.parts c.before_are c.behind_are

-- ---- bytes with two pieces written anew

-- before the piece x stand `mid`, before them the bytes `old`, and before those `first`
pub record IsCutTwice (bytes : List ℕ) (from to start end : ℕ) (first mid second : List Piece) (old : List ℕ) (x : Piece) : Type 0 where
  pub bytes_are : bytes ≡ (preamble ++ joined first) ++ (old ++ (joined mid ++ (code_of x ++ joined second)))
  pub from_is : from ≡ 8 + length (joined first)
  pub to_is : to ≡ from + length old
  pub start_is : start ≡ to + length (joined mid)
  pub end_is : end ≡ start + length (code_of x)

pub rejoined : (bytes : List ℕ) (from to start end : ℕ) (first mid second : List Piece) (old : List ℕ) (x g c : Piece) →
    IsCutTwice bytes from to start end first mid second old x
    → take from bytes ++ code_of g ++ slice_range bytes to start ++ code_of c ++ drop end bytes ≡ preamble ++ joined (first ++ g ∷ (mid ++ c ∷ second))
rejoined bytes from to start end first mid second old x g c p =
    let front = preamble ++ joined first in
    let rest = joined mid ++ (code_of x ++ joined second) in
    let front_len : length front ≡ from = omega (arith, length-append preamble (joined first), p.from_is) in
    let taken : take from bytes ≡ front = ap (take from) p.bytes_are ∙ take_at front (old ++ rest) from front_len in
    let at_mid : bytes ≡ (front ++ old) ++ (joined mid ++ (code_of x ++ joined second)) = p.bytes_are ∙ sym (append_assoc front old rest) in
    let mid_len : length (front ++ old) ≡ to = omega (arith, length-append front old, p.to_is) in
    let ranged : slice_range bytes to start ≡ joined mid = range_is bytes (front ++ old) (joined mid) (code_of x ++ joined second) to start at_mid mid_len
    (sym p.start_is) in
    let at_end : bytes ≡ (((front ++ old) ++ joined mid) ++ code_of x) ++ joined second = at_mid
    ∙ sym (append_assoc (front ++ old) (joined mid) (code_of x ++ joined second))
    ∙ sym (append_assoc ((front ++ old) ++ joined mid) (code_of x) (joined second)) in
    let end_len : length (((front ++ old) ++ joined mid) ++ code_of x) ≡ end = omega (
      arith,
      length-append ((front ++ old) ++ joined mid) (code_of x),
      length-append (front ++ old) (joined mid),
      p.start_is,
      p.end_is,
    ) in
    let dropped : drop end bytes ≡ joined second = ap (drop end) at_end ∙ drop_at (((front ++ old) ++ joined mid) ++ code_of x) (joined second) end end_len in
    let pieces : joined (first ++ g ∷ (mid ++ c ∷ second)) ≡ joined first ++ (code_of g ++ (joined mid ++ (code_of c ++ joined second))) =
    joined-append first (g ∷ (mid ++ c ∷ second)) ∙ ap (λ (l : List ℕ). joined first ++ (code_of g ++ l)) (joined-append mid (c ∷ second)) in
    ap (λ (l : List ℕ). l ++ code_of g ++ slice_range bytes to start ++ code_of c ++ drop end bytes) taken
    ∙ ap (λ (l : List ℕ). front ++ code_of g ++ l ++ code_of c ++ drop end bytes) ranged
    ∙ ap (λ (l : List ℕ). front ++ code_of g ++ joined mid ++ code_of c ++ l) dropped
    ∙ assoc5 preamble (joined first) (code_of g) (joined mid) (code_of c) (joined second)
    ∙ ap (λ (l : List ℕ). preamble ++ l) (sym pieces)
  where
    assoc5 : (a b c d e f : List ℕ) → ((((a ++ b) ++ c) ++ d) ++ e) ++ f ≡ a ++ (b ++ (c ++ (d ++ (e ++ f))))
    assoc5 a b c d e f = simp append_assoc
