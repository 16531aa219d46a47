-- Modules with a section written anew or added, and where sections stand.
use Rattle.std.proofs.Common.{◌≡◌, ℕ, zero, suc, ◌+◌, ◌<◌, ◌≤◌, List, [], ◌∷◌, ◌++◌, length, take, drop, get_or, refl, sym, ap, subst, ◌∙◌, append_assoc, arith}
use Rattle.std.specs.Prelude.{max}
use Rattle.std.proofs.lemmas.List.{length-append, append-nil, take_at, drop_at}
use Rattle.wasm_code.specs.Number.{SpellsUnsigned}
use Rattle.wasm_code.specs.Code.{shortest}
use Rattle.wasm_sections.specs.declared.id.SectionId.{SectionId}
use Rattle.wasm_sections.specs.declared.id.SectionId.TheVariants as ids
use Rattle.wasm_sections.specs.declared.section.Section.{Section}
use Rattle.wasm_sections.specs.Id.{rank_of}
use Rattle.wasm_sections.specs.Section.{SpellsModule, AreFinal, section_parts_of, preamble}
use Rattle.wasm_sections.specs.Find.{IsFirstWith, IsPlaceOf, end_of, AreBefore, AreBehind}
use Rattle.wasm_sections.specs.Writing.{section_code}
use Rattle.wasm_sections.specs.Laws.{SpellsParts, AreJoined, IsWithin, IsInOrderAt}
use Rattle.wasm_sections.specs.lemmas.SectionLemmas.{has_rank}
use Rattle.wasm_sections.specs.lemmas.PieceLemmas.{Piece, code_of, joined, AreCounted, AreSorted, end_at, placed, all_placed, part, parts}
use Rattle.wasm_sections.specs.lemmas.PieceLemmas.{last_of, of_module, of_pieces, module_parts, parts_are, joined-append, parts-append}
use Rattle.wasm_sections.specs.lemmas.PieceLemmas.{counted-append, counted_cut, sorted-append, sorted_cut, final-append, final_cut}
use Rattle.wasm_sections.specs.lemmas.PieceLemmas.{length-code, end_is}

-- ---- where sections stand

pieces_joined : (xs : List Piece) (from : ℕ) → AreJoined from (all_placed from xs) (from + length (joined xs))
pieces_joined [] from = omega arith
pieces_joined (x ∷ xs) from = (
  refl,
  omega arith,
  omega arith,
  subst (AreJoined (end_at from x) (all_placed (end_at from x) xs)) (end_is from x xs) (pieces_joined xs (end_at from x)),
)

pub all_joined : (bytes : List ℕ) (ss : List Section) → SpellsModule bytes ss → AreJoined 8 ss (length bytes)
all_joined bytes ss m =
    let v = of_module bytes ss m in
    let len : 8 + length (joined v.pieces) ≡ length bytes = sym (ap length v.bytes_are ∙ length-append preamble (joined v.pieces)) in
    subst (λ (l : List Section). AreJoined 8 l (length bytes)) (sym v.are) (subst (AreJoined 8 (all_placed 8 v.pieces)) len (pieces_joined v.pieces 8))

forwards : (ss : List Section) (from to : ℕ) → AreJoined from ss to → from ≤ to
forwards [] from to j = omega arith
forwards (s ∷ ss) from to j = let le = forwards ss s.end to j.3 in omega (arith, j.0, j.1, j.2)

one_within : (ss : List Section) (least from to : ℕ) → least ≤ from → AreJoined from ss to → (k : ℕ) (d : Section) → k < length ss →
    IsWithin least to (get_or ss k d)
one_within [] least from to le j k d lt = absurd (omega (arith, lt))
one_within (s ∷ ss) least from to le j zero d lt = record {
  first = omega (arith, le, j.0);
  contents = j.1;
  order = j.2;
  last = forwards ss s.end to j.3;
}
one_within (s ∷ ss) least from to le j (suc k) d lt = one_within ss least s.end to (omega (arith, le, j.0, j.1, j.2)) j.3 k d (omega (arith, lt))

pub each_within : (bytes : List ℕ) (ss : List Section) → SpellsModule bytes ss → (k : ℕ) (d : Section) → k < length ss →
    IsWithin 8 (length bytes) (get_or ss k d)
each_within bytes ss m k d lt = one_within ss 8 8 (length bytes) (omega arith) (all_joined bytes ss m) k d lt

at_end : (before behind : List Section) (s : Section) → get_or (before ++ s ∷ behind) (length before) s ≡ s
at_end [] behind s = refl
at_end (x ∷ before) behind s = at_end before behind s

pub found_within : (bytes : List ℕ) (ss : List Section) (id : SectionId) (s : Section) → SpellsModule bytes ss → IsFirstWith ss id s →
    IsWithin 8 (length bytes) s
found_within bytes ss id s m f =
    let lt : length f.before < length ss = omega (arith, ap length f.parts, length-append f.before (s ∷ f.behind)) in
    subst (IsWithin 8 (length bytes)) (ap (λ (l : List Section). get_or l (length f.before) s) f.parts ∙ at_end f.before f.behind s)
    (each_within bytes ss m (length f.before) s lt)

-- ---- places

behind_at : (ss : List Section) (rank : ℕ) → AreBehind rank ss → (k : ℕ) (d : Section) → k < length ss → 0 < rank_of (get_or ss k d).id →
    rank < rank_of (get_or ss k d).id
behind_at [] rank b k d lt some = absurd (omega (arith, lt))
behind_at (s ∷ ss) rank b zero d lt some = b.0 some
behind_at (s ∷ ss) rank b (suc k) d lt some = behind_at ss rank b.1 k d (omega (arith, lt)) some

-- where the sections are cut, the first of them end and the others begin
joined_cut : (before behind : List Section) (from to : ℕ) → AreJoined from (before ++ behind) to → (from ≤ end_of from before)
    × AreJoined (end_of from before) behind to
joined_cut [] behind from to j = (omega arith, j)
joined_cut (s ∷ before) behind from to j =
    let c = joined_cut before behind s.end to j.3 in
    (omega (arith, j.0, j.1, j.2, c.0), c.1)

pub place_within : (bytes : List ℕ) (ss : List Section) (id : SectionId) (place : ℕ) → SpellsModule bytes ss → IsPlaceOf ss id place → (8 ≤ place)
    × (place ≤ length bytes)
place_within bytes ss id place m p =
    let c = joined_cut p.before p.behind 8 (length bytes) (subst (λ (l : List Section). AreJoined 8 l (length bytes)) p.parts (all_joined bytes ss m)) in
    let le = forwards p.behind (end_of 8 p.before) (length bytes) c.1 in
    (omega (arith, c.0, p.at), omega (arith, le, p.at))

in_order_at : (before behind : List Section) (from to : ℕ) (id : SectionId) → AreJoined from (before ++ behind) to → AreBefore (rank_of id) before →
    AreBehind (rank_of id) behind → (k : ℕ) (d : Section)
    → k < length (before ++ behind) → IsInOrderAt (end_of from before) id (get_or (before ++ behind) k d)
in_order_at [] behind from to id j smaller greater k d lt = record {
  precedes = λ some less. absurd (omega (arith, less, behind_at behind (rank_of id) greater k d lt some));
  follows = λ more. (one_within behind from from to (omega arith) j k d lt).first;
}
in_order_at (s ∷ before) behind from to id j smaller greater zero d lt =
    let c = joined_cut before behind s.end to j.3 in
    record { precedes = λ some less. c.0; follows = λ more. absurd (omega (arith, more, smaller.0)) }
in_order_at (s ∷ before) behind from to id j smaller greater (suc k) d lt =
    in_order_at before behind s.end to id j.3 smaller.1 greater k d (omega (arith, lt))

pub place_in_order : (bytes : List ℕ) (ss : List Section) (id : SectionId) (place : ℕ) → SpellsModule bytes ss → IsPlaceOf ss id place → (k : ℕ)
    (d : Section) → k < length ss → IsInOrderAt place id (get_or ss k d)
place_in_order bytes ss id place m p k d lt =
    let all = p.before ++ p.behind in
    let joined_is : AreJoined 8 all (length bytes) = subst (λ (l : List Section). AreJoined 8 l (length bytes)) p.parts (all_joined bytes ss m) in
    let within : k < length all = omega (arith, lt, ap length p.parts) in
    let here = in_order_at p.before p.behind 8 (length bytes) id joined_is p.smaller p.greater k d within in
    subst (λ (l : List Section). IsInOrderAt place id (get_or l k d)) (sym p.parts)
    (subst (λ (n : ℕ). IsInOrderAt n id (get_or all k d)) (sym p.at) here)

-- ---- pieces of the sections before and behind

record IsCut (before behind : List Section) (start : ℕ) (xs : List Piece) : Type 0 where
  pub first : List Piece
  pub second : List Piece
  pub parts : xs ≡ first ++ second
  pub before_are : before ≡ all_placed start first
  pub behind_are : behind ≡ all_placed (start + length (joined first)) second

tail_is : (s : Section) (ss : List Section) (z : Section) (zs : List Section) → s ∷ ss ≡ z ∷ zs → (s ≡ z) × (ss ≡ zs)
tail_is s ss z zs e = (cc, cc)

cut : (before behind : List Section) (start : ℕ) (xs : List Piece) → before ++ behind ≡ all_placed start xs → IsCut before behind start xs
cut [] behind start xs e = record {
  first = [];
  second = xs;
  parts = refl;
  before_are = refl;
  behind_are = e ∙ ap (λ (n : ℕ). all_placed n xs) (omega arith);
}
cut (s ∷ before) behind start [] e = absurd cc
cut (s ∷ before) behind start (x ∷ xs) e =
    let t = tail_is s (before ++ behind) (placed start x) (all_placed (end_at start x) xs) e in
    let r = cut before behind (end_at start x) xs t.1 in
    record {
      first = x ∷ r.first;
      second = r.second;
      parts = ap (λ (l : List Piece). x ∷ l) r.parts;
      before_are = ap (λ (z : Section). z ∷ before) t.0 ∙ ap (λ (l : List Section). placed start x ∷ l) r.before_are;
      behind_are = r.behind_are ∙ ap (λ (n : ℕ). all_placed n r.second) (end_is start x r.first);
    }

-- ---- bytes with a piece in place of some bytes

abbrev piece : SectionId → (size contents : List ℕ) → Piece
piece id size contents = record { id = id; size = size; contents = contents }

abbrev written : SectionId → List ℕ → Piece
written id contents = piece id (shortest (length contents)) contents

pub spliced : (bytes old : List ℕ) (u w : List Piece) (y : Piece) (from to : ℕ) → bytes ≡ preamble ++ (joined u ++ (old ++ joined w)) →
    from ≡ 8 + length (joined u) → to ≡ from + length old
    → take from bytes ++ code_of y ++ drop to bytes ≡ preamble ++ joined (u ++ y ∷ w)
spliced bytes old u w y from to e f t =
    let front = preamble ++ joined u in
    let one : bytes ≡ front ++ (old ++ joined w) = e ∙ sym (append_assoc preamble (joined u) (old ++ joined w)) in
    let two : bytes ≡ (front ++ old) ++ joined w = one ∙ sym (append_assoc front old (joined w)) in
    let front_len : length front ≡ from = omega (arith, length-append preamble (joined u)) in
    let both_len : length (front ++ old) ≡ to = omega (arith, length-append front old) in
    let taken : take from bytes ≡ front = ap (take from) one ∙ take_at front (old ++ joined w) from front_len in
    let dropped : drop to bytes ≡ joined w = ap (drop to) two ∙ drop_at (front ++ old) (joined w) to both_len in
    ap (λ (l : List ℕ). l ++ code_of y ++ drop to bytes) taken ∙ ap (λ (l : List ℕ). front ++ code_of y ++ l) dropped
    ∙ append_assoc front (code_of y) (joined w) ∙ append_assoc preamble (joined u) (code_of y ++ joined w)
    ∙ ap (λ (l : List ℕ). preamble ++ l) (sym (joined-append u (y ∷ w)))

-- pieces with one in between, as they spell a module
record IsChange (bytes new : List ℕ) (before behind : List Section) (y : Piece) : Type 0 where
  pub first : List Piece
  pub second : List Piece
  pub old : List ℕ
  pub start : ℕ
  pub bytes_are : bytes ≡ preamble ++ (joined first ++ (old ++ joined second))
  pub starts : start ≡ 8 + length (joined first) + length old
  pub before_are : before ≡ all_placed 8 first
  pub behind_are : behind ≡ all_placed start second
  pub new_are : new ≡ preamble ++ joined (first ++ y ∷ second)
  pub counted : AreCounted (first ++ y ∷ second)
  pub sorted : AreSorted 0 (first ++ y ∷ second)
  pub final : AreFinal (parts (first ++ y ∷ second))

changed : (bytes new : List ℕ) (before behind : List Section) (y : Piece) → IsChange bytes new before behind y →
    SpellsParts new (section_parts_of bytes before ++ part y ∷ section_parts_of bytes behind)
changed bytes new before behind y c =
    let all = c.first ++ y ∷ c.second in
    let first : section_parts_of bytes before ≡ parts c.first = ap (section_parts_of bytes) c.before_are
    ∙ parts_are c.first 8 bytes preamble (c.old ++ joined c.second) c.bytes_are refl in
    let at_second : bytes ≡ ((preamble ++ joined c.first) ++ c.old) ++ (joined c.second ++ []) = c.bytes_are
    ∙ sym (append_assoc preamble (joined c.first) (c.old ++ joined c.second)) ∙ sym (append_assoc (preamble ++ joined c.first) c.old (joined c.second))
    ∙ ap (λ (l : List ℕ). ((preamble ++ joined c.first) ++ c.old) ++ l) (sym (append-nil (joined c.second))) in
    let len : length ((preamble ++ joined c.first) ++ c.old) ≡ c.start = omega (
      arith,
      length-append (preamble ++ joined c.first) c.old,
      length-append preamble (joined c.first),
      c.starts,
    ) in
    let second : section_parts_of bytes behind ≡ parts c.second = ap (section_parts_of bytes) c.behind_are
    ∙ parts_are c.second c.start bytes ((preamble ++ joined c.first) ++ c.old) [] at_second len in
    record {
      sections = all_placed 8 all;
      spells = subst (λ (b : List ℕ). SpellsModule b (all_placed 8 all)) (sym c.new_are) (of_pieces all c.counted c.sorted c.final);
      are = module_parts new all c.new_are ∙ parts-append c.first (y ∷ c.second)
          ∙ ap (λ (l : List (SectionId × List ℕ)). l ++ part y ∷ parts c.second) (sym first)
          ∙ ap (λ (l : List (SectionId × List ℕ)). section_parts_of bytes before ++ part y ∷ l) (sym second);
    }

-- ---- a section written anew

anew : (bytes contents : List ℕ) (u w : List Piece) (x : Piece) → bytes ≡ preamble ++ joined (u ++ x ∷ w) → AreCounted (u ++ x ∷ w) →
    AreSorted 0 (u ++ x ∷ w) → AreFinal (parts (u ++ x ∷ w)) → (x.id ≡ ids.Custom → ⊥)
    → SpellsUnsigned 32 (shortest (length contents)) (length contents)
    → IsChange bytes (take (8 + length (joined u)) bytes ++ section_code x.id contents ++ drop (end_at (8 + length (joined u)) x) bytes) (all_placed 8 u)
    (all_placed (end_at (8 + length (joined u)) x) w) (written x.id contents)
anew bytes contents u w x e counted sorted final other counts =
    let y = written x.id contents in
    let c = counted_cut u (x ∷ w) counted in
    let o = sorted_cut u (x ∷ w) 0 sorted in
    let f = final_cut (parts u) (parts (x ∷ w)) (subst AreFinal (parts-append u (x ∷ w)) final) in
    let bytes_are : bytes ≡ preamble ++ (joined u ++ (code_of x ++ joined w)) = e ∙ ap (λ (l : List ℕ). preamble ++ l) (joined-append u (x ∷ w)) in
    let end : end_at (8 + length (joined u)) x ≡ 8 + length (joined u) + length (code_of x) = omega (arith, length-code x) in
    record {
      first = u;
      second = w;
      old = code_of x;
      start = end_at (8 + length (joined u)) x;
      bytes_are = bytes_are;
      starts = end;
      before_are = refl;
      behind_are = refl;
      new_are = spliced bytes (code_of x) u w y (8 + length (joined u)) (end_at (8 + length (joined u)) x) bytes_are refl end;
      counted = counted-append u (y ∷ w) c.0 (counts, c.1.1);
      sorted = sorted-append u (y ∷ w) 0 o.0 (o.1.0, o.1.1);
      final = subst AreFinal (sym (parts-append u (y ∷ w))) (final-append (parts u) (parts (y ∷ w)) f.0 (λ custom. absurd (other custom), f.1.1));
    }

replaced_pieces : (bytes contents : List ℕ) (u : List Piece) (xs : List Piece) (before behind : List Section) (s : Section) →
    before ≡ all_placed 8 u → s ∷ behind ≡ all_placed (8 + length (joined u)) xs
    → bytes ≡ preamble ++ joined (u ++ xs) → AreCounted (u ++ xs) → AreSorted 0 (u ++ xs) → AreFinal (parts (u ++ xs)) → (s.id ≡ ids.Custom → ⊥)
    → SpellsUnsigned 32 (shortest (length contents)) (length contents)
    → SpellsParts (take s.start bytes ++ section_code s.id contents ++ drop s.end bytes) (section_parts_of bytes before ++ (s.id, contents)
    ∷ section_parts_of bytes behind)
replaced_pieces bytes contents u [] before behind s b e bytes_are counted sorted final other counts = absurd cc
replaced_pieces bytes contents u (x ∷ w) before behind s b e bytes_are counted sorted final other counts =
    let start = 8 + length (joined u) in
    let t = tail_is s behind (placed start x) (all_placed (end_at start x) w) e in
    let id : s.id ≡ x.id = ap (λ (z : Section). z.id) t.0 in
    let change = anew bytes contents u w x bytes_are counted sorted final (λ custom. other (id ∙ custom)) counts in
    let is = changed bytes (take start bytes ++ section_code x.id contents ++ drop (end_at start x) bytes) (all_placed 8 u) (all_placed (end_at start x) w)
    (written x.id contents) change in
    let P : List Section → Section → List Section → Type 0 = λ p z q. SpellsParts (take z.start bytes ++ section_code z.id contents ++ drop z.end bytes)
    (section_parts_of bytes p ++ (z.id, contents) ∷ section_parts_of bytes q) in
    subst (λ (p : List Section). P p s behind) (sym b) (subst (λ (z : Section). P (all_placed 8 u) z behind) (sym t.0)
    (subst (P (all_placed 8 u) (placed start x)) (sym t.1) is))

pub replaced : (bytes contents : List ℕ) (before behind : List Section) (s : Section) → SpellsModule bytes (before ++ s ∷ behind) →
    (s.id ≡ ids.Custom → ⊥) → SpellsUnsigned 32 (shortest (length contents)) (length contents)
    → SpellsParts (take s.start bytes ++ section_code s.id contents ++ drop s.end bytes) (section_parts_of bytes before ++ (s.id, contents)
    ∷ section_parts_of bytes behind)
replaced bytes contents before behind s m other counts =
    let v = of_module bytes (before ++ s ∷ behind) m in
    let r = cut before (s ∷ behind) 8 v.pieces v.are in
    replaced_pieces bytes contents r.first r.second before behind s r.before_are r.behind_are
    (v.bytes_are ∙ ap (λ (l : List Piece). preamble ++ joined l) r.parts) (subst AreCounted r.parts v.counted) (subst (AreSorted 0) r.parts v.sorted)
    (subst (λ (l : List Piece). AreFinal (parts l)) r.parts v.final) other counts

-- ---- a section more

below : (u : List Piece) (start last rank : ℕ) → AreBefore rank (all_placed start u) → last < rank → last_of last u < rank
below [] start last rank b lt = lt
below (x ∷ u) start last rank b lt = below u (end_at start x) (max last (rank_of x.id)) rank b.1 (let small = b.0 in omega arith)

raised : (w : List Piece) (start last rank : ℕ) → AreSorted last w → AreBehind rank (all_placed start w) → AreSorted (max last rank) w
raised [] start last rank o b = tt
raised (x ∷ w) start last rank o b =
    let r = rank_of x.id in
    let same : max (max last r) rank ≡ max (max last rank) r = omega arith in (
      λ some. let one = o.0 some in let two = b.0 some in omega arith,
      subst (λ (n : ℕ). AreSorted n w) same (raised w (end_at start x) (max last r) rank o.1 b.1),
    )

ends_at : (u : List Piece) (start : ℕ) → end_of start (all_placed start u) ≡ start + length (joined u)
ends_at [] start = omega arith
ends_at (x ∷ u) start = ends_at u (end_at start x) ∙ end_is start x u

more : (bytes contents : List ℕ) (u w : List Piece) (id : SectionId) (place : ℕ) → bytes ≡ preamble ++ joined (u ++ w) → AreCounted (u ++ w) →
    AreSorted 0 (u ++ w) → AreFinal (parts (u ++ w)) → (id ≡ ids.Custom → ⊥)
    → SpellsUnsigned 32 (shortest (length contents)) (length contents) → place ≡ 8 + length (joined u) → AreBefore (rank_of id) (all_placed 8 u)
    → AreBehind (rank_of id) (all_placed (8 + length (joined u)) w)
    → IsChange bytes (take place bytes ++ section_code id contents ++ drop place bytes) (all_placed 8 u) (all_placed (8 + length (joined u)) w)
    (written id contents)
more bytes contents u w id place e counted sorted final other counts at smaller greater =
    let y = written id contents in
    let c = counted_cut u w counted in
    let o = sorted_cut u w 0 sorted in
    let f = final_cut (parts u) (parts w) (subst AreFinal (parts-append u w) final) in
    let bytes_are : bytes ≡ preamble ++ (joined u ++ ([] ++ joined w)) = e ∙ ap (λ (l : List ℕ). preamble ++ l) (joined-append u w) in
    let above = below u 8 0 (rank_of id) smaller (has_rank id other) in
    record {
      first = u;
      second = w;
      old = [];
      start = 8 + length (joined u);
      bytes_are = bytes_are;
      starts = omega arith;
      before_are = refl;
      behind_are = refl;
      new_are = spliced bytes [] u w y place place bytes_are at (omega arith);
      counted = counted-append u (y ∷ w) c.0 (counts, c.1);
      sorted = sorted-append u (y ∷ w) 0 o.0 (λ some. above, raised w (8 + length (joined u)) (last_of 0 u) (rank_of id) o.1 greater);
      final = subst AreFinal (sym (parts-append u (y ∷ w))) (final-append (parts u) (parts (y ∷ w)) f.0 (λ custom. absurd (other custom), f.1));
    }

pub added : (bytes contents : List ℕ) (ss : List Section) (id : SectionId) (place : ℕ) → SpellsModule bytes ss → (p : IsPlaceOf ss id place) →
    (id ≡ ids.Custom → ⊥) → SpellsUnsigned 32 (shortest (length contents)) (length contents)
    → SpellsParts (take place bytes ++ section_code id contents ++ drop place bytes) (section_parts_of bytes p.before ++ (id, contents)
    ∷ section_parts_of bytes p.behind)
added bytes contents ss id place m p other counts =
    let v = of_module bytes ss m in
    let r = cut p.before p.behind 8 v.pieces (sym p.parts ∙ v.are) in
    let at : place ≡ 8 + length (joined r.first) = p.at ∙ ap (end_of 8) r.before_are ∙ ends_at r.first 8 in
    let change = more bytes contents r.first r.second id place (v.bytes_are ∙ ap (λ (l : List Piece). preamble ++ joined l) r.parts)
    (subst AreCounted r.parts v.counted) (subst (AreSorted 0) r.parts v.sorted) (subst (λ (l : List Piece). AreFinal (parts l)) r.parts v.final) other counts
    at (subst (AreBefore (rank_of id)) r.before_are p.smaller) (subst (AreBehind (rank_of id)) r.behind_are p.greater) in
    let new = take place bytes ++ section_code id contents ++ drop place bytes in
    let is = changed bytes new (all_placed 8 r.first) (all_placed (8 + length (joined r.first)) r.second) (written id contents) change in
    let P : List Section → List Section → Type 0 = λ a b. SpellsParts new (section_parts_of bytes a ++ (id, contents) ∷ section_parts_of bytes b) in
    subst (λ (a : List Section). P a p.behind) (sym r.before_are) (subst (P (all_placed 8 r.first)) (sym r.behind_are) is)
