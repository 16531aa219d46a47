-- Custom sections that name places in the code, and a module without them.
use Rattle.std.proofs.Common.{◌≡◌, ℕ, ◌+◌, ◌<◌, List, [], ◌∷◌, ◌++◌, length, take, get_or, refl, sym, ap, subst, ◌∙◌, append_assoc, inl, inr, arith}
use Rattle.std.specs.Prelude.{◌↔◌, IsTrue, Bool, false, max, slice_range}
use Rattle.std.proofs.lemmas.List.{length-append, append-nil, take_more}
use Rattle.wasm_sections.specs.declared.id.SectionId.{SectionId}
use Rattle.wasm_sections.specs.declared.id.SectionId.TheVariants as ids
use Rattle.wasm_sections.specs.declared.section.Section.{Section}
use Rattle.wasm_sections.specs.Id.{id_code, rank_of}
use Rattle.wasm_sections.specs.Section.{BeginsWithName, AreFinal, section_parts_of, preamble, SpellsModule}
use Rattle.wasm_sections.specs.Debug.{IsDebugName, NamesPlaces, IsDebug, AreKept, bytes_of_sections, IsWithoutDebug}
use Rattle.wasm_sections.specs.Reader.{IsPut, ArePut}
use Rattle.wasm_sections.specs.lemmas.PieceLemmas.{Piece, code_of, joined, AreCounted, AreSorted, part, parts, contents_at, end_at}
use Rattle.wasm_sections.specs.lemmas.PieceLemmas.{all_placed, range_is, of_module, of_pieces, module_parts, length-code}
use Rattle.wasm_sections.proofs.CountedLemmas.{one_name}

-- ---- names

pub names_places : (contents name : List ℕ) (r : Bool) → BeginsWithName contents name → IsTrue r ↔ IsDebugName name → IsTrue r ↔ NamesPlaces contents
names_places contents name r n h = (
  λ t. record { name = name; named = n; debug = h.0 t },
  λ p. h.1 (subst IsDebugName (one_name contents p.name name p.named n) p.debug),
)

pub nameless : (contents : List ℕ) → ((name : List ℕ) → BeginsWithName contents name → ⊥) → IsTrue false ↔ NamesPlaces contents
nameless contents none = (λ t. absurd cc, λ p. absurd (none p.name p.named))

-- ---- one section behind others

dropped : (bytes : List ℕ) (ss kept : List Section) (s : Section) → AreKept bytes ss kept → IsDebug bytes s → AreKept bytes (ss ++ s ∷ []) kept
dropped bytes [] kept s a is = inl (is, a)
dropped bytes (x ∷ ss) kept s (inl p) is = inl (p.0, dropped bytes ss kept s p.1 is)
dropped bytes (x ∷ ss) kept s (inr p) is = inr (p.0, p.1, p.2, dropped bytes ss p.1 s p.3 is)

left : (bytes : List ℕ) (ss kept : List Section) (s : Section) → AreKept bytes ss kept → (IsDebug bytes s → ⊥) →
    AreKept bytes (ss ++ s ∷ []) (kept ++ s ∷ [])
left bytes [] kept s a other = inr (other, [], ap (λ (l : List Section). l ++ s ∷ []) a, refl)
left bytes (x ∷ ss) kept s (inl p) other = inl (p.0, left bytes ss kept s p.1 other)
left bytes (x ∷ ss) kept s (inr p) other =
    inr (p.0, p.1 ++ s ∷ [], ap (λ (l : List Section). l ++ s ∷ []) p.2, left bytes ss p.1 s p.3 other)

bytes_more : (bytes : List ℕ) (kept : List Section) (s : Section) →
    bytes_of_sections bytes (kept ++ s ∷ []) ≡ bytes_of_sections bytes kept ++ slice_range bytes s.start s.end
bytes_more bytes [] s = append-nil (slice_range bytes s.start s.end)
bytes_more bytes (x ∷ kept) s =
    let here = slice_range bytes x.start x.end in
    ap (λ (l : List ℕ). here ++ l) (bytes_more bytes kept s) ∙ sym (append_assoc here (bytes_of_sections bytes kept) (slice_range bytes s.start s.end))

put_more : (bytes : List ℕ) (ss : List Section) (s : Section) (old middle new : List ℕ) → ArePut bytes ss old middle → IsPut bytes s middle new →
    ArePut bytes (ss ++ s ∷ []) old new
put_more bytes ss s old middle new w (inl p) = record {
  kept = w.kept;
  are = dropped bytes ss w.kept s w.are p.0;
  written = p.1 ∙ w.written;
}
put_more bytes ss s old middle new w (inr p) =
    let here = slice_range bytes s.start s.end in
    record {
      kept = w.kept ++ s ∷ [];
      are = left bytes ss w.kept s w.are p.0;
      written = p.1 ∙ ap (λ (l : List ℕ). l ++ here) w.written ∙ append_assoc old (bytes_of_sections bytes w.kept) here
          ∙ ap (λ (l : List ℕ). old ++ l) (sym (bytes_more bytes w.kept s));
    }

pub put_next : (bytes : List ℕ) (ss : List Section) (i : ℕ) (d : Section) (old middle new : List ℕ) → i < length ss →
    ArePut bytes (take i ss) old middle → IsPut bytes (get_or ss i d) middle new → ArePut bytes (take (i + 1) ss) old new
put_next bytes ss i d old middle new lt w p = rw (take_more ss i d lt) (put_more bytes (take i ss) (get_or ss i d) old middle new w p)

-- ---- the pieces that are kept

record ArePieces (bytes : List ℕ) (xs : List Piece) (kept : List Section) : Type 0 where
  pub pieces : List Piece
  pub bytes_are : bytes_of_sections bytes kept ≡ joined pieces
  pub are : section_parts_of bytes kept ≡ parts pieces
  pub counted : AreCounted xs → AreCounted pieces
  pub sorted : (last : ℕ) → AreSorted last xs → AreSorted last pieces
  pub final : AreFinal (parts xs) → AreFinal (parts pieces)

pub piece_len : (before : List ℕ) (x : Piece) (start : ℕ) → length before ≡ start → length (before ++ code_of x) ≡ end_at start x
piece_len before x start f = omega (arith, length-append before (code_of x), length-code x, f)

contents_are : (bytes before : List ℕ) (x : Piece) (xs : List Piece) (start : ℕ) → bytes ≡ before ++ (code_of x ++ joined xs) → length before ≡ start →
    slice_range bytes (contents_at start x) (end_at start x) ≡ x.contents
contents_are bytes before x xs start e f =
    let head = before ++ id_code x.id ∷ x.size in
    let at : bytes ≡ head ++ (x.contents ++ joined xs) = e ∙ simp append_assoc in
    let len : length head ≡ contents_at start x = omega (arith, length-append before (id_code x.id ∷ x.size), f) in
    range_is bytes head x.contents (joined xs) (contents_at start x) (end_at start x) at len refl

pub code_is : (bytes before : List ℕ) (x : Piece) (xs : List Piece) (start : ℕ) → bytes ≡ before ++ (code_of x ++ joined xs) → length before ≡ start →
    slice_range bytes start (end_at start x) ≡ code_of x
code_is bytes before x xs start e f = range_is bytes before (code_of x) (joined xs) start (end_at start x) e f (omega (arith, length-code x))

no_rank : (id : SectionId) (last : ℕ) → id ≡ ids.Custom → max last (rank_of id) ≡ last
no_rank id last e = let zero_rank : rank_of id ≡ 0 = ap rank_of e in omega (arith, zero_rank)

kept_pieces : (bytes before : List ℕ) (xs : List Piece) (start : ℕ) (kept : List Section) → bytes ≡ before ++ joined xs → length before ≡ start →
    AreKept bytes (all_placed start xs) kept → ArePieces bytes xs kept
kept_pieces bytes before [] start kept e f k = record {
  pieces = [];
  bytes_are = ap (bytes_of_sections bytes) k;
  are = ap (section_parts_of bytes) k;
  counted = λ c. c;
  sorted = λ last o. o;
  final = λ g. g;
}
kept_pieces bytes before (x ∷ xs) start kept e f (inl p) =
    let r = kept_pieces bytes (before ++ code_of x) xs (end_at start x) kept (e ∙ sym (append_assoc before (code_of x) (joined xs)))
    (piece_len before x start f) p.1 in
    record {
      pieces = r.pieces;
      bytes_are = r.bytes_are;
      are = r.are;
      counted = λ c. r.counted c.1;
      sorted = λ last o. r.sorted last (subst (λ (n : ℕ). AreSorted n xs) (no_rank x.id last p.0.0) o.1);
      final = λ g. r.final g.1;
    }
kept_pieces bytes before (x ∷ xs) start kept e f (inr p) =
    let r = kept_pieces bytes (before ++ code_of x) xs (end_at start x) p.1 (e ∙ sym (append_assoc before (code_of x) (joined xs)))
    (piece_len before x start f) p.3 in
    record {
      pieces = x ∷ r.pieces;
      bytes_are = ap (bytes_of_sections bytes) p.2 ∙ ap (λ (l : List ℕ). l ++ bytes_of_sections bytes p.1) (code_is bytes before x xs start e f)
          ∙ ap (λ (l : List ℕ). code_of x ++ l) r.bytes_are;
      are = ap (section_parts_of bytes) p.2 ∙ ap (λ (l : List ℕ). (x.id, l) ∷ section_parts_of bytes p.1) (contents_are bytes before x xs start e f)
          ∙ ap (λ (l : List (SectionId × List ℕ)). part x ∷ l) r.are;
      counted = λ c. (c.0, r.counted c.1);
      sorted = λ last o. (o.0, r.sorted (max last (rank_of x.id)) o.1);
      final = λ g. (g.0, r.final g.1);
    }

pub without : (bytes new : List ℕ) (ss : List Section) → SpellsModule bytes ss → ArePut bytes ss preamble new → IsWithoutDebug bytes ss new
without bytes new ss m w =
    let v = of_module bytes ss m in
    let r = kept_pieces bytes preamble v.pieces 8 w.kept v.bytes_are refl (subst (λ (l : List Section). AreKept bytes l w.kept) v.are w.are) in
    let e : new ≡ preamble ++ joined r.pieces = w.written ∙ ap (λ (l : List ℕ). preamble ++ l) r.bytes_are in
    let spells : SpellsModule new (all_placed 8 r.pieces) = subst (λ (b : List ℕ). SpellsModule b (all_placed 8 r.pieces)) (sym e)
    (of_pieces r.pieces (r.counted v.counted) (r.sorted 0 v.sorted) (r.final v.final)) in
    record {
      kept = w.kept;
      are = w.are;
      written = w.written;
      spells = record { sections = all_placed 8 r.pieces; spells = spells; are = module_parts new r.pieces e ∙ sym r.are };
    }
