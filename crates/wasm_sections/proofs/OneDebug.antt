-- A module without its custom sections that name places in the code: none of them is left, and there is one such module alone.
use Rattle.std.proofs.Common.{◌≡◌, ℕ, zero, suc, ◌<◌, List, [], ◌∷◌, ◌++◌, length, get_or, refl, sym, ap, subst, ◌∙◌, append_assoc, inl, inr, arith}
use Rattle.std.specs.Prelude.{slice_range}
use Rattle.wasm_sections.specs.declared.id.SectionId.{SectionId}
use Rattle.wasm_sections.specs.declared.id.SectionId.TheVariants as ids
use Rattle.wasm_sections.specs.declared.section.Section.{Section}
use Rattle.wasm_sections.specs.Section.{section_parts_of, preamble, SpellsModule}
use Rattle.wasm_sections.specs.Find.{LackId, IsFirstWith}
use Rattle.wasm_sections.specs.Laws.{HasFirst}
use Rattle.wasm_sections.specs.Debug.{NamesPlaces, IsDebug, AreKept, bytes_of_sections, IsWithoutDebug}
use Rattle.wasm_sections.specs.lemmas.PieceLemmas.{Piece, code_of, joined, end_at, all_placed, of_module}
use Rattle.wasm_sections.proofs.DebugLemmas.{piece_len, code_is}
use Rattle.wasm_sections.proofs.OneModule.{one_module}

-- ---- one alone

one_kept : (bytes : List ℕ) (ss kept others : List Section) → AreKept bytes ss kept → AreKept bytes ss others → kept ≡ others
one_kept bytes [] kept others p q = p ∙ sym q
one_kept bytes (s ∷ ss) kept others (inl p) (inl q) = one_kept bytes ss kept others p.1 q.1
one_kept bytes (s ∷ ss) kept others (inl p) (inr q) = absurd (q.0 p.0)
one_kept bytes (s ∷ ss) kept others (inr p) (inl q) = absurd (p.0 q.0)
one_kept bytes (s ∷ ss) kept others (inr p) (inr q) = p.2 ∙ ap (λ (l : List Section). s ∷ l) (one_kept bytes ss p.1 q.1 p.3 q.3) ∙ sym q.2

pub one_without : (bytes one other : List ℕ) (ss : List Section) → IsWithoutDebug bytes ss one → IsWithoutDebug bytes ss other → one ≡ other
one_without bytes one other ss p q =
    p.written ∙ ap (λ (l : List Section). preamble ++ bytes_of_sections bytes l) (one_kept bytes ss p.kept q.kept p.are q.are) ∙ sym q.written

-- ---- none is left

abbrev AreOthers : List (SectionId × List ℕ) → Type 0
AreOthers [] = Unit {0}
AreOthers (p ∷ ps) = ((p.0 ≡ ids.Custom) × NamesPlaces p.1 → ⊥) × AreOthers ps

kept_others : (bytes : List ℕ) (ss kept : List Section) → AreKept bytes ss kept → AreOthers (section_parts_of bytes kept)
kept_others bytes [] kept k = subst (λ (l : List Section). AreOthers (section_parts_of bytes l)) (sym k) tt
kept_others bytes (s ∷ ss) kept (inl p) = kept_others bytes ss kept p.1
kept_others bytes (s ∷ ss) kept (inr p) = subst (λ (l : List Section). AreOthers (section_parts_of bytes l)) (sym p.2) (p.0, kept_others bytes ss p.1 p.3)

others_at : (bytes : List ℕ) (ss : List Section) → AreOthers (section_parts_of bytes ss) → (k : ℕ) (d : Section) → k < length ss →
    IsDebug bytes (get_or ss k d) → ⊥
others_at bytes [] o k d lt = absurd (omega (arith, lt))
others_at bytes (s ∷ ss) o zero d lt = o.0
others_at bytes (s ∷ ss) o (suc k) d lt = others_at bytes ss o.1 k d (omega (arith, lt))

pub none_left : (bytes new : List ℕ) (ss left : List Section) → IsWithoutDebug bytes ss new → SpellsModule new left → (k : ℕ) (d : Section) →
    k < length left → IsDebug new (get_or left k d) → ⊥
none_left bytes new ss left w m k d lt =
    let same : section_parts_of new left ≡ section_parts_of bytes w.kept =
    ap (section_parts_of new) (one_module new left w.spells.sections m w.spells.spells) ∙ w.spells.are in
    others_at new left (subst AreOthers (sym same) (kept_others bytes ss w.kept w.are)) k d lt

-- ---- where there is none

all_kept : (bytes : List ℕ) (ss kept : List Section) → AreKept bytes ss kept → ((k : ℕ) (d : Section) → k < length ss → IsDebug bytes (get_or ss k d) → ⊥) →
    kept ≡ ss
all_kept bytes [] kept k none = k
all_kept bytes (s ∷ ss) kept (inl p) none = absurd (none zero s (omega arith) p.0)
all_kept bytes (s ∷ ss) kept (inr p) none =
    p.2 ∙ ap (λ (l : List Section). s ∷ l) (all_kept bytes ss p.1 p.3 (λ k d lt. none (suc k) d (omega (arith, lt))))

all_bytes : (bytes before : List ℕ) (xs : List Piece) (start : ℕ) → bytes ≡ before ++ joined xs → length before ≡ start →
    bytes_of_sections bytes (all_placed start xs) ≡ joined xs
all_bytes bytes before [] start e f = refl
all_bytes bytes before (x ∷ xs) start e f =
    let behind = bytes_of_sections bytes (all_placed (end_at start x) xs) in
    ap (λ (l : List ℕ). l ++ behind) (code_is bytes before x xs start e f)
    ∙ ap (λ (l : List ℕ). code_of x ++ l) (all_bytes bytes (before ++ code_of x) xs (end_at start x)
    (e ∙ sym (append_assoc before (code_of x) (joined xs))) (piece_len before x start f))

pub unchanged : (bytes new : List ℕ) (ss : List Section) → SpellsModule bytes ss →
    ((k : ℕ) (d : Section) → k < length ss → IsDebug bytes (get_or ss k d) → ⊥) → IsWithoutDebug bytes ss new → new ≡ bytes
unchanged bytes new ss m none w =
    let v = of_module bytes ss m in
    w.written ∙ ap (λ (l : List Section). preamble ++ bytes_of_sections bytes l) (all_kept bytes ss w.kept w.are none ∙ v.are)
    ∙ ap (λ (l : List ℕ). preamble ++ l) (all_bytes bytes preamble v.pieces 8 v.bytes_are refl) ∙ sym v.bytes_are

-- ---- the other sections

abbrev Part : Type 0
Part = SectionId × List ℕ

same_parts : (a b : Part) (xs ys : List Part) → a ∷ xs ≡ b ∷ ys → (a ≡ b) × (xs ≡ ys)
same_parts a b xs ys e = (cc, cc)

same_first : (a b : Part) (xs ys : List Part) → a ∷ xs ≡ b ∷ ys → (a.0 ≡ b.0) × (a.1 ≡ b.1) × (xs ≡ ys)
same_first a b xs ys e = let f = same_parts a b xs ys e in (ap (λ (p : Part). p.0) f.0, ap (λ (p : Part). p.1) f.0, f.1)

not_empty : (b : Part) (ys : List Part) → [] ≡ b ∷ ys → ⊥
not_empty b ys e = cc

kept_lack : (bytes : List ℕ) (ss kept : List Section) (id : SectionId) → AreKept bytes ss kept → LackId ss id → LackId kept id
kept_lack bytes [] kept id k lack = subst (λ (l : List Section). LackId l id) (sym k) tt
kept_lack bytes (s ∷ ss) kept id (inl p) lack = kept_lack bytes ss kept id p.1 lack.1
kept_lack bytes (s ∷ ss) kept id (inr p) lack =
    subst (λ (l : List Section). LackId l id) (sym p.2) (lack.0, kept_lack bytes ss p.1 id p.3 lack.1)

parts_lack : (bytes new : List ℕ) (left kept : List Section) (id : SectionId) → section_parts_of new left ≡ section_parts_of bytes kept →
    LackId kept id → LackId left id
parts_lack bytes new [] kept id e lack = tt
parts_lack bytes new (t ∷ left) [] id e lack = absurd (not_empty (t.id, slice_range new t.contents t.end) (section_parts_of new left) (sym e))
parts_lack bytes new (t ∷ left) (s ∷ kept) id e lack =
    let f = same_first (t.id, slice_range new t.contents t.end) (
      s.id,
      slice_range bytes s.contents s.end,
    ) (section_parts_of new left) (section_parts_of bytes kept) e in
    (λ is. lack.0 (sym f.0 ∙ is), parts_lack bytes new left kept id f.2 lack.1)

first_kept : (bytes : List ℕ) (before behind kept : List Section) (s : Section) (id : SectionId) → AreKept bytes (before ++ s ∷ behind) kept →
    LackId before id → s.id ≡ id → (id ≡ ids.Custom → ⊥) → IsFirstWith kept id s
first_kept bytes [] behind kept s id (inl p) none has other = absurd (other (sym has ∙ p.0.0))
first_kept bytes [] behind kept s id (inr p) none has other = record { before = []; behind = p.1; parts = p.2; has = has; none = tt }
first_kept bytes (x ∷ before) behind kept s id (inl p) none has other = first_kept bytes before behind kept s id p.1 none.1 has other
first_kept bytes (x ∷ before) behind kept s id (inr p) none has other =
    let r = first_kept bytes before behind p.1 s id p.3 none.1 has other in
    record {
      before = x ∷ r.before;
      behind = r.behind;
      parts = p.2 ∙ ap (λ (l : List Section). x ∷ l) r.parts;
      has = r.has;
      none = (none.0, r.none);
    }

first_part : (bytes new : List ℕ) (left before behind : List Section) (s : Section) (id : SectionId) →
    section_parts_of new left ≡ section_parts_of bytes (before ++ s ∷ behind) → LackId before id → s.id ≡ id
    → HasFirst new left id (slice_range bytes s.contents s.end)
first_part bytes new [] [] behind s id e none has =
    absurd (not_empty (s.id, slice_range bytes s.contents s.end) (section_parts_of bytes behind) e)
first_part bytes new [] (x ∷ before) behind s id e none has =
    absurd (not_empty (x.id, slice_range bytes x.contents x.end) (section_parts_of bytes (before ++ s ∷ behind)) e)
first_part bytes new (t ∷ left) [] behind s id e none has =
    let f = same_first (t.id, slice_range new t.contents t.end) (
      s.id,
      slice_range bytes s.contents s.end,
    ) (section_parts_of new left) (section_parts_of bytes behind) e in
    record { s = t; first = record { before = []; behind = left; parts = refl; has = f.0 ∙ has; none = tt }; contains = f.1 }
first_part bytes new (t ∷ left) (x ∷ before) behind s id e none has =
    let f = same_first (t.id, slice_range new t.contents t.end) (x.id, slice_range bytes x.contents x.end) (section_parts_of new left)
    (section_parts_of bytes (before ++ s ∷ behind)) e in
    let r = first_part bytes new left before behind s id f.2 none.1 has in
    record {
      s = r.s;
      first = record {
        before = t ∷ r.first.before;
        behind = r.first.behind;
        parts = ap (λ (l : List Section). t ∷ l) r.first.parts;
        has = r.first.has;
        none = (λ is. none.0 (sym f.0 ∙ is), r.first.none);
      };
      contains = r.contains;
    }

left_parts : (bytes new : List ℕ) (ss left : List Section) → (w : IsWithoutDebug bytes ss new) → SpellsModule new left →
    section_parts_of new left ≡ section_parts_of bytes w.kept
left_parts bytes new ss left w m = ap (section_parts_of new) (one_module new left w.spells.sections m w.spells.spells) ∙ w.spells.are

pub still_none : (bytes new : List ℕ) (ss left : List Section) (id : SectionId) → IsWithoutDebug bytes ss new → SpellsModule new left → LackId ss id →
    LackId left id
still_none bytes new ss left id w m lack =
    parts_lack bytes new left w.kept id (left_parts bytes new ss left w m) (kept_lack bytes ss w.kept id w.are lack)

pub still_first : (bytes new contents : List ℕ) (ss left : List Section) (id : SectionId) → IsWithoutDebug bytes ss new → SpellsModule new left →
    (id ≡ ids.Custom → ⊥) → HasFirst bytes ss id contents → HasFirst new left id contents
still_first bytes new contents ss left id w m other h =
    let f = h.first in
    let k = first_kept bytes f.before f.behind w.kept h.s id (subst (λ (l : List Section). AreKept bytes l w.kept) f.parts w.are) f.none f.has other in
    let e : section_parts_of new left ≡ section_parts_of bytes (k.before ++ h.s ∷ k.behind) =
    left_parts bytes new ss left w m ∙ ap (section_parts_of bytes) k.parts in
    subst (HasFirst new left id) h.contains (first_part bytes new left k.before k.behind h.s id e k.none k.has)
