-- What the sections of a module list, by the pieces that spell it.
use Rattle.std.proofs.Common.{◌≡◌, ◌⊎◌, inl, inr, ℕ, ◌+◌, ◌<◌, ◌≤◌, List, [], ◌∷◌, ◌++◌, length, refl, sym, ap, subst, ◌∙◌, arith}
use Rattle.std.specs.Prelude.{max, slice_range}
use Rattle.wasm_sections.specs.declared.id.SectionId.{SectionId}
use Rattle.wasm_sections.specs.declared.section.Section.{Section}
use Rattle.wasm_sections.specs.Id.{rank_of}
use Rattle.wasm_sections.specs.Section.{section_parts_of}
use Rattle.wasm_sections.specs.Find.{LackId, IsFirstWith}
use Rattle.wasm_sections.specs.lemmas.PieceLemmas.{Piece, joined, AreSorted, contents_at, end_at, placed, all_placed, part, parts, last_of, sorted_cut, end_is}
use Rattle.wasm_module.specs.Module.{Holds}

-- the first piece with the id, of pieces the first of which has that offset, spells the value, or there is none and the value is `none`
abbrev pub HeldBy : {X : Type 0} → (none : X) → (ℕ → List ℕ → X → Type 0) → (start : ℕ) → List Piece → SectionId → X → Type 0
HeldBy none Spells start [] id x = x ≡ none
HeldBy none Spells start (p ∷ ps) id x =
    ((p.id ≡ id) × Spells (contents_at start p) p.contents x) ⊎ ((p.id ≡ id → ⊥) × HeldBy none Spells (end_at start p) ps id x)

-- none of the pieces has the id
abbrev pub LackPiece : List Piece → SectionId → Type 0
LackPiece [] id = Unit {0}
LackPiece (p ∷ ps) id = (p.id ≡ id → ⊥) × LackPiece ps id

-- ---- sections and pieces

heads : (s z : Section) (ss zs : List Section) → s ∷ ss ≡ z ∷ zs → (s ≡ z) × (ss ≡ zs)
heads s z ss zs e = (cc, cc)

split_parts : (a b : SectionId × List ℕ) (ps qs : List (SectionId × List ℕ)) → a ∷ ps ≡ b ∷ qs → (a ≡ b) × (ps ≡ qs)
split_parts a b ps qs e = (cc, cc)

module _ {X : Type 0} (none : X) (Spells : ℕ → List ℕ → X → Type 0) (bytes : List ℕ) (id : SectionId) (x : X) where
  lacking : (ps : List Piece) (start : ℕ) → LackId (all_placed start ps) id → x ≡ none → HeldBy none Spells start ps id x
  lacking [] start lack e = e
  lacking (p ∷ ps) start lack e = inr (lack.0, lacking ps (end_at start p) lack.1 e)

  found : (ps : List Piece) (start : ℕ) (before after : List Section) (s : Section) → section_parts_of bytes (all_placed start ps) ≡ parts ps →
      all_placed start ps ≡ before ++ s ∷ after → s.id ≡ id → LackId before id → Spells s.contents (slice_range bytes s.contents s.end) x
      → HeldBy none Spells start ps id x
  found [] start [] after s same e is lack spells = absurd cc
  found [] start (y ∷ before) after s same e is lack spells = absurd cc
  found (p ∷ ps) start [] after s same e is lack spells =
      let h = (heads (placed start p) s (all_placed (end_at start p) ps) after e).0 in
      let here = subst (λ (z : Section). Spells z.contents (slice_range bytes z.contents z.end) x) (sym h) spells in
      let text = ap (λ (q : SectionId × List ℕ). q.1) (split_parts _ (part p) _ (parts ps) same).0 in
      inl (ap (λ (z : Section). z.id) h ∙ is, subst (λ (l : List ℕ). Spells (contents_at start p) l x) text here)
  found (p ∷ ps) start (y ∷ before) after s same e is lack spells =
      let h = heads (placed start p) y (all_placed (end_at start p) ps) (before ++ s ∷ after) e in
      inr (
        λ here. lack.0 (ap (λ (z : Section). z.id) (sym h.0) ∙ here),
        found ps (end_at start p) before after s (split_parts _ (part p) _ (parts ps) same).1 h.1 is lack.1 spells,
      )

  pub held : (ps : List Piece) (start : ℕ) (ss : List Section) → section_parts_of bytes (all_placed start ps) ≡ parts ps → ss ≡ all_placed start ps →
      Holds none Spells bytes ss id x → HeldBy none Spells start ps id x
  held ps start ss same e (inl h) = found ps start h.1.before h.1.behind h.0 same (sym e ∙ h.1.parts) h.1.has h.1.none h.2
  held ps start ss same e (inr h) = lacking ps start (subst (λ (l : List Section). LackId l id) e h.0) h.1

  pub next_holds : (s : Section) (ss : List Section) → (s.id ≡ id → ⊥) → Holds none Spells bytes ss id x → Holds none Spells bytes (s ∷ ss) id x
  next_holds s ss differ (inl h) = inl (
    h.0,
    record {
      before = s ∷ h.1.before;
      behind = h.1.behind;
      parts = ap (λ (l : List Section). s ∷ l) h.1.parts;
      has = h.1.has;
      none = (differ, h.1.none);
    },
    h.2,
  )
  next_holds s ss differ (inr h) = inr ((differ, h.0), h.1)

  pub holds : (ps : List Piece) (start : ℕ) → section_parts_of bytes (all_placed start ps) ≡ parts ps → HeldBy none Spells start ps id x →
      Holds none Spells bytes (all_placed start ps) id x
  holds [] start same h = inr (tt, h)
  holds (p ∷ ps) start same (inl h) =
      let text = ap (λ (q : SectionId × List ℕ). q.1) (split_parts _ (part p) _ (parts ps) same).0 in
      inl (
        placed start p,
        record { before = []; behind = all_placed (end_at start p) ps; parts = refl; has = h.0; none = tt },
        subst (λ (l : List ℕ). Spells (contents_at start p) l x) (sym text) h.1,
      )
  holds (p ∷ ps) start same (inr h) =
      next_holds (placed start p) (all_placed (end_at start p) ps) h.0 (holds ps (end_at start p) (split_parts _ (part p) _ (parts ps) same).1 h.1)

  -- ---- pieces in place of others

  pub held_none : (ps : List Piece) (start : ℕ) → LackPiece ps id → HeldBy none Spells start ps id x → x ≡ none
  held_none [] start lack h = h
  held_none (p ∷ ps) start lack (inl h) = absurd (lack.0 h.0)
  held_none (p ∷ ps) start lack (inr h) = held_none ps (end_at start p) lack.1 h.1

  none_held : (ps : List Piece) (start : ℕ) → LackPiece ps id → x ≡ none → HeldBy none Spells start ps id x
  none_held [] start lack e = e
  none_held (p ∷ ps) start lack e = inr (lack.0, none_held ps (end_at start p) lack.1 e)

  -- what stands in front is held whatever follows that lacks the id
  pub held_before : (u v w : List Piece) (start : ℕ) → LackPiece v id → LackPiece w id → HeldBy none Spells start (u ++ v) id x →
      HeldBy none Spells start (u ++ w) id x
  held_before [] v w start lack other h = none_held w start other (held_none v start lack h)
  held_before (p ∷ u) v w start lack other (inl h) = inl h
  held_before (p ∷ u) v w start lack other (inr h) = inr (h.0, held_before u v w (end_at start p) lack other h.1)

  -- what one piece spells
  pub held_at : (u w : List Piece) (p : Piece) (start : ℕ) → p.id ≡ id → LackPiece u id → HeldBy none Spells start (u ++ p ∷ w) id x →
      Spells (contents_at (start + length (joined u)) p) p.contents x
  held_at [] w p start is lack (inl h) = subst (λ (n : ℕ). Spells (contents_at n p) p.contents x) (omega arith) h.1
  held_at [] w p start is lack (inr h) = absurd (h.0 is)
  held_at (q ∷ u) w p start is lack (inl h) = absurd (lack.0 h.0)
  held_at (q ∷ u) w p start is lack (inr h) =
      subst (λ (n : ℕ). Spells (contents_at n p) p.contents x) (end_is start q u) (held_at u w p (end_at start q) is lack.1 h.1)

  pub held_there : (u w : List Piece) (p : Piece) (start : ℕ) → p.id ≡ id → LackPiece u id →
      Spells (contents_at (start + length (joined u)) p) p.contents x → HeldBy none Spells start (u ++ p ∷ w) id x
  held_there [] w p start is lack s =
      let same : start + length (joined []) ≡ start = omega arith in inl (is, subst (λ (n : ℕ). Spells (contents_at n p) p.contents x) same s)
  held_there (q ∷ u) w p start is lack s = inr (
    lack.0,
    held_there u w p (end_at start q) is lack.1 (subst (λ (n : ℕ). Spells (contents_at n p) p.contents x) (sym (end_is start q u)) s),
  )

-- where the first piece with the id is placed
pub first_placed : (id : SectionId) (u w : List Piece) (p : Piece) (start : ℕ) → p.id ≡ id → LackPiece u id →
    IsFirstWith (all_placed start (u ++ p ∷ w)) id (placed (start + length (joined u)) p)
first_placed id [] w p start is lack =
    let same : start + length (joined []) ≡ start = omega arith in
    subst (λ (n : ℕ). IsFirstWith (all_placed start (p ∷ w)) id (placed n p)) (sym same)
    (record { before = []; behind = all_placed (end_at start p) w; parts = refl; has = is; none = tt })
first_placed id (q ∷ u) w p start is lack =
    let r = subst (λ (n : ℕ). IsFirstWith (all_placed (end_at start q) (u ++ p ∷ w)) id (placed n p)) (end_is start q u)
    (first_placed id u w p (end_at start q) is lack.1) in
    record {
      before = placed start q ∷ r.before;
      behind = r.behind;
      parts = ap (λ (l : List Section). placed start q ∷ l) r.parts;
      has = r.has;
      none = (lack.0, r.none);
    }

-- ---- pieces in their order

-- a piece stands behind one with a smaller rank
sorted_behind : (u w : List Piece) (p : Piece) (last : ℕ) → AreSorted last (u ++ p ∷ w) → 0 < rank_of p.id → last < rank_of p.id
sorted_behind [] w p last o some = o.0 some
sorted_behind (q ∷ u) w p last o some = let lt = sorted_behind u w p (max last (rank_of q.id)) o.1 some in omega (arith, lt)

-- before a piece with a rank none has its id
pub lacks_before : (u w : List Piece) (p : Piece) (last : ℕ) → AreSorted last (u ++ p ∷ w) → 0 < rank_of p.id → LackPiece u p.id
lacks_before [] w p last o some = tt
lacks_before (q ∷ u) w p last o some =
    let lt = sorted_behind u w p (max last (rank_of q.id)) o.1 some in (
      λ same. absurd (omega (arith, lt, ap rank_of same)),
      lacks_before u w p (max last (rank_of q.id)) o.1 some,
    )

lacks_behind : (w : List Piece) (last : ℕ) (id : SectionId) → AreSorted last w → 0 < rank_of id → rank_of id ≤ last → LackPiece w id
lacks_behind [] last id o some le = tt
lacks_behind (q ∷ w) last id o some le = (
  λ same.
      let rank = ap rank_of same in
      let lt = o.0 (omega (arith, rank, some)) in
      absurd (omega (arith, lt, rank, le)),
  lacks_behind w (max last (rank_of q.id)) id o.1 some (omega arith),
)

-- from a piece on none has an id of a smaller rank
pub lacks_from : (u w : List Piece) (p : Piece) (last : ℕ) (id : SectionId) → AreSorted last (u ++ p ∷ w) → 0 < rank_of id → rank_of id < rank_of p.id →
    LackPiece (p ∷ w) id
lacks_from u w p last id o some lt =
    let c = (sorted_cut u (p ∷ w) last o).1 in (
      λ same. absurd (omega (arith, lt, ap rank_of same)),
      lacks_behind w (max (last_of last u) (rank_of p.id)) id c.1 some (omega (arith, lt)),
    )

-- a piece of the same id in place of one
pub lacks_again : (u w : List Piece) (p q : Piece) (id : SectionId) → p.id ≡ q.id → LackPiece (u ++ p ∷ w) id → LackPiece (u ++ q ∷ w) id
lacks_again [] w p q id e lack = (λ same. lack.0 (e ∙ same), lack.1)
lacks_again (y ∷ u) w p q id e lack = (lack.0, lacks_again u w p q id e lack.1)

pub lacks_pieces : (ps : List Piece) (start : ℕ) (id : SectionId) → LackId (all_placed start ps) id → LackPiece ps id
lacks_pieces [] start id lack = tt
lacks_pieces (p ∷ ps) start id lack = (lack.0, lacks_pieces ps (end_at start p) id lack.1)
