-- Sections by their id: at most one is found, and those of smaller ranks end before those of greater ones start.
use Rattle.std.proofs.Common.{◌≡◌, inl, inr, ℕ, ◌<◌, ◌≤◌, List, [], ◌∷◌, ◌++◌, sym, ap, subst, ◌∙◌, arith}
use Rattle.std.specs.Prelude.{max, slice_range}
use Rattle.wasm_sections.specs.declared.section.Section.{Section}
use Rattle.wasm_sections.specs.declared.id.SectionId.{SectionId}
use Rattle.wasm_sections.specs.Id.{rank_of}
use Rattle.wasm_sections.specs.Section.{AreInOrder}
use Rattle.wasm_sections.specs.Laws.{AreJoined}
use Rattle.wasm_sections.specs.Find.{LackId, IsFirstWith, end_of, AreBefore, IsPlaceOf}
use Rattle.wasm_module.specs.Module.{Holds}

-- ---- the first section with an id

pub head_is : (s t : Section) (ss ts : List Section) → s ∷ ss ≡ t ∷ ts → s ≡ t
head_is s t ss ts e = cc

pub tail_is : (s t : Section) (ss ts : List Section) → s ∷ ss ≡ t ∷ ts → ss ≡ ts
tail_is s t ss ts e = cc

firsts : (id : SectionId) (s t : Section) (before before' behind behind' : List Section) → before ++ s ∷ behind ≡ before' ++ t ∷ behind' → s.id ≡ id →
    t.id ≡ id → LackId before id → LackId before' id
    → s ≡ t
firsts id s t [] [] behind behind' e p q m n = head_is s t behind behind' e
firsts id s t [] (x ∷ before') behind behind' e p q m n = absurd (n.0 (ap (λ (z : Section). z.id) (sym (head_is s x behind (before' ++ t ∷ behind') e)) ∙ p))
firsts id s t (x ∷ before) [] behind behind' e p q m n = absurd (m.0 (ap (λ (z : Section). z.id) (head_is x t (before ++ s ∷ behind) behind' e) ∙ q))
firsts id s t (x ∷ before) (y ∷ before') behind behind' e p q m n =
    firsts id s t before before' behind behind' (tail_is x y (before ++ s ∷ behind) (before' ++ t ∷ behind') e) p q m.1 n.1

pub first_unique : (ss : List Section) (id : SectionId) (s t : Section) → IsFirstWith ss id s → IsFirstWith ss id t → s ≡ t
first_unique ss id s t p q = firsts id s t p.before q.before p.behind q.behind (sym p.parts ∙ q.parts) p.has q.has p.none q.none

lacks_none : (before behind : List Section) (s : Section) (id : SectionId) → LackId (before ++ s ∷ behind) id → s.id ≡ id → ⊥
lacks_none [] behind s id l e = l.0 e
lacks_none (x ∷ before) behind s id l e = lacks_none before behind s id l.1 e

pub not_lacking : (ss : List Section) (id : SectionId) (s : Section) → IsFirstWith ss id s → LackId ss id → ⊥
not_lacking ss id s p l = lacks_none p.before p.behind s id (subst (λ (l : List Section). LackId l id) p.parts l) p.has

-- what a section that is there lists
pub lists_at : {X : Type 0} (none : X) (Spells : ℕ → List ℕ → X → Type 0) (bytes : List ℕ) (ss : List Section) (id : SectionId) (x : X) (s : Section) →
    Holds none Spells bytes ss id x → IsFirstWith ss id s → Spells s.contents (slice_range bytes s.contents s.end) x
lists_at none Spells bytes ss id x s l is =
    elim l [
      | inl p ↦ subst (λ (z : Section). Spells z.contents (slice_range bytes z.contents z.end) x) (first_unique ss id p.0 s p.1 is) p.2
      | inr p ↦ absurd (not_lacking ss id s is p.0)
    ]

-- what a section that isn't there lists
pub lists_nothing : {X : Type 0} (none : X) (Spells : ℕ → List ℕ → X → Type 0) (bytes : List ℕ) (ss : List Section) (id : SectionId) (x : X) →
    Holds none Spells bytes ss id x → LackId ss id → x ≡ none
lists_nothing none Spells bytes ss id x l lack =
    elim l [ inl p ↦ absurd (not_lacking ss id p.0 p.1 lack) | inr p ↦ p.1 ]

-- ---- sections in their order

-- a section stands behind the offset at which those from it on begin
joined_behind : (before behind : List Section) (s : Section) (from to : ℕ) → AreJoined from (before ++ s ∷ behind) to → from ≤ s.start
joined_behind [] behind s from to j = omega (arith, j.0)
joined_behind (x ∷ before) behind s from to j =
    let le : x.end ≤ s.start = joined_behind before behind s x.end to j.3 in
    omega (arith, j.0, j.1, j.2, le)

-- a section stands behind others that have ranks, and its own is greater
pub ordered_behind : (before behind : List Section) (s : Section) (last : ℕ) → AreInOrder last (before ++ s ∷ behind) → 0 < rank_of s.id → last < rank_of s.id
ordered_behind [] behind s last o some = o.0 some
ordered_behind (x ∷ before) behind s last o some =
    let lt : max last (rank_of x.id) < rank_of s.id = ordered_behind before behind s (max last (rank_of x.id)) o.1 some in
    omega arith

ends_before : (before behind before' behind' : List Section) (s t : Section) (last from to : ℕ) → AreInOrder last (before ++ s ∷ behind) →
    AreJoined from (before ++ s ∷ behind) to → before ++ s ∷ behind ≡ before' ++ t ∷ behind'
    → 0 < rank_of s.id → rank_of s.id < rank_of t.id → s.end ≤ t.start
ends_before [] behind [] behind' s t last from to o j e some lt =
    let same = ap (λ (z : Section). rank_of z.id) (head_is s t behind behind' e) in absurd (omega (arith, same))
ends_before [] behind (x ∷ before') behind' s t last from to o j e some lt =
    let rest = subst (λ (l : List Section). AreJoined s.end l to) (tail_is s x behind (before' ++ t ∷ behind') e) j.3 in
    joined_behind before' behind' t s.end to rest
ends_before (x ∷ before) behind [] behind' s t last from to o j e some lt =
    let above : max last (rank_of x.id) < rank_of s.id = ordered_behind before behind s (max last (rank_of x.id)) o.1 some in
    let same = ap (λ (z : Section). rank_of z.id) (head_is x t (before ++ s ∷ behind) behind' e) in
    absurd (omega (arith, same, above))
ends_before (x ∷ before) behind (y ∷ before') behind' s t last from to o j e some lt =
    ends_before before behind before' behind' s t (max last (rank_of x.id)) x.end to o.1
    j.3 (tail_is x y (before ++ s ∷ behind) (before' ++ t ∷ behind') e) some lt

-- of two sections with ranks, the one with the smaller rank ends before the other starts
pub first_before : (ss : List Section) (i k : SectionId) (s t : Section) (to : ℕ) → AreInOrder 0 ss → AreJoined 8 ss to → IsFirstWith ss i s →
    IsFirstWith ss k t → 0 < rank_of i → rank_of i < rank_of k → s.end ≤ t.start
first_before ss i k s t to o j p q some lt =
    let a = ap rank_of p.has in
    let b = ap rank_of q.has in
    ends_before p.before p.behind q.before q.behind s t 0 8 to (subst (AreInOrder 0) p.parts o)
    (subst (λ (l : List Section). AreJoined 8 l to) p.parts j) (sym p.parts ∙ q.parts) (omega (arith, a)) (omega (arith, a, b))

place_from : (before behind before' behind' : List Section) (t : Section) (rank from to : ℕ) → AreBefore rank before → AreJoined from (before ++ behind) to →
    before ++ behind ≡ before' ++ t ∷ behind' → rank < rank_of t.id
    → end_of from before ≤ t.start
place_from [] behind before' behind' t rank from to b j e lt =
    joined_behind before' behind' t from to (subst (λ (l : List Section). AreJoined from l to) e j)
place_from (x ∷ before) behind [] behind' t rank from to b j e lt =
    let same = ap (λ (z : Section). rank_of z.id) (head_is x t (before ++ behind) behind' e) in absurd (omega (arith, same, b.0))
place_from (x ∷ before) behind (y ∷ before') behind' t rank from to b j e lt =
    place_from before behind before' behind' t rank x.end to b.1 j.3 (tail_is x y (before ++ behind) (before' ++ t ∷ behind') e) lt

-- a section may stand before those of greater ranks
pub place_before : (ss : List Section) (i k : SectionId) (place : ℕ) (t : Section) (to : ℕ) → AreJoined 8 ss to → IsPlaceOf ss i place → IsFirstWith ss k t →
    rank_of i < rank_of k → place ≤ t.start
place_before ss i k place t to j p q lt =
    let b = ap rank_of q.has in
    let le : end_of 8 p.before ≤ t.start = place_from p.before p.behind q.before q.behind t (rank_of i) 8 to p.smaller
    (subst (λ (l : List Section). AreJoined 8 l to) p.parts j) (sym p.parts ∙ q.parts) (omega (arith, b)) in
    omega (arith, p.at, le)
