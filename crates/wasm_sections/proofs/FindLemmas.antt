-- Sections by their id, and the place of one that isn't there.
use Rattle.std.proofs.Common.{◌≡◌, ℕ, ◌+◌, ◌<◌, ◌≤◌, cond, List, [], ◌∷◌, ◌++◌, length, take, drop, get_or, refl, sym, ap, ap₂, subst, ◌∙◌, arith, inl, inr}
use Rattle.std.specs.Prelude.{max}
use Rattle.std.proofs.lemmas.Bool.{cases_lt, lt-ltb, le-ltb}
use Rattle.std.proofs.lemmas.List.{take-append-drop, take_more, drop_more}
use Rattle.wasm_sections.specs.declared.id.SectionId.{SectionId}
use Rattle.wasm_sections.specs.declared.id.SectionId.TheVariants as ids
use Rattle.wasm_sections.specs.declared.section.Section.{Section}
use Rattle.wasm_sections.specs.Id.{rank_of}
use Rattle.wasm_sections.specs.Section.{AreInOrder, SpellsModule}
use Rattle.wasm_sections.specs.Find.{LackId, IsFirstWith, end_of, AreBefore, AreBehind, EndsRanked, IsPlaceOf}
use Rattle.wasm_sections.specs.Reader.{comes_before_lem, place_from}
use Rattle.wasm_sections.specs.lemmas.SectionLemmas.{has_rank}

lack_more : (before : List Section) (s : Section) (id : SectionId) → LackId before id → (s.id ≡ id → ⊥) → LackId (before ++ s ∷ []) id
lack_more [] s id none other = (other, tt)
lack_more (x ∷ before) s id none other = (none.0, lack_more before s id none.1 other)

pub lack_next : (ss : List Section) (i : ℕ) (d : Section) (id : SectionId) → i < length ss → LackId (take i ss) id → ((get_or ss i d).id ≡ id → ⊥) →
    LackId (take (i + 1) ss) id
lack_next ss i d id lt none other = rw (take_more ss i d lt) (lack_more (take i ss) (get_or ss i d) id none other)

pub first_with : (ss : List Section) (i : ℕ) (d : Section) (id : SectionId) → i < length ss → LackId (take i ss) id → (get_or ss i d).id ≡ id →
    IsFirstWith ss id (get_or ss i d)
first_with ss i d id lt none has = record {
  before = take i ss;
  behind = drop (i + 1) ss;
  parts = sym (take-append-drop i ss) ∙ ap (λ (l : List Section). take i ss ++ l) (drop_more ss i d lt);
  has = has;
  none = none;
}

-- ---- places

abbrev rank_id : ℕ → SectionId
rank_id n = get_or
    (ids.Custom ∷ ids.Type ∷ ids.Import ∷ ids.Function ∷ ids.Table ∷ ids.Memory ∷ ids.Tag ∷ ids.Global ∷
    ids.Export ∷ ids.Start ∷ ids.Element ∷ ids.DataCount ∷ ids.Code ∷ ids.Data ∷ [])
    n ids.Custom

rank_is : (id : SectionId) → rank_id (rank_of id) ≡ id
rank_is ids.Custom = refl
rank_is ids.Type = refl
rank_is ids.Import = refl
rank_is ids.Function = refl
rank_is ids.Table = refl
rank_is ids.Memory = refl
rank_is ids.Tag = refl
rank_is ids.Global = refl
rank_is ids.Export = refl
rank_is ids.Start = refl
rank_is ids.Element = refl
rank_is ids.DataCount = refl
rank_is ids.Code = refl
rank_is ids.Data = refl

one_rank : (a b : SectionId) → rank_of a ≡ rank_of b → a ≡ b
one_rank a b e = sym (rank_is a) ∙ ap rank_id e ∙ rank_is b

record IsCut (id : SectionId) (ss : List Section) : Type 0 where
  pub before : List Section
  pub behind : List Section
  pub parts : ss ≡ before ++ behind
  pub smaller : AreBefore (rank_of id) before
  pub greater : AreBehind (rank_of id) behind
  pub last : EndsRanked before
  pub at : (place : ℕ) → place_from place id ss ≡ end_of place before

all_behind : (ss : List Section) (last rank : ℕ) → AreInOrder last ss → rank ≤ last → AreBehind rank ss
all_behind [] last rank o le = tt
all_behind (s ∷ ss) last rank o le = (λ some. let above = o.0 some in omega arith, all_behind ss (max last (rank_of s.id)) rank o.1 (omega arith))

-- a section that doesn't come before
skips : (s : Section) (id : SectionId) (place : ℕ) → (0 < rank_of s.id → rank_of id ≤ rank_of s.id) →
    cond (comes_before_lem s.id id) s.end place ≡ place
skips s id place high =
    elim (cases_lt 0 (rank_of s.id)) [
      | inl some ↦ let le = high some in rw (lt-ltb 0 (rank_of s.id) some, le-ltb (rank_of s.id) (rank_of id) le) refl
      | inr none ↦ rw (le-ltb 0 (rank_of s.id) none) refl
    ]

takes : (s : Section) (id : SectionId) (place : ℕ) → 0 < rank_of s.id → rank_of s.id < rank_of id → cond (comes_before_lem s.id id) s.end place ≡ s.end
takes s id place some lt = rw (lt-ltb 0 (rank_of s.id) some, lt-ltb (rank_of s.id) (rank_of id) lt) refl

stays : (ss : List Section) (id : SectionId) (place : ℕ) → AreBehind (rank_of id) ss → place_from place id ss ≡ place
stays [] id place b = refl
stays (s ∷ ss) id place b =
    ap (λ (p : ℕ). place_from p id ss) (skips s id place (λ some. let lt = b.0 some in omega arith)) ∙ stays ss id place b.1

-- a custom section stands behind, unless one that comes before follows it
custom_cut : (id : SectionId) (s : Section) (ss before behind : List Section) → rank_of s.id ≤ 0 → 0 < rank_of id → ss ≡ before ++ behind →
    AreBefore (rank_of id) before → AreBehind (rank_of id) behind → EndsRanked before
    → ((place : ℕ) → place_from place id ss ≡ end_of place before) → IsCut id (s ∷ ss)
custom_cut id s ss [] behind none some parts smaller greater last at = record {
  before = [];
  behind = s ∷ behind;
  parts = ap (λ (l : List Section). s ∷ l) parts;
  smaller = tt;
  greater = (λ ranked. absurd (omega arith), greater);
  last = tt;
  at = λ place. ap (λ (p : ℕ). place_from p id ss) (skips s id place (λ ranked. absurd (omega arith))) ∙ at place;
}
custom_cut id s ss (x ∷ before) behind none some parts smaller greater last at = record {
  before = s ∷ x ∷ before;
  behind = behind;
  parts = ap (λ (l : List Section). s ∷ l) parts;
  smaller = (omega arith, smaller);
  greater = greater;
  last = last;
  at = λ place. ap (λ (p : ℕ). place_from p id ss) (skips s id place (λ ranked. absurd (omega arith))) ∙ at place;
}

ends_ranked : (s : Section) (before : List Section) → 0 < rank_of s.id → EndsRanked before → EndsRanked (s ∷ before)
ends_ranked s [] some last = some
ends_ranked s (x ∷ before) some last = last

cut : (id : SectionId) (ss : List Section) (last : ℕ) → AreInOrder last ss → LackId ss id → last < rank_of id → IsCut id ss
cut id [] last o lack lt = record { before = []; behind = []; parts = refl; smaller = tt; greater = tt; last = tt; at = λ place. refl }
cut id (s ∷ ss) last o lack lt =
    elim (cases_lt 0 (rank_of s.id)) [
      | inl some ↦
          elim (cases_lt (rank_of s.id) (rank_of id)) [
            | inl small ↦
                let r = cut id ss (max last (rank_of s.id)) o.1 lack.1 (omega arith) in
                record {
                  before = s ∷ r.before;
                  behind = r.behind;
                  parts = ap (λ (l : List Section). s ∷ l) r.parts;
                  smaller = (small, r.smaller);
                  greater = r.greater;
                  last = ends_ranked s r.before some r.last;
                  at = λ place. ap (λ (p : ℕ). place_from p id ss) (takes s id place some small) ∙ r.at s.end;
                }
            | inr high ↦
                let other : rank_of id ≡ rank_of s.id → ⊥ = λ e. lack.0 (one_rank s.id id (sym e)) in
                let above : rank_of id < rank_of s.id = omega arith in
                let behind : AreBehind (rank_of id) (s ∷ ss) = (λ ranked. above, all_behind ss (max last (rank_of s.id)) (rank_of id) o.1 (omega arith)) in
                record { before = []; behind = s ∷ ss; parts = refl; smaller = tt; greater = behind; last = tt; at = λ place. stays (s ∷ ss) id place behind }
          ]
      | inr none ↦
          let r = cut id ss (max last (rank_of s.id)) o.1 lack.1 (omega arith) in
          custom_cut id s ss r.before r.behind none (omega arith) r.parts r.smaller r.greater r.last r.at
    ]

pub place_is : (bytes : List ℕ) (ss : List Section) (id : SectionId) (place : ℕ) → place ≡ place_from 8 id ss → SpellsModule bytes ss → LackId ss id →
    (id ≡ ids.Custom → ⊥) → IsPlaceOf ss id place
place_is bytes ss id place e m lack other =
    let c = cut id ss 0 m.ordered lack (has_rank id other) in
    record { before = c.before; behind = c.behind; parts = c.parts; at = e ∙ c.at 8; smaller = c.smaller; greater = c.greater; last = c.last }

-- ---- one place

-- sections that come before and aren't before those that come behind are custom ones
unranked : (id : SectionId) (s : Section) (before rest behind : List Section) → AreBehind (rank_of id) behind → behind ≡ s ∷ before ++ rest →
    AreBefore (rank_of id) (s ∷ before) → EndsRanked (s ∷ before) → ⊥
unranked id s [] rest behind greater parts smaller last =
    let b = subst (AreBehind (rank_of id)) parts greater in let above = b.0 last in omega (arith, above, smaller.0)
unranked id s (t ∷ before) rest behind greater parts smaller last =
    let b = subst (AreBehind (rank_of id)) parts greater in unranked id t before rest (t ∷ before ++ rest) b.1 refl smaller.1 last

ranked_rest : (s : Section) (ss : List Section) → EndsRanked (s ∷ ss) → EndsRanked ss
ranked_rest s [] last = tt
ranked_rest s (t ∷ ss) last = last

one_cut : (id : SectionId) (before behind first second : List Section) → before ++ behind ≡ first ++ second → AreBefore (rank_of id) before →
    AreBehind (rank_of id) behind → EndsRanked before → AreBefore (rank_of id) first → AreBehind (rank_of id) second → EndsRanked first → before ≡ first
one_cut id [] behind [] second e a b c p q r = refl
one_cut id [] behind (s ∷ first) second e a b c p q r = absurd (unranked id s first second behind b e p r)
one_cut id (s ∷ before) behind [] second e a b c p q r = absurd (unranked id s before behind second q (sym e) a c)
one_cut id (s ∷ before) behind (t ∷ first) second e a b c p q r =
    let same : s ≡ t = cc in
    let rest = one_cut id before behind first second (let tails : before ++ behind ≡ first ++ second = cc in tails) a.1 b (ranked_rest s before c) p.1 q
    (ranked_rest t first r) in
    ap₂ (λ (x : Section) (xs : List Section). x ∷ xs) same rest

pub one_place : (sections : List Section) (id : SectionId) (place other : ℕ) → IsPlaceOf sections id place → IsPlaceOf sections id other → place ≡ other
one_place sections id place other p q =
    let same = one_cut id p.before p.behind q.before q.behind (sym p.parts ∙ q.parts) p.smaller p.greater p.last q.smaller q.greater q.last in
    p.at ∙ ap (end_of 8) same ∙ sym q.at
